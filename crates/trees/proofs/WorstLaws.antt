-- `pairs` and `parts` are the largest sums over all ways; `worst` is equation 1.
use mathlib.Core.Path.{◌≡◌, refl, sym, ap, ◌∙◌}
use mathlib.Core.List.{List, [], ◌∷◌, map}
use mathlib.Core.Logic.{◌⊎◌, inl, inr, ⊎_elim}
use Prim.Native.Nat.{ℕ, zero, suc, ◌+◌, ◌*◌, ◌^◌, ◌≤◌, ◌<◌, max, zero-le}
use native.Mathlib.Nat.{suc_inj, suc-ne-zero, zero-mul, suc-mul, pow-zero, pow-succ', max-eq_left, max-eq_right, le_of_lt, le_refl, le_trans, le-max_left, le-max_right, not-suc-le-zero, le_of_suc-le-suc}
use native.Mathlib.Omega.{arith}
use lib.ListN.{length, get_or, length-map}
use Rattle.trees.specs.Worst.{sum, AllBelow, Way, valued, larger, pairs, parts, rooted, worst, worst_of}
use Rattle.trees.proofs.Powers.{le_or_lt}

-- lengths
length_larger : (xs ys : List ℕ) → length (larger xs ys) ≡ max (length xs) (length ys)
length_larger [] ys = omega arith
length_larger (x ∷ xs) [] = omega arith
length_larger (x ∷ xs) (y ∷ ys) = omega (arith, length_larger xs ys)

pub length_pairs : (a : ℕ) (xs : List ℕ) (b : ℕ) (bs : List ℕ) → length (pairs (a ∷ xs) (b ∷ bs)) ≡ suc (length xs + length bs)
length_pairs a [] b bs = omega (arith, length_larger (map (λ x. a + x) bs) [], length-map bs (λ x. a + x))
length_pairs a (a' ∷ xs) b bs = omega (arith, length_larger (map (λ x. a + x) bs) (pairs (a' ∷ xs) (b ∷ bs)), length-map bs (λ x. a + x), length_pairs a' xs b bs)

-- every entry of either list is at most that of `larger`
larger_left : (xs ys : List ℕ) (k : ℕ) → get_or xs k 0 ≤ get_or (larger xs ys) k 0
larger_left [] ys k = zero-le
larger_left (x ∷ xs) [] k = le_refl _
larger_left (x ∷ xs) (y ∷ ys) zero = le-max_left x y
larger_left (x ∷ xs) (y ∷ ys) (suc k) = larger_left xs ys k

larger_right : (xs ys : List ℕ) (k : ℕ) → get_or ys k 0 ≤ get_or (larger xs ys) k 0
larger_right [] ys k = le_refl _
larger_right (x ∷ xs) [] k = zero-le
larger_right (x ∷ xs) (y ∷ ys) zero = le-max_right x y
larger_right (x ∷ xs) (y ∷ ys) (suc k) = larger_right xs ys k

map_add_at : (a : ℕ) (bs : List ℕ) (j : ℕ) → j < length bs → get_or (map (λ x. a + x) bs) j 0 ≡ a + get_or bs j 0
map_add_at a [] j h = absurd (not-suc-le-zero h)
map_add_at a (b ∷ bs) zero h = refl
map_add_at a (b ∷ bs) (suc j) h = map_add_at a bs j (le_of_suc-le-suc h)

-- UPPER BOUND: each way of writing k as i + j is at most the entry
pub pairs_above : (xs ys : List ℕ) (i j : ℕ) → i < length xs → j < length ys → get_or xs i 0 + get_or ys j 0 ≤ get_or (pairs xs ys) (i + j) 0
pairs_above [] ys i j hi hj = absurd (not-suc-le-zero hi)
pairs_above (a ∷ xs) [] i j hi hj = absurd (not-suc-le-zero hj)
pairs_above (a ∷ xs) (b ∷ bs) zero zero hi hj = le_refl _
pairs_above (a ∷ xs) (b ∷ bs) zero (suc j) hi hj =
    let e : 0 + suc j ≡ suc j = omega arith in
    rw e (omega (arith, larger_left (map (λ x. a + x) bs) (pairs xs (b ∷ bs)) j, map_add_at a bs j (le_of_suc-le-suc hj)))
pairs_above (a ∷ xs) (b ∷ bs) (suc i) j hi hj =
    let e : suc i + j ≡ suc (i + j) = omega arith in
    rw e (le_trans (pairs_above xs (b ∷ bs) i j (le_of_suc-le-suc hi) hj) (larger_right (map (λ x. a + x) bs) (pairs xs (b ∷ bs)) (i + j)))

-- ATTAINED
larger_attained : (xs ys : List ℕ) (k : ℕ) → k < length (larger xs ys) → ((k < length xs) × (get_or (larger xs ys) k 0 ≡ get_or xs k 0)) ⊎ ((k < length ys) × (get_or (larger xs ys) k 0 ≡ get_or ys k 0))
larger_attained [] ys k h = inr (h, refl)
larger_attained (x ∷ xs) [] k h = inl (h, refl)
larger_attained (x ∷ xs) (y ∷ ys) zero h = ⊎_elim (λ e. inl (omega arith, max-eq_left e)) (λ e. inr (omega arith, max-eq_right (le_of_lt e))) (le_or_lt y x)
larger_attained (x ∷ xs) (y ∷ ys) (suc k) h =
    ⊎_elim (λ e. inl (omega arith, e.1)) (λ e. inr (omega arith, e.1)) (larger_attained xs ys k (le_of_suc-le-suc h))

abbrev Split : List ℕ → List ℕ → ℕ → Type 0
Split xs ys k = (i : ℕ) × (j : ℕ) × (i < length xs) × (j < length ys) × (i + j ≡ k) × (get_or (pairs xs ys) k 0 ≡ get_or xs i 0 + get_or ys j 0)

pub pairs_attained : (xs ys : List ℕ) (k : ℕ) → k < length (pairs xs ys) → Split xs ys k
pairs_attained [] ys k h = absurd (not-suc-le-zero h)
pairs_attained (a ∷ xs) [] k h = absurd (not-suc-le-zero h)
pairs_attained (a ∷ xs) (b ∷ bs) zero h = (0, 0, omega arith, omega arith, refl, refl)
pairs_attained (a ∷ xs) (b ∷ bs) (suc k) h =
    ⊎_elim
    (λ e. let h' : k < length bs = omega (arith, length-map bs (λ x. a + x)) in (0, suc k, omega arith, omega arith, omega arith, e.1 ∙ map_add_at a bs k h'))
    (λ e. let r = pairs_attained xs (b ∷ bs) k e.0 in (suc r.0, r.1, omega arith, r.3, omega (arith, r.4), e.1 ∙ r.5))
    (larger_attained (map (λ x. a + x) bs) (pairs xs (b ∷ bs)) k (le_of_suc-le-suc h))

-- the j-fold combination
pub length_parts : (x : ℕ) (xs : List ℕ) (j : ℕ) → length (parts (x ∷ xs) j) ≡ suc (j * length xs)
length_parts x xs zero = rw zero-mul
length_parts x xs (suc j) = go (parts (x ∷ xs) j) (length_parts x xs j)
  where
    go : (l : List ℕ) → length l ≡ suc (j * length xs) → length (pairs (x ∷ xs) l) ≡ suc (suc j * length xs)
    go [] e = absurd (suc-ne-zero _ (sym e))
    go (b ∷ bs) e = omega (arith, length_pairs x xs b bs, suc-mul j (length xs))

pub parts_above : (xs : List ℕ) (j : ℕ) (ks : List ℕ) → length ks ≡ j → AllBelow (length xs) ks
    → (sum ks < length (parts xs j)) × (valued xs ks ≤ get_or (parts xs j) (sum ks) 0)
parts_above xs zero [] c s = (omega arith, omega arith)
parts_above xs zero (k ∷ ks) c s = absurd (suc-ne-zero _ c)
parts_above xs (suc j) [] c s = absurd (suc-ne-zero _ (sym c))
parts_above [] (suc j) (k ∷ ks) c s = absurd (not-suc-le-zero s.0)
parts_above (x ∷ xs) (suc j) (k ∷ ks) c s =
    let r = parts_above (x ∷ xs) j ks (suc_inj c) s.1 in (
      omega (arith, length_parts x xs j, length_parts x xs (suc j), suc-mul j (length xs), s.0, r.0),
      omega (arith, pairs_above (x ∷ xs) (parts (x ∷ xs) j) k (sum ks) s.0 r.0, r.1),
    )

pub parts_attained : (xs : List ℕ) (j k : ℕ) → k < length (parts xs j) → (ks : List ℕ) × Way j (length xs) k ks × (get_or (parts xs j) k 0 ≡ valued xs ks)
parts_attained xs zero zero h = ([], record { count = refl; small = tt; adds = refl }, refl)
parts_attained xs zero (suc k) h = absurd (not-suc-le-zero (le_of_suc-le-suc h))
parts_attained xs (suc j) k h =
    let s = pairs_attained xs (parts xs j) k h in
    let r = parts_attained xs j s.1 s.3 in
    (s.0 ∷ r.0, record { count = ap suc r.1.count; small = (s.2, r.1.small); adds = ap (λ (n : ℕ). s.0 + n) r.1.adds ∙ s.4 }, s.5 ∙ ap (λ (n : ℕ). get_or xs s.0 0 + n) r.2)

-- equation 1
pub length_rooted : (xs : List ℕ) → length (rooted xs) ≡ length xs
length_rooted [] = refl
length_rooted (x ∷ []) = refl
length_rooted (x ∷ y ∷ rest) = omega (arith, length-map rest suc)

map_suc_at : (bs : List ℕ) (j : ℕ) → j < length bs → get_or (map suc bs) j 0 ≡ suc (get_or bs j 0)
map_suc_at [] j h = absurd (not-suc-le-zero h)
map_suc_at (b ∷ bs) zero h = refl
map_suc_at (b ∷ bs) (suc j) h = map_suc_at bs j (le_of_suc-le-suc h)

pub rooted_at : (xs : List ℕ) (k : ℕ) → 2 ≤ k → k < length xs → get_or (rooted xs) k 0 ≡ suc (get_or xs k 0)
rooted_at [] k h2 h = absurd (not-suc-le-zero h)
rooted_at (x ∷ []) k h2 h = absurd (omega arith)
rooted_at (x ∷ y ∷ rest) zero h2 h = absurd (omega arith)
rooted_at (x ∷ y ∷ rest) (suc zero) h2 h = absurd (omega arith)
rooted_at (x ∷ y ∷ rest) (suc (suc k)) h2 h = map_suc_at rest k (le_of_suc-le-suc (le_of_suc-le-suc h))

pub length_worst : (m n : ℕ) → length (worst m n) ≡ suc (m ^ n)
length_worst m zero = rw pow-zero
length_worst m (suc n) = length_rooted (parts (worst m n) m) ∙ go (worst m n) (length_worst m n) ∙ ap suc (sym (pow-succ' m n))
  where
    go : (l : List ℕ) → length l ≡ suc (m ^ n) → length (parts l m) ≡ suc (m * m ^ n)
    go [] e = absurd (suc-ne-zero _ (sym e))
    go (x ∷ xs) e = length_parts x xs m ∙ ap (λ (w : ℕ). suc (m * w)) (suc_inj e)

pub length_parts_worst : (m n : ℕ) → length (parts (worst m n) m) ≡ suc (m ^ suc n)
length_parts_worst m n = sym (length_rooted (parts (worst m n) m)) ∙ length_worst m (suc n)

pub worst_of_zero : (m n : ℕ) → 0 < m → worst_of m n 0 ≡ 1
worst_of_zero m zero h = refl
worst_of_zero m (suc n) h = go (parts (worst m n) m) (length_parts_worst m n)
  where
    go : (l : List ℕ) → length l ≡ suc (m ^ suc n) → get_or (rooted l) 0 0 ≡ 1
    go [] e = absurd (suc-ne-zero _ (sym e))
    go (x ∷ []) e = refl
    go (x ∷ y ∷ r) e = refl

pub worst_of_one : (m n : ℕ) → 0 < m → worst_of m n 1 ≡ 0
worst_of_one m zero h = refl
worst_of_one m (suc n) h = go (parts (worst m n) m)
  where
    go : (l : List ℕ) → get_or (rooted l) 1 0 ≡ 0
    go [] = refl
    go (x ∷ []) = refl
    go (x ∷ y ∷ r) = refl

-- each way of writing k as m parts from 0 to t / m costs at most X(k), with the one slot of the root
pub worst_of_above : (m n k : ℕ) (ks : List ℕ) → 2 ≤ k → Way m (suc (m ^ n)) k ks → suc (valued (worst m n) ks) ≤ worst_of m (suc n) k
worst_of_above m n k ks h w =
    let small : AllBelow (length (worst m n)) ks = rw length_worst w.small in
    let r = parts_above (worst m n) m ks w.count small in
    let r0 : k < length (parts (worst m n) m) = rw w.adds at r.0 in
    let r1 : valued (worst m n) ks ≤ get_or (parts (worst m n) m) k 0 = rw w.adds at r.1 in
    omega (arith, rooted_at (parts (worst m n) m) k h r0, r1)

-- and one of them costs just that
pub worst_of_attained : (m n k : ℕ) → 2 ≤ k → k ≤ m ^ suc n → (ks : List ℕ) × Way m (suc (m ^ n)) k ks × (worst_of m (suc n) k ≡ suc (valued (worst m n) ks))
worst_of_attained m n k h2 h =
    let h' : k < length (parts (worst m n) m) = omega (arith, length_parts_worst m n) in
    let r = parts_attained (worst m n) m k h' in
    (r.0, record { count = r.1.count; small = rw length_worst at r.1.small; adds = r.1.adds }, rooted_at (parts (worst m n) m) k h2 h' ∙ ap suc r.2)
