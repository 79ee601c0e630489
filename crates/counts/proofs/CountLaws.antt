-- The largest sums of two entries, what fits 16 bits, and the recursion on trees m times smaller.
use mathlib.Core.Path.{◌≡◌, sym, ap, ◌∙◌}
use mathlib.Core.List.{List, [], ◌∷◌, ◌++◌, map}
use mathlib.Core.Logic.{⊎_elim}
use Prim.Native.Nat.{ℕ, zero, suc, ◌+◌, ◌*◌, ◌^◌, ◌/◌, ◌≤◌, ◌<◌, ◌-◌, zero-le}
use native.Mathlib.Nat.{le_refl, le_antisymm, not-suc-le-zero, suc-mul, mul-le-mul_right, pow-zero, one-le-pow}
use native.Mathlib.Omega.{arith}
use native.Mathlib.Numerals.{add-one}
use lib.ListN.{length, get_or, take, drop, set, get_or-eq_default}
use Rattle.std.specs.List.{fold, range_with_len}
use Rattle.std.specs.Prelude.{max, min}
use Rattle.std.proofs.lemmas.Grind.{common_steps}
use Rattle.std.proofs.lemmas.List.Edits.{map_over_more}
use Rattle.std.proofs.lemmas.List.{get_or_default, take_all, take_more, take_more_set}
use Rattle.trees.specs.Shape.{Tree, nodes}
use Rattle.trees.specs.Worst.{pairs, parts, rooted, worst, valued}
use Rattle.trees.proofs.Powers.{le_or_lt, pow_inj, Below, below, under, power, some_leaf, smaller, shrinks}
use Rattle.trees.proofs.ShapeLaws.{nodes_few}
use Rattle.trees.proofs.WorstLaws.{length_pairs, pairs_above, pairs_attained, length_parts, parts_attained, length_worst, length_parts_worst}
use Rattle.counts.specs.Counting.{Together, Fits, PartsReady, Holds}

-- ---- one entry

pub pairs_length : (xs ys : List ℕ) → 0 < length xs → 0 < length ys → suc (length (pairs xs ys)) ≡ length xs + length ys
pairs_length [] ys h g = absurd (not-suc-le-zero h)
pairs_length (x ∷ xs) [] h g = absurd (not-suc-le-zero g)
pairs_length (x ∷ xs) (y ∷ ys) h g = omega (arith, length_pairs x xs y ys)

module _ (one rest : List ℕ) (k : ℕ) where
  -- each sum is at most the entry
  pub under_best : (i : ℕ) → i < length one → i ≤ k → k - i < length rest → get_or one i 0 + get_or rest (k - i) 0 ≤ get_or (pairs one rest) k 0
  under_best i h le g =
      let q : i + (k - i) ≡ k = omega arith in
      rw q at (pairs_above one rest i (k - i) h g)

  -- what is at least each sum, and at most the entry, is the entry
  pub is_best : (r : ℕ) → Together one rest → k + 1 < length one + length rest
      → ((i : ℕ) → i < length one → i ≤ k → k - i < length rest → get_or one i 0 + get_or rest (k - i) 0 ≤ r)
      → r ≤ get_or (pairs one rest) k 0 → r ≡ get_or (pairs one rest) k 0
  is_best r both h all le =
      let w = pairs_attained one rest k (omega (arith, pairs_length one rest both.some both.others)) in
      let q : k - w.0 ≡ w.1 = omega (arith, w.4) in
      le_antisymm le (omega (arith, w.5, rw q at (all w.0 w.2 (omega (arith, w.4)) (omega (arith, w.4, w.3)))))

-- ---- the largest of n values, from place a on

module _ (h : ℕ → ℕ) where
  -- at least where it begins, and each value
  over_all : (b a n : ℕ) → (b ≤ fold (λ r i. max r (h i)) b (range_with_len a n))
      × ((i : ℕ) → a ≤ i → i < a + n → h i ≤ fold (λ r x. max r (h x)) b (range_with_len a n))
  over_all b a zero = (le_refl b, λ i le g. omega (arith, le, g))
  over_all b a (suc n) =
      let t = over_all (max b (h a)) (a + 1) n in (
        omega (arith, t.0),
        λ i le g. ⊎_elim (λ p. let q : i ≡ a = omega arith in omega (arith, ap h q, t.0)) (λ p. t.1 i (omega arith) (omega arith)) (le_or_lt i a),
      )

  -- no more than all of them
  under_all : (top b a n : ℕ) → b ≤ top → ((i : ℕ) → a ≤ i → i < a + n → h i ≤ top) → fold (λ r i. max r (h i)) b (range_with_len a n) ≤ top
  under_all top b a zero le all = le
  under_all top b a (suc n) le all = under_all top (max b (h a)) (a + 1) n (omega (arith, le, all a (le_refl a) (omega arith))) (λ i g l. all i (omega arith) (omega arith))

pub largest_sum : (one rest : List ℕ) (k from to : ℕ) → Together one rest → k + 1 < length one + length rest
    → from ≡ (k + 1) - length rest → to ≡ min (length one) (k + 1)
    → fold (λ r i. max r (get_or one i 0 + get_or rest (k - i) 0)) 0 (range_with_len from (to - from)) ≡ get_or (pairs one rest) k 0
largest_sum one rest k from to both room f t =
    let h : ℕ → ℕ = λ i. get_or one i 0 + get_or rest (k - i) 0 in
    is_best one rest k _ both room
    (λ i a b c. (over_all h 0 from (to - from)).1 i (omega arith) (omega arith))
    (under_all h _ 0 from (to - from) zero-le (λ i g l. under_best one rest k i (omega arith) (omega arith) (omega (arith, both.others))))

-- ---- places that are filled from the front

pub fill_step : (out target : List ℕ) (i v : ℕ) → i < length out → i < length target → take i out ≡ take i target → v ≡ get_or target i 0
    → take (i + 1) (set out i v) ≡ take (i + 1) target
fill_step out target i v h g e f = take_more_set out i v h ∙ ap (λ (l : List ℕ). l ++ (v ∷ [])) e ∙ ap (λ (x : ℕ). take i target ++ (x ∷ [])) f ∙ sym (take_more target i 0 g)

-- filled to the end, they are the target
pub filled : (out target : List ℕ) (i n : ℕ) → length target ≡ n → i ≡ n → take i out ≡ take i target → take n out ≡ target
filled out target i n len e f = rw e at f ∙ take_all n target (omega arith)

-- ---- the root's slot, added from the front

pub raised : (xs ys : List ℕ) (i : ℕ) → i < length xs → ys ≡ map suc (take i xs) ++ drop i xs
    → set ys i (get_or ys i 0 + 1) ≡ map suc (take (i + 1) xs) ++ drop (i + 1) xs
raised xs ys i h e =
    let x : ℕ = get_or ys i 0 in
    let inside : i < length ys = grind (arith, common_steps) in
    ap (λ (y : ℕ). set ys i y) (add-one x) ∙ map_over_more suc xs ys i x h e (get_or_default ys i 0 x inside)

-- ---- the parts, one after the other

pub one_more : (small : List ℕ) (i j : ℕ) → PartsReady small j → i < j → Together small (parts small i) × Fits (pairs small (parts small i))
one_more [] i j r h = absurd (omega (arith, r.some))
one_more (x ∷ xs) i j r h = (
  record {
    some = r.some;
    others = omega (arith, length_parts x xs i);
    room = omega (arith, length_parts x xs i, suc-mul i (length xs), mul-le-mul_right (length xs) h, length_parts x xs j, r.room);
  },
  r.fits (suc i) h,
)

-- ---- bounds: a worst count is at most the number of nodes, which fits

valued_bound : (xs : List ℕ) (N : ℕ) → ((i : ℕ) → get_or xs i 0 ≤ N) → (ks : List ℕ) → valued xs ks ≤ length ks * N
valued_bound xs N h [] = zero-le
valued_bound xs N h (k ∷ ks) = omega (arith, h k, valued_bound xs N h ks, suc-mul (length ks) N)

parts_bound : (xs : List ℕ) (N : ℕ) → ((i : ℕ) → get_or xs i 0 ≤ N) → (j k : ℕ) → get_or (parts xs j) k 0 ≤ j * N
parts_bound xs N h j k =
    ⊎_elim (λ p. omega (arith, get_or-eq_default (parts xs j) 0 {n = k} p))
    (λ p.
    let w = parts_attained xs j k p in
    let c : length w.0 * N ≡ j * N = ap (λ (x : ℕ). x * N) w.1.count in
    omega (arith, w.2, valued_bound xs N h w.0))
    (le_or_lt (length (parts xs j)) k)

map_suc_bound : (l : List ℕ) (N : ℕ) → ((i : ℕ) → get_or l i 0 ≤ N) → (i : ℕ) → get_or (map suc l) i 0 ≤ suc N
map_suc_bound [] N h i = zero-le
map_suc_bound (x ∷ l) N h zero = omega (arith, h 0)
map_suc_bound (x ∷ l) N h (suc i) = map_suc_bound l N (λ k. h (suc k)) i

rooted_bound : (l : List ℕ) (N : ℕ) → ((i : ℕ) → get_or l i 0 ≤ N) → (i : ℕ) → get_or (rooted l) i 0 ≤ suc N
rooted_bound [] N h i = zero-le
rooted_bound (x ∷ []) N h zero = omega arith
rooted_bound (x ∷ []) N h (suc i) = zero-le
rooted_bound (x ∷ y ∷ l) N h zero = omega arith
rooted_bound (x ∷ y ∷ l) N h (suc zero) = zero-le
rooted_bound (x ∷ y ∷ l) N h (suc (suc i)) = map_suc_bound l N (λ k. h (suc (suc k))) i

pub worst_bound : (m n k : ℕ) → get_or (worst m n) k 0 ≤ nodes m n
worst_bound m zero zero = le_refl 1
worst_bound m zero (suc zero) = zero-le
worst_bound m zero (suc (suc k)) = zero-le
worst_bound m (suc n) k = rooted_bound (parts (worst m n) m) (m * nodes m n) (λ i. parts_bound (worst m n) (nodes m n) (worst_bound m n) m i) k

-- what j of m smaller trees cost fits
parts_fit : (m n j : ℕ) → 2 ≤ m → j ≤ m → m ^ suc n ≤ 1024 → Fits (parts (worst m n) j)
parts_fit m n j h g few k =
    omega (arith, parts_bound (worst m n) (nodes m n) (worst_bound m n) j k, mul-le-mul_right (nodes m n) g, nodes_few m (suc n) h)

worst_fits : (m n : ℕ) → 2 ≤ m → m ^ n ≤ 1024 → Fits (worst m n)
worst_fits m n h few k = omega (arith, worst_bound m n k, nodes_few m n h)

-- ---- the recursion

pub one_leaf : (m t : ℕ) → 2 ≤ m → t ≡ 1 → Holds m t (1 ∷ 0 ∷ [])
one_leaf m t h e n f = ap (λ (x : ℕ). worst m x) (pow_inj m h 0 n (pow-zero m ∙ sym e ∙ f))

-- the parts of a tree of height n + 1, and the root over them, have room and fit
ready : (m n : ℕ) → 2 ≤ m → m ^ suc n ≤ 1024 → PartsReady (worst m n) m × (2 ≤ length (parts (worst m n) m)) × Fits (rooted (parts (worst m n) m))
ready m n h few =
    let all = length_parts_worst m n in (
      record {
        some = omega (arith, length_worst m n);
        room = omega (arith, all);
        fits = λ i le. parts_fit m n i h le few;
      },
      omega (arith, all, one-le-pow (suc n) m (omega arith)),
      worst_fits m (suc n) h few,
    )

module _ (m t : ℕ) (tree : Tree m t) (more : 2 ≤ t) (small : List ℕ) (held : Holds m (t / m) small) where
  pub level_ready : PartsReady small m × (2 ≤ length (parts small m)) × Fits (rooted (parts small m))
  level_ready =
      let B = under m t tree more in
      let few : m ^ suc B.under ≤ 1024 = omega (arith, power m t tree more B.under B.width, tree.few) in
      rw (held B.under B.width) (ready m B.under tree.branches few)

  pub holds_next : (out : List ℕ) → out ≡ rooted (parts small m) → Holds m t out
  holds_next out e n f =
      let B : Below m n t = below m n t tree.branches more f in
      e ∙ ap (λ (l : List ℕ). rooted (parts l m)) (held B.under B.width) ∙ ap (λ (x : ℕ). worst m x) (sym B.height)

-- for the recursion
pub ruleset smaller_tree = (smaller, shrinks, some_leaf, one_leaf)
