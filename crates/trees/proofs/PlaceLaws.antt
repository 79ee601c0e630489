-- Placements that cost X: none and one active leaf, the children of a node one behind the other, and one for every k.
use mathlib.Core.Path.{◌≡◌, refl, sym, ap, ◌∙◌}
use mathlib.Core.Bool.{Bool, true, false, ◌&&◌}
use mathlib.Core.List.{List, [], ◌∷◌, ◌++◌}
use Prim.Native.Nat.{ℕ, zero, suc, ◌+◌, ◌*◌, ◌^◌, ◌-◌, ◌≤◌, ◌<◌}
use native.Mathlib.Nat.{zero-mul, suc-mul, pow-zero, pow-succ', le_of_suc-le-suc, one-le-pow}
use native.Mathlib.Omega.{arith}
use lib.Dec.{leb}
use lib.ListN.{length, take, drop, replicate, length-append, length-replicate}
use lib.Seq.{take_at, drop_at}
use Rattle.trees.specs.Search.{all_bits, ones}
use Rattle.trees.specs.Worst.{sum, AllBelow, Way, valued, worst, worst_of}
use Rattle.trees.proofs.Costs.{cost_for, parts_cost, part_cost}
use Rattle.trees.proofs.LeafLaws.{ones_append}
use Rattle.trees.proofs.WorstLaws.{worst_of_zero, worst_of_one, worst_of_attained}

-- k active leaves that cost X(k)
pub record Placed (m n k : ℕ) (s : List ℕ) : Type 0 where
  pub leaves : length s ≡ m ^ n
  pub bits : all_bits s ≡ true
  pub active : ones s ≡ k
  pub costs : part_cost m n s ≡ worst_of m n k

-- children placed one behind the other
pub record PlacedKids (m n : ℕ) (ks : List ℕ) (s : List ℕ) : Type 0 where
  pub leaves : length s ≡ length ks * m ^ n
  pub bits : all_bits s ≡ true
  pub active : ones s ≡ sum ks
  pub costs : parts_cost (part_cost m n) (m ^ n) (length ks) s ≡ valued (worst m n) ks

bits_append : (s u : List ℕ) → all_bits s ≡ true → all_bits u ≡ true → all_bits (s ++ u) ≡ true
bits_append [] u h g = g
bits_append (x ∷ s) u h g = go (λ e. bits_append s u e g) (leb x 1) h
  where
    go : (all_bits s ≡ true → all_bits (s ++ u) ≡ true) → (b : Bool) → (b && all_bits s) ≡ true → (b && all_bits (s ++ u)) ≡ true
    go ih true e = ih e
    go ih false e = e

-- ---- none and one

none_ones : (w : ℕ) → ones (replicate w 0) ≡ 0
none_ones zero = refl
none_ones (suc w) = none_ones w

none_bits : (w : ℕ) → all_bits (replicate w 0) ≡ true
none_bits zero = refl
none_bits (suc w) = none_bits w

cost_none : (m n : ℕ) (s : List ℕ) → ones s ≡ 0 → part_cost m n s ≡ 1
cost_none m zero s e = ap (λ (k : ℕ). cost_for k 0) e
cost_none m (suc n) s e = ap (λ (k : ℕ). cost_for k (parts_cost (part_cost m n) (m ^ n) m s)) e

cost_one : (m n : ℕ) (s : List ℕ) → ones s ≡ 1 → part_cost m n s ≡ 0
cost_one m zero s e = ap (λ (k : ℕ). cost_for k 0) e
cost_one m (suc n) s e = ap (λ (k : ℕ). cost_for k (parts_cost (part_cost m n) (m ^ n) m s)) e

pub place_none : (m n : ℕ) → 0 < m → Placed m n 0 (replicate (m ^ n) 0)
place_none m n h = record {
  leaves = length-replicate (m ^ n) 0;
  bits = none_bits (m ^ n);
  active = none_ones (m ^ n);
  costs = cost_none m n (replicate (m ^ n) 0) (none_ones (m ^ n)) ∙ sym (worst_of_zero m n h);
}

pub place_one : (m n w : ℕ) → 0 < m → suc w ≡ m ^ n → Placed m n 1 (1 ∷ replicate w 0)
place_one m n w h e = record {
  leaves = ap suc (length-replicate w 0) ∙ e;
  bits = none_bits w;
  active = ap suc (none_ones w);
  costs = cost_one m n (1 ∷ replicate w 0) (ap suc (none_ones w)) ∙ sym (worst_of_one m n h);
}

-- ---- a node

pub kids_none : (m n : ℕ) → PlacedKids m n [] []
kids_none m n = record { leaves = sym (zero-mul (m ^ n)); bits = refl; active = refl; costs = refl }

pub kids_cons : (m n k : ℕ) (ks s u : List ℕ) → Placed m n k s → PlacedKids m n ks u → PlacedKids m n (k ∷ ks) (s ++ u)
kids_cons m n k ks s u p q =
    let W : ℕ = m ^ n in
    let first : take W (s ++ u) ≡ s = take_at s u W p.leaves in
    let rest : drop W (s ++ u) ≡ u = drop_at s u W p.leaves in
    record {
      leaves = omega (arith, length-append s u, p.leaves, q.leaves, suc-mul (length ks) W);
      bits = bits_append s u p.bits q.bits;
      active = omega (arith, ones_append s u, p.active, q.active);
      costs =
          ap (λ (l : List ℕ). part_cost m n l + parts_cost (part_cost m n) W (length ks) (drop W (s ++ u))) first
          ∙ ap (λ (l : List ℕ). part_cost m n s + parts_cost (part_cost m n) W (length ks) l) rest
          ∙ omega (arith, p.costs, q.costs);
    }

cost_many : (k below : ℕ) → 2 ≤ k → cost_for k below ≡ suc below
cost_many zero below h = absurd (omega arith)
cost_many (suc zero) below h = absurd (omega arith)
cost_many (suc (suc k)) below h = refl

-- a node over its children, where they cost what X wants
pub place_node : (m n k : ℕ) (ks s : List ℕ) → 2 ≤ k → Way m (suc (m ^ n)) k ks → worst_of m (suc n) k ≡ suc (valued (worst m n) ks) → PlacedKids m n ks s → Placed m (suc n) k s
place_node m n k ks s h w e q = record {
  leaves = q.leaves ∙ ap (λ (x : ℕ). x * m ^ n) w.count ∙ sym (pow-succ' m n);
  bits = q.bits;
  active = q.active ∙ w.adds;
  costs =
      cost_many (ones s) (parts_cost (part_cost m n) (m ^ n) m s) (omega (arith, q.active, w.adds))
      ∙ ap suc (ap (λ (j : ℕ). parts_cost (part_cost m n) (m ^ n) j s) (sym w.count) ∙ q.costs)
      ∙ sym e;
}

-- ---- every k

place_kids : (m n : ℕ) → ((k : ℕ) → k ≤ m ^ n → (s : List ℕ) × Placed m n k s) → (ks : List ℕ) → AllBelow (suc (m ^ n)) ks → (s : List ℕ) × PlacedKids m n ks s
place_kids m n ih [] h = ([], kids_none m n)
place_kids m n ih (k ∷ ks) h =
    let p = ih k (le_of_suc-le-suc h.0) in
    let q = place_kids m n ih ks h.1 in
    (p.0 ++ q.0, kids_cons m n k ks p.0 q.0 p.1 q.1)

place_leaf : (m k : ℕ) → 0 < m → k ≤ m ^ 0 → (s : List ℕ) × Placed m 0 k s
place_leaf m zero h le = (replicate (m ^ 0) 0, place_none m 0 h)
place_leaf m (suc zero) h le = (1 ∷ replicate 0 0, place_one m 0 0 h (sym (pow-zero m)))
place_leaf m (suc (suc k)) h le = absurd (omega (arith, pow-zero m))

place_tree : (m n k : ℕ) → 0 < m → k ≤ m ^ suc n → ((i : ℕ) → i ≤ m ^ n → (s : List ℕ) × Placed m n i s) → (s : List ℕ) × Placed m (suc n) k s
place_tree m n zero h le ih = (replicate (m ^ suc n) 0, place_none m (suc n) h)
place_tree m n (suc zero) h le ih =
    (1 ∷ replicate (m ^ suc n - 1) 0, place_one m (suc n) (m ^ suc n - 1) h (omega (arith, one-le-pow (suc n) m h)))
place_tree m n (suc (suc k)) h le ih =
    let w = worst_of_attained m n (suc (suc k)) (omega arith) le in
    let q = place_kids m n ih w.0 w.1.small in
    (q.0, place_node m n (suc (suc k)) w.0 q.0 (omega arith) w.1 w.2 q.1)

-- X IS ATTAINED: there is a placement for every k
pub placement : (m n k : ℕ) → 2 ≤ m → k ≤ m ^ n → (s : List ℕ) × Placed m n k s
placement m zero k h le = place_leaf m k (omega arith) le
placement m (suc n) k h le = place_tree m n k (omega arith) le (λ i g. placement m n i h g)
