-- Leaf bytes: the leaves of a subtree, how many are active, and which.
use mathlib.Core.Path.{◌≡◌, refl, sym, ap, ◌∙◌}
use mathlib.Core.List.{List, [], ◌∷◌, ◌++◌}
use Prim.Native.Nat.{ℕ, zero, suc, ◌+◌, ◌≤◌}
use native.Mathlib.Nat.{le_refl, add-zero}
use native.Mathlib.Omega.{arith}
use lib.ListN.{length, take, drop, length-drop}
use lib.Seq.{length-take-le, take-add, drop-drop}
use Rattle.trees.specs.Search.{ones, active, active_in, Ascending}

-- ---- how many

pub ones_split : (w : ℕ) (s : List ℕ) → ones s ≡ ones (take w s) + ones (drop w s)
ones_split zero s = omega arith
ones_split (suc w) [] = refl
ones_split (suc w) (zero ∷ s) = ones_split w s
ones_split (suc w) (suc b ∷ s) = omega (arith, ones_split w s)

pub ones_append : (s u : List ℕ) → ones (s ++ u) ≡ ones s + ones u
ones_append [] u = omega arith
ones_append (zero ∷ s) u = ones_append s u
ones_append (suc b ∷ s) u = omega (arith, ones_append s u)

pub ones_le : (s : List ℕ) → ones s ≤ length s
ones_le [] = le_refl _
ones_le (zero ∷ s) = omega (arith, ones_le s)
ones_le (suc b ∷ s) = omega (arith, ones_le s)

-- ---- parts of the leaves, and which of them are active

-- the leaves of the subtree of w leaves from leaf a on
abbrev pub part : List ℕ → ℕ → ℕ → List ℕ
part leaves a w = take w (drop a leaves)

pub part_length : (leaves : List ℕ) (a w : ℕ) → a + w ≤ length leaves → length (part leaves a w) ≡ w
part_length leaves a w h = length-take-le w (drop a leaves) (omega (arith, length-drop a leaves))

pub part_split : (leaves : List ℕ) (a w x : ℕ) → part leaves a (w + x) ≡ part leaves a w ++ part leaves (a + w) x
part_split leaves a w x = take-add w x (drop a leaves) ∙ ap (λ (l : List ℕ). part leaves a w ++ take x l) (drop-drop w a leaves)

pub length_active : (a : ℕ) (s : List ℕ) → length (active a s) ≡ ones s
length_active a [] = refl
length_active a (zero ∷ s) = length_active (suc a) s
length_active a (suc b ∷ s) = ap suc (length_active (suc a) s)

pub active_append : (a : ℕ) (s u : List ℕ) → active a (s ++ u) ≡ active a s ++ active (a + length s) u
active_append a [] u = ap (λ (b : ℕ). active b u) (sym (add-zero a))
active_append a (zero ∷ s) u = active_append (suc a) s u ∙ ap (λ (b : ℕ). active (suc a) s ++ active b u) (omega arith)
active_append a (suc x ∷ s) u = ap {B = List ℕ} (λ l. a ∷ l) (active_append (suc a) s u ∙ ap (λ (b : ℕ). active (suc a) s ++ active b u) (omega arith))

pub active_split : (leaves : List ℕ) (a w x : ℕ) → a + w ≤ length leaves → active_in leaves a (w + x) ≡ active_in leaves a w ++ active_in leaves (a + w) x
active_split leaves a w x h =
    ap (active a) (part_split leaves a w x) ∙ active_append a (part leaves a w) (part leaves (a + w) x)
    ∙ ap (λ (n : ℕ). active_in leaves a w ++ active (a + n) (part leaves (a + w) x)) (part_length leaves a w h)

-- ---- in order

pub active_above : (a b : ℕ) (s : List ℕ) → b ≤ a → Ascending b (active a s)
active_above a b [] h = tt
active_above a b (zero ∷ s) h = active_above (suc a) b s (omega arith)
active_above a b (suc x ∷ s) h = (h, active_above (suc a) (suc a) s (le_refl (suc a)))
