-- What a granted question tells, and where its count stands.
use mathlib.Core.Path.{◌≡◌, sym, ap, ◌∙◌}
use mathlib.Core.List.{List}
use Prim.Native.Nat.{ℕ, suc, ◌≤◌, ◌<◌}
use native.Mathlib.Omega.{arith}
use lib.Dec.{leb}
use lib.ListN.{length, get_or}
use borrow.Author.Tests.{leb-true}
use Rattle.refusals.specs.declared.Refusal.TheVariants.{ActiveCount}
use Rattle.refusals.specs.Numbers.{granted, ask}
use Rattle.refusals.proofs.Verdicts.{ask_granted, then_granted}
use Rattle.trees.specs.Shape.{height_of, tree_verdict}
use Rattle.trees.specs.Worst.{worst_of}
use Rattle.trees.proofs.ShapeLaws.{Grown, grown}
use Rattle.trees.proofs.WorstLaws.{length_worst}
use Rattle.counts.specs.Counting.{Holds}
use Rattle.counts.specs.Answer.{count_verdict}

module _ (m t k : ℕ) (e : count_verdict m t k ≡ granted) where
  pub granted_tree : Grown m t
  granted_tree = grown m t (then_granted (tree_verdict m t) (ask (leb k t) ActiveCount granted) e).0

  pub granted_k : k ≤ t
  granted_k = leb-true k t (ask_granted (leb k t) ActiveCount granted (then_granted (tree_verdict m t) (ask (leb k t) ActiveCount granted) e).1).0

  -- the count stands at place k
  pub count_inside : (out : List ℕ) → Holds m t out → k < length out
  count_inside out held =
      let g = granted_tree in
      omega (arith, ap length (held (suc g.under) g.leaves), length_worst m (suc g.under), g.leaves, granted_k)

  pub count_at : (out : List ℕ) → Holds m t out → get_or out k 0 ≡ worst_of m (height_of m t) k
  count_at out held =
      let g = granted_tree in
      ap (λ (l : List ℕ). get_or l k 0) (held (suc g.under) g.leaves) ∙ ap (λ (n : ℕ). worst_of m n k) (sym g.height)

-- the tills' tree has height 4
pub tills_height : (m t k : ℕ) → m ≡ 4 → t ≡ 256 → worst_of 4 4 k ≡ worst_of m (height_of m t) k
tills_height m t k e f = ap (λ (y : ℕ). worst_of 4 (height_of 4 y) k) (sym f) ∙ ap (λ (x : ℕ). worst_of x (height_of x t) k) (sym e)
