-- What `place` promises for every input (docs/RULES.md, sections 2 and 6), and what that fixes for one input: the answer, the list
-- on a refusal, and else the list's length, that its bytes are 0 or 1, the number of ones and the cost. Which leaves are
-- active is left to the builder.
use Rattle.std.specs.Prelude.{true, List, ◌≡◌, refl, ℕ, ◌^◌, length, Result, Ok, Err}
use Rattle.std.proofs.Common.{sym, ap, ◌∙◌, arith}
use Rattle.refusals.specs.declared.Refusal.{Refusal}
use Rattle.refusals.specs.Numbers.{granted, verdict_number}
use Rattle.refusals.proofs.Verdicts.{then_granted, number_tells, number_some}
use Rattle.trees.specs.Shape.{height_of, tree_verdict}
use Rattle.trees.proofs.ShapeLaws.{Grown, grown}
use Rattle.trees.specs.Search.{all_bits, ones, search_rows, cost}
use Rattle.placements.specs.Answer.{placement_verdict, figures, Costly}

-- a refusal leaves the lent list as it was; else the list holds a placement that costs X(k, t)
pub record PlacementPromise (m t k : ℕ) (before : List ℕ) (answer : Result (Unit {0}) Refusal) (after : List ℕ) : Type 0 where
  pub numbered : figures answer ≡ verdict_number (placement_verdict m t k (length before))
  pub kept : (placement_verdict m t k (length before) ≡ granted → ⊥) → after ≡ before
  pub placed : placement_verdict m t k (length before) ≡ granted → Costly m (height_of m t) k after

figures_tell : (a b : Result (Unit {0}) Refusal) → figures a ≡ figures b → a ≡ b
figures_tell (Ok _) (Ok _) e = refl
figures_tell (Ok _) (Err s) e = absurd (omega (arith, number_some s))
figures_tell (Err r) (Ok _) e = absurd (omega (arith, number_some r))
figures_tell (Err r) (Err s) e = ap Err (number_tells r s e)

module _ (m t k : ℕ) (before : List ℕ) (a b : Result (Unit {0}) Refusal) (xs ys : List ℕ) (p : PlacementPromise m t k before a xs) (q : PlacementPromise m t k before b ys) where
  pub same_answer : a ≡ b
  same_answer = figures_tell a b (p.numbered ∙ sym q.numbered)

  pub same_refused : (placement_verdict m t k (length before) ≡ granted → ⊥) → xs ≡ ys
  same_refused h = p.kept h ∙ sym (q.kept h)

  pub same_worth : placement_verdict m t k (length before) ≡ granted
      → (length xs ≡ t) × (length ys ≡ t) × (all_bits xs ≡ true) × (all_bits ys ≡ true) × (ones xs ≡ k) × (ones ys ≡ k) × (cost (search_rows m (height_of m t) xs) ≡ cost (search_rows m (height_of m t) ys))
  same_worth g =
      let x = p.placed g in
      let y = q.placed g in
      let tree : Grown m t = grown m t (then_granted (tree_verdict m t) _ g).0 in
      let all : m ^ height_of m t ≡ t = rw tree.height (sym tree.leaves) in
      (x.count ∙ all, y.count ∙ all, x.bits, y.bits, x.active, y.active, x.costs ∙ sym y.costs)
