-- The answer to a question for a worst count (docs/RULES.md, sections 2 and 6).
--
--   count_verdict m t k  refusals 1 and 2, then 5
--   figures answer      a refusal's number, 0 for none, and the count, 0 where refused
--   counted v x         the figures that a verdict and a count come to
--   count_of m t k       the figures that the question is answered with
use Rattle.std.specs.Prelude.{ℕ, leb, Result, Ok, Err}
use Rattle.refusals.specs.declared.Refusal.{Refusal}
use Rattle.refusals.specs.declared.Refusal.TheVariants.{ActiveCount}
use Rattle.refusals.specs.Numbers.{Verdict, granted, number_of, ask, and_then}
use Rattle.trees.specs.Shape.{height_of, tree_verdict}
use Rattle.trees.specs.Worst.{worst_of}

-- the tree first, then k
abbrev pub count_verdict : ℕ → ℕ → ℕ → Verdict
count_verdict m t k = and_then (tree_verdict m t) (ask (leb k t) ActiveCount granted)

-- what an answer says
abbrev pub figures : Result ℕ Refusal → ℕ × ℕ
figures (Ok x) = (0, x)
figures (Err r) = (number_of r, 0)

-- a refusal leaves every other figure 0
abbrev pub counted : Verdict → ℕ → ℕ × ℕ
counted (Ok _) x = (0, x)
counted (Err r) x = (number_of r, 0)

-- the worst count of the tree of t leaves
abbrev pub count_of : ℕ → ℕ → ℕ → ℕ × ℕ
count_of m t k = counted (count_verdict m t k) (worst_of m (height_of m t) k)
