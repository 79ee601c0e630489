-- The answer to a question for a class (docs/RULES.md, sections 2 and 9).
--
--   class_verdict deadline α ref c  refusals 7, 9 and 12, in this order
--   figures answer                  refusal number (0 for none) and the class (0 where refused)
--   class_figures deadline α ref c  the figures that the call must answer
use Rattle.std.specs.Prelude.{ℕ, leb, ℤ, pos, Result, Ok, Err}
use Rattle.refusals.specs.declared.Refusal.{Refusal}
use Rattle.refusals.specs.declared.Refusal.TheVariants.{ClassNumbers, Messages, ReferenceTime}
use Rattle.refusals.specs.Numbers.{Verdict, granted, number_of, ask}
use Rattle.classes.specs.Class.{class_of, class_fits}

-- the tests in their order
abbrev pub class_verdict : ℕ → ℕ → ℕ → ℕ → Verdict
class_verdict deadline offset reference width =
    ask (class_fits width offset) ClassNumbers
    (ask (leb deadline 2000000000) Messages
    (ask (leb reference 5000000000000) ReferenceTime
    granted))

-- what a script reads off the answer
abbrev pub figures : Result ℤ Refusal → ℕ × ℤ
figures (Ok class) = (0, class)
figures (Err r) = (number_of r, pos 0)

-- by the verdict
abbrev pub figures_by : Verdict → ℤ → ℕ × ℤ
figures_by (Ok _) class = (0, class)
figures_by (Err r) class = (number_of r, pos 0)

-- what the call answers
abbrev pub class_figures : ℕ → ℕ → ℕ → ℕ → ℕ × ℤ
class_figures deadline offset reference width = figures_by (class_verdict deadline offset reference width) (class_of deadline offset reference width)
