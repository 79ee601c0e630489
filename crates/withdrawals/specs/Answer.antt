-- The answer to a withdrawal, and the list that it leaves (docs/RULES.md, sections 2 and 11).
--
--   withdrawal_verdict station count   refusal 6 for the station, then 9 for more than 512 records; nothing else of 9 is asked
--   figures answer                 a refusal's number, 0 for none; how many are kept, how many withdrawn, 0 where refused
--   figures_by v station ms        the figures that a verdict and a list come to
--   list_by v station ms           the list afterwards; a refusal leaves it as it came
--   figures_of station ms, list_of station ms   the same by the verdict on the list
use Rattle.std.specs.Prelude.{List, ℕ, leb, length, Result, Ok, Err}
use Rattle.refusals.specs.declared.Refusal.{Refusal}
use Rattle.refusals.specs.declared.Refusal.TheVariants.{Stations, Messages}
use Rattle.refusals.specs.Numbers.{Verdict, granted, number_of, ask}
use Rattle.messages.specs.declared.Message.{Message}
use Rattle.withdrawals.specs.declared.Withdrawn.{Withdrawn}
use Rattle.withdrawals.specs.Withdrawal.{kept_of, withdrawn_count, after_withdrawal}

-- stations are numbered from 0 to 31
abbrev pub withdrawal_verdict : ℕ → ℕ → Verdict
withdrawal_verdict station count = ask (leb station 31) Stations (ask (leb count 512) Messages granted)

-- what an answer says
abbrev pub figures : Result Withdrawn Refusal → ℕ × ℕ × ℕ
figures (Ok w) = (0, w.kept, w.withdrawn)
figures (Err r) = (number_of r, 0, 0)

-- the counts are those of the list as it came
abbrev pub figures_by : Verdict → ℕ → List Message → ℕ × ℕ × ℕ
figures_by (Ok _) station ms = (0, length (kept_of station ms), withdrawn_count station ms)
figures_by (Err r) station ms = (number_of r, 0, 0)

-- the whole list
abbrev pub list_by : Verdict → ℕ → List Message → List Message
list_by (Ok _) station ms = after_withdrawal station ms
list_by (Err r) station ms = ms

-- what a withdrawal answers
abbrev pub figures_of : ℕ → List Message → ℕ × ℕ × ℕ
figures_of station ms = figures_by (withdrawal_verdict station (length ms)) station ms

-- what it leaves
abbrev pub list_of : ℕ → List Message → List Message
list_of station ms = list_by (withdrawal_verdict station (length ms)) station ms
