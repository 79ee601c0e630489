-- The structs of numbers that cross to C, as the figures that the answers of the calls are read as.
--
--   refusal_told answer    the number of an answer's refusal, 0 for none
--   search_numbers r       refusal number, rows, silences, collisions
--   count_numbers r        refusal number, count
--   class_numbers r        refusal number, class
--   withdrawal_numbers r   refusal number, kept, withdrawn
--   run_reading r          the reading of a run
use Rattle.std.specs.Prelude.{ℕ, ℤ, Result, Ok, Err}
use Rattle.refusals.specs.declared.Refusal.{Refusal}
use Rattle.refusals.specs.Numbers.{number_of}
use Rattle.wire.specs.Answer.{Reading}
use Rattle.figures.specs.declared.SearchNumbers.{SearchNumbers}
use Rattle.figures.specs.declared.CountNumbers.{CountNumbers}
use Rattle.figures.specs.declared.ClassNumbers.{ClassNumbers}
use Rattle.figures.specs.declared.RunNumbers.{RunNumbers}
use Rattle.figures.specs.declared.WithdrawalNumbers.{WithdrawalNumbers}

-- whatever else the answer tells
abbrev pub refusal_told : {T : Type 0} → Result T Refusal → ℕ
refusal_told (Ok x) = 0
refusal_told (Err r) = number_of r

-- each struct's fields, in the order in which the calls' own definitions have them
abbrev pub search_numbers : SearchNumbers → ℕ × ℕ × ℕ × ℕ
search_numbers r = (r.refusal, r.rows, r.silences, r.collisions)

abbrev pub count_numbers : CountNumbers → ℕ × ℕ
count_numbers r = (r.refusal, r.slots)

abbrev pub class_numbers : ClassNumbers → ℕ × ℤ
class_numbers r = (r.refusal, r.class)

abbrev pub withdrawal_numbers : WithdrawalNumbers → ℕ × ℕ × ℕ
withdrawal_numbers r = (r.refusal, r.kept, r.withdrawn)

abbrev pub run_reading : RunNumbers → Reading
run_reading r = record { refusal = r.refusal; done = r.done; events = r.events; slot = r.slot; sent = r.sent; late = r.late }
