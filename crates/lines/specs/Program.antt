-- The program (docs/RULES.md, section 12): from the bytes of its input to the bytes of its output.
--
--   budget                the event budget of the program's run
--   room_of k             the log room of so many events
--   program_verdict text  refusal 13 before all others, then those of the run
--   program_run text      the run that the text asks for
--   program_text text     every byte that the program writes
use Rattle.std.specs.Prelude.{true, List, ℕ, ◌*◌}
use Rattle.refusals.specs.declared.Refusal.TheVariants.{Text}
use Rattle.refusals.specs.Numbers.{Verdict, ask}
use Rattle.rows.specs.declared.Row.{Row}
use Rattle.inputs.specs.Inputs.{run_verdict}
use Rattle.wire.specs.Run.{World}
use Rattle.wire.specs.Answer.{ran_of}
use Rattle.printing.specs.Report.{report_by}
use Rattle.reading.specs.ShopText.{is_shop, shop_of, owners_of, messages_of}

-- events
abbrev pub budget : ℕ
budget = 4096

-- 16 bytes a row
abbrev pub room_of : ℕ → ℕ
room_of k = 16 * k

-- 13, then 1 to 11
abbrev pub program_verdict : List ℕ → Verdict
program_verdict text = ask (is_shop text) Text (run_verdict (shop_of text) (owners_of text) true (messages_of text) budget (room_of budget))

-- the run
abbrev pub program_run : List ℕ → List Row × World
program_run text = ran_of (shop_of text) (owners_of text) (messages_of text) budget

-- the log and the closing line, or the line of a refusal
abbrev pub program_text : List ℕ → List ℕ
program_text text = report_by (program_verdict text) (program_run text)
