-- What the functions of the program ask of each other. No promise to a caller speaks of these.
--
--   run_text ..         the text of the run that a shop, its owners and its messages ask for
--   Printed d b n d'    the text b stands at the front of d, nothing else changed; n is its length
use Rattle.std.specs.Prelude.{true, List, ℕ, ◌≤◌}
use Rattle.messages.specs.declared.Message.{Message}
use Rattle.phases.specs.declared.Shop.{Shop}
use Rattle.inputs.specs.Inputs.{run_verdict}
use Rattle.wire.specs.Answer.{ran_of}
use Rattle.printing.specs.Report.{report_by}
use Rattle.printing.specs.Work.{Put}
use Rattle.lines.specs.Program.{budget, room_of}
use Rattle.lines.specs.Promise.{output_room}

abbrev pub run_text : Shop → List ℕ → List Message → List ℕ
run_text S owners ms = report_by (run_verdict S owners true ms budget (room_of budget)) (ran_of S owners ms budget)

pub record Printed (d b : List ℕ) (n : ℕ) (d' : List ℕ) : Type 0 where
  pub put : Put d 0 b n d'
  pub short : n ≤ output_room
