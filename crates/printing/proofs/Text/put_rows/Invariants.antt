-- A line for each row, one behind the other.
use Rattle.printing.proofs.PutLaws.{Lines}
use Rattle.printing.proofs.Text.put_rows.Given as goal

abbrev pub invariant-loop-row : goal.invariant-loop-row
invariant-loop-row l = Lines l.initial.self l.log l.rows l.row l.self
