-- Four numbers, one behind the other.
use Rattle.printing.proofs.PutLaws.{grown_then}
use Rattle.printing.proofs.Text.put_figures.Goals as goal

pub returns-clause-grown : goal.returns-clause-grown
returns-clause-grown c =
    grown_then (grown_then (grown_then c.put_number.ensures.grown c.put_number-2.ensures.grown) c.put_number-3.ensures.grown) c.put_number-4.ensures.grown
