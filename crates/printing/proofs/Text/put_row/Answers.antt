-- Seven columns, one behind the other.
use mathlib.Core.Path.{refl}
use Rattle.printing.proofs.PutLaws.{grown_then, grown_as}
use Rattle.printing.proofs.Text.put_row.Goals as goal

pub returns-clause-grown : goal.returns-clause-grown
returns-clause-grown c =
    let slot = c.put_number.ensures.grown in
    let phase = c.put_letter.ensures.grown in
    let first = c.put_number-2.ensures.grown in
    let width = c.put_number-3.ensures.grown in
    let state = c.put_letter-2.ensures.grown in
    let message = c.put_message.ensures.grown in
    let used = c.put_number-4.ensures.grown in
    grown_as (rw (c.phase_letter.ensures, c.from.ensures, c.from-2.ensures, c.state_letter.ensures, c.from-3.ensures) refl)
    (grown_then (grown_then (grown_then (grown_then (grown_then (grown_then slot phase) first) width) state) message) used)
