-- The word and the number.
use mathlib.Core.Path.{refl}
use native.Mathlib.Omega.{arith}
use Rattle.std.proofs.Common.{rules}
use Rattle.printing.proofs.PutLaws.{grown_then, grown_as, grown_out}
use Rattle.printing.proofs.put_refusal.Goals as goal

pub returns : goal.returns
returns c =
    let word = c.put.ensures.grown in
    let number = c.put_number.ensures in (
      grown_out (grown_as (rw c.number.ensures refl) (grown_then word number.grown)) (search rules),
      omega (arith, word.put.next, number.short),
    )
