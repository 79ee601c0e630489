-- The header, then the rows.
use native.Mathlib.Omega.{arith}
use Rattle.std.proofs.Common.{rules}
use Rattle.printing.proofs.PutLaws.{grown_then, grown_out}
use Rattle.printing.proofs.put_table.Goals as goal

pub returns : goal.returns
returns c =
    let names = c.put.ensures.grown in
    let rows = c.put_rows.ensures.lines in
    record {
      table = λ rs is. grown_out (grown_then names (rows.lines rs is)) (search rules);
      short = omega (arith, names.put.next, rows.short);
    }
