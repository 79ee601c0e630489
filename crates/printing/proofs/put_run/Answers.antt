-- The table, then the closing line.

use native.Mathlib.Omega.{arith}
use Rattle.std.proofs.Common.{rules}
use Rattle.printing.proofs.PutLaws.{put_then, grown_then, grown_out}
use Rattle.printing.proofs.put_run.Goals as goal

pub returns : goal.returns
returns c =
    let table = c.put_table-at.ensures in
    let closing = grown_then c.put_end.ensures.grown c.put_figures.ensures.grown in
    record {
      whole = λ rs is. put_then (table.table rs is) (grown_out closing (search rules)) (omega (arith, closing.fits, c.put_table-at.auto.output));
      short = omega (arith, table.short, c.put_end.ensures.short, c.put_figures.ensures.short);
    }
