-- A line for each row, one behind the other.
use Rattle.printing.proofs.PutLaws.{lines_next}
use Rattle.printing.proofs.Text.put_rows.Goals as goal

pub loop-row-preserved : goal.loop-row-preserved
loop-row-preserved c =
    let l = c.loop-row in
    lines_next c.args.self.now l.self _ c.args.log.now c.args.rows l.row l.invariant c.loop-row-test.true _ c.row_at.ensures c.put_row.ensures.grown c.put_row.ensures.short
