-- The report of the text's run.
use Rattle.std.proofs.Common.{ℕ, arith}
use Rattle.std.proofs.lemmas.List.{length-replicate}
use Rattle.messages.specs.declared.Message.{Message}
use Rattle.messages.specs.Message.{blank}
use Rattle.lines.proofs.AnswerLaws.{text_run}
use Rattle.lines.proofs.answer.Goals as goal

pub returns : goal.returns
returns c =
    text_run c.args.input.now c.args.output.now (omega (arith, c.if-output-lt-OUTPUT_ROOM.false)) c.print_run.result c.print_run.new.output _ c.read_shop.new.owners _ c.read_shop.new.messages c.in-Some.given (c.in-Some.ensures)
    (omega (arith, length-replicate {A = ℕ} 1025 0)) (omega (arith, length-replicate {A = Message} 513 blank)) c.min.result c.min-2.result (omega (arith, c.min.ensures)) (omega (arith, c.min-2.ensures)) c.print_run.ensures
