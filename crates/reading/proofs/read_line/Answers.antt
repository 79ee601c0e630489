-- One number after the other.
use Rattle.std.proofs.Common.{map, eqb, rules, tests, of_calls, sym, ◌∙◌}
use Rattle.std.proofs.lemmas.List.{map-append}
use Rattle.std.proofs.lemmas.Iterator.Consumers.{YieldsList-at, YieldsList-turn, YieldsList-end}
use Rattle.std.proofs.lemmas.Iterator.Splits.{YieldsList-from_slice_split}
use Rattle.numbers.specs.Decimal.{is_number, value_of}
use Rattle.reading.proofs.ListLaws.{so_far_start, so_far_next}
use Rattle.reading.proofs.LineLaws.{number_picked, part_other, parts_read}
use Rattle.reading.proofs.read_line.Goals as goal

pub loop-part-init : goal.loop-part-init
loop-part-init c = (search of_calls, tt, so_far_start is_number value_of c.args.fields.now)

pub returns-in_err-read_number : goal.returns-in_err-read_number
returns-in_err-read_number c =
    let at = YieldsList-turn
    (YieldsList-at c.into_iter-part-iterator.ensures.into_iter_gives
    (YieldsList-from_slice_split _ (λ b. eqb b 32) c.args.line.now c.split-part-items.ensures.rest c.split-part-items.ensures.done c.split-part-items.ensures.closure (λ x r q k. search (rules, tests))))
    c.loop-part.yielded _ c.loop-part.yielded_by _ _ c.in-Some.part c.in-Some.is c.next.ensures.steps in
    part_other c.args.line.now c.args.fields.now c.loop-part.fields _ c.in-Some.part.now at (sym (c.in_err-read_number.was) ∙ c.read_number.ensures) _ c.from_residual.ensures

pub loop-part-preserved : goal.loop-part-preserved
loop-part-preserved c =
    let p = c.in-Some.part.now in (
      search of_calls,
      tt,
      rw map-append (so_far_next is_number value_of c.args.fields.now (map (λ p. p.now) c.loop-part.yielded) c.loop-part.count c.loop-part.fields c.loop-part.invariant.2
          p c.in_ok-read_number.field-0 c.put.new.list (sym (c.in_ok-read_number.was) ∙ c.read_number.ensures ∙ number_picked p) c.put.ensures),
    )

pub returns : goal.returns
returns c =
    let end = YieldsList-end
    (YieldsList-at c.into_iter-part-iterator.ensures.into_iter_gives
    (YieldsList-from_slice_split _ (λ b. eqb b 32) c.args.line.now c.split-part-items.ensures.rest c.split-part-items.ensures.done c.split-part-items.ensures.closure (λ x r q k. search (rules, tests))))
    c.loop-part.yielded _ c.loop-part.yielded_by _ _ c.in-None.is c.next.ensures.steps in
    parts_read c.args.line.now c.args.fields.now _ c.loop-part.count c.loop-part.fields c.loop-part.invariant.2 end.0
