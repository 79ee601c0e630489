-- The lines in their order; where one is another, the text is no shop's.
use Rattle.std.proofs.Common.{◌∷◌, [], map, refl, ap, rules, tests, of_calls, sym, ◌∙◌, arith, length, ◌+◌, ◌≤◌}
use Rattle.std.proofs.lemmas.List.{map-append, length-append}
use Rattle.reading.specs.ShopText.{lines_of, holds}
use Rattle.reading.proofs.ListLaws.{so_far_start, so_far_next}
use Rattle.reading.proofs.PieceLaws.{piece_at, pieces_end, two_before, few_left}
use Rattle.reading.proofs.ShopLaws.{declined, few_lines, shop_other, owners_other, message_other, held, no_shop_read, shop_read}
use Rattle.reading.proofs.read_shop.Goals as goal

pub returns-in_err-ended_lines : goal.returns-in_err-ended_lines
returns-in_err-ended_lines c =
    declined c.args.input.now c.args.owners.now c.args.owners.now c.args.messages.now c.args.messages.now (c.in_err-ended_lines.ensures) _ c.from_residual.ensures

pub returns-in_err-shop : goal.returns-in_err-shop
returns-in_err-shop c =
    let text = c.in_ok-ended_lines.field-0.now in
    let split = c.split-lines.ensures in
    let at = piece_at c.split-lines.result 10 split.rest split.done split.closure (λ x r q k. search (rules, tests)) [] _ refl _ c.in_ok-next.was c.next.ensures.steps in
    no_shop_read c.args.input.now text c.in_ok-ended_lines.ensures c.args.owners.now c.args.owners.now c.args.messages.now c.args.messages.now
    (shop_other (lines_of text) c.in_ok-next.field-0.now at (sym (c.in_err-shop.was) ∙ c.shop_in.ensures)) _ c.from_residual-in_err-shop.ensures

pub returns-in_err-next-2 : goal.returns-in_err-next-2
returns-in_err-next-2 c =
    let text = c.in_ok-ended_lines.field-0.now in
    let split = c.split-lines.ensures in
    let end = pieces_end c.split-lines.result 10 split.rest split.done split.closure (λ x r q k. search (rules, tests)) (c.in_ok-next.field-0 ∷ []) _ (c.next.new.self, c.in_ok-next.ensures.steps, refl) _ c.in_err-next-2.was c.next-2.ensures.steps in
    no_shop_read c.args.input.now text c.in_ok-ended_lines.ensures c.args.owners.now c.args.owners.now c.args.messages.now c.args.messages.now
    (few_lines (lines_of text) (omega (arith, end.1))) _ c.from_residual-in_err-next-2.ensures

pub returns-in_err-owner_count : goal.returns-in_err-owner_count
returns-in_err-owner_count c =
    let text = c.in_ok-ended_lines.field-0.now in
    let split = c.split-lines.ensures in
    let at = piece_at c.split-lines.result 10 split.rest split.done split.closure (λ x r q k. search (rules, tests)) (c.in_ok-next.field-0 ∷ []) _ (c.next.new.self, c.in_ok-next.ensures.steps, refl) _ c.in_ok-next-2.was c.next-2.ensures.steps in
    no_shop_read c.args.input.now text c.in_ok-ended_lines.ensures c.args.owners.now c.read_line.new.fields c.args.messages.now c.args.messages.now
    (owners_other (lines_of text) c.in_ok-next-2.field-0.now at (sym (c.in_err-owner_count.was) ∙ c.read_line.ensures.counted)) _ c.from_residual-in_err-owner_count.ensures

pub loop-line-init : goal.loop-line-init
loop-line-init c = (search of_calls, tt, so_far_start (holds 4) held c.args.messages.now)

pub returns-in_err-message_in : goal.returns-in_err-message_in
returns-in_err-message_in c =
    let text = c.in_ok-ended_lines.field-0.now in
    let split = c.split-lines.ensures in
    let at = piece_at c.split-lines.result 10 split.rest split.done split.closure (λ x r q k. search (rules, tests)) (c.in_ok-next.field-0 ∷ c.in_ok-next-2.field-0 ∷ c.loop-line.yielded) _
    (two_before c.split-lines.result c.next.new.self _ c.in_ok-next.field-0 c.in_ok-next-2.field-0 _ c.in_ok-next.ensures.steps c.in_ok-next-2.ensures.steps c.into_iter-line-iterator.ensures.into_iter_gives c.loop-line.yielded_by) _ c.in-Some.is c.next-in-loop-line.ensures.steps in
    no_shop_read c.args.input.now text c.in_ok-ended_lines.ensures c.args.owners.now c.read_line.new.fields c.args.messages.now c.loop-line.messages
    (message_other (lines_of text) (length c.loop-line.yielded) c.in-Some.line.now at (sym (c.in_err-message_in.was) ∙ c.message_in.ensures)) _ c.from_residual-in_err-message_in.ensures

pub overflow_add-count : goal.overflow_add-count
overflow_add-count c =
    let text = c.in_ok-ended_lines.field-0.now in
    let split = c.split-lines.ensures in
    let at = piece_at c.split-lines.result 10 split.rest split.done split.closure (λ x r q k. search (rules, tests)) (c.in_ok-next.field-0 ∷ c.in_ok-next-2.field-0 ∷ c.loop-line.yielded) _
    (two_before c.split-lines.result c.next.new.self _ c.in_ok-next.field-0 c.in_ok-next-2.field-0 _ c.in_ok-next.ensures.steps c.in_ok-next-2.ensures.steps c.into_iter-line-iterator.ensures.into_iter_gives c.loop-line.yielded_by) _ c.in-Some.is c.next-in-loop-line.ensures.steps in
    let few : c.loop-line.count + 1 ≤ length text = few_left c.loop-line.count c.loop-line.yielded 10 text c.loop-line.invariant.2.counted at.0 in
    omega (arith, ap length c.in_ok-ended_lines.ensures, length-append text (10 ∷ []))

pub loop-line-preserved : goal.loop-line-preserved
loop-line-preserved c = (
  search of_calls,
  tt,
  rw map-append (so_far_next (holds 4) held c.args.messages.now (map (λ line. line.now) c.loop-line.yielded) c.loop-line.count c.loop-line.messages c.loop-line.invariant.2
      c.in-Some.line.now c.in_ok-message_in.field-0 c.put.new.list (sym (c.in_ok-message_in.was) ∙ c.message_in.ensures) c.put.ensures),
)

pub returns : goal.returns
returns c =
    let text = c.in_ok-ended_lines.field-0.now in
    let split = c.split-lines.ensures in
    let end = pieces_end c.split-lines.result 10 split.rest split.done split.closure (λ x r q k. search (rules, tests)) (c.in_ok-next.field-0 ∷ c.in_ok-next-2.field-0 ∷ c.loop-line.yielded) _
    (two_before c.split-lines.result c.next.new.self _ c.in_ok-next.field-0 c.in_ok-next-2.field-0 _ c.in_ok-next.ensures.steps c.in_ok-next-2.ensures.steps c.into_iter-line-iterator.ensures.into_iter_gives c.loop-line.yielded_by) _ c.in-None.is c.next-in-loop-line.ensures.steps in
    shop_read c.args.input.now text c.in_ok-ended_lines.ensures (omega arith) c.args.owners.now c.read_line.new.fields c.args.messages.now c.loop-line.messages
    c.in_ok-next.field-0.now c.in_ok-next-2.field-0.now (map (λ line. line.now) c.loop-line.yielded) end.0
    c.in_ok-shop.shop (sym (c.in_ok-shop.was) ∙ c.shop_in.ensures) c.in_ok-owner_count.owner_count (c.in_ok-owner_count.ensures) c.loop-line.count c.loop-line.invariant.2
