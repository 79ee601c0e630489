-- One message after the other.
use Rattle.std.proofs.Common.{map}
use Rattle.reading.specs.ShopText.{holds}
use Rattle.reading.proofs.ListLaws.{SoFar}
use Rattle.reading.proofs.ShopLaws.{held}
use Rattle.reading.proofs.read_shop.Given as goal

abbrev pub invariant-loop-line : goal.invariant-loop-line
invariant-loop-line l =
    (goal.iterator-loop-line).can_next l.line-iterator ×
    (goal.iterator-loop-line).is_finite l.line-iterator ×
    SoFar (holds 4) held l.initial.messages (map (λ line. line.now) l.yielded) l.count l.messages
