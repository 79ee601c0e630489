-- One number after the other.
use Rattle.std.proofs.Common.{map}
use Rattle.numbers.specs.Decimal.{is_number, value_of}
use Rattle.reading.proofs.ListLaws.{SoFar}
use Rattle.reading.proofs.read_line.Given as goal

abbrev pub invariant-loop-part : goal.invariant-loop-part
invariant-loop-part l =
    (goal.iterator-loop-part).can_next l.part-iterator ×
    (goal.iterator-loop-part).is_finite l.part-iterator ×
    SoFar is_number value_of l.initial.fields (map (λ p. p.now) l.yielded) l.count l.fields
