-- The digits from the left: what is read so far, and what the rest will add.
use Rattle.numbers.proofs.ReadLaws.{Read}
use Rattle.numbers.proofs.read_number.Given as goal

abbrev pub invariant-loop-byte : goal.invariant-loop-byte
invariant-loop-byte l = Read l.bytes l.value l.byte-index
