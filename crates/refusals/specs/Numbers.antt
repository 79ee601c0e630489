-- Refusals and their numbers, and how a call's checks are put in order (docs/RULES.md, section 2).
--
--   number_of r          the number that a script is told for the refusal r
--   Verdict             what checks come to: nothing, or a refusal
--   granted             nothing is refused
--   verdict_number v    the number of a verdict's refusal, 0 where nothing is refused
--   within lo hi x      whether x lies from lo to hi
--   ask test r v        v where the test holds, else the refusal r
--   and_then v w         w where v grants, else v: the first refusal in order is given
use Rattle.std.specs.Prelude.{Bool, true, false, ◌&&◌, ℕ, leb, Result, Ok, Err}
use Rattle.refusals.specs.declared.Refusal.{Refusal}
use Rattle.refusals.specs.declared.Refusal.TheVariants.{Branching, LeafCount, LeafList, LeafByte, ActiveCount, Stations, ClassNumbers, IndexTable, Messages, Budget, LogRoom, ReferenceTime, Text}

-- the number of a refusal
abbrev pub number_of : Refusal → ℕ
number_of Branching = 1
number_of LeafCount = 2
number_of LeafList = 3
number_of LeafByte = 4
number_of ActiveCount = 5
number_of Stations = 6
number_of ClassNumbers = 7
number_of IndexTable = 8
number_of Messages = 9
number_of Budget = 10
number_of LogRoom = 11
number_of ReferenceTime = 12
number_of Text = 13

-- what checks come to: nothing, or the first refusal in their order
abbrev pub Verdict : Type 0
Verdict = Result (Unit {0}) Refusal

-- nothing is refused
abbrev pub granted : Verdict
granted = Ok tt

-- the number of a verdict, 0 for none
abbrev pub verdict_number : Verdict → ℕ
verdict_number (Ok _) = 0
verdict_number (Err r) = number_of r

-- a number's range, both ends in it
abbrev pub within : ℕ → ℕ → ℕ → Bool
within lo hi x = leb lo x && leb x hi

-- one test: where it fails, its refusal
abbrev pub ask : Bool → Refusal → Verdict → Verdict
ask true r v = v
ask false r v = Err r

-- the checks of v come before those of w
abbrev pub and_then : Verdict → Verdict → Verdict
and_then (Ok _) w = w
and_then (Err r) w = Err r
