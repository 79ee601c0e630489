-- Which stations contend in a slot (docs/RULES.md, section 10).
--
--   owns table s a w        station s owns one of the w indices from a on
--   enters S table σ s d    station s, whose first message has the absolute deadline d, may enter in the state σ
--   entry S table ms σ s i  the message i of station s where it enters, as a list of one or none
--   contenders S table ms σ the messages of the stations that contend, in the order of the stations
--   last_of l                the last number of a list, or none
--   tally_of l               how many contend, and the last of their messages
--   counted t l             the tally t with one station more, whose entry is l
use Rattle.std.specs.Prelude.{Bool, true, false, not, ◌&&◌, ◌||◌, List, [], ◌∷◌, ◌++◌, ℕ, zero, suc, ◌+◌, eqb, length, get_or}
use Rattle.classes.specs.Class.{class_below}
use Rattle.messages.specs.declared.Message.{Message}
use Rattle.messages.specs.Message.{none, blank, deadline_of, first_message}
use Rattle.phases.specs.declared.Shop.{Shop}
use Rattle.phases.specs.declared.Standing.{Standing}
use Rattle.phases.specs.declared.Standing.TheVariants.{Free, Time, Static}
use Rattle.phases.specs.declared.State.{State}
use Rattle.contention.specs.declared.Tally.{Tally}

-- one of the indices a, a + 1, .., a + w − 1
unfoldable pub owns : List ℕ → ℕ → ℕ → ℕ → Bool
owns table s a zero = false
owns table s a (suc n) = owns table s a n || eqb (get_or table (a + n) 0) s

-- the class of a deadline lies below b, by the shop's numbers and the reference time
abbrev pub in_class : Shop → ℕ → ℕ → ℕ → Bool
in_class S reference d b = class_below d S.offset reference S.width b

-- free: always; in a time subtree ending at b: class below b; in a static one for leaf p: an index there, and class below p + 1
abbrev pub enters_in : Shop → List ℕ → ℕ → Standing → ℕ → ℕ → Bool
enters_in S table reference Free s d = true
enters_in S table reference (Time a w) s d = in_class S reference d (a + w)
enters_in S table reference (Static a w p) s d = owns table s a w && in_class S reference d (p + 1)

-- in a state
abbrev pub enters : Shop → List ℕ → State → ℕ → ℕ → Bool
enters S table σ s d = enters_in S table σ.reference σ.standing s d

-- station s with its first message i, if there is one and it may enter
unfoldable pub entry : Shop → List ℕ → List Message → State → ℕ → ℕ → List ℕ
entry S table ms σ s i = elim (not (eqb i none) && enters S table σ s (deadline_of (get_or ms i blank))) [ true ↦ i ∷ [] | false ↦ [] ]

-- the stations below n
unfoldable pub contenders_below : Shop → List ℕ → List Message → State → ℕ → List ℕ
contenders_below S table ms σ zero = []
contenders_below S table ms σ (suc s) = contenders_below S table ms σ s ++ entry S table ms σ s (first_message ms σ.slot s)

-- all stations, at the slot's start
abbrev pub contenders : Shop → List ℕ → List Message → State → List ℕ
contenders S table ms σ = contenders_below S table ms σ S.stations

-- the last of some
abbrev pub last_of : List ℕ → ℕ
last_of [] = none
last_of (i ∷ []) = i
last_of (i ∷ j ∷ l) = last_of (j ∷ l)

-- what an event needs to know of them
abbrev pub tally_of : List ℕ → Tally
tally_of l = record { count = length l; message = last_of l }

-- the tally with the messages of one station more, one or none
abbrev pub counted : Tally → List ℕ → Tally
counted t [] = t
counted t (i ∷ l) = record { count = t.count + 1; message = i }
