-- Messages, and which goes first (docs/RULES.md, section 8). A message's number is its place in the list.
--
--   unsent              the slot of sending of a message that has not been sent
--   deadline_of m       the absolute deadline: arrival + relative deadline
--   waits slot m        m has arrived by the slot and is unsent
--   goes_before a b     a goes before b of the same station, where b has the lower number: deadline, then arrival
--   none                in place of a message's number where there is none
--   blank               the record of zeros, which stands for what lies past the end of a list
--   first_message ms slot station   the number of the station's first message, or none
--   sent_at slot m      m with the slot of sending
--   fresh ms            the messages as a run begins: every slot of sending is unsent, whatever it held
--   all_sent ms         no unsent message remains, arrived or not
use Rattle.std.specs.Prelude.{Bool, true, false, not, ◌&&◌, ◌||◌, List, map, ℕ, zero, suc, ◌+◌, ltb, leb, eqb, length, get_or}
use Rattle.std.specs.List.{list_all}
use Rattle.messages.specs.declared.Message.{Message}

-- no run lasts so long
abbrev pub unsent : ℕ
unsent = 4294967295

-- arrival and relative deadline
abbrev pub deadline_of : Message → ℕ
deadline_of m = m.arrival + m.relative

-- at or before the present slot, and unsent
abbrev pub waits : ℕ → Message → Bool
waits slot m = leb m.arrival slot && eqb m.sent unsent

-- the smaller deadline, then the earlier arrival; where both are equal the lower number stays first
abbrev pub goes_before : Message → Message → Bool
goes_before a b = ltb (deadline_of a) (deadline_of b) || (eqb (deadline_of a) (deadline_of b) && ltb a.arrival b.arrival)

-- no message has this number
abbrev pub none : ℕ
none = 65535

-- all zero
abbrev pub blank : Message
blank = record { station = 0; arrival = 0; relative = 0; length = 0; sent = 0 }

-- of the first message so far and message i, which waits too
unfoldable pub better : List Message → ℕ → ℕ → ℕ
better ms best i = elim (eqb best none || goes_before (get_or ms i blank) (get_or ms best blank)) [ true ↦ i | false ↦ best ]

-- among the first n messages
unfoldable pub first_among : List Message → ℕ → ℕ → ℕ → ℕ
first_among ms slot station zero = none
first_among ms slot station (suc i) =
    elim (eqb (get_or ms i blank).station station && waits slot (get_or ms i blank)) [
      | true ↦ better ms (first_among ms slot station i) i
      | false ↦ first_among ms slot station i
    ]

-- among all
abbrev pub first_message : List Message → ℕ → ℕ → ℕ
first_message ms slot station = first_among ms slot station (length ms)

-- every other field stays
abbrev pub sent_at : ℕ → Message → Message
sent_at slot m = record { station = m.station; arrival = m.arrival; relative = m.relative; length = m.length; sent = slot }

-- as a run begins
abbrev pub fresh : List Message → List Message
fresh ms = map (sent_at unsent) ms

-- each message is sent
abbrev pub all_sent : List Message → Bool
all_sent ms = list_all (λ m. not (eqb m.sent unsent)) ms
