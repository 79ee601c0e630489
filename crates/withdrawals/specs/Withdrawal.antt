-- What a withdrawal makes of a list of messages (docs/RULES.md, section 11).
--
--   kept_of station ms           the records of other stations, in their order
--   withdrawn_count station ms   how many records are the station's
--   after_withdrawal station ms  the list afterwards: what is kept, then a record of zeros for each record withdrawn
use Rattle.std.specs.Prelude.{not, List, ◌++◌, ℕ, ◌==◌, replicate, filter, count_by}
use Rattle.messages.specs.declared.Message.{Message}
use Rattle.messages.specs.Message.{blank}

-- a record of the station is left out, every other one stays
abbrev pub kept_of : ℕ → List Message → List Message
kept_of station ms = filter (λ m. not (m.station == station)) ms

-- of the list as it came
abbrev pub withdrawn_count : ℕ → List Message → ℕ
withdrawn_count station ms = count_by (λ m. m.station == station) ms

-- as long as the list was
abbrev pub after_withdrawal : ℕ → List Message → List Message
after_withdrawal station ms = kept_of station ms ++ replicate (withdrawn_count station ms) blank
