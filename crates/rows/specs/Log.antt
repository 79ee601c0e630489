-- A log row and its bytes, and bytes written into a lent buffer (docs/RULES.md, section 4).
--
--   phase_number p      the byte of a phase
--   state_number s      the byte of a channel state
--   two x               a number below 65,536 as two bytes, the low one first
--   four x              a number below 4,294,967,296 as four bytes, the low one first
--   row_bytes r         the 16 bytes of a row
--   log_bytes rs        the bytes of some rows, one row behind the other
--   over d at b         the buffer d with the bytes b from place `at` on, unchanged elsewhere
use Rattle.std.specs.Prelude.{List, [], ◌∷◌, ◌++◌, ℕ, ◌+◌, ◌/◌, ◌%◌, length, take, drop}
use Rattle.rows.specs.declared.Phase.{Phase}
use Rattle.rows.specs.declared.Phase.TheVariants.{Free, Time, Static, Bare}
use Rattle.rows.specs.declared.Channel.{Channel}
use Rattle.rows.specs.declared.Channel.TheVariants.{Silence, Busy, Collision}
use Rattle.rows.specs.declared.Row.{Row}

-- the byte of a phase
abbrev pub phase_number : Phase → ℕ
phase_number Free = 0
phase_number Time = 1
phase_number Static = 2
phase_number Bare = 3

-- the byte of a channel state
abbrev pub state_number : Channel → ℕ
state_number Silence = 0
state_number Busy = 1
state_number Collision = 2

-- two bytes, the low one first
abbrev pub two : ℕ → List ℕ
two x = x % 256 ∷ x / 256 ∷ []

-- four bytes, the low one first
abbrev pub four : ℕ → List ℕ
four x = x % 256 ∷ x / 256 % 256 ∷ x / 65536 % 256 ∷ x / 16777216 ∷ []

-- slot, phase, state, first leaf, width, message, slots used, zero
abbrev pub row_bytes : Row → List ℕ
row_bytes r =
    four r.slot ++ (phase_number r.phase ∷ state_number r.state ∷ []) ++ two r.first ++ two r.width ++ two r.message ++ two r.used ++ (0 ∷ 0 ∷ [])

-- rows, one behind the other
abbrev pub log_bytes : List Row → List ℕ
log_bytes [] = []
log_bytes (r ∷ rs) = row_bytes r ++ log_bytes rs

-- bytes written over a part of a buffer
abbrev pub over : List ℕ → ℕ → List ℕ → List ℕ
over d at b = take at d ++ b ++ drop (at + length b) d
