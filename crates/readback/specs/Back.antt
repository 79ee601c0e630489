-- What reading a row back from its bytes owes.
--
--   PhaseBack byte p    p is the phase whose byte this is, if it is one's
--   StateBack byte s    s is the channel state whose byte this is, if it is one's
--   RowBack bytes r     r is the row whose bytes these are, if they are one's
use Rattle.std.specs.Prelude.{◌≡◌, List, ℕ}
use Rattle.rows.specs.declared.Phase.{Phase}
use Rattle.rows.specs.declared.Channel.{Channel}
use Rattle.rows.specs.declared.Row.{Row}
use Rattle.rows.specs.Log.{phase_number, state_number, row_bytes}

-- a phase
abbrev pub PhaseBack : ℕ → Phase → Type 0
PhaseBack byte p = (q : Phase) → byte ≡ phase_number q → p ≡ q

-- a channel state
abbrev pub StateBack : ℕ → Channel → Type 0
StateBack byte s = (q : Channel) → byte ≡ state_number q → s ≡ q

-- a row
abbrev pub RowBack : List ℕ → Row → Type 0
RowBack bytes r = (q : Row) → bytes ≡ row_bytes q → r ≡ q
