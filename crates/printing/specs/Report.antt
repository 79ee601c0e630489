-- What the program prints (docs/RULES.md, section 12): the table of a log and the closing line, or a refusal.
--
--   header            the names of the columns
--   column b          some bytes and the space behind them
--   ending b          some bytes and the line feed behind them
--   phase_letter p    f, t, s, b
--   state_letter s    - silence, B busy, X collision
--   message_text i    the message's number, - for none
--   row_text r        a row as a line
--   rows_text rs      a line for each row
--   closing_text r    the last line: how the run ended, events, present slot, sent, late
--   refused_text n    the one line of a refusal
--   report_by v r     by the verdict, of the run r
use Rattle.std.specs.Prelude.{Bool, true, false, List, [], ◌∷◌, ◌++◌, ℕ, eqb, Ok, Err}
use Prim.Native.Char.{code}
use Rattle.refusals.specs.Numbers.{Verdict, number_of}
use Rattle.rows.specs.declared.Phase.{Phase}
use Rattle.rows.specs.declared.Phase.TheVariants.{Free, Time, Static, Bare}
use Rattle.rows.specs.declared.Channel.{Channel}
use Rattle.rows.specs.declared.Channel.TheVariants.{Silence, Busy, Collision}
use Rattle.rows.specs.declared.Row.{Row}
use Rattle.wire.specs.Run.{World}
use Rattle.wire.specs.Answer.{Reading, closing}
use Rattle.numbers.specs.Decimal.{text, decimal}

-- the first line
abbrev pub header : List ℕ
header = text "slot phase first width state message length\n"

-- a space parts it from the next
abbrev pub column : List ℕ → List ℕ
column b = b ++ text " "

-- a line feed ends the line
abbrev pub ending : List ℕ → List ℕ
ending b = b ++ text "\n"

-- one letter for a phase
abbrev pub phase_letter : Phase → ℕ
phase_letter Free = code "f"
phase_letter Time = code "t"
phase_letter Static = code "s"
phase_letter Bare = code "b"

-- one for a channel state
abbrev pub state_letter : Channel → ℕ
state_letter Silence = code "-"
state_letter Busy = code "B"
state_letter Collision = code "X"

-- 65,535 is none
abbrev pub message_text : ℕ → List ℕ
message_text i = elim (eqb i 65535) [ true ↦ text "-" | false ↦ decimal i ]

-- slot, phase, first leaf, width, state, message, slots used
abbrev pub row_text : Row → List ℕ
row_text r =
    column (decimal r.slot)
    ++ column (phase_letter r.phase ∷ [])
    ++ column (decimal r.first)
    ++ column (decimal r.width)
    ++ column (state_letter r.state ∷ [])
    ++ column (message_text r.message)
    ++ ending (decimal r.used)

-- one line behind the other
abbrev pub rows_text : List Row → List ℕ
rows_text [] = []
rows_text (r ∷ rs) = row_text r ++ rows_text rs

-- how a run ended
abbrev pub end_text : Bool → List ℕ
end_text true = text "done "
end_text false = text "budget "

-- and its figures
abbrev pub figures_text : Reading → List ℕ
figures_text r = column (decimal r.events) ++ column (decimal r.slot) ++ column (decimal r.sent) ++ ending (decimal r.late)

-- the last line
abbrev pub closing_text : Reading → List ℕ
closing_text r = end_text r.done ++ figures_text r

-- the only line
abbrev pub refused_text : ℕ → List ℕ
refused_text n = text "refused " ++ ending (decimal n)

-- by the verdict
abbrev pub report_by : Verdict → List Row × World → List ℕ
report_by (Ok _) r = header ++ rows_text r.0 ++ closing_text (closing r)
report_by (Err k) r = refused_text (number_of k)
