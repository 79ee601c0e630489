-- The answer of a bare search (docs/RULES.md, sections 2 and 5).
--
--   search_verdict m t leaves room  refusals 1, 2, 3, 4 and 11, in this order; room is the log's length in bytes
--   figures answer                  what a script reads off an answer: refusal number, rows, silences, collisions
--   search_figures m t leaves room  the figures that a search must answer
--   search_log m t leaves log       the log that a search must leave
use Rattle.std.specs.Prelude.{List, ℕ, leb, eqb, length, Result, Ok, Err}
use Rattle.refusals.specs.declared.Refusal.{Refusal}
use Rattle.refusals.specs.declared.Refusal.TheVariants.{LeafList, LeafByte, LogRoom}
use Rattle.refusals.specs.Numbers.{Verdict, granted, number_of, ask, and_then}
use Rattle.rows.specs.declared.Row.{Row}
use Rattle.rows.specs.Log.{over, log_bytes}
use Rattle.trees.specs.Shape.{tree_verdict, height_of, rows_room}
use Rattle.trees.specs.Search.{all_bits, search_rows, silences, collisions}
use Rattle.searches.specs.declared.Searched.{Searched}

-- the tests in their order
abbrev pub search_verdict : ℕ → ℕ → List ℕ → ℕ → Verdict
search_verdict m t leaves room =
    and_then (tree_verdict m t)
    (ask (eqb (length leaves) t) LeafList
    (ask (all_bits leaves) LeafByte
    (ask (leb (rows_room m t) room) LogRoom
    granted)))

-- refusal number (0 for none), rows, silences, collisions
abbrev pub figures : Result Searched Refusal → ℕ × ℕ × ℕ × ℕ
figures (Ok s) = (0, s.rows, s.silences, s.collisions)
figures (Err r) = (number_of r, 0, 0, 0)

-- by the verdict: the figures of the rows, or the refusal's number with every other figure 0
abbrev pub figures_by : Verdict → List Row → ℕ × ℕ × ℕ × ℕ
figures_by (Ok _) rows = (0, length rows, silences rows, collisions rows)
figures_by (Err r) rows = (number_of r, 0, 0, 0)

-- what a search answers
abbrev pub search_figures : ℕ → ℕ → List ℕ → ℕ → ℕ × ℕ × ℕ × ℕ
search_figures m t leaves room = figures_by (search_verdict m t leaves room) (search_rows m (height_of m t) leaves)

-- by the verdict: the rows from the log's start on and the rest as it was, or all of it as it was
abbrev pub log_by : Verdict → List Row → List ℕ → List ℕ
log_by (Ok _) rows log = over log 0 (log_bytes rows)
log_by (Err r) rows log = log

-- what a search leaves
abbrev pub search_log : ℕ → ℕ → List ℕ → List ℕ → List ℕ
search_log m t leaves log = log_by (search_verdict m t leaves (length log)) (search_rows m (height_of m t) leaves) log
