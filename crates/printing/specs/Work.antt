-- What the functions of the report ask of each other. No promise to a caller speaks of these.
--
--   Put d at b n d'     the bytes b stand in d from `at` on and nothing else changed; n is the place behind them
--   Grown t b t'        the text t with the bytes b behind it is t'
--   Listed log k rs     the log begins with the k rows rs
--   RowsPut ..          a line for each of the log's first rows was written
--   TablePut ..         the table of a log was written
--   RunPut ..           the whole text of a run that was not refused was written
--   ReportReady ..      there is room for every text of so many events
--   Reported ..         the text of an outcome was written
use Rattle.std.specs.Prelude.{◌≡◌, true, false, List, ◌++◌, ℕ, ◌+◌, ◌*◌, ◌≤◌, length, take, Result, Ok, Err}
use Rattle.refusals.specs.declared.Refusal.{Refusal}
use Rattle.refusals.specs.Numbers.{number_of}
use Rattle.rows.specs.declared.Row.{Row}
use Rattle.rows.specs.Log.{log_bytes, over}
use Rattle.wire.specs.declared.Figures.{Figures}
use Rattle.wire.specs.declared.Outcome.{Outcome}
use Rattle.wire.specs.declared.Outcome.TheVariants.{Done, Spent}
use Rattle.wire.specs.Answer.{ended, reading_of}
use Rattle.printing.specs.Report.{header, rows_text, figures_text, closing_text, refused_text}
use Rattle.printing.specs.declared.Text.{Text}

-- some bytes written
pub record Put (d : List ℕ) (at : ℕ) (b : List ℕ) (n : ℕ) (d' : List ℕ) : Type 0 where
  pub next : n ≡ at + length b
  pub wrote : d' ≡ over d at b

-- a text that grew by some bytes: the lent buffer is the same and keeps its length, and the text fits
pub record Grown (t : Text) (b : List ℕ) (t' : Text) : Type 0 where
  pub same : t'.output.ghost_name ≡ t.output.ghost_name
  pub room : length t'.output.now ≡ length t.output.now
  pub fits : t'.at ≤ length t.output.now
  pub put : Put t.output.now t.at b t'.at t'.output.now

-- rows at the front of a log
pub record Listed (log : List ℕ) (k : ℕ) (rs : List Row) : Type 0 where
  pub count : length rs ≡ k
  pub front : take (16 * k) log ≡ log_bytes rs

-- the lines of the first k rows, whatever rows they are
pub record RowsPut (t : Text) (log : List ℕ) (k : ℕ) (t' : Text) : Type 0 where
  pub same : t'.output.ghost_name ≡ t.output.ghost_name
  pub room : length t'.output.now ≡ length t.output.now
  pub lines : (rs : List Row) → Listed log k rs → Grown t (rows_text rs) t'
  pub short : t'.at ≤ t.at + 60 * k

-- under the names of the columns
pub record TablePut (d log : List ℕ) (k n : ℕ) (d' : List ℕ) : Type 0 where
  pub table : (rs : List Row) → Listed log k rs → Put d 0 (header ++ rows_text rs) n d'
  pub short : n ≤ 44 + 60 * k

-- of a run that ended with this word and these figures
pub record RunPut (d log word : List ℕ) (f : Figures) (n : ℕ) (d' : List ℕ) : Type 0 where
  pub whole : (rs : List Row) → Listed log f.events rs → Put d 0 (header ++ rows_text rs ++ (word ++ figures_text (ended true f))) n d'
  pub short : n ≤ 100 + 60 * f.events

-- 60 bytes for each row and 100 for the rest
pub record ReportReady (d log : List ℕ) (events : ℕ) : Type 0 where
  pub output : 100 + 60 * events ≤ length d
  pub rows : 16 * events ≤ length log

-- by the outcome
abbrev pub text_of : Result Outcome Refusal → List Row → List ℕ
text_of (Ok (Done f)) rs = header ++ rows_text rs ++ closing_text (ended true f)
text_of (Ok (Spent f)) rs = header ++ rows_text rs ++ closing_text (ended false f)
text_of (Err k) rs = refused_text (number_of k)

-- whatever the rows are
pub record Reported (d log : List ℕ) (outcome : Result Outcome Refusal) (n : ℕ) (d' : List ℕ) : Type 0 where
  pub whole : (rs : List Row) → Listed log (reading_of outcome).events rs → Put d 0 (text_of outcome rs) n d'
  pub short : n ≤ 100 + 60 * (reading_of outcome).events
