-- The text of an answer is that of the verdict and the run behind it.
use mathlib.Core.Path.{◌≡◌, refl, sym, ap, ◌∙◌, subst}
use mathlib.Core.List.{List, [], ◌++◌}
use mathlib.Core.Bool.{true}
use Prim.Native.Nat.{ℕ, ◌+◌, ◌*◌}
use native.Mathlib.Omega.{arith}
use lib.ListN.{length, take, drop}
use lib.Seq.{take_at}
use Rattle.std.specs.Prelude.{Result, Ok, Err}
use Rattle.refusals.specs.declared.Refusal.{Refusal}
use Rattle.refusals.specs.Numbers.{Verdict}
use Rattle.refusals.proofs.Verdicts.{number_some}
use Rattle.rows.specs.declared.Row.{Row}
use Rattle.rows.specs.Log.{over, log_bytes}
use Rattle.rows.proofs.LogLaws.{length_log_bytes}
use Rattle.messages.specs.declared.Message.{Message}
use Rattle.phases.specs.declared.Shop.{Shop}
use Rattle.inputs.specs.Inputs.{run_verdict}
use Rattle.wire.specs.declared.Outcome.{Outcome}
use Rattle.wire.specs.declared.Outcome.TheVariants.{Done, Spent}
use Rattle.wire.specs.Run.{World}
use Rattle.wire.specs.Answer.{Reading, reading_of, reading_by, log_by, ran_of}
use Rattle.wire.specs.Promise.{ListPromise}
use Rattle.wire.proofs.BudgetLaws.{events_few}
use Rattle.printing.specs.Report.{header, rows_text, closing_text, refused_text, report_by}
use Rattle.printing.specs.Work.{Put, Listed, text_of, Reported}
use Rattle.lines.specs.Work.{run_text, Printed}

-- the closing line is told by the reading
abbrev told : List Row × World → Reading → List ℕ
told r x = header ++ rows_text r.0 ++ closing_text x

report_text : (o : Result Outcome Refusal) (v : Verdict) (r : List Row × World) → reading_of o ≡ reading_by v r → text_of o r.0 ≡ report_by v r
report_text (Ok (Done f)) (Ok _) r e = ap (told r) e
report_text (Ok (Spent f)) (Ok _) r e = ap (told r) e
report_text (Err j) (Ok _) r e = absurd (omega (arith, number_some j, ap (λ (x : Reading). x.refusal) e))
report_text (Ok (Done f)) (Err k) r e = absurd (omega (arith, number_some k, ap (λ (x : Reading). x.refusal) e))
report_text (Ok (Spent f)) (Err k) r e = absurd (omega (arith, number_some k, ap (λ (x : Reading). x.refusal) e))
report_text (Err j) (Err k) r e = ap refused_text (ap (λ (x : Reading). x.refusal) e)

-- the rows at the front of the log
logged : (log : List ℕ) (rs : List Row) (k : ℕ) → k ≡ length rs → Listed (over log 0 (log_bytes rs)) k rs
logged log rs k e = record {
  count = sym e;
  front = ap (λ (n : ℕ). take (16 * n) (over log 0 (log_bytes rs))) e ∙ take_at (log_bytes rs) (drop (0 + length (log_bytes rs)) log) (16 * length rs) (length_log_bytes rs);
}

pub printed : (o : Result Outcome Refusal) (v : Verdict) (r : List Row × World) (log log' d : List ℕ) (n : ℕ) (d' : List ℕ) → reading_of o ≡ reading_by v r → log' ≡ log_by v r log
    → Reported d log' o n d' → Put d 0 (report_by v r) n d'
printed o (Ok u) r log log' d n d' e f p =
    let is : Listed log' (reading_of o).events r.0 =
    subst (λ (l : List ℕ). Listed l (reading_of o).events r.0) (sym f) (logged log r.0 (reading_of o).events (ap (λ (x : Reading). x.events) e)) in
    subst (λ (t : List ℕ). Put d 0 t n d') (report_text o (Ok u) r e) (p.whole r.0 is)
printed o (Err k) r log log' d n d' e f p =
    let none : (reading_of o).events ≡ 0 = ap (λ (x : Reading). x.events) e in
    let is : Listed log' (reading_of o).events [] = subst (λ (m : ℕ). Listed log' m []) (sym none) (record { count = refl; front = refl }) in
    subst (λ (t : List ℕ). Put d 0 t n d') (report_text o (Err k) ([], r.1) e) (p.whole [] is)

-- what the report of a run is
pub run_printed : (S : Shop) (owners : List ℕ) (ms : List Message) (log : List ℕ) (budget : ℕ) (o : Result Outcome Refusal) (ms' : List Message) (log' d : List ℕ) (n : ℕ) (d' : List ℕ)
    → ListPromise S owners true ms log budget o ms' log' → Reported d log' o n d' → length log ≡ 65536 → budget ≡ 4096 → Printed d (run_text S owners ms) n d'
run_printed S owners ms log budget o ms' log' d n d' r p room b = record {
  put = subst (λ (t : List ℕ). Put d 0 t n d')
      (ap (λ (k : ℕ). report_by (run_verdict S owners true ms budget k) (ran_of S owners ms budget)) room
      ∙ ap (λ (k : ℕ). report_by (run_verdict S owners true ms k 65536) (ran_of S owners ms k)) b)
      (printed o (run_verdict S owners true ms budget (length log)) (ran_of S owners ms budget) log log' d n d' r.read r.logged p);
  short = omega (arith, p.short, events_few S owners true ms log budget o ms' log' r);
}
