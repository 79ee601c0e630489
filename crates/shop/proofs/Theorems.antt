-- What is true of every result that the promises allow.
--
--   run_keeps           a run leaves the same records in the same places; only their slots of sending may differ
--   withdrawal_keeps    a withdrawal leaves a list of the same length
--   kept_in_front       the first places, as many as the answer says are kept, are the records of other stations
use mathlib.Core.Path.{◌≡◌, refl, sym, ap, ◌∙◌}
use mathlib.Core.Bool.{true}
use mathlib.Core.List.{List, map}
use Prim.Native.Nat.{ℕ}
use native.Mathlib.Omega.{arith}
use lib.ListN.{length, take}
use lib.Seq.{take-append_seam}
use Rattle.refusals.proofs.Verdicts.{number_some}
use Rattle.std.specs.Prelude.{Result, Ok, Err}
use Rattle.refusals.specs.declared.Refusal.{Refusal}
use Rattle.refusals.specs.Numbers.{Verdict, granted}
use Rattle.messages.specs.declared.Message.{Message}
use Rattle.phases.specs.declared.Shop.{Shop}
use Rattle.inputs.specs.Inputs.{run_verdict, table_of}
use Rattle.wire.specs.declared.Outcome.{Outcome}
use Rattle.wire.specs.Answer.{ran_of, messages_by}
use Rattle.messages.proofs.KeptLaws.{bare}
use Rattle.wire.proofs.KeptLaws.{same_records}
use Rattle.withdrawals.specs.declared.Withdrawn.{Withdrawn}
use Rattle.withdrawals.specs.Withdrawal.{kept_of}
use Rattle.withdrawals.specs.Answer.{withdrawal_verdict, figures_by, list_by}
use Rattle.withdrawals.proofs.KeptLaws.{length_after}
use Rattle.shop.specs.Promise.{WithdrawalPromise, ShopPromise}

-- `bare` forgets a record's slot of sending
pub run_keeps : (S : Shop) (owners : List ℕ) (ms : List Message) (log : List ℕ) (budget : ℕ) (answer : Result Outcome Refusal) (ms' : List Message) (log' : List ℕ)
    → ShopPromise S owners ms log budget answer ms' log' → map bare ms' ≡ map bare ms
run_keeps S owners ms log budget answer ms' log' p = ap (map bare) p.left ∙ by (run_verdict S owners true ms budget (length log))
  where
    by : (v : Verdict) → map bare (messages_by v (ran_of S owners ms budget) ms) ≡ map bare ms
    by (Ok _) = sym (same_records S (table_of owners) budget ms)
    by (Err k) = refl

-- no place is lost
pub withdrawal_keeps : (station : ℕ) (ms : List Message) (answer : Result Withdrawn Refusal) (ms' : List Message) → WithdrawalPromise station ms answer ms' → length ms' ≡ length ms
withdrawal_keeps station ms answer ms' p = ap length p.left ∙ by (withdrawal_verdict station (length ms))
  where
    by : (v : Verdict) → length (list_by v station ms) ≡ length ms
    by (Ok _) = length_after station ms
    by (Err r) = refl

-- so a caller who lends these places lends the list
pub kept_in_front : (station : ℕ) (ms : List Message) (answer : Withdrawn) (ms' : List Message) → WithdrawalPromise station ms (Ok answer) ms' → take answer.kept ms' ≡ kept_of station ms
kept_in_front station ms answer ms' p = by (withdrawal_verdict station (length ms)) p.figured p.left
  where
    by : (v : Verdict) → (0, answer.kept, answer.withdrawn) ≡ figures_by v station ms → ms' ≡ list_by v station ms → take answer.kept ms' ≡ kept_of station ms
    by (Ok _) e l =
        ap (take answer.kept) l
        ∙ ap (λ (n : ℕ). take n (list_by granted station ms)) (ap (λ (f : ℕ × ℕ × ℕ). f.1) e)
        ∙ take-append_seam (kept_of station ms) _
    by (Err r) e l = absurd (omega (arith, number_some r, ap (λ (f : ℕ × ℕ × ℕ). f.0) e))
