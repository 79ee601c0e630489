-- What is kept of a list and how much of it is withdrawn; and a list whose first places are what is kept.
use mathlib.Core.Path.{◌≡◌, refl, sym, ap, ◌∙◌}
use mathlib.Core.Bool.{not}
use mathlib.Core.List.{List, ◌++◌, append-nil}
use Prim.Native.Nat.{ℕ, ◌+◌, ◌-◌, ◌≤◌}
use native.Mathlib.Omega.{arith}
use lib.Dec.{eqb}
use lib.ListN.{length, take, drop, replicate, length-append, length-drop, length-replicate}
use borrow.Rule.Slice.PartMut.{put_mid, mid_of, post_of}
use Rattle.std.proofs.lemmas.List.{drop_all, length-take, length-take-le}
use Rattle.std.proofs.lemmas.List.Filters.{length-filter_both}
use Rattle.std.proofs.lemmas.List.Sums.{length-filter}
use Rattle.refusals.specs.Numbers.{Verdict, granted}
use Rattle.messages.specs.declared.Message.{Message}
use Rattle.messages.specs.Message.{blank}
use Rattle.withdrawals.specs.Withdrawal.{kept_of, withdrawn_count, after_withdrawal}
use Rattle.withdrawals.specs.Answer.{withdrawal_verdict, figures_by, list_by, figures_of, list_of}

-- every record is kept or withdrawn
pub kept_withdrawn : (s : ℕ) (ms : List Message) → length (kept_of s ms) + withdrawn_count s ms ≡ length ms
kept_withdrawn s ms =
    omega (arith, length-filter_both (λ m. eqb m.station s) (λ m. not (eqb m.station s)) (λ m. refl) ms, length-filter (λ m. eqb m.station s) ms)

-- so the list stays as long as it was
pub length_after : (s : ℕ) (ms : List Message) → length (after_withdrawal s ms) ≡ length ms
length_after s ms = simp (length-append, length-replicate) (kept_withdrawn s ms)

-- where nothing is refused and the first k places are what is kept
module _ (s : ℕ) (ms moved : List Message) (k : ℕ) (free : granted ≡ withdrawal_verdict s (length ms)) (long : length moved ≡ length ms) (within : k ≤ length ms)
    (front : take k moved ≡ kept_of s ms) where
  kept_is : k ≡ length (kept_of s ms)
  kept_is = sym (length-take-le k moved (omega arith)) ∙ ap length front

  withdrawn_is : length ms - k ≡ withdrawn_count s ms
  withdrawn_is = omega (arith, kept_is, kept_withdrawn s ms)

  -- their count and that of the places behind are the figures
  pub told : (0, k, length ms - k) ≡ figures_of s ms
  told = ap (λ (n : ℕ). (0, n, length ms - k)) kept_is ∙ ap (λ (n : ℕ). (0, length (kept_of s ms), n)) withdrawn_is ∙ ap (λ (v : Verdict). figures_by v s ms) free

  -- with zeros in the places behind they are the list
  pub laid : (zeros : List Message) → zeros ≡ replicate (length (mid_of k (length moved - k) moved)) blank → put_mid k (length moved - k) moved zeros ≡ list_of s ms
  laid zeros are =
      ap (λ (l : List Message). l ++ (zeros ++ post_of k (length moved - k) moved)) front
      ∙ ap (λ (l : List Message). kept_of s ms ++ (zeros ++ l)) (drop_all (length moved - k) (drop k moved) (omega (arith, length-drop k moved)))
      ∙ ap (λ (l : List Message). kept_of s ms ++ l) (append-nil zeros ∙ are ∙ ap (λ (n : ℕ). replicate n blank) behind)
      ∙ ap (λ (v : Verdict). list_by v s ms) free
    where
      behind : length (mid_of k (length moved - k) moved) ≡ withdrawn_count s ms
      behind = simp (length-take, length-drop) (omega (arith, withdrawn_is))
