-- What is true of every withdrawal, whatever the list.
--
--   none_remains      no record of the station is among those kept
--   others_stay       whichever other records are looked for, the kept ones hold the same, in the same order and as often
--   kept_others       what is kept is the list of all records of other stations
--   all_accounted     kept and withdrawn together are as many as the list had
--   again_kept, again_none    a second withdrawal keeps what was kept and withdraws nothing more of it
use mathlib.Core.Path.{◌≡◌, refl, sym, ap, ◌∙◌}
use mathlib.Core.Bool.{Bool, true, false, not, cond}
use mathlib.Core.List.{List, [], ◌∷◌}
use Prim.Native.Nat.{ℕ, ◌+◌, ◌<◌}
use native.Mathlib.Omega.{arith}
use lib.Dec.{eqb}
use lib.ListN.{length, get_or}
use borrow.Author.Tests.{eq-eqb, eqb-true}
use Rattle.std.specs.List.{filter}
use Rattle.std.proofs.lemmas.List.Elements.{filter_passes}
use Rattle.messages.specs.declared.Message.{Message}
use Rattle.messages.specs.Message.{blank}
use Rattle.withdrawals.specs.Withdrawal.{kept_of, withdrawn_count}
use Rattle.withdrawals.proofs.KeptLaws.{kept_withdrawn}

-- the test for another station
abbrev pub is_other : ℕ → Message → Bool
is_other s m = not (eqb m.station s)

-- no record of the station remains
pub none_remains : (s : ℕ) (ms : List Message) (i : ℕ) → i < length (kept_of s ms) → (get_or (kept_of s ms) i blank).station ≡ s → ⊥
none_remains s ms i h e =
    let other : not (eqb (get_or (kept_of s ms) i blank).station s) ≡ true = filter_passes (is_other s) ms i blank h in
    let own : eqb (get_or (kept_of s ms) i blank).station s ≡ true = eq-eqb (get_or (kept_of s ms) i blank).station s e in
    cc

-- one record, kept or not, is found or not
one_found : (test : Message → Bool) (m : Message) (own : Bool) (ms ks : List Message) → (own ≡ true → test m ≡ false) → filter test ks ≡ filter test ms
    → filter test (cond (not own) (m ∷ ks) ks) ≡ filter test (m ∷ ms)
one_found test m true ms ks never e = e ∙ sym (ap (λ (b : Bool). cond b (m ∷ filter test ms) (filter test ms)) (never refl))
one_found test m false ms ks never e = ap (λ (xs : List Message). cond (test m) (m ∷ xs) xs) e

-- every other record is kept, with its order and multiplicity
pub others_stay : (s : ℕ) (test : Message → Bool) → ((m : Message) → m.station ≡ s → test m ≡ false) → (ms : List Message) → filter test (kept_of s ms) ≡ filter test ms
others_stay s test never [] = refl
others_stay s test never (m ∷ ms) =
    one_found test m (eqb m.station s) ms (kept_of s ms) (λ e. never m (eqb-true m.station s e)) (others_stay s test never ms)

-- what is kept is what the test finds
pub kept_others : (s : ℕ) (ms : List Message) → kept_of s ms ≡ filter (is_other s) ms
kept_others s ms = refl

-- kept + withdrawn = length
pub all_accounted : (s : ℕ) (ms : List Message) → length (kept_of s ms) + withdrawn_count s ms ≡ length ms
all_accounted s ms = kept_withdrawn s ms

-- a second withdrawal keeps all that was kept
pub again_kept : (s : ℕ) (ms : List Message) → kept_of s (kept_of s ms) ≡ kept_of s ms
again_kept s ms = others_stay s (is_other s) (λ m e. ap not (eq-eqb m.station s e)) ms

-- and withdraws nothing more of it
pub again_none : (s : ℕ) (ms : List Message) → withdrawn_count s (kept_of s ms) ≡ 0
again_none s ms = omega (arith, kept_withdrawn s (kept_of s ms), ap length (again_kept s ms))
