-- Lists of messages: a station's first message, a slot of sending set, the list as a run begins; and the list that
-- slices of numbers hold, one for each field.
use mathlib.Core.Path.{◌≡◌, refl, sym, ap, subst, ◌∙◌}
use mathlib.Core.Bool.{Bool, true, false, ◌&&◌}
use mathlib.Core.List.{List, [], ◌∷◌, ◌++◌}
use mathlib.Core.Logic.{◌⊎◌, inl, inr, ⊎_elim}
use Prim.Native.Nat.{ℕ, zero, suc, ◌+◌, ◌<◌}
use native.Mathlib.Omega.{arith}
use lib.Dec.{eqb}
use lib.ListN.{length, get_or, take, drop, set, length-set, length-map}
use lib.Seq.{get_or-set_same, get_or-set_other}
use borrow.Author.Tests.{eqb-true, eqb-false}
use Rattle.std.proofs.lemmas.List.{get_or_default}
use Rattle.std.proofs.lemmas.List.Edits.{map_over_more}
use Rattle.messages.specs.declared.Message.{Message}
use Rattle.messages.specs.Message.{unsent, none, blank, waits, first_message, sent_at, fresh}
use Rattle.messages.specs.Lists.{listed, Timed, TimedList, Runnable}
use Rattle.messages.proofs.OrderLaws.{candidate, among}

-- ---- a station's first message

module _ (ms : List Message) (slot station : ℕ) where
  -- a station's first message is none or a message of the list
  pub first_found : (first_message ms slot station ≡ none) ⊎ (first_message ms slot station < length ms)
  first_found = ⊎_elim (λ e. inl e) (λ h. inr h.0) (among ms slot station (length ms))

  module _ (some : first_message ms slot station ≡ none → ⊥) where
    -- the two facts of one that is not none
    chosen : (first_message ms slot station < length ms) × (candidate ms slot station (first_message ms slot station) ≡ true)
    chosen = ⊎_elim (λ e. absurd (some e)) (λ h. h) (among ms slot station (length ms))

    -- it is a message of the list
    pub first_numbered : first_message ms slot station < length ms
    first_numbered = chosen.0

    -- it is of the station, and waits
    pub first_waits : ((get_or ms (first_message ms slot station) blank).station ≡ station) × (waits slot (get_or ms (first_message ms slot station) blank) ≡ true)
    first_waits = split (get_or ms (first_message ms slot station) blank) station chosen.1
      where
        split : (m : Message) (n : ℕ) → (eqb m.station n && waits slot m) ≡ true → (m.station ≡ n) × (waits slot m ≡ true)
        split m n e = go (eqb m.station n) refl e
          where
            go : (t : Bool) → eqb m.station n ≡ t → (t && waits slot m) ≡ true → (m.station ≡ n) × (waits slot m ≡ true)
            go true p q = (eqb-true _ _ p, q)
            go false p q = cc

-- ---- a slot of sending is set

-- a slot of sending has no part in the times
timed_sent : (m : Message) (v : ℕ) → Timed m → Timed (sent_at v m)
timed_sent m v t = record { arrives = t.arrives; lasts = t.lasts; short = t.short }

-- so the list stays in range
pub timed_set : (ms : List Message) (i v : ℕ) → TimedList ms → TimedList (set ms i (sent_at v (get_or ms i blank)))
timed_set ms i v t j h = go (eqb j i) refl
  where
    inside : j < length ms
    inside = simp length-set at h

    go : (b : Bool) → eqb j i ≡ b → Timed (get_or (set ms i (sent_at v (get_or ms i blank))) j blank)
    go true e = let p : j ≡ i = eqb-true j i e in
        subst (λ (k : ℕ). Timed (get_or (set ms i (sent_at v (get_or ms i blank))) k blank)) (sym p)
        (rw (get_or-set_same ms i (sent_at v (get_or ms i blank)) blank (omega (arith, inside))) (timed_sent (get_or ms i blank) v (t i (omega (arith, inside)))))
    go false e = rw (get_or-set_other ms i j (sent_at v (get_or ms i blank)) blank (eqb-false j i e)) (t j inside)

-- and a run can take it
pub runnable_set : (ms : List Message) (i v : ℕ) → Runnable ms → Runnable (set ms i (sent_at v (get_or ms i blank)))
runnable_set ms i v r = record { few = simp length-set r.few; timed = timed_set ms i v r.timed }

-- ---- as a run begins

-- one place of the list
pub fresh_at : (ms : List Message) (i : ℕ) → i < length ms → get_or (fresh ms) i blank ≡ sent_at unsent (get_or ms i blank)
fresh_at [] i h = absurd (omega arith)
fresh_at (m ∷ ms) zero h = refl
fresh_at (m ∷ ms) (suc i) h = fresh_at ms i (omega arith)

-- it is in range
pub timed_fresh : (ms : List Message) → TimedList ms → TimedList (fresh ms)
timed_fresh ms t i h =
    let inside : i < length ms = omega (arith, length-map ms (sent_at unsent)) in
    rw (fresh_at ms i inside) (timed_sent (get_or ms i blank) unsent (t i inside))

-- and a run can take it
pub runnable_fresh : (ms : List Message) → Runnable ms → Runnable (fresh ms)
runnable_fresh ms r = record { few = rw (length-map ms (sent_at unsent)) r.few; timed = timed_fresh ms r.timed }

-- the loop of `clear_sent`: one message more
pub cleared_more : (was ms : List Message) (i : ℕ) → i < length was → length ms ≡ length was → ms ≡ fresh (take i was) ++ drop i was
    → set ms i (sent_at unsent (get_or ms i blank)) ≡ fresh (take (i + 1) was) ++ drop (i + 1) was
cleared_more was ms i h e f =
    let m = get_or ms i blank in
    map_over_more (sent_at unsent) was ms i m h f (get_or_default ms i blank m (omega arith))

-- ---- the list that slices hold

-- as many messages as stations
pub length_listed : (stations arrivals relatives lengths sent : List ℕ) → length (listed stations arrivals relatives lengths sent) ≡ length stations
length_listed [] a r l s = refl
length_listed (x ∷ stations) a r l s = ap suc (length_listed stations (drop 1 a) (drop 1 r) (drop 1 l) (drop 1 s))

-- the record of what each slice has at i
abbrev pub record_at : List ℕ → List ℕ → List ℕ → List ℕ → List ℕ → ℕ → Message
record_at stations arrivals relatives lengths sent i =
    record { station = get_or stations i 0; arrival = get_or arrivals i 0; relative = get_or relatives i 0; length = get_or lengths i 0; sent = get_or sent i 0 }

-- one place further on
behind : (l : List ℕ) (i : ℕ) → get_or (drop 1 l) i 0 ≡ get_or l (suc i) 0
behind [] i = refl
behind (x ∷ l) i = refl

-- message i is that record
pub listed_at : (stations arrivals relatives lengths sent : List ℕ) (i : ℕ) → i < length stations
    → get_or (listed stations arrivals relatives lengths sent) i blank ≡ record_at stations arrivals relatives lengths sent i
listed_at [] a r l s i h = absurd (omega arith)
listed_at (x ∷ stations) a r l s zero h = refl
listed_at (x ∷ stations) a r l s (suc i) h =
    listed_at stations (drop 1 a) (drop 1 r) (drop 1 l) (drop 1 s) i (omega arith) ∙ simp (behind a i, behind r i, behind l i, behind s i)
