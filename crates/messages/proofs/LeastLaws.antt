-- A station's first message is the least of those that wait: deadline, then arrival, then number.
use mathlib.Core.Path.{◌≡◌, refl, sym, ap, ◌∙◌, subst}
use mathlib.Core.Bool.{Bool, true, false, ◌&&◌, ◌||◌}
use mathlib.Core.List.{List}
use mathlib.Core.Logic.{◌⊎◌, inl, inr, ⊎_elim}
use Prim.Native.Nat.{ℕ, zero, suc, ◌+◌, ◌≤◌, ◌<◌}
use native.Mathlib.Numerals.{add-one}
use native.Mathlib.Omega.{arith}
use lib.Dec.{ltb, eqb}
use lib.ListN.{length, get_or}
use borrow.Author.Tests.{ltb-true, ltb-false, eqb-true, eqb-false}
use Rattle.messages.specs.declared.Message.{Message}
use Rattle.messages.specs.Message.{none, blank, deadline_of, goes_before, better, first_among, first_message}
use Rattle.messages.proofs.OrderLaws.{candidate, better_none, better_new, better_old}
use Rattle.messages.proofs.OrderLaws.{among, among_by}

-- a goes before b: a smaller deadline, or the same and an earlier arrival
before_true : (a b : Message) → goes_before a b ≡ true
    → (deadline_of a < deadline_of b) ⊎ ((deadline_of a ≡ deadline_of b) × (a.arrival < b.arrival))
before_true a b = go (ltb (deadline_of a) (deadline_of b)) refl (eqb (deadline_of a) (deadline_of b)) refl
  where
    go : (s : Bool) → ltb (deadline_of a) (deadline_of b) ≡ s → (t : Bool) → eqb (deadline_of a) (deadline_of b) ≡ t
        → (s || (t && ltb a.arrival b.arrival)) ≡ true
        → (deadline_of a < deadline_of b) ⊎ ((deadline_of a ≡ deadline_of b) × (a.arrival < b.arrival))
    go true e t f h = inl (ltb-true _ _ e)
    go false e true f h = inr (eqb-true _ _ f, ltb-true _ _ h)
    go false e false f h = cc

-- it does not
before_false : (a b : Message) → goes_before a b ≡ false
    → (deadline_of b < deadline_of a) ⊎ ((deadline_of b ≡ deadline_of a) × (b.arrival ≤ a.arrival))
before_false a b = go (ltb (deadline_of a) (deadline_of b)) refl (eqb (deadline_of a) (deadline_of b)) refl
  where
    go : (s : Bool) → ltb (deadline_of a) (deadline_of b) ≡ s → (t : Bool) → eqb (deadline_of a) (deadline_of b) ≡ t
        → (s || (t && ltb a.arrival b.arrival)) ≡ false
        → (deadline_of b < deadline_of a) ⊎ ((deadline_of b ≡ deadline_of a) × (b.arrival ≤ a.arrival))
    go true e t f h = cc
    go false e true f h = inr (sym (eqb-true _ _ f), ltb-false _ _ h)
    go false e false f h =
        let other : deadline_of a ≡ deadline_of b → ⊥ = eqb-false _ _ f in
        let le : deadline_of b ≤ deadline_of a = ltb-false _ _ e in
        inl (omega arith)

module _ (ms : List Message) where
  -- message i goes first of i and j
  pub record Least (i j : ℕ) : Type 0 where
    pub deadline : deadline_of (get_or ms i blank) ≤ deadline_of (get_or ms j blank)
    pub arrival : deadline_of (get_or ms i blank) ≡ deadline_of (get_or ms j blank)
        → (get_or ms i blank).arrival ≤ (get_or ms j blank).arrival
    pub number : deadline_of (get_or ms i blank) ≡ deadline_of (get_or ms j blank)
        → (get_or ms i blank).arrival ≡ (get_or ms j blank).arrival → i ≤ j

  least_self : (i : ℕ) → Least i i
  least_self i = record { deadline = omega arith; arrival = λ e. omega arith; number = λ e f. omega arith }

  -- a message that goes before the first so far
  least_new : (i f j : ℕ) → goes_before (get_or ms i blank) (get_or ms f blank) ≡ true → Least f j → Least i j
  least_new i f j e l = ⊎_elim
      (λ h. record {
        deadline = omega (arith, l.deadline);
        arrival = λ q. absurd (omega (arith, l.deadline));
        number = λ q r. absurd (omega (arith, l.deadline));
      })
      (λ h. record {
        deadline = omega (arith, l.deadline, h.0);
        arrival = λ q. omega (arith, l.arrival (sym h.0 ∙ q), h.1);
        number = λ q r. absurd (omega (arith, l.arrival (sym h.0 ∙ q), h.1));
      })
      (before_true (get_or ms i blank) (get_or ms f blank) e)

  -- a later one that does not
  least_old : (f i : ℕ) → f < i → goes_before (get_or ms i blank) (get_or ms f blank) ≡ false → Least f i
  least_old f i lt e = ⊎_elim
      (λ h. record {
        deadline = omega arith;
        arrival = λ q. absurd (omega arith);
        number = λ q r. absurd (omega arith);
      })
      (λ h. record { deadline = omega (arith, h.0); arrival = λ q. h.1; number = λ q r. omega arith })
      (before_false (get_or ms i blank) (get_or ms f blank) e)

  module _ (slot station : ℕ) where
    -- there is a first, and it is the least of the candidates below n
    abbrev FirstOf : ℕ → ℕ → Type 0
    FirstOf f n = (j : ℕ) → j < n → candidate ms slot station j ≡ true → (f ≡ none → ⊥) × Least f j

    -- one candidate more
    first_with : (f i : ℕ) → i < none → ((f ≡ none) ⊎ (f < i)) → FirstOf f i → FirstOf (better ms f i) (suc i)
    first_with f i few found ih j l c =
        go (eqb f none) refl (goes_before (get_or ms i blank) (get_or ms f blank)) refl (eqb j i) refl
      where
        here : (x : ℕ) → better ms f i ≡ x → (x ≡ none → ⊥) × Least x j
            → (better ms f i ≡ none → ⊥) × Least (better ms f i) j
        here x e = subst (λ (y : ℕ). (y ≡ none → ⊥) × Least y j) (sym e)

        self : j ≡ i → (i ≡ none → ⊥) × Least i j
        self e = (omega arith, rw e (least_self i))

        go : (a : Bool) → eqb f none ≡ a → (b : Bool) → goes_before (get_or ms i blank) (get_or ms f blank) ≡ b
            → (d : Bool) → eqb j i ≡ d → (better ms f i ≡ none → ⊥) × Least (better ms f i) j
        go true e b g true q = here i (better_none ms f i (eqb-true f none e)) (self (eqb-true j i q))
        go true e b g false q =
            let other : j ≡ i → ⊥ = eqb-false j i q in
            absurd ((ih j (omega arith) c).0 (eqb-true f none e))
        go false e true g true q =
            here i (better_new ms f i (eqb-false f none e) _ _ refl refl g) (self (eqb-true j i q))
        go false e true g false q =
            let other : j ≡ i → ⊥ = eqb-false j i q in
            here i (better_new ms f i (eqb-false f none e) _ _ refl refl g)
            (omega arith, least_new i f j g (ih j (omega arith) c).1)
        go false e false g true q =
            let same : j ≡ i = eqb-true j i q in
            let some : f ≡ none → ⊥ = eqb-false f none e in
            let lt : f < i = ⊎_elim (λ h. absurd (some h)) (λ h. h) found in
            here f (better_old ms f i some _ _ refl refl g) (some, rw same (least_old f i lt g))
        go false e false g false q =
            let other : j ≡ i → ⊥ = eqb-false j i q in
            here f (better_old ms f i (eqb-false f none e) _ _ refl refl g)
            (eqb-false f none e, (ih j (omega arith) c).1)

    least_among : (n : ℕ) → n ≤ none → FirstOf (first_among ms slot station n) n
    least_among zero h = λ j l c. absurd (omega arith)
    least_among (suc i) h = go (candidate ms slot station i) refl (least_among i (omega arith))
      where
        f : ℕ
        f = first_among ms slot station i

        below : (f ≡ none) ⊎ (f < i)
        below = ⊎_elim (λ e. inl e) (λ g. inr g.0) (among ms slot station i)

        next : (x : ℕ) → first_among ms slot station (i + 1) ≡ x → FirstOf x (suc i)
            → FirstOf (first_among ms slot station (suc i)) (suc i)
        next x e = subst (λ (y : ℕ). FirstOf y (suc i)) (sym (ap (first_among ms slot station) (sym (add-one i)) ∙ e))

        go : (b : Bool) → candidate ms slot station i ≡ b → FirstOf f i
            → FirstOf (first_among ms slot station (suc i)) (suc i)
        go true e ih = next (better ms f i) (among_by ms slot station i true e) (first_with f i h below ih)
        go false e ih = next f (among_by ms slot station i false e) (λ j l c. ih j (older j l c) c)
          where
            older : (j : ℕ) → j < suc i → candidate ms slot station j ≡ true → j < i
            older j l c =
                let other : j ≡ i → ⊥ = λ same.
                let z : ◌≡◌ {A = Bool} true false = sym c ∙ ap (candidate ms slot station) same ∙ e in
                cc in
                omega arith

    -- A STATION'S FIRST MESSAGE goes first of all its messages that wait, in a list of fewer than 65,536
    pub first_least : length ms ≤ none → (j : ℕ) → j < length ms → candidate ms slot station j ≡ true
        → (first_message ms slot station ≡ none → ⊥) × Least (first_message ms slot station) j
    first_least h = least_among (length ms) h
