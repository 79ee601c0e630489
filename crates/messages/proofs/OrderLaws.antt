-- Which message waits, and which of a station's goes first.
use mathlib.Core.Path.{◌≡◌, refl, sym, ap, subst}
use mathlib.Core.Bool.{Bool, true, false, ◌&&◌, ◌||◌}
use mathlib.Core.Logic.{◌⊎◌, inl, inr, ⊎_elim}
use mathlib.Core.List.{List}
use Prim.Native.Nat.{ℕ, zero, suc, ◌+◌, ◌<◌, ◌≤◌}
use native.Mathlib.Numerals.{add-one}
use native.Mathlib.Omega.{arith}
use lib.Dec.{eqb}
use lib.ListN.{get_or}
use borrow.Author.Tests.{eq-eqb, ne_eqb, le-leb, lt-leb}
use Rattle.messages.specs.declared.Message.{Message}
use Rattle.messages.specs.Message.{unsent, none, blank, waits, goes_before, better, first_among}

-- ---- one message

module _ (m : Message) (slot : ℕ) where
  pub waits_later : slot < m.arrival → waits slot m ≡ false
  waits_later h = rw (lt-leb _ _ h) refl

  pub waits_here : m.arrival ≤ slot → waits slot m ≡ eqb m.sent unsent
  waits_here h = rw (le-leb _ _ h) refl

  pub other_station : (station : ℕ) → (m.station ≡ station → ⊥) → (eqb m.station station && waits slot m) ≡ false
  other_station station h = rw (ne_eqb _ _ h) refl

  pub this_station : (station : ℕ) → m.station ≡ station → (eqb m.station station && waits slot m) ≡ waits slot m
  this_station station e = rw (eq-eqb _ _ e) refl

-- ---- the better of two numbers

module _ (ms : List Message) (best i : ℕ) where
  -- by the test
  better_by : (t : Bool) → (eqb best none || goes_before (get_or ms i blank) (get_or ms best blank)) ≡ t → better ms best i ≡ elim t [ true ↦ i | false ↦ best ]
  unfolding better
  better_by t e = ap (λ (b : Bool). elim b [ true ↦ i | false ↦ best ]) e

  pub better_none : best ≡ none → better ms best i ≡ i
  better_none h = better_by true (rw (eq-eqb best none h) refl)

  module _ (some : best ≡ none → ⊥) (a b : Message) (is-a : a ≡ get_or ms i blank) (is_b : b ≡ get_or ms best blank) where
    pub better_new : goes_before a b ≡ true → better ms best i ≡ i
    better_new e = better_by true (rw (ne_eqb best none some, ← is-a, ← is_b) e)

    pub better_old : goes_before a b ≡ false → better ms best i ≡ best
    better_old e = better_by false (rw (ne_eqb best none some, ← is-a, ← is_b) e)

  -- it is one of the two
  pub better_cases : (better ms best i ≡ i) ⊎ (better ms best i ≡ best)
  unfolding better
  better_cases = go (eqb best none || goes_before (get_or ms i blank) (get_or ms best blank))
    where
      go : (t : Bool) → (elim t [ true ↦ i | false ↦ best ] ≡ i) ⊎ (elim t [ true ↦ i | false ↦ best ] ≡ best)
      go true = inl refl
      go false = inr refl

-- ---- the first among some

-- message i is of the station and waits in the slot
abbrev pub candidate : List Message → ℕ → ℕ → ℕ → Bool
candidate ms slot station i = eqb (get_or ms i blank).station station && waits slot (get_or ms i blank)

module _ (ms : List Message) (slot station : ℕ) where
  -- one message more
  pub among_by : (i : ℕ) (t : Bool) → candidate ms slot station i ≡ t
      → first_among ms slot station (i + 1) ≡ elim t [ true ↦ better ms (first_among ms slot station i) i | false ↦ first_among ms slot station i ]
  unfolding first_among
  among_by i t e = rw add-one (ap (λ (b : Bool). elim b [ true ↦ better ms (first_among ms slot station i) i | false ↦ first_among ms slot station i ]) e)

  -- f is none, or one of the first n messages, and a candidate
  abbrev pub Among : ℕ → ℕ → Type 0
  Among f n = (f ≡ none) ⊎ ((f < n) × (candidate ms slot station f ≡ true))

  -- one place more
  more : (f n : ℕ) → Among f n → Among f (suc n)
  more f n (inl e) = inl e
  more f n (inr h) = inr (omega (arith, h.0), h.1)

  -- it is so of the first among n
  pub among : (n : ℕ) → Among (first_among ms slot station n) n
  unfolding first_among
  among zero = inl refl
  among (suc i) = go (first_among ms slot station i) (among i) (candidate ms slot station i) refl
    where
      go : (f : ℕ) → Among f i → (t : Bool) → candidate ms slot station i ≡ t → Among (elim t [ true ↦ better ms f i | false ↦ f ]) (suc i)
      go f p false e = more f i p
      go f p true e =
          ⊎_elim
          (λ q. subst (λ (k : ℕ). Among k (suc i)) (sym q) (inr (omega arith, e)))
          (λ q. subst (λ (k : ℕ). Among k (suc i)) (sym q) (more f i p))
          (better_cases ms f i)
