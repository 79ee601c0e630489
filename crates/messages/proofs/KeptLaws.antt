-- Messages of which only slots of sending changed, and whose first message then stays the same.
use mathlib.Core.Path.{◌≡◌, refl, sym, ap, ◌∙◌}
use mathlib.Core.Bool.{Bool, true, false, ◌||◌}
use mathlib.Core.List.{List, [], ◌∷◌, map}
use Prim.Native.Nat.{ℕ, zero, suc, ◌≤◌, ◌<◌}
use native.Mathlib.Omega.{arith}
use lib.Dec.{eqb, leb}
use lib.ListN.{length, get_or, set, length-map}
use borrow.Author.Tests.{leb-true, leb-false}
use Rattle.messages.specs.declared.Message.{Message}
use Rattle.messages.specs.Message.{unsent, none, blank, deadline_of, waits, goes_before, better}
use Rattle.messages.specs.Message.{first_among, first_message, sent_at, fresh}
use Rattle.messages.proofs.OrderLaws.{candidate, waits_later, waits_here}

-- a record with no slot of sending told
abbrev pub bare : Message → Message
bare m = sent_at 0 m

-- a sending
pub bare_set : (ms : List Message) (i slot : ℕ) → map bare (set ms i (sent_at slot (get_or ms i blank))) ≡ map bare ms
bare_set [] i slot = refl
bare_set (m ∷ ms) zero slot = refl
bare_set (m ∷ ms) (suc i) slot = ap (λ (l : List Message). bare m ∷ l) (bare_set ms i slot)

-- the start of a run
pub bare_fresh : (ms : List Message) → map bare (fresh ms) ≡ map bare ms
bare_fresh [] = refl
bare_fresh (m ∷ ms) = ap (λ (l : List Message). bare m ∷ l) (bare_fresh ms)

bare_get_d : (ms : List Message) (j : ℕ) → get_or (map bare ms) j blank ≡ bare (get_or ms j blank)
bare_get_d [] j = refl
bare_get_d (m ∷ ms) zero = refl
bare_get_d (m ∷ ms) (suc j) = bare_get_d ms j

-- ---- two lists of the same records

module _ (ms ns : List Message) (same : map bare ns ≡ map bare ms) where
  pub bare_length : length ns ≡ length ms
  bare_length = sym (length-map ns bare) ∙ ap length same ∙ length-map ms bare

  -- place by place
  pub bare_at : (j : ℕ) → bare (get_or ns j blank) ≡ bare (get_or ms j blank)
  bare_at j = sym (bare_get_d ns j) ∙ ap (λ (l : List Message). get_or l j blank) same ∙ bare_get_d ms j

  pub bare_station : (j : ℕ) → (get_or ns j blank).station ≡ (get_or ms j blank).station
  bare_station j = ap (λ (m : Message). m.station) (bare_at j)

  pub bare_arrival : (j : ℕ) → (get_or ns j blank).arrival ≡ (get_or ms j blank).arrival
  bare_arrival j = ap (λ (m : Message). m.arrival) (bare_at j)

  pub bare_deadline : (j : ℕ) → deadline_of (get_or ns j blank) ≡ deadline_of (get_or ms j blank)
  bare_deadline j = ap deadline_of (bare_at j)

  -- which of two goes first
  bare_order : (i j : ℕ)
      → goes_before (get_or ns i blank) (get_or ns j blank) ≡ goes_before (get_or ms i blank) (get_or ms j blank)
  bare_order i j =
      ap (λ (m : Message). goes_before m (get_or ns j blank)) (bare_at i)
      ∙ ap (λ (m : Message). goes_before (get_or ms i blank) m) (bare_at j)

  bare_better : (best i : ℕ) → better ns best i ≡ better ms best i
  unfolding better
  bare_better best i = ap (λ (b : Bool). elim (eqb best none || b) [ true ↦ i | false ↦ best ]) (bare_order i best)

  -- a message waits as it did where it is marked as it was, and arrived by both slots or by neither
  pub waits_kept : (j was now : ℕ) → was ≤ now → (get_or ns j blank).sent ≡ (get_or ms j blank).sent
      → (was < (get_or ms j blank).arrival → now < (get_or ms j blank).arrival)
      → waits now (get_or ns j blank) ≡ waits was (get_or ms j blank)
  waits_kept j was now later e quiet = go (leb m.arrival was) refl
    where
      m : Message
      m = get_or ms j blank

      n : Message
      n = get_or ns j blank

      go : (b : Bool) → leb m.arrival was ≡ b → waits now n ≡ waits was m
      go true q =
          let here : m.arrival ≤ was = leb-true m.arrival was q in
          waits_here n now (omega (arith, bare_arrival j))
          ∙ ap (λ (x : ℕ). eqb x unsent) e ∙ sym (waits_here m was here)
      go false q =
          let ahead : was < m.arrival = leb-false m.arrival was q in
          waits_later n now (omega (arith, bare_arrival j, quiet ahead)) ∙ sym (waits_later m was ahead)

  -- a station's first message, at two slots
  module _ (was now station : ℕ)
      (alike : (j : ℕ) → j < length ms → candidate ns now station j ≡ candidate ms was station j) where
    among_kept : (n : ℕ) → n ≤ length ms → first_among ns now station n ≡ first_among ms was station n
    unfolding first_among
    among_kept zero h = refl
    among_kept (suc i) h =
        let f : ℕ = first_among ns now station i in
        let g : ℕ = first_among ms was station i in
        ap (λ (b : Bool). elim b [ true ↦ better ns f i | false ↦ f ]) (alike i h)
        ∙ ap (λ (x : ℕ). elim (candidate ms was station i) [ true ↦ better ns x i | false ↦ x ])
        (among_kept i (omega arith))
        ∙ ap (λ (x : ℕ). elim (candidate ms was station i) [ true ↦ x | false ↦ g ]) (bare_better g i)

    -- IT STAYS where the station's messages wait as they did
    pub first_kept : first_message ns now station ≡ first_message ms was station
    first_kept = ap (first_among ns now station) bare_length ∙ among_kept (length ms) (omega arith)
