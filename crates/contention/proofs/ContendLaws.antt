-- The stations that contend: one entry more at a time, how many there are, and what the last of them sends.
use mathlib.Core.Path.{◌≡◌, refl, sym, ap, ◌∙◌}
use mathlib.Core.Bool.{Bool, true, false, not, ◌&&◌, ◌||◌}
use mathlib.Core.List.{List, [], ◌∷◌, ◌++◌, append-nil}
use mathlib.Core.Logic.{◌⊎◌, inl, inr, ⊎_elim}
use Prim.Native.Nat.{ℕ, zero, suc, ◌+◌, ◌≤◌, ◌<◌}
use native.Mathlib.Nat.{add-zero}
use native.Mathlib.Numerals.{add-one}
use native.Mathlib.Omega.{arith}
use lib.Dec.{eqb}
use lib.ListN.{length, get_or, length-append}
use borrow.Author.Tests.{eqb-true, eqb-false}
use Rattle.messages.specs.declared.Message.{Message}
use Rattle.messages.specs.Message.{none, blank, deadline_of, waits, first_message}
use Rattle.messages.proofs.ListLaws.{first_numbered, first_waits}
use Rattle.phases.specs.declared.Shop.{Shop}
use Rattle.phases.specs.declared.Standing.{Standing}
use Rattle.phases.specs.declared.Standing.TheVariants.{Static}
use Rattle.phases.specs.declared.State.{State}
use Rattle.contention.specs.declared.Tally.{Tally}
use Rattle.contention.specs.Contenders.{owns, in_class, enters_in, enters, entry, contenders_below, contenders, last_of, tally_of, counted}

-- ---- lists of numbers

last_append : (l : List ℕ) (i : ℕ) → last_of (l ++ (i ∷ [])) ≡ i
last_append [] i = refl
last_append (j ∷ []) i = refl
last_append (j ∷ k ∷ l) i = last_append (k ∷ l) i

-- f of each number below n, added up
abbrev pub sum_below : (ℕ → ℕ) → ℕ → ℕ
sum_below f zero = 0
sum_below f (suc n) = sum_below f n + f n

-- ---- one station

-- a list of one or none
abbrev one_if : Bool → ℕ → List ℕ
one_if b i = elim b [ true ↦ i ∷ [] | false ↦ [] ]

module _ (S : Shop) (table : List ℕ) (ms : List Message) (σ : State) (s i : ℕ) where
  -- whether the message i may enter
  abbrev goes : Bool
  goes = enters S table σ s (deadline_of (get_or ms i blank))

  -- by whether it is there, and enters
  entry_by : (n b : Bool) → eqb i none ≡ n → goes ≡ b → entry S table ms σ s i ≡ one_if (not n && b) i
  unfolding entry
  entry_by n b e f = ap (λ (x : Bool). one_if (not x && goes) i) e ∙ ap (λ (x : Bool). one_if (not n && x) i) f

  -- the message i enters, or nothing does
  entry_cases : (entry S table ms σ s i ≡ []) ⊎ ((entry S table ms σ s i ≡ i ∷ []) × (i ≡ none → ⊥) × (goes ≡ true))
  entry_cases = go (eqb i none) refl goes refl
    where
      go : (n : Bool) → eqb i none ≡ n → (b : Bool) → goes ≡ b → (entry S table ms σ s i ≡ []) ⊎ ((entry S table ms σ s i ≡ i ∷ []) × (i ≡ none → ⊥) × (goes ≡ true))
      go true e b f = inl (entry_by true b e f)
      go false e false f = inl (entry_by false false e f)
      go false e true f = inr (entry_by false true e f, eqb-false i none e, f)

-- who may not enter adds nothing
pub entry_barred : (S : Shop) (table : List ℕ) (ms : List Message) (σ : State) (s i : ℕ)
    → enters S table σ s (deadline_of (get_or ms i blank)) ≡ false → entry S table ms σ s i ≡ []
entry_barred S table ms σ s i e = go (eqb i none) refl
  where
    go : (n : Bool) → eqb i none ≡ n → entry S table ms σ s i ≡ []
    go true q = entry_by S table ms σ s i true false q e
    go false q = entry_by S table ms σ s i false false q e

-- the entry of a message that may enter here as it may there
pub entry_alike : (S : Shop) (table : List ℕ) (ms ns : List Message) (σ τ : State) (s i : ℕ)
    → enters S table τ s (deadline_of (get_or ns i blank)) ≡ enters S table σ s (deadline_of (get_or ms i blank))
    → entry S table ns τ s i ≡ entry S table ms σ s i
unfolding entry
entry_alike S table ms ns σ τ s i e = ap (λ (b : Bool). one_if (not (eqb i none) && b) i) e

-- one entry at most
pub entry_few : (S : Shop) (table : List ℕ) (ms : List Message) (σ : State) (s i : ℕ)
    → length (entry S table ms σ s i) ≤ 1
entry_few S table ms σ s i =
    ⊎_elim
    (λ e. omega (arith, ap length e))
    (λ h. omega (arith, ap length h.0))
    (entry_cases S table ms σ s i)

-- ---- all stations

-- the number i belongs to a message that waits
abbrev pub Waiting : List Message → ℕ → ℕ → Type 0
Waiting ms slot i = (i < length ms) × (waits slot (get_or ms i blank) ≡ true)

module _ (S : Shop) (table : List ℕ) (ms : List Message) (σ : State) where
  -- what station s adds
  abbrev pub adds : ℕ → List ℕ
  adds s = entry S table ms σ s (first_message ms σ.slot s)

  -- a station below n enters with the message i, its first
  pub record Entering (n i : ℕ) : Type 0 where
    pub station : ℕ
    pub below : station < n
    pub first : i ≡ first_message ms σ.slot station
    pub some : i ≡ none → ⊥
    pub may : enters S table σ station (deadline_of (get_or ms i blank)) ≡ true

  -- none, or one number
  adds_cases : (s : ℕ)
      → (adds s ≡ []) ⊎ ((adds s ≡ first_message ms σ.slot s ∷ []) × Entering (suc s) (first_message ms σ.slot s))
  adds_cases s =
      ⊎_elim
      (λ e. inl e)
      (λ h. inr (h.0, record { station = s; below = omega arith; first = refl; some = h.1; may = h.2 }))
      (entry_cases S table ms σ s (first_message ms σ.slot s))

  below_next : (s : ℕ) → contenders_below S table ms σ (suc s) ≡ contenders_below S table ms σ s ++ adds s
  unfolding contenders_below
  below_next s = refl

  -- by the tallies of the code: at no station
  pub tally_start : record { count = 0; message = none } ≡ tally_of (contenders_below S table ms σ 0)
  unfolding contenders_below
  tally_start = refl

  -- and one station more
  tally_append : (l : List ℕ) (s : ℕ) → counted (tally_of l) (adds s) ≡ tally_of (l ++ adds s)
  tally_append l s = ⊎_elim (λ e. nothing (adds s) e) (λ h. one (adds s) (first_message ms σ.slot s) h.0) (adds_cases s)
    where
      nothing : (k : List ℕ) → k ≡ [] → counted (tally_of l) k ≡ tally_of (l ++ k)
      nothing k e = rw (e, append-nil) refl

      one : (k : List ℕ) (i : ℕ) → k ≡ i ∷ [] → counted (tally_of l) k ≡ tally_of (l ++ k)
      one k i e = rw (e, last_append, length-append) refl

  pub tally_next : (s : ℕ) (t u : Tally) → t ≡ tally_of (contenders_below S table ms σ s) → u ≡ counted t (adds s) → u ≡ tally_of (contenders_below S table ms σ (s + 1))
  tally_next s t u was e =
      e ∙ ap (λ (v : Tally). counted v (adds s)) was ∙ tally_append (contenders_below S table ms σ s) s
      ∙ ap tally_of (sym (below_next s)) ∙ ap (λ (n : ℕ). tally_of (contenders_below S table ms σ n)) (sym (add-one s))

  -- no more than the stations
  below_few : (n : ℕ) → length (contenders_below S table ms σ n) ≤ n
  unfolding contenders_below
  below_few zero = omega arith
  below_few (suc s) = more (below_few s) (adds_cases s)
    where
      i : ℕ
      i = first_message ms σ.slot s

      more : length (contenders_below S table ms σ s) ≤ s → (adds s ≡ []) ⊎ ((adds s ≡ i ∷ []) × Entering (suc s) i)
          → length (contenders_below S table ms σ s ++ adds s) ≤ suc s
      more h (inl e) = omega (arith, length-append (contenders_below S table ms σ s) (adds s), ap length e)
      more h (inr p) = omega (arith, length-append (contenders_below S table ms σ s) (adds s), ap length p.0)

  -- the tally so far is below the number of stations
  pub tally_few : (s : ℕ) (t : Tally) → t ≡ tally_of (contenders_below S table ms σ s) → t.count ≤ s
  tally_few s t e = omega (arith, ap (λ (v : Tally). v.count) e, below_few s)

  -- one station more may be asked
  entering_more : (n i : ℕ) → Entering n i → Entering (suc n) i
  entering_more n i h = record {
    station = h.station;
    below = omega (arith, h.below);
    first = h.first;
    some = h.some;
    may = h.may;
  }

  -- the last of them is of a station that enters
  below_enter : (n : ℕ) → 0 < length (contenders_below S table ms σ n)
      → Entering n (last_of (contenders_below S table ms σ n))
  unfolding contenders_below
  below_enter zero h = absurd (omega arith)
  below_enter (suc s) h =
      more (contenders_below S table ms σ s) (below_enter s) (adds s) (first_message ms σ.slot s) (adds_cases s) h
    where
      more : (l : List ℕ) → (0 < length l → Entering s (last_of l))
          → (k : List ℕ) (i : ℕ) → (k ≡ []) ⊎ ((k ≡ i ∷ []) × Entering (suc s) i)
          → 0 < length (l ++ k) → Entering (suc s) (last_of (l ++ k))
      more l ih k i (inl e) h =
          let same : l ++ k ≡ l = ap (λ (x : List ℕ). l ++ x) e ∙ append-nil l in
          rw same (entering_more s (last_of l) (ih (omega (arith, ap length same))))
      more l ih k i (inr p) h =
          let last : last_of (l ++ k) ≡ i = ap (λ (x : List ℕ). last_of (l ++ x)) p.0 ∙ last_append l i in
          rw last p.1

  -- AT MOST AS MANY AS STATIONS
  pub contenders_few : length (contenders S table ms σ) ≤ S.stations
  contenders_few = below_few S.stations

  -- WHERE SOME CONTEND, the last one's number is that of a station's first message
  pub contenders_enter : 0 < length (contenders S table ms σ)
      → Entering S.stations (last_of (contenders S table ms σ))
  contenders_enter h = below_enter S.stations h

  -- which is of the station, and waits
  pub entering_waits : (n i : ℕ) (e : Entering n i) → Waiting ms σ.slot i × ((get_or ms i blank).station ≡ e.station)
  entering_waits n i e =
      let some : first_message ms σ.slot e.station ≡ none → ⊥ = λ q. e.some (e.first ∙ q) in
      let w = first_waits ms σ.slot e.station some in
      rw e.first ((first_numbered ms σ.slot e.station some, w.1), w.0)

  pub contenders_messages : 0 < length (contenders S table ms σ) → Waiting ms σ.slot (last_of (contenders S table ms σ))
  contenders_messages h = (entering_waits S.stations (last_of (contenders S table ms σ)) (contenders_enter h)).0

  -- AS MANY AS STATIONS THAT ADD ONE
  below_number : (n : ℕ) → length (contenders_below S table ms σ n) ≡ sum_below (λ s. length (adds s)) n
  unfolding contenders_below
  below_number zero = refl
  below_number (suc s) =
      length-append (contenders_below S table ms σ s) (adds s) ∙ ap (λ (k : ℕ). k + length (adds s)) (below_number s)

  pub contenders_number : length (contenders S table ms σ) ≡ sum_below (λ s. length (adds s)) S.stations
  contenders_number = below_number S.stations

-- ---- a static leaf

module _ (S : Shop) (table : List ℕ) (ms : List Message) (σ : State) (a p : ℕ) (leaf : σ.standing ≡ Static a 1 p) where
  -- who enters there owns the index
  owner_enters : (s i : ℕ) → enters S table σ s (deadline_of (get_or ms i blank)) ≡ true → get_or table a 0 ≡ s
  unfolding owns
  owner_enters s i e = go (eqb (get_or table (a + 0) 0) s) refl (sym (ap (λ (φ : Standing). enters_in S table σ.reference φ s (deadline_of (get_or ms i blank))) leaf) ∙ e)
    where
      go : (t : Bool) → eqb (get_or table (a + 0) 0) s ≡ t
          → ((false || eqb (get_or table (a + 0) 0) s) && in_class S σ.reference (deadline_of (get_or ms i blank)) (p + 1)) ≡ true → get_or table a 0 ≡ s
      go true q f = ap (λ (k : ℕ). get_or table k 0) (sym (add-zero a)) ∙ eqb-true (get_or table (a + 0) 0) s q
      go false q f = cc

  -- below n: nobody, or the owner alone
  leaf_below : (n : ℕ) → (length (contenders_below S table ms σ n) ≡ 0) ⊎ ((get_or table a 0 < n) × (length (contenders_below S table ms σ n) ≡ 1))
  unfolding contenders_below
  leaf_below zero = inl refl
  leaf_below (suc s) =
      more (contenders_below S table ms σ s) (leaf_below s) (entry S table ms σ s i)
      (⊎_elim (λ e. inl e) (λ h. inr (h.0, owner_enters s i h.2)) (entry_cases S table ms σ s i))
    where
      i : ℕ
      i = first_message ms σ.slot s

      more : (l : List ℕ) → (length l ≡ 0) ⊎ ((get_or table a 0 < s) × (length l ≡ 1)) → (k : List ℕ) → (k ≡ []) ⊎ ((k ≡ i ∷ []) × (get_or table a 0 ≡ s))
          → (length (l ++ k) ≡ 0) ⊎ ((get_or table a 0 < suc s) × (length (l ++ k) ≡ 1))
      more l (inl z) k (inl e) = inl (omega (arith, length-append l k, ap length e))
      more l (inl z) k (inr h) = inr (omega (arith, h.1), omega (arith, length-append l k, ap length h.0))
      more l (inr o) k (inl e) = inr (omega (arith, o.0), omega (arith, length-append l k, ap length e, o.1))
      more l (inr o) k (inr h) = absurd (omega (arith, o.0, h.1))

  -- ON A STATIC LEAF nobody collides: the index has one owner
  pub contenders_leaf : length (contenders S table ms σ) ≤ 1
  contenders_leaf = ⊎_elim (λ z. omega arith) (λ o. omega (arith, o.1)) (leaf_below S.stations)
