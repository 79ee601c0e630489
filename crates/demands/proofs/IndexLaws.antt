-- Stations and their static indices: who contends, counted by the stations and by the indices.
use mathlib.Core.Path.{◌≡◌, refl, sym, ap, ◌∙◌, subst}
use mathlib.Core.Bool.{Bool, true, false, ◌||◌}
use mathlib.Core.List.{List, [], ◌∷◌, ◌++◌, map}
use mathlib.Core.Logic.{⊎_elim}
use Prim.Native.Nat.{ℕ, zero, suc, ◌+◌, ◌*◌, ◌≤◌, ◌<◌}
use native.Mathlib.Nat.{zero-mul}
use native.Mathlib.Omega.{arith}
use lib.Dec.{ltb, eqb}
use lib.ListN.{length, get_or, take, drop, length-drop, take-append-drop, get_or-append}
use lib.Seq.{take-suc, get_or-drop, drop-drop}
use borrow.Author.Tests.{lt-ltb, le-ltb, eqb-true, eqb-false}
use Rattle.std.specs.List.{take-map}
use Rattle.trees.specs.Search.{ones}
use Rattle.trees.proofs.Powers.{le_or_lt}
use Rattle.trees.proofs.LeafLaws.{part}
use Rattle.contention.specs.Contenders.{owns}
use Rattle.contention.proofs.ContendLaws.{sum_below}
use Rattle.demands.specs.Claims.{times_in, active_by}

-- ---- sums over stations

pub sum_alike : (f g : ℕ → ℕ) (n : ℕ) → ((s : ℕ) → s < n → f s ≡ g s) → sum_below f n ≡ sum_below g n
sum_alike f g zero h = refl
sum_alike f g (suc n) h = omega (arith, sum_alike f g n (λ s l. h s (omega arith)), h n (omega arith))

sum_zero : (f : ℕ → ℕ) (n : ℕ) → sum_below (λ s. 0 * f s) n ≡ 0
sum_zero f zero = refl
sum_zero f (suc n) = omega (arith, sum_zero f n, zero-mul (f n))

sum_add : (f g : ℕ → ℕ) (n : ℕ) → sum_below (λ s. f s + g s) n ≡ sum_below f n + sum_below g n
sum_add f g zero = refl
sum_add f g (suc n) = omega (arith, sum_add f g n)

-- 1 or 0
abbrev pub bit : Bool → ℕ
bit b = elim b [ true ↦ 1 | false ↦ 0 ]

module _ (z : ℕ) (f : ℕ → ℕ) (o : ℕ) where
  active_in : o < z → active_by z f o ≡ f o
  active_in h = ap (λ (b : Bool). elim b [ true ↦ f o | false ↦ 0 ]) (lt-ltb o z h)

  active_out : z ≤ o → active_by z f o ≡ 0
  active_out h = ap (λ (b : Bool). elim b [ true ↦ f o | false ↦ 0 ]) (le-ltb o z h)

  active_few : f o ≤ 1 → active_by z f o ≤ 1
  active_few h = ⊎_elim (λ l. omega (arith, active_out l)) (λ l. omega (arith, active_in l)) (le_or_lt z o)

-- where only the number o counts, f of it is left
sum_one : (f : ℕ → ℕ) (o n : ℕ) → sum_below (λ s. bit (eqb o s) * f s) n ≡ active_by n f o
sum_one f o zero = sym (active_out 0 f o (omega arith))
sum_one f o (suc n) = go (eqb o n) refl (sum_one f o n)
  where
    go : (b : Bool) → eqb o n ≡ b → sum_below (λ s. bit (eqb o s) * f s) n ≡ active_by n f o
        → sum_below (λ s. bit (eqb o s) * f s) n + bit b * f n ≡ active_by (suc n) f o
    go true e h =
        let same : o ≡ n = eqb-true o n e in
        omega (arith, active_out n f o (omega arith), active_in (suc n) f o (omega arith), ap f same)
    go false e h =
        let other : o ≡ n → ⊥ = eqb-false o n e in
        ⊎_elim
        (λ l. omega (arith, active_out n f o l, active_out (suc n) f o (omega arith), zero-mul (f n)))
        (λ l. omega (arith, active_in n f o l, active_in (suc n) f o (omega arith), zero-mul (f n)))
        (le_or_lt n o)

-- ---- entries of the index table

-- one entry more
pub times_cons : (o : ℕ) (l : List ℕ) (s : ℕ) → times_in (o ∷ l) s ≡ bit (eqb o s) + times_in l s
times_cons o l s = go (eqb o s)
  where
    go : (b : Bool) → elim b [ true ↦ suc (times_in l s) | false ↦ times_in l s ] ≡ bit b + times_in l s
    go true = omega arith
    go false = omega arith

times_append : (l k : List ℕ) (s : ℕ) → times_in (l ++ k) s ≡ times_in l s + times_in k s
times_append [] k s = omega arith
times_append (o ∷ l) k s =
    omega (arith, times_cons o (l ++ k) s, times_cons o l s, times_append l k s)

-- those before a place, and from it on
pub times_split : (l : List ℕ) (s a : ℕ) → times_in l s ≡ times_in (take a l) s + times_in (drop a l) s
times_split l s a =
    ap (λ (k : List ℕ). times_in k s) (sym (take-append-drop a l)) ∙ times_append (take a l) (drop a l) s

-- those of a part, and behind it
pub ahead_split : (l : List ℕ) (s a w : ℕ)
    → times_in (drop a l) s ≡ times_in (part l a w) s + times_in (drop (a + w) l) s
ahead_split l s a w =
    times_split (drop a l) s w ∙ ap (λ (k : List ℕ). times_in (part l a w) s + times_in k s) (drop-drop w a l)

-- THOSE WHO CONTEND, counted by the entries and by the stations
pub ones_owners : (z : ℕ) (f : ℕ → ℕ) → ((s : ℕ) → f s ≤ 1) → (l : List ℕ)
    → ones (map (active_by z f) l) ≡ sum_below (λ s. times_in l s * f s) z
ones_owners z f few [] = sym (sum_zero f z)
ones_owners z f few (o ∷ l) =
    first (active_by z f o) (map (active_by z f) l) (active_few z f o (few o))
    ∙ ap (λ (k : ℕ). active_by z f o + k) (ones_owners z f few l)
    ∙ ap (λ (k : ℕ). k + sum_below (λ s. times_in l s * f s) z) (sym (sum_one f o z))
    ∙ sym (sum_add (λ s. bit (eqb o s) * f s) (λ s. times_in l s * f s) z)
    ∙ sum_alike (λ s. bit (eqb o s) * f s + times_in l s * f s) (λ s. times_in (o ∷ l) s * f s) z
    (λ s h. rw (times_cons o l s) (omega arith))
  where
    first : (b : ℕ) (l : List ℕ) → b ≤ 1 → ones (b ∷ l) ≡ b + ones l
    first zero l h = omega arith
    first (suc zero) l h = omega arith
    first (suc (suc b)) l h = absurd (omega arith)

-- the leaf bytes of a part
pub part_map : (f : ℕ → ℕ) (l : List ℕ) (a w : ℕ) → part (map f l) a w ≡ map f (part l a w)
part_map f l zero w = take-map f w l
part_map f [] (suc a) w = take-map f w []
part_map f (o ∷ l) (suc a) w = part_map f l a w

-- ---- the owners at the front of the table

-- a station owns one of the w indices from a on where that part of the owners names it
abbrev pub Front : List ℕ → List ℕ → Type 0
Front table owners = (s a w : ℕ) → a + w ≤ length owners → owns table s a w ≡ ltb 0 (times_in (part owners a w) s)

-- some, or one more
some_or : (x : ℕ) (b : Bool) → (ltb 0 x || b) ≡ ltb 0 (x + bit b)
some_or zero true = refl
some_or zero false = refl
some_or (suc x) b = rw (lt-ltb 0 (suc x) (omega arith), lt-ltb 0 (suc x + bit b) (omega arith)) refl

front_append : (owners rest : List ℕ) → Front (owners ++ rest) owners
unfolding owns
front_append owners rest s a zero h = refl
front_append owners rest s a (suc w) h =
    let o : ℕ = get_or owners (a + w) 0 in
    let front : part owners a (suc w) ≡ part owners a w ++ (o ∷ []) =
    take-suc (drop a owners) w 0 (omega (arith, length-drop a owners))
    ∙ ap (λ (x : ℕ). part owners a w ++ (x ∷ [])) (get_or-drop a owners w 0) in
    let more : times_in (part owners a w) s + bit (eqb o s) ≡ times_in (part owners a (suc w)) s = omega (
      arith,
      times_append (part owners a w) (o ∷ []) s,
      times_cons o [] s,
      ap (λ (l : List ℕ). times_in l s) front,
    ) in
    ap (λ (b : Bool). b || eqb (get_or (owners ++ rest) (a + w) 0) s) (front_append owners rest s a w (omega arith))
    ∙ ap (λ (x : ℕ). ltb 0 (times_in (part owners a w) s) || eqb x s)
    (get_or-append owners rest 0 (a + w) (omega arith))
    ∙ some_or (times_in (part owners a w) s) (eqb o s)
    ∙ ap (ltb 0) more

pub front_of : (table owners rest : List ℕ) → table ≡ owners ++ rest → Front table owners
front_of table owners rest e = subst (λ (t : List ℕ). Front t owners) (sym e) (front_append owners rest)
