-- Where the wire stands after an event: in its tree, with a reference time that grew little, at the slot told.
use mathlib.Core.Path.{◌≡◌, refl, sym, ap, subst}
use mathlib.Core.Bool.{Bool, true, false}
use Prim.Native.Nat.{ℕ, suc, ◌+◌, ◌*◌, ◌^◌, ◌/◌, ◌∣◌, ◌≤◌, ◌<◌}
use native.Mathlib.Nat.{le_dest, mul-one, pow-succ', one-le-pow, mul-le-mul, mul-le-mul_left, div-le_self, zero-mod}
use native.Mathlib.Nat.{dvd_of_mod-eq-zero, mod-eq-zero_of_dvd, dvd_trans, dvd-mul_left, dvd-add_iff_right, le_of_dvd}
use native.Mathlib.Omega.{arith}
use lib.Dec.{ltb}
use borrow.Author.Tests.{ltb-true, ltb-false}
use Rattle.rows.specs.declared.Channel.{Channel}
use Rattle.rows.specs.declared.Channel.TheVariants.{Silence, Busy, Collision}
use Rattle.trees.specs.Shape.{height_of}
use Rattle.trees.specs.Wire.{next_height, next_width}
use Rattle.trees.proofs.Powers.{pow_dvd, below}
use Rattle.trees.proofs.ShapeLaws.{height_sound}
use Rattle.trees.proofs.WireLaws.{next_divides, next_below}
use Rattle.phases.specs.declared.Shop.{Shop}
use Rattle.phases.specs.declared.Standing.{Standing}
use Rattle.phases.specs.declared.Standing.TheVariants.{Free, Time, Static}
use Rattle.phases.specs.declared.State.{State}
use Rattle.phases.specs.After.{standing, time_start, time_over, time_on, static_on, time_down, after_in, after}
use Rattle.phases.specs.Work.{Grown, Sound, Subtree, Within}

-- ---- trees of two leaves or more

module _ (m t : ℕ) (g : Grown m t) where
  pub grown_power : t ≡ m ^ suc g.under
  grown_power = sym (height_sound m t g.under g.height).0

  pub two_leaves : 2 ≤ t
  two_leaves =
      let h : 2 ≤ m = g.tree.branches in
      omega (arith, grown_power, pow-succ' m g.under, mul-le-mul_left m (one-le-pow g.under m (omega arith)), mul-one m)

  -- a multiple of d below t, which is one too, leaves room for d
  room : (d b : ℕ) → d ∣ b → d ∣ t → b < t → b + d ≤ t
  room d b db dt lt =
      let r = le_dest {n = b} {m = t} (omega arith) in
      let e : d ∣ b + r.0 = rw r.1 dt in
      omega (arith, r.1, le_of_dvd (omega (arith, r.1)) ((dvd-add_iff_right d db).1 e))

  -- THE NEXT SUBTREE lies in the tree
  pub next_subtree : (b : ℕ) → b < t → Subtree m t b (next_width m (height_of m t) b)
  next_subtree b lt =
      let d = next_divides m (height_of m t) b in
      let h : next_height m (height_of m t) b ≤ g.under = rw g.height (next_below m g.under b) in
      let dt : next_width m (height_of m t) b ∣ t =
      subst (λ (x : ℕ). next_width m (height_of m t) b ∣ x) (sym grown_power) (pow_dvd m (next_height m (height_of m t) b) (suc g.under) (omega arith)) in
      record {
        height = next_height m (height_of m t) b;
        power = refl;
        starts = d;
        inside = room (next_width m (height_of m t) b) b (dvd_of_mod-eq-zero (next_width m (height_of m t) b) d) dt lt;
      }

  -- the first child of a subtree of two leaves or more
  pub first_child : (a w : ℕ) → 1 < w → Subtree m t a w → Subtree m t a (w / m)
  first_child a w h s =
      let u = below m s.height w g.tree.branches h s.power in
      let d : w / m ∣ w = subst (λ (x : ℕ). w / m ∣ x) u.whole (dvd-mul_left (w / m) m) in
      record {
        height = u.under;
        power = u.width;
        starts = mod-eq-zero_of_dvd (w / m) (dvd_trans (w / m) d (dvd_of_mod-eq-zero w s.starts));
        inside = omega (arith, div-le_self w m, s.inside);
      }

  -- the first child of the root
  pub root_child : Subtree m t 0 (t / m)
  root_child =
      let u = below m (suc g.under) t g.tree.branches two_leaves grown_power in
      record { height = u.under; power = u.width; starts = zero-mod (t / m); inside = omega (arith, div-le_self t m) }

  -- no subtree is empty
  pub some_width : (a w : ℕ) → Subtree m t a w → a < t
  some_width a w s =
      let h : 2 ≤ m = g.tree.branches in
      omega (arith, s.inside, s.power, one-le-pow s.height m (omega arith))

-- ---- what the code's sums need

-- what a time search that sent nothing adds to the reference time
pub compressed : (S : Shop) → Sound S → S.compression * S.width ≤ 8000000
compressed S n = mul-le-mul {n₁ = S.compression} {m₁ = S.width} {n₂ = 8} {m₂ = 1000000} n.factor n.width

-- ---- after an event

-- the reference time by a bound R of the times before, and the standing
record Stands (S : Shop) (R : ℕ) (σ : State) : Type 0 where
  pub reference : σ.reference ≤ R + 8000000
  pub within : Within S σ.standing

module _ (S : Shop) (sound : Sound S) (R slot : ℕ) (now : slot ≤ R) where
  stands_at : (reference : ℕ) (some : Bool) (φ : Standing) → reference ≤ R → Within S φ → Stands S R (standing slot reference some φ)
  stands_at reference some φ h w = record { reference = omega arith; within = w }

  over_stands : (reference : ℕ) (some : Bool) → reference ≤ R → Stands S R (time_over S slot reference some)
  over_stands reference true h = stands_at reference true Free h tt
  over_stands reference false h = record { reference = omega (arith, compressed S sound); within = root_child S.time.branches S.time.leaves sound.time }

  time_stands : (reference : ℕ) (some : Bool) (b : ℕ) → reference ≤ R → Stands S R (time_on S slot reference some b)
  time_stands reference some b h = go (ltb b S.time.leaves) refl
    where
      go : (t : Bool) → ltb b S.time.leaves ≡ t
          → Stands S R (elim t [
            | true ↦ standing slot reference some (Time b (next_width S.time.branches (height_of S.time.branches S.time.leaves) b))
            | false ↦ time_over S slot reference some
          ])
      go true q = stands_at reference some (Time b (next_width S.time.branches (height_of S.time.branches S.time.leaves) b)) h
          (next_subtree S.time.branches S.time.leaves sound.time b (ltb-true b S.time.leaves q))
      go false q = over_stands reference some h

  static_stands : (reference : ℕ) (some : Bool) (b p : ℕ) → reference ≤ R → p < S.time.leaves → Stands S R (static_on S slot reference some b p)
  static_stands reference some b p h lt = go (ltb b S.index.leaves) refl
    where
      go : (t : Bool) → ltb b S.index.leaves ≡ t
          → Stands S R (elim t [
            | true ↦ standing slot reference some (Static b (next_width S.index.branches (height_of S.index.branches S.index.leaves) b) p)
            | false ↦ time_on S slot slot some (p + 1)
          ])
      go true q = stands_at reference some (Static b (next_width S.index.branches (height_of S.index.branches S.index.leaves) b) p) h
          ((next_subtree S.index.branches S.index.leaves sound.static b (ltb-true b S.index.leaves q)).inside, lt)
      go false q = time_stands slot some (p + 1) now

  down_within : (a w : ℕ) → Within S (Time a w) → Within S (time_down S a w)
  down_within a w s = go (ltb 1 w) refl
    where
      go : (t : Bool) → ltb 1 w ≡ t → Within S (elim t [ true ↦ Time a (w / S.time.branches) | false ↦ Static 0 (S.index.leaves / S.index.branches) a ])
      go true q = first_child S.time.branches S.time.leaves sound.time a w (ltb-true 1 w q) s
      go false q = (omega (arith, div-le_self S.index.leaves S.index.branches), some_width S.time.branches S.time.leaves sound.time a w s)

  stands_in : (reference : ℕ) (some : Bool) (c : Channel) (φ : Standing) → reference ≤ R → Within S φ → Stands S R (after_in S slot reference some c φ)
  stands_in reference some Silence Free h w = stands_at reference some Free h tt
  stands_in reference some Busy Free h w = stands_at reference some Free h tt
  stands_in reference some Collision Free h w = stands_at slot false (time_start S) now (root_child S.time.branches S.time.leaves sound.time)
  stands_in reference some Silence (Time a n) h w = time_stands reference some (a + n) h
  stands_in reference some Busy (Time a n) h w = time_stands slot true (a + n) now
  stands_in reference some Collision (Time a n) h w = stands_at reference some (time_down S a n) h (down_within a n w)
  stands_in reference some Silence (Static a n p) h w = static_stands reference some (a + n) p h w.1
  stands_in reference some Busy (Static a n p) h w = static_stands reference true (a + n) p h w.1
  stands_in reference some Collision (Static a n p) h w =
      stands_at reference some (Static a (n / S.index.branches) p) h (omega (arith, w.0, div-le_self n S.index.branches), w.1)

  -- after an event
  after_stands : (σ : State) (c : Channel) → σ.reference ≤ R → Within S σ.standing → Stands S R (after S slot σ c)
  after_stands σ c h w = stands_in σ.reference σ.sent c σ.standing h w

-- the standing stays in its tree
pub after_within : (S : Shop) → Sound S → (slot : ℕ) (σ : State) (c : Channel) → Within S σ.standing → Within S (after S slot σ c).standing
after_within S sound slot σ c w = (after_stands S sound (σ.reference + slot) slot (omega arith) σ c (omega arith) w).within

-- the reference time grows by at most θ(c) over the times before
pub after_reference : (S : Shop) → Sound S → (R slot : ℕ) (σ : State) (c : Channel) → Within S σ.standing → σ.reference ≤ R → slot ≤ R
    → (after S slot σ c).reference ≤ R + 8000000
after_reference S sound R slot σ c w h now = (after_stands S sound R slot now σ c h w).reference

-- ---- the slot is the one told, whatever the numbers are

module _ (S : Shop) (slot : ℕ) where
  over_slot : (reference : ℕ) (some : Bool) → (time_over S slot reference some).slot ≡ slot
  over_slot reference true = refl
  over_slot reference false = refl

  time_slot : (reference : ℕ) (some : Bool) (b : ℕ) → (time_on S slot reference some b).slot ≡ slot
  time_slot reference some b = go (ltb b S.time.leaves)
    where
      go : (t : Bool)
          → (elim t as (λ (_ : Bool). State) [
            | true ↦ standing slot reference some (Time b (next_width S.time.branches (height_of S.time.branches S.time.leaves) b))
            | false ↦ time_over S slot reference some
          ]).slot ≡ slot
      go true = refl
      go false = over_slot reference some

  static_slot : (reference : ℕ) (some : Bool) (b p : ℕ) → (static_on S slot reference some b p).slot ≡ slot
  static_slot reference some b p = go (ltb b S.index.leaves)
    where
      go : (t : Bool)
          → (elim t as (λ (_ : Bool). State) [
            | true ↦ standing slot reference some (Static b (next_width S.index.branches (height_of S.index.branches S.index.leaves) b) p)
            | false ↦ time_on S slot slot some (p + 1)
          ]).slot ≡ slot
      go true = refl
      go false = time_slot slot some (p + 1)

  slot_in : (reference : ℕ) (some : Bool) (c : Channel) (φ : Standing) → (after_in S slot reference some c φ).slot ≡ slot
  slot_in reference some Silence Free = refl
  slot_in reference some Busy Free = refl
  slot_in reference some Collision Free = refl
  slot_in reference some Silence (Time a n) = time_slot reference some (a + n)
  slot_in reference some Busy (Time a n) = time_slot slot true (a + n)
  slot_in reference some Collision (Time a n) = refl
  slot_in reference some Silence (Static a n p) = static_slot reference some (a + n) p
  slot_in reference some Busy (Static a n p) = static_slot reference true (a + n) p
  slot_in reference some Collision (Static a n p) = refl

  pub after_slot : (σ : State) (c : Channel) → (after S slot σ c).slot ≡ slot
  after_slot σ c = slot_in σ.reference σ.sent c σ.standing

-- ---- which standings follow which

-- in no static search
abbrev pub Outside : Standing → Type 0
Outside Free = Unit {0}
Outside (Time a w) = Unit {0}
Outside (Static a w p) = ⊥

over_outside : (S : Shop) (slot reference : ℕ) (some : Bool) → Outside (time_over S slot reference some).standing
over_outside S slot reference true = tt
over_outside S slot reference false = tt

-- a time search goes on or is over
pub time_outside : (S : Shop) (slot reference : ℕ) (some : Bool) (b : ℕ)
    → Outside (time_on S slot reference some b).standing
time_outside S slot reference some b = go (ltb b S.time.leaves)
  where
    next : Standing
    next = Time b (next_width S.time.branches (height_of S.time.branches S.time.leaves) b)

    go : (t : Bool)
        → Outside (elim t as (λ (_ : Bool). State) [
          | true ↦ standing slot reference some next
          | false ↦ time_over S slot reference some
        ]).standing
    go true = tt
    go false = over_outside S slot reference some

-- where it is in a static search, in a subtree of the static tree
abbrev pub InStatic : Shop → Standing → Type 0
InStatic S Free = Unit {0}
InStatic S (Time a w) = Unit {0}
InStatic S (Static a w p) = Subtree S.index.branches S.index.leaves a w

outside_in : (S : Shop) (φ : Standing) → Outside φ → InStatic S φ
outside_in S Free h = tt
outside_in S (Time a w) h = tt
outside_in S (Static a w p) h = absurd h

time_in : (S : Shop) (slot reference : ℕ) (some : Bool) (b : ℕ) → InStatic S (time_on S slot reference some b).standing
time_in S slot reference some b =
    outside_in S (time_on S slot reference some b).standing (time_outside S slot reference some b)

module _ (S : Shop) (grown : Grown S.index.branches S.index.leaves) (slot reference : ℕ) where
  on_in : (some : Bool) (b p : ℕ) → InStatic S (static_on S slot reference some b p).standing
  on_in some b p = go (ltb b S.index.leaves) refl
    where
      next : Standing
      next = Static b (next_width S.index.branches (height_of S.index.branches S.index.leaves) b) p

      go : (t : Bool) → ltb b S.index.leaves ≡ t
          → InStatic S (elim t as (λ (_ : Bool). State) [
            | true ↦ standing slot reference some next
            | false ↦ time_on S slot slot some (p + 1)
          ]).standing
      go true e = next_subtree S.index.branches S.index.leaves grown b (ltb-true b S.index.leaves e)
      go false e = time_in S slot slot some (p + 1)

  down_in : (a w : ℕ) → InStatic S (time_down S a w)
  down_in a w = go (ltb 1 w)
    where
      go : (t : Bool)
          → InStatic S (elim t as (λ (_ : Bool). Standing) [
            | true ↦ Time a (w / S.time.branches)
            | false ↦ Static 0 (S.index.leaves / S.index.branches) a
          ])
      go true = tt
      go false = root_child S.index.branches S.index.leaves grown

  -- THE STATIC SUBTREE AFTER AN EVENT, where no single index collides
  pub after_static : (some : Bool) (c : Channel) (φ : Standing) → InStatic S φ
      → ((a p : ℕ) → φ ≡ Static a 1 p → c ≡ Collision → ⊥) → InStatic S (after_in S slot reference some c φ).standing
  after_static some Silence Free h f = tt
  after_static some Busy Free h f = tt
  after_static some Collision Free h f = tt
  after_static some Silence (Time a w) h f = time_in S slot reference some (a + w)
  after_static some Busy (Time a w) h f = time_in S slot slot true (a + w)
  after_static some Collision (Time a w) h f = down_in a w
  after_static some Silence (Static a w p) h f = on_in some (a + w) p
  after_static some Busy (Static a w p) h f = on_in true (a + w) p
  after_static some Collision (Static a w p) h f =
      first_child S.index.branches S.index.leaves grown a w (wide (ltb 1 w) refl) h
    where
      m : 2 ≤ S.index.branches
      m = grown.tree.branches

      wide : (t : Bool) → ltb 1 w ≡ t → 1 < w
      wide true e = ltb-true 1 w e
      wide false e =
          let some = one-le-pow h.height S.index.branches (omega (arith, m)) in
          let one : w ≡ 1 = omega (arith, ltb-false 1 w e, h.power, some) in
          absurd (f a p (ap (λ (x : ℕ). Static a x p) one) refl)
