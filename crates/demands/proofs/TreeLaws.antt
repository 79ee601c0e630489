-- The subtrees of a run's rows: they lie in their trees, and a static search passes each index once.
use mathlib.Core.Path.{◌≡◌, refl, subst}
use mathlib.Core.Bool.{Bool, true, false}
use mathlib.Core.List.{List, [], ◌∷◌}
use Prim.Native.Nat.{ℕ, zero, suc, ◌+◌, ◌≤◌}
use native.Mathlib.Omega.{arith}
use lib.Dec.{ltb}
use lib.ListN.{length}
use Rattle.rows.specs.declared.Row.{Row}
use Rattle.rows.specs.declared.Channel.{Channel}
use Rattle.rows.specs.declared.Channel.TheVariants.{Silence, Busy, Collision}
use Rattle.trees.specs.Shape.{height_of}
use Rattle.trees.specs.Wire.{next_width}
use Rattle.messages.specs.declared.Message.{Message}
use Rattle.phases.specs.declared.Shop.{Shop}
use Rattle.phases.specs.declared.Standing.{Standing}
use Rattle.phases.specs.declared.Standing.TheVariants.{Free, Time, Static}
use Rattle.phases.specs.declared.State.{State}
use Rattle.phases.specs.After.{standing, time_on, static_on, after_in}
use Rattle.phases.specs.Work.{Sound, Within}
use Rattle.phases.proofs.StandLaws.{Outside, time_outside, InStatic, after_within, after_static}
use Rattle.contention.specs.Contenders.{contenders}
use Rattle.contention.proofs.ContendLaws.{contenders_leaf}
use Rattle.events.specs.Event.{channel_of, phase_of, first_of, width_of, row_of}
use Rattle.inputs.specs.Inputs.{table_of}
use Rattle.wire.specs.Run.{World, event_in, run}
use Rattle.wire.proofs.RunLaws.{run_by}
use Rattle.demands.specs.Claims.{static_rows, world_at, rows_after}
use Rattle.demands.specs.Rows.{InTreeAt, AllInTree, OnePass, StaticPasses}

-- a row is of the subtree where the wire stands
stands_in_tree : (S : Shop) (φ : Standing) → Within S φ → InStatic S φ → InTreeAt S (phase_of φ) (first_of φ) (width_of φ)
stands_in_tree S Free w h = (refl, refl)
stands_in_tree S (Time a n) w h = w
stands_in_tree S (Static a n p) w h = h

-- a collision wants two contenders
collides_two : (n : ℕ) → channel_of n ≡ Collision → 2 ≤ n
collides_two zero e = cc
collides_two (suc zero) e = cc
collides_two (suc (suc n)) e = omega arith

-- EACH ROW IS OF A SUBTREE
pub run_in_tree : (S : Shop) → Sound S → (table : List ℕ) (k : ℕ) (W : World)
    → Within S W.state.standing → InStatic S W.state.standing → AllInTree S (run S table k W).0
run_in_tree S sound table =
    run_by S table (λ k W rows last. Within S W.state.standing → InStatic S W.state.standing → AllInTree S rows)
    (λ k W w h. tt)
    (λ k W last rows ih w h.
    let σ : State = W.state in
    let n : ℕ = length (contenders S table W.messages σ) in
    let slot : ℕ = σ.slot + (event_in S table W).row.used in (
      stands_in_tree S σ.standing w h,
      ih (after_within S sound slot σ (channel_of n) w)
          (after_static S sound.static slot σ.reference σ.sent (channel_of n) σ.standing h
          (λ a p leaf e. omega (arith, collides_two n e, contenders_leaf S table W.messages σ a p leaf))),
    ))

-- ---- one pass

-- the static rows at the front, by where the wire stands before them
abbrev Passes : Standing → List Row → Type 0
Passes Free rows = static_rows rows ≡ []
Passes (Time a w) rows = static_rows rows ≡ []
Passes (Static a w p) rows = OnePass a (static_rows rows)

passes_none : (φ : Standing) → Passes φ []
passes_none Free = refl
passes_none (Time a w) = refl
passes_none (Static a w p) = tt

passes_outside : (φ : Standing) (rows : List Row) → Outside φ → Passes φ rows → static_rows rows ≡ []
passes_outside Free rows h e = e
passes_outside (Time a w) rows h e = e
passes_outside (Static a w p) rows h e = absurd h

-- behind a subtree that ended at b
on_passes : (S : Shop) (slot reference : ℕ) (some : Bool) (b p : ℕ) (rows : List Row)
    → Passes (static_on S slot reference some b p).standing rows → OnePass b (static_rows rows)
on_passes S slot reference some b p rows = go (ltb b S.index.leaves)
  where
    next : Standing
    next = Static b (next_width S.index.branches (height_of S.index.branches S.index.leaves) b) p

    go : (t : Bool)
        → Passes (elim t as (λ (_ : Bool). State) [
          | true ↦ standing slot reference some next
          | false ↦ time_on S slot slot some (p + 1)
        ]).standing rows
        → OnePass b (static_rows rows)
    go true h = h
    go false h =
        let out = time_outside S slot slot some (p + 1) in
        rw (passes_outside (time_on S slot slot some (p + 1)).standing rows out h) tt

-- one row more in front
module _ (S : Shop) (slot next reference : ℕ) (some : Bool) (i used : ℕ) (rows : List Row) where
  passes_more : (c : Channel) (φ : Standing) → Passes (after_in S next reference some c φ).standing rows
      → Passes φ (row_of (standing slot reference some φ) c i used ∷ rows)
  passes_more c Free h = refl
  passes_more c (Time a w) h = refl
  passes_more Silence (Static a w p) h = (refl, on_passes S next reference some (a + w) p rows h)
  passes_more Busy (Static a w p) h = (refl, on_passes S next reference true (a + w) p rows h)
  passes_more Collision (Static a w p) h = (refl, h)

run_passes : (S : Shop) (table : List ℕ) (k : ℕ) (W : World) → Passes W.state.standing (run S table k W).0
run_passes S table =
    run_by S table (λ k W rows last. Passes W.state.standing rows)
    (λ k W. passes_none W.state.standing)
    (λ k W last rows h.
    let σ : State = W.state in
    let r : Row = (event_in S table W).row in
    passes_more S σ.slot (σ.slot + r.used) σ.reference σ.sent r.message r.used rows
    r.state σ.standing h)

-- no static row comes first where no static search goes on
pub run_outside : (S : Shop) (table : List ℕ) (k : ℕ) (W : World) → Outside W.state.standing
    → static_rows (run S table k W).0 ≡ []
run_outside S table k W h = passes_outside W.state.standing (run S table k W).0 h (run_passes S table k W)

-- A STATIC SEARCH PASSES EACH INDEX ONCE
pub static_passes : (S : Shop) (owners : List ℕ) (ms : List Message) → StaticPasses S owners ms
static_passes S owners ms j k a w p e =
    subst (λ (φ : Standing). Passes φ (rows_after S owners ms j k)) e
    (run_passes S (table_of owners) k (world_at S owners ms j))
