-- A static search in a run goes as the bare search of those who contend, slot for slot.
use mathlib.Core.Path.{◌≡◌, refl, sym, ap, ◌∙◌, subst}
use mathlib.Core.Bool.{Bool, true, false, ◌&&◌}
use mathlib.Core.List.{List, [], ◌∷◌}
use Prim.Native.Nat.{ℕ, zero, suc, ◌+◌, ◌^◌, ◌/◌, ◌≤◌, ◌<◌}
use native.Mathlib.Nat.{div-le_self}
use native.Mathlib.Omega.{arith}
use lib.Dec.{ltb}
use lib.ListN.{length, get_or, set}
use borrow.Author.Tests.{ltb-true}
use Rattle.rows.specs.declared.Row.{Row}
use Rattle.rows.specs.declared.Phase.{Phase}
use Rattle.rows.specs.declared.Phase.TheVariants.{Static as StaticPhase}
use Rattle.trees.specs.Search.{active_in, bare_look, bare_rule, lead}
use Rattle.trees.specs.Wire.{next_width, walk}
use Rattle.messages.specs.declared.Message.{Message}
use Rattle.messages.specs.Message.{blank, sent_at, all_sent}
use Rattle.phases.specs.declared.Shop.{Shop}
use Rattle.phases.specs.declared.Standing.TheVariants.{Static}
use Rattle.phases.specs.declared.State.{State}
use Rattle.phases.specs.After.{standing, time_on, static_on}
use Rattle.phases.specs.Work.{Grown}
use Rattle.phases.proofs.StandLaws.{grown_power, next_subtree, Outside, time_outside}
use Rattle.contention.specs.Contenders.{owns, enters_in, contenders, last_of}
use Rattle.contention.proofs.ContendLaws.{contenders_enter}
use Rattle.events.specs.Event.{Event, channel_of, event_on, event}
use Rattle.events.proofs.EventLaws.{event_by}
use Rattle.wire.specs.Run.{World, world_after, run}
use Rattle.demands.specs.Claims.{if_static, static_rows, Quiet, contending, static_height, BeginsLike}
use Rattle.demands.proofs.TreeLaws.{run_outside}
use Rattle.demands.proofs.SettledLaws.{Collided, Settled, settled_later, settled_behind, settled_busy}
use Rattle.demands.proofs.SettledLaws.{contenders_settled}

-- the static rows at the front go like the others; where a row follows them, they are as many
pub record Along (rows others : List Row) : Type 0 where
  pub alike : BeginsLike (static_rows rows) others
  pub whole : length (static_rows rows) < length rows → length (static_rows rows) ≡ length others

-- no row goes like any
along_none : (others : List Row) → Along [] others
along_none others = record { alike = tt; whole = λ h. absurd (omega arith) }

-- a static row that goes like another, before rows that go like others
along_cons : (r o : Row) (rows others : List Row) → r.phase ≡ StaticPhase → r.state ≡ o.state
    → r.first ≡ o.first → r.width ≡ o.width → Along rows others → Along (r ∷ rows) (o ∷ others)
along_cons r o rows others phase state first width al =
    let front : static_rows (r ∷ rows) ≡ r ∷ static_rows rows =
    ap (λ (x : Phase). if_static x r (static_rows rows)) phase in
    record {
      alike = subst (λ (l : List Row). BeginsLike l (o ∷ others)) (sym front) (state, first, width, al.alike);
      whole = λ h. ap length front ∙ ap suc (al.whole (omega (arith, ap length front)));
    }

-- ---- where no static search goes on

-- the run goes like no rows at all
along_outside : (S : Shop) (table : List ℕ) (k : ℕ) (W : World) → Outside W.state.standing
    → Along (run S table k W).0 []
along_outside S table k W h =
    let none = run_outside S table k W h in
    record { alike = rw none tt; whole = λ l. rw none refl }

-- the static tree has q = m ^ n leaves
pub static_power : (S : Shop) → Grown S.index.branches S.index.leaves
    → S.index.leaves ≡ S.index.branches ^ static_height S
static_power S grown =
    grown_power S.index.branches S.index.leaves grown
    ∙ ap (λ (x : ℕ). S.index.branches ^ x) (sym grown.height)

-- ---- where one goes on, for the time leaf p: in a subtree an owner of an index there contends by the collision's test

module _ {S : Shop} {table owners : List ℕ} {was : World} {fit : ℕ → ℕ → Bool} (reference p : ℕ)
    (static : (a w s d : ℕ) → enters_in S table reference (Static a w p) s d ≡ (owns table s a w && fit s d))
    (c : Collided S table owners fit was)
    (grown : Grown S.index.branches S.index.leaves) (long : length owners ≡ S.index.leaves) where
  abbrev m : ℕ
  m = S.index.branches

  abbrev n : ℕ
  n = static_height S

  -- a world in the static search
  abbrev searching : ℕ → Bool → ℕ → ℕ → List Message → World
  searching slot some a w ms = record { state = standing slot reference some (Static a w p); messages = ms }

  -- nothing arrives at the static rows at the front
  abbrev Calm : List Row → Type 0
  Calm rows = Quiet was.messages was.state.slot (static_rows rows)

  -- the rows of j visits of the bare search from the subtree (a, w) on
  abbrev visits : ℕ → ℕ → ℕ → ℕ → List Row
  visits j a w t = (walk (bare_rule (contending S table owners was)) m n j a w t).0

  -- and from b on, where b lies in the tree
  abbrev resumed : ℕ → ℕ → ℕ → Bool → List Row × ℕ
  resumed j b t inside = elim inside [
    | true ↦ walk (bare_rule (contending S table owners was)) m n j b (next_width m n b) t
    | false ↦ ([], t)
  ]

  -- k events go along j visits, from every subtree
  abbrev Follows : ℕ → ℕ → Type 0
  Follows k j = (slot : ℕ) (some : Bool) (a w : ℕ) (ms : List Message) (t : ℕ) → a + w ≤ S.index.leaves
      → Settled c a (searching slot some a w ms) → Calm (run S table k (searching slot some a w ms)).0
      → Along (run S table k (searching slot some a w ms)).0 (visits j a w t)

  -- a subtree that ended at b is finished
  onward : (k j : ℕ) → Follows k j → (slot : ℕ) (some : Bool) (b : ℕ) (ms : List Message) (t : ℕ)
      → Settled c b (searching slot some b 0 ms)
      → Calm (run S table k (record { state = static_on S slot reference some b p; messages = ms })).0
      → Along (run S table k (record { state = static_on S slot reference some b p; messages = ms })).0
      (resumed j b t (ltb b (m ^ n))).0
  onward k j ih slot some b ms t settled calm =
      subst (λ (x : ℕ). Along (run S table k (on (ltb b S.index.leaves))).0 (resumed j b t (ltb b x)).0)
      (static_power S grown) (go (ltb b S.index.leaves) refl calm)
    where
      on : Bool → World
      on inside = record {
        state = elim inside as (λ (_ : Bool). State) [
          | true ↦ standing slot reference some (Static b (next_width m n b) p)
          | false ↦ time_on S slot slot some (p + 1)
        ];
        messages = ms;
      }

      go : (inside : Bool) → ltb b S.index.leaves ≡ inside → Calm (run S table k (on inside)).0
          → Along (run S table k (on inside)).0 (resumed j b t inside).0
      go true e q =
          let room = next_subtree S.index.branches S.index.leaves grown b (ltb-true b S.index.leaves e) in
          ih slot some b (next_width m n b) ms t room.inside
          (settled_later c b (searching slot some b 0 ms) (on true) refl (omega arith) settled) q
      go false e q = along_outside S table k (on false) (time_outside S slot slot some (p + 1))

  -- one event in the subtree (a, w)
  module _ (k j : ℕ) (ih : Follows k j) (slot : ℕ) (some : Bool) (a w : ℕ) (ms : List Message) (t : ℕ)
      (room : a + w ≤ S.index.leaves) (settled : Settled c a (searching slot some a w ms)) where
    abbrev σ : State
    σ = standing slot reference some (Static a w p)

    -- an event's row, and the rows behind it
    abbrev rows_of : Event → List Row
    rows_of E = E.row ∷ (run S table k (world_after E)).0

    -- a visit's row, and the rows of the visits behind it, by the subtree's active leaves
    abbrev visits_of : List ℕ → List Row
    visits_of l =
        (lead {S = ℕ} (bare_look l t a w).rows
        (elim (bare_look l t a w).down as (λ (_ : Bool). List Row × ℕ) [
          | true ↦ walk (bare_rule (contending S table owners was)) m n j a (w / m) (bare_look l t a w).after
          | false ↦ resumed j (a + w) (bare_look l t a w).after (ltb (a + w) (m ^ n))
        ])).0

    -- nothing sent, wherever the search goes on
    same : (used b v : ℕ) → Settled c a (searching (slot + used) some b v ms)
    same used b v = settled_later c a (searching slot some a w ms) _ refl (omega arith) settled

    by_leaves : (l : List ℕ) → length (contenders S table ms σ) ≡ length l
        → (i used : ℕ) → i ≡ last_of (contenders S table ms σ)
        → Calm (rows_of (event_on S ms σ (channel_of (length l)) i used))
        → Along (rows_of (event_on S ms σ (channel_of (length l)) i used)) (visits_of l)
    by_leaves [] e i used is q =
        along_cons _ _ _ _ refl refl refl refl
        (onward k j ih (slot + used) some (a + w) ms (t + 1) (settled_behind c a w _ (same used (a + w) 0)) q.1)
    by_leaves (x ∷ []) e i used is q =
        along_cons _ _ _ _ refl refl refl refl
        (onward k j ih (slot + used) true (a + w) (set ms i (sent_at slot (get_or ms i blank))) (t + 1)
        (settled_busy c a w (omega (arith, long)) (searching slot some a w ms) settled (static a w) _ i slot
        (rw is (contenders_enter S table ms σ (omega arith))) refl (omega arith))
        q.1)
    by_leaves (x ∷ y ∷ l) e i used is q =
        along_cons _ _ _ _ refl refl refl refl
        (ih (slot + used) some a (w / m) ms (t + 1) (omega (arith, div-le_self w S.index.branches))
        (same used a (w / m)) q.1)

    event_along : Calm (rows_of (event S table ms σ))
        → Along (rows_of (event S table ms σ)) (visits_of (active_in (contending S table owners was) a w))
    event_along q =
        let l : List ℕ = active_in (contending S table owners was) a w in
        let e : length (contenders S table ms σ) ≡ length l =
        contenders_settled c a w (omega (arith, long)) (searching slot some a w ms) settled (static a w) q.0 in
        subst (λ (E : Event). Calm (rows_of E) → Along (rows_of E) (visits_of l))
        (sym (event_by S table ms σ (length l) e))
        (by_leaves l e _ _ refl) q

  -- AS FAR AS THE RUN GOES, it goes along the bare search's walk over the wire
  pub follow : (k j : ℕ) → k ≤ j → Follows k j
  follow zero j h slot some a w ms t room settled calm = along_none _
  follow (suc k) zero h slot some a w ms t room settled calm = absurd (omega arith)
  follow (suc k) (suc j) h slot some a w ms t room settled calm = go (follow k j (omega arith)) (all_sent ms) refl
    where
      go : Follows k j → (b : Bool) → all_sent ms ≡ b
          → Along (run S table (suc k) (searching slot some a w ms)).0 (visits (suc j) a w t)
      go ih true e = rw (e, run) (along_none _)
      go ih false e = rw (e, run) (event_along k j ih slot some a w ms t room settled (rw (e, run) at calm))
