-- The second half of demand 3: a static search costs at most the worst count of those who collided.
use mathlib.Core.Path.{◌≡◌, refl, sym, ap, ◌∙◌, subst}
use mathlib.Core.Bool.{Bool, true, false}
use mathlib.Core.List.{List, [], ◌∷◌, map}
use Prim.Native.Nat.{ℕ, zero, suc, ◌+◌, ◌*◌, ◌^◌, ◌/◌, ◌≤◌, zero-le}
use native.Mathlib.Nat.{one-mul}
use native.Mathlib.Omega.{arith}
use lib.ListN.{length, drop, replicate, length-map}
use Rattle.refusals.specs.Numbers.{granted}
use Rattle.rows.specs.declared.Row.{Row}
use Rattle.rows.specs.declared.Channel.TheVariants.{Collision}
use Rattle.trees.specs.Shape.{nodes}
use Rattle.trees.specs.Search.{lost, cost, ones, bare_row, bare_rule}
use Rattle.trees.specs.Wire.{walk}
use Rattle.trees.specs.Worst.{worst_of}
use Rattle.trees.proofs.SearchLaws.{cost_both}
use Rattle.trees.proofs.WireLaws.{search_collides}
use Rattle.trees.proofs.Demand3.{searched}
use Rattle.messages.specs.declared.Message.{Message}
use Rattle.messages.specs.Message.{first_message, all_sent}
use Rattle.messages.proofs.KeptLaws.{bare, bare_length, bare_arrival}
use Rattle.phases.specs.declared.Shop.{Shop}
use Rattle.phases.specs.declared.Standing.{Standing}
use Rattle.phases.specs.declared.Standing.TheVariants.{Time}
use Rattle.phases.specs.After.{standing}
use Rattle.phases.specs.Work.{Grown}
use Rattle.phases.proofs.StandLaws.{root_child}
use Rattle.contention.specs.Contenders.{in_class, contenders}
use Rattle.contention.proofs.ContendLaws.{contenders_number, entry_few}
use Rattle.events.specs.Event.{Event}
use Rattle.events.proofs.EventLaws.{event_by}
use Rattle.inputs.specs.Inputs.{free, table_of, run_verdict}
use Rattle.inputs.proofs.TableLaws.{table_front}
use Rattle.inputs.proofs.GrantLaws.{passed}
use Rattle.wire.specs.Run.{World, world_after, event_in, run}
use Rattle.wire.proofs.KeptLaws.{same_records}
use Rattle.demands.specs.Claims.{OneIndexEach, times_in, static_rows, search_from, Quiet, LeafCollision}
use Rattle.demands.specs.Claims.{BeginsLike, contends, contending, static_height, bare_rows, StaticSearch}
use Rattle.demands.specs.Claims.{world_at, rows_after, StaticSearches}
use Rattle.demands.proofs.IndexLaws.{Front, front_of, sum_alike, ones_owners}
use Rattle.demands.specs.Rows.{StaticUntil}
use Rattle.demands.proofs.FollowLaws.{Along, static_power, follow}
use Rattle.demands.proofs.RowLaws.{lasting_same, lasting_fit, behind_from, quiet_until}

-- rows that go like the first of others cost no more
cost_alike : (rows others : List Row) → BeginsLike rows others → cost rows ≤ cost others
cost_alike [] others h = zero-le
cost_alike (r ∷ rows) [] h = absurd h
cost_alike (r ∷ rows) (o ∷ others) h = omega (arith, ap lost h.0, cost_alike rows others h.3)

module _ (S : Shop) (table owners : List ℕ) (one : OneIndexEach S owners) (front : Front table owners)
    (grown : Grown S.index.branches S.index.leaves) (long : length owners ≡ S.index.leaves) where
  abbrev m : ℕ
  m = S.index.branches

  abbrev n : ℕ
  n = static_height S

  -- the rows of the bare search of those who contend in W, behind the root
  abbrev behind : World → ℕ → List Row
  behind W j = (walk (bare_rule (contending S table owners W)) m n j 0 (S.index.leaves / m) 1).0

  -- as many indices are active as stations contend
  as_many : (W : World) → ones (contending S table owners W) ≡ length (contenders S table W.messages W.state)
  as_many W =
      let f : ℕ → ℕ = contends S table W in
      let few : (s : ℕ) → f s ≤ 1 =
      λ s. entry_few S table W.messages W.state s (first_message W.messages W.state.slot s) in
      ones_owners S.stations f few owners
      ∙ sum_alike (λ s. times_in owners s * f s) f S.stations (λ s h. rw (one s h) (one-mul (f s)))
      ∙ sym (contenders_number S table W.messages W.state)

  module _ (W : World) (s : ℕ) (more : 2 ≤ s)
      (contend : length (contenders S table W.messages W.state) ≡ s) where
    -- no row was written
    pub none_written : StaticSearch S table owners W [] s
    none_written = record {
      active = as_many W ∙ contend;
      alike = tt;
      whole = λ h. absurd (omega arith);
      costs = zero-le;
    }

    -- the collision's row, and rows that go along the walk over the children
    pub some_written : (r : Row) (rows : List Row) (j : ℕ) → r.state ≡ Collision → nodes m n ≤ suc j
        → Along rows (behind W j) → StaticSearch S table owners W (r ∷ rows) s
    some_written r rows j collides few al =
        let leaves : List ℕ = contending S table owners W in
        let size : length leaves ≡ m ^ n = length-map owners _ ∙ long ∙ static_power S grown in
        let all : ones leaves ≡ s = as_many W ∙ contend in
        let found : bare_rows S table owners W ≡ bare_row 0 Collision 0 (m ^ n) 65535 ∷ behind W j =
        search_collides m n leaves j grown.tree.branches size (omega arith) few
        ∙ ap (λ (q : ℕ). bare_row 0 Collision 0 (m ^ n) 65535 ∷ (walk (bare_rule leaves) m n j 0 (q / m) 1).0)
        (sym (static_power S grown)) in
        record {
          active = all;
          alike = rw found al.alike;
          whole = λ h. rw found (ap suc (al.whole (omega arith)));
          costs = omega (
            arith,
            cost_both (r ∷ static_rows rows),
            ap lost collides,
            cost_alike (static_rows rows) (behind W j) al.alike,
            ap cost found,
            cost_both (bare_rows S table owners W),
            (searched m n leaves grown.tree.branches size).costs,
            ap (worst_of m n) all,
          );
        }

  -- from a world on the time leaf p
  module _ (slot reference : ℕ) (some : Bool) (p : ℕ) (ms : List Message) where
    abbrev W : World
    W = record { state = standing slot reference some (Time p 1); messages = ms }

    -- an event's row, and the rows of k more
    abbrev rows_of : ℕ → Event → List Row
    rows_of k E = E.row ∷ (run S table k (world_after E)).0

    collided : (k s : ℕ) → 2 ≤ s → length (contenders S table ms W.state) ≡ s
        → Quiet ms slot (search_from (rows_of k (event_in S table W)))
        → StaticSearch S table owners W (rows_of k (event_in S table W)) s
    collided k zero more contend q = absurd (omega arith)
    collided k (suc zero) more contend q = absurd (omega arith)
    collided k (suc (suc x)) more contend q =
        subst
        (λ (E : Event). Quiet ms slot (search_from (rows_of k E))
        → StaticSearch S table owners W (rows_of k E) (suc (suc x)))
        (sym (event_by S table ms W.state (suc (suc x)) contend))
        (λ quiet. some_written W (suc (suc x)) more contend _ _ (nodes m n + k) refl (omega arith)
        (follow {was = W} {fit = λ s d. in_class S reference d (p + 1)} reference p (λ a w s d. refl)
        (record { one = one; front = front; free = λ s d. refl }) grown long k (nodes m n + k)
        (omega arith) (slot + 1) some 0 (S.index.leaves / m) ms 1
        (root_child S.index.branches S.index.leaves grown).inside
        (record { kept = refl; marks = λ j h. refl; later = omega arith })
        quiet.1))
        q

    from_leaf : (k s : ℕ) → 2 ≤ s → length (contenders S table ms W.state) ≡ s
        → Quiet ms slot (search_from (run S table k W).0) → StaticSearch S table owners W (run S table k W).0 s
    from_leaf zero s more contend q = none_written W s more contend
    from_leaf (suc k) s more contend q = go (all_sent ms) refl
      where
        go : (b : Bool) → all_sent ms ≡ b → StaticSearch S table owners W (run S table (suc k) W).0 s
        go true e = rw (e, run) (none_written W s more contend)
        go false e = rw (e, run) (collided k s more contend (rw (e, run) at q))

  -- A STATIC SEARCH, from any world that stands on a time leaf
  pub leaf_search : (W : World) (k s : ℕ) → LeafCollision S table W s
      → Quiet W.messages W.state.slot (search_from (run S table k W).0)
      → StaticSearch S table owners W (run S table k W).0 s
  leaf_search W k s c q =
      subst
      (λ (φ : Standing). length (contenders S table W.messages (at φ).state) ≡ s
      → Quiet W.messages W.state.slot (search_from (run S table k (at φ)).0)
      → StaticSearch S table owners (at φ) (run S table k (at φ)).0 s)
      (sym c.stands)
      (from_leaf W.state.slot W.state.reference W.state.sent c.leaf W.messages k s c.collide)
      c.contend q
    where
      at : Standing → World
      at φ = record {
        state = standing W.state.slot W.state.reference W.state.sent φ;
        messages = W.messages;
      }

-- arrivals do not change, so what is quiet stays so
quiet_same : (ms ns : List Message) → map bare ns ≡ map bare ms → (from : ℕ) (rows : List Row)
    → Quiet ms from rows → Quiet ns from rows
quiet_same ms ns same from [] q = tt
quiet_same ms ns same from (r ∷ rows) q = (
  λ i h l.
      let e = bare_arrival ms ns same i in
      rw e (q.0 i (omega (arith, bare_length ms ns same)) (rw e at l)),
  quiet_same ms ns same from rows q.1,
)

-- THE SECOND HALF OF DEMAND 3, for every granted input
pub static_searches : (S : Shop) (owners : List ℕ) (whole : Bool) (ms : List Message) (budget room : ℕ)
    → run_verdict S owners whole ms budget room ≡ granted → OneIndexEach S owners → StaticSearches S owners ms
static_searches S owners whole ms budget room granted one j k s c q =
    let p = passed S owners whole ms budget room granted in
    let W : World = world_at S owners ms j in
    let front = front_of (table_of owners) owners (drop (length owners) (replicate 1024 free)) (table_front owners) in
    leaf_search S (table_of owners) owners one front p.index p.entries W k s c
    (quiet_same ms W.messages (sym (same_records S (table_of owners) j ms)) W.state.slot
    (search_from (rows_after S owners ms j k)) q)

-- THE SAME BY SLOTS: nothing arrives from the collision until the search's end
pub static_until : (S : Shop) (owners : List ℕ) (whole : Bool) (ms : List Message) (budget room : ℕ)
    → run_verdict S owners whole ms budget room ≡ granted → OneIndexEach S owners → StaticUntil S owners ms
static_until S owners whole ms budget room granted one j k s c q =
    let p = passed S owners whole ms budget room granted in
    let W : World = world_at S owners ms j in
    let lasting = lasting_same ms W.messages (sym (same_records S (table_of owners) j ms))
    (lasting_fit S.stations ms p.fit) in
    static_searches S owners whole ms budget room granted one j k s c
    (quiet_until ms W.state.slot (rows_after S owners ms j k) (behind_from S (table_of owners) k W lasting) q)
