-- What the rows of every run have in common, as statements (docs/RULES.md, sections 4, 8 and 10).
--
--   OneBehind slot rows    the first row starts in the slot, each other where the one before it ended; none is empty
--   end_of slot rows        the slot after the last row
--   NoneUntil ms from to   no message arrives after the slot `from` and before the slot `to`
--   StaticUntil S owners ms    `StaticSearches` by slots: nothing arrives until the search's end
--   Told ms rows           each message that a row names as sent has that row's slot as its slot of sending
--   InTree S r             the row r names a subtree of the tree that its phase searches; a free row names none
--   AllInTree S rows       each row does
--   OnePass b rows         the first row starts at the leaf b, each other where the subtree before it starts, if that
--                          collided, else where it ended: no leaf is left out between them, and none comes back
--   StaticPasses S owners ms   each static search of the run goes through its tree in one pass
--   RowsTell S owners ms k what the first k events of the run of the messages ms write, and what they leave
use Rattle.std.specs.Prelude.{◌≡◌, List, [], ◌∷◌, ℕ, ◌+◌, ◌≤◌, ◌<◌, length, get_or}
use Rattle.rows.specs.declared.Row.{Row}
use Rattle.rows.specs.declared.Phase.{Phase}
use Rattle.rows.specs.declared.Phase.TheVariants.{Free as FreePhase, Time as TimePhase}
use Rattle.rows.specs.declared.Phase.TheVariants.{Static as StaticPhase, Bare as BarePhase}
use Rattle.rows.specs.declared.Channel.{Channel}
use Rattle.rows.specs.declared.Channel.TheVariants.{Silence, Busy, Collision}
use Rattle.trees.specs.Search.{sent}
use Rattle.messages.specs.declared.Message.{Message}
use Rattle.messages.specs.Message.{blank}
use Rattle.phases.specs.declared.Shop.{Shop}
use Rattle.phases.specs.declared.Standing.TheVariants.{Static}
use Rattle.phases.specs.Work.{Subtree}
use Rattle.wire.specs.Run.{is_sent}
use Rattle.inputs.specs.Inputs.{table_of}
use Rattle.demands.specs.Claims.{times_in, static_rows, search_from, LeafCollision, StaticSearch, world_at, rows_after}

-- so slots ascend
abbrev pub OneBehind : ℕ → List Row → Type 0
OneBehind slot [] = Unit {0}
OneBehind slot (r ∷ rows) = (r.slot ≡ slot) × (1 ≤ r.used) × OneBehind (slot + r.used) rows

-- the present slot, by the rows alone
abbrev pub end_of : ℕ → List Row → ℕ
end_of slot [] = slot
end_of slot (r ∷ rows) = end_of (slot + r.used) rows

-- what arrives after `from` arrives at `to` or later
abbrev pub NoneUntil : List Message → ℕ → ℕ → Type 0
NoneUntil ms from to = (i : ℕ) → i < length ms → from < (get_or ms i blank).arrival → to ≤ (get_or ms i blank).arrival

-- the second half of demand 3 in its own words: from the collision until the end of the search no message arrives
abbrev pub StaticUntil : Shop → List ℕ → List Message → Type 0
StaticUntil S owners ms =
    (j k s : ℕ)
    → LeafCollision S (table_of owners) (world_at S owners ms j) s
    → NoneUntil ms (world_at S owners ms j).state.slot
    (end_of (world_at S owners ms j).state.slot (search_from (rows_after S owners ms j k)))
    → StaticSearch S (table_of owners) owners (world_at S owners ms j) (rows_after S owners ms j k) s

-- in the list as it stands at the end
abbrev pub Told : List Message → List Row → Type 0
Told ms [] = Unit {0}
Told ms (r ∷ rows) = (r.state ≡ Busy → (get_or ms r.message blank).sent ≡ r.slot) × Told ms rows

-- by the phase; a width is a power of m, so it is not 0, and it divides the first leaf
abbrev pub InTreeAt : Shop → Phase → ℕ → ℕ → Type 0
InTreeAt S FreePhase a w = (a ≡ 0) × (w ≡ 0)
InTreeAt S TimePhase a w = Subtree S.time.branches S.time.leaves a w
InTreeAt S StaticPhase a w = Subtree S.index.branches S.index.leaves a w
InTreeAt S BarePhase a w = ⊥

-- by the row's fields
abbrev pub InTree : Shop → Row → Type 0
InTree S r = InTreeAt S r.phase r.first r.width

-- each row
abbrev pub AllInTree : Shop → List Row → Type 0
AllInTree S [] = Unit {0}
AllInTree S (r ∷ rows) = InTree S r × AllInTree S rows

-- where a search goes on after the subtree (a, w)
abbrev pub goes_on : Channel → ℕ → ℕ → ℕ
goes_on Silence a w = a + w
goes_on Busy a w = a + w
goes_on Collision a w = a

-- row for row
abbrev pub OnePass : ℕ → List Row → Type 0
OnePass b [] = Unit {0}
OnePass b (r ∷ rows) = (r.first ≡ b) × OnePass (goes_on r.state b r.width) rows

-- wherever the run stands in a static search, and however far it goes from there
abbrev pub StaticPasses : Shop → List ℕ → List Message → Type 0
StaticPasses S owners ms =
    (j k a w p : ℕ) → (world_at S owners ms j).state.standing ≡ Static a w p
    → OnePass a (static_rows (rows_after S owners ms j k))

-- the rows start in slot 0; a message's number stands among those sent once where it is marked as sent, and else not
-- at all; no other number does; the marks are the rows' slots; and each row is of a subtree
pub record RowsTell (S : Shop) (owners : List ℕ) (ms : List Message) (k : ℕ) : Type 0 where
  pub few : length (rows_after S owners ms 0 k) ≤ k
  pub behind : OneBehind 0 (rows_after S owners ms 0 k)
  pub ends : (world_at S owners ms k).state.slot ≡ end_of 0 (rows_after S owners ms 0 k)
  pub once : (i : ℕ) → i < length ms
      → times_in (sent (rows_after S owners ms 0 k)) i ≡ is_sent (get_or (world_at S owners ms k).messages i blank)
  pub no_other : (i : ℕ) → length ms ≤ i → times_in (sent (rows_after S owners ms 0 k)) i ≡ 0
  pub told : Told (world_at S owners ms k).messages (rows_after S owners ms 0 k)
  pub placed : AllInTree S (rows_after S owners ms 0 k)
