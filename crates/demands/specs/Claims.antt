-- The second half of demand 3, as statements about the rows of a run (docs/RULES.md, sections 7 and 10).
--
--   times_in l i               how often the number i stands in the list l
--   OneIndexEach S owners      each station owns one static index, no more and no less
--   static_rows rows           the static rows at the front of some rows
--   search_from rows           the first row, and the static rows right behind it
--   NoneArrives ms from to     no message arrives after the slot `from` and up to the slot `to`
--   Quiet ms from rows         none arrives after the slot `from` and up to the slot of any of the rows
--   LeafCollision S table W s  W stands on a time leaf, and s stations contend, two or more
--   contending S table owners W    one byte for each static index: 1 where its owner contends in W
--   bare_rows S table owners W  the bare search of the static tree with those bytes
--   BeginsLike rows others     the rows visit the subtrees of the first of the others, and show the same states
--   StaticSearch S table owners W rows s    what holds of the static search behind the collision of s stations in W
--   world_at S owners ms j     the world after j events of the run of the messages ms
--   rows_after S owners ms j k  the rows of the k events behind those
--   StaticSearches S owners ms     each leaf collision of the run is followed by such a search
--
-- owners is the index table as it came, table the places that the run works with, the owners at its front.
use Rattle.std.specs.Prelude.{◌≡◌, true, false, List, [], ◌∷◌, map, ℕ, suc, ◌+◌, ◌≤◌, ◌<◌, ltb, eqb, length, get_or, drop}
use Rattle.rows.specs.declared.Row.{Row}
use Rattle.rows.specs.declared.Phase.{Phase}
use Rattle.rows.specs.declared.Phase.TheVariants.{Free as FreePhase, Time as TimePhase}
use Rattle.rows.specs.declared.Phase.TheVariants.{Static as StaticPhase, Bare as BarePhase}
use Rattle.trees.specs.Shape.{height_of}
use Rattle.trees.specs.Search.{ones, search_rows, silences, collisions}
use Rattle.trees.specs.Worst.{worst_of}
use Rattle.messages.specs.declared.Message.{Message}
use Rattle.messages.specs.Message.{blank, first_message}
use Rattle.phases.specs.declared.Shop.{Shop}
use Rattle.phases.specs.declared.Standing.TheVariants.{Time}
use Rattle.contention.specs.Contenders.{entry, contenders}
use Rattle.inputs.specs.Inputs.{table_of}
use Rattle.wire.specs.Run.{World, start, run}

-- 0 where it is not there
abbrev pub times_in : List ℕ → ℕ → ℕ
times_in [] i = 0
times_in (x ∷ l) i = elim (eqb x i) [ true ↦ suc (times_in l i) | false ↦ times_in l i ]

-- the index table names it once; places that name no station are free
abbrev pub OneIndexEach : Shop → List ℕ → Type 0
OneIndexEach S owners = (s : ℕ) → s < S.stations → times_in owners s ≡ 1

-- a static row goes before others; behind another row none is looked for
abbrev pub if_static : Phase → Row → List Row → List Row
if_static FreePhase r rows = []
if_static TimePhase r rows = []
if_static StaticPhase r rows = r ∷ rows
if_static BarePhase r rows = []

-- up to the first row of another phase
abbrev pub static_rows : List Row → List Row
static_rows [] = []
static_rows (r ∷ rows) = if_static r.phase r (static_rows rows)

-- a leaf collision's row, and the rows of the static search that follows it
abbrev pub search_from : List Row → List Row
search_from [] = []
search_from (r ∷ rows) = r ∷ static_rows rows

-- what arrives after `from` arrives after `to`
abbrev pub NoneArrives : List Message → ℕ → ℕ → Type 0
NoneArrives ms from to = (i : ℕ) → i < length ms → from < (get_or ms i blank).arrival → to < (get_or ms i blank).arrival

-- contenders are taken at the rows' slots, so what arrives during the last sending does not count
abbrev pub Quiet : List Message → ℕ → List Row → Type 0
Quiet ms from [] = Unit {0}
Quiet ms from (r ∷ rows) = NoneArrives ms from r.slot × Quiet ms from rows

-- a collision on a time leaf
pub record LeafCollision (S : Shop) (table : List ℕ) (W : World) (s : ℕ) : Type 0 where
  pub leaf : ℕ
  pub stands : W.state.standing ≡ Time leaf 1
  pub contend : length (contenders S table W.messages W.state) ≡ s
  pub collide : 2 ≤ s

-- 1 where station s contends in W
abbrev pub contends : Shop → List ℕ → World → ℕ → ℕ
contends S table W s =
    length (entry S table W.messages W.state s (first_message W.messages W.state.slot s))

-- a free index is no station's
abbrev pub active_by : ℕ → (ℕ → ℕ) → ℕ → ℕ
active_by z f o = elim (ltb o z) [ true ↦ f o | false ↦ 0 ]

-- the leaf bytes of the static tree
abbrev pub contending : Shop → List ℕ → List ℕ → World → List ℕ
contending S table owners W = map (active_by S.stations (contends S table W)) owners

-- the n with q = m ^ n
abbrev pub static_height : Shop → ℕ
static_height S = height_of S.index.branches S.index.leaves

-- the log of the bare search in which those who contend in W are active
abbrev pub bare_rows : Shop → List ℕ → List ℕ → World → List Row
bare_rows S table owners W = search_rows S.index.branches (static_height S) (contending S table owners W)

-- same state, first leaf and width, row for row
abbrev pub BeginsLike : List Row → List Row → Type 0
BeginsLike [] others = Unit {0}
BeginsLike (r ∷ rows) [] = ⊥
BeginsLike (r ∷ rows) (o ∷ others) =
    (r.state ≡ o.state) × (r.first ≡ o.first) × (r.width ≡ o.width) × BeginsLike rows others

-- as many indices are active as stations collided; behind the collision, which stands for the root, the rows go like
-- those of the bare search, as far as they go; where another row follows, that search was gone through whole; and its
-- silent and colliding slots, the collision's own among them, are at most X(s, q)
pub record StaticSearch (S : Shop) (table owners : List ℕ) (W : World) (rows : List Row) (s : ℕ) : Type 0 where
  pub active : ones (contending S table owners W) ≡ s
  pub alike : BeginsLike (static_rows (drop 1 rows)) (drop 1 (bare_rows S table owners W))
  pub whole : length (search_from rows) < length rows → length (search_from rows) ≡ length (bare_rows S table owners W)
  pub costs : silences (search_from rows) + collisions (search_from rows) ≤ worst_of S.index.branches (static_height S) s

-- from the start on
abbrev pub world_at : Shop → List ℕ → List Message → ℕ → World
world_at S owners ms j = (run S (table_of owners) j (start ms)).1

-- fewer than k where the run ends before
abbrev pub rows_after : Shop → List ℕ → List Message → ℕ → ℕ → List Row
rows_after S owners ms j k = (run S (table_of owners) k (world_at S owners ms j)).0

-- wherever the run stands on a time leaf where s stations collide, and however far it goes from there
abbrev pub StaticSearches : Shop → List ℕ → List Message → Type 0
StaticSearches S owners ms =
    (j k s : ℕ)
    → LeafCollision S (table_of owners) (world_at S owners ms j) s
    → Quiet ms (world_at S owners ms j).state.slot (search_from (rows_after S owners ms j k))
    → StaticSearch S (table_of owners) owners (world_at S owners ms j) (rows_after S owners ms j k) s
