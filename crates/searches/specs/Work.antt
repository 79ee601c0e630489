-- What the functions behind the bare search (docs/RULES.md, section 5) ask of each other and leave. No promise to a
-- caller speaks of these.
--
--   is_active b                        whether a leaf byte stands for an active leaf
--   seen_of active                     what the wire tells of a subtree with these active leaves
--   Wrote t log rows r log'            the rows were written behind the t.rows that were, and r is what has been written then
--   NoteReady log t a w                one more row fits
--   VisitReady leaves log m a w t      w is a power of m, the subtree lies among the leaves, each of its nodes has room for a row
--   Visited leaves m a w t log r log'  the search of the subtree was written, whatever its height is called
use Rattle.std.specs.Prelude.{◌≡◌, Bool, not, eqb, List, [], ◌∷◌, ℕ, ◌+◌, ◌*◌, ◌^◌, ◌≤◌, ◌<◌, length}
use Rattle.rows.specs.declared.Row.{Row}
use Rattle.rows.specs.Log.{over, log_bytes}
use Rattle.trees.specs.Shape.{nodes}
use Rattle.trees.specs.Search.{visit, bare_rule, silences, collisions}
use Rattle.searches.specs.declared.Seen.{Seen}
use Rattle.searches.specs.declared.Seen.TheVariants.{Nobody, One, Several}
use Rattle.searches.specs.declared.Searched.{Searched}

abbrev pub is_active : ℕ → Bool
is_active b = not (eqb b 0)

abbrev pub seen_of : List ℕ → Seen
seen_of [] = Nobody
seen_of (p ∷ []) = One p
seen_of (p ∷ q ∷ more) = Several

pub record Wrote (t : Searched) (log : List ℕ) (rows : List Row) (r : Searched) (log' : List ℕ) : Type 0 where
  pub written : log' ≡ over log (16 * t.rows) (log_bytes rows)
  pub counted : r.rows ≡ t.rows + length rows
  pub silent : r.silences ≡ t.silences + silences rows
  pub collided : r.collisions ≡ t.collisions + collisions rows

pub record NoteReady (log : List ℕ) (t : Searched) (a w : ℕ) : Type 0 where
  pub room : 16 * t.rows + 16 ≤ length log
  pub slots : t.rows < 65536
  pub silent : t.silences ≤ t.rows
  pub collided : t.collisions ≤ t.rows
  pub first : a < 65536
  pub width : w < 65536

pub record VisitReady (leaves log : List ℕ) (m a w : ℕ) (t : Searched) : Type 0 where
  pub height : ℕ
  pub width : w ≡ m ^ height
  pub branches : 2 ≤ m
  pub inside : a + w ≤ length leaves
  pub few : length leaves ≤ 1024
  pub room : 16 * (t.rows + nodes m height) ≤ length log
  pub slots : t.rows + nodes m height ≤ 65536
  pub silent : t.silences ≤ t.rows
  pub collided : t.collisions ≤ t.rows

abbrev pub Visited : List ℕ → ℕ → ℕ → ℕ → Searched → List ℕ → Searched → List ℕ → Type 0
Visited leaves m a w t log r log' = (n : ℕ) → w ≡ m ^ n → Wrote t log (visit (bare_rule leaves) m n a t.rows).0 r log'
