-- What the functions of a run ask of each other. No promise to a caller speaks of these.
--
--   Grown m t          a tree of two leaves or more
--   next_in K b        the width of the next subtree from leaf b on, or none where no leaf remains
--   Sound S            the shop's numbers are in range
--   Subtree m t a w    a subtree of the tree of t leaves
--   Within S φ         where the wire stands lies in its tree
use Rattle.std.specs.Prelude.{◌≡◌, true, false, ℕ, suc, ◌+◌, ◌^◌, ◌%◌, ◌≤◌, ◌<◌, ltb, Option, Some, None}
use Rattle.trees.specs.Shape.{Tree, height_of}
use Rattle.trees.specs.Wire.{next_width}
use Rattle.phases.specs.declared.Shape.{Shape}
use Rattle.phases.specs.declared.Shop.{Shop}
use Rattle.phases.specs.declared.Standing.{Standing}
use Rattle.phases.specs.declared.Standing.TheVariants.{Free, Time, Static}

-- a tree of two leaves or more
pub record Grown (m t : ℕ) : Type 0 where
  pub tree : Tree m t
  pub under : ℕ
  pub height : height_of m t ≡ suc under

-- by the width that the wire tells
abbrev pub next_in : Shape → ℕ → Option ℕ
next_in K b =
    elim (ltb b K.leaves) [
      | true ↦ Some (next_width K.branches (height_of K.branches K.leaves) b)
      | false ↦ None
    ]

pub record Sound (S : Shop) : Type 0 where
  pub time : Grown S.time.branches S.time.leaves
  pub static : Grown S.index.branches S.index.leaves
  pub stations : S.stations ≤ 32
  pub wide : 0 < S.width
  pub width : S.width ≤ 1000000
  pub offset : S.offset ≤ 1000000
  pub factor : S.compression ≤ 8

-- a subtree: first leaf, width, a power of m that divides the first leaf
pub record Subtree (m t a w : ℕ) : Type 0 where
  pub height : ℕ
  pub power : w ≡ m ^ height
  pub starts : a % w ≡ 0
  pub inside : a + w ≤ t

-- a subtree of the time tree; a static one ends in its tree (that a static leaf has no collision is a fact about its owner, not of the wire)
abbrev pub Within : Shop → Standing → Type 0
Within S Free = Unit {0}
Within S (Time a w) = Subtree S.time.branches S.time.leaves a w
Within S (Static a w p) = (a + w ≤ S.index.leaves) × (p < S.time.leaves)
