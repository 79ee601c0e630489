-- A visit: one row where nobody or one is heard; after a collision the children, each written behind the others.
use mathlib.Core.List.{[], ◌∷◌}
use Prim.Native.Nat.{◌<◌, ◌/◌}
use native.Mathlib.Nat.{div-lt_self}
use native.Mathlib.Omega.{arith}
use Rattle.trees.specs.Search.{active_in}
use Rattle.searches.proofs.VisitLaws.{heard_none, heard_leaf, rows_quiet, wide, next_ready, kept_next, kept_all}
use Rattle.searches.proofs.+visit.Goals as goal

pub visit-searched-requires : goal.visit-searched-requires
visit-searched-requires t c =
    let l = c.loop-j in
    let note = c.note-searched in
    let hit = c.in-Several.ensures in
    let smaller : c.args.subtree.width / c.args.m < c.args.subtree.width = div-lt_self (omega (arith, wide _ _ _ _ _ _ c.requires hit)) c.requires.branches in
    let ready = next_ready _ _ _ _ _ _ c.requires hit _ _ note.auto.log note.ensures l.j l.searched l.log (omega arith) l.auto.log l.invariant in (
      omega (arith, c.decreases),
      search ready,
    )

pub loop-j-preserved : goal.loop-j-preserved
loop-j-preserved t c =
    let l = c.loop-j in
    let note = c.note-searched in
    let v = c.visit-searched in
    kept_next _ _ _ _ _ _ c.requires c.in-Several.ensures _ _ note.auto.log note.ensures l.j l.searched v.result l.log v.new.log (omega arith) l.invariant v.ensures

pub returns-in-Nobody : goal.returns-in-Nobody
returns-in-Nobody t c =
    let s = c.args in
    let none = heard_none (active_in s.leaves.now s.subtree.first s.subtree.width) c.in-Nobody.ensures in
    λ n e. rw (rows_quiet s.leaves.now s.m n s.subtree.first s.subtree.width s.before.rows [] e none (omega arith)) c.note.ensures

pub returns-in-One : goal.returns-in-One
returns-in-One t c =
    let s = c.args in
    let leaf = c.in-One.leaf in
    let one = heard_leaf leaf (active_in s.leaves.now s.subtree.first s.subtree.width) c.in-One.ensures in
    λ n e. rw (rows_quiet s.leaves.now s.m n s.subtree.first s.subtree.width s.before.rows (leaf ∷ []) e one (omega arith)) c.note-in-One.ensures

pub returns-after-loop-j : goal.returns-after-loop-j
returns-after-loop-j t c =
    let l = c.loop-j in
    let note = c.note-searched in
    kept_all _ _ _ _ _ _ c.requires c.in-Several.ensures _ _ note.auto.log note.ensures l.j l.searched l.log (omega arith) l.invariant
