-- A tree is filled child by child from the last one on; each child is a smaller tree with its share.
use mathlib.Core.Path.{◌≡◌, refl, subst}
use mathlib.Core.List.{List}
use Prim.Native.Nat.{ℕ, suc, ◌-◌, ◌<◌}
use native.Mathlib.Omega.{arith}
use lib.ListN.{length}
use Rattle.std.proofs.Common.{rules}
use Rattle.placements.proofs.FillLaws.{placed_few, Filling, filling_first, child_ready, filling_next, filling_done}
use Rattle.placements.proofs.+fill_tree.Goals as goal

-- the child in front of those that are placed
back : (m t k j : ℕ) (out : List ℕ) → 0 < j → Filling m t k j out → Filling m t k (suc (j - 1)) out
back m t k j out h f =
    let e : j ≡ suc (j - 1) = omega arith in
    subst (λ (x : ℕ). Filling m t k x out) e f

pub returns-then-k-lt2 : goal.returns-then-k-lt2
returns-then-k-lt2 t c =
    let s = c.args in
    let all = c.fill.ensures.after (λ y h. search rules) in
    let front = c.fill-then-k-lt2.ensures.after (λ y h. search rules) in
    λ n e. placed_few s.m n s.k (length s.leaves.now) c.fill-then-k-lt2.new.self c.fill.new.self c.requires.0.branches c.if-k-lt2.true e all front

pub loop-j-init : goal.loop-j-init
loop-j-init t c =
    let s = c.args in
    filling_first s.m (length s.leaves.now) s.k s.leaves.now c.requires.0 c.requires.1 c.if-k-lt2.false refl

pub fill_tree-requires : goal.fill_tree-requires
fill_tree-requires t c =
    let s = c.args in
    let l = c.loop-j in
    let all = length s.leaves.now in
    let f = back s.m all s.k l.j l.leaves (omega arith) l.invariant in
    let child = child_ready s.m all s.k (l.j - 1) l.leaves f c.share.result c.share.ensures in
    (omega (arith, c.decreases, child.0), child.1)

pub loop-j-preserved : goal.loop-j-preserved
loop-j-preserved t c =
    let s = c.args in
    let l = c.loop-j in
    let all = length s.leaves.now in
    let f = back s.m all s.k l.j l.leaves (omega arith) l.invariant in
    let child = c.fill_tree in
    let given = c.share in
    filling_next s.m all s.k (l.j - 1) l.leaves f given.result child.new.leaves given.ensures child.auto.leaves child.ensures

pub returns : goal.returns
returns t c =
    let s = c.args in
    let l = c.loop-j in
    let all = length s.leaves.now in
    let none : l.j ≡ 0 = omega arith in
    filling_done s.m all s.k l.leaves (subst (λ (x : ℕ). Filling s.m all s.k x l.leaves) none l.invariant)
