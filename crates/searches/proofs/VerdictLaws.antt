-- What a granted search may rely on: the tests behind the verdict, and so that the root may be visited.
use mathlib.Core.Path.{◌≡◌, sym, ap}
use mathlib.Core.List.{List}
use Prim.Native.Nat.{ℕ, suc, ◌*◌, ◌≤◌}
use native.Mathlib.Omega.{arith}
use lib.Dec.{leb, eqb}
use lib.ListN.{length}
use borrow.Author.Tests.{eqb-true, leb-true}
use Rattle.refusals.specs.declared.Refusal.TheVariants.{LeafList, LeafByte, LogRoom}
use Rattle.refusals.specs.Numbers.{granted}
use Rattle.refusals.proofs.Verdicts.{ask_granted, then_granted}
use Rattle.trees.specs.Shape.{tree_verdict, nodes, rows_room}
use Rattle.trees.proofs.ShapeLaws.{Grown, grown, nodes_quotient, nodes_few}
use Rattle.trees.specs.Search.{all_bits}
use Rattle.searches.specs.declared.Searched.{Searched}
use Rattle.searches.specs.Answer.{search_verdict}
use Rattle.searches.specs.Work.{VisitReady}

-- what the tests say
pub record Sound (m t : ℕ) (leaves : List ℕ) (room : ℕ) : Type 0 where
  pub tree : Grown m t
  pub all : length leaves ≡ t
  pub fits : 16 * nodes m (suc tree.under) ≤ room

pub sound : (m t : ℕ) (leaves : List ℕ) (room : ℕ) → granted ≡ search_verdict m t leaves room → Sound m t leaves room
sound m t leaves room e =
    let a = then_granted (tree_verdict m t) _ (sym e) in
    let b = ask_granted (eqb (length leaves) t) LeafList _ a.1 in
    let c = ask_granted (all_bits leaves) LeafByte _ b.1 in
    let d = ask_granted (leb (rows_room m t) room) LogRoom granted c.1 in
    let g = grown m t a.0 in
    let h : rows_room m t ≤ room = leb-true (rows_room m t) room d.0 in
    record {
      tree = g;
      all = eqb-true (length leaves) t b.0;
      fits = omega (arith, ap (λ (x : ℕ). 16 * x) (nodes_quotient m t (suc g.under) g.tree.branches g.leaves));
    }

-- nothing is written yet
pub root_ready : (m t : ℕ) (leaves log : List ℕ) (none : Searched) → granted ≡ search_verdict m t leaves (length log)
    → none.rows ≡ 0 × (none.silences ≡ 0 × none.collisions ≡ 0) → VisitReady leaves log m 0 t none
root_ready m t leaves log none e empty =
    let ok = sound m t leaves (length log) e in
    let rows = empty.0 in
    record {
      height = suc ok.tree.under;
      width = ok.tree.leaves;
      branches = ok.tree.tree.branches;
      inside = omega (arith, ok.all);
      few = omega (arith, ok.all, ok.tree.tree.few);
      room = omega (arith, ok.fits, rows);
      slots = omega (arith, nodes_few m (suc ok.tree.under) ok.tree.tree.branches, ok.tree.leaves, ok.tree.tree.few, rows);
      silent = omega (arith, empty.1.0);
      collided = omega (arith, empty.1.1);
    }
