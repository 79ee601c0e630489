-- What a granted placement says of the input, and its promise.
use mathlib.Core.Path.{◌≡◌, sym, ap, ◌∙◌}
use mathlib.Core.List.{List}
use Prim.Native.Nat.{ℕ, suc, ◌^◌, ◌≤◌}
use lib.Dec.{eqb, leb}
use lib.ListN.{length}
use borrow.Author.Tests.{eqb-true, leb-true}
use Rattle.refusals.specs.declared.Refusal.TheVariants.{LeafList, ActiveCount}
use Rattle.refusals.specs.Numbers.{granted, verdict_number, ask}
use Rattle.refusals.proofs.Verdicts.{ask_granted, then_granted}
use Rattle.trees.specs.Shape.{tree_verdict, Tree}
use Rattle.trees.proofs.ShapeLaws.{Grown, grown}
use Rattle.trees.proofs.PlaceLaws.{Placed}
use Rattle.trees.proofs.SearchLaws.{bare_cost}
use Rattle.placements.specs.Answer.{placement_verdict, Costly}
use Rattle.placements.specs.Promise.{PlacementPromise}

costly : (m n k : ℕ) (after : List ℕ) → Placed m n k after → Costly m n k after
costly m n k after p = record { count = p.leaves; bits = p.bits; active = p.active; costs = bare_cost m n after p.leaves ∙ p.costs }

module _ (m t k : ℕ) (before : List ℕ) (e : placement_verdict m t k (length before) ≡ granted) where
  tests : (tree_verdict m t ≡ granted) × (length before ≡ t) × (k ≤ t)
  tests =
      let a = then_granted (tree_verdict m t) (ask (eqb (length before) t) LeafList (ask (leb k t) ActiveCount granted)) e in
      let b = ask_granted (eqb (length before) t) LeafList (ask (leb k t) ActiveCount granted) a.1 in
      (a.0, eqb-true (length before) t b.0, leb-true k t (ask_granted (leb k t) ActiveCount granted b.1).0)

  pub fill_ready : Tree m (length before) × (k ≤ length before)
  fill_ready = rw tests.1 ((grown m t tests.0).tree, tests.2)

  pub placed : (after : List ℕ) → ((n : ℕ) → length before ≡ m ^ n → Placed m n k after) → PlacementPromise m t k before granted after
  placed after f =
      let G : Grown m t = grown m t tests.0 in
      record {
        numbered = sym (ap verdict_number e);
        kept = λ h. absurd (h e);
        placed = λ g. rw G.height (costly m (suc G.under) k after (f (suc G.under) (tests.1 ∙ G.leaves)));
      }
