-- What the filling of a tree stands on: the code of a share, the children written so far, a part of the list written anew.
use mathlib.Core.Path.{◌≡◌, sym, ap, ◌∙◌, subst}
use mathlib.Core.List.{List, [], ◌++◌}
use Prim.Native.Nat.{ℕ, zero, suc, ◌+◌, ◌*◌, ◌^◌, ◌/◌, ◌-◌, ◌≤◌, ◌<◌}
use native.Mathlib.Nat.{zero-mul, suc-mul, sub-zero, sub_self, one-le-pow}
use native.Mathlib.Omega.{arith}
use lib.ListN.{length, take, drop, replicate, length-drop, drop_of_length-le}
use lib.Seq.{length-take-le, drop_at, drop-drop}
use borrow.Rule.Slice.PartMut.{put_mid, post_of, same_len_mid}
use Rattle.trees.specs.Shape.{Tree}
use Rattle.trees.proofs.Powers.{Below, below, under, smaller, shrinks, child_room, power}
use Rattle.trees.proofs.Shares.{share, up_from}
use Rattle.trees.proofs.ShareLaws.{shares_serve, shares_fit}
use Rattle.trees.proofs.SlopeTheorem.{shares_worth}
use Rattle.trees.proofs.PlaceLaws.{Placed, PlacedKids, place_none, place_one, kids_none, kids_cons, place_node}

-- ---- none and one

pub placed_few : (m n k t : ℕ) (front all : List ℕ) → 2 ≤ m → k < 2 → t ≡ m ^ n → all ≡ replicate t 0 → front ≡ replicate (length (take k all)) 1 → Placed m n k (front ++ drop k all)
placed_few m n zero t front all h g e a f = simp (f, a, e) (place_none m n (omega arith))
placed_few m n (suc zero) zero front all h g e a f = absurd (omega (arith, one-le-pow n m (omega arith)))
placed_few m n (suc zero) (suc w) front all h g e a f = simp (f, a) (place_one m n w (omega arith) e)
placed_few m n (suc (suc k)) t front all h g e a f = absurd (omega arith)

-- ---- a part of a list, written anew

mid_length : (a v : ℕ) (xs : List ℕ) → a + v ≤ length xs → length (take (a + v - a) (drop a xs)) ≡ v
mid_length a v xs h =
    let e : a + v - a ≡ v = omega arith in
    rw e (length-take-le v (drop a xs) (omega (arith, length-drop a xs)))

mid_drop : (a v : ℕ) (xs ys : List ℕ) → a + v ≤ length xs → drop a (put_mid a (a + v - a) xs ys) ≡ ys ++ drop (a + v) xs
mid_drop a v xs ys h =
    let e : a + v - a ≡ v = omega arith in
    drop_at (take a xs) (ys ++ post_of a (a + v - a) xs) a (length-take-le a xs (omega arith))
    ∙ ap (λ (k : ℕ). ys ++ drop k (drop a xs)) e
    ∙ ap (λ (l : List ℕ). ys ++ l) (drop-drop v a xs)

-- ---- the loop over the children, from the last to the first

-- the children from j on are placed
abbrev Filled : ℕ → ℕ → ℕ → ℕ → ℕ → List ℕ → Type 0
Filled m t k j n out = PlacedKids m n (up_from (share m (t / m) k) j (m - j)) (drop (j * (t / m)) out)

-- what holds when j children are left
pub record Filling (m t k j : ℕ) (out : List ℕ) : Type 0 where
  pub tree : Tree m t
  pub inside : k ≤ t
  pub two : 2 ≤ k
  pub left : j ≤ m
  pub count : length out ≡ t
  pub filled : (n : ℕ) → t / m ≡ m ^ n → Filled m t k j n out

pub filling_first : (m t k : ℕ) (out : List ℕ) → Tree m t → k ≤ t → 2 ≤ k → length out ≡ t → Filling m t k m out
filling_first m t k out tree le two len =
    let whole : m * (t / m) ≡ t = (under m t tree (omega arith)).whole in
    record {
      tree = tree;
      inside = le;
      two = two;
      left = omega arith;
      count = len;
      filled = λ n e. rw (sub_self m) (subst (PlacedKids m n []) (sym (drop_of_length-le out {i = m * (t / m)} (omega arith))) (kids_none m n));
    }

-- one child, from first leaf j * (t / m) on
module _ (m t k j : ℕ) (out : List ℕ) (f : Filling m t k (suc j) out) where
  more : 2 ≤ t
  more = omega (arith, f.two, f.inside)

  pub room : j * (t / m) + t / m ≤ t
  room = child_room m t f.tree more j f.left

  share_inside : share m (t / m) k j ≤ t / m
  share_inside =
      let U : Below m f.tree.height t = under m t f.tree more in
      let w : t / m ≡ m ^ U.under = U.width in
      rw w (shares_fit m U.under k f.tree.branches f.two (omega (arith, f.inside, power m t f.tree more U.under w)) j f.left)

  abbrev pub part : List ℕ
  part = take (j * (t / m) + t / m - j * (t / m)) (drop (j * (t / m)) out)

  part_length : length part ≡ t / m
  part_length = mid_length (j * (t / m)) (t / m) out (omega (arith, room, f.count))

  pub child_ready : (a : ℕ) → a ≡ share m (t / m) k j → (length part < t) × (Tree m (length part) × (a ≤ length part))
  child_ready a e = rw part_length (omega (arith, shrinks m t f.tree more), (smaller m t f.tree more, omega (arith, share_inside)))

  pub filling_next : (a : ℕ) (u : List ℕ) → a ≡ share m (t / m) k j → length u ≡ length part
      → ((n : ℕ) → length part ≡ m ^ n → Placed m n a u) → Filling m t k j (put_mid (j * (t / m)) (j * (t / m) + t / m - j * (t / m)) out u)
  filling_next a u e len p =
      let S : ℕ = t / m in
      let rest : m - j ≡ suc (m - suc j) = omega (arith, f.left) in
      let tail : drop (j * S) (put_mid (j * S) (j * S + S - j * S) out u) ≡ u ++ drop (suc j * S) out =
      mid_drop (j * S) S out u (omega (arith, room, f.count)) ∙ ap (λ (x : ℕ). u ++ drop x out) (sym (suc-mul j S)) in
      record {
        tree = f.tree;
        inside = f.inside;
        two = f.two;
        left = omega (arith, f.left);
        count = same_len_mid (j * S) (j * S + S - j * S) out u len ∙ f.count;
        filled = λ n w. rw (rest, tail) (kids_cons m n (share m S k j) (up_from (share m S k) (suc j) (m - suc j)) u (drop (suc j * S) out)
            (subst (λ (x : ℕ). Placed m n x u) e (p n (part_length ∙ w))) (f.filled n w));
      }

pub filling_done : (m t k : ℕ) (out : List ℕ) → Filling m t k 0 out → (n : ℕ) → t ≡ m ^ n → Placed m n k out
filling_done m t k out f n e =
    let more : 2 ≤ t = omega (arith, f.two, f.inside) in
    let B : Below m n t = below m n t f.tree.branches more e in
    let x : ℕ = B.under in
    let w : t / m ≡ m ^ x = B.width in
    let fit : k ≤ m ^ suc x = omega (arith, f.inside, power m t f.tree more x w) in
    let q : PlacedKids m x (up_from (share m (t / m) k) 0 m) out = rw (sub-zero m, zero-mul (t / m)) at (f.filled x w) in
    let q' : PlacedKids m x (up_from (share m (m ^ x) k) 0 m) out = subst (λ (y : ℕ). PlacedKids m x (up_from (share m y k) 0 m) out) w q in
    rw B.height (place_node m x k (up_from (share m (m ^ x) k) 0 m) out f.two (shares_serve m x k f.tree.branches f.two fit).0 (shares_worth m x k f.tree.branches f.two fit) q')
