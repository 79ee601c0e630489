-- What a bare search writes: how many rows, which leaves it sends, what it costs.
use mathlib.Core.Path.{◌≡◌, refl, sym, ap, ◌∙◌}
use mathlib.Core.Bool.{true, false}
use mathlib.Core.List.{List, [], ◌∷◌, ◌++◌, append_assoc, append-nil}
use Prim.Native.Nat.{ℕ, zero, suc, ◌+◌, ◌*◌, ◌^◌, ◌≤◌}
use native.Mathlib.Nat.{le_refl, zero-mul, suc-mul, add_comm, add-zero, pow-zero, pow-succ'}
use native.Mathlib.Omega.{arith}
use lib.ListN.{length, drop, length-append, length-take}
use lib.Seq.{take_all, take_at, drop_at}
use Rattle.rows.specs.declared.Row.{Row}
use Rattle.rows.specs.declared.Channel.{Channel}
use Rattle.rows.specs.declared.Channel.TheVariants.{Silence, Busy, Collision}
use Rattle.trees.specs.Shape.{nodes}
use Rattle.trees.specs.Search.{lead, children, visit, ones, active, active_in, bare_look, bare_rule, search_rows, total, silent, colliding, lost, silences, collisions, cost, sent_by, sent}
use Rattle.trees.proofs.LeafLaws.{part, part_length, part_split, length_active, active_split, ones_le}
use Rattle.trees.proofs.Costs.{cost_for, parts_cost, part_cost}

-- ---- rows, one run behind the other

pub total_append : (f : Channel → ℕ) (xs ys : List Row) → total f (xs ++ ys) ≡ total f xs + total f ys
total_append f [] ys = omega arith
total_append f (r ∷ xs) ys = omega (arith, total_append f xs ys)

sent_by_append : (c : Channel) (p : ℕ) (l k : List ℕ) → sent_by c p (l ++ k) ≡ sent_by c p l ++ k
sent_by_append Silence p l k = refl
sent_by_append Busy p l k = refl
sent_by_append Collision p l k = refl

pub sent_append : (xs ys : List Row) → sent (xs ++ ys) ≡ sent xs ++ sent ys
sent_append [] ys = refl
sent_append (r ∷ xs) ys = ap (sent_by r.state r.message) (sent_append xs ys) ∙ sent_by_append r.state r.message (sent xs) (sent ys)

lost_both : (c : Channel) → lost c ≡ silent c + colliding c
lost_both Silence = refl
lost_both Busy = refl
lost_both Collision = refl

-- the cost is the silences and the collisions
pub cost_both : (rows : List Row) → cost rows ≡ silences rows + collisions rows
cost_both [] = refl
cost_both (r ∷ rows) = omega (arith, lost_both r.state, cost_both rows)

-- ---- a visit

-- what the search of a subtree of height h from leaf a on, begun in the slot, comes to
pub record Told (leaves : List ℕ) (m h a slot : ℕ) (r : List Row × ℕ) : Type 0 where
  pub after : r.1 ≡ slot + length r.0
  pub count : length r.0 ≤ nodes m h
  pub sends : sent r.0 ≡ active_in leaves a (m ^ h)
  pub costs : cost r.0 ≡ part_cost m h (part leaves a (m ^ h))

-- the same of j subtrees
pub record AllTold (leaves : List ℕ) (m h j a slot : ℕ) (r : List Row × ℕ) : Type 0 where
  pub after : r.1 ≡ slot + length r.0
  pub count : length r.0 ≤ j * nodes m h
  pub sends : sent r.0 ≡ active_in leaves a (j * m ^ h)
  pub costs : cost r.0 ≡ parts_cost (part_cost m h) (m ^ h) j (part leaves a (j * m ^ h))

none_told : (leaves : List ℕ) (m h a slot : ℕ) → AllTold leaves m h 0 a slot ([], slot)
none_told leaves m h a slot = record {
  after = sym (add-zero slot);
  count = omega arith;
  sends = sym (ap (active_in leaves a) (zero-mul (m ^ h)));
  costs = refl;
}

more_told : (leaves : List ℕ) (m h j a slot : ℕ) (one rest : List Row × ℕ) → a + m ^ h ≤ length leaves
    → Told leaves m h a slot one → AllTold leaves m h j (a + m ^ h) one.1 rest → AllTold leaves m h (suc j) a slot (lead one.0 rest)
more_told leaves m h j a slot one rest room p q =
    let w : ℕ = m ^ h in
    let e : suc j * w ≡ w + j * w = suc-mul j w ∙ add_comm (j * w) w in
    let s : part leaves a (suc j * w) ≡ part leaves a w ++ part leaves (a + w) (j * w) = ap (part leaves a) e ∙ part_split leaves a w (j * w) in
    let n : length (part leaves a w) ≡ w = part_length leaves a w room in
    record {
      after = omega (arith, p.after, q.after, length-append one.0 rest.0);
      count = omega (arith, p.count, q.count, length-append one.0 rest.0, suc-mul j (nodes m h));
      sends = sent_append one.0 rest.0 ∙ ap (λ (l : List ℕ). l ++ sent rest.0) p.sends ∙ ap (λ (l : List ℕ). active_in leaves a w ++ l) q.sends
          ∙ sym (ap (active_in leaves a) e ∙ active_split leaves a w (j * w) room);
      costs = total_append lost one.0 rest.0 ∙ ap (λ (k : ℕ). k + cost rest.0) p.costs ∙ ap (λ (k : ℕ). part_cost m h (part leaves a w) + k) q.costs
          ∙ sym (ap (λ (l : List ℕ). parts_cost (part_cost m h) w (suc j) l) s
          ∙ ap (λ (l : List ℕ). part_cost m h l + parts_cost (part_cost m h) w j (drop w (part leaves a w ++ part leaves (a + w) (j * w)))) (take_at (part leaves a w) (part leaves (a + w) (j * w)) w n)
          ∙ ap (λ (l : List ℕ). part_cost m h (part leaves a w) + parts_cost (part_cost m h) w j l) (drop_at (part leaves a w) (part leaves (a + w) (j * w)) w n));
    }

pub all_told : (leaves : List ℕ) (m h : ℕ) → ((a slot : ℕ) → a + m ^ h ≤ length leaves → Told leaves m h a slot (visit (bare_rule leaves) m h a slot))
    → (j a slot : ℕ) → a + j * m ^ h ≤ length leaves → AllTold leaves m h j a slot (children (visit (bare_rule leaves) m h) (m ^ h) j a slot)
all_told leaves m h ih zero a slot room = none_told leaves m h a slot
all_told leaves m h ih (suc j) a slot room =
    let one = visit (bare_rule leaves) m h a slot in
    more_told leaves m h j a slot one (children (visit (bare_rule leaves) m h) (m ^ h) j (a + m ^ h) one.1) (omega (arith, suc-mul j (m ^ h)))
    (ih a slot (omega (arith, suc-mul j (m ^ h))))
    (all_told leaves m h ih j (a + m ^ h) one.1 (omega (arith, suc-mul j (m ^ h))))

-- one subtree more, behind the others
pub children_more : {S : Type 0} (one : ℕ → S → List Row × S) (w j a : ℕ) (s : S)
    → children one w (suc j) a s ≡ lead (children one w j a s).0 (one (a + j * w) (children one w j a s).1)
children_more one w zero a s =
    let z : a + 0 * w ≡ a = omega (arith, zero-mul w) in
    ap (λ (l : List Row). (l, (one a s).1)) (append-nil (one a s).0) ∙ ap (λ (b : ℕ). one b s) (sym z)
children_more one w (suc j) a s =
    let r = one a s in
    let q = children one w j (a + w) r.1 in
    let e : a + w + j * w ≡ a + suc j * w = omega (arith, suc-mul j w) in
    ap (lead r.0) (children_more one w j (a + w) r.1 ∙ ap (λ (b : ℕ). lead q.0 (one b q.1)) e)
    ∙ ap (λ (l : List Row). (l, (one (a + suc j * w) q.1).1)) (sym (append_assoc r.0 q.0 (one (a + suc j * w) q.1).0))

-- how many of the subtree's leaves are active, by the list of them
ones_are : (leaves : List ℕ) (a w : ℕ) (l : List ℕ) → active_in leaves a w ≡ l → ones (part leaves a w) ≡ length l
ones_are leaves a w l e = sym (length_active a (part leaves a w)) ∙ ap length e

leaf_told : (leaves : List ℕ) (m a slot : ℕ) (l : List ℕ) → active_in leaves a 1 ≡ l → Told leaves m 0 a slot ((bare_look l slot a 1).rows, (bare_look l slot a 1).after)
leaf_told leaves m a slot [] e = record {
  after = refl;
  count = le_refl 1;
  sends = rw pow-zero (sym e);
  costs = rw pow-zero (ap (λ (k : ℕ). cost_for k 0) (sym (ones_are leaves a 1 [] e)));
}
leaf_told leaves m a slot (p ∷ []) e = record {
  after = refl;
  count = le_refl 1;
  sends = rw pow-zero (sym e);
  costs = rw pow-zero (ap (λ (k : ℕ). cost_for k 0) (sym (ones_are leaves a 1 (p ∷ []) e)));
}
leaf_told leaves m a slot (p ∷ q ∷ l) e =
    absurd (omega (arith, ones_are leaves a 1 (p ∷ q ∷ l) e, ones_le (part leaves a 1), length-take 1 (drop a leaves)))

-- a slot, and after a collision the children
abbrev pub noded : List ℕ → ℕ → ℕ → ℕ → ℕ → List ℕ → List Row × ℕ
noded leaves m h a slot l =
    let k = bare_look l slot a (m ^ suc h) in
    elim k.down [ false ↦ (k.rows, k.after) | true ↦ lead k.rows (children (visit (bare_rule leaves) m h) (m ^ h) m a k.after) ]

node_told : (leaves : List ℕ) (m h a slot : ℕ) (l : List ℕ) → active_in leaves a (m ^ suc h) ≡ l
    → AllTold leaves m h m a (slot + 1) (children (visit (bare_rule leaves) m h) (m ^ h) m a (slot + 1)) → Told leaves m (suc h) a slot (noded leaves m h a slot l)
node_told leaves m h a slot [] e all = record {
  after = refl;
  count = omega arith;
  sends = sym e;
  costs = ap (λ (k : ℕ). cost_for k (parts_cost (part_cost m h) (m ^ h) m (part leaves a (m ^ suc h)))) (sym (ones_are leaves a (m ^ suc h) [] e));
}
node_told leaves m h a slot (p ∷ []) e all = record {
  after = refl;
  count = omega arith;
  sends = sym e;
  costs = ap (λ (k : ℕ). cost_for k (parts_cost (part_cost m h) (m ^ h) m (part leaves a (m ^ suc h)))) (sym (ones_are leaves a (m ^ suc h) (p ∷ []) e));
}
node_told leaves m h a slot (p ∷ q ∷ l) e all =
    let r = children (visit (bare_rule leaves) m h) (m ^ h) m a (slot + 1) in
    let w : m ^ suc h ≡ m * m ^ h = pow-succ' m h in
    let first : 1 + cost r.0 ≡ suc (cost r.0) = omega arith in
    record {
      after = omega (arith, all.after);
      count = omega (arith, all.count);
      sends = all.sends ∙ ap (active_in leaves a) (sym w);
      costs = first ∙ ap suc (all.costs ∙ ap (λ (x : ℕ). parts_cost (part_cost m h) (m ^ h) m (part leaves a x)) (sym w))
          ∙ ap (λ (k : ℕ). cost_for k (parts_cost (part_cost m h) (m ^ h) m (part leaves a (m ^ suc h)))) (sym (ones_are leaves a (m ^ suc h) (p ∷ q ∷ l) e));
    }

-- A VISIT: its rows are counted, it sends the active leaves in order, and it costs what its leaves say
pub told : (leaves : List ℕ) (m h a slot : ℕ) → a + m ^ h ≤ length leaves → Told leaves m h a slot (visit (bare_rule leaves) m h a slot)
told leaves m zero a slot room = leaf_told leaves m a slot (active_in leaves a 1) refl
told leaves m (suc h) a slot room =
    node_told leaves m h a slot (active_in leaves a (m ^ suc h)) refl
    (all_told leaves m h (told leaves m h) m a (slot + 1) (omega (arith, pow-succ' m h)))

-- ---- a whole search

whole : (m n : ℕ) (leaves : List ℕ) → length leaves ≡ m ^ n → part leaves 0 (m ^ n) ≡ leaves
whole m n leaves e = take_all (m ^ n) leaves (omega arith)

-- EACH ACTIVE LEAF IS SENT ONCE, ASCENDING
pub search_sent : (m n : ℕ) (leaves : List ℕ) → length leaves ≡ m ^ n → sent (search_rows m n leaves) ≡ active 0 leaves
search_sent m n leaves e = (told leaves m n 0 0 (omega arith)).sends ∙ ap (active 0) (whole m n leaves e)

pub bare_cost : (m n : ℕ) (leaves : List ℕ) → length leaves ≡ m ^ n → cost (search_rows m n leaves) ≡ part_cost m n leaves
bare_cost m n leaves e = (told leaves m n 0 0 (omega arith)).costs ∙ ap (part_cost m n) (whole m n leaves e)
