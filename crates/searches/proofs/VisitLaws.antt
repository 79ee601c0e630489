-- What a visit's proof needs: rows written behind rows, the rows of a visit by what was heard, and the children one by one.
use mathlib.Core.Path.{◌≡◌, refl, sym, ap, ◌∙◌, subst}
use mathlib.Core.List.{List, [], ◌∷◌, ◌++◌}
use Prim.Native.Nat.{ℕ, zero, suc, ◌+◌, ◌*◌, ◌^◌, ◌/◌, ◌≤◌, ◌<◌}
use native.Mathlib.Nat.{le_refl, suc-mul, pow-zero, mul-le-mul_right}
use native.Mathlib.Numerals.{add-one}
use native.Mathlib.Omega.{arith}
use lib.ListN.{length, length-append}
use Rattle.rows.specs.declared.Row.{Row}
use Rattle.rows.specs.declared.Channel.{Channel}
use Rattle.rows.specs.declared.Channel.TheVariants.{Silence, Busy, Collision}
use Rattle.rows.proofs.LogLaws.{log_then}
use Rattle.trees.specs.Shape.{nodes}
use Rattle.trees.specs.Search.{children, visit, active_in, bare_row, bare_look, bare_rule, total, silent, colliding}
use Rattle.trees.proofs.Powers.{pow_inj, Below, below, child_inside}
use Rattle.trees.proofs.LeafLaws.{part, part_length, length_active, ones_le}
use Rattle.trees.proofs.SearchLaws.{total_append, told, AllTold, all_told, children_more, noded}
use Rattle.searches.specs.declared.Seen.TheVariants.{Nobody, One, Several}
use Rattle.searches.specs.declared.Searched.{Searched}
use Rattle.searches.specs.Work.{seen_of, Wrote, VisitReady, Visited}

-- ---- rows written behind rows

pub wrote_then : (t r q : Searched) (log log₁ log₂ : List ℕ) (xs ys : List Row) → 16 * (t.rows + length xs + length ys) ≤ length log
    → Wrote t log xs r log₁ → Wrote r log₁ ys q log₂ → Wrote t log (xs ++ ys) q log₂
wrote_then t r q log log₁ log₂ xs ys room p s = record {
  written = log_then log log₁ log₂ t.rows r.rows xs ys p.counted (omega (arith, p.counted)) p.written s.written;
  counted = omega (arith, p.counted, s.counted, length-append xs ys);
  silent = omega (arith, p.silent, s.silent, total_append silent xs ys);
  collided = omega (arith, p.collided, s.collided, total_append colliding xs ys);
}

total_few : (f : Channel → ℕ) → ((c : Channel) → f c ≤ 1) → (rows : List Row) → total f rows ≤ length rows
total_few f h [] = le_refl 0
total_few f h (r ∷ rows) = omega (arith, h r.state, total_few f h rows)

silent_once : (c : Channel) → silent c ≤ 1
silent_once Silence = omega arith
silent_once Busy = omega arith
silent_once Collision = omega arith

colliding_once : (c : Channel) → colliding c ≤ 1
colliding_once Silence = omega arith
colliding_once Busy = omega arith
colliding_once Collision = omega arith

-- no figure of a tally exceeds its rows
pub tally_few : (t r : Searched) (log log' : List ℕ) (rows : List Row) → t.silences ≤ t.rows → t.collisions ≤ t.rows → Wrote t log rows r log'
    → (r.silences ≤ r.rows) × (r.collisions ≤ r.rows)
tally_few t r log log' rows h g w =
    (omega (arith, w.counted, w.silent, total_few silent silent_once rows), omega (arith, w.counted, w.collided, total_few colliding colliding_once rows))

-- ---- by what was heard

pub heard_none : (l : List ℕ) → Nobody ≡ seen_of l → l ≡ []
heard_none [] e = refl
heard_none (p ∷ []) e = cc
heard_none (p ∷ q ∷ l) e = cc

pub heard_leaf : (p : ℕ) (l : List ℕ) → One p ≡ seen_of l → l ≡ p ∷ []
heard_leaf p [] e = cc
heard_leaf p (q ∷ []) e = cc
heard_leaf p (q ∷ x ∷ l) e = cc

pub heard_two : (l : List ℕ) → Several ≡ seen_of l → 2 ≤ length l
heard_two [] e = cc
heard_two (p ∷ []) e = cc
heard_two (p ∷ q ∷ l) e = omega arith

node_several : (leaves : List ℕ) (m h a slot : ℕ) (l : List ℕ) → 2 ≤ length l
    → (noded leaves m h a slot l).0 ≡ bare_row slot Collision a (m ^ suc h) 65535 ∷ (children (visit (bare_rule leaves) m h) (m ^ h) m a (slot + 1)).0
node_several leaves m h a slot [] g = absurd (omega arith)
node_several leaves m h a slot (p ∷ []) g = absurd (omega arith)
node_several leaves m h a slot (p ∷ q ∷ l) g = refl

-- a visit that does not go down has one row
pub rows_quiet : (leaves : List ℕ) (m n a w slot : ℕ) (l : List ℕ) → w ≡ m ^ n → active_in leaves a w ≡ l → length l ≤ 1
    → (visit (bare_rule leaves) m n a slot).0 ≡ (bare_look l slot a w).rows
rows_quiet leaves m zero a w slot l e f h =
    let one : w ≡ 1 = e ∙ pow-zero m in
    rw (← f, one) refl
rows_quiet leaves m (suc n) a w slot l e f h = go l f h
  where
    at : (l : List ℕ) → length l ≤ 1 → (noded leaves m n a slot l).0 ≡ (bare_look l slot a (m ^ suc n)).rows
    at [] h = refl
    at (p ∷ []) h = refl
    at (p ∷ q ∷ l) h = absurd (omega arith)

    go : (l : List ℕ) → active_in leaves a w ≡ l → length l ≤ 1 → (visit (bare_rule leaves) m (suc n) a slot).0 ≡ (bare_look l slot a w).rows
    go l f h =
        let g : active_in leaves a (m ^ suc n) ≡ l = ap (active_in leaves a) (sym e) ∙ f in
        ap (λ (x : List ℕ). (noded leaves m n a slot x).0) g ∙ at l h ∙ ap (λ (x : ℕ). (bare_look l slot a x).rows) (sym e)

-- ---- a visit that collided

-- the first j children, of width v, were written
abbrev pub Kept : List ℕ → ℕ → ℕ → ℕ → Searched → List ℕ → ℕ → Searched → List ℕ → Type 0
Kept leaves m a v r₀ log₀ j r log₁ =
    (n : ℕ) → v ≡ m ^ n → Wrote r₀ log₀ (children (visit (bare_rule leaves) m n) (m ^ n) j a r₀.rows).0 r log₁

module _ (leaves log : List ℕ) (m a w : ℕ) (t : Searched) (pre : VisitReady leaves log m a w t) (hit : Several ≡ seen_of (active_in leaves a w)) where
  pub wide : 2 ≤ w
  wide = omega (arith, heard_two (active_in leaves a w) hit, length_active a (part leaves a w), ones_le (part leaves a w), part_length leaves a w pre.inside)

  pub under : Below m pre.height w
  under = below m pre.height w pre.branches wide pre.width

  pub child : (j : ℕ) → j < m → j * (w / m) + w / m ≤ w
  child j h = child_inside m j (w / m) w h under.whole

  -- the height below, whatever it is called
  same_height : (n : ℕ) → w / m ≡ m ^ n → n ≡ under.under
  same_height n e = pow_inj m pre.branches n under.under (sym e ∙ under.width)

  -- the first j children
  abbrev Kids : ℕ → ℕ → ℕ → List Row × ℕ
  Kids n j slot = children (visit (bare_rule leaves) m n) (m ^ n) j a slot

  -- they lie inside
  kids_told : (n j slot : ℕ) → j ≤ m → w / m ≡ m ^ n → AllTold leaves m n j a slot (Kids n j slot)
  kids_told n j slot h e =
      all_told leaves m n (told leaves m n) j a slot
      (omega (arith, pre.inside, mul-le-mul_right {m = j} {n = m} (m ^ n) h, ap (λ (x : ℕ). m * x) e, under.whole))

  kid_room : (n j : ℕ) → j ≤ m → w / m ≡ m ^ n → suc (j * nodes m n) ≤ nodes m pre.height
  kid_room n j h e =
      let f : nodes m pre.height ≡ suc (m * nodes m n) = ap (nodes m) (under.height ∙ ap suc (sym (same_height n e))) in
      omega (arith, mul-le-mul_right {m = j} {n = m} (nodes m n) h)

  module _ (r₀ : Searched) (log₀ : List ℕ) (same : length log₀ ≡ length log) (head : Wrote t log (bare_row t.rows Collision a w 65535 ∷ []) r₀ log₀) where
    abbrev Now : ℕ → Searched → List ℕ → Type 0
    Now = Kept leaves m a (w / m) r₀ log₀

    pub next_ready : (j : ℕ) (r : Searched) (log₁ : List ℕ) → j < m → length log₁ ≡ length log₀ → Now j r log₁ → VisitReady leaves log₁ m (a + j * (w / m)) (w / m) r
    next_ready j r log₁ h len kept =
        let n : ℕ = under.under in
        let e : w / m ≡ m ^ n = under.width in
        let so = kept n e in
        let c = (kids_told n j r₀.rows (omega arith) e).count in
        let room = kid_room n (suc j) h e in
        let few = tally_few t r₀ log log₀ (bare_row t.rows Collision a w 65535 ∷ []) pre.silent pre.collided head in
        let few' = tally_few r₀ r log₀ log₁ (Kids n j r₀.rows).0 few.0 few.1 so in
        record {
          height = n;
          width = e;
          branches = pre.branches;
          inside = omega (arith, child j h, pre.inside);
          few = pre.few;
          room = omega (arith, pre.room, so.counted, head.counted, suc-mul j (nodes m n));
          slots = omega (arith, pre.slots, so.counted, head.counted, suc-mul j (nodes m n));
          silent = few'.0;
          collided = few'.1;
        }

    pub kept_next : (j : ℕ) (r q : Searched) (log₁ log₂ : List ℕ) → j < m → Now j r log₁
        → Visited leaves m (a + j * (w / m)) (w / m) r log₁ q log₂ → Now (j + 1) q log₂
    kept_next j r q log₁ log₂ h kept v = λ n e.
        let so = kept n e in
        let kids = kids_told n j r₀.rows (omega arith) e in
        let all = kids_told n (suc j) r₀.rows h e in
        let slot : (Kids n j r₀.rows).1 ≡ r.rows = kids.after ∙ sym so.counted in
        let place : a + j * (w / m) ≡ a + j * m ^ n = ap (λ (x : ℕ). a + j * x) e in
        let one : Wrote r log₁ (visit (bare_rule leaves) m n (a + j * m ^ n) (Kids n j r₀.rows).1).0 q log₂ =
        rw (slot, ← place) (v n e) in
        let more : (Kids n (suc j) r₀.rows).0 ≡ (Kids n j r₀.rows).0 ++ (visit (bare_rule leaves) m n (a + j * m ^ n) (Kids n j r₀.rows).1).0 =
        ap (λ (x : List Row × ℕ). x.0) (children_more (visit (bare_rule leaves) m n) (m ^ n) j a r₀.rows) in
        let size = length-append (Kids n j r₀.rows).0 (visit (bare_rule leaves) m n (a + j * m ^ n) (Kids n j r₀.rows).1).0 in
        rw (add-one j, more)
        (wrote_then r₀ r q log₀ log₁ log₂ (Kids n j r₀.rows).0 (visit (bare_rule leaves) m n (a + j * m ^ n) (Kids n j r₀.rows).1).0
        (omega (arith, pre.room, head.counted, same, all.count, ap length more, kid_room n (suc j) h e))
        so one)

    pub kept_all : (j : ℕ) (r : Searched) (log₁ : List ℕ) → j ≡ m → Now j r log₁ → Visited leaves m a w t log r log₁
    kept_all j r log₁ all kept n e =
        let B : Below m n w = below m n w pre.branches wide e in
        let k : ℕ = B.under in
        let so : Wrote r₀ log₀ (Kids k m r₀.rows).0 r log₁ = rw all at (kept k B.width) in
        let first : r₀.rows ≡ t.rows + 1 = head.counted in
        let so' : Wrote r₀ log₀ (Kids k m (t.rows + 1)).0 r log₁ = subst (λ (x : ℕ). Wrote r₀ log₀ (Kids k m x).0 r log₁) first so in
        let rows : (visit (bare_rule leaves) m (suc k) a t.rows).0 ≡ bare_row t.rows Collision a w 65535 ∷ (Kids k m (t.rows + 1)).0 =
        node_several leaves m k a t.rows (active_in leaves a (m ^ suc k)) (omega (arith, heard_two (active_in leaves a w) hit, ap (λ (x : ℕ). length (active_in leaves a x)) (e ∙ ap (λ (x : ℕ). m ^ x) B.height)))
        ∙ ap (λ (x : ℕ). bare_row t.rows Collision a x 65535 ∷ (Kids k m (t.rows + 1)).0) (sym (e ∙ ap (λ (x : ℕ). m ^ x) B.height)) in
        rw (B.height, rows)
        (wrote_then t r₀ r log log₀ log₁ (bare_row t.rows Collision a w 65535 ∷ []) (Kids k m (t.rows + 1)).0
        (omega (arith, pre.room, (kids_told k m (t.rows + 1) (le_refl m) B.width).count, kid_room k m (le_refl m) B.width))
        head so')
