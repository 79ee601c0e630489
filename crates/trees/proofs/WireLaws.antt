-- The next subtree is known from the wire alone: for any rule of who contends, the walk over the wire is the search of the tree.
use mathlib.Core.Path.{◌≡◌, refl, sym, ap, ◌∙◌, subst}
use mathlib.Core.Bool.{Bool, true, false}
use mathlib.Core.List.{List, [], ◌∷◌, ◌++◌, append_assoc, append-nil}
use mathlib.Core.Logic.{⊎_elim}
use Prim.Native.Nat.{ℕ, zero, suc, ◌+◌, ◌*◌, ◌^◌, ◌/◌, ◌%◌, ◌∣◌, ◌≤◌, ◌<◌, pred}
use native.Mathlib.Nat.{le_refl, le_dest, zero-mul, suc-mul, pow-zero, pow-succ', mul-div_right, not-suc-le-zero, suc-pred-eq_of_pos, one-le-pow, mul-le-mul_right, div-lt_self}
use native.Mathlib.Nat.{dvd_of_mod-eq-zero, mod-eq-zero_of_dvd, dvd-mul_left, dvd_trans, dvd-add, dvd-add_iff_right, dvd_of_mul-dvd-mul_right, le_of_dvd, dvd-zero}
use native.Mathlib.Omega.{arith}
use lib.Dec.{ltb, eqb}
use lib.ListN.{length, drop, length-take}
use lib.Seq.{take_all}
use borrow.Author.Tests.{lt-ltb, le-ltb, eqb-true, eqb-false, ne_eqb}
use Rattle.rows.specs.declared.Row.{Row}
use Rattle.rows.specs.declared.Channel.TheVariants.{Collision}
use Rattle.trees.specs.Shape.{height_of, nodes, Tree}
use Rattle.trees.specs.Search.{Rule, lead, children, visit}
use Rattle.trees.specs.Search.{ones, active_in, bare_row, bare_look, bare_rule, search_rows}
use Rattle.trees.specs.Wire.{next_height, next_width, walk}
use Rattle.trees.proofs.Powers.{le_or_lt, pow_dvd, under, power}
use Rattle.trees.proofs.ShapeLaws.{height_complete}
use Rattle.trees.proofs.LeafLaws.{part, length_active, ones_le}

-- ---- the largest power that divides

pub next_divides : (m n b : ℕ) → b % next_width m n b ≡ 0
next_divides m zero b = rw pow-zero (omega arith)
next_divides m (suc h) b = go (next_divides m h b) (eqb (b % (m ^ h)) 0) refl
  where
    go : b % next_width m h b ≡ 0 → (t : Bool) → eqb (b % (m ^ h)) 0 ≡ t → b % (m ^ elim t [ true ↦ h | false ↦ next_height m h b ]) ≡ 0
    go ih true e = eqb-true (b % (m ^ h)) 0 e
    go ih false e = ih

pub next_below : (m n b : ℕ) → next_height m (suc n) b ≤ n
next_below m zero b = go (eqb (b % (m ^ 0)) 0)
  where
    go : (t : Bool) → elim t [ true ↦ 0 | false ↦ 0 ] ≤ 0
    go true = le_refl 0
    go false = le_refl 0
next_below m (suc h) b = go (eqb (b % (m ^ suc h)) 0) (next_below m h b)
  where
    go : (t : Bool) → next_height m (suc h) b ≤ h → elim t [ true ↦ suc h | false ↦ next_height m (suc h) b ] ≤ suc h
    go true le = le_refl (suc h)
    go false le = omega arith

pub next_largest : (m n b h : ℕ) → h < n → b % (m ^ h) ≡ 0 → h ≤ next_height m n b
next_largest m zero b h lt d = absurd (not-suc-le-zero lt)
next_largest m (suc n) b h lt d = go (λ q. next_largest m n b h q d) (eqb (b % (m ^ n)) 0) refl
  where
    go : (h < n → h ≤ next_height m n b) → (t : Bool) → eqb (b % (m ^ n)) 0 ≡ t → h ≤ elim t [ true ↦ n | false ↦ next_height m n b ]
    go ih true e = omega arith
    go ih false e = ⊎_elim
        (λ q. let same : h ≡ n = omega arith in absurd (eqb-false (b % (m ^ n)) 0 e (rw same at d)))
        ih
        (le_or_lt n h)

next_is : (m n b h : ℕ) → h < n → b % (m ^ h) ≡ 0 → ((x : ℕ) → h < x → x < n → b % (m ^ x) ≡ 0 → ⊥) → next_height m n b ≡ h
next_is m zero b h lt d f = absurd (not-suc-le-zero lt)
next_is m (suc n) b h lt d f = ⊎_elim
    (λ q. omega (arith, next_largest m (suc n) b h lt d))
    (λ q. absurd (f (next_height m (suc n) b) q (omega (arith, next_below m n b)) (next_divides m (suc n) b)))
    (le_or_lt (next_height m (suc n) b) h)

-- child i, not the first, of a node of height h + 1 starts where m ^ h is the largest power that divides
pub next_child : (m n h a i : ℕ) → 2 ≤ m → h < n → m ^ suc h ∣ a → 0 < i → i < m → next_width m n (a + i * m ^ h) ≡ m ^ h
next_child m n h a i hm hn da hi him =
    let w : ℕ = m ^ h in
    let b : ℕ = a + i * w in
    let pos : 0 < w = one-le-pow h m (omega arith) in
    let db : w ∣ b = dvd-add w (dvd_trans w (pow_dvd m h (suc h) (omega arith)) da) (dvd-mul_left w i) in
    ap (λ (x : ℕ). m ^ x)
    (next_is m n b h hn (mod-eq-zero_of_dvd w db) (λ x hx xn e.
    let dx : m ^ suc h ∣ b = dvd_trans (m ^ suc h) (pow_dvd m (suc h) x hx) (dvd_of_mod-eq-zero (m ^ x) e) in
    let di : m ^ suc h ∣ i * w = (dvd-add_iff_right (m ^ suc h) da).1 dx in
    let dm : m * w ∣ i * w = subst (λ (y : ℕ). y ∣ i * w) (pow-succ' m h) di in
    let le : m ≤ i = le_of_dvd hi (dvd_of_mul-dvd-mul_right m pos dm) in
    absurd (omega arith)))

-- ---- the powers tried from the largest on

-- w is a power below the tree's, and every larger one was tried in vain
pub record Trying (m n b w : ℕ) : Type 0 where
  pub height : ℕ
  pub power : w ≡ m ^ height
  pub rest : next_height m (suc height) b ≡ next_height m n b

pub trying_first : (m t b : ℕ) → Tree m t → 2 ≤ t → Trying m (height_of m t) b (t / m)
trying_first m t b tree more =
    let u = under m t tree more in
    record {
      height = u.under;
      power = u.width;
      rest = ap (λ (n : ℕ). next_height m n b) (sym (height_complete m t u.under tree.branches (sym (power m t tree more u.under u.width)) tree.few));
    }

pub trying_some : (m n b w : ℕ) → 2 ≤ m → Trying m n b w → 0 < w
trying_some m n b w h r = omega (arith, r.power, one-le-pow r.height m (omega arith))

next_test : (m h b : ℕ) (t : Bool) → eqb (b % (m ^ h)) 0 ≡ t → next_height m (suc h) b ≡ elim t [ true ↦ h | false ↦ next_height m h b ]
next_test m h b t e = rw (e, next_height) refl

-- one power smaller, and still above none
pub trying_next : (m n b w : ℕ) → 2 ≤ m → (b % w ≡ 0 → ⊥) → Trying m n b w → Trying m n b (w / m) × (w / m < w)
trying_next m n b w h ne r = go r.height r.power r.rest
  where
    go : (x : ℕ) → w ≡ m ^ x → next_height m (suc x) b ≡ next_height m n b → Trying m n b (w / m) × (w / m < w)
    go zero p q = absurd (ne (let one : w ≡ 1 = p ∙ pow-zero m in rw one (omega arith)))
    go (suc x) p q =
        let f : w / m ≡ m ^ x = ap (λ (y : ℕ). y / m) (p ∙ pow-succ' m x) ∙ mul-div_right (m ^ x) (omega arith) in (
          record { height = x; power = f; rest = sym (next_test m (suc x) b false (ne_eqb (b % (m ^ suc x)) 0 (λ e. ne (rw p e)))) ∙ q },
          div-lt_self (trying_some m n b w h r) h,
        )

-- ---- the walk

lead_lead : {S : Type 0} (xs ys : List Row) (r : List Row × S) → lead xs (lead ys r) ≡ lead (xs ++ ys) r
lead_lead xs ys r = ap (λ (l : List Row). (l, r.1)) (sym (append_assoc xs ys r.0))

lead_nil : {S : Type 0} (r : List Row × S) → lead r.0 ([], r.1) ≡ r
lead_nil r = ap (λ (l : List Row). (l, r.1)) (append-nil r.0)

module _ {S : Type 0} (rule : Rule S) (m n : ℕ) (two : 2 ≤ m) (leaf : (s : S) (a : ℕ) → (rule s a 1).down ≡ false) where
  -- the wire goes on at b, at most k visits
  abbrev pub resume : ℕ → ℕ → S → List Row × S
  resume k b s = elim (ltb b (m ^ n)) [ true ↦ walk rule m n k b (next_width m n b) s | false ↦ ([], s) ]

  -- some visits walk what the search r writes, and then the wire goes on at b
  pub record Follows (most a w : ℕ) (s : S) (b : ℕ) (r : List Row × S) : Type 0 where
    pub visits : ℕ
    pub few : visits ≤ most
    pub follows : (k : ℕ) → walk rule m n (visits + k) a w s ≡ lead r.0 (resume k b r.1)

  -- a visit that does not go down
  finished : (most a w : ℕ) (s : S) → 1 ≤ most → (rule s a w).down ≡ false → Follows most a w s (a + w) ((rule s a w).rows, (rule s a w).after)
  finished most a w s h e = record {
    visits = 1;
    few = h;
    follows = λ k. let one : 1 + k ≡ suc k = omega arith in rw (one, e) refl;
  }

  -- one search, and behind it another
  followed : (x y a w : ℕ) (s : S) (b v c : ℕ) (r q : List Row × S) → b < m ^ n → next_width m n b ≡ v
      → Follows x a w s b r → Follows y b v r.1 c q → Follows (x + y) a w s c (lead r.0 q)
  followed x y a w s b v c r q more next f g = record {
    visits = f.visits + g.visits;
    few = omega (arith, f.few, g.few);
    follows = λ k.
        let sum : f.visits + g.visits + k ≡ f.visits + (g.visits + k) = omega arith in
        rw sum (f.follows (g.visits + k)
        ∙ ap (λ (z : List Row × S). lead r.0 z) (rw (lt-ltb b (m ^ n) more, next) (g.follows k))
        ∙ lead_lead r.0 q.0 (resume k c q.1));
  }

  -- one search, and nothing behind it
  alone : (x a w : ℕ) (s : S) (b : ℕ) (r : List Row × S) → Follows x a w s b r → Follows x a w s b (lead r.0 ([], r.1))
  alone x a w s b r f = subst (Follows x a w s b) (sym (lead_nil r)) f

  abbrev Each : ℕ → Type 0
  Each h = (a : ℕ) (s : S) → m ^ h ∣ a → a + m ^ h ≤ m ^ n → Follows (nodes m h) a (m ^ h) s (a + m ^ h) (visit rule m h a s)

  -- the children of a node of height h + 1
  module _ (h a : ℕ) (hn : h < n) (da : m ^ suc h ∣ a) (room : a + m ^ suc h ≤ m ^ n) (each : Each h) where
    starts : (i : ℕ) → m ^ h ∣ a + i * m ^ h
    starts i = dvd-add (m ^ h) (dvd_trans (m ^ h) (pow_dvd m h (suc h) (omega arith)) da) (dvd-mul_left (m ^ h) i)

    ends : (i : ℕ) → a + i * m ^ h + m ^ h ≡ a + suc i * m ^ h
    ends i = omega (arith, suc-mul i (m ^ h))

    inside : (i : ℕ) → i < m → a + suc i * m ^ h ≤ m ^ n
    inside i lt = omega (arith, mul-le-mul_right {m = suc i} {n = m} (m ^ h) lt, pow-succ' m h)

    between : (i : ℕ) → suc i < m → a + suc i * m ^ h < m ^ n
    between i lt = omega (arith, inside (suc i) lt, suc-mul (suc i) (m ^ h), one-le-pow h m (omega arith))

    child : (i : ℕ) (s : S) → i < m → Follows (nodes m h) (a + i * m ^ h) (m ^ h) s (a + suc i * m ^ h) (visit rule m h (a + i * m ^ h) s)
    child i s lt =
        subst (λ (x : ℕ). Follows (nodes m h) (a + i * m ^ h) (m ^ h) s x (visit rule m h (a + i * m ^ h) s)) (ends i)
        (each (a + i * m ^ h) s (starts i) (omega (arith, ends i, inside i lt)))

    -- from number i on
    others : (j i : ℕ) (s : S) → i + suc j ≡ m
        → Follows (suc j * nodes m h) (a + i * m ^ h) (m ^ h) s (a + m * m ^ h) (children (visit rule m h) (m ^ h) (suc j) (a + i * m ^ h) s)
    others zero i s c =
        let last : suc i ≡ m = omega arith in
        let only : 1 * nodes m h ≡ nodes m h = omega arith in
        rw only
        (subst (λ (x : ℕ). Follows (nodes m h) (a + i * m ^ h) (m ^ h) s (a + x * m ^ h) (children (visit rule m h) (m ^ h) 1 (a + i * m ^ h) s)) last
        (alone (nodes m h) (a + i * m ^ h) (m ^ h) s (a + suc i * m ^ h) (visit rule m h (a + i * m ^ h) s) (child i s (omega arith))))
    others (suc j) i s c =
        let r = visit rule m h (a + i * m ^ h) s in
        let sum : suc (suc j) * nodes m h ≡ nodes m h + suc j * nodes m h = omega (arith, suc-mul (suc j) (nodes m h)) in
        rw (sum, ends i)
        (followed (nodes m h) (suc j * nodes m h) (a + i * m ^ h) (m ^ h) s (a + suc i * m ^ h) (m ^ h) (a + m * m ^ h) r
        (children (visit rule m h) (m ^ h) (suc j) (a + suc i * m ^ h) r.1)
        (between i (omega arith))
        (next_child m n h a (suc i) two hn da (omega arith) (omega arith))
        (child i s (omega arith))
        (others j (suc i) r.1 (omega arith)))

    -- THE CHILDREN OF A NODE, as after a collision in it
    pub children_follow : (s : S) → Follows (m * nodes m h) a (m ^ h) s (a + m ^ suc h) (children (visit rule m h) (m ^ h) m a s)
    children_follow s =
        let p : suc (pred m) ≡ m = suc-pred-eq_of_pos (omega arith) in
        let z : a + 0 * m ^ h ≡ a = omega (arith, zero-mul (m ^ h)) in
        rw (pow-succ' m h)
        (subst (λ (x : ℕ). Follows (m * nodes m h) x (m ^ h) s (a + m * m ^ h) (children (visit rule m h) (m ^ h) m x s)) z
        (subst (λ (j : ℕ). Follows (j * nodes m h) (a + 0 * m ^ h) (m ^ h) s (a + m * m ^ h) (children (visit rule m h) (m ^ h) j (a + 0 * m ^ h) s)) p
        (others (pred m) 0 s (omega arith))))

  -- a visit that goes down, by what its children come to
  collided : (h a : ℕ) (s : S) (r : List Row × S) → (rule s a (m ^ suc h)).down ≡ true
      → Follows (m * nodes m h) a (m ^ h) (rule s a (m ^ suc h)).after (a + m ^ suc h) r
      → Follows (nodes m (suc h)) a (m ^ suc h) s (a + m ^ suc h) (lead (rule s a (m ^ suc h)).rows r)
  collided h a s r e f =
      let d : m ^ suc h / m ≡ m ^ h = ap (λ (x : ℕ). x / m) (pow-succ' m h) ∙ mul-div_right (m ^ h) (omega arith) in
      record {
        visits = suc f.visits;
        few = omega (arith, f.few);
        follows = λ k.
            let one : suc f.visits + k ≡ suc (f.visits + k) = omega arith in
            rw (one, e, d) (ap (λ (x : List Row × S). lead (rule s a (m ^ suc h)).rows x) (f.follows k)
            ∙ lead_lead (rule s a (m ^ suc h)).rows r.0 (resume k (a + m ^ suc h) r.1));
      }

  -- A SUBTREE: the wire walks it as the tree has it, and goes on behind it
  pub subtree_follows : (h : ℕ) → h ≤ n → Each h
  subtree_follows zero hn a s da room =
      let z : m ^ 0 ≡ 1 = pow-zero m in
      rw z (finished 1 a 1 s (le_refl 1) (leaf s a))
  subtree_follows (suc h) hn a s da room = go (subtree_follows h (omega arith)) (rule s a (m ^ suc h)).down refl
    where
      go : Each h → (d : Bool) → (rule s a (m ^ suc h)).down ≡ d → Follows (nodes m (suc h)) a (m ^ suc h) s (a + m ^ suc h) (visit rule m (suc h) a s)
      go each false e = rw (e, visit) (finished (nodes m (suc h)) a (m ^ suc h) s (omega arith) e)
      go each true e = rw (e, visit) (collided h a s (children (visit rule m h) (m ^ h) m a (rule s a (m ^ suc h)).after) e
          (children_follow h a hn da room each (rule s a (m ^ suc h)).after))

  -- behind the last leaf nothing follows
  ended : (k b : ℕ) (s : S) → m ^ n ≤ b → resume k b s ≡ ([], s)
  ended k b s h = rw (le-ltb b (m ^ n) h, resume) refl

  -- THE WHOLE TREE: what is known from the wire alone is enough
  pub wire_agrees : (s : S) (k : ℕ) → nodes m n ≤ k → walk rule m n k 0 (m ^ n) s ≡ visit rule m n 0 s
  wire_agrees s k h =
      let f = subtree_follows n (le_refl n) 0 s (dvd-zero (m ^ n)) (omega arith) in
      let d = le_dest {n = f.visits} {m = k} (omega (arith, f.few)) in
      let r = visit rule m n 0 s in
      ap (λ (x : ℕ). walk rule m n x 0 (m ^ n) s) (sym d.1) ∙ f.follows d.0
      ∙ ap (λ (x : List Row × S). lead r.0 x) (ended d.0 (0 + m ^ n) r.1 (omega arith)) ∙ lead_nil r

-- ---- the bare search

bare_leaf : (leaves : List ℕ) (slot a : ℕ) (l : List ℕ) → length l ≤ 1 → (bare_look l slot a 1).down ≡ false
bare_leaf leaves slot a [] h = refl
bare_leaf leaves slot a (p ∷ []) h = refl
bare_leaf leaves slot a (p ∷ q ∷ l) h = absurd (omega arith)

-- a bare search, each next subtree found from the wire alone
pub search_wire : (m n : ℕ) (leaves : List ℕ) (k : ℕ) → 2 ≤ m → nodes m n ≤ k → (walk (bare_rule leaves) m n k 0 (m ^ n) 0).0 ≡ search_rows m n leaves
search_wire m n leaves k h few = ap (λ (r : List Row × ℕ). r.0)
    (wire_agrees (bare_rule leaves) m n h
    (λ slot a. bare_leaf leaves slot a (active_in leaves a 1) (omega (arith, length_active a (part leaves a 1), ones_le (part leaves a 1), length-take 1 (drop a leaves))))
    0 k few)

-- two active leaves or more: the root's collision, and the walk over its children
pub search_collides : (m n : ℕ) (leaves : List ℕ) (k : ℕ) → 2 ≤ m → length leaves ≡ m ^ n → 2 ≤ ones leaves
    → nodes m n ≤ suc k
    → search_rows m n leaves ≡ bare_row 0 Collision 0 (m ^ n) 65535 ∷ (walk (bare_rule leaves) m n k 0 (m ^ n / m) 1).0
search_collides m n leaves k h e more few =
    sym (search_wire m n leaves (suc k) h few)
    ∙ go (active_in leaves 0 (m ^ n))
    (omega (arith, length_active 0 (part leaves 0 (m ^ n)), ap ones (take_all (m ^ n) leaves (omega arith))))
  where
    go : (l : List ℕ) → 2 ≤ length l
        → (lead {S = ℕ} (bare_look l 0 0 (m ^ n)).rows
        (elim (bare_look l 0 0 (m ^ n)).down as (λ (_ : Bool). List Row × ℕ) [
          | true ↦ walk (bare_rule leaves) m n k 0 (m ^ n / m) (bare_look l 0 0 (m ^ n)).after
          | false ↦ elim (ltb (0 + m ^ n) (m ^ n)) as (λ (_ : Bool). List Row × ℕ) [
            | true ↦
                walk (bare_rule leaves) m n k (0 + m ^ n) (next_width m n (0 + m ^ n)) (bare_look l 0 0 (m ^ n)).after
            | false ↦ ([], (bare_look l 0 0 (m ^ n)).after)
          ]
        ])).0 ≡ bare_row 0 Collision 0 (m ^ n) 65535 ∷ (walk (bare_rule leaves) m n k 0 (m ^ n / m) 1).0
    go [] h = absurd (omega arith)
    go (p ∷ []) h = absurd (omega arith)
    go (p ∷ q ∷ l) h = refl
