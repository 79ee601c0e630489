-- The shape of a tree: its height is the one power that fits, its verdict says whether there is one, and its nodes are counted.
use mathlib.Core.Path.{◌≡◌, refl, sym, ap, ◌∙◌}
use mathlib.Core.Bool.{Bool, true, false}
use mathlib.Core.Logic.{◌⊎◌, ⊎_elim}
use Prim.Native.Nat.{ℕ, zero, suc, ◌+◌, ◌*◌, ◌-◌, ◌/◌, ◌^◌, ◌≤◌, ◌<◌}
use native.Mathlib.Nat.{pow-le-pow_left, pow-le-pow_right, not-suc-le-zero, suc-ne-zero, pow-succ', pow-zero, mul-one, mul-add, mul_left_comm, mul-div_right, mul-le-mul_left, mul_comm, one-le-pow}
use native.Mathlib.Omega.{arith}
use lib.Dec.{ltb, eqb}
use borrow.Author.Tests.{eqb-true, eqb-false, ltb-true, ltb-false, lt-ltb, le-ltb}
use Rattle.refusals.specs.declared.Refusal.TheVariants.{Branching, LeafCount}
use Rattle.refusals.specs.Numbers.{granted, within, ask}
use Rattle.refusals.proofs.Verdicts.{ask_granted, within_true}
use Rattle.trees.specs.Shape.{power_from, height_of, tree_verdict, nodes, Tree}
use Rattle.trees.proofs.Powers.{le_or_lt, pow_inj}

-- ---- the height

power_sound : (m t n h : ℕ) → power_from m t n ≡ suc h → m ^ suc h ≡ t
power_sound m t zero h e = absurd (suc-ne-zero h (sym e))
power_sound m t (suc n) h e = go (power_sound m t n h) (eqb (m ^ suc n) t) refl e
  where
    go : (power_from m t n ≡ suc h → m ^ suc h ≡ t) → (b : Bool) → eqb (m ^ suc n) t ≡ b → elim b [ true ↦ suc n | false ↦ power_from m t n ] ≡ suc h → m ^ suc h ≡ t
    go ih true q f = ap (λ (x : ℕ). m ^ x) (sym f) ∙ eqb-true (m ^ suc n) t q
    go ih false q f = ih f

power_complete : (m t n h : ℕ) → 2 ≤ m → m ^ suc h ≡ t → h < n → power_from m t n ≡ suc h
power_complete m t zero h hm e lt = absurd (not-suc-le-zero lt)
power_complete m t (suc n) h hm e lt = go (power_complete m t n h hm e) (eqb (m ^ suc n) t) refl
  where
    go : (h < n → power_from m t n ≡ suc h) → (b : Bool) → eqb (m ^ suc n) t ≡ b → elim b [ true ↦ suc n | false ↦ power_from m t n ] ≡ suc h
    go ih true q = pow_inj m hm (suc n) (suc h) (eqb-true (m ^ suc n) t q ∙ sym e)
    go ih false q = ih
        (⊎_elim (λ p. let same : h ≡ n = omega arith in absurd (eqb-false (m ^ suc n) t q (ap (λ (x : ℕ). m ^ suc x) (sym same) ∙ e))) (λ p. p) (le_or_lt n h))

power_few : (m h : ℕ) → 2 ≤ m → m ^ suc h ≤ 1024 → h < 10
power_few m h hm le =
    ⊎_elim (λ p. absurd (omega (arith, pow-le-pow_left hm (suc h), pow-le-pow_right {n = 2} (omega arith) {i = 11} {j = suc h} (omega arith)))) (λ p. p) (le_or_lt 10 h)

-- a height that is found is right
pub height_sound : (m t h : ℕ) → height_of m t ≡ suc h → (m ^ suc h ≡ t) × (t ≤ 1024)
height_sound m t h e = go (ltb 1024 t) refl e
  where
    go : (b : Bool) → ltb 1024 t ≡ b → elim b [ true ↦ 0 | false ↦ power_from m t 10 ] ≡ suc h → (m ^ suc h ≡ t) × (t ≤ 1024)
    go true q f = absurd (suc-ne-zero h (sym f))
    go false q f = (power_sound m t 10 h f, ltb-false 1024 t q)

-- a height that is there is found
pub height_complete : (m t h : ℕ) → 2 ≤ m → t ≡ m ^ suc h → t ≤ 1024 → height_of m t ≡ suc h
height_complete m t h hm e le = rw (le-ltb 1024 t le, height_of) (power_complete m t 10 h hm (sym e) (power_few m h hm (omega arith)))

pub height_none : (m t : ℕ) → ((h : ℕ) → t ≡ m ^ suc h → ⊥) → height_of m t ≡ 0
height_none m t f = go (height_of m t) refl
  where
    go : (x : ℕ) → height_of m t ≡ x → height_of m t ≡ 0
    go zero e = e
    go (suc h) e = absurd (f h (sym (height_sound m t h e).0))

-- ---- the largest power that is not above t

-- it is t where a height is there
pub power_fits : (m t n : ℕ) → 2 ≤ m → m ≤ t → t ≤ 1024 → m ^ n ≤ t → t < m * m ^ n → eqb (m ^ n) t ≡ ltb 0 (height_of m t)
power_fits m t zero hm lo few le lt = absurd (omega (arith, pow-zero m, mul-one m, ap (λ (x : ℕ). m * x) (pow-zero m)))
power_fits m t (suc n) hm lo few le lt = go (eqb (m ^ suc n) t) refl
  where
    go : (b : Bool) → eqb (m ^ suc n) t ≡ b → b ≡ ltb 0 (height_of m t)
    go true e = sym (lt-ltb 0 (height_of m t) (omega (arith, height_complete m t n hm (sym (eqb-true (m ^ suc n) t e)) few)))
    go false e = rw (height_none m t (λ h f. ⊎_elim
        (λ p.
        let a : m ^ suc (suc n) ≤ m ^ suc h = pow-le-pow_right (omega arith) (omega arith) in
        absurd (omega (arith, pow-succ' m (suc n))))
        (λ p.
        let a : m ^ suc h ≤ m ^ suc n = pow-le-pow_right (omega arith) (omega arith) in
        eqb-false (m ^ suc n) t e (omega arith))
        (le_or_lt (suc n) h))) refl

-- a power of m that is not above t
pub record Power (m t power : ℕ) : Type 0 where
  pub exponent : ℕ
  pub is : power ≡ m ^ exponent
  pub under : power ≤ t

pub first_power : (m t : ℕ) → m ≤ t → Power m t m
first_power m t h = record { exponent = 1; is = sym (pow-succ' m 0 ∙ ap (λ (x : ℕ). m * x) (pow-zero m) ∙ mul-one m); under = h }

pub next_power : (m t power : ℕ) → power * m ≤ t → Power m t power → Power m t (power * m)
next_power m t power h p = record { exponent = suc p.exponent; is = ap (λ (x : ℕ). x * m) p.is ∙ mul_comm (m ^ p.exponent) m ∙ sym (pow-succ' m p.exponent); under = h }

pub power_grows : (m t power : ℕ) → 2 ≤ m → power * m ≤ t → Power m t power → t - power * m < t - power
power_grows m t power hm le p = omega (arith, le, mul-le-mul_left power hm, one-le-pow p.exponent m (omega arith), p.is)

-- behind the largest one
pub last_power : (m t power : ℕ) → 2 ≤ m → m ≤ t → t ≤ 1024 → t < power * m → Power m t power → eqb power t ≡ ltb 0 (height_of m t)
last_power m t power hm lo few above p =
    rw p.is (power_fits m t p.exponent hm lo few (omega (arith, p.is, p.under)) (omega (arith, mul_comm m (m ^ p.exponent), ap (λ (x : ℕ). x * m) p.is)))

-- none is there below m or above the limit
pub height_outside : (m t : ℕ) → 2 ≤ m → (t < m) ⊎ (1024 < t) → false ≡ ltb 0 (height_of m t)
height_outside m t hm out = go (height_of m t) refl
  where
    go : (x : ℕ) → height_of m t ≡ x → false ≡ ltb 0 (height_of m t)
    go zero e = rw e refl
    go (suc h) e =
        let s = height_sound m t h e in
        absurd (⊎_elim (λ p. omega (arith, s.0, pow-succ' m h, mul-le-mul_left m (one-le-pow h m (omega arith)), mul-one m)) (λ p. omega (arith, s.1)) out)

-- ---- the verdict

-- what a granted tree is
pub record Grown (m t : ℕ) : Type 0 where
  pub under : ℕ
  pub height : height_of m t ≡ suc under
  pub tree : Tree m t
  pub leaves : t ≡ m ^ suc under

pub grown : (m t : ℕ) → tree_verdict m t ≡ granted → Grown m t
grown m t e =
    let a = ask_granted (within 2 16 m) Branching (ask (ltb 0 (height_of m t)) LeafCount granted) e in
    let b = ask_granted (ltb 0 (height_of m t)) LeafCount granted a.1 in
    go (within_true 2 16 m a.0) (height_of m t) refl (ltb-true 0 (height_of m t) b.0)
  where
    go : (2 ≤ m) × (m ≤ 16) → (n : ℕ) → height_of m t ≡ n → 0 < height_of m t → Grown m t
    go w zero q lt = absurd (omega arith)
    go w (suc n) q lt =
        let s = height_sound m t n q in
        record { under = n; height = q; leaves = sym s.0; tree = record { height = suc n; leaves = sym s.0; branches = w.0; narrow = w.1; few = s.1 } }

-- ---- nodes

-- a tree has less than twice as many nodes as leaves
pub nodes_few : (m n : ℕ) → 2 ≤ m → nodes m n + 1 ≤ 2 * m ^ n
nodes_few m zero h = omega (arith, pow-zero m)
nodes_few m (suc n) h =
    let p : m * (nodes m n + 1) ≤ m * (2 * m ^ n) = mul-le-mul_left m (nodes_few m n h) in
    let q : m * (nodes m n + 1) ≡ m * nodes m n + m = rw (mul-add, mul-one) refl in
    let r : m * (2 * m ^ n) ≡ 2 * m ^ suc n = mul_left_comm m 2 (m ^ n) ∙ ap (λ (x : ℕ). 2 * x) (sym (pow-succ' m n)) in
    omega arith

nodes_sum : (k n : ℕ) → k * nodes (suc k) n + 1 ≡ suc k * suc k ^ n
nodes_sum k zero = omega (arith, pow-zero (suc k), mul-one k, mul-one (suc k), ap (λ (x : ℕ). suc k * x) (pow-zero (suc k)))
nodes_sum k (suc n) =
    let m : ℕ = suc k in
    let N : ℕ = nodes m n in
    let a : k * suc (m * N) ≡ k * 1 + k * (m * N) = ap (λ (x : ℕ). k * x) (omega arith) ∙ mul-add k 1 (m * N) in
    let b : k * (m * N) ≡ m * (k * N) = mul_left_comm k m N in
    let c : m * (k * N + 1) ≡ m * (k * N) + m * 1 = mul-add m (k * N) 1 in
    let d : m * (k * N + 1) ≡ m * (m * m ^ n) = ap (λ (x : ℕ). m * x) (nodes_sum k n) in
    let e : m * m ^ suc n ≡ m * (m * m ^ n) = ap (λ (x : ℕ). m * x) (pow-succ' m n) in
    omega (arith, mul-one k, mul-one m)

-- the quotient by which a log's room is stated counts the nodes
pub nodes_quotient : (m t n : ℕ) → 2 ≤ m → t ≡ m ^ n → (m * t - 1) / (m - 1) ≡ nodes m n
nodes_quotient zero t n h e = absurd (omega arith)
nodes_quotient (suc k) t n h e =
    let p : suc k * t - 1 ≡ k * nodes (suc k) n = omega (arith, nodes_sum k n, ap (λ (x : ℕ). suc k * x) e) in
    let q : suc k - 1 ≡ k = omega arith in
    ap (λ (x : ℕ). x / (suc k - 1)) p ∙ ap (λ (x : ℕ). k * nodes (suc k) n / x) q ∙ mul-div_right (nodes (suc k) n) (omega arith)
