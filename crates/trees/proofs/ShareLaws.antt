-- The shares serve: they add up to k, each fits its tree, and their slots are those of the theorem on worst counts.
use mathlib.Core.Path.{◌≡◌, refl, sym, ap, ◌∙◌, subst}
use mathlib.Core.Bool.{Bool, true, false}
use mathlib.Core.List.{List}
use Prim.Native.Nat.{ℕ, zero, suc, ◌+◌, ◌*◌, ◌^◌, ◌/◌, ◌%◌, ◌-◌, ◌≤◌, ◌<◌, min, zero-le}
use native.Mathlib.Nat.{sub-zero, zero-min, pow-zero, le_dest, one-le-pow, mul-div_right, mul-mod_right, div-add-mod, mod-lt, mul-le-mul_right, le_of_mul-le-mul_left, lt_of_mul-lt-mul_left, pow-succ', le-div_iff_mul-le, div-lt_iff_lt-mul, zero-mul}
use native.Mathlib.Omega.{arith}
use lib.Dec.{leb}
use lib.ListN.{length}
use borrow.Author.Tests.{leb-true, leb-false}
use Rattle.trees.specs.Worst.{sum, AllBelow, Way}
use Rattle.trees.proofs.SlopeLaws.{slope, slots, slots_all, halves, even, at_even, slots_flat}
use Rattle.trees.proofs.Shares.{raised, equal_share, extra, share, up_from}

-- ---- shares in a row

up_length : (f : ℕ → ℕ) (j d : ℕ) → length (up_from f j d) ≡ d
up_length f j zero = refl
up_length f j (suc d) = ap suc (up_length f (suc j) d)

up_below : (f : ℕ → ℕ) (m b j d : ℕ) → j + d ≤ m → ((i : ℕ) → i < m → f i < b) → AllBelow b (up_from f j d)
up_below f m b j zero le h = tt
up_below f m b j (suc d) le h = (h j (omega arith), up_below f m b (suc j) d (omega arith) h)

up_sum : (f g : ℕ → ℕ) (m j d : ℕ) → j + d ≡ m → g m ≡ 0 → ((i : ℕ) → i < m → g i ≡ f i + g (suc i)) → sum (up_from f j d) ≡ g j
up_sum f g m j zero e z h = let q : m ≡ j = omega arith in sym (subst (λ (x : ℕ). g x ≡ 0) q z)
up_sum f g m j (suc d) e z h = ap (λ (x : ℕ). f j + x) (up_sum f g m (suc j) d (omega arith) z h) ∙ sym (h j (omega arith))

up_slots : (f : ℕ → ℕ) (m n j d : ℕ) → slots_all m n (halves (up_from f j d)) ≡ sum (up_from (λ i. slots m n (f i / 2)) j d)
up_slots f m n j zero = refl
up_slots f m n j (suc d) = ap (λ (x : ℕ). slots m n (f j / 2) + x) (up_slots f m n (suc j) d)

-- ---- equal shares

equal_step : (m u w i : ℕ) → i < m → equal_share m u w i + ((m - suc i) * (u * (w / m)) + u * min (m - suc i) (w % m)) ≡ (m - i) * (u * (w / m)) + u * min (m - i) (w % m)
equal_step m u w i lt = go (leb (m - w % m) i) refl
  where
    go : (b : Bool) → leb (m - w % m) i ≡ b → raised b u (u * (w / m)) + ((m - suc i) * (u * (w / m)) + u * min (m - suc i) (w % m)) ≡ (m - i) * (u * (w / m)) + u * min (m - i) (w % m)
    go true e =
        let l = leb-true (m - w % m) i e in
        let a : m - i ≡ suc (m - suc i) = omega arith in
        let b : min (m - i) (w % m) ≡ suc (min (m - suc i) (w % m)) = omega arith in
        rw b (omega (arith, ap (λ (y : ℕ). y * (u * (w / m))) a))
    go false e =
        let l = leb-false (m - w % m) i e in
        let a : m - i ≡ suc (m - suc i) = omega arith in
        let b : min (m - i) (w % m) ≡ min (m - suc i) (w % m) = omega arith in
        rw b (omega (arith, ap (λ (y : ℕ). y * (u * (w / m))) a))

extra_none : (o i : ℕ) → 0 < i → extra o i ≡ 0
extra_none o zero h = absurd (omega arith)
extra_none o (suc i) h = refl

extra_small : (o i : ℕ) → o < 2 → extra o i < 2
extra_small o zero h = h
extra_small o (suc i) h = omega arith

-- a way of k whose slots are those that the theorem says
abbrev pub Serves : ℕ → ℕ → ℕ → List ℕ → Type 0
Serves m n k ks = Way m (suc (m ^ n)) k ks × (suc (slots_all m n (halves ks)) ≡ slots m (suc n) (k / 2))

-- ---- few leaves

abbrev few_share : ℕ → ℕ → ℕ → ℕ
few_share m k i = equal_share m 2 (k / 2) i + extra (k % 2) i

module _ (m n k : ℕ) (h : 2 ≤ m) (h2 : 2 ≤ k) (lt : k < 2 * m ^ suc n) where
  parted : m * (k / 2 / m) + k / 2 % m ≡ k / 2
  parted = div-add-mod (k / 2) m

  rest : k / 2 % m < m
  rest = mod-lt (k / 2) (omega arith)

  small : k / 2 / m < m ^ n
  small = (div-lt_iff_lt-mul {k = m} {x = k / 2} {y = m ^ n} (omega arith)).1 (omega (arith, pow-succ' m n))

  few_sum : sum (up_from (few_share m k) 0 m) ≡ k
  few_sum =
      let none : extra (k % 2) m ≡ 0 = extra_none (k % 2) m (omega arith) in
      let zero_left : m - m ≡ 0 = omega arith in
      let all : min m (k / 2 % m) ≡ k / 2 % m = omega (arith, rest) in
      up_sum (few_share m k) (λ i. (m - i) * (2 * (k / 2 / m)) + 2 * min (m - i) (k / 2 % m) + extra (k % 2) i) m 0 m (omega arith)
      (rw (none, zero_left) (omega arith))
      (λ i g. omega (arith, equal_step m 2 (k / 2) i g))
      ∙ rw (sub-zero m, all) (omega (arith, parted))

  few_below : (i : ℕ) → i < m → few_share m k i < suc (m ^ suc n)
  few_below i g = go (leb (m - k / 2 % m) i) refl
    where
      go : (b : Bool) → leb (m - k / 2 % m) i ≡ b → raised b 2 (2 * (k / 2 / m)) + extra (k % 2) i < suc (m ^ suc n)
      go true e =
          let l = leb-true (m - k / 2 % m) i e in
          omega (arith, extra_none (k % 2) i (omega (arith, rest)), small, pow-succ' m n, mul-le-mul_right (m ^ n) h)
      go false e = omega (arith, extra_small (k % 2) i (omega arith), small, pow-succ' m n, mul-le-mul_right (m ^ n) h)

  few_step : (i : ℕ) → i < m
      → (m - i) * slots m (suc n) (k / 2 / m) + min (m - i) (k / 2 % m) * slope m (suc n) (k / 2 / m)
      ≡ slots m (suc n) (few_share m k i / 2) + ((m - suc i) * slots m (suc n) (k / 2 / m) + min (m - suc i) (k / 2 % m) * slope m (suc n) (k / 2 / m))
  few_step i g = go (leb (m - k / 2 % m) i) refl
    where
      o : extra (k % 2) i < 2
      o = extra_small (k % 2) i (omega arith)

      a : m - i ≡ suc (m - suc i)
      a = omega arith

      go : (b : Bool) → leb (m - k / 2 % m) i ≡ b
          → (m - i) * slots m (suc n) (k / 2 / m) + min (m - i) (k / 2 % m) * slope m (suc n) (k / 2 / m)
          ≡ slots m (suc n) ((raised b 2 (2 * (k / 2 / m)) + extra (k % 2) i) / 2) + ((m - suc i) * slots m (suc n) (k / 2 / m) + min (m - suc i) (k / 2 % m) * slope m (suc n) (k / 2 / m))
      go true e =
          let l = leb-true (m - k / 2 % m) i e in
          let p : (2 * (k / 2 / m) + 2 + extra (k % 2) i) / 2 ≡ suc (k / 2 / m) = omega (arith, o) in
          let b : min (m - i) (k / 2 % m) ≡ suc (min (m - suc i) (k / 2 % m)) = omega arith in
          rw (p, b) (omega (arith, ap (λ (y : ℕ). y * slots m (suc n) (k / 2 / m)) a))
      go false e =
          let l = leb-false (m - k / 2 % m) i e in
          let p : (2 * (k / 2 / m) + extra (k % 2) i) / 2 ≡ k / 2 / m = omega (arith, o) in
          let b : min (m - i) (k / 2 % m) ≡ min (m - suc i) (k / 2 % m) = omega arith in
          rw (p, b) (omega (arith, ap (λ (y : ℕ). y * slots m (suc n) (k / 2 / m)) a))

  few_serves : Serves m (suc n) k (up_from (few_share m k) 0 m)
  few_serves =
      let zero_left : m - m ≡ 0 = omega arith in
      let all : min m (k / 2 % m) ≡ k / 2 % m = omega (arith, rest) in
      let t : sum (up_from (λ i. slots m (suc n) (few_share m k i / 2)) 0 m) ≡ (m - 0) * slots m (suc n) (k / 2 / m) + min (m - 0) (k / 2 % m) * slope m (suc n) (k / 2 / m) =
      up_sum (λ i. slots m (suc n) (few_share m k i / 2)) (λ i. (m - i) * slots m (suc n) (k / 2 / m) + min (m - i) (k / 2 % m) * slope m (suc n) (k / 2 / m)) m 0 m (omega arith)
      (rw (zero_left, zero-min) (omega arith)) few_step in
      let m0 : m - 0 ≡ m = omega arith in
      let t' : sum (up_from (λ i. slots m (suc n) (few_share m k i / 2)) 0 m) ≡ even m (suc n) (k / 2) = t ∙ rw (m0, all) in (
        record { count = up_length (few_share m k) 0 m; small = up_below (few_share m k) m (suc (m ^ suc n)) 0 m (omega arith) few_below; adds = few_sum },
        omega (arith, up_slots (few_share m k) m (suc n) 0 m, t', at_even m (suc n) (k / 2) h (omega arith)),
      )

-- ---- many leaves

-- from 2 q leaves on: parts of lo leaves or more all have v slots, and m of them are what the theorem says
pub record Flat (m n k : ℕ) : Type 0 where
  pub lo : ℕ
  pub v : ℕ
  pub fits : lo ≤ m ^ n
  pub room : m * lo ≤ k
  pub each : (x : ℕ) → lo ≤ x → slots m n (x / 2) ≡ v
  pub whole : slots m (suc n) (k / 2) ≡ suc (m * v)

pub many_flat : (m n k : ℕ) → 2 ≤ m → 2 * m ^ n ≤ k → Flat m n k
many_flat m zero k h g = record { lo = 0; v = 1; fits = zero-le; room = omega arith; each = λ x hx. always m (x / 2); whole = top m (k / 2) (omega (arith, pow-zero m)) }
  where
    always : (m p : ℕ) → slots m 0 p ≡ 1
    always m zero = refl
    always m (suc p) = omega (arith, always m p)

    top : (m p : ℕ) → 1 ≤ p → slots m 1 p ≡ suc (m * 1)
    top m zero a = absurd (omega arith)
    top m (suc zero) a = omega arith
    top m (suc (suc p)) a = omega (arith, top m (suc p) (omega arith))
many_flat m (suc n) k h g =
    let q : ℕ = m ^ n in
    let m0 : 0 < m = omega arith in
    let w : m ^ suc n ≡ m * q = pow-succ' m n in
    let w2 : m ^ suc (suc n) ≡ m * m ^ suc n = pow-succ' m (suc n) in
    let e1 : m * q / m ≡ q = mul-div_right q m0 in
    let e2 : m * q % m ≡ 0 = mul-mod_right m q in
    let d = le_dest {n = m ^ suc n} {m = k / 2} (omega arith) in
    let pos : 1 ≤ m ^ suc n = one-le-pow (suc n) m m0 in
    let top : slots m (suc (suc n)) (m * q) ≡ suc (m * slots m (suc n) q) = at_even m (suc n) (m * q) h (omega arith) ∙ rw (e1, e2) (omega arith) in
    let flat : slots m (suc (suc n)) (k / 2) ≡ slots m (suc (suc n)) (m ^ suc n) = ap (λ (x : ℕ). slots m (suc (suc n)) x) (sym d.1) ∙ slots_flat m (suc (suc n)) (m ^ suc n) d.0 m0 (omega arith) in
    record {
      lo = 2 * q;
      v = slots m (suc n) q;
      fits = omega (arith, mul-le-mul_right q h);
      room = omega arith;
      each = λ x hx. let f = le_dest {n = q} {m = x / 2} (omega arith) in ap (λ (y : ℕ). slots m (suc n) y) (sym f.1) ∙ slots_flat m (suc n) q f.0 m0 (omega arith);
      whole = flat ∙ ap (λ (x : ℕ). slots m (suc (suc n)) x) w ∙ top;
    }

module _ (m n k : ℕ) (h : 2 ≤ m) (g : 2 * m ^ n ≤ k) (le : k ≤ m ^ suc n) where
  F : Flat m n k
  F = many_flat m n k h g

  divided : m * (k / m) + k % m ≡ k
  divided = div-add-mod k m

  remains : k % m < m
  remains = mod-lt k (omega arith)

  many_sum : sum (up_from (equal_share m 1 k) 0 m) ≡ k
  many_sum =
      let zero_left : m - m ≡ 0 = omega arith in
      let all : min m (k % m) ≡ k % m = omega (arith, remains) in
      up_sum (equal_share m 1 k) (λ i. (m - i) * (1 * (k / m)) + 1 * min (m - i) (k % m)) m 0 m (omega arith)
      (rw zero_left (omega arith))
      (λ i lt. omega (arith, equal_step m 1 k i lt))
      ∙ rw (sub-zero m, all) (omega (arith, divided))

  many_bounds : (i : ℕ) → i < m → (k / m ≤ equal_share m 1 k i) × (equal_share m 1 k i < suc (m ^ n))
  many_bounds i lt = go (leb (m - k % m) i) refl
    where
      w : m ^ suc n ≡ m * m ^ n
      w = pow-succ' m n

      top : k / m ≤ m ^ n
      top = le_of_mul-le-mul_left {k = m} (omega (arith, divided, w)) (omega arith)

      go : (b : Bool) → leb (m - k % m) i ≡ b → (k / m ≤ raised b 1 (1 * (k / m))) × (raised b 1 (1 * (k / m)) < suc (m ^ n))
      go true e =
          let l = leb-true (m - k % m) i e in
          (omega arith, omega (arith, lt_of_mul-lt-mul_left m {m = k / m} {n = m ^ n} (omega (arith, divided, w, remains))))
      go false e = (omega arith, omega (arith, top))

  many_serves : Serves m n k (up_from (equal_share m 1 k) 0 m)
  many_serves =
      let zero_left : m - m ≡ 0 = omega arith in
      let lo : F.lo ≤ k / m = (le-div_iff_mul-le {k = m} {x = F.lo} {y = k} (omega arith)).1 (omega (arith, F.room)) in
      let t : sum (up_from (λ i. slots m n (equal_share m 1 k i / 2)) 0 m) ≡ (m - 0) * F.v =
      up_sum (λ i. slots m n (equal_share m 1 k i / 2)) (λ i. (m - i) * F.v) m 0 m (omega arith)
      (rw zero_left (zero-mul F.v))
      (λ i lt.
      let a : m - i ≡ suc (m - suc i) = omega arith in
      let e : slots m n (equal_share m 1 k i / 2) ≡ F.v = F.each (equal_share m 1 k i) (omega (arith, (many_bounds i lt).0)) in
      omega (arith, ap (λ (y : ℕ). y * F.v) a)) in (
        record { count = up_length (equal_share m 1 k) 0 m; small = up_below (equal_share m 1 k) m (suc (m ^ n)) 0 m (omega arith) (λ i lt. (many_bounds i lt).1); adds = many_sum },
        omega (arith, up_slots (equal_share m 1 k) m n 0 m, rw (sub-zero m) at t, F.whole),
      )

-- ---- both

pub shares_serve : (m n k : ℕ) → 2 ≤ m → 2 ≤ k → k ≤ m ^ suc n → Serves m n k (up_from (share m (m ^ n) k) 0 m)
shares_serve m n k h h2 le = go (leb (2 * m ^ n) k) refl
  where
    few' : (n : ℕ) → k < 2 * m ^ n → Serves m n k (up_from (few_share m k) 0 m)
    few' zero lt = absurd (omega (arith, pow-zero m))
    few' (suc n) lt = few_serves m n k h h2 lt

    go : (b : Bool) → leb (2 * m ^ n) k ≡ b → Serves m n k (up_from (λ j. elim b [ true ↦ equal_share m 1 k j | false ↦ equal_share m 2 (k / 2) j + extra (k % 2) j ]) 0 m)
    go true e = many_serves m n k h (leb-true (2 * m ^ n) k e) le
    go false e = few' n (leb-false (2 * m ^ n) k e)

pub shares_fit : (m n k : ℕ) → 2 ≤ m → 2 ≤ k → k ≤ m ^ suc n → (i : ℕ) → i < m → share m (m ^ n) k i ≤ m ^ n
shares_fit m n k h h2 le i lt = go (leb (2 * m ^ n) k) refl
  where
    few' : (n : ℕ) → k < 2 * m ^ n → few_share m k i ≤ m ^ n
    few' zero l = absurd (omega (arith, pow-zero m))
    few' (suc n) l = omega (arith, few_below m n k h h2 l i lt)

    go : (b : Bool) → leb (2 * m ^ n) k ≡ b → elim b [ true ↦ equal_share m 1 k i | false ↦ equal_share m 2 (k / 2) i + extra (k % 2) i ] ≤ m ^ n
    go true e = omega (arith, (many_bounds m n k h (leb-true (2 * m ^ n) k e) le i lt).1)
    go false e = few' n (leb-false (2 * m ^ n) k e)
