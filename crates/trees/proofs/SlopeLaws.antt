-- Slopes: what two more active leaves cost at most (docs/RULES.md, section 6), as a theory of naturals.
-- All slots of a search are counted, the sendings too, so that nothing is negative.
--
--   slope m n j         what two more active leaves cost at most, from 2 j to 2 j + 2, in slots of any kind
--   slots m n p         all slots for 2 p active leaves, and for 2 p + 1
--   slots_all m n ps    the slots of several subtrees
--   halves ks           the pairs in each part, an odd leaf left out
--   even m n P          those of m subtrees whose P pairs are as equal as they can be
use mathlib.Core.Path.{◌≡◌, refl, sym, ap, subst}
use mathlib.Core.List.{List, [], ◌∷◌, map}
use mathlib.Core.Logic.{◌⊎◌, inl, inr, ⊎_elim}
use Prim.Native.Nat.{ℕ, zero, suc, ◌+◌, ◌*◌, ◌^◌, ◌/◌, ◌%◌, ◌≤◌, ◌<◌, zero-le}
use native.Mathlib.Nat.{add-zero, div-eq_of_lt, mod-eq_of_lt, le_refl, le_trans, mul-le-mul_left, le_of_mul-le-mul_left, le-div_iff_mul-le, div-add-mod, mod-lt, not-suc-le-zero, div-eq_of_lt-le, le_dest, one-le-pow, pow-succ'}
use native.Mathlib.Omega.{arith}
use lib.ListN.{length}
use Rattle.trees.specs.Worst.{sum}
use Rattle.trees.proofs.Powers.{le_or_lt}

abbrev pub slope : ℕ → ℕ → ℕ → ℕ
slope m zero j = 0
slope m (suc n) zero = m * suc n
slope m (suc n) (suc j) = slope m n (suc j / m)

abbrev pub slots : ℕ → ℕ → ℕ → ℕ
slots m n zero = 1
slots m n (suc p) = slots m n p + slope m n p

abbrev pub slots_all : ℕ → ℕ → List ℕ → ℕ
slots_all m n [] = 0
slots_all m n (p ∷ ps) = slots m n p + slots_all m n ps

abbrev pub half : ℕ → ℕ
half k = k / 2

abbrev pub halves : List ℕ → List ℕ
halves ks = map half ks

abbrev pub even : ℕ → ℕ → ℕ → ℕ
even m n P = m * slots m n (P / m) + P % m * slope m n (P / m)

div_mono : (m a b : ℕ) → 0 < m → a ≤ b → a / m ≤ b / m
div_mono m a b h le = (le-div_iff_mul-le h).1 (le_trans ((le-div_iff_mul-le {x = a / m} h).0 (le_refl _)) le)

-- ---- the slopes never grow

slope_first : (m n : ℕ) → slope m n 0 ≡ m * n
slope_first m zero = omega arith
slope_first m (suc n) = refl

slope_top : (m n j : ℕ) → slope m n j ≤ m * n
slope_top m zero j = zero-le
slope_top m (suc n) zero = le_refl _
slope_top m (suc n) (suc j) = omega (arith, slope_top m n (suc j / m))

pub slope_falls : (m n i j : ℕ) → 0 < m → i ≤ j → slope m n j ≤ slope m n i
slope_falls m zero i j h le = zero-le
slope_falls m (suc n) zero j h le = slope_top m (suc n) j
slope_falls m (suc n) (suc i) zero h le = absurd (not-suc-le-zero le)
slope_falls m (suc n) (suc i) (suc j) h le = slope_falls m n (suc i / m) (suc j / m) h (div_mono m (suc i) (suc j) h le)

pub slots_grow : (m n p d : ℕ) → slots m n p ≤ slots m n (p + d)
slots_grow m n p zero = rw add-zero (le_refl _)
slots_grow m n p (suc d) =
    let e : p + suc d ≡ suc (p + d) = omega arith in
    rw e (omega (arith, slots_grow m n p d))

pub slots_mono : (m n p q : ℕ) → p ≤ q → slots m n p ≤ slots m n q
slots_mono m n p q le = let d = le_dest le in subst (λ (x : ℕ). slots m n p ≤ slots m n x) d.1 (slots_grow m n p d.0)

-- ---- tangent: the slots lie below the line through any of their points

above : (m n a d : ℕ) → 0 < m → slots m n (a + d) ≤ slots m n a + d * slope m n a
above m n a zero h = rw (add-zero a) (omega arith)
above m n a (suc d) h =
    let e : a + suc d ≡ suc (a + d) = omega arith in
    rw e (omega (arith, above m n a d h, slope_falls m n a (a + d) h (omega arith)))

below : (m n p d c : ℕ) → ((j : ℕ) → j < p + d → c ≤ slope m n j) → slots m n p + d * c ≤ slots m n (p + d)
below m n p zero c h = rw (add-zero p) (omega arith)
below m n p (suc d) c h =
    let e : p + suc d ≡ suc (p + d) = omega arith in
    rw e (omega (arith, below m n p d c (λ j g. h j (omega arith)), h (p + d) (omega arith)))

pub tangent : (m n p a : ℕ) → 0 < m → slots m n p + a * slope m n a ≤ slots m n a + p * slope m n a
tangent m n p a h = ⊎_elim
    (λ g. let d = le_dest g in let q : a + d.0 ≡ p = d.1 in rw (← q) (omega (arith, above m n a d.0 h)))
    (λ g. let d = le_dest g in
    let q : suc p + d.0 ≡ a = d.1 in
    let q' : p + suc d.0 ≡ a = omega arith in
    let s : ℕ = slope m n a in
    let b : slots m n p + suc d.0 * s ≤ slots m n (p + suc d.0) = below m n p (suc d.0) s (λ j lt. slope_falls m n j a h (omega arith)) in
    let b' : slots m n p + suc d.0 * s ≤ slots m n a = rw q' at b in
    omega (arith, ap (λ (x : ℕ). x * s) (sym q')))
    (le_or_lt a p)

-- ---- balance: no way of dealing out pairs beats the even one

pub balance : (m n a : ℕ) (ps : List ℕ) → 0 < m → slots_all m n ps + length ps * (a * slope m n a) ≤ length ps * slots m n a + sum ps * slope m n a
balance m n a [] h = omega arith
balance m n a (p ∷ ps) h = omega (arith, balance m n a ps h, tangent m n p a h)

-- P + 1 by the quotient and the remainder of P
step_div : (m P : ℕ) → 0 < m → (((suc P / m ≡ P / m) × (suc P % m ≡ suc (P % m)))) ⊎ ((suc P / m ≡ suc (P / m)) × (suc P % m ≡ 0) × (suc (P % m) ≡ m))
step_div m P h =
    let d : m * (P / m) + P % m ≡ P = div-add-mod P m in
    let d' : m * (suc P / m) + suc P % m ≡ suc P = div-add-mod (suc P) m in
    let l : P % m < m = mod-lt P h in
    ⊎_elim
    (λ g.
    let e : suc (P % m) ≡ m = omega arith in
    let q : suc P / m ≡ P / m + 1 = div-eq_of_lt-le m (omega arith) (omega arith) in
    let q' : suc P / m ≡ suc (P / m) = omega arith in
    inr (q', omega (arith, ap (λ (x : ℕ). m * x) q'), e))
    (λ g.
    let q : suc P / m ≡ P / m = div-eq_of_lt-le m (omega arith) (omega arith) in
    inl (q, omega (arith, ap (λ (x : ℕ). m * x) q)))
    (le_or_lt m (suc (P % m)))

even_step : (m n P : ℕ) → 0 < m → even m n (suc P) ≡ even m n P + slope m n (P / m)
even_step m n P h = ⊎_elim
    (λ e. rw (e.0, e.1) (omega arith))
    (λ e. rw (e.0, e.1) (omega (arith, ap (λ (x : ℕ). x * slope m n (P / m)) (sym e.2))))
    (step_div m P h)

even_first : (m n : ℕ) → 2 ≤ m → even m n 1 ≡ m + m * n
even_first m n h =
    let q : 1 / m ≡ 0 = div-eq_of_lt (omega arith) in
    let r : 1 % m ≡ 1 = mod-eq_of_lt (omega arith) in
    rw (q, r) (omega (arith, slope_first m n))

pub slots_even : (m n P : ℕ) → 2 ≤ m → slots m (suc n) (suc P) ≡ suc (even m n (suc P))
slots_even m n zero h = omega (arith, even_first m n h)
slots_even m n (suc P) h = omega (arith, slots_even m n P h, even_step m n (suc P) (omega arith))

pub at_even : (m n p : ℕ) → 2 ≤ m → 1 ≤ p → slots m (suc n) p ≡ suc (even m n p)
at_even m n zero h g = absurd (not-suc-le-zero g)
at_even m n (suc p) h g = slots_even m n p h

-- ---- from 2 q leaves on every slope is 0

pub slope_flat : (m n j : ℕ) → 0 < m → m ^ n ≤ m * j → slope m n j ≡ 0
slope_flat m zero j h le = refl
slope_flat m (suc n) zero h le = absurd (omega (arith, one-le-pow (suc n) m h))
slope_flat m (suc zero) (suc j) h le = refl
slope_flat m (suc (suc n)) (suc j) h le =
    let w : m ^ suc (suc n) ≡ m * m ^ suc n = pow-succ' m (suc n) in
    let v : m ^ suc n ≡ m * m ^ n = pow-succ' m n in
    let a : m ^ suc n ≤ suc j = le_of_mul-le-mul_left {k = m} (omega arith) h in
    let b : m ^ n ≤ suc j / m = (le-div_iff_mul-le h).1 (omega arith) in
    slope_flat m (suc n) (suc j / m) h (omega (arith, mul-le-mul_left m b))

pub slots_flat : (m n p d : ℕ) → 0 < m → m ^ n ≤ m * p → slots m n (p + d) ≡ slots m n p
slots_flat m n p zero h le = rw (add-zero p)
slots_flat m n p (suc d) h le =
    let e : p + suc d ≡ suc (p + d) = omega arith in
    rw e (omega (arith, slots_flat m n p d h le, slope_flat m n (p + d) h (omega (arith, mul-le-mul_left {m = p} {n = p + d} m (omega arith)))))
