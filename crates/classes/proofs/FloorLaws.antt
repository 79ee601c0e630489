-- Signed numbers: the machine's quotient towards zero, less one where the remainder is negative, is the quotient rounded down.
use mathlib.Core.Path.{◌≡◌, refl, sym, ap, subst, ◌∙◌}
use mathlib.Core.Bool.{true, false}
use Prim.Native.Nat.{ℕ, zero, suc, ◌+◌, ◌*◌, ◌-◌, ◌/◌, ◌%◌, ◌<◌}
use native.Mathlib.Nat.{mod-lt, div-add-mod', mul-add-div_right, div-eq_of_lt, add-zero, suc-mul}
use native.Mathlib.Omega.{arith}
use lib.Dec.{T}
use lib.IntN.{ℤ, pos, negsuc, neg_ℤ, ◌-ℤ◌}
use lib.Signed.{quot_z, rem_z, lt_z}
use borrow.Author.Tests.{ltb-true}
use Rattle.classes.specs.Class.{floor_of}

-- the quotient is the q with n between q · c and q · c + c
quot_is : (q c r n : ℕ) → r < c → q * c + r ≡ n → n / c ≡ q
quot_is q c r n h e =
    ap (λ (k : ℕ). k / c) (sym e) ∙ mul-add-div_right (omega arith) q r ∙ ap (λ (k : ℕ). q + k) (div-eq_of_lt h) ∙ add-zero q

-- one more, with a remainder left: the same quotient
keeps : (a c q r : ℕ) → 0 < c → q * c + suc r ≡ suc a → suc r < c → a / c ≡ q
keeps a c q r pc e h = quot_is q c r a (omega arith) (omega arith)

-- one more, with no remainder: the next quotient
next : (a c q : ℕ) → 0 < c → q * c + 0 ≡ suc a → suc (a / c) ≡ q
next a c zero pc e = absurd (zero_case a (sym e))
  where
    zero_case : (a : ℕ) → suc a ≡ 0 * c + 0 → ⊥
    zero_case a e = omega arith
next a c (suc q) pc e = ap suc (quot_is q c (c - 1) a (omega arith) (omega (arith, suc-mul q c)))

-- one less than −q
neg_one : (q : ℕ) → neg_ℤ (pos q) -ℤ pos 1 ≡ negsuc q
neg_one zero = refl
neg_one (suc q) = ap (λ (k : ℕ). negsuc (suc k)) (add-zero q)

-- the remainder r of a + 1 is not 0, and is 0
left : (a c r : ℕ) → 0 < c → suc a % c ≡ r → lt_z (neg_ℤ (pos r)) (pos 0) ≡ true → neg_ℤ (pos (suc a / c)) -ℤ pos 1 ≡ negsuc (a / c)
left a c zero pc e t = absurd (subst T (sym t) tt)
left a c (suc r) pc e t =
    neg_one (suc a / c)
    ∙ ap negsuc (sym (keeps a c (suc a / c) r pc (rw e at (div-add-mod' (suc a) c)) (rw e at (mod-lt (suc a) pc))))

even : (a c r : ℕ) → 0 < c → suc a % c ≡ r → lt_z (neg_ℤ (pos r)) (pos 0) ≡ false → neg_ℤ (pos (suc a / c)) ≡ negsuc (a / c)
even a c zero pc e t =
    ap (λ (k : ℕ). neg_ℤ (pos k)) (sym (next a c (suc a / c) pc (rw e at (div-add-mod' (suc a) c))))
even a c (suc r) pc e t = absurd (subst T t tt)

-- where the remainder is negative, one less than the quotient is the floor; else the quotient is
pub floor_down : (d : ℤ) (c : ℕ) → 0 < c → lt_z (rem_z d (pos c)) (pos 0) ≡ true → quot_z d (pos c) -ℤ pos 1 ≡ floor_of d c
floor_down (pos a) c pc t = absurd (none (ltb-true (a % c) 0 t))
  where
    none : a % c < 0 → ⊥
    none h = omega arith
floor_down (negsuc a) c pc t = left a c (suc a % c) pc refl t

pub floor_same : (d : ℤ) (c : ℕ) → 0 < c → lt_z (rem_z d (pos c)) (pos 0) ≡ false → quot_z d (pos c) ≡ floor_of d c
floor_same (pos a) c pc t = refl
floor_same (negsuc a) c pc t = even a c (suc a % c) pc refl t
