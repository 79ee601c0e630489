-- Numbers, and widths that are powers of m.
use mathlib.Core.Path.{◌≡◌, refl, sym, ap, ◌∙◌, subst}
use mathlib.Core.Logic.{◌⊎◌, inl, inr, ⊎_elim}
use Prim.Native.Nat.{ℕ, zero, suc, ◌+◌, ◌*◌, ◌^◌, ◌/◌, ◌∣◌, ◌≤◌, ◌<◌, zero-le, suc-le-suc}
use native.Mathlib.Nat.{le_dest, mul-one, suc-mul, pow-zero, pow-succ', one-le-pow, mul-div_right, mul-le-mul_left, mul-le-mul_right, eq_of_mul-eq-mul_left, dvd-mul_right, div-lt_self, div-le_self}
use native.Mathlib.Omega.{arith}
use lib.Pow.{pow-add}
use Rattle.trees.specs.Shape.{Tree}

pub le_or_lt : (a b : ℕ) → (a ≤ b) ⊎ (b < a)
le_or_lt zero b = inl zero-le
le_or_lt (suc a) zero = inr (suc-le-suc zero-le)
le_or_lt (suc a) (suc b) = ⊎_elim (λ p. inl (suc-le-suc p)) (λ q. inr (suc-le-suc q)) (le_or_lt a b)

pub pow_inj : (m : ℕ) → 2 ≤ m → (i j : ℕ) → m ^ i ≡ m ^ j → i ≡ j
pow_inj m h zero zero e = refl
pow_inj m h zero (suc j) e = absurd (omega (arith, pow-zero m, pow-succ' m j, mul-le-mul_left m (one-le-pow j m (omega arith)), mul-one m))
pow_inj m h (suc i) zero e = absurd (omega (arith, pow-zero m, pow-succ' m i, mul-le-mul_left m (one-le-pow i m (omega arith)), mul-one m))
pow_inj m h (suc i) (suc j) e =
    ap suc (pow_inj m h i j (eq_of_mul-eq-mul_left m (omega arith) (m ^ i) (m ^ j) (sym (pow-succ' m i) ∙ e ∙ pow-succ' m j)))

pub pow_dvd : (m i j : ℕ) → i ≤ j → m ^ i ∣ m ^ j
pow_dvd m i j h =
    let d = le_dest h in
    subst (λ (x : ℕ). m ^ i ∣ x) (sym (pow-add m i d.0) ∙ ap (λ (x : ℕ). m ^ x) d.1) (dvd-mul_right (m ^ i) (m ^ d.0))

-- a subtree of two leaves or more has children, of a width that is the next smaller power
pub record Below (m n w : ℕ) : Type 0 where
  pub under : ℕ
  pub height : n ≡ suc under
  pub width : w / m ≡ m ^ under
  pub whole : m * (w / m) ≡ w

pub below : (m n w : ℕ) → 2 ≤ m → 2 ≤ w → w ≡ m ^ n → Below m n w
below m zero w h g e = absurd (omega (arith, pow-zero m))
below m (suc n) w h g e =
    let f : w ≡ m * m ^ n = e ∙ pow-succ' m n in
    let d : w / m ≡ m ^ n = ap (λ (k : ℕ). k / m) f ∙ mul-div_right (m ^ n) (omega arith) in
    record { under = n; height = refl; width = d; whole = ap (λ (k : ℕ). m * k) d ∙ sym f }

-- child j lies inside
pub child_inside : (m j v w : ℕ) → j < m → m * v ≡ w → j * v + v ≤ w
child_inside m j v w h e = omega (arith, suc-mul j v, mul-le-mul_right v h)

-- a tree of two leaves or more, and one of its m subtrees
module _ (m t : ℕ) (tree : Tree m t) (more : 2 ≤ t) where
  pub under : Below m tree.height t
  under = below m tree.height t tree.branches more tree.leaves

  pub smaller : Tree m (t / m)
  smaller = record { height = under.under; leaves = under.width; branches = tree.branches; narrow = tree.narrow; few = omega (arith, div-le_self t m, tree.few) }

  pub shrinks : t / m < t
  shrinks = div-lt_self (omega arith) tree.branches

  pub child_room : (j : ℕ) → j < m → j * (t / m) + t / m ≤ t
  child_room j h = child_inside m j (t / m) t h under.whole

  -- the height, whatever it is called
  pub power : (n : ℕ) → t / m ≡ m ^ n → m ^ suc n ≡ t
  power n e = pow-succ' m n ∙ ap (λ (x : ℕ). m * x) (sym e) ∙ under.whole

-- no tree is empty
pub some_leaf : (m t : ℕ) → Tree m t → 1 ≤ t
some_leaf m t tree = omega (arith, one-le-pow tree.height m (omega (arith, tree.branches)), tree.leaves)
