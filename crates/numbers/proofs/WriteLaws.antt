-- Writing a number: the digits before the last, then the last.
use mathlib.Core.Path.{◌≡◌, refl, sym, ap, ◌∙◌}
use mathlib.Core.Bool.{Bool, true, false}
use mathlib.Core.List.{List, [], ◌∷◌, ◌++◌}
use Prim.Native.Nat.{ℕ, zero, suc, ◌+◌, ◌/◌, ◌%◌, ◌^◌, ◌≤◌, ◌<◌}
use native.Mathlib.Omega.{arith}
use lib.Dec.{ltb}
use lib.ListN.{length, set, length-append}
use borrow.Author.Tests.{ltb-true, ltb-false, lt-ltb, le-ltb}
use native.Mathlib.Nat.{pow-zero, pow-succ'}
use Rattle.rows.specs.Log.{over}
use Rattle.rows.proofs.LogLaws.{length_over, over_over, set_over}
use Rattle.numbers.specs.Decimal.{digit, digits_by, decimal}

-- one digit, whatever the room
digits_small : (k n : ℕ) → n < 10 → digits_by (suc k) n ≡ digit n ∷ []
unfolding digits_by
digits_small k n h = rw (lt-ltb n 10 h, digits_by) refl

digits_more : (k n : ℕ) → 10 ≤ n → digits_by (suc k) n ≡ digits_by k (n / 10) ++ (digit (n % 10) ∷ [])
unfolding digits_by
digits_more k n h = rw (le-ltb n 10 h, digits_by) refl

-- room for more digits than n has changes nothing
digits_enough : (j k n : ℕ) → n < j → n < k → digits_by j n ≡ digits_by k n
digits_enough zero k n h g = absurd (omega arith)
digits_enough (suc j) zero n h g = absurd (omega arith)
digits_enough (suc j) (suc k) n h g = go (ltb n 10) refl (λ m. digits_enough j k (n / 10) (omega arith) (omega arith))
  where
    go : (t : Bool) → ltb n 10 ≡ t → (10 ≤ n → digits_by j (n / 10) ≡ digits_by k (n / 10)) → digits_by (suc j) n ≡ digits_by (suc k) n
    go true e less = let s = ltb-true n 10 e in digits_small j n s ∙ sym (digits_small k n s)
    go false e less =
        let m = ltb-false n 10 e in
        digits_more j n m ∙ ap (λ (l : List ℕ). l ++ (digit (n % 10) ∷ [])) (less m) ∙ sym (digits_more k n m)

pub decimal_small : (n : ℕ) → n < 10 → decimal n ≡ digit n ∷ []
unfolding decimal
decimal_small n h = digits_small n n h

pub decimal_more : (n : ℕ) → 10 ≤ n → decimal n ≡ decimal (n / 10) ++ (digit (n % 10) ∷ [])
unfolding decimal
decimal_more n h = digits_more n n h ∙ ap (λ (l : List ℕ). l ++ (digit (n % 10) ∷ [])) (digits_enough n (suc (n / 10)) (n / 10) (omega arith) (omega arith))

-- one more than the digits before the last
pub one_more : (n : ℕ) → 10 ≤ n → length (decimal n) ≡ length (decimal (n / 10)) + 1
one_more n h = ap length (decimal_more n h) ∙ length-append (decimal (n / 10)) (digit (n % 10) ∷ [])

-- a number below 10^k has at most k digits
pub digits_few : (k n : ℕ) → n < 10 ^ suc k → length (decimal n) ≤ suc k
digits_few zero n h = omega (arith, ap length (decimal_small n (omega (arith, pow-succ' 10 0, pow-zero 10))))
digits_few (suc k) n h = go (ltb n 10) refl (digits_few k (n / 10) (omega (arith, pow-succ' 10 (suc k))))
  where
    go : (t : Bool) → ltb n 10 ≡ t → length (decimal (n / 10)) ≤ suc k → length (decimal n) ≤ suc (suc k)
    go true e less = omega (arith, ap length (decimal_small n (ltb-true n 10 e)))
    go false e less = omega (arith, ap length (decimal_more n (ltb-false n 10 e)), length-append (decimal (n / 10)) (digit (n % 10) ∷ []), less)

-- so a number of 32 bits has at most ten
pub digits_ten : (n : ℕ) → n < 4294967296 → length (decimal n) ≤ 10
digits_ten n h = digits_few 9 n (omega arith)

-- the one digit of a number below ten
pub wrote_small : (d d₁ : List ℕ) (at n last : ℕ) → n < 10 → at + length (decimal n) ≤ length d
    → d₁ ≡ d → last ≡ at → set d₁ last (digit (n % 10)) ≡ over d at (decimal n)
wrote_small d d₁ at n last h room e f =
    let one = decimal_small n h in
    ap (λ (x : List ℕ). set x last (digit (n % 10))) e
    ∙ ap (λ (k : ℕ). set d k (digit (n % 10))) f
    ∙ ap (λ (k : ℕ). set d at (digit k)) (omega arith)
    ∙ set_over d at (digit n) (omega (arith, ap length one))
    ∙ ap (over d at) (sym one)

-- the last digit behind the others
pub wrote_more : (d d₁ : List ℕ) (at n last : ℕ) → 10 ≤ n → at + length (decimal n) ≤ length d
    → d₁ ≡ over d at (decimal (n / 10)) → last ≡ at + length (decimal (n / 10)) → set d₁ last (digit (n % 10)) ≡ over d at (decimal n)
wrote_more d d₁ at n last h room e f =
    let long = one_more n h in
    ap (λ (x : List ℕ). set x last (digit (n % 10))) e
    ∙ ap (λ (k : ℕ). set (over d at (decimal (n / 10))) k (digit (n % 10))) f
    ∙ set_over (over d at (decimal (n / 10))) (at + length (decimal (n / 10))) (digit (n % 10)) (omega (arith, length_over d at (decimal (n / 10)) (omega arith)))
    ∙ over_over d at (decimal (n / 10)) (digit (n % 10) ∷ []) (omega arith)
    ∙ ap (over d at) (sym (decimal_more n h))
