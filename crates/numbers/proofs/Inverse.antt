-- Reading and writing numbers undo each other.
use mathlib.Core.Path.{◌≡◌, refl, sym, ap, ◌∙◌}
use mathlib.Core.Bool.{Bool, true, false}
use mathlib.Core.List.{List, [], ◌∷◌, ◌++◌, append-nil}
use Prim.Native.Nat.{ℕ, zero, suc, ◌+◌, ◌*◌, ◌-◌, ◌/◌, ◌%◌, ◌≤◌, ◌<◌}
use native.Mathlib.Omega.{arith}
use lib.Dec.{ltb, eqb}
use lib.ListN.{length}
use lib.Seq.{append_snoc}
use borrow.Author.Tests.{ltb-true, ltb-false, le-leb, not-true, eqb-false}
use Rattle.refusals.proofs.Verdicts.{both, in_range, within_true}
use Rattle.std.specs.Prelude.{Some}
use Rattle.numbers.specs.Decimal.{digit, decimal, is_digit, all_digits, value_from, value_of, is_number, number_in, is_plain}
use Rattle.numbers.proofs.WriteLaws.{decimal_small, decimal_more, one_more, digits_ten}

-- ---- what was written is read

value_snoc : (v : ℕ) (bytes : List ℕ) (b : ℕ) → value_from v (bytes ++ (b ∷ [])) ≡ 10 * value_from v bytes + (b - 48)
value_snoc v [] b = refl
value_snoc v (c ∷ bytes) b = value_snoc (10 * v + (c - 48)) bytes b

digits_snoc : (bytes : List ℕ) (b : ℕ) → all_digits bytes ≡ true → is_digit b ≡ true → all_digits (bytes ++ (b ∷ [])) ≡ true
digits_snoc [] b e f = rw f refl
digits_snoc (c ∷ bytes) b e f = let p = both (is_digit c) (all_digits bytes) e in simp (p.0, digits_snoc bytes b p.1 f)

-- what is said of the digits of a number
record Said (n : ℕ) : Type 0 where
  value : value_of (decimal n) ≡ n
  digits : all_digits (decimal n) ≡ true
  some : 1 ≤ length (decimal n)

digit_is : (d : ℕ) → d < 10 → is_digit (digit d) ≡ true
digit_is d h = in_range 48 57 (digit d) (omega arith) (omega arith)

said_small : (n : ℕ) → n < 10 → Said n
said_small n h =
    let one = decimal_small n h in
    record { value = ap value_of one ∙ omega arith; digits = ap all_digits one ∙ simp (digit_is n h); some = omega (arith, ap length one) }

said_more : (n : ℕ) → 10 ≤ n → Said (n / 10) → Said n
said_more n h s =
    let more = decimal_more n h in
    record {
      value = ap value_of more ∙ value_snoc 0 (decimal (n / 10)) (digit (n % 10)) ∙ omega (arith, s.value);
      digits = ap all_digits more ∙ digits_snoc (decimal (n / 10)) (digit (n % 10)) s.digits (digit_is (n % 10) (omega arith));
      some = omega (arith, one_more n h);
    }

said_below : (k n : ℕ) → n < k → Said n
said_below zero n h = absurd (omega arith)
said_below (suc k) n h = go (ltb n 10) refl (λ m. said_below k (n / 10) (omega arith))
  where
    go : (t : Bool) → ltb n 10 ≡ t → (10 ≤ n → Said (n / 10)) → Said n
    go true e less = said_small n (ltb-true n 10 e)
    go false e less = let m = ltb-false n 10 e in said_more n m (less m)

-- READING UNDOES WRITING
pub read_written : (n : ℕ) → n ≤ 4294967295 → number_in (decimal n) ≡ Some n
read_written n h =
    let s = said_below (suc n) n (omega arith) in
    let good : is_number (decimal n) ≡ true =
    simp (in_range 1 10 (length (decimal n)) s.some (digits_ten n (omega arith)), s.digits, le-leb (value_of (decimal n)) 4294967295 (omega (arith, s.value))) in
    rw (good, number_in) (ap Some s.value)

-- ---- what was read is written

-- digits behind a number that is not 0
written_behind : (v : ℕ) (bytes : List ℕ) → 1 ≤ v → all_digits bytes ≡ true → decimal (value_from v bytes) ≡ decimal v ++ bytes
written_behind v [] h e = sym (append-nil (decimal v))
written_behind v (b ∷ bytes) h e =
    let p = both (is_digit b) (all_digits bytes) e in
    let d = within_true 48 57 b p.0 in
    let n : ℕ = 10 * v + (b - 48) in
    written_behind n bytes (omega arith) p.1
    ∙ ap (λ (l : List ℕ). l ++ bytes) (decimal_more n (omega arith) ∙ ap (λ (k : ℕ). decimal k ++ (digit (n % 10) ∷ [])) (omega (arith, d.0, d.1)) ∙ ap (λ (k : ℕ). decimal v ++ (k ∷ [])) (omega (arith, d.0, d.1)))
    ∙ append_snoc (decimal v) b bytes

-- WRITING UNDOES READING, where no leading zero was read
pub written_read : (bytes : List ℕ) → all_digits bytes ≡ true → is_plain bytes ≡ true → decimal (value_of bytes) ≡ bytes
written_read [] e p = cc
written_read (b ∷ []) e p =
    let d = within_true 48 57 b (both (is_digit b) true e).0 in
    decimal_small (10 * 0 + (b - 48)) (omega arith) ∙ ap (λ (k : ℕ). k ∷ []) (omega (arith, d.0, d.1))
written_read (b ∷ c ∷ bytes) e p =
    let q = both (is_digit b) (all_digits (c ∷ bytes)) e in
    let d = within_true 48 57 b q.0 in
    let some : (b ≡ 48 → ⊥) = eqb-false b 48 (not-true (eqb b 48) p) in
    written_behind (10 * 0 + (b - 48)) (c ∷ bytes) (omega arith) q.1
    ∙ ap (λ (l : List ℕ). l ++ (c ∷ bytes)) (decimal_small (10 * 0 + (b - 48)) (omega arith) ∙ ap (λ (k : ℕ). k ∷ []) (omega (arith, d.0, d.1)))
