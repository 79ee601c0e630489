-- Reading a number: what holds after some of the digits, and that a value that is too large stays so.
use mathlib.Core.Path.{◌≡◌, refl, ap, ◌∙◌}
use mathlib.Core.Bool.{false, ◌&&◌}
use mathlib.Core.List.{List, [], ◌∷◌}
use Prim.Native.Nat.{ℕ, suc, ◌+◌, ◌*◌, ◌-◌, ◌≤◌, ◌<◌}
use native.Mathlib.Omega.{arith}
use Rattle.std.specs.Prelude.{None}
use Rattle.std.proofs.Math.Nat.{lt_of_not-le}
use lib.Dec.{leb}
use lib.ListN.{length, get_or, drop}
use lib.Seq.{drop-cons}
use borrow.Author.Tests.{lt-leb}
use Rattle.refusals.specs.Numbers.{within}
use Rattle.refusals.proofs.Verdicts.{fails_behind}
use Rattle.numbers.specs.Decimal.{all_digits, value_from, value_of, is_number, number_in}

-- what is read only grows
pub value_grows : (v : ℕ) (bytes : List ℕ) → v ≤ value_from v bytes
value_grows v [] = omega arith
value_grows v (b ∷ bytes) = omega (arith, value_grows (10 * v + (b - 48)) bytes)

-- after i digits, with `value` read
pub record Read (bytes : List ℕ) (value i : ℕ) : Type 0 where
  pub some : 1 ≤ length bytes
  pub few : length bytes ≤ 10
  pub small : value ≤ 4294967295
  pub digits : all_digits bytes ≡ all_digits (drop i bytes)
  pub values : value_of bytes ≡ value_from value (drop i bytes)

-- the next digit makes it too large
pub read_large : (bytes : List ℕ) (value i : ℕ) → Read bytes value i → i < length bytes
    → ¬ (10 * value + (get_or bytes i 0 - 48) < 4294967296) → None ≡ number_in bytes
read_large bytes value i r h few =
    let next : ℕ = 10 * value + (get_or bytes i 0 - 48) in
    let large : 4294967296 < suc next = lt_of_not-le few in
    let v : value_of bytes ≡ value_from next (drop (suc i) bytes) = r.values ∙ ap (value_from value) (drop-cons bytes i 0 h) in
    let fails : leb (value_of bytes) 4294967295 ≡ false = lt-leb (value_of bytes) 4294967295 (omega (arith, v, value_grows next (drop (suc i) bytes))) in
    let none : is_number bytes ≡ false =
    fails_behind (within 1 10 (length bytes)) (all_digits bytes && leb (value_of bytes) 4294967295) (fails_behind (all_digits bytes) (leb (value_of bytes) 4294967295) fails) in
    rw (none, number_in) refl
