-- The index table: the owners stand at its front, and it has 1,024 places.
use mathlib.Core.Path.{◌≡◌, ap, ◌∙◌}
use mathlib.Core.List.{List, ◌++◌}
use Prim.Native.Nat.{ℕ, ◌≤◌}
use native.Mathlib.Nat.{zero-add}
use native.Mathlib.Omega.{arith}
use lib.ListN.{length, drop, replicate, length-replicate}
use Rattle.rows.proofs.LogLaws.{length_over}
use Rattle.inputs.specs.Inputs.{free, table_of}

pub table_front : (owners : List ℕ) → table_of owners ≡ owners ++ drop (length owners) (replicate 1024 free)
table_front owners = ap (λ (k : ℕ). owners ++ drop k (replicate 1024 free)) (zero-add (length owners))

pub length_table : (owners : List ℕ) → length owners ≤ 1024 → length (table_of owners) ≡ 1024
length_table owners h =
    let n : length {A = ℕ} (replicate 1024 free) ≡ 1024 = length-replicate {A = ℕ} 1024 free in
    length_over (replicate 1024 free) 0 owners (omega (arith, n)) ∙ n
