-- What one may rely on where class width and offset are in range.
use mathlib.Core.Path.{◌≡◌}
use mathlib.Core.Bool.{true}
use Prim.Native.Nat.{ℕ, ◌≤◌}
use lib.Dec.{leb}
use borrow.Author.Tests.{leb-true}
use Rattle.refusals.specs.Numbers.{within}
use Rattle.refusals.proofs.Verdicts.{both, within_true}
use Rattle.classes.specs.Class.{class_fits}

pub fitting : (width offset : ℕ) → class_fits width offset ≡ true → (1 ≤ width) × (width ≤ 1000000) × (offset ≤ 1000000)
fitting width offset e =
    let b = both (within 1 1000000 width) (leb offset 1000000) e in
    let w = within_true 1 1000000 width b.0 in
    (w.0, w.1, leb-true offset 1000000 b.1)
