-- The class of a message (docs/RULES.md, section 9).
--
--   floor_of d c                  the quotient rounded down, so that −1 over 10 is −1
--   class_of deadline α ref c      (absolute deadline − α − reference time) / c, rounded down
--   class_below deadline α ref c b whether that class lies below the leaf b
--   class_fits c α                class width and offset are in range
use Rattle.std.specs.Prelude.{Bool, ◌&&◌, ℕ, ◌+◌, ◌/◌, leb, ℤ, pos, negsuc}
use Rattle.std.proofs.Math.IntN.{sub_ℕ}
use Rattle.std.specs.Int.Signed.{lt_z}
use Rattle.refusals.specs.Numbers.{within}

-- `negsuc a` is −(a + 1), and −(a + 1) / c rounded down is −(a / c + 1)
abbrev pub floor_of : ℤ → ℕ → ℤ
floor_of (pos a) c = pos (a / c)
floor_of (negsuc a) c = negsuc (a / c)

-- `sub_ℕ a b` is a − b
abbrev pub class_of : ℕ → ℕ → ℕ → ℕ → ℤ
class_of deadline offset reference width = floor_of (sub_ℕ deadline (offset + reference)) width

-- late messages have negative classes, so they lie below every leaf
abbrev pub class_below : ℕ → ℕ → ℕ → ℕ → ℕ → Bool
class_below deadline offset reference width b = lt_z (class_of deadline offset reference width) (pos b)

-- asked of a question for a class and of a shop
abbrev pub class_fits : ℕ → ℕ → Bool
class_fits width offset = within 1 1000000 width && leb offset 1000000
