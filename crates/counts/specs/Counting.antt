-- What the functions that count ask for and leave (docs/RULES.md, section 6).
--
--   Fits counts         each count fits 16 bits
--   Together one rest   counts of some trees and of others, and an array has room for those of both together
--   PartsReady small j  counts of a tree, and an array has room for those of j such trees
--   Holds m t counts    the counts are X(0, t) to X(t, t)
use Rattle.std.specs.Prelude.{◌≡◌, List, ℕ, ◌+◌, ◌^◌, ◌≤◌, ◌<◌, length, get_or}
use Rattle.trees.specs.Worst.{parts, worst}

-- no count is too large for its place
abbrev pub Fits : List ℕ → Type 0
Fits counts = (k : ℕ) → get_or counts k 0 < 65536

-- each has a count for 0 at least
pub record Together (one rest : List ℕ) : Type 0 where
  pub some : 0 < length one
  pub others : 0 < length rest
  pub room : length one + length rest ≤ 1026

-- j trees, for as many as j of them
pub record PartsReady (small : List ℕ) (j : ℕ) : Type 0 where
  pub some : 0 < length small
  pub room : length (parts small j) ≤ 1025
  pub fits : (i : ℕ) → i ≤ j → Fits (parts small i)

-- the worst counts of a tree of t leaves, whatever its height is called
abbrev pub Holds : ℕ → ℕ → List ℕ → Type 0
Holds m t counts = (n : ℕ) → t ≡ m ^ n → counts ≡ worst m n
