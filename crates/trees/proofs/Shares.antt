-- The shares of a costliest placement: as equal as they can be where there are many leaves, and even ones where there are few.
--
--   raised b u x        u more where b holds
--   equal_share m u w j  share j of u times w leaves in m shares: the last w mod m of them have u more
--   extra o j           the odd leaf goes to share 0
--   share m q k j       share j of k leaves in m trees of q leaves
--   up_from f j d        f j, f (j + 1), .., d of them
use mathlib.Core.Bool.{Bool, true, false}
use mathlib.Core.List.{List, [], ◌∷◌}
use Prim.Native.Nat.{ℕ, zero, suc, ◌+◌, ◌*◌, ◌/◌, ◌%◌, ◌-◌}
use lib.Dec.{leb}

abbrev pub raised : Bool → ℕ → ℕ → ℕ
raised true u x = x + u
raised false u x = x

abbrev pub equal_share : ℕ → ℕ → ℕ → ℕ → ℕ
equal_share m u w j = raised (leb (m - w % m) j) u (u * (w / m))

abbrev pub extra : ℕ → ℕ → ℕ
extra o zero = o
extra o (suc j) = 0

abbrev pub share : ℕ → ℕ → ℕ → ℕ → ℕ
share m q k j = elim (leb (2 * q) k) [ true ↦ equal_share m 1 k j | false ↦ equal_share m 2 (k / 2) j + extra (k % 2) j ]

abbrev pub up_from : (ℕ → ℕ) → ℕ → ℕ → List ℕ
up_from f j zero = []
up_from f j (suc d) = f j ∷ up_from f (suc j) d
