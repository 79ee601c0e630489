-- What the functions on contenders ask. No promise to a caller speaks of it.
--
--   Open S table σ      the shop's numbers are in range, the table has all 1,024 places, the state stands in its tree
use Rattle.std.specs.Prelude.{◌≡◌, List, ℕ, ◌≤◌, length}
use Rattle.phases.specs.declared.Shop.{Shop}
use Rattle.phases.specs.declared.State.{State}
use Rattle.phases.specs.Work.{Sound, Within}

pub record Open (S : Shop) (table : List ℕ) (σ : State) : Type 0 where
  pub sound : Sound S
  pub places : length table ≡ 1024
  pub past : σ.reference ≤ 9000000000000
  pub within : Within S σ.standing
