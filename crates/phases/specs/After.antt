-- Where the wire goes after each slot (docs/RULES.md, section 10). In every definition `slot` is the slot after the event.
--
--   standing slot ref some φ     the state with these parts
--   time_start S                 where a new time search starts: the root counts as searched
--   static_start S p             where the static search for the time leaf p starts
--   time_over S slot ref some    the time search is over: free where it sent something, else the reference time grows by g × c
--   time_on S slot ref some b    the time subtree ending at b is finished
--   static_on S slot ref some b p the static subtree ending at b, for the time leaf p, is finished
--   time_down S a w              a collision in the time subtree (a, w): its first child, or the static search of a leaf
--   after_free, after_time, after_static  after an event of each phase, by the channel's state
--   after S slot σ state         the state after an event in the state σ
use Rattle.std.specs.Prelude.{Bool, true, false, ℕ, ◌+◌, ◌*◌, ◌/◌, ltb}
use Rattle.rows.specs.declared.Channel.{Channel}
use Rattle.rows.specs.declared.Channel.TheVariants.{Silence, Busy, Collision}
use Rattle.trees.specs.Shape.{height_of}
use Rattle.trees.specs.Wire.{next_width}
use Rattle.phases.specs.declared.Shop.{Shop}
use Rattle.phases.specs.declared.Standing.{Standing}
use Rattle.phases.specs.declared.Standing.TheVariants.{Free, Time, Static}
use Rattle.phases.specs.declared.State.{State}

-- the parts of a state
abbrev pub standing : ℕ → ℕ → Bool → Standing → State
standing slot reference some φ = record { reference = reference; slot = slot; sent = some; standing = φ }

-- first leaf 0, width F/m
abbrev pub time_start : Shop → Standing
time_start S = Time 0 (S.time.leaves / S.time.branches)

-- first index 0, width q/m
abbrev pub static_start : Shop → ℕ → Standing
static_start S p = Static 0 (S.index.leaves / S.index.branches) p

-- F is reached
abbrev pub time_over : Shop → ℕ → ℕ → Bool → State
time_over S slot reference true = standing slot reference true Free
time_over S slot reference false = standing slot (reference + S.compression * S.width) false (time_start S)

-- the next time subtree starts at b, as the wire alone tells
abbrev pub time_on : Shop → ℕ → ℕ → Bool → ℕ → State
time_on S slot reference some b =
    elim (ltb b S.time.leaves) [
      | true ↦ standing slot reference some (Time b (next_width S.time.branches (height_of S.time.branches S.time.leaves) b))
      | false ↦ time_over S slot reference some
    ]

-- the next static subtree starts at b; where index q is reached the reference time becomes the present slot
abbrev pub static_on : Shop → ℕ → ℕ → Bool → ℕ → ℕ → State
static_on S slot reference some b p =
    elim (ltb b S.index.leaves) [
      | true ↦ standing slot reference some (Static b (next_width S.index.branches (height_of S.index.branches S.index.leaves) b) p)
      | false ↦ time_on S slot slot some (p + 1)
    ]

-- a collision starts a time search, in which nothing counts as sent
abbrev pub after_free : Shop → ℕ → ℕ → Bool → Channel → State
after_free S slot reference some Silence = standing slot reference some Free
after_free S slot reference some Busy = standing slot reference some Free
after_free S slot reference some Collision = standing slot slot false (time_start S)

-- where a collision in a time subtree leads: its first child, or from a leaf a static search
abbrev pub time_down : Shop → ℕ → ℕ → Standing
time_down S a w = elim (ltb 1 w) [ true ↦ Time a (w / S.time.branches) | false ↦ static_start S a ]

-- a sending sets the reference time; a collision goes to the first child, or from a leaf into a static search
abbrev pub after_time : Shop → ℕ → ℕ → Bool → Channel → ℕ → ℕ → State
after_time S slot reference some Silence a w = time_on S slot reference some (a + w)
after_time S slot reference some Busy a w = time_on S slot slot true (a + w)
after_time S slot reference some Collision a w =
    standing slot reference some (time_down S a w)

-- a sending leaves the reference time; a collision goes to the first child
abbrev pub after_static : Shop → ℕ → ℕ → Bool → Channel → ℕ → ℕ → ℕ → State
after_static S slot reference some Silence a w p = static_on S slot reference some (a + w) p
after_static S slot reference some Busy a w p = static_on S slot reference true (a + w) p
after_static S slot reference some Collision a w p = standing slot reference some (Static a (w / S.index.branches) p)

-- by the phase
abbrev pub after_in : Shop → ℕ → ℕ → Bool → Channel → Standing → State
after_in S slot reference some c Free = after_free S slot reference some c
after_in S slot reference some c (Time a w) = after_time S slot reference some c a w
after_in S slot reference some c (Static a w p) = after_static S slot reference some c a w p

-- the state after an event
abbrev pub after : Shop → ℕ → State → Channel → State
after S slot σ c = after_in S slot σ.reference σ.sent c σ.standing
