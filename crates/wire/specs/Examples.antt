-- The run's worked examples (docs/RULES.md, section 10), computed from the definitions.
--
--   shop, owners        two stations, class width 10, no offset, factor 1, both trees binary, 4 time leaves and 2 indices
--   program_rows        the whole log of the shop with three messages
--   program_figures     its closing figures
--   program_marks       its slots of sending
--   program_answer      what the call answers: no test refuses the shop and its messages, lent as slices
--   no_messages         done at once, with no event and the log as it was
--   empty_searches      two far deadlines: 96 empty time searches before a message enters
use Rattle.std.specs.Prelude.{◌≡◌, refl, true, List, [], ◌∷◌, map, ℕ, zero, suc, replicate, drop}
use Rattle.std.proofs.Common.{sym}
use Rattle.refusals.specs.Numbers.{granted}
use Rattle.rows.proofs.LogLaws.{log_none}
use Rattle.rows.specs.declared.Row.{Row}
use Rattle.rows.specs.declared.Phase.{Phase}
use Rattle.rows.specs.declared.Phase.TheVariants.{Free, Time, Static}
use Rattle.rows.specs.declared.Channel.{Channel}
use Rattle.rows.specs.declared.Channel.TheVariants.{Silence, Busy, Collision}
use Rattle.messages.specs.declared.Message.{Message}
use Rattle.messages.specs.Message.{none, better, first_among}
use Rattle.messages.specs.Lists.{listed}
use Rattle.phases.specs.declared.Shop.{Shop}
use Rattle.contention.specs.Contenders.{owns, entry, contenders_below}
use Rattle.inputs.specs.Inputs.{same_lengths, run_verdict}
use Rattle.wire.specs.Answer.{ran_of, closing, reading_by, marks, log_by}

abbrev pub shop : Shop
shop = record { stations = 2; width = 10; offset = 0; compression = 1; time = record { branches = 2; leaves = 4 }; index = record { branches = 2; leaves = 2 } }

abbrev pub owners : List ℕ
owners = 0 ∷ 1 ∷ []

-- a message not yet sent; what the slot of sending held does not matter
abbrev message : ℕ → ℕ → ℕ → ℕ → Message
message s a d l = record { station = s; arrival = a; relative = d; length = l; sent = 7 }

abbrev row : ℕ → Phase → ℕ → ℕ → Channel → ℕ → ℕ → Row
row slot phase first width state message used = record { slot = slot; phase = phase; state = state; first = first; width = width; message = message; used = used }

abbrev pub three : List Message
three = message 0 0 25 3 ∷ message 1 0 28 2 ∷ message 0 0 100 1 ∷ []

pub program_rows : (ran_of shop owners three 4096).0
    ≡ row 0 Free 0 0 Collision none 1 ∷ row 1 Time 0 2 Silence none 1 ∷ row 2 Time 2 2 Collision none 1 ∷ row 3 Time 2 1 Collision none 1
    ∷ row 4 Static 0 1 Busy 0 3 ∷ row 7 Static 1 1 Busy 1 2 ∷ row 9 Time 3 1 Silence none 1 ∷ row 10 Free 0 0 Busy 2 1 ∷ []
unfolding better first_among owns entry contenders_below
program_rows = refl

pub program_figures : closing (ran_of shop owners three 4096) ≡ record { refusal = 0; done = true; events = 8; slot = 11; sent = 3; late = 0 }
unfolding better first_among owns entry contenders_below
program_figures = refl

pub program_marks : marks (ran_of shop owners three 4096).1.messages ≡ 4 ∷ 7 ∷ 10 ∷ []
unfolding better first_among owns entry contenders_below
program_marks = refl

-- the three messages, a slice for each field
abbrev pub of_stations : List ℕ
of_stations = 0 ∷ 1 ∷ 0 ∷ []

-- their relative deadlines
abbrev pub of_relatives : List ℕ
of_relatives = 25 ∷ 28 ∷ 100 ∷ []

-- their lengths
abbrev pub of_lengths : List ℕ
of_lengths = 3 ∷ 2 ∷ 1 ∷ []

-- what their slots of sending held before
abbrev pub of_sent : List ℕ
of_sent = 7 ∷ 7 ∷ 7 ∷ []

-- all arrive in slot 0; the log has just the room that the budget asks
pub program_answer : (listed of_stations (replicate 3 0) of_relatives of_lengths of_sent ≡ three)
    × (reading_by (run_verdict shop owners (same_lengths of_stations (replicate 3 0) of_relatives of_lengths of_sent) three 4096 65536) (ran_of shop owners three 4096)
    ≡ record { refusal = 0; done = true; events = 8; slot = 11; sent = 3; late = 0 })
unfolding better first_among owns entry contenders_below
program_answer = (refl, refl)

-- the log stays as it was, whatever it held
pub no_messages : (log : List ℕ) → (closing (ran_of shop owners [] 4096) ≡ record { refusal = 0; done = true; events = 0; slot = 0; sent = 0; late = 0 }) × (log_by granted (ran_of shop owners [] 4096) log ≡ log)
no_messages log = (refl, sym (log_none log 0))

-- both deadlines 1,000, at slot 0
abbrev pub far : List Message
far = message 0 0 1000 1 ∷ message 1 0 1000 1 ∷ []

-- the subtrees of an empty search, one search behind the other
abbrev pub empties : ℕ → List (ℕ × ℕ)
empties zero = []
empties (suc n) = (0, 2) ∷ (2, 2) ∷ empties n

-- the free collision, and then 96 searches of two silent slots each, after which the reference time is 1 + 96 × 10
pub empty_searches : (map (λ (r : Row). r.state) (ran_of shop owners far 193).0 ≡ Collision ∷ replicate 192 Silence)
    × (map (λ (r : Row). (r.first, r.width)) (ran_of shop owners far 193).0 ≡ (0, 0) ∷ empties 96)
    × ((ran_of shop owners far 193).1.state.reference ≡ 961)
    × (map (λ (r : Row). r.state) (drop 193 (ran_of shop owners far 195).0) ≡ Silence ∷ Collision ∷ [])
unfolding better first_among owns entry contenders_below
empty_searches = (refl, refl, refl, refl)
