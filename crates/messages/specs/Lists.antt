-- What the functions on a list of messages ask, and how slices of numbers, one for each field, make a list.
--
--   listed stations arrivals relatives lengths sent    the list of messages that the slices hold
--   SameLength ..        the slices are of one length, at most 512
--   Timed m              the times of m are in range, so that its deadline fits
--   TimedList ms         each message is
--   Runnable ms          they are at most 512, each in range
use Rattle.std.specs.Prelude.{◌≡◌, List, [], ◌∷◌, ℕ, ◌≤◌, ◌<◌, length, get_or, drop}
use Rattle.messages.specs.declared.Message.{Message}
use Rattle.messages.specs.Message.{blank}

-- as many messages as stations
abbrev pub listed : List ℕ → List ℕ → List ℕ → List ℕ → List ℕ → List Message
listed [] arrivals relatives lengths sent = []
listed (s ∷ stations) arrivals relatives lengths sent =
    record { station = s; arrival = get_or arrivals 0 0; relative = get_or relatives 0 0; length = get_or lengths 0 0; sent = get_or sent 0 0 }
    ∷ listed stations (drop 1 arrivals) (drop 1 relatives) (drop 1 lengths) (drop 1 sent)

-- one length, within the limit
pub record SameLength (stations arrivals relatives lengths sent : List ℕ) : Type 0 where
  pub few : length stations ≤ 512
  pub arrivals_too : length arrivals ≡ length stations
  pub relatives_too : length relatives ≡ length stations
  pub lengths_too : length lengths ≡ length stations
  pub sent_too : length sent ≡ length stations

-- arrival and relative deadline within a thousand million, length within a thousand
pub record Timed (m : Message) : Type 0 where
  pub arrives : m.arrival ≤ 1000000000
  pub lasts : m.relative ≤ 1000000000
  pub short : m.length ≤ 1000

-- every message of the list
abbrev pub TimedList : List Message → Type 0
TimedList ms = (i : ℕ) → i < length ms → Timed (get_or ms i blank)

-- at most 512 messages, each in range
pub record Runnable (ms : List Message) : Type 0 where
  pub few : length ms ≤ 512
  pub timed : TimedList ms
