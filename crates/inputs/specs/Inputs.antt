-- What a run asks of its inputs, and the index table (docs/RULES.md, sections 2 and 10).
--
--   class_numbers S       class width, offset and compression factor are in range
--   is_owner z o          o is a station or free
--   are_owners z owners   each entry is
--   holds owners s        station s has an entry
--   all_own owners n      each station below n has one
--   table_fits S owners   the index table: one entry for each index, owners and free places only, no station without one
--   message_fits z m      the station exists, and every number of m is in its range
--   messages_fit z ms     at most 512 messages, and each fits
--   same_lengths ..       the slices of the fields are of one length
--   shop_verdict S owners  refusals 6, 7 and 8
--   budget_verdict budget room  refusals 10 and 11
--   setup_verdict S owners  the refusals of the trees, and then 6, 7 and 8: those that ask nothing of the messages
--   list_verdict z ms budget room  refusals 9, 10 and 11, of a list that came whole
--   run_verdict ..        the refusals of a run, in their order
--   table_of owners        1,024 places that begin free, with the owners copied in
--   SmallOwners owners    what copying them in asks
use Rattle.std.specs.Prelude.{Bool, true, ◌&&◌, ◌||◌, List, ℕ, zero, suc, ◌*◌, ◌≤◌, ltb, leb, eqb, length, get_or, replicate}
use Rattle.std.specs.List.{list_any, list_all}
use Rattle.refusals.specs.declared.Refusal.TheVariants.{Stations, ClassNumbers, IndexTable, Messages, Budget, LogRoom}
use Rattle.refusals.specs.Numbers.{Verdict, granted, within, ask, and_then}
use Rattle.rows.specs.Log.{over}
use Rattle.trees.specs.Shape.{tree_verdict}
use Rattle.classes.specs.Class.{class_fits}
use Rattle.messages.specs.declared.Message.{Message}
use Rattle.phases.specs.declared.Shop.{Shop}

-- c, α and g
abbrev pub class_numbers : Shop → Bool
class_numbers S = class_fits S.width S.offset && leb S.compression 8

-- a place with no owner
abbrev pub free : ℕ
free = 255

-- a station or free
abbrev pub is_owner : ℕ → ℕ → Bool
is_owner z o = ltb o z || eqb o free

-- stations and free places
abbrev pub are_owners : ℕ → List ℕ → Bool
are_owners z owners = list_all (is_owner z) owners

-- somewhere in the table
abbrev pub holds : List ℕ → ℕ → Bool
holds owners s = list_any (λ o. eqb o s) owners

-- stations 0 to n − 1
abbrev pub all_own : List ℕ → ℕ → Bool
all_own owners zero = true
all_own owners (suc s) = all_own owners s && holds owners s

-- refusal 8
abbrev pub table_fits : Shop → List ℕ → Bool
table_fits S owners = eqb (length owners) S.index.leaves && (are_owners S.stations owners && all_own owners S.stations)

-- one message
abbrev pub message_fits : ℕ → Message → Bool
message_fits z m = ltb m.station z && (leb m.arrival 1000000000 && (within 1 1000000000 m.relative && within 1 1000 m.length))

-- each message of a list
abbrev pub all_fit : ℕ → List Message → Bool
all_fit z ms = list_all (message_fits z) ms

-- refusal 9
abbrev pub messages_fit : ℕ → List Message → Bool
messages_fit z ms = leb (length ms) 512 && all_fit z ms

-- a message with a field missing is none
abbrev pub same_lengths : List ℕ → List ℕ → List ℕ → List ℕ → List ℕ → Bool
same_lengths stations arrivals relatives lengths sent =
    eqb (length arrivals) (length stations)
    && (eqb (length relatives) (length stations) && (eqb (length lengths) (length stations) && eqb (length sent) (length stations)))

-- refusals 6, 7 and 8
abbrev pub shop_verdict : Shop → List ℕ → Verdict
shop_verdict S owners =
    ask (within 1 32 S.stations) Stations
    (ask (class_numbers S) ClassNumbers
    (ask (table_fits S owners) IndexTable
    granted))

-- refusals 10 and 11: a log of 16 bytes for each event of the budget
abbrev pub budget_verdict : ℕ → ℕ → Verdict
budget_verdict budget room =
    ask (within 1 1000000 budget) Budget
    (ask (leb (16 * budget) room) LogRoom
    granted)

-- the two trees, and the rest of the shop with its index table
abbrev pub setup_verdict : Shop → List ℕ → Verdict
setup_verdict S owners =
    and_then (tree_verdict S.time.branches S.time.leaves)
    (and_then (tree_verdict S.index.branches S.index.leaves)
    (shop_verdict S owners))

-- messages, budget and log
abbrev pub list_verdict : ℕ → List Message → ℕ → ℕ → Verdict
list_verdict z ms budget room = ask (messages_fit z ms) Messages (budget_verdict budget room)

-- the tests in their order; `whole` is whether the list of messages came whole
abbrev pub run_verdict : Shop → List ℕ → Bool → List Message → ℕ → ℕ → Verdict
run_verdict S owners whole ms budget room =
    and_then (tree_verdict S.time.branches S.time.leaves)
    (and_then (tree_verdict S.index.branches S.index.leaves)
    (and_then (shop_verdict S owners)
    (ask (whole && messages_fit S.stations ms) Messages
    (budget_verdict budget room))))

-- the table that a run works with
abbrev pub table_of : List ℕ → List ℕ
table_of owners = over (replicate 1024 free) 0 owners

-- no entry is above 255: what the table's places can hold
abbrev pub SmallOwners : List ℕ → Type 0
SmallOwners owners = (i : ℕ) → get_or owners i 0 ≤ 255
