-- One tree search (docs/RULES.md, section 5): a subtree is visited in one slot, and after a collision its children follow.
--
--   Look S              what a visit shows: its rows, whether the search goes down into the children, what is known after it
--   Rule S              who contends: what a visit of the subtree (first leaf, width) shows, by what is known before it
--   visit rule m h a s  the search of the subtree of height h from leaf a on: its rows, and what is known after it
--   all_bits leaves     whether each leaf byte is 0 or 1
--   ones leaves         how many leaves are active
--   active a bytes      the active leaves of a list of leaf bytes whose first leaf is a
--   active_in leaves a w the active leaves of the subtree of w leaves from leaf a on
--   bare_rule leaves    the rule of a bare search: the fixed leaves contend, and all that is known is the slot
--   search_rows m n ls  the log of a bare search of the tree of height n
--   total f rows        f of each row's state, added up: silences, collisions, and cost, which is both
--   sent rows           what was sent, in the order of the rows
--   Ascending b l       the numbers of l lie at or above b and each is above the one before it
use Rattle.std.specs.Prelude.{Bool, true, false, ◌&&◌, List, [], ◌∷◌, ◌++◌, ℕ, zero, suc, ◌+◌, ◌^◌, ◌≤◌, leb, take, drop}
use Rattle.rows.specs.declared.Row.{Row}
use Rattle.rows.specs.declared.Phase.TheVariants.{Bare}
use Rattle.rows.specs.declared.Channel.{Channel}
use Rattle.rows.specs.declared.Channel.TheVariants.{Silence, Busy, Collision}

-- what a visit shows
pub record Look (S : Type 0) : Type 0 where
  pub rows : List Row
  pub down : Bool
  pub after : S

-- who contends
abbrev pub Rule : Type 0 → Type 0
Rule S = S → ℕ → ℕ → Look S

-- some rows, and then the rows and the knowledge that follow them
abbrev pub lead : {S : Type 0} → List Row → List Row × S → List Row × S
lead rows rest = (rows ++ rest.0, rest.1)

-- j subtrees of width w, left to right, the first one at leaf a
abbrev pub children : {S : Type 0} → (ℕ → S → List Row × S) → ℕ → ℕ → ℕ → S → List Row × S
children one w zero a s = ([], s)
children one w (suc j) a s = let r = one a s in lead r.0 (children one w j (a + w) r.1)

-- the subtree of height h from leaf a on; all m children are visited after a collision
abbrev pub visit : {S : Type 0} → Rule S → ℕ → ℕ → ℕ → S → List Row × S
visit rule m zero a s = let l = rule s a 1 in (l.rows, l.after)
visit rule m (suc h) a s =
    let l = rule s a (m ^ suc h) in
    elim l.down [ false ↦ (l.rows, l.after) | true ↦ lead l.rows (children (visit rule m h) (m ^ h) m a l.after) ]

-- 1 for active, 0 for not, nothing else
abbrev pub all_bits : List ℕ → Bool
all_bits [] = true
all_bits (b ∷ bytes) = leb b 1 && all_bits bytes

-- the k of a worst count
abbrev pub ones : List ℕ → ℕ
ones [] = 0
ones (zero ∷ bytes) = ones bytes
ones (suc b ∷ bytes) = suc (ones bytes)

-- the places of the bytes that are not 0
abbrev pub active : ℕ → List ℕ → List ℕ
active a [] = []
active a (zero ∷ bytes) = active (suc a) bytes
active a (suc b ∷ bytes) = a ∷ active (suc a) bytes

-- those of one subtree
abbrev pub active_in : List ℕ → ℕ → ℕ → List ℕ
active_in leaves a w = active a (take w (drop a leaves))

-- a row of a bare search: one slot, the leaf as message
abbrev pub bare_row : ℕ → Channel → ℕ → ℕ → ℕ → Row
bare_row slot state a w leaf = record { slot = slot; phase = Bare; state = state; first = a; width = w; message = leaf; used = 1 }

-- none active: silence; one: it is sent; two or more: collision
abbrev pub bare_look : List ℕ → ℕ → ℕ → ℕ → Look ℕ
bare_look [] slot a w = record { rows = bare_row slot Silence a w 65535 ∷ []; down = false; after = slot + 1 }
bare_look (p ∷ []) slot a w = record { rows = bare_row slot Busy a w p ∷ []; down = false; after = slot + 1 }
bare_look (p ∷ q ∷ more) slot a w = record { rows = bare_row slot Collision a w 65535 ∷ []; down = true; after = slot + 1 }

-- the fixed leaves contend
abbrev pub bare_rule : List ℕ → Rule ℕ
bare_rule leaves slot a w = bare_look (active_in leaves a w) slot a w

-- a bare search starts at the root, in slot 0
abbrev pub search_rows : ℕ → ℕ → List ℕ → List Row
search_rows m n leaves = (visit (bare_rule leaves) m n 0 0).0

-- a number for each row's state, added up
abbrev pub total : (Channel → ℕ) → List Row → ℕ
total f [] = 0
total f (r ∷ rs) = f r.state + total f rs

-- 1 for a silent slot
abbrev pub silent : Channel → ℕ
silent Silence = 1
silent Busy = 0
silent Collision = 0

-- 1 for a colliding slot
abbrev pub colliding : Channel → ℕ
colliding Silence = 0
colliding Busy = 0
colliding Collision = 1

-- 1 for a slot in which nothing is sent
abbrev pub lost : Channel → ℕ
lost Silence = 1
lost Busy = 0
lost Collision = 1

-- silent slots
abbrev pub silences : List Row → ℕ
silences = total silent

-- colliding slots
abbrev pub collisions : List Row → ℕ
collisions = total colliding

-- silent plus colliding slots
abbrev pub cost : List Row → ℕ
cost = total lost

-- the message of a busy row, in front of others
abbrev pub sent_by : Channel → ℕ → List ℕ → List ℕ
sent_by Silence p l = l
sent_by Busy p l = p ∷ l
sent_by Collision p l = l

-- what was sent
abbrev pub sent : List Row → List ℕ
sent [] = []
sent (r ∷ rs) = sent_by r.state r.message (sent rs)

-- each number above the one before it, so none stands twice
abbrev pub Ascending : ℕ → List ℕ → Type 0
Ascending b [] = Unit {0}
Ascending b (p ∷ l) = (b ≤ p) × Ascending (suc p) l
