-- The text of a shop (docs/RULES.md, section 12): its lines, their numbers, and the shop that they give.
--
--   pieces mark bytes   some bytes parted at each mark: one piece more than there are marks
--   is_numbers line     numbers with one space between, so one number or more
--   numbers_of line     what they are
--   holds k line        a line of k numbers
--   lines_of text        the lines of a text, parted by line feeds; what is behind the last line feed comes last
--   messages_follow ls  from line 3 on: lines of 4 numbers, and nothing behind the last line feed
--   is_shop text        at most 65,536 bytes; a line of 8 numbers, a line of one or more, then messages
--   shop_of text        line 1: z c α g mT F mS q
--   owners_of text      line 2
--   messages_of text    the further lines: station, arrival, relative deadline, length
use Rattle.std.specs.Prelude.{Bool, true, false, ◌&&◌, List, [], ◌∷◌, map, ℕ, eqb, leb, length, get_or, drop}
use Rattle.std.specs.List.{list_all, slice_split}
use Rattle.messages.specs.declared.Message.{Message}
use Rattle.phases.specs.declared.Shop.{Shop}
use Rattle.numbers.specs.Decimal.{is_number, value_of}

-- parted at each mark
abbrev pub pieces : ℕ → List ℕ → List (List ℕ)
pieces mark bytes = slice_split (λ b. eqb b mark) bytes

-- 32 is the byte of a space
abbrev pub parts : List ℕ → List (List ℕ)
parts line = pieces 32 line

-- a line of numbers
abbrev pub is_numbers : List ℕ → Bool
is_numbers line = list_all is_number (parts line)

-- its numbers
abbrev pub numbers_of : List ℕ → List ℕ
numbers_of line = map value_of (parts line)

-- so many of them
abbrev pub holds : ℕ → List ℕ → Bool
holds k line = is_numbers line && eqb (length (parts line)) k

-- 10 is the byte of a line feed
abbrev pub lines_of : List ℕ → List (List ℕ)
lines_of text = pieces 10 text

-- nothing at all
abbrev pub is_empty : List ℕ → Bool
is_empty [] = true
is_empty (b ∷ bytes) = false

-- the lines of messages, and what is behind the last line feed
abbrev pub messages_follow : List (List ℕ) → Bool
messages_follow [] = false
messages_follow (l ∷ []) = is_empty l
messages_follow (l ∷ k ∷ ls) = holds 4 l && messages_follow (k ∷ ls)

-- all lines
abbrev pub shop_lines : List (List ℕ) → Bool
shop_lines [] = false
shop_lines (l ∷ []) = false
shop_lines (l ∷ k ∷ ls) = holds 8 l && (is_numbers k && messages_follow ls)

-- what is not this is refusal 13
abbrev pub is_shop : List ℕ → Bool
is_shop text = leb (length text) 65536 && shop_lines (lines_of text)

-- z c α g mT F mS q
abbrev pub shop_in : List ℕ → Shop
shop_in ns = record {
  stations = get_or ns 0 0;
  width = get_or ns 1 0;
  offset = get_or ns 2 0;
  compression = get_or ns 3 0;
  time = record { branches = get_or ns 4 0; leaves = get_or ns 5 0 };
  index = record { branches = get_or ns 6 0; leaves = get_or ns 7 0 };
}

-- station, arrival, d, length; a run sets the slot of sending, whatever it holds
abbrev pub message_in : List ℕ → Message
message_in ns = record { station = get_or ns 0 0; arrival = get_or ns 1 0; relative = get_or ns 2 0; length = get_or ns 3 0; sent = 0 }

-- all but what is behind the last line feed
abbrev pub message_lines : List (List ℕ) → List Message
message_lines [] = []
message_lines (l ∷ []) = []
message_lines (l ∷ k ∷ ls) = message_in (numbers_of l) ∷ message_lines (k ∷ ls)

-- line 1
abbrev pub shop_of : List ℕ → Shop
shop_of text = shop_in (numbers_of (get_or (lines_of text) 0 []))

-- line 2
abbrev pub owners_of : List ℕ → List ℕ
owners_of text = numbers_of (get_or (lines_of text) 1 [])

-- the further lines
abbrev pub messages_of : List ℕ → List Message
messages_of text = message_lines (drop 2 (lines_of text))
