-- What the functions of reading ask of each other. No promise to a caller speaks of these.
--
--   onto d xs             the list d with the list xs laid over it from the front, as far as it fits
--   count_of line         how many numbers a line holds, if it is a line of numbers
--   LineRead ..           a line that was read
--   numbers_line n line   the numbers of a line of n
--   shop_line, message_line what a line gives
--   given_by text         what the whole text gives
--   ShopRead ..           a text that was read
use Rattle.std.specs.Prelude.{◌≡◌, true, List, [], ◌∷◌, ℕ, Option, length}
use Rattle.std.specs.Bool.{then_some}
use Rattle.messages.specs.declared.Message.{Message}
use Rattle.phases.specs.declared.Shop.{Shop}
use Rattle.reading.specs.declared.Given.{Given}
use Rattle.reading.specs.ShopText.{parts, is_numbers, numbers_of, holds, is_shop, shop_in, message_in, shop_of, owners_of, messages_of}

-- as far as they fit
abbrev pub onto : {A : Type 0} → List A → List A → List A
onto [] xs = []
onto (d ∷ ds) [] = d ∷ ds
onto (d ∷ ds) (x ∷ xs) = x ∷ onto ds xs

-- one or more
abbrev pub count_of : List ℕ → Option ℕ
count_of line = then_some (is_numbers line) (length (parts line))

pub record LineRead (line fields : List ℕ) (count : Option ℕ) (fields' : List ℕ) : Type 0 where
  pub counted : count ≡ count_of line
  pub laid : is_numbers line ≡ true → fields' ≡ onto fields (numbers_of line)

-- just so many
abbrev pub numbers_line : ℕ → List ℕ → Option (List ℕ)
numbers_line n line = then_some (holds n line) (numbers_of line)

-- 8 numbers
abbrev pub shop_line : List ℕ → Option Shop
shop_line line = then_some (holds 8 line) (shop_in (numbers_of line))

-- 4 numbers
abbrev pub message_line : List ℕ → Option Message
message_line line = then_some (holds 4 line) (message_in (numbers_of line))

abbrev pub given_by : List ℕ → Option Given
given_by text = then_some (is_shop text) (record { shop = shop_of text; owners = length (owners_of text); messages = length (messages_of text) })

pub record ShopRead (text owners : List ℕ) (messages : List Message) (r : Option Given) (owners' : List ℕ) (messages' : List Message) : Type 0 where
  pub told : r ≡ given_by text
  pub owned : is_shop text ≡ true → owners' ≡ onto owners (owners_of text)
  pub laid : is_shop text ≡ true → messages' ≡ onto messages (messages_of text)
