-- Texts as bytes, and decimal numbers (docs/RULES.md, section 12).
--
--   text s          the bytes of a quoted text
--   digit d         the byte of a digit
--   decimal n       the digits of n, without leading zeros
--   is_digit b      whether a byte is a digit
--   value_of bytes   what some digits say
--   is_number bytes  1 to 10 digits up to 4,294,967,295, leading zeros allowed
--   number_in bytes  the number that some bytes say, or that they say none
--   is_plain bytes   no leading zero
use Rattle.std.specs.Prelude.{Bool, true, false, not, ◌&&◌, List, [], ◌∷◌, ◌++◌, ℕ, zero, suc, ◌+◌, ◌*◌, ◌-◌, ◌/◌, ◌%◌, leb, ltb, eqb, length, codes, Option, Some, None}
use Prim.Native.String.{String}
use Rattle.refusals.specs.Numbers.{within}

-- a quoted text
abbrev pub text : String → List ℕ
text s = codes s

-- 48 is the byte of 0
abbrev pub digit : ℕ → ℕ
digit d = 48 + d

-- at most k digits
unfoldable pub digits_by : ℕ → ℕ → List ℕ
digits_by zero n = []
digits_by (suc k) n = elim (ltb n 10) [ true ↦ digit n ∷ [] | false ↦ digits_by k (n / 10) ++ (digit (n % 10) ∷ []) ]

-- no number has more digits than one more than itself
unfoldable pub decimal : ℕ → List ℕ
decimal n = digits_by (suc n) n

-- 0 to 9
abbrev pub is_digit : ℕ → Bool
is_digit b = within 48 57 b

-- each byte
abbrev pub all_digits : List ℕ → Bool
all_digits [] = true
all_digits (b ∷ bytes) = is_digit b && all_digits bytes

-- the digits read from the left, with v read before them
abbrev pub value_from : ℕ → List ℕ → ℕ
value_from v [] = v
value_from v (b ∷ bytes) = value_from (10 * v + (b - 48)) bytes

-- what they say
abbrev pub value_of : List ℕ → ℕ
value_of bytes = value_from 0 bytes

-- a number of the program's lines
abbrev pub is_number : List ℕ → Bool
is_number bytes = within 1 10 (length bytes) && (all_digits bytes && leb (value_of bytes) 4294967295)

-- or none
abbrev pub number_in : List ℕ → Option ℕ
number_in bytes = elim (is_number bytes) [ true ↦ Some (value_of bytes) | false ↦ None ]

-- one digit, or a first digit other than 0
abbrev pub is_plain : List ℕ → Bool
is_plain [] = false
is_plain (b ∷ []) = true
is_plain (b ∷ c ∷ bytes) = not (eqb b 48)
