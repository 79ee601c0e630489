-- The worked example of a withdrawal (docs/RULES.md, section 11), computed from the definitions.
--
--   five            records of the stations 1, 0, 1, 1 and 0
--   closed_till     station 1 is withdrawn: the answer's figures, and the list that is left
--   no_such_till    a station 32 is refused, and the list stays
use Rattle.std.specs.Prelude.{◌≡◌, refl, List, [], ◌∷◌, ℕ}
use Rattle.messages.specs.declared.Message.{Message}
use Rattle.messages.specs.Message.{blank}
use Rattle.withdrawals.specs.Answer.{figures_of, list_of}

-- told apart by their deadlines
abbrev message : ℕ → ℕ → Message
message s d = record { station = s; arrival = 0; relative = d; length = 1; sent = 7 }

abbrev pub five : List Message
five = message 1 10 ∷ message 0 20 ∷ message 1 30 ∷ message 1 40 ∷ message 0 50 ∷ []

pub closed_till : (figures_of 1 five ≡ (0, 2, 3)) × (list_of 1 five ≡ message 0 20 ∷ message 0 50 ∷ blank ∷ blank ∷ blank ∷ [])
closed_till = (refl, refl)

pub no_such_till : (figures_of 32 five ≡ (6, 0, 0)) × (list_of 32 five ≡ five)
no_such_till = (refl, refl)
