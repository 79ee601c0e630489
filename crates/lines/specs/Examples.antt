-- The program's worked example (docs/RULES.md, section 12), computed from the definitions.
use Rattle.std.specs.Prelude.{◌≡◌, refl, ◌++◌}
use Rattle.messages.specs.Message.{first_among, better}
use Rattle.contention.specs.Contenders.{contenders_below, entry, owns}
use Rattle.numbers.specs.Decimal.{text, decimal, digits_by}
use Rattle.lines.specs.Program.{program_text}

-- two tills, three messages: every byte of the output
pub whole_output : program_text (text "2 10 0 1 2 4 2 2\n0 1\n0 0 25 3\n1 0 28 2\n0 0 100 1\n")
    ≡ text "slot phase first width state message length\n"
    ++ text "0 f 0 0 X - 1\n"
    ++ text "1 t 0 2 - - 1\n"
    ++ text "2 t 2 2 X - 1\n"
    ++ text "3 t 2 1 X - 1\n"
    ++ text "4 s 0 1 B 0 3\n"
    ++ text "7 s 1 1 B 1 2\n"
    ++ text "9 t 3 1 - - 1\n"
    ++ text "10 f 0 0 B 2 1\n"
    ++ text "done 8 11 3 0\n"
unfolding decimal digits_by contenders_below entry first_among better owns
whole_output = refl

-- no message
pub no_message : program_text (text "1 10 0 1 2 4 2 2\n0 255\n") ≡ text "slot phase first width state message length\ndone 0 0 0 0\n"
unfolding decimal digits_by
no_message = refl

-- an unended last line
pub unended : program_text (text "1 10 0 1 2 4 2 2\n0 255") ≡ text "refused 13\n"
unfolding decimal digits_by
unended = refl

-- 11 digits
pub long_number : program_text (text "00000000001 10 0 1 2 4 2 2\n0 255\n") ≡ text "refused 13\n"
unfolding decimal digits_by
long_number = refl

-- leading zeros
pub leading_zeros : program_text (text "0000000001 10 0 1 2 4 2 2\n0 255\n") ≡ text "slot phase first width state message length\ndone 0 0 0 0\n"
unfolding decimal digits_by
leading_zeros = refl

-- two spaces
pub two_spaces : program_text (text "1  10 0 1 2 4 2 2\n0 255\n") ≡ text "refused 13\n"
unfolding decimal digits_by
two_spaces = refl

-- an owner above 255
pub large_owner : program_text (text "1 10 0 1 2 4 2 2\n0 256\n") ≡ text "refused 8\n"
unfolding decimal digits_by
large_owner = refl
