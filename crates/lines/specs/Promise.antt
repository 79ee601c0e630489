-- What `answer` promises, whatever bytes it is given.
--
--   output_room             the room that every text fits into
--   length_by, output_by    by whether there is that room: the bytes written, and the whole output at exit
--   AnswerPromise ..        both are the definition's, and no text is longer than the room
--   one_answer              two results that the promise allows for one input are equal
use Rattle.std.specs.Prelude.{◌≡◌, Bool, true, false, List, ℕ, ◌≤◌, leb, length}
use Rattle.std.proofs.Common.{sym, ◌∙◌}
use Rattle.rows.specs.Log.{over}
use Rattle.lines.specs.Program.{program_text}

-- bytes
abbrev pub output_room : ℕ
output_room = 262144

-- whether an output has the room
abbrev pub has_room : List ℕ → Bool
has_room output = leb output_room (length output)

-- the text's length; nothing where there is no room
abbrev pub length_by : Bool → List ℕ → ℕ
length_by true text = length (program_text text)
length_by false text = 0

-- the text from the first byte on, and every byte behind it as it was
abbrev pub output_by : Bool → List ℕ → List ℕ → List ℕ
output_by true text output = over output 0 (program_text text)
output_by false text output = output

pub record AnswerPromise (input output : List ℕ) (r : ℕ) (output' : List ℕ) : Type 0 where
  pub wrote : r ≡ length_by (has_room output) input
  pub left : output' ≡ output_by (has_room output) input output
  pub fits : r ≤ output_room

-- one result for each input
pub one_answer : (input output : List ℕ) (r₁ r₂ : ℕ) (output₁ output₂ : List ℕ) → AnswerPromise input output r₁ output₁ → AnswerPromise input output r₂ output₂
    → (r₁ ≡ r₂) × (output₁ ≡ output₂)
one_answer input output r₁ r₂ output₁ output₂ p q = (p.wrote ∙ sym q.wrote, p.left ∙ sym q.left)
