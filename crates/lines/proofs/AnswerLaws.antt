-- The program's promise, for a text that is no shop's, and for a shop's.
use mathlib.Core.Path.{◌≡◌, sym, ap, ◌∙◌, subst}
use mathlib.Core.Bool.{Bool, true}
use mathlib.Core.List.{List}
use Prim.Native.Nat.{ℕ, ◌≤◌, min}
use native.Mathlib.Omega.{arith}
use lib.ListN.{length, take}
use borrow.Author.Tests.{le-leb}
use Rattle.std.specs.Prelude.{Some}
use Rattle.refusals.specs.declared.Refusal.TheVariants.{Text}
use Rattle.refusals.specs.Numbers.{ask}
use Rattle.messages.specs.declared.Message.{Message}
use Rattle.inputs.specs.Inputs.{run_verdict}
use Rattle.printing.specs.Report.{report_by}
use Rattle.printing.specs.Work.{Put}
use Rattle.reading.specs.declared.Given.{Given}
use Rattle.reading.specs.ShopText.{is_shop, shop_of, owners_of, messages_of}
use Rattle.reading.specs.Work.{ShopRead}
use Rattle.reading.proofs.ListLaws.{some_picked}
use Rattle.lines.specs.Program.{budget, room_of, program_run, program_text}
use Rattle.lines.specs.Promise.{has_room, length_by, output_by, AnswerPromise}
use Rattle.lines.specs.Work.{run_text, Printed}
use Rattle.lines.proofs.KeptLaws.{report_kept, front_laid}

module _ (input output : List ℕ) (room : 262144 ≤ length output) (n : ℕ) (output' : List ℕ) where
  enough : has_room output ≡ true
  enough = le-leb 262144 (length output) room

  with_room : Put output 0 (program_text input) n output' → n ≤ 262144 → AnswerPromise input output n output'
  with_room p few = record {
    wrote = omega (arith, p.next) ∙ sym (ap (λ (t : Bool). length_by t input) enough);
    left = p.wrote ∙ sym (ap (λ (t : Bool). output_by t input output) enough);
    fits = few;
  }

  abbrev given : Given
  given = record { shop = shop_of input; owners = length (owners_of input); messages = length (messages_of input) }

  -- what the program prints once the text is known to be a shop's, or not
  abbrev by : Bool → List ℕ
  by t = report_by (ask t Text (run_verdict (shop_of input) (owners_of input) true (messages_of input) budget (room_of budget))) (program_run input)

  pub text_run : (owners₀ owners : List ℕ) (messages₀ messages : List Message) (g : Given) → ShopRead input owners₀ messages₀ (Some g) owners messages → length owners₀ ≡ 1025 → length messages₀ ≡ 513
      → (a b : ℕ) → a ≡ min g.owners 1025 → b ≡ min g.messages 513 → Printed output (run_text g.shop (take a owners) (take b messages)) n output' → AnswerPromise input output n output'
  text_run owners₀ owners messages₀ messages g r long many a b ea eb p =
      let t = some_picked (is_shop input) given g r.told in
      let kept_owners : take a owners ≡ take 1025 (owners_of input) =
      ap (λ k. take k owners) (ea ∙ ap (λ (x : Given). min x.owners 1025) t.1) ∙ ap (take (min (length (owners_of input)) 1025)) (r.owned t.0) ∙ front_laid owners₀ (owners_of input) 1025 long in
      let kept_messages : take b messages ≡ take 513 (messages_of input) =
      ap (λ k. take k messages) (eb ∙ ap (λ (x : Given). min x.messages 513) t.1) ∙ ap (take (min (length (messages_of input)) 513)) (r.laid t.0) ∙ front_laid messages₀ (messages_of input) 513 many in
      let same : run_text g.shop (take a owners) (take b messages) ≡ program_text input =
      ap (λ (x : Given). run_text x.shop (take a owners) (take b messages)) t.1
      ∙ ap (λ os. run_text (shop_of input) os (take b messages)) kept_owners
      ∙ ap (run_text (shop_of input) (take 1025 (owners_of input))) kept_messages
      ∙ report_kept (shop_of input) (owners_of input) (messages_of input) budget (room_of budget)
      ∙ sym (ap by t.0) in
      with_room (subst (λ (x : List ℕ). Put output 0 x n output') same p.put) p.short
