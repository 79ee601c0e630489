-- A line, number by number.
use Rattle.std.proofs.Common.{◌≡◌, Bool, true, false, ◌&&◌, List, ℕ, ◌<◌, length, get_or, map, eqb, eqb-true, Option, Some, None, refl, sym, ap, ◌∙◌}
use Rattle.std.specs.Bool.{then_some}
use Rattle.std.specs.List.{list_all}
use Rattle.std.proofs.lemmas.List.{length-map}
use Rattle.std.proofs.lemmas.List.Folds.{list_all_at}
use Rattle.numbers.specs.Decimal.{is_number, value_of, number_in}
use Rattle.reading.specs.ShopText.{parts, is_numbers, numbers_of}
use Rattle.reading.specs.Work.{onto, LineRead, numbers_line}
use Rattle.reading.proofs.ListLaws.{onto_all, some_picked, none_picked, SoFar}

pub number_picked : (p : List ℕ) → number_in p ≡ then_some (is_number p) (value_of p)
number_picked p = elim (is_number p) as (λ t. elim t [ true ↦ Some (value_of p) | false ↦ None ] ≡ then_some t (value_of p)) [ true ↦ refl | false ↦ refl ]

-- a part that is no number
pub part_other : (line fields fields' : List ℕ) (i : ℕ) (p : List ℕ) → (i < length (parts line)) × (p ≡ get_or (parts line) i p) → None ≡ number_in p
    → (r : Option ℕ) → r ≡ None → LineRead line fields r fields'
part_other line fields fields' i p at e r is =
    let none : is_number p ≡ false = none_picked (is_number p) (value_of p) (e ∙ number_picked p) in
    let no : is_numbers line ≡ false = list_all_at is_number (parts line) i p at.0 (ap is_number (sym at.1) ∙ none) in
    record { counted = is ∙ sym (ap (λ t. then_some t (length (parts line))) no); laid = λ yes. cc }

-- all parts
pub parts_read : (line fields₀ : List ℕ) (ps : List (List ℕ)) (count : ℕ) (fields : List ℕ) → SoFar is_number value_of fields₀ ps count fields → ps ≡ parts line → LineRead line fields₀ (Some count) fields
parts_read line fields₀ ps count fields s e =
    let yes : is_numbers line ≡ true = ap (list_all is_number) (sym e) ∙ s.good in
    record {
      counted = ap Some (s.counted ∙ ap length e) ∙ sym (ap (λ t. then_some t (length (parts line))) yes);
      laid = λ again. s.laid ∙ ap (λ q. onto fields₀ (map value_of q)) e;
    }

-- a line of n numbers, or another
pub numbers_read : (n : ℕ) (line fields : List ℕ) (count : ℕ) (fields' : List ℕ) (r : Option (List ℕ)) → LineRead line fields (Some count) fields' → length fields ≡ n → r ≡ then_some (eqb count n) fields' → r ≡ numbers_line n line
numbers_read n line fields count fields' r read long is =
    is
    ∙ ap (λ k. then_some (eqb k n) fields') told.1
    ∙ go (eqb (length (parts line)) n) refl
    ∙ sym (ap (λ t. then_some (t && eqb (length (parts line)) n) (numbers_of line)) told.0)
  where
    told : (is_numbers line ≡ true) × (count ≡ length (parts line))
    told = some_picked (is_numbers line) (length (parts line)) count read.counted

    go : (t : Bool) → eqb (length (parts line)) n ≡ t → then_some t fields' ≡ then_some t (numbers_of line)
    go true e = ap Some (read.laid told.0 ∙ onto_all fields (numbers_of line) (long ∙ sym (eqb-true (length (parts line)) n e) ∙ sym (length-map (parts line) value_of)))
    go false e = refl
