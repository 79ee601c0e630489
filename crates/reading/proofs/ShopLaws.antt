-- The whole text, line by line.
use Rattle.std.proofs.Common.{◌≡◌, Bool, true, false, ◌&&◌, List, [], ◌∷◌, Bor, MatchOption, ◌++◌, ℕ, suc, ◌+◌, ◌-◌, ◌≤◌, ◌<◌, length, get_or, take, drop, map, eqb, leb, cond, Option, Some, None, refl, sym, ap, subst, ◌∙◌, arith, le-leb}
use Rattle.std.specs.Bool.{then_some}
use Rattle.std.specs.Prelude.{nat_eq}
use Rattle.std.specs.List.{list_all, onto_first, join_with_byte}
use Rattle.std.specs.Cmp.Lexicographic.{same_text}
use Rattle.std.proofs.lemmas.List.{drop_at, length-append, take-append-drop, length-map, append_assoc}
use Rattle.std.proofs.lemmas.List.Folds.{list_all_at}
use Rattle.std.proofs.lemmas.List.Splits.{length-slice_split, join_with_byte-slice_split}
use lib.Pointwise.{pointwise}
use Rattle.refusals.proofs.Verdicts.{both, fails_behind}
use Rattle.messages.specs.declared.Message.{Message}
use Rattle.numbers.specs.Decimal.{value_of}
use Rattle.phases.specs.declared.Shop.{Shop}
use Rattle.reading.specs.declared.Given.{Given}
use Rattle.reading.specs.ShopText.{parts, is_numbers, numbers_of, holds, lines_of, messages_follow, shop_lines, is_shop, shop_in, message_in, message_lines, shop_of, owners_of, messages_of}
use Rattle.reading.specs.Work.{onto, count_of, LineRead, shop_line, message_line, ShopRead}
use Rattle.reading.proofs.ListLaws.{some_picked, none_picked, SoFar}

-- ---- the last line feed

onto_first_append : (b : ℕ) (ps qs : List (List ℕ)) → 1 ≤ length ps → onto_first b (ps ++ qs) ≡ onto_first b ps ++ qs
onto_first_append b [] qs h = absurd (omega arith)
onto_first_append b (p ∷ ps) qs h = refl

-- nothing is behind a last line feed
lines_ended : (text : List ℕ) → lines_of (text ++ 10 ∷ []) ≡ lines_of text ++ [] ∷ []
lines_ended [] = refl
lines_ended (b ∷ text) = go (lines_ended text) (eqb b 10)
  where
    go : lines_of (text ++ 10 ∷ []) ≡ lines_of text ++ [] ∷ [] → (t : Bool)
        → cond t ([] ∷ lines_of (text ++ 10 ∷ [])) (onto_first b (lines_of (text ++ 10 ∷ []))) ≡ cond t ([] ∷ lines_of text) (onto_first b (lines_of text)) ++ [] ∷ []
    go e true = ap (λ (ls : List (List ℕ)). [] ∷ ls) e
    go e false = ap (onto_first b) e ∙ onto_first_append b (lines_of text) ([] ∷ []) (omega (arith, length-slice_split (λ b. eqb b 10) text))

-- and a text whose last line is empty ends in one
abbrev Ended : List (List ℕ) → Type 0
Ended ls = (before : List (List ℕ)) × (ls ≡ before ++ [] ∷ [])

messages_ended : (ls : List (List ℕ)) → messages_follow ls ≡ true → Ended ls
messages_ended [] e = cc
messages_ended ([] ∷ []) e = ([], refl)
messages_ended ((b ∷ l) ∷ []) e = cc
messages_ended (l ∷ k ∷ ls) e =
    let rest = messages_ended (k ∷ ls) (both (holds 4 l) (messages_follow (k ∷ ls)) e).1 in
    (l ∷ rest.0, ap (λ ks. l ∷ ks) rest.1)

joined_ended : (l : List ℕ) (ls : List (List ℕ)) → (bytes : List ℕ) × (join_with_byte 10 (l ∷ ls ++ [] ∷ []) ≡ bytes ++ 10 ∷ [])
joined_ended l [] = (l, refl)
joined_ended l (k ∷ ls) =
    let rest = joined_ended k ls in
    (l ++ 10 ∷ rest.0, ap (λ bs. l ++ 10 ∷ bs) rest.1 ∙ sym (append_assoc l (10 ∷ rest.0) (10 ∷ [])))

shop_ended : (ls : List (List ℕ)) → shop_lines ls ≡ true → (bytes : List ℕ) × (join_with_byte 10 ls ≡ bytes ++ 10 ∷ [])
shop_ended [] e = cc
shop_ended (l ∷ []) e = cc
shop_ended (l ∷ k ∷ ls) e =
    let rest = messages_ended ls (both (is_numbers k) (messages_follow ls) (both (holds 8 l) (is_numbers k && messages_follow ls) e).1).1 in
    let joined = joined_ended l (k ∷ rest.0) in
    (joined.0, ap (λ ks. join_with_byte 10 (l ∷ k ∷ ks)) rest.1 ∙ joined.1)

unended : (input : List ℕ) → pointwise nat_eq (drop (length input - 1) input) (10 ∷ []) ≡ false → shop_lines (lines_of input) ≡ false
unended input e = go (shop_lines (lines_of input)) refl
  where
    go : (t : Bool) → shop_lines (lines_of input) ≡ t → shop_lines (lines_of input) ≡ false
    go false f = f
    go true f =
        let w = shop_ended (lines_of input) f in
        let is : input ≡ w.0 ++ 10 ∷ [] = sym (join_with_byte-slice_split 10 input) ∙ w.1 in
        let last : drop (length input - 1) input ≡ 10 ∷ [] = ap (drop (length input - 1)) is ∙ drop_at w.0 (10 ∷ []) (length input - 1) (omega (arith, ap length is, length-append w.0 (10 ∷ []))) in
        let hit : pointwise nat_eq (drop (length input - 1) input) (10 ∷ []) ≡ true = ap (λ bs. pointwise nat_eq bs (10 ∷ [])) last in
        cc

pub ended_cases : (input : List ℕ) (r : Option (Bor (List ℕ))) (n : ℕ)
    → MatchOption r (pointwise nat_eq (drop (length input - n) input) (10 ∷ []) ≡ false) (λ x. (pointwise nat_eq (drop (length input - n) input) (10 ∷ []) ≡ true) × (x.now ≡ take (length input - n) input) × (length x.now + n ≡ length input))
    → n ≡ 1 → MatchOption r (shop_lines (lines_of input) ≡ false) (λ x. input ≡ x.now ++ 10 ∷ [])
ended_cases input None n h e = unended input (subst (λ k. pointwise nat_eq (drop (length input - k) input) (10 ∷ []) ≡ false) e h)
ended_cases input (Some x) n h e =
    sym (take-append-drop (length input - n) input) ∙ ap (λ bs. bs ++ drop (length input - n) input) (sym h.1) ∙ ap (λ bs. x.now ++ bs) (same_text (drop (length input - n) input) (10 ∷ []) (sym h.0))

-- a text that is no shop's
pub declined : (input owners owners' : List ℕ) (messages messages' : List Message) → shop_lines (lines_of input) ≡ false → (r : Option Given) → r ≡ None → ShopRead input owners messages r owners' messages'
declined input owners owners' messages messages' e r is =
    let no : is_shop input ≡ false = fails_behind (leb (length input) 65536) (shop_lines (lines_of input)) e in
    record { told = is ∙ sym (ap (λ t. then_some t (given input)) no); owned = λ yes. cc; laid = λ yes. cc }
  where
    given : List ℕ → Given
    given text = record { shop = shop_of text; owners = length (owners_of text); messages = length (messages_of text) }

-- ---- a text without its last line feed

other_shop : (l : List ℕ) (ls : List (List ℕ)) → holds 8 l ≡ false → shop_lines (l ∷ ls) ≡ false
other_shop l [] e = refl
other_shop l (k ∷ ls) e = ap (λ t. t && (is_numbers k && messages_follow ls)) e

pub few_lines : (ls : List (List ℕ)) → length ls ≤ 1 → shop_lines (ls ++ [] ∷ []) ≡ false
few_lines [] h = refl
few_lines (l ∷ []) h = fails_behind (holds 8 l) (is_numbers [] && messages_follow []) refl
few_lines (l ∷ k ∷ ls) h = absurd (omega arith)

pub shop_other : (ls : List (List ℕ)) (l : List ℕ) → (0 < length ls) × (l ≡ get_or ls 0 l) → None ≡ shop_line l → shop_lines (ls ++ [] ∷ []) ≡ false
shop_other [] l at e = absurd (omega arith)
shop_other (k ∷ ls) l at e = other_shop k (ls ++ [] ∷ []) (ap (holds 8) (sym at.1) ∙ none_picked (holds 8 l) (shop_in (numbers_of l)) e)

pub owners_other : (ls : List (List ℕ)) (k : List ℕ) → (1 < length ls) × (k ≡ get_or ls 1 k) → None ≡ count_of k → shop_lines (ls ++ [] ∷ []) ≡ false
owners_other [] k at e = absurd (omega arith)
owners_other (l ∷ []) k at e = absurd (omega arith)
owners_other (l ∷ m ∷ ls) k at e =
    let no : is_numbers m ≡ false = ap is_numbers (sym at.1) ∙ none_picked (is_numbers k) (length (parts k)) e in
    fails_behind (holds 8 l) (is_numbers m && messages_follow (ls ++ [] ∷ [])) (ap (λ t. t && messages_follow (ls ++ [] ∷ [])) no)

follow_all : (ls : List (List ℕ)) → messages_follow (ls ++ [] ∷ []) ≡ list_all (holds 4) ls
follow_all [] = refl
follow_all (l ∷ []) = refl
follow_all (l ∷ k ∷ ls) = ap (λ t. holds 4 l && t) (follow_all (k ∷ ls))

abbrev pub held : List ℕ → Message
held line = message_in (numbers_of line)

held_all : (ls : List (List ℕ)) → message_lines (ls ++ [] ∷ []) ≡ map held ls
held_all [] = refl
held_all (l ∷ []) = refl
held_all (l ∷ k ∷ ls) = ap (λ ms. held l ∷ ms) (held_all (k ∷ ls))

shop_all : (l k : List ℕ) (ls : List (List ℕ)) → holds 8 l ≡ true → is_numbers k ≡ true → list_all (holds 4) ls ≡ true → shop_lines (l ∷ k ∷ ls ++ [] ∷ []) ≡ true
shop_all l k ls e f g = simp (e, f, follow_all ls, g)

pub message_other : (ls : List (List ℕ)) (i : ℕ) (m : List ℕ) → (suc (suc i) < length ls) × (m ≡ get_or ls (suc (suc i)) m) → None ≡ message_line m → shop_lines (ls ++ [] ∷ []) ≡ false
message_other [] i m at e = absurd (omega arith)
message_other (l ∷ []) i m at e = absurd (omega arith)
message_other (l ∷ k ∷ ls) i m at e =
    let no : list_all (holds 4) ls ≡ false = list_all_at (holds 4) ls i m (omega arith) (ap (holds 4) (sym at.1) ∙ none_picked (holds 4 m) (held m) e) in
    fails_behind (holds 8 l) (is_numbers k && messages_follow (ls ++ [] ∷ [])) (fails_behind (is_numbers k) (messages_follow (ls ++ [] ∷ [])) (follow_all ls ∙ no))

module _ (input text : List ℕ) (cut : input ≡ text ++ 10 ∷ []) where
  lines : lines_of input ≡ lines_of text ++ [] ∷ []
  lines = ap lines_of cut ∙ lines_ended text

  pub no_shop_read : (owners owners' : List ℕ) (messages messages' : List Message) → shop_lines (lines_of text ++ [] ∷ []) ≡ false → (r : Option Given) → r ≡ None → ShopRead input owners messages r owners' messages'
  no_shop_read owners owners' messages messages' e = declined input owners owners' messages messages' (ap shop_lines lines ∙ e)

  pub shop_read : length input ≤ 65536 → (owners owners' : List ℕ) (messages messages' : List Message) (l k : List ℕ) (ls : List (List ℕ)) → l ∷ k ∷ ls ≡ lines_of text → (S : Shop) → Some S ≡ shop_line l → (n : ℕ) → LineRead k owners (Some n) owners'
      → (count : ℕ) → SoFar (holds 4) held messages ls count messages' → ShopRead input owners messages (Some (record { shop = S; owners = n; messages = count })) owners' messages'
  shop_read few owners owners' messages messages' l k ls are S is n read count s =
      let all : lines_of input ≡ l ∷ k ∷ ls ++ [] ∷ [] = lines ∙ ap (λ ks. ks ++ [] ∷ []) (sym are) in
      let shop = some_picked (holds 8 l) (shop_in (numbers_of l)) S is in
      let line = some_picked (is_numbers k) (length (parts k)) n read.counted in
      let first : S ≡ shop_of input = shop.1 ∙ sym (ap (λ ks. shop_in (numbers_of (get_or ks 0 []))) all) in
      let second : numbers_of k ≡ owners_of input = sym (ap (λ ks. numbers_of (get_or ks 1 [])) all) in
      let further : map held ls ≡ messages_of input = sym (held_all ls) ∙ sym (ap (λ ks. message_lines (drop 2 ks)) all) in
      let owner_count : n ≡ length (owners_of input) = line.1 ∙ sym (length-map (parts k) value_of) ∙ ap length second in
      let message_count : count ≡ length (messages_of input) = s.counted ∙ sym (length-map ls held) ∙ ap length further in
      let yes : is_shop input ≡ true = simp (le-leb (length input) 65536 few, all, shop_all l k ls shop.0 line.0 s.good) in
      record {
        told = cc;
        owned = λ again. read.laid line.0 ∙ ap (onto owners) second;
        laid = λ again. s.laid ∙ ap (onto messages) further;
      }
