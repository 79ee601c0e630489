-- What is kept of a text's numbers is enough: longer lists are refused all the same.
use mathlib.Core.Path.{◌≡◌, refl, sym, ap, ◌∙◌}
use mathlib.Core.Bool.{Bool, true, ◌&&◌}
use mathlib.Core.Logic.{◌⊎◌, inl, inr}
use mathlib.Core.List.{List}
use Prim.Native.Nat.{ℕ, ◌≤◌, ◌<◌, min}
use native.Mathlib.Omega.{arith}
use lib.Dec.{leb, eqb}
use lib.ListN.{length, take}
use lib.Seq.{length-take-le, take_all}
use borrow.Author.Tests.{leb-true, eqb-true, lt-leb, ne_eqb}
use Rattle.std.specs.Prelude.{Ok, Err}
use Rattle.refusals.specs.declared.Refusal.TheVariants.{Stations, ClassNumbers, IndexTable, Messages}
use Rattle.refusals.specs.Numbers.{Verdict, granted, within, ask, and_then}
use Rattle.refusals.proofs.Verdicts.{ask_granted, then_granted, both}
use Rattle.trees.specs.Shape.{tree_verdict}
use Rattle.trees.proofs.Powers.{le_or_lt}
use Rattle.trees.proofs.ShapeLaws.{grown}
use Rattle.messages.specs.declared.Message.{Message}
use Rattle.phases.specs.declared.Shop.{Shop}
use Rattle.inputs.specs.Inputs.{class_numbers, are_owners, all_own, table_fits, all_fit, messages_fit, shop_verdict, budget_verdict, run_verdict}
use Rattle.wire.specs.Answer.{ran_of}
use Rattle.printing.specs.Report.{report_by}
use Rattle.reading.specs.Work.{onto}
use Rattle.reading.proofs.ListLaws.{take_onto}

-- ---- the verdict

-- where a list is longer than what is kept, both lists are too long
messages_kept : (z : ℕ) (ms : List Message) → messages_fit z (take 513 ms) ≡ messages_fit z ms
messages_kept z ms = go (le_or_lt (length ms) 513)
  where
    go : (length ms ≤ 513) ⊎ (513 < length ms) → messages_fit z (take 513 ms) ≡ messages_fit z ms
    go (inl h) = ap (messages_fit z) (take_all 513 ms h)
    go (inr h) =
        ap (λ (t : Bool). t && all_fit z (take 513 ms)) (lt-leb (length (take 513 ms)) 512 (omega (arith, length-take-le 513 ms (omega arith))))
        ∙ sym (ap (λ (t : Bool). t && all_fit z ms) (lt-leb (length ms) 512 (omega arith)))

table_kept : (S : Shop) (owners : List ℕ) → S.index.leaves ≤ 1024 → table_fits S (take 1025 owners) ≡ table_fits S owners
table_kept S owners few = go (le_or_lt (length owners) 1025)
  where
    rest : List ℕ → Bool
    rest l = are_owners S.stations l && all_own l S.stations

    go : (length owners ≤ 1025) ⊎ (1025 < length owners) → table_fits S (take 1025 owners) ≡ table_fits S owners
    go (inl h) = ap (table_fits S) (take_all 1025 owners h)
    go (inr h) =
        ap (λ (t : Bool). t && rest (take 1025 owners)) (ne_eqb (length (take 1025 owners)) S.index.leaves (λ e. absurd (omega (arith, length-take-le 1025 owners (omega arith)))))
        ∙ sym (ap (λ (t : Bool). t && rest owners) (ne_eqb (length owners) S.index.leaves (λ e. absurd (omega arith))))

module _ (S : Shop) (owners : List ℕ) (ms : List Message) (budget room : ℕ) where
  -- what follows the trees
  abbrev behind : List ℕ → List Message → Verdict
  behind os l = and_then (shop_verdict S os) (ask (messages_fit S.stations l) Messages (budget_verdict budget room))

  owners_kept : (v : Verdict) → (v ≡ granted → S.index.leaves ≤ 1024) → and_then v (behind (take 1025 owners) (take 513 ms)) ≡ and_then v (behind owners ms)
  owners_kept (Err k) few = refl
  owners_kept (Ok _) few =
      ap (λ (t : Bool). and_then (ask (within 1 32 S.stations) Stations (ask (class_numbers S) ClassNumbers (ask t IndexTable granted))) (ask (messages_fit S.stations (take 513 ms)) Messages (budget_verdict budget room)))
      (table_kept S owners (few refl))
      ∙ ap (λ (t : Bool). and_then (shop_verdict S owners) (ask t Messages (budget_verdict budget room))) (messages_kept S.stations ms)

  verdict_kept : run_verdict S (take 1025 owners) true (take 513 ms) budget room ≡ run_verdict S owners true ms budget room
  verdict_kept =
      ap (and_then (tree_verdict S.time.branches S.time.leaves))
      (owners_kept (tree_verdict S.index.branches S.index.leaves) (λ e. (grown S.index.branches S.index.leaves e).tree.few))

  few_granted : run_verdict S owners true ms budget room ≡ granted → (length owners ≤ 1024) × (length ms ≤ 512)
  few_granted e =
      let time = then_granted (tree_verdict S.time.branches S.time.leaves) _ e in
      let index = then_granted (tree_verdict S.index.branches S.index.leaves) _ time.1 in
      let shop = then_granted (shop_verdict S owners) _ index.1 in
      let stationed = ask_granted (within 1 32 S.stations) Stations _ shop.0 in
      let numbered = ask_granted (class_numbers S) ClassNumbers _ stationed.1 in
      let tabled = ask_granted (table_fits S owners) IndexTable granted numbered.1 in
      let sending = ask_granted (messages_fit S.stations ms) Messages _ shop.1 in
      let all : length owners ≡ S.index.leaves = eqb-true _ _ (both (eqb (length owners) S.index.leaves) _ tabled.0).0 in
      (omega (arith, (grown S.index.branches S.index.leaves index.0).tree.few), leb-true _ _ (both (leb (length ms) 512) _ sending.0).0)

  -- ---- the report

  all_kept : (v : Verdict) → (v ≡ granted → (take 1025 owners ≡ owners) × (take 513 ms ≡ ms))
      → report_by v (ran_of S (take 1025 owners) (take 513 ms) budget) ≡ report_by v (ran_of S owners ms budget)
  all_kept (Err k) h = refl
  all_kept (Ok _) h =
      let p = h refl in
      ap (λ (os : List ℕ). report_by granted (ran_of S os (take 513 ms) budget)) p.0
      ∙ ap (λ (l : List Message). report_by granted (ran_of S owners l budget)) p.1

  pub report_kept : report_by (run_verdict S (take 1025 owners) true (take 513 ms) budget room) (ran_of S (take 1025 owners) (take 513 ms) budget)
      ≡ report_by (run_verdict S owners true ms budget room) (ran_of S owners ms budget)
  report_kept =
      ap (λ (v : Verdict). report_by v (ran_of S (take 1025 owners) (take 513 ms) budget)) verdict_kept
      ∙ all_kept (run_verdict S owners true ms budget room)
      (λ e. let few = few_granted e in (take_all 1025 owners (omega (arith, few.0)), take_all 513 ms (omega (arith, few.1))))

-- ---- the lists

-- the front of what was laid over a list with so many places
pub front_laid : {A : Type 0} (d xs : List A) (limit : ℕ) → length d ≡ limit → take (min (length xs) limit) (onto d xs) ≡ take limit xs
front_laid d xs limit e = go (le_or_lt (length xs) limit)
  where
    go : (length xs ≤ limit) ⊎ (limit < length xs) → take (min (length xs) limit) (onto d xs) ≡ take limit xs
    go (inl h) =
        let n : min (length xs) limit ≡ length xs = omega arith in
        ap (λ k. take k (onto d xs)) n ∙ take_onto (length xs) d xs (omega arith) (omega arith) ∙ take_all (length xs) xs (omega arith) ∙ sym (take_all limit xs h)
    go (inr h) =
        let n : min (length xs) limit ≡ limit = omega arith in
        ap (λ k. take k (onto d xs)) n ∙ take_onto limit d xs (omega arith) (omega arith)
