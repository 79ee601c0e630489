-- What a granted run may rely on.
use mathlib.Core.Path.{◌≡◌, refl, ap, ◌∙◌}
use mathlib.Core.Bool.{Bool, true, false, ◌&&◌, ◌||◌}
use mathlib.Core.List.{List, [], ◌∷◌}
use Prim.Native.Nat.{ℕ, zero, suc, ◌*◌, ◌≤◌, ◌<◌}
use native.Mathlib.Omega.{arith}
use lib.Dec.{ltb, leb, eqb}
use lib.ListN.{length, get_or}
use borrow.Author.Tests.{leb-true, ltb-true, eqb-true}
use Rattle.std.specs.Prelude.{Ok, Err}
use Rattle.refusals.specs.declared.Refusal.{Refusal}
use Rattle.refusals.specs.declared.Refusal.TheVariants.{Stations, ClassNumbers, IndexTable, Messages, Budget, LogRoom}
use Rattle.refusals.specs.Numbers.{Verdict, granted, within, ask, and_then}
use Rattle.refusals.proofs.Verdicts.{ask_granted, then_granted, both, within_true}
use Rattle.trees.specs.Shape.{tree_verdict}
use Rattle.trees.proofs.ShapeLaws.{grown}
use Rattle.messages.specs.declared.Message.{Message}
use Rattle.messages.specs.Message.{blank}
use Rattle.messages.specs.Lists.{Timed, Runnable, SameLength, listed}
use Rattle.messages.proofs.ListLaws.{length_listed}
use Rattle.classes.specs.Class.{class_fits}
use Rattle.classes.proofs.VerdictLaws.{fitting}
use Rattle.phases.specs.declared.Shop.{Shop}
use Rattle.phases.specs.Work.{Grown, Sound}
use Rattle.inputs.proofs.TableLaws.{length_table}
use Rattle.inputs.specs.Inputs.{SmallOwners, table_of, same_lengths, class_numbers, is_owner, are_owners, table_fits, message_fits, all_fit, messages_fit, shop_verdict, budget_verdict, setup_verdict, list_verdict, run_verdict}

-- ---- a tree, an owner, a message

granted_tree : (m t : ℕ) → tree_verdict m t ≡ granted → Grown m t
granted_tree m t e = let g = grown m t e in record { tree = g.tree; under = g.under; height = g.height }

small_owner : (z o : ℕ) → z ≤ 32 → is_owner z o ≡ true → o ≤ 255
small_owner z o h e = go (ltb o z) refl e
  where
    go : (b : Bool) → ltb o z ≡ b → (b || eqb o 255) ≡ true → o ≤ 255
    go true q f = let k : o < z = ltb-true o z q in omega arith
    go false q f = let k : o ≡ 255 = eqb-true o 255 f in omega arith

small_owners : (z : ℕ) (owners : List ℕ) → z ≤ 32 → are_owners z owners ≡ true → SmallOwners owners
small_owners z [] h e i = omega arith
small_owners z (o ∷ owners) h e zero = small_owner z o h (both (is_owner z o) (are_owners z owners) e).0
small_owners z (o ∷ owners) h e (suc i) = small_owners z owners h (both (is_owner z o) (are_owners z owners) e).1 i

timed_message : (z : ℕ) (m : Message) → message_fits z m ≡ true → Timed m × (1 ≤ m.length)
timed_message z m e =
    let a = both (ltb m.station z) _ e in
    let b = both (leb m.arrival 1000000000) _ a.1 in
    let c = both (within 1 1000000000 m.relative) _ b.1 in
    let lengths = within_true 1 1000 m.length c.1 in (
      record {
        arrives = leb-true _ _ b.0;
        lasts = (within_true 1 1000000000 m.relative c.0).1;
        short = lengths.1;
      },
      lengths.0,
    )

-- each message is timed, and takes a slot at least
pub timed_lasting : (z : ℕ) (ms : List Message) → all_fit z ms ≡ true → (i : ℕ) → i < length ms
    → Timed (get_or ms i blank) × (1 ≤ (get_or ms i blank).length)
timed_lasting z [] e i h = absurd (omega arith)
timed_lasting z (m ∷ ms) e zero h = timed_message z m (both (message_fits z m) (all_fit z ms) e).0
timed_lasting z (m ∷ ms) e (suc i) h = timed_lasting z ms (both (message_fits z m) (all_fit z ms) e).1 i (omega arith)

-- ---- the run

-- three verdicts before another, taken as one
then_then : (a b c v : Verdict) → and_then a (and_then b (and_then c v)) ≡ and_then (and_then a (and_then b c)) v
then_then (Ok _) (Ok _) c v = refl
then_then (Ok _) (Err k) c v = refl
then_then (Err k) b c v = refl

-- two tests of one refusal
ask_both : (a b : Bool) (r : Refusal) (v : Verdict) → ask (a && b) r v ≡ ask a r (ask b r v)
ask_both true b r v = refl
ask_both false b r v = refl

-- THE VERDICT ON A RUN is the setup's, and then the list's, if it came whole
pub in_two : (S : Shop) (owners : List ℕ) (whole : Bool) (ms : List Message) (budget room : ℕ)
    → run_verdict S owners whole ms budget room ≡ and_then (setup_verdict S owners) (ask whole Messages (list_verdict S.stations ms budget room))
in_two S owners whole ms budget room =
    then_then (tree_verdict S.time.branches S.time.leaves) (tree_verdict S.index.branches S.index.leaves) (shop_verdict S owners) _
    ∙ ap (and_then (setup_verdict S owners)) (ask_both whole (messages_fit S.stations ms) Messages (budget_verdict budget room))

-- each test of a run was passed
pub record Passed (S : Shop) (owners : List ℕ) (whole : Bool) (ms : List Message) (budget bytes : ℕ) : Type 0 where
  pub time : Grown S.time.branches S.time.leaves
  pub index : Grown S.index.branches S.index.leaves
  pub stations : within 1 32 S.stations ≡ true
  pub classes : class_numbers S ≡ true
  pub entries : length owners ≡ S.index.leaves
  pub owned : are_owners S.stations owners ≡ true
  pub complete : whole ≡ true
  pub count : length ms ≤ 512
  pub fit : all_fit S.stations ms ≡ true
  pub some_budget : 1 ≤ budget
  pub few : budget ≤ 1000000
  pub room : 16 * budget ≤ bytes

pub passed : (S : Shop) (owners : List ℕ) (whole : Bool) (ms : List Message) (budget bytes : ℕ)
    → run_verdict S owners whole ms budget bytes ≡ granted → Passed S owners whole ms budget bytes
passed S owners whole ms budget bytes e =
    let time = then_granted (tree_verdict S.time.branches S.time.leaves) _ e in
    let index = then_granted (tree_verdict S.index.branches S.index.leaves) _ time.1 in
    let shop = then_granted (shop_verdict S owners) _ index.1 in
    let stationed = ask_granted (within 1 32 S.stations) Stations _ shop.0 in
    let numbered = ask_granted (class_numbers S) ClassNumbers _ stationed.1 in
    let tabled = ask_granted (table_fits S owners) IndexTable granted numbered.1 in
    let table = both (eqb (length owners) S.index.leaves) _ tabled.0 in
    let sending = ask_granted (whole && messages_fit S.stations ms) Messages _ shop.1 in
    let lists = both whole (messages_fit S.stations ms) sending.0 in
    let fitting = both (leb (length ms) 512) (all_fit S.stations ms) lists.1 in
    let budgeted = ask_granted (within 1 1000000 budget) Budget _ sending.1 in
    let logged = ask_granted (leb (16 * budget) bytes) LogRoom granted budgeted.1 in
    let b = within_true 1 1000000 budget budgeted.0 in
    record {
      time = granted_tree S.time.branches S.time.leaves time.0;
      index = granted_tree S.index.branches S.index.leaves index.0;
      stations = stationed.0;
      classes = numbered.0;
      entries = eqb-true _ _ table.0;
      owned = (both (are_owners S.stations owners) _ table.1).0;
      complete = lists.0;
      count = leb-true _ _ fitting.0;
      fit = fitting.1;
      some_budget = b.0;
      few = b.1;
      room = leb-true _ _ logged.0;
    }

-- so the shop's numbers are in range
pub passed_sound : (S : Shop) (owners : List ℕ) (whole : Bool) (ms : List Message) (budget bytes : ℕ)
    → Passed S owners whole ms budget bytes → Sound S
passed_sound S owners whole ms budget bytes p =
    let numbers = both (class_fits S.width S.offset) (leb S.compression 8) p.classes in
    let class = fitting S.width S.offset numbers.0 in
    record {
      time = p.time;
      static = p.index;
      stations = (within_true 1 32 S.stations p.stations).1;
      wide = class.0;
      width = class.1;
      offset = class.2;
      factor = leb-true _ _ numbers.1;
    }

-- and the run may begin
pub record Allowed (S : Shop) (owners : List ℕ) (whole : Bool) (ms : List Message) (budget bytes : ℕ) : Type 0 where
  pub sound : Sound S
  pub owners_few : length owners ≤ 1024
  pub owners_small : SmallOwners owners
  pub table_long : length (table_of owners) ≡ 1024
  pub complete : whole ≡ true
  pub runnable : Runnable ms
  pub some_budget : 1 ≤ budget
  pub few : budget ≤ 1000000
  pub room : 16 * budget ≤ bytes

pub allowed : (S : Shop) (owners : List ℕ) (whole : Bool) (ms : List Message) (budget bytes : ℕ)
    → run_verdict S owners whole ms budget bytes ≡ granted → Allowed S owners whole ms budget bytes
allowed S owners whole ms budget bytes e =
    let p = passed S owners whole ms budget bytes e in
    let sound = passed_sound S owners whole ms budget bytes p in
    let fewer : length owners ≤ 1024 = omega (arith, p.index.tree.few, p.entries) in
    record {
      sound = sound;
      owners_few = fewer;
      owners_small = small_owners S.stations owners sound.stations p.owned;
      table_long = length_table owners fewer;
      complete = p.complete;
      runnable = record { few = p.count; timed = λ i h. (timed_lasting S.stations ms p.fit i h).0 };
      some_budget = p.some_budget;
      few = p.few;
      room = p.room;
    }

-- five slices that make a list which may be run are of one length
pub allowed_fields : (S : Shop) (owners stations arrivals relatives lengths sent : List ℕ) (budget bytes : ℕ)
    → run_verdict S owners (same_lengths stations arrivals relatives lengths sent) (listed stations arrivals relatives lengths sent) budget bytes ≡ granted
    → SameLength stations arrivals relatives lengths sent
allowed_fields S owners stations arrivals relatives lengths sent budget bytes e =
    let p = passed S owners _ _ budget bytes e in
    let a = both (eqb (length arrivals) (length stations)) _ p.complete in
    let r = both (eqb (length relatives) (length stations)) _ a.1 in
    let l = both (eqb (length lengths) (length stations)) _ r.1 in
    record {
      few = omega (arith, p.count, length_listed stations arrivals relatives lengths sent);
      arrivals_too = eqb-true _ _ a.0;
      relatives_too = eqb-true _ _ r.0;
      lengths_too = eqb-true _ _ l.0;
      sent_too = eqb-true _ _ l.1;
    }
