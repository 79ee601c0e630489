-- From a run over a list of records to the run over its fields.
use mathlib.Core.Path.{◌≡◌, refl, sym, ap, subst, ◌∙◌}
use mathlib.Core.Bool.{Bool, true, false, ◌&&◌}
use mathlib.Core.List.{List, [], ◌∷◌, ◌++◌, map, map-append}
use Prim.Native.Nat.{ℕ, ◌≤◌}
use native.Mathlib.Omega.{arith}
use lib.Dec.{leb, eqb}
use lib.ListN.{length, take, drop, replicate, length-map}
use borrow.Author.Tests.{leb-true, eqb-true}
use Rattle.std.proofs.lemmas.List.{take_all}
use Rattle.std.specs.Prelude.{Result, Ok, Err}
use Rattle.refusals.specs.declared.Refusal.{Refusal}
use Rattle.refusals.specs.declared.Refusal.TheVariants.{Messages}
use Rattle.refusals.specs.Numbers.{Verdict, granted, ask, and_then}
use Rattle.refusals.proofs.Verdicts.{both, number_some}
use Rattle.messages.specs.declared.Message.{Message}
use Rattle.messages.specs.Message.{blank}
use Rattle.messages.specs.Lists.{listed}
use Rattle.messages.proofs.KeptLaws.{bare_length}
use Rattle.messages.proofs.ListLaws.{length_listed}
use Rattle.records.specs.Table.{laid_over}
use Rattle.records.proofs.Laws.{take_over, over_front}
use Rattle.phases.specs.declared.Shop.{Shop}
use Rattle.inputs.specs.Inputs.{same_lengths, all_fit, budget_verdict, setup_verdict, list_verdict, run_verdict, table_of}
use Rattle.inputs.proofs.GrantLaws.{in_two}
use Rattle.wire.specs.declared.Outcome.{Outcome}
use Rattle.wire.specs.Answer.{Reading, reading_of, reading_by, marks, marks_by, messages_by, log_by, ran_of}
use Rattle.wire.specs.Promise.{ListPromise, GrantedPromise, RunPromise}
use Rattle.wire.proofs.KeptLaws.{same_records}

-- ---- the fields

-- the slots of sending of the records that the fields make
marks_listed : (stations arrivals relatives lengths sent : List ℕ) → length sent ≡ length stations → marks (listed stations arrivals relatives lengths sent) ≡ sent
marks_listed [] a r l [] e = refl
marks_listed [] a r l (y ∷ sent) e = absurd (omega arith)
marks_listed (s ∷ stations) a r l [] e = absurd (omega arith)
marks_listed (s ∷ stations) a r l (y ∷ sent) e = ap (λ (xs : List ℕ). y ∷ xs) (marks_listed stations (drop 1 a) (drop 1 r) (drop 1 l) sent (omega arith))

-- the last of four tests
fourth : (a b c d : Bool) → (a && (b && (c && d))) ≡ true → d ≡ true
fourth a b c d e = (both c d (both b (c && d) (both a (b && (c && d)) e).1).1).1

-- more than 512 messages, or fields of different lengths, are refused
not_whole : (few same fit : Bool) (v : Verdict) → false ≡ (few && same) → ask same Messages (ask (few && fit) Messages v) ≡ Err Messages
not_whole few false fit v e = refl
not_whole false true fit v e = refl
not_whole true true fit v e = cc

-- of fields that make a list, as many as there are stations are all
pub cut_whole : (stations arrivals relatives lengths sent : List ℕ) → true ≡ (leb (length stations) 512 && same_lengths stations arrivals relatives lengths sent)
    → listed stations (take (length stations) arrivals) (take (length stations) relatives) (take (length stations) lengths) (take (length stations) sent)
    ≡ listed stations arrivals relatives lengths sent
cut_whole stations arrivals relatives lengths sent whole =
    let w = both (leb (length stations) 512) (same_lengths stations arrivals relatives lengths sent) (sym whole) in
    let a = both (eqb (length arrivals) (length stations)) _ w.1 in
    let r = both (eqb (length relatives) (length stations)) _ a.1 in
    let l = both (eqb (length lengths) (length stations)) (eqb (length sent) (length stations)) r.1 in
    rw (all arrivals a.0, all relatives r.0, all lengths l.0, all sent l.1) refl
  where
    all : (xs : List ℕ) → eqb (length xs) (length stations) ≡ true → take (length stations) xs ≡ xs
    all xs e = take_all (length stations) xs (omega (arith, eqb-true (length xs) (length stations) e))

-- ---- the run

module _ (S : Shop) (owners stations arrivals relatives lengths sent log : List ℕ) (budget : ℕ) where
  abbrev list : List Message
  list = listed stations arrivals relatives lengths sent

  abbrev same : Bool
  same = same_lengths stations arrivals relatives lengths sent

  abbrev verdict : Verdict
  verdict = run_verdict S owners same list budget (length log)

  -- what is refused stays
  refused : (k : Refusal) → verdict ≡ Err k → RunPromise S owners stations arrivals relatives lengths sent log budget (Err k) sent log
  refused k e = record {
    read = sym (ap (λ (v : Verdict). reading_by v (ran_of S owners list budget)) e);
    marked = sym (ap (λ (v : Verdict). marks_by v (ran_of S owners list budget) sent) e);
    logged = sym (ap (λ (v : Verdict). log_by v (ran_of S owners list budget) log) e);
  }

  -- fields that make no list of at most 512 are refused for the setup, or then for the messages
  not_listed : false ≡ (leb (length stations) 512 && same) → verdict ≡ and_then (setup_verdict S owners) (Err Messages)
  not_listed short =
      in_two S owners same list budget (length log)
      ∙ ap (and_then (setup_verdict S owners))
      (ap (λ (n : ℕ). ask same Messages (ask (leb n 512 && all_fit S.stations list) Messages (budget_verdict budget (length log)))) (length_listed stations arrivals relatives lengths sent)
      ∙ not_whole (leb (length stations) 512) same (all_fit S.stations list) (budget_verdict budget (length log)) short)

  -- ---- fields that make a list, in a table that has room for it

  module _ (whole : true ≡ (leb (length stations) 512 && same)) where
    tests : (leb (length stations) 512 ≡ true) × (same ≡ true)
    tests = both (leb (length stations) 512) same (sym whole)

    many : length list ≡ length stations
    many = length_listed stations arrivals relatives lengths sent

    marked_all : length sent ≡ length stations
    marked_all = eqb-true (length sent) (length stations) (fourth (eqb (length arrivals) (length stations)) (eqb (length relatives) (length stations)) (eqb (length lengths) (length stations)) (eqb (length sent) (length stations)) tests.1)

    -- a run leaves as many
    as_many : length (ran_of S owners list budget).1.messages ≡ length stations
    as_many = bare_length list (ran_of S owners list budget).1.messages (sym (same_records S (table_of owners) budget list)) ∙ many

    module _ (old : List Message) (room : length stations ≤ length old) (table : List Message) (loaded : table ≡ laid_over old list) where
      lent : take (length stations) table ≡ list
      lent = ap (take (length stations)) loaded ∙ ap (λ (n : ℕ). take n (laid_over old list)) (sym many)
          ∙ take_over old list (omega (arith, many, room))

      slots : (ms' : List Message) → length ms' ≡ length stations → laid_over sent (map (λ m. m.sent) (ms' ++ drop (length stations) table)) ≡ marks ms'
      slots ms' e =
          ap (laid_over sent) (map-append (λ m. m.sent) ms' (drop (length stations) table))
          ∙ over_front sent (marks ms') (marks (drop (length stations) table)) (length-map ms' (λ m. m.sent) ∙ e ∙ sym marked_all)

  -- ---- a run over a list is one over its fields

  module _ (answer : Result Outcome Refusal) (ms' : List Message) (log' : List ℕ) where
    -- fields that make no list of at most 512 are refused, and everything stays
    pub run_refused : false ≡ (leb (length stations) 512 && same) → ListPromise S owners false [] log budget answer ms' log'
        → RunPromise S owners stations arrivals relatives lengths sent log budget answer sent log'
    run_refused short P = record {
      read = P.read ∙ ap (λ (v : Verdict). reading_by v (ran_of S owners [] budget)) told ∙ R.read;
      marked = R.marked;
      logged = P.logged ∙ ap (λ (v : Verdict). log_by v (ran_of S owners [] budget) log) told ∙ R.logged;
    }
      where
        denied : (v : Verdict) → (k : Refusal) × (and_then v (Err Messages) ≡ Err k)
        denied (Ok _) = (Messages, refl)
        denied (Err k) = (k, refl)

        told : run_verdict S owners false [] budget (length log) ≡ Err (denied (setup_verdict S owners)).0
        told = in_two S owners false [] budget (length log) ∙ (denied (setup_verdict S owners)).1

        R : RunPromise S owners stations arrivals relatives lengths sent log budget (Err (denied (setup_verdict S owners)).0) sent log
        R = refused (denied (setup_verdict S owners)).0 (not_listed short ∙ (denied (setup_verdict S owners)).1)

    -- a list that is whole is run, and its slots of sending are those of the records
    pub run_whole : true ≡ (leb (length stations) 512 && same) → (table : List Message) → table ≡ laid_over (replicate 512 blank) list
        → ListPromise S owners true (take (length stations) table) log budget answer ms' log'
        → (sent' : List ℕ) → sent' ≡ laid_over sent (map (λ m. m.sent) (ms' ++ drop (length stations) table))
        → RunPromise S owners stations arrivals relatives lengths sent log budget answer sent' log'
    run_whole whole table loaded P sent' stored =
        record {
          read = Q.read;
          marked = stored ∙ slots whole (replicate 512 blank) few table loaded ms' (ap length Q.left ∙ length_left verdict) ∙ ap marks Q.left ∙ marks_left verdict;
          logged = Q.logged;
        }
      where
        few : length stations ≤ 512
        few = leb-true (length stations) 512 (tests whole).0

        Q : ListPromise S owners same list log budget answer ms' log'
        Q =
            subst (λ (b : Bool). ListPromise S owners b list log budget answer ms' log') (sym (tests whole).1)
            (subst (λ (ms : List Message). ListPromise S owners true ms log budget answer ms' log') (lent whole (replicate 512 blank) few table loaded) P)

        length_left : (v : Verdict) → length (messages_by v (ran_of S owners list budget) list) ≡ length stations
        length_left (Ok _) = as_many whole
        length_left (Err k) = many whole

        marks_left : (v : Verdict) → marks (messages_by v (ran_of S owners list budget) list) ≡ marks_by v (ran_of S owners list budget) sent
        marks_left (Ok _) = refl
        marks_left (Err k) = marks_listed stations arrivals relatives lengths sent (marked_all whole)

  -- a list that is whole and refused stays, and so do its fields
  pub run_denied : true ≡ (leb (length stations) 512 && same) → (table : List Message) → table ≡ laid_over (replicate 512 blank) list
      → (k : Refusal) (ms' : List Message) (log' : List ℕ) → ListPromise S owners true (take (length stations) table) log budget (Err k) ms' log'
      → RunPromise S owners stations arrivals relatives lengths sent log budget (Err k) sent log'
  run_denied whole table loaded k ms' log' P =
      record { read = Q.read; marked = sym (kept verdict Q.read); logged = Q.logged }
    where
      Q : RunPromise S owners stations arrivals relatives lengths sent log budget (Err k) (laid_over sent (map (λ m. m.sent) (ms' ++ drop (length stations) table))) log'
      Q = run_whole (Err k) ms' log' whole table loaded P _ refl

      kept : (v : Verdict) → reading_of (Err k) ≡ reading_by v (ran_of S owners list budget) → marks_by v (ran_of S owners list budget) sent ≡ sent
      kept (Ok _) e = absurd (omega (arith, number_some k, ap (λ (r : Reading). r.refusal) e))
      kept (Err j) e = refl

  -- ---- where the setup is granted

  module _ (set : setup_verdict S owners ≡ granted) where
    -- then the fields and the list decide
    by_list : verdict ≡ ask same Messages (list_verdict S.stations list budget (length log))
    by_list =
        in_two S owners same list budget (length log)
        ∙ ap (λ (v : Verdict). and_then v (ask same Messages (list_verdict S.stations list budget (length log)))) set

    -- fields that make no list of at most 512
    pub fields_refused : false ≡ (leb (length stations) 512 && same) → RunPromise S owners stations arrivals relatives lengths sent log budget (Err Messages) sent log
    fields_refused short = refused Messages (not_listed short ∙ ap (λ (v : Verdict). and_then v (Err Messages)) set)

    module _ (whole : true ≡ (leb (length stations) 512 && same)) (old : List Message) (room : length stations ≤ length old) (table : List Message) (loaded : table ≡ laid_over old list) where
      -- the verdict is that on the table's records
      judged : (v : Verdict) → list_verdict S.stations (take (length stations) table) budget (length log) ≡ v → verdict ≡ v
      judged v e =
          by_list ∙ ap (λ (b : Bool). ask b Messages (list_verdict S.stations list budget (length log))) (tests whole).1
          ∙ ap (λ (ms : List Message). list_verdict S.stations ms budget (length log)) (sym (lent whole old room table loaded)) ∙ e

      -- a list that is refused
      pub list_refused : (k : Refusal) → list_verdict S.stations (take (length stations) table) budget (length log) ≡ Err k
          → RunPromise S owners stations arrivals relatives lengths sent log budget (Err k) sent log
      list_refused k e = refused k (judged (Err k) e)

      -- a list that is granted is run, and its slots of sending are those of the records
      pub list_granted : list_verdict S.stations (take (length stations) table) budget (length log) ≡ granted
          → (outcome : Outcome) (ms' : List Message) (log' : List ℕ) → GrantedPromise S owners (take (length stations) table) log budget outcome ms' log'
          → (sent' : List ℕ) → sent' ≡ laid_over sent (map (λ m. m.sent) (ms' ++ drop (length stations) table))
          → RunPromise S owners stations arrivals relatives lengths sent log budget (Ok outcome) sent' log'
      list_granted e outcome ms' log' P sent' stored =
          record {
            read = Q.read ∙ sym (ap (λ (v : Verdict). reading_by v (ran_of S owners list budget)) granting);
            marked = stored ∙ slots whole old room table loaded ms' (ap length Q.left ∙ as_many whole) ∙ ap marks Q.left ∙ sym (ap (λ (v : Verdict). marks_by v (ran_of S owners list budget) sent) granting);
            logged = Q.logged ∙ sym (ap (λ (v : Verdict). log_by v (ran_of S owners list budget) log) granting);
          }
        where
          granting : verdict ≡ granted
          granting = judged granted e

          Q : GrantedPromise S owners list log budget outcome ms' log'
          Q = subst (λ (ms : List Message). GrantedPromise S owners ms log budget outcome ms' log') (lent whole old room table loaded) P
