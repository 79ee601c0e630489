-- The rows of every run: their slots, and the messages that they send.
use mathlib.Core.Path.{◌≡◌, refl, sym, ap, ◌∙◌, subst}
use mathlib.Core.Bool.{Bool, true, false}
use mathlib.Core.List.{List, [], ◌∷◌, map}
use mathlib.Core.Logic.{◌⊎◌, inl, inr, ⊎_elim}
use Prim.Native.Nat.{ℕ, zero, suc, ◌+◌, ◌*◌, ◌≤◌, ◌<◌}
use native.Mathlib.Omega.{arith}
use lib.Dec.{leb, eqb}
use lib.ListN.{length, get_or, set, length-map, get_or-eq_default}
use lib.Seq.{get_or-set_same, get_or-set_other}
use borrow.Author.Tests.{eqb-true, eqb-false}
use Rattle.refusals.proofs.Verdicts.{both}
use Rattle.refusals.specs.Numbers.{granted}
use Rattle.rows.specs.declared.Row.{Row}
use Rattle.rows.specs.declared.Phase.{Phase}
use Rattle.rows.specs.declared.Phase.TheVariants.{Free as FreePhase, Time as TimePhase}
use Rattle.rows.specs.declared.Phase.TheVariants.{Static as StaticPhase, Bare as BarePhase}
use Rattle.rows.specs.declared.Channel.{Channel}
use Rattle.rows.specs.declared.Channel.TheVariants.{Silence, Busy, Collision}
use Rattle.trees.specs.Search.{sent_by, sent}
use Rattle.trees.proofs.Powers.{le_or_lt}
use Rattle.messages.specs.declared.Message.{Message}
use Rattle.messages.specs.Message.{unsent, blank, sent_at, fresh}
use Rattle.messages.proofs.KeptLaws.{bare, bare_fresh, bare_length, bare_at}
use Rattle.messages.proofs.ListLaws.{fresh_at}
use Rattle.phases.specs.declared.Shop.{Shop}
use Rattle.phases.specs.declared.State.{State}
use Rattle.phases.proofs.StandLaws.{after_slot}
use Rattle.contention.specs.Contenders.{contenders, last_of}
use Rattle.contention.proofs.ContendLaws.{contenders_messages}
use Rattle.events.specs.Event.{Event, channel_of, used_by, event_on, event}
use Rattle.events.proofs.EventLaws.{used_few, bare_event}
use Rattle.inputs.specs.Inputs.{all_fit, table_of, run_verdict}
use Rattle.inputs.proofs.GrantLaws.{passed, passed_sound, timed_lasting}
use Rattle.wire.specs.Run.{World, event_in, start, run, is_sent}
use Rattle.wire.proofs.CountLaws.{not_sent, was_sent}
use Rattle.wire.proofs.RunLaws.{run_by}
use Rattle.wire.proofs.BudgetLaws.{rows_few}
use Rattle.wire.proofs.KeptLaws.{same_records}
use Rattle.demands.specs.Claims.{times_in, static_rows, if_static, search_from, Quiet}
use Rattle.demands.specs.Rows.{OneBehind, end_of, NoneUntil, Told, RowsTell}
use Rattle.demands.proofs.IndexLaws.{bit, times_cons}
use Rattle.demands.proofs.TreeLaws.{run_in_tree}

-- each message takes a slot at least, and 1,000 at most
pub record Lasting (ms : List Message) : Type 0 where
  pub some : (i : ℕ) → i < length ms → 1 ≤ (get_or ms i blank).length
  pub short : (i : ℕ) → (get_or ms i blank).length ≤ 1000

-- the same records last as long
pub lasting_same : (ms ns : List Message) → map bare ns ≡ map bare ms → Lasting ms → Lasting ns
lasting_same ms ns same l = record {
  some = λ i h. rw (still i) (l.some i (omega (arith, bare_length ms ns same)));
  short = λ i. rw (still i) (l.short i);
}
  where
    still : (i : ℕ) → (get_or ns i blank).length ≡ (get_or ms i blank).length
    still i = ap (λ (m : Message). m.length) (bare_at ms ns same i)

-- ---- one event

-- neither silence nor a collision is a sending
silence_other : Silence ≡ Busy → ⊥
silence_other e = cc

collision_other : Collision ≡ Busy → ⊥
collision_other e = cc

-- where the row r is written in the slot the messages ms become ns: nothing is sent, or a message that was unsent
abbrev Sends : ℕ → Row → List Message → List Message → Type 0
Sends slot r ms ns =
    ((r.state ≡ Busy → ⊥) × (ns ≡ ms))
    ⊎ ((r.state ≡ Busy) × (r.message < length ms) × ((get_or ms r.message blank).sent ≡ unsent)
    × (ns ≡ set ms r.message (sent_at slot (get_or ms r.message blank))))

module _ (S : Shop) (table : List ℕ) (ms : List Message) (σ : State) where
  -- the last contender, where there is one
  abbrev last : ℕ
  last = last_of (contenders S table ms σ)

  -- what an event of n contenders sends
  by_number : (n used : ℕ) → length (contenders S table ms σ) ≡ n
      → Sends σ.slot (event_on S ms σ (channel_of n) last used).row ms
      (event_on S ms σ (channel_of n) last used).messages
  by_number zero used e = inl (silence_other, refl)
  by_number (suc zero) used e =
      let w = contenders_messages S table ms σ (omega arith) in
      inr (refl, w.0, eqb-true _ _ (both (leb (get_or ms last blank).arrival σ.slot) _ w.1).1, refl)
  by_number (suc (suc n)) used e = inl (collision_other, refl)

  event_sends : Sends σ.slot (event S table ms σ).row ms (event S table ms σ).messages
  event_sends =
      let n : ℕ = length (contenders S table ms σ) in
      by_number n (used_by (channel_of n) ms last) refl

  -- the next event starts where this one ends
  event_slot : (event S table ms σ).state.slot ≡ σ.slot + (event S table ms σ).row.used
  event_slot = after_slot S (σ.slot + (event S table ms σ).row.used) σ (event S table ms σ).row.state

  event_used : Lasting ms → (1 ≤ (event S table ms σ).row.used) × ((event S table ms σ).row.used ≤ 1000)
  event_used l =
      let n : ℕ = length (contenders S table ms σ) in
      (go n refl, used_few n last ms (λ e. l.short last))
    where
      go : (n : ℕ) → length (contenders S table ms σ) ≡ n → 1 ≤ used_by (channel_of n) ms last
      go zero e = omega arith
      go (suc zero) e = l.some last (contenders_messages S table ms σ (omega arith)).0
      go (suc (suc n)) e = omega arith

-- ---- what an event of the row r, in the slot, does to the messages

-- rows that send nothing
sent_other : (r : Row) (rows : List Row) → (r.state ≡ Busy → ⊥) → sent (r ∷ rows) ≡ sent rows
sent_other r rows h = go r.state h
  where
    go : (c : Channel) → (c ≡ Busy → ⊥) → sent_by c r.message (sent rows) ≡ sent rows
    go Silence f = refl
    go Busy f = absurd (f refl)
    go Collision f = refl

module _ (slot : ℕ) (early : slot < unsent) (r : Row) (ms ns : List Message) where
  -- a message that is sent stays as it is
  sends_stay : Sends slot r ms ns → (i : ℕ) → ((get_or ms i blank).sent ≡ unsent → ⊥)
      → (get_or ns i blank).sent ≡ (get_or ms i blank).sent
  sends_stay (inl h) i f = ap (λ (l : List Message). (get_or l i blank).sent) h.1
  sends_stay (inr h) i f =
      let other : i ≡ r.message → ⊥ = λ q. f (ap (λ (j : ℕ). (get_or ms j blank).sent) q ∙ h.2) in
      ap (λ (l : List Message). (get_or l i blank).sent) h.3
      ∙ ap (λ (m : Message). m.sent) (get_or-set_other ms r.message i _ blank other)

  -- the message of the row has the slot
  sends_mark : Sends slot r ms ns → r.state ≡ Busy → (get_or ns r.message blank).sent ≡ slot
  sends_mark (inl h) busy = absurd (h.0 busy)
  sends_mark (inr h) busy =
      ap (λ (l : List Message). (get_or l r.message blank).sent) h.3
      ∙ ap (λ (m : Message). m.sent) (get_or-set_same ms r.message _ blank h.1)

  -- one more is sent, or none
  sends_count : Sends slot r ms ns → (rows : List Row) (i : ℕ)
      → times_in (sent (r ∷ rows)) i + is_sent (get_or ms i blank) ≡ times_in (sent rows) i + is_sent (get_or ns i blank)
  sends_count (inl h) rows i = rw (sent_other r rows h.0, h.1) refl
  sends_count (inr h) rows i = go (eqb r.message i) refl
    where
      -- the row's message in front
      counted : (b : Bool) → eqb r.message i ≡ b → times_in (sent (r ∷ rows)) i ≡ bit b + times_in (sent rows) i
      counted b e =
          ap (λ (c : Channel). times_in (sent_by c r.message (sent rows)) i) h.0
          ∙ times_cons r.message (sent rows) i ∙ ap (λ (x : Bool). bit x + times_in (sent rows) i) e

      go : (b : Bool) → eqb r.message i ≡ b
          → times_in (sent (r ∷ rows)) i + is_sent (get_or ms i blank) ≡ times_in (sent rows) i + is_sent (get_or ns i blank)
      go true e =
          let is : r.message ≡ i = eqb-true r.message i e in
          let unmarked : (get_or ms i blank).sent ≡ unsent = subst (λ (j : ℕ). (get_or ms j blank).sent ≡ unsent) is h.2 in
          let now : (get_or ns i blank).sent ≡ slot =
          subst (λ (j : ℕ). (get_or ns j blank).sent ≡ slot) is (sends_mark (inr h) h.0) in
          omega (
            arith,
            counted true e,
            not_sent (get_or ms i blank) unmarked,
            was_sent (get_or ns i blank) (λ q. let k : slot ≡ unsent = sym now ∙ q in omega arith),
          )
      go false e =
          let m : Message = sent_at slot (get_or ms r.message blank) in
          let same : get_or ns i blank ≡ get_or ms i blank =
          ap (λ (l : List Message). get_or l i blank) h.3
          ∙ get_or-set_other ms r.message i m blank (λ q. eqb-false r.message i e (sym q)) in
          omega (arith, counted false e, ap is_sent same)

-- ---- every run

-- each row starts where the one before it ended, from any world on
pub behind_from : (S : Shop) (table : List ℕ) (k : ℕ) (W : World) → Lasting W.messages
    → OneBehind W.state.slot (run S table k W).0
behind_from S table =
    run_by S table (λ k W rows last. Lasting W.messages → OneBehind W.state.slot rows)
    (λ k W l. tt)
    (λ k W last rows ih l.
    let E : Event = event_in S table W in
    let next : E.state.slot ≡ W.state.slot + E.row.used = event_slot S table W.messages W.state in
    let same = bare_event S table W.messages W.state in (
      refl,
      (event_used S table W.messages W.state l).0,
      subst (λ (slot : ℕ). OneBehind slot rows) next (ih (lasting_same W.messages E.messages same l)),
    ))

-- what the rows tell of the worlds before and after them
record Telling (W : World) (rows : List Row) (last : World) : Type 0 where
  pub ends : last.state.slot ≡ end_of W.state.slot rows
  pub counted : (i : ℕ)
      → times_in (sent rows) i + is_sent (get_or W.messages i blank) ≡ is_sent (get_or last.messages i blank)
  pub stay : (i : ℕ) → ((get_or W.messages i blank).sent ≡ unsent → ⊥)
      → (get_or last.messages i blank).sent ≡ (get_or W.messages i blank).sent
  pub told : Told last.messages rows

telling_none : (W : World) → Telling W [] W
telling_none W = record { ends = refl; counted = λ i. omega arith; stay = λ i f. refl; told = tt }

-- where no slot comes near the mark of an unsent message
run_tells : (S : Shop) (table : List ℕ) (k : ℕ) (W : World) → Lasting W.messages → W.state.slot + 1000 * k < unsent
    → Telling W (run S table k W).0 (run S table k W).1
run_tells S table =
    run_by S table (λ k W rows last. Lasting W.messages → W.state.slot + 1000 * k < unsent → Telling W rows last)
    (λ k W l h. telling_none W)
    (λ k W last rows ih l h.
    let E : Event = event_in S table W in
    let used = event_used S table W.messages W.state l in
    let next : E.state.slot ≡ W.state.slot + E.row.used = event_slot S table W.messages W.state in
    let sends : Sends W.state.slot E.row W.messages E.messages =
    event_sends S table W.messages W.state in
    let early : W.state.slot < unsent = omega arith in
    let same = bare_event S table W.messages W.state in
    let t = ih (lasting_same W.messages E.messages same l) (omega (arith, used.1)) in
    let stays = sends_stay W.state.slot early E.row W.messages E.messages sends in
    let marks = sends_mark W.state.slot early E.row W.messages E.messages sends in
    record {
      ends = t.ends ∙ ap (λ (s : ℕ). end_of s rows) next;
      counted = λ i.
          sends_count W.state.slot early E.row W.messages E.messages sends rows i ∙ t.counted i;
      stay = λ i f. t.stay i (λ q. f (sym (stays i f) ∙ q)) ∙ stays i f;
      told = (
        λ busy.
            t.stay E.row.message (λ q. let k : W.state.slot ≡ unsent = sym (marks busy) ∙ q in omega arith)
            ∙ marks busy,
        t.told,
      );
    })

-- messages that fit last
pub lasting_fit : (z : ℕ) (ms : List Message) → all_fit z ms ≡ true → Lasting ms
lasting_fit z ms e = record {
  some = λ i h. (timed_lasting z ms e i h).1;
  short = λ i.
      ⊎_elim
      (λ out. omega (arith, ap (λ (m : Message). m.length) (get_or-eq_default ms blank {n = i} out)))
      (λ inside. (timed_lasting z ms e i inside).0.short)
      (le_or_lt (length ms) i);
}

module _ (S : Shop) (table : List ℕ) (k : ℕ) (ms : List Message)
    (t : Telling (start ms) (run S table k (start ms)).0 (run S table k (start ms)).1) where
  -- a message of the list is sent as often as it is marked
  start_once : (i : ℕ) → i < length ms
      → times_in (sent (run S table k (start ms)).0) i ≡ is_sent (get_or (run S table k (start ms)).1.messages i blank)
  start_once i h =
      let unmarked : (get_or (fresh ms) i blank).sent ≡ unsent = ap (λ (m : Message). m.sent) (fresh_at ms i h) in
      omega (arith, t.counted i, not_sent (get_or (fresh ms) i blank) unmarked)

  -- nothing else is sent
  start_no_other : (i : ℕ) → length ms ≤ i → times_in (sent (run S table k (start ms)).0) i ≡ 0
  start_no_other i h =
      let after : List Message = (run S table k (start ms)).1.messages in
      let long : length after ≡ length ms = bare_length ms after (sym (same_records S table k ms)) in
      let before : get_or (fresh ms) i blank ≡ blank =
      get_or-eq_default (fresh ms) blank {n = i} (omega (arith, length-map ms (sent_at unsent))) in
      let behind : get_or after i blank ≡ blank = get_or-eq_default after blank {n = i} (omega arith) in
      omega (arith, t.counted i, ap is_sent before, ap is_sent behind)

-- THE ROWS OF EVERY GRANTED RUN, at each number of events up to its budget
pub rows_tell : (S : Shop) (owners : List ℕ) (whole : Bool) (ms : List Message) (budget room : ℕ)
    → run_verdict S owners whole ms budget room ≡ granted → (k : ℕ) → k ≤ budget → RowsTell S owners ms k
rows_tell S owners whole ms budget room granted k h =
    let p = passed S owners whole ms budget room granted in
    let lasting = lasting_same ms (fresh ms) (bare_fresh ms) (lasting_fit S.stations ms p.fit) in
    let t = run_tells S (table_of owners) k (start ms) lasting (omega (arith, p.few)) in
    record {
      few = rows_few S (table_of owners) k (start ms);
      behind = behind_from S (table_of owners) k (start ms) lasting;
      ends = t.ends;
      once = start_once S (table_of owners) k ms t;
      no_other = start_no_other S (table_of owners) k ms t;
      told = t.told;
      placed = run_in_tree S (passed_sound S owners whole ms budget room p) (table_of owners) k (start ms) tt tt;
    }

-- ---- a search in which nothing arrives

end_later : (slot : ℕ) (rows : List Row) → slot ≤ end_of slot rows
end_later slot [] = omega arith
end_later slot (r ∷ rows) = omega (arith, end_later (slot + r.used) rows)

-- what arrives at or after the rows' end arrives at none of them
quiet_rows : (ms : List Message) (from slot : ℕ) (rows : List Row) → OneBehind slot rows
    → NoneUntil ms from (end_of slot rows) → Quiet ms from rows
quiet_rows ms from slot [] b h = tt
quiet_rows ms from slot (r ∷ rows) b h = (
  λ i l f. omega (arith, h i l f, end_later (slot + r.used) rows, b.0, b.1),
  quiet_rows ms from (slot + r.used) rows b.2 h,
)

-- static rows at the front stand one behind the other as well
static_behind : (slot : ℕ) (rows : List Row) → OneBehind slot rows → OneBehind slot (static_rows rows)
static_behind slot [] b = tt
static_behind slot (r ∷ rows) b = go r.phase (static_behind (slot + r.used) rows b.2)
  where
    go : (φ : Phase) → OneBehind (slot + r.used) (static_rows rows) → OneBehind slot (if_static φ r (static_rows rows))
    go FreePhase h = tt
    go TimePhase h = tt
    go StaticPhase h = (b.0, b.1, h)
    go BarePhase h = tt

search_behind : (slot : ℕ) (rows : List Row) → OneBehind slot rows → OneBehind slot (search_from rows)
search_behind slot [] b = tt
search_behind slot (r ∷ rows) b = (b.0, b.1, static_behind (slot + r.used) rows b.2)

-- NOTHING ARRIVES from the collision's slot until the search's end: then the search is quiet
pub quiet_until : (ms : List Message) (slot : ℕ) (rows : List Row) → OneBehind slot rows
    → NoneUntil ms slot (end_of slot (search_from rows)) → Quiet ms slot (search_from rows)
quiet_until ms slot rows b h = quiet_rows ms slot slot (search_from rows) (search_behind slot rows b) h
