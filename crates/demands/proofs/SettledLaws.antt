-- While a static search goes on: whoever still has an index ahead contends as at the collision.
use mathlib.Core.Path.{◌≡◌, refl, sym, ap, ◌∙◌}
use mathlib.Core.Bool.{Bool, true, false, ◌&&◌}
use mathlib.Core.List.{List, map}
use Prim.Native.Nat.{ℕ, zero, suc, ◌+◌, ◌*◌, ◌≤◌, ◌<◌}
use native.Mathlib.Nat.{zero-mul, one-mul}
use native.Mathlib.Omega.{arith}
use lib.Dec.{ltb, eqb}
use lib.ListN.{length, get_or, set, drop}
use lib.Seq.{get_or-set_other}
use borrow.Author.Tests.{ltb-true, eqb-true, eqb-false}
use Rattle.refusals.proofs.Verdicts.{both}
use Rattle.trees.specs.Search.{ones, active_in}
use Rattle.trees.proofs.LeafLaws.{part, length_active}
use Rattle.messages.specs.declared.Message.{Message}
use Rattle.messages.specs.Message.{blank, deadline_of, first_message, sent_at}
use Rattle.messages.proofs.OrderLaws.{candidate, this_station, other_station}
use Rattle.messages.proofs.KeptLaws.{bare, bare_set, bare_station, bare_deadline, waits_kept, first_kept}
use Rattle.phases.specs.declared.Shop.{Shop}
use Rattle.contention.specs.Contenders.{owns, enters, entry, contenders}
use Rattle.contention.proofs.ContendLaws.{adds, Entering, entering_waits, contenders_number}
use Rattle.contention.proofs.ContendLaws.{entry_barred, entry_alike, entry_few}
use Rattle.wire.specs.Run.{World}
use Rattle.demands.specs.Claims.{times_in, OneIndexEach, NoneArrives, contends, contending, active_by}
use Rattle.demands.proofs.IndexLaws.{Front, sum_alike, times_split, ahead_split, ones_owners, part_map}

-- message j of a world
abbrev message_in : World → ℕ → Message
message_in W j = get_or W.messages j blank

-- the deadline of message j
abbrev deadline_in : World → ℕ → ℕ
deadline_in W j = deadline_of (message_in W j)

-- a station's first message
abbrev first_in : World → ℕ → ℕ
first_in W s = first_message W.messages W.state.slot s

-- the collision behind which a static search goes on: whoever passes a test of station and deadline contends
pub record Collided (S : Shop) (table owners : List ℕ) (fit : ℕ → ℕ → Bool) (was : World) : Type 0 where
  pub one : OneIndexEach S owners
  pub front : Front table owners
  pub free : (s d : ℕ) → enters S table was.state s d ≡ fit s d

module _ {S : Shop} {table owners : List ℕ} {fit : ℕ → ℕ → Bool} {was : World}
    (c : Collided S table owners fit was) where
  -- no station owns two indices from a on
  ahead_few : (s a : ℕ) → s < S.stations → times_in (drop a owners) s ≤ 1
  ahead_few s a h = omega (arith, times_split owners s a, c.one s h)

  -- whoever owns an index from a on has sent nothing since
  pub record Settled (a : ℕ) (now : World) : Type 0 where
    pub kept : map bare now.messages ≡ map bare was.messages
    pub marks : (j : ℕ) → 0 < times_in (drop a owners) (message_in was j).station
        → (message_in now j).sent ≡ (message_in was j).sent
    pub later : was.state.slot ≤ now.state.slot

  -- at a later slot with the same messages
  pub settled_later : (a : ℕ) (now next : World) → next.messages ≡ now.messages
      → now.state.slot ≤ next.state.slot → Settled a now → Settled a next
  settled_later a now next e l settled = record {
    kept = ap (map bare) e ∙ settled.kept;
    marks = λ j h. rw e (settled.marks j h);
    later = omega (arith, settled.later);
  }

  -- from a later index on
  pub settled_behind : (a w : ℕ) (now : World) → Settled a now → Settled (a + w) now
  settled_behind a w now settled = record {
    kept = settled.kept;
    marks = λ j h. settled.marks j (omega (arith, ahead_split owners (message_in was j).station a w));
    later = settled.later;
  }

  -- a static subtree of w indices from a on
  module _ (a w : ℕ) (inside : a + w ≤ length owners) (now : World) (settled : Settled a now)
      (static : (s d : ℕ) → enters S table now.state s d ≡ (owns table s a w && fit s d)) where
    module _ (quiet : NoneArrives was.messages was.state.slot now.state.slot) where
      -- a message of a station with an index ahead waits as it did
      waits_settled : (s j : ℕ) → 0 < times_in (drop a owners) s → j < length was.messages
          → candidate now.messages now.state.slot s j ≡ candidate was.messages was.state.slot s j
      waits_settled s j h l = go (eqb (message_in was j).station s) refl
        where
          still : (message_in now j).station ≡ (message_in was j).station
          still = bare_station was.messages now.messages settled.kept j

          go : (b : Bool) → eqb (message_in was j).station s ≡ b
              → candidate now.messages now.state.slot s j ≡ candidate was.messages was.state.slot s j
          go true e =
              let is : (message_in was j).station ≡ s = eqb-true (message_in was j).station s e in
              this_station (message_in now j) now.state.slot s (still ∙ is)
              ∙ waits_kept was.messages now.messages settled.kept j was.state.slot now.state.slot
              settled.later (settled.marks j (rw is h)) (quiet j l)
              ∙ sym (this_station (message_in was j) was.state.slot s is)
          go false e =
              let other : (message_in was j).station ≡ s → ⊥ = eqb-false (message_in was j).station s e in
              other_station (message_in now j) now.state.slot s (λ q. other (sym still ∙ q))
              ∙ sym (other_station (message_in was j) was.state.slot s other)

      -- so the station's first message is the same
      first_settled : (s : ℕ) → 0 < times_in (drop a owners) s → first_in now s ≡ first_in was s
      first_settled s h =
          first_kept was.messages now.messages settled.kept was.state.slot now.state.slot s
          (λ j l. waits_settled s j h l)

      -- may station s enter with message i, by how many indices of the subtree it owns
      enters_settled : (s x i : ℕ) → times_in (part owners a w) s ≡ x
          → enters S table now.state s (deadline_in now i) ≡ (ltb 0 x && fit s (deadline_in was i))
      enters_settled s x i e =
          static s (deadline_in now i)
          ∙ ap (λ (b : Bool). b && fit s (deadline_in now i)) (c.front s a w inside ∙ ap (ltb 0) e)
          ∙ ap (λ (d : ℕ). ltb 0 x && fit s d) (bare_deadline was.messages now.messages settled.kept i)

      -- what a station adds to the contenders
      adds_settled : (s : ℕ) → s < S.stations
          → length (adds S table now.messages now.state s)
          ≡ times_in (part owners a w) s * contends S table was s
      adds_settled s h = go (times_in (part owners a w) s) refl
        where
          go : (x : ℕ) → times_in (part owners a w) s ≡ x
              → length (adds S table now.messages now.state s) ≡ x * contends S table was s
          go zero e =
              let i : ℕ = first_in now s in
              ap length (entry_barred S table now.messages now.state s i (enters_settled s 0 i e))
              ∙ sym (zero-mul (contends S table was s))
          go (suc zero) e =
              let i : ℕ = first_in was s in
              ap (λ (k : ℕ). length (entry S table now.messages now.state s k))
              (first_settled s (omega (arith, ahead_split owners s a w)))
              ∙ ap length (entry_alike S table was.messages now.messages was.state now.state s i
              (enters_settled s 1 i e ∙ sym (c.free s (deadline_in was i))))
              ∙ sym (one-mul (contends S table was s))
          go (suc (suc x)) e = absurd (omega (arith, ahead_split owners s a w, ahead_few s a h))

      -- AS MANY CONTEND as leaves are active in the subtree
      pub contenders_settled : length (contenders S table now.messages now.state)
          ≡ length (active_in (contending S table owners was) a w)
      contenders_settled =
          let f : ℕ → ℕ = contends S table was in
          contenders_number S table now.messages now.state
          ∙ sum_alike (λ s. length (adds S table now.messages now.state s))
          (λ s. times_in (part owners a w) s * f s) S.stations adds_settled
          ∙ sym (ones_owners S.stations f (λ s. entry_few S table was.messages was.state s (first_in was s))
          (part owners a w))
          ∙ ap ones (sym (part_map (active_by S.stations f) owners a w))
          ∙ sym (length_active a (part (contending S table owners was) a w))

    -- one was sent, and its station has no index behind the subtree
    pub settled_busy : (next : World) (i slot : ℕ) → Entering S table now.messages now.state S.stations i
        → next.messages ≡ set now.messages i (sent_at slot (message_in now i))
        → now.state.slot ≤ next.state.slot → Settled (a + w) next
    settled_busy next i slot sends e l =
        let s : ℕ = sends.station in
        let waiting = entering_waits S table now.messages now.state S.stations i sends in
        let d : ℕ = deadline_in now i in
        let owner = both (owns table s a w) (fit s d) (sym (static s d) ∙ sends.may) in
        let here : 0 < times_in (part owners a w) s =
        ltb-true 0 (times_in (part owners a w) s) (sym (c.front s a w inside) ∙ owner.0) in
        record {
          kept = ap (map bare) e ∙ bare_set now.messages i slot ∙ settled.kept;
          marks = λ j h.
              let other : j ≡ i → ⊥ = λ q.
              let its : (message_in was j).station ≡ s =
              sym (bare_station was.messages now.messages settled.kept j)
              ∙ ap (λ (x : ℕ). (message_in now x).station) q ∙ waiting.1 in
              let behind : 0 < times_in (drop (a + w) owners) s = rw its at h in
              omega (arith, ahead_split owners s a w, ahead_few s a sends.below) in
              rw (e, get_or-set_other now.messages i j (sent_at slot (message_in now i)) blank other)
              (settled.marks j (omega (arith, ahead_split owners (message_in was j).station a w)));
          later = omega (arith, settled.later);
        }
