-- A run, one event more at a time; and its loop: the rows so far, and the run that is still ahead.
use mathlib.Core.Path.{◌≡◌, refl, sym, ap, ◌∙◌, subst}
use mathlib.Core.Bool.{Bool, true, false}
use mathlib.Core.List.{List, [], ◌∷◌, ◌++◌, append_assoc, append-nil}
use Prim.Native.Nat.{ℕ, zero, suc, ◌+◌, ◌*◌, ◌-◌, ◌≤◌, ◌<◌}
use native.Mathlib.Omega.{arith}
use lib.ListN.{length, length-append}
use Rattle.rows.specs.declared.Row.{Row}
use Rattle.rows.specs.Log.{over, row_bytes, log_bytes}
use Rattle.rows.proofs.LogLaws.{log_one, log_then}
use Rattle.trees.specs.Search.{lead}
use Rattle.messages.specs.Message.{all_sent}
use Rattle.phases.specs.declared.Shop.{Shop}
use Rattle.wire.specs.Run.{World, world_after, event_in, run}

-- ---- one event more, or none

module _ (S : Shop) (table : List ℕ) where
  pub run_more : (k : ℕ) (W : World) → all_sent W.messages ≡ false
      → run S table (suc k) W ≡ lead ((event_in S table W).row ∷ []) (run S table k (world_after (event_in S table W)))
  run_more k W e = rw (e, run) refl

  pub run_done : (k : ℕ) (W : World) → all_sent W.messages ≡ true → run S table k W ≡ ([], W)
  run_done zero W e = refl
  run_done (suc k) W e = rw (e, run) refl

  -- WHAT HOLDS OF EVERY RUN: it holds of no event, and of one event more in front
  pub run_by : (P : ℕ → World → List Row → World → Type 0)
      → ((k : ℕ) (W : World) → P k W [] W)
      → ((k : ℕ) (W last : World) (rows : List Row) → P k (world_after (event_in S table W)) rows last
      → P (suc k) W ((event_in S table W).row ∷ rows) last)
      → (k : ℕ) (W : World) → P k W (run S table k W).0 (run S table k W).1
  run_by P none more zero W = none 0 W
  run_by P none more (suc k) W = go (all_sent W.messages) refl (run_by P none more k (world_after (event_in S table W)))
    where
      next : List Row × World
      next = run S table k (world_after (event_in S table W))

      Here : List Row × World → Type 0
      Here r = P (suc k) W r.0 r.1

      go : (b : Bool) → all_sent W.messages ≡ b → P k (world_after (event_in S table W)) next.0 next.1
          → Here (run S table (suc k) W)
      go true e h = subst Here (sym (run_done (suc k) W e)) (none (suc k) W)
      go false e h = subst Here (sym (run_more k W e)) (more k W next.1 next.0 h)

  -- j events, and k more from there
  pub run_split : (j k : ℕ) (W : World)
      → run S table (j + k) W ≡ lead (run S table j W).0 (run S table k (run S table j W).1)
  run_split zero k W = let none : 0 + k ≡ k = omega arith in ap (λ (n : ℕ). run S table n W) none
  run_split (suc j) k W =
      let one : suc j + k ≡ suc (j + k) = omega arith in
      ap (λ (n : ℕ). run S table n W) one
      ∙ go (all_sent W.messages) refl (run_split j k (world_after (event_in S table W)))
    where
      next : World
      next = world_after (event_in S table W)

      go : (b : Bool) → all_sent W.messages ≡ b
          → run S table (j + k) next ≡ lead (run S table j next).0 (run S table k (run S table j next).1)
          → run S table (suc (j + k)) W ≡ lead (run S table (suc j) W).0 (run S table k (run S table (suc j) W).1)
      go true e h =
          run_done (suc (j + k)) W e
          ∙ sym (ap (λ (r : List Row × World). lead r.0 (run S table k r.1)) (run_done (suc j) W e)
          ∙ run_done k W e)
      go false e h =
          run_more (j + k) W e ∙ ap (lead ((event_in S table W).row ∷ [])) h
          ∙ sym (ap (λ (r : List Row × World). lead r.0 (run S table k r.1)) (run_more j W e))

-- ---- the loop

-- after so many events, in the world W
pub record Running (S : Shop) (table : List ℕ) (W₀ : World) (budget : ℕ) (log₀ : List ℕ) (W : World) (events : ℕ) (log : List ℕ) : Type 0 where
  pub rows : List Row
  pub counted : events ≡ length rows
  pub logged : log ≡ over log₀ 0 (log_bytes rows)
  pub ahead : (k : ℕ) → events + k ≡ budget → run S table budget W₀ ≡ lead rows (run S table k W)

module _ (S : Shop) (table : List ℕ) (W₀ : World) (budget : ℕ) (log₀ : List ℕ) (W : World) (events : ℕ) (log : List ℕ) (r : Running S table W₀ budget log₀ W events log) where
  pub running_next : all_sent W.messages ≡ false → events < budget → 16 * budget ≤ length log₀ → (log' : List ℕ)
      → log' ≡ over log (16 * events) (row_bytes (event_in S table W).row) → Running S table W₀ budget log₀ (world_after (event_in S table W)) (events + 1) log'
  running_next unsent more room log' w =
      let row : Row = (event_in S table W).row in
      record {
        rows = r.rows ++ (row ∷ []);
        counted = omega (arith, r.counted, length-append r.rows (row ∷ []));
        logged = log_then log₀ log log' 0 events r.rows (row ∷ []) (omega (arith, r.counted)) (omega arith) r.logged (log_one log log' (16 * events) row w);
        ahead = λ k e.
            r.ahead (suc k) (omega arith) ∙ ap (lead r.rows) (run_more S table k W unsent)
            ∙ ap (λ (l : List Row). (l, (run S table k (world_after (event_in S table W))).1)) (sym (append_assoc r.rows (row ∷ []) (run S table k (world_after (event_in S table W))).0));
      }

  -- the run ends here
  ends : (k : ℕ) → events + k ≡ budget → run S table k W ≡ ([], W) → run S table budget W₀ ≡ (r.rows, W)
  ends k e f = r.ahead k e ∙ ap (lead r.rows) f ∙ ap (λ (l : List Row). (l, W)) (append-nil r.rows)

  pub running_done : events ≤ budget → all_sent W.messages ≡ true → run S table budget W₀ ≡ (r.rows, W)
  running_done h e = ends (budget - events) (omega arith) (run_done S table (budget - events) W e)

  pub running_spent : events ≡ budget → run S table budget W₀ ≡ (r.rows, W)
  running_spent e = ends 0 (omega arith) refl
