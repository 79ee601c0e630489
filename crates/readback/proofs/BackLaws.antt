-- A row read back from its bytes.
use mathlib.Core.Path.{◌≡◌, refl, sym, ap, ◌∙◌}
use mathlib.Core.List.{List, [], ◌∷◌}
use Prim.Native.Nat.{ℕ, ◌+◌, ◌*◌, ◌<◌}
use native.Mathlib.Omega.{arith}
use lib.ListN.{get_or, take, drop}
use lib.Seq.{get_or-take, get_or-drop}
use Rattle.std.specs.Int.{w16, w32, from_le_bytes}
use Rattle.rows.specs.declared.Phase.{Phase}
use Rattle.rows.specs.declared.Channel.{Channel}
use Rattle.rows.specs.declared.Row.{Row}
use Rattle.rows.specs.Log.{row_bytes}
use Rattle.readback.specs.Back.{PhaseBack, StateBack}

abbrev made : ℕ → Phase → Channel → ℕ → ℕ → ℕ → ℕ → Row
made slot phase state first width message used =
    record { slot = slot; phase = phase; state = state; first = first; width = width; message = message; used = used }

-- the number of two bytes of a log, the low one first
abbrev pub pair : List ℕ → ℕ → ℕ
pair log at = get_or log at 0 + 256 * get_or log (at + 1) 0

-- what the code puts together: two bytes from place k on, and the first four
abbrev pub two_at : ℕ → List ℕ → ℕ
two_at k bytes = from_le_bytes w16 (get_or bytes k 0 ∷ get_or bytes (k + 1) 0 ∷ [])

abbrev pub four : List ℕ → ℕ
four bytes = from_le_bytes w32 (get_or bytes 0 0 ∷ get_or bytes 1 0 ∷ get_or bytes 2 0 ∷ get_or bytes 3 0 ∷ [])

-- the 16 bytes at place b of a log
module _ (log : List ℕ) (b : ℕ) where
  pub byte : (k : ℕ) → k < 16 → get_or (take 16 (drop b log)) k 0 ≡ get_or log (b + k) 0
  byte k h = get_or-take 16 (drop b log) k 0 h ∙ get_or-drop b log k 0

  pub two_bytes : (k : ℕ) → k + 1 < 16 → two_at k (take 16 (drop b log)) ≡ pair log (b + k)
  two_bytes k h =
      let place : b + k + 1 ≡ b + (k + 1) = omega arith in
      omega (arith, byte k (omega arith), byte (k + 1) h, ap (λ (x : ℕ). get_or log x 0) place)

  pub four_bytes : four (take 16 (drop b log)) ≡ pair log b + 65536 * pair log (b + 2)
  four_bytes =
      let first_place : b ≡ b + 0 = omega arith in
      let last_place : b + 2 + 1 ≡ b + 3 = omega arith in
      omega (
        arith,
        byte 0 (omega arith),
        byte 1 (omega arith),
        byte 2 (omega arith),
        byte 3 (omega arith),
        ap (λ (x : ℕ). get_or log x 0) first_place,
        ap (λ (x : ℕ). get_or log x 0) last_place,
      )

-- a row that stands anywhere in a log
module _ (log : List ℕ) (b : ℕ) (q : Row) (is : take 16 (drop b log) ≡ row_bytes q) where
  stands : (k : ℕ) → k < 16 → get_or log (b + k) 0 ≡ get_or (row_bytes q) k 0
  stands k h = sym (byte log b k h) ∙ ap (λ (l : List ℕ). get_or l k 0) is

  pair_stands : (k : ℕ) → k + 1 < 16 → pair log (b + k) ≡ get_or (row_bytes q) k 0 + 256 * get_or (row_bytes q) (k + 1) 0
  pair_stands k h =
      let place : b + k + 1 ≡ b + (k + 1) = omega arith in
      omega (arith, stands k (omega arith), stands (k + 1) h, ap (λ (x : ℕ). get_or log x 0) place)

  pub row_back : (slot : ℕ) (phase : Phase) (state : Channel) (first width message used : ℕ)
      → slot ≡ pair log b + 65536 * pair log (b + 2) → PhaseBack (get_or log (b + 4) 0) phase → StateBack (get_or log (b + 5) 0) state
      → first ≡ pair log (b + 6) → width ≡ pair log (b + 8) → message ≡ pair log (b + 10) → used ≡ pair log (b + 12)
      → made slot phase state first width message used ≡ q
  row_back slot phase state first width message used e₁ e₂ e₃ e₄ e₅ e₆ e₇ =
      let first_place : b ≡ b + 0 = omega arith in
      let s : slot ≡ q.slot = omega (arith, e₁, ap (pair log) first_place, pair_stands 0 (omega arith), pair_stands 2 (omega arith)) in
      let p : phase ≡ q.phase = e₂ q.phase (stands 4 (omega arith)) in
      let c : state ≡ q.state = e₃ q.state (stands 5 (omega arith)) in
      let f : first ≡ q.first = omega (arith, e₄, pair_stands 6 (omega arith)) in
      let w : width ≡ q.width = omega (arith, e₅, pair_stands 8 (omega arith)) in
      let m : message ≡ q.message = omega (arith, e₆, pair_stands 10 (omega arith)) in
      let u : used ≡ q.used = omega (arith, e₇, pair_stands 12 (omega arith)) in
      rw (s, p, c, f, w, m, u) refl

-- the bytes of a row by themselves
pub bytes_back : (bytes : List ℕ) (q : Row) → bytes ≡ row_bytes q
    → (slot : ℕ) (phase : Phase) (state : Channel) (first width message used : ℕ)
    → slot ≡ four bytes → PhaseBack (get_or bytes 4 0) phase → StateBack (get_or bytes 5 0) state
    → first ≡ two_at 6 bytes → width ≡ two_at 8 bytes → message ≡ two_at 10 bytes → used ≡ two_at 12 bytes
    → made slot phase state first width message used ≡ q
bytes_back bytes q is slot phase state first width message used e₁ e₂ e₃ e₄ e₅ e₆ e₇ =
    row_back bytes 0 q (ap (take 16) is) slot phase state first width message used
    (omega (arith, e₁)) e₂ e₃ (omega (arith, e₄)) (omega (arith, e₅)) (omega (arith, e₆)) (omega (arith, e₇))
