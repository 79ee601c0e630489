-- Bytes written over a buffer, one run behind the other, and rows as bytes.
use mathlib.Core.Path.{◌≡◌, refl, sym, ap, ◌∙◌}
use mathlib.Core.List.{List, [], ◌∷◌, ◌++◌, append_assoc, append-nil}
use Prim.Native.Nat.{ℕ, suc, ◌+◌, ◌*◌, ◌≤◌, ◌<◌}
use native.Mathlib.Nat.{add-zero}
use native.Mathlib.Numerals.{add-one}
use native.Mathlib.Omega.{arith}
use lib.ListN.{length, set, take, drop, length-append, length-drop, take-append-drop}
use lib.Seq.{length-take-le, set_split, append_snoc, take_at, drop_at, drop-drop}
use Rattle.rows.specs.declared.Row.{Row}
use Rattle.rows.specs.Log.{over, row_bytes, log_bytes}

-- ---- buffers

pub length_over : (d : List ℕ) (at : ℕ) (b : List ℕ) → at + length b ≤ length d → length (over d at b) ≡ length d
length_over d at b h =
    let t : length (take at d) ≡ at = length-take-le at d (omega arith) in
    omega (arith, length-append (take at d ++ b) (drop (at + length b) d), length-append (take at d) b, length-drop (at + length b) d)

-- nothing written
pub over_nil : (d : List ℕ) (at : ℕ) → d ≡ over d at []
over_nil d at =
    sym (ap (λ (l : List ℕ). l ++ drop (at + 0) d) (append-nil (take at d)) ∙ ap (λ (k : ℕ). take at d ++ drop k d) (add-zero at) ∙ take-append-drop at d)

-- one write behind another
pub over_over : (d : List ℕ) (at : ℕ) (b c : List ℕ) → at + length b + length c ≤ length d → over (over d at b) (at + length b) c ≡ over d at (b ++ c)
over_over d at b c h =
    let t : length (take at d) ≡ at = length-take-le at d (omega arith) in
    let front : List ℕ = take at d ++ b in
    let n : length front ≡ at + length b = omega (arith, length-append (take at d) b) in
    let sum : at + length b + length c ≡ at + length (b ++ c) = omega (arith, length-append b c) in
    let back : drop (at + length b + length c) (over d at b) ≡ drop (at + length (b ++ c)) d =
    sym (drop-drop (length c) (at + length b) (over d at b))
    ∙ ap (λ (l : List ℕ). drop (length c) l) (drop_at front (drop (at + length b) d) (at + length b) n)
    ∙ drop-drop (length c) (at + length b) d
    ∙ ap (λ (k : ℕ). drop k d) sum in
    ap (λ (l : List ℕ). (l ++ c) ++ drop (at + length b + length c) (over d at b)) (take_at front (drop (at + length b) d) (at + length b) n)
    ∙ ap (λ (l : List ℕ). l ++ drop (at + length b + length c) (over d at b)) (append_assoc (take at d) b c)
    ∙ ap (λ (l : List ℕ). (take at d ++ (b ++ c)) ++ l) back

-- one byte
pub set_over : (d : List ℕ) (at b : ℕ) → at < length d → set d at b ≡ over d at (b ∷ [])
set_over d at b h =
    set_split d at b h
    ∙ sym (append_snoc (take at d) b (drop (suc at) d))
    ∙ ap (λ (k : ℕ). take at d ++ (b ∷ []) ++ drop k d) (sym (add-one at))

-- ---- rows

pub length_log_bytes : (rs : List Row) → length (log_bytes rs) ≡ 16 * length rs
length_log_bytes [] = refl
length_log_bytes (r ∷ rs) = omega (arith, length-append (row_bytes r) (log_bytes rs), length_log_bytes rs)

log_bytes_append : (rs qs : List Row) → log_bytes (rs ++ qs) ≡ log_bytes rs ++ log_bytes qs
log_bytes_append [] qs = refl
log_bytes_append (r ∷ rs) qs = ap (λ (l : List ℕ). row_bytes r ++ l) (log_bytes_append rs qs) ∙ sym (append_assoc (row_bytes r) (log_bytes rs) (log_bytes qs))

-- no row written
pub log_none : (d : List ℕ) (at : ℕ) → d ≡ over d at (log_bytes [])
log_none d at = over_nil d at

-- one row
pub log_one : (d d₁ : List ℕ) (at : ℕ) (r : Row) → d₁ ≡ over d at (row_bytes r) → d₁ ≡ over d at (log_bytes (r ∷ []))
log_one d d₁ at r e = e ∙ ap (over d at) (sym (append-nil (row_bytes r)))

-- rows behind rows
pub log_then : (d d₁ d₂ : List ℕ) (n k : ℕ) (rs qs : List Row) → k ≡ n + length rs → 16 * (k + length qs) ≤ length d
    → d₁ ≡ over d (16 * n) (log_bytes rs) → d₂ ≡ over d₁ (16 * k) (log_bytes qs) → d₂ ≡ over d (16 * n) (log_bytes (rs ++ qs))
log_then d d₁ d₂ n k rs qs at room e f =
    let place : 16 * k ≡ 16 * n + length (log_bytes rs) = omega (arith, length_log_bytes rs) in
    f ∙ ap (λ (x : List ℕ). over x (16 * k) (log_bytes qs)) e
    ∙ ap (λ (x : ℕ). over (over d (16 * n) (log_bytes rs)) x (log_bytes qs)) place
    ∙ over_over d (16 * n) (log_bytes rs) (log_bytes qs) (omega (arith, length_log_bytes rs, length_log_bytes qs))
    ∙ ap (over d (16 * n)) (sym (log_bytes_append rs qs))
