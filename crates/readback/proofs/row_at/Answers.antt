-- Every field from its bytes, by the law of a row that stands in a log.
use mathlib.Core.Path.{◌≡◌, sym, ap, ◌∙◌}
use mathlib.Core.List.{List}
use native.Mathlib.Omega.{arith}
use Prim.Native.Nat.{ℕ, ◌+◌, ◌*◌, ◌-◌, ◌<◌}
use lib.ListN.{get_or, take, drop}
use Rattle.readback.proofs.BackLaws.{two_at, four, pair, byte, two_bytes, four_bytes, row_back}
use Rattle.readback.proofs.row_at.Goals as goal

pub returns : goal.returns
returns c q is =
    let log = c.args.log.now in
    let b : ℕ = 16 * c.args.at in
    let many : b + 16 - b ≡ 16 = omega arith in
    let lent : take (b + 16 - b) (drop b log) ≡ take 16 (drop b log) = ap (λ (n : ℕ). take n (drop b log)) many in
    let one : (k : ℕ) → k < 16 → get_or log (b + k) 0 ≡ get_or (take (b + 16 - b) (drop b log)) k 0 = λ k h. sym (ap (λ (l : List ℕ). get_or l k 0) lent ∙ byte log b k h) in
    let two : (k : ℕ) → k + 1 < 16 → two_at k (take (b + 16 - b) (drop b log)) ≡ pair log (b + k) = λ k h. ap (two_at k) lent ∙ two_bytes log b k h in
    row_back log b q is _ _ _ _ _ _ _
    (c.from_le_bytes.ensures ∙ ap four lent ∙ four_bytes log b)
    (rw (one 4 (omega arith)) c.phase_of.ensures) (rw (one 5 (omega arith)) c.state_of.ensures)
    (c.from_le_bytes-2.ensures ∙ two 6 (omega arith)) (c.from_le_bytes-3.ensures ∙ two 8 (omega arith))
    (c.from_le_bytes-4.ensures ∙ two 10 (omega arith)) (c.from_le_bytes-5.ensures ∙ two 12 (omega arith))
