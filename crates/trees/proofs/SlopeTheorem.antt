-- The theorem on worst counts: X(k) and the k sendings make as many slots as the slopes say, for every tree and every k.
use mathlib.Core.Path.{◌≡◌, refl, ap, ◌∙◌}
use mathlib.Core.List.{List, [], ◌∷◌}
use Prim.Native.Nat.{ℕ, zero, suc, ◌+◌, ◌*◌, ◌^◌, ◌/◌, ◌%◌, ◌≤◌, zero-le}
use native.Mathlib.Nat.{zero-div, zero-mod, le_antisymm, div-add-mod, le_of_suc-le-suc, pow-zero}
use native.Mathlib.Omega.{arith}
use lib.ListN.{length, length-map}
use Rattle.trees.specs.Worst.{sum, AllBelow, Way, valued, worst, worst_of}
use Rattle.trees.proofs.WorstLaws.{worst_of_zero, worst_of_one, worst_of_above, worst_of_attained}
use Rattle.trees.proofs.SlopeLaws.{slope, slots, slots_all, half, halves, balance, even, slots_even, slots_mono}
use Rattle.trees.proofs.Shares.{share, up_from}
use Rattle.trees.proofs.ShareLaws.{shares_serve}

halves_sum : (ks : List ℕ) → 2 * sum (halves ks) ≤ sum ks
halves_sum [] = zero-le
halves_sum (k ∷ ks) = omega (arith, halves_sum ks, div-add-mod k 2)

-- the theorem for the trees below
abbrev pub Known : ℕ → ℕ → Type 0
Known m n = (k : ℕ) → k ≤ m ^ n → worst_of m n k + k ≡ slots m n (k / 2)

pub all_known : (m n : ℕ) (ks : List ℕ) → Known m n → AllBelow (suc (m ^ n)) ks → valued (worst m n) ks + sum ks ≡ slots_all m n (halves ks)
all_known m n [] ih s = refl
all_known m n (k ∷ ks) ih s = omega (arith, all_known m n ks ih s.1, ih k (le_of_suc-le-suc s.0))

-- ---- UPPER BOUND

most : (m n P : ℕ) (ps : List ℕ) → 2 ≤ m → length ps ≡ m → sum ps ≡ P → slots_all m n ps ≤ even m n P
most m n P ps h len e =
    let a : ℕ = P / m in
    let s : ℕ = slope m n a in
    let d : m * a + P % m ≡ P = div-add-mod P m in
    let b : slots_all m n ps + length ps * (a * s) ≤ length ps * slots m n a + sum ps * s = balance m n a ps (omega arith) in
    let b' : slots_all m n ps + m * (a * s) ≤ m * slots m n a + P * s = rw (len, e) at b in
    omega (arith, ap (λ (x : ℕ). x * s) d)

pub upper : (m n k : ℕ) (ks : List ℕ) → 2 ≤ m → 2 ≤ k → Known m n → Way m (suc (m ^ n)) k ks → suc (valued (worst m n) ks) + k ≤ slots m (suc n) (k / 2)
upper m n k ks h h2 ih w = go (sum (halves ks)) refl
  where
    go : (P : ℕ) → sum (halves ks) ≡ P → suc (valued (worst m n) ks) + k ≤ slots m (suc n) (k / 2)
    go zero e =
        let b : slots_all m n (halves ks) ≤ even m n 0 = most m n 0 (halves ks) h (length-map ks half ∙ w.count) e in
        let z : even m n 0 ≤ m = rw (zero-div m, zero-mod m) (omega arith) in
        let g : slots m (suc n) 1 ≤ slots m (suc n) (k / 2) = slots_mono m (suc n) 1 (k / 2) (omega arith) in
        omega (arith, all_known m n ks ih w.small, w.adds, g)
    go (suc P) e =
        let b : slots_all m n (halves ks) ≤ even m n (suc P) = most m n (suc P) (halves ks) h (length-map ks half ∙ w.count) e in
        let g : slots m (suc n) (suc P) ≤ slots m (suc n) (k / 2) = slots_mono m (suc n) (suc P) (k / 2) (omega (arith, halves_sum ks, w.adds, e)) in
        omega (arith, all_known m n ks ih w.small, w.adds, slots_even m n P h)

-- ---- THE THEOREM

next : (m n k : ℕ) → 2 ≤ m → Known m n → 2 ≤ k → k ≤ m ^ suc n → worst_of m (suc n) k + k ≡ slots m (suc n) (k / 2)
next m n k h ih h2 le =
    let ks : List ℕ = up_from (share m (m ^ n) k) 0 m in
    let g = shares_serve m n k h h2 le in
    let w = worst_of_attained m n k h2 le in
    le_antisymm
    (omega (arith, upper m n k w.0 h h2 ih w.1, w.2))
    (omega (arith, worst_of_above m n k ks h2 g.0, all_known m n ks ih g.0.small, g.0.adds, g.1))

-- X(k) and the k sendings make the slots of k div 2 pairs
pub worst_slots : (m n k : ℕ) → 2 ≤ m → k ≤ m ^ n → worst_of m n k + k ≡ slots m n (k / 2)
worst_slots m zero zero h le = refl
worst_slots m zero (suc zero) h le = refl
worst_slots m zero (suc (suc k)) h le = absurd (omega (arith, pow-zero m))
worst_slots m (suc n) zero h le = omega (arith, worst_of_zero m (suc n) (omega arith))
worst_slots m (suc n) (suc zero) h le = omega (arith, worst_of_one m (suc n) (omega arith))
worst_slots m (suc n) (suc (suc k)) h le = next m n (suc (suc k)) h (λ i g. worst_slots m n i h g) (omega arith) le

-- a way with that many slots costs just X(k)
pub good_worth : (m n k : ℕ) (ks : List ℕ) → 2 ≤ m → k ≤ m ^ suc n → Way m (suc (m ^ n)) k ks → suc (slots_all m n (halves ks)) ≡ slots m (suc n) (k / 2) → worst_of m (suc n) k ≡ suc (valued (worst m n) ks)
good_worth m n k ks h le w e =
    omega (arith, worst_slots m (suc n) k h le, all_known m n ks (λ i g. worst_slots m n i h g) w.small, w.adds)

-- as the shares have
pub shares_worth : (m n k : ℕ) → 2 ≤ m → 2 ≤ k → k ≤ m ^ suc n → worst_of m (suc n) k ≡ suc (valued (worst m n) (up_from (share m (m ^ n) k) 0 m))
shares_worth m n k h h2 le =
    let s = shares_serve m n k h h2 le in
    good_worth m n k (up_from (share m (m ^ n) k) 0 m) h le s.0 s.1

-- equation 3: an odd count is one less than the even one below it
pub odd_worst : (m n p : ℕ) → 2 ≤ m → 2 * p + 1 ≤ m ^ n → worst_of m n (2 * p + 1) + 1 ≡ worst_of m n (2 * p)
odd_worst m n p h le =
    let a : (2 * p + 1) / 2 ≡ p = omega arith in
    let b : 2 * p / 2 ≡ p = omega arith in
    omega (arith, rw a at (worst_slots m n (2 * p + 1) h le), rw b at (worst_slots m n (2 * p) h (omega arith)))
