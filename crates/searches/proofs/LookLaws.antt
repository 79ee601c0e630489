-- The active leaves of a subtree, by the place of the first one.
use Rattle.std.proofs.Common.{◌≡◌, refl, sym, ap, ◌∙◌, Bool, true, false, cond, List, [], ◌∷◌, ℕ, zero, suc, ◌+◌, ◌-◌, ◌≤◌, length, get_or, take, drop, ltb, None, Some, add-one, add-zero, arith, drop-cons}
use Rattle.std.specs.List.{position, position_or_len}
use Rattle.std.proofs.Math.Dec.{eqb-suc-zero}
use Rattle.std.proofs.lemmas.Bool.{ltb-false}
use Rattle.std.proofs.lemmas.Grind.{common_steps}
use Rattle.std.proofs.lemmas.List.{drop_all}
use Rattle.std.proofs.lemmas.List.Quantifiers.{position-Some}
use Rattle.trees.specs.Search.{active, active_in}
use Rattle.searches.specs.declared.Seen.TheVariants.{Nobody, One, Several}
use Rattle.searches.specs.Work.{is_active, seen_of}

-- how many leaves stand before the first active one
abbrev quiet : List ℕ → ℕ
quiet s = position_or_len is_active s

passed_over : (a : ℕ) (s : List ℕ) → active a s ≡ active (a + quiet s) (drop (quiet s) s)
passed_over a [] = refl
passed_over a (zero ∷ s) =
    let n : ℕ = quiet s in
    let here : suc a + n ≡ a + (1 + n) = omega arith in
    let one : suc n ≡ 1 + n = omega arith in
    passed_over (suc a) s ∙ ap (λ (k : ℕ). active k (drop n s)) here ∙ ap (λ (k : ℕ). active (a + (1 + n)) (drop k (0 ∷ s))) one
passed_over a (suc b ∷ s) = rw (eqb-suc-zero b, add-zero a) refl

place : (b : Bool) (n i : ℕ) → cond b (Some n) None ≡ Some i → n ≡ i
place true n i e = cc
place false n i e = cc

no_place : (b : Bool) (n : ℕ) → cond b (Some n) None ≡ None → b ≡ false
no_place true n e = cc
no_place false n e = refl

no_active : (a : ℕ) (s : List ℕ) → position is_active s ≡ None → active a s ≡ []
no_active a s e =
    let n : ℕ = quiet s in
    let all : length s ≤ n = ltb-false n (length s) (no_place (ltb n (length s)) n e) in
    passed_over a s ∙ ap (active (a + n)) (drop_all n s all)

-- the first active leaf, and those behind it
first_active : (a : ℕ) (s : List ℕ) (i : ℕ) → position is_active s ≡ Some i → active a s ≡ (a + i) ∷ active (a + i + 1) (drop (i + 1) s)
first_active a s i e =
    let found = position-Some is_active s i 0 e in
    let n : quiet s ≡ i = place (ltb (quiet s) (length s)) (quiet s) i e in
    passed_over a s ∙ ap (λ (k : ℕ). active (a + k) (drop k s)) n ∙ ap (active (a + i)) (drop-cons s i 0 found.0) ∙ go (get_or s i 0) found.1
  where
    go : (b : ℕ) → is_active b ≡ true → active (a + i) (b ∷ drop (suc i) s) ≡ (a + i) ∷ active (a + i + 1) (drop (i + 1) s)
    go zero f = cc
    go (suc b) f = rw (add-one (a + i), add-one i) refl

-- the leaves behind one, as they are cut out
behind : (s : List ℕ) (i : ℕ) → take (length s - (i + 1)) (drop (i + 1) s) ≡ drop (i + 1) s
behind s i = grind (arith, common_steps)

-- s is the subtree's leaves, as they are cut out
module _ (leaves : List ℕ) (a w : ℕ) (s : List ℕ) (part : s ≡ take w (drop a leaves)) where
  pub heard_nobody : position is_active s ≡ None → Nobody ≡ seen_of (active_in leaves a w)
  heard_nobody e = rw (← part, no_active a s e)

  module _ (i : ℕ) (e : position is_active s ≡ Some i) where
    pub heard_one : position is_active (take (length s - (i + 1)) (drop (i + 1) s)) ≡ None → One (a + i) ≡ seen_of (active_in leaves a w)
    heard_one none = rw (← part, first_active a s i e, no_active (a + i + 1) (drop (i + 1) s) (ap (position is_active) (sym (behind s i)) ∙ none))

    pub heard_several : (j : ℕ) → position is_active (take (length s - (i + 1)) (drop (i + 1) s)) ≡ Some j → Several ≡ seen_of (active_in leaves a w)
    heard_several j more = rw (← part, first_active a s i e, first_active (a + i + 1) (drop (i + 1) s) j (ap (position is_active) (sym (behind s i)) ∙ more))
