-- A list that is read piece by piece, and laid over another.
use Rattle.std.proofs.Common.{◌≡◌, Bool, true, false, List, [], ◌∷◌, ◌++◌, ℕ, zero, suc, ◌+◌, ◌≤◌, length, take, set, map, Some, None, refl, sym, ap, ◌∙◌, arith}
use Rattle.std.proofs.Math.Seq.{take_all}
use Rattle.std.specs.Bool.{then_some}
use Rattle.std.specs.List.{list_all}
use Rattle.std.proofs.lemmas.List.{map-append, length-map, length_push}
use Rattle.std.proofs.lemmas.List.Folds.{list_all-append}
use Rattle.reading.specs.Work.{onto}

pub onto_nothing : {A : Type 0} (d : List A) → onto d [] ≡ d
onto_nothing [] = refl
onto_nothing (x ∷ d) = refl

-- one more
pub onto_snoc : {A : Type 0} (d xs : List A) (v : A) → onto d (xs ++ (v ∷ [])) ≡ set (onto d xs) (length xs) v
onto_snoc [] xs v = refl
onto_snoc (x ∷ d) [] v = ap (λ l. v ∷ l) (onto_nothing d)
onto_snoc (x ∷ d) (y ∷ xs) v = ap (λ l. y ∷ l) (onto_snoc d xs v)

pub length_onto : {A : Type 0} (d xs : List A) → length (onto d xs) ≡ length d
length_onto [] xs = refl
length_onto (x ∷ d) [] = refl
length_onto (x ∷ d) (y ∷ xs) = ap suc (length_onto d xs)

-- the front of what was laid
pub take_onto : {A : Type 0} (k : ℕ) (d xs : List A) → k ≤ length d → k ≤ length xs → take k (onto d xs) ≡ take k xs
take_onto zero d xs h g = refl
take_onto (suc k) [] xs h g = absurd (omega arith)
take_onto (suc k) (x ∷ d) [] h g = absurd (omega arith)
take_onto (suc k) (x ∷ d) (y ∷ xs) h g = ap (λ l. y ∷ l) (take_onto k d xs (omega arith) (omega arith))

-- as many as there is room for
pub onto_all : {A : Type 0} (d xs : List A) → length d ≡ length xs → onto d xs ≡ xs
onto_all d xs e =
    sym (take_all (length d) (onto d xs) (omega (arith, length_onto d xs)))
    ∙ take_onto (length d) d xs (omega arith) (omega arith)
    ∙ take_all (length d) xs (omega arith)

-- what a test that picked a value tells
pub some_picked : {A : Type 0} (t : Bool) (x y : A) → Some y ≡ then_some t x → (t ≡ true) × (y ≡ x)
some_picked true x y e = (refl, cc)
some_picked false x y e = cc

pub none_picked : {A : Type 0} (t : Bool) (x : A) → None ≡ then_some t x → t ≡ false
none_picked true x e = cc
none_picked false x e = refl

-- so far: the first pieces ps pass the test, and what each holds is laid over the places
pub record SoFar {A : Type 0} (passes : List ℕ → Bool) (held : List ℕ → A) (places₀ : List A) (ps : List (List ℕ)) (count : ℕ) (places : List A) : Type 0 where
  pub counted : count ≡ length ps
  pub good : list_all passes ps ≡ true
  pub laid : places ≡ onto places₀ (map held ps)

module _ {A : Type 0} (passes : List ℕ → Bool) (held : List ℕ → A) where
  pub so_far_start : (places : List A) → SoFar passes held places [] 0 places
  so_far_start places = record { counted = refl; good = refl; laid = sym (onto_nothing places) }

  pub so_far_next : (places₀ : List A) (ps : List (List ℕ)) (count : ℕ) (places : List A) → SoFar passes held places₀ ps count places
      → (p : List ℕ) (v : A) (places' : List A) → Some v ≡ then_some (passes p) (held p) → places' ≡ set places count v → SoFar passes held places₀ (ps ++ p ∷ []) (count + 1) places'
  so_far_next places₀ ps count places s p v places' e g =
      let told = some_picked (passes p) (held p) v e in
      record {
        counted = omega (arith, s.counted, length_push ps p);
        good = list_all-append passes ps (p ∷ []) ∙ simp (s.good, told.0);
        laid = g
            ∙ ap (λ l. set l count v) s.laid
            ∙ ap (λ k. set (onto places₀ (map held ps)) k v) (s.counted ∙ sym (length-map ps held))
            ∙ sym (onto_snoc places₀ (map held ps) v)
            ∙ ap (λ x. onto places₀ (map held ps ++ x ∷ [])) told.1
            ∙ ap (onto places₀) (sym (map-append held ps (p ∷ [])));
      }
