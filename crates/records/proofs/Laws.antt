-- One list laid over another: one place more, all of it, and what stands at the front.
use mathlib.Core.Path.{◌≡◌, refl, ap, sym, ◌∙◌}
use mathlib.Core.List.{List, [], ◌∷◌, ◌++◌}
use Prim.Native.Nat.{ℕ, zero, suc, ◌+◌, ◌<◌, ◌≤◌, min}
use native.Mathlib.Omega.{arith}
use lib.ListN.{length, take, drop, get_or, set}
use Rattle.std.proofs.lemmas.List.{take_all, take_more, take_more_set}
use Rattle.records.specs.Table.{laid_over}

module _ {A : Type 0} where
  pub over_nil : (ys : List A) → laid_over [] ys ≡ []
  over_nil [] = refl
  over_nil (y ∷ ys) = refl

  -- one place more holds what it is to hold
  pub place_more : (out target : List A) (i : ℕ) (d : A) → i < length out → i < length target → take i out ≡ take i target
      → take (i + 1) (set out i (get_or target i d)) ≡ take (i + 1) target
  place_more out target i d h g e =
      take_more_set out i (get_or target i d) h ∙ ap (λ (l : List A). l ++ (get_or target i d ∷ [])) e ∙ sym (take_more target i d g)

  -- as many as there is room for, and what stands behind them
  pub over_parts : (xs ys : List A) (n : ℕ) → n ≡ min (length xs) (length ys) → take n ys ++ drop n xs ≡ laid_over xs ys
  over_parts xs [] zero h = refl
  over_parts xs [] (suc n) h = absurd (omega arith)
  over_parts [] (y ∷ ys) zero h = refl
  over_parts [] (y ∷ ys) (suc n) h = absurd (omega arith)
  over_parts (x ∷ xs) (y ∷ ys) zero h = absurd (omega arith)
  over_parts (x ∷ xs) (y ∷ ys) (suc n) h = ap (λ (l : List A). y ∷ l) (over_parts xs ys n (omega arith))

  -- the places in front are filled to their end
  pub over_filled : (xs ys out : List A) (n i : ℕ) → n ≡ min (length xs) (length ys) → i ≡ n → length out ≡ n → take i out ≡ take i ys
      → out ++ drop n xs ≡ laid_over xs ys
  over_filled xs ys out n i m e len f =
      ap (λ (l : List A). l ++ drop n xs) (sym (take_all n out (omega arith)) ∙ rw e at f) ∙ over_parts xs ys n m

  -- one that is not longer stands at the front
  pub take_over : (xs ys : List A) → length ys ≤ length xs → take (length ys) (laid_over xs ys) ≡ ys
  take_over xs [] h = refl
  take_over [] (y ∷ ys) h = absurd (omega arith)
  take_over (x ∷ xs) (y ∷ ys) h = ap (λ (l : List A). y ∷ l) (take_over xs ys (omega arith))

  -- of one that has as many in front, these alone are laid over
  pub over_front : (xs front rest : List A) → length front ≡ length xs → laid_over xs (front ++ rest) ≡ front
  over_front [] [] rest e = over_nil rest
  over_front [] (y ∷ front) rest e = absurd (omega arith)
  over_front (x ∷ xs) [] rest e = absurd (omega arith)
  over_front (x ∷ xs) (y ∷ front) rest e = ap (λ (l : List A). y ∷ l) (over_front xs front rest (omega arith))
