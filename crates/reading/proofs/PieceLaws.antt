-- The pieces that `split` yields, one after the other.
use Rattle.std.proofs.Common.{◌≡◌, Bool, false, List, ◌∷◌, ℕ, ◌<◌, ◌+◌, ◌≤◌, suc, length, get_or, map, eqb, Option, Some, None, Bor, subst, arith}
use Rattle.std.specs.Fn.{CalledAt}
use Rattle.std.specs.Iterator.{Yields}
use Rattle.std.specs.Slice.Iter.{split_rest, split_done, split_callee, split_steps}
use Rattle.std.specs.declared.slice.Split.{Split}
use Rattle.std.proofs.lemmas.List.{length-map}
use Rattle.std.proofs.lemmas.List.Splits.{length-slice_split}
use Rattle.std.proofs.lemmas.List.Sums.{count_by-le-length}
use Rattle.std.proofs.lemmas.Iterator.Consumers.{YieldsList-turn, YieldsList-end}
use Rattle.std.proofs.lemmas.Iterator.Splits.{YieldsList-from_slice_split}
use denote.Param.Members.{Mut}
use Rattle.reading.specs.ShopText.{pieces}

-- `bytes` is split at each mark, and xs have come
module _ {F : Type 0} (s : Split ℕ F) {f : F} {g : Mut F (Bor ℕ × Unit {0}) Bool} (mark : ℕ) {bytes : List ℕ} (whole : split_rest s ≡ bytes) (begun : split_done s ≡ false) (closure : split_callee s ≡ f)
    (tests : (x : ℕ) (b : Bool) (q : F) → CalledAt g f x b q → (q ≡ f) × (b ≡ eqb x mark))
    (xs : List (Bor (List ℕ))) (t : Split ℕ F) (come : Yields (split_steps g) s xs t) {r : Option (Bor (List ℕ))} (u : Split ℕ F) where
  pub piece_at : {x : Bor (List ℕ)} → r ≡ Some x → split_steps g t r u → (length xs < length (pieces mark bytes)) × (x.now ≡ get_or (pieces mark bytes) (length xs) x.now)
  piece_at {x} e step = YieldsList-turn (YieldsList-from_slice_split g (λ b. eqb b mark) bytes whole begun closure tests) xs t come r u x e step

  pub pieces_end : r ≡ None → split_steps g t r u → (map (λ x. x.now) xs ≡ pieces mark bytes) × (length xs ≡ length (pieces mark bytes))
  pieces_end e step = YieldsList-end (YieldsList-from_slice_split g (λ b. eqb b mark) bytes whole begun closure tests) xs t come r u e step

-- two came before the others
pub two_before : {F : Type 0} {g : Mut F (Bor ℕ × Unit {0}) Bool} {s₂ s₃ : Split ℕ F} (s s₁ t : Split ℕ F) (x y : Bor (List ℕ)) (xs : List (Bor (List ℕ))) → split_steps g s (Some x) s₁ → split_steps g s₁ (Some y) s₂ → s₃ ≡ s₂
    → Yields (split_steps g) s₃ xs t → Yields (split_steps g) s (x ∷ y ∷ xs) t
two_before {g = g} {s₂ = s₂} s s₁ t x y xs first second e come = (s₁, first, (s₂, second, subst (λ z. Yields (split_steps g) z xs t) e come))

-- as many pieces as bytes, at most, where two came before
pub few_left : (count : ℕ) (xs : List (Bor (List ℕ))) (mark : ℕ) (bytes : List ℕ) → count ≡ length (map (λ x. x.now) xs) → suc (suc (length xs)) < length (pieces mark bytes) → count + 1 ≤ length bytes
few_left count xs mark bytes e h = omega (arith, length-map xs (λ x. x.now), length-slice_split (λ b. eqb b mark) bytes, count_by-le-length (λ b. eqb b mark) bytes)
