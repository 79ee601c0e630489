-- Which stations own some of the indices: the chain over that part of the table answers as the definition does.
use Rattle.std.proofs.Common.{◌≡◌, refl, sym, ap, ◌∙◌, Bool, ◌||◌, List, ℕ, zero, suc, ◌+◌, ◌≤◌, ◌<◌, eqb, length, get_or, take, drop, add-one, arith}
use Rattle.std.proofs.Math.Nat.{add-sub_cancel_left}
use Rattle.std.proofs.lemmas.List.{get_or-drop, length-drop}
use Rattle.std.proofs.lemmas.List.Folds.{list_any_more}
use Rattle.std.specs.List.{list_any, slice_range}
use Rattle.contention.specs.Contenders.{owns}

module _ (table : List ℕ) (s a : ℕ) where
  -- the first n from a on
  owns_first : (n : ℕ) → a + n ≤ length table → list_any (λ owner. eqb owner s) (take n (drop a table)) ≡ owns table s a n
  unfolding owns
  owns_first zero h = refl
  owns_first (suc n) h =
      let some : n < length (drop a table) = omega (arith, length-drop a table) in
      rw (← add-one) (list_any_more (λ owner. eqb owner s) (drop a table) n 0 some)
      ∙ ap (λ (b : Bool). b || eqb (get_or (drop a table) n 0) s) (owns_first n (omega arith))
      ∙ ap (λ (k : ℕ). owns table s a n || eqb k s) (get_or-drop a table n 0)

  -- those from a up to a + w
  pub owns_part : (w : ℕ) → a + w ≤ length table → owns table s a w ≡ list_any (λ owner. eqb owner s) (slice_range table a (a + w))
  owns_part w h = rw (add-sub_cancel_left a w) (sym (owns_first w h))
