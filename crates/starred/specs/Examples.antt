-- The starred examples, as statements about the definitions.
--
--   All list            each statement of the list holds
--   counts_up_to m t k  the answers to the worst counts of 0 to k active leaves
--   places rows         first leaf and width of each row
--   examples            the starred examples, in the order of docs/RULES.md, section 7; the class is that of section 9
--   starred             all of them hold
use Rattle.std.specs.Prelude.{◌≡◌, refl, List, [], ◌∷◌, ◌++◌, map, ℕ, zero, suc, pos, negsuc}
use Rattle.rows.specs.declared.Row.{Row}
use Rattle.refusals.specs.Numbers.{verdict_number}
use Rattle.trees.specs.Search.{search_rows, cost, sent}
use Rattle.counts.specs.Answer.{count_of}
use Rattle.searches.specs.Answer.{search_figures}
use Rattle.placements.specs.Answer.{placement_verdict}
use Rattle.classes.specs.Answer.{class_figures}

-- statements, all of them
abbrev pub All : List (Type 0) → Type 0
All [] = Unit {0}
All (P ∷ rest) = P × All rest

-- each answer is a refusal's number, 0 for none, and the count
abbrev pub counts_up_to : ℕ → ℕ → ℕ → List (ℕ × ℕ)
counts_up_to m t zero = count_of m t 0 ∷ []
counts_up_to m t (suc k) = counts_up_to m t k ++ (count_of m t (suc k) ∷ [])

-- where each row looked
abbrev pub places : List Row → List (ℕ × ℕ)
places rows = map (λ r. (r.first, r.width)) rows

-- worst counts: m 2, t 4; m 4, t 4; m 3, t 9
abbrev pub worst_counts : List (Type 0)
worst_counts =
    (counts_up_to 2 4 4 ≡ (0, 1) ∷ (0, 0) ∷ (0, 3) ∷ (0, 2) ∷ (0, 3) ∷ [])
    ∷ (counts_up_to 4 4 4 ≡ (0, 1) ∷ (0, 0) ∷ (0, 3) ∷ (0, 2) ∷ (0, 1) ∷ [])
    ∷ (counts_up_to 3 9 9 ≡ (0, 1) ∷ (0, 0) ∷ (0, 5) ∷ (0, 4) ∷ (0, 6) ∷ (0, 5) ∷ (0, 7) ∷ (0, 6) ∷ (0, 5) ∷ (0, 4) ∷ [])
    ∷ []

-- searches of m 2, t 4 with room for 7 rows: none active, {3}, {0, 1} with its rows, {0, 2}
abbrev pub searches : List (Type 0)
searches =
    (search_figures 2 4 (0 ∷ 0 ∷ 0 ∷ 0 ∷ []) 112 ≡ (0, 1, 1, 0))
    ∷ ((search_figures 2 4 (0 ∷ 0 ∷ 0 ∷ 1 ∷ []) 112 ≡ (0, 1, 0, 0))
    × (sent (search_rows 2 2 (0 ∷ 0 ∷ 0 ∷ 1 ∷ [])) ≡ 3 ∷ [])
    × (cost (search_rows 2 2 (0 ∷ 0 ∷ 0 ∷ 1 ∷ [])) ≡ 0))
    ∷ ((search_figures 2 4 (1 ∷ 1 ∷ 0 ∷ 0 ∷ []) 112 ≡ (0, 5, 1, 2))
    × (cost (search_rows 2 2 (1 ∷ 1 ∷ 0 ∷ 0 ∷ [])) ≡ 3)
    × (places (search_rows 2 2 (1 ∷ 1 ∷ 0 ∷ 0 ∷ [])) ≡ (0, 4) ∷ (0, 2) ∷ (0, 1) ∷ (1, 1) ∷ (2, 2) ∷ []))
    ∷ ((search_figures 2 4 (1 ∷ 0 ∷ 1 ∷ 0 ∷ []) 112 ≡ (0, 3, 0, 1)) × (cost (search_rows 2 2 (1 ∷ 0 ∷ 1 ∷ 0 ∷ [])) ≡ 1))
    ∷ []

-- with m 2 neither 1 nor 6 leaves make a tree: a count, a search and a placement are refused 2
abbrev pub limits : List (Type 0)
limits =
    ((count_of 2 1 0 ≡ (2, 0))
    × (count_of 2 6 0 ≡ (2, 0))
    × (search_figures 2 1 (0 ∷ []) 112 ≡ (2, 0, 0, 0))
    × (search_figures 2 6 (0 ∷ []) 112 ≡ (2, 0, 0, 0))
    × (verdict_number (placement_verdict 2 1 0 1) ≡ 2)
    × (verdict_number (placement_verdict 2 6 0 6) ≡ 2))
    ∷ []

-- offset 0, reference 10, width 10: the class of deadline 9 is −1 (`negsuc 0`), that of deadline 10 is 0
abbrev pub classes : List (Type 0)
classes = ((class_figures 9 0 10 10 ≡ (0, negsuc 0)) × (class_figures 10 0 10 10 ≡ (0, pos 0))) ∷ []

abbrev pub examples : List (Type 0)
examples = worst_counts ++ searches ++ limits ++ classes

-- THE STARRED EXAMPLES
pub starred : All examples
starred = (refl, (refl, (refl, (refl, ((refl, refl, refl), ((refl, refl, refl), ((refl, refl), ((refl, refl, refl, refl, refl, refl), ((refl, refl), tt)))))))))
