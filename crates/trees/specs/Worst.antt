-- The worst count of a search, equation 1 of the source document (docs/RULES.md, section 6).
--
--   sum ks              the parts added up
--   AllBelow b ks       each part is below b
--   Way j b k ks        ks writes k as a sum of j parts, each below b
--   valued xs ks        the list xs read at each part, added up
--   larger xs ys        the larger entry at each place
--   pairs xs ys         place k: the largest xs(i) + ys(j) over all i + j = k
--   parts xs j          place k: the largest value of xs over all ways of writing k as j parts
--   rooted xs           1 for k 0, 0 for k 1, and the root's slot more from k 2 on
--   worst m n           X(0, t), X(1, t), .., X(t, t) for t = m ^ n
--   worst_of m n k      X(k, t) for t = m ^ n
use Rattle.std.specs.Prelude.{◌≡◌, List, [], ◌∷◌, map, ℕ, zero, suc, ◌+◌, ◌<◌, max, length, get_or}

-- the parts, added up
abbrev pub sum : List ℕ → ℕ
sum [] = 0
sum (k ∷ ks) = k + sum ks

-- each part is small enough
abbrev pub AllBelow : ℕ → List ℕ → Type 0
AllBelow b [] = Unit {0}
AllBelow b (k ∷ ks) = (k < b) × AllBelow b ks

-- a way of writing k as a sum of parts: what equation 1 ranges over
pub record Way (j b k : ℕ) (ks : List ℕ) : Type 0 where
  pub count : length ks ≡ j
  pub small : AllBelow b ks
  pub adds : sum ks ≡ k

-- what a way comes to, by a list of counts
abbrev pub valued : List ℕ → List ℕ → ℕ
valued xs [] = 0
valued xs (k ∷ ks) = get_or xs k 0 + valued xs ks

-- the longer list goes on alone
abbrev pub larger : List ℕ → List ℕ → List ℕ
larger [] ys = ys
larger (x ∷ xs) [] = x ∷ xs
larger (x ∷ xs) (y ∷ ys) = max x y ∷ larger xs ys

-- the largest sums of two entries
abbrev pub pairs : List ℕ → List ℕ → List ℕ
pairs [] ys = []
pairs (x ∷ xs) [] = []
pairs (x ∷ xs) (y ∷ ys) = (x + y) ∷ larger (map (λ b. x + b) ys) (pairs xs (y ∷ ys))

-- the largest sums of j entries
abbrev pub parts : List ℕ → ℕ → List ℕ
parts xs zero = 0 ∷ []
parts xs (suc j) = pairs xs (parts xs j)

-- the root of a tree over what its subtrees cost
abbrev pub rooted : List ℕ → List ℕ
rooted [] = []
rooted (x ∷ []) = 1 ∷ []
rooted (x ∷ y ∷ rest) = 1 ∷ 0 ∷ map suc rest

-- a leaf, and a tree of m trees that are m times smaller
abbrev pub worst : ℕ → ℕ → List ℕ
worst m zero = 1 ∷ 0 ∷ []
worst m (suc n) = rooted (parts (worst m n) m)

-- the worst count of a search with k active leaves
abbrev pub worst_of : ℕ → ℕ → ℕ → ℕ
worst_of m n k = get_or (worst m n) k 0
