-- What a verdict tells of the tests behind it, and that a refusal's number tells the refusal.
use mathlib.Core.Path.{◌≡◌, refl, sym, ap, ◌∙◌}
use mathlib.Core.Bool.{Bool, true, false, ◌&&◌}
use mathlib.Core.Logic.{⊎_elim}
use Prim.Native.Nat.{ℕ, zero, suc, ◌≤◌, ◌<◌}
use native.Mathlib.Nat.{eq-zero-or-pos}
use native.Mathlib.Omega.{arith}
use lib.Dec.{leb}
use mathlib.Core.List.{List, [], ◌∷◌}
use borrow.Author.Tests.{leb-true, le-leb}
use Rattle.refusals.specs.declared.Refusal.{Refusal}
use Rattle.refusals.specs.declared.Refusal.TheVariants.{Branching, LeafCount, LeafList, LeafByte, ActiveCount, Stations, ClassNumbers, IndexTable, Messages, Budget, LogRoom, ReferenceTime, Text}
use Rattle.std.specs.Prelude.{Ok, Err}
use Rattle.refusals.specs.Numbers.{Verdict, granted, number_of, within, ask, and_then}

-- ---- tests

never : {A : Type 0} (r : Refusal) → Err r ≡ granted → A
never r e = cc

pub ask_granted : (b : Bool) (r : Refusal) (v : Verdict) → ask b r v ≡ granted → (b ≡ true) × (v ≡ granted)
ask_granted true r v e = (refl, e)
ask_granted false r v e = never r e

pub then_granted : (v w : Verdict) → and_then v w ≡ granted → (v ≡ granted) × (w ≡ granted)
then_granted (Ok _) w e = (refl, e)
then_granted (Err r) w e = never r e

pub both : (a b : Bool) → (a && b) ≡ true → (a ≡ true) × (b ≡ true)
both true b e = (refl, e)
both false b e = cc

pub within_true : (lo hi x : ℕ) → within lo hi x ≡ true → (lo ≤ x) × (x ≤ hi)
within_true lo hi x e = let b = both (leb lo x) (leb x hi) e in (leb-true lo x b.0, leb-true x hi b.1)

pub in_range : (lo hi x : ℕ) → lo ≤ x → x ≤ hi → within lo hi x ≡ true
in_range lo hi x h g = simp (le-leb lo x h, le-leb x hi g)

-- ---- tests one after the other, as a function comes to them

pub passed : (b : Bool) (r : Refusal) (v w : Verdict) → b ≡ true → w ≡ v → w ≡ ask b r v
passed b r v w e f = rw e f

pub fails : (a b : Bool) → a ≡ false → false ≡ (a && b)
fails a b e = rw e refl

pub fails_behind : (a b : Bool) → b ≡ false → (a && b) ≡ false
fails_behind true b e = e
fails_behind false b e = refl

pub on : (a b t : Bool) → a ≡ true → t ≡ b → t ≡ (a && b)
on a b t e f = rw e f

-- ---- numbers

-- the refusals in the order of their numbers, from 1 on; place 0 repeats the first
abbrev in_order : List Refusal
in_order =
    Branching ∷ Branching ∷ LeafCount ∷ LeafList ∷ LeafByte ∷ ActiveCount ∷ Stations ∷ ClassNumbers ∷ IndexTable ∷ Messages ∷ Budget ∷ LogRoom ∷ ReferenceTime ∷ []

abbrev nth : List Refusal → ℕ → Refusal
nth [] n = Text
nth (r ∷ rs) zero = r
nth (r ∷ rs) (suc n) = nth rs n

abbrev named : ℕ → Refusal
named n = nth in_order n

named_number : (r : Refusal) → named (number_of r) ≡ r
named_number Branching = refl
named_number LeafCount = refl
named_number LeafList = refl
named_number LeafByte = refl
named_number ActiveCount = refl
named_number Stations = refl
named_number ClassNumbers = refl
named_number IndexTable = refl
named_number Messages = refl
named_number Budget = refl
named_number LogRoom = refl
named_number ReferenceTime = refl
named_number Text = refl

-- two refusals with one number are one
pub number_tells : (r s : Refusal) → number_of r ≡ number_of s → r ≡ s
number_tells r s e = sym (named_number r) ∙ ap named e ∙ named_number s

-- no refusal has the number 0, which stands for none
pub number_some : (r : Refusal) → 0 < number_of r
number_some r = ⊎_elim
    (λ e. absurd (omega (arith, ap number_of (sym (named_number r) ∙ ap named e))))
    (λ p. p)
    (eq-zero-or-pos (number_of r))
