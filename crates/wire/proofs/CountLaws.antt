-- The closing counts: whether one message was sent, and that each of a list is in range.
use mathlib.Core.Path.{◌≡◌, refl, sym, ◌∙◌, subst}
use mathlib.Core.List.{List}
use Prim.Native.Nat.{ℕ, ◌<◌}
use lib.ListN.{length, get_or}
use borrow.Author.Tests.{eq-eqb, ne_eqb}
use Rattle.std.proofs.lemmas.List.{get_or_default}
use Rattle.messages.specs.declared.Message.{Message}
use Rattle.messages.specs.Message.{unsent, blank}
use Rattle.messages.specs.Lists.{Timed, TimedList}
use Rattle.wire.specs.Run.{is_sent}

pub not_sent : (m : Message) → m.sent ≡ unsent → 0 ≡ is_sent m
not_sent m e = rw (eq-eqb m.sent unsent e, is_sent) refl

pub was_sent : (m : Message) → (m.sent ≡ unsent → ⊥) → 1 ≡ is_sent m
was_sent m f = rw (ne_eqb m.sent unsent f, is_sent) refl

-- as a loop over the list reads it
pub timed_at : (ms : List Message) → TimedList ms → (m : Message) (k : ℕ) → k < length ms → m ≡ get_or ms k m → Timed m
timed_at ms t m k h e = subst Timed (sym (e ∙ get_or_default ms k m blank h)) (t k h)
