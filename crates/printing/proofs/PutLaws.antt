-- One text behind another, and the lines of a log's rows.
use mathlib.Core.Path.{◌≡◌, refl, sym, ap, ◌∙◌, subst}
use mathlib.Core.List.{List, [], ◌∷◌, ◌++◌, append_assoc, append-nil}
use Prim.Native.Nat.{ℕ, zero, suc, ◌+◌, ◌*◌, ◌≤◌, ◌<◌}
use native.Mathlib.Numerals.{add-one}
use native.Mathlib.Omega.{arith}
use lib.ListN.{length, get_or, take, drop, length-append}
use lib.Seq.{take-suc, take-take, take-append_seam, drop-append-add}
use Rattle.rows.specs.declared.Row.{Row}
use Rattle.rows.specs.declared.Phase.TheVariants.{Free}
use Rattle.rows.specs.declared.Channel.TheVariants.{Silence}
use Rattle.rows.specs.Log.{row_bytes, log_bytes, over}
use Rattle.rows.proofs.LogLaws.{over_over}
use Rattle.readback.specs.Back.{RowBack}
use Rattle.printing.specs.Report.{row_text, rows_text}
use Rattle.printing.specs.Work.{Put, Grown, Listed}
use Rattle.printing.specs.declared.Text.{Text}

-- one text behind another
pub put_then : {d d₁ d₂ : List ℕ} {at n k : ℕ} {b c : List ℕ} → Put d at b n d₁ → Put d₁ n c k d₂ → k ≤ length d → Put d at (b ++ c) k d₂
put_then {d} {d₁} {d₂} {at} {n} {k} {b} {c} p q room =
    let long : length (b ++ c) ≡ length b + length c = length-append b c in
    record {
      next = omega (arith, p.next, q.next, long);
      wrote = q.wrote ∙ ap (λ (x : List ℕ). over x n c) p.wrote ∙ ap (λ (x : ℕ). over (over d at b) x c) p.next ∙ over_over d at b c (omega (arith, p.next, q.next));
    }

-- the same of a text that grows
pub grown_then : {t u v : Text} {b c : List ℕ} → Grown t b u → Grown u c v → Grown t (b ++ c) v
grown_then p q = record { same = q.same ∙ p.same; room = q.room ∙ p.room; fits = omega (arith, q.fits, p.room); put = put_then p.put q.put (omega (arith, q.fits, p.room)) }

-- the same text under another name
pub grown_as : {t u : Text} {b c : List ℕ} → b ≡ c → Grown t b u → Grown t c u
grown_as {t} {u} e p = subst (λ (x : List ℕ). Grown t x u) e p

-- what it comes to in the lent buffer
pub grown_out : {t u : Text} {b d' : List ℕ} → Grown t b u → u.output.now ≡ d' → Put t.output.now t.at b u.at d'
grown_out {t} {u} {b} g e = subst (λ (d' : List ℕ). Put t.output.now t.at b u.at d') e g.put

-- ---- the rows of a log

-- the part of a list that lies in its front
part_of_front : (a b n : ℕ) (l : List ℕ) → a + b ≤ n → take b (drop a (take n l)) ≡ take b (drop a l)
part_of_front zero b n l h = take-take b n l (omega arith)
part_of_front (suc a) b zero l h = absurd (omega arith)
part_of_front (suc a) b (suc n) [] h = refl
part_of_front (suc a) b (suc n) (x ∷ l) h = part_of_front a b n l (omega arith)

abbrev blank_row : Row
blank_row = record { slot = 0; phase = Free; state = Silence; first = 0; width = 0; message = 0; used = 0 }

-- row i
row_bytes_lem : (rs : List Row) (i : ℕ) → i < length rs → take 16 (drop (16 * i) (log_bytes rs)) ≡ row_bytes (get_or rs i blank_row)
row_bytes_lem [] i h = absurd (omega arith)
row_bytes_lem (r ∷ rs) zero h = take-append_seam (row_bytes r) (log_bytes rs)
row_bytes_lem (r ∷ rs) (suc i) h =
    let place : 16 * suc i ≡ 16 + 16 * i = omega arith in
    ap (λ (k : ℕ). take 16 (drop k (row_bytes r ++ log_bytes rs))) place ∙ ap (take 16) (drop-append-add (row_bytes r) (log_bytes rs) (16 * i)) ∙ row_bytes_lem rs i (omega arith)

rows_snoc : (rs : List Row) (r : Row) → rows_text (rs ++ (r ∷ [])) ≡ rows_text rs ++ row_text r
rows_snoc [] r = append-nil (row_text r)
rows_snoc (q ∷ rs) r = ap (λ (l : List ℕ). row_text q ++ l) (rows_snoc rs r) ∙ sym (append_assoc (row_text q) (rows_text rs) (row_text r))

-- after i lines
pub record Lines (t : Text) (log : List ℕ) (k i : ℕ) (t' : Text) : Type 0 where
  pub same : t'.output.ghost_name ≡ t.output.ghost_name
  pub room : length t'.output.now ≡ length t.output.now
  pub lines : (rs : List Row) → Listed log k rs → Grown t (rows_text (take i rs)) t'
  pub short : t'.at ≤ t.at + 60 * i

pub lines_next : (t u v : Text) (log : List ℕ) (k i : ℕ) → Lines t log k i u → i < k
    → (row : Row) → RowBack (take 16 (drop (16 * i) log)) row → Grown u (row_text row) v → v.at ≤ u.at + 60
    → Lines t log k (i + 1) v
lines_next t u v log k i l more row back g few =
    record {
      same = g.same ∙ l.same;
      room = g.room ∙ l.room;
      lines = λ rs is. grown_as (sym (text_next rs is)) (grown_then (l.lines rs is) g);
      short = omega (arith, l.short);
    }
  where
    row_is : (rs : List Row) → Listed log k rs → row ≡ get_or rs i blank_row
    row_is rs is = back (get_or rs i blank_row)
        (sym (part_of_front (16 * i) 16 (16 * k) log (omega arith)) ∙ ap (λ (x : List ℕ). take 16 (drop (16 * i) x)) is.front ∙ row_bytes_lem rs i (omega (arith, is.count)))

    text_next : (rs : List Row) → Listed log k rs → rows_text (take (i + 1) rs) ≡ rows_text (take i rs) ++ row_text row
    text_next rs is =
        ap (λ (x : ℕ). rows_text (take x rs)) (add-one i)
        ∙ ap rows_text (take-suc rs i blank_row (omega (arith, is.count)))
        ∙ rows_snoc (take i rs) (get_or rs i blank_row)
        ∙ ap (λ (r : Row). rows_text (take i rs) ++ row_text r) (sym (row_is rs is))
