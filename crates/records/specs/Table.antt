-- One list laid over another: the records in the table of 512 places, and the slots of sending in the list that is lent.
--
--   laid_over xs ys   as long as xs: the elements of ys as far as they go, and behind them those of xs
use Rattle.std.specs.Prelude.{List, [], ◌∷◌}

-- place by place
abbrev pub laid_over : {A : Type 0} → List A → List A → List A
laid_over xs [] = xs
laid_over [] (y ∷ ys) = []
laid_over (x ∷ xs) (y ∷ ys) = y ∷ laid_over xs ys
