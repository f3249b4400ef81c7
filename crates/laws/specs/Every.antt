-- Tests of lists, entry by entry.
--     every p l       p holds of every entry of l
--     same_list l u    l and u have the same entries
use Rattle.std.specs.Prelude.{ℕ, Bool, true, false, ◌&&◌, List, [], ◌∷◌, eqb}

unfoldable pub every : (ℕ → Bool) → List ℕ → Bool
every p [] = true
every p (x ∷ l) = p x && every p l

unfoldable pub same_list : List ℕ → List ℕ → Bool
same_list [] [] = true
same_list [] (y ∷ u) = false
same_list (x ∷ l) [] = false
same_list (x ∷ l) (y ∷ u) = eqb x y && same_list l u
