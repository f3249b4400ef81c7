-- Laws of tests: of one number against another, of two tests together, of lists.
--     below_or_not     a number is below another, or it isn't
--     both, and_both   a conjunction, taken apart and made
--     every_append     of two lists put together
--     every-at         what holds of every entry holds of the one at an index
--     same_list_lem        lists with the same entries are equal
use Rattle.std.specs.Prelude.{ℕ, zero, suc, ◌≤◌, ◌<◌, Bool, true, false, ◌&&◌, ◌≡◌, refl, ◌⊎◌, List, [], ◌∷◌, ◌++◌, length, get_or, ltb, eqb}
use Rattle.std.proofs.lemmas.Bool.{false≢true}
use Rattle.std.proofs.Common.{inl, inr, not-suc-le-zero, arith, ltb-true, ltb-false, eqb-true}
use Rattle.laws.specs.Every.{every, same_list}

pub below_or_not : (a b : ℕ) → (a < b) ⊎ (b ≤ a)
below_or_not a b = go (ltb a b) refl
  where
    go : (c : Bool) → ltb a b ≡ c → (a < b) ⊎ (b ≤ a)
    go true e = inl (ltb-true a b e)
    go false e = inr (ltb-false a b e)

pub both : (a b : Bool) → a && b ≡ true → (a ≡ true) × (b ≡ true)
both true b e = (refl, e)
both false b e = absurd (false≢true e)

pub and_both : (a b : Bool) → a ≡ true → b ≡ true → a && b ≡ true
and_both a b p q = rw (p, q)

pub every_append : (p : ℕ → Bool) (l u : List ℕ) → every p l ≡ true → every p u ≡ true → every p (l ++ u) ≡ true
unfolding every
every_append p [] u e q = q
every_append p (x ∷ l) u e q =
    let h = both (p x) (every p l) e in and_both (p x) (every p (l ++ u)) h.0 (every_append p l u h.1 q)

pub every-at : (p : ℕ → Bool) (l : List ℕ) (i : ℕ) → every p l ≡ true → i < length l → p (get_or l i 0) ≡ true
unfolding every
every-at p [] i e h = absurd (not-suc-le-zero h)
every-at p (x ∷ l) zero e h = (both (p x) (every p l) e).0
every-at p (x ∷ l) (suc i) e h = every-at p l i (both (p x) (every p l) e).1 (omega arith)

pub same_list_lem : (l u : List ℕ) → same_list l u ≡ true → l ≡ u
unfolding same_list
same_list_lem [] [] e = refl
same_list_lem [] (y ∷ u) e = absurd (false≢true e)
same_list_lem (x ∷ l) [] e = absurd (false≢true e)
same_list_lem (x ∷ l) (y ∷ u) e =
    let h = both (eqb x y) (same_list l u) e in rw (eqb-true x y h.0, same_list_lem l u h.1)
