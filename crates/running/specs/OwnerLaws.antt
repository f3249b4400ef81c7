-- The arrays of owners and of their numbers, by the lists of owners.
--     owner_at                the owner at a place of a loop
--     moved-owners            a loop's owners moved down
--     joined-owners           a loop's owners with one more
--     count_at, counts-less, counts-more      their numbers
use Rattle.std.specs.Prelude.{ℕ, zero, suc, ◌+◌, ◌*◌, ◌/◌, ◌%◌, ◌-◌, ◌≤◌, ◌<◌, Bool, true, false, cond, ◌≡◌, refl, List, [], ◌∷◌, ◌++◌, length, get_or, set, drop, eqb}
use Rattle.std.proofs.Common.{sym, ap, ◌∙◌, arith, length-append, eqb-true, eq-eqb, ne_eqb}
use Rattle.std.proofs.Math.ListN.{get_or-eq_default}
use Rattle.std.proofs.lemmas.Bool.{eqb-false}
use Rattle.laws.specs.TabLaws.{length-tab, get_or-tab, set-tab, tab_ext}
use Rattle.tasks.specs.TaskSet.{row}
use Rattle.service.specs.Serve.{moved}
use Rattle.service.specs.MoveLaws.{moved_row, moved-row}
use Rattle.state.proofs.AllLaws.{by_place, loop-of, place_in_lem}
use Rattle.running.specs.Running.{owners_in, counts_in}

pub owner_at : (O : ℕ → List ℕ) (i q : ℕ) → i < 16 → q < 16 → row (owners_in O) (16 * i + q) ≡ get_or (O i) q 0
unfolding owners_in row
owner_at O i q h m = get_or-tab _ 256 (16 * i + q) 0 (omega arith) ∙ rw (loop-of i q m, place_in_lem i q m)

after_first : (os : List ℕ) (q : ℕ) → get_or (drop 1 os) q 0 ≡ get_or os (suc q) 0
after_first [] q = refl
after_first (o ∷ os) q = refl

moved_at :
    (i : ℕ) (l : List ℕ) (j q : ℕ) → q < 16
    → moved_row i l (16 * j + q) ≡ cond (eqb j i) (cond (eqb q 15) 0 (row l (16 * j + q + 1))) (row l (16 * j + q))
unfolding moved_row
moved_at i l j q b = rw (loop-of j q b, place_in_lem j q b)

pub moved-owners :
    (O : ℕ → List ℕ) (i : ℕ) → i < 16 → length (O i) ≤ 16
    → moved i (owners_in O) ≡ owners_in (λ j. cond (eqb j i) (drop 1 (O j)) (O j))
unfolding owners_in
moved-owners O i h few =
    moved-row i (owners_in O) h (length-tab _ 256)
    ∙ tab_ext _ _ 256
    (by_place
    (λ k. moved_row i (owners_in O) k ≡ get_or (cond (eqb (k / 16) i) (drop 1 (O (k / 16))) (O (k / 16))) (k % 16) 0)
    (λ j q a b. rw (loop-of j q b, place_in_lem j q b) (moved_at i (owners_in O) j q b ∙ at j q a b (eqb j i) refl (eqb q 15) refl)))
  where
    at :
        (j q : ℕ) → j < 16 → q < 16 → (b : Bool) → eqb j i ≡ b → (c : Bool) → eqb q 15 ≡ c
        → cond b (cond c 0 (row (owners_in O) (16 * j + q + 1))) (row (owners_in O) (16 * j + q))
        ≡ get_or (cond b (drop 1 (O j)) (O j)) q 0
    at j q a m true e true g =
        rw (eqb-true q 15 g) (sym (after_first (O j) 15 ∙ get_or-eq_default (O j) 0 (rw (eqb-true j i e) few)))
    at j q a m true e false g =
        let n : 16 * j + q + 1 ≡ 16 * j + suc q = omega arith in
        let far : suc q < 16 = small q m (eqb-false q 15 g) in
        rw n (owner_at O j (suc q) a far ∙ sym (after_first (O j) q))
      where
        small : (r : ℕ) → r < 16 → (r ≡ 15 → ⊥) → suc r < 16
        small r l ne = omega arith
    at j q a m false e c g = owner_at O j q a m

-- a list with one owner more, read at place q
joined_at : (os : List ℕ) (e q : ℕ) → get_or (os ++ e ∷ []) q 0 ≡ cond (eqb q (length os)) e (get_or os q 0)
joined_at [] e zero = refl
joined_at [] e (suc q) = rw (ne_eqb (suc q) 0 (λ (z : suc q ≡ 0). omega arith))
joined_at (o ∷ os) e zero = rw (ne_eqb 0 (suc (length os)) (λ (z : 0 ≡ suc (length os)). omega arith))
joined_at (o ∷ os) e (suc q) = joined_at os e q ∙ ap (λ (b : Bool). cond b e (get_or os q 0)) (same (eqb q (length os)) refl)
  where
    same : (b : Bool) → eqb q (length os) ≡ b → eqb q (length os) ≡ eqb (suc q) (suc (length os))
    same true f = f ∙ sym (eq-eqb (suc q) (suc (length os)) (ap suc (eqb-true _ _ f)))
    same false f = f ∙ sym (ne_eqb (suc q) (suc (length os)) (λ (z : suc q ≡ suc (length os)). eqb-false q (length os) f (omega arith)))

pub joined-owners :
    (O : ℕ → List ℕ) (i n e : ℕ) → length (O i) ≡ n → n < 16 → i < 16
    → set (owners_in O) (16 * i + n) e ≡ owners_in (λ j. cond (eqb j i) (O j ++ e ∷ []) (O j))
unfolding owners_in
joined-owners O i n e long few h =
    set-tab (λ k. get_or (O (k / 16)) (k % 16) 0) 256 (16 * i + n) e
    ∙ tab_ext _ _ 256
    (by_place
    (λ k. cond (eqb k (16 * i + n)) e (get_or (O (k / 16)) (k % 16) 0) ≡ get_or (cond (eqb (k / 16) i) (O (k / 16) ++ e ∷ []) (O (k / 16))) (k % 16) 0)
    (λ j q a b. rw (loop-of j q b, place_in_lem j q b) (at j q b (eqb j i) refl)))
  where
    at :
        (j q : ℕ) → q < 16 → (b : Bool) → eqb j i ≡ b
        → cond (eqb (16 * j + q) (16 * i + n)) e (get_or (O j) q 0) ≡ get_or (cond b (O j ++ e ∷ []) (O j)) q 0
    at j q m true f =
        let same = eqb-true j i f in
        rw (same, joined_at (O i) e q, long) (ap (λ (b : Bool). cond b e (get_or (O i) q 0)) (place (eqb q n) refl))
      where
        place : (b : Bool) → eqb q n ≡ b → eqb (16 * i + q) (16 * i + n) ≡ eqb q n
        place true y = rw y (eq-eqb (16 * i + q) (16 * i + n) (omega (arith, eqb-true q n y)))
        place false y = rw y (ne_eqb (16 * i + q) (16 * i + n) (λ (z : 16 * i + q ≡ 16 * i + n). eqb-false q n y (omega arith)))
    at j q m false f =
        rw (ne_eqb (16 * j + q) (16 * i + n) (λ (z : 16 * j + q ≡ 16 * i + n). eqb-false j i f (omega arith)))

-- a loop's count with one owner less or more
counts-set :
    (O : ℕ → List ℕ) (i v : ℕ) (P : ℕ → List ℕ) → length (P i) ≡ v → ((j : ℕ) → eqb j i ≡ false → P j ≡ O j) → set (counts_in O) i v ≡ counts_in P
unfolding counts_in
counts-set O i v P here others =
    set-tab (λ j. length (O j)) 16 i v ∙ tab_ext _ _ 16 (λ j h. at j (eqb j i) refl)
  where
    at : (j : ℕ) (b : Bool) → eqb j i ≡ b → cond b v (length (O j)) ≡ length (P j)
    at j true e = sym (ap (λ (k : ℕ). length (P k)) (eqb-true j i e) ∙ here)
    at j false e = ap length (sym (others j e))

pub count_at : (O : ℕ → List ℕ) (i : ℕ) → i < 16 → row (counts_in O) i ≡ length (O i)
unfolding counts_in row
count_at O i h = get_or-tab (λ j. length (O j)) 16 i 0 h

pub less_one : (os : List ℕ) → length (drop 1 os) ≡ length os - 1
less_one [] = refl
less_one (o ∷ os) = omega arith

pub counts-less : (O : ℕ → List ℕ) (i : ℕ) → i < 16 → set (counts_in O) i (row (counts_in O) i - 1) ≡ counts_in (λ j. cond (eqb j i) (drop 1 (O j)) (O j))
counts-less O i h =
    counts-set O i (row (counts_in O) i - 1) (λ j. cond (eqb j i) (drop 1 (O j)) (O j))
    (rw (eq-eqb i i refl, count_at O i h) (less_one (O i)))
    (λ j e. rw e)

pub counts-more : (O : ℕ → List ℕ) (i e : ℕ) → i < 16 → set (counts_in O) i (row (counts_in O) i + 1) ≡ counts_in (λ j. cond (eqb j i) (O j ++ e ∷ []) (O j))
counts-more O i e h =
    counts-set O i (row (counts_in O) i + 1) (λ j. cond (eqb j i) (O j ++ e ∷ []) (O j))
    (rw (eq-eqb i i refl, count_at O i h) (length-append (O i) (e ∷ [])))
    (λ j q. rw q)
