-- Turns of a raising, if a turn never takes off what a smaller row would get, and takes nothing above a ceiling.
--     at                        a list as a row, 0 past its end
--     same_true, same_false     whether two lists agree below n, by indices
--     Rising                    on the way: the next turn takes nothing off
--     turn                      one turn
--     settles                   enough turns end at a row that the next leaves as it is
use Prim.Native.Nat.{ℕ, zero, suc, ◌+◌, ◌*◌, ◌≤◌, ◌<◌}
use Rattle.std.specs.Prelude.{◌≡◌, List, ◌≢◌, length, get_or, eqb}
use Rattle.std.proofs.Math.Path.{refl}
use Rattle.std.proofs.Common.{sym, le_trans, arith}
use Rattle.std.proofs.Math.Bool.{Bool, true, false, not}
use Rattle.std.proofs.Math.Arith.{lt_of_le-ne}
use borrow.Author.Tests.{eqb-true, eqb-false, not-true, not-false}
use Rattle.laws.specs.First.{first}
use Rattle.laws.specs.FirstLaws.{first_le, first_holds, first-none}
use Rattle.laws.specs.Sum.{sum}
use Rattle.laws.specs.SumLaws.{sum_less, sum_le_mul}
use Rattle.laws.specs.Tab.{tab}
use Rattle.laws.specs.TabLaws.{get_or-tab, length-tab}
use Rattle.laws.specs.Settle.{same, unless, settle}
use Rattle.laws.specs.Settle.{Settled}

-- a list as a row, 0 past its end
abbrev pub at : List ℕ → ℕ → ℕ
at x k = get_or x k 0

module _ (n : ℕ) (x y : List ℕ) where
  pub same_true : same n x y ≡ true → (k : ℕ) → k < n → get_or x k 0 ≡ get_or y k 0
  unfolding same
  same_true e k h = eqb-true _ _ (not-false _ (first-none _ n (eqb-true _ _ e) k h))

  pub same_false : same n x y ≡ false → (k : ℕ) × (k < n) × (get_or x k 0 ≢ get_or y k 0)
  unfolding same
  same_false e =
      let p : ℕ → Bool = λ k. not (eqb (at x k) (at y k)) in
      let h : first p n < n = lt_of_le-ne (first_le p n) (eqb-false _ _ e) in
      (first p n, h, eqb-false _ _ (not-true _ (first_holds p n h)))

module _ (g : (ℕ → ℕ) → ℕ → ℕ) (n c : ℕ)
    (mono : (x y : ℕ → ℕ) → ((k : ℕ) → k < n → x k ≤ y k) → (k : ℕ) → k < n → g x k ≤ g y k)
    (high : (k : ℕ) → k < n → g (λ i. c) k ≤ c)
  where
    -- on the way: the next turn takes nothing off
    pub record Rising (x : List ℕ) : Type 0 where
      pub rises : (k : ℕ) → k < n → at x k ≤ g (at x) k
      pub least : (v : ℕ → ℕ) → ((k : ℕ) → k < n → g v k ≤ v k) → (k : ℕ) → k < n → at x k ≤ v k
      pub long : length x ≡ n

    unfoldable pub turn : List ℕ → List ℕ
    turn x = tab (g (at x)) n

    turned : (x : List ℕ) (k : ℕ) → k < n → at (turn x) k ≡ g (at x) k
    unfolding turn
    turned x k h = get_or-tab _ n k 0 h

    rising-turn : (x : List ℕ) → Rising x → Rising (turn x)
    unfolding turn
    rising-turn x r =
        record {
          rises = λ k h. rw (turned x k h) (mono (at x) (at (turn x)) (λ i l. rw (turned x i l) (r.rises i l)) k h);
          least = λ v p k h. rw (turned x k h) (le_trans (mono (at x) v (r.least v p) k h) (p k h));
          long = length-tab _ n;
        }

    rising-sum : (x : List ℕ) → Rising x → sum (at x) n ≤ n * c
    rising-sum x r = sum_le_mul (at x) c n (r.least (λ i. c) high)

    -- enough turns are left to reach the ceiling
    pub settles : (f : ℕ) (x : List ℕ) → Rising x → n * c < f + sum (at x) n → Settled g n (settle turn n f x)
    unfolding settle
    settles zero x r h = absurd (omega (arith, rising-sum x r))
    settles (suc f) x r h = go (same n x (turn x)) refl (settles f (turn x) (rising-turn x r))
      where
        go :
            (b : Bool) → same n x (turn x) ≡ b
            → (n * c < f + sum (at (turn x)) n → Settled g n (settle turn n f (turn x)))
            → Settled g n (unless b (settle turn n f) x (turn x))
        go true e rest =
            record { still = λ k h. rw (← turned x k h) (sym (same_true n x (turn x) e k h)); least = r.least; long = r.long }
        go false e rest =
            let d = same_false n x (turn x) e in
            rest (omega (arith, sum_less (at x) (at (turn x)) n (λ k l. rw (turned x k l) (r.rises k l)) d.0 d.1 d.2))
