-- The turns of the code that raises slack.
--     upto-below, upto-above, upto-more    a row that is f below n and g from n on
--     sweep_none, sweep_old, sweep_set    an array changed in order: the start, and a turn
--     changed_more, changed_same                      whether the test held at an index below n
--     zero_array       an array of zeros; divided-low: a number divided by the number of cores is no larger
use Rattle.std.specs.Prelude.{ℕ, ◌+◌, ◌/◌, ◌≤◌, ◌<◌, ◌≡◌, refl, Bool, true, false, cond, List, set, length, get_or, replicate, ltb, eqb}
use Rattle.std.proofs.Common.{sym, ◌∙◌, ap, ⊎_elim, le_trans, div-le_self, arith, lt-ltb, le-ltb, ltb-true, ltb-false, eqb-true}
use Rattle.std.proofs.lemmas.List.{get_or-replicate}
use Rattle.std.proofs.Math.ListN.{get_or-eq_default}
use Rattle.std.proofs.lemmas.Bool.{eqb-false}
use Rattle.laws.specs.First.{first}
use Rattle.laws.specs.FirstLaws.{first_or_none, found_stays, none_more, found_at}
use Rattle.laws.specs.Tab.{tab}
use Rattle.laws.specs.TabLaws.{set-tab, tab_ext, ext_tab, get_or-tab}
use Rattle.tasks.specs.TaskSet.{row}
use Rattle.slack.specs.Arrays.{upto}

module _ (f g : ℕ → ℕ) where
  pub upto-below : (n i : ℕ) → i < n → upto n f g i ≡ f i
  unfolding upto
  upto-below n i h = rw (lt-ltb i n h)

  pub upto-above : (n i : ℕ) → n ≤ i → upto n f g i ≡ g i
  unfolding upto
  upto-above n i h = rw (le-ltb i n h)

  -- at n + 1 the two agree with those at n, but at n
  upto_next : (n i : ℕ) → cond (eqb i n) (f n) (upto n f g i) ≡ upto (n + 1) f g i
  upto_next n i = go (eqb i n) refl
    where
      go : (b : Bool) → eqb i n ≡ b → cond (eqb i n) (f n) (upto n f g i) ≡ upto (n + 1) f g i
      go true e =
          let q = eqb-true i n e in
          rw e (sym (upto-below (n + 1) i (omega arith) ∙ ap f q))
      go false e = rw e (other (ltb i n) refl)
        where
          other : (b : Bool) → ltb i n ≡ b → upto n f g i ≡ upto (n + 1) f g i
          other true l =
              let h = ltb-true i n l in
              upto-below n i h ∙ sym (upto-below (n + 1) i (omega arith))
          other false l =
              let h = ltb-false i n l in
              let k = eqb-false i n e in
              upto-above n i h ∙ sym (upto-above (n + 1) i (omega arith))

  pub upto-more : (n : ℕ) → set (tab (upto n f g) 16) n (f n) ≡ tab (upto (n + 1) f g) 16
  upto-more n = set-tab (upto n f g) 16 n (f n) ∙ tab_ext _ _ 16 (λ i h. upto_next n i)

-- an array of sixteen, changed in order from the row g to the row f
module _ (f g : ℕ → ℕ) (l : List ℕ) (n : ℕ) (h : n < 16) (e : l ≡ tab (upto n f g) 16) where
  pub sweep_old : row l n ≡ g n
  unfolding row
  sweep_old = rw e (get_or-tab (upto n f g) 16 n 0 h ∙ upto-above f g n n (omega arith))

  pub sweep_set : set l n (f n) ≡ tab (upto (n + 1) f g) 16
  sweep_set = ap (λ (x : List ℕ). set x n (f n)) e ∙ upto-more f g n

pub sweep_none : (f : ℕ → ℕ) (l : List ℕ) → length l ≡ 16 → l ≡ tab (upto 0 f (row l)) 16
unfolding row
sweep_none f l e = ext_tab _ l 16 0 e (λ i h. sym (upto-above f (row l) 0 i (omega arith)))

-- whether the test held at an index below n
module _ (p : ℕ → Bool) where
  pub changed_more : (n : ℕ) → p n ≡ true → ltb (first p (n + 1)) (n + 1) ≡ true
  changed_more n e =
      ⊎_elim
      (λ (q : first p n ≡ n). lt-ltb (first p (n + 1)) (n + 1) (omega (arith, found_at p n (n + 1) q e (omega arith))))
      (λ (q : first p n < n). lt-ltb (first p (n + 1)) (n + 1) (omega (arith, found_stays p n (n + 1) q (omega arith))))
      (first_or_none p n)

  pub changed_same : (n : ℕ) (b : Bool) → b ≡ ltb (first p n) n → p n ≡ false → b ≡ ltb (first p (n + 1)) (n + 1)
  changed_same n b k e =
      ⊎_elim
      (λ (q : first p n ≡ n).
      k ∙ le-ltb (first p n) n (omega arith) ∙ sym (le-ltb (first p (n + 1)) (n + 1) (omega (arith, none_more p n q e))))
      (λ (q : first p n < n).
      k ∙ lt-ltb (first p n) n q ∙ sym (lt-ltb (first p (n + 1)) (n + 1) (omega (arith, found_stays p n (n + 1) q (omega arith)))))
      (first_or_none p n)

-- ---- where a search starts, and the number that it raises by

pub zero_array : (k : ℕ) → row (replicate 16 0) k ≡ 0
unfolding row
zero_array k = go (ltb k 16) refl
  where
    go : (b : Bool) → ltb k 16 ≡ b → ◌≡◌ {A = ℕ} (get_or (replicate 16 0) k 0) 0
    go true e = get_or-replicate 16 k 0 0 (ltb-true k 16 e)
    go false e = get_or-eq_default (replicate 16 0) 0 (ltb-false k 16 e)

pub divided-low : (d m c : ℕ) → d ≤ c → 2 ≤ m → d / m ≤ c
divided-low d m c h l = le_trans (div-le_self d m) h
