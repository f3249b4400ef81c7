-- Laws of `first`: what a scan knows while it runs, and what holds at the index that it finds.
--     first_le           first p n is at most n
--     first_step         one index more, at suc n; first_more: at n + 1
--     first_or_none      first p n is below n, or it is n
--     none_more          none below n and none at n: none below n + 1
--     found_at           a scan that stops at i, below n, has found the first below n
--     found_stays        what was found below m is the first below every larger n
--     first_holds        the test holds at an index that was found
--     first-before       it fails at every index before the first
--     first-none         none below n: it fails at every index below n
--     none_first         it fails at every index below n: none below n
--     first_unique       an index at which it holds, with none before, is the first
--     first_ext          tests that agree below n have the same first
--     last_true          where it holds at some index below n there is a last one
--     onward-cases       what holds of each outcome of one turn holds of the turn
use Rattle.std.specs.Prelude.{ℕ, zero, suc, ◌+◌, ◌≤◌, ◌<◌, Bool, true, false, ◌≡◌, refl, ◌⊎◌, ltb}
use Rattle.std.proofs.Common.{true≢false, sym, ◌∙◌, ⊎_elim, not-suc-le-zero, le_of_suc-le-suc, eq-or-lt_of_le, le_antisymm, lt_of_not-le, add-one, arith, ltb-true, ltb-false, le-ltb}
use Rattle.laws.specs.First.{onward, first}

pub onward-cases :
    (P : ℕ → Type 0) (f n : ℕ) (b : Bool) → (f < n → P f) → (n ≤ f → b ≡ true → P n) → (n ≤ f → b ≡ false → P (suc n)) → P (onward f n b)
onward-cases P f n b old here none = go (ltb f n) refl b refl
  where
    go : (l : Bool) → ltb f n ≡ l → (c : Bool) → b ≡ c → P (onward f n b)
    go true e true q = rw e (old (ltb-true f n e))
    go true e false q = rw e (old (ltb-true f n e))
    go false e true q = rw (e, q) (here (ltb-false f n e) q)
    go false e false q = rw (e, q) (none (ltb-false f n e) q)

pub first_step : (p : ℕ → Bool) (n : ℕ) → first p (suc n) ≡ onward (first p n) n (p n)
unfolding first
first_step p n = refl

pub first_more : (p : ℕ → Bool) (n : ℕ) → first p (n + 1) ≡ onward (first p n) n (p n)
first_more p n = rw add-one (first_step p n)

pub first_le : (p : ℕ → Bool) (n : ℕ) → first p n ≤ n
unfolding first
first_le p zero = omega arith
first_le p (suc n) =
    let ih = first_le p n in
    onward-cases (λ k. k ≤ suc n) (first p n) n (p n) (λ h. omega arith) (λ h e. omega arith) (λ h e. omega arith)

pub first_or_none : (p : ℕ → Bool) (n : ℕ) → (first p n ≡ n) ⊎ (first p n < n)
first_or_none p n = eq-or-lt_of_le (first_le p n)

pub first_holds : (p : ℕ → Bool) (n : ℕ) → first p n < n → p (first p n) ≡ true
unfolding first
first_holds p zero h = absurd (not-suc-le-zero h)
first_holds p (suc n) h =
    onward-cases
    (λ k. k < suc n → p k ≡ true)
    (first p n)
    n
    (p n)
    (λ l _. first_holds p n l)
    (λ l e _. e)
    (λ l e m. absurd (omega arith))
    h

pub first-before : (p : ℕ → Bool) (n i : ℕ) → i < first p n → p i ≡ false
unfolding first
first-before p zero i h = absurd (not-suc-le-zero h)
first-before p (suc n) i h =
    onward-cases
    (λ k. i < k → p i ≡ false)
    (first p n)
    n
    (p n)
    (λ l m. first-before p n i m)
    (λ l e m. first-before p n i (omega arith))
    (λ l e m. ⊎_elim (λ (q : i ≡ n). rw q e) (λ (q : i < n). first-before p n i (omega arith)) (eq-or-lt_of_le (le_of_suc-le-suc m)))
    h

pub first-none : (p : ℕ → Bool) (n : ℕ) → first p n ≡ n → (i : ℕ) → i < n → p i ≡ false
first-none p n e i h = first-before p n i (omega arith)

pub none_first : (p : ℕ → Bool) (n : ℕ) → ((i : ℕ) → i < n → p i ≡ false) → first p n ≡ n
none_first p n none =
    ⊎_elim (λ e. e) (λ (l : first p n < n). absurd (true≢false (sym (first_holds p n l) ∙ none (first p n) l))) (first_or_none p n)

pub first_unique : (p : ℕ → Bool) (n i : ℕ) → i < n → p i ≡ true → ((j : ℕ) → j < i → p j ≡ false) → first p n ≡ i
first_unique p n i h e none =
    let early : first p n < i → ⊥ = λ l. true≢false (sym (first_holds p n (omega arith)) ∙ none (first p n) l) in
    let late : i < first p n → ⊥ = λ l. true≢false (sym e ∙ first-before p n i l) in
    le_antisymm (le_of_suc-le-suc (lt_of_not-le (λ l. late l))) (le_of_suc-le-suc (lt_of_not-le (λ l. early l)))

pub found_at : (p : ℕ → Bool) (i n : ℕ) → first p i ≡ i → p i ≡ true → i < n → first p n ≡ i
found_at p i n e t h = first_unique p n i h t (first-none p i e)

pub found_stays : (p : ℕ → Bool) (m n : ℕ) → first p m < m → m ≤ n → first p n ≡ first p m
found_stays p m n h l = first_unique p n (first p m) (omega arith) (first_holds p m h) (first-before p m)

pub none_more : (p : ℕ → Bool) (n : ℕ) → first p n ≡ n → p n ≡ false → first p (n + 1) ≡ n + 1
none_more p n e f = first_more p n ∙ rw (e, f, le-ltb n n (omega arith), add-one)

pub first_ext : (p q : ℕ → Bool) (n : ℕ) → ((i : ℕ) → i < n → p i ≡ q i) → first p n ≡ first q n
unfolding first
first_ext p q zero same = refl
first_ext p q (suc n) same = rw (first_ext p q n (λ i h. same i (omega arith)), same n (omega arith))

pub last_true :
    (p : ℕ → Bool) (n j : ℕ) → j < n → p j ≡ true
    → (k : ℕ) × (j ≤ k) × (k < n) × (p k ≡ true) × ((i : ℕ) → k < i → i < n → p i ≡ false)
last_true p zero j h e = absurd (not-suc-le-zero h)
last_true p (suc n) j h e = go (p n) refl (λ less. last_true p n j less e)
  where
    go :
        (b : Bool) → p n ≡ b
        → (j < n → (k : ℕ) × (j ≤ k) × (k < n) × (p k ≡ true) × ((i : ℕ) → k < i → i < n → p i ≡ false))
        → (k : ℕ) × (j ≤ k) × (k < suc n) × (p k ≡ true) × ((i : ℕ) → k < i → i < suc n → p i ≡ false)
    go true q ih = (n, omega arith, omega arith, q, λ i a b. absurd (omega arith))
    go false q ih =
        let less : j < n =
        ⊎_elim (λ (m : j ≡ n). absurd (true≢false (sym e ∙ rw m q))) (λ (m : j < n). m) (eq-or-lt_of_le (le_of_suc-le-suc h)) in
        let r = ih less in (
          r.0,
          r.1,
          omega (arith, r.2),
          r.3,
          λ i a b. ⊎_elim (λ (m : i ≡ n). rw m q) (λ (m : i < n). r.4 i a m) (eq-or-lt_of_le (le_of_suc-le-suc b)),
        )
