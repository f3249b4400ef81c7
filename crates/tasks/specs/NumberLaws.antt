-- Which number a refusal has, and which test it comes from.
--     Lowest                        the lowest index below n where p holds
--     lowest-met, met-lowest        lowest k p n is a refusal exactly there, by k
--     refuse-number, lowest-number, either_number    the number of a test is at most m where its parts' are
--     Numbers                       and so is that of the first that a list of such tests meets: _also_, no_more
--     tests-number                  those of a content are at most 28
--     met_next                      a refusal by a number that the first test doesn't have comes from the rest
--     met-first                     one by a number that the rest doesn't have comes from the first test
use Rattle.std.specs.Prelude.{Ok, Err, ℕ, ◌≤◌, ◌<◌, ◌≡◌, refl, Bool, cond, List, [], ◌∷◌, ◌≢◌, ltb, eqb}
use native.Mathlib.Omega.{arith}
use Rattle.std.proofs.Common.{sym, ap, ◌∙◌, true≢false, ⊎_elim}
use Rattle.std.proofs.Math.Bool.{true, false}
use Rattle.laws.specs.First.{first}
use Rattle.laws.specs.FirstLaws.{first_or_none, first_holds, first-before, first_unique}
use Rattle.tasks.specs.Answer.{Answer, Accepted, Refused}
use Rattle.tasks.specs.Content.{Content}
use Rattle.tasks.specs.Tests.{refuse, refuse_at, lowest, first_met, number_of, index_of, bad_cores, bad_count, bad_multiple, bad_shares, bad_offers, test3, test4, test5, test6, test7, test8, test28, test9, test10, test11, test12, test13, tests}
use Rattle.tasks.specs.AnswerLaws.{lowest-none, lowest-found}

pub record Lowest (p : ℕ → Bool) (n i : ℕ) : Type 0 where
  pub inside : i < n
  pub here : p i ≡ true
  pub before : (j : ℕ) → j < i → p j ≡ false

module _ (k : ℕ) (p : ℕ → Bool) (n : ℕ) where
  pub lowest-met : (m i : ℕ) → lowest k p n ≡ Refused m i → (m ≡ k) × Lowest p n i
  lowest-met m i e =
      ⊎_elim (λ (q : first p n ≡ n). let w = lowest-none k p n q in (cc, absurd (true≢false cc)))
      (λ (h : first p n < n).
      let w : Refused m i ≡ Refused k (first p n) = sym e ∙ lowest-found k p n (first p n) refl h in
      let at : i ≡ first p n = ap index_of w in
      (ap number_of w, rw at (record { inside = h; here = first_holds p n h; before = first-before p n })))
      (first_or_none p n)

  pub met-lowest : (i : ℕ) → Lowest p n i → lowest k p n ≡ Refused k i
  met-lowest i l = lowest-found k p n i (first_unique p n i l.inside l.here l.before) l.inside

-- ---- numbers are at most m

module _ (m : ℕ) where
  pub refuse-number : (k : ℕ) (b : Bool) → k ≤ m → number_of (refuse k b) ≤ m
  refuse-number k true h = h
  refuse-number k false h = omega arith

  pub lowest-number : (k : ℕ) (p : ℕ → Bool) (n : ℕ) → k ≤ m → number_of (lowest k p n) ≤ m
  unfolding lowest
  lowest-number k p n h = go (ltb (first p n) n)
    where
      go : (b : Bool) → number_of (refuse_at k b (first p n)) ≤ m
      go true = h
      go false = omega arith

  pub either_number : (b : Bool) (x y : Answer) → number_of x ≤ m → number_of y ≤ m → number_of (cond b x y) ≤ m
  either_number true x y h l = h
  either_number false x y h l = l

-- the first refusal that a list of tests meets has the number of one of them
pub record Numbers (m : ℕ) (l : List Answer) : Type 0 where
  pub first-number : number_of (first_met l) ≤ m

infixr 5 ◌also◌
pub ◌also◌ : {m : ℕ} {a : Answer} {l : List Answer} → number_of a ≤ m → Numbers m l → Numbers m (a ∷ l)
unfolding first_met
◌also◌ {a = Ok tt} h r = record { first-number = r.first-number }
◌also◌ {a = Err e} h r = record { first-number = h }

pub no_more : {m : ℕ} → Numbers m []
unfolding first_met
no_more = record { first-number = omega arith }

pub tests-number : (c : Content) → number_of (tests c) ≤ 28
unfolding tests test3 test4 test5 test6 test7 test8 test28 test9 test10 test11 test12 test13
tests-number c =
    let one : (k : ℕ) (b : Bool) → k ≤ 28 → number_of (refuse k b) ≤ 28 = refuse-number 28 in
    let at : (k : ℕ) (p : ℕ → Bool) (n : ℕ) → k ≤ 28 → number_of (lowest k p n) ≤ 28 = lowest-number 28 in
    let all : Numbers 28 (test3 c ∷ test4 c ∷ test5 c ∷ test6 c ∷ test7 c ∷ test8 c ∷ test28 c ∷ test9 c ∷ test10 c ∷ test11 c ∷ test12 c ∷ test13 c ∷ []) =
    one 3 (bad_cores c.tasks.cores) (omega arith)
    also at 4 _ _ (omega arith)
    also one 5 (bad_count 1 c.tasks.count) (omega arith)
    also at 6 _ _ (omega arith)
    also at 7 _ _ (omega arith)
    also at 8 _ _ (omega arith)
    also at 28 _ _ (omega arith)
    also one 9 (bad_multiple c.tasks) (omega arith)
    also one 10 (bad_shares c.tasks) (omega arith)
    also one 11 (bad_offers c.tasks c.offers) (omega arith)
    also either_number 28 (eqb c.offers 0) _ _ (at 12 _ _ (omega arith)) (at 12 _ _ (omega arith))
    also at 13 _ _ (omega arith)
    also no_more in
    all.first-number

-- ---- the test that a refusal comes from

pub met_next : (a : Answer) (l : List Answer) (k i : ℕ) → number_of a ≢ k → first_met (a ∷ l) ≡ Refused k i → (a ≡ Accepted) × (first_met l ≡ Refused k i)
unfolding first_met
met_next (Ok tt) l k i ne e = (refl, e)
met_next (Err r) l k i ne e = absurd (ne (ap number_of e))

pub met-first : (a : Answer) (l : List Answer) (k i : ℕ) → number_of (first_met l) ≢ k → first_met (a ∷ l) ≡ Refused k i → a ≡ Refused k i
unfolding first_met
met-first (Ok tt) l k i ne e = absurd (ne (ap number_of e))
met-first (Err r) l k i ne e = e
