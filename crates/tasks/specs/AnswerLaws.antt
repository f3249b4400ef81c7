-- Laws of the parts that the tests are made of: a refusal at 0, at the lowest index, and the first of a list of tests.
--     refuse-passed      refuse k b is no refusal exactly where b is false; refuse-met: where b is true
--     lowest-passed, pass_lowest      lowest k p n is no refusal exactly where p is false below n
--     lowest-none, lowest-found       its value by what the search for p below n found
--     lowest_ext                      tests that agree below n are met alike
--     first_met-none, first_met_alone   no test, and one
--     first_met_pass, first_met-stop    a list that begins with a test passed, or met
--     first_met-passed, pass_first_met  no test of a list is met: not its first, and none of the rest
--     first_met-append                 tests of one list, then of another: or_next
--     or_next_assoc, or_next-passed     of which neither is met where no refusal comes out
--     neither                         an `or` that is false has both its parts false
--     outside-passed, pass_outside    outside low high x is false exactly where x is low to high
use Rattle.std.specs.Prelude.{Ok, Err, ℕ, ◌≤◌, ◌<◌, ◌≡◌, refl, Bool, true, false, ◌||◌, List, [], ◌∷◌, ◌++◌, ltb}
use Rattle.std.proofs.Common.{◌∙◌, true≢false, ⊎_elim, arith}
use borrow.Author.Tests.{ltb-false, lt-ltb, le-ltb}
use Rattle.laws.specs.First.{first}
use Rattle.laws.specs.FirstLaws.{first_or_none, first-none, none_first, first_ext}
use Rattle.tasks.specs.Answer.{Answer, Accepted, Refused}
use Rattle.tasks.specs.Tests.{refuse, lowest, or_next, first_met, outside}

pub refuse-passed : (k : ℕ) (b : Bool) → refuse k b ≡ Accepted → b ≡ false
refuse-passed k true e = cc
refuse-passed k false e = refl

pub refuse-met : (k : ℕ) (b : Bool) → b ≡ true → refuse k b ≡ Refused k 0
refuse-met k b e = rw e

module _ (k : ℕ) (p : ℕ → Bool) (n : ℕ) where
  pub lowest-none : first p n ≡ n → lowest k p n ≡ Accepted
  unfolding lowest
  lowest-none e = rw (le-ltb (first p n) n (omega arith))

  pub lowest-found : (i : ℕ) → first p n ≡ i → i < n → lowest k p n ≡ Refused k i
  unfolding lowest
  lowest-found i e h = rw (e, lt-ltb i n h)

  pub pass_lowest : ((i : ℕ) → i < n → p i ≡ false) → lowest k p n ≡ Accepted
  pass_lowest none = lowest-none (none_first p n none)

  pub lowest-passed : lowest k p n ≡ Accepted → (i : ℕ) → i < n → p i ≡ false
  lowest-passed a =
      ⊎_elim (λ (e : first p n ≡ n). first-none p n e)
      (λ (h : first p n < n). λ i l. let e = lowest-found (first p n) refl h in cc)
      (first_or_none p n)

pub lowest_ext : (k : ℕ) (p q : ℕ → Bool) (n : ℕ) → ((i : ℕ) → i < n → p i ≡ q i) → lowest k p n ≡ lowest k q n
unfolding lowest
lowest_ext k p q n same = rw (first_ext p q n same)

pub or_next_assoc : (a b c : Answer) → or_next (or_next a b) c ≡ or_next a (or_next b c)
or_next_assoc (Ok tt) b c = refl
or_next_assoc (Err r) b c = refl

pub or_next-passed : (a b : Answer) → or_next a b ≡ Accepted → (a ≡ Accepted) × (b ≡ Accepted)
or_next-passed (Ok tt) b e = (refl, e)
or_next-passed (Err r) b e = (cc, cc)

pub first_met-none : first_met [] ≡ Accepted
unfolding first_met
first_met-none = refl

pub first_met_alone : (a : Answer) → first_met (a ∷ []) ≡ a
unfolding first_met
first_met_alone (Ok tt) = refl
first_met_alone (Err r) = refl

pub first_met_pass : (a : Answer) (l : List Answer) → a ≡ Accepted → first_met (a ∷ l) ≡ first_met l
unfolding first_met
first_met_pass a l e = rw e

pub first_met-stop : (a : Answer) (l : List Answer) (k i : ℕ) → a ≡ Refused k i → first_met (a ∷ l) ≡ Refused k i
unfolding first_met
first_met-stop a l k i e = rw e

pub first_met-passed : (a : Answer) (l : List Answer) → first_met (a ∷ l) ≡ Accepted → (a ≡ Accepted) × (first_met l ≡ Accepted)
unfolding first_met
first_met-passed a l e = or_next-passed a (first_met l) e

pub pass_first_met : (a : Answer) (l : List Answer) → a ≡ Accepted → first_met l ≡ Accepted → first_met (a ∷ l) ≡ Accepted
pass_first_met a l e f = first_met_pass a l e ∙ f

pub first_met-append : (l m : List Answer) → first_met (l ++ m) ≡ or_next (first_met l) (first_met m)
unfolding first_met
first_met-append [] m = refl
first_met-append (a ∷ l) m = rw (first_met-append l m, or_next_assoc a (first_met l) (first_met m))

pub neither : (a b : Bool) → a || b ≡ false → (a ≡ false) × (b ≡ false)
neither true b e = absurd (true≢false e)
neither false b e = (refl, e)

pub outside-passed : (low high x : ℕ) → outside low high x ≡ false → (low ≤ x) × (x ≤ high)
unfolding outside
outside-passed low high x e =
    let n = neither (ltb x low) (ltb high x) e in
    (ltb-false x low n.0, ltb-false high x n.1)

pub pass_outside : (low high x : ℕ) → low ≤ x → x ≤ high → outside low high x ≡ false
unfolding outside
pass_outside low high x h l = rw (le-ltb x low h, le-ltb high x l)
