-- Laws of the fixed words. Each is a test that is computed over the whole table, and holds of every number, since all others share their words.
--     beyond          the numbers after the last known one have the words of 0
--     others          every number outside the table has the words of 0
--     between         a test that holds of the words of a row of numbers holds of each one's
--     of-all          a test that holds of the words of 0 and of the known numbers holds of every number's
--     place-apart, rule-apart    no words begin with a digit
--     place-plain, rule-plain    none has a full stop or a byte that is not printed
--     place_short, rule-short    none is longer than 16 and 160 bytes
--     places          the words before the index that a row of numbers shares
--     ruled           words stored for a number are stored for one that is equal to it
--     rule-own        each number of the table has a rule that no other number has
use Rattle.std.specs.Prelude.{ℕ, zero, suc, ◌+◌, ◌-◌, ◌≤◌, ◌<◌, Bool, true, not, ◌≡◌, refl, ◌⊎◌, List, length, eqb, leb}
use Rattle.std.proofs.Common.{sym, subst, ap, ◌∙◌, ⊎_elim, inl, inr, arith, eqb→eq, leb-true, eqb-true}
use Rattle.std.proofs.Math.ListN.{get_or-eq_default}
use Rattle.std.proofs.lemmas.Bool.{not-false}
use Rattle.laws.specs.First.{first}
use Rattle.laws.specs.FirstLaws.{first-none}
use Rattle.laws.specs.Every.{every, same_list}
use Rattle.laws.specs.EveryLaws.{below_or_not, same_list_lem}
use Rattle.decimal.specs.Decimal.{words, digit, Stored}
use Rattle.wording.specs.Sentence.{Wording, wordings, other_wording, last_known, Known, wording}
use Rattle.wording.specs.WordingLaws.{holds, apart, plain}

pub beyond : (k : ℕ) → last_known < k → wording k ≡ wording 0
unfolding wording wordings
beyond zero h = absurd (omega arith)
beyond (suc j) h = get_or-eq_default wordings other_wording {n = j} (omega arith)

listed_or_not : (k : ℕ) → (k ≤ last_known) ⊎ (last_known < k)
listed_or_not k = ⊎_elim (λ (h : k < suc last_known). inl (omega arith)) (λ (h : suc last_known ≤ k). inr h) (below_or_not k (suc last_known))

pub others : (k : ℕ) → (Known k → ⊥) → wording k ≡ wording 0
others zero h = refl
others (suc j) h =
    ⊎_elim
    (λ (l : suc j ≤ last_known). absurd (h (omega arith, l)))
    (λ (l : last_known < suc j). beyond (suc j) l)
    (listed_or_not (suc j))

held : (p : ℕ → Bool) (n k : ℕ) → holds p n → k < n → p k ≡ true
held p n k t h = not-false (p k) (first-none (λ k. not (p k)) n (eqb→eq _ n t) k h)

pub between : (p : Wording → Bool) (a n : ℕ) → holds (λ j. p (wording (a + j))) n → (k : ℕ) → a ≤ k → k < a + n → p (wording k) ≡ true
between p a n t k h l =
    let e : a + (k - a) ≡ k = omega arith in
    subst (λ (j : ℕ). p (wording j) ≡ true) e (held (λ j. p (wording (a + j))) n (k - a) t (omega arith))

pub of-all : (p : Wording → Bool) → holds (λ k. p (wording k)) (suc last_known) → (k : ℕ) → p (wording k) ≡ true
of-all p t k =
    ⊎_elim
    (λ (h : k ≤ last_known). held (λ k. p (wording k)) (suc last_known) k t (omega arith))
    (λ (h : last_known < k). rw (beyond k h) (held (λ k. p (wording k)) (suc last_known) 0 t (omega arith)))
    (listed_or_not k)

pub place-apart : (k : ℕ) → apart (wording k).place ≡ true
unfolding wording wordings words first apart digit
place-apart = of-all (λ w. apart w.place) tt

pub rule-apart : (k : ℕ) → apart (wording k).rule ≡ true
unfolding wording wordings words first apart digit
rule-apart = of-all (λ w. apart w.rule) tt

pub place-plain : (k : ℕ) → every plain (wording k).place ≡ true
unfolding wording wordings words first every plain
place-plain = of-all (λ w. every plain w.place) tt

pub rule-plain : (k : ℕ) → every plain (wording k).rule ≡ true
unfolding wording wordings words first every plain
rule-plain = of-all (λ w. every plain w.rule) tt

pub place_short : (k : ℕ) → length (wording k).place ≤ 16
unfolding wording wordings words first
place_short k = leb-true _ 16 (of-all (λ w. leb (length w.place) 16) tt k)

pub rule-short : (k : ℕ) → length (wording k).rule ≤ 160
unfolding wording wordings words first
rule-short k = leb-true _ 160 (of-all (λ w. leb (length w.rule) 160) tt k)

pub places : (w : List ℕ) (a n : ℕ) → holds (λ j. same_list (wording (a + j)).place w) n → (k : ℕ) → a ≤ k → k < a + n → (wording k).place ≡ w
places w a n t k h l = same_list_lem _ w (between (λ x. same_list x.place w) a n t k h l)

-- the first number with this rule
unfoldable seek : List ℕ → ℕ
seek r = first (λ k. same_list r (wording k).rule) (suc last_known)

seek-own : (k : ℕ) → k ≤ last_known → seek (wording k).rule ≡ k
unfolding wording wordings words first same_list seek
seek-own k h = eqb-true _ k (held (λ k. eqb (seek (wording k).rule) k) (suc last_known) k tt (omega arith))

pub rule-own : (k l : ℕ) → Known k → (wording k).rule ≡ (wording l).rule → k ≡ l
rule-own k l h e =
    ⊎_elim
    (λ (m : l ≤ last_known). sym (seek-own k (omega arith)) ∙ ap seek e ∙ seek-own l m)
    (λ (m : last_known < l).
    let zero_is : k ≡ 0 = sym (seek-own k (omega arith)) ∙ ap seek e ∙ ap (λ (w : Wording). seek w.rule) (beyond l m) ∙ seek-own 0 (omega arith) in
    absurd (omega arith))
    (listed_or_not l)

pub ruled : (k : ℕ) {n at end : ℕ} {l u : List ℕ} → n ≡ k → Stored l at (wording k).rule end u → Stored l at (wording n).rule end u
ruled k e s = rw e s
