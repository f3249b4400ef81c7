-- The judging of what a table says: 3 to 12, and then 13 with the slack that it has.
--     judging          that answer
--     judging-tests    of a content whose slack is the slack that it has, it is the tests' answer
--     judging-found    where no slack is offered, the slack that stands in the content is not looked at
--     judging-limits, judging-count    where one of 3 to 11 is met, that is the answer
use Rattle.std.specs.Prelude.{Ok, Err, ℕ, ◌<◌, ◌≡◌, Bool, [], ◌∷◌}
use Rattle.std.proofs.Math.Path.{refl, sym, ap}
use Rattle.std.proofs.Common.{◌∙◌, arith, eqb-true, eq-eqb}
use Rattle.std.proofs.Math.Bool.{true, false, not}
use Rattle.std.proofs.Math.Dec.{eqb}
use Rattle.std.proofs.lemmas.Bool.{eqb-false}
use Rattle.laws.specs.Tab.{tab}
use Rattle.laws.specs.TabLaws.{get_or-tab}
use Rattle.tasks.specs.Answer.{Answer, Accepted, Refused}
use Rattle.tasks.specs.TaskSet.{TaskSet, row}
use Rattle.tasks.specs.Content.{Content}
use Rattle.tasks.specs.Tests.{first_met, or_next, found_test, bounds_test, test3, test4, test5, test6, test7, test8, test28, test9, test10, test11, tests}
use Rattle.tasks.specs.AnswerLaws.{pass_lowest}
use Rattle.tasks.specs.Terms.{limit_tests}
use Rattle.analysis.specs.SlackTest.{offered_test, had_slack}
use Rattle.analysis.specs.PlanTestLaws.{test_refused, few-tasks, test_found, test_offered}

-- 3 to 12
abbrev pub tested_by : Content → Answer
tested_by c = or_next (limit_tests c) (first_met (test11 c ∷ offered_test c ∷ []))

unfoldable pub judging : Content → Answer
judging c = or_next (tested_by c) (bounds_test c.tasks (row (tab (had_slack c) 16)))

module _ (c : Content) (same : (i : ℕ) → i < c.tasks.count → c.slack i ≡ had_slack c i) where
  -- where slack is not offered, the found one never meets 12
  twelve : tested_by c ≡ Accepted → found_test c.slack (row (tab (had_slack c) 16)) c.tasks.count ≡ Accepted
  unfolding row
  twelve e =
      pass_lowest 12 _ c.tasks.count
      (λ i h. ap not (eq-eqb _ _ (same i h ∙ sym (get_or-tab (had_slack c) 16 i 0 (omega (arith, few-tasks c e))))))

  pub judging-tests : judging c ≡ tests c
  unfolding judging
  judging-tests = go (tested_by c) refl (eqb c.offers 0) refl
    where
      go : (a : Answer) → tested_by c ≡ a → (b : Bool) → eqb c.offers 0 ≡ b → judging c ≡ tests c
      go (Err r) e b z = rw e (sym (test_refused c r.number r.index e))
      go (Ok tt) e true z = rw e (sym (test_found c e (tab (had_slack c) 16) refl (eqb-true _ _ z) ∙ rw (twelve e)))
      go (Ok tt) e false z = rw e (sym (test_offered c e (tab (had_slack c) 16) refl (eqb-false _ _ z)))

other :
    (e : ℕ) (t : TaskSet) (l x y : ℕ → ℕ) →
    judging (record { edition = e; tasks = t; label = l; offers = 0; slack = x })
    ≡ judging (record { edition = e; tasks = t; label = l; offers = 0; slack = y })
unfolding judging limit_tests test3 test4 test5 test6 test7 test8 test28 test9 test10 test11 offered_test had_slack
other e t l x y = refl

-- 11 looks at the three counts only
eleven : (c d : Content) → c.tasks.cores ≡ d.tasks.cores → c.tasks.count ≡ d.tasks.count → c.offers ≡ d.offers → test11 c ≡ test11 d
unfolding test11
eleven c d m n o = rw (m, n, o)

pub judging-limits : (c d : Content) (j i : ℕ) → limit_tests c ≡ limit_tests d → limit_tests d ≡ Refused j i → judging c ≡ judging d
unfolding judging
judging-limits c d j i e q = rw (e, q)

module _ (c d : Content) (e : c.edition ≡ d.edition) (t : c.tasks ≡ d.tasks) (l : c.label ≡ d.label) (o : c.offers ≡ d.offers) where
  pub judging-found : c.offers ≡ 0 → judging c ≡ judging d
  judging-found z =
      (λ i. judging (record { edition = e i; tasks = t i; label = l i; offers = z i; slack = c.slack }))
      ∙ other d.edition d.tasks d.label c.slack d.slack
      ∙ (λ i. judging (record { edition = d.edition; tasks = d.tasks; label = d.label; offers = (sym z ∙ o) i; slack = d.slack }))

  pub judging-count : (j i : ℕ) → limit_tests c ≡ limit_tests d → limit_tests d ≡ Accepted → test11 d ≡ Refused j i → judging c ≡ judging d
  unfolding judging first_met
  judging-count j i f q v =
      let w : test11 c ≡ Refused j i = count_same ∙ v in
      rw (f, q, v, w)
    where
      count_same : test11 c ≡ test11 d
      count_same = eleven c d (ap (λ (s : TaskSet). s.cores) t) (ap (λ (s : TaskSet). s.count) t) o
