-- How the test of a plan by 3 to 13 and 28 is put together from its tested-slack and its bounds.
--     test_refused     a refusal of the tested-slack is the plan's
--     tested-limits    what 3 to 12 leave; few-tasks: at most sixteen tasks
--     test_found       a plan marked as found: 12 and 13 against the found slack
--     test_offered     a plan marked as offered: 13
use Rattle.std.specs.Prelude.{Ok, Err, ℕ, ◌≤◌, ◌<◌, ◌≡◌, Bool, cond, List, [], ◌∷◌, ◌⊎◌}
use Rattle.std.proofs.Math.Path.{refl, ap}
use Rattle.std.proofs.Common.{sym, ◌∙◌, inl, inr, arith, eqb-true, ne_eqb}
use Rattle.std.proofs.Math.Bool.{true, false, not}
use Rattle.std.proofs.Math.Logic.{⊎_elim}
use Rattle.std.proofs.Math.Dec.{eqb}
use Rattle.std.proofs.lemmas.Bool.{not-false}
use Rattle.laws.specs.Tab.{tab}
use Rattle.laws.specs.TabLaws.{get_or-tab}
use Rattle.tasks.specs.declared.Plan.{Plan}
use Rattle.tasks.specs.Answer.{Answer, Accepted, Refused}
use Rattle.tasks.specs.TaskSet.{found, bound, row}
use Rattle.tasks.specs.Content.{Content, content_of}
use Rattle.tasks.specs.Tests.{first_met, or_next, found_test, bounds_test, test11, test12, test13, tests}
use Rattle.tasks.specs.AnswerLaws.{lowest_ext, lowest-passed, or_next-passed, first_met-passed}
use Rattle.tasks.specs.Limits.{Limits}
use Rattle.tasks.specs.Terms.{limit_tests, slack_tests}
use Rattle.tasks.proofs.LimitsLaws.{tests_split, limits-passed}
use Rattle.analysis.specs.SlackTest.{offering, offered_test, had_slack}

or_next-refused : (a b : Answer) (j i : ℕ) → or_next a b ≡ Refused j i → (a ≡ Refused j i) ⊎ ((a ≡ Accepted) × (b ≡ Refused j i))
or_next-refused (Ok tt) b j i e = inr (refl, e)
or_next-refused (Err r) b j i e = inl e

last : (a : Answer) → or_next a Accepted ≡ a
last (Ok tt) = refl
last (Err r) = refl

module _ (c : Content) where
  -- 11, and 12 of offered slack
  tested-slack : Answer
  tested-slack = first_met (test11 c ∷ offered_test c ∷ [])

  -- where offered slack meets 12, so does the content
  offered-met : (j i : ℕ) → offered_test c ≡ Refused j i → test12 c ≡ Refused j i
  unfolding offered_test test12
  offered-met j i e = go (eqb c.offers 0) refl
    where
      go : (b : Bool) → eqb c.offers 0 ≡ b → test12 c ≡ Refused j i
      go true z = let w : Accepted ≡ Refused j i = rw z at e in cc
      go false z = rw z (rw z at e)

  slack-refused : (j i : ℕ) → tested-slack ≡ Refused j i → slack_tests c ≡ Refused j i
  unfolding tested-slack slack_tests first_met
  slack-refused j i e =
      ⊎_elim
      (λ (h : test11 c ≡ Refused j i). rw h)
      (λ (h : (test11 c ≡ Accepted) × (or_next (offered_test c) Accepted ≡ Refused j i)).
      rw h.0
      (⊎_elim
      (λ (k : offered_test c ≡ Refused j i). rw (offered-met j i k))
      (λ (k : (offered_test c ≡ Accepted) × (Accepted ≡ Refused j i)). let w = k.1 in cc)
      (or_next-refused (offered_test c) Accepted j i h.1)))
      (or_next-refused (test11 c) (or_next (offered_test c) Accepted) j i e)

  pub test_refused : (j i : ℕ) → or_next (limit_tests c) (first_met (test11 c ∷ offered_test c ∷ [])) ≡ Refused j i → tests c ≡ Refused j i
  unfolding tested-slack
  test_refused j i e =
      tests_split c
      ∙ ⊎_elim
      (λ (h : limit_tests c ≡ Refused j i). rw h)
      (λ (h : (limit_tests c ≡ Accepted) × (first_met (test11 c ∷ offered_test c ∷ []) ≡ Refused j i)).
      rw h.0 (slack-refused j i h.1))
      (or_next-refused (limit_tests c) _ j i e)

  -- none of 3 to 11 is met, nor 12 of offered slack
  module _ (e : or_next (limit_tests c) (first_met (test11 c ∷ offered_test c ∷ [])) ≡ Accepted) where
    limits : limit_tests c ≡ Accepted
    limits = (or_next-passed (limit_tests c) _ e).0

    offered : (test11 c ≡ Accepted) × (offered_test c ≡ Accepted)
    offered =
        let r = first_met-passed (test11 c) _ (or_next-passed (limit_tests c) _ e).1 in
        (r.0, (first_met-passed (offered_test c) _ r.1).0)

    pub tested-limits : Limits c.tasks
    tested-limits = (limits-passed c limits).0

    pub few-tasks : c.tasks.count ≤ 16
    few-tasks = tested-limits.tasks-high

    left : tests c ≡ or_next (test12 c) (test13 c)
    unfolding slack_tests first_met
    left = tests_split c ∙ rw (limits, offered.0) (ap (or_next (test12 c)) (last (test13 c)))

    module _ (had : List ℕ) (eh : had ≡ tab (had_slack c) 16) where
      had-at : (i : ℕ) → i < c.tasks.count → row had i ≡ had_slack c i
      unfolding row
      had-at i h = rw eh (get_or-tab (had_slack c) 16 i 0 (omega (arith, few-tasks)))

      -- 13 with a slack that agrees with the content's
      same-bounds :
          ((i : ℕ) → i < c.tasks.count → row had i ≡ c.slack i) →
          test13 c ≡ bounds_test c.tasks (row had)
      unfolding test13 bound
      same-bounds s = lowest_ext 13 _ _ c.tasks.count (λ i h. rw (s i h))

      accepted-12 : (c.offers ≡ 0 → ⊥) → test12 c ≡ Accepted
      unfolding test12 offered_test
      accepted-12 z = rw (ne_eqb c.offers 0 z) (rw (ne_eqb c.offers 0 z) at offered.1)

      pub test_offered :
          (c.offers ≡ 0 → ⊥) →
          tests c ≡ bounds_test c.tasks (row had)
      unfolding had_slack
      test_offered z =
          left ∙ rw (accepted-12 z) (same-bounds (λ i h. had-at i h ∙ rw (ne_eqb c.offers 0 z)))

      found-12 : c.offers ≡ 0 → test12 c ≡ found_test c.slack (row had) c.tasks.count
      unfolding test12 had_slack
      found-12 z =
          rw z (lowest_ext 12 _ _ c.tasks.count (λ i h. ap (λ (v : ℕ). not (eqb (c.slack i) v)) (sym (had-found i h))))
        where
          had-found : (i : ℕ) → i < c.tasks.count → row had i ≡ row (found c.tasks) i
          had-found i h = had-at i h ∙ rw z

      found-13 :
          (a : Answer) → found_test c.slack (row had) c.tasks.count ≡ a →
          or_next a (test13 c)
          ≡ or_next a (bounds_test c.tasks (row had))
      found-13 (Ok tt) e =
          same-bounds (λ i h. sym (eqb-true (c.slack i) (row had i) (not-false _ (lowest-passed 12 _ c.tasks.count e i h))))
      found-13 (Err r) e = refl

      pub test_found :
          c.offers ≡ 0 →
          tests c
          ≡ or_next (found_test c.slack (row had) c.tasks.count)
          (bounds_test c.tasks (row had))
      test_found z = left ∙ ap (λ (a : Answer). or_next a (test13 c)) (found-12 z) ∙ found-13 _ refl

pub offering-plan : (p : Plan) (k : ℕ) → k ≡ cond p.offered p.tasks 0 → offering p k ≡ content_of p
unfolding offering content_of
offering-plan p k e = rw e
