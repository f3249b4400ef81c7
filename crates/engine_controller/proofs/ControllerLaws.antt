-- Whatever calls a controller in C makes on words that it lends: it sees what the delivered engine answers, so every claim of that engine holds.
--     Plain, refuse-plain, next-plain      a refusal with a number and index 0
--     step-plain, release-plain            the refusals of a step and of a release are such
--     number-back                          the answer to a release, from its number
--     controller_mirrors                   the C calls give the answers of `open`, `release` and `step`
--     controller_says                      the lent words say the engine's state, after any calls
--     controller_history                   the claim of all histories, of the C calls
--     controller_responses                 each response that a step leaves is at most its loop's bound
use Rattle.std.specs.Prelude.{Ok, Err, ℕ, zero, suc, ◌+◌, ◌*◌, ◌/◌, ◌≤◌, ◌<◌, Bool, true, false, ◌&&◌, ◌≡◌, List, [], ◌∷◌, replicate}
use Rattle.std.proofs.Math.Bool.{not}
use Rattle.std.proofs.Math.Path.{refl, sym, ap, subst}
use Rattle.std.proofs.Common.{◌∙◌, arith}
use Rattle.std.proofs.Math.Option.{Option}
use Rattle.std.proofs.Math.Dec.{eqb}
use borrow.Author.Tests.{ne_eqb}
use Rattle.laws.specs.Member.{member}
use Rattle.tasks.specs.Answer.{Answer, Accepted, Refused}
use Rattle.tasks.specs.Numbers.{clock_end}
use Rattle.tasks.specs.TaskSet.{bound, row}
use Rattle.tasks.specs.Tests.{refuse, or_next, first_met, unless_refused}
use Rattle.codec.specs.Table.{content_in, verdict}
use Rattle.table.specs.Judged.{judged}
use Rattle.machine.specs.Machine.{within, crowded, idle}
use Rattle.machine.specs.Admission.{unknown, bad_demand, join_tests, admit_tests}
use Rattle.state.specs.declared.State.{State}
use Rattle.state.specs.State.{machine_of}
use Rattle.state.specs.SoundState.{all_of, sound_of}
use Rattle.state.specs.Calls.{tasks_of, open_of, release_of, release_tests, step_of, step_tests, not_stepped}
use Rattle.history.specs.Engine.{outcome_of, Call, clock, state, HistoryClaim}
use Rattle.history.specs.Mirror.{Mirrors}
use Rattle.history.proofs.Mirror.{like, mirror_history}
use Rattle.delivered.specs.Delivered.{names_as_running, nothing_pending}
use Rattle.delivered.specs.Demand3.{run_on}
use Rattle.delivered.proofs.Demand3.{demand_histories}
use Rattle.delivered.proofs.DemandResponses.{demand-responses}
use Rattle.dahomike_answer.specs.Number.{answer_number}
use Rattle.engine_words.specs.Words.{fields_in}
use Rattle.engine_words.proofs.PartLaws.{row-part}
use Rattle.engine_lent.specs.Lent.{open_leaves, release_number, release_leaves, step_number, step_leaves, runs_leave, responses_leave}
use Rattle.engine_lent.specs.LentLaws.{fit-said, step-answer}
use Rattle.engine_controller.specs.Controller.{step_runs, outcome_in, nothing_held, controller_of}
use Rattle.engine_controller.specs.KeptWords.{Says, step-says, release-says, open_says}

-- ---- the numbers of refusals

abbrev Plain : Answer → Type 0
Plain (Ok tt) = Unit {0}
Plain (Err r) = (1 ≤ r.number) × (r.index ≡ 0)

refuse-plain : (k : ℕ) (b : Bool) → 1 ≤ k → Plain (refuse k b)
refuse-plain k true h = (h, refl)
refuse-plain k false h = tt

next-plain : (a b : Answer) → Plain a → Plain b → Plain (or_next a b)
next-plain (Ok tt) b p q = q
next-plain (Err r) b p q = p

two-plain : (a b : Answer) → Plain a → Plain b → Plain (first_met (a ∷ b ∷ []))
unfolding first_met
two-plain a b p q = next-plain a (or_next b Accepted) p (next-plain b Accepted q tt)

step-plain : (s : State) → Plain (step_tests s)
unfolding step_tests
step-plain s =
    two-plain (refuse 18 (not (sound_of s))) (refuse 19 (eqb s.clock clock_end)) (refuse-plain 18 (not (sound_of s)) (omega arith))
    (refuse-plain 19 (eqb s.clock clock_end) (omega arith))

join_plain : (T C t c n : ℕ) (last : Option ℕ) → Plain (join_tests T C t c n last)
unfolding join_tests first_met
join_plain T C t c n last =
    let held = first_met (refuse 23 (crowded n) ∷ []) in
    next-plain (refuse 21 (bad_demand C c)) (or_next (refuse 22 (within T t last)) held) (refuse-plain 21 (bad_demand C c) (omega arith))
    (next-plain (refuse 22 (within T t last)) held (refuse-plain 22 (within T t last) (omega arith))
    (next-plain (refuse 23 (crowded n)) Accepted (refuse-plain 23 (crowded n) (omega arith)) tt))

release-plain : (s : State) (i c : ℕ) → Plain (release_tests s i c)
unfolding release_tests admit_tests
release-plain s i c =
    two-plain (step_tests s) (admit_tests (tasks_of s) (machine_of s) i c) (step-plain s)
    (next-plain (refuse 20 (unknown (tasks_of s) i)) _ (refuse-plain 20 (unknown (tasks_of s) i) (omega arith)) (join_plain _ _ _ _ _ _))

number-back : (a : Answer) → Plain a → outcome_in (answer_number a 0) ≡ outcome_of a
unfolding outcome_in answer_number
number-back (Ok tt) p = refl
number-back (Err o) p =
    let some : 4294967296 * o.number + o.index ≡ 0 → ⊥ = λ e. omega (arith, p.0) in
    let same : (4294967296 * o.number + o.index) / 4294967296 ≡ o.number = omega (arith, p.1) in
    rw (ne_eqb (4294967296 * o.number + o.index) 0 some, same)

-- ---- the calls give the engine's answers

none_runs : (i : ℕ) → not (eqb i idle) && member i (replicate 8 idle) ≡ false
unfolding member
none_runs i = go (eqb i idle) refl
  where
    go : (b : Bool) → eqb i idle ≡ b → not (eqb i idle) && member i (replicate 8 idle) ≡ false
    go true e = rw e
    go false e = rw e

all_same : (p q : ℕ → Bool) (n : ℕ) → ((i : ℕ) → i < n → p i ≡ q i) → all_of p n ≡ all_of q n
unfolding all_of
all_same p q zero f = refl
all_same p q (suc n) f = rw (all_same p q n (λ i h. f i (omega arith)), f n (omega arith))

refused-runs : (s : State) (k j : ℕ) → step_tests s ≡ Refused k j → (step_of s).runs ≡ replicate 8 idle
unfolding step_of not_stepped
refused-runs s k j q = rw q

module _ (l : List ℕ) (s : State) (S : Says l s) where
  runs_alike : (i : ℕ) → step_runs l i ≡ names_as_running s i
  unfolding step_runs names_as_running step_number runs_leave answer_number
  runs_alike i = rw S.state (go (step_of s).answer refl)
    where
      go :
          (a : Answer) → (step_of s).answer ≡ a
          → eqb (answer_number (step_of s).answer 0) 0 && (not (eqb i idle) && member i (unless_refused (step_of s).answer (step_of s).runs []))
          ≡ not (eqb i idle) && member i (step_of s).runs
      go (Ok tt) q = rw q
      go (Err o) q =
          let r : step_tests s ≡ Err o = sym (step-answer s) ∙ q in
          let p : Plain (Err o) = subst Plain r (step-plain s) in
          let some : 4294967296 * o.number + o.index ≡ 0 → ⊥ = λ e. omega (arith, p.0) in
          rw (q, refused-runs s o.number o.index r, ne_eqb (4294967296 * o.number + o.index) 0 some) (sym (none_runs i))

  answers_alike : (i c : ℕ) → outcome_in (release_number l i c) ≡ outcome_of (release_of s i c).answer
  unfolding release_number release_of
  answers_alike i c = rw S.state (number-back (release_tests s i c) (release-plain s i c))

  quiets_alike : nothing_held l ≡ nothing_pending s
  unfolding nothing_held nothing_pending fields_in
  quiets_alike =
      all_same _ _ 16
      (λ i h. ap (λ n. eqb n 0) (sym (row-part l 93 16 i h) ∙ ap (λ (u : State). row u.jobs i) (sym (fit-said l S.fit) ∙ S.state)))

module _ (t ws : List ℕ) (a : verdict t ≡ Accepted) where
  pub controller_mirrors : (B : ℕ) → Mirrors (controller_of t ws) (run_on t) B
  unfolding judged
  controller_mirrors B =
      record {
        Like = λ n l s. Says l s;
        opening = opens;
        steps = λ n l s h S. subst (λ (u : State). Says (step_leaves l) (step_of u).state) S.state (step-says l S.fit);
        asks = λ n l s i c h S. subst (λ (u : State). Says (release_leaves l i c) (release_of u i c).state) S.state (release-says l S.fit i c);
        runs = λ n l s i h S. runs_alike l s S i;
        answers = λ n l s i c h S. answers_alike l s S i c;
        quiets = λ n l s h S. quiets_alike l s S;
      }
    where
      opens : Says (open_leaves t ws) (open_of (judged t).plan).state
      opens = open_says t ws a

  pub controller_says : (h : List Call) → Says (state (controller_of t ws) h) (state (run_on t) h)
  unfolding controller_mirrors
  controller_says h = like (controller_of t ws) (run_on t) (suc (clock h)) (controller_mirrors (suc (clock h))) h (omega arith)

  pub controller_history : HistoryClaim (controller_of t ws) (content_in t).tasks (content_in t).slack 4000000000
  controller_history =
      mirror_history (controller_of t ws) (run_on t) 4000000000 (controller_mirrors 4000000000) (content_in t).tasks (content_in t).slack (demand_histories t a)

  -- the array that is lent to a step which is not refused
  pub controller_responses :
      (h : List Call) (lent : List ℕ) (i : ℕ) → step_number (state (controller_of t ws) h) ≡ 0
      → row (responses_leave (state (controller_of t ws) h) lent) i ≤ bound (content_in t).tasks (content_in t).slack i
  unfolding responses_leave step_number answer_number
  controller_responses h lent i e =
      rw (controller_says h).state (go (step_of u).answer refl (rw (controller_says h).state at e))
    where
      u : State
      u = state (run_on t) h

      go :
          (b : Answer) → (step_of u).answer ≡ b → answer_number (step_of u).answer 0 ≡ 0
          → row (unless_refused (step_of u).answer (step_of u).responses lent) i ≤ bound (content_in t).tasks (content_in t).slack i
      go (Ok tt) q z = rw q (demand-responses t a h i)
      go (Err o) q z =
          let p : Plain (Err o) = subst Plain (sym (step-answer u) ∙ q) (step-plain u) in
          let none : 4294967296 * o.number + o.index ≡ 0 = ap (λ (b : Answer). answer_number b 0) (sym q) ∙ z in
          absurd (omega (arith, p.0))
