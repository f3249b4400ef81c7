-- The words that a C call leaves say the state that the engine's call hands back.
--     step-whole, release-whole, open_whole     the calls hand back whole states
--     step_same, release-same                   a refused call hands back the state handed in
--     Says                                      words fit, and say a state
--     step-says, release-says, open_says        the words that a call leaves say the state that the engine's call hands back
use Rattle.std.specs.Prelude.{Ok, Err, ℕ, ◌≤◌, ◌<◌, Bool, true, false, not, ◌||◌, ◌≡◌, refl, List, eqb}
use Rattle.std.proofs.Common.{true≢false, sym, ap, ◌∙◌, ⊎_elim, arith}
use Rattle.std.proofs.Math.ListN.{get_or}
use borrow.Author.Tests.{le-leb, eqb-true}
use Rattle.laws.specs.Tab.{cut}
use Rattle.laws.specs.TabLaws.{get_or-tab, cut-above}
use Rattle.laws.specs.EveryLaws.{below_or_not}
use Rattle.tasks.specs.declared.Plan.{Plan}
use Rattle.tasks.specs.Answer.{Answer, Accepted, Refused}
use Rattle.tasks.specs.TaskSet.{row}
use Rattle.tasks.specs.Content.{content_of, plan_of, tidy}
use Rattle.tasks.specs.Tests.{bad_edition, test_plan, unless_refused}
use Rattle.tasks.proofs.TestsLaws.{plan-passed, tests-passed}
use Rattle.table.specs.Judged.{judged}
use Rattle.roundtrip.proofs.RoundTrip.{judged-passes}
use Rattle.machine.specs.Machine.{Machine, opened, admitted, tick}
use Rattle.state.specs.declared.State.{State}
use Rattle.state.specs.State.{state_of, machine_of}
use Rattle.state.specs.Calls.{tasks_of, open_of, release_of, release_tests, step_of, step_tests, ticked_of, not_stepped}
use Rattle.state.specs.SoundState.{passes}
use Rattle.state.proofs.ViewLaws.{shaped-state}
use Rattle.state.proofs.FitLaws.{shaped}
use Rattle.state.proofs.KeptLaws.{opened-fit, open_state}
use Rattle.engine_words.specs.Words.{is_byte, fits, said}
use Rattle.engine_words.specs.WordsLaws.{Whole}
use Rattle.engine_words.proofs.WordsLaws.{words-fit, said-words, said-whole}
use Rattle.engine_lent.specs.Lent.{left, open_leaves, release_leaves, step_leaves}
use Rattle.engine_lent.specs.LentLaws.{step-answer}

-- a state with the plan of a whole one
with_plan : (s : State) (M : Machine) → Whole s → Whole (state_of s.plan M)
unfolding state_of
with_plan s M W = record { shaped = shaped-state s.plan M W.shaped.plan; edition = W.edition; labels = W.labels }

module _ (s : State) (W : Whole s) where
  pub step-whole : Whole (step_of s).state
  unfolding step_of ticked_of not_stepped
  step-whole = go (step_tests s)
    where
      go : (a : Answer) → Whole (unless_refused a (ticked_of s.plan (tasks_of s) (machine_of s)) (not_stepped (step_tests s) s)).state
      go (Ok tt) = with_plan s (tick (tasks_of s) (machine_of s)) W
      go (Err r) = W

  pub release-whole : (i c : ℕ) → Whole (release_of s i c).state
  unfolding release_of
  release-whole i c = go (release_tests s i c)
    where
      go : (a : Answer) → Whole (unless_refused a (state_of s.plan (admitted i c (machine_of s))) s)
      go (Ok tt) = with_plan s (admitted i c (machine_of s)) W
      go (Err r) = W

-- ---- an opening

known-byte : (e : ℕ) → bad_edition e ≡ false → is_byte e ≡ true
known-byte e q = go (eqb e 1) refl (eqb e 2) refl
  where
    go : (b : Bool) → eqb e 1 ≡ b → (c : Bool) → eqb e 2 ≡ c → is_byte e ≡ true
    go true f c g = le-leb e 255 (omega (arith, eqb-true e 1 f))
    go false f true g = le-leb e 255 (omega (arith, eqb-true e 2 g))
    go false f false g = absurd (true≢false (sym (ap (λ (b : Bool). not (b || eqb e 2)) f ∙ ap (λ (b : Bool). not b) g) ∙ q))

module _ (p : Plan) (a : test_plan p ≡ Accepted) where
  label_small : (i : ℕ) → i < 8 → row (tidy p).labels i ≤ 63
  unfolding tidy plan_of content_of row
  label_small i h =
      rw (get_or-tab (cut p.cores (λ j. get_or p.labels j 0) 0) 8 i 0 h)
      (⊎_elim
      (λ (l : i < p.cores). (tests-passed (content_of p) (plan-passed p a).1).labelled.label-high i l)
      (λ (l : p.cores ≤ i). rw (cut-above p.cores (λ j. get_or p.labels j 0) 0 i l) (omega arith))
      (below_or_not i p.cores))

  pub open_whole : Whole (open_of p).state
  unfolding tidy plan_of content_of state_of
  open_whole =
      rw (open_state p a)
      (record {
        shaped = shaped (tidy p) opened (opened-fit p a);
        edition = known-byte p.edition (plan-passed p a).0;
        labels = λ i h. le-leb (row (tidy p).labels i) 255 (omega (arith, label_small i h));
      })

-- ---- what the words that are left say

pub step_same : (s : State) (k j : ℕ) → (step_of s).answer ≡ Refused k j → s ≡ (step_of s).state
unfolding step_of not_stepped
step_same s k j a = let q : step_tests s ≡ Refused k j = sym (step-answer s) ∙ a in rw q

pub release-same : (s : State) (i c k j : ℕ) → (release_of s i c).answer ≡ Refused k j → s ≡ (release_of s i c).state
unfolding release_of
release-same s i c k j a = rw a

-- the words of a state handed back, or the lent ones where the call is refused and hands back the state that they say
pub record Says (ws : List ℕ) (s : State) : Type 0 where
  pub state : said ws ≡ s
  pub fit : fits ws ≡ true

left-says : (a : Answer) (s : State) (ws : List ℕ) → Whole s → ((k j : ℕ) → a ≡ Refused k j → Says ws s) → Says (left a s ws) s
left-says (Ok tt) s ws W same = record { state = said-words s W; fit = words-fit s W }
left-says (Err r) s ws W same = same r.number r.index refl

module _ (ws : List ℕ) (f : fits ws ≡ true) where
  pub step-says : Says (step_leaves ws) (step_of (said ws)).state
  unfolding step_leaves
  step-says =
      left-says (step_of (said ws)).answer (step_of (said ws)).state ws (step-whole (said ws) (said-whole ws))
      (λ k j a. record { state = step_same (said ws) k j a; fit = f })

  pub release-says : (i c : ℕ) → Says (release_leaves ws i c) (release_of (said ws) i c).state
  unfolding release_leaves
  release-says i c =
      left-says (release_of (said ws) i c).answer (release_of (said ws) i c).state ws (release-whole (said ws) (said-whole ws) i c)
      (λ k j a. record { state = release-same (said ws) i c k j a; fit = f })

pub open_says : (t ws : List ℕ) → (judged t).answer ≡ Accepted → Says (open_leaves t ws) (open_of (judged t).plan).state
unfolding open_leaves judged
open_says t ws a =
    left-says (judged t).answer (open_of (judged t).plan).state ws (open_whole (judged t).plan (judged-passes t a))
    (λ k j b. absurd (accepted-not (sym a ∙ b)))
  where
    accepted-not : {k j : ℕ} → ◌≡◌ {A = Answer} Accepted (Refused k j) → ⊥
    accepted-not e = true≢false (ap passes e)
