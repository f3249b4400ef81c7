-- Soundness is kept: by the opening, by a release that meets none of 19 to 23, and by a tick; and what the calls answer on a sound state.
--     opened-fit, admitted-fit, ticked-fit      of the machine; reached-fit: of every machine reached from an opening
--     step-state          a step of a machine's state, before its clock's end; step-end: at its end
--     release-state       a release on a machine's state, before its clock's end
--     open_state          an opening on an accepted plan
use Rattle.std.specs.Prelude.{Ok, Err, ℕ, zero, suc, ◌≤◌, ◌<◌, Bool, cond, ◌≡◌, List, [], ◌∷◌, ltb}
use Rattle.std.proofs.Math.Bool.{true, false}
use Rattle.std.proofs.Math.Path.{refl}
use Rattle.std.proofs.Common.{le_refl, arith}
use Rattle.std.proofs.Math.Nat.{le-suc, le_trans}
use Rattle.std.proofs.Math.ListN.{length, length-append}
use Rattle.std.proofs.Math.Dec.{eqb}
use borrow.Author.Tests.{ltb-true, ltb-false, leb-false, eqb-true, ne_eqb}
use Rattle.tasks.specs.declared.Plan.{Plan}
use Rattle.tasks.specs.Answer.{Answer, Accepted}
use Rattle.tasks.specs.Content.{content_of, tidy}
use Rattle.tasks.proofs.ContentLaws.{tidy-tidy}
use Rattle.tasks.specs.Tests.{or_next, first_met, test_plan, unless_refused}
use Rattle.machine.specs.Machine.{Job, job, Machine, opened, full, Allowed, joined, admitted, served, advanced, runs, tick}
use Rattle.machine.specs.Admission.{admit_tests}
use Rattle.machine.specs.Reached.{Reached}
use Rattle.machine.proofs.Choice.{earliest}
use Rattle.machine.proofs.Sound.{opened-sound, admitted-sound, advanced-sound, reached-sound}
use Rattle.machine.proofs.Theorem.{reached-holds}
use Rattle.state.specs.State.{state_of}
use Rattle.state.specs.Calls.{open_of, tasks_of, step_tests, release_tests, release_of, ticked_of, step_of}
use Rattle.state.specs.Fit.{Fit}
use Rattle.state.proofs.TidyLaws.{tidy-accepted}
use Rattle.state.proofs.FitLaws.{plan-limits, plan-compliant, plan-bounded, in_count, in_cores, fit-sound, machine_back}

pub opened-fit : (p : Plan) → test_plan p ≡ Accepted → Fit (tidy p) opened
unfolding opened
opened-fit p a =
    let L = plan-limits p a in
    let m : p.cores ≤ 8 = omega (arith, L.cores-high, in_cores p) in
    let n : p.tasks ≤ 16 = omega (arith, L.tasks-high, in_count p) in
    record {
      accepted = tidy-accepted p m n a;
      tidied = tidy-tidy p m n;
      clock-high = omega arith;
      holds = λ i. omega arith;
      sound = opened-sound (content_of (tidy p)).tasks;
    }

-- a queue after a tick is no longer
pub shorter : (b : Bool) (q : List Job) → length (cond b (served q) q) ≤ length q
unfolding served
shorter false q = le_refl _
shorter true [] = le_refl _
shorter true (job a zero ∷ q) = le-suc _
shorter true (job a (suc zero) ∷ q) = le-suc _
shorter true (job a (suc (suc w)) ∷ q) = le_refl _

module _ (p : Plan) (M : Machine) (F : Fit p M) where
  pub admitted-fit : (i c : ℕ) → Allowed (content_of p).tasks M i c → full M i ≡ false → Fit p (admitted i c M)
  unfolding admitted joined full
  admitted-fit i c A room =
      record {
        accepted = F.accepted;
        tidied = F.tidied;
        clock-high = F.clock-high;
        holds = λ j. few j (eqb j i) refl;
        sound = admitted-sound (content_of p).tasks M i c A F.sound;
      }
    where
      few : (j : ℕ) (b : Bool) → eqb j i ≡ b → length (cond b (joined M.clock c (M.lane j)) (M.lane j)).queue ≤ 16
      few j true e =
          rw (eqb-true j i e, length-append (M.lane i).queue (job M.clock c ∷ [])) (omega (arith, leb-false 16 (length (M.lane i).queue) room))
      few j false e = F.holds j

  pub ticked-fit : M.clock < 4000000000 → Fit p (tick (content_of p).tasks M)
  unfolding tick advanced
  ticked-fit h =
      record {
        accepted = F.accepted;
        tidied = F.tidied;
        clock-high = h;
        holds = λ i. le_trans (shorter (runs (content_of p).tasks M i) (M.lane i).queue) (F.holds i);
        sound = advanced-sound (content_of p).tasks M (runs (content_of p).tasks M) (earliest (content_of p).tasks M) F.sound;
      }

  tests-before : M.clock < 4000000000 → step_tests (state_of p M) ≡ Accepted
  unfolding step_tests first_met state_of
  tests-before h = rw (fit-sound p M F, ne_eqb M.clock 4000000000 (λ e. omega arith))

  same-tasks : tasks_of (state_of p M) ≡ (content_of p).tasks
  unfolding tasks_of state_of
  same-tasks = refl

  pub step-state : M.clock < 4000000000 → step_of (state_of p M) ≡ ticked_of p (content_of p).tasks M
  unfolding step_of state_of
  step-state h = rw (tests-before h, same-tasks, machine_back p M F)

  pub tests-state : (i c : ℕ) → M.clock < 4000000000 → release_tests (state_of p M) i c ≡ admit_tests (content_of p).tasks M i c
  unfolding release_tests first_met
  tests-state i c h = rw (tests-before h, same-tasks, machine_back p M F) (last_one (admit_tests (content_of p).tasks M i c))
    where
      last_one : (a : Answer) → or_next a Accepted ≡ a
      last_one (Ok tt) = refl
      last_one (Err r) = refl

  pub release-state :
      (i c : ℕ) → M.clock < 4000000000
      → release_of (state_of p M) i c
      ≡ record {
        answer = admit_tests (content_of p).tasks M i c;
        state = unless_refused (admit_tests (content_of p).tasks M i c) (state_of p (admitted i c M)) (state_of p M);
      }
  unfolding release_of state_of
  release-state i c h = rw (tests-state i c h, machine_back p M F)

pub reached-fit : (p : Plan) → test_plan p ≡ Accepted → tidy p ≡ p → (M : Machine) → Reached (content_of p).tasks M → M.clock ≤ 4000000000 → Fit p M
unfolding opened
reached-fit p a e M r h =
    record {
      accepted = a;
      tidied = e;
      clock-high = h;
      holds = λ i. few i (ltb i (content_of p).tasks.count) refl;
      sound = reached-sound (content_of p).tasks r;
    }
  where
    empty : (i : ℕ) → M.lane i ≡ opened.lane i → length (M.lane i).queue ≤ 16
    empty i q = rw q (omega arith)

    few : (i : ℕ) (b : Bool) → ltb i (content_of p).tasks.count ≡ b → length (M.lane i).queue ≤ 16
    few i true q =
        reached-holds (content_of p).tasks (content_of p).slack (plan-limits p a) (plan-compliant p a)
        (plan-bounded p a) r i (ltb-true _ _ q)
    few i false q = empty i ((reached-sound (content_of p).tasks r).unused i (ltb-false _ _ q))

pub open_state : (p : Plan) → test_plan p ≡ Accepted → open_of p ≡ record { answer = Accepted; state = state_of (tidy p) opened }
unfolding open_of
open_state p a = rw a
