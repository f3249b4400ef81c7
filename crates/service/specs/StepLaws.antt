-- What the code of a tick and of a release makes of a sound state is what the definitions say.
--     tick_code       a tick: the keys, the picks, and the turns of all loops
--     admit_code      a release
--     sound-limits    a sound state's plan is within the limits
--     sound-few, sound_jobless    it has at most sixteen loops, and no job beyond them
use Rattle.std.specs.Prelude.{ℕ, ◌+◌, ◌*◌, ◌≤◌, ◌<◌, true, ◌≡◌, List, set}
use Rattle.std.proofs.Common.{sym, subst, ◌∙◌, arith}
use Rattle.std.proofs.Math.Path.{ap}
use Rattle.std.proofs.Math.Numerals.{add-one}
use Rattle.std.proofs.Math.ListN.{replicate}
use Rattle.laws.specs.Tab.{tab, cut}
use Rattle.tasks.specs.declared.Plan.{Plan}
use Rattle.tasks.specs.Answer.{Accepted}
use Rattle.tasks.specs.TaskSet.{row}
use Rattle.tasks.specs.Content.{content_of}
use Rattle.tasks.specs.Limits.{Limits}
use Rattle.machine.specs.Machine as machine
use Rattle.machine.specs.Machine.{Machine, admitted}
use Rattle.state.specs.declared.State.{State}
use Rattle.state.specs.declared.Stepped.{Stepped}
use Rattle.state.specs.State.{jobs_in, released_in, last_in, remaining_in, release_in, state_of, machine_of}
use Rattle.state.specs.SoundState.{sound_of}
use Rattle.state.specs.Calls.{tasks_of, ticked_of}
use Rattle.choice.specs.Pick.{keys_after, pick_at, keys_of, Jobless}
use Rattle.service.specs.Serve.{turns}
use Rattle.service.specs.CodeLaws.{Are}
use Rattle.state.specs.Fit.{Shaped, Fit}
use Rattle.state.proofs.FitLaws.{plan-limits, few-tasks, idle, machine_back, state-back, sound-fit}
use Rattle.state.proofs.ViewLaws.{row-jobs}
use Rattle.choice.proofs.TickLaws.{runs-picked}
use Rattle.service.specs.TurnLaws.{turned, ticked-state, all-responses, turns_are}
use Rattle.service.specs.AdmitLaws.{admitted-state}

pub sound-limits : (s : State) → Shaped s → sound_of s ≡ true → Limits (content_of s.plan).tasks
sound-limits s S e = plan-limits s.plan (sound-fit s S e).accepted

pub sound-few : (s : State) → Shaped s → sound_of s ≡ true → s.plan.tasks ≤ 16
sound-few s S e = few-tasks s S e

pub sound_jobless : (s : State) → Shaped s → sound_of s ≡ true → Jobless s.plan.tasks s.jobs
sound_jobless s S e j h l = (idle s S e j h).0

-- the code of a tick, on the state t
unfoldable pub TickCode : State → Type 0
TickCode t =
    (keys left runs jobs work release responses : List ℕ)
    → keys ≡ keys_of t.jobs t.release t.plan.task
    → left ≡ keys_after keys t.plan.cores
    → runs ≡ tab (cut t.plan.cores (pick_at keys) 255) 8
    → Are
    (turns (t.clock + 1) left (record { jobs = t.jobs; work = t.remaining; release = t.release; responses = replicate 16 0 }) 16)
    jobs work release responses
    → ◌≡◌ {A = Stepped}
    (record {
      answer = Accepted;
      state =
          record {
            plan = t.plan;
            clock = t.clock + 1;
            jobs = jobs;
            released = t.released;
            last = t.last;
            remaining = work;
            release = release;
          };
      runs = runs;
      responses = responses;
    })
    (ticked_of t.plan (tasks_of t) (machine_of t))

module _ (p : Plan) (M : Machine) (F : Fit p M) where
  tick-made : TickCode (state_of p M)
  unfolding TickCode state_of tasks_of ticked_of
  tick-made keys left runs jobs work release responses k l r A =
      rw (machine_back p M F, ticked-state p M F, runs-picked p M F, ← k, ← r)
      (λ i.
      record {
        answer = Accepted;
        state =
            record {
              plan = p;
              clock = M.clock + 1;
              jobs = (A.jobs_are ∙ ap (λ x. x.jobs) all) i;
              released = released_in M;
              last = last_in M;
              remaining = (A.work_are ∙ ap (λ x. x.work) all) i;
              release = (A.release_are ∙ ap (λ x. x.release) all) i;
            };
        runs = runs;
        responses = (A.responses_are ∙ ap (λ x. x.responses) all ∙ all-responses p M F) i;
      })
    where
      all :
          turns (M.clock + 1) left (record { jobs = jobs_in M; work = remaining_in M; release = release_in M; responses = replicate 16 0 }) 16
          ≡ record {
            jobs = jobs_in (turned p M 16);
            work = remaining_in (turned p M 16);
            release = release_in (turned p M 16);
            responses = tab (cut 16 (machine.responses (machine.runs (content_of p).tasks M) M) 0) 16;
          }
      all = rw (l, k, add-one M.clock) (turns_are p M F 16 (omega arith))

module _ (s : State) (S : Shaped s) (e : sound_of s ≡ true) where
  pub tick_code : TickCode s
  tick_code = subst TickCode (state-back s S e) (tick-made s.plan (machine_of s) (sound-fit s S e))

-- the code of a release of loop i with demand c, on the state t
unfoldable pub AdmitCode : ℕ → ℕ → State → Type 0
AdmitCode i c t =
    row t.jobs i < 16
    → ◌≡◌ {A = State}
    (record {
      plan = t.plan;
      clock = t.clock;
      jobs = set t.jobs i (row t.jobs i + 1);
      released = set t.released i true;
      last = set t.last i t.clock;
      remaining = set t.remaining (16 * i + row t.jobs i) c;
      release = set t.release (16 * i + row t.jobs i) t.clock;
    })
    (state_of t.plan (admitted i c (machine_of t)))

admit_made : (p : Plan) (M : Machine) → Fit p M → (i c : ℕ) → i < 16 → AdmitCode i c (state_of p M)
unfolding AdmitCode state_of
admit_made p M F i c h room =
    let n = row-jobs M i h in
    rw (machine_back p M F, n) (sym (admitted-state i c M (rw n at room) p))

module _ (s : State) (S : Shaped s) (e : sound_of s ≡ true) where
  pub admit_code : (i c : ℕ) → i < 16 → AdmitCode i c s
  admit_code i c h = subst (AdmitCode i c) (state-back s S e) (admit_made s.plan (machine_of s) (sound-fit s S e) i c h)
