-- A tick of a machine that fits, loop by loop, in the order of the code.
--     turned p M i           the machine in which the loops below i have had their turn, at the old clock's end
--     turned-jobs, turned-work, turned-release      before the first turn
--     turn_jobs_lem, turn_work_lem, turn_release_lem, turn_responses_lem      one loop's turn, by the arrays
--     turns_are              the four arrays together, turn after turn
--     ticked-state, all-responses      all sixteen turns made, the arrays are those of the tick
use Prim.Native.Nat.{ℕ, zero, suc, ◌+◌, ◌-◌, ◌*◌, ◌≤◌, ◌<◌}
use Rattle.std.specs.Prelude.{Bool, not, ◌&&◌, ◌≡◌, List, [], ◌∷◌, length, set, replicate, eqb}
use Rattle.std.proofs.Math.Bool.{true, false, cond, and-true}
use Rattle.std.proofs.Common.{true≢false, ◌∙◌}
use Rattle.std.proofs.Math.Path.{refl, sym, ap}
use Rattle.std.proofs.Math.Numerals.{add-one}
use native.Mathlib.Omega.{arith}
use Rattle.std.proofs.Math.Dec.{ltb}
use borrow.Author.Tests.{ltb-true, ltb-false, lt-ltb, le-ltb, eqb-true, eqb-false, ne_eqb}
use Rattle.laws.specs.Tab.{tab, cut}
use Rattle.laws.specs.TabLaws.{tab_ext, cut_below, cut-above, cut_all, filled_none, filled_next}
use Rattle.tasks.specs.declared.Plan.{Plan}
use Rattle.tasks.specs.TaskSet.{TaskSet, row}
use Rattle.tasks.specs.Content.{content_of}
use Rattle.machine.specs.Machine.{Job, job, Machine, pending, waiting, runs, served, advanced, tick, responses}
use Rattle.machine.proofs.Choice.{earliest}
use Rattle.state.specs.State.{jobs_in, released_in, last_in, remaining_in, release_in, state_of}
use Rattle.choice.specs.Pick.{keys_after, keys_of}
use Rattle.service.specs.Serve.{ran, last_tick, response_after, jobs_after, work_after, release_after, turn_jobs, turn_work, turn_release, turn_responses, turn_of, turns}
use Rattle.service.specs.ServeLaws.{Serves, same-work, same-release, same-jobs, served-work, served-release, served-jobs, served-response}
use Rattle.state.specs.Fit.{Fit}
use Rattle.state.proofs.FitLaws.{in_count, fit-tasks, known-lane}
use Rattle.state.proofs.ViewLaws.{row-jobs}
use Rattle.choice.proofs.TickLaws.{run-picked}

unfoldable pub turned : Plan → Machine → ℕ → Machine
turned p M i = advanced (λ j. runs (content_of p).tasks M j && ltb j i) M

module _ (p : Plan) (M : Machine) (F : Fit p M) where
  abbrev s : TaskSet
  s = (content_of p).tasks

  -- the key that a loop is left with
  abbrev pub key_left : ℕ → ℕ
  key_left i = row (keys_after (keys_of (jobs_in M) (release_in M) p.task) p.cores) i

  -- a loop's queue before and after its own turn, and at another's
  ahead : (i : ℕ) → ((turned p M i).lane i).queue ≡ (M.lane i).queue
  unfolding turned advanced
  ahead i = rw (le-ltb i i (omega arith)) (off (runs s M i))
    where
      off : (b : Bool) → cond (b && false) (served (M.lane i).queue) (M.lane i).queue ≡ (M.lane i).queue
      off true = refl
      off false = refl

  after : (i : ℕ) → ((turned p M (i + 1)).lane i).queue ≡ cond (runs s M i) (served (M.lane i).queue) (M.lane i).queue
  unfolding turned advanced
  after i = rw (lt-ltb i (i + 1) (omega arith), and-true (runs s M i))

  others : (i j : ℕ) → eqb j i ≡ false → ((turned p M (i + 1)).lane j).queue ≡ ((turned p M i).lane j).queue
  unfolding turned advanced
  others i j e = ap (λ (b : Bool). cond (runs s M j && b) (served (M.lane j).queue) (M.lane j).queue) (same (ltb j i) refl)
    where
      same : (b : Bool) → ltb j i ≡ b → ltb j (i + 1) ≡ ltb j i
      same true q = rw q (lt-ltb j (i + 1) (omega (arith, ltb-true j i q)))
      same false q = rw q (le-ltb j (i + 1) (above (ltb-false j i q) (eqb-false j i e)))
        where
          above : i ≤ j → (j ≡ i → ⊥) → i + 1 ≤ j
          above h ne = omega arith

  module _ (i : ℕ) (h : i < 16) where
    jobs-now : row (jobs_in (turned p M i)) i ≡ length (M.lane i).queue
    jobs-now = row-jobs (turned p M i) i h ∙ ap length (ahead i)

    some-jobs : (q : List Job) → not (eqb (length q) 0) ≡ pending q
    some-jobs [] = refl
    some-jobs (j ∷ q) = rw (ne_eqb (suc (length q)) 0 (λ (z : suc (length q) ≡ 0). omega arith))

    pub ran-here : ran i (key_left i) (jobs_in (turned p M i)) ≡ runs s M i
    unfolding ran waiting
    ran-here = rw (jobs-now, some-jobs (M.lane i).queue) (sym (run-picked p M F i h))

    -- a loop that runs has a head with work left
    serves : runs s M i ≡ true → Serves i (turned p M i) (turned p M (i + 1))
    unfolding waiting
    serves e = go (M.lane i).queue refl
      where
        low : i < p.tasks
        low = omega (arith, ((earliest s M).heads i e).0, in_count p)

        some-head : (M.lane i).queue ≡ [] → ⊥
        some-head z = true≢false (sym ((earliest s M).heads i e).1 ∙ ap pending z)

        go : (q : List Job) → (M.lane i).queue ≡ q → Serves i (turned p M i) (turned p M (i + 1))
        go [] z = absurd (some-head z)
        go (job a zero ∷ q) z =
            let r = (rw z at (known-lane p M F i low).rising).2 in
            absurd (omega arith)
        go (job a (suc w) ∷ q) z =
            record {
              low = h;
              release = a;
              work = w;
              rest = q;
              here = ahead i ∙ z;
              few = few;
              gone = after i ∙ rw (e, z);
              others = others i;
            }
          where
            few : length q ≤ 15
            few = let n = rw z at (F.holds i) in omega arith

    stays : runs s M i ≡ false → (j : ℕ) → ((turned p M (i + 1)).lane j).queue ≡ ((turned p M i).lane j).queue
    stays e j = go (eqb j i) refl
      where
        go : (b : Bool) → eqb j i ≡ b → ((turned p M (i + 1)).lane j).queue ≡ ((turned p M i).lane j).queue
        go true q = rw (eqb-true j i q) (after i ∙ ap (λ (b : Bool). cond b (served (M.lane i).queue) (M.lane i).queue) e ∙ sym (ahead i))
        go false q = others i j q

    pub turn_work_lem :
        remaining_in (turned p M (i + 1)) ≡ turn_work i (key_left i) (jobs_in (turned p M i)) (remaining_in (turned p M i))
    unfolding turn_work
    turn_work_lem = rw ran-here (go (runs s M i) refl)
      where
        go : (b : Bool) → runs s M i ≡ b → remaining_in (turned p M (i + 1)) ≡ cond b (work_after i (remaining_in (turned p M i))) (remaining_in (turned p M i))
        go true e = served-work i (turned p M i) (turned p M (i + 1)) (serves e)
        go false e = same-work (turned p M i) (turned p M (i + 1)) (stays e)

    pub turn_release_lem :
        release_in (turned p M (i + 1))
        ≡ turn_release i (key_left i) (jobs_in (turned p M i)) (remaining_in (turned p M i)) (release_in (turned p M i))
    unfolding turn_release
    turn_release_lem = rw ran-here (go (runs s M i) refl)
      where
        go :
            (b : Bool) → runs s M i ≡ b
            → release_in (turned p M (i + 1)) ≡ cond b (release_after i (remaining_in (turned p M i)) (release_in (turned p M i))) (release_in (turned p M i))
        go true e = served-release i (turned p M i) (turned p M (i + 1)) (serves e)
        go false e = same-release (turned p M i) (turned p M (i + 1)) (stays e)

    pub turn_jobs_lem :
        jobs_in (turned p M (i + 1)) ≡ turn_jobs i (key_left i) (jobs_in (turned p M i)) (remaining_in (turned p M i))
    unfolding turn_jobs
    turn_jobs_lem = rw ran-here (go (runs s M i) refl)
      where
        go : (b : Bool) → runs s M i ≡ b → jobs_in (turned p M (i + 1)) ≡ cond b (jobs_after i (remaining_in (turned p M i)) (jobs_in (turned p M i))) (jobs_in (turned p M i))
        go true e = served-jobs i (turned p M i) (turned p M (i + 1)) (serves e)
        go false e = same-jobs (turned p M i) (turned p M (i + 1)) (stays e)

    pub turn_responses_lem :
        tab (cut (i + 1) (responses (runs s M) M) 0) 16
        ≡ turn_responses (suc M.clock) i (key_left i) (jobs_in (turned p M i)) (remaining_in (turned p M i)) (release_in (turned p M i))
        (tab (cut i (responses (runs s M) M) 0) 16)
    unfolding turn_responses responses response_after
    turn_responses_lem = rw ran-here (go (runs s M i) refl (last_tick i (remaining_in (turned p M i))) refl)
      where
        f : ℕ → ℕ
        f = responses (runs s M) M

        -- a response of 0 leaves the array as it is
        nothing : f i ≡ 0 → tab (cut (i + 1) f 0) 16 ≡ tab (cut i f 0) 16
        nothing zero_at = tab_ext (cut (i + 1) f 0) (cut i f 0) 16 (λ j l. at j (ltb j i) refl (eqb j i) refl)
          where
            at : (j : ℕ) (b : Bool) → ltb j i ≡ b → (c : Bool) → eqb j i ≡ c → cut (i + 1) f 0 j ≡ cut i f 0 j
            at j true q c r =
                let m = ltb-true j i q in
                cut_below (i + 1) f 0 j (omega arith) ∙ sym (cut_below i f 0 j m)
            at j false q true r =
                let m = eqb-true j i r in
                cut_below (i + 1) f 0 j (omega arith) ∙ ap f m ∙ zero_at ∙ sym (cut-above i f 0 j (omega arith))
            at j false q false r =
                let m = ltb-false j i q in
                let ne = eqb-false j i r in
                cut-above (i + 1) f 0 j (omega arith) ∙ sym (cut-above i f 0 j m)

        value :
            runs s M i ≡ true → (d : Bool) → last_tick i (remaining_in (turned p M i)) ≡ d
            → f i ≡ cond d (suc M.clock - row (release_in (turned p M i)) (16 * i)) 0
        value e d q =
            rw (e, ← ahead i) (served-response i (turned p M i) (turned p M (i + 1)) (serves e) (suc M.clock))
            ∙ after-value d q
          where
            after-value :
                (d : Bool) → last_tick i (remaining_in (turned p M i)) ≡ d
                → response_after (suc M.clock) i (remaining_in (turned p M i)) (release_in (turned p M i))
                ≡ cond d (suc M.clock - row (release_in (turned p M i)) (16 * i)) 0
            after-value d r = rw r

        go :
            (b : Bool) → runs s M i ≡ b → (d : Bool) → last_tick i (remaining_in (turned p M i)) ≡ d
            → tab (cut (i + 1) f 0) 16
            ≡ cond (b && d)
            (set (tab (cut i f 0) 16) i (suc M.clock - row (release_in (turned p M i)) (16 * i)))
            (tab (cut i f 0) 16)
        go true e true q = rw (← value e true q) (sym (filled_next f 0 i 16 h))
        go true e false q = nothing (value e false q)
        go false e d q = nothing (rw e)

  -- before the first turn, and after the last
  start : (j : ℕ) → ((turned p M 0).lane j).queue ≡ (M.lane j).queue
  unfolding turned advanced
  start j = rw (le-ltb j 0 (omega arith)) (off (runs s M j))
    where
      off : (b : Bool) → cond (b && false) (served (M.lane j).queue) (M.lane j).queue ≡ (M.lane j).queue
      off true = refl
      off false = refl

  pub turned-jobs : jobs_in M ≡ jobs_in (turned p M 0)
  turned-jobs = sym (same-jobs M (turned p M 0) start)

  pub turned-work : remaining_in M ≡ remaining_in (turned p M 0)
  turned-work = sym (same-work M (turned p M 0) start)

  pub turned-release : release_in M ≡ release_in (turned p M 0)
  turned-release = sym (same-release M (turned p M 0) start)

  finish : (j : ℕ) → ((tick s M).lane j).queue ≡ ((turned p M 16).lane j).queue
  unfolding turned advanced tick
  finish j = ap (λ (b : Bool). cond b (served (M.lane j).queue) (M.lane j).queue) (all (runs s M j) refl)
    where
      all : (b : Bool) → runs s M j ≡ b → runs s M j ≡ runs s M j && ltb j 16
      all true e = rw (e, lt-ltb j 16 (omega (arith, ((earliest s M).heads j e).0, in_count p, fit-tasks p M F)))
      all false e = rw e

  pub ticked-state :
      state_of p (tick s M)
      ≡ record {
        plan = p;
        clock = M.clock + 1;
        jobs = jobs_in (turned p M 16);
        released = released_in M;
        last = last_in M;
        remaining = remaining_in (turned p M 16);
        release = release_in (turned p M 16);
      }
  unfolding state_of tick advanced released_in last_in
  ticked-state =
      λ k.
      record {
        plan = p;
        clock = sym (add-one M.clock) k;
        jobs = same-jobs (turned p M 16) (tick s M) finish k;
        released = released_in M;
        last = last_in M;
        remaining = same-work (turned p M 16) (tick s M) finish k;
        release = same-release (turned p M 16) (tick s M) finish k;
      }

  pub all-responses : tab (cut 16 (responses (runs s M) M) 0) 16 ≡ tab (responses (runs s M) M) 16
  all-responses = cut_all 16 (responses (runs s M) M) 0

  -- all four arrays, turn after turn
  pub turns_are :
      (i : ℕ) → i ≤ 16
      → turns (suc M.clock) (keys_after (keys_of (jobs_in M) (release_in M) p.task) p.cores)
      (record { jobs = jobs_in M; work = remaining_in M; release = release_in M; responses = replicate 16 0 }) i
      ≡ record {
        jobs = jobs_in (turned p M i);
        work = remaining_in (turned p M i);
        release = release_in (turned p M i);
        responses = tab (cut i (responses (runs s M) M) 0) 16;
      }
  unfolding turns turn_of
  turns_are zero h =
      λ k.
      record {
        jobs = turned-jobs k;
        work = turned-work k;
        release = turned-release k;
        responses = filled_none (responses (runs s M) M) 0 16 k;
      }
  turns_are (suc i) h =
      rw (turns_are i (omega arith), ← add-one i)
      (λ k.
      record {
        jobs = sym (turn_jobs_lem i h) k;
        work = sym (turn_work_lem i h) k;
        release = sym (turn_release_lem i h) k;
        responses = sym (turn_responses_lem i h) k;
      })
