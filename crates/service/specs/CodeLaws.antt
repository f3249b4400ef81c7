-- The turn of a loop, by the tests that its code makes.
--     Turned         the arrays after a turn
--     turn_none      it has no job; turn_left: its key was not taken out: nothing changes
--     turn_less      its head has more than one tick of work: one less
--     turn_last      it has one: the job is taken off
--     Joined         the arrays after a release
--     Are            the arrays are those after some turns; turns-none, turns_more: after none, after one more
use Rattle.std.specs.Prelude.{ℕ, ◌+◌, ◌-◌, ◌*◌, ◌≤◌, ◌<◌, Bool, true, false, not, ◌≡◌, refl, List, set, eqb}
use Rattle.std.proofs.Math.Bool.{and-false}
use Rattle.std.proofs.Common.{◌∙◌, add-one}
use borrow.Author.Tests.{eq-eqb, ne_eqb, le-leb, lt-leb}
use Rattle.tasks.specs.TaskSet.{row}
use Rattle.choice.specs.Key.{key_of_none}
use Rattle.service.specs.Serve.{moved, last_tick, work_after, release_after, jobs_after, ran, turn_jobs, turn_work, turn_release, turn_responses, Arrays, turn_of, turns}

module _ (finish i key : ℕ) (jobs work release responses : List ℕ) where
  -- the four arrays after a turn that leaves these
  pub record Turned (jobs' work' release' responses' : List ℕ) : Type 0 where
    pub jobs-after : jobs' ≡ turn_jobs i key jobs work
    pub work-after : work' ≡ turn_work i key jobs work
    pub release-after : release' ≡ turn_release i key jobs work release
    pub responses-after : responses' ≡ turn_responses finish i key jobs work release responses

  idle : ran i key jobs ≡ false → Turned jobs work release responses
  unfolding turn_jobs turn_work turn_release turn_responses
  idle e = record { jobs-after = rw e; work-after = rw e; release-after = rw e; responses-after = rw e }

  pub turn_none : row jobs i ≡ 0 → Turned jobs work release responses
  unfolding ran
  turn_none z = idle (rw (eq-eqb (row jobs i) 0 z))

  pub turn_left : (key ≡ key_of_none → ⊥) → Turned jobs work release responses
  unfolding ran
  turn_left ne = idle (rw (ne_eqb key key_of_none ne) (and-false (not (eqb (row jobs i) 0))))

  module _ (some : row jobs i ≡ 0 → ⊥) (taken : key ≡ key_of_none) where
    runs : ran i key jobs ≡ true
    unfolding ran
    runs = rw (ne_eqb (row jobs i) 0 some, eq-eqb key key_of_none taken)

    more : 1 < row work (16 * i) → last_tick i work ≡ false
    unfolding last_tick
    more m = lt-leb (row work (16 * i)) 1 m

    last : row work (16 * i) ≤ 1 → last_tick i work ≡ true
    unfolding last_tick
    last m = le-leb (row work (16 * i)) 1 m

    pub turn_less : 1 < row work (16 * i) → Turned jobs (set work (16 * i) (row work (16 * i) - 1)) release responses
    unfolding turn_jobs turn_work turn_release turn_responses jobs_after work_after release_after
    turn_less h =
        let l = more h in
        record { jobs-after = rw (runs, l); work-after = rw (runs, l); release-after = rw (runs, l); responses-after = rw (runs, l) }

    pub turn_last :
        row work (16 * i) ≤ 1
        → Turned (set jobs i (row jobs i - 1)) (moved i work) (moved i release) (set responses i (finish - row release (16 * i)))
    unfolding turn_jobs turn_work turn_release turn_responses jobs_after work_after release_after
    turn_last h =
        let l = last h in
        record { jobs-after = rw (runs, l); work-after = rw (runs, l); release-after = rw (runs, l); responses-after = rw (runs, l) }

-- ---- turn after turn

-- the arrays are those after some turns
pub record Are (x : Arrays) (jobs work release responses : List ℕ) : Type 0 where
  pub jobs_are : jobs ≡ x.jobs
  pub work_are : work ≡ x.work
  pub release_are : release ≡ x.release
  pub responses_are : responses ≡ x.responses

pub turns-none : (finish : ℕ) (keys jobs work release responses : List ℕ)
    → Are (turns finish keys (record { jobs = jobs; work = work; release = release; responses = responses }) 0) jobs work release responses
unfolding turns
turns-none finish keys jobs work release responses = record { jobs_are = refl; work_are = refl; release_are = refl; responses_are = refl }

pub turns_more :
    (finish i : ℕ) (keys : List ℕ) (x : Arrays) (jobs work release responses jobs' work' release' responses' : List ℕ)
    → Are (turns finish keys x i) jobs work release responses
    → Turned finish i (row keys i) jobs work release responses jobs' work' release' responses'
    → Are (turns finish keys x (i + 1)) jobs' work' release' responses'
unfolding turns turn_of
turns_more finish i keys x jobs work release responses jobs' work' release' responses' A T =
    rw (add-one i)
    (record {
      jobs_are = T.jobs-after ∙ rw (A.jobs_are, A.work_are);
      work_are = T.work-after ∙ rw (A.jobs_are, A.work_are);
      release_are = T.release-after ∙ rw (A.jobs_are, A.work_are, A.release_are);
      responses_are = T.responses-after ∙ rw (A.jobs_are, A.work_are, A.release_are, A.responses_are);
    })

-- ---- a release

-- the arrays after a release of loop i with demand c at clock t: its next place is used
pub record Joined (i t c : ℕ) (jobs : List ℕ) (released : List Bool) (last work release : List ℕ)
    (jobs' : List ℕ) (released' : List Bool) (last' work' release' : List ℕ) : Type 0 where
  pub jobs-joined : jobs' ≡ set jobs i (row jobs i + 1)
  pub released-joined : released' ≡ set released i true
  pub last-joined : last' ≡ set last i t
  pub work-joined : work' ≡ set work (16 * i + row jobs i) c
  pub release-joined : release' ≡ set release (16 * i + row jobs i) t
