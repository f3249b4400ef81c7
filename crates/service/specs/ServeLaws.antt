-- The arrays of a machine's state after one loop has run for a tick are those of the machine whose queue is served.
--     Serves i M N                      N's queues are M's, but loop i's, which has a head with work left and is served
--     served-work, served-release, served-jobs, served-response
--     same-work, same-release, same-jobs      machines with the same queues have the same arrays
use Prim.Native.Nat.{ℕ, zero, suc, ◌+◌, ◌-◌, ◌*◌, ◌/◌, ◌≤◌, ◌<◌}
use Rattle.std.specs.Prelude.{Bool, ◌≡◌, List, ◌∷◌, get_or, set}
use Rattle.std.proofs.Math.Bool.{true, false, cond}
use Rattle.std.proofs.Math.Path.{refl, sym, ap}
use Rattle.std.proofs.Common.{◌∙◌}
use native.Mathlib.Omega.{arith}
use Rattle.std.proofs.Math.ListN.{length, get_or-eq_default}
use Rattle.std.proofs.Math.Dec.{eqb}
use borrow.Author.Tests.{eqb-true, eqb-false, eq-eqb, ne_eqb, lt-leb}
use Rattle.laws.specs.TabLaws.{length-tab, set-tab, tab_ext}
use Rattle.tasks.specs.TaskSet.{row}
use Rattle.machine.specs.Machine.{Job, job, release_tick, remaining, Machine, served, response}
use Rattle.state.specs.State.{no_job, job_at, jobs_in, remaining_in, release_in}
use Rattle.service.specs.Serve.{moved, last_tick, work_after, release_after, jobs_after, response_after}
use Rattle.service.specs.MoveLaws.{moved_row, moved-row}
use Rattle.state.proofs.AllLaws.{by_place, loop-of, place_in_lem}
use Rattle.state.proofs.ViewLaws.{job-at, row-jobs, row-remaining, row-release}

pub record Serves (i : ℕ) (M N : Machine) : Type 0 where
  pub low : i < 16
  pub release : ℕ
  pub work : ℕ
  pub rest : List Job
  pub here : (M.lane i).queue ≡ job release (suc work) ∷ rest
  pub few : length rest ≤ 15
  pub gone : (N.lane i).queue ≡ served (job release (suc work) ∷ rest)
  pub others : (j : ℕ) → eqb j i ≡ false → (N.lane j).queue ≡ (M.lane j).queue

module _ (M N : Machine) (same : (j : ℕ) → (N.lane j).queue ≡ (M.lane j).queue) where
  same-job : (k : ℕ) → job_at N k ≡ job_at M k
  unfolding job_at
  same-job k = rw (same (k / 16))

  pub same-work : remaining_in N ≡ remaining_in M
  unfolding remaining_in
  same-work = tab_ext _ _ 256 (λ k h. ap remaining (same-job k))

  pub same-release : release_in N ≡ release_in M
  unfolding release_in
  same-release = tab_ext _ _ 256 (λ k h. ap release_tick (same-job k))

  pub same-jobs : jobs_in N ≡ jobs_in M
  unfolding jobs_in
  same-jobs = tab_ext _ _ 16 (λ j h. ap length (same j))

module _ (i : ℕ) (M N : Machine) (S : Serves i M N) where
  head_at : job_at M (16 * i) ≡ job S.release (suc S.work)
  head_at =
      let e : 16 * i + 0 ≡ 16 * i = omega arith in
      (rw e at (job-at M i 0 (omega arith))) ∙ ap (λ (q : List Job). get_or q 0 no_job) S.here

  head_work_lem : row (remaining_in M) (16 * i) ≡ suc S.work
  head_work_lem = row-remaining M (16 * i) (omega (arith, S.low)) ∙ ap remaining head_at

  head_release_lem : row (release_in M) (16 * i) ≡ S.release
  head_release_lem = row-release M (16 * i) (omega (arith, S.low)) ∙ ap release_tick head_at

  -- another loop's place
  other_place : (j q : ℕ) → q < 16 → eqb j i ≡ false → job_at N (16 * j + q) ≡ job_at M (16 * j + q)
  other_place j q l e = rw (job-at N j q l, job-at M j q l, S.others j e)

  module _ (done : S.work ≡ 0) where
    finishes : last_tick i (remaining_in M) ≡ true
    unfolding last_tick
    finishes = rw (head_work_lem, done)

    gone-queue : (N.lane i).queue ≡ S.rest
    unfolding served
    gone-queue = S.gone ∙ rw done

    -- the place of loop i that a place's job comes from
    own-place : (q : ℕ) → q < 15 → job_at N (16 * i + q) ≡ job_at M (16 * i + q + 1)
    own-place q l =
        let e : 16 * i + q + 1 ≡ 16 * i + suc q = omega arith in
        rw (job-at N i q (omega arith), e, job-at M i (suc q) (omega arith), gone-queue, S.here)

    last-place : job_at N (16 * i + 15) ≡ no_job
    last-place = rw (job-at N i 15 (omega arith), gone-queue) (get_or-eq_default S.rest no_job S.few)

    -- an array of the places, by what is read of a job
    moved-places :
        (f : Job → ℕ) (l : List ℕ) → f no_job ≡ 0 → ((k : ℕ) → k < 256 → row l k ≡ f (job_at M k))
        → (k : ℕ) → k < 256 → f (job_at N k) ≡ moved_row i l k
    unfolding moved_row
    moved-places f l z reads =
        by_place (λ k. f (job_at N k) ≡ moved_row i l k)
        (λ j q h m. rw (loop-of j q m, place_in_lem j q m) (at j q h m (eqb j i) refl (eqb q 15) refl))
      where
        at :
            (j q : ℕ) → j < 16 → q < 16 → (b : Bool) → eqb j i ≡ b → (c : Bool) → eqb q 15 ≡ c
            → f (job_at N (16 * j + q)) ≡ cond b (cond c 0 (row l (16 * j + q + 1))) (row l (16 * j + q))
        at j q h m true e true g = rw (eqb-true j i e, eqb-true q 15 g, last-place) z
        at j q h m true e false g =
            let far : q < 15 = small q m (eqb-false q 15 g) in
            rw (eqb-true j i e, own-place q far) (sym (reads (16 * i + q + 1) (omega (arith, S.low))))
          where
            small : (r : ℕ) → r < 16 → (r ≡ 15 → ⊥) → r < 15
            small r l ne = omega arith
        at j q h m false e c g = rw (other_place j q m e) (sym (reads (16 * j + q) (omega arith)))

    done-work : remaining_in N ≡ moved i (remaining_in M)
    unfolding remaining_in
    done-work = rw (moved-row i (remaining_in M) S.low (length-tab _ 256)) (tab_ext _ (moved_row i (remaining_in M)) 256 (moved-places remaining (remaining_in M) refl (row-remaining M)))

    done-release : release_in N ≡ moved i (release_in M)
    unfolding release_in
    done-release = rw (moved-row i (release_in M) S.low (length-tab _ 256)) (tab_ext _ (moved_row i (release_in M)) 256 (moved-places release_tick (release_in M) refl (row-release M)))

    done-jobs : jobs_in N ≡ set (jobs_in M) i (row (jobs_in M) i - 1)
    unfolding jobs_in
    done-jobs =
        sym
        (set-tab (λ j. length (M.lane j).queue) 16 i (row (jobs_in M) i - 1)
        ∙ tab_ext _ _ 16 (λ j h. at j (eqb j i) refl))
      where
        at : (j : ℕ) (b : Bool) → eqb j i ≡ b → cond b (row (jobs_in M) i - 1) (length (M.lane j).queue) ≡ length (N.lane j).queue
        at j true e =
            rw (eqb-true j i e, row-jobs M i S.low, S.here, gone-queue) (omega arith)
        at j false e = ap length (sym (S.others j e))

  module _ (v : ℕ) (more : S.work ≡ suc v) where
    goes_on : last_tick i (remaining_in M) ≡ false
    unfolding last_tick
    goes_on = rw (head_work_lem, more) (lt-leb (suc (suc v)) 1 (omega arith))

    less-queue : (N.lane i).queue ≡ job S.release (suc v) ∷ S.rest
    unfolding served
    less-queue = S.gone ∙ rw more

    more-places :
        (k : ℕ) → k < 256
        → (remaining (job_at N k) ≡ cond (eqb k (16 * i)) (row (remaining_in M) (16 * i) - 1) (remaining (job_at M k)))
        × (release_tick (job_at N k) ≡ release_tick (job_at M k))
    more-places =
        by_place _ (λ j q h m. at j q m (eqb j i) refl q refl)
      where
        at :
            (j q : ℕ) → q < 16 → (b : Bool) → eqb j i ≡ b → (p : ℕ) → q ≡ p
            → (remaining (job_at N (16 * j + q)) ≡ cond (eqb (16 * j + q) (16 * i)) (row (remaining_in M) (16 * i) - 1) (remaining (job_at M (16 * j + q))))
            × (release_tick (job_at N (16 * j + q)) ≡ release_tick (job_at M (16 * j + q)))
        at j q m true e zero z =
            rw (eq-eqb (16 * j + q) (16 * i) (omega (arith, eqb-true j i e)), job-at N j q m, job-at M j q m, eqb-true j i e, z, less-queue, S.here, head_work_lem, more)
            (omega arith, refl)
        at j q m true e (suc p) z =
            rw (ne_eqb (16 * j + q) (16 * i) (λ (x : 16 * j + q ≡ 16 * i). omega (arith, eqb-true j i e)), job-at N j q m, job-at M j q m, eqb-true j i e, z, less-queue, S.here)
            (refl, refl)
        at j q m false e p z =
            rw (ne_eqb (16 * j + q) (16 * i) (λ (x : 16 * j + q ≡ 16 * i). eqb-false j i e (omega arith)), other_place j q m e) (refl, refl)

    more-work : remaining_in N ≡ set (remaining_in M) (16 * i) (row (remaining_in M) (16 * i) - 1)
    unfolding remaining_in
    more-work =
        sym
        (set-tab (λ k. remaining (job_at M k)) 256 (16 * i) (row (remaining_in M) (16 * i) - 1)
        ∙ tab_ext _ _ 256 (λ k h. sym (more-places k h).0))

    more-release : release_in N ≡ release_in M
    unfolding release_in
    more-release = tab_ext _ _ 256 (λ k h. (more-places k h).1)

    more-jobs : jobs_in N ≡ jobs_in M
    unfolding jobs_in
    more-jobs = tab_ext _ _ 16 (λ j h. at j (eqb j i) refl)
      where
        at : (j : ℕ) (b : Bool) → eqb j i ≡ b → length (N.lane j).queue ≡ length (M.lane j).queue
        at j true e = rw (eqb-true j i e, less-queue, S.here)
        at j false e = ap length (S.others j e)

  pub served-work : remaining_in N ≡ work_after i (remaining_in M)
  unfolding work_after
  served-work = go S.work refl
    where
      go : (w : ℕ) → S.work ≡ w → remaining_in N ≡ cond (last_tick i (remaining_in M)) (moved i (remaining_in M)) (set (remaining_in M) (16 * i) (row (remaining_in M) (16 * i) - 1))
      go zero e = rw (finishes e) (done-work e)
      go (suc v) e = rw (goes_on v e) (more-work v e)

  pub served-release : release_in N ≡ release_after i (remaining_in M) (release_in M)
  unfolding release_after
  served-release = go S.work refl
    where
      go : (w : ℕ) → S.work ≡ w → release_in N ≡ cond (last_tick i (remaining_in M)) (moved i (release_in M)) (release_in M)
      go zero e = rw (finishes e) (done-release e)
      go (suc v) e = rw (goes_on v e) (more-release v e)

  pub served-jobs : jobs_in N ≡ jobs_after i (remaining_in M) (jobs_in M)
  unfolding jobs_after
  served-jobs = go S.work refl
    where
      go : (w : ℕ) → S.work ≡ w → jobs_in N ≡ cond (last_tick i (remaining_in M)) (set (jobs_in M) i (row (jobs_in M) i - 1)) (jobs_in M)
      go zero e = rw (finishes e) (done-jobs e)
      go (suc v) e = rw (goes_on v e) (more-jobs v e)

  pub served-response : (now : ℕ) → response now (M.lane i).queue ≡ response_after now i (remaining_in M) (release_in M)
  unfolding response_after response
  served-response now = rw S.here (go S.work refl)
    where
      go : (w : ℕ) → S.work ≡ w → response now (job S.release (suc S.work) ∷ S.rest) ≡ cond (last_tick i (remaining_in M)) (now - row (release_in M) (16 * i)) 0
      go zero e = rw (finishes e, head_release_lem, e)
      go (suc v) e = rw (goes_on v e, e)
