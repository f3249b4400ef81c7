-- Beyond a table of n loops there are no jobs: the turns of the loops below n are those of all sixteen.
--     turns-rest                       the turns of the loops from n on change nothing
use Prim.Native.Nat.{ℕ, zero, suc, ◌-◌, ◌≤◌, ◌<◌}
use Rattle.std.specs.Prelude.{Bool, cond, ◌≡◌, List, set}
use Rattle.std.proofs.Math.Bool.{true, false}
use Rattle.std.proofs.Math.Path.{refl}
use Rattle.std.proofs.Common.{◌∙◌, eq-or-lt_of_le, eq-eqb}
use Rattle.std.proofs.Math.Logic.{⊎_elim}
use native.Mathlib.Omega.{arith}
use Rattle.std.proofs.Math.ListN.{get_or}
use Rattle.std.proofs.Math.Seq.{get_or-set_other}
use Rattle.tasks.specs.TaskSet.{row}
use Rattle.choice.specs.Pick.{Jobless}
use Rattle.service.specs.Serve.{last_tick, jobs_after, ran, turn_jobs, turn_work, turn_release, turn_responses, Arrays, turn_of, turns}

module _ (finish : ℕ) (keys : List ℕ) (x : Arrays) where
  -- a turn changes no other loop's job count
  turn_other : (i j key : ℕ) (jobs work : List ℕ) → i < j → row (turn_jobs i key jobs work) j ≡ row jobs j
  unfolding turn_jobs jobs_after row
  turn_other i j key jobs work h = go (ran i key jobs) (last_tick i work)
    where
      go : (b c : Bool) → get_or (cond b (cond c (set jobs i (get_or jobs i 0 - 1)) jobs) jobs) j 0 ≡ get_or jobs j 0
      go true true = get_or-set_other jobs i j (get_or jobs i 0 - 1) 0 (λ (e : j ≡ i). omega arith)
      go true false = refl
      go false c = refl

  turns-other : (i j : ℕ) → i ≤ j → row (turns finish keys x i).jobs j ≡ row x.jobs j
  unfolding turns turn_of
  turns-other zero j h = refl
  turns-other (suc i) j h = turn_other i j (row keys i) _ _ (omega arith) ∙ turns-other i j (omega arith)

  -- a turn of a loop without a job
  turn_idle : (i key : ℕ) (y : Arrays) → row y.jobs i ≡ 0 → turn_of finish key i y ≡ y
  unfolding turn_of turn_jobs turn_work turn_release turn_responses ran
  turn_idle i key y z = rw (eq-eqb (row y.jobs i) 0 z)

  turns_up : (n N : ℕ) → n ≤ N → ((j : ℕ) → n ≤ j → j < N → row x.jobs j ≡ 0) → turns finish keys x N ≡ turns finish keys x n
  unfolding turns
  turns_up n zero h none = let z : n ≡ 0 = omega arith in rw z
  turns_up n (suc N) h none =
      ⊎_elim
      (λ (q : n ≡ suc N). rw q)
      (λ (q : n < suc N).
      let l : n ≤ N = omega arith in
      turn_idle N (row keys N) (turns finish keys x N) (turns-other N N (omega arith) ∙ none N l (omega arith))
      ∙ turns_up n N l (λ j a b. none j a (omega arith)))
      (eq-or-lt_of_le h)

  pub turns-rest : (n : ℕ) → n ≤ 16 → Jobless n x.jobs → turns finish keys x 16 ≡ turns finish keys x n
  turns-rest n h none = turns_up n 16 h none
