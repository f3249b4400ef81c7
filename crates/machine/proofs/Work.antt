-- The work that is left, which a taken release adds to and a tick takes from: the ticks in which a loop runs are the ticks of its demands.
--     work-joined          a taken release adds its demand
--     work-served          a tick in which the loop runs takes 1 off
--     work-ticked          a tick takes 1 off for every loop that runs
--     some-run             while anything is pending some loop runs
use Rattle.std.specs.Prelude.{ℕ, zero, suc, ◌+◌, ◌≤◌, ◌<◌, Bool, ◌≡◌, refl, List, [], ◌∷◌, ◌++◌}
use Rattle.std.proofs.Math.Bool.{true, false, cond}
use Rattle.std.proofs.lemmas.Bool.{false≢true}
use Rattle.std.proofs.Math.Path.{sym}
use Rattle.std.proofs.Common.{◌∙◌}
use native.Mathlib.Omega.{arith}
use Rattle.laws.specs.Sum.{count}
use Rattle.laws.specs.SumLaws.{sum_ext, sum_add, count_pos}
use Rattle.tasks.specs.TaskSet.{TaskSet}
use Rattle.machine.specs.Machine.{Job, job, Machine, pending, waiting, served, advanced}
use Rattle.machine.specs.Reached.{EarliestFirst}
use Rattle.machine.specs.Sound.{Rising, Sound}
use Rattle.machine.specs.Work.{work, work_in}

pub work-joined : (t c : ℕ) (q : List Job) → work (q ++ job t c ∷ []) ≡ work q + c
work-joined t c [] = omega arith
work-joined t c (job a w ∷ q) = omega (arith, work-joined t c q)

pub work-served : (T C t r : ℕ) (q : List Job) → Rising T C t r q → pending q ≡ true → work (served q) + 1 ≡ work q
unfolding served
work-served T C t r [] p e = absurd (false≢true e)
work-served T C t r (job a zero ∷ q) p e = absurd (omega arith)
work-served T C t r (job a (suc zero) ∷ q) p e = omega arith
work-served T C t r (job a (suc (suc w)) ∷ q) p e = omega arith

module _ (s : TaskSet) (M : Machine) (run : ℕ → Bool) (E : EarliestFirst s M run) where
  pub work-ticked : Sound s M → work_in s (advanced run M) + count run s.count ≡ work_in s M
  unfolding work_in advanced count waiting
  work-ticked S =
      sym (sum_add (λ i. work (cond (run i) (served (M.lane i).queue) (M.lane i).queue)) (λ i. cond (run i) 1 0) s.count)
      ∙ sum_ext
      (λ i. work (cond (run i) (served (M.lane i).queue) (M.lane i).queue) + cond (run i) 1 0)
      (λ i. work (M.lane i).queue)
      s.count
      (λ i h. one i h (run i) refl)
    where
      one :
          (i : ℕ) → i < s.count → (b : Bool) → run i ≡ b
          → work (cond b (served (M.lane i).queue) (M.lane i).queue) + cond b 1 0 ≡ work (M.lane i).queue
      one i h true e =
          work-served (s.task i).separation (s.task i).budget M.clock 0 (M.lane i).queue (S.lanes i h).rising (E.heads i e).1
      one i h false e = omega arith

  pub some-run : 1 ≤ s.cores → (i : ℕ) → i < s.count → waiting M i ≡ true → 1 ≤ count run s.count
  some-run low i h w = omega (arith, E.many, count_pos (waiting M) s.count i h w)
