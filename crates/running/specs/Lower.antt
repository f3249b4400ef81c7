-- Some ticks in which the same loops run and none of their jobs finishes: the machine after them.
--     lower_head k q           the queue whose head has k ticks of work less
--     lowered run k M         the machine k ticks later, in which the loops at which `run` holds have run
use Rattle.std.specs.Prelude.{ℕ, ◌+◌, ◌-◌, Bool, cond, List, [], ◌∷◌}
use Rattle.machine.specs.Machine.{Job, job, Machine}

abbrev pub lower_head : ℕ → List Job → List Job
lower_head k [] = []
lower_head k (job r w ∷ q) = job r (w - k) ∷ q

unfoldable pub lowered : (ℕ → Bool) → ℕ → Machine → Machine
lowered run k M =
    record {
      clock = k + M.clock;
      lane = λ i. record { last = (M.lane i).last; queue = cond (run i) (lower_head k (M.lane i).queue) (M.lane i).queue };
    }
