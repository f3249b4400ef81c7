-- What a tick does to the arrays of a state, loop by loop, in the order of the code: a head that has more to do loses one tick of work; one that
-- is done is taken off, and its loop's places move down.
--     moved i l            loop i's sixteen places of an array moved down by one, the last one 0
--     last_tick i w         whether loop i's head finishes in this tick, by the array of remaining work
--     work_after, release_after, jobs_after, response_after        each array and the response after loop i has run
--     ran, turn_jobs, turn_work, turn_release, turn_responses      whether loop i ran, and the arrays after its turn, whether it did or not
--     Arrays, turn_of, turns      the four arrays together, one turn of all, and the turns of the loops below i
use Rattle.std.specs.Prelude.{ℕ, zero, suc, ◌+◌, ◌-◌, ◌*◌, Bool, cond, not, ◌&&◌, List, set, leb, eqb}
use Rattle.tasks.specs.TaskSet.{row}
use Rattle.choice.specs.Key.{key_of_none}

-- the first p of them moved, one after the other
unfoldable pub moved_to : ℕ → List ℕ → ℕ → List ℕ
moved_to i l zero = l
moved_to i l (suc p) = set (moved_to i l p) (16 * i + p) (row (moved_to i l p) (16 * i + p + 1))

unfoldable pub moved : ℕ → List ℕ → List ℕ
moved i l = set (moved_to i l 15) (16 * i + 15) 0

unfoldable pub last_tick : ℕ → List ℕ → Bool
last_tick i work = leb (row work (16 * i)) 1

unfoldable pub work_after : ℕ → List ℕ → List ℕ
work_after i work = cond (last_tick i work) (moved i work) (set work (16 * i) (row work (16 * i) - 1))

unfoldable pub release_after : ℕ → List ℕ → List ℕ → List ℕ
release_after i work release = cond (last_tick i work) (moved i release) release

unfoldable pub jobs_after : ℕ → List ℕ → List ℕ → List ℕ
jobs_after i work jobs = cond (last_tick i work) (set jobs i (row jobs i - 1)) jobs

-- finish tick `now` minus release tick
unfoldable pub response_after : ℕ → ℕ → List ℕ → List ℕ → ℕ
response_after now i work release = cond (last_tick i work) (now - row release (16 * i)) 0

-- whether loop i ran: it has a job, and its key was taken out
unfoldable pub ran : ℕ → ℕ → List ℕ → Bool
ran i key jobs = not (eqb (row jobs i) 0) && eqb key key_of_none

-- each array after loop i's turn
unfoldable pub turn_jobs : ℕ → ℕ → List ℕ → List ℕ → List ℕ
turn_jobs i key jobs work = cond (ran i key jobs) (jobs_after i work jobs) jobs

unfoldable pub turn_work : ℕ → ℕ → List ℕ → List ℕ → List ℕ
turn_work i key jobs work = cond (ran i key jobs) (work_after i work) work

unfoldable pub turn_release : ℕ → ℕ → List ℕ → List ℕ → List ℕ → List ℕ
turn_release i key jobs work release = cond (ran i key jobs) (release_after i work release) release

-- a loop that finished gets its response
unfoldable pub turn_responses : ℕ → ℕ → ℕ → List ℕ → List ℕ → List ℕ → List ℕ → List ℕ
turn_responses finish i key jobs work release responses =
    cond (ran i key jobs && last_tick i work) (set responses i (finish - row release (16 * i))) responses

-- the arrays that a tick works on
pub record Arrays : Type 0 where
  pub jobs : List ℕ
  pub work : List ℕ
  pub release : List ℕ
  pub responses : List ℕ

unfoldable pub turn_of : ℕ → ℕ → ℕ → Arrays → Arrays
turn_of finish key i x =
    record {
      jobs = turn_jobs i key x.jobs x.work;
      work = turn_work i key x.jobs x.work;
      release = turn_release i key x.jobs x.work x.release;
      responses = turn_responses finish i key x.jobs x.work x.release x.responses;
    }

-- after the turns of the loops below i, with the keys that the choice left
unfoldable pub turns : ℕ → List ℕ → Arrays → ℕ → Arrays
turns finish keys x zero = x
turns finish keys x (suc i) = turn_of finish (row keys i) i (turns finish keys x i)
