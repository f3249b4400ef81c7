-- `engine_store::put::put_machine` meets its contract.
use Rattle.tasks.specs.Content.{zero_plan}
use Rattle.state.specs.State.{flag_at}
use Rattle.engine_words.proofs.PartLaws.{tab-row}
use Rattle.engine_words.proofs.StoredLaws.{machine_stored}
use Rattle.engine_store.proofs.put.put_machine.Goals as goal

pub returns : goal.returns
unfolding flag_at
returns c =
    let a = c.args in
    rw (c.put_numbers-3.ensures, c.put_numbers-2.ensures, c.put_numbers.ensures, c.put_flags.ensures, c.put_jobs.ensures)
    (rw (tab-row a.last.now 16 c.told-last, tab-row a.remaining.now 256 c.told-remaining, tab-row a.release.now 256 c.told-release) at
    (machine_stored a.words.now
    (record {
      plan = zero_plan;
      clock = a.clock;
      jobs = a.jobs.now;
      released = a.released.now;
      last = a.last.now;
      remaining = a.remaining.now;
      release = a.release.now;
    })))
