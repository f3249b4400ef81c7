-- `logs::read::release_at` meets its contract.
use Rattle.logs.specs.LogBytes.{entry_in}
use Rattle.logs.proofs.read.release_at.Goals as goal

pub returns : goal.returns
unfolding entry_in
returns c =
    record {
      tick = c.number4.ensures;
      task = c.count_at.ensures.0;
      demand = c.number4-2.ensures;
      small = c.count_at.ensures.1;
    }
