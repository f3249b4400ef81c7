-- The tick of document 01's choice leads from a machine that is reached to another.
use Rattle.tasks.specs.TaskSet.{TaskSet}
use Rattle.machine.specs.Machine.{Machine, runs, tick}
use Rattle.machine.specs.Reached.{Reached, ticked}
use Rattle.machine.proofs.Choice.{earliest}

pub reached-tick : (s : TaskSet) (M : Machine) → Reached s M → Reached s (tick s M)
unfolding tick
reached-tick s M r = ticked (runs s M) (earliest s M) r
