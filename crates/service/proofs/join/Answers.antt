-- `service::join` meets its contract.
use Rattle.tasks.specs.TaskSet.{row}
use native.Mathlib.Omega.{arith}
use mathlib.Core.Path.{refl}
use Rattle.service.proofs.join.Goals as goal

pub overflow_add-place : goal.overflow_add-place
unfolding row
overflow_add-place c = omega arith

pub overflow_add-state : goal.overflow_add-state
unfolding row
overflow_add-state c = omega arith

pub offset_bounds-state-place : goal.offset_bounds-state-place
unfolding row
offset_bounds-state-place c = omega arith

pub bounds-state-place : goal.bounds-state-place
unfolding row
bounds-state-place c = omega arith

pub offset_bounds-state-place-2 : goal.offset_bounds-state-place-2
unfolding row
offset_bounds-state-place-2 c = omega arith

pub bounds-state-place-2 : goal.bounds-state-place-2
unfolding row
bounds-state-place-2 c = omega arith

pub returns-clause-joined : goal.returns-clause-joined
unfolding row
returns-clause-joined c =
    record { jobs-joined = refl; released-joined = refl; last-joined = refl; work-joined = refl; release-joined = refl }
