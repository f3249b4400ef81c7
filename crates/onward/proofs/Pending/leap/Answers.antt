-- `onward::Pending::leap` meets its contract.
use Rattle.running.specs.ReadyLaws.{ready-few}
use Rattle.running.proofs.AllCode.{leap_in, leap_finishing, leap_made}
use native.Mathlib.Omega.{arith}
use Rattle.onward.proofs.Pending.leap.Goals as goal

pub least-ticks-requires : goal.least-ticks-requires
least-ticks-requires c = omega (arith, ready-few c.requires.1.1, c.min.ensures)

pub overflow_add-reached : goal.overflow_add-reached
overflow_add-reached c =
    let P = c.requires in
    omega (arith, (leap_in P.1.1 P.0 c.min.ensures c.least-ticks.ensures).1, P.1.1.limit)

pub run_heads-requires : goal.run_heads-requires
run_heads-requires c = ready-few c.requires.1.1

pub finish_all-requires : goal.finish_all-requires
finish_all-requires c =
    let P = c.requires in
    let s = c.run_heads.ensures in
    (omega (arith, s.3, ready-few P.1.1), leap_finishing P.1.1 P.0 c.min.ensures c.least-ticks.ensures s.0 s.1)

pub returns : goal.returns
returns c =
    let P = c.requires in
    let s = c.run_heads.ensures in
    leap_made P.1 P.0 c.min.ensures c.least-ticks.ensures s.0 s.1 c.finish_all.ensures
