-- `replay::run::run_all` meets its contract; the loop's invariant says that the entries so far are entered.
use Rattle.running.specs.RunCode.{taken_to, enters_none, enters_more, enters_few, run-clock, run-ready, run_end}
use Rattle.logs.specs.LogBytes.{entries_in}
use native.Mathlib.Omega.{arith}
use mathlib.Core.Path.{◌≡◌, refl, ap, ◌∙◌}
use borrow.Author.Rules.{rules}
use Rattle.replay.proofs.run.run_all.Goals as goal

pub loop-e-init : goal.loop-e-init
loop-e-init c = (refl, rw c.new-run.ensures enters_none)

pub overflow_add-taken : goal.overflow_add-taken
overflow_add-taken c =
    let few =
    enters_few c.loop-e.invariant.1 (omega arith) c.enter.ensures (c.requires.0, (c.args.out.now, c.requires.1)) in
    let X = c.requires.1 in
    omega (arith, few, X.all, X.entered.fitting.few)

pub loop-e-preserved : goal.loop-e-preserved
loop-e-preserved c =
    (search rules, rw c.from-taken.ensures (enters_more c.loop-e.invariant.1 (omega arith) c.enter.ensures))

pub overflow_add-to : goal.overflow_add-to
overflow_add-to c =
    let e : c.loop-e.e ≡ c.args.count = omega arith in
    let S = rw e at c.loop-e.invariant.1 in
    omega (arith, run-clock c.requires.1 (S c.requires.0 c.args.out.now c.requires.1).0)

pub advance-requires : goal.advance-requires
advance-requires c =
    let e : c.loop-e.e ≡ c.args.count = omega arith in
    let S = rw e at c.loop-e.invariant.1 in
    (omega arith, run-ready c.requires.1 (S c.requires.0 c.args.out.now c.requires.1).0)

pub returns : goal.returns
returns c =
    λ p B.
    let a = c.args in
    let e : c.loop-e.e ≡ a.count = omega arith in
    let S = rw e at c.loop-e.invariant.1 in
    let X = S p a.out.now B in
    (X.1 ∙ ap (taken_to p (entries_in a.on.now.log.now)) B.all, run_end B X.0 c.advance.ensures.1)
