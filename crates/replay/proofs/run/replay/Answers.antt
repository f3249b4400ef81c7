-- `replay::run::replay` meets its contract.
use Rattle.fields.specs.Columns.{columns_of}
use Rattle.fields.specs.declared.columns.Columns.{Columns}
use Rattle.running.specs.RunCode.{plan-few, run_begun}
use mathlib.Core.Path.{ap}
use Rattle.replay.proofs.run.replay.Goals as goal

pub split-requires : goal.split-requires
split-requires c = let b = c in plan-few b.args.plan b.requires.0.accepted

pub run_all-requires : goal.run_all-requires
unfolding columns_of
run_all-requires c =
    let b = c in
    let s = c.split.ensures in (
      b.args.plan,
      run_begun b.requires.0 b.requires.1 b.requires.2
          (ap (λ (x : Columns). x.separation) s) (ap (λ (x : Columns). x.budget) s) (ap (λ (x : Columns). x.offset) s),
    )

pub returns : goal.returns
unfolding columns_of
returns c =
    let b = c in
    let s = c.split.ensures in
    c.run_all.ensures b.args.plan
    (run_begun b.requires.0 b.requires.1 b.requires.2
    (ap (λ (x : Columns). x.separation) s) (ap (λ (x : Columns). x.budget) s) (ap (λ (x : Columns). x.offset) s))
