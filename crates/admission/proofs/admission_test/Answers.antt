-- `admission::admission_test` meets its contract.
use Rattle.state.specs.CallLaws.{admission}
use Rattle.machine.specs.Admission.{join_tests}
use Rattle.tasks.specs.Tests.{first_met, outside}
use borrow.Author.Tests.{lt-ltb, le-ltb, le-leb, lt-leb}
use mathlib.Core.Path.{sym, ◌∙◌}
use Rattle.admission.proofs.admission_test.Goals as goal

pub returns-then-demand-lt1 : goal.returns-then-demand-lt1
unfolding admission join_tests first_met outside
returns-then-demand-lt1 c = rw (c.at.ensures, lt-ltb _ _ c.if-demand-lt1.true)

pub returns-then-budget-demand : goal.returns-then-budget-demand
unfolding admission join_tests first_met outside
returns-then-budget-demand c = rw (c.at-then-budget-demand.ensures, le-ltb _ _ c.if-demand-lt1.false, lt-ltb _ _ c.if-budget-demand.true)

pub returns-then-too_soon : goal.returns-then-too_soon
unfolding admission join_tests first_met outside
returns-then-too_soon c = rw (c.at-then-too_soon.ensures, le-ltb _ _ c.if-demand-lt1.false, le-ltb _ _ c.if-budget-demand.false, sym c.too_soon.ensures ∙ c.if-too_soon.true)

pub returns-then-jobs-ge-JOBS_HIGH : goal.returns-then-jobs-ge-JOBS_HIGH
unfolding admission join_tests first_met outside
returns-then-jobs-ge-JOBS_HIGH c = rw (c.at-then-jobs-ge-JOBS_HIGH.ensures, le-ltb _ _ c.if-demand-lt1.false, le-ltb _ _ c.if-budget-demand.false, sym c.too_soon.ensures ∙ c.if-too_soon.false, le-leb _ _ c.if-jobs-ge-JOBS_HIGH.true)

pub returns : goal.returns
unfolding admission join_tests first_met outside
returns c = rw (le-ltb _ _ c.if-demand-lt1.false, le-ltb _ _ c.if-budget-demand.false, sym c.too_soon.ensures ∙ c.if-too_soon.false, lt-leb _ _ c.if-jobs-ge-JOBS_HIGH.false)
