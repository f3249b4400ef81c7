-- `writer::write_accepted` meets its contract: each return is a case of `Writes`.
use Rattle.std.specs.Prelude.{Ok, Err}
use native.Mathlib.Omega.{arith}
use mathlib.Core.Path.{refl, ap}
use Rattle.codec.specs.TaskLaws.{size_times}
use Rattle.sections.specs.WriteLaws.{length-plan}
use Rattle.writer.proofs.WriterLaws.{plan-few, write_short, write_done}
use Rattle.writer.proofs.write_accepted.Goals as goal

pub table_length-requires : goal.table_length-requires
table_length-requires c =
    let a = c.args in
    omega (arith, size_times a.plan.edition a.plan.tasks, plan-few _ c.requires, c.slack_count-offers.ensures.1)

pub returns-then-out-table_length : goal.returns-then-out-table_length
returns-then-out-table_length c =
    let s = c.args in
    write_short s.plan s.out.now (Err c.at.result) c.requires
    (omega (arith, length-plan s.plan, c.slack_count-offers.ensures.0, c.table_length.ensures, c.if-out-table_length.true)) (ap Err c.at.ensures) refl

pub put_plan-requires : goal.put_plan-requires
put_plan-requires c =
    let s = c.args in
    let f = plan-few s.plan c.requires in (
      f.0,
      f.1,
      omega (
        arith,
        length-plan s.plan,
        c.slack_count-offers.ensures.0,
        c.table_length.ensures,
        c.if-out-table_length.false,
      ),
    )

pub returns : goal.returns
returns c =
    let s = c.args in
    write_done s.plan s.out.now (Ok c.put_plan.result) c.requires _
    (omega (
      arith,
      length-plan s.plan,
      c.slack_count-offers.ensures.0,
      c.table_length.ensures,
      c.if-out-table_length.false,
    ))
    refl
    c.put_plan.ensures.0
    c.put_plan.ensures.1
