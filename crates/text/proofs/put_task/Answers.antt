-- `text::put_task` meets its contract: five pieces, each behind the one before.
use native.Mathlib.Omega.{arith}
use Rattle.decimal.specs.Decimal.{words}
use Rattle.decimal.proofs.DecimalLaws.{length-said}
use Rattle.decimal.proofs.PutLaws.{put-behind}
use Rattle.text.specs.Printed.{task_line}
use Rattle.text.specs.PrintedLaws.{length-task-line}
use Rattle.text.proofs.put_task.Goals as goal

pub put_said-first-requires : goal.put_said-first-requires
unfolding words
put_said-first-requires c =
    let a = c.args in
    omega (
      arith,
      length-task-line a.i a.of.slack a.of.bound a.of.late,
      length-said (words "loop ") a.i,
    )

pub put_said-second-requires : goal.put_said-second-requires
unfolding words
put_said-second-requires c =
    let s1 = c.put_said-first in
    let a = c.args in
    omega (
      arith,
      length-task-line a.i a.of.slack a.of.bound a.of.late,
      length-said (words "loop ") a.i,
      length-said (words " slack ") a.of.slack,
      s1.ensures.place,
      s1.auto.out,
    )

pub put_said-third-requires : goal.put_said-third-requires
unfolding words
put_said-third-requires c =
    let s2 = c.put_said-second in
    let s1 = c.put_said-first in
    let a = c.args in
    omega (
      arith,
      length-task-line a.i a.of.slack a.of.bound a.of.late,
      length-said (words "loop ") a.i,
      length-said (words " slack ") a.of.slack,
      length-said (words " bound ") a.of.bound,
      s2.ensures.place,
      s2.auto.out,
      s1.ensures.place,
      s1.auto.out,
    )

pub put_said-fourth-requires : goal.put_said-fourth-requires
unfolding words
put_said-fourth-requires c =
    let s3 = c.put_said-third in
    let s2 = c.put_said-second in
    let s1 = c.put_said-first in
    let a = c.args in
    omega (
      arith,
      length-task-line a.i a.of.slack a.of.bound a.of.late,
      length-said (words "loop ") a.i,
      length-said (words " slack ") a.of.slack,
      length-said (words " bound ") a.of.bound,
      length-said (words " late ") a.of.late,
      s3.ensures.place,
      s3.auto.out,
      s2.ensures.place,
      s2.auto.out,
      s1.ensures.place,
      s1.auto.out,
    )

pub put_words-requires : goal.put_words-requires
unfolding words
put_words-requires c =
    let s4 = c.put_said-fourth in
    let s3 = c.put_said-third in
    let s2 = c.put_said-second in
    let s1 = c.put_said-first in
    let a = c.args in
    omega (
      arith,
      length-task-line a.i a.of.slack a.of.bound a.of.late,
      c.requires,
      length-said (words "loop ") a.i,
      length-said (words " slack ") a.of.slack,
      length-said (words " bound ") a.of.bound,
      length-said (words " late ") a.of.late,
      s4.ensures.place,
      s4.auto.out,
      s3.ensures.place,
      s3.auto.out,
      s2.ensures.place,
      s2.auto.out,
      s1.ensures.place,
      s1.auto.out,
    )

pub returns : goal.returns
unfolding task_line words
returns c =
    put-behind
    (put-behind
    (put-behind (put-behind c.put_said-first.ensures c.put_said-second.ensures) c.put_said-third.ensures)
    c.put_said-fourth.ensures)
    c.put_words.ensures
