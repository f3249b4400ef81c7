-- `dahomike::answered` meets its contract.
use mathlib.Core.Path.{◌≡◌, ap, sym, ◌∙◌}
use Rattle.std.specs.Prelude.{Err}
use Rattle.tasks.specs.Answer.{Answer}
use Rattle.dahomike_answer.specs.Number.{answer_number, told_number}
use borrow.Author.Rules.{rules}
use native.Mathlib.Omega.{arith}
use native.Mathlib.Nat.{mul-le-mul}
use mathlib.Core.Bool.{Bool, true, false}
use Prim.Native.Nat.{◌≤◌}
use Rattle.dahomike.specs.Answers.{entry_size}
use Rattle.dahomike.proofs.ReportLaws.{tasks-few, reportable, answer-refused, answer-short, answer_done}
use Rattle.dahomike.proofs.answered.Goals as goal

size-high : (b : Bool) → entry_size b ≤ 12
size-high true = omega arith
size-high false = omega arith

pub returns-in_err-met : goal.returns-in_err-met
returns-in_err-met c =
    let a = c.args in
    let q = c.in_err-met.field-0.0 in
    let e : c.from_residual.result ≡ Err q = search rules in
    let r = answer-refused a.wishes _ a.plan a.out.now _ _ c.in_err-met.was in
    (ap told_number e ∙ ap (λ (b : Answer). answer_number b 0) (sym c.in_err-met.was) ∙ r.0, r.1)

pub overflow_mul-entry_size : goal.overflow_mul-entry_size
overflow_mul-entry_size c =
    let s = c in
    let few = tasks-few s.args.wishes (s.requires c.in_ok-met.was).1 in
    let size : c.entry_size.result ≤ 12 = rw c.entry_size.ensures (size-high s.args.wishes) in
    omega (arith, mul-le-mul {n₂ = 12} {m₂ = 16} size few)

pub returns-then-out-entry_size : goal.returns-then-out-entry_size
returns-then-out-entry_size c =
    let a = c.args in
    let r = answer-short a.wishes _ a.plan a.out.now c.in_ok-met.was (rw c.entry_size.ensures at c.if-out-entry_size.true) in
    (rw c.at.ensures r.0, r.1)

pub report-requires : goal.report-requires
report-requires c =
    let s = c in
    reportable s.args.wishes (s.requires c.in_ok-met.was).1 _ (rw c.entry_size.ensures at c.if-out-entry_size.false)

pub returns : goal.returns
returns c =
    let a = c.args in
    let r = answer_done a.wishes _ a.plan a.out.now c.in_ok-met.was (rw c.entry_size.ensures at c.if-out-entry_size.false) in
    (r.0, c.report.ensures ∙ r.1)
