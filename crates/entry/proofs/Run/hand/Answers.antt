-- `entry::Run::hand` meets its contract.
use Rattle.running.proofs.HandLaws.{hand_low, answer_20, hand_answer, hand_refused, hand_behind, hand_place, hand_rises, hand_first}
use Rattle.history.specs.Engine.{outcome_of}
use Rattle.state.proofs.CallLaws.{admission-room}
use Rattle.tasks.specs.TaskSet.{row}
use native.Mathlib.Omega.{arith}
use mathlib.Core.Path.{refl, sym, ap, ◌∙◌}
use Rattle.entry.proofs.Run.hand.Goals as goal

pub returns-then-on-task : goal.returns-then-on-task
returns-then-on-task c = (refl, λ p l out₀ X. hand_refused X (answer_20 X c.if-on-task.true) (rw c.number.ensures at c.put_refused.ensures))

pub prove-unreachable-requires : goal.prove-unreachable-requires
prove-unreachable-requires c = omega (arith, hand_low c.requires.1.1.1 c.if-on-task.false)

pub returns-in-Err : goal.returns-in-Err
unfolding row
returns-in-Err c = (
  refl,
  λ p l out₀ X.
      hand_refused X
      (sym (hand_answer X c.if-on-task.false c.admission_test-test.ensures) ∙ ap outcome_of c.in-Err.is)
      c.put_refused-in-Err.ensures,
)

pub prove-unreachable-requires-2 : goal.prove-unreachable-requires-2
prove-unreachable-requires-2 c =
    let r = admission-room _ _ _ _ _ _ _ (sym c.admission_test-test.ensures ∙ c.in_default.is) in
    omega (arith, r)

pub insert-requires : goal.insert-requires
unfolding row
insert-requires c =
    let X = c.requires.1.1.1 in
    let t = (sym (hand_answer X c.if-on-task.false c.admission_test-test.ensures) ∙ ap outcome_of c.in_default.is) in
    (hand_place X t c.if-held-eq0.true, hand_rises X t c.if-held-eq0.true)

pub returns-then-held-eq0 : goal.returns-then-held-eq0
unfolding row
returns-then-held-eq0 c =
    let I = c.insert.ensures in (
      refl,
      λ p l out₀ X.
          rw I.1
          (hand_first X
          (sym (hand_answer X c.if-on-task.false c.admission_test-test.ensures) ∙ ap outcome_of c.in_default.is)
          c.if-held-eq0.true c.if-on-task.false (rw c.head_key.ensures at I.0)),
    )

pub returns-else-held-eq0 : goal.returns-else-held-eq0
unfolding row
returns-else-held-eq0 c = (
  refl,
  λ p l out₀ X.
      hand_behind X
      (sym (hand_answer X c.if-on-task.false c.admission_test-test.ensures) ∙ ap outcome_of c.in_default.is)
      c.if-held-eq0.false,
)
