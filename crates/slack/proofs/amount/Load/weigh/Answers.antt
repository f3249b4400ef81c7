use borrow.Author.Count.{below_none, below_more}
use native.Mathlib.Nat.{mul-le-mul}
use Rattle.laws.specs.TabLaws.{filled_none}
use Rattle.tasks.specs.TaskSet.{row}
use Rattle.fields.specs.StageLaws.{column-more}
use Rattle.slack.specs.Weights.{weight_row}
use native.Mathlib.Omega.{arith}
use Prim.Native.Nat.{ℕ, ◌≤◌, ◌+◌, ◌*◌}
use mathlib.Core.Path.{◌≡◌}
use lib.ListN.{get_or}
use Rattle.slack.proofs.amount.Load.weigh.Goals as goal

-- a weight's limit
high : (share v : ℕ) → share ≤ 1000000 → v ≤ 8589934592 → share * v ≤ 8589934592000000
high share v h k = mul-le-mul {n₂ = 1000000} {m₂ = 8589934592} h k

pub loop-i-init : goal.loop-i-init
loop-i-init c = (omega arith, filled_none _ 0 16, below_none _)

pub overflow_mul-weight : goal.overflow_mul-weight
unfolding row
overflow_mul-weight c =
    let s = c in
    let i = c.loop-i.i in
    omega (arith, high _ (c.from.result + c.from-in-loop-i.result) (s.requires.million i (omega arith)) (omega arith))

pub loop-i-preserved : goal.loop-i-preserved
unfolding weight_row row
loop-i-preserved c =
    let s = c in
    let l = c.loop-i in
    let v = c.from.result + c.from-in-loop-i.result in
    let w = weight_row s.args.self.now.share.now s.args.self.now.offset.now s.args.slack.now in
    let e : get_or s.args.self.now.share.now l.i 0 * v ≡ w l.i = rw (c.from-in-loop-i.ensures, c.from.ensures) in (
      omega arith,
      rw e (column-more l.weight w l.i (omega arith) l.invariant.1),
      below_more _ l.i l.invariant.2 (rw e at (high _ v (s.requires.million l.i (omega arith)) (omega arith))),
    )
