use native.Mathlib.Nat.{mul-le-mul}
use Rattle.laws.specs.Sum.{sum}
use Rattle.laws.specs.SumLaws.{sum_step}
use Rattle.tasks.specs.TaskSet.{row}
use native.Mathlib.Omega.{arith}
use Prim.Native.Nat.{ℕ, ◌≤◌, ◌*◌, ◌-◌}
use mathlib.Core.Path.{◌≡◌, refl}
use Rattle.slack.proofs.rates.surplus_of.Goals as goal

-- one task's surplus is at most 10^11
term : (share separation offset w : ℕ) → share ≤ 1000000 → separation ≤ 100000 → w ≡ separation - offset → share * w ≤ 100000000000
term share separation offset w h k e = mul-le-mul {n₂ = 1000000} {m₂ = 100000} h (omega arith)

pub loop-i-init : goal.loop-i-init
unfolding sum
loop-i-init c = (refl, omega arith)

pub overflow_sub-separation : goal.overflow_sub-separation
unfolding row
overflow_sub-separation c =
    omega (arith, c.requires.1 c.loop-i.i (omega arith))

pub overflow_mul-all : goal.overflow_mul-all
unfolding row
overflow_mul-all c =
    let p = c.requires.1 c.loop-i.i (omega arith) in
    omega (arith, term _ _ _ _ p.0 p.1 c.from.ensures)

pub overflow_add-all : goal.overflow_add-all
unfolding row
overflow_add-all c =
    let p = c.requires.1 c.loop-i.i (omega arith) in
    omega (arith, term _ _ _ _ p.0 p.1 c.from.ensures)

pub loop-i-preserved : goal.loop-i-preserved
unfolding row
loop-i-preserved c =
    let l = c.loop-i in
    let a = c.args in
    let p = c.requires.1 l.i (omega arith) in (
      rw (
        sum_step (λ i. row a.share.now i * (row a.separation.now i - row a.offset.now i)) l.i,
        l.invariant.0,
        c.from.ensures,
      ),
      omega (arith, term _ _ _ _ p.0 p.1 c.from.ensures),
    )
