-- Each turn of the loop looks at one more number.
use Prim.Native.Nat.{ℕ, ◌+◌, ◌-◌, ◌≤◌, ◌<◌, min}
use mathlib.Core.Path.{◌≡◌}
use mathlib.Core.Logic.{inl, inr, ⊎_elim}
use native.Mathlib.Omega.{arith}
use Rattle.laws.specs.EveryLaws.{below_or_not}
use Rattle.tasks.specs.TaskSet.{TaskSet}
use Rattle.wish_search.specs.SheetLaws.{cores-low}
use Rattle.wish_search.specs.Leaps.{Far}
use Rattle.wish_search.specs.FarLaws.{ahead-all}
use Rattle.wish_search.proofs.search.Sheet.leap.Goals.{else-loop-from-test, then-loop-from-test+then-best-from}
use Rattle.wish_search.proofs.search.Sheet.leap.Goals as goal

-- one number more, and the lesser of the two
one_more :
    (s : TaskSet) (start best to from : ℕ) → start ≤ from → ((k : ℕ) → k < from - start → Far s (start + k) best) → Far s from to
    → (k : ℕ) → k < from + 1 - start → Far s (start + k) (min best to)
one_more s start best to from low each f k h v p j e =
    ⊎_elim (λ (l : k < from - start). omega (arith, each k l v p j e))
    (λ (l : from - start ≤ k). let q : start + k ≡ from = omega arith in omega (arith, f v p j (rw q at e)))
    (below_or_not k (from - start))

pub loop-from-preserved : goal.loop-from-preserved
loop-from-preserved c =
    let l = c.loop-from in
    let f = c.far-to.ensures in
    let m = c.min-best.ensures in (
      omega (arith, m, l.invariant.0),
      omega (arith, m, l.invariant.1, f.2),
      f.1,
      λ s b g. rw m (one_more s _ _ _ _ l.auto.from (l.invariant.3 s b g) (f.0 s b g)),
    )

pub returns : goal.returns
returns c =
    let l = c.loop-from in (
      λ s b g.
          ahead-all s _ _ (l.from - c.args.start) (omega (arith, cores-low g.of, g.of.cores)) (l.invariant.3 s b g)
          (elim c.loop-from-test.branch [
            | else-loop-from-test w ↦ inl (omega (arith, g.of.cores))
            | then-loop-from-test+then-best-from w ↦ inr (omega (arith, l.auto.from))
          ]),
      l.invariant.2,
      l.invariant.1,
      l.invariant.0,
    )
