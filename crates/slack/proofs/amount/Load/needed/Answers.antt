-- A is small while the slack is, so that what it needs fits 32 bits.
use native.Mathlib.Omega.{arith}
use Prim.Native.Nat.{ℕ, ◌+◌, ◌-◌, ◌/◌, ◌≤◌, ◌<◌}
use mathlib.Core.Path.{◌≡◌, ◌∙◌}
use mathlib.Core.List.{List}
use Rattle.tasks.specs.TaskSet.{TaskSet, hyperperiod, amount, row}
use Rattle.tasks.proofs.ShareLaws.{hyperperiod-low}
use Rattle.tasks.proofs.AmountLaws.{amount-high}
use Rattle.tasks.proofs.CeilingLaws.{level_high}
use Rattle.slack.specs.Weights.{weight_row, Amounts}
use Rattle.slack.specs.Arrays.{need, ArraysOf, Needs}
use Rattle.slack.proofs.NeedLaws.{need-least}
use Rattle.slack.specs.StageLaws.{more, multiple-low, multiple-high, few, surplus-high, counted-row, amount-row}
use Rattle.slack.proofs.amount.Load.needed.Goals as goal

module _ {s : TaskSet} {shares budgets offsets : List ℕ} {h surpluses m n : ℕ} (g : ArraysOf s shares budgets offsets h surpluses m n)
    (x : List ℕ) (low : (i : ℕ) → i < n → row x i ≤ 1600000) {names : List ℕ} {a : ℕ}
    (w : Amounts (weight_row shares offsets x) (m - 1) n surpluses names a)
  where
    is : a ≡ amount s (row x)
    is = w.whole ∙ amount-row g x

    small : (i : ℕ) → i < s.count → row x i ≤ 1600000
    small i l = low i (omega (arith, g.tasks))

    whole-high : a ≤ 40000000000000000
    whole-high = omega (arith, is, amount-high s g.limits (row x) (λ i l. omega (arith, small i l)))

    of : (a + (h - 1)) / h ≡ need (amount s (row x)) (hyperperiod s)
    unfolding need
    of = rw (is, g.multiple)

    limit : (a + (h - 1)) / h ≤ 12000000
    limit = rw of (need-least (amount s (row x)) (hyperperiod s) (hyperperiod-low s) 12000000 (level_high s g.limits (row x) small))

    done : Needs s (row x) names ((a + (h - 1)) / h)
    done = record { needs = of; limit = limit; counts = rw g.cores at (w.names ∙ counted-row g x) }

pub amount-whole-requires : goal.amount-whole-requires
amount-whole-requires c = let g = c.requires.0.2 in (few g, surplus-high g, c.requires.1, omega (arith, more g))

pub overflow_sub-result : goal.overflow_sub-result
overflow_sub-result c = multiple-low c.requires.0.2

pub overflow_add-result : goal.overflow_add-result
overflow_add-result c = omega (arith, whole-high c.requires.0.2 _ c.requires.2 c.amount-whole.ensures, multiple-high c.requires.0.2)

pub nonzero_div-result : goal.nonzero_div-result
nonzero_div-result c = multiple-low c.requires.0.2

pub overflow_cast-result : goal.overflow_cast-result
overflow_cast-result c = omega (arith, limit c.requires.0.2 _ c.requires.2 c.amount-whole.ensures)

pub returns : goal.returns
returns c = ((λ t b k. done k _ c.requires.2 c.amount-whole.ensures), c.amount-whole.ensures.again)
