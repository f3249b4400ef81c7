use Prim.Native.Nat.{min, ◌/◌}
use mathlib.Core.List.{List}
use Rattle.laws.specs.Multiple.{lcm_below}
use Rattle.std.specs.Prelude.{Ok}
use Rattle.tasks.specs.Answer.{Refused}
use native.Mathlib.Nat.{mul-le-mul}
use Rattle.laws.specs.Sum.{sum}
use Rattle.laws.specs.Tab.{tab, cut}
use Rattle.tasks.specs.TaskSet.{hyperperiod, share, surplus, row}
use Rattle.fields.specs.Columns.{set_from}
use Rattle.slack.specs.Rates.{Ranges, Rated, rates_test}
use Rattle.slack.specs.RatesLaws.{rates_test_9, rates_test_10, rates_test_pass, multiple-over, multiple-whole, shares_filled, share-within, shares_total, surplus-total}
use native.Mathlib.Omega.{arith}
use Prim.Native.Nat.{ℕ, ◌≤◌, ◌<◌, ◌*◌, ◌-◌}
use mathlib.Core.Path.{◌≡◌, sym, ◌∙◌}
use lib.ListN.{get_or}
use Rattle.slack.proofs.rates.rate.Goals as goal

-- the least common multiple where it is within its limit, at any place after the test
module _ (m n : ℕ) (separation budget offset : List ℕ) (g : Ranges (set_from m n separation budget offset)) (h : ℕ)
    (e : h ≡ min (lcm_below (λ i. get_or separation i 0) n) 1000001) (l : h ≤ 1000000) (shares : List ℕ)
    (f : shares ≡ tab (cut n (λ i. row budget i * h / row separation i) 0) 16)
  where
    w : h ≡ hyperperiod (set_from m n separation budget offset)
    w = multiple-whole m n separation budget offset h e l

    filled : shares ≡ tab (cut n (share (set_from m n separation budget offset)) 0) 16
    filled = shares_filled m n separation budget offset h w shares f

    within : (i : ℕ) → i < n → row shares i ≤ 1000000
    within = share-within m n separation budget offset h w g l shares filled

    added : sum (row shares) n ≡ sum (share (set_from m n separation budget offset)) n
    added = shares_total m n separation budget offset h w g l shares filled

    over : (all : ℕ) → all ≡ sum (row shares) n → m * h < all → rates_test (set_from m n separation budget offset) ≡ Refused 10 0
    unfolding set_from
    over all a b = rates_test_10 (set_from m n separation budget offset) (rw (← w) l) (rw (← w, ← added, ← a) b)

    passed :
        (all surplus : ℕ) → all ≡ sum (row shares) n → all ≤ m * h →
        surplus ≡ sum (λ i. row shares i * (row separation i - row offset i)) n →
        Rated
        (set_from m n separation budget offset)
        (Ok (record { multiple = h; surplus = surplus; share = shares }))
    unfolding set_from
    passed all surplus a b d =
        record {
          answer = sym (rates_test_pass (set_from m n separation budget offset) (rw (← w) l) (rw (← w, ← added, ← a) b));
          figures =
              record {
                multiple = w;
                surplus = d ∙ surplus-total m n separation budget offset h w g l shares filled;
                share = filled;
              };
        }

pub common_multiple-multiple-requires : goal.common_multiple-multiple-requires
unfolding set_from row
common_multiple-multiple-requires c = record { places = c.requires.tasks; low = c.requires.timed.separation-low; high = c.requires.separation }

pub returns-then-multiple-gt-MULTIPLE_HIGH : goal.returns-then-multiple-gt-MULTIPLE_HIGH
returns-then-multiple-gt-MULTIPLE_HIGH c =
    let a = c.args in
    let n = multiple-over a.cores _ _ a.budget.now a.offset.now _ c.common_multiple-multiple.ensures c.if-multiple-gt-MULTIPLE_HIGH.true in
    record { answer = rw c.at.ensures (sym (rates_test_9 _ n)); figures = tt }

pub shares-share-requires : goal.shares-share-requires
unfolding set_from
shares-share-requires c = let g = c.requires in (g.tasks, c.if-multiple-gt-MULTIPLE_HIGH.false, g.timed.separation-low)

pub total-all-requires : goal.total-all-requires
unfolding set_from
total-all-requires c =
    let s = c in (
      s.requires.tasks,
      within s.args.cores _ _ _ _ s.requires _ c.common_multiple-multiple.ensures c.if-multiple-gt-MULTIPLE_HIGH.false _ c.shares-share.ensures,
    )

pub overflow_mul-cores : goal.overflow_mul-cores
unfolding set_from
overflow_mul-cores c =
    let s = c in
    omega (arith, mul-le-mul {n₁ = s.args.cores} {m₁ = c.common_multiple-multiple.result} {n₂ = 8} {m₂ = 1000000} s.requires.cores c.if-multiple-gt-MULTIPLE_HIGH.false)

pub returns-then-cores-multiple : goal.returns-then-cores-multiple
returns-then-cores-multiple c =
    let s = c in
    let e =
    over s.args.cores _ _ _ _ s.requires _ c.common_multiple-multiple.ensures
    c.if-multiple-gt-MULTIPLE_HIGH.false _ c.shares-share.ensures _ c.total-all.ensures
    c.if-cores-multiple.true
    in
    record { answer = rw c.at-then-cores-multiple.ensures (sym e); figures = tt }

pub surplus_of-surplus-requires : goal.surplus_of-surplus-requires
unfolding set_from
surplus_of-surplus-requires c =
    let s = c in (
      s.requires.tasks,
      λ i h. (
        within s.args.cores _ _ _ _ s.requires _ c.common_multiple-multiple.ensures
            c.if-multiple-gt-MULTIPLE_HIGH.false _ c.shares-share.ensures i h,
        s.requires.separation i h,
        s.requires.offset i h,
      ),
    )

pub returns : goal.returns
returns c =
    let s = c in
    passed s.args.cores _ _ _ _ s.requires _ c.common_multiple-multiple.ensures
    c.if-multiple-gt-MULTIPLE_HIGH.false _ c.shares-share.ensures
    _ _ c.total-all.ensures c.if-cores-multiple.false c.surplus_of-surplus.ensures
