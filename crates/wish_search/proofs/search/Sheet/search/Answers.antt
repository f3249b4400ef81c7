-- No solution's slack is below the slack on its way; the names can be handed to the choice again.
use native.Mathlib.Omega.{arith}
use mathlib.Core.List.{List}
use mathlib.Core.Path.{◌≡◌, refl, sym, ◌∙◌}
use Prim.Native.Nat.{ℕ, ◌≤◌, ◌<◌}
use Rattle.laws.specs.First.{first}
use Rattle.slack.specs.ArraysLaws.{zero_array}
use Rattle.tasks.specs.TaskSet.{TaskSet, row}
use Rattle.slack.proofs.SearchLaws.{turn_length, turn_past}
use Rattle.wishes.specs.RaisingLaws.{Below}
use Rattle.wishes.proofs.RaisingLaws.{below-start}
use Rattle.wish_offsets.specs.Rows.{past_row}
use Rattle.wish_search.specs.SheetArrays.{SheetOf}
use Rattle.wish_search.specs.SheetLaws.{cores-low, tasks-high, room-high, arrays}
use Rattle.wish_search.specs.TurnLaws.{within, turn_below, turn_falls, ended-still, ended-past}
use Rattle.wish_search.proofs.search.Sheet.search.Goals as goal

-- the code saw that no task's slack is above W − C
not-below : {f a n : ℕ} → a ≡ f → n ≤ a → n ≤ f
not-below e h = omega arith

low :
    {s : TaskSet} {shares separations budgets rooms : List ℕ} {h m n : ℕ} (g : SheetOf s shares separations budgets rooms h m n)
    (x : List ℕ) → Below s (row x) → n ≤ first (past_row x rooms) n → (i : ℕ) → i < n → row x i ≤ 1600000
low g x b e i l =
    let t : i < _ = rw g.tasks at l in
    omega (arith, within g x b e i t, g.room i t, room-high g i l)

pub loop-divided-init : goal.loop-divided-init
loop-divided-init c = (refl, λ k l. zero_array k, c.requires.1, λ t k. below-start t k.sheet.limits _ (λ i l. zero_array i))

pub next-need-requires : goal.next-need-requires
next-need-requires c =
    let g = c.requires.0.1 in
    let l = c.loop-divided in
    ((_, _, record { of = g; quotients = c.new-divided.ensures.0; remainders = c.new-divided.ensures.1 }), l.invariant.2, λ i h. low g l.slack (l.invariant.3 _ g) (not-below c.first_past.ensures c.if-first_past-self.false) i h)

pub loop-divided-smaller : goal.loop-divided-smaller
loop-divided-smaller c =
    let g = c.requires.0.1 in
    let l = c.loop-divided in
    let e = not-below c.first_past.ensures c.if-first_past-self.false in
    let q = c.new-divided.ensures.0 in
    let r = c.new-divided.ensures.1 in
    let d = c.next-need.ensures in
    let v = c.raise.ensures in
    turn_falls g l.slack (l.invariant.3 _ g) _ _ _ q r _ v.0 e (d.0 _ _ (record { of = g; quotients = q; remainders = r })).high (sym (c.if-not-raise.false) ∙ v.1)

pub loop-divided-preserved : goal.loop-divided-preserved
loop-divided-preserved c =
    let g = c.requires.0.1 in
    let l = c.loop-divided in
    let e = not-below c.first_past.ensures c.if-first_past-self.false in
    let q = c.new-divided.ensures.0 in
    let r = c.new-divided.ensures.1 in
    let d = c.next-need.ensures in
    let v = c.raise.ensures in (
      turn_length (arrays g l.slack) _ _ _ q r l.slack _ v.0,
      turn_past (arrays g l.slack) _ _ _ q r l.slack _ v.0 l.invariant.1,
      d.1,
      λ t k. let b = l.invariant.3 t k in turn_below k l.slack b _ _ _ q r _ v.0 ((d.0 _ _ (record { of = k; quotients = q; remainders = r })).under b),
    )

pub returns-then-first_past-self : goal.returns-then-first_past-self
returns-then-first_past-self c =
    λ t k.
    let l = c.loop-divided in
    ended-past k l.slack (l.invariant.3 t k) (rw c.first_past.ensures at c.if-first_past-self.true)

pub returns-then-not-raise : goal.returns-then-not-raise
returns-then-not-raise c =
    λ t k.
    let l = c.loop-divided in
    let e = not-below c.first_past.ensures c.if-first_past-self.false in
    let q = c.new-divided.ensures.0 in
    let r = c.new-divided.ensures.1 in
    let d = c.next-need.ensures in
    let v = c.raise.ensures in
    ended-still k l.slack (l.invariant.3 t k) _ _ _ q r _ v.0 e (d.0 _ _ (record { of = k; quotients = q; remainders = r })).high (sym (c.if-not-raise.true) ∙ v.1) l.invariant.1

pub new-divided-requires : goal.new-divided-requires
new-divided-requires c = let g = c.requires.0.1 in (tasks-high g, omega (arith, cores-low g))

pub nonzero_div-need : goal.nonzero_div-need
nonzero_div-need c = omega (arith, cores-low c.requires.0.1)

pub nonzero_rem-need : goal.nonzero_rem-need
nonzero_rem-need c = omega (arith, cores-low c.requires.0.1)
