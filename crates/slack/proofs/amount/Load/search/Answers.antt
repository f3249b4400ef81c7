-- The slack rises from zeros and stays below every compliant slack; the names can be handed to the choice again.
use Rattle.slack.specs.ArraysLaws.{zero_array}
use Rattle.tasks.proofs.RisingLaws.{rising-start, rising-high}
use Rattle.slack.proofs.SearchLaws.{turn_rising, turn_length, turn_past, turn_over, turn_counted, turn_less}
use native.Mathlib.Omega.{arith}
use mathlib.Core.Path.{refl, sym, ◌∙◌}
use Rattle.slack.proofs.amount.Load.search.Goals as goal

pub loop-divided-init : goal.loop-divided-init
loop-divided-init c =
    let s = c in
    (refl, λ k l. zero_array k, s.requires.1, λ t k. rising-start t _ (λ i l. zero_array i))

pub needed-need-requires : goal.needed-need-requires
needed-need-requires c =
    let l = c.loop-divided in
    let g = c.requires.0.1 in
    ((_, _, g), l.invariant.2, λ i h. omega (arith, rising-high _ g.limits _ (l.invariant.3 _ g) i (omega (arith, g.tasks))))

pub loop-divided-smaller : goal.loop-divided-smaller
loop-divided-smaller c =
    let g = c.requires.0.1 in
    let l = c.loop-divided in
    let q = c.new-divided.ensures.0 in
    let r = c.new-divided.ensures.1 in
    let d = c.needed-need.ensures.0 _ _ g in
    let v = c.raise.ensures in
    turn_less g _ _ _ q r l.slack _ v.0 (l.invariant.3 _ g) d.needs (sym (c.if-not-raise.false) ∙ v.1)

pub loop-divided-preserved : goal.loop-divided-preserved
loop-divided-preserved c =
    let g = c.requires.0.1 in
    let l = c.loop-divided in
    let q = c.new-divided.ensures.0 in
    let r = c.new-divided.ensures.1 in
    let d = c.needed-need.ensures in
    let v = c.raise.ensures.0 in (
      turn_length g _ _ _ q r l.slack _ v,
      turn_past g _ _ _ q r l.slack _ v l.invariant.1,
      d.1,
      λ t k. turn_rising k _ _ _ q r l.slack _ v (l.invariant.3 t k) (d.0 _ _ k).needs,
    )

pub returns : goal.returns
returns c =
    λ t k.
    let l = c.loop-divided in
    let q = c.new-divided.ensures.0 in
    let r = c.new-divided.ensures.1 in
    let d = c.needed-need.ensures.0 _ _ k in
    let v = c.raise.ensures in
    let done = sym (c.if-not-raise.true) ∙ v.1 in
    record {
      places = turn_over k _ _ _ q r l.slack _ v.0 (l.invariant.3 t k) d.needs done l.invariant.1;
      counts = λ more. d.counts ∙ turn_counted k _ _ _ q r l.slack _ v.0 (l.invariant.3 t k) d.needs done;
    }
