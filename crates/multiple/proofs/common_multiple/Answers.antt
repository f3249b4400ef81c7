-- `multiple::common_multiple` meets its contract. The loop's invariant: h is the least common multiple of the separations passed, and within
-- the limit. Once it is past the limit the whole is too, since a further separation never makes it smaller.
use Rattle.std.specs.Prelude.{ℕ, ◌+◌, ◌≡◌, refl}
use Rattle.std.proofs.Common.{arith, rules, sym, ap₂, ◌∙◌}
use Rattle.laws.specs.Multiple.{lcm, lcm_below}
use Rattle.laws.proofs.TakenLaws.{taken}
use Rattle.laws.proofs.MultipleLaws.{lcm_below-low, lcm_below-more, lcm_below_mono}
use Rattle.multiple.proofs.common_multiple.Goals as goal
use Rattle.multiple.proofs.common_multiple.Invariants.{row}

-- after the call, h is the least common multiple of one separation more
grown : (f : ℕ → ℕ) (i h w r : ℕ) → r ≡ lcm h w → h ≡ lcm_below f i → w ≡ f i → r ≡ lcm_below f (i + 1)
grown f i h w r e a b = e ∙ ap₂ lcm a b ∙ sym (lcm_below-more f i)

pub loop-t-init : goal.loop-t-init
unfolding lcm_below
loop-t-init c = (search rules, refl)

pub joined-h-requires : goal.joined-h-requires
joined-h-requires c =
    let i = c.loop-t.t-index in
    let p = c.requires in
    let w = taken c.args.separation.now c.args.tasks i c.loop-t-test.true in
    record {
      multiple-low = omega (arith, lcm_below-low (row c.args.separation.now) i, c.loop-t.invariant.1);
      multiple-high = c.loop-t.invariant.0;
      separation-low = omega (arith, c.from.ensures, w.1, p.low i w.0);
      separation-high = omega (arith, c.from.ensures, w.1, p.high i w.0);
    }

pub returns-then-h-gt-MULTIPLE_HIGH : goal.returns-then-h-gt-MULTIPLE_HIGH
returns-then-h-gt-MULTIPLE_HIGH c =
    let f = row c.args.separation.now in
    let i = c.loop-t.t-index in
    let w = taken c.args.separation.now c.args.tasks i c.loop-t-test.true in
    let g : c.joined-h.result ≡ lcm_below f (i + 1) = grown f i _ _ _ c.joined-h.ensures c.loop-t.invariant.1 (c.from.ensures ∙ w.1) in
    omega (arith, g, lcm_below_mono f (i + 1) c.args.tasks (omega (arith, w.0)))

pub loop-t-preserved : goal.loop-t-preserved
loop-t-preserved c =
    let w = taken c.args.separation.now c.args.tasks c.loop-t.t-index c.loop-t-test.true in
    (search rules, grown (row c.args.separation.now) c.loop-t.t-index _ _ _ c.joined-h.ensures c.loop-t.invariant.1 (c.from.ensures ∙ w.1))
