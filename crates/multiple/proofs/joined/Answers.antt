-- `multiple::joined` meets its contract. The product fits: the quotient is at most 1,000,000 and the separation at most 100,000.
use mathlib.Core.Path.{sym}
use native.Mathlib.Nat.{dvd_of_mod-eq-zero}
use Rattle.laws.proofs.MultipleLaws.{lcm-same}
use Rattle.multiple.specs.GreatestLaws.{greatest_turn, greatest_low, greatest_lcm}
use Rattle.multiple.proofs.joined.Goals as goal

pub returns-then-rest-eq0 : goal.returns-then-rest-eq0
returns-then-rest-eq0 c =
    let p = c.requires in
    let t = c.args.t in
    sym (lcm-same c.args.h t p.multiple-low p.separation-low (dvd_of_mod-eq-zero t c.if-rest-eq0.true))

pub nonzero_div-result : goal.nonzero_div-result
nonzero_div-result c = greatest_low c.args.t _ c.gcd-g.result c.requires.separation-low c.gcd-g.ensures

pub returns : goal.returns
returns c =
    let h = c.args.h in
    let t = c.args.t in
    let g = c.gcd-g.result in
    let p = c.requires in
    greatest_lcm h t g p.multiple-low p.separation-low (greatest_turn h t g c.gcd-g.ensures)
