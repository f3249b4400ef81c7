-- `text::put_counted` meets its contract. The loop's invariant: the first i names are stored behind the word.
use mathlib.Core.Path.{◌≡◌}
use native.Mathlib.Omega.{arith}
use Rattle.std.proofs.Common.{get_or-take, length-take-le}
use Rattle.tasks.specs.TaskSet.{row}
use Rattle.decimal.specs.Decimal.{words}
use Rattle.decimal.proofs.DecimalLaws.{length-said, decimal-length}
use Rattle.decimal.proofs.PutLaws.{put-behind}
use Rattle.text.specs.PrintedLaws.{stored-none, stored_next, name_in, names-short, counted-line}
use Rattle.text.proofs.put_counted.Goals as goal

pub loop-name-init : goal.loop-name-init
loop-name-init c = stored-none _ _ _

pub put_said-end-requires : goal.put_said-end-requires
unfolding row name_in words
put_said-end-requires c =
    let s = c in
    let p = s.requires in
    let l = c.loop-name in
    let w = c.put_words-end in
    let long = length-take-le s.args.count s.args.counted (omega (arith, p.0)) in
    rw (get_or-take s.args.count s.args.counted l.name-index 0 (omega (arith, long)))
    (omega (
      arith,
      l.auto.out,
      l.invariant.place,
      w.ensures.place,
      w.auto.out,
      p.2,
      long,
      names-short s.args.counted l.name-index (λ a h. p.1 a (omega (arith, long))),
      length-said (words " ") (row s.args.counted l.name-index),
      decimal-length 1 (row s.args.counted l.name-index) (omega (arith, p.1 l.name-index (omega (arith, long)))),
    ))

pub loop-name-preserved : goal.loop-name-preserved
unfolding name_in row words
loop-name-preserved c =
    let l = c.loop-name in
    let t = c.put_said-end in
    let long = length-take-le c.args.count c.args.counted (omega (arith, c.requires.0)) in
    stored_next (name_in c.args.counted) l.name-index l.invariant (rw (get_or-take c.args.count c.args.counted l.name-index 0 (omega (arith, long))) at t.ensures)

pub put_words-requires : goal.put_words-requires
put_words-requires c =
    let s = c in
    let p = s.requires in
    let l = c.loop-name in
    let w = c.put_words-end in
    let long = length-take-le s.args.count s.args.counted (omega (arith, p.0)) in
    omega (arith, l.auto.out, l.invariant.place, w.ensures.place, w.auto.out, p.2, long, names-short s.args.counted l.name-index (λ a h. p.1 a (omega (arith, long))))

pub returns : goal.returns
unfolding words
returns c =
    let s = c in
    let l = c.loop-name in
    let long = length-take-le s.args.count s.args.counted (omega (arith, s.requires.0)) in
    let e : l.name-index ≡ s.args.count = omega (arith, long) in
    rw (counted-line s.args.counted s.args.count (omega (arith, s.requires.0)))
    (put-behind (put-behind c.put_words-end.ensures (rw e at l.invariant)) c.put_words.ensures)
