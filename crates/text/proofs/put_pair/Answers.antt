-- `text::put_pair` meets its contract: three pieces, each behind the one before.
use native.Mathlib.Omega.{arith}
use Rattle.decimal.specs.Decimal.{words}
use Rattle.decimal.proofs.DecimalLaws.{length-said}
use Rattle.decimal.proofs.PutLaws.{put-behind}
use Rattle.text.specs.Printed.{pair_line}
use Rattle.text.specs.PrintedLaws.{length-pair}
use Rattle.text.proofs.put_pair.Goals as goal

pub put_said-middle-requires : goal.put_said-middle-requires
put_said-middle-requires c =
    let a = c.args in
    omega (arith, length-pair a.first.now a.a a.second.now a.b, length-said a.first.now a.a)

pub put_said-end-requires : goal.put_said-end-requires
put_said-end-requires c =
    let s = c.put_said-middle in
    let a = c.args in
    omega (
      arith,
      length-pair a.first.now a.a a.second.now a.b,
      length-said a.first.now a.a,
      length-said a.second.now a.b,
      s.ensures.place,
      s.auto.out,
    )

pub put_words-requires : goal.put_words-requires
put_words-requires c =
    let s = c.put_said-end in
    let r = c.put_said-middle in
    let a = c.args in
    omega (
      arith,
      length-pair a.first.now a.a a.second.now a.b,
      length-said a.first.now a.a,
      length-said a.second.now a.b,
      s.ensures.place,
      s.auto.out,
      r.ensures.place,
      r.auto.out,
    )

pub returns : goal.returns
unfolding pair_line words
returns c =
    put-behind (put-behind c.put_said-middle.ensures c.put_said-end.ensures) c.put_words.ensures
