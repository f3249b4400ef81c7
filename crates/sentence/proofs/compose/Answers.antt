-- `sentence::compose` meets its contract: six pieces, each behind the one before, of which all together fit the array.
use Prim.Native.Nat.{ℕ, ◌≤◌}
use lib.ListN.{length}
use native.Mathlib.Omega.{arith}
use Rattle.decimal.specs.Decimal.{words, decimal, said}
use Rattle.decimal.proofs.DecimalLaws.{length-said}
use Rattle.decimal.proofs.PutLaws.{put-behind}
use Rattle.wording.specs.Sentence.{sentence_of}
use Rattle.wording.specs.SentenceTheorems.{Pieces}
use Rattle.wording.proofs.SentenceTheorems.{pieces_short}
use borrow.Author.Rules.{rules}
use Rattle.sentence.proofs.compose.Goals as goal

-- the pieces of what is handed in, the words told with the number among them
said_short : (k : ℕ) → length (decimal k) ≤ 10 → length (said (words "Refusal ") k) ≤ 18
unfolding words
said_short k h = omega (arith, length-said (words "Refusal ") k)

pub put_said-named-requires : goal.put_said-named-requires
unfolding words
put_said-named-requires c =
    let p : Pieces c.args.number c.args.index c.args.value = pieces_short c.args.number c.args.index c.args.value (search rules) (search rules) (search rules) in
    omega (arith, p, said_short c.args.number p.number)

pub put_place-placed-requires : goal.put_place-placed-requires
unfolding words
put_place-placed-requires c =
    let p : Pieces c.args.number c.args.index c.args.value = pieces_short c.args.number c.args.index c.args.value (search rules) (search rules) (search rules) in
    omega (arith, p, said_short c.args.number p.number, c.put_said-named.ensures.place)

pub put_decimal-counted-requires : goal.put_decimal-counted-requires
unfolding words
put_decimal-counted-requires c =
    let p : Pieces c.args.number c.args.index c.args.value = pieces_short c.args.number c.args.index c.args.value (search rules) (search rules) (search rules) in
    omega (arith, p, said_short c.args.number p.number, c.put_said-named.ensures.place, c.put_place-placed.ensures.place)

pub put_rule-ruled-requires : goal.put_rule-ruled-requires
unfolding words
put_rule-ruled-requires c =
    let p : Pieces c.args.number c.args.index c.args.value = pieces_short c.args.number c.args.index c.args.value (search rules) (search rules) (search rules) in
    omega (arith, p, said_short c.args.number p.number, c.put_said-named.ensures.place, c.put_place-placed.ensures.place, c.put_decimal-counted.ensures.place)

pub put_decimal-found-requires : goal.put_decimal-found-requires
unfolding words
put_decimal-found-requires c =
    let p : Pieces c.args.number c.args.index c.args.value = pieces_short c.args.number c.args.index c.args.value (search rules) (search rules) (search rules) in
    omega (arith, p, said_short c.args.number p.number, c.put_said-named.ensures.place, c.put_place-placed.ensures.place, c.put_decimal-counted.ensures.place, c.put_rule-ruled.ensures.place)

pub put_words-requires : goal.put_words-requires
unfolding words
put_words-requires c =
    let p : Pieces c.args.number c.args.index c.args.value = pieces_short c.args.number c.args.index c.args.value (search rules) (search rules) (search rules) in
    omega (arith, p, said_short c.args.number p.number, c.put_said-named.ensures.place, c.put_place-placed.ensures.place, c.put_decimal-counted.ensures.place, c.put_rule-ruled.ensures.place, c.put_decimal-found.ensures.place)

pub returns : goal.returns
unfolding sentence_of said words
returns c =
    put-behind
    (put-behind (put-behind c.put_said-named.ensures (put-behind c.put_place-placed.ensures c.put_decimal-counted.ensures)) (put-behind c.put_rule-ruled.ensures c.put_decimal-found.ensures))
    c.put_words.ensures
