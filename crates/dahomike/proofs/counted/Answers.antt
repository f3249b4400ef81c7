-- `dahomike::counted` meets its contract.
use Prim.Native.Nat.{ℕ, ◌≤◌}
use mathlib.Core.Path.{◌≡◌, sym, ◌∙◌, ap}
use mathlib.Core.List.{List}
use native.Mathlib.Omega.{arith}
use lib.ListN.{length}
use lib.Seq.{length-take-le}
use Rattle.table.specs.declared.Judgement.{Judgement}
use Rattle.table.specs.Judged.{judged}
use Rattle.table.specs.NamesLaws.{names-count, names-few}
use Rattle.std.specs.Prelude.{Err}
use Rattle.dahomike_answer.specs.Number.{told_number}
use Rattle.dahomike.proofs.AnswerLaws.{counted-refused, counted-short, counted_done}
use borrow.Author.Rules.{rules}
use Rattle.dahomike.proofs.counted.Goals as goal

-- the names stand in the first eight places
within : (t : List ℕ) (j : Judgement) → j ≡ judged t → length j.counted ≡ 8 → j.count ≤ length j.counted
within t j e n = omega (arith, names-count t j e, names-few t)

pub returns-in_err-judgement : goal.returns-in_err-judgement
returns-in_err-judgement c =
    let q = c.in_err-judgement.field-0.0 in
    let e : c.from_residual.result ≡ Err q = search rules in
    let r = counted-refused c.args.table.now c.args.out.now _ c.judge-judgement.ensures q.number q.index c.in_err-judgement.was in
    (ap told_number e ∙ r.0, r.1)

pub returns-then-out-count : goal.returns-then-out-count
returns-then-out-count c =
    let s = c in
    let r = counted-short s.args.table.now s.args.out.now _ c.judge-judgement.ensures c.in_ok-judgement.was c.if-out-count.true in
    (rw c.at.ensures r.0, r.1)

pub slice_bounds-counted-end : goal.slice_bounds-counted-end
slice_bounds-counted-end c = within c.args.table.now _ c.judge-judgement.ensures (search rules)

pub slice_bounds-put_words-end : goal.slice_bounds-put_words-end
slice_bounds-put_words-end c =
    sym (length-take-le _ _ (within c.args.table.now _ c.judge-judgement.ensures (search rules)))

pub returns : goal.returns
returns c =
    let s = c in
    let r = counted_done s.args.table.now s.args.out.now _ c.judge-judgement.ensures c.in_ok-judgement.was c.if-out-count.false in
    (r.0, c.put_words.ensures.left ∙ r.1)
