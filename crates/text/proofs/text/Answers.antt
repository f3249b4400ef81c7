-- `text::text` meets its contract: by the judgement's answer, the plan's lines with the last one behind them, or the refusal's.
use Prim.Native.Nat.{◌<◌}
use mathlib.Core.Path.{◌≡◌}
use native.Mathlib.Omega.{arith}
use lib.ListN.{length}
use Rattle.decimal.proofs.PutLaws.{put-behind}
use Rattle.table.specs.NamesLaws.{names-low}
use Rattle.text.specs.PrintedLaws.{refusal-short}
use Rattle.text.specs.TextLaws.{judged-passed, printed-plan, printed-refusal, count-few, plan-short, text-short, text-whole}
use borrow.Author.Rules.{rules}
use Rattle.text.proofs.text.Goals as goal

pub put_plan-lines-requires : goal.put_plan-lines-requires
put_plan-lines-requires c =
    (judged-passed c.args.table.now _ c.judge-judgement.ensures c.in-Ok.is, search rules)

pub put_counted-requires : goal.put_counted-requires
put_counted-requires c =
    let a = c.args in
    let j = c.judge-judgement.ensures in
    let e = c.in-Ok.is in
    let long : length a.out.now ≡ 1024 = search rules in (
      count-few a.table.now _ j,
      names-low a.table.now _ j,
      omega (arith, c.put_plan-lines.ensures.place, c.put_plan-lines.auto.out, plan-short _ (judged-passed a.table.now _ j e)),
    )

pub returns-in-Ok : goal.returns-in-Ok
returns-in-Ok c =
    let a = c.args in
    let r = c.judge-judgement.result in
    let j = c.judge-judgement.ensures in
    let e = c.in-Ok.is in
    let long : length r.counted ≡ 8 = search rules in
    let few = count-few a.table.now _ j in
    text-whole a.table.now a.out.now (printed-plan a.table.now _ j e)
    (text-short _ r.counted r.count (judged-passed a.table.now _ j e) few (omega arith) (names-low a.table.now _ j))
    (search rules)
    (put-behind c.put_plan-lines.ensures c.put_counted.ensures)

pub returns-in-Err : goal.returns-in-Err
returns-in-Err c =
    let a = c.args in
    let j = c.judge-judgement.ensures in
    let small : c.in-Err.refusal.number < 256 = search rules in
    let index_small : c.in-Err.refusal.index < 65536 = search rules in
    text-whole a.table.now a.out.now (printed-refusal a.table.now _ j _ _ c.in-Err.is)
    (refusal-short _ _ small index_small) (search rules) c.put_refusal.ensures
