-- `replay::run::run_log` meets its contract.
use Rattle.tasks.specs.Answer.{Answer, Accepted}
use Rattle.tasks.specs.declared.Plan.{Plan}
use Rattle.codec.specs.Table.{verdict}
use Rattle.table.specs.declared.Judgement.{Judgement}
use Rattle.table.specs.Judged.{judged}
use Rattle.logs.specs.LogBytes.{entries_in}
use Rattle.logs.specs.LogStages.{answer_of_entries}
use Rattle.logs.specs.LogLaws.{entries-length, log-length, read_accepted, read_refused}
use Rattle.running.specs.Entered.{Fitting}
use Rattle.running.specs.RunCode.{taken-few}
use Rattle.replay.specs.declared.run.Ran.{Ran}
use Rattle.replay.specs.RanLaws.{run-refused-table, run-refused-log, run_short, run-fitting, run-taken}
use native.Mathlib.Omega.{arith}
use Prim.Native.Nat.{ℕ, ◌+◌, ◌-◌, ◌≤◌, ◌<◌}
use mathlib.Core.Path.{◌≡◌, ap, sym, subst, ◌∙◌}
use mathlib.Core.List.{List}
use lib.ListN.{length}
use borrow.Author.Rules.{rules}
use Rattle.replay.proofs.run.run_log.Goals as goal

-- the table's verdict is the judgement's answer
verdict_is : (t : List ℕ) (j : Judgement) (b : Answer) → j ≡ judged t → j.answer ≡ b → verdict t ≡ b
unfolding judged
verdict_is t j b e q = sym (ap (λ (x : Judgement). x.answer) e) ∙ q

accepts : (t : List ℕ) (j : Judgement) → j ≡ judged t → j.answer ≡ Accepted → verdict t ≡ Accepted
accepts t j = verdict_is t j Accepted

few-none : (r : Ran) (b : Answer) → ◌≡◌ {A = Ran} r (record { answer = b; taken = 0; refused = 0 }) → r.taken + r.refused < 65536
few-none r b q = rw q (omega arith)

part : (n k : ℕ) → k ≤ n → n < 65536 → k + (n - k) < 65536
part n k h w = omega arith

pub returns-in_default : goal.returns-in_default
returns-in_default c =
    let a = c.args in
    let q = c.in_default.is in
    let f = run-refused-table a.table.now a.log.now a.out.now _ _ (verdict_is a.table.now _ _ c.judge-judgement.ensures q) in
    (c.refused.ensures ∙ ap (λ (b : Answer). record { answer = b; taken = 0; refused = 0 }) q ∙ f.ran, f.leaves, few-none _ _ c.refused.ensures)

pub returns-in_default-entries : goal.returns-in_default-entries
unfolding answer_of_entries
returns-in_default-entries c =
    let a = c.args in
    let e = c.read_entries-entries.ensures in
    let q = c.in_default-entries.is in
    let told : c.map.result ≡ answer_of_entries c.read_entries-entries.result = search rules in
    let f = run-refused-log a.table.now a.log.now a.out.now (accepts a.table.now _ c.judge-judgement.ensures c.in-Ok.is) _ _ (read_refused a.log.now _ e _ q) in (
      c.refused-in_default-entries.ensures
          ∙ ap (λ (b : Answer). record { answer = b; taken = 0; refused = 0 }) (told ∙ ap answer_of_entries q)
          ∙ f.ran,
      f.leaves,
      few-none _ _ c.refused-in_default-entries.ensures,
    )

pub overflow_mul-count : goal.overflow_mul-count
overflow_mul-count c =
    let r = c.read_entries-entries.ensures in
    omega (arith, (read_accepted _ _ r _ c.in-Ok-entries.is).2)

pub returns-then-out-count : goal.returns-then-out-count
returns-then-out-count c =
    let a = c.args in
    let r = c.read_entries-entries.ensures in
    let g = c.in-Ok-entries.is in
    let t = accepts a.table.now _ c.judge-judgement.ensures c.in-Ok.is in
    let l = read_accepted a.log.now _ r _ g in
    let f = run_short a.table.now a.log.now a.out.now t l.1 (omega (arith, l.0, c.if-out-count.true)) in
    (rw c.at.ensures at c.refused-then-out-count.ensures ∙ f.ran, f.leaves, few-none _ _ c.refused-then-out-count.ensures)

pub replay-taken-requires : goal.replay-taken-requires
unfolding judged
replay-taken-requires c =
    let a = c.args in
    let r = c.read_entries-entries.ensures in
    let g = c.in-Ok-entries.is in
    let t = accepts a.table.now _ c.judge-judgement.ensures c.in-Ok.is in
    let l = read_accepted a.log.now _ r _ g in
    let small = l.2 in (
      subst (λ (p : Plan). Fitting p (entries_in a.log.now) a.out.now) (sym (ap (λ (j : Judgement). j.plan) c.judge-judgement.ensures))
          (run-fitting a.table.now a.log.now a.out.now t l.1 (omega (arith, l.0, c.if-out-count.false)) (omega (arith, l.0, small))),
      l.0 ∙ sym (entries-length a.log.now),
      rw (entries-length a.log.now) (log-length a.log.now l.1),
    )

pub overflow_sub-result : goal.overflow_sub-result
overflow_sub-result c =
    let a = c.args in
    let r = c.read_entries-entries.ensures in
    let g = c.in-Ok-entries.is in
    let t = accepts a.table.now _ c.judge-judgement.ensures c.in-Ok.is in
    let l = read_accepted a.log.now _ r _ g in
    omega (arith, c.replay-taken.ensures.0, taken-few c.judge-judgement.result.plan (entries_in a.log.now) (length (entries_in a.log.now)), entries-length a.log.now, l.0)

pub returns : goal.returns
returns c =
    let a = c.args in
    let r = c.read_entries-entries.ensures in
    let g = c.in-Ok-entries.is in
    let t = accepts a.table.now _ c.judge-judgement.ensures c.in-Ok.is in
    let l = read_accepted a.log.now _ r _ g in
    let p = ap (λ (j : Judgement). j.plan) c.judge-judgement.ensures in
    let e = rw p at c.replay-taken.ensures in
    let n = run-taken a.table.now a.log.now a.out.now t l.1 (omega (arith, l.0, c.if-out-count.false)) _ _ e.0 e.1 _ l.0 in
    let small = l.2 in (
      n.0,
      n.1,
      part _ c.replay-taken.result
          (omega (arith, c.replay-taken.ensures.0, taken-few c.judge-judgement.result.plan (entries_in a.log.now) (length (entries_in a.log.now)), entries-length a.log.now, l.0))
          small,
    )
