-- `writer::write` meets its contract: a refusal of the plan is a case of `Writes`, and the rest is `write_accepted`.
use mathlib.Core.Path.{refl, sym, ◌∙◌}
use Rattle.std.specs.Prelude.{Err}
use Rattle.writer.proofs.WriterLaws.{write_refused}
use Rattle.writer.proofs.write.Goals as goal

pub returns : goal.returns
returns c =
    let r = c.in-Err.refusal in
    write_refused c.args.plan c.args.out.now (Err r) r.number r.index (sym c.test.ensures ∙ c.in-Err.is) refl refl
