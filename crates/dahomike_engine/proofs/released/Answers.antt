-- `dahomike_engine::released` meets its contract.
use mathlib.Core.Path.{◌≡◌, ap, sym, refl, ◌∙◌}
use Rattle.std.specs.Prelude.{Err}
use Rattle.dahomike_answer.specs.Number.{answer_number, told_number}
use Rattle.tasks.specs.Answer.{Answer}
use Rattle.engine_words.specs.Words.{machine_words}
use Rattle.std.proofs.lemmas.List.Edits.{sets}
use Rattle.state.specs.declared.State.{State}
use Rattle.engine_lent.proofs.DoneLaws.{release_misfit, release-refused, release-kept, release_done}
use Rattle.dahomike_engine.proofs.Told.{fit_told, misfit_told}
use borrow.Author.Rules.{rules}
use Rattle.dahomike_engine.proofs.released.Goals as goal

pub returns-in_err-fitting : goal.returns-in_err-fitting
returns-in_err-fitting c =
    let q = c.in_err-fitting.field-0.0 in
    let e : c.from_residual.result ≡ Err q = search rules in
    let m = misfit_told _ q (sym c.in_err-fitting.was ∙ c.fitting.ensures) in
    release_misfit _ _ _ _ m.0 (ap told_number e ∙ m.1)

pub returns-in_err-release_lent : goal.returns-in_err-release_lent
returns-in_err-release_lent c =
    let q = c.in_err-release_lent.field-0.0 in
    let e : c.from_residual-in_err-release_lent.result ≡ Err q = search rules in
    let a = sym c.release_lent.ensures.0 ∙ c.in_err-release_lent.was in
    release-refused _ _ _ (fit_told _ (sym c.in_ok-fitting.was ∙ c.fitting.ensures)) _ c.read-after.ensures _ refl q.number q.index _ a
    (ap told_number e ∙ ap (λ (b : Answer). answer_number b 0) (sym a))

pub put_rest-requires : goal.put_rest-requires
put_rest-requires c =
    rw c.release_lent.ensures.1
    (release-kept _ _ _ (fit_told _ (sym c.in_ok-fitting.was ∙ c.fitting.ensures)) _ c.read-after.ensures _ refl (sym c.release_lent.ensures.0 ∙ c.in_ok-release_lent.was))

pub returns : goal.returns
returns c =
    release_done _ _ _ (fit_told _ (sym c.in_ok-fitting.was ∙ c.fitting.ensures)) _ c.read-after.ensures _ refl (sym c.release_lent.ensures.0 ∙ c.in_ok-release_lent.was) c.told-state _
    (c.put_rest.ensures ∙ ap (λ (u : State). sets c.args.state.now 92 (machine_words u)) c.release_lent.ensures.1)
