-- `service::move_down` meets its contract.
use Rattle.std.proofs.Common.{◌≡◌, ◌∙◌, ap, get_or, arith}
use Rattle.service.specs.MoveLaws.{moved-copied}
use Rattle.service.specs.Serve.{moved, moved_to}
use Rattle.service.proofs.move_down.Goals as goal

pub returns : goal.returns
unfolding moved
returns c =
    let e = c.copy_within.ensures in
    let i = c.args.i in
    let l = c.args.places.now in
    let copied : c.copy_within.new.self ≡ moved_to i l 15 =
    moved-copied i l c.requires c.told-places c.copy_within.new.self (omega arith)
    (λ k a b. e.by_index.0 k 0 a (omega arith) ∙ ap (λ p. get_or l p 0) (omega arith))
    (λ k a. e.by_index.1 k 0 a)
    (λ k a. e.by_index.2 k 0 (omega arith))
    in
    rw copied
