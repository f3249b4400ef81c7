-- Who waits in a machine that calls have led to.
--     waits-known      only loops of the table do
use Rattle.std.specs.Prelude.{ℕ, ◌<◌, Bool, true, false, ◌≡◌, refl, List, ltb}
use Rattle.std.proofs.lemmas.Bool.{false≢true}
use Rattle.std.proofs.Common.{sym, ap, ◌∙◌, ltb-true, ltb-false}
use Rattle.tasks.specs.TaskSet.{TaskSet}
use Rattle.machine.specs.Machine.{Lane, pending, waiting, opened}
use Rattle.machine.proofs.Sound.{reached-sound}
use Rattle.history.specs.Engine.{Call, state}
use Rattle.history.specs.OnMachine.{machine_engine}
use Rattle.history.proofs.Balance.{reached}

pub waits-known : (s : TaskSet) (h : List Call) (i : ℕ) → waiting (state (machine_engine s) h) i ≡ true → i < s.count
unfolding waiting opened
waits-known s h i w = go (ltb i s.count) refl
  where
    go : (b : Bool) → ltb i s.count ≡ b → i < s.count
    go true q = ltb-true i s.count q
    go false q =
        absurd (false≢true (sym (ap (λ (a : Lane). pending a.queue) ((reached-sound s (reached s h)).unused i (ltb-false i s.count q))) ∙ w))
