-- Document 01's *sound*, of a machine's lanes.
--     Rising T C t r q      q's releases are at r or later, rise by at least T and are not after t, and each job has 1 to C left
--     Newest last q         the last taken release is the newest pending one where any is pending
--     Past t last           the last taken release is not after t
--     SoundLane, Sound      all of that for one lane; for every loop's, with nothing held for a loop that is not in the table
use Rattle.std.specs.Prelude.{ℕ, ◌+◌, ◌≤◌, ◌<◌, ◌≡◌, List, [], ◌∷◌}
use Rattle.std.proofs.Math.Option.{Option, none, some}
use Rattle.tasks.specs.TaskSet.{TaskSet}
use Rattle.machine.specs.Machine.{Job, job, Lane, Machine, opened}

abbrev pub Rising : ℕ → ℕ → ℕ → ℕ → List Job → Type 0
Rising T C t r [] = Unit {0}
Rising T C t r (job a w ∷ q) = (r ≤ a) × (a ≤ t) × (1 ≤ w) × (w ≤ C) × Rising T C t (a + T) q

abbrev pub Newest : Option ℕ → List Job → Type 0
Newest last [] = Unit {0}
Newest last (job a w ∷ []) = last ≡ some a
Newest last (job a w ∷ job a' w' ∷ q) = Newest last (job a' w' ∷ q)

abbrev pub Past : ℕ → Option ℕ → Type 0
Past t none = Unit {0}
Past t (some l) = l ≤ t

pub record SoundLane (T C t : ℕ) (l : Lane) : Type 0 where
  pub rising : Rising T C t 0 l.queue
  pub newest : Newest l.last l.queue
  pub past : Past t l.last

pub record Sound (s : TaskSet) (M : Machine) : Type 0 where
  pub lanes : (i : ℕ) → i < s.count → SoundLane (s.task i).separation (s.task i).budget M.clock (M.lane i)
  pub unused : (i : ℕ) → s.count ≤ i → M.lane i ≡ opened.lane i
