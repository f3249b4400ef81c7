-- The arrays of a log run as the record that the laws speak of.
--     arrays_of p out       those of the pending jobs, with the answer's bytes
use Rattle.std.specs.Prelude.{ℕ, List}
use Rattle.running.specs.Running.{Arrays, arrays}
use Rattle.onward.specs.declared.Pending.{Pending}

abbrev pub arrays_of : Pending → List ℕ → Arrays
arrays_of p out = arrays p.jobs p.owners p.heads.key p.heads.left p.heads.count out
