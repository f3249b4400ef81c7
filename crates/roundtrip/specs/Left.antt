-- What a write of a plan leaves.
use Rattle.std.specs.Prelude.{ℕ, List, length, take}
use Rattle.tasks.specs.declared.Plan.{Plan}
use Rattle.writer.specs.Written.{written_length, written_to}

-- the bytes that a write of a plan leaves in a buffer, as many as it answers
unfoldable pub left_by : Plan → List ℕ → List ℕ
left_by p out = take (written_length p (length out)) (written_to p out)
