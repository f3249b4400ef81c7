-- Document 01, the end of "Worked tables", and document 02, §1: what the program `plan` prints for a table's bytes.
--     pair_line     a line of words and a number, twice
--     counts_line, task_line, refusal_line    the first line, a loop's, and a refusal's
--     line_of       the line of loop i of a table
--     counted_line  the last line of an accepted table
--     plan_lines    the lines before it
--     plan_text     all of them
--     printed      the whole text
use Rattle.std.specs.Prelude.{ℕ, List, ◌++◌, length}
use Rattle.tasks.specs.TaskSet.{row, bound}
use Rattle.tasks.specs.Content.{Content, counted_of, late}
use Rattle.tasks.specs.Tests.{number_of, index_of, unless_refused}
use Rattle.numbers.specs.Bytes.{entries}
use Rattle.codec.specs.Table.{content_in, verdict}
use Rattle.decimal.specs.Decimal.{words, said}

unfoldable pub pair_line : List ℕ → ℕ → List ℕ → ℕ → List ℕ
pair_line w a v b = said w a ++ said v b ++ words "\n"

-- "The first line has m and n": `cores 2 loops 3`
unfoldable pub counts_line : ℕ → ℕ → List ℕ
counts_line m n = pair_line (words "cores ") m (words " loops ") n

-- "the others index, x, bound and late": `loop 0 slack 6 bound 25 late 15`
unfoldable pub task_line : ℕ → ℕ → ℕ → ℕ → List ℕ
task_line i x b l =
    said (words "loop ") i ++ said (words " slack ") x ++ said (words " bound ") b ++ said (words " late ") l ++ words "\n"

-- "A refusal prints one line: `refused 7 at 1`, number and index."
unfoldable pub refusal_line : ℕ → ℕ → List ℕ
refusal_line k i = pair_line (words "refused ") k (words " at ") i

unfoldable pub line_of : Content → ℕ → List ℕ
line_of c i = task_line i (c.slack i) (bound c.tasks c.slack i) (late c i)

-- "one more last line, `counted` and the loops, a space before each"
unfoldable pub counted_line : List ℕ → List ℕ
counted_line l = words "counted" ++ entries (λ a. said (words " ") (row l a)) (length l) ++ words "\n"

unfoldable pub plan_lines : Content → List ℕ
plan_lines c = counts_line c.tasks.cores c.tasks.count ++ entries (line_of c) c.tasks.count

unfoldable pub plan_text : Content → List ℕ
plan_text c = plan_lines c ++ counted_line (counted_of c)

unfoldable pub printed : List ℕ → List ℕ
printed t = unless_refused (verdict t) (plan_text (content_in t)) (refusal_line (number_of (verdict t)) (index_of (verdict t)))
