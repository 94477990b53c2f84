-- The bench tables of specs/Rows.antt, before the laws: this file is the first of proofs/Lib.antt, so of a wrong definition
-- the row that it breaks is told first. Assumes nothing.
use mathlib.Core.Path.{◌≡◌}
use mathlib.Core.List.{map}
use Rattle.landlord.specs.Rows.{BenchRow, bench_rows, result_of, rows_right, Question, questions, table_answer, answers_right}

pub bench_right :
    (map result_of bench_rows ≡ map (λ (r : BenchRow). r.expected) bench_rows)
    × (map table_answer questions ≡ map (λ (q : Question). q.expected) questions)
bench_right = (rows_right, answers_right)
