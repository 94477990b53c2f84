-- The bench rows of specs/Rows.antt, before the laws: Losses.antt, on which all of them rest, names this file, so that of a wrong
-- definition the row that it breaks is told first. Assumes nothing.
use mathlib.Core.Path.{◌≡◌}
use mathlib.Core.List.{map}
use Rattle.queue.specs.Rows.{QueueRow, queue_rows, lazy_result, plain_result, plain_part, rows_right}

pub bench_right :
    (map lazy_result queue_rows ≡ map (λ (r : QueueRow). r.expected) queue_rows)
    × (map plain_result queue_rows ≡ map (λ (r : QueueRow). plain_part r.expected) queue_rows)
bench_right = rows_right
