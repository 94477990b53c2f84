-- What the office answers to a log alone: the log itself, byte for byte, or its refusal. Paper 02, 'Two'. Assumes nothing.
use Rattle.std.specs.Prelude.{List, ℕ}
use Rattle.printed.specs.Printed.{Outcome, refused, prints}
use Rattle.season_log.specs.Log.{Logged, steps, fault, read_log}

-- "a text the reader takes is what the writer makes of them"
abbrev pub read_outcome : List ℕ → Logged → Outcome
read_outcome s (steps heading ss) = prints s
read_outcome s (fault r) = refused r

unfoldable pub log_outcome : List ℕ → Outcome
log_outcome s = read_outcome s (read_log s)
