-- Room for what is printed. Assumes nothing.
use Rattle.std.specs.Prelude.{ℕ, ◌≤◌, Result, Ok, Err, length}
use Rattle.types.specs.declared.Refusal.{Refusal}
use Rattle.report.specs.Report.{refusal_text, longest}
use Rattle.printed.specs.Printed.{Outcome, refused, prints}

-- no text is longer than so many bytes: on a page of as many 15 is never told
abbrev pub OutcomeFits : ℕ → Outcome → Type 0
OutcomeFits most (refused r) = Unit {0}
OutcomeFits most (prints t) = length t ≤ most

-- a refusal fits the page of the longest report
abbrev pub RefusalFits : Result ℕ Refusal → Type 0
RefusalFits (Ok n) = Unit {0}
RefusalFits (Err r) = length (refusal_text r) ≤ longest
