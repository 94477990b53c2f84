-- What the reader takes the writer writes again. Assumes nothing.
use mathlib.Core.Path.{◌≡◌, refl, sym, ap, subst, ◌∙◌}
use mathlib.Core.Bool.{Bool, true, false, cond}
use mathlib.Core.List.{List, [], ◌∷◌, ◌++◌}
use Prim.Native.Nat.{ℕ, ◌*◌, ◌≤◌}
use native.Mathlib.Omega.{arith}
use lib.ListN.{length, take, drop, length-append}
use lib.Seq.{take_at}
use lib.Dec.{leb}
use borrow.Author.Tests.{leb-true, leb-false, le-leb}
use Rattle.decimal.specs.Decimal.{fits, page_of}
use Rattle.decimal.proofs.Laws.{page_all, page_none}
use Rattle.types.specs.declared.{Step.Step, Refusal.{Refusal, TheVariants.{ShortBuffer, InputTooLong}}}
use Rattle.line_fields.specs.Fields.{split}
use Rattle.season_lines.specs.Lines.{heading_text}
use Rattle.season_log.specs.Log.{Logged, steps, fault, list_of, lent_log, step_text, step_lines, log_text, read_log, read_table, write_answer, written_page, LogWritten}
use Rattle.season_log.proofs.OneText.{one_text, length_list}
use Rattle.std.specs.Prelude.{Result, Ok, Err}
use Rattle.types.specs.Types.{answer_told}
use Rattle.season_log.proofs.Answers.{log_one}
use Rattle.log_reader.specs.declared.Steps.{Steps}
use Rattle.log_reader.specs.Answers.{read_answer, read_list, read_heading, read_count, LogRead}
use Rattle.log_reader.proofs.Answers.{read_one}
use Rattle.log_reader.proofs.Reading.{step_long}
use Rattle.report.specs.Report.{Put}
use Rattle.report.proofs.Laws.{put_short, put_whole}
use Rattle.printed.specs.Printed.{Yields}
use Rattle.printed.specs.Inner.{OutcomeFits}
use Rattle.log_text.specs.Answer.{read_outcome, log_outcome}

-- ## The size of a log

-- a log that is read is not too long
log_short : (s : List ℕ) (heading : ℕ) (ss : List Step) → read_log s ≡ steps heading ss → length s ≤ 65536
unfolding read_log
log_short s heading ss e = go (leb (length s) 65536) refl e
  where
    go : (t : Bool) → leb (length s) 65536 ≡ t → cond t (read_table (split 10 s)) (fault (InputTooLong 0)) ≡ steps heading ss → length s ≤ 65536
    go true h k = leb-true (length s) 65536 h
    go false h k = cc

-- so there is room for it on a page of as many bytes
pub log_fits : (s : List ℕ) → OutcomeFits 65536 (log_outcome s)
unfolding log_outcome
log_fits s = go (read_log s) refl
  where
    go : (l : Logged) → read_log s ≡ l → OutcomeFits 65536 (read_outcome s l)
    go (steps heading ss) h = log_short s heading ss h
    go (fault r) h = tt

-- and for its steps in the list
lines_long : (heading : ℕ) (ss : List Step) → 6 * length ss ≤ length (step_lines heading ss)
unfolding step_lines
lines_long heading [] = omega arith
lines_long heading (s ∷ ss) = omega (arith, length-append (step_text heading s) (step_lines heading ss), step_long heading s, lines_long heading ss)

list_few : (s : List ℕ) (heading : ℕ) (ss : List Step) → read_log s ≡ steps heading ss → length (list_of ss) ≤ 262128
unfolding log_text
list_few s heading ss e =
    let same : length (log_text heading ss) ≡ length s = ap length (one_text.reads_written s heading ss e).0 in
    omega (arith, length_list ss, lines_long heading ss, log_short s heading ss e, same, length-append (heading_text 2 heading) (10 ∷ step_lines heading ss))

-- ## Each way through `answer`

-- a log that is not read is refused for its own fault
pub not_read :
    (s list page after : List ℕ) (r : Refusal) →
    length list ≡ 262128 →
    LogRead (read_log s) list (Err r) after →
    Yields (log_outcome s) page (Err r) page
unfolding log_outcome
not_read s list page after r size read = go (read_log s) refl (read_one read)
  where
    go : (l : Logged) → read_log s ≡ l → Err r ≡ read_answer l list → Yields (read_outcome s l) page (Err r) page
    go (fault q) h e = (ap answer_told e, refl)
    go (steps g ss) h e =
        let room : fits (list_of ss) list ≡ true = le-leb (length (list_of ss)) (length list) (omega (arith, list_few s g ss h)) in
        let is : ◌≡◌ {A = Result Steps Refusal} (Err r) (Ok (record { heading = g; count = length ss })) = e ∙ rw room refl in cc

-- what was read is the list of the log's steps
record Read (s after : List ℕ) (log : Steps) : Type 0 where
  ss : List Step
  reads : read_log s ≡ steps log.heading ss
  lent : lent_log log.heading (take (24 * log.count) after) ≡ steps log.heading ss
  within : 24 * log.count ≤ length after

list_read : (s list after : List ℕ) (log : Steps) → LogRead (read_log s) list (Ok log) after → Read s after log
list_read s list after log read = go (read_log s) refl (read_one read) read.list
  where
    go : (l : Logged) → read_log s ≡ l → Ok log ≡ read_answer l list → after ≡ read_list l list → Read s after log
    go (fault r) h e f = cc
    go (steps g ss) h e f = by (fits (list_of ss) list) refl e
      where
        by : (t : Bool) → fits (list_of ss) list ≡ t → Ok log ≡ cond t (Ok (record { heading = g; count = length ss })) (Err (ShortBuffer 0)) → Read s after log
        by false k e2 = cc
        by true k e2 =
            let long = leb-true (length (list_of ss)) (length list) k in
            let law = one_text.reads_written s g ss h in
            let heading_is : log.heading ≡ g = ap read_heading e2 in
            let count_is : log.count ≡ length ss = ap read_count e2 in
            let stored : after ≡ list_of ss ++ drop (length (list_of ss)) list = f ∙ page_all (list_of ss) list long in
            let front : take (24 * log.count) after ≡ list_of ss =
            ap (take (24 * log.count)) stored ∙ take_at (list_of ss) (drop (length (list_of ss)) list) (24 * log.count) (omega (arith, length_list ss, count_is)) in
            record {
              ss = ss;
              reads = h ∙ ap (λ (x : ℕ). steps x ss) (sym heading_is);
              lent = ap (lent_log log.heading) front ∙ ap (λ (x : ℕ). lent_log x (list_of ss)) heading_is ∙ one_text.list_reads g ss law.1 law.2 ∙ ap (λ (x : ℕ). steps x ss) (sym heading_is);
              within = omega (arith, length_list ss, count_is, ap length stored, length-append (list_of ss) (drop (length (list_of ss)) list));
            }

-- it is within the list
pub list_long : (s list after : List ℕ) (log : Steps) → LogRead (read_log s) list (Ok log) after → 24 * log.count ≤ length after
list_long s list after log read = (list_read s list after log read).within

-- the writer's answer to it, on any page
pub log_again :
    (s list after page p : List ℕ) (log : Steps) (w : Result ℕ Refusal) →
    LogRead (read_log s) list (Ok log) after →
    LogWritten (lent_log log.heading (take (24 * log.count) after)) page w p →
    Yields (log_outcome s) page w p
unfolding log_outcome
log_again s list after page p log w read written =
    let r = list_read s list after log read in
    let text : log_text log.heading r.ss ≡ s = (one_text.reads_written s log.heading r.ss r.reads).0 in
    let small : leb (length s) 65536 ≡ true = le-leb (length s) 65536 (log_short s log.heading r.ss r.reads) in
    let answer : write_answer (steps log.heading r.ss) page ≡ cond (fits s page) (Ok (length s)) (Err (ShortBuffer 0)) = rw (text, small) refl in
    let then : written_page (steps log.heading r.ss) page ≡ page_of s page = rw (text, small) refl in
    let given : w ≡ cond (fits s page) (Ok (length s)) (Err (ShortBuffer 0)) = log_one written ∙ ap (λ (l : Logged). write_answer l page) r.lent ∙ answer in
    let left : p ≡ page_of s page = written.page ∙ ap (λ (l : Logged). written_page l page) r.lent ∙ then in
    subst (λ (l : Logged). Yields (read_outcome s l) page w p) (sym r.reads) (go (fits s page) refl given left)
  where
    go : (t : Bool) → fits s page ≡ t → w ≡ cond t (Ok (length s)) (Err (ShortBuffer 0)) → p ≡ page_of s page → Put s page w p
    go true h k l =
        let room = leb-true (length s) (length page) h in
        rw k (put_whole s page p (length s) room refl (l ∙ page_all s page room))
    go false h k l =
        let short = leb-false (length s) (length page) h in
        let same : p ≡ page = l ∙ page_none s page short in
        rw (k, same) (put_short s page short)
