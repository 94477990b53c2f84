-- What reading a log answers: an answer of `log_reader` is determined by what it tells, its heading and its count. Assumes nothing.
use mathlib.Core.Path.{◌≡◌, refl, sym, ap, ◌∙◌}
use mathlib.Core.List.{List}
use Prim.Native.Nat.{ℕ, ◌*◌, ◌≤◌, ◌<◌}
use native.Mathlib.Omega.{arith}
use lib.ListN.{length, take, drop}
use lib.Seq.{take_at}
use borrow.Author.Tests.{le-leb, lt-leb}
use Rattle.std.specs.Prelude.{Result, Ok, Err}
use Rattle.decimal.specs.InnerPages.{text_over}
use Rattle.decimal.proofs.Laws.{page_all, page_none}
use Rattle.types.specs.declared.Step.{Step}
use Rattle.types.specs.declared.Refusal.{Refusal}
use Rattle.types.specs.declared.Refusal.TheVariants.{ShortBuffer, InputTooLong}
use Rattle.types.specs.Types.{Told, answer_told}
use Rattle.types.proofs.Refusals.{refusal_one, refused_some}
use Rattle.line_fields.specs.Fields.{split}
use Rattle.season_log.specs.Log.{Logged, steps, fault, list_of, read_table, read_log}
use Rattle.season_log.proofs.OneText.{length_list}
use Rattle.log_reader.specs.declared.Steps.{Steps}
use Rattle.log_reader.specs.Answers.{read_answer, read_list, read_heading, read_count, LogRead}
use Rattle.log_reader.specs.Inner.{StepsIn, ReadInto}

-- two answers that tell the same, of one heading and count, are the same
answer_one :
    (a b : Result Steps Refusal) → answer_told a ≡ answer_told b → read_heading a ≡ read_heading b → read_count a ≡ read_count b → a ≡ b
answer_one (Ok x) (Ok y) t h c = λ i. Ok (record { heading = h i; count = c i })
answer_one (Ok x) (Err r) t h c = absurd (refused_some r (ap (λ (t : Told). t.number) (sym t)))
answer_one (Err r) (Ok x) t h c = absurd (refused_some r (ap (λ (t : Told). t.number) t))
answer_one (Err r) (Err q) t h c = ap Err (refusal_one r q t)

-- so the promise of the reader gives its answer, and the answer the promise
pub read_one : {x : Logged} {list : List ℕ} {r : Result Steps Refusal} {after : List ℕ} → LogRead x list r after → r ≡ read_answer x list
read_one {x = x} {list = list} {r = r} h = answer_one r (read_answer x list) h.tells h.heading h.count

log_read : {x : Logged} {list : List ℕ} {r : Result Steps Refusal} {after : List ℕ} → r ≡ read_answer x list → after ≡ read_list x list → LogRead x list r after
log_read a l = record { tells = ap answer_told a; heading = ap read_heading a; count = ap read_count a; list = l }

-- ## Each way through `read_log`

pub answer_long : (text list : List ℕ) → 65536 < length text → LogRead (read_log text) list (Err (InputTooLong 0)) list
unfolding read_log
answer_long text list h = rw (lt-leb (length text) 65536 h) (log_read refl refl)

-- what a reading that answers so has come to
read_fault : (x : Logged) (old after : List ℕ) (r : Refusal) → ReadInto x old (Err r) after → x ≡ fault r
read_fault (steps heading ss) old after r h = absurd h
read_fault (fault q) old after r h = ap fault (sym h)

read_steps :
    (x : Logged) (old after : List ℕ) (s : Steps) → ReadInto x old (Ok s) after → (ss : List Step) × (x ≡ steps s.heading ss) × StepsIn ss old s.count after
read_steps (steps f ss) old after s h = (ss, ap (λ (g : ℕ). steps g ss) (sym h.0), h.1)
read_steps (fault q) old after s h = absurd h

-- no text has more steps than there is room for
pub read_few : (text old after : List ℕ) (s : Steps) → ReadInto (read_table (split 10 text)) old (Ok s) after → s.count ≤ 10922
read_few text old after s read = (read_steps (read_table (split 10 text)) old after s read).2.few

-- the text was read into room of our own
module _ (text list old after : List ℕ) (short : length text ≤ 65536) where
  log_is : read_log text ≡ read_table (split 10 text)
  unfolding read_log
  log_is = rw (le-leb (length text) 65536 short)

  pub answer_refused : (r : Refusal) → ReadInto (read_table (split 10 text)) old (Err r) after → LogRead (read_log text) list (Err r) list
  answer_refused r read =
      let is : read_log text ≡ fault r = log_is ∙ read_fault (read_table (split 10 text)) old after r read in
      rw is (log_read refl refl)

  -- it has so many steps
  module _ (s : Steps) (read : ReadInto (read_table (split 10 text)) old (Ok s) after) where
    found : (ss : List Step) × (read_log text ≡ steps s.heading ss) × StepsIn ss old s.count after
    found =
        let f = read_steps (read_table (split 10 text)) old after s read in
        (f.0, log_is ∙ f.1, f.2)

    size : length (list_of found.0) ≡ 24 * s.count
    size = omega (arith, length_list found.0, found.2.count)

    pub answer_short : length list < 24 * s.count → LogRead (read_log text) list (Err (ShortBuffer 0)) list
    answer_short h =
        let less : length list < length (list_of found.0) = omega (arith, size) in
        rw found.1 (log_read (rw (lt-leb (length (list_of found.0)) (length list) less)) (sym (page_none (list_of found.0) list less)))

    pub answer_stored :
        {new : List ℕ} → 24 * s.count ≤ length list → new ≡ text_over (take (24 * s.count) after) list → LogRead (read_log text) list (Ok s) new
    answer_stored h put =
        let ss = found.0 in
        let fit : length (list_of ss) ≤ length list = omega (arith, size) in
        let bytes : take (24 * s.count) after ≡ list_of ss =
        ap (take (24 * s.count)) found.2.list ∙ take_at (list_of ss) (drop (length (list_of ss)) old) (24 * s.count) size in
        let same : s ≡ record { heading = s.heading; count = length ss } = λ i. record { heading = s.heading; count = found.2.count i } in
        rw found.1 (
        log_read
        (rw (le-leb (length (list_of ss)) (length list) fit) (ap Ok same))
        (put ∙ ap (λ (t : List ℕ). text_over t list) bytes ∙ sym (page_all (list_of ss) list fit))
        )
