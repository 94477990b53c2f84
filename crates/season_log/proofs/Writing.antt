-- The laws of the writer: the steps that a list has from a place on, how many bytes their text has or what refuses it, their lines on a
-- page, and what writing answers. The line of one step is in proofs/Sizes.antt. Assumes nothing.
use mathlib.Core.Path.{◌≡◌, refl, sym, ap, subst, ◌∙◌}
use mathlib.Core.Bool.{Bool, true, false, cond, false≢true}
use mathlib.Core.List.{List, [], ◌++◌, append_assoc, append-nil}
use mathlib.Core.Logic.{◌≢◌, ◌⊎◌}
use Prim.Native.Nat.{ℕ, suc, ◌+◌, ◌-◌, ◌*◌, ◌/◌, ◌%◌, ◌≤◌, ◌<◌}
use native.Mathlib.Omega.{arith}
use borrow.Author.Tests.{le-leb, eq-eqb, ne_eqb, eqb-true, eqb-false}
use borrow.Rule.Slice.PartMut.{mid_of, put_mid}
use lib.Dec.{eqb}
use lib.ListN.{length, drop, length-append, length-drop}
use lib.Seq.{drop-drop}
use Rattle.std.specs.Prelude.{Result, Ok, Err}
use Rattle.decimal.specs.Decimal.{text_of}
use Rattle.decimal.specs.InnerPages.{text_over}
use Rattle.decimal.proofs.Laws.{page_all, page_none}
use Rattle.decimal.proofs.Pages.{TextGoing, go_start, go_first, go_as, go_room, go_next, go_end}
use Rattle.fields.specs.LittleEndian.{number_at}
use Rattle.types.specs.declared.Step.{Step}
use Rattle.types.specs.declared.Numbers.{Numbers}
use Rattle.types.specs.declared.Refusal.{Refusal}
use Rattle.types.specs.declared.Refusal.TheVariants.{OutOfRange, ShortBuffer}
use Rattle.types.specs.Types.{numbers_from, step_of, telling, refusal_from}
use Rattle.landlord.specs.Steps.{in_range, range_refusal}
use Rattle.season_lines.specs.Lines.{heading_text, numbers_under, range_under}
use Rattle.season_log.specs.Log.{Logged, steps, fault, ahead, step_text, step_lines, log_text, list_number, list_numbers, told_line, lent_from, lent_under, lent_log, write_answer, written_page, LogWritten}
use Rattle.season_log.proofs.OneText.{lent_ranged}
use Rattle.season_log.proofs.Sizes.{under_kept, go_last}
use Rattle.season_log.proofs.Answers.{log_written}
use Rattle.season_log.specs.Inner.{names_text, range_at, step_at, text_size, LineFits, LinesFit, LinesOn}

-- ## The steps that a list has from a place on

module _ (heading : ℕ) where
  abbrev rest_at : ℕ → List ℕ → Logged
  rest_at at list = lent_from heading ((length list - at) / 24) (at / 24 + 2) (drop at list)

  rest_start : (list : List ℕ) → rest_at 0 list ≡ lent_under heading list
  rest_start list = let e : length list - 0 ≡ length list = omega arith in ap (λ (n : ℕ). lent_from heading (n / 24) 2 list) e

  -- the fault of a step that is out of range or not whole
  abbrev fault_at : ℕ → Logged
  fault_at at = fault (OutOfRange (told_line (at / 24 + 2)))

  -- the first step of a list, of these numbers, and what follows it
  abbrev first_is : Numbers → ℕ → Logged → Logged
  first_is m n x = cond (eqb (range_under heading m) 0) (ahead (step_of (numbers_under heading m)) x) (fault (OutOfRange (told_line n)))

  first_step : (w n : ℕ) (l : List ℕ) → lent_from heading (suc w) n l ≡ first_is (list_numbers 0 l) n (lent_from heading w (suc n) (drop 24 l))
  unfolding lent_from range_refusal refusal_from
  first_step w n l = out_of_range (in_range (numbers_under heading (list_numbers 0 l))) _
    where
      out_of_range :
          (t : Bool) (x : Logged) →
          cond (eqb (cond t 0 3) 0) x (fault (refusal_from (telling (cond t 0 3) (told_line n) 0))) ≡ cond (eqb (cond t 0 3) 0) x (fault (OutOfRange (told_line n)))
      out_of_range true x = refl
      out_of_range false x = refl

  numbers_here : (at : ℕ) (list : List ℕ) → list_numbers 0 (drop at list) ≡ list_numbers at list
  unfolding number_at
  numbers_here at list =
      let number : (n : ℕ) → list_number n (drop at list) ≡ list_number (at + n) list = λ n. rw (drop-drop n at list) in
      λ j. numbers_from (list_number at list) (number 4 j) (number 8 j) (number 12 j) (number 16 j) (number 20 j)

  module _ (list : List ℕ) (at : ℕ) (more : at + 24 ≤ length list) where
    rest_step : rest_at at list ≡ cond (eqb (range_at heading at list) 0) (ahead (step_at heading at list) (rest_at (at + 24) list)) (fault_at at)
    rest_step =
        let count : (length list - at) / 24 ≡ suc ((length list - (at + 24)) / 24) = omega arith in
        let line : suc (at / 24 + 2) ≡ (at + 24) / 24 + 2 = omega arith in
        ap (λ (w : ℕ). lent_from heading w (at / 24 + 2) (drop at list)) count
        ∙ first_step _ _ (drop at list)
        ∙ (λ j. first_is (numbers_here at list j) (at / 24 + 2) (lent_from heading ((length list - (at + 24)) / 24) (line j) (drop-drop 24 at list j)))

    rest_next : range_at heading at list ≡ 0 → rest_at at list ≡ ahead (step_at heading at list) (rest_at (at + 24) list)
    rest_next r = rest_step ∙ rw r

    rest_fault : range_at heading at list ≢ 0 → rest_at at list ≡ fault_at at
    rest_fault r = rest_step ∙ rw (ne_eqb (range_at heading at list) 0 r)

  -- no whole step is left
  rest_few : (list : List ℕ) (at : ℕ) → length list < at + 24 → rest_at at list ≡ cond (eqb (length list - at) 0) (steps heading []) (fault_at at)
  unfolding lent_from
  rest_few list at h =
      let none : (length list - at) / 24 ≡ 0 = omega arith in
      rw (none, length-drop at list)

  rest_end : (list : List ℕ) (at : ℕ) → length list ≤ at → rest_at at list ≡ steps heading []
  rest_end list at h = rest_few list at (omega arith) ∙ rw (eq-eqb (length list - at) 0 (omega arith))

  rest_torn : (list : List ℕ) (at : ℕ) → at < length list → length list < at + 24 → rest_at at list ≡ fault_at at
  rest_torn list at h k = rest_few list at k ∙ rw (ne_eqb (length list - at) 0 (λ e. omega arith))

  -- ## Whole lists

  -- steps, if they are, are of the heading
  abbrev Under : Logged → Type 0
  Under (steps f ss) = f ≡ heading
  Under (fault r) = Unit {0}

  pub list_under : (list : List ℕ) → Under (lent_under heading list)
  list_under list = go (lent_under heading list) refl
    where
      go : (x : Logged) → lent_under heading list ≡ x → Under x
      go (steps f ss) e = (lent_ranged heading (length list / 24) 2 list f ss e).0
      go (fault r) e = tt

  -- whether a list is one of whole steps in range, and which they are
  abbrev is_whole : Logged → Bool
  is_whole (steps f ss) = true
  is_whole (fault r) = false

  abbrev pub steps_of : Logged → List Step
  steps_of (steps f ss) = ss
  steps_of (fault r) = []

  whole_ahead : (s : Step) (x : Logged) → is_whole (ahead s x) ≡ is_whole x
  whole_ahead s (steps f ss) = refl
  whole_ahead s (fault r) = refl

  -- ## How many bytes the text of a list has

  pub log_is : (ss : List Step) → log_text heading ss ≡ names_text heading ++ step_lines heading ss
  unfolding log_text
  log_is ss = sym (append_assoc (heading_text 2 heading) (text_of "\n") (step_lines heading ss))

  pub log_count : (ss : List Step) → length (log_text heading ss) ≡ length (names_text heading) + length (step_lines heading ss)
  log_count ss = ap length (log_is ss) ∙ length-append (names_text heading) (step_lines heading ss)

  -- the size of the whole, b bytes of it being passed
  abbrev size_from : ℕ → Logged → Result ℕ Refusal
  size_from b (steps f ss) = Ok (b + length (step_lines heading ss))
  size_from b (fault r) = Err r

  size_start : (x : Logged) → Under x → text_size x ≡ size_from (length (names_text heading)) x
  size_start (steps f ss) u = rw u (ap Ok (log_count ss))
  size_start (fault r) u = refl

  size_next : (s : Step) (b : ℕ) (x : Logged) → size_from b (ahead s x) ≡ size_from (b + length (step_text heading s)) x
  unfolding step_lines
  size_next s b (steps f ss) = ap Ok (omega (arith, length-append (step_text heading s) (step_lines heading ss)))
  size_next s b (fault r) = refl

  -- The loop's invariant: the size of what is left, the bytes of the passed steps being counted, is the size of the whole. A line has at most
  -- 23 bytes of a step's 24, so that the count stays below the list's length but for the names.
  pub record Counting (list : List ℕ) (at bytes : ℕ) : Type 0 where
    pub within : at ≤ length list
    pub even : at % 24 ≡ 0
    pub small : 24 * bytes ≤ 23 * at + 864
    pub leads : text_size (lent_under heading list) ≡ size_from bytes (rest_at at list)

  pub counting : (list : List ℕ) (names : ℕ) → names ≡ length (names_text heading) → names ≤ 36 → Counting list 0 names
  counting list names is few =
      record {
        within = omega arith;
        even = refl;
        small = omega arith;
        leads = size_start (lent_under heading list) (list_under list) ∙ (λ j. size_from (sym is j) (sym (rest_start list) j));
      }

  module _ {list : List ℕ} {at b : ℕ} (g : Counting list at b) where
    -- a whole step is left, of these numbers
    module _ (more : at + 24 ≤ length list) {x : Numbers} (is : x ≡ list_numbers at list) where
      pub counting_next : {n : ℕ} → eqb (range_under heading x) 0 ≡ true → n ≡ length (step_text heading (step_of x)) → n ≤ 23 → Counting list (at + 24) (b + n)
      counting_next {n} free e l =
          let range : range_at heading at list ≡ 0 = eqb-true _ 0 (rw is at free) in
          let line : n ≡ length (step_text heading (step_at heading at list)) = e ∙ rw (is, under_kept heading (list_numbers at list) range) in
          record {
            within = more;
            even = omega (arith, g.even);
            small = omega (arith, g.small);
            leads =
                g.leads ∙ ap (size_from b) (rest_next list at more range)
                ∙ size_next (step_at heading at list) b (rest_at (at + 24) list)
                ∙ ap (λ (m : ℕ). size_from (b + m) (rest_at (at + 24) list)) (sym line);
          }

      pub counted_fault :
          {line : ℕ} → eqb (range_under heading x) 0 ≡ false → line ≡ told_line (at / 24 + 2) → Err (OutOfRange line) ≡ text_size (lent_under heading list)
      counted_fault f l =
          ap (λ (n : ℕ). Err (OutOfRange n)) l
          ∙ sym (g.leads ∙ ap (size_from b) (rest_fault list at more (eqb-false _ 0 (rw is at f))))

    -- a whole step is left before the end of the whole ones
    pub counting_more : at < length list - length list % 24 → at + 24 ≤ length list
    counting_more h = omega (arith, g.even)

    -- and behind it none, but bytes of one
    pub counted_torn :
        {whole line : ℕ} → whole ≡ length list - length list % 24 → whole ≤ at → whole < length list → line ≡ told_line (whole / 24 + 2) →
        Err (OutOfRange line) ≡ text_size (lent_under heading list)
    counted_torn {whole} e h k l =
        let here : whole ≡ at = omega (arith, g.even, g.within) in
        ap (λ (n : ℕ). Err (OutOfRange n)) (l ∙ ap (λ (w : ℕ). told_line (w / 24 + 2)) here)
        ∙ sym (g.leads ∙ ap (size_from b) (rest_torn list at (omega arith) (omega arith)))

    -- or nothing
    pub counted_whole : length list ≤ at → Ok b ≡ text_size (lent_under heading list)
    unfolding step_lines
    counted_whole h = let e : b + 0 ≡ b = omega arith in sym (g.leads ∙ ap (size_from b) (rest_end list at h) ∙ ap Ok e)

  -- ## The lines of a list on a page

  lines_ahead : (s : Step) (x : Logged) → is_whole x ≡ true → step_lines heading (steps_of (ahead s x)) ≡ step_text heading s ++ step_lines heading (steps_of x)
  unfolding step_lines
  lines_ahead s (steps f ss) w = refl
  lines_ahead s (fault r) w = absurd (false≢true w)

  module _ (list : List ℕ) (at : ℕ) (w : is_whole (rest_at at list) ≡ true) where
    -- a step that is left is whole
    pub whole_more : at < length list → at + 24 ≤ length list
    whole_more h = grind (arith, rest_torn list at h)

    -- and in range
    whole_range : at + 24 ≤ length list → range_at heading at list ≡ 0
    whole_range more = grind (arith, rest_fault list at more)

    -- and what is behind it is whole too
    whole_next :
        at + 24 ≤ length list →
        (rest_at at list ≡ ahead (step_at heading at list) (rest_at (at + 24) list)) × (is_whole (rest_at (at + 24) list) ≡ true)
    whole_next more =
        let e = rest_next list at more (whole_range more) in
        (e, sym (whole_ahead (step_at heading at list) (rest_at (at + 24) list)) ∙ sym (ap is_whole e) ∙ w)

  -- The loop's invariant: the lines of what is left are left to write.
  pub record Putting (list before : List ℕ) (at to : ℕ) (page : List ℕ) : Type 0 where
    pub within : at ≤ length list
    pub whole : is_whole (rest_at at list) ≡ true
    pub going : TextGoing (step_lines heading (steps_of (lent_under heading list))) before to (step_lines heading (steps_of (rest_at at list))) page

  pub putting : (list page : List ℕ) → LinesFit heading list page → Putting list page 0 0 page
  putting list page f =
      record {
        within = omega arith;
        whole = ap is_whole (rest_start list ∙ f.whole);
        going = go_as (ap (λ (x : Logged). step_lines heading (steps_of x)) (sym (rest_start list))) (go_start (step_lines heading (steps_of (lent_under heading list))) page);
      }

  pub lines_room : (list page : List ℕ) → LinesFit heading list page → length (step_lines heading (steps_of (lent_under heading list))) ≤ length page
  lines_room list page f = subst (λ (x : Logged). length (step_lines heading (steps_of x)) ≤ length page) (sym f.whole) f.room

  module _ {list before page : List ℕ} {at to : ℕ} (g : Putting list before at to page)
      (room : length (step_lines heading (steps_of (lent_under heading list))) ≤ length before) (more : at + 24 ≤ length list) where
    -- the line of the step at the place is next
    line_next :
        TextGoing (step_lines heading (steps_of (lent_under heading list))) before to
        (step_text heading (step_at heading at list) ++ step_lines heading (steps_of (rest_at (at + 24) list))) page
    line_next =
        let n = whole_next list at g.whole more in
        go_as (ap (λ (x : Logged). step_lines heading (steps_of x)) n.0 ∙ lines_ahead (step_at heading at list) (rest_at (at + 24) list) n.1) g.going

    -- and has room
    pub line_fits : LineFits heading list at (mid_of to (length page - to) page)
    line_fits =
        record {
          whole = more;
          ranged = whole_range list at g.whole more;
          room = go_room room to (step_text heading (step_at heading at list)) (step_lines heading (steps_of (rest_at (at + 24) list))) page line_next;
        }

    -- and is written
    pub putting_next :
        {w : ℕ} {ys : List ℕ} →
        w ≡ length (step_text heading (step_at heading at list)) →
        ys ≡ text_over (step_text heading (step_at heading at list)) (mid_of to (length page - to) page) →
        Putting list before (at + 24) (to + w) (put_mid to (length page - to) page ys)
    putting_next l e =
        record {
          within = more;
          whole = (whole_next list at g.whole more).1;
          going = go_next room (step_text heading (step_at heading at list)) (step_lines heading (steps_of (rest_at (at + 24) list))) line_next l e;
        }

  -- all lines are written
  lines_put :
      (x : Logged) (before after : List ℕ) → Under x → is_whole x ≡ true → after ≡ text_over (step_lines heading (steps_of x)) before → LinesOn x before after
  lines_put (steps f ss) before after u w e = rw u e
  lines_put (fault r) before after u w e = absurd (false≢true w)

  pub lines_end :
      (list before : List ℕ) {at to : ℕ} {page : List ℕ} →
      LinesFit heading list before → Putting list before at to page → length list ≤ at → LinesOn (lent_under heading list) before page
  unfolding step_lines
  lines_end list before {at} {to} {page} f g h =
      let left : step_lines heading (steps_of (rest_at at list)) ≡ [] = ap (λ (x : Logged). step_lines heading (steps_of x)) (rest_end list at h) in
      lines_put (lent_under heading list) before page (list_under list) (ap is_whole f.whole) (go_end (go_as left g.going)).1

  pub lines_on : (x : Logged) (before after : List ℕ) → Under x → LinesOn x before after → after ≡ text_over (step_lines heading (steps_of x)) before
  lines_on (steps f ss) before after u l = rw (← u) l
  lines_on (fault r) before after u l = absurd l

-- ## What writing answers

-- a list whose text has so many bytes has no fault
abbrev pub Sized : Logged → ℕ → Type 0
Sized x n = Ok n ≡ text_size x

pub sized_whole : (heading : ℕ) (x : Logged) (n : ℕ) → Under heading x → Sized x n → (x ≡ steps heading (steps_of heading x)) × (n ≡ length (log_text heading (steps_of heading x)))
sized_whole heading (steps f ss) n u z = grind arith
sized_whole heading (fault q) n u z = cc

answers_short :
    (x : Logged) (n : ℕ) (page : List ℕ) → Sized x n → (65536 < n) ⊎ (length page < n) → (Err (ShortBuffer 0) ≡ write_answer x page) × (page ≡ written_page x page)
answers_short (fault q) n page z d = cc
answers_short (steps f ss) n page z d = grind (arith, page_none (log_text f ss) page)

answers_text :
    (heading : ℕ) (x : Logged) (n : ℕ) (page : List ℕ) →
    Under heading x →
    Sized x n →
    n ≤ 65536 →
    n ≤ length page →
    (Ok n ≡ write_answer x page) × (text_over (log_text heading (steps_of heading x)) page ≡ written_page x page)
answers_text heading (fault q) n page u z small room = cc
answers_text heading (steps f ss) n page u z small room = grind (arith, page_all (log_text f ss) page)

-- of a list under a number that is a heading's, whose text has so many bytes
module _ (heading : ℕ) (list page : List ℕ) (n : ℕ) (sized : Sized (lent_under heading list) n) where
  -- they are too many
  pub told_short : heading ≤ 1 → (65536 < n) ⊎ (length page < n) → LogWritten (lent_log heading list) page (Err (ShortBuffer 0)) page
  told_short low d =
      let a = answers_short (lent_under heading list) n page sized d in
      rw (le-leb heading 1 low) (log_written a.0 a.1)

  abbrev all_lines : List ℕ
  all_lines = step_lines heading (steps_of heading (lent_under heading list))

  -- or there is room for the names and the lines
  module _ (room : n ≤ length page) where
    all_room : length (names_text heading ++ all_lines) ≤ length page
    all_room =
        let whole = sized_whole heading (lent_under heading list) n (list_under heading list) sized in
        omega (arith, whole.1, ap length (log_is heading (steps_of heading (lent_under heading list))))

    pub names_fit : length (names_text heading) ≤ length page
    names_fit = omega (arith, all_room, length-append (names_text heading) all_lines)

    -- the names are written, and the lines are left
    module _ {w : ℕ} {named : List ℕ} (count : w ≡ length (names_text heading)) (is : named ≡ text_over (names_text heading) page) where
      going : TextGoing (names_text heading ++ all_lines) page w all_lines named
      going = go_first (names_text heading) all_lines page all_room count is

      pub lines_fit : LinesFit heading list (mid_of w (length named - w) named)
      lines_fit =
          record {
            taken = steps_of heading (lent_under heading list);
            whole = (sized_whole heading (lent_under heading list) n (list_under heading list) sized).0;
            room = go_room all_room w all_lines [] named (go_as (sym (append-nil all_lines)) going);
          }

      pub told_text :
          heading ≤ 1 →
          n ≤ 65536 →
          (after : List ℕ) →
          LinesOn (lent_under heading list) (mid_of w (length named - w) named) after →
          LogWritten (lent_log heading list) page (Ok n) (put_mid w (length named - w) named after)
      told_text low small after on =
          let under = list_under heading list in
          let a = answers_text heading (lent_under heading list) n page under sized small room in
          let put = go_last all_room all_lines going refl (lines_on heading (lent_under heading list) _ _ under on) in
          rw (le-leb heading 1 low)
          (log_written a.0 (put ∙ ap (λ (t : List ℕ). text_over t page) (sym (log_is heading (steps_of heading (lent_under heading list)))) ∙ a.1))
