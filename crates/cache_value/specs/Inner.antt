-- What the functions of an opening give, what a closure is that makes a call, and a cache of which some places are filled. Assumes nothing.
use mathlib.Core.{Path.◌≡◌, Bool.{Bool, cond, true, false}, List.{List, ◌++◌}}
use Rattle.std.specs.Prelude.{ℕ, ◌<◌}
use lib.{ListN.{take, drop, replicate}, Dec.eqb}
use Rattle.types.specs.declared.Deduction.TheVariants.{WriteFirst}
use Rattle.types.specs.Types.{telling, answer_told, answer_number}
use Rattle.landlord.specs.{Catalog.Catalog, Calls.{Opening, Call, call_item, opening_refusal, starts_at}}
use Rattle.queue.specs.Machine.{lazy_starts_at}
use Rattle.cache_state.specs.{Cache.{Cache as Record, EmptyPlace}, InnerView.counts_of, InnerWith.{with_catalog, with_slots, with_figures, with_queue}}
use Rattle.cache_open.specs.Inner.{empty_with}
use Rattle.cache.specs.Contract.{lent, Called}
use Rattle.cache_run.specs.Season.{Follows}
use Rattle.cache_value.specs.{declared.Cache.Cache, Contract.{record_of, by_value, refused_opening, refused_lazy, Answer}}

-- the fields of a refused opening's cache: 1 block, no items, closed, write-first
abbrev pub nothing_opened : Record
nothing_opened = empty_with 1 0 (replicate 256 0) (replicate 256 0) (replicate 256 0) true WriteFirst

-- an opening with the number of its answer: 0, 3 or 18, and the one valid cache that stands at the opening, or that of a refused one
pub record Opened (o : Opening Catalog) (number : ℕ) (c : Cache) : Type 0 where
  pub answer : number ≡ opening_refusal o
  pub valid : by_value.Valid c
  pub stands : by_value.view c ≡ cond (eqb number 0) (starts_at o) refused_opening
  pub lazy : by_value.lazy c ≡ cond (eqb number 0) (lazy_starts_at o) refused_lazy
  pub empty : (i : ℕ) → i < 256 → EmptyPlace (record_of c) i

-- a list of calls by value, with the numbers of the answers: it starts from an opening that was not refused
pub record Chain (o : Opening Catalog) (calls : List Call) (numbers : List ℕ) (d : Cache) : Type 0 where
  pub first : Cache
  pub opening : Opened o 0 first
  pub follows : Follows by_value first calls numbers d

-- ---- a call in place

-- so lent bytes are answered and left, where the call is made on them
pub record MadeAt (call : Call) (b : List ℕ) (r : Answer) (d : List ℕ) : Type 0 where
  pub called : Called lent b call (answer_number r) d
  pub tells : answer_told r ≡ telling (answer_number r) 0 (call_item call)

-- what is made of lent bytes, whatever they are, is this call
abbrev pub Makes : Call → (List ℕ → Answer → List ℕ → Type 0) → Type 0
Makes call made = (b : List ℕ) (r : Answer) (d : List ℕ) → made b r d → MadeAt call b r d

-- ---- the struct stored and read place by place

-- the first n of a list, and z at the other places of 256
unfoldable pub first_of : {A : Type 0} → A → ℕ → List A → List A
first_of z n xs = take n xs ++ drop n (replicate 256 z)

-- a cache with each list of numbers and of flags that its items have changed
abbrev pub places_by : (List ℕ → List ℕ) → (List Bool → List Bool) → Record → Record
places_by f g c =
    with_queue
    (with_figures
    (with_slots
    (with_catalog c c.k c.n (f c.blocks) (f c.load) (f c.write) c.left)
    (g c.held) (f c.loadcredit) (f c.writecredit) c.dirty)
    (f c.minutes) (f c.itemloads) (f c.itemwritebacks) (counts_of c))
    c.level (f c.keys) (f c.heap) (f c.places) c.used

-- a cache of which only the first n places are filled
abbrev pub places_to : ℕ → Record → Record
places_to n c = places_by (first_of 0 n) (first_of false n) c
