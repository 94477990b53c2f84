-- What is shown of the lazy form: over every log it is the plain rule, and its numbers have room in 64 bits. Assumes nothing.
use mathlib.Core.{Path.◌≡◌, List.List}
use Rattle.std.specs.Prelude.{ℕ, ◌+◌, ◌*◌, ◌≤◌, ◌<◌, ◌^◌, length}
use Rattle.types.specs.declared.Step.{Step}
use Rattle.landlord.specs.Catalog.{Catalog}
use Rattle.landlord.specs.Slot.{Split}
use Rattle.landlord.specs.Rule.{emptied, flush, trace}
use Rattle.landlord.specs.Figures.{start, ran, season}
use Rattle.queue.specs.Queue.{key_at, most_rise}
use Rattle.queue.specs.Machine.{LazyStanding, standing, empty_queue, flush_in, trace_in, ran_in, closes_in}

-- "Over every log the queue and the plain rule give equal drops, costs, marks and credits": the same items dropped in the same order, with all
-- else that happens, at the closing too; and where the lazy form stands, after the steps and after the closing, is where the plain rule
-- stands.
pub record FormsAgree (split : Split) (k : ℕ) (cat : Catalog) (steps : List Step) : Type 0 where
  pub events : trace_in split k (empty_queue cat) steps ≡ trace split k (emptied cat) steps
  pub closing : (flush_in split (ran_in split k cat steps).queue).events ≡ (flush (ran (start split k cat) steps).state).events
  pub ran : standing (ran_in split k cat steps) ≡ ran (start split k cat) steps
  pub closed : standing (closes_in (ran_in split k cat steps)) ≡ season (start split k cat) steps

-- "neither level nor key passes 64 bits": the level is at most drops × 131,070 × 720,720, and a key at most as much again above it
pub record Fits64 (v : LazyStanding) : Type 0 where
  pub level_most : v.queue.level ≤ v.figures.totals.evictions * most_rise
  pub key_most : (i : ℕ) → i < length v.queue.catalog → key_at v.queue i ≤ v.queue.level + most_rise
  pub level : v.queue.level < 2 ^ 64
  pub key : (i : ℕ) → i < length v.queue.catalog → key_at v.queue i < 2 ^ 64
