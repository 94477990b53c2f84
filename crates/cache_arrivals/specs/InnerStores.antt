-- What each small store leaves: the cache that it hands back, field by field. Assumes nothing.
use mathlib.Core.{Path.◌≡◌, Bool.true, List.List}
use Rattle.std.specs.Prelude.{ℕ, ◌+◌, set}
use Rattle.marks.specs.Inner.{marks}
use Rattle.cache_state.specs.Cache.{Cache}
use Rattle.layout.specs.{Layout.cache_of, Inner.Readable}
use Rattle.cache_counts.specs.{declared.Total.TheVariants.{Retirements}, Inner.{step_counted}}
use Rattle.cache_state.specs.InnerWith.{with_catalog, with_left}

-- one item more at the end of the catalog
abbrev pub listed_of : Cache → ℕ → ℕ → ℕ → Cache
listed_of c b l w =
    with_catalog c c.k (c.n + 1) (set c.blocks c.n b) (set c.load c.n l) (set c.write c.n w) c.left

-- a retirement of the log counted, and these marks of the items that have left
abbrev pub left_of : Cache → List ℕ → Cache
left_of c gone = with_left (step_counted c Retirements) gone

-- item i is marked: which words hold the marks is left to crate marks
pub record Left (c : Cache) (i : ℕ) (r : Cache) : Type 0 where
  pub store : r ≡ left_of c r.left
  pub mark : marks r.left ≡ set (marks c.left) i true

-- the same of the bytes of a state
pub record LeftAt (b : List ℕ) (i : ℕ) (after : List ℕ) : Type 0 where
  pub reads : Readable after
  pub cache : Left (cache_of b) i (cache_of after)
