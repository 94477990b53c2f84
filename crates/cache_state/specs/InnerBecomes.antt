-- What a function that moves a cache on says of the cache that it hands back. Assumes nothing.
use Rattle.std.specs.Prelude.{◌≡◌}
use Rattle.queue.specs.Machine.{LazyStanding}
use Rattle.cache_state.specs.Cache.{Cache, lazy, Normal}
pub use Rattle.basis.specs.InnerDecided.{Decided}

-- r is a cache that stands where the lazy form stands: there is only one for each arrangement of the heap (proofs/Tells.antt)
pub record Becomes (v : LazyStanding) (r : Cache) : Type 0 where
  pub stands : lazy r ≡ v
  pub fields : Normal r
