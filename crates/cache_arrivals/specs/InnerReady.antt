-- What a caller must have shown before an item arrives or leaves, and before that is counted. Assumes nothing.
use Rattle.std.specs.Prelude.{List, ℕ, ◌<◌}
use Rattle.layout.specs.{Layout.{cache_of, ValidBytes}, Inner.Readable}

-- valid bytes of a cache that can take a step more and an item more: "256 sails remain the limit"
pub record ArrivableAt (b : List ℕ) : Type 0 where
  pub valid : ValidBytes b
  pub room : (cache_of b).steps < 1000000
  pub few : (cache_of b).n < 256

-- there is a place for one item more
pub record ListableAt (b : List ℕ) : Type 0 where
  pub reads : Readable b
  pub few : (cache_of b).n < 256
