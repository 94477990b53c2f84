-- What is said of calls made one after another. Assumes nothing.
use mathlib.Core.{Path.◌≡◌, List.List}
use Rattle.std.specs.Prelude.{ℕ}
use Rattle.std.proofs.lemmas.List.Edits.{sets}
use Rattle.landlord.specs.{Catalog.Catalog, Inner.OpeningOk, Calls.{Opening, starts_at, Call}}
use Rattle.queue.specs.Machine.{lazy_starts_at}
use Rattle.cache.specs.Contract.{Kind}
use Rattle.cache_run.specs.Season.{Follows}

-- the calls were made, each on the state that the last one left, and their answers noted as far as there was place
pub record RanCalls {C : Type 0} (kind : Kind C) (c : C) (calls : List Call) (before after : List ℕ) (d : C) : Type 0 where
  pub numbers : List ℕ
  pub follows : Follows kind c calls numbers d
  pub noted : after ≡ sets before 0 numbers

-- What an opening that was not refused gives: of what it was given, that the rule can start from it, and a valid state at the start. That
-- its answer was 0 is not asked, though today it is the same: the season theorem holds from every such state.
pub record BeginsAt {C : Type 0} (kind : Kind C) (o : Opening Catalog) (first : C) : Type 0 where
  pub fine : OpeningOk o
  pub valid : kind.Valid first
  pub stands : kind.view first ≡ starts_at o
  pub lazy : kind.lazy first ≡ lazy_starts_at o
