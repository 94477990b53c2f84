-- The opening of a state in lent bytes: the number of its answer, and what it leaves. Assumes nothing.
use mathlib.Core.{Path.◌≡◌, Logic.◌≢◌, Bool.{cond, ◌&&◌}, List.List}
use Rattle.std.specs.Prelude.{ℕ, ◌%◌, ◌<◌}
use lib.{Dec.{eqb, leb}, ListN.length}
use Rattle.landlord.specs.{Catalog.Catalog, Calls.{Opening, opening_refusal, starts_at}}
use Rattle.catalog_bytes.specs.Catalogs.{catalog_in}
use Rattle.queue.specs.Machine.{lazy_starts_at}
use Rattle.cache_state.specs.Cache.{lazy, view, EmptyPlace}
use Rattle.layout.specs.Layout.{state_bytes, cache_of, ValidBytes}

-- the opening that is asked for where the catalog is bytes
abbrev pub opening_in : Opening (List ℕ) → Opening Catalog
opening_in o = record { k = o.k; rule = o.rule; catalog = catalog_in o.catalog }

-- The opening in lent bytes checks the state's length (17), then k and the catalog (3), whose length is a multiple of 5 and at most
-- 1,280, then the rule's number (18). It looks at how many bytes the state has, and at none of them.
unfoldable pub opening_number : ℕ → Opening (List ℕ) → ℕ
opening_number size o =
    let bytes = length o.catalog in
    cond (eqb size state_bytes) (cond (eqb (bytes % 5) 0 && leb bytes 1280) (opening_refusal (opening_in o)) 3) 17

pub record OpenedLent (b : List ℕ) (o : Opening (List ℕ)) (number : ℕ) (d : List ℕ) : Type 0 where
  pub answer : number ≡ opening_number (length b) o
  pub valid : number ≡ 0 → ValidBytes d
  pub stands : number ≡ 0 → view (cache_of d) ≡ starts_at (opening_in o)
  -- the queue: level 0, and no key
  pub lazy : number ≡ 0 → lazy (cache_of d) ≡ lazy_starts_at (opening_in o)
  -- "It has 256 places, one for each sail number, empty at opening"
  pub empty : number ≡ 0 → (i : ℕ) → i < 256 → EmptyPlace (cache_of d) i
  pub refused : number ≢ 0 → d ≡ b
