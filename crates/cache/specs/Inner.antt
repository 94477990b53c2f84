-- What the table says of an item that is read or written, and what a step that is served asks. Assumes nothing.
use mathlib.Core.{Path.◌≡◌, List.List, Bool.cond}
use Rattle.std.specs.Prelude.{ℕ}
use lib.Dec.{leb}
use Rattle.types.specs.declared.Step.{Step}
use Rattle.landlord.specs.{Catalog.{Catalog, item_at}, Steps.if_known, Calls.{call_of, refusal_now}}
use Rattle.cache_state.specs.Cache.{view}
use Rattle.layout.specs.Layout.{cache_of, ValidBytes}

-- 6, 20, 7 or 0, as landlord's `item_refusal` says of a read and of a write
abbrev pub request_refusal : ℕ → Catalog → ℕ → ℕ
request_refusal k cat i = if_known cat i (cond (leb (item_at cat i).blocks k) 0 7)

-- a step on valid bytes that the table does not refuse
pub record TablePasses (b : List ℕ) (s : Step) : Type 0 where
  pub valid : ValidBytes b
  pub free : refusal_now (view (cache_of b)) (call_of s) ≡ 0
