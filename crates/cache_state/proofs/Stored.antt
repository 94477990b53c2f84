-- What the queue reads off the fields of a tidy cache: marks and credits as last reckoned. Assumes nothing.
use mathlib.Core.Path.{◌≡◌, ap, ◌∙◌}
use Prim.Native.Nat.{ℕ, ◌<◌}
use lib.ListN.{get_or}
use Rattle.landlord.specs.Slot.{is_dirty, load_credit, write_credit}
use Rattle.queue.specs.Queue.{stored_at}
use Rattle.cache_state.specs.Cache.{Cache, dirty_at, held_at, Normal}
use Rattle.cache_state.specs.InnerView.{queue_of}
use Rattle.cache_state.proofs.Views.{stored_is, from_dirty, from_load, from_write}

module _ (c : Cache) (v : Normal c) (i : ℕ) (l : i < c.n) where
  pub dirty_here : is_dirty (stored_at (queue_of c) i) ≡ dirty_at c i
  dirty_here =
      ap is_dirty (stored_is c i l) ∙ from_dirty (held_at c i) (dirty_at c i) (get_or c.loadcredit i 0) (get_or c.writecredit i 0) (λ a. (v.absent i l a).dirty)

  pub load_here : load_credit (stored_at (queue_of c) i) ≡ get_or c.loadcredit i 0
  load_here =
      ap load_credit (stored_is c i l) ∙ from_load (held_at c i) (dirty_at c i) (get_or c.loadcredit i 0) (get_or c.writecredit i 0) (λ a. (v.absent i l a).load_credit)

  pub write_here : write_credit (stored_at (queue_of c) i) ≡ get_or c.writecredit i 0
  write_here =
      ap write_credit (stored_is c i l)
      ∙ from_write (held_at c i) (dirty_at c i) (get_or c.loadcredit i 0) (get_or c.writecredit i 0) (λ a. (v.absent i l a).write_credit) (λ e. v.clean i l e)
