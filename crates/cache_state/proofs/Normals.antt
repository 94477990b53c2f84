-- Fields that are tidy (`Normal`) stay so where totals and the closing change, and the writebacks of items with nothing counted past
-- the catalog. Assumes nothing.
use mathlib.Core.Path.{◌≡◌}
use mathlib.Core.Bool.{Bool}
use mathlib.Core.List.{List}
use Prim.Native.Nat.{ℕ, ◌≤◌, ◌<◌}
use lib.ListN.{get_or}
use Rattle.landlord.specs.Figures.{Totals}
use Rattle.cache_state.specs.Cache.{Cache, Emptied, Blank, held_items, held_blocks, Normal}
use Rattle.cache_state.specs.InnerWith.{with_figures, with_closed, with_level}

module _ (c : Cache) (ws : List ℕ) (t : Totals) (is_closed : Bool) (ok : Normal c) (none : (i : ℕ) → c.n ≤ i → i < 256 → get_or ws i 0 ≡ 0) where
  abbrev counted : Cache
  counted = with_closed (with_figures c c.minutes c.itemloads ws t) is_closed

  -- the slots are as they were
  slot_same : (i : ℕ) → Emptied c i → Emptied counted i
  slot_same i x = record { dirty = x.dirty; load_credit = x.load_credit; write_credit = x.write_credit; key = x.key }

  past : (i : ℕ) → c.n ≤ i → i < 256 → Blank counted i
  past i l m =
      let x : Blank c i = ok.past i l m in
      record {
        place =
            record {
              held = x.place.held;
              slot = slot_same i x.place.slot;
              minutes = x.place.minutes;
              loads = x.place.loads;
              writebacks = none i l m;
            };
        blocks = x.blocks;
        load = x.load;
        write = x.write;
        left = x.left;
      }

  pub figures_normal : Normal (with_closed (with_figures c c.minutes c.itemloads ws t) is_closed)
  unfolding held_items held_blocks
  figures_normal =
      record {
        few = ok.few;
        past = past;
        absent = λ i l e. slot_same i (ok.absent i l e);
        clean = ok.clean;
        heap = ok.heap;
        order = ok.order;
        used = ok.used;
      }

-- and where the level changes
module _ (c : Cache) (x : ℕ) (ok : Normal c) where
  level_slot : (i : ℕ) → Emptied c i → Emptied (with_level c x) i
  level_slot i y = record { dirty = y.dirty; load_credit = y.load_credit; write_credit = y.write_credit; key = y.key }

  pub level_normal : Normal (with_level c x)
  unfolding held_items held_blocks
  level_normal =
      record {
        few = ok.few;
        past =
            λ i l m.
            let y : Blank c i = ok.past i l m in
            record {
              place =
                  record {
                    held = y.place.held;
                    slot = level_slot i y.place.slot;
                    minutes = y.place.minutes;
                    loads = y.place.loads;
                    writebacks = y.place.writebacks;
                  };
              blocks = y.blocks;
              load = y.load;
              write = y.write;
              left = y.left;
            };
        absent = λ i l e. level_slot i (ok.absent i l e);
        clean = ok.clean;
        heap = ok.heap;
        order = ok.order;
        used = ok.used;
      }
