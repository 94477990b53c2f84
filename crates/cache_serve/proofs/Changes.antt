-- What is counted of a cache, and a mark of it: what the queue sees of the difference. Assumes nothing.
use mathlib.Core.Path.{◌≡◌, refl, sym, ap, ◌∙◌}
use mathlib.Core.Logic.{◌≢◌}
use mathlib.Core.Bool.{Bool, true, false, cond, false≢true}
use mathlib.Core.List.{List, [], ◌∷◌}
use Prim.Native.Nat.{ℕ, ◌≤◌, ◌<◌}
use native.Mathlib.Nat.{add-zero}
use native.Mathlib.Decide.{ℕ_discrete}
use native.Mathlib.Omega.{arith}
use lib.ListN.{length, get_or, set}
use lib.Dec.{eqb}
use borrow.Author.Tests.{eq-eqb, ne_eqb}
use Rattle.landlord.specs.Fold.{tab, fold}
use Rattle.landlord.specs.Slot.{Slot, split_of}
use Rattle.landlord.specs.Rule.{Event}
use Rattle.landlord.specs.Figures.{Use, Totals, use_of, usage, is_about, plus_totals, plus_use, no_use, use_at, adds, lines_after, tally}
use Rattle.landlord.proofs.Folds.{tab_set, tab_eq}
use Rattle.marks.specs.Inner.{marks}
use Rattle.marks.proofs.Laws.{marked_set_same, marked_set_other}
use Rattle.queue.specs.Queue.{Queue}
use Rattle.queue.specs.Machine.{moved_in}
use Rattle.cache_state.specs.Cache.{Cache, dirty_at, held_at, held_items, held_blocks, slot_of, catalog_of, slots_of, keys_of, uses_of, lazy, Blank, Emptied, Normal}
use Rattle.cache_state.specs.InnerView.{usage_of, slot_from, queue_of, counts_of, figures_of}
use Rattle.cache_state.specs.InnerWith.{with_figures, with_dirty}
use Rattle.cache_state.proofs.Views.{size_is, use_is}
use Rattle.cache_room.specs.Inner.{requeued}

-- a line to which nothing is added
pub plus_none : (u : Use) → u ≡ plus_use u no_use
plus_none u = sym (λ z. use_of (add-zero u.minutes z) (add-zero u.loads z) (add-zero u.writebacks z))

-- the items' lines after an event that is no arrival
pub uses_by :
    (c r : Cache) (e : Event) →
    r.n ≡ c.n →
    lines_after (catalog_of c) e ≡ length (catalog_of c) →
    ((j : ℕ) → j < c.n → usage_of r j ≡ plus_use (usage_of c j) (cond (is_about j e) (usage e) no_use)) →
    uses_of r ≡ (tally (catalog_of c) (figures_of c) e).uses
unfolding uses_of
uses_by c r e same lines each =
    ap (λ (m : ℕ). tab m (usage_of r)) same
    ∙ tab_eq c.n (usage_of r) after
    (λ j l. each j l ∙ ap (λ (u : Use). plus_use u (cond (is_about j e) (usage e) no_use)) (sym (use_is c j l)))
    ∙ ap (λ (m : ℕ). tab m after) (sym (size_is c) ∙ sym lines)
  where
    after : ℕ → Use
    after j = plus_use (use_at (figures_of c) j) (cond (is_about j e) (usage e) no_use)

-- an event of item i that is counted in its line alone
pub about_one :
    (c r : Cache) (i : ℕ) (e : Event) →
    ((j : ℕ) → is_about j e ≡ eqb j i) →
    ((j : ℕ) → j ≢ i → usage_of r j ≡ usage_of c j) →
    usage_of r i ≡ plus_use (usage_of c i) (usage e) →
    (j : ℕ) → usage_of r j ≡ plus_use (usage_of c j) (cond (is_about j e) (usage e) no_use)
about_one c r i e about other here j = at (ℕ_discrete j i)
  where
    after : Bool → Use
    after t = plus_use (usage_of c j) (cond t (usage e) no_use)

    at : Dec (j ≡ i) → usage_of r j ≡ plus_use (usage_of c j) (cond (is_about j e) (usage e) no_use)
    at (yes q) =
        ap (usage_of r) q ∙ here ∙ ap (λ (m : ℕ). plus_use (usage_of c m) (usage e)) (sym q) ∙ sym (ap after (about j ∙ eq-eqb j i q))
    at (no q) = other j q ∙ plus_none (usage_of c j) ∙ sym (ap after (about j ∙ ne_eqb j i q))

-- ---- what is counted

module _ (c : Cache) (ms ls ws : List ℕ) (t : Totals) where
  abbrev counted : Cache
  counted = with_figures c ms ls ws t

  pub counts_lazy :
      (e : Event) →
      lines_after (catalog_of c) e ≡ length (catalog_of c) →
      counts_of (with_figures c ms ls ws t) ≡ plus_totals (counts_of c) (adds (catalog_of c) e) →
      ((j : ℕ) → j < c.n → usage_of (with_figures c ms ls ws t) j ≡ plus_use (usage_of c j) (cond (is_about j e) (usage e) no_use)) →
      lazy (with_figures c ms ls ws t) ≡ moved_in (lazy c) (record { queue = queue_of c; events = e ∷ [] }) c.closed
  unfolding fold catalog_of slots_of keys_of
  counts_lazy e lines total each =
      λ z.
      record {
        k = c.k;
        queue = queue_of c;
        figures = record { totals = total z; uses = uses_by c counted e refl lines each z };
        closed = c.closed;
        split = split_of c.rule;
      }

  -- the fields stay tidy, if nothing is counted past the catalog
  pub counts_normal :
      Normal c →
      ((i : ℕ) → c.n ≤ i → i < 256 → get_or ms i 0 ≡ 0) →
      ((i : ℕ) → c.n ≤ i → i < 256 → get_or ls i 0 ≡ 0) →
      ((i : ℕ) → c.n ≤ i → i < 256 → get_or ws i 0 ≡ 0) →
      Normal (with_figures c ms ls ws t)
  unfolding held_items held_blocks
  counts_normal ok no_minutes no_loads no_backs =
      record {
        few = ok.few;
        past =
            λ i l m.
            let x : Blank c i = ok.past i l m in
            record {
              place =
                  record {
                    held = x.place.held;
                    slot = same i x.place.slot;
                    minutes = no_minutes i l m;
                    loads = no_loads i l m;
                    writebacks = no_backs i l m;
                  };
              blocks = x.blocks;
              load = x.load;
              write = x.write;
              left = x.left;
            };
        absent = λ i l e. same i (ok.absent i l e);
        clean = ok.clean;
        heap = ok.heap;
        order = ok.order;
        used = ok.used;
      }
    where
      same : (i : ℕ) → Emptied c i → Emptied counted i
      same i x = record { dirty = x.dirty; load_credit = x.load_credit; write_credit = x.write_credit; key = x.key }

-- ---- a mark

-- a queue with another slot of item i, as it is stored
abbrev pub restored : Queue → ℕ → Slot → Queue
restored q i s = record { catalog = q.catalog; slots = set q.slots i s; keys = q.keys; level = q.level }

module _
    (c : Cache) (i : ℕ) (ws : List ℕ) (f : Bool) (ok : Normal c) (l : i < c.n) (is_held : held_at c i ≡ true)
    (m : marks ws ≡ set (marks c.dirty) i f) where
  abbrev marked_now : Cache
  marked_now = with_dirty c ws

  place : i < 256
  place = omega (arith, ok.few)

  here : dirty_at marked_now i ≡ f
  here = marked_set_same c.dirty ws i f m place

  other : (j : ℕ) → j < 256 → j ≢ i → dirty_at marked_now j ≡ dirty_at c j
  other j b e = marked_set_other c.dirty ws i f m j b e

  slots_after : slots_of marked_now ≡ set (slots_of c) i (slot_from true f (get_or c.loadcredit i 0) (get_or c.writecredit i 0))
  unfolding slots_of
  slots_after =
      sym (ap (λ (s : Slot). set (tab c.n (slot_of c)) i s)
      (sym (λ z. slot_from (is_held z) (here z) (get_or c.loadcredit i 0) (get_or c.writecredit i 0)))
      ∙ tab_set c.n (slot_of c) (slot_of marked_now) i l
      (λ j b e. sym (λ z. slot_from (held_at c j) (other j (omega (arith, ok.few)) e z) (get_or c.loadcredit j 0) (get_or c.writecredit j 0))))

  pub marks_lazy :
      lazy (with_dirty c ws) ≡ requeued (lazy c) (restored (queue_of c) i (slot_from true f (get_or c.loadcredit i 0) (get_or c.writecredit i 0)))
  unfolding catalog_of keys_of uses_of
  marks_lazy = λ z. requeued (lazy c) (record { catalog = catalog_of c; slots = slots_after z; keys = keys_of c; level = c.level })

  pub marks_normal : (f ≡ false → get_or c.writecredit i 0 ≡ 0) → Normal (with_dirty c ws)
  unfolding held_items held_blocks
  marks_normal spent =
      record {
        few = ok.few;
        past =
            λ j b s.
            let x : Blank c j = ok.past j b s in
            record {
              place =
                  record {
                    held = x.place.held;
                    slot = emptied j s x.place.held x.place.slot;
                    minutes = x.place.minutes;
                    loads = x.place.loads;
                    writebacks = x.place.writebacks;
                  };
              blocks = x.blocks;
              load = x.load;
              write = x.write;
              left = x.left;
            };
        absent = λ j b h. emptied j (omega (arith, ok.few)) h (ok.absent j b h);
        clean = λ j b d. unwritten j b d (ℕ_discrete j i);
        heap = ok.heap;
        order = ok.order;
        used = ok.used;
      }
    where
      emptied : (j : ℕ) → j < 256 → held_at c j ≡ false → Emptied c j → Emptied marked_now j
      emptied j b h x =
          record {
            dirty = other j b (λ e. false≢true (sym h ∙ ap (held_at c) e ∙ is_held)) ∙ x.dirty;
            load_credit = x.load_credit;
            write_credit = x.write_credit;
            key = x.key;
          }

      unwritten : (j : ℕ) → j < c.n → dirty_at marked_now j ≡ false → Dec (j ≡ i) → get_or c.writecredit j 0 ≡ 0
      unwritten j b d (yes e) = ap (λ (k : ℕ). get_or c.writecredit k 0) e ∙ spent (sym here ∙ ap (dirty_at marked_now) (sym e) ∙ d)
      unwritten j b d (no e) = ok.clean j b (sym (other j (omega (arith, ok.few)) e) ∙ d)
