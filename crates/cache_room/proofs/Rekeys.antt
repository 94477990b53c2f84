-- A held item gets another key: the heap is put in order, and nothing else changes. Assumes nothing.
use mathlib.Core.Path.{◌≡◌, sym, ap, subst, ◌∙◌}
use mathlib.Core.Logic.{◌≢◌}
use mathlib.Core.Bool.{true, false, false≢true}
use mathlib.Core.List.{List}
use Prim.Native.Nat.{ℕ, ◌<◌}
use native.Mathlib.Omega.{arith}
use lib.ListN.{length, get_or, set}
use lib.Seq.{get_or-set_same, get_or-set_other}
use Rattle.landlord.specs.Fold.{tab}
use Rattle.landlord.proofs.Folds.{tab_set}
use Rattle.heap.specs.Heap.{heap_of}
use Rattle.heap.specs.InnerMoves.{Unsettled, Sifted}
use Rattle.heap.proofs.Uses.{rekeyed_set}
use Rattle.cache_state.specs.Cache.{Cache, held_at, held_items, held_blocks, heap_at, catalog_of, slots_of, keys_of, uses_of, lazy, Emptied, Blank, Normal}
use Rattle.cache_state.specs.InnerView.{queue_of}
use Rattle.cache_state.specs.InnerBecomes.{Becomes}
use Rattle.cache_state.specs.InnerWith.{with_arrangement, with_key}
use Rattle.layout.specs.Layout.{cache_of}
use Rattle.layout.specs.Inner.{Stands}
use Rattle.layout.proofs.Rounds.{whole}
use Rattle.layout.proofs.Places.{readable}
use Rattle.cache_heap.specs.Inner.{UnsettledAt, SiftedAt}
use Rattle.cache_room.specs.Inner.{requeued, rekeyed, HoldsAt, RekeyedAt}

module _
    (c : Cache) (i key : ℕ) (hs ps : List ℕ) (size : length c.keys ≡ 256) (ok : Normal c) (l : i < c.n) (is_held : held_at c i ≡ true)
    (sifted : Sifted (set c.keys i key) (heap_at c) (heap_of hs ps (held_items c))) where
  abbrev now : Cache
  now = with_arrangement (with_key c i key) hs ps

  key_kept : (j : ℕ) → j ≢ i → get_or now.keys j 0 ≡ get_or c.keys j 0
  key_kept j e = get_or-set_other c.keys i j key 0 e

  keys_after : keys_of now ≡ set (keys_of c) i key
  unfolding keys_of
  keys_after =
      sym (ap (λ (x : ℕ). set (tab c.n (λ j. get_or c.keys j 0)) i x) (sym (get_or-set_same c.keys i key 0 (omega (arith, ok.few))))
      ∙ tab_set c.n (λ j. get_or c.keys j 0) (λ j. get_or now.keys j 0) i l (λ j b e. sym (key_kept j e)))

  lazy_after : lazy now ≡ requeued (lazy c) (rekeyed (queue_of c) i key)
  unfolding catalog_of slots_of uses_of
  lazy_after = λ z. requeued (lazy c) (record { catalog = catalog_of c; slots = slots_of c; keys = keys_after z; level = c.level })

  -- an item that is not held keeps its key
  emptied : (j : ℕ) → held_at c j ≡ false → Emptied c j → Emptied now j
  emptied j h x =
      record {
        dirty = x.dirty;
        load_credit = x.load_credit;
        write_credit = x.write_credit;
        key = key_kept j (λ e. false≢true (sym h ∙ ap (held_at c) e ∙ is_held)) ∙ x.key;
      }

  rekey_normal : Normal now
  unfolding held_items held_blocks
  rekey_normal =
      record {
        few = ok.few;
        past =
            λ j b s.
            let x : Blank c j = ok.past j b s in
            record {
              place =
                  record {
                    held = x.place.held;
                    slot = emptied j x.place.held x.place.slot;
                    minutes = x.place.minutes;
                    loads = x.place.loads;
                    writebacks = x.place.writebacks;
                  };
              blocks = x.blocks;
              load = x.load;
              write = x.write;
              left = x.left;
            };
        absent = λ j b h. emptied j h (ok.absent j b h);
        clean = ok.clean;
        heap = sifted.same.keeps (held_at c) ok.heap;
        order = sifted.ordered;
        used = ok.used;
      }

  pub rekey_becomes : Becomes (requeued (lazy c) (rekeyed (queue_of c) i key)) now
  rekey_becomes = record { stands = lazy_after; fields = rekey_normal }

module _ (b : List ℕ) (i key : ℕ) (p : HoldsAt b i) (b1 : List ℕ) (n at : ℕ) (en : n ≡ held_items (cache_of b)) (ea : at ≡ get_or (cache_of b).places i 0) (s1 : Stands b1 (with_key (cache_of b) i key)) where
  pub rekey_unsettled : UnsettledAt b1 n at
  rekey_unsettled =
      record {
        reads = readable s1;
        unsettled =
            subst (λ (q : Cache). Unsettled q.keys (heap_of q.heap q.places n) at) (sym s1.cache)
            (rw (en, ea)
            (rekeyed_set (cache_of b).keys (held_at (cache_of b)) (heap_at (cache_of b)) p.fields.heap p.fields.order i key (omega (arith, p.known, p.fields.few)) p.is_held));
      }

  pub rekeyed_at : (next : List ℕ) → SiftedAt b1 n next → RekeyedAt b i key next
  rekeyed_at next s2 =
      record {
        reads = s2.only.reads;
        fields = fields;
        becomes =
            subst (Becomes (requeued (lazy (cache_of b)) (rekeyed (queue_of (cache_of b)) i key))) (sym fields)
            (rekey_becomes (cache_of b) i key (cache_of next).heap (cache_of next).places (whole b).keys p.fields p.known p.is_held sifted);
      }
    where
      fields : cache_of next ≡ with_arrangement (with_key (cache_of b) i key) (cache_of next).heap (cache_of next).places
      fields = s2.only.rest ∙ ap (λ (q : Cache). with_arrangement q (cache_of next).heap (cache_of next).places) s1.cache

      sifted : Sifted (set (cache_of b).keys i key) (heap_at (cache_of b)) (heap_of (cache_of next).heap (cache_of next).places (held_items (cache_of b)))
      sifted =
          rw en at
          (subst (λ (q : Cache). Sifted q.keys (heap_of q.heap q.places n) (heap_of (cache_of next).heap (cache_of next).places n)) s1.cache s2.sifted)
