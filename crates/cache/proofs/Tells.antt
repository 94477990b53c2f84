-- The contracts of calls on lent bytes leave no choice but how the heap is arranged: for each arrangement there is exactly one list of valid
-- bytes where the lazy form stands. Assumes nothing.
use mathlib.Core.Path.{◌≡◌, refl, sym, ◌∙◌}
use mathlib.Core.List.{List}
use Prim.Native.Nat.{ℕ}
use Rattle.fields.specs.Inner.{Below}
use Rattle.landlord.specs.Calls.{Call}
use Rattle.queue.specs.Machine.{LazyStanding}
use Rattle.cache_state.specs.Cache.{lazy}
use Rattle.layout.specs.Layout.{cache_of, ValidBytes}
use Rattle.layout.specs.Inner.{BecomesAt}
use Rattle.layout.proofs.Places.{valid_reads, becomes_one}
use Rattle.cache.specs.Contract.{lent, Answers}

valid_becomes : (b : List ℕ) {v : LazyStanding} → ValidBytes b → lazy (cache_of b) ≡ v → BecomesAt v b
valid_becomes b ok e = record { reads = valid_reads ok; cache = record { stands = e; fields = ok.cache.fields } }

pub valid_one :
    (b d : List ℕ) →
    Below 256 b →
    Below 256 d →
    ValidBytes b →
    ValidBytes d →
    lazy (cache_of b) ≡ lazy (cache_of d) →
    (cache_of b).heap ≡ (cache_of d).heap →
    b ≡ d
valid_one b d hb hd ok so e arranged = becomes_one (lazy (cache_of d)) b d hb hd (valid_becomes b ok e) (valid_becomes d so refl) arranged

-- so of a call: one answer, and one list of bytes left for each arrangement of the heap
pub answers_one :
    (b d e : List ℕ) (call : Call) (n m : ℕ) →
    Below 256 d →
    Below 256 e →
    Answers lent b call n d →
    Answers lent b call m e →
    (n ≡ m) × ((cache_of d).heap ≡ (cache_of e).heap → d ≡ e)
answers_one b d e call n m hd he p q =
    (p.answer ∙ sym q.answer, λ arranged. valid_one d e hd he p.valid q.valid (p.lazy ∙ sym q.lazy) arranged)
