-- `cache_open::opening_refused` meets its contract: each answer is a law of proofs/Openings.antt. Assumes nothing.
use Rattle.std.proofs.Common.{rules}
use Rattle.basis.proofs.Decides.{clash}
use Rattle.landlord.specs.Calls.{opening}
use Rattle.landlord.specs.Inner.{CapacityFacts}
use Rattle.fields.proofs.Laws.{byte_fits}
use Rattle.cache_open.proofs.Openings.{Lengths, tells, wrong_size, ragged, too_long, no_capacity, blocks_refused, rule_odd, all_taken}
use Rattle.cache_open.proofs.opening_refused.Goals as goal
use Rattle.cache_open.proofs.opening_refused.Goals.{then-catalog-ne0-via-then-catalog-ne0, then-catalog-ne0-via-else-catalog-ne0+then-catalog-gt-MOST_BYTES, then-catalog-ne0-via-else-catalog-ne0+else-catalog-gt-MOST_BYTES+then-not-contains, then-catalog-ne0-via-else-catalog-ne0+else-catalog-gt-MOST_BYTES+else-not-contains+then-not-blocks_ok}

pub returns-then-size-ne-STATE_BYTES : goal.returns-then-size-ne-STATE_BYTES
returns-then-size-ne-STATE_BYTES c =
    let a = c.args in
    tells (wrong_size a.size (opening a.k a.rule a.catalog.now) c.if-size-ne-STATE_BYTES.true)

pub returns-then-catalog-ne0 : goal.returns-then-catalog-ne0
returns-then-catalog-ne0 c =
    let a = c.args in
    let o = opening a.k a.rule a.catalog.now in
    let e = c.if-size-ne-STATE_BYTES.false in
    tells (elim c.then-catalog-ne0.branch [
      | then-catalog-ne0-via-then-catalog-ne0 w ↦ ragged a.size o e w.if-catalog-ne0.true
      | then-catalog-ne0-via-else-catalog-ne0+then-catalog-gt-MOST_BYTES w ↦ too_long a.size o e w.if-catalog-ne0.false w.if-catalog-gt-MOST_BYTES.true
      | then-catalog-ne0-via-else-catalog-ne0+else-catalog-gt-MOST_BYTES+then-not-contains w ↦
          no_capacity a.size o (record { state = e; whole = w.if-catalog-ne0.false; few = w.if-catalog-gt-MOST_BYTES.false }) (λ ok. search rules)
      | then-catalog-ne0-via-else-catalog-ne0+else-catalog-gt-MOST_BYTES+else-not-contains+then-not-blocks_ok w ↦
          blocks_refused a.size o (record { state = e; whole = w.if-catalog-ne0.false; few = w.if-catalog-gt-MOST_BYTES.false })
          (λ ok. clash w.blocks_ok.result (w.blocks_ok.ensures.only ok) w.if-not-blocks_ok.true)
    ])

pub returns-then-rule-gt1 : goal.returns-then-rule-gt1
returns-then-rule-gt1 c =
    let a = c.args in
    let s : Lengths a.size a.catalog.now = record { state = c.if-size-ne-STATE_BYTES.false; whole = c.if-catalog-ne0.false; few = c.if-catalog-gt-MOST_BYTES.false } in
    let r : CapacityFacts a.k = search rules in
    tells (rule_odd a.size (opening a.k a.rule a.catalog.now) s r (λ j. byte_fits (search rules)) (c.blocks_ok.ensures.yes c.if-not-blocks_ok.false) c.if-rule-gt1.true)

pub returns : goal.returns
returns c =
    let a = c.args in
    let s : Lengths a.size a.catalog.now = record { state = c.if-size-ne-STATE_BYTES.false; whole = c.if-catalog-ne0.false; few = c.if-catalog-gt-MOST_BYTES.false } in
    let r : CapacityFacts a.k = search rules in
    tells (all_taken a.size (opening a.k a.rule a.catalog.now) s r (λ j. byte_fits (search rules)) (c.blocks_ok.ensures.yes c.if-not-blocks_ok.false) c.if-rule-gt1.false)
