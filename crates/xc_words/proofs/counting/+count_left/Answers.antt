-- Induction on the open items, which a choice makes fewer (`first_closes`, `fewer_open`). All is said of any `count`
-- that goes by branches (`CountsBranches`). The outer loop keeps the count of what is left equal to that at first, as
-- long as the item with the fewest options has one (`one_left`); with none the count is 0 (`none_left`). The inner loop
-- keeps that the sum so far and the counts below the options still to come make up the whole (`begun`, `one_on`).
use Rattle.std.proofs.Common.{◌<◌, arith, w64, sym, ◌∙◌}
use Rattle.std.proofs.lemmas.Nat.{and_le_l}
use Rattle.std.specs.Int.{bit_not, trailing_zeros}
use Rattle.std.proofs.lemmas.Nat.Bits.{bit_at-trailing_zeros}
use Rattle.std.specs.Prelude.{slice_index}
use Rattle.xc_words.specs.Words.{and_not}
use Rattle.xc_words.proofs.BitLemmas.{begun, one_on, from_without}
use Rattle.xc_words.proofs.BranchLemmas.{whole, good_below, none_left, one_left, fewer_open, first_closes, own_kept}
use Rattle.xc_words.proofs.counting.+count_left.Goals as goal

pub returns-then-of-eq0-clause-counted : goal.returns-then-of-eq0-clause-counted
returns-then-of-eq0-clause-counted t c = λ good count k g.
    let at = c.loop-items.invariant.3 good count k g in
    none_left _ _ _ good count c.loop-items.left c.loop-items.items c.fewest-of.result
    (omega (arith, c.loop-items.auto.left-fits)) (omega (arith, c.loop-items.auto.items-fits)) c.fewest-of.ensures
    k at.0 (omega (arith, c.if-of-eq0.true)) ∙ at.1

pub loop-items-smaller : goal.loop-items-smaller
loop-items-smaller t c = first_closes _ _ _ _ _ c.fewest-of.ensures c.loop-items.invariant.2
    (omega (arith, c.if-of-eq0.false)) (omega arith)

pub loop-items-preserved : goal.loop-items-preserved
loop-items-preserved t c = (
  omega (arith, c.loop-items.invariant.0),
  omega (
    arith,
    c.loop-items.invariant.1,
    and_le_l c.loop-items.items
        (bit_not w64 (slice_index c.args.words.now.alone (trailing_zeros w64 c.fewest-of.result))),
  ),
  own_kept _ _ _ _ _ _ c.loop-items.invariant.2,
  λ good count k g.
      let at = c.loop-items.invariant.3 good count k g in
      let on = one_left _ _ _ good count c.loop-items.left c.loop-items.items c.fewest-of.result
      (omega (arith, c.loop-items.auto.left-fits)) (omega (arith, c.loop-items.auto.items-fits)) c.fewest-of.ensures
      k at.0 (omega (arith, c.if-of-eq0.false)) (omega arith) (omega (arith, c.if-of-eq0-2.true)) in
      (on.0, on.1 ∙ at.1),
)

pub loop-of-init : goal.loop-of-init
loop-of-init t c = (
  omega arith,
  omega (arith, c.loop-items.invariant.0, c.if-budget-eq0.false),
  λ x. fewer_open _ _ _ _ _ c.fewest-of.ensures c.loop-items.invariant.2 x,
  λ good count k g.
      let at = c.loop-items.invariant.3 good count k g in (
        good_below _ _ _ good count c.loop-items.left c.loop-items.items c.fewest-of.result
            (omega (arith, c.loop-items.auto.left-fits)) (omega (arith, c.loop-items.auto.items-fits))
            c.fewest-of.ensures k at.0,
        begun _ _ (sym at.1 ∙ whole _ _ _ good count c.loop-items.left c.loop-items.items c.fewest-of.result
            (omega (arith, c.loop-items.auto.left-fits)) (omega (arith, c.loop-items.auto.items-fits))
            c.fewest-of.ensures k at.0),
      ),
)

pub count_left-requires : goal.count_left-requires
count_left-requires t c =
    let some : 0 < c.loop-of.of = omega (arith, c.loop-of-test.true) in
    let first = bit_at-trailing_zeros w64 c.loop-of.of some (omega (arith, c.loop-of.auto.of-fits)) in
    let less = c.loop-of.invariant.2 _ first.0 first.1 in (
      omega (arith, less, c.loop-items.invariant.1, c.decreases),
      (omega arith, own_kept _ _ _ _ _ _ c.loop-items.invariant.2),
    )

pub loop-of-preserved : goal.loop-of-preserved
loop-of-preserved t c =
    let some : 0 < c.loop-of.of = omega (arith, c.loop-of-test.true) in
    let first = bit_at-trailing_zeros w64 c.loop-of.of some (omega (arith, c.loop-of.auto.of-fits)) in
    let inv = c.loop-of.invariant in (
      omega (arith, c.if-found-most.false, inv.0),
      omega (arith, inv.1, c.count_left.ensures.spent),
      λ x within held. inv.2 x within (from_without _ _ x held),
      λ good count k g.
          let at = inv.3 good count k g in (
            λ x within held. at.0 x within (from_without _ _ x held),
            one_on (λ x. count (and_not c.loop-items.left (slice_index c.args.words.now.apart x))
                (and_not c.loop-items.items (slice_index c.args.words.now.alone x))) _ _ _ _ some
                (omega (arith, c.loop-of.auto.of-fits)) at.1
                (c.in_ok-found.ensures.counted good count k (at.0 _ first.0 first.1)),
          ),
    )
