-- The invariant goes by the items of x that were looked at: each option that stays is left, isn't apart from x, and
-- holds none of them that is full (`Stays`); each option that goes is apart from x or holds a full item of x (`Goes`).
-- Of a step there are two cases, an item that is full (`stays_full`, `goes_full`) and one that isn't (`stays_free`). At
-- the end all were looked at, which is what `IsBeside` says.
use Rattle.std.proofs.Common.{◌≡◌, ◌<◌, ◌^◌, slice_index, w64}
use Rattle.std.specs.Int.{bit_at}
use Rattle.std.proofs.Common.{arith, ap, ◌∙◌, inl, refl}
use Rattle.std.specs.Int.{trailing_zeros}
use Rattle.std.proofs.lemmas.Nat.Bits.{bit_at-zero}
use Rattle.xc_words.proofs.BitLemmas.{from_without}
use Rattle.xc_words.proofs.FewestLemmas.{stays_free, stays_full, goes_full, in_both, in_other}
use Rattle.xc_words.proofs.bounded.beside.Goals as goal

pub loop-rest-init : goal.loop-rest-init
loop-rest-init c = (
  λ y l b. let two = in_both c.args.left (slice_index c.args.words.now.apart c.args.x) _ y c.minus-stay.ensures l b in
      (two.0, two.1, λ i k m gone h. absurd (omega (arith, m, gone))),
  λ y l b gone. inl (in_other c.args.left (slice_index c.args.words.now.apart c.args.x) _ y c.minus-stay.ensures l b
      gone),
  λ i b. b,
)

pub loop-rest-preserved-then-of-set : goal.loop-rest-preserved-then-of-set
loop-rest-preserved-then-of-set c =
    let some : 0 < c.loop-rest.rest = omega (arith, c.loop-rest-test.true) in
    let inv = c.loop-rest.invariant in
    let fits : c.loop-rest.rest < 2 ^ 64 = omega (arith, c.loop-rest.auto.rest-fits) in (
      stays_full c.args.words.now c.args.left c.args.set c.args.x c.loop-rest.rest c.loop-rest.stay some fits
          (slice_index c.args.words.now.holders (trailing_zeros w64 c.loop-rest.rest)) _
          c.minus-stay-then-of-set.ensures refl inv.0,
      goes_full c.args.words.now c.args.left c.args.set c.args.x c.loop-rest.rest c.loop-rest.stay some fits
          (slice_index c.args.words.now.holders (trailing_zeros w64 c.loop-rest.rest)) _
          c.minus-stay-then-of-set.ensures refl
          (omega (arith, c.if-of-set.true, c.from.ensures)) inv.2 inv.1,
      λ i b. inv.2 i (from_without _ _ i b),
    )

pub loop-rest-preserved : goal.loop-rest-preserved
loop-rest-preserved c =
    let some : 0 < c.loop-rest.rest = omega (arith, c.loop-rest-test.true) in
    let inv = c.loop-rest.invariant in (
      stays_free c.args.words.now c.args.left c.args.set c.args.x c.loop-rest.rest c.loop-rest.stay some
          (omega (arith, c.loop-rest.auto.rest-fits)) (omega (arith, c.if-of-set.false, c.from.ensures)) inv.0,
      inv.1,
      λ i b. inv.2 i (from_without _ _ i b),
    )

pub returns : goal.returns
returns c =
    let inv = c.loop-rest.invariant in record {
      stays = λ y l b.
          let at = inv.0 y l b in (
            at.0,
            at.1,
            λ full.
                let less = at.2 full.0 full.1 full.2
                (ap (λ n. bit_at n full.0) (let z : c.loop-rest.rest ≡ 0 = omega (arith, c.loop-rest-test.false) in z)
                ∙ bit_at-zero full.0) full.3 in
                omega (arith, less, full.4),
          );
      goes = inv.1;
    }
