-- The invariant: the branch so far is that of an unmet item that was looked at, or none that was looked at needs an
-- option (`IsFound`); an item that is no longer unmet was so at first and is met; and what is still to be looked at was
-- unmet at first. Of a step there are three cases, an item that is met (`found_met`), a better branch, and a worse one
-- (`found_before`). The loop ends at a branch of at most one (`found_one`) or when all were looked at (`found_all`).
use Rattle.std.proofs.Common.{◌<◌, ◌≤◌, slice_index, bit_and, w64}
use Rattle.std.specs.Int.{bit_at}
use Rattle.xc_words.specs.Bounded.{times_in}
use Rattle.std.proofs.Common.{arith, ap, ◌∙◌, inl, inr, refl, sym, subst, eqb, eqb-true}
use Rattle.std.specs.Int.{trailing_zeros}
use Rattle.std.proofs.lemmas.Nat.{and_le_r}
use Rattle.std.proofs.lemmas.Nat.Bits.{bit_at-trailing_zeros}
use Rattle.xc_words.proofs.BitLemmas.{from_without}
use Rattle.xc_words.proofs.SetLemmas.{ones_few}
use Rattle.xc_words.proofs.FairLemmas.{by_bool, not_same}
use Rattle.xc_words.proofs.FewestLemmas.{found_met, found_before, found_all, found_one}
use Rattle.xc_words.proofs.bounded.fewest_of.Goals as goal

pub loop-rest-init : goal.loop-rest-init
loop-rest-init c =
    (inl (refl, refl, refl, λ i l b gone. absurd (omega (arith, b, gone))), λ i l b. b, λ i l b. inl b, λ i b. b)

pub loop-rest-preserved-then-low-held : goal.loop-rest-preserved-then-low-held
loop-rest-preserved-then-low-held c =
    let some : 0 < c.loop-rest.rest = omega (arith, c.loop-rest-test.true) in
    let t = bit_at-trailing_zeros w64 c.loop-rest.rest some (omega (arith, c.loop-rest.auto.rest-fits)) in
    let met : slice_index c.args.words.now.low (trailing_zeros w64 c.loop-rest.rest)
    ≤ times_in c.args.words.now c.args.set (trailing_zeros w64 c.loop-rest.rest) =
    omega (arith, c.if-low-held.true, c.from-low.ensures) in
    let inv = c.loop-rest.invariant in (
      found_met c.args.words.now c.args.unmet.now c.args.set c.loop-rest.rest c.loop-rest.least c.loop-rest.branch some
          (omega (arith, c.loop-rest.auto.rest-fits)) met inv.0,
      λ i l b. by_bool (eqb i (trailing_zeros w64 c.loop-rest.rest))
          (λ q. absurd (omega (arith, b, ap (bit_at c.without.result) (eqb-true _ _ q), c.without.ensures.without.0)))
          (λ q. inv.1 i l (sym (c.without.ensures.without.1 i l (not_same _ _ q)) ∙ b)),
      λ i l b. elim (inv.2 i l b) [
        | inl e ↦ by_bool (eqb i (trailing_zeros w64 c.loop-rest.rest))
            (λ q. inr (subst (λ j. slice_index c.args.words.now.low j ≤ times_in c.args.words.now c.args.set j)
            (sym (eqb-true _ _ q)) met))
            (λ q. inl (c.without.ensures.without.1 i l (not_same _ _ q) ∙ e))
        | inr e ↦ inr e
      ],
      λ i b. inv.3 i (from_without _ _ i b),
    )

pub loop-rest-preserved-then-branches-least : goal.loop-rest-preserved-then-branches-least
loop-rest-preserved-then-branches-least c =
    let some : 0 < c.loop-rest.rest = omega (arith, c.loop-rest-test.true) in
    let t = bit_at-trailing_zeros w64 c.loop-rest.rest some (omega (arith, c.loop-rest.auto.rest-fits)) in
    let inv = c.loop-rest.invariant in (
      inr (
        _,
        t.0,
        inv.3 _ t.1,
        refl,
        omega (arith, c.from-low.ensures, c.if-low-held.false),
        omega (arith, c.if-low-held.false),
      ),
      inv.1,
      inv.2,
      λ i b. inv.3 i (from_without _ _ i b),
    )

pub loop-rest-preserved : goal.loop-rest-preserved
loop-rest-preserved c =
    let inv = c.loop-rest.invariant in
    let few = ones_few
    (bit_and (slice_index c.args.words.now.holders (trailing_zeros w64 c.loop-rest.rest)) c.args.left)
    (omega (
      arith,
      c.ranges.left.fits,
      and_le_r
          (slice_index c.args.words.now.holders (trailing_zeros w64 c.loop-rest.rest)) c.args.left,
    )) in (
      found_before c.args.words.now c.args.unmet.now c.args.set c.loop-rest.rest c.loop-rest.least c.loop-rest.branch
          c.saturating_sub-branches.result (omega (arith, few, c.saturating_sub-branches.ensures))
          c.if-branches-least.false inv.0,
      inv.1,
      inv.2,
      λ i b. inv.3 i (from_without _ _ i b),
    )

pub returns-else-least-gt1-clause-branch : goal.returns-else-least-gt1-clause-branch
returns-else-least-gt1-clause-branch c =
    found_one c.args.words.now c.args.unmet.now c.args.set c.loop-rest.rest c.loop-rest.least c.loop-rest.branch
    (omega (arith, c.if-least-gt1.false)) c.loop-rest.invariant.0

pub returns-else-least-gt1-clause-less : goal.returns-else-least-gt1-clause-less
returns-else-least-gt1-clause-less c = c.loop-rest.invariant.1

pub returns-else-least-gt1-clause-closed : goal.returns-else-least-gt1-clause-closed
returns-else-least-gt1-clause-closed c = c.loop-rest.invariant.2

pub returns-after-loop-rest-clause-branch : goal.returns-after-loop-rest-clause-branch
returns-after-loop-rest-clause-branch c =
    found_all c.args.words.now c.args.unmet.now c.args.set c.loop-rest.rest c.loop-rest.least c.loop-rest.branch
    (omega (arith, c.loop-rest-test.false)) c.loop-rest.invariant.0

pub returns-after-loop-rest-clause-less : goal.returns-after-loop-rest-clause-less
returns-after-loop-rest-clause-less c = c.loop-rest.invariant.1

pub returns-after-loop-rest-clause-closed : goal.returns-after-loop-rest-clause-closed
returns-after-loop-rest-clause-closed c = c.loop-rest.invariant.2
