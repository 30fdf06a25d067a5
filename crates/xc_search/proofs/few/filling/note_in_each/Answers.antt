use Rattle.std.proofs.Common.{◌≡◌, length, length-set, get_or, ◌∙◌, ap, arith, w64, ◌==◌, ◌<◌, ◌-◌, ◌^◌}
use Rattle.std.specs.Int.{bit_at, trailing_zeros}
use Rattle.std.proofs.lemmas.Bool.{eq-eqb}
use Rattle.std.proofs.lemmas.Nat.{and_le_r}
use Rattle.std.proofs.lemmas.Nat.Bits.{bit_at-trailing_zeros}
use Rattle.xc_search.proofs.FillLemmas.{lowest_gone, others_kept, from_rest, none_turned, turned_on, turned_all}
use Rattle.xc_search.proofs.few.filling.note_in_each.Goals as goal

pub loop-rest-init : goal.loop-rest-init
loop-rest-init c = record {
  size = c.told-words;
  rest = λ y e. e;
  noted = λ x k l. none_turned (bit_at (get_or c.args.words.now x 0) k == 1) (k == c.args.i)
      (bit_at c.args.of x == 1);
}

pub loop-rest-smaller : goal.loop-rest-smaller
loop-rest-smaller c = omega (arith, c.loop-rest-test.true, and_le_r c.loop-rest.rest (c.loop-rest.rest - 1))

pub loop-rest-preserved : goal.loop-rest-preserved
loop-rest-preserved c =
    let some : 0 < c.loop-rest.rest = omega (arith, c.loop-rest-test.true) in
    let fits : c.loop-rest.rest < 2 ^ 64 = omega (arith, c.loop-rest.auto.rest-fits) in
    let t = bit_at-trailing_zeros w64 c.loop-rest.rest some fits in
    let x = trailing_zeros w64 c.loop-rest.rest in
    let one = eq-eqb _ 1 t.1 in
    let size : length c.loop-rest.words ≡ 64 = c.loop-rest.invariant.size in
    record {
      size = length-set c.loop-rest.words x _ ∙ size;
      rest = λ y e. c.loop-rest.invariant.rest y (from_rest _ y e);
      noted = λ y k low. turned_on c.loop-rest.words c.loop-rest.rest _ x c.args.i k y _ _
          c.requires (omega (arith, t.0, size)) one (lowest_gone c.loop-rest.rest some fits)
          (others_kept c.loop-rest.rest y some fits)
          (λ e q. ap (λ z. bit_at c.args.of z == 1) e ∙ c.loop-rest.invariant.rest x one)
          (c.loop-rest.invariant.noted y k low);
    }

pub returns-clause-noted : goal.returns-clause-noted
returns-clause-noted c = λ x k low.
    c.loop-rest.invariant.noted x k low ∙ turned_all c.loop-rest.rest x _ _ _ (omega (arith, c.loop-rest-test.false))
