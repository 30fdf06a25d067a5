use Rattle.std.proofs.Common.{◌==◌, ◌&&◌, ap, sym, ◌∙◌, arith, not}
use Rattle.std.proofs.lemmas.Bool.{eq-eqb, ne_eqb, and_right, not_from_true}
use Rattle.std.proofs.Math.Bool.{and-true}
use Rattle.std.proofs.lemmas.Nat.Bits.{bit_at-zero}
use Rattle.std.specs.Int.{bit_at}
use Rattle.xc_search.proofs.few.bounded.of_several.Goals as goal

pub returns-then-high-eq1 : goal.returns-then-high-eq1
returns-then-high-eq1 c = λ y.
    ap (λ b. b == 1) (bit_at-zero y)
    ∙ sym (and_right (bit_at c.args.of y == 1) (not (c.args.high == 1))
    (not_from_true (c.args.high == 1) (eq-eqb c.args.high 1 c.if-high-eq1.true)))

pub returns : goal.returns
returns c = λ y.
    sym (ap (λ b. (bit_at c.args.of y == 1) && not b)
    (ne_eqb c.args.high 1 (λ e. omega (arith, e, c.if-high-eq1.false)))
    ∙ and-true (bit_at c.args.of y == 1))
