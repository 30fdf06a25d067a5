use Rattle.std.proofs.Common.{ℕ, ◌∙◌, ap, List, arith}
use Rattle.std.specs.List.{list_any}
use Rattle.std.proofs.lemmas.List.{take_all}
use Rattle.xc_none.specs.Meanings.{is_chosen}
use Rattle.xc_none.proofs.ChainTruths.{some_true}
use Rattle.xc_none.proofs.chain.some.Goals as goal

pub returns : goal.returns
returns c = λ p i b holders at low. record {
  of_covers = λ s cover.
      c.loop-option.invariant.each p s
      ∙ ap (λ (os : List ℕ). list_any (λ o. is_chosen s o) os)
      (take_all c.loop-option.option-index c.args.options.now (omega (arith, c.loop-option-test.false)))
      ∙ some_true p s i b c.args.options.now holders at low cover;
}
