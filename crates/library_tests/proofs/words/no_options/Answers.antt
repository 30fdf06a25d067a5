use Rattle.std.proofs.Common.{arith, sym, ap, subst}
use Rattle.std.specs.Int.{bit_at}
use Rattle.std.proofs.lemmas.Nat.Bits.{bit_at-zero}
use Rattle.std.proofs.lemmas.List.{get_or-replicate}
use Rattle.xc_words.specs.Words.{HasOwn}
use Rattle.xc_words.specs.declared.words.Words.{Words}
use Rattle.library_tests.proofs.words.no_options.Goals as goal

pub returns : goal.returns
returns c = λ left items. subst (λ (w : Words). HasOwn w.holders w.alone left items) (sym c.new.ensures)
    (λ i x li lx _ _ held.
    let zero = ap (λ m. bit_at m x) (get_or-replicate 64 i 0 0 li) in
    absurd (omega (arith, zero, bit_at-zero x, held)))
