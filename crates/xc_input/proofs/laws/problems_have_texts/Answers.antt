use Rattle.std.proofs.Common.{[]}
use Rattle.xc_text.specs.Lines.{lines_of}
use Rattle.xc_input.specs.declared.kind.Kind.TheVariants.{Bounds}
use Rattle.xc_text.proofs.LineLemmas.{lines_of-whole}
use Rattle.xc_input.proofs.LineLemmas.{sound}
use Rattle.xc_input.proofs.WrittenTexts.{has-text, in-order}
use Rattle.xc_input.proofs.laws.problems_have_texts.Goals as goal

pub returns : goal.returns
returns c = λ a. (
  λ h. let t = has-text a h.0 h.1 in (t.0, [], t.1),
  λ t. (
    sound Bounds (lines_of t.0) a t.1 t.2 (lines_of-whole t.0),
    in-order Bounds (lines_of t.0) a t.1 t.2,
  ),
)
