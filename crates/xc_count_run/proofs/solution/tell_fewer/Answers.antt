use Rattle.std.proofs.Common.{◌∙◌, inl, subst}
use Rattle.xc_text.specs.Texts.{WasTold}
use Rattle.xc_count_run.proofs.solution.tell_fewer.Goals as goal

pub returns : goal.returns
returns g c = inl (
  c.refuse.ensures.status,
  subst (WasTold _ _) (c.as_slice.ensures.value ∙ c.in-Ok.ensures) c.refuse.ensures.told,
)
