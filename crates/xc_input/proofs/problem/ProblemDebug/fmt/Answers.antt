use Rattle.std.proofs.Common.{append_assoc}
use Rattle.xc_input.proofs.problem.ProblemDebug.fmt.Goals as goal

pub returns : goal.returns
returns g c = record {
  writes = λ plain ok. let text = c.write.ensures.writes plain ok in
      simp append_assoc (rw (
        c.items-items.ensures.value,
        c.primary-primary.ensures.value,
        c.options-options.ensures.value,
        c.uses-uses.ensures.value,
      ) at text);
}
