use Rattle.std.proofs.Common.{refl, ◌∙◌, sym}
use Rattle.xc_check.proofs.CheckLemmas.{cover_from_tests, tests_of_cover}
use Rattle.xc_check.proofs.cover_test.is_cover.Goals as goal

pub returns-then-are_held_within : goal.returns-then-are_held_within
returns-then-are_held_within c =
    let p = c.args.problem.now.puzzle in
    let s = c.args.options.now in (
      λ h. cover_from_tests p s (c.if-not-are_options.ensures.value.0 refl) (c.if-not-are_different.ensures.0 refl)
          (c.if-are_held_within.ensures.0 refl) (sym c.all_agree.ensures ∙ h),
      λ cover. c.all_agree.ensures ∙ tests_of_cover p c.are_options.ensures.valid s cover,
    )
