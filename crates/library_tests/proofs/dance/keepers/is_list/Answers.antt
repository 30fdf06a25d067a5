use Rattle.std.proofs.Common.{sym, ◌∙◌}
use Rattle.xc_moves.proofs.PlaceAnswers.{next_contained}
use Rattle.library_tests.proofs.dance.keepers.is_list.Goals as goal

pub loop-o-init : goal.loop-o-init
loop-o-init g c = λ x e. next_contained 0 x _ (sym c.first-at.ensures ∙ e)

pub loop-o-preserved : goal.loop-o-preserved
loop-o-preserved g c = λ x e. next_contained _ x _ (sym c.below-at.ensures ∙ e)
