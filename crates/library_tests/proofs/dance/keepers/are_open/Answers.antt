use Rattle.std.proofs.Common.{sym, ◌∙◌}
use Rattle.xc_moves.proofs.MoveLemmas.{next_above-open}
use Rattle.library_tests.proofs.dance.keepers.are_open.Goals as goal

pub loop-i-init : goal.loop-i-init
loop-i-init g c =
    λ x e. next_above-open (g.D.Dance.state c.args.dance.now).puzzle (g.D.Dance.state c.args.dance.now).trail 0 x
    (sym c.open_after-next.ensures ∙ e)

pub loop-i-preserved : goal.loop-i-preserved
loop-i-preserved g c =
    λ x e. next_above-open (g.D.Dance.state c.args.dance.now).puzzle (g.D.Dance.state c.args.dance.now).trail _ x
    (sym c.open_after-next-in-loop-i.ensures ∙ e)
