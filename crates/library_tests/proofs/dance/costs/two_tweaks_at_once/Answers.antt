use Rattle.std.proofs.Common.{◌≡◌, ◌∷◌, ℕ, List, arith, refl, subst, sym, ap, ◌∙◌}
use Rattle.xc_moves.specs.declared.dance.Move.{Move}
use Rattle.xc_moves.specs.declared.dance.Move.TheVariants.{Tweak}
use Rattle.xc_moves.specs.Moves.{AreTweaks}
use Rattle.library_tests.proofs.dance.costs.two_tweaks_at_once.Goals as goal

two_tweaks : (i : ℕ) (s t : List Move) → s ≡ Tweak i ∷ Tweak i ∷ t → AreTweaks 2 s
two_tweaks i s t e = subst (AreTweaks 2) (sym e) (omega arith, omega arith, (i, refl))

pub undo_tweaks-requires : goal.undo_tweaks-requires
undo_tweaks-requires g c =
    two_tweaks c.args.i _ (g.D.Dance.state c.args.dance.now).trail
    (c.in_ok-second.ensures.made refl ∙ ap (λ s. Tweak c.args.i ∷ s) (c.in_ok-first.ensures.made refl))
