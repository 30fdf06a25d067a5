use Rattle.std.proofs.Common.{sym, subst, arith}
use Rattle.std.specs.Prelude.{All}
use Rattle.xc_search.specs.inner.Levels.{IsShown}
use Rattle.xc_search.proofs.BranchLemmas.{shown_back}
use Rattle.xc_search.proofs.stack.Stack.show.Goals as goal

pub replace_with-requires : goal.replace_with-requires
replace_with-requires g c =
    let p = c.args.position.now.puzzle in
    let shown = subst (All (IsShown p)) (sym c.levels.ensures.levels) c.requires.shown in
    (omega (arith, c.requires.room, c.levels.ensures.few), shown_back p c.levels.result.now shown)
