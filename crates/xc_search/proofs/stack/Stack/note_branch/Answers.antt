use Rattle.std.proofs.lemmas.Grind.{common_steps}
use Rattle.std.proofs.Common.{◌≡◌, ◌∙◌, ◌-◌, ◌<◌, length, reverse, ap, arith}
use Rattle.std.proofs.lemmas.List.{length-reverse}
use Rattle.std.proofs.Math.ListN.{set, get_or}
use Rattle.xc_input.proofs.FaultLemmas.{items-length}
use Rattle.xc_text.proofs.ListLemmas.{newest_changed, first_changed}
use Rattle.xc_search.specs.inner.Levels.{begun_level}
use Rattle.xc_search.proofs.stack.Stack.note_branch.Goals as goal

pub invariant_of-self : goal.invariant_of-self
invariant_of-self c = let levels = c.self.inside.levels.items in grind (arith, common_steps)

pub returns : goal.returns
returns c =
    let levels = c.self.inside.levels.items in
    let b = c.args.branch in
    let some : 0 < length levels = grind (arith, length-reverse) in
    let new = c.begin_level.ensures ∙ ap (begun_level b) c.index_mut.ensures.value in
    let turned : reverse (set levels (c.len-top.result - 1) c.begin_level.new.level) ≡ first_changed (begun_level b)
    (reverse levels) = ap (λ l. reverse (set levels (c.len-top.result - 1) l)) new
    ∙ ap (λ n. reverse (set levels (n - 1) (begun_level b (get_or levels (n - 1) c.index_mut.result.now))))
    (c.len-top.ensures ∙ items-length c.self.inside.levels)
    ∙ newest_changed (begun_level b) levels c.index_mut.result.now some in
    grind arith
