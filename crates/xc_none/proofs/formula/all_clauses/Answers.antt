use Rattle.std.proofs.Common.{ℕ, arith, length, refl, sym, subst, Some, ◌≡◌, ◌+◌, ◌-◌, List}
use Rattle.std.specs.Prelude.{slice_get}
use Rattle.std.proofs.lemmas.Option.{slice_get_read}
use Rattle.xc_none.specs.inner.Holders.{AreOptionsOf}
use Rattle.xc_none.proofs.formula.all_clauses.Goals as goal

pub add_item-requires-clause-holders : goal.add_item-requires-clause-holders
add_item-requires-clause-holders c =
    let i = c.loop-i.i in
    let list = c.index-lists-k.result in
    let same : i ≡ i + 1 - 1 = omega arith in
    subst (λ (os : List ℕ). AreOptionsOf c.args.problem.now.puzzle (i + 1) os) (sym c.as_slice.ensures.value)
    (c.requires (i + 1) list (omega arith)
    (subst (λ (j : ℕ). slice_get c.args.lists.now j ≡ Some list) same
    (slice_get_read c.args.lists.now (length c.args.lists.now) i list refl (omega arith) c.index-lists-k.is)))
