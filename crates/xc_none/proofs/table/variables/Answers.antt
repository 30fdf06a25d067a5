use Rattle.std.proofs.Common.{ℕ, arith, length, refl, sym, subst, Some, ◌≡◌, ◌+◌, ◌-◌, List}
use Rattle.std.specs.Prelude.{slice_get, All}
use Rattle.std.proofs.lemmas.List.Elements.{All-weaker}
use Rattle.std.proofs.lemmas.Option.{slice_get_read}
use Rattle.xc_input.specs.Problem.{IsOption}
use Rattle.xc_none.specs.inner.Holders.{AreOptionsOf, IsHolder}
use Rattle.xc_none.proofs.table.variables.Goals as goal

pub add_item_variables-requires-clause-options : goal.add_item_variables-requires-clause-options
add_item_variables-requires-clause-options c =
    let p = c.args.problem.now.puzzle in
    let i = c.loop-i.i in
    let list = c.index-lists-i.result in
    let same : i ≡ i + 1 - 1 = omega arith in
    let holders : AreOptionsOf p (i + 1) list.items =
    c.requires (i + 1) list (omega arith)
    (subst (λ (j : ℕ). slice_get c.args.lists.now j ≡ Some list) same
    (slice_get_read c.args.lists.now (length c.args.lists.now) i list refl (omega arith) c.index-lists-i.is)) in
    subst (λ (os : List ℕ). All (IsOption p) os) (sym c.as_slice.ensures.value)
    (All-weaker (IsHolder p (i + 1)) (IsOption p) (λ o h. h.0) list.items holders.sound)
