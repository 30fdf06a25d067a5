-- The invariant: the states of the layer, each worth what the options from k on make of its key (`ways_from`), are
-- worth all members; and `left` says of each item how many of these options hold it (`AtMost`). At first that is so by
-- `ways_many`. A pass takes one option away from both (the contract of `pass`, and `at_most_less`), and at the end,
-- with no option left, the worth is what `total` adds up.
use Rattle.std.proofs.Common.{Some, suc, arith, refl, ◌≡◌, ◌+◌, ◌-◌, ◌∙◌, ◌∷◌, [], sym, ap, subst, get_or, drop}
use Rattle.std.proofs.Common.{drop-cons}
use Rattle.std.specs.Prelude.{unwrap_or}
use Rattle.std.proofs.lemmas.List.{drop_all, get_or_default}
use Rattle.xc_input.specs.Problem.{IsSoundOption, uses_of}
use Rattle.xc_input.proofs.LineLemmas.{at_number}
use Rattle.xc_count.specs.inner.ByOption.{AtMost, ways_from}
use Rattle.xc_count.specs.inner.Worth.{worth_by}
use Rattle.xc_count.proofs.ByOption.{ways_many}
use Rattle.xc_count.proofs.Orders.{at_most_less, held_by}
use Rattle.xc_count.proofs.by_option.sweep_options.Goals as goal

pub loop-k-init : goal.loop-k-init
loop-k-init c =
    let p = c.args.problem.now.puzzle in
    let os = c.in_ok-order.order.items in
    record {
      worth = c.in_ok-layer.ensures os ∙ ways_many p c.requires.valid os c.in_ok-order.ensures;
      left = subst (λ z. AtMost p z c.in_ok-left.left.items) c.as_slice.ensures.value c.in_ok-left.ensures.left;
      len = c.in_ok-left.ensures.len;
      same = refl;
    }

pub remove_uses-requires-clause-distinct : goal.remove_uses-requires-clause-distinct
remove_uses-requires-clause-distinct c =
    (at_number (IsSoundOption c.args.problem.now.puzzle) c.args.problem.now.puzzle.options c.index.result.now
    c.option-uses.result.now c.option-uses.ensures.whole.valid.options c.option-uses.ensures.value).distinct

pub loop-k-preserved : goal.loop-k-preserved
loop-k-preserved c =
    let p = c.args.problem.now.puzzle in
    let os = c.in_ok-order.order.items in
    let k = c.loop-k.k in
    let o = get_or os k 0 in
    let rest = drop (k + 1) os in
    let here : drop k os ≡ o ∷ rest = drop-cons os k 0 (omega arith)
    ∙ ap (λ n. o ∷ drop n os) (let z : suc k ≡ k + 1 = omega arith in z) in
    let first : c.index.result.now ≡ o = c.index.ensures ∙ get_or_default os k c.index.result.now 0 (omega arith) in
    let again : c.index-in-loop-k.result.now ≡ o =
    c.index-in-loop-k.ensures ∙ get_or_default os k c.index-in-loop-k.result.now 0 (omega arith) in
    let uses : uses_of p o ≡ c.option-uses.result.now =
    ap (λ n. uses_of p n) (sym first) ∙ ap (λ z. unwrap_or z []) c.option-uses.ensures.value in
    let fewer : AtMost p rest c.remove_uses.new.left.items =
    at_most_less p o rest c.loop-k.left.items c.remove_uses.new.left.items
    (subst (λ z. AtMost p z c.loop-k.left.items) here c.loop-k.invariant.left)
    (λ i. subst (λ us. get_or c.remove_uses.new.left.items i 0 ≡ get_or c.loop-k.left.items i 0 - held_by us i)
    (sym uses) (c.remove_uses.ensures.less i)) in
    record {
      worth = c.in_ok-layer-2.ensures.worth (ways_from p (c.index-in-loop-k.result.now ∷ rest)) (ways_from p rest)
          (rest, subst (AtMost p rest) (sym c.as_slice-in-loop-k.ensures.value) fewer, refl, refl)
          ∙ ap (λ z. worth_by (ways_from p z) c.loop-k.layer.states.items) (ap (λ n. n ∷ rest) again ∙ sym here)
          ∙ c.loop-k.invariant.worth;
      left = fewer;
      len = c.remove_uses.ensures.len ∙ c.loop-k.invariant.len;
      same =
          let one : Some c.pass.new.beside.puzzle ≡ Some c.loop-k.rival.puzzle = c.pass.ensures.same in
          let two : c.pass.new.beside.puzzle ≡ c.loop-k.rival.puzzle = cc in
          two ∙ c.loop-k.invariant.same;
    }

pub returns-clause-count : goal.returns-clause-count
returns-clause-count c =
    let p = c.args.problem.now.puzzle in
    let os = c.in_ok-order.order.items in
    let none : drop c.loop-k.k os ≡ [] = drop_all c.loop-k.k os (omega arith) in
    c.in_ok-total.ensures ∙ ap (λ z. worth_by (ways_from p z) c.loop-k.layer.states.items) (sym none)
    ∙ c.loop-k.invariant.worth
