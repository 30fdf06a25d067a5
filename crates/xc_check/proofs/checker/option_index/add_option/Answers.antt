use Rattle.std.proofs.Common.{[], add-one, ℕ, suc, ◌≡◌, ◌+◌, ◌++◌, ◌∷◌, List, ◌∙◌, Some, sym, ap, subst, arith}
use Rattle.std.specs.Prelude.{slice_get}
use Rattle.xc_input.specs.declared.problem.Use.{Use}
use Rattle.xc_input.specs.Problem.{Puzzle, numbered_get}
use Rattle.xc_text.proofs.ListLemmas.{IsIn}
use Rattle.xc_check.specs.inner.Classes.{class_of, class_at, key_uses}
use Rattle.xc_check.proofs.CheckLemmas.{members-few, members_at, classes-found, classes-new, found-key, lost-key}
use Rattle.xc_check.proofs.CheckLemmas.{new-uses}
use Rattle.xc_check.proofs.checker.option_index.add_option.Goals as goal

-- the uses that were turned are the option's class
option_class : (p : Puzzle) (o : ℕ) (us turned slice : List Use) → numbered_get p.options (o + 1) ≡ Some us
    → turned ≡ class_of us → slice ≡ turned → slice ≡ class_at p (suc o)
option_class p o us turned slice e f g = grind (arith, add-one)

pub overflow_add-index_mut : goal.overflow_add-index_mut
overflow_add-index_mut c =
    let p = c.args.problem.now.puzzle in
    let classes = key_uses c.args.classes.now.keys in
    let us = c.as_slice.result.now in
    let at = found-key us c.args.classes.now.keys c.in-Some.class (sym c.in-Some.ensures.index) in
    let count = members_at p c.args.o classes _ c.in-Some.class c.index_mut.result.now us c.requires.before at in
    let few = members-few p c.args.o us in
    omega (arith, c.index_mut.ensures.value, count, few, c.requires.option, c.requires.limits.options)

pub returns-in-Some-clause-classes : goal.returns-in-Some-clause-classes
returns-in-Some-clause-classes c =
    let p = c.args.problem.now.puzzle in
    let o = c.args.o in
    let is = option_class p o _ _ _ c.option.ensures.value c.in_ok-rotate.ensures c.as_slice.ensures.value in
    let at = found-key _ _ _ (sym c.in-Some.ensures.index) in
    let here : slice_get (key_uses c.args.classes.now.keys) c.in-Some.class ≡ Some (class_at p (suc o)) =
    at ∙ ap (λ x. Some x) is in
    rw (add-one o) (classes-found p o _ _ _ _ c.requires.before here c.index_mut.ensures.value)

pub returns-in_ok-push-in-None-clause-classes : goal.returns-in_ok-push-in-None-clause-classes
returns-in_ok-push-in-None-clause-classes c =
    let p = c.args.problem.now.puzzle in
    let o = c.args.o in
    let keys = c.args.classes.now.keys in
    let is = option_class p o _ _ _ c.option.ensures.value c.in_ok-rotate.ensures c.as_slice.ensures.value in
    let all = new-uses _ _ _ _ (sym c.in-None.ensures.index)
    (c.in_ok-from_slice-in-None.ensures.items ∙ c.as_slice-in-None.ensures.value ∙ sym c.as_slice.ensures.value)
    c.in_ok-insert-in-None.ensures.keys in
    rw (add-one o) (classes-new p o _ _ _ _ c.requires.before
    (λ h. lost-key _ keys (sym c.in-None.ensures.index) (subst (IsIn (key_uses keys)) (sym is) h))
    (all ∙ ap (λ x. key_uses keys ++ x ∷ []) is) c.in_ok-push-in-None.ensures.items)
