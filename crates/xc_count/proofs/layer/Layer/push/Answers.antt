use Rattle.std.proofs.Common.{ℕ, arith, ◌≡◌, ◌≢◌, ◌+◌, ◌∷◌, ◌++◌, [], ◌∙◌, sym, ap, subst, Some}
use Rattle.std.specs.Prelude.{slice_get}
use Rattle.xc_count.specs.inner.Layers.{AreApart, AreFound, AreHashed, charged, hash_by, told}
use Rattle.xc_count.proofs.AddedLemmas.{apart_push}
use Rattle.xc_count.proofs.SlotLemmas.{bytes_push, found_push, hashed_push}
use Rattle.xc_count.proofs.layer.Layer.push.Goals as goal

pub invariant_of-self-2 : goal.invariant_of-self-2
invariant_of-self-2 g c =
    let old = c.grow.new.self in
    let limbs = g.W.Worth.limbs_of in
    let ss = old.states.items in
    let slots = c.fill_slot.new.slots.items in
    let pushed : c.push_state.new.states.items ≡ ss ++ c.args.state ∷ [] = c.in_ok-push_state.ensures.pushed in
    let bytes : charged limbs c.push_state.new.states.items ≡ charged limbs (ss ++ c.args.state ∷ []) =
    ap (charged limbs) pushed in
    record {
      taken = omega (arith, bytes, bytes_push limbs ss c.args.state, old.taken, c.requires.more, c.grow.ensures.bytes);
      within = omega (arith, c.requires.within, old.within, c.grow.ensures.bound);
      found = subst (λ ts. AreFound (told ts) slots) (sym pushed)
          (found_push ss c.args.state old.slots.items slots c.in_ok-place.place old.found c.fill_slot.ensures.kept
          (omega (arith, c.in_ok-place.ensures, c.len.ensures)) (c.fill_slot.ensures.filled (grind arith)));
      hashed = subst (λ ts. AreHashed old.seed (told ts)) (sym pushed)
          (hashed_push old.seed ss c.args.state old.hashed
          (c.requires.hashed ∙ ap (λ s. hash_by s c.args.state.key.items) (sym c.grow.ensures.seed)));
      apart = subst (λ ts. AreApart (told ts)) (sym pushed) (apart_push ss c.args.state old.apart
          (subst (λ v. (k : ℕ) (s : _) → slice_get v.items k ≡ Some s → s.key.items ≢ c.args.state.key.items)
          (sym c.grow.ensures.states) c.requires.fresh));
    }

pub invariant_of-self-in-Break-branch-3 : goal.invariant_of-self-in-Break-branch-3
invariant_of-self-in-Break-branch-3 g c =
    let old = c.grow.new.self in
    let slots = c.fill_slot.new.slots.items in
    let same : c.push_state.new.states.items ≡ old.states.items = c.in_err-push_state.ensures.full in
    record {
      taken = old.taken ∙ ap (charged g.W.Worth.limbs_of) (sym same);
      within = old.within;
      found = subst (λ ss. AreFound (told ss) slots) (sym same)
          (λ k t e. c.fill_slot.ensures.kept t.1 (k + 1) (omega arith) (old.found k t e));
      hashed = subst (λ ss. AreHashed old.seed (told ss)) (sym same) old.hashed;
      apart = subst (λ ss. AreApart (told ss)) (sym same) old.apart;
    }
