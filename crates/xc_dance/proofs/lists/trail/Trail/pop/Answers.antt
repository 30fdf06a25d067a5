use Rattle.xc_dance.proofs.StateLemmas.{open_by_state, set_state, high_within}
use Rattle.std.proofs.Common.{arith, ◌≡◌, reverse, [], ◌∷◌, List, eq-eqb, ◌++◌, ℕ, refl}
use Rattle.std.proofs.lemmas.Grind.{common_steps, get_or_default_zero}
use Rattle.xc_input.specs.Problem.{Puzzle}
use Rattle.std.proofs.lemmas.Bool.{ne_eqb}
use Rattle.xc_moves.specs.declared.dance.Move.{Move}
use Rattle.xc_moves.specs.Moves.{AreLegal}
use Rattle.xc_dance.specs.inner.Lists.{AreStates, AreLeft}
use Rattle.xc_dance.proofs.lists.trail.Trail.pop.Goals as goal
use Rattle.xc_dance.specs.declared.lists.state.ItemState.TheVariants.{Open}
use Rattle.xc_dance.specs.declared.lists.state.ItemState.{ItemState}

-- what held with the move that goes as the newest one
record Before (p : Puzzle) (m : Move) (t : List Move) (items : List ItemState) (bounds : List ℕ) : Type 0 where
  legal : AreLegal p (m ∷ t)
  states : AreStates p (m ∷ t) items
  left : AreLeft p (m ∷ t) bounds

before : (p : Puzzle) (old new : List Move) (n m : Move) (items : List ItemState) (bounds : List ℕ)
    → old ≡ new ++ n ∷ [] → n ≡ m → AreLegal p (reverse old) → AreStates p (reverse old) items
    → AreLeft p (reverse old) bounds → Before p m (reverse new) items bounds
before p old new n m items bounds e is legal states left = grind (arith, common_steps)

pub invariant_of-self : goal.invariant_of-self
invariant_of-self c =
    let b = before _ _ _ _ _ _ _ c.in-Some.ensures.items c.in-Cover.is c.self.invariant.legal c.self.invariant.states
    c.self.invariant.left in
    let states = set_state _ _ (reverse c.pop.new.self.items) _ _ Open b.states b.legal.0.0.0 b.legal.0.0.1
    (λ k other. rw (ne_eqb _ _ other) refl) in
    grind (arith, states, open_by_state, b.left.count, b.left.each)

pub invariant_of-self-in-Purify : goal.invariant_of-self-in-Purify
invariant_of-self-in-Purify c =
    let b = before _ _ _ _ _ _ _ c.in-Some.ensures.items c.in-Purify.is c.self.invariant.legal c.self.invariant.states
    c.self.invariant.left in
    let states = set_state _ _ (reverse c.pop.new.self.items) _ _ Open b.states (omega (arith, b.legal.0.0.0))
    b.legal.0.0.1 (λ k other. rw (ne_eqb _ _ other) refl) in
    grind (arith, states, open_by_state, b.left.count, b.left.each)

pub overflow_add-index_mut : goal.overflow_add-index_mut
overflow_add-index_mut c = grind (arith, common_steps, eq-eqb, get_or_default_zero, high_within, before)
