use Rattle.std.proofs.Common.{arith, ◌≡◌, ◌+◌, ◌*◌, ◌∷◌, ap, subst₂, sym}
use Rattle.xc_count.specs.inner.ByOption.{ways_from, ways_taken}
use Rattle.xc_count.specs.inner.Worth.{worth_by}
use Rattle.xc_count.proofs.by_option.ChoosingPassOn.pass_on.Goals as goal

pub returns-clause-worth : goal.returns-clause-worth
returns-clause-worth g c = λ f k w.
    let p = c.args.self.now.problem.now.puzzle in
    let o = c.args.self.now.option in
    let us = c.args.self.now.uses.now in
    let key = c.args.state.now.key.items in
    let n = c.args.state.now.worth in
    let os = w.0 in
    let both : ways_from p (o ∷ os) key ≡ ways_from p os key + ways_taken p os us key =
    ap (λ vs. ways_from p os key + ways_taken p os vs key) (sym c.requires.step.0) in
    let times : n * ways_from p (o ∷ os) key ≡ n * ways_from p os key + n * ways_taken p os us key =
    rw both (omega arith) in
    let all : worth_by (ways_from p os) c.take.new.layer.states.items
    ≡ worth_by (ways_from p os) c.args.next.now.states.items + n * ways_from p (o ∷ os) key =
    omega (arith, times, c.in_ok-leave.ensures.worth os w.1, c.in_ok-take.ensures.worth os w.1) in
    subst₂ (λ x y. worth_by y c.take.new.layer.states.items
    ≡ worth_by y c.args.next.now.states.items + n * x key) (sym w.2) (sym w.3) all
