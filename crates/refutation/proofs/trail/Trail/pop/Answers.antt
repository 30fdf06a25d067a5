use Rattle.refutation.proofs.TrailLemmas.{among_pop}
use Rattle.refutation.proofs.trail.Trail.pop.Goals as goal

pub invariant_of-self : goal.invariant_of-self
invariant_of-self c =
    among_pop c.self.inside.marks.items c.set_mark.new.marks.items c.self.inside.literals.items c.pop.new.self.items
    c.in-Some.literal c.self.invariant c.set_mark.ensures c.in-Some.ensures.items
