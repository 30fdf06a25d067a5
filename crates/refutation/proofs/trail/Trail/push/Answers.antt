use Rattle.refutation.proofs.TrailLemmas.{among_push}
use Rattle.refutation.proofs.trail.Trail.push.Goals as goal

pub invariant_of-self-2 : goal.invariant_of-self-2
invariant_of-self-2 c =
    among_push c.self.inside.marks.items c.set_mark.new.marks.items c.self.inside.literals.items c.push.new.self.items
    c.args.literal c.self.invariant c.set_mark.ensures c.in_ok-push.ensures.items
