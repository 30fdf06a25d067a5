use Rattle.std.proofs.Common.{◌≡◌, List, Bool, length}
use Rattle.std.specs.Fn.{CalledAt}
use Rattle.xc_search.specs.declared.choice.Choice.{Choice}
use Rattle.xc_search.specs.Outlook.{MakesFew}
use Rattle.xc_search.specs.Visited.{Visits}
use Rattle.xc_search.proofs.search.Search.for_each.Given as goal

abbrev pub invariant-loop-visit : goal.invariant-loop-visit
invariant-loop-visit g l = record {
  callable : goal.F-IsAlwaysCallable g l.visit;
  still : l.self ≡ record l.initial.self {
    to_come = l.self.to_come;
    shown = l.self.shown;
    ahead = l.self.ahead;
    made = l.self.made;
  };
  moves : MakesFew l.initial.self l.self;
  -- what calls with the members to come do follows the calls that were made
  goes_on : (all : Bool) (left : List (List Choice)) (shown : List Choice) (last : _) →
      Visits (λ f m more h. CalledAt g.F.FnMut f m more h) l.visit l.self.to_come all left shown last →
      Visits (λ f m more h. CalledAt g.F.FnMut f m more h) l.initial.visit l.initial.self.to_come all left shown last;
}

abbrev pub decreases-loop-visit : goal.decreases-loop-visit
decreases-loop-visit g l = length l.self.to_come
