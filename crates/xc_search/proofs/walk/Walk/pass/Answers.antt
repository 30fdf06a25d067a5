use Rattle.std.proofs.Common.{arith}
use Rattle.xc_search.proofs.LoopSteps.{outlook_passed, stands_there, few_made}
use Rattle.xc_search.proofs.walk.Walk.pass.Goals as goal

-- the loop that counts nothing by words
pub invariant_of-self-then-many-eq1 : goal.invariant_of-self-then-many-eq1
invariant_of-self-then-many-eq1 g c =
    grind (arith, stands_there c.replace_with.ensures.0 c.replace_with.ensures.1.0, c.replace_with.ensures.1.1)

pub returns-then-many-eq1-clause-went : goal.returns-then-many-eq1-clause-went
returns-then-many-eq1-clause-went g c =
    (outlook_passed c.replace_with.ensures.0 c.replace_with.ensures.1.0 c.args.self.now c.self.view_is).0

pub returns-then-many-eq1-clause-count : goal.returns-then-many-eq1-clause-count
returns-then-many-eq1-clause-count g c =
    (outlook_passed c.replace_with.ensures.0 c.replace_with.ensures.1.0 c.args.self.now c.self.view_is).1

pub returns-then-many-eq1-clause-moves : goal.returns-then-many-eq1-clause-moves
returns-then-many-eq1-clause-moves g c =
    few_made c.replace_with.ensures.0 c.replace_with.ensures.1.0 c.args.self.now c.self.view_is

-- the loop that does
pub invariant_of-self-2 : goal.invariant_of-self-2
invariant_of-self-2 g c =
    grind (arith, stands_there c.replace_with-2.ensures.0 c.replace_with-2.ensures.1.0, c.replace_with-2.ensures.1.1)

pub returns-clause-went : goal.returns-clause-went
returns-clause-went g c =
    (outlook_passed c.replace_with-2.ensures.0 c.replace_with-2.ensures.1.0 c.args.self.now c.self.view_is).0

pub returns-clause-count : goal.returns-clause-count
returns-clause-count g c =
    (outlook_passed c.replace_with-2.ensures.0 c.replace_with-2.ensures.1.0 c.args.self.now c.self.view_is).1

pub returns-clause-moves : goal.returns-clause-moves
returns-clause-moves g c =
    few_made c.replace_with-2.ensures.0 c.replace_with-2.ensures.1.0 c.args.self.now c.self.view_is
