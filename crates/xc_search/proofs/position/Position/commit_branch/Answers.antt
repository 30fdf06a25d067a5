use Rattle.std.proofs.Common.{ne_eqb}
use Rattle.std.proofs.Common.{arith}
use Rattle.std.proofs.Common.{◌≡◌, Some, subst}
use Rattle.xc_moves.specs.Commits.{option_at, IsUseAt}
use Rattle.xc_search.specs.inner.Levels.{CanBranch}
use Rattle.xc_search.proofs.position.Position.commit_branch.Goals as goal
use Rattle.xc_search.proofs.position.Position.commit_branch.Goals.{Else-place-item}

some : (g : _) (c : Else-place-item g) → (o : _) × (option_at c.args.self.now.puzzle c.args.item c.args.place ≡ Some o)
some g c = grind (arith, ne_eqb)

can : (g : _) (c : Else-place-item g)
    → CanBranch c.args.self.now.puzzle c.args.item (Some (some g c).0) c.args.self.now.trail
can g c = subst (λ o. CanBranch c.args.self.now.puzzle c.args.item o c.args.self.now.trail) (some g c).1 c.requires.can

use_at : (g : _) (c : Else-place-item g) → IsUseAt c.args.self.now.puzzle c.args.item (some g c).0 c.args.place
use_at g c = grind (arith, can)

pub cover_if_open-requires-clause-room : goal.cover_if_open-requires-clause-room
cover_if_open-requires-clause-room g c = grind arith

pub commit-requires-clause-can : goal.commit-requires-clause-can
commit-requires-clause-can g c = grind (arith, use_at)

pub returns-then-place-item : goal.returns-then-place-item
returns-then-place-item g c = grind arith

pub commit_uses-requires-clause-can : goal.commit_uses-requires-clause-can
commit_uses-requires-clause-can g c = grind (arith, use_at)

pub returns-then-this-ne0 : goal.returns-then-this-ne0
returns-then-this-ne0 g c = grind (arith, use_at)

pub returns-else-this-ne0 : goal.returns-else-this-ne0
returns-else-this-ne0 g c = grind (arith, use_at)
