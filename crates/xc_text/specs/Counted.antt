-- What contracts see of a `Tally`.
-- Public contracts rest on this file: readers must believe it.
use Rattle.std.specs.Prelude.{ℕ}

-- how often something was done
pub record Counted : Type 0 where
  pub count : ℕ
