-- The bounds of items.
-- Public contracts rest on this file: readers must believe it.
use Rattle.xc_input.specs.declared.problem.Item.{Item}
use Rattle.xc_input.specs.declared.problem.Bounds.{Bounds}

-- the bounds of an item
abbrev pub bounds_of : Item → Bounds
bounds_of x = record { low = x.low; high = x.high }

-- a secondary item may be left out, and is held at most once
abbrev pub secondary_bounds : Bounds
secondary_bounds = record { low = 0; high = 1 }
