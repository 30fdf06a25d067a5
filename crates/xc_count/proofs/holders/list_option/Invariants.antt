use Rattle.std.proofs.Common.{ℕ, ◌≡◌, ◌≤◌, ◌++◌, length, map, drop}
use Rattle.std.specs.Prelude.{option_map}
use Rattle.xc_input.specs.Problem.{numbered_get}
use Rattle.xc_count.specs.inner.Plans.{if_held}
use Rattle.xc_count.proofs.holders.list_option.Given as goal

abbrev pub invariant-loop-place : goal.invariant-loop-place
invariant-loop-place l = record {
  lists : (i : ℕ) → numbered_get (map (λ z. z.items) l.lists.items) i
      ≡ option_map (λ z. z ++ if_held (drop l.place l.uses) i l.option)
      (numbered_get (map (λ z. z.items) l.initial.lists.items) i);
  len : length l.lists.items ≡ length l.initial.lists.items;
  within : l.place ≤ length l.uses;
}

abbrev pub decreases-loop-place : goal.decreases-loop-place
decreases-loop-place l = l.place
