use Rattle.std.proofs.Common.{ℕ, ◌≡◌, ◌+◌, ◌-◌, ◌∙◌, ◌∷◌, get_or, Some, length-set}
use Rattle.xc_search.specs.Cover.{options_of}
use Rattle.xc_count.proofs.OptionCounts.{hit, then_counted, then_distinct, then_known}
use Rattle.xc_count.proofs.occurring.add_solution.Goals as goal

-- the next choice has an option, which is counted
pub loop-choice-preserved-in-Continue-1 : goal.loop-choice-preserved-in-Continue-1
loop-choice-preserved-in-Continue-1 c =
    let m = c.in-Some.choice in
    let left = c.loop-choice.left in
    let rest = c.next.new.self in
    let ts = c.loop-choice.times in
    let i = c.loop-choice.invariant in
    let q = c.in-Some-option.option in
    let v = c.count_one.new.self in
    let was = c.index-times-option.result in
    let first : left ≡ m ∷ rest = c.in-Some.ensures.some in
    let some : m.option ≡ Some q = c.in-Some-option.is in
    let total : ℕ → ℕ = λ o. get_or c.args.times.now (o - 1) 0 + hit o (options_of c.args.solution) in
    record {
      counted = then_counted m q v was left rest ts first some i.known total i.distinct c.in_ok-count_one.ensures
          i.counted;
      known = then_known m q v was left rest ts first some i.known;
      distinct = then_distinct m q v was left rest ts first some i.known i.distinct;
      len = length-set _ _ _ ∙ i.len;
    }
