use Rattle.std.proofs.Common.{append-nil}
use Rattle.std.proofs.lemmas.Bool.Decides.{nat_tests}
use Rattle.std.proofs.lemmas.Grind.{common_steps}
use Rattle.std.proofs.Common.{arith, ap, length, ◌≤◌}
use Rattle.xc_list.proofs.OutputLemmas.{cut_in_span, span-length, text_put}
use Rattle.xc_list.proofs.bodies.put_cut.Goals as goal
use Rattle.xc_list.proofs.bodies.put_cut.Goals.{After-place_in_text-place}

-- the item's use starts within the text
cut : (c : After-place_in_text-place) → c.place_in_text-place.result ≤ c.span_of-from.result.1
cut c = grind (arith, cut_in_span)

pub overflow_sub-count : goal.overflow_sub-count
overflow_sub-count c = cut (goal.at.overflow_sub-count c).After-place_in_text-place

pub overflow_add-from : goal.overflow_add-from
overflow_add-from c = omega (arith, cut (goal.at.overflow_add-from c).After-place_in_text-place)

pub put_part-requires-clause-padded : goal.put_part-requires-clause-padded
put_part-requires-clause-padded c =
    let within = cut (goal.at.put_part-requires-clause-padded c).After-place_in_text-place in
    omega (arith, ap length c.deref.ensures.value)

pub overflow_sub-count-then-place-gt0 : goal.overflow_sub-count-then-place-gt0
overflow_sub-count-then-place-gt0 c = cut (goal.at.overflow_sub-count-then-place-gt0 c).After-place_in_text-place

pub put_part-requires-then-place-gt0 : goal.put_part-requires-then-place-gt0
put_part-requires-then-place-gt0 c =
    let within = cut (goal.at.put_part-requires-then-place-gt0 c).After-place_in_text-place in
    let long = span-length _ _ _ c.span_of-from.ensures.within in
    omega (arith, ap length c.span_of-from.ensures.text, ap length c.deref-then-place-gt0.ensures.value)

pub returns-clause-put : goal.returns-clause-put
returns-clause-put c = grind (arith, common_steps, text_put, append-nil, nat_tests)
