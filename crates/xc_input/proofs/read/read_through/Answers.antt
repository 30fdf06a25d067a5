use Rattle.std.proofs.Common.{arith, refl}
use Rattle.xc_input.proofs.LineLemmas.{ends-as, whole-last, part-last, faultless, open-carry}
use Rattle.xc_input.proofs.read.read_through.Goals as goal

-- what the answer at the end of the input says of what was fed
pub returns-clause-whole : goal.returns-clause-whole
returns-clause-whole g c = grind (arith, whole-last, ends-as)

pub returns-clause-part : goal.returns-clause-part
returns-clause-part g c =
    let some = open-carry c.feed_all.new.reader c.feed_all.new.lines.rest c.in_ok-feed_all.ensures.state in
    let fed = c.in_ok-feed_all.ensures in
    let reader = c.feed_all.new.reader in
    let clean = faultless c.args.reader.kind reader c.feed_all.new.lines.rest fed.kind fed.state fed.all.gave in
    let ends = rw c.rest.ensures at c.end_text.ensures.answer in
    let memory = rw c.rest.ensures at c.end_text.ensures.memory in
    part-last c.end_text.result (ends-as _ _ _ _ _ fed.kind refl ends) (λ e. some (memory e)) fed.all clean
