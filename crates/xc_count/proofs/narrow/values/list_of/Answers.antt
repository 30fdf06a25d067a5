use Rattle.std.proofs.Common.{ℕ, suc, ◌≡◌, ◌+◌, ◌%◌, ◌∙◌, arith}
use Rattle.xc_count.proofs.HolderLemmas.{at_number, no_number}
use Rattle.xc_count.proofs.narrow.values.list_of.Goals as goal

pub returns-in-Some : goal.returns-in-Some
returns-in-Some c =
    let k : ℕ = (c.args.item + 18446744073709551615) % 18446744073709551616 in
    let found = c.in-Some.ensures.lookup in
    let place : c.args.item ≡ suc k = omega arith in
    c.as_slice.ensures.value
    ∙ at_number (λ l. l.items) c.args.lists.now c.args.item k c.in-Some.list.now (omega arith) found.1 place

pub returns-in-None : goal.returns-in-None
returns-in-None c = no_number (λ l. l.items) c.args.lists.now c.args.item
    (λ k e. omega (arith, c.in-None.ensures.lookup.3))
