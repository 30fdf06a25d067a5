use Rattle.std.proofs.Common.{rules, ◌≡◌, ◌++◌, [], ◌∷◌, sym, append_assoc}
use Rattle.std.proofs.lemmas.List.Elements.{All-push}
use Rattle.xc_input.specs.Tokens.{tokens}
use Rattle.xc_numbers.specs.SignedNumbers.{IsShort}
use Rattle.xc_numbers.proofs.NumberLemmas.{one_more}
use Rattle.xc_numbers.proofs.words.add_numbers.Goals as goal

pub loop-token-preserved : goal.loop-token-preserved
loop-token-preserved c =
    let old = c.loop-token.invariant in
    let front = old.read.0 in
    let n = c.in-Some-signed.number in
    let pushed : c.push.new.self.items ≡ c.loop-token.numbers.items ++ n ∷ [] = search rules in
    record {
      read = (
        front ++ n ∷ [],
        rw (pushed, old.read.1) (append_assoc c.args.numbers.now.items front (n ∷ [])),
        one_more front n c.in-Some.token.now (tokens c.loop-token.rest.now) (tokens c.in-Some.others.now) _
            c.in-Some.ensures.0 (sym c.in-Some-signed.ensures.value) old.read.2,
      );
      short = λ h. rw pushed
          (All-push IsShort c.loop-token.numbers.items n (old.short h) c.in-Some-signed.ensures.short);
    }
