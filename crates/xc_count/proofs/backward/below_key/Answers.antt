use Rattle.std.proofs.Common.{◌∙◌, ap, get_or}
use Rattle.xc_count.specs.inner.Worth.{CountState, key_below}
use Rattle.xc_count.proofs.Passed.{at_map}
use Rattle.xc_count.proofs.backward.below_key.Goals as goal

pub returns-in-Some-get : goal.returns-in-Some-get
returns-in-Some-get c p plan below =
    let ahead = c.args.ahead.now in
    let place = c.in-Some.place in
    let found = c.in-Some.ensures.some in
    let f = λ (s : CountState). key_below p plan ahead.from s.key.items in
    let at = at_map f ahead.layer.states.items place found.0 found.1 in
    c.in-Some-get.ensures.lookup.1
    ∙ ap (λ ns. get_or ns place c.in-Some-get.below.now) (c.deref.ensures.value ∙ below)
    ∙ at.1 c.in-Some-get.below.now
    ∙ ap (key_below p plan ahead.from) found.2
