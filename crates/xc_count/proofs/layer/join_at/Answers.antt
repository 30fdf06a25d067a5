use Rattle.std.proofs.Common.{◌≡◌, ap, ◌∙◌, get_or}
use Rattle.std.proofs.Math.Seq.{map-set_same}
use Rattle.std.proofs.lemmas.Option.{get_or_from_slice_get}
use Rattle.xc_count.proofs.AddedLemmas.{added_at}
use Rattle.xc_count.proofs.layer.join_at.Goals as goal

pub returns-clause-joined : goal.returns-clause-joined
returns-clause-joined g c s e apart =
    let at = get_or_from_slice_get c.args.states.now.items c.args.place s c.index_mut.result.now e in
    let is : c.index_mut.result.now ≡ s = cc in
    added_at g.W.Worth.joined c.args.worth.now c.args.states.now.items c.args.place s
    (record { key = c.index_mut.result.now.key; hash = c.index_mut.result.now.hash; worth = c.join.new.self })
    e (ap (λ t. t.key) is)
    (c.in_ok-join.ensures.joined ∙ ap (λ t. g.W.Worth.joined t.worth c.args.worth.now) is) apart

pub returns-clause-same : goal.returns-clause-same
returns-clause-same g c =
    let old = c.index_mut.result.now in
    let is : old ≡ get_or c.args.states.now.items c.args.place old = cc in
    map-set_same (λ t. (t.key.items, t.hash)) c.args.states.now.items c.args.place
    (record { key = old.key; hash = old.hash; worth = c.join.new.self }) old
    (ap (λ t. (t.key.items, t.hash)) is)
