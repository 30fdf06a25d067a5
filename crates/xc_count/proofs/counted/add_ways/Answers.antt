use Rattle.std.proofs.lemmas.Result.{on_ok_weaker}
use Rattle.xc_count.proofs.WorthLemmas.{keys_added_to, worth_added}
use Rattle.xc_count.proofs.counted.add_ways.Goals as goal

pub returns-clause-worth : goal.returns-clause-worth
returns-clause-worth c = on_ok_weaker c.add.result (λ added f.
    worth_added f c.args.key.now c.args.ways.now c.args.layer.now.states.items c.add.new.self.states.items added)
    c.add.ensures.added

pub returns-clause-keys : goal.returns-clause-keys
returns-clause-keys c = on_ok_weaker c.add.result (λ added q each here.
    keys_added_to q c.args.key.now c.args.ways.now c.args.layer.now.states.items c.add.new.self.states.items added
    each here) c.add.ensures.added
