use Rattle.std.proofs.Common.{ap, sym, ◌∙◌, take}
use Rattle.xc_search.specs.inner.Few.{collected}
use Rattle.xc_search.proofs.FewLemmas.{items_known, options_known, own_known, few_counted}
use Rattle.xc_search.proofs.few.Few.count_items.Goals as goal

pub fill-requires-clause-items : goal.fill-requires-clause-items
fill-requires-clause-items g c =
    items_known c.args.problem.now.puzzle (g.D.Dance.state c.args.dance.now).trail
    (take c.args.items c.args.self.now.items) c.requires.opened

pub fill-requires-clause-options : goal.fill-requires-clause-options
fill-requires-clause-options g c =
    let p = c.args.problem.now.puzzle in
    let t = (g.D.Dance.state c.args.dance.now).trail in
    options_known p t (take c.in-Some.options c.collect_options.new.into) c.requires.searchable
    c.in-Some.ensures.collected

pub count_left-found-requires-clause-own : goal.count_left-found-requires-clause-own
count_left-found-requires-clause-own g c =
    own_known c.args.problem.now.puzzle (take c.args.items c.args.self.now.items)
    (take c.in-Some.options c.collect_options.new.into) c.fill.new.words c.full.result c.full-2.result
    c.fill.ensures c.full.ensures c.full-2.ensures

pub returns-clause-counted : goal.returns-clause-counted
returns-clause-counted g c =
    let p = c.args.problem.now.puzzle in
    let t = (g.D.Dance.state c.args.dance.now).trail in
    few_counted p t (take c.args.items c.args.self.now.items) (take c.in-Some.options c.collect_options.new.into)
    c.fill.new.words c.full.result c.full-2.result c.requires.searchable c.requires.once (record {
      items = c.requires.opened;
      options = c.in-Some.ensures.collected ∙ ap (collected p t) (sym c.requires.opened);
      words = c.fill.ensures;
    }) c.full.ensures c.full-2.ensures c.count_left-found.result c.count_left-found.ensures.counted
