use Rattle.std.proofs.Common.{sym, subst, take}
use Rattle.std.proofs.lemmas.List.{length-take-le}
use Rattle.xc_search.specs.inner.FewBounded.{AreWatched}
use Rattle.xc_search.proofs.FewLemmas.{options_known}
use Rattle.xc_search.proofs.FewBoundedLemmas.{bounded_counted}
use Rattle.xc_search.proofs.few.Few.count_watched.Goals as goal

pub fill_bounded-requires-clause-items : goal.fill_bounded-requires-clause-items
fill_bounded-requires-clause-items g c = c.in-Some-collect_watched.ensures.watched.opened

pub fill_bounded-requires-clause-options : goal.fill_bounded-requires-clause-options
fill_bounded-requires-clause-options g c =
    options_known c.args.problem.now.puzzle (g.D.Dance.state c.args.dance.now).trail
    (take c.in-Some.options c.collect_options.new.into) c.requires.searchable c.in-Some.ensures.collected

pub returns-clause-counted : goal.returns-clause-counted
returns-clause-counted g c =
    let p = c.args.problem.now.puzzle in
    let t = (g.D.Dance.state c.args.dance.now).trail in
    let is = take c.in-Some-collect_watched.items c.collect_watched.new.into in
    let os = take c.in-Some.options c.collect_options.new.into in
    let many = sym (length-take-le c.in-Some.options c.collect_options.new.into c.in-Some.ensures.within) in
    bounded_counted p t is os c.fill_bounded.new.words c.full.result c.full-2.result c.requires.searchable
    (subst (λ n. AreWatched p t n is) many c.in-Some-collect_watched.ensures.watched) c.in-Some.ensures.collected
    c.fill_bounded.ensures c.full.ensures c.full-2.ensures c.count_bounded-found.result
    c.count_bounded-found.ensures.counted
