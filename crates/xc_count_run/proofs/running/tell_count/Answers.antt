use Rattle.std.proofs.Common.{◌≡◌, ◌∙◌, ap, inl, length, subst}
use Rattle.xc_search.specs.Cover.{members}
use Rattle.xc_count_run.specs.LastLine.{Concludes, count_text}
use Rattle.xc_count_run.proofs.running.tell_count.Goals as goal

pub returns : goal.returns
returns g c =
    let line : c.as_slice.result.now ≡ count_text (length (members c.args.problem.now.puzzle)) =
    c.as_slice.ensures.value ∙ c.in-Ok.ensures ∙ ap count_text c.requires in
    inl (subst (λ l. Concludes l c.write_last.result (g.E.Sink.state c.args.err.now)
    (g.E.Sink.state c.write_last.new.err)) line c.write_last.ensures)
