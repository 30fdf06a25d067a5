use Rattle.std.proofs.Common.{◌∙◌, ap, map, refl, subst, sym}
use Rattle.std.proofs.lemmas.List.{drop-map}
use Rattle.xc_tools.specs.Joins.{DidJoin}
use Rattle.xc_tools.specs.WholeRuns.{sinks}
use Rattle.xc_tools.proofs.joining.join_spans.Goals as goal

pub returns-in-Some : goal.returns-in-Some
returns-in-Some g c = record {
  did = rw (sym c.in-Some.ensures) (subst (λ files. DidJoin c.in-Some.listed files c.join_input.result
      (g.S.Source.state c.args.input.now) (g.S.Source.state c.join_input.new.input)
      (sinks g.O.Sink.state g.E.Sink.state c.args.out.now c.args.err.now)
      (sinks g.O.Sink.state g.E.Sink.state c.join_input.new.out c.join_input.new.err))
      (ap (map (λ w. w.items)) c.named_files.ensures ∙ sym (drop-map _ 1 c.args.words.now)) c.join_input.ensures.did);
}

pub returns-in-None : goal.returns-in-None
returns-in-None g c = record {
  did = rw (sym c.in-None.ensures)
      (refl, record { is_status = c.refuse.ensures.status; told = c.refuse.ensures.told; unwritten = refl });
}
