use Rattle.std.proofs.Common.{◌≡◌, Some, None, inl, inr, subst, sym, refl}
use Rattle.std.specs.Prelude.{All}
use Rattle.xc_input.specs.Problem.{numbered_get}
use Rattle.xc_search.specs.Cover.{members}
use Rattle.xc_text.specs.Texts.{seen}
use Rattle.xc_list.specs.Known.{IsKnownChoice}
use Rattle.xc_count_run.proofs.LineLemmas.{known_at}
use Rattle.xc_count_run.proofs.solution.tell_found.Goals as goal

pub tell_solution-requires : goal.tell_solution-requires
tell_solution-requires g c =
    let p = c.args.problem.now.puzzle in
    let is : Some c.in-Some.choices.items ≡ numbered_get (members p) c.args.number.now =
    rw c.in-Some.is at c.requires in
    subst (All (IsKnownChoice p)) (sym c.as_slice-in-Ok.ensures.value) (known_at p c.args.number.now _ is)

pub returns-in-None : goal.returns-in-None
returns-in-None g c =
    let p = c.args.problem.now.puzzle in
    let is : None ≡ numbered_get (members p) c.args.number.now = rw c.in-None.is at c.requires in
    let same : seen g.O.Sink.state c.args.out.now ≡ seen g.O.Sink.state c.args.out.now =
    refl {a = seen g.O.Sink.state c.args.out.now} in
    elim c.tell_fewer.ensures [
      | inl a ↦ record { did = rw (← is) (inl (record { is_status = a.0; told = a.1; unwritten = same })) }
      | inr b ↦ record { did = rw (← is) (inr (record { is_status = b.0; told = b.1; unwritten = same })) }
    ]
