use Rattle.std.proofs.Common.{◌≡◌, ◌∙◌, ap, inl, length, subst₂}
use Rattle.std.specs.Prelude.{flat_map}
use Rattle.std.specs.List.{enumerate_from}
use Rattle.xc_search.specs.Cover.{members}
use Rattle.xc_tools.specs.WholeRuns.{sinks}
use Rattle.xc_count_run.specs.Each.{PrintsBoth, option_line, option_lines}
use Rattle.xc_count_run.specs.LastLine.{count_text}
use Rattle.xc_count_run.proofs.occurring.tell_numbers.Goals as goal

pub returns-in-Ok-Ok : goal.returns-in-Ok-Ok
returns-in-Ok-Ok g c =
    let p = c.args.problem.now.puzzle in
    let lines : c.as_slice-in-Ok-Ok.result.now ≡ option_lines p =
    c.as_slice-in-Ok-Ok.ensures.value ∙ c.in-Ok-Ok.ensures
    ∙ ap (λ ns. flat_map option_line (enumerate_from 1 ns)) (c.as_slice.ensures.value ∙ c.requires.each) in
    let last : c.as_slice-in-Ok-Ok-2.result.now ≡ count_text (length (members p)) =
    c.as_slice-in-Ok-Ok-2.ensures.value ∙ c.in-Ok-Ok.ensures' ∙ ap count_text c.requires.covers in
    record {
      did = inl (subst₂ (λ ls l. PrintsBoth ls l c.print_both.result
          (sinks g.O.Sink.state g.E.Sink.state c.args.out.now c.args.err.now)
          (sinks g.O.Sink.state g.E.Sink.state c.print_both.new.out c.print_both.new.err)) lines last
          c.print_both.ensures);
    }
