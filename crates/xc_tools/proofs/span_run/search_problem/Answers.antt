use Rattle.std.proofs.Common.{ap}
use Rattle.xc_search.proofs.Completeness.{each_member_covers, each_cover_is_listed_once}
use Rattle.xc_text.specs.Texts.{seen}
use Rattle.xc_tools.specs.WholeRuns.{sinks}
use Rattle.xc_tools.proofs.RunLemmas.{span_broken, span_flushed, span_unflushed}
use Rattle.xc_tools.proofs.span_run.search_problem.Goals as goal

pub returns-in-Ok-flushed : goal.returns-in-Ok-flushed
returns-in-Ok-flushed g c =
    let flush = c.flushed.ensures in
    let well = c.in-Ok-flushed.ensures in
    record {
      did = span_flushed (each_member_covers c.args.problem.now.puzzle c.requires.sound.valid)
          (each_cover_is_listed_once c.args.problem.now.puzzle c.requires.sound.valid)
          (sinks g.O.Sink.state g.E.Sink.state c.flushed.new.out c.flushed.new.err) c.in-Ok.ensures flush.kept
          flush.flushed_once well.settled.0 well.settled.1 (ap (seen g.E.Sink.state) well.settled.2);
    }

pub returns-in-Err : goal.returns-in-Err
returns-in-Err g c =
    let flush = c.in-Err.ensures in
    record {
      did = span_unflushed (each_member_covers c.args.problem.now.puzzle c.requires.sound.valid)
          (each_cover_is_listed_once c.args.problem.now.puzzle c.requires.sound.valid)
          (sinks g.O.Sink.state g.E.Sink.state c.flushed.new.out c.flushed.new.err) c.in-Ok.ensures
          flush.kept flush.flushed_once flush.failed;
    }

pub returns-in-Err-WriteFailed : goal.returns-in-Err-WriteFailed
returns-in-Err-WriteFailed g c =
    let broke = rw c.in-Err-WriteFailed.field-0-is at c.in-Err-WriteFailed.ensures in
    record {
      did = span_broken (each_member_covers c.args.problem.now.puzzle c.requires.sound.valid)
          (each_cover_is_listed_once c.args.problem.now.puzzle c.requires.sound.valid)
          (sinks g.O.Sink.state g.E.Sink.state c.list_span.new.sink c.write_failed.new.err) broke.1
          c.write_failed.ensures.status c.write_failed.ensures.told;
    }
