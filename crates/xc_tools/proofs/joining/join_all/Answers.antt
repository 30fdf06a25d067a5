use Rattle.std.proofs.Common.{◌∙◌, ap, inr, sym}
use Rattle.xc_tools.specs.inner.Joining.{stand_reached}
use Rattle.xc_tools.proofs.Stopped.{ends-as}
use Rattle.xc_tools.proofs.joining.join_all.Goals as goal

pub returns : goal.returns
returns g c =
    let read = c.in_ok-feed_all.ensures in
    record {
      joins = inr (
        c.feed_all.new.lines.given.lines,
        c.feed_all.new.reader.rest,
        c.feed_all.new.lines.joint,
        read.all,
        read.after.whole,
        read.part,
        ap (λ b. stand_reached b c.feed_all.new.lines.given.lines) (sym read.listed) ∙ read.after.stands,
        ends-as _ _ _ c.rest.ensures c.end_text.ensures.ends,
        read.adds,
      );
    }
