use Rattle.std.proofs.Common.{arith}
use Rattle.xc_none.proofs.CnfLemmas.{comments_more, comments_failed, comments_end}
use Rattle.xc_none.proofs.cnf.write_comments.Goals as goal

pub returns-in_err-write_comment : goal.returns-in_err-write_comment
returns-in_err-write_comment g c =
    comments_failed c.args.problem.now c.args.meanings.now c.loop-k.k _ _ _ _ _ c.from_residual.ensures.0
    c.loop-k-test.true c.loop-k.invariant c.in_err-write_comment.ensures

pub loop-k-preserved : goal.loop-k-preserved
loop-k-preserved g c =
    comments_more c.args.problem.now c.args.meanings.now c.loop-k.k _ _ _ _ c.loop-k-test.true c.loop-k.invariant
    c.in_ok-write_comment.ensures

pub returns : goal.returns
returns g c = comments_end c.args.problem.now c.args.meanings.now c.loop-k.k _ _ (omega arith) c.loop-k.invariant
