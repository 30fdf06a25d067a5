use Rattle.std.proofs.Common.{sym, arith}
use Rattle.xc_input.proofs.TokenLemmas.{behind-known}
use Rattle.xc_input.proofs.tokens.behind_name.Goals as goal

pub returns : goal.returns
returns c =
    behind-known c.strip_prefix.result _ c.args.names.now.keys c.args.text.now c.args.at c.args.n c.requires
    (sym c.in-Some.ensures.key) (omega arith) c.as_slice-name.ensures.value c.strip_prefix.ensures.cases
