use Rattle.xc_input.proofs.FaultLemmas.{cuts_first, no-token}
use Rattle.std.proofs.Common.{◌++◌, arith, sym, ap, ◌∙◌, take}
use Rattle.std.proofs.lemmas.Bool.Decides.{nat_tests}
use Rattle.std.proofs.lemmas.List.{take-append-drop}
use Rattle.xc_input.specs.inner.Stored.{key_names}
use Rattle.xc_input.proofs.TokenLemmas.{cut-token, behind-all-white}
use Rattle.xc_input.proofs.tokens.other_token.Goals as goal

pub returns-then-is_empty : goal.returns-then-is_empty
returns-then-is_empty c = no-token c.args.line.now _ c.skip_white-rest.ensures (grind (arith, nat_tests))

pub returns-in-Some-cut_behind : goal.returns-in-Some-cut_behind
returns-in-Some-cut_behind c =
    let known = c.in-Some-behind_name.ensures in
    let whole = sym (take-append-drop c.long_word-bytes.result.1 c.skip_white-rest.result.now)
    ∙ ap (λ back. take c.long_word-bytes.result.1 c.skip_white-rest.result.now ++ back) (sym known.1) in
    cut-token _ _ _ _ _ _ _ c.in-Some-cut_behind.cut.0 c.requires.names c.skip_white-rest.ensures
    (grind (arith, c.if-is_empty.false, c.is_empty.ensures)) whole known.2 c.in-Some-cut_behind.ensures.name.0
    c.in-Some-cut_behind.ensures.name.1 c.in-Some-cut_behind.ensures.cut

pub returns-in-Some : goal.returns-in-Some
returns-in-Some c =
    behind-all-white (key_names c.args.names.now.keys) c.args.line.now c.in-Some.cut.1.now c.in-Some.cut.0
    c.skip_white-rest.ensures (c.in-Some.ensures (key_names c.args.names.now.keys) c.requires.names c.requires.words)

pub returns : goal.returns
returns c =
    let h =
    cuts_first _ _ _ _ _ c.skip_white-rest.ensures (grind (arith, c.if-is_empty.false, c.is_empty.ensures))
    c.word_len.ensures.value c.split_at.ensures.front c.split_at.ensures.back in
    (c.split_at.result.0.now, h.0, h.1, c.looked_up.ensures)
