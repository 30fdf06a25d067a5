use Rattle.std.proofs.Common.{arith}
use Rattle.std.proofs.Common.{◌-◌, ◌++◌, ◌∷◌, [], map, set, sym, ap, ◌∙◌, true, length-set}
use Rattle.std.proofs.lemmas.List.{length-map}
use Rattle.xc_input.specs.Faults.{item_of}
use Rattle.xc_input.specs.Sheets.{Written}
use Rattle.xc_input.specs.inner.Stages.{context}
use Rattle.xc_input.specs.inner.Stored.{key_names}
use Rattle.xc_input.proofs.FaultLemmas.{map-snoc, read-stands, read-on, read-stop, read-end}
use Rattle.xc_input.proofs.OptionLemmas.{mark}
use Rattle.xc_input.proofs.faulty.faulty_among.Goals as goal

pub cut_out-requires : goal.cut_out-requires
cut_out-requires c = read-stands c.loop-token.invariant.3 _ _ c.in-Some.ensures.2

pub returns-in-Err : goal.returns-in-Err
returns-in-Err c =
    read-stop c.loop-token.invariant.3 _ c.cut_out.result c.in-Some.ensures.0
    (c.in-Err.ensures.judged (key_names c.args.names.now.keys) c.in-Some.token.now _ c.requires.named.named
    (c.loop-token.invariant.0 ∙ sym (length-map c.args.names.now.keys _)) c.looked_up.ensures c.loop-token.invariant.2)
    c.cut_out.ensures.place c.cut_out.ensures.token c.cut_out.ensures.behind c.cut_out.ensures.kind

pub loop-token-preserved : goal.loop-token-preserved
loop-token-preserved c =
    let known = context c.args.kind (key_names c.args.names.now.keys) c.args.primary in
    let others = c.loop-token.invariant.1 in
    let seen = map (item_of known) others in
    let judged =
    c.in-Ok.ensures.judged (key_names c.args.names.now.keys) c.in-Some.token.now seen c.requires.named.named
    (c.loop-token.invariant.0 ∙ sym (length-map c.args.names.now.keys _)) c.looked_up.ensures
    c.loop-token.invariant.2 in
    let same = ap (λ (w : Written). seen ++ w.item ∷ []) judged.1
    ∙ sym (map-snoc (item_of known) others c.in-Some.token.now) in (
      length-set c.loop-token.marks (c.in-Ok.written.item - 1) true ∙ c.loop-token.invariant.0,
      others ++ c.in-Some.token.now ∷ [],
      grind (arith, set, mark),
      read-on c.loop-token.invariant.3 _ c.in-Some.ensures.0 c.in-Some.ensures.2 judged.0,
    )

pub returns : goal.returns
returns c = read-end c.loop-token.invariant.3 c.in_default.ensures
