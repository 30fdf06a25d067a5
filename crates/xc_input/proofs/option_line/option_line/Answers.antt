-- The invariant is `IsBehind`: the tokens before `rest` have no fault, their items are marked, and the tables hold
-- their uses and colours behind those of the options before. It begins with no token (`unmarked-few`), and a good token
-- more keeps it (`behind_more`). A token at fault is the line's first one (`stopped`), and at the end of the line all
-- are judged and added (`all_judged`, `all_added`).
use Rattle.std.proofs.lemmas.Grind.{common_steps}
use Rattle.xc_input.proofs.OptionLemmas.{unmarked-few, behind_few, behind_more, all_added, all_judged, late_marked}
use Rattle.std.proofs.Common.{◌∙◌, ap, arith, append-nil, ◌++◌, ◌∷◌, []}
use Rattle.std.proofs.lemmas.List.{length-map, take_rest}
use Rattle.xc_input.specs.Faults.{first}
use Rattle.xc_input.specs.Tokens.{tokens}
use Rattle.xc_input.specs.declared.line_error.LineError.TheVariants.{Fault}
use Rattle.xc_input.specs.inner.Stages.{context, staged_token_checks, staged_option_checks, written}
use Rattle.xc_input.specs.inner.Builders.{items_of}
use Rattle.xc_input.specs.inner.Stored.{key_names}
use Rattle.xc_input.proofs.FaultLemmas.{stopped}
use Rattle.xc_input.proofs.option_line.option_line.Goals as goal

pub loop-token-init : goal.loop-token-init
loop-token-init c = grind (arith, length-map, unmarked-few, append-nil)

pub returns-in_err-written-clause-judged : goal.returns-in_err-written-clause-judged
returns-in_err-written-clause-judged c =
    let i = c.loop-token.invariant in
    let b = i.behind in
    let lent = c.deref.ensures.value in
    let known = context c.args.kind (key_names c.loop-token.tables.names.keys) c.loop-token.tables.primary in
    rw (← i.same.names, ← i.same.primary) (stopped (staged_token_checks known (items_of b.us) c.in-Some.ensures.0)
    (staged_option_checks known (items_of b.us ++ (written known.names c.in-Some.ensures.0).item ∷ [])
    (tokens c.in-Some.others.now)) c.from_residual.result (Fault c.in_err-written.field-0.0) c.from_residual.ensures.1
    (b.decided ∙ ap (λ ts. first (staged_option_checks known (items_of b.us) ts)) c.in-Some.ensures.1)
    (c.in_err-written.ensures.judged known.names c.in-Some.ensures.0 (items_of b.us) i.named.named
    (rw lent b.count) c.in-Some.ensures.3 (rw lent b.marked)))

pub add_use-requires-clause-few : goal.add_use-requires-clause-few
add_use-requires-clause-few c = behind_few c.loop-token.invariant.behind c.requires.few_uses

pub loop-token-preserved : goal.loop-token-preserved
loop-token-preserved c =
    let i = c.loop-token.invariant in
    let b = i.behind in
    let lent = c.deref.ensures.value in
    let is =
    c.in_ok-written.ensures.judged (key_names c.loop-token.tables.names.keys) c.in-Some.ensures.0 (items_of b.us)
    i.named.named (rw lent b.count) c.in-Some.ensures.3 (rw lent b.marked) in
    let more = c.in_ok-add_use.ensures in
    record {
      same = grind arith;
      named = rw more.same.names i.named;
      few_items = rw more.same.names i.few_items;
      words = rw (more.same.names, more.same.guesses) i.words;
      colour_seed = more.colour_seed ∙ i.colour_seed;
      behind = rw (more.same.names, more.same.primary, more.marks) (behind_more b c.in-Some.ensures.1 is
          (rw lent at c.in_ok-written.ensures.within) (rw lent at c.in_ok-written.ensures.unmarked) more.added
          more.colours more.distinct);
    }

pub clear-requires-clause-marked : goal.clear-requires-clause-marked
clear-requires-clause-marked c =
    grind (arith, take_rest c.deref-2.result.now c.len-start.result, late_marked c.loop-token.invariant.behind)

pub returns-clause-judged : goal.returns-clause-judged
returns-clause-judged c = grind (arith, all_judged)

pub returns-clause-uses : goal.returns-clause-uses
returns-clause-uses c = grind (arith, common_steps, all_added)
