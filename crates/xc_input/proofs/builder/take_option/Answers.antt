use Rattle.std.proofs.Common.{arith, ◌∙◌, refl, []}
use Rattle.xc_input.specs.Tokens.{tokens}
use Rattle.xc_input.specs.inner.Stages.{staged_option_checks, whole_checks, context}
use Rattle.xc_input.specs.inner.Builders.{sheet_of_builder}
use Rattle.xc_input.specs.inner.Stored.{key_names}
use Rattle.xc_input.proofs.FaultLemmas.{stopped, items-length}
use Rattle.xc_input.proofs.OptionLemmas.{content-is, no-primary, too-long, fits, taken, left-out}
use Rattle.xc_input.proofs.builder.take_option.Goals as goal

pub returns-in_err-option_line-clause-judged : goal.returns-in_err-option_line-clause-judged
returns-in_err-option_line-clause-judged c =
    let d = c.args.builder.now in
    stopped (staged_option_checks (context c.args.kind (key_names d.tables.names.keys) d.tables.primary) []
    (tokens c.args.line.now)) (whole_checks (sheet_of_builder d) c.args.line.now) c.from_residual.result
    c.in_err-option_line.field-0.0 c.from_residual.ensures.1
    (content-is c.args.kind c.args.line.now c.requires.sound c.requires.started) c.in_err-option_line.ensures.judged

pub returns-then-not-has_primary_use-clause-judged : goal.returns-then-not-has_primary_use-clause-judged
returns-then-not-has_primary_use-clause-judged c =
    let o = c.in_ok-option_line.ensures in
    no-primary c.args.kind c.args.line.now c.requires.sound c.requires.started o.uses
    (rw o.same.primary at c.has_primary_use.ensures) c.deref.ensures.value
    (c.len-start.ensures ∙ items-length c.args.builder.now.tables.uses) o.judged c.if-not-has_primary_use.true

pub returns-then-not-has_primary_use-clause-taken : goal.returns-then-not-has_primary_use-clause-taken
returns-then-not-has_primary_use-clause-taken c =
    let o = c.in_ok-option_line.ensures in
    left-out c.args.kind c.args.line.now c.requires.sound c.requires.started o.uses
    (rw o.same.primary at c.has_primary_use.ensures) c.deref.ensures.value
    (c.len-start.ensures ∙ items-length c.args.builder.now.tables.uses) c.args.count o.same o.sound refl o.colours
    c.if-not-has_primary_use.true c.truncate.ensures.items c.truncate-then-not-has_primary_use.ensures.room.1
    c.truncate-then-not-has_primary_use.ensures.keys c.len-met.ensures.len (rw c.in_ok-push.was at c.push.ensures.items)

pub returns-then-len-gt-MOST_USES-clause-judged : goal.returns-then-len-gt-MOST_USES-clause-judged
returns-then-len-gt-MOST_USES-clause-judged c =
    let o = c.in_ok-option_line.ensures in
    too-long c.args.kind c.args.line.now c.requires.sound c.requires.started o.uses
    (rw o.same.primary at c.has_primary_use.ensures) c.deref.ensures.value
    (c.len-start.ensures ∙ items-length c.args.builder.now.tables.uses) o.judged
    (c.len.ensures ∙ items-length c.option_line.new.tables.uses) c.if-not-has_primary_use.false
    c.if-len-gt-MOST_USES.true

pub returns-clause-judged : goal.returns-clause-judged
returns-clause-judged c = grind (arith, fits, items-length)

pub returns-clause-taken : goal.returns-clause-taken
returns-clause-taken c =
    let o = c.in_ok-option_line.ensures in
    taken c.args.kind c.args.line.now c.requires.sound c.requires.started o.uses
    (rw o.same.primary at c.has_primary_use.ensures) c.deref.ensures.value
    (c.len-start.ensures ∙ items-length c.args.builder.now.tables.uses) c.args.count o.same o.sound refl o.colours
    c.if-not-has_primary_use.false (c.len-2.ensures ∙ items-length c.option_line.new.tables.uses)
    (omega (arith, c.len.ensures, c.len-2.ensures, c.if-len-gt-MOST_USES.false))
    (rw c.in_ok-push-2.was at c.push-2.ensures.items)
