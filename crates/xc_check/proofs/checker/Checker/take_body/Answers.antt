use Rattle.std.proofs.lemmas.Bool.Decides.{nat_tests}
use Rattle.std.proofs.Common.{arith}
use Rattle.std.proofs.Common.{◌≡◌, is_some, Some}
use Rattle.xc_check.specs.ListingLines.{words_in}
use Rattle.xc_check.specs.inner.Listings.{Body, read, IsClassOfLine}
use Rattle.xc_check.specs.Listed.{is_none}
use Rattle.xc_check.specs.inner.Classes.{IsClassOfBody}
use Rattle.xc_check.specs.inner.Checking.{Progress}
use Rattle.xc_check.proofs.CheckLemmas.{none_taken, progress, noted-rightly}
use Rattle.xc_check.proofs.checker.Checker.take_body.Goals as goal

pub invariant_of-self-in-Ok-Some : goal.invariant_of-self-in-Ok-Some
invariant_of-self-in-Ok-Some c =
    let i = c.self.inside in
    let words = words_in c.args.body.now in
    let said : read c.args.line.now ≡ Body words = c.requires in
    let class : IsClassOfLine i.options c.args.line.now c.in-Ok-Some.class = grind arith in
    let seen = noted-rightly i.options _ c.note.new.self.lines.items c.args.line.now c.in-Ok-Some.class class
    c.note.ensures c.self.invariant.seen in
    grind arith

pub returns-in_ok-take_class-in-Ok-Some-clause-takes : goal.returns-in_ok-take_class-in-Ok-Some-clause-takes
returns-in_ok-take_class-in-Ok-Some-clause-takes c =
    let i = c.self.inside in
    let words = words_in c.args.body.now in
    let s : Progress = progress i.options i.open_number i.chosen.items i.verdicts.items in
    let class : IsClassOfBody c.class_of.new.self words (Some c.in-Ok-Some.class) =
    grind (arith, nat_tests, c.class_of.ensures.same, c.in-Ok-Some.field-0-is, c.in-Ok-Some.ensures.class) in
    grind (arith, nat_tests, c.in_ok-take_class-in-Ok-Some.ensures.takes words class)

pub returns-in-Ok-None-clause-takes : goal.returns-in-Ok-None-clause-takes
returns-in-Ok-None-clause-takes c = grind (arith, progress, is_some, is_none, none_taken)
