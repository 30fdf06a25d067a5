use Rattle.std.proofs.Common.{◌++◌, ◌∙◌, ap, refl, sym}
use Rattle.xc_text.specs.LinesRead.{LinesRead}
use Rattle.xc_text.specs.Words.{has}
use Rattle.xc_text.proofs.LineLemmas.{cut-line}
use Rattle.xc_text.proofs.line_reader.LineReader.cut.Goals as goal

pub returns-clause-cut : goal.returns-clause-cut
returns-clause-cut c =
    let s = c.self.inside in
    let found = rw c.deref.ensures.value at c.in-Some.ensures in
    let cut = cut-line s.store.items s.from s.to c.in-Some.len found.0 s.carry.items c.end_carried.new.carry.items
    (ap (λ v. has 10 v) (ap (λ (v : LinesRead). v.rest) c.self.view_is) ∙ c.requires) found.1
    (rw c.deref.ensures.value at c.in-Ok.ensures) _ refl in
    (ap (λ (v : LinesRead). v.rest ++ v.unread) (sym c.self.view_is) ∙ cut.0, cut.1)
