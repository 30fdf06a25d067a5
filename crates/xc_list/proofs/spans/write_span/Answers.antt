-- A span's text is its listing, its front and its closing, written one after another. `of_span` puts what was written
-- of these together, whether all was (`Took`) or the last part broke off (`BrokeOff`), so that each answer of clause
-- `wrote` is one call of it, but for a listing that broke off (`of_broken`). `digest` says that the digest in the
-- closing is that of all that stands before it, since the same was noted as was written.
use Rattle.std.proofs.Common.{◌≡◌, ◌++◌, take}
use Rattle.xc_search.specs.InSpan.{left_of}
use Rattle.xc_list.specs.Digests.{digest_of, text_digest}
use Rattle.xc_list.specs.inner.Writing.{written_text, told_text}
use Rattle.xc_list.proofs.TextDigests.{noted_both}
use Rattle.xc_list.specs.SpanWords.{asked_of}
use Rattle.xc_text.specs.Texts.{Took, BrokeOff}
use Rattle.xc_text.proofs.SinkLemmas.{then_took, then_broke, if_failed, broke_before}
use Rattle.xc_list.proofs.SpanLemmas.{AreSmallWords, known_left, of_span, of_broken}
use Rattle.xc_list.proofs.spans.write_span.Goals as goal
use Rattle.xc_list.proofs.spans.write_span.Goals.{After-write_wanted, After-text_digits}

small : (g : _) (c : After-write_wanted g) → AreSmallWords (asked_of c.args.words.now)
small g c =
    record { from = c.requires.from; until = c.requires.until; steps = c.write_wanted.ensures.small }

pub write_wanted-requires : goal.write_wanted-requires
write_wanted-requires g c = record {
  same = c.requires.begun.puzzle;
  known = known_left _ _ _ _ c.requires.begun;
  node = rw c.requires.begun.puzzle c.requires.begun.node;
}

pub returns-in_err-went-clause-wrote : goal.returns-in_err-went-clause-wrote
returns-in_err-went-clause-wrote g c =
    let at = (goal.at.returns-in_err-went-clause-wrote g c).After-write_wanted in
    if_failed _ _ c.from_residual.ensures.0 (of_broken c.args.texts.now.bodies (asked_of c.args.words.now) (small g at)
    c.args.span.now c.requires.begun c.in_err-went.ensures.wrote)

-- the digest that is told is that of all that was noted
digest : (g : _) (c : After-text_digits g) → c.text_digits.result ≡ text_digest (written_text c.args.texts.now.bodies
    c.args.words.now.listed c.args.words.now.from.items (take c.in_ok-went.went.members (left_of c.args.span.now))
    ++ told_text c.write_wanted.new.span c.args.words.now.from.items c.args.words.now.until.items c.in_ok-went.went
    (digest_of c.args.texts.now.bodies))
digest g c =
    c.text_digits.ensures _ (noted_both c.new-text.ensures c.in_ok-went.ensures.noted (rw c.args.texts.now.same at
    c.note_front.ensures))

pub returns-in_err-write_front-clause-wrote : goal.returns-in_err-write_front-clause-wrote
returns-in_err-write_front-clause-wrote g c =
    let at = (goal.at.returns-in_err-write_front-clause-wrote g c).After-write_wanted in
    let went = c.in_ok-went.ensures in
    if_failed _ _ c.from_residual-in_err-write_front.ensures.0 (
      c.in_ok-went.went,
      of_span c.args.texts.now.bodies (asked_of c.args.words.now) (small g at) c.in_ok-went.went c.requires.sound
          BrokeOff (λ s t. then_broke) c.args.span.now c.write_wanted.new.span c.requires.begun went.still went.node
          went.wrote.0 went.wrote.1 (broke_before _ (rw c.args.texts.now.same at c.in_err-write_front.ensures)),
    )

pub returns-in_err-write_closing-clause-wrote : goal.returns-in_err-write_closing-clause-wrote
returns-in_err-write_closing-clause-wrote g c =
    let at = (goal.at.returns-in_err-write_closing-clause-wrote g c).After-write_wanted in
    let told = (goal.at.returns-in_err-write_closing-clause-wrote g c).After-text_digits in
    let went = c.in_ok-went.ensures in
    if_failed _ _ c.from_residual-in_err-write_closing.ensures.0 (
      c.in_ok-went.went,
      of_span c.args.texts.now.bodies (asked_of c.args.words.now) (small g at) c.in_ok-went.went c.requires.sound
          BrokeOff (λ s t. then_broke) c.args.span.now c.write_wanted.new.span c.requires.begun went.still went.node
          went.wrote.0 went.wrote.1 (then_broke (rw c.args.texts.now.same at c.in_ok-write_front.ensures)
          (rw (digest g told) at c.in_err-write_closing.ensures)),
    )

pub returns-clause-wrote : goal.returns-clause-wrote
returns-clause-wrote g c =
    let at = (goal.at.returns-clause-wrote g c).After-write_wanted in
    let told = (goal.at.returns-clause-wrote g c).After-text_digits in
    let went = c.in_ok-went.ensures in
    of_span c.args.texts.now.bodies (asked_of c.args.words.now) (small g at) c.in_ok-went.went c.requires.sound Took
    (λ s t. then_took) c.args.span.now c.write_wanted.new.span c.requires.begun went.still went.node went.wrote.0
    went.wrote.1 (then_took (rw c.args.texts.now.same at c.in_ok-write_front.ensures)
    (rw (digest g told) at c.in_ok-write_closing.ensures))
