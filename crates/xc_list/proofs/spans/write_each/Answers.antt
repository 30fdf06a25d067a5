-- The invariant: the first members of the span were written and noted, those that are left stand before the search, and
-- `steps` were used. `went` says what one call of `go_on` came to (`Called`), and `next` that the member it halts at is
-- the first of those left. That member more keeps the invariant (`to_member`, `few_next`, `texts_next`). A call that
-- halts elsewhere ends the text, at the span's end (`to_end`) or where the steps are used (`to_steps`).
use Rattle.std.proofs.Common.{◌≡◌, ◌-◌, ◌^◌, ◌∷◌, refl, ap, arith, drop, inl, inr}
use Rattle.std.specs.Prelude.{All}
use Rattle.xc_search.specs.InSpan.{left_of}
use Rattle.xc_search.specs.declared.went.Halt.TheVariants.{Member}
use Rattle.xc_list.specs.Known.{IsKnownChoice}
use Rattle.xc_list.specs.Output.{member_text}
use Rattle.xc_list.specs.inner.Writing.{left_at}
use Rattle.xc_list.proofs.Writing.{texts_next, holds_next}
use Rattle.xc_text.proofs.SinkLemmas.{took_nothing, then_took, if_failed}
use Rattle.xc_list.proofs.SpanLemmas.{texts_broke_all, Called, none_passed, called, to_member, to_end, to_steps}
use Rattle.xc_list.proofs.SpanLemmas.{at_most_members, halts, few_none, few_next, few_more}
use Rattle.xc_list.proofs.spans.write_each.Goals as goal
use Rattle.xc_list.proofs.spans.write_each.Goals.{After-go_on-went}

went : (g : _) (c : After-go_on-went g)
    → Called c.args.span.now.puzzle c.args.span.now.until c.loop-members.span.row c.go_on-went.new.self.row
    c.loop-members.span.shown c.go_on-went.new.self.shown 1 (c.args.most - c.loop-members.steps) c.go_on-went.result
went g c = grind (arith, called)

next : (g : _) (c : After-go_on-went g) → c.go_on-went.result.halt ≡ Member
    → drop c.loop-members.members (left_of c.args.span.now)
    ≡ c.go_on-went.new.self.shown
    ∷ left_at c.args.span.now.puzzle c.args.span.now.until c.go_on-went.new.self.row
next g c is = (to_member c.loop-members.invariant.ahead (went g c) is).0

pub loop-members-init : goal.loop-members-init
loop-members-init g c =
    record {
      still = refl;
      node = c.requires.node;
      ahead = none_passed;
      few = few_none _;
      taken = took_nothing _;
      noted = took_nothing _;
      kept = c.new-page.ensures _;
    }

pub write_noted-requires-clause-known : goal.write_noted-requires-clause-known
write_noted-requires-clause-known g c =
    let at = next g (goal.at.write_noted-requires-clause-known g c).After-go_on-went c.in-Member.is in
    holds_next _ _ at (All (IsKnownChoice c.args.bodies.now.puzzle)) c.requires.known

pub write_noted-requires-clause-same : goal.write_noted-requires-clause-same
write_noted-requires-clause-same g c = grind (arith, c.requires.same, c.loop-members.invariant.still)

pub returns-in_err-write_noted-in-Member-clause-wrote : goal.returns-in_err-write_noted-in-Member-clause-wrote
returns-in_err-write_noted-in-Member-clause-wrote g c =
    let at = next g (goal.at.returns-in_err-write_noted-in-Member-clause-wrote g c).After-go_on-went c.in-Member.is in
    if_failed _ _ c.from_residual.ensures.0
    (texts_broke_all (member_text c.args.bodies.now) (left_of c.args.span.now) c.loop-members.members at
    c.loop-members.invariant.taken c.in_err-write_noted-in-Member.ensures.written)

pub returns-in_default : goal.returns-in_default
returns-in_default g c =
    let went = went g (goal.at.returns-in_default g c).After-go_on-went in
    let ahead = c.loop-members.invariant.ahead in
    record {
      still = grind arith;
      node = c.go_on-went.ensures.comes.node;
      few = few_next (ap (λ s. s.puzzle) c.loop-members.invariant.still) c.loop-members.invariant.few
          c.go_on-went.ensures;
      wrote = (
        elim (halts c.go_on-went.result.halt c.in_default.not-Member) [
          | inl is ↦ to_end ahead went is
          | inr is ↦ to_steps c.requires.some ahead went is
        ],
        c.loop-members.invariant.taken,
      );
      noted = c.loop-members.invariant.noted;
    }

pub loop-members-preserved : goal.loop-members-preserved
loop-members-preserved g c =
    let at = (goal.at.loop-members-preserved g c).After-go_on-went in
    let more = texts_next (member_text c.args.bodies.now) (left_of c.args.span.now) c.loop-members.members
    (next g at c.in-Member.is) in
    let text = c.in_ok-write_noted-in-Member.ensures.written in
    let noted = c.in_ok-write_noted-in-Member.ensures.noted in
    record {
      still = grind arith;
      node = at.go_on-went.ensures.comes.node;
      ahead = (to_member c.loop-members.invariant.ahead (went g at) c.in-Member.is).1;
      few = few_next (ap (λ s. s.puzzle) at.loop-members.invariant.still) at.loop-members.invariant.few
          at.go_on-went.ensures;
      taken = rw more (then_took c.loop-members.invariant.taken text);
      noted = rw more (then_took c.loop-members.invariant.noted noted);
      kept = c.in_ok-write_noted-in-Member.ensures.kept;
    }

pub returns-clause-wrote : goal.returns-clause-wrote
returns-clause-wrote g c =
    let all : c.loop-members.members ≡ 2 ^ 64 - 1 =
    omega (arith, c.loop-members.auto.members-end, c.loop-members-test.false) in (
      at_most_members (rw all at c.loop-members.invariant.ahead) refl,
      rw all at c.loop-members.invariant.taken,
    )

pub returns-clause-noted : goal.returns-clause-noted
returns-clause-noted g c =
    let all : c.loop-members.members ≡ 2 ^ 64 - 1 =
    omega (arith, c.loop-members.auto.members-end, c.loop-members-test.false) in
    rw all at c.loop-members.invariant.noted

pub returns-clause-few : goal.returns-clause-few
returns-clause-few g c = few_more (grind arith) c.loop-members.invariant.few
