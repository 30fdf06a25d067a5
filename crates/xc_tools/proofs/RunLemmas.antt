-- What whole runs did and wrote, and what their messages and words are.
use Rattle.std.proofs.Math.Seq.{take-length}
use Rattle.std.proofs.KnownBytes.{Keeps-refl}
use Rattle.std.proofs.Common.{◌≡◌, ◌⊎◌, ℕ, ◌+◌, List, length, sym, subst, inl, inr, arith}
use Rattle.std.proofs.Common.{refl}
use Rattle.std.specs.Prelude.{codes, IsTrue, flat_map}
use Rattle.std.specs.Io.KnownBytes.{Appends, Keeps}
use Rattle.xc_text.specs.Calls.{Rose}
use Rattle.xc_input.specs.Named.{Named}
use Rattle.xc_text.specs.Sources.{SourceState}
use Rattle.xc_search.specs.Cover.{EachMemberCovers, EachCoverIsListedOnce}
use Rattle.xc_search.specs.declared.went.Went.{Went}
use Rattle.xc_list.specs.declared.ends.End.{End}
use Rattle.xc_list.specs.declared.words.Words.{Words}
use Rattle.xc_list.specs.Messages.{summary_text}
use Rattle.xc_list.specs.Output.{output}
use Rattle.xc_list.specs.Runs.{end_of}
use Rattle.xc_text.specs.Texts.{Seen, SinkState, Took, BrokeOff, WasTold, Begins}
use Rattle.xc_check.specs.declared.verdict.Verdict.{Verdict}
use Rattle.xc_list.specs.SpanRuns.{OfSpan}
use Rattle.xc_list.specs.SpanWords.{AskedSpan}
use Rattle.xc_list.proofs.Writing.{stopped_broke}
use Rattle.xc_text.proofs.SinkLemmas.{appends_kept, took_nothing}
use Rattle.xc_tools.specs.Solves.{DidSearch, DidWarnAndSearch}
use Rattle.xc_tools.specs.WholeRuns.{Sinks, TookAll, Prints}
use Rattle.xc_tools.specs.Judges.{verdict_text, HasVerdicts, DidJudgeListing}
use Rattle.xc_tools.specs.SpanRuns.{DidSpan}

-- ======== What a whole run did, step by step.

-- a text was taken, and a flush behind it called
module _ {old mid : SinkState} {text : List ℕ} (new : SinkState) (took : Took old mid text)
    (kept : Keeps mid.taken new.taken) (flushed : new.flushes ≡ mid.flushes + 1) where
  -- it didn't
  pub took_all : new.failures ≡ mid.failures → IsTrue new.settled → TookAll old new text
  took_all same settled = grind (arith, appends_kept)

-- the flush and the last line, behind the whole output
module _ {O E : Type 0} (a : Named) (w : Words) (old new : Sinks O E) {mid : SinkState} {end : End}
    (right : EachMemberCovers a.puzzle) (complete : EachCoverIsListedOnce a.puzzle) (is : end ≡ end_of a w.limit)
    (took : Took old.out.state mid (output a w.spacing w.limit)) (kept : Keeps mid.taken new.out.state.taken)
    (flushed : new.out.state.flushes ≡ mid.flushes + 1) where
  all : new.out.state.failures ≡ mid.failures → IsTrue new.out.state.settled
      → TookAll old.out.state new.out.state (output a w.spacing w.limit)
  all = took_all new.out.state took kept flushed

  pub finished : {status : ℕ} → ((status ≡ 0) × (new.out.state.failures ≡ mid.failures) × IsTrue new.out.state.settled
      × Took old.err.state new.err.state (summary_text end))
      ⊎ ((status ≡ 3) × Rose mid.failures new.out.state.failures × IsTrue new.out.state.failed
      × WasTold old.err.state new.err.state (codes "Write failed.\n"))
      ⊎ ((status ≡ 3) × (new.out.state.failures ≡ mid.failures) × IsTrue new.out.state.settled
      × BrokeOff old.err.state new.err.state (summary_text end))
      → DidSearch a w status old new
  finished (inl h) =
      inl (h.0, record { output = all h.1 h.2; told = rw (← is) h.3; right = right; complete = complete })
  finished (inr (inl h)) = grind (arith, appends_kept)
  finished (inr (inr h)) = inr (inr (inr (inl (h.0, all h.1 h.2, rw (← is) h.3))))

-- ---- what the output took, whatever the status

pub same_keeps : {O : Type 0} (x y : Seen O SinkState) → y ≡ x → Keeps x.state.taken y.state.taken
same_keeps x y e = subst (λ z. Keeps x.state.taken z.state.taken) (sym e) (Keeps-refl x.state.taken)

pub whole_begins : (x y : SinkState) (text : List ℕ) → Appends x.taken y.taken text → Begins x y text
whole_begins x y text h = (length text, subst (Appends x.taken y.taken) (sym (take-length text)) h)

search_begins : {O E : Type 0} (a : Named) (w : Words) (status : ℕ) (old new : Sinks O E)
    → DidSearch a w status old new → Begins old.out.state new.out.state (output a w.spacing w.limit)
search_begins a w status old new (inl h) = whole_begins old.out.state new.out.state _ h.1.output.whole
search_begins a w status old new (inr (inl h)) =
    let broke = stopped_broke a w.spacing w.limit h.1 h.2 in (broke.many, broke.begun)
search_begins a w status old new (inr (inr (inl h))) = whole_begins old.out.state new.out.state _ h.1.taken
search_begins a w status old new (inr (inr (inr (inl h)))) = whole_begins old.out.state new.out.state _ h.1.whole
search_begins a w status old new (inr (inr (inr (inr h)))) = grind (arith, took_nothing)

pub warned_begins : {O E : Type 0} (a : Named) (ignored : List ℕ) (w : Words) (status : ℕ) (old new : Sinks O E)
    → DidWarnAndSearch w status old new a ignored → Begins old.out.state new.out.state (output a w.spacing w.limit)
warned_begins a ignored w status old new (inl h) = grind (arith, took_nothing)
warned_begins a ignored w status old new (inr h) = search_begins a w status (record old { err = h.0 }) new h.2

-- ======== What a whole run of the judge wrote, whatever its status.

-- verdicts on a problem, of which a sink took a beginning
abbrev pub Told : Named → SourceState → SourceState → SinkState → SinkState → Type 0
Told a old new out_old out_new =
    (vs : List Verdict) × HasVerdicts a vs old new × Begins out_old out_new (flat_map verdict_text vs)

pub listing_begins : {O E : Type 0} (a : Named) (status : ℕ) (from to : SourceState) (old new : Sinks O E)
    → DidJudgeListing a status from to old new
    → Keeps old.out.state.taken new.out.state.taken ⊎ Told a from to old.out.state new.out.state
listing_begins a status from to old new (inl j) =
    let text = flat_map verdict_text j.verdicts in
    let begun : Begins old.out.state new.out.state text =
    elim j.printed [
      | inl p ↦ whole_begins old.out.state new.out.state text p.1.whole
      | inr p ↦ elim p.1 [
        | inl b ↦ (b.many, b.begun)
        | inr f ↦ whole_begins old.out.state new.out.state text f.taken
      ]
    ] in
    inr (j.verdicts, j.right, begun)
listing_begins a status from to old new (inr (inl h)) = inl (same_keeps old.out new.out h.refused.unwritten)
listing_begins a status from to old new (inr (inr (inl h))) = inl (same_keeps old.out new.out h.1.unwritten)
listing_begins a status from to old new (inr (inr (inr h))) = inl (same_keeps old.out new.out h.1.unwritten)

-- ======== How a run over a span ends.

module _ {O E : Type 0} {a : Named} {asked : AskedSpan} {went : Went} {old : Sinks O E}
    (right : EachMemberCovers a.puzzle)
    (complete : EachCoverIsListedOnce a.puzzle) (new : Sinks O E) where
  -- the text of a span was written in some way, and so printed in this one
  printed : (R : SinkState → SinkState → List ℕ → Type 0) (x y : SinkState) (status : ℕ) → OfSpan a asked went R x y
      → ((text : List ℕ) → R x y text → Prints 0 status old new text) → DidSpan a asked status old new
  printed R x y status of f = inl (
    went,
    record {
      row = of.row;
      branches = of.branches;
      goes = of.goes;
      few = of.few;
      members = of.members;
      is_one = of.is_one;
      said = f _ of.said;
    },
    right,
    complete,
  )

  -- the text was taken, and the flush
  pub span_flushed : {mid : SinkState} → OfSpan a asked went Took old.out.state mid
      → Keeps mid.taken new.out.state.taken → new.out.state.flushes ≡ mid.flushes + 1
      → new.out.state.failures ≡ mid.failures → IsTrue new.out.state.settled → new.err ≡ old.err
      → DidSpan a asked 0 old new
  span_flushed {mid = mid} of kept flushed same settled quiet = printed Took old.out.state mid 0 of
      (λ text took. inl (refl, took_all new.out.state took kept flushed same settled, quiet))

  -- the text was taken, and then the flush failed, which was told
  pub span_unflushed : {mid : SinkState} {status : ℕ} → OfSpan a asked went Took old.out.state mid
      → Keeps mid.taken new.out.state.taken → new.out.state.flushes ≡ mid.flushes + 1
      → (status ≡ 3) × Rose mid.failures new.out.state.failures × IsTrue new.out.state.failed
      × WasTold old.err.state new.err.state (codes "Write failed.\n")
      → DidSpan a asked status old new
  span_unflushed {mid = mid} {status = status} of kept flushed h = printed Took old.out.state mid status of
      (λ text took. inr (h.0, inr (grind (arith, appends_kept)), h.3))

  -- a write of the text failed, which was told
  pub span_broken : {status : ℕ} → OfSpan a asked went BrokeOff old.out.state new.out.state → status ≡ 3
      → WasTold old.err.state new.err.state (codes "Write failed.\n") → DidSpan a asked status old new
  span_broken {status = status} of is told = printed BrokeOff old.out.state new.out.state status of
      (λ text broke. inr (is, inl broke, told))
