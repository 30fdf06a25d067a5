-- What is known of spans where a run stopped, and of lines read one after another. First a line more: it adds to the
-- text (`adds-more`) or stops the run (`refused`, `unwritten`). Then why reading stopped (`stops-reading`,
-- `stops-unread`), and what is so of texts then, by the reason (`so_at`). `reached` puts both together for all reasons,
-- and `run-stopped` and `run-ended` say what the run did. Lemmas about a stop have a line for each reason, since
-- `says_of` and `StopsReading` go by it; most are alike, only a failed write leaves a text unfinished, and only a
-- failed read has no last line.
use Rattle.std.proofs.Common.{◌≡◌, ℕ, Bool, false, List, [], ◌∷◌, ◌++◌, Result, Err, Ok, OnOk, refl, sym, ap, ◌∙◌}
use Rattle.std.proofs.Common.{arith, append_assoc, append-nil, subst, ◌⊎◌, inl, inr, ◌+◌, flat_map}
use Rattle.std.specs.Prelude.{◌==◌, codes, if◌then◌else◌}
use Rattle.std.specs.Io.KnownBytes.{Keeps}
use Rattle.xc_text.specs.Words.{has}
use Rattle.xc_text.specs.inner.LineFeeds.{ended, AreWhole}
use Rattle.xc_text.specs.Calls.{Rose, one_more}
use Rattle.xc_text.specs.LinesRead.{Advanced, LinesRead}
use Rattle.xc_text.specs.declared.line_reader.Unread.{Unread}
use Rattle.xc_text.specs.Sources.{SourceState, Gave, GaveAll}
use Rattle.xc_text.proofs.LineLemmas.{came-gave, gave_then, ended-append, gave_none}
use Rattle.xc_text.specs.Texts.{SinkState, Took, BrokeOff, WasTold}
use Rattle.xc_list.specs.SpanTexts.{most_counted}
use Rattle.xc_list.specs.Messages.{summary_text}
use Rattle.xc_list.specs.declared.ends.End.{End}
use Rattle.xc_list.specs.declared.ends.End.TheVariants.{Done, Limit}
use Rattle.xc_text.proofs.SinkLemmas.{then_broke, then_took, took_nothing, appends_kept}
use Rattle.xc_tools.specs.declared.outcomes.Stop.{Stop}
use Rattle.xc_tools.specs.declared.outcomes.Stop.TheVariants.{NotText, Other, Gap, Device, Memory, WriteFailed}
use Rattle.xc_tools.specs.declared.joint.Joint.{Joint}
use Rattle.xc_tools.specs.declared.outcomes.Refusal.{Refusal}
use Rattle.xc_tools.specs.inner.SpanLines.{Join, Stand, goes, faulty, mixed, apart, by_line, start, step, RefusesLine}
use Rattle.xc_tools.specs.inner.SpanLines.{join_of}
use Rattle.xc_tools.specs.inner.Joining.{Adds, EndsAt, StopsIn, StopsReading, stand_reached, says_of, stop_of}
use Rattle.xc_tools.specs.inner.Joining.{unread_stop, IsLast, JoinsAll, ToldStop, joined_text, NoWriteFailed}
use Rattle.xc_tools.specs.inner.Joining.{NothingFailed}
use Rattle.xc_tools.specs.inner.Finished.{DidFinish}
use Rattle.xc_tools.specs.Joins.{IsFirstGap, AreOfOneProblem, DidJoin, DoMeet, ForShapes, HasBegun, IsBeginning}
use Rattle.xc_tools.specs.Joins.{OfInput, end_of_texts, joined, spans_in}
use Rattle.xc_tools.specs.WholeRuns.{Sinks, TookAll, FailedBehind}
use Rattle.xc_tools.specs.SpanShapes.{AreShapes, SpanText, bytes_of}
use Rattle.xc_streams.specs.Flushes.{FlushFailed, WasFlushed}
use Rattle.xc_tools.proofs.SpanLines.{after-append, wrote-append, whole-append}
use Rattle.xc_tools.proofs.Chains.{shapes-apart, shapes-begun, shapes-cut, shapes-mixed, shapes-not-faulty, shapes-open}
use Rattle.xc_tools.proofs.Chains.{shapes-unfinished, shapes-written}
use Rattle.xc_tools.proofs.ReadTexts.{ReadAs, meet-read, one-read, read-lines, shapes-read, start-read, texts_read}
use Rattle.xc_tools.proofs.RunLemmas.{took_all}
use Rattle.xc_tools.specs.declared.outcomes.Refusal.TheVariants as refusals
use Rattle.xc_text.specs.declared.line_reader.Unread.TheVariants as unread

-- ======== Lines of spans' texts that are read one after another.

-- ---- one line more

module _ (listed : Bool) (ls : List (List ℕ)) (line : List ℕ) (s : Join) (e : stand_reached listed ls ≡ goes s) where
  pub stands-more : stand_reached listed (ls ++ line ∷ []) ≡ (by_line s line).0
  stands-more = after-append (goes (start listed)) ls (line ∷ []) ∙ ap (λ z. (step z line).0) e

  pub adds-more : (R : SinkState → SinkState → List ℕ → Type 0) (x y : SinkState) (st : Stand) (text : List ℕ)
      → by_line s line ≡ (st, text) → R x y text → Adds listed ls (ls ++ line ∷ []) R x y
  adds-more R x y st text f said = grind (arith, wrote-append, goes, start, step, append-nil, by_line)

pub whole-more : (ls : List (List ℕ)) (line : List ℕ) → AreWhole ls → has 10 line ≡ false → AreWhole (ls ++ line ∷ [])
whole-more ls line w f = whole-append ls (line ∷ []) w (f, tt)

-- ---- a line that stops the run

-- before it, for want of memory
pub stops-before : (listed : Bool) (ls : List (List ℕ)) (rest bytes : List ℕ) (new : Joint) (x : SinkState)
    → AreWhole ls → bytes ≡ ended ls ++ rest → StopsIn listed ls bytes new x x Memory
stops-before listed ls rest bytes new x w e = grind (arith, append-nil, took_nothing)

module _ (listed : Bool) (ls : List (List ℕ)) (line : List ℕ) (s : Join) (e : stand_reached listed ls ≡ goes s)
    (w : AreWhole ls) (f : has 10 line ≡ false) (new : Joint) (x : SinkState) where
  pub refused : (r : Refusal) → RefusesLine r new (by_line s line)
      → StopsIn listed ls (ended ls ++ (line ++ 10 ∷ [])) new x x (stop_of r)
  refused refusals.NotText is = record {
    lines = ls ++ line ∷ [];
    rest = [];
    front = grind (arith, ended-append, append-nil, ended);
    whole = whole-more ls line w f;
    last = stands-more listed ls line s e ∙ ap (λ r. r.0) is;
    adds = adds-more listed ls line s e Took x x faulty [] is (took_nothing x);
  }
  refused refusals.Gap is = record {
    lines = ls ++ line ∷ [];
    rest = [];
    front = grind (arith, ended-append, append-nil, ended);
    whole = whole-more ls line w f;
    last = stands-more listed ls line s e ∙ ap (λ r. r.0) is;
    adds = adds-more listed ls line s e Took x x (apart new.met.items new.next.items) [] is (took_nothing x);
  }
  refused refusals.Other is = record {
    lines = ls ++ line ∷ [];
    rest = [];
    front = grind (arith, ended-append, append-nil, ended);
    whole = whole-more ls line w f;
    last = stands-more listed ls line s e ∙ ap (λ r. r.0) is;
    adds = adds-more listed ls line s e Took x x mixed [] is (took_nothing x);
  }
  refused refusals.Memory is = stops-before listed ls (line ++ 10 ∷ []) _ new x w refl

  pub unwritten : (y : SinkState) (st : Stand) (text : List ℕ) → by_line s line ≡ (st, text) → BrokeOff x y text
      → StopsIn listed ls (ended ls ++ (line ++ 10 ∷ [])) new x y WriteFailed
  unwritten y st text is broke = record {
    lines = ls ++ line ∷ [];
    rest = [];
    front = grind (arith, ended-append, append-nil, ended);
    whole = whole-more ls line w f;
    last = tt;
    adds = adds-more listed ls line s e BrokeOff x y st text is broke;
  }

-- ---- more bytes, and others before

pub stops-more : (listed : Bool) (before : List (List ℕ)) (bytes more all : List ℕ) (new : Joint) (x y : SinkState)
    (e : Stop) → all ≡ bytes ++ more → StopsIn listed before bytes new x y e → StopsIn listed before all new x y e
stops-more listed before bytes more all new x y e is h = grind (arith, append_assoc, ended)

pub adds-then : (listed : Bool) (a b c : List (List ℕ)) (x y z : SinkState) → Adds listed a b Took x y
    → Adds listed b c Took y z → Adds listed a c Took x z
adds-then listed a b c x y z p q = grind (arith, append_assoc, then_took)

says-then : (e : Stop) (x y z : SinkState) (s t : List ℕ) → Took x y s → says_of e y z t → says_of e x z (s ++ t)
says-then NotText x y z s t p q = then_took p q
says-then Gap x y z s t p q = then_took p q
says-then Other x y z s t p q = then_took p q
says-then Device x y z s t p q = then_took p q
says-then Memory x y z s t p q = then_took p q
says-then WriteFailed x y z s t p q = then_broke p q

pub stops-then : (listed : Bool) (a b : List (List ℕ)) (bytes : List ℕ) (new : Joint) (x y z : SinkState) (e : Stop)
    → Adds listed a b Took x y → StopsIn listed b bytes new y z e → StopsIn listed a bytes new x z e
stops-then listed a b bytes new x y z e p h = grind (arith, append_assoc, says-then)

-- ---- why reading stopped

pub stops-reading : (listed : Bool) (new : Joint) (a b : SourceState) (x y : SinkState) (bytes : List ℕ) (e : Stop)
    → Gave a b bytes → StopsIn listed [] bytes new x y e → b.failures ≡ a.failures → StopsReading listed new a b x y e
stops-reading listed new a b x y bytes NotText g h well = (bytes, g, h, well)
stops-reading listed new a b x y bytes Gap g h well = (bytes, g, h, well)
stops-reading listed new a b x y bytes Other g h well = (bytes, g, h, well)
stops-reading listed new a b x y bytes Device g h well = absurd h.last
stops-reading listed new a b x y bytes Memory g h well = (bytes, g, h, well)
stops-reading listed new a b x y bytes WriteFailed g h well = (bytes, g, h, well)

pub gave-as : {a b : SourceState} {s t : List ℕ} → s ≡ t → Gave a b s → Gave a b t
gave-as {a = a} {b = b} is h = subst (Gave a b) is h

-- a reader of lines gave no answer
pub stops-unread : (listed : Bool) (ls : List (List ℕ)) (new : Joint) (old after : LinesRead) {a : SourceState}
    (b c : SourceState) {x y : SinkState} (e : Unread) → AreWhole ls → b.failures ≡ a.failures
    → Gave a b (ended ls ++ old.unread) → Adds listed [] ls Took x y → Advanced old after b c (Err e)
    → StopsReading listed new a c x y (unread_stop e)
stops-unread listed ls new old after {a = a} b c {x = x} {y = y} unread.Device w same g adds h = (
  ls,
  old.unread ++ h.0,
  gave-as (append_assoc (ended ls) old.unread h.0)
      (gave_then a b c (ended ls ++ old.unread) h.0 g h.1),
  w,
  subst (Took x y) (sym adds.more) adds.said,
  subst (λ n. Rose n c.failures) same h.3,
)
stops-unread listed ls new old after {a = a} b c {x = x} {y = y} unread.Memory w same g adds h = (
  (ended ls ++ old.unread) ++ h.0,
  gave_then a b c (ended ls ++ old.unread) h.0 g (came-gave h.1),
  stops-then listed [] ls _ new x y y Memory adds
      (stops-before listed ls (old.unread ++ h.0) _ new y w (append_assoc (ended ls) old.unread h.0)),
  h.2 ∙ same,
)

-- a line is taken
pub fed-on : (old new : List (List ℕ)) (left bytes line unread : List ℕ) → left ++ bytes ≡ line ++ unread
    → ended new ≡ ended old ++ line → (ended old ++ left) ++ bytes ≡ ended new ++ unread
fed-on old new left bytes line unread e f = grind (arith, append_assoc)

-- it is the last one
pub fed-line : (old : List (List ℕ)) (left bytes line unread : List ℕ) → left ++ bytes ≡ line ++ unread
    → (ended old ++ left) ++ bytes ≡ (ended old ++ line) ++ unread
fed-line old left bytes line unread e = grind (arith, append_assoc)

-- the bytes of lines and one more, where it is taken
pub ended-more : (old new : List (List ℕ)) (line with_feed : List ℕ) (r : Result (Unit {0}) Stop)
    → with_feed ≡ line ++ 10 ∷ [] → OnOk r (new ≡ old ++ line ∷ []) → OnOk r (ended new ≡ ended old ++ with_feed)
ended-more old new line with_feed (Ok _) w e =
    ap ended e ∙ ended-append old (line ∷ []) ∙ ap (λ t. ended old ++ t) (sym w)
ended-more old new line with_feed (Err _) w e = tt

-- the same told in another way
pub stops-as : {before : List (List ℕ)} {bytes : List ℕ} {new : Joint} {x y : SinkState} {e : Stop} {b c : Bool} → b ≡ c
    → StopsIn b before bytes new x y e → StopsIn c before bytes new x y e
stops-as {before = before} {bytes = bytes} {new = new} {x = x} {y = y} {e = e} is h = grind (arith)

pub stops-from : {a b : List (List ℕ)} {bytes : List ℕ} {new : Joint} {x y : SinkState} {e : Stop} {listed : Bool}
    → a ≡ b
    → StopsIn listed a bytes new x y e → StopsIn listed b bytes new x y e
stops-from {bytes = bytes} {new = new} {x = x} {y = y} {e = e} {listed = listed} is h = grind (arith)

pub adds-as : {before lines : List (List ℕ)} {x y : SinkState} {b c : Bool} → b ≡ c
    → Adds b before lines Took x y → Adds c before lines Took x y
adds-as {before = before} {lines = lines} {x = x} {y = y} is h = subst (λ b. Adds b before lines Took x y) is h

pub ends-as : {s t : List ℕ} (old new : Joint) (r : Result (Unit {0}) Stop) → s ≡ t → EndsAt s old new r
    → EndsAt t old new r
ends-as old new r is h = subst (λ s. EndsAt s old new r) is h

-- ======== What is known of spans where a run stopped.

-- what is so of texts at such a stop
abbrev pub so_at : Joint → Stop → List SpanText → Type 0
so_at new NotText texts = ⊥
so_at new Other texts = AreOfOneProblem texts → ⊥
so_at new Gap texts = IsFirstGap [] new.met.items new.next.items (spans_in texts)
so_at new Device texts = Unit {0}
so_at new Memory texts = Unit {0}
so_at new WriteFailed texts = Unit {0}

module _ (listed : Bool) (texts : List SpanText) (bytes : List ℕ) (are : AreShapes listed texts bytes)
    (ls : List (List ℕ)) (rest : List ℕ) (w : AreWhole ls) (e : bytes ≡ ended ls ++ rest) where
  last-so : (new : Joint) (stop : Stop) → IsLast listed ls new stop → so_at new stop texts
  last-so new NotText h = shapes-not-faulty listed texts bytes are ls rest w e h
  last-so new Other h = shapes-mixed listed texts bytes are ls rest w e h
  last-so new Gap h = shapes-apart listed texts bytes are ls rest w e _ _ h
  last-so new Device h = tt
  last-so new Memory h = tt
  last-so new WriteFailed h = tt

  ends-so : has 10 rest ≡ false → (old new : Joint) → stand_reached listed ls ≡ goes (join_of old) → (stop : Stop)
      → EndsAt rest old new (Err stop) → so_at new stop texts
  ends-so free old new at NotText h =
      h (shapes-cut listed texts bytes are ls rest w e free (join_of old) at)
      (shapes-open listed texts bytes are ls rest w e free (join_of old) at)
  ends-so free old new at Other h = absurd h
  ends-so free old new at Gap h =
      let met = ap (λ v. v.items) h.3 in
      subst (λ m. IsFirstGap [] m new.next.items (spans_in texts)) (sym met)
      (subst (λ n. IsFirstGap [] old.met.items n (spans_in texts)) (sym h.4)
      (shapes-unfinished listed texts bytes are ls rest w e free (join_of old) at h.1))
  ends-so free old new at Device h = tt
  ends-so free old new at Memory h = tt
  ends-so free old new at WriteFailed h = tt

-- ---- a run that stopped

-- the text that was being written, and what is known then
record Reached (listed : Bool) (new : Joint) (e : Stop) (a b : SourceState) (x y : SinkState) : Type 0 where
  pub text : List ℕ
  pub said : says_of e x y text
  pub of : OfInput (ForShapes listed (λ texts. IsBeginning text (joined texts) × so_at new e texts)) a b

module _ (listed : Bool) (new : Joint) (a b : SourceState) (x y : SinkState) where
  in-lines : (e : Stop) (bytes : List ℕ) → Gave a b bytes → StopsIn listed [] bytes new x y e
      → Reached listed new e a b x y
  in-lines e bytes g h = record {
    text = h.adds.text;
    said = h.adds.said;
    of = (
      bytes,
      inr (
        g,
        λ more texts are.
            let is = ap (λ t. t ++ more) h.front ∙ append_assoc (ended h.lines) h.rest more in (
              subst (λ t. IsBeginning t (joined texts)) h.adds.more
                  (shapes-begun listed texts (bytes ++ more) are h.lines (h.rest ++ more) h.whole is),
              last-so listed texts (bytes ++ more) are h.lines (h.rest ++ more) h.whole is new e h.last,
            ),
      ),
    );
  }

  stopped-reading : (e : Stop) → StopsReading listed new a b x y e → Reached listed new e a b x y
  stopped-reading NotText (bytes, g, h, same) = in-lines NotText bytes g h
  stopped-reading Gap (bytes, g, h, same) = in-lines Gap bytes g h
  stopped-reading Other (bytes, g, h, same) = in-lines Other bytes g h
  stopped-reading Memory (bytes, g, h, same) = in-lines Memory bytes g h
  stopped-reading WriteFailed (bytes, g, h, same) = in-lines WriteFailed bytes g h
  stopped-reading Device (ls, rest, g, w, took, rose) = record {
    text = joined_text listed ls;
    said = took;
    of = (
      ended ls ++ rest,
      inr (
        g,
        λ more texts are.
            (shapes-begun listed texts _ are ls (rest ++ more) w (append_assoc (ended ls) rest more), tt),
      ),
    );
  }

  stopped-ending : (e : Stop) (ls : List (List ℕ)) (rest : List ℕ) (old : Joint) → GaveAll a b (ended ls ++ rest)
      → AreWhole ls → has 10 rest ≡ false → stand_reached listed ls ≡ goes (join_of old) → EndsAt rest old new (Err e)
      → says_of e x y (joined_text listed ls) → Reached listed new e a b x y
  stopped-ending e ls rest old g w free at ends said = record {
    text = joined_text listed ls;
    said = said;
    of = (
      ended ls ++ rest,
      inl (
        g,
        λ texts are. (
          shapes-begun listed texts _ are ls rest w refl,
          ends-so listed texts _ are ls rest w refl free old new at e ends,
        ),
      ),
    );
  }

  took-at-end : (e : Stop) (rest : List ℕ) (old : Joint) (text : List ℕ) → EndsAt rest old new (Err e) → Took x y text
      → says_of e x y text
  took-at-end NotText rest old text ends took = took
  took-at-end Gap rest old text ends took = took
  took-at-end Other rest old text ends took = absurd ends
  took-at-end Memory rest old text ends took = took
  took-at-end Device rest old text ends took = absurd ends
  took-at-end WriteFailed rest old text ends took = absurd ends

  reached : (e : Stop) → JoinsAll listed new a b x y (Err e) → Reached listed new e a b x y
  reached e (inl h) = grind (arith, stopped-reading)
  reached e (inr h) =
      stopped-ending e h.0 h.1 h.2 h.3 h.4 h.5 h.6 h.7 (took-at-end e h.1 h.2 (joined_text listed h.0) h.7 h.8)

  read-failed : JoinsAll listed new a b x y (Err Device) → Rose a.failures b.failures
  read-failed (inl h) = grind (arith)
  read-failed (inr h) = absurd h.7

  well-reading : (e : Stop) → NothingFailed e → StopsReading listed new a b x y e → b.failures ≡ a.failures
  well-reading NotText well h = h.3
  well-reading Gap well h = h.3
  well-reading Other well h = h.3
  well-reading Memory well h = h.3
  well-reading Device well h = absurd well
  well-reading WriteFailed well h = absurd well

  read-well : (e : Stop) → NothingFailed e → JoinsAll listed new a b x y (Err e) → b.failures ≡ a.failures
  read-well e well (inl h) = grind (arith, well-reading)
  read-well e well (inr h) = h.3.no_failure

-- ---- the output behind a stop

module _ {x y : SinkState} (z : SinkState) {text : List ℕ} where
  flushed-all : Took x y text → WasFlushed y z → TookAll x z text
  flushed-all took f = took_all z took f.kept f.flushed_once f.no_failure f.settled

  failed-behind : Took x y text → FlushFailed y z → FailedBehind x z text
  failed-behind took f = record {
    failure = f.failure ∙ ap one_more took.no_failure;
    last = f.last;
    taken = appends_kept x.taken y.taken z.taken text took.whole f.kept;
    flushed_once = f.flushed_once ∙ ap (λ n. n + 1) took.unflushed;
  }

took-unbroken : (e : Stop) (x y : SinkState) (text : List ℕ) → NoWriteFailed e → says_of e x y text → Took x y text
took-unbroken NotText x y text h said = said
took-unbroken Gap x y text h said = said
took-unbroken Device x y text h said = said
took-unbroken Other x y text h said = said
took-unbroken Memory x y text h said = said
took-unbroken WriteFailed x y text h said = absurd h

unbroken-well : (e : Stop) → NothingFailed e → NoWriteFailed e
unbroken-well NotText h = tt
unbroken-well Gap h = tt
unbroken-well Other h = tt
unbroken-well Memory h = tt
unbroken-well Device h = absurd h
unbroken-well WriteFailed h = absurd h

-- what was reached, told in another way
begun-as : (listed : Bool) (new : Joint) (e : Stop) (says : List SpanText → Type 0) (written : List ℕ
    → Type 0) (a b : SourceState)
    (x y : SinkState) → ((texts : List SpanText) → so_at new e texts → says texts)
    → ((text : List ℕ) → says_of e x y text → written text) → Reached listed new e a b x y
    → HasBegun listed says a b written
begun-as listed new e says written a b x y f g h = record {
  text = h.text;
  is_written = g h.text h.said;
  of = elim h.of.1 [
    | inl q ↦ (h.of.0, inl (q.0, λ texts are. let r = q.1 texts are in (r.0, f texts r.1)))
    | inr q ↦ (h.of.0, inr (q.0, λ more texts are. let r = q.1 more texts are in (r.0, f texts r.1)))
  ];
}

-- ---- whole runs

pub joins-as : {new : Joint} {a b : SourceState} {x y : SinkState} {p q : Bool} (r : Result (Unit {0}) Stop) → p ≡ q
    → JoinsAll p new a b x y r → JoinsAll q new a b x y r
joins-as {new = new} {a = a} {b = b} {x = x} {y = y} r is h = subst (λ p. JoinsAll p new a b x y r) is h

-- a run that stopped, by what was told
pub run-stopped : {O E : Type 0} (listed : Bool) (new : Joint) (y : SinkState) (status : ℕ) (stop : Stop)
    (i j : SourceState) (from to : Sinks O E) (files : List (List ℕ))
    → JoinsAll listed new i j from.out.state y (Err stop)
    → ToldStop files new stop status y to.out.state from.err.state to.err.state
    → DidJoin listed files status i j from to
run-stopped listed new y status stop i j from to files h (inl t) =
    let at = subst (λ e. JoinsAll listed new i j from.out.state y (Err e)) t.1 h in
    let begun = begun-as listed new NotText (λ _. ⊥) (TookAll from.out.state to.out.state) i j from.out.state y
    (λ _ q. q)
    (λ text took. flushed-all to.out.state took t.2) (reached listed new i j from.out.state y NotText at) in
    inr (inl (t.0, (read-well listed new i j from.out.state y NotText tt at, begun), t.3))
run-stopped listed new y status stop i j from to files h (inr (inl t)) =
    let at = subst (λ e. JoinsAll listed new i j from.out.state y (Err e)) t.1 h in
    let begun = begun-as listed new Gap (λ texts. IsFirstGap [] new.met.items new.next.items (spans_in texts))
    (TookAll from.out.state to.out.state) i j
    from.out.state y (λ _ q. q) (λ text took. flushed-all to.out.state took t.2)
    (reached listed new i j from.out.state y Gap at) in
    inr (inr (inr (inr (inl (
      t.0,
      new.met.items,
      new.next.items,
      (
        read-well listed new i j from.out.state y Gap tt at,
        begun,
      ),
      t.3,
    )))))
run-stopped listed new y status stop i j from to files h (inr (inr (inl t))) =
    let at = subst (λ e. JoinsAll listed new i j from.out.state y (Err e)) t.1 h in
    let begun = begun-as listed new Other (λ texts. AreOfOneProblem texts → ⊥)
    (TookAll from.out.state to.out.state) i j from.out.state y (λ _ q. q)
    (λ text took. flushed-all to.out.state took t.2) (reached listed new i j from.out.state y Other at) in
    inr (inr (inr (inr (inr (t.0, (read-well listed new i j from.out.state y Other tt at, begun), t.3)))))
run-stopped listed new y status stop i j from to files h (inr (inr (inr (inl t)))) =
    let begun = begun-as listed new stop (λ _. Unit {0}) (TookAll from.out.state to.out.state) i j from.out.state y
    (λ _ _. tt)
    (λ text said. flushed-all to.out.state (took-unbroken stop from.out.state y text (unbroken-well stop t.1) said)
    t.2) (reached listed new i j from.out.state y stop h) in
    inr (inr (inr (inl (t.0, (read-well listed new i j from.out.state y stop t.1 h, begun), t.3))))
run-stopped listed new y status stop i j from to files h (inr (inr (inr (inr (inl t))))) =
    let at = subst (λ e. JoinsAll listed new i j from.out.state y (Err e)) t.1 h in
    let begun = begun-as listed new Device (λ _. Unit {0}) (TookAll from.out.state to.out.state) i j from.out.state y
    (λ _ q. q)
    (λ text took. flushed-all to.out.state took t.2) (reached listed new i j from.out.state y Device at) in
    inr (inr (inl (t.0, inl (read-failed listed new i j from.out.state y at, begun, t.3))))
run-stopped listed new y status stop i j from to files h (inr (inr (inr (inr (inr (inl t)))))) =
    let begun = begun-as listed new stop (λ _. Unit {0})
    (λ text. BrokeOff from.out.state to.out.state text ⊎ FailedBehind from.out.state to.out.state text) i j
    from.out.state y (λ _ _. tt)
    (λ text said. inr (failed-behind to.out.state (took-unbroken stop from.out.state y text t.1 said) t.2))
    (reached listed new i j from.out.state y stop h) in
    inr (inr (inl (t.0, inr (inl (begun, t.3)))))
run-stopped listed new y status stop i j from to files h (inr (inr (inr (inr (inr (inr t)))))) =
    let at = subst (λ e. JoinsAll listed new i j from.out.state y (Err e)) t.1 h in
    let begun = begun-as listed new WriteFailed (λ _. Unit {0})
    (λ text. BrokeOff from.out.state to.out.state text ⊎ FailedBehind from.out.state to.out.state text) i j
    from.out.state y (λ _ q. q)
    (λ text broke. inl (subst (λ z. BrokeOff from.out.state z text) (sym t.2) broke))
    (reached listed new i j from.out.state y WriteFailed at) in
    inr (inr (inl (t.0, inr (inl (begun, t.3)))))

-- a run that couldn't begin for want of memory
pub run-unstarted : {O E : Type 0} (listed : Bool) (status : ℕ) (i : SourceState) (from to : Sinks O E)
    (files : List (List ℕ)) → ((status ≡ 4) × WasFlushed from.out.state to.out.state
    × WasTold from.err.state to.err.state (codes "Out of memory.\n"))
    ⊎ ((status ≡ 3) × FlushFailed from.out.state to.out.state
    × WasTold from.err.state to.err.state (codes "Write failed.\n"))
    → DidJoin listed files status i i from to
run-unstarted listed status i from to files (inl h) =
    let of : OfInput (ForShapes listed (λ texts. IsBeginning [] (joined texts) × Unit {0})) i i =
    ([], inr (gave_none i, λ more texts are. ((joined texts, refl), tt))) in
    let all = flushed-all to.out.state (took_nothing from.out.state) h.1 in
    inr (inr (inr (inl (h.0, (refl, record { text = []; is_written = all; of = of }), h.2))))
run-unstarted listed status i from to files (inr h) =
    let of : OfInput (ForShapes listed (λ texts. IsBeginning [] (joined texts) × Unit {0})) i i =
    ([], inr (gave_none i, λ more texts are. ((joined texts, refl), tt))) in
    let failed = failed-behind to.out.state (took_nothing from.out.state) h.1 in
    inr (inr (inl (h.0, inr (inl (record { text = []; is_written = inr failed; of = of }, h.2)))))

-- a run that came to the end of the input
module _ {O E : Type 0} (listed : Bool) (status : ℕ) (i j : SourceState) (from to : Sinks O E) (files : List
    (List ℕ)) (y : SinkState)
    (ls : List (List ℕ)) (rest : List ℕ) (old new : Joint) (g : GaveAll i j (ended ls ++ rest)) (w : AreWhole ls)
    (free : has 10 rest ≡ false) (at : stand_reached listed ls
    ≡ goes (join_of old)) (ends : EndsAt rest old new (Ok tt))
    (took : Took from.out.state y (joined_text listed ls)) (kept : Keeps y.taken to.out.state.taken)
    (flushed : to.out.state.flushes ≡ y.flushes + 1) (end : End)
    (is : end ≡ (if new.total == most_counted then Limit new.total else Done new.total)) where
  begun-whole : (written : List ℕ → Type 0) → written (joined_text listed ls)
      → HasBegun listed (λ _. Unit {0}) i j written
  begun-whole written wrote = record {
    text = joined_text listed ls;
    is_written = wrote;
    of = (ended ls ++ rest, inl (g, λ texts are. (shapes-begun listed texts _ are ls rest w refl, tt)));
  }

  read-whole : ReadAs listed ls (join_of old)
  read-whole = read-lines listed [] ls (start listed) (join_of old) (start-read listed) w at

  texts : List SpanText
  texts = texts_read listed ls (join_of old) read-whole ends.2 ends.1

  shapes : AreShapes listed texts (ended ls)
  unfolding texts
  shapes = shapes-read listed ls (join_of old) read-whole ends.2 ends.1

  meet : DoMeet [] (spans_in texts)
  unfolding texts
  meet = meet-read listed ls (join_of old) read-whole ends.2 ends.1

  one : AreOfOneProblem texts
  unfolding texts
  one = one-read listed ls (join_of old) read-whole ends.2 ends.1

  written : (joined_text listed ls ≡ joined texts) × (end ≡ end_of_texts texts)
  written =
      let so = shapes-written listed texts (ended ls) shapes ls [] w (sym (append-nil (ended ls))) refl (join_of old) at
      ends.1 in
      (so.0, is ∙ ap (λ (j : Joint). if j.total == most_counted then Limit j.total else Done j.total) ends.3 ∙ so.1)

  all-fed : ended ls ++ rest ≡ flat_map (bytes_of listed) texts
  all-fed = ap (λ r. ended ls ++ r) ends.0 ∙ append-nil (ended ls) ∙ sym shapes.whole

  whole-run : DidFinish status end y to.out.state from.err.state to.err.state
      → DidJoin listed files status i j from to
  whole-run (inl h) = inl (
    h.0,
    record {
      texts = texts;
      gave = subst (GaveAll i j) all-fed g;
      shapes = shapes.each;
      meet = meet;
      one = one;
      taken = subst (TookAll from.out.state to.out.state) written.0 (took_all to.out.state took kept flushed h.1 h.2);
      told = subst (λ e. Took from.err.state to.err.state (summary_text e)) written.1 h.3;
    },
  )
  whole-run (inr (inl h)) = inr (inr (inl (
    h.0,
    inr (inl (
      begun-whole (λ text. BrokeOff from.out.state to.out.state text ⊎ FailedBehind from.out.state to.out.state text)
          (inr (failed-behind to.out.state took
          (record { failure = h.1; kept = kept; last = h.2; flushed_once = flushed }))),
      h.3,
    )),
  )))
  whole-run (inr (inr h)) = inr (inr (inl (
    h.0,
    inr (inr (
      g.no_failure,
      begun-whole (TookAll from.out.state to.out.state) (took_all to.out.state took kept flushed h.1 h.2),
      (end, h.3),
    )),
  )))

pub run-ended : {O E : Type 0} (listed : Bool) (new : Joint) (y : SinkState) (status : ℕ)
    (i j : SourceState) (from to : Sinks O E) (files : List (List ℕ)) (end : End) (u : Unit {0})
    → JoinsAll listed new i j from.out.state y (Ok u)
    → end ≡ (if new.total == most_counted then Limit new.total else Done new.total)
    → Keeps y.taken to.out.state.taken → to.out.state.flushes ≡ y.flushes + 1
    → DidFinish status end y to.out.state from.err.state to.err.state → DidJoin listed files status i j from to
run-ended listed new y status i j from to files end u (inl h) is kept flushed did = absurd (cc h.1)
run-ended listed new y status i j from to files end u (inr h) is kept flushed did =
    whole-run listed status i j from to files y h.0 h.1 h.2 new h.3 h.4 h.5 h.6 h.7 h.8 kept flushed end is did
