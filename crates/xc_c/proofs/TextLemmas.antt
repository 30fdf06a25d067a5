-- Texts of runs and of faults, as a caller's buffer holds them.
use Rattle.std.proofs.Common.{◌≡◌, ℕ, ◌<◌, ◌≤◌, Bool, true, false, List, [], ◌++◌, Option, None, Some, length, refl}
use Rattle.std.proofs.Common.{arith, nat_lt, lt-ltb, ◌≢◌, ◌∷◌, ◌||◌}
use Rattle.std.specs.Prelude.{if◌then◌else◌}
use Rattle.std.proofs.lemmas.List.{length-append, take-append-drop, length-drop}
use Rattle.std.specs.Io.KnownBytes.{Appends}
use Rattle.std.proofs.lemmas.Grind.{common_steps}
use Rattle.std.specs.List.{list_all}
use Rattle.xc_input.specs.Named.{Named}
use Rattle.xc_input.specs.declared.kind.Kind.{Kind}
use Rattle.xc_input.specs.declared.fault.InputError.{InputError}
use Rattle.xc_input.specs.Tokens.{is_skipped}
use Rattle.xc_input.specs.FirstFault.{content, first_fault}
use Rattle.xc_input.specs.Readings.{IsErrorFor, IsStateOf}
use Rattle.xc_input.proofs.LineLemmas.{stands-only, IsErrorOf-more, error-ends}
use Rattle.xc_list.specs.Output.{output}
use Rattle.xc_text.specs.Texts.{SinkState}
use Rattle.xc_list.specs.Runs.{StoppedAt, IsRun, end_of}
use Rattle.xc_list.specs.declared.ends.End.{End}
use Rattle.xc_list.specs.declared.ends.End.TheVariants.{Done, Limit, WriteFailed}
use Rattle.xc_list.proofs.Writing.{stopped_broke}
use Rattle.xc_c.specs.Answers.{IsFilled, Lists}
use Rattle.xc_c.specs.inner.{listing_status}

-- ======== What a buffer holds behind a run whose text was put into it.

-- from nothing to these bytes by this text
all_of : {x z : Option (List ℕ)} {xs text : List ℕ} → x ≡ Some [] → z ≡ Some xs → Appends x z text → xs ≡ text
all_of e f h = rw (e, f) at h

-- these bytes are a beginning of a text, and not all of it
abbrev IsShort : List ℕ → List ℕ → Type 0
IsShort xs text = (rest : List ℕ) × (text ≡ xs ++ rest) × (0 < length rest)

-- a run that stopped took a beginning of its output, and not all of it
stopped_short : (a : Named) (spacing limit t : ℕ) (x z : SinkState) (xs : List ℕ) → x.taken ≡ Some []
    → z.taken ≡ Some xs → StoppedAt a spacing limit t x z → IsShort xs (output a spacing limit)
stopped_short a spacing limit t x z xs e f s =
    let text = output a spacing limit in
    let broke = stopped_broke a spacing limit t s in
    grind (arith, all_of e f broke.begun, take-append-drop broke.many text, length-drop broke.many text)

status_of : (below : Bool) (found limit length room s : ℕ)
    → listing_status (if below then Done found else Limit limit) length room ≡ Some s
    → s ≡ (if nat_lt room length then 3 else if below then 0 else 5)
status_of true found limit length room s e = cc e
status_of false found limit length room s e = cc e

module _ (a : Named) (spacing limit : ℕ) (xs buf new : List ℕ) (used s : ℕ) (fill : IsFilled xs buf new used) where
  -- the end of a run that was not stopped
  whole : (end : End) → xs ≡ output a spacing limit → end ≡ end_of a limit
      → listing_status end (length xs) (length buf) ≡ Some s → Lists spacing limit buf new s used a
  whole end e is st = grind (arith, status_of)

  -- the end of one that was, since there was no room
  cut_off : (less : Bool) → nat_lt (length xs) (length buf) ≡ less → IsShort xs (output a spacing limit)
      → (if less then None else Some 3) ≡ Some s → Lists spacing limit buf new s used a
  cut_off true is short st = absurd (cc st)
  cut_off false is short st = grind (arith, common_steps, lt-ltb, length-append)

  -- what was put into the buffer, by the run's end
  pub listed : (x z : SinkState) (end : End) → IsRun a spacing limit x z end → x.taken ≡ Some [] → z.taken ≡ Some xs
      → listing_status end (length xs) (length buf) ≡ Some s → Lists spacing limit buf new s used a
  listed x z (Done n) run e f st = whole (Done n) (all_of e f run.1.whole) run.0 st
  listed x z (Limit n) run e f st = whole (Limit n) (all_of e f run.1.whole) run.0 st
  listed x z (WriteFailed t) run e f st =
      cut_off (nat_lt (length xs) (length buf)) refl (stopped_short a spacing limit t x z xs e f run) st

-- ======== What an error or a line says of a text.

-- an error of some lines is that of a text that begins with them
pub error-of-text : (kind : Kind) (lines more all : List (List ℕ)) (e : InputError) → all ≡ lines ++ more
    → IsStateOf kind lines (Some e) → IsErrorFor (first_fault kind all) e
error-of-text kind lines more all e f h =
    grind (arith, error-ends kind (lines ++ more) e (IsErrorOf-more kind lines more e h))

-- a line with content among others
pub has-content : (xs ys : List (List ℕ)) (line : List ℕ) → is_skipped line ≡ false → content (xs ++ line ∷ ys) ≢ []
has-content [] ys line h = grind (arith, h)
has-content (x ∷ xs) ys line h = grind (arith, has-content xs ys line h)

-- lines without content
all-skipped : (lines : List (List ℕ)) → content lines ≡ [] → list_all is_skipped lines ≡ true
all-skipped [] e = refl
all-skipped (line ∷ lines) e = grind (arith, all-skipped lines)

-- a text without a fault has content
pub faultless-content : (kind : Kind) (lines : List (List ℕ)) → first_fault kind lines ≡ None → content lines ≢ []
faultless-content kind lines f e = grind (arith, all-skipped lines e)

pub ruleset text_faults = (faultless-content, stands-only)
