-- What the system's streams hold back, what messages show of names, and the words of a command line.
use Rattle.std.proofs.Math.Seq.{take-append-add}
use Rattle.std.proofs.Common.{◌≡◌, ℕ, ◌+◌, List, length, sym, subst, arith, ◌<◌, ◌≤◌, ◌/◌, ◌%◌, Bool}
use Rattle.std.proofs.Common.{true, false, [], ◌∷◌, refl, ◌-◌, ◌++◌, take, drop, append_assoc, Option, None, Some}
use Rattle.std.proofs.Common.{IfSome, map}
use Rattle.std.specs.Prelude.{flat_map, All, if◌then◌else◌, slice_get, Result, Ok, Err, MatchResult}
use Rattle.std.specs.Prelude.{is_err, zero, suc}
use Rattle.std.specs.List.{AllByRecursion}
use Rattle.std.proofs.lemmas.Bool.Decides.{nat_tests}
use Rattle.std.proofs.lemmas.List.Elements.{All-append, recursion_from_All, All-from_recursion}
use Rattle.std.proofs.lemmas.Grind.{common_steps}
use Rattle.std.proofs.lemmas.Simd.{take_more_put_chunk, put_chunk_is, length-put_chunk, length-chunk}
use Rattle.std.proofs.lemmas.List.{take-take, take-append-drop, drop-take, length-drop, length-take-le, take_all}
use Rattle.std.proofs.lemmas.List.{drop-append-le, map-append}
use Rattle.std.proofs.lemmas.List.Edits.{take-paste}
use Rattle.std.proofs.lemmas.Slice.{drop-put_mid}
use Rattle.std.specs.Simd.Lanes.{chunk, put_chunk}
use Rattle.std.proofs.lemmas.Option.{slice_get_within}
use Rattle.xc_text.proofs.ListLemmas.{take_more-get}
use Rattle.xc_streams.specs.ShownNames.{hex_digit, is_unescaped, shown_byte}
use lib.Seq.{paste}

-- ======== What messages show of names.

-- printable ASCII
abbrev pub IsPrintable : ℕ → Type 0
IsPrintable b = (32 ≤ b) × (b ≤ 126)

digit : (n : ℕ) → n < 16 → IsPrintable (hex_digit n)
digit n h = grind (arith, nat_tests)

plain : (b : ℕ) → is_unescaped b ≡ true → IsPrintable b
plain b h = grind (arith, nat_tests)

chosen : (t : Bool) (b : ℕ) (other : List ℕ) → (t ≡ true → IsPrintable b) → AllByRecursion IsPrintable other
    → AllByRecursion IsPrintable (if t then b ∷ [] else other)
chosen true b other h rest = (h refl, tt)
chosen false b other h rest = rest

shown : (b : ℕ) → b < 256 → AllByRecursion IsPrintable (shown_byte b)
shown b h = chosen (is_unescaped b) b _ (plain b) (
  (omega arith, omega arith),
  (
    (omega arith, omega arith),
    (digit (b / 16) (omega arith), (digit (b % 16) (omega arith), tt)),
  ),
)

all-shown : (name : List ℕ) → AllByRecursion (λ b. b < 256) name → All IsPrintable (flat_map shown_byte name)
all-shown [] each = λ k d h. absurd (omega arith)
all-shown (b ∷ name) each =
    All-append IsPrintable (shown_byte b) (flat_map shown_byte name)
    (All-from_recursion IsPrintable (shown_byte b) (shown b each.0)) (all-shown name each.1)

-- What messages show of a name is printable ASCII.
pub names_are_shown_printable : (name : List ℕ) → All (λ b. b < 256) name → All IsPrintable (flat_map shown_byte name)
names_are_shown_printable name each = all-shown name (recursion_from_All (λ b. b < 256) name each)

-- ======== What a writer holds, and what is held back from it.

-- the rest of a front was moved to the front
pub moved_to_front : (bytes : List ℕ) (n end : ℕ) → n ≤ end → end ≤ length bytes
    → take (end - n) (paste bytes 0 (drop n bytes) (end - n)) ≡ drop n (take end bytes)
moved_to_front bytes n end a b =
    let whole : n + (end - n) ≡ end = omega (arith, a) in
    grind (arith, common_steps, take-paste, length-drop, drop-take)

-- bytes that were put in the place of others by loads and stores of their first and their last piece
pub two_pieces : (held bytes : List ℕ) (at size : ℕ) → at + length bytes ≤ length held → size ≤ length bytes
    → length bytes ≤ size + size → put_chunk (at + (length bytes - size)) (put_chunk at held (chunk 0 size bytes))
    (chunk (length bytes - size) size bytes) ≡ take at held ++ bytes ++ drop (at + length bytes) held
two_pieces held bytes at size room few enough =
    let end : ℕ = at + length bytes in
    let back : ℕ = length bytes - size in
    let first : List ℕ = chunk 0 size bytes in
    let last : List ℕ = chunk back size bytes in
    let once : List ℕ = put_chunk at held first in
    let m : length first ≡ size = length-chunk 0 size bytes (omega (arith, few)) in
    let n : length last ≡ size = length-chunk back size bytes (omega (arith, few)) in
    let long = length-put_chunk at held first in
    let start = length-take-le at held (omega (arith, room)) in
    let put_once = take_more_put_chunk at held first (at + size) (omega (arith, m)) (omega (arith, room, few)) in
    let put_all = take_more_put_chunk (at + back) once last end (omega (arith, n, few)) (omega (arith, room, long)) in
    let cut_once = take-take (at + back) (at + size) once (omega (arith, enough)) in
    let cut_first = take-take back size bytes (omega (arith, enough)) in
    let front : take (at + back) once ≡ take at held ++ take back bytes =
    cc (take-append-add (take at held) first back) in
    grind (arith, common_steps, take_all, length-drop, append_assoc, take-append-drop, drop-put_mid, put_chunk_is)

-- ======== The words of a command line, as far as they were taken.

-- none was taken
pub no_word : (t : Option (List (List ℕ))) → IfSome t (λ ws. [] ≡ drop 1 (take 1 ws))
no_word None = tt
no_word (Some []) = refl
no_word (Some (w ∷ ws)) = refl

-- one more was taken
pub one_word_more : {V : Type 0} (bytes : V → List ℕ) (t : Option (List (List ℕ))) (before after : List V) (place : ℕ)
    (v : V) → 1 ≤ place → after ≡ before ++ v ∷ [] → IfSome t (λ ws. map bytes before ≡ drop 1 (take place ws))
    → IfSome t (λ ws. Some (bytes v) ≡ slice_get ws place)
    → IfSome t (λ ws. map bytes after ≡ drop 1 (take (place + 1) ws))
one_word_more bytes None before after place v some e is at = tt
one_word_more bytes (Some ws) before after place v some e is at =
    grind (arith, slice_get_within, length-take-le, map-append, take_more-get, drop-append-le)

-- what a test of bytes says of them where it has no error
pub passed_test : {A E U : Type 0} (P : A → Type 0) (Q : E → Type 0) (r : Result A E) → MatchResult r (λ x. P x × U) Q
    → is_err r ≡ false → U
passed_test P Q (Ok x) h e = h.1
passed_test P Q (Err x) h e = absurd (cc e)

single : {V : Type 0} (P : V → Type 0) (v : V) → P v → All P (v ∷ [])
single P v p zero d h = p
single P v p (suc k) d h = absurd (omega (arith, h))

-- it holds of one more
pub all_more : {V : Type 0} (P : V → Type 0) (before after : List V) (v : V) → after ≡ before ++ v ∷ [] → All P before
    → P v → All P after
all_more P before after v e h p = subst (All P) (sym e) (All-append P before (v ∷ []) h (single P v p))
