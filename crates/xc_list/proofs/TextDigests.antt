-- The digest of a text, byte by byte and by eight bytes at once.
use Rattle.std.proofs.Common.{ℕ, ◌≡◌, ◌+◌, ◌*◌, ◌/◌, ◌^◌, ◌%◌, ◌<◌, ◌≤◌, ◌-◌, List, [], ◌∷◌, ◌++◌, Option, Some, None}
use Rattle.std.proofs.Common.{sym, ap, ◌∙◌, arith, length, take, drop, get_or, take_all}
use Rattle.std.specs.Prelude.{true, false, flat_map}
use Rattle.std.proofs.lemmas.Bool.Decides.{nat_tests}
use Rattle.std.specs.Int.{w64, from_le_bytes}
use Rattle.xc_text.specs.Hashing.{taken}
use Rattle.xc_text.specs.Texts.{SinkState, Took}
use Rattle.xc_text.proofs.SinkLemmas.{appends_more}
use Rattle.std.specs.Io.KnownBytes.{Appends}
use Rattle.xc_list.specs.declared.text_digest.TextDigest.{TextDigest}
use Rattle.xc_list.specs.declared.digest_sink.DigestSink.{DigestSink}
use Rattle.xc_list.specs.Digests.{after_byte, after_text}
use Rattle.xc_list.specs.inner.Writing.{digest_multiplier}

-- ---- one byte

pub byte_held : (d : TextDigest) (b n : ℕ) → n ≡ b → d.held < 7 → b < 2 ^ 8
    → record { state = d.state; word = d.word / 256 + n * 72057594037927936 % 2 ^ 64; held = d.held + 1 }
    ≡ after_byte d b
unfolding after_byte
byte_held d b n same h small =
    let word : n * 72057594037927936 % 2 ^ 64 ≡ b * 2 ^ 56 = omega (arith, small, same) in
    grind (arith, nat_tests)

pub byte_filled : (d : TextDigest) (b n state : ℕ) → n ≡ b → 7 ≤ d.held → b < 2 ^ 8
    → state ≡ taken digest_multiplier d.state (d.word / 256 + n * 72057594037927936 % 2 ^ 64)
    → record { state = state; word = 0; held = 0 } ≡ after_byte d b
unfolding after_byte
byte_filled d b n state same h small e =
    let word : n * 72057594037927936 % 2 ^ 64 ≡ b * 2 ^ 56 = omega (arith, small, same) in
    grind (arith, nat_tests)

-- ---- eight bytes

abbrev next_word : ℕ → ℕ → ℕ
next_word word byte = word / 2 ^ 8 + byte * 2 ^ 56

abbrev word_of : ℕ → ℕ → ℕ → ℕ → ℕ → ℕ → ℕ → ℕ → ℕ
word_of a b c d e f g h =
    next_word (next_word (next_word (next_word (next_word (next_word (next_word (next_word 0 a) b) c) d) e) f) g) h

word_of_eight : (a b c d e f g h : ℕ)
    → word_of a b c d e f g h ≡ from_le_bytes w64 (a ∷ b ∷ c ∷ d ∷ e ∷ f ∷ g ∷ h ∷ [])
word_of_eight a b c d e f g h = omega arith

abbrev pub whole : ℕ → TextDigest
whole state = record { state = state; word = 0; held = 0 }

pub after_eight : (state a b c d e f g h : ℕ) (rest : List ℕ)
    → after_text (whole (taken digest_multiplier state (from_le_bytes w64 (a ∷ b ∷ c ∷ d ∷ e ∷ f ∷ g ∷ h ∷ [])))) rest
    ≡ after_text (whole state) (a ∷ b ∷ c ∷ d ∷ e ∷ f ∷ g ∷ h ∷ rest)
unfolding after_byte
after_eight state a b c d e f g h rest =
    ap (λ n. after_text (whole (taken digest_multiplier state n)) rest) (sym (word_of_eight a b c d e f g h))

-- the first eight of some bytes
pub eights_on : (state next n : ℕ) (left : List ℕ) → 8 ≤ length left
    → n ≡ from_le_bytes w64 (get_or left 0 0 ∷ get_or left 1 0 ∷ get_or left 2 0 ∷ get_or left 3 0 ∷ get_or left 4 0
    ∷ get_or left 5 0 ∷ get_or left 6 0 ∷ get_or left 7 0 ∷ []) → next ≡ taken digest_multiplier state n
    → after_text (whole next) (take (length left - 8) (drop 8 left)) ≡ after_text (whole state) left
eights_on state next n ([]) some word made = absurd (omega (arith, some))
eights_on state next n (a ∷ []) some word made = absurd (omega (arith, some))
eights_on state next n (a ∷ b ∷ []) some word made = absurd (omega (arith, some))
eights_on state next n (a ∷ b ∷ c ∷ []) some word made = absurd (omega (arith, some))
eights_on state next n (a ∷ b ∷ c ∷ d ∷ []) some word made = absurd (omega (arith, some))
eights_on state next n (a ∷ b ∷ c ∷ d ∷ e ∷ []) some word made = absurd (omega (arith, some))
eights_on state next n (a ∷ b ∷ c ∷ d ∷ e ∷ f ∷ []) some word made = absurd (omega (arith, some))
eights_on state next n (a ∷ b ∷ c ∷ d ∷ e ∷ f ∷ g ∷ []) some word made = absurd (omega (arith, some))
eights_on state next n (a ∷ b ∷ c ∷ d ∷ e ∷ f ∷ g ∷ h ∷ rest) some word made =
    let whole_rest = take_all (length (a ∷ b ∷ c ∷ d ∷ e ∷ f ∷ g ∷ h ∷ rest) - 8) rest (omega arith) in
    ap (λ r. after_text (whole next) r) whole_rest
    ∙ ap (λ s. after_text (whole s) rest) (made ∙ ap (taken digest_multiplier state) word)
    ∙ after_eight state a b c d e f g h rest

-- ---- what a digest was taken of

known_end : (x z : Option (List ℕ)) (s : List ℕ) → x ≡ Some [] → Appends x z s → z ≡ Some s
known_end x None s e h = absurd (rw e at h)
known_end x (Some t) s e h = ap Some (rw e at h)

-- what is known of the sink that keeps a digest
abbrev pub sunk : DigestSink → SinkState
sunk s = record {
  failures = 0;
  failed = false;
  taken = Some (flat_map (λ text. text) s.given.lines);
  settled = true;
  flushes = s.flushes.count;
}

-- two texts were noted
pub noted_both : {x y z : SinkState} {s t : List ℕ} → x.taken ≡ Some [] → Took x y s → Took y z t
    → z.taken ≡ Some (s ++ t)
noted_both {x = x} {y = y} {z = z} {s = s} {t = t} e p q =
    known_end x.taken z.taken (s ++ t) e (appends_more x.taken y.taken z.taken s t p.whole q.whole)
