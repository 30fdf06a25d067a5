-- What a sink has taken, text after text.
use Rattle.std.proofs.Common.{◌≡◌, ℕ, ◌≤◌, ◌-◌, List, ◌++◌, Option, None, Some, length, take, drop, ap, ◌∙◌}
use Rattle.std.proofs.Common.{append_assoc, arith, ◌+◌, ◌<◌, [], Result, Ok, Err, get_or, append-nil, subst}
use Rattle.std.proofs.Common.{refl}
use Rattle.std.proofs.lemmas.Grind.{common_steps}
use Rattle.std.specs.Io.KnownBytes.{Appends, Keeps}
use Rattle.std.specs.Prelude.{MatchResult, flat_map, IsErr}
use Rattle.std.proofs.KnownBytes.{Appends-nil}
use Rattle.std.proofs.lemmas.Bool.Decides.{nat_tests}
use Rattle.std.proofs.lemmas.List.Concat.{flat_map-append}
use Rattle.std.proofs.Math.Seq.{take-append-add}
use Rattle.std.proofs.lemmas.List.{take-append-le}
use Rattle.xc_text.specs.Calls.{Rose}
use Rattle.xc_text.specs.Texts.{SinkState, Took, BrokeOff, Writes}

-- ======== What follows when a sink takes one text after another.

pub appends_more : (a b c : Option (List ℕ)) (xs ys : List ℕ) → Appends a b xs → Appends b c ys → Appends a c (xs ++ ys)
appends_more None b c xs ys p q = tt
appends_more (Some x) None c xs ys p q = absurd p
appends_more (Some x) (Some y) None xs ys p q = absurd q
appends_more (Some x) (Some y) (Some z) xs ys p q = q ∙ ap (λ l. l ++ ys) p ∙ append_assoc x xs ys

pub appends_kept : (a b c : Option (List ℕ)) (xs : List ℕ) → Appends a b xs → Keeps b c → Appends a c xs
appends_kept None b c xs p q = tt
appends_kept (Some x) None c xs p q = absurd p
appends_kept (Some x) (Some y) None xs p q = absurd q
appends_kept (Some x) (Some y) (Some z) xs p q = q ∙ p

-- the front that was taken, and then all of the rest but its own front
pub front_more : (written rest : List ℕ) (n : ℕ) → n ≤ length rest
    → written ++ rest ≡ (written ++ take n rest) ++ take (length rest - n) (drop n rest)
front_more written rest n h = grind (arith, common_steps)

-- ======== What a sink has taken, text after text.

pub flat_map-take-more : {X : Type 0} (f : X → List ℕ) (xs : List X) (i : ℕ) (d : X) → i < length xs
    → flat_map f (take (i + 1) xs) ≡ flat_map f (take i xs) ++ f (get_or xs i d)
flat_map-take-more f xs i d h = grind (arith, common_steps, flat_map-append, append-nil)

pub flat_map-parts : {X : Type 0} (f : X → List ℕ) (xs : List X) (i : ℕ) (d : X) → i < length xs
    → flat_map f xs ≡ flat_map f (take i xs) ++ f (get_or xs i d) ++ flat_map f (drop (i + 1) xs)
flat_map-parts f xs i d h =
    let all : xs ≡ take (i + 1) xs ++ drop (i + 1) xs = grind (arith, common_steps) in
    cc (all, flat_map-append f (take (i + 1) xs) (drop (i + 1) xs), flat_map-take-more f xs i d h)

pub took_nothing : (s : SinkState) → Took s s []
took_nothing s = record { no_failure = refl; whole = Appends-nil s.taken; unflushed = refl }

pub then_took : {a b c : SinkState} {s t : List ℕ} → Took a b s → Took b c t → Took a c (s ++ t)
then_took {a = a} {b = b} {c = c} {s = s} {t = t} p q = grind (arith, nat_tests, appends_more)

-- it broke off behind a text that it took
pub then_broke : {a b c : SinkState} {s t : List ℕ} → Took a b s → BrokeOff b c t → BrokeOff a c (s ++ t)
then_broke {a = a} {b = b} {c = c} {s = s} {t = t} p q = record {
  failure = subst (λ n. Rose n c.failures) p.no_failure q.failure;
  last = q.last;
  many = length s + q.many;
  part = grind (arith, common_steps, q.part);
  begun = rw (take-append-add s t q.many) (appends_more a.taken b.taken c.taken s (take q.many t) p.whole q.begun);
  unflushed = q.unflushed ∙ p.unflushed;
}

-- it broke off before a text
pub broke_before : {a b : SinkState} {s : List ℕ} (t : List ℕ) → BrokeOff a b s → BrokeOff a b (s ++ t)
broke_before {a = a} {b = b} {s = s} t p = grind (arith, common_steps, nat_tests, take-append-le)

pub then_writes : {E : Type 0} {a b : SinkState} {s : List ℕ} (c : SinkState) (t : List ℕ) (r : Result (Unit {0}) E)
    → Took a b s → Writes b c r t → Writes a c r (s ++ t)
then_writes c t (Ok u) p q = then_took p q
then_writes c t (Err e) p q = then_broke p q

-- what is so where a call failed
pub if_failed : {X E Q : Type 0} (P : X → Type 0) (r : Result X E) → IsErr r → Q → MatchResult r P (λ _. Q)
if_failed P (Ok x) is q = absurd (cc is)
if_failed P (Err e) is q = q

pub failed : {E : Type 0} {a b : SinkState} {s : List ℕ} (r : Result (Unit {0}) E) → IsErr r → BrokeOff a b s
    → Writes a b r s
failed {a = a} {b = b} {s = s} r is broke = if_failed (λ _. Took a b s) r is broke

-- a loop over elements ended where a text was not taken
pub loop_failed : {X E : Type 0} {a b c : SinkState} (f : X → List ℕ) (xs : List X) (i : ℕ) (d : X)
    (r : Result (Unit {0}) E) → IsErr r → i < length xs → Took a b (flat_map f (take i xs))
    → BrokeOff b c (f (get_or xs i d)) → Writes a c r (flat_map f xs)
loop_failed f xs i d r is h p q = rw (flat_map-parts f xs i d h) (failed r is (broke_before _ (then_broke p q)))
