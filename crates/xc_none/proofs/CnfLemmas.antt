-- Comments that are written one after another.
use Rattle.std.proofs.Common.{ℕ, ◌≡◌, ◌<◌, ◌≤◌, ◌+◌, List, Result, length, take, get_or, ap, sym, ◌∙◌, subst, arith}
use Rattle.std.specs.Prelude.{flat_map, IsErr}
use Rattle.std.specs.List.{enumerate_from}
use Rattle.std.proofs.lemmas.List.{take_all}
use Rattle.std.proofs.lemmas.List.FromFn.{get_or-enumerate_from, length-enumerate_from}
use Rattle.xc_text.specs.Texts.{SinkState, Took, BrokeOff, Writes}
use Rattle.xc_text.proofs.SinkLemmas.{flat_map-take-more, then_took, loop_failed}
use Rattle.xc_input.specs.Named.{Named}
use Rattle.xc_none.specs.declared.meaning.Meaning.{Meaning}
use Rattle.xc_none.specs.Cnf.{comment_text}

-- the comment at a place
comment_at : (a : Named) (ms : List Meaning) (k : ℕ) (d : Meaning) → k < length ms
    → comment_text a (k + 1) (get_or ms k d) ≡ comment_text a (get_or (enumerate_from 1 ms) k (0, d)).0 (get_or
    (enumerate_from 1 ms) k (0, d)).1
comment_at a ms k d h =
    let e = get_or-enumerate_from 1 ms k (0, d) h in
    let n : k + 1 ≡ 1 + k = omega arith in
    ap (λ (x : ℕ). comment_text a x (get_or ms k d)) n ∙ sym (ap (λ (nm : ℕ × Meaning). comment_text a nm.0 nm.1) e)

pub comments_more : (a : Named) (ms : List Meaning) (k : ℕ) (d : Meaning) (x y z : SinkState) → k < length ms
    → Took x y (flat_map (λ nm. comment_text a nm.0 nm.1) (take k (enumerate_from 1 ms)))
    → Took y z (comment_text a (k + 1) (get_or ms k d))
    → Took x z (flat_map (λ nm. comment_text a nm.0 nm.1) (take (k + 1) (enumerate_from 1 ms)))
comments_more a ms k d x y z h before one =
    let f : ℕ × Meaning → List ℕ = λ nm. comment_text a nm.0 nm.1 in
    let within : k < length (enumerate_from 1 ms) = omega (arith, h, length-enumerate_from 1 ms) in
    let all = flat_map-take-more f (enumerate_from 1 ms) k (0, d) within in
    subst (λ (t : List ℕ). Took x z t) (sym all)
    (then_took before (subst (λ (t : List ℕ). Took y z t) (comment_at a ms k d h) one))

pub comments_failed : {E : Type 0} (a : Named) (ms : List Meaning) (k : ℕ) (d : Meaning) (x y z : SinkState)
    (r : Result (Unit {0}) E) → IsErr r → k < length ms
    → Took x y (flat_map (λ nm. comment_text a nm.0 nm.1) (take k (enumerate_from 1 ms)))
    → BrokeOff y z (comment_text a (k + 1) (get_or ms k d))
    → Writes x z r (flat_map (λ nm. comment_text a nm.0 nm.1) (enumerate_from 1 ms))
comments_failed a ms k d x y z r is h before one =
    let f : ℕ × Meaning → List ℕ = λ nm. comment_text a nm.0 nm.1 in
    let within : k < length (enumerate_from 1 ms) = omega (arith, h, length-enumerate_from 1 ms) in
    loop_failed f (enumerate_from 1 ms) k (0, d) r is within before
    (subst (λ (t : List ℕ). BrokeOff y z t) (comment_at a ms k d h) one)

pub comments_end : (a : Named) (ms : List Meaning) (k : ℕ) (x y : SinkState) → length ms ≤ k
    → Took x y (flat_map (λ nm. comment_text a nm.0 nm.1) (take k (enumerate_from 1 ms)))
    → Took x y (flat_map (λ nm. comment_text a nm.0 nm.1) (enumerate_from 1 ms))
comments_end a ms k x y h before =
    let all : take k (enumerate_from 1 ms) ≡ enumerate_from 1 ms =
    take_all k (enumerate_from 1 ms) (omega (arith, h, length-enumerate_from 1 ms)) in
    subst (λ (es : List (ℕ × Meaning)). Took x y (flat_map (λ nm. comment_text a nm.0 nm.1) es)) all before
