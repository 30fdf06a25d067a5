-- The invariant: the marks from `place` on, hashed behind the state so far, come to the hash of the whole key. Two
-- marks more are one number (`two_marks`); a last one is hashed by itself (`last_mark`), or there is none (`no_mark`).
use Rattle.std.proofs.Common.{arith, ◌≡◌, ◌+◌, ◌*◌, ◌∙◌, ap, ap₂, drop, get_or}
use Rattle.std.specs.Prelude.{fold}
use Rattle.std.specs.Hash.{le_bytes}
use Rattle.xc_text.specs.Hashing.{folded, hashed}
use Rattle.xc_text.specs.declared.seed.FoldingHasher.{FoldingHasher}
use Rattle.xc_count.specs.inner.Layers.{key_words}
use Rattle.xc_count.proofs.HashLemmas.{last_mark, no_mark, two_marks}
use Rattle.xc_count.proofs.layer.hash_of.Goals.{then-place-key, else-place-key}
use Rattle.xc_count.proofs.layer.hash_of.Goals as goal

pub loop-place-init : goal.loop-place-init
loop-place-init c =
    let key = c.args.key.now in
    record {
      within = omega arith;
      multiplier = ap (λ (h : FoldingHasher). h.multiplier) c.build_hasher-hasher.ensures;
      state = ap (λ (h : FoldingHasher). fold (hashed c.args.seed.multiplier) h.state (key_words key))
          c.build_hasher-hasher.ensures;
    }

pub loop-place-preserved : goal.loop-place-preserved
loop-place-preserved c =
    let key = c.args.key.now in
    let m = c.args.seed.multiplier in
    let k = c.loop-place.place in
    let s = c.loop-place.hasher.state in
    let both = get_or key k 0 + 4294967296 * get_or key (k + 1) 0 in
    let state : c.write_u64.new.self.state ≡ hashed m s (le_bytes 8 both)
    = ap (λ (h : FoldingHasher). h.state) c.write_u64.ensures
    ∙ ap₂ (λ n x. hashed n s (le_bytes 8 x)) c.loop-place.invariant.multiplier
    (omega (arith, c.from.ensures, c.from-in-loop-place.ensures)) in
    record {
      within = omega arith;
      multiplier = ap (λ (h : FoldingHasher). h.multiplier) c.write_u64.ensures ∙ c.loop-place.invariant.multiplier;
      state = ap (λ x. fold (hashed m) x (key_words (drop (k + 2) key))) state
          ∙ two_marks m _ s key k (omega arith) c.loop-place.invariant.state;
    }

pub returns : goal.returns
returns c =
    let key = c.args.key.now in
    let m = c.args.seed.multiplier in
    let k = c.loop-place.place in
    let s = c.loop-place.hasher.state in
    let so = c.loop-place.invariant in
    let end : (h : FoldingHasher) → h.multiplier ≡ m
    → h.state ≡ fold (hashed m) c.args.seed.state (key_words key) → c.if-place-key.hasher ≡ h
    → c.finish.result ≡ folded m (fold (hashed m) c.args.seed.state (key_words key))
    = λ h a b is. c.finish.ensures ∙ ap (λ (g : FoldingHasher). folded g.multiplier g.state) is ∙ ap₂ folded a b in
    elim c.if-place-key.branch [
      | then-place-key w ↦
          let wrote = w.write_u64-then-place-key.ensures in
          end w.write_u64-then-place-key.new.self
          (ap (λ (h : FoldingHasher). h.multiplier) wrote ∙ so.multiplier)
          (ap (λ (h : FoldingHasher). h.state) wrote
          ∙ ap₂ (λ n x. hashed n s (le_bytes 8 x)) so.multiplier w.from-then-place-key.ensures
          ∙ last_mark m _ s key k (omega arith) (omega arith) so.state)
          w.hasher-is
      | else-place-key w ↦
          end c.loop-place.hasher so.multiplier (no_mark m _ s key k (omega arith) so.state) w.hasher-is
    ]
