use Rattle.std.proofs.Common.{ℕ, ◌≡◌, ◌≢◌, ◌∙◌, Some, ap, subst, sym}
use Rattle.std.specs.Prelude.{IfNone, IfSome, slice_get}
use Rattle.xc_count.specs.inner.Layers.{hash_by}
use Rattle.xc_count.proofs.SlotLemmas.{if_none, told_at}
use Rattle.xc_count.proofs.layer.Layer.place_of.Goals as goal

pub returns : goal.returns
returns g c =
    let self = c.args.self.now in
    let key = c.args.key.now in
    let states = c.as_slice.ensures.value in
    record {
      some = subst (λ ss. IfSome c.find.result (λ k. (s : _) × (slice_get ss k ≡ Some s) × (s.key.items ≡ key)))
          states c.find.ensures.some;
      none = if_none c.find.result
          (λ (none : (k : ℕ) (s : _) → slice_get self.states.items k ≡ Some s → s.hash ≡ c.hash_of.result
          → s.key.items ≢ key) k s e q. none k s e
          (self.hashed k (s.key.items, s.hash) (told_at self.states.items k s e) ∙ ap (hash_by self.seed) q
          ∙ sym c.hash_of.ensures) q)
          (subst (λ ss. IfNone c.find.result ((k : ℕ) (s : _) → slice_get ss k ≡ Some s → s.hash ≡ c.hash_of.result
          → s.key.items ≢ key)) states c.find.ensures.none);
    }
