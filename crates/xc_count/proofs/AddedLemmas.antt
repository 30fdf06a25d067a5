-- A worth that is added to a key, and keys of which no two are the same.
use Rattle.std.proofs.Common.{ℕ, zero, suc, ◌≡◌, ◌≢◌, ◌⊎◌, true, false, List, [], ◌∷◌, ◌++◌, length, Some, None}
use Rattle.std.proofs.Common.{inl, inr, refl, sym, ap, ap₂, ◌∙◌, arith}
use Rattle.std.proofs.Math.ListN.{set}
use Rattle.std.specs.Prelude.{nat_eq, option_map, slice_get}
use Rattle.std.specs.Cmp.Lexicographic.{pointwise}
use Rattle.std.proofs.lemmas.List.{length-append}
use Rattle.std.proofs.lemmas.Option.{slice_get-map, slice_get_within}
use Rattle.std.proofs.lemmas.Slice.Eq.{bytes_eq-Decides}
use Rattle.xc_text.proofs.ListLemmas.{by_bool, by_option, get_left, get_seam, not_some}
use Rattle.xc_count.specs.declared.layer.State.{State}
use Rattle.xc_count.specs.inner.Added.{keyed, with_added}
use Rattle.xc_count.specs.inner.Layers.{AreApart, told}
use Rattle.xc_count.proofs.SlotLemmas.{told_at, told_push}

differ : (a b : List ℕ) → a ≢ b → pointwise nat_eq a b ≡ false
differ a b h = by_bool (pointwise nat_eq a b) (λ e. absurd (h ((bytes_eq-Decides a b).0 e))) (λ e. e)

-- joined to what the only state of the key was worth
pub added_at : {W : Type 0} (join : W → W → W) (w : W) (ss : List (State W)) (k : ℕ) (s t : State W)
    → slice_get ss k ≡ Some s → t.key ≡ s.key → t.worth ≡ join s.worth w → AreApart (told ss)
    → keyed (set ss k t) ≡ with_added join s.key.items w (keyed ss)
added_at join w [] k s t e key worth apart = cc
added_at join w (u ∷ ss) zero s t e key worth apart =
    let is : u ≡ s = cc in
    let keys : u.key.items ≡ s.key.items = ap (λ v. v.key.items) is in
    let same : pointwise nat_eq u.key.items s.key.items ≡ true =
    (bytes_eq-Decides u.key.items s.key.items).1 keys in
    let pair : (t.key.items, t.worth) ≡ (u.key.items, join u.worth w) =
    ap₂ (λ x y. (x, y)) (ap (λ v. v.items) key ∙ sym keys)
    (worth ∙ sym (ap (λ v. join v.worth w) is)) in
    rw same (ap (λ p. p ∷ keyed ss) pair)
added_at join w (u ∷ ss) (suc k) s t e key worth apart =
    let other : pointwise nat_eq u.key.items s.key.items ≡ false = differ u.key.items s.key.items (λ same.
    let one = apart 0 (suc k) (u.key.items, u.hash) (s.key.items, s.hash) refl (told_at ss k s e) same in
    omega (arith, one)) in
    rw other (ap (λ ts. (u.key.items, u.worth) ∷ ts) (added_at join w ss k s t e key worth
    (λ i j a b p q same. let one = apart (suc i) (suc j) a b p q same in omega (arith, one))))

-- the last one, where no state was of the key
pub added_last : {W : Type 0} (join : W → W → W) (ss : List (State W)) (s : State W)
    → ((k : ℕ) (t : State W) → slice_get ss k ≡ Some t → t.key.items ≢ s.key.items)
    → keyed (ss ++ s ∷ []) ≡ with_added join s.key.items s.worth (keyed ss)
added_last join [] s fresh = refl
added_last join (u ∷ ss) s fresh =
    let other : pointwise nat_eq u.key.items s.key.items ≡ false =
    differ u.key.items s.key.items (fresh 0 u refl) in
    rw other (ap (λ ts. (u.key.items, u.worth) ∷ ts)
    (added_last join ss s (λ k t e. fresh (suc k) t e)))

-- what is at a place once a state is added at the end
told_there : {W : Type 0} (ss : List (State W)) (s : State W) (k : ℕ) (t : List ℕ × ℕ)
    → slice_get (told (ss ++ s ∷ [])) k ≡ Some t
    → (slice_get (told ss) k ≡ Some t) ⊎ ((k ≡ length (told ss)) × (t.0 ≡ s.key.items))
told_there ss s k t at =
    let x : List ℕ × ℕ = (s.key.items, s.hash) in
    let there : slice_get (told ss ++ x ∷ []) k ≡ Some t = ap (λ ts. slice_get ts k) (sym (told_push ss s)) ∙ at in
    by_option (slice_get (told ss) k)
    (λ none.
    let past = not_some (told ss) k none in
    let within = slice_get_within (told ss ++ x ∷ []) k t there in
    let last : length (told ss) ≡ k = omega (arith, past, within, length-append (told ss) (x ∷ [])) in
    let both : Some x ≡ Some t =
    sym (get_seam (told ss) x) ∙ ap (slice_get (told ss ++ x ∷ [])) last ∙ there in
    let same : x ≡ t = cc in
    inr (sym last, sym (ap (λ (v : List ℕ × ℕ). v.0) same)))
    (λ u before.
    let both : Some u ≡ Some t = sym (get_left (told ss) (x ∷ []) k u before) ∙ there in
    inl (before ∙ both))

-- a key that a place tells is that of a state
told_from : {W : Type 0} (ss : List (State W)) (s : State W) (k : ℕ) (t : List ℕ × ℕ)
    → ((j : ℕ) (u : State W) → slice_get ss j ≡ Some u → u.key.items ≢ s.key.items) → slice_get (told ss) k ≡ Some t
    → t.0 ≢ s.key.items
told_from ss s k t fresh at = by_option (slice_get ss k)
    (λ none.
    let nothing = slice_get-map (λ v. (v.key.items, v.hash)) ss k in
    let both : None ≡ Some t = sym (nothing ∙ ap (option_map (λ v. (v.key.items, v.hash))) none) ∙ at in
    cc)
    (λ u e.
    let both : Some (u.key.items, u.hash) ≡ Some t = sym (told_at ss k u e) ∙ at in
    let same : (u.key.items, u.hash) ≡ t = cc in
    λ q. fresh k u e (ap (λ (v : List ℕ × ℕ). v.0) same ∙ q))

-- a new key is apart from those before it
pub apart_push : {W : Type 0} (ss : List (State W)) (s : State W) → AreApart (told ss)
    → ((k : ℕ) (t : State W) → slice_get ss k ≡ Some t → t.key.items ≢ s.key.items) → AreApart (told (ss ++ s ∷ []))
apart_push ss s apart fresh j k a b at bt same = elim (told_there ss s j a at) [
  | inl p ↦ elim (told_there ss s k b bt) [
    | inl q ↦ apart j k a b p q same
    | inr q ↦ absurd (told_from ss s j a fresh p (same ∙ q.1))
  ]
  | inr p ↦ elim (told_there ss s k b bt) [
    | inl q ↦ absurd (told_from ss s k b fresh q (sym same ∙ p.1))
    | inr q ↦ p.0 ∙ sym q.0
  ]
]
