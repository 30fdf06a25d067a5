-- Slots, and how a place is found in them.
use Rattle.std.proofs.Common.{ℕ, zero, suc, ◌≡◌, ◌≢◌, ◌<◌, ◌+◌, ◌-◌, ◌/◌, ◌%◌, ◌^◌, ◌⊎◌, ◌&&◌, true, false, eqb}
use Rattle.std.proofs.Common.{List, [], ◌∷◌, ◌++◌, Option, Some, None, length, refl, sym, ap, ap₂, ◌∙◌, arith, subst}
use Rattle.std.proofs.Common.{inl, inr, eqb-true, eq-eqb, ne_eqb, length-set}
use Rattle.std.proofs.Math.ListN.{set}
use Rattle.std.specs.Prelude.{IfNone, option_map, slice_get}
use Rattle.std.proofs.lemmas.Bool.{and_parts, or_cases, or_left, or_right}
use Rattle.std.proofs.lemmas.List.{length-append, length-map, map-append}
use Rattle.std.proofs.lemmas.List.Sums.{sum_by_push}
use Rattle.std.proofs.lemmas.Option.{slice_get-map, slice_get_within}
use Rattle.xc_text.proofs.ListLemmas.{by_option, get_left, get_seam, not_some}
use Rattle.xc_count.specs.declared.layer.Slot.{Slot}
use Rattle.xc_count.specs.declared.layer.State.{State}
use Rattle.xc_text.specs.declared.seed.Seed.{Seed}
use Rattle.xc_count.specs.inner.Layers.{AreFound, AreHashed, Finds, state_bytes, charged, has_place, hash_by, is_full}
use Rattle.xc_count.specs.inner.Layers.{leads, slot_after, told}

set_here : {X : Type 0} (xs : List X) (k : ℕ) (v : X) → k < length xs → slice_get (set xs k v) k ≡ Some v
set_here [] k v h = absurd (omega (arith, h))
set_here (x ∷ xs) zero v h = refl
set_here (x ∷ xs) (suc k) v h = set_here xs k v (omega (arith, h))

set_there : {X : Type 0} (xs : List X) (k i : ℕ) (v : X) → k ≢ i → slice_get (set xs k v) i ≡ slice_get xs i
set_there [] k i v h = refl
set_there (x ∷ xs) zero zero v h = absurd (h refl)
set_there (x ∷ xs) zero (suc i) v h = refl
set_there (x ∷ xs) (suc k) zero v h = refl
set_there (x ∷ xs) (suc k) (suc i) v h = set_there xs k i v (λ e. h (ap suc e))

-- what a slot is that has a place, and one that is full
has_from : (o : Option Slot) (tag place : ℕ) → has_place o tag place ≡ true
    → o ≡ Some (record { place = place; tag = tag })
has_from None tag place e = cc
has_from (Some s) tag place e =
    let both = and_parts (eqb s.place place) (eqb s.tag tag) e in
    ap₂ (λ p t. Some (record { place = p; tag = t })) (eqb-true _ _ both.0) (eqb-true _ _ both.1)

has_itself : (tag place : ℕ) → has_place (Some (record { place = place; tag = tag })) tag place ≡ true
has_itself tag place =
    let a = eq-eqb place place refl in
    let b = eq-eqb tag tag refl in
    rw (a, b) refl

pub full_at : (slots : List Slot) (at : ℕ) (s : Slot) → slice_get slots at ≡ Some s → s.place ≢ 0
    → is_full (slice_get slots at) ≡ true
full_at slots at s e h = let f = ne_eqb s.place 0 h in subst (λ o. is_full o ≡ true) (sym e) (rw f refl)

not_empty : (s : Slot) → is_full (Some s) ≡ true → s.place ≢ 0
not_empty s full z = let t = eq-eqb s.place 0 z in let f : is_full (Some s) ≡ false = rw t refl in cc (f, full)

-- the same as cases
abbrev pub LeadsTo : List Slot → ℕ → ℕ → ℕ → ℕ → Type 0
LeadsTo slots zero at tag place = ⊥
LeadsTo slots (suc n) at tag place = (slice_get slots at ≡ Some (record { place = place; tag = tag }))
    ⊎ ((is_full (slice_get slots at) ≡ true) × LeadsTo slots n (slot_after (length slots) at) tag place)

leads_from : (slots : List Slot) (n at tag place : ℕ) → leads slots n at tag place ≡ true
    → LeadsTo slots n at tag place
leads_from slots zero at tag place e = cc
leads_from slots (suc n) at tag place e = elim (or_cases _ _ e) [
  | inl h ↦ inl (has_from (slice_get slots at) tag place h)
  | inr m ↦ let both = and_parts _ _ m in
      inr (both.0, leads_from slots n (slot_after (length slots) at) tag place both.1)
]

leads_to : (slots : List Slot) (n at tag place : ℕ) → LeadsTo slots n at tag place
    → leads slots n at tag place ≡ true
leads_to slots zero at tag place l = absurd l
leads_to slots (suc n) at tag place l = elim l [
  | inl e ↦ or_left _ _ (subst (λ o. has_place o tag place ≡ true) (sym e) (has_itself tag place))
  | inr m ↦ let next = leads_to slots n (slot_after (length slots) at) tag place m.1 in
      let full = m.0 in
      let both : (is_full (slice_get slots at) && leads slots n (slot_after (length slots) at) tag place) ≡ true =
      rw (full, next) refl in
      or_right (has_place (slice_get slots at) tag place)
      (is_full (slice_get slots at) && leads slots n (slot_after (length slots) at) tag place) both
]

pub finds_from : (slots : List Slot) (hash place many at : ℕ) → many ≡ length slots → at ≡ hash % many
    → LeadsTo slots (many - 0) at (hash / 2 ^ 32) place → Finds slots hash place
finds_from slots hash place many at e is l =
    let all : many - 0 ≡ many = omega arith in
    let first : LeadsTo slots many (hash % many) (hash / 2 ^ 32) place =
    subst (λ a. LeadsTo slots many a (hash / 2 ^ 32) place) is
    (subst (λ n. LeadsTo slots n at (hash / 2 ^ 32) place) all l) in
    leads_to slots (length slots) (hash % length slots) (hash / 2 ^ 32) place
    (subst (λ n. LeadsTo slots n (hash % n) (hash / 2 ^ 32) place) e first)

pub finds_to : (slots : List Slot) (hash place many at : ℕ) → many ≡ length slots → at ≡ hash % many
    → Finds slots hash place → LeadsTo slots (many - 0) at (hash / 2 ^ 32) place
finds_to slots hash place many at e is f =
    let all : many ≡ many - 0 = omega arith in
    let l : LeadsTo slots many (hash % many) (hash / 2 ^ 32) place =
    subst (λ n. LeadsTo slots n (hash % n) (hash / 2 ^ 32) place) (sym e)
    (leads_from slots (length slots) (hash % length slots) (hash / 2 ^ 32) place f) in
    subst (λ n. LeadsTo slots n at (hash / 2 ^ 32) place) all
    (subst (λ a. LeadsTo slots many a (hash / 2 ^ 32) place) (sym is) l)

pub finds_none : (slots : List Slot) (hash place : ℕ) → length slots ≡ 0 → Finds slots hash place → ⊥
finds_none slots hash place none f =
    let l = leads_from slots (length slots) (hash % length slots) (hash / 2 ^ 32) place f in
    subst (λ n. LeadsTo slots n (hash % length slots) (hash / 2 ^ 32) place) none l

-- these slots have what those had
pub record Grew (old new : List Slot) : Type 0 where
  pub len : length new ≡ length old
  pub kept : (k : ℕ) (s : Slot) → slice_get old k ≡ Some s → s.place ≢ 0 → slice_get new k ≡ Some s

-- a slot that was empty is filled
pub grew_set : (slots : List Slot) (k : ℕ) (s t : Slot) → slice_get slots k ≡ Some s → s.place ≡ 0
    → Grew slots (set slots k t)
grew_set slots k s t e empty = record {
  len = length-set slots k t;
  kept = λ i u f full.
      let other : k ≢ i = λ q.
      let same : Some s ≡ Some u = sym e ∙ ap (slice_get slots) q ∙ f in
      let is : s ≡ u = cc in
      full (sym (ap (λ (v : Slot). v.place) is) ∙ empty) in
      set_there slots k i t other ∙ f;
}

pub full_still : (old new : List Slot) (at : ℕ) → Grew old new → is_full (slice_get old at) ≡ true
    → is_full (slice_get new at) ≡ true
full_still old new at g full = by_option (slice_get old at)
    (λ e. let none : is_full None ≡ true = subst (λ o. is_full o ≡ true) e full in cc)
    (λ s e. let h : s.place ≢ 0 = not_empty s (subst (λ o. is_full o ≡ true) e full) in
    full_at new at s (g.kept at s e h) h)

leads_still : (old new : List Slot) (n at tag place : ℕ) → Grew old new → place ≢ 0 → LeadsTo old n at tag place
    → LeadsTo new n at tag place
leads_still old new zero at tag place g h l = absurd l
leads_still old new (suc n) at tag place g h l = elim l [
  | inl e ↦ inl (g.kept at (record { place = place; tag = tag }) e h)
  | inr m ↦ inr (
    full_still old new at g m.0,
    subst (λ many. LeadsTo new n (slot_after many at) tag place) (sym g.len)
        (leads_still old new n (slot_after (length old) at) tag place g h m.1),
  )
]

pub finds_still : (old new : List Slot) (hash place : ℕ) → Grew old new → place ≢ 0 → Finds old hash place
    → Finds new hash place
finds_still old new hash place g h f =
    leads_to new (length new) (hash % length new) (hash / 2 ^ 32) place
    (subst (λ many. LeadsTo new many (hash % many) (hash / 2 ^ 32) place) (sym g.len)
    (leads_still old new (length old) (hash % length old) (hash / 2 ^ 32) place g h
    (leads_from old (length old) (hash % length old) (hash / 2 ^ 32) place f)))

-- the slot that is filled leads to its place
pub fills_here : (slots : List Slot) (n m at tag t place : ℕ) → n ≡ suc m → t ≡ tag → at < length slots
    → LeadsTo (set slots at (record { place = place; tag = t })) n at tag place
fills_here slots n m at tag t place e is h =
    let here : slice_get (set slots at (record { place = place; tag = t })) at
    ≡ Some (record { place = place; tag = tag }) =
    set_here slots at (record { place = place; tag = t }) h ∙ ap (λ x. Some (record { place = place; tag = x })) is in
    subst (λ k. LeadsTo (set slots at (record { place = place; tag = t })) k at tag place) (sym e) (inl here)

-- a full slot before those that lead to it
pub leads_before : (slots : List Slot) (n m at tag place : ℕ) → n ≡ suc m → is_full (slice_get slots at) ≡ true
    → LeadsTo slots m (slot_after (length slots) at) tag place → LeadsTo slots n at tag place
leads_before slots n m at tag place e full l = subst (λ k. LeadsTo slots k at tag place) (sym e) (inr (full, l))

-- no slot that leads to it is empty
pub leads_by_full : (slots : List Slot) (n at tag place : ℕ) (s : Slot) → place ≢ 0 → slice_get slots at ≡ Some s
    → LeadsTo slots n at tag place → s.place ≢ 0
leads_by_full slots zero at tag place s h e l = absurd l
leads_by_full slots (suc n) at tag place s h e l = elim l [
  | inl is ↦ λ z.
      let both : Some s ≡ Some (record { place = place; tag = tag }) = sym e ∙ is in
      let same : s ≡ record { place = place; tag = tag } = cc in
      h (sym (ap (λ (v : Slot). v.place) same) ∙ z)
  | inr m ↦ not_empty s (subst (λ o. is_full o ≡ true) e m.0)
]

-- if this one doesn't have it, the next ones do
pub leads_on : (slots : List Slot) (n m at tag place : ℕ) (s : Slot) → n ≡ suc m → slice_get slots at ≡ Some s
    → (s.place ≡ place → s.tag ≡ tag → ⊥) → LeadsTo slots n at tag place
    → LeadsTo slots m (slot_after (length slots) at) tag place
leads_on slots n m at tag place s k e other l = elim (subst (λ j. LeadsTo slots j at tag place) k l) [
  | inl is ↦
      let both : Some s ≡ Some (record { place = place; tag = tag }) = sym e ∙ is in
      let same : s ≡ record { place = place; tag = tag } = cc in
      absurd (other (ap (λ (v : Slot). v.place) same) (ap (λ (v : Slot). v.tag) same))
  | inr r ↦ r.1
]

-- the key and the hash of a state
pub told_at : {W : Type 0} (ss : List (State W)) (k : ℕ) (s : State W) → slice_get ss k ≡ Some s
    → slice_get (told ss) k ≡ Some (s.key.items, s.hash)
told_at ss k s e = slice_get-map (λ t. (t.key.items, t.hash)) ss k ∙ ap (option_map (λ t. (t.key.items, t.hash))) e

pub if_none : {X : Type 0} {P Q : Type 0} (o : Option X) → (P → Q) → IfNone o P → IfNone o Q
if_none None f p = f p
if_none (Some x) f p = p

-- a key whose hash no state has is that of none
pub no_state : {W : Type 0} (seed : Seed) (ss read : List (State W)) (key : List ℕ) (hash : ℕ) (found : Option ℕ)
    → AreHashed seed (told ss) → read ≡ ss → hash ≡ hash_by seed key → found ≡ None
    → IfNone found ((k : ℕ) (s : State W) → slice_get read k ≡ Some s → s.hash ≡ hash → s.key.items ≢ key)
    → (k : ℕ) (s : State W) → slice_get ss k ≡ Some s → s.key.items ≢ key
no_state seed ss read key hash None each same is none fresh k s e q =
    fresh k s (ap (λ ts. slice_get ts k) same ∙ e)
    (each k (s.key.items, s.hash) (told_at ss k s e) ∙ ap (hash_by seed) q ∙ sym is) q
no_state seed ss read key hash (Some n) each same is none fresh k s e q = cc

-- one state more
pub told_push : {W : Type 0} (ss : List (State W)) (s : State W)
    → told (ss ++ s ∷ []) ≡ told ss ++ (s.key.items, s.hash) ∷ []
told_push ss s = map-append (λ t. (t.key.items, t.hash)) ss (s ∷ [])

pub bytes_push : {W : Type 0} (limbs : W → ℕ) (ss : List (State W)) (s : State W)
    → charged limbs (ss ++ s ∷ []) ≡ charged limbs ss + state_bytes s.key.items (limbs s.worth)
bytes_push limbs ss s = sum_by_push (λ t. state_bytes t.key.items (limbs t.worth)) ss s

pub hashed_push : {W : Type 0} (seed : Seed) (ss : List (State W)) (s : State W) → AreHashed seed (told ss)
    → s.hash ≡ hash_by seed s.key.items → AreHashed seed (told (ss ++ s ∷ []))
hashed_push seed ss s each here k t at =
    let x : List ℕ × ℕ = (s.key.items, s.hash) in
    let there : slice_get (told ss ++ x ∷ []) k ≡ Some t = ap (λ ts. slice_get ts k) (sym (told_push ss s)) ∙ at in
    by_option (slice_get (told ss) k)
    (λ none.
    let past = not_some (told ss) k none in
    let within = slice_get_within (told ss ++ x ∷ []) k t there in
    let last : length (told ss) ≡ k = omega (arith, past, within, length-append (told ss) (x ∷ [])) in
    let both : Some x ≡ Some t =
    sym (get_seam (told ss) x) ∙ ap (slice_get (told ss ++ x ∷ [])) last ∙ there in
    let same : x ≡ t = cc in
    subst (λ (v : List ℕ × ℕ). v.1 ≡ hash_by seed v.0) same here)
    (λ u before.
    let both : Some u ≡ Some t = sym (get_left (told ss) (x ∷ []) k u before) ∙ there in
    let same : u ≡ t = cc in
    subst (λ (v : List ℕ × ℕ). v.1 ≡ hash_by seed v.0) same (each k u before))

pub found_push : {W : Type 0} (ss : List (State W)) (s : State W) (old new : List Slot) (place : ℕ)
    → AreFound (told ss) old → ((h k : ℕ) → 0 < k → Finds old h k → Finds new h k)
    → place ≡ length ss + 1 → Finds new s.hash place
    → AreFound (told (ss ++ s ∷ [])) new
found_push ss s old new place found kept e here k t at =
    let x : List ℕ × ℕ = (s.key.items, s.hash) in
    let there : slice_get (told ss ++ x ∷ []) k ≡ Some t = ap (λ ts. slice_get ts k) (sym (told_push ss s)) ∙ at in
    let len : length (told ss) ≡ length ss = length-map ss (λ u. (u.key.items, u.hash)) in
    by_option (slice_get (told ss) k)
    (λ none.
    let past = not_some (told ss) k none in
    let within = slice_get_within (told ss ++ x ∷ []) k t there in
    let last : length (told ss) ≡ k = omega (arith, past, within, length-append (told ss) (x ∷ [])) in
    let both : Some x ≡ Some t =
    sym (get_seam (told ss) x) ∙ ap (slice_get (told ss ++ x ∷ [])) last ∙ there in
    let same : x ≡ t = cc in
    let is : place ≡ k + 1 = omega (arith, e, len, last) in
    subst (λ h. Finds new h (k + 1)) (ap (λ (u : List ℕ × ℕ). u.1) same) (subst (λ n. Finds new s.hash n) is here))
    (λ u before.
    let both : Some u ≡ Some t = sym (get_left (told ss) (x ∷ []) k u before) ∙ there in
    let same : u ≡ t = cc in
    subst (λ (v : List ℕ × ℕ). Finds new v.1 (k + 1)) same (kept u.1 (k + 1) (omega arith) (found k u before)))
