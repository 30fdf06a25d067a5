-- What is left of a problem where some of its items and options are gone, by words, and what a branch leaves of it.
use Rattle.std.proofs.Common.{ℕ, ◌≡◌, ◌<◌, ◌^◌, List, [], ◌∷◌, Bool, true, false, not, ◌&&◌, refl, arith}
use Rattle.std.proofs.Common.{map, filter, inl, inr, eqb, sym, ap, ap₂, ◌∙◌, Some, subst, find}
use Rattle.std.specs.Prelude.{slice_get, slice_index, nat_lt}
use Rattle.std.specs.Int.{bit_not, w64}
use Rattle.std.specs.List.{enumerate_from, list_all}
use Rattle.std.proofs.lemmas.Option.{slice_get_within}
use Rattle.std.proofs.lemmas.Nat.Bits.{bit_at_and, bit_at_not, bit_at-lt}
use Rattle.xc_input.specs.Problem.{Numbered, holds}
use Rattle.xc_input.specs.declared.problem.Use.{Use}
use Rattle.xc_text.proofs.ListLemmas.{IsIn, by_bool, by_option, slice_get-in, each_from, filter_both}
use Rattle.xc_text.proofs.ListLemmas.{filter_same, in-filter}
use Rattle.xc_words.specs.declared.words.Words.{Words}
use Rattle.xc_words.specs.Words.{and_not}
use Rattle.xc_search.specs.Listing.{Wanted, Residual, pick, stays, spend_one, may_stay}
use Rattle.xc_search.specs.inner.Few.{AreWordsOf}
use Rattle.xc_search.proofs.ListingLemmas.{IsProper, find-in, in-find, used_up, holds_use, goes_on}
use Rattle.xc_search.proofs.Picked.{has, picked, stands, picked-in, in-picked, picked-changed}
use Rattle.xc_search.proofs.Numbering.{bit_of, stands_at}

-- of what is left, the items and options whose bits are set, where os numbers the options
abbrev pub shown : Residual → List ℕ → ℕ → ℕ → Residual
shown r os left items =
    record { items = picked 0 items r.items; options = filter (λ o. has left (bit_of os o.number)) r.options }

has-without : (a b i : ℕ) → b < 2 ^ 64 → i < 64 → has (and_not a b) i ≡ (has a i && not (has b i))
has-without a b i fits l =
    let both = bit_at_and a (bit_not w64 b) i in
    let other = bit_at_not w64 b i fits l in
    let one = bit_at-lt a i in
    let two = bit_at-lt b i in
    grind (arith, both, other, one, two)

all_same : {X : Type 0} (f g : X → Bool) (xs : List X) → ((x : X) → IsIn xs x → f x ≡ g x)
    → list_all f xs ≡ list_all g xs
all_same f g [] h = refl
all_same f g (x ∷ xs) h = ap₂ (λ (a b : Bool). a && b) (h x (inl refl)) (all_same f g xs (λ y k. h y (inr k)))

-- an option is still there that was there and isn't apart
still_there : (was held later stays same apart now : Bool) → now ≡ (was && not apart) → apart ≡ not same → stays ≡ same
    → (stays ≡ true → held ≡ false) → (was && (not (held && later) && stays)) ≡ now
still_there was held later true same apart now e d f h = let no = h refl in grind (arith, e, d, f, no)
still_there was held later false same apart now e d f h = grind (arith, e, d, f)

abbrev pub residual : List Wanted → List Numbered → Residual
residual ws os = record { items = ws; options = os }

module _ {r : Residual} {os : List ℕ} {w : Words} (ws : AreWordsOf r os w) where
  -- ---- the words, by the options' bits

  pub placed : (o : Numbered) → IsIn r.options o → slice_get os (bit_of os o.number) ≡ Some o.number
  placed o h =
      let at = slice_get-in r.options o h in
      let to = ws.numbered at.0 o at.1 in stands_at os to.0 o.number to.1

  pub bit_below : (o : Numbered) → IsIn r.options o → bit_of os o.number < 64
  bit_below o h = omega (arith, slice_get_within os _ o.number (placed o h), ws.few_options)

  pub holders_at : (i : ℕ) (v : Wanted) (o : Numbered) → slice_get r.items i ≡ Some v → IsIn r.options o
      → has (slice_index w.holders i) (bit_of os o.number) ≡ holds o v.item
  holders_at i v o e h =
      let at = slice_get-in r.options o h in ws.holders i at.0 (bit_of os o.number) v o e at.1 (placed o h)

  alone_at : (i : ℕ) (v : Wanted) (o : Numbered) → slice_get r.items i ≡ Some v → IsIn r.options o
      → has (slice_index w.alone (bit_of os o.number)) i ≡ holds o v.item
  alone_at i v o e h =
      let at = slice_get-in r.options o h in ws.alone i at.0 (bit_of os o.number) v o e at.1 (placed o h)

  apart_at : (o q : Numbered) → IsIn r.options o → IsIn r.options q
      → has (slice_index w.apart (bit_of os o.number)) (bit_of os q.number) ≡ not (stays r o q)
  apart_at o q h k =
      let at = slice_get-in r.options o h in
      let to = slice_get-in r.options q k in
      ws.apart at.0 to.0 (bit_of os o.number) (bit_of os q.number) o q at.1 to.1 (placed o h) (placed q k)

  module _ (n left items : ℕ) (p : IsProper n r) (q : IsProper n (shown r os left items)) where
    -- ---- an option that is shown stays with the same

    found_same : (o : Numbered) → IsIn (shown r os left items).options o → (u : Use) → IsIn o.uses u
        → find (λ w. eqb w.item u.item) (shown r os left items).items ≡ find (λ w. eqb w.item u.item) r.items
    found_same o h u k = by_option (find (λ w. eqb w.item u.item) (shown r os left items).items)
        (λ e. by_option (find (λ w. eqb w.item u.item) r.items) (λ d. e ∙ sym d)
        (λ v d.
        let at = in-find r.items u.item v d in
        let s = p.sound v at.0 in
        let to = q.items_left o u.item h (omega (arith, s.0, at.1)) (holds_use o.uses u k) in
        let f = find-in (shown r os left items).items to.0 q.items_apart to.1 in
        let g = subst (λ j. find (λ w. eqb w.item j) (shown r os left items).items ≡ Some to.0) to.2 f in cc))
        (λ v e.
        let at = in-find (shown r os left items).items u.item v e in
        let f = find-in r.items v p.items_apart (in-picked 0 items r.items v at.0) in
        e ∙ sym (subst (λ j. find (λ w. eqb w.item j) r.items ≡ Some v) at.1 f))

    stays_same : (o y : Numbered) → IsIn (shown r os left items).options o
        → stays (shown r os left items) o y ≡ stays r o y
    stays_same o y h = all_same _ _ o.uses (λ u k. ap (λ v. may_stay v u y) (found_same o h u k))

    module _ (i : ℕ) (v : Wanted) (o : Numbered) (at : IsIn (enumerate_from 0 r.items) (i, v))
        (bit : has items i ≡ true)
        (known : IsIn (shown r os left items).options o) (here : holds o v.item ≡ true)
      where
        -- ---- a branch

        of : IsIn r.options o
        of = (in-filter _ r.options o known).0

        items_behind : filter (λ v. nat_lt 0 v.high) (map (spend_one o) (shown r os left items).items)
            ≡ picked 0 (and_not items (slice_index w.alone (bit_of os o.number))) r.items
        items_behind = picked-changed (spend_one o) (λ v. nat_lt 0 v.high) 0 items
            (and_not items (slice_index w.alone (bit_of os o.number))) r.items
            (λ j v h e.
            let at = stands r.items j v h in
            let l = slice_get_within r.items j v at in
            let few = ws.few_items in
            let bit = has-without items (slice_index w.alone (bit_of os o.number)) j
            (ws.alone_fits (bit_of os o.number)) (omega (arith, l, few)) in
            let word = alone_at j v o at of in
            let once = ws.once v j at in
            by_bool (holds o v.item)
            (λ d. grind (arith, bit, word, once, d, e))
            (λ d. grind (arith, bit, word, once, d, e)))
            (λ j v h e.
            let at = stands r.items j v h in
            let l = slice_get_within r.items j v at in
            let few = ws.few_items in
            let bit = has-without items (slice_index w.alone (bit_of os o.number)) j
            (ws.alone_fits (bit_of os o.number)) (omega (arith, l, few)) in
            let word = alone_at j v o at of in
            by_bool (holds o v.item) (λ d. grind (arith, bit, word, d, e)) (λ d. grind (arith, bit, word, d, e)))

        same_options : (y : Numbered) → IsIn r.options y
            → (has left (bit_of os y.number) && goes_on (shown r os left items) v.item o y)
            ≡ has (and_not left (slice_index w.apart (bit_of os o.number))) (bit_of os y.number)
        same_options y h =
            let bits = has-without left (slice_index w.apart (bit_of os o.number)) (bit_of os y.number)
            (ws.apart_fits (bit_of os o.number)) (bit_below y h) in
            let word = apart_at o y of h in
            let same = stays_same o y known in
            let once = ws.once v i (stands r.items i v at) in
            let full : nat_lt 1 v.high ≡ false = grind (arith, once) in
            let found = find-in (shown r os left items).items v q.items_apart (picked-in 0 items r.items i v at bit) in
            still_there _ _ _ _ _ _ _ bits word same
            (λ d. used_up (shown r os left items) o y v d here found full)

        options_behind : filter (goes_on (shown r os left items) v.item o) (shown r os left items).options
            ≡ filter (λ y. has (and_not left (slice_index w.apart (bit_of os o.number))) (bit_of os y.number)) r.options
        options_behind =
            filter_both (goes_on (shown r os left items) v.item o) (λ y. has left (bit_of os y.number)) r.options
            ∙ filter_same _ _ r.options (each_from _ r.options same_options)

        -- what the branch leaves is what the words show
        pub pick_shown : pick (shown r os left items) v.item o
            ≡ shown r os (and_not left (slice_index w.apart (bit_of os o.number)))
            (and_not items (slice_index w.alone (bit_of os o.number)))
        pick_shown = ap₂ residual items_behind options_behind
