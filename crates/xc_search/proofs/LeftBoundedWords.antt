-- The words of the items that are watched and the options that are left are those of what is left.
use Rattle.std.proofs.Common.{ℕ, ◌≡◌, ◌≢◌, ◌<◌, ◌≤◌, ◌^◌, ◌-◌, ◌⊎◌, List, length, Some, true, false, not, ◌&&◌, ◌==◌}
use Rattle.std.proofs.Common.{arith, ap, ap₂, inl, inr, subst, sym, refl, ◌∙◌, min, eqb-true, slice_index}
use Rattle.std.specs.Prelude.{slice_get, AllPairs, IfSome, is_some}
use Rattle.std.specs.Int.{bit_at}
use Rattle.std.proofs.lemmas.List.Elements.{recursion_from_All}
use Rattle.std.proofs.lemmas.Nat.Bits.{bit_at_ones}
use Rattle.xc_input.specs.Problem.{Puzzle, Numbered, primary_count, uses_of, colour_in, holds, holding}
use Rattle.xc_text.proofs.ListLemmas.{IsIn, EachTwo-weaker, by_bool, each_at, in-contains, in-slice_get, slice_get-in}
use Rattle.xc_text.proofs.ListLemmas.{length-filter-le, map-in, AllPairs-from_each_two}
use Rattle.xc_moves.specs.declared.dance.Move.{Move}
use Rattle.xc_moves.specs.inner.Left.{left}
use Rattle.xc_moves.specs.Moves.{listed, open_items, IsOpenPrimary}
use Rattle.xc_moves.proofs.LeftLemmas.{left_rises, listed_open}
use Rattle.xc_words.specs.declared.bounded.BoundedWords.{BoundedWords}
use Rattle.xc_words.specs.Bounded.{AreOfOptions}
use Rattle.xc_search.specs.Listing.{Wanted}
use Rattle.xc_search.specs.Residuals.{wanted_at, wanted_after}
use Rattle.xc_search.specs.inner.Few.{collected}
use Rattle.xc_search.specs.inner.FewBounded.{AreWatched, AreBoundedUseWords, IsCappedAt, low_left, high_left, clash}
use Rattle.xc_search.specs.inner.Levels.{IsSearchable, residual_of}
use Rattle.xc_search.proofs.ListingLemmas.{two_rise}
use Rattle.xc_search.proofs.Matched.{no_more}
use Rattle.xc_search.proofs.Picked.{has}
use Rattle.xc_search.proofs.ResidualLemmas.{has_left}
use Rattle.xc_search.proofs.LeftProper.{in_wanted, open_in, option_left}
use Rattle.xc_search.proofs.LeftCollected.{collected_known, known_collected, collected_apart}
use Rattle.xc_search.proofs.LeftClash.{no_clash, clashing, clash_back, once_clash}
use Rattle.xc_search.proofs.LeftBounded.{AreBoundedWordsOf, HasBit, IsCapped, full_bit, place, has_on, on_has}

module _ {p : Puzzle} {t : List Move} {is os : List ℕ} {w : BoundedWords} (s : IsSearchable p t)
    (watched : AreWatched p t (length os) is) (whole : os ≡ collected p t (open_items p t))
    (words : AreBoundedUseWords p t is os w) where
  -- ======== The options, by their bits.

  numbered : (o : Numbered) → IsIn (left p t) o → IsIn os o.number
  numbered o h = subst (λ ns. IsIn ns o.number) (sym whole) (known_collected p t s o h)

  option_at : (x k : ℕ) → slice_get os x ≡ Some k → (o : Numbered) × IsIn (left p t) o × (o.number ≡ k)
  option_at x k e = collected_known p t s k (subst (λ ns. IsIn ns k) whole (in-slice_get os x k e))

  uses_at : (o : Numbered) → IsIn (left p t) o → uses_of p o.number ≡ o.uses
  uses_at o h = (option_left p t s.valid o h).uses

  -- each that is left has a bit
  few_left : length (left p t) ≤ length os
  few_left = no_more (λ (o : Numbered) k. o.number ≡ k) (left p t) os (λ o h. (o.number, numbered o h, refl))
      (EachTwo-weaker (λ (o q : Numbered). o.number < q.number)
      (λ (o q : Numbered). (k : ℕ) → o.number ≡ k → q.number ≡ k → ⊥) (left p t)
      (λ o q h k l n e f. omega (arith, l, e, f)) (two_rise 0 (left p t) (left_rises p t)))

  -- two options are apart that clash
  apart_is : (x y : ℕ) (o q : Numbered) → IsIn (left p t) o → IsIn (left p t) q → slice_get os x ≡ Some o.number
      → slice_get os y ≡ Some q.number → has (slice_index w.apart x) y ≡ clash p t o.uses q.uses
  apart_is x y o q h k e f =
      words.apart x y o.number q.number e f ∙ ap₂ (λ us vs. clash p t us vs) (uses_at o h) (uses_at q k)

  -- ======== The items, by their bits.

  open_at : (i j : ℕ) → slice_get is i ≡ Some j → IsOpenPrimary p t j
  open_at i j e = each_at (IsOpenPrimary p t) is i j (recursion_from_All _ _ watched.opened) e

  -- the list of an open item are the options left that hold it
  held_by_list : (i : ℕ) → IsOpenPrimary p t i → length (listed p t i) ≡ length (holding i (left p t))
  held_by_list i h = ap length (listed_open p t s.legal i h.1)

  -- an item that all options hold caps them
  capped_by : (m : ℕ) → watched.most ≡ Some m → IsCapped (residual_of p t) is m
  capped_by m e =
      let c : IsCappedAt p t (length os) m = subst (λ o. IfSome o (IsCappedAt p t (length os))) e watched.capped in
      let j = c.0 in
      let list = held_by_list j c.1 in
      let least = length-filter-le (λ (o : Numbered). holds o j) (left p t) in (
        wanted_at p t j,
        map-in (wanted_at p t) (open_items p t) j (open_in p t j c.1),
        elim (watched.rest j c.1) [
          | inl h ↦ slice_get-in is j (in-contains is j h)
          | inr go ↦ elim go.1 [
            | inl few ↦ absurd (omega (arith, few, c.2, c.3, c.4))
            | inr m ↦ absurd (m.2 c.2)
          ]
        ],
        omega (arith, list, least, few_left, c.2),
        omega (arith, c.3),
      )

  bound_left : (v : Wanted) → IsIn (wanted_after p t) v → HasBit is v
      ⊎ ((v.low ≡ 0) × ((length (holding v.item (left p t)) ≤ v.high) ⊎ IsCapped (residual_of p t) is v.high))
  bound_left v h =
      let at = in_wanted p t v h in
      let low = ap (λ (x : Wanted). x.low) at.1 in
      let high = ap (λ (x : Wanted). x.high) at.1 in
      let list = held_by_list v.item at.0 in
      elim (watched.rest v.item at.0) [
        | inl k ↦ inl (slice_get-in is v.item (in-contains is v.item k))
        | inr go ↦ inr (
          omega (arith, go.0, low),
          elim go.1 [
            | inl few ↦ inl (omega (arith, few, list, high))
            | inr m ↦
                let u = capped_by m.0 m.1 in
                inr (u.0, u.1, u.2, u.3, omega (arith, u.4, m.3, high))
          ],
        )
      ]

  bounds_left : (i : ℕ) (v : Wanted) → IsIn (wanted_after p t) v → slice_get is i ≡ Some v.item
      → (slice_index w.low i ≡ v.low) × (slice_index w.high i ≡ min v.high 64)
  bounds_left i v h e =
      let at = (in_wanted p t v h).1 in
      let few = each_at (λ j. low_left p t j ≤ 64) is i v.item (recursion_from_All _ _ watched.few) e in (
        omega (arith, words.low i v.item e, few, ap (λ (x : Wanted). x.low) at),
        words.high i v.item e ∙ ap (λ (x : Wanted). min x.high 64) at,
      )

  pub are_bounded_words : AreBoundedWordsOf (primary_count p) (residual_of p t) is os w
  are_bounded_words = record {
    few_items = words.few_items;
    few_options = words.few_options;
    distinct = subst (λ ns. AllPairs (λ x y. x ≢ y) ns) (sym whole)
        (AllPairs-from_each_two _ _ (collected_apart p t s));
    numbered = λ o h. slice_get-in os o.number (numbered o h);
    known = option_at;
    wanted = λ i j e.
        (wanted_at p t j, map-in (wanted_at p t) (open_items p t) j (open_in p t j (open_at i j e)), refl);
    bounds = bounds_left;
    bound = bound_left;
    holders = λ i j x o e h f.
        words.holders i x j o.number e f ∙ ap (λ us. is_some (colour_in us j)) (uses_at o h);
    beside = λ x y o q h k e f off. no_clash s o q h (sym (apart_is x y o q h k e f) ∙ off);
    apart = λ x y o q h k e f on. clashing s o q h (sym (apart_is x y o q h k e f) ∙ on);
  }

  -- ======== What a count by words asks of them.

  -- the option of a bit of the full word
  record IsBit (x : ℕ) : Type 0 where
    option : Numbered
    known : IsIn (left p t) option
    at : slice_get os x ≡ Some option.number

  option_bit : (x : ℕ) → bit_at (2 ^ length os - 1) x ≡ 1 → IsBit x
  option_bit x b =
      let k = place os x (full_bit (length os) x b) in
      let o = option_at x k.0 k.1 in
      record { option = o.0; known = o.1; at = k.1 ∙ ap (λ z. Some z) (sym o.2) }

  item_bit : (i : ℕ) → bit_at (2 ^ length is - 1) i ≡ 1 → (j : ℕ) × (slice_get is i ≡ Some j)
  item_bit i b = place is i (full_bit (length is) i b)

  held_bit : (i j x : ℕ) (o : IsBit x) → slice_get is i ≡ Some j → bit_at (slice_index w.holders i) x ≡ 1
      → holds o.option j ≡ true
  held_bit i j x o e b =
      ap (λ us. is_some (colour_in us j)) (sym (uses_at o.option o.known))
      ∙ sym (words.holders i x j o.option.number e o.at) ∙ has_on (slice_index w.holders i) x b

  both_apart : (x y : ℕ) (o : IsBit x) (q : IsBit y) → bit_at (slice_index w.apart x) y ≡ 1
      → bit_at (slice_index w.apart y) x ≡ 1
  both_apart x y o q b =
      let e = sym (apart_is x y o.option q.option o.known q.known o.at q.at) ∙ has_on (slice_index w.apart x) y b in
      on_has (slice_index w.apart y) x (apart_is y x q.option o.option q.known o.known q.at o.at
      ∙ clash_back s o.option q.option o.known q.known e)

  -- of an item that may be held only once more each two options are apart
  once_apart : (j x y : ℕ) (o : IsBit x) (q : IsBit y) → IsOpenPrimary p t j → high_left p t j ≡ 1
      → holds o.option j ≡ true → holds q.option j ≡ true → bit_at (slice_index w.apart x) y ≡ 1
  once_apart j x y o q opened one h k =
      on_has (slice_index w.apart x) y (apart_is x y o.option q.option o.known q.known o.at q.at
      ∙ once_clash s o.option q.option j o.known opened.0.1 one h k)

  many_bit : (i j x : ℕ) (o : IsBit x) → slice_get is i ≡ Some j → holds o.option j ≡ true
      → (high_left p t j == 1) ≡ false → bit_at (slice_index w.many x) i ≡ 1
  many_bit i j x o e h f =
      on_has (slice_index w.many x) i (words.many i x j o.option.number e o.at
      ∙ ap₂ (λ us b. is_some (colour_in us j) && not b) (uses_at o.option o.known) f ∙ ap (λ b. b && true) h)

  pub are_of_options : AreOfOptions w (2 ^ length is - 1) (2 ^ length os - 1)
  are_of_options = record {
    both = λ x y l m a b c. both_apart x y (option_bit x a) (option_bit y b) c;
    some = λ i l b.
        let j = item_bit i b in
        let opened = open_at i j.0 j.1 in
        let some = has_left p t j.0 s.wanted opened.0 opened.1 in
        omega (arith, words.high i j.0 j.1, some);
    known = λ x i l m a b.
        bit_at_ones (length is) i (words.many_known i x (option_bit x a).option.number (option_bit x a).at b);
    held = λ x i l m a b c.
        let j = item_bit i b in
        let o = option_bit x a in
        let h = held_bit i j.0 x o j.1 c in
        by_bool (high_left p t j.0 == 1)
        (λ e. inr (λ y n d apart f.
        let q = option_bit y d in
        once_apart j.0 x y o q (open_at i j.0 j.1) (eqb-true _ _ e) h (held_bit i j.0 y q j.1 f)))
        (λ e. inl (many_bit i j.0 x o j.1 h e));
  }
