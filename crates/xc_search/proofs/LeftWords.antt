-- The words of the open items and the options that are left are those of what is left.
use Rattle.std.proofs.Common.{ℕ, zero, suc, ◌≡◌, ◌≢◌, List, [], ◌∷◌, Some, arith, ap, subst, sym, ◌∙◌, map}
use Rattle.std.specs.Prelude.{slice_get, AllPairs, is_some}
use Rattle.std.proofs.lemmas.List.{length-map}
use Rattle.xc_input.specs.Problem.{Puzzle, Numbered, uses_of, colour_in}
use Rattle.xc_text.proofs.ListLemmas.{IsIn, in-slice_get, slice_get-in, AllPairs-from_each_two}
use Rattle.xc_moves.specs.declared.dance.Move.{Move}
use Rattle.xc_moves.specs.inner.Left.{left}
use Rattle.xc_moves.specs.Moves.{open_items}
use Rattle.xc_words.specs.declared.words.Words.{Words}
use Rattle.xc_search.specs.Listing.{Wanted}
use Rattle.xc_search.specs.Residuals.{wanted_at, wanted_after}
use Rattle.xc_search.specs.Once.{IsOnce}
use Rattle.xc_search.specs.inner.Levels.{IsSearchable, residual_of}
use Rattle.xc_search.specs.inner.Few.{share, collected, AreUseWords, AreWordsOf}
use Rattle.xc_search.proofs.ResidualLemmas.{has_left}
use Rattle.xc_search.proofs.LeftProper.{in_wanted, option_left}
use Rattle.xc_search.proofs.LeftShares.{stays_shares}
use Rattle.xc_search.proofs.LeftCollected.{collected_known, known_collected, collected_apart}

-- the item at a place of what is left is the open one there
item_at : (p : Puzzle) (t : List Move) (is : List ℕ) (i : ℕ) (w : Wanted)
    → slice_get (map (wanted_at p t) is) i ≡ Some w → slice_get is i ≡ Some w.item
item_at p t [] i w e = cc
item_at p t (j ∷ is) zero w e = let same : wanted_at p t j ≡ w = cc in ap (λ (v : Wanted). Some v.item) same
item_at p t (j ∷ is) (suc i) w e = item_at p t is i w e

module _ {p : Puzzle} {t : List Move} {os : List ℕ} {w : Words} (s : IsSearchable p t) (once : IsOnce p)
    (whole : os ≡ collected p t (open_items p t))
    (words : AreUseWords p (open_items p t) os w) where
  wanted_once : (v : Wanted) → IsIn (wanted_after p t) v → (v.low ≡ 1) × (v.high ≡ 1)
  wanted_once v h =
      let at = in_wanted p t v h in
      let some = has_left p t v.item s.wanted at.0.0 at.0.1 in
      let one = once v.item at.0.0 in
      let low = ap (λ (x : Wanted). x.low) at.1 in
      let high = ap (λ (x : Wanted). x.high) at.1 in
      (omega (arith, low, high, some, one), omega (arith, low, high, some, one))

  uses_at : (j : ℕ) (o : Numbered) → slice_get (left p t) j ≡ Some o → uses_of p o.number ≡ o.uses
  uses_at j o e = (option_left p t s.valid o (in-slice_get (left p t) j o e)).uses

  pub are_words_of : AreWordsOf (residual_of p t) os w
  are_words_of = record {
    few_items = omega (arith, words.few_items, length-map (open_items p t) (wanted_at p t));
    few_options = words.few_options;
    once = λ v i e. wanted_once v (in-slice_get (wanted_after p t) i v e);
    distinct = subst (λ ns. AllPairs (λ x y. x ≢ y) ns) (sym whole)
        (AllPairs-from_each_two _ _ (collected_apart p t s));
    numbered = λ i o e. slice_get-in os o.number
        (subst (λ ns. IsIn ns o.number) (sym whole) (known_collected p t s o (in-slice_get (left p t) i o e)));
    known = λ x k e.
        let at = collected_known p t s k (subst (λ ns. IsIn ns k) whole (in-slice_get os x k e)) in
        let place = slice_get-in (left p t) at.0 at.1 in (place.0, at.0, place.1, at.2);
    alone_fits = words.alone_fits;
    apart_fits = words.apart_fits;
    holders = λ i j x v o e f g.
        words.holders i x v.item o.number (item_at p t (open_items p t) i v e) g
        ∙ ap (λ us. is_some (colour_in us v.item)) (uses_at j o f);
    alone = λ i j x v o e f g.
        words.alone i x v.item o.number (item_at p t (open_items p t) i v e) g
        ∙ ap (λ us. is_some (colour_in us v.item)) (uses_at j o f);
    apart = λ i j x y o q e f g h.
        words.apart x y o.number q.number g h
        ∙ ap (λ us. share us (uses_of p q.number)) (uses_at i o e) ∙ ap (λ us. share o.uses us) (uses_at j q f)
        ∙ sym (stays_shares p t s once o q (in-slice_get (left p t) i o e));
  }
