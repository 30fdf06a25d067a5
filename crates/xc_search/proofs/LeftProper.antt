-- What moves leave of a problem is proper, as the whole problem is.
use Rattle.std.proofs.Common.{ℕ, zero, suc, ◌≡◌, ◌<◌, ◌≤◌, ◌+◌, List, [], ◌∷◌, true, false, arith, ap}
use Rattle.std.proofs.Common.{refl, inl, inr, subst, sym, ◌∙◌, ◌≢◌, eqb, eqb-true}
use Rattle.std.proofs.lemmas.Bool.{eqb-false}
use Rattle.std.specs.Prelude.{slice_get}
use Rattle.std.specs.List.{range_with_len}
use Rattle.std.proofs.lemmas.List.Elements.{recursion_from_All}
use Rattle.xc_input.specs.Problem.{Puzzle, Numbered, IsValid, IsItem, primary_count, low_at, high_at, holds}
use Rattle.xc_input.specs.Problem.{AreSoundBounds, IsSoundUse}
use Rattle.xc_text.proofs.ListLemmas.{IsIn, EachTwo, EachTwo-map, each_from, each_in, each_at}
use Rattle.xc_text.proofs.ListLemmas.{by_bool, by_option, in-map, map-in, in-filter, filter-in, in-contains}
use Rattle.xc_moves.specs.declared.dance.Move.{Move}
use Rattle.xc_moves.specs.inner.Left.{left}
use Rattle.xc_moves.specs.inner.Rising.{Rises}
use Rattle.xc_moves.specs.Moves.{is_open, is_covered, open_items, IsOpenPrimary}
use Rattle.xc_moves.proofs.MoveLemmas.{primary_pure}
use Rattle.xc_moves.proofs.LeftLemmas.{left_rises, left_free}
use Rattle.xc_search.specs.Listing.{Wanted}
use Rattle.xc_search.specs.Residuals.{wanted_at, wanted_after}
use Rattle.xc_search.specs.inner.Levels.{IsSearchable, residual_of}
use Rattle.xc_search.proofs.ListingLemmas.{IsProper, IsOption, held_by, holds_use, own_colours, apart_from_pairs}
use Rattle.xc_search.proofs.ResidualLemmas.{in_range, left_options, open_if, has_left, open_rises}

-- ======== Numbers that rise are apart.

above_member : (n x : ℕ) (xs : List ℕ) → Rises n xs → IsIn xs x → n < x
above_member n x [] r h = absurd h
above_member n x (y ∷ ys) r (inl q) = omega (arith, r.0, q)
above_member n x (y ∷ ys) r (inr h) = omega (arith, r.0, above_member y x ys r.1 h)

pub rises_apart : (n : ℕ) (xs : List ℕ) → Rises n xs → EachTwo (λ x y. x ≢ y) xs
rises_apart n [] r = tt
rises_apart n (x ∷ xs) r =
    (each_from _ xs (λ y h e. omega (arith, above_member x y xs r.1 h, e)), rises_apart x xs r.1)

-- ======== Open items.

range_in : (i a n : ℕ) → a ≤ i → i < a + n → IsIn (range_with_len a n) i
range_in i a zero h k = absurd (omega (arith, h, k))
range_in i a (suc n) h k = by_bool (eqb a i) (λ e. inl (eqb-true a i e))
    (λ e. inr (range_in i (a + 1) n (omega (arith, h, eqb-false a i e)) (omega (arith, k))))

pub in_open : (p : Puzzle) (t : List Move) (i : ℕ) → IsIn (open_items p t) i → IsOpenPrimary p t i
in_open p t i h =
    let one = in-filter (λ i. is_open i t) (range_with_len 1 (primary_count p)) i h in
    let within = each_in _ _ i (in_range 1 (primary_count p)) one.0 in ((within.0, omega (arith, within.1)), one.1)

pub open_in : (p : Puzzle) (t : List Move) (i : ℕ) → IsOpenPrimary p t i → IsIn (open_items p t) i
open_in p t i h =
    filter-in (λ i. is_open i t) (range_with_len 1 (primary_count p)) i
    (range_in i 1 (primary_count p) h.0.0 (omega (arith, h.0.1))) h.1

-- an item that is left is open, as the Spends leave it
pub in_wanted : (p : Puzzle) (t : List Move) (w : Wanted) → IsIn (wanted_after p t) w → IsOpenPrimary p t w.item
    × (wanted_at p t w.item ≡ w)
in_wanted p t w h =
    let at = in-map (wanted_at p t) (open_items p t) w h in
    let item : at.0 ≡ w.item = ap (λ (v : Wanted). v.item) at.2 in
    (subst (IsOpenPrimary p t) item (in_open p t at.0 at.1), ap (wanted_at p t) (sym item) ∙ at.2)

-- ======== An option that is left holds open primary items alone.

pub option_left : (p : Puzzle) (t : List Move) → IsValid p → (o : Numbered) → IsIn (left p t) o → IsOption p o
option_left p t v o h = each_in (IsOption p) (left p t) o (left_options p v t) h

pub uncovered : (p : Puzzle) (t : List Move) (o : Numbered) (j : ℕ) → IsIn (left p t) o → holds o j ≡ true
    → is_covered j t ≡ false
uncovered p t o j h k = by_bool (is_covered j t)
    (λ c. let free = each_in (λ o. holds o j ≡ false) (left p t) o (left_free p t j c) h in cc) (λ c. c)

pub held_open : (p : Puzzle) (t : List Move) → IsSearchable p t → (o : Numbered) (j : ℕ) → IsIn (left p t) o
    → j ≤ primary_count p → holds o j ≡ true → IsOpenPrimary p t j
held_open p t s o j h l k =
    let option = option_left p t s.valid o h in
    let by = held_by o.uses j k in
    let item = subst (IsItem p) by.2
    (each_in (IsSoundUse p) o.uses by.0 (recursion_from_All _ _ option.sound.sound) by.1).0 in
    ((item.0, l), open_if j t (uncovered p t o j h k) (primary_pure p j t s.legal l))

-- ======== The whole.

bounds_sound : (p : Puzzle) → IsValid p → (i : ℕ) → low_at p i ≤ high_at p i
bounds_sound p v zero = omega arith
bounds_sound p v (suc k) = by_option (slice_get p.bounds k) (λ e. grind arith)
    (λ b e. let sound = each_at AreSoundBounds p.bounds k b (recursion_from_All _ _ v.bounds) e in
    grind (arith, sound))

sound_left : (p : Puzzle) (t : List Move) → IsSearchable p t → (w : Wanted) → IsIn (wanted_after p t) w
    → (w.item ≤ primary_count p) × (w.low ≤ w.high) × (0 < w.high)
sound_left p t s w h =
    let at = in_wanted p t w h in
    let some = has_left p t w.item s.wanted at.0.0 at.0.1 in
    let low = ap (λ (v : Wanted). v.low) at.1 in
    let high = ap (λ (v : Wanted). v.high) at.1 in
    let sound = bounds_sound p s.valid w.item in
    (at.0.0.1, omega (arith, low, high, sound), omega (arith, high, some))

pub proper_left : (p : Puzzle) (t : List Move) → IsSearchable p t → IsProper (primary_count p) (residual_of p t)
proper_left p t s = record {
  options_rise = left_rises p t;
  items_apart = EachTwo-map (λ (v w : Wanted). v.item ≢ w.item) (wanted_at p t) (open_items p t)
      (rises_apart 0 (open_items p t) (open_rises p t));
  sound = sound_left p t s;
  items_left = λ o j h l k.
      (wanted_at p t j, map-in (wanted_at p t) (open_items p t) j (open_in p t j (held_open p t s o j h l k)), refl);
  one_primary = λ o h.
      let one = (option_left p t s.valid o h).sound.one_primary in
      (one.1.item, one.4, holds_use o.uses one.1 (in-contains o.uses one.1 (one.0, one.2, one.3)));
  own = λ o h. own_colours o.uses (apart_from_pairs o.uses (option_left p t s.valid o h).sound.distinct);
}
