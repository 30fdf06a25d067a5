-- The items and options that moves leave, and commits of uses.
use Rattle.std.proofs.Common.{ℕ, ◌≡◌, ◌+◌, ◌<◌, ◌≤◌, Bool, true, false, not, ◌&&◌, List, [], ◌∷◌, Some, None, refl, ◌∙◌}
use Rattle.std.proofs.Common.{arith, eq-eqb, sym, subst, inl, inr, take, drop, Option, ap, ne_eqb, IsTrue, ◌++◌, length}
use Rattle.std.proofs.Common.{get_or, drop-cons}
use Rattle.std.specs.Prelude.{is_some, filter}
use Rattle.std.specs.List.{AllByRecursion}
use Rattle.std.proofs.lemmas.Bool.{lt-ltb, and_parts, not-true}
use Rattle.std.proofs.Math.Bool.{and-true, and-false}
use Rattle.std.proofs.lemmas.Bool.Decides.{eqb_tells}
use Rattle.std.proofs.lemmas.List.Elements.{filter_agree}
use Rattle.xc_input.specs.Problem.{Puzzle, Numbered, holds, colour_at, holding}
use Rattle.xc_input.specs.declared.problem.Use.{Use}
use Rattle.xc_text.proofs.ListLemmas.{each_weaker, each-filter, each_passes, each_of_all, filter_same, filter_both}
use Rattle.xc_text.proofs.ListLemmas.{filter_swap, keep_all}
use Rattle.xc_moves.specs.declared.dance.Move.{Move}
use Rattle.xc_moves.specs.declared.dance.Move.TheVariants.{Cover, Purify, Tweak, Spend}
use Rattle.xc_moves.specs.Moves.{is_open, is_covered, purified, AreLegal, agrees, listed, without, is_among}
use Rattle.xc_moves.specs.Moves.{other_colours, is_other_colour}
use Rattle.xc_moves.specs.inner.Left.{left}
use Rattle.xc_moves.specs.Dancing.{Dancing}
use Rattle.xc_moves.specs.Commits.{CanStand, after_use, after_uses}
use Rattle.xc_moves.proofs.MoveLemmas.{by_test, rises_filter, options_rise, Rises, Rises-weaker, numbers}

-- ======== Open items.

-- an item is open where it is neither covered nor purified
pub open_is : (t : List Move) (i : ℕ) → (not (is_covered i t) && not (is_some (purified i t))) ≡ is_open i t
open_is [] i = grind (arith, and-false)
open_is (Cover j ∷ t) i = grind (arith, and-false, open_is t i)
open_is (_ ∷ t) i = grind (arith, and-false, open_is t i)

pub open_uncovered : (i : ℕ) (t : List Move) → is_open i t ≡ true → is_covered i t ≡ false
open_uncovered i t e = not-true (is_covered i t) (and_parts _ _ (open_is t i ∙ e)).0

pub open_unpurified : (i : ℕ) (t : List Move) → is_open i t ≡ true → purified i t ≡ None
open_unpurified i t e = grind (arith, open_is t i)

pub open_or_covered : (i : ℕ) (t : List Move) → purified i t ≡ None → is_open i t ≡ not (is_covered i t)
open_or_covered i t e = grind (arith, open_is t i, and-true (not (is_covered i t)))

-- ======== What holds of the options left.

-- a fact of all options left is kept by a move
pub kept : (P : Numbered → Type 0) (p : Puzzle) (t : List Move) (m : Move) → AllByRecursion P (left p t)
    → AllByRecursion P (left p (m ∷ t))
kept P p t (Tweak j) a = by_test (AllByRecursion P) (is_open j t) (each-filter P _ (left p t) a) a
kept P p t (Spend j) a = a
kept P p t _ a = each-filter P _ (left p t) a

-- no option left holds a covered item
pub left_free : (p : Puzzle) (t : List Move) (j : ℕ) → is_covered j t ≡ true
    → AllByRecursion (λ o. holds o j ≡ false) (left p t)
left_free p [] j e = cc
left_free p (Cover k ∷ t) j e = elim (eqb_tells j k) [
  | inl same ↦ subst (λ n. AllByRecursion (λ o. holds o n ≡ false) (left p (Cover k ∷ t))) (sym same.1)
      (each_weaker _ _ _ (λ o h. not-true (holds o k) h) (each_passes (λ o. not (holds o k)) (left p t)))
  | inr other ↦ kept _ p t (Cover k) (left_free p t j (rw other.0 at e))
]
left_free p (m ∷ t) j e = kept _ p t m (left_free p t j e)

-- each option left agrees with a purified item
pub left_agrees : (p : Puzzle) (t : List Move) (j d : ℕ) → purified j t ≡ Some d
    → AllByRecursion (λ o. agrees d (colour_at o j) ≡ true) (left p t)
left_agrees p [] j d e = cc
left_agrees p (Purify k c ∷ t) j d e = elim (eqb_tells j k) [
  | inl same ↦
      let colour : c ≡ d = (let now = rw same.0 at e in cc) in
      subst (λ n. AllByRecursion (λ o. agrees d (colour_at o n) ≡ true) (left p (Purify k c ∷ t))) (sym same.1)
      (subst (λ n. AllByRecursion (λ o. agrees n (colour_at o k) ≡ true) (left p (Purify k c ∷ t))) colour
      (each_passes (λ o. agrees c (colour_at o k)) (left p t)))
  | inr other ↦ kept _ p t (Purify k c) (left_agrees p t j d (rw other.0 at e))
]
left_agrees p (m ∷ t) j d e = kept _ p t m (left_agrees p t j d e)

-- ======== An open item's list is the options left that hold it.

-- ---- numbers that rise

pub left_rises : (p : Puzzle) (t : List Move) → Rises 0 (numbers (left p t))
left_rises p [] = grind (arith, rises_filter, options_rise)
left_rises p (m ∷ t) = grind (arith, rises_filter, left_rises p t)

above : (n : ℕ) (os : List Numbered) → Rises n (numbers os) → AllByRecursion (λ o. n < o.number) os
above n [] r = tt
above n (o ∷ os) r = (r.0, above n os (Rises-weaker n o.number (numbers os) (omega (arith, r.0)) r.1))

-- an option below all of a list isn't in it
not_among : (x : Numbered) (n : ℕ) (os : List Numbered) → x.number ≤ n → Rises n (numbers os) → is_among os x ≡ false
not_among x n [] h r = refl
not_among x n (o ∷ os) h r = grind (arith, ne_eqb, not_among x o.number os (omega (arith, r.0)) r.1)

-- an option below all of a list makes no difference there
passed_over : (x : Numbered) (gone os : List Numbered) → Rises x.number (numbers os)
    → without (x ∷ gone) os ≡ without gone os
passed_over x gone os r = grind (arith, filter_same, each_weaker, ne_eqb, above x.number os r)

pub without_filter : (q : Numbered → Bool) (n : ℕ) (os : List Numbered) → Rises n (numbers os)
    → without (filter q os) os ≡ filter (λ o. not (q o)) os
without_filter q n [] r = refl
without_filter q n (x ∷ os) r =
    grind (arith, eq-eqb, passed_over, not_among, rises_filter, without_filter q x.number os r.1)

pub without_first : (n : ℕ) (os : List Numbered) → Rises n (numbers os) → without (take 1 os) os ≡ drop 1 os
without_first n [] r = refl
without_first n (x ∷ os) r = grind (arith, eq-eqb, passed_over, keep_all, each_of_all)

-- ---- the lists

-- two filters of the options left: what passes q goes from those that hold i
gone : (q : Numbered → Bool) (i : ℕ) (os : List Numbered) → Rises 0 (numbers os)
    → without (filter q os) (holding i os) ≡ holding i (filter (λ o. not (q o)) os)
gone q i os r = filter_swap _ _ os ∙ ap (holding i) (without_filter q 0 os r)

agree_test : (c : ℕ) (o : Option ℕ) → 0 < c → not (is_some o && is_other_colour c o) ≡ agrees c o
agree_test c o h = grind (arith, lt-ltb)

purified_gone : (i j c : ℕ) (os : List Numbered) → 0 < c → Rises 0 (numbers os)
    → without (other_colours j c (holding j os)) (holding i os) ≡ holding i (filter (λ o. agrees c (colour_at o j)) os)
purified_gone i j c os h r =
    let gone = gone (λ o. holds o j && is_other_colour c (colour_at o j)) i os r in
    let agree = filter_agree _ _ (λ o. agree_test c (colour_at o j) h) os in grind (arith, filter_both)

pub listed_open : (p : Puzzle) (t : List Move) → AreLegal p t → (i : ℕ) → IsTrue (is_open i t)
    → listed p t i ≡ holding i (left p t)
listed_open p [] legal i opened = refl
listed_open p (Cover j ∷ t) legal i opened = grind (arith, left_rises, gone, left, listed_open p t legal.1)
listed_open p (Purify j c ∷ t) legal i opened =
    let at = listed_open p t legal.1 in
    grind (arith, at i, at j, left_rises p t, purified_gone i j c (left p t))
listed_open p (Tweak j ∷ t) legal i opened = elim (eqb_tells i j) [
  | inl same ↦
      let j_open : is_open j t ≡ true = ap (λ k. is_open k t) (sym same.1) ∙ opened in
      rw (same.0, j_open, same.1) (ap (drop 1) (listed_open p t legal.1 j j_open)
      ∙ sym (without_first 0 (holding j (left p t)) (rises_filter _ 0 _ (left_rises p t)))
      ∙ filter_swap _ _ (left p t))
  | inr other ↦
      let at_i = listed_open p t legal.1 i opened in
      let at_j = listed_open p t legal.1 j in grind (arith, filter_swap)
]
listed_open p (Spend j ∷ t) legal i opened = listed_open p t legal.1 i opened

-- ======== Commits of uses, one after another: what is legal and fits behind them did before.

-- what may stand behind uses may stand before them
pub stood_before : (p : Puzzle) (room : ℕ) (us : List Use) (t : List Move) → CanStand p room (after_uses p us t)
    → CanStand p room t
stood_before p room [] t c = c
stood_before p room (u ∷ us) t c = grind (arith, stood_before p room us (after_use p u t) c)

pub after_uses-append : (p : Puzzle) (us vs : List Use) (t : List Move)
    → after_uses p (us ++ vs) t ≡ after_uses p vs (after_uses p us t)
after_uses-append p [] vs t = refl
after_uses-append p (u ∷ us) vs t = after_uses-append p us vs (after_use p u t)

-- the state once these uses were committed
abbrev pub committed : List Use → Dancing → Dancing
committed us s = record s { trail = after_uses s.puzzle us s.trail }

-- in state s the use at place k comes first
pub at_use : (s : Dancing) (us : List Use) (k : ℕ) (d : Use) → k < length us →
    committed (drop k us) s ≡ committed (drop (k + 1) us)
    (record s { trail = after_use s.puzzle (get_or us k d) s.trail })
at_use s us k d h = grind (arith, drop-cons)
