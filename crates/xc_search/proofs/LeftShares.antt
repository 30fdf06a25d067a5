-- Of two options that are left, the one stays where the other is taken unless they share an item on which they don't
-- agree.
use Rattle.std.proofs.Common.{◌≡◌, ◌<◌, ◌≤◌, ◌-◌, List, [], ◌∷◌, Some, Bool, not, arith, ap, refl, leb, leb-true}
use Rattle.std.proofs.Common.{le-ltb, true}
use Rattle.std.specs.Prelude.{is_some}
use Rattle.std.specs.List.{AllByRecursion, list_all, list_any}
use Rattle.std.proofs.lemmas.Bool.{leb-false}
use Rattle.std.proofs.lemmas.List.Elements.{recursion_from_All}
use Rattle.xc_input.specs.Problem.{Puzzle, Numbered, primary_count, high_at, holds, colour_at}
use Rattle.xc_input.specs.Problem.{IsSoundUse}
use Rattle.xc_input.specs.declared.problem.Use.{Use}
use Rattle.xc_text.proofs.ListLemmas.{IsIn, each_both, by_bool, by_option}
use Rattle.xc_moves.specs.declared.dance.Move.{Move}
use Rattle.xc_moves.specs.inner.Left.{left}
use Rattle.xc_moves.specs.Moves.{agrees, spends}
use Rattle.xc_search.specs.Listing.{Wanted, stays, may_stay}
use Rattle.xc_search.specs.Residuals.{wanted_at, wanted_after}
use Rattle.xc_search.specs.Once.{IsOnce}
use Rattle.xc_search.specs.inner.Levels.{IsSearchable, residual_of, item_left}
use Rattle.xc_search.specs.inner.Few.{share}
use Rattle.xc_search.proofs.ListingLemmas.{own_colours, apart_from_pairs}
use Rattle.xc_search.proofs.ResidualLemmas.{found_wanted, untouched, not_found, has_left}
use Rattle.xc_search.proofs.LeftProper.{option_left, held_open}

-- where the test of a use is the opposite of the other's, some use fails the one where one passes the other
some_fails : (f g : Use → Bool) (us : List Use) → AllByRecursion (λ u. not (f u) ≡ g u) us
    → not (list_all f us) ≡ list_any g us
some_fails f g [] a = refl
some_fails f g (u ∷ us) a = grind (arith, some_fails f g us a.1)

-- one that is to be held once more may not be held by two
once_stays : (u : Use) (q : Numbered) (w : Wanted) → w.high ≡ 1 → u.colour ≡ 0
    → not (may_stay (Some w) u q) ≡ not (agrees u.colour (colour_at q u.item))
once_stays u q w h c = by_option (colour_at q u.item) (λ e. grind (arith, le-ltb 1 w.high (omega (arith, h))))
    (λ d e. grind (arith, le-ltb 1 w.high (omega (arith, h))))

module _ (p : Puzzle) (t : List Move) (s : IsSearchable p t) (once : IsOnce p) (o q : Numbered)
    (at : IsIn (left p t) o) where
  abbrev Fits : Use → Type 0
  Fits u = not (may_stay (item_left (residual_of p t) u.item) u q) ≡ not (agrees u.colour (colour_at q u.item))

  primary_use : (u : Use) → u.item ≤ primary_count p → u.colour ≡ 0 → colour_at o u.item ≡ Some u.colour → Fits u
  primary_use u h c e =
      let held : holds o u.item ≡ true = ap is_some e in
      let opened = held_open p t s o u.item at h held in
      let some = has_left p t u.item s.wanted opened.0 opened.1 in
      let high : high_at p u.item - spends u.item t ≡ 1 = omega (arith, some, (once u.item opened.0).1) in
      rw (found_wanted p t u.item opened.0 opened.1) (once_stays u q (wanted_at p t u.item) high c)

  second_use : (u : Use) → primary_count p < u.item → Fits u
  second_use u h = rw (untouched u.item (wanted_after p t) (not_found p t u.item h)).0 refl

  one_use : (u : Use) → IsSoundUse p u → colour_at o u.item ≡ Some u.colour → Fits u
  one_use u sound own = by_bool (leb u.item (primary_count p))
      (λ l. let h = leb-true _ _ l in primary_use u h (sound.1 h) own) (λ l. second_use u (leb-false _ _ l))

  pub stays_shares : not (stays (residual_of p t) o q) ≡ share o.uses q.uses
  stays_shares =
      let option = option_left p t s.valid o at in
      some_fails (λ u. may_stay (item_left (residual_of p t) u.item) u q)
      (λ u. not (agrees u.colour (colour_at q u.item))) o.uses
      (each_both (IsSoundUse p) (λ u. colour_at o u.item ≡ Some u.colour) Fits o.uses one_use
      (recursion_from_All _ _ option.sound.sound)
      (own_colours o.uses (apart_from_pairs o.uses option.sound.distinct)))
