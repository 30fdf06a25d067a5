-- Of two options that are left: where they don't clash they agree, and where they do they don't agree, or share an item
-- that may be held only once more. A clash goes both ways.
use Rattle.std.proofs.Common.{ℕ, ◌≡◌, ◌<◌, ◌≤◌, ◌⊎◌, List, [], ◌∷◌, Some, Bool, true, false, arith, ap, refl, sym, ◌∙◌}
use Rattle.std.proofs.Common.{inl, inr, ◌||◌, ◌==◌, eqb-true, eq-eqb, ltb-true, lt-ltb}
use Rattle.std.specs.Prelude.{is_some, nat_lt}
use Rattle.std.specs.List.{list_any}
use Rattle.std.proofs.lemmas.Bool.{and_parts, not-true, ltb-false}
use Rattle.std.proofs.lemmas.Bool.Decides.{nat_tests}
use Rattle.std.proofs.lemmas.List.Elements.{recursion_from_All}
use Rattle.xc_input.specs.Problem.{Puzzle, Numbered, primary_count, holds, colour_at, IsSoundUse}
use Rattle.xc_input.specs.declared.problem.Use.{Use}
use Rattle.xc_text.proofs.ListLemmas.{IsIn, by_bool, by_option, each_in, map-in}
use Rattle.xc_moves.specs.declared.dance.Move.{Move}
use Rattle.xc_moves.specs.inner.Left.{left}
use Rattle.xc_moves.specs.Moves.{agrees, open_items}
use Rattle.xc_search.specs.Listing.{Wanted}
use Rattle.xc_search.specs.Residuals.{wanted_at, wanted_after}
use Rattle.xc_search.specs.inner.Levels.{IsSearchable}
use Rattle.xc_search.specs.inner.FewBounded.{high_left, binds, clash}
use Rattle.xc_search.proofs.Completeness.{Agree}
use Rattle.xc_search.proofs.ListingLemmas.{held_by}
use Rattle.xc_search.proofs.LeftProper.{open_in, held_open, option_left, proper_left}

-- ======== Tests that some element passes.

in_any : {X : Type 0} (f : X → Bool) (xs : List X) → list_any f xs ≡ true → (x : X) × IsIn xs x × (f x ≡ true)
in_any f [] e = cc
in_any {X} f (x ∷ xs) e = grind (arith, nat_tests, in_any f xs)

any_in : {X : Type 0} (f : X → Bool) (xs : List X) (x : X) → IsIn xs x → f x ≡ true → list_any f xs ≡ true
any_in f [] x h e = absurd h
any_in f (y ∷ ys) x (inl q) e = let here : f y ≡ true = ap f q ∙ e in ap (λ b. b || list_any f ys) here
any_in f (y ∷ ys) x (inr h) e = grind (arith, any_in f ys x h e)

-- ======== Colours that agree.

agree_both : (c d : ℕ) → agrees c (Some d) ≡ true → agrees d (Some c) ≡ true
agree_both c d e = grind (arith, eqb-true, ltb-true, lt-ltb, eq-eqb)

agree_colours : (c d : ℕ) → agrees c (Some d) ≡ true → (c ≡ d) × (0 < c)
agree_colours c d e = grind (arith, eqb-true, ltb-true)

agreeing : (c d : ℕ) → c ≡ d → 0 < c → agrees c (Some d) ≡ true
agreeing c d e l = grind (arith, eq-eqb, lt-ltb)

never : {P : Type 0} (b : Bool) → b ≡ true → b ≡ false → P
never b e f = cc

-- ======== A clash, and its use.

-- an option gives an item this colour
record Gives (o : Numbered) (j c : ℕ) : Type 0 where
  own : Use
  known : IsIn o.uses own
  item : own.item ≡ j
  colour : own.colour ≡ c

-- the first option gives an item one colour and the second another, which don't agree, and the item is bound
record IsClash (p : Puzzle) (t : List Move) (o q : Numbered) : Type 0 where
  item : ℕ
  first : ℕ
  second : ℕ
  bound : (nat_lt (primary_count p) item || high_left p t item == 1) ≡ true
  one : colour_at o item ≡ Some first
  two : colour_at q item ≡ Some second
  apart : agrees first (Some second) ≡ false

module _ {p : Puzzle} {t : List Move} (s : IsSearchable p t) where
  own_colour : (o : Numbered) (u : Use) → IsIn (left p t) o → IsIn o.uses u → colour_at o u.item ≡ Some u.colour
  own_colour o u at h = each_in (λ u. colour_at o u.item ≡ Some u.colour) o.uses u ((proper_left p t s).own o at) h

  gives : (o : Numbered) (j c : ℕ) → IsIn (left p t) o → colour_at o j ≡ Some c → Gives o j c
  gives o j c at e =
      let by = held_by o.uses j (ap is_some e) in
      let own : Some by.0.colour ≡ Some c = sym (own_colour o by.0 at by.1) ∙ ap (colour_at o) by.2 ∙ e in
      record { own = by.0; known = by.1; item = by.2; colour = cc own }

  clash_from : (o q : Numbered) → IsIn (left p t) o → IsClash p t o q → clash p t o.uses q.uses ≡ true
  clash_from o q at c =
      let u = gives o c.item c.first at c.one in
      any_in _ o.uses u.own u.known (rw (u.item, u.colour, c.two, c.apart, c.bound) refl)

  clash_of : (o q : Numbered) → IsIn (left p t) o → clash p t o.uses q.uses ≡ true → IsClash p t o q
  clash_of o q at e =
      let u = in_any _ o.uses e in
      let two = and_parts (binds p t u.0) _ u.2 in
      by_option (colour_at q u.0.item)
      (λ f. never _ (rw f refl) (not-true _ two.1))
      (λ d f. record {
        item = u.0.item;
        first = u.0.colour;
        second = d;
        bound = two.0;
        one = own_colour o u.0 at u.1;
        two = f;
        apart = ap (agrees u.0.colour) (sym f) ∙ not-true _ two.1;
      })

  -- it goes both ways
  pub clash_back : (o q : Numbered) → IsIn (left p t) o → IsIn (left p t) q → clash p t o.uses q.uses ≡ true
      → clash p t q.uses o.uses ≡ true
  clash_back o q h k e =
      let c = clash_of o q h e in
      clash_from q o k (record {
        item = c.item;
        first = c.second;
        second = c.first;
        bound = c.bound;
        one = c.two;
        two = c.one;
        apart = by_bool (agrees c.second (Some c.first))
            (λ a. never _ (agree_both c.second c.first a) c.apart) (λ a. a);
      })

  pub no_clash : (o q : Numbered) → IsIn (left p t) o → clash p t o.uses q.uses ≡ false → Agree (primary_count p) o q
  no_clash o q at e j c d l f g = by_bool (agrees c (Some d)) (λ a. agree_colours c d a)
      (λ a. never _ (clash_from o q at (record {
        item = j;
        first = c;
        second = d;
        bound = ap (λ b. b || high_left p t j == 1) (lt-ltb _ _ l);
        one = f;
        two = g;
        apart = a;
      })) e)

  -- two options share an item that may be held only once more
  abbrev pub ShareOne : Numbered → Numbered → Type 0
  ShareOne o q = (v : Wanted) × IsIn (wanted_after p t) v × (v.high ≡ 1) × (holds o v.item ≡ true)
      × (holds q v.item ≡ true)

  pub clashing : (o q : Numbered) → IsIn (left p t) o → clash p t o.uses q.uses ≡ true
      → (Agree (primary_count p) o q → ⊥) ⊎ ShareOne o q
  clashing o q at e =
      let c = clash_of o q at e in
      by_bool (nat_lt (primary_count p) c.item)
      (λ l. inl (λ a.
      let same = a c.item c.first c.second (ltb-true _ _ l) c.one c.two in
      never _ (agreeing c.first c.second same.0 same.1) c.apart))
      (λ l.
      let held : holds o c.item ≡ true = ap is_some c.one in
      let opened = held_open p t s o c.item at (ltb-false _ _ l) held in
      let once : high_left p t c.item == 1 ≡ true = ap (λ b. b || high_left p t c.item == 1) (sym l) ∙ c.bound in
      inr (
        wanted_at p t c.item,
        map-in (wanted_at p t) (open_items p t) c.item (open_in p t c.item opened),
        eqb-true _ _ once,
        held,
        ap is_some c.two,
      ))

  -- two that share such an item clash
  pub once_clash : (o q : Numbered) (j : ℕ) → IsIn (left p t) o → j ≤ primary_count p → high_left p t j ≡ 1
      → holds o j ≡ true → holds q j ≡ true → clash p t o.uses q.uses ≡ true
  once_clash o q j at l one h k =
      by_option (colour_at o j) (λ e. never _ h (ap is_some e)) (λ c e.
      by_option (colour_at q j) (λ f. never _ k (ap is_some f)) (λ d f.
      let u = gives o j c at e in
      let sound = each_in (IsSoundUse p) o.uses u.own
      (recursion_from_All _ _ (option_left p t s.valid o at).sound.sound) u.known in
      let plain : c ≡ 0 = sym u.colour ∙ sound.1 (omega (arith, u.item, l)) in
      clash_from o q at (record {
        item = j;
        first = c;
        second = d;
        bound = bound_once (nat_lt (primary_count p) j) (eq-eqb _ _ one);
        one = e;
        two = f;
        apart = rw plain refl;
      })))
    where
      bound_once : (a : Bool) {b : Bool} → b ≡ true → (a || b) ≡ true
      bound_once true e = refl
      bound_once false e = e
