-- Each kind of clause of a coloured item is true of each cover.
use Rattle.std.proofs.Common.{ℕ, ◌≡◌, ◌≢◌, ◌<◌, ◌≤◌, Bool, true, List, Option, Some, None, refl, sym}
use Rattle.std.proofs.Common.{◌∙◌}
use Rattle.std.proofs.Common.{arith, subst}
use Rattle.std.specs.Prelude.{not, ◌||◌}
use Rattle.std.specs.List.{list_any}
use Rattle.std.proofs.lemmas.Bool.{leb-true, le-leb, false≢true}
use Rattle.xc_input.specs.Problem.{Puzzle, IsSecondary, uses_of, colour_in}
use Rattle.xc_input.specs.Cover.{IsCover}
use Rattle.xc_text.proofs.ListLemmas.{contains-in}
use Rattle.xc_none.specs.Meanings.{is_chosen, is_placed, place_of}
use Rattle.xc_none.proofs.Tests.{implied, not_both}
use Rattle.xc_none.proofs.Counts.{in-passes, passes-in}
use Rattle.xc_none.proofs.ChainTruths.{in-set}

-- whether an option that gives item i a colour is at a place up to r
abbrev pub up_to : Puzzle → ℕ → ℕ → ℕ → Bool
up_to p i r o = is_placed p r o (colour_in (uses_of p o) i)

pub enter_true : (p : Puzzle) (s : List ℕ) (i o c r : ℕ) → colour_in (uses_of p o) i ≡ Some c → place_of p o c ≤ r
    → (not (is_chosen s o) || list_any (up_to p i r) s) ≡ true
enter_true p s i o c r e h = implied (is_chosen s o) (list_any (up_to p i r) s) (λ f.
    in-passes (up_to p i r) s o (in-set s o f)
    (subst (λ (x : Option ℕ). is_placed p r o x ≡ true) (sym e) (le-leb (place_of p o c) r h)))

further : (p : Puzzle) (q r o : ℕ) (c : Option ℕ) → q ≤ r → is_placed p q o c ≡ true → is_placed p r o c ≡ true
further p q r o None h e = absurd (false≢true e)
further p q r o (Some c) h e = le-leb (place_of p o c) r (omega (arith, h, leb-true (place_of p o c) q e))

pub on_true : (p : Puzzle) (s : List ℕ) (i q r : ℕ) → q ≤ r
    → (not (list_any (up_to p i q) s) || list_any (up_to p i r) s) ≡ true
on_true p s i q r h = implied (list_any (up_to p i q) s) (list_any (up_to p i r) s) (λ e.
    let found = passes-in (up_to p i q) s e in
    in-passes (up_to p i r) s found.0 found.1
    (further p q r found.0 (colour_in (uses_of p found.0) i) h found.2))

-- the colour of what is placed
placed : (p : Puzzle) (r o : ℕ) (x : Option ℕ) → is_placed p r o x ≡ true
    → (c : ℕ) × (x ≡ Some c) × (place_of p o c ≤ r)
placed p r o None e = absurd (false≢true e)
placed p r o (Some c) e = (c, refl, leb-true (place_of p o c) r e)

-- options of one colour are at one place
one_place : (p : Puzzle) (a b c : ℕ) → 0 < c → place_of p a c ≡ place_of p b c
one_place p a b c h = grind (arith)

pub apart_true : (p : Puzzle) (s : List ℕ) (i o c q : ℕ) → colour_in (uses_of p o) i ≡ Some c → q < place_of p o c
    → IsSecondary p i → IsCover p s → (not (is_chosen s o) || not (list_any (up_to p i q) s)) ≡ true
apart_true p s i o c q e h second cover = not_both (is_chosen s o) (list_any (up_to p i q) s) (λ f g.
    let found = passes-in (up_to p i q) s g in
    let other = placed p q found.0 (colour_in (uses_of p found.0) i) found.2 in
    let d : ℕ = other.0 in
    let ne : found.0 ≢ o = λ same.
    let again : colour_in (uses_of p o) i ≡ Some d =
    subst (λ (x : ℕ). colour_in (uses_of p x) i ≡ Some d) same other.1 in
    let is : c ≡ d = let z : Some c ≡ Some d = sym e ∙ again in cc in
    let low : place_of p o d ≤ q = subst (λ (x : ℕ). place_of p x d ≤ q) same other.2 in
    let low2 : place_of p o c ≤ q = subst (λ (x : ℕ). place_of p o x ≤ q) (sym is) low in
    absurd (omega (arith, low2, h)) in
    let both : (d ≡ c) × (0 < d) =
    cover.agree found.0 o i d c (contains-in s found.0 found.1) (contains-in s o
    (in-set s o f)) ne second other.1 e in
    let low : place_of p o d ≤ q =
    subst (λ (x : ℕ). x ≤ q) (one_place p found.0 o d both.1) other.2 in
    let low2 : place_of p o c ≤ q = subst (λ (x : ℕ). place_of p o x ≤ q) both.0 low in
    absurd (omega (arith, low2, h)))
