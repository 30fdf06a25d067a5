-- What a disjunction of tests says.
use Rattle.std.proofs.Common.{◌≡◌, Bool, true, false, refl, ap, ◌∙◌}
use Rattle.std.specs.Prelude.{not, ◌||◌}

pub implied : (a b : Bool) → (a ≡ true → b ≡ true) → (not a || b) ≡ true
implied true b h = h refl
implied false b h = refl

pub implied_by_two : (a b c : Bool) → (a ≡ true → b ≡ true → c ≡ true) → (not a || (not b || c)) ≡ true
implied_by_two true true c h = h refl refl
implied_by_two true false c h = refl
implied_by_two false b c h = refl

pub one_of_two : (a b c : Bool) → (a ≡ true → b ≡ false → c ≡ true) → (not a || (b || c)) ≡ true
one_of_two true true c h = refl
one_of_two true false c h = h refl refl
one_of_two false b c h = refl

pub not_both : (a b : Bool) → (a ≡ true → b ≡ true → ⊥) → (not a || not b) ≡ true
not_both true true h = absurd (h refl refl)
not_both true false h = refl
not_both false b h = refl

pub not_so : (a : Bool) → (a ≡ true → ⊥) → not a ≡ true
not_so true h = absurd (h refl)
not_so false h = refl

pub or_one : (a x : Bool) → a ≡ x → x ≡ true → (a || false) ≡ true
or_one a x e h = ap (λ (z : Bool). z || false) e ∙ ap (λ (z : Bool). z || false) h

pub or_two : (a b x y : Bool) → a ≡ x → b ≡ y → (x || y) ≡ true → (a || (b || false)) ≡ true
or_two a b true y e f h = ap (λ (z : Bool). z || (b || false)) e
or_two a b false y e f h = ap (λ (z : Bool). z || (b || false)) e ∙ or_one b y f h

pub or_three : (a b c x y z : Bool) → a ≡ x → b ≡ y → c ≡ z → (x || (y || z)) ≡ true
    → (a || (b || (c || false))) ≡ true
or_three a b c true y z e f g h = ap (λ (w : Bool). w || (b || (c || false))) e
or_three a b c false y z e f g h = ap (λ (w : Bool). w || (b || (c || false))) e ∙ or_two b c y z f g h
