-- The lists of the open items have each option that is left once, at its first primary item.
use Rattle.std.proofs.Common.{ℕ, ◌≡◌, ◌≤◌, ◌≢◌, List, [], ◌∷◌, true, false, arith, ap, refl, inl, inr, subst, sym}
use Rattle.std.proofs.Common.{◌∙◌, eqb, eqb-true, eq-eqb, leb, leb-true, map}
use Rattle.std.specs.Prelude.{is_some}
use Rattle.std.proofs.lemmas.Bool.{leb-false}
use Rattle.xc_input.specs.Problem.{Puzzle, Numbered, primary_count, holds, colour_in}
use Rattle.xc_input.specs.declared.problem.Use.{Use}
use Rattle.xc_text.proofs.ListLemmas.{IsIn, EachTwo, EachTwo-flat_map, EachTwo-weaker, by_bool, in-map}
use Rattle.xc_text.proofs.ListLemmas.{in-contains, map-in, in-filter, filter-in, in-flat_map, flat_map-in}
use Rattle.xc_moves.specs.declared.dance.Move.{Move}
use Rattle.xc_moves.specs.inner.Left.{left}
use Rattle.xc_moves.specs.Moves.{AreLegal, listed, open_items, IsOpenPrimary}
use Rattle.xc_moves.proofs.MoveLemmas.{rises_filter, rises_listed}
use Rattle.xc_moves.proofs.LeftLemmas.{left_rises, listed_open}
use Rattle.xc_search.specs.inner.Levels.{IsSearchable}
use Rattle.xc_moves.specs.Commits.{first_primary}
use Rattle.xc_search.specs.inner.Few.{owned, collected}
use Rattle.xc_search.proofs.ListingLemmas.{same_number, holds_use}
use Rattle.xc_search.proofs.ResidualLemmas.{open_rises}
use Rattle.xc_search.proofs.LeftProper.{rises_apart, in_open, open_in, held_open, option_left}

-- ======== The first primary item of an option that has one.

first_held : (p : Puzzle) (us : List Use) (u : Use) → IsIn us u → u.item ≤ primary_count p
    → (first_primary p us ≤ primary_count p) × (is_some (colour_in us (first_primary p us)) ≡ true)
first_held p [] u h l = absurd h
first_held p (v ∷ us) u h l = by_bool (leb v.item (primary_count p))
    (λ e. rw e (leb-true _ _ e, holds_use (v ∷ us) v (inl refl)))
    (λ e. later e (first_held p us u (rest e h) l))
  where
    rest : leb v.item (primary_count p) ≡ false → IsIn (v ∷ us) u → IsIn us u
    rest e (inl q) = absurd (omega (arith, leb-false _ _ e, l, ap (λ (w : Use). w.item) q))
    rest e (inr k) = k

    later : leb v.item (primary_count p) ≡ false
        → (first_primary p us ≤ primary_count p) × (is_some (colour_in us (first_primary p us)) ≡ true)
        → (first_primary p (v ∷ us) ≤ primary_count p)
        × (is_some (colour_in (v ∷ us) (first_primary p (v ∷ us))) ≡ true)
    later e k = grind (arith, leb-false _ _ e)

-- ======== What is collected.

-- the numbers that are collected of an item
abbrev of_item : Puzzle → List Move → ℕ → List ℕ
of_item p t i = map (λ o. o.number) (owned p i (listed p t i))

-- an option that is left, whose first primary item is this one
record IsOwned (p : Puzzle) (t : List Move) (i k : ℕ) : Type 0 where
  option : Numbered
  known : IsIn (left p t) option
  number : option.number ≡ k
  first : first_primary p option.uses ≡ i

is_owned : (p : Puzzle) (t : List Move) → AreLegal p t → (i k : ℕ) → IsOpenPrimary p t i → IsIn (of_item p t i) k
    → IsOwned p t i k
is_owned p t l i k opened h =
    let at = in-map (λ (o : Numbered). o.number) (owned p i (listed p t i)) k h in
    let one = in-filter (λ (o : Numbered). eqb (first_primary p o.uses) i) (listed p t i) at.0 at.1 in
    let held = in-filter (λ o. holds o i) (left p t) at.0
    (subst (λ os. IsIn os at.0) (listed_open p t l i opened.1) one.0) in
    record { option = at.0; known = held.0; number = at.2; first = eqb-true _ _ one.1 }

-- each number is of an option that is left
pub collected_known : (p : Puzzle) (t : List Move) → IsSearchable p t → (k : ℕ)
    → IsIn (collected p t (open_items p t)) k → (o : Numbered) × IsIn (left p t) o × (o.number ≡ k)
collected_known p t s k h =
    let at = in-flat_map (of_item p t) (open_items p t) k h in
    let own = is_owned p t s.legal at.0 k (in_open p t at.0 at.1) at.2 in (own.option, own.known, own.number)

-- and each option's number is there
pub known_collected : (p : Puzzle) (t : List Move) → IsSearchable p t → (o : Numbered) → IsIn (left p t) o
    → IsIn (collected p t (open_items p t)) o.number
known_collected p t s o h =
    let one = (option_left p t s.valid o h).sound.one_primary in
    let within = in-contains o.uses one.1 (one.0, one.2, one.3) in
    let i = first_primary p o.uses in
    let first = first_held p o.uses one.1 within one.4 in
    let opened = held_open p t s o i h first.0 first.1 in
    let among = subst (λ os. IsIn os o) (sym (listed_open p t s.legal i opened.1))
    (filter-in (λ o. holds o i) (left p t) o h first.1) in
    let own = filter-in (λ (x : Numbered). eqb (first_primary p x.uses) i) (listed p t i) o among (eq-eqb i i refl) in
    flat_map-in (of_item p t) (open_items p t) i o.number (open_in p t i opened)
    (map-in (λ (x : Numbered). x.number) _ o own)

-- once
of_item_apart : (p : Puzzle) (t : List Move) (i : ℕ) → EachTwo (λ x y. x ≢ y) (of_item p t i)
of_item_apart p t i = rises_apart 0 _ (rises_filter _ 0 (listed p t i) (rises_listed p t i))

pub collected_apart : (p : Puzzle) (t : List Move) → IsSearchable p t
    → EachTwo (λ x y. x ≢ y) (collected p t (open_items p t))
collected_apart p t s =
    EachTwo-flat_map (λ x y. x ≢ y) (of_item p t) (open_items p t) (λ i h. of_item_apart p t i)
    (EachTwo-weaker (λ a b. a ≢ b) (λ a b. (x y : ℕ) → IsIn (of_item p t a) x → IsIn (of_item p t b) y → x ≢ y)
    (open_items p t) (λ a b h k apart x y m n e.
    let one = is_owned p t s.legal a x (in_open p t a h) m in
    let two = is_owned p t s.legal b y (in_open p t b k) n in
    let same = same_number 0 (left p t) one.option two.option (left_rises p t) one.known two.known
    (one.number ∙ e ∙ sym two.number) in
    apart (sym one.first ∙ ap (λ (o : Numbered). first_primary p o.uses) same ∙ two.first))
    (rises_apart 0 (open_items p t) (open_rises p t)))
