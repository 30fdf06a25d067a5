-- The open items whose bounds have to be watched, as they are collected.
use Rattle.std.proofs.Common.{ℕ, ◌≡◌, ◌<◌, ◌≤◌, ◌+◌, ◌∷◌, ◌⊎◌, inl, inr, [], List, Option, Some, None, refl, sym}
use Rattle.std.proofs.Common.{length, take, filter, subst, arith, set, ltb, ltb-true, ltb-false, ◌∙◌, ◌++◌}
use Rattle.std.specs.Prelude.{All, Contains, IfSome}
use Rattle.std.proofs.lemmas.List.{take_more_set, length-set}
use Rattle.std.proofs.lemmas.List.Elements.{All-nil, All-push, Contains-append_left, Contains-push}
use Rattle.xc_input.specs.Problem.{Puzzle, high_at}
use Rattle.xc_text.proofs.ListLemmas.{by_bool, IsIn, filter-in, in-filter}
use Rattle.xc_moves.specs.declared.dance.Move.{Move}
use Rattle.xc_moves.specs.Moves.{open_items, next_above, IsOpenPrimary, listed, spends}
use Rattle.xc_moves.proofs.MoveLemmas.{next_above-split, next_above-none, next_above-open}
use Rattle.xc_search.specs.inner.FewBounded.{low_left, high_left, LetsGo, IsCappedAt, AreWatched}
use Rattle.xc_search.proofs.ResidualLemmas.{open_rises}
use Rattle.xc_search.proofs.LeftProper.{open_in}

-- an open item up to the next one is that one, or comes no later than the one before
up_to_next : (p : Puzzle) (t : List Move) (at k i : ℕ) → next_above at (open_items p t) ≡ Some k → IsOpenPrimary p t i
    → i ≤ k → (i ≤ at) ⊎ (k ≡ i)
up_to_next p t at k i e opened most = by_bool (ltb at i)
    (λ above.
    let here : IsIn (k ∷ filter (λ j. ltb k j) (open_items p t)) i =
    subst (λ js. IsIn js i) (next_above-split 0 at k (open_items p t) (open_rises p t) e)
    (filter-in (λ j. ltb at j) (open_items p t) i (open_in p t i opened) above) in
    elim here [
      | inl q ↦ inr q
      | inr h ↦ absurd (omega (arith, ltb-true k i (in-filter (λ j. ltb k j) (open_items p t) i h).1, most))
    ])
    (λ other. inl (omega (arith, ltb-false at i other)))

-- where there is no next one, each comes no later
up_to_last : (p : Puzzle) (t : List Move) (at i : ℕ) → next_above at (open_items p t) ≡ None → IsOpenPrimary p t i
    → i ≤ at
up_to_last p t at i e opened = by_bool (ltb at i)
    (λ above. absurd (subst (λ js. IsIn js i) (next_above-none at (open_items p t) e)
    (filter-in (λ j. ltb at j) (open_items p t) i (open_in p t i opened) above)))
    (λ other. omega (arith, ltb-false at i other))

-- an item needn't be watched where n options are left, of which no more may be taken than the cap
abbrev pub IsLetGo : Puzzle → List Move → ℕ → Option ℕ → ℕ → Type 0
IsLetGo p t n most i = LetsGo (length (listed p t i)) (low_left p t i) (high_left p t i) n most

-- the first k of these are watched, of the open items up to item at
pub record AreWatchedTo (p : Puzzle) (t : List Move) (n : ℕ) (most : Option ℕ) (at k : ℕ) (into : List ℕ) : Type 0 where
  pub at_open : (at ≡ 0) ⊎ IsOpenPrimary p t at
  pub room : k ≤ 64
  pub full : length into ≡ 64
  pub opened : All (IsOpenPrimary p t) (take k into)
  pub few : All (λ i. low_left p t i ≤ 64) (take k into)
  pub rest : (i : ℕ) → IsOpenPrimary p t i → i ≤ at → Contains (take k into) i ⊎ IsLetGo p t n most i

pub watched_first : (p : Puzzle) (t : List Move) (n : ℕ) (most : Option ℕ) (into : List ℕ) → length into ≡ 64
    → AreWatchedTo p t n most 0 0 into
watched_first p t n most into full = record {
  at_open = inl refl;
  room = omega arith;
  full = full;
  opened = All-nil (IsOpenPrimary p t);
  few = All-nil (λ i. low_left p t i ≤ 64);
  rest = λ i opened none. absurd (omega (arith, opened.0.0, none));
}

-- the next one is let go, by its number of options and what is left of its bounds
pub watched_less : (p : Puzzle) (t : List Move) (n : ℕ) (most : Option ℕ) (at k x len low high : ℕ) (into : List ℕ)
    → AreWatchedTo p t n most at k into → next_above at (open_items p t) ≡ Some x → len ≡ length (listed p t x)
    → low ≡ low_left p t x → high ≡ high_left p t x → LetsGo len low high n most → AreWatchedTo p t n most x k into
watched_less p t n most at k x len low high into up e f g h go =
    let here : IsLetGo p t n most x = subst (λ z. LetsGo z (low_left p t x) (high_left p t x) n most) f
    (subst (λ z. LetsGo len z (high_left p t x) n most) g (subst (λ z. LetsGo len low z n most) h go)) in
    record {
      at_open = inr (next_above-open p t at x e);
      room = up.room;
      full = up.full;
      opened = up.opened;
      few = up.few;
      rest = λ i opened to. elim (up_to_next p t at x i e opened to) [
        | inl before ↦ up.rest i opened before
        | inr is ↦ inr (subst (IsLetGo p t n most) is here)
      ];
    }

-- the next one is watched
pub watched_more : (p : Puzzle) (t : List Move) (n : ℕ) (most : Option ℕ) (at k x : ℕ) (into : List ℕ)
    → AreWatchedTo p t n most at k into → next_above at (open_items p t) ≡ Some x → k < 64 → low_left p t x ≤ 64
    → AreWatchedTo p t n most x (k + 1) (set into k x)
watched_more p t n most at k x into up e lt low =
    let more = take_more_set into k x (omega (arith, lt, up.full)) in
    let opens = next_above-open p t at x e in
    record {
      at_open = inr opens;
      room = omega (arith, lt);
      full = length-set into k x ∙ up.full;
      opened = subst (All (IsOpenPrimary p t)) (sym more)
          (All-push (IsOpenPrimary p t) (take k into) x up.opened opens);
      few = subst (All (λ i. low_left p t i ≤ 64)) (sym more)
          (All-push (λ i. low_left p t i ≤ 64) (take k into) x up.few low);
      rest = λ i opened to. subst (λ l. Contains l i ⊎ IsLetGo p t n most i) (sym more)
          (elim (up_to_next p t at x i e opened to) [
            | inl before ↦ elim (up.rest i opened before) [
              | inl has ↦ inl (Contains-append_left (take k into) (x ∷ []) i has)
              | inr go ↦ inr go
            ]
            | inr is ↦ inl (subst (Contains (take k into ++ x ∷ [])) is (Contains-push (take k into) x))
          ]);
    }

-- no item is left
pub watched_all : (p : Puzzle) (t : List Move) (n : ℕ) (most : Option ℕ) (at k : ℕ) (into : List ℕ)
    → AreWatchedTo p t n most at k into → next_above at (open_items p t) ≡ None → IfSome most (IsCappedAt p t n)
    → AreWatched p t n (take k into)
watched_all p t n most at k into up e capped = record {
  most = most;
  capped = capped;
  opened = up.opened;
  few = up.few;
  rest = λ i opened. up.rest i opened (up_to_last p t at i e opened);
}

-- an open item that all n options hold, and that may be held fewer times more
pub capped_at : (p : Puzzle) (t : List Move) (n i len m : ℕ) → IsOpenPrimary p t i → len ≡ length (listed p t i)
    → len ≡ n → m + spends i t ≡ high_at p i → m < n → IsCappedAt p t n m
capped_at p t n i len m opened e f g lt = (i, opened, sym e ∙ f, omega (arith, g), lt)
