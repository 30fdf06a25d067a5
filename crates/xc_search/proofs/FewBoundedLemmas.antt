-- The number of solutions of what is left, where items have bounds, by the words of what was collected.
use Rattle.std.proofs.Common.{ℕ, ◌≡◌, ◌<◌, ◌-◌, ◌^◌, List, Option, Some, None, arith, ap, subst, sym, ◌∙◌, length}
use Rattle.std.specs.Prelude.{IfSome}
use Rattle.xc_input.specs.Problem.{Puzzle, primary_count}
use Rattle.xc_text.proofs.ListLemmas.{map-in}
use Rattle.xc_moves.specs.declared.dance.Move.{Move}
use Rattle.xc_moves.specs.Moves.{IsOpenPrimary, listed, open_items}
use Rattle.xc_moves.proofs.LeftLemmas.{listed_open}
use Rattle.xc_words.specs.Bounded.{AreOfOptions, fair_sets}
use Rattle.xc_words.specs.Words.{bits_of}
use Rattle.xc_words.specs.declared.bounded.BoundedWords.{BoundedWords}
use Rattle.xc_search.specs.Listing.{listing}
use Rattle.xc_search.specs.Residuals.{wanted_at}
use Rattle.xc_search.specs.inner.Few.{collected}
use Rattle.xc_search.specs.inner.FewBounded.{AreWatched, AreBoundedUseWords, low_left}
use Rattle.xc_search.specs.inner.Levels.{IsSearchable, residual_of}
use Rattle.xc_search.proofs.ListingLemmas.{none_listed}
use Rattle.xc_search.proofs.LeftBounded.{bounded_count}
use Rattle.xc_search.proofs.LeftBoundedWords.{are_bounded_words, are_of_options}
use Rattle.xc_search.proofs.LeftProper.{open_in, proper_left}

-- with an open item that is to be held more often than options left hold it there is none
pub dead_bounded : (p : Puzzle) (t : List Move) → IsSearchable p t → (i : ℕ) → IsOpenPrimary p t i
    → length (listed p t i) < low_left p t i → 0 ≡ length (listing (residual_of p t))
dead_bounded p t s i opened few =
    let list = ap length (listed_open p t s.legal i opened.1) in
    let ends = none_listed (residual_of p t) (wanted_at p t i)
    (map-in (wanted_at p t) (open_items p t) i (open_in p t i opened)) (omega (arith, list, few)) in
    sym (ap length ends)

-- a count that is right of words of options is that of the fair sets
abbrev Counts : BoundedWords → ℕ → ℕ → ℕ → Type 0
Counts w items left n = AreOfOptions w items left → n ≡ fair_sets w items (bits_of left) 0

pub bounded_counted : (p : Puzzle) (t : List Move) (is os : List ℕ) (w : BoundedWords) (left items : ℕ)
    → IsSearchable p t → AreWatched p t (length os) is → os ≡ collected p t (open_items p t)
    → AreBoundedUseWords p t is os w → left ≡ 2 ^ length os - 1 → items ≡ 2 ^ length is - 1 → (found : Option ℕ)
    → IfSome found (λ n. AreOfOptions w items left → n ≡ fair_sets w items (bits_of left) 0)
    → IfSome found (λ n. n ≡ length (listing (residual_of p t)))
bounded_counted p t is os w left items s watched whole words e f None h = h
bounded_counted p t is os w left items s watched whole words e f (Some n) h =
    let full = subst (λ k. Counts w k (2 ^ length os - 1) n) f (subst (λ k. Counts w items k n) e h) in
    full (are_of_options s watched whole words)
    ∙ bounded_count (primary_count p) (residual_of p t) is os w (proper_left p t s)
    (are_bounded_words s watched whole words)
