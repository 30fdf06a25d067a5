-- The number of solutions of what is left, by the words of what was collected.
use Rattle.std.proofs.Common.{ℕ, ◌≡◌, ◌-◌, ◌^◌, List, Option, Some, None, true, Bool, arith, ap, subst, sym}
use Rattle.std.proofs.Common.{◌∙◌, length}
use Rattle.std.specs.Prelude.{All, IfSome}
use Rattle.std.proofs.lemmas.Bool.{eq-eqb, eqb-true}
use Rattle.std.proofs.lemmas.Nat.{pow_pos}
use Rattle.std.proofs.lemmas.List.{length-map}
use Rattle.std.proofs.lemmas.List.Elements.{All-from_recursion}
use Rattle.xc_input.specs.Problem.{Puzzle, IsItem, IsOption}
use Rattle.xc_text.proofs.ListLemmas.{each_from, map-in}
use Rattle.xc_moves.specs.declared.dance.Move.{Move}
use Rattle.xc_moves.specs.Moves.{IsOpenPrimary, listed, open_items}
use Rattle.xc_moves.proofs.LeftLemmas.{listed_open}
use Rattle.xc_words.specs.Words.{CountsBranches, HasOwn}
use Rattle.xc_words.specs.declared.words.Words.{Words}
use Rattle.xc_search.specs.Listing.{listing}
use Rattle.xc_search.specs.Residuals.{wanted_at}
use Rattle.xc_search.specs.Once.{IsOnce}
use Rattle.xc_search.specs.inner.Levels.{IsSearchable, residual_of}
use Rattle.xc_search.specs.inner.Few.{collected, AreUseWords}
use Rattle.xc_search.proofs.ListingLemmas.{none_listed}
use Rattle.xc_search.proofs.ResidualLemmas.{once_more}
use Rattle.xc_search.proofs.LeftProper.{in_open, open_in, option_left, proper_left}
use Rattle.xc_search.proofs.LeftCollected.{collected_known}
use Rattle.xc_search.proofs.LeftWords.{are_words_of}
use Rattle.xc_search.proofs.WordsCount.{words_count, some_at}

-- with an open item that no option left holds there is none
pub dead_counted : (p : Puzzle) (t : List Move) → IsSearchable p t → IsOnce p → (i : ℕ) → IsOpenPrimary p t i
    → length (listed p t i) ≡ 0 → 0 ≡ length (listing (residual_of p t))
dead_counted p t s once i opened none =
    let low = once_more p t i (once, s.wanted) opened in
    let list = ap length (listed_open p t s.legal i opened.1) in
    let ends = none_listed (residual_of p t) (wanted_at p t i)
    (map-in (wanted_at p t) (open_items p t) i (open_in p t i opened)) (omega (arith, low, list, none)) in
    sym (ap length ends)

-- what was collected are items and options of the problem
pub items_known : (p : Puzzle) (t : List Move) (is : List ℕ) → is ≡ open_items p t → All (IsItem p) is
items_known p t is e = subst (All (IsItem p)) (sym e) (All-from_recursion (IsItem p) (open_items p t)
    (each_from (IsItem p) (open_items p t) (λ i h. let at = in_open p t i h in (at.0.0, omega (arith, at.0.1)))))

pub options_known : (p : Puzzle) (t : List Move) (os : List ℕ) → IsSearchable p t
    → os ≡ collected p t (open_items p t) → All (IsOption p) os
options_known p t os s e =
    let whole = collected p t (open_items p t) in
    subst (All (IsOption p)) (sym e) (All-from_recursion (IsOption p) whole (each_from (IsOption p) whole (λ k h.
    let at = collected_known p t s k h in subst (IsOption p) at.2 (option_left p t s.valid at.0 at.1).known)))

-- each option that is left of an open item has it, by the words
pub own_known : (p : Puzzle) (is os : List ℕ) (w : Words) (left items : ℕ) → AreUseWords p is os w
    → left ≡ 2 ^ length os - 1 → items ≡ 2 ^ length is - 1 → HasOwn w.holders w.alone left items
own_known p is os w left items words e f i x li lx opened stays held =
    let j = some_at items i is (omega (arith, f, pow_pos (length is))) opened in
    let o = some_at left x os (omega (arith, e, pow_pos (length os))) stays in
    let same = words.alone i x j.0 o.0 j.1 o.1 ∙ sym (words.holders i x j.0 o.0 j.1 o.1) in
    eqb-true _ 1 (same ∙ eq-eqb _ 1 held)

-- items and options that were collected, and their words
pub record AreCollected (p : Puzzle) (t : List Move) (is os : List ℕ) (w : Words) : Type 0 where
  pub items : is ≡ open_items p t
  pub options : os ≡ collected p t is
  pub words : AreUseWords p is os w

-- a count that follows the words is that of what is left
abbrev pub Follows : Words → ℕ → ℕ → ℕ → Type 0
Follows w left items n = (good : ℕ → ℕ → Bool) → (count : ℕ → ℕ → ℕ)
    → CountsBranches w.holders w.alone w.apart good count
    → good left items ≡ true → n ≡ count left items

one_counted : (p : Puzzle) (t : List Move) (os : List ℕ) (w : Words) → IsSearchable p t → IsOnce p
    → AreCollected p t (open_items p t) os w → (n : ℕ)
    → Follows w (2 ^ length os - 1) (2 ^ length (open_items p t) - 1) n → n ≡ length (listing (residual_of p t))
one_counted p t os w s once c n h =
    let items = length-map (open_items p t) (wanted_at p t) in
    words_count _ (residual_of p t) os w (proper_left p t s) (are_words_of s once c.options c.words) n
    (subst (λ k. Follows w (2 ^ length os - 1) (2 ^ k - 1) n) (sym items) h)

pub few_counted : (p : Puzzle) (t : List Move) (is os : List ℕ) (w : Words) (left items : ℕ) → IsSearchable p t
    → IsOnce p → AreCollected p t is os w → left ≡ 2 ^ length os - 1 → items ≡ 2 ^ length is - 1 → (found : Option ℕ)
    → IfSome found (Follows w left items) → IfSome found (λ n. n ≡ length (listing (residual_of p t)))
few_counted p t is os w left items s once c e f None h = h
few_counted p t is os w left items s once c e f (Some n) h =
    let same = f ∙ ap (λ js. 2 ^ length js - 1) c.items in
    one_counted p t os w s once (subst (λ js. AreCollected p t js os w) c.items c) n
    (subst (λ k. Follows w (2 ^ length os - 1) k n) same (subst (λ k. Follows w k items n) e h))
