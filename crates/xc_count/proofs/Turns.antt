-- A search that goes on by turns.
use Rattle.std.proofs.Common.{ℕ, ◌≡◌, ◌+◌, ◌-◌, ◌<◌, ◌++◌, true, List, [], length, Option, Some, None, refl, ap}
use Rattle.std.proofs.Common.{◌∙◌, arith, subst, inl, inr, length-append, ◌⊎◌}
use Rattle.std.specs.Prelude.{IfSome}
use Rattle.xc_input.specs.Problem.{Puzzle}
use Rattle.xc_text.proofs.ListLemmas.{by_option}
use Rattle.xc_search.specs.declared.went.Halt.{Halt}
use Rattle.xc_search.specs.declared.went.Halt.TheVariants.{Member, End, Steps}
use Rattle.xc_search.specs.declared.went.Went.{Went}
use Rattle.xc_search.specs.Going.{WentOnBy}
use Rattle.xc_search.specs.InSpan.{InSpan, left_of, reached}
use Rattle.xc_search.specs.Listing.{whole}
use Rattle.xc_search.specs.Nodes.{IsRowOf, row_count}
use Rattle.xc_search.specs.Spans.{precedes, between}
use Rattle.xc_search.specs.Cover.{members}
use Rattle.xc_search.proofs.RowLemmas.{all_between, rank, rank_within, rank_rises}

-- how many rows of the tree come after one at the least
abbrev pub rows_after : Puzzle → Option (List ℕ) → ℕ
rows_after p None = 0
rows_after p (Some row) = row_count (whole p) - rank (whole p) row

pub if_some : (o : Option (List ℕ)) (P : List ℕ → Type 0) (x : List ℕ) → o ≡ Some x → IfSome o P → P x
if_some o P x e h = subst (λ (z : Option (List ℕ)). IfSome z P) e h

-- a span of the whole listing has every member left
pub all_left : (p : Puzzle) (s : InSpan) → left_of s ≡ between p [] s.until → s.until ≡ None → left_of s ≡ members p
all_left p s left until = left ∙ ap (λ u. between p [] u) until ∙ all_between p

-- what was left was passed or is left
pub passed_or_left : (many steps : ℕ) (w : Went) (s n : InSpan) → WentOnBy many steps w s n
    → length (left_of s) ≡ w.members + length (left_of n)
passed_or_left many steps w s n went = by_option s.row
    (λ e.
    let ended = went.halts.ended e in
    let before : length (left_of s) ≡ 0 = rw e refl in
    let after : length (left_of n) ≡ 0 = rw (ended.2) refl in
    omega (arith, before, after, ended.1))
    (λ from e.
    let passed : left_of s ≡ between s.puzzle from (reached n) ++ left_of n =
    if_some s.row (λ a. left_of s ≡ between s.puzzle a (reached n) ++ left_of n) from e went.passes.passed in
    let count : length (between s.puzzle from (reached n)) ≡ w.members =
    if_some s.row (λ a. length (between s.puzzle a (reached n)) ≡ w.members) from e went.passes.count in
    ap length passed ∙ length-append (between s.puzzle from (reached n)) (left_of n)
    ∙ ap (λ k. k + length (left_of n)) count)

-- it comes to a later row unless it is at the end
pub fewer_rows : (many steps : ℕ) (w : Went) (p : Puzzle) (s n : InSpan) → WentOnBy many steps w s n → 0 < many
    → 0 < steps
    → (w.halt ≡ Member) ⊎ (w.halt ≡ Steps) → n.puzzle ≡ p → IfSome s.row (λ row. IsRowOf (whole p) row)
    → rows_after p n.row < rows_after p s.row
fewer_rows many steps w p s n went some_members some_steps halted same node = by_option s.row
    (λ e. absurd (not_end w.halt halted (went.halts.ended e).0))
    (λ from e. by_option n.row
    (λ f. let stands = went.comes.stands halted in absurd (rw f at stands))
    (λ row f.
    let later : IfSome n.row (λ b. precedes from b ≡ true) =
    if_some s.row (λ a. IfSome n.row (λ b. precedes a b ≡ true)) from e (went.comes.later some_members some_steps) in
    let after : precedes from row ≡ true = if_some n.row (λ b. precedes from b ≡ true) row f later in
    let before : IsRowOf (whole p) from = if_some s.row (λ a. IsRowOf (whole p) a) from e node in
    let reached : IsRowOf (whole n.puzzle) row =
    if_some n.row (λ b. IsRowOf (whole n.puzzle) b) row f went.comes.node in
    let there : IsRowOf (whole p) row = subst (λ q. IsRowOf (whole q) row) same reached in
    rw (e, f) (omega (arith, rank_rises (whole p) from row before there after, rank_within (whole p) row there))))
  where
    not_end : (h : Halt) → (h ≡ Member) ⊎ (h ≡ Steps) → h ≡ End → ⊥
    not_end h (inl a) e = cc
    not_end h (inr a) e = cc
