-- A search that passes members by turns.
use Rattle.std.proofs.Common.{ℕ, zero, suc, ◌≡◌, ◌+◌, ◌-◌, ◌<◌, ◌≤◌, ◌++◌, List, [], ◌∷◌, length, drop, refl, Some}
use Rattle.std.proofs.Common.{ap, sym, ◌∙◌, arith, subst, ◌⊎◌, inl, inr}
use Rattle.std.proofs.Math.Seq.{drop-nil, drop-append_seam}
use Rattle.std.proofs.Math.ListN.{drop_of_length-le}
use Rattle.std.proofs.lemmas.List.{length-drop}
use Rattle.std.specs.Prelude.{min}
use Rattle.xc_text.proofs.ListLemmas.{by_option}
use Rattle.xc_search.specs.declared.choice.Choice.{Choice}
use Rattle.xc_input.specs.Problem.{numbered_get}
use Rattle.xc_search.specs.declared.went.Halt.{Halt}
use Rattle.xc_search.specs.declared.went.Halt.TheVariants.{Member, End, Steps}
use Rattle.xc_search.specs.declared.went.Went.{Went}
use Rattle.xc_search.specs.Going.{WentOnBy}
use Rattle.xc_search.specs.InSpan.{InSpan, left_of, reached}
use Rattle.xc_search.specs.Outlook.{shown_after}
use Rattle.xc_search.specs.Spans.{between}
use Rattle.xc_count.proofs.ByNumber.{number_dropped}
use Rattle.xc_count.proofs.Turns.{if_some, passed_or_left}

pub drop_more : {X : Type 0} (a b : ℕ) (xs : List X) → drop b (drop a xs) ≡ drop (a + b) xs
drop_more zero b xs =
    let same : b ≡ 0 + b = omega arith in
    ap (λ k. drop k xs) same
drop_more (suc a) b [] = drop-nil b ∙ sym (drop-nil (suc a + b))
drop_more (suc a) b (x ∷ xs) =
    let same : suc (a + b) ≡ suc a + b = omega arith in
    drop_more a b xs ∙ ap (λ k. drop k (x ∷ xs)) same

-- the last of so many members is that of the rest
shown_further : (a b : ℕ) (ms : List (List Choice)) (was now : List Choice) → a ≤ length ms → 0 < b
    → shown_after b (drop a ms) now ≡ shown_after (a + b) ms was
shown_further zero zero ms was now h some = absurd (omega (arith, some))
shown_further zero (suc b) [] was now h some =
    let same : suc b ≡ 0 + suc b = omega arith in
    ap (λ k. shown_after k [] was) same
shown_further zero (suc b) (m ∷ ms) was now h some =
    let same : suc b ≡ 0 + suc b = omega arith in
    ap (λ k. shown_after k (m ∷ ms) was) same
shown_further (suc a) b [] was now h some = absurd (omega (arith, h))
shown_further (suc a) b (m ∷ ms) was now h some =
    let same : suc (a + b) ≡ suc a + b = omega arith in
    shown_further a b ms m now (omega (arith, h)) some ∙ ap (λ k. shown_after k (m ∷ ms) was) same

-- what is left is without those that it passed
pub left_dropped : (many steps : ℕ) (w : Went) (s n : InSpan) → WentOnBy many steps w s n
    → left_of n ≡ drop w.members (left_of s)
left_dropped many steps w s n went = by_option s.row
    (λ e.
    let before : left_of s ≡ [] = rw e refl in
    let after : left_of n ≡ [] = rw ((went.halts.ended e).2) refl in
    after ∙ sym (ap (drop w.members) before ∙ drop-nil w.members))
    (λ from e.
    let passed : left_of s ≡ between s.puzzle from (reached n) ++ left_of n =
    if_some s.row (λ a. left_of s ≡ between s.puzzle a (reached n) ++ left_of n) from e went.passes.passed in
    let count : length (between s.puzzle from (reached n)) ≡ w.members =
    if_some s.row (λ a. length (between s.puzzle a (reached n)) ≡ w.members) from e went.passes.count in
    sym (ap (drop w.members) passed ∙ subst (λ k. drop k (between s.puzzle from (reached n) ++ left_of n) ≡ left_of n)
    count (drop-append_seam (between s.puzzle from (reached n)) (left_of n))))

-- of many members so many are to be passed yet, and it went on by at most as many
module _ (many left steps : ℕ) (w : Went) (old s n : InSpan) (went : WentOnBy left steps w s n) (some : 0 < left)
    (within : left ≤ many) (passed : many - left ≤ length (left_of old))
    (rest : left_of s ≡ drop (many - left) (left_of old)) where
  total : length (left_of old) - (many - left) ≡ w.members + length (left_of n)
  total = sym (length-drop (many - left) (left_of old)) ∙ ap length (sym rest) ∙ passed_or_left left steps w s n went

  at_most : w.members ≤ left
  at_most = went.passes.within.1

  pub still_passed : many - (left - w.members) ≤ length (left_of old)
  still_passed = omega (arith, total, at_most, passed, within)

  pub still_rest : left_of n ≡ drop (many - (left - w.members)) (left_of old)
  still_rest =
      let same : many - left + w.members ≡ many - (left - w.members) = omega (arith, at_most, within) in
      left_dropped left steps w s n went ∙ ap (drop w.members) rest ∙ drop_more (many - left) w.members (left_of old)
      ∙ ap (λ k. drop k (left_of old)) same

  none_at_end : w.halt ≡ End → left_of n ≡ []
  none_at_end e = rw ((went.halts.end e).0) refl

  pub passed_all : (w.halt ≡ Member) ⊎ (w.halt ≡ End) → left_of n ≡ drop many (left_of old)
  passed_all (inl e) =
      let all : many - (left - w.members) ≡ many = omega (arith, (went.halts.member e).0, within) in
      still_rest ∙ ap (λ k. drop k (left_of old)) all
  passed_all (inr e) =
      let none : length (left_of n) ≡ 0 = ap length (none_at_end e) in
      none_at_end e ∙ sym (drop_of_length-le (left_of old) (omega (arith, total, none, at_most, within, passed)))

  pub passed_count : (w.halt ≡ Member) ⊎ (w.halt ≡ End) → many - (left - w.members) ≡ min many (length (left_of old))
  passed_count (inl e) = omega (arith, (went.halts.member e).0, total, within, passed)
  passed_count (inr e) =
      let none : length (left_of n) ≡ 0 = ap length (none_at_end e) in
      omega (arith, none, went.halts.fewer some e, total, within, passed)

  pub passed_shown : (w.halt ≡ Member) ⊎ (w.halt ≡ End) → many - (left - w.members) ≡ many
      → n.shown ≡ shown_after many (left_of old) old.shown
  passed_shown (inl e) f =
      let all : many - left + left ≡ many = omega (arith, within) in
      (went.halts.member e).1 ∙ ap (λ ms. shown_after left ms s.shown) rest
      ∙ shown_further (many - left) left (left_of old) old.shown s.shown passed some
      ∙ ap (λ k. shown_after k (left_of old) old.shown) all
  passed_shown (inr e) f = absurd (omega (arith, f, went.halts.fewer some e, within))

shown_at : (k : ℕ) (ms : List (List Choice)) (was : List Choice) → 0 < k → k ≤ length ms
    → numbered_get ms k ≡ Some (shown_after k ms was)
shown_at zero ms was some h = absurd (omega (arith, some))
shown_at (suc k) [] was some h = absurd (omega (arith, h))
shown_at (suc zero) (m ∷ ms) was some h = refl
shown_at (suc (suc k)) (m ∷ ms) was some h = shown_at (suc k) ms m (omega arith) (omega (arith, h))

-- a search that has passed some of the members, and is to pass so many at most, goes on
module _ (most passed steps : ℕ) (w : Went) (s n : InSpan) (ms : List (List Choice))
    (went : WentOnBy (most - passed) steps w s n) (before : passed < most) (rest : left_of s ≡ drop passed ms) where
  pub turn_left : left_of n ≡ drop (passed + w.members) ms
  turn_left =
      left_dropped (most - passed) steps w s n went ∙ ap (drop w.members) rest ∙ drop_more passed w.members ms

  many : length (left_of s) ≡ w.members + length (left_of n)
  many = passed_or_left (most - passed) steps w s n went

  at_last : w.members ≡ most - passed → w.halt ≡ Member → numbered_get ms most ≡ Some n.shown
  at_last all e =
      number_dropped ms passed most before
      ∙ shown_at (most - passed) (drop passed ms) s.shown (omega (arith, before))
      (omega (arith, ap length rest, many, all))
      ∙ sym (ap Some ((went.halts.member e).1 ∙ ap (λ xs. shown_after (most - passed) xs s.shown) rest))

  pub turn_shown : passed + w.members ≡ most → numbered_get ms most ≡ Some n.shown
  turn_shown all = by_halt w.halt refl
    where
      by_halt : (h : Halt) → w.halt ≡ h → numbered_get ms most ≡ Some n.shown
      by_halt Member e = at_last (omega (arith, all)) e
      by_halt End e = absurd (omega (arith, all, before, went.halts.fewer (omega (arith, before)) e))
      by_halt Steps e = absurd (omega (arith, all, before, (went.halts.ran_out e).3))
