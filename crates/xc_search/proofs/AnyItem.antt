-- The members of what is left are as many as those behind the branches of any item that is left.
use Rattle.std.proofs.Common.{ℕ, ◌≡◌, sym, Bool, true, List, ◌∷◌, length, filter, refl, Some, ◌∙◌, ap, arith, subst}
use Rattle.std.specs.Prelude.{sum_by}
use Rattle.std.proofs.lemmas.List.{length-map}
use Rattle.std.proofs.lemmas.List.Concat.{length-flat_map}
use Rattle.xc_search.specs.declared.choice.Choice.{Choice}
use Rattle.xc_search.specs.Listing.{Wanted, Residual, Branch, branches_of, level, listing}
use Rattle.xc_search.specs.Cover.{options_of}
use Rattle.xc_text.proofs.ListLemmas.{EachTwo, EachTwo-map, EachTwo-flat_map, EachTwo-weaker, IsIn, in-filter}
use Rattle.xc_text.proofs.ListLemmas.{filter-in, in-map, each_from, keep_all}
use Rattle.xc_search.proofs.Completeness.{Solves, members_solve, solves_back, listed_for, is_listed, listed_in}
use Rattle.xc_search.proofs.Completeness.{in_listed, member_of_set, Fits, Covers, IsMemberOf, member_on, member_back}
use Rattle.xc_search.proofs.Completeness.{branch_for, covers_on, all_differ, Differ, branches_apart, AreApart}
use Rattle.xc_search.proofs.ListingLemmas.{IsProper, proper_behind, behind, in-branches, rise_behind, in-level}
use Rattle.xc_search.proofs.ListingLemmas.{level-in}
use Rattle.xc_search.proofs.Matched.{no_more, EachTwo-filter}

-- ---- the members of a level by any item

module _ (n : ℕ) (r : Residual) (w : Wanted) (p : IsProper n r) (known : IsIn r.items w) where
  level_solves : (m : List Choice) → IsIn (level listing (Some w) r) m → Solves r m
  level_solves m h =
      let at = in-level listing w r m h in
      subst (Solves r) at.4 (solves_back at.1 known (in-branches r w at.0 at.2) (members_solve at.0.next at.1 at.3))

  level_for : (chosen : ℕ → Bool) → Covers n r chosen
      → (m : List Choice) × IsIn (level listing (Some w) r) m × IsMemberOf r chosen m
  level_for chosen c =
      let b = branch_for n r p chosen c w known in
      let of = in-branches r w b.0 b.1 in
      let l = listed_for n chosen b.0.next (proper_behind p of) (covers_on p known of b.2 c) in
      (b.0.choice ∷ l.0, level-in listing w r b.0 l.0 b.1 l.1, member_back r chosen b.0 l.0 b.2 l.2)

  level_differ : EachTwo (Differ r) (level listing (Some w) r)
  level_differ =
      let rise = p.options_rise in
      EachTwo-flat_map (Differ r) (behind listing) (branches_of r w)
      (λ b h. let of = in-branches r w b h in
      EachTwo-map (Differ r) (λ m. b.choice ∷ m) (listing b.next)
      (EachTwo-weaker (Differ b.next) (λ l m. Differ r (b.choice ∷ l) (b.choice ∷ m)) (listing b.next)
      (λ l m j k differ chosen s t. differ chosen (member_on rise of (members_solve b.next l j).left s).1
      (member_on rise of (members_solve b.next m k).left t).1)
      (all_differ b.next (rise_behind of rise))))
      (EachTwo-weaker (AreApart r)
      (λ a b. (l m : List Choice) → IsIn (behind listing a) l → IsIn (behind listing b) m → Differ r l m)
      (branches_of r w)
      (λ a b h k apart l m i j chosen s t. apart chosen (fits a l h i chosen s) (fits b m k j chosen t))
      (branches_apart r w rise))
    where
      fits : (b : Branch) (m : List Choice) → IsIn (branches_of r w) b → IsIn (behind listing b) m
          → (chosen : ℕ → Bool) → IsMemberOf r chosen m → Fits r chosen b
      fits b m h k chosen s =
          let from = in-map _ _ _ k in
          (member_on p.options_rise (in-branches r w b h) (members_solve b.next from.0 from.1).left
          (subst (IsMemberOf r chosen) (sym from.2) s)).0

-- ---- members of the same options

-- the options of the one are those of the other
abbrev pub Match : Residual → List Choice → List Choice → Type 0
Match r l m = IsMemberOf r (is_listed (options_of l)) m

match_back : (r : Residual) (l m : List Choice) → Solves r l → Match r l m → IsMemberOf r (is_listed (options_of m)) l
match_back r l m s t = record {
  taken = λ k h.
      let o = s.left k h in
      let listed = subst (λ z. is_listed (options_of l) z ≡ true) (sym o.2) (in_listed (options_of l) k h) in
      in_listed (options_of m) k (subst (IsIn (options_of m)) o.2 (t.all o.0 o.1 listed));
  all = λ o h e. listed_in (options_of l) o.number (t.taken o.number (listed_in (options_of m) o.number e));
}

-- two that differ match no one
no_common : (r : Residual) (a b : List Choice) → Solves r a → Solves r b → Differ r a b → (m : List Choice)
    → Match r a m → Match r b m → ⊥
no_common r a b s t differ m f g =
    differ (is_listed (options_of m)) (match_back r a m s f) (match_back r b m t g)

itself : (r : Residual) (m : List Choice) → IsMemberOf r (is_listed (options_of m)) m
itself r m = member_of_set r (options_of m) m (λ o. (λ k. k, λ k. k))

-- ---- as many

-- a test that looks at options alone
abbrev pub Respects : Residual → (List Choice → Bool) → Type 0
Respects r t = (l m : List Choice) → Solves r l → Match r l m → t l ≡ true → t m ≡ true

pub any_level_by : (n : ℕ) (r : Residual) (w : Wanted) (t : List Choice → Bool) → IsProper n r → IsIn r.items w
    → Respects r t → length (filter t (listing r)) ≡ length (filter t (level listing (Some w) r))
any_level_by n r w t p known respects =
    let few = no_more (Match r) (filter t (listing r)) (filter t (level listing (Some w) r))
    (λ m h.
    let at = in-filter t (listing r) m h in
    let s = members_solve r m at.0 in
    let to = level_for n r w p known (is_listed (options_of m)) (s.covers n _ p (itself r m)) in
    (to.0, filter-in t _ to.0 to.1 (respects m to.0 s to.2 at.1), to.2))
    (EachTwo-filter _ t (listing r)
    (EachTwo-weaker (Differ r) (λ a b. (m : List Choice) → Match r a m → Match r b m → ⊥) (listing r)
    (λ a b h k. no_common r a b (members_solve r a h) (members_solve r b k)) (all_differ r p.options_rise))) in
    let many = no_more (Match r) (filter t (level listing (Some w) r)) (filter t (listing r))
    (λ m h.
    let at = in-filter t (level listing (Some w) r) m h in
    let s = level_solves n r w p known m at.0 in
    let to = listed_for n (is_listed (options_of m)) r p (s.covers n _ p (itself r m)) in
    (to.0, filter-in t _ to.0 to.1 (respects m to.0 s to.2 at.1), to.2))
    (EachTwo-filter _ t (level listing (Some w) r)
    (EachTwo-weaker (Differ r) (λ a b. (m : List Choice) → Match r a m → Match r b m → ⊥) (level listing (Some w) r)
    (λ a b h k. no_common r a b (level_solves n r w p known a h) (level_solves n r w p known b k))
    (level_differ n r w p known))) in
    omega (arith, few, many)

pub any_level : (n : ℕ) (r : Residual) (w : Wanted) → IsProper n r → IsIn r.items w
    → length (listing r) ≡ length (level listing (Some w) r)
any_level n r w p known =
    let all : (ms : List (List Choice)) → filter (λ m. true) ms ≡ ms =
    λ ms. keep_all (λ m. true) ms (each_from _ ms (λ x h. refl)) in
    let same = any_level_by n r w (λ m. true) p known (λ l m s f e. refl) in
    sym (ap length (all (listing r))) ∙ same ∙ ap length (all (level listing (Some w) r))

-- how many covers there are of what is left
abbrev pub count : Residual → ℕ
count r = length (listing r)

sums : (bs : List Branch) → sum_by (λ b. length (behind listing b)) bs ≡ sum_by (λ b. count b.next) bs
sums bs = simp length-map

-- THE PARTITION: for any item that is left, they are those of its branches in turn
pub count_by_item : (n : ℕ) (r : Residual) (w : Wanted) → IsProper n r → IsIn r.items w
    → count r ≡ sum_by (λ b. count b.next) (branches_of r w)
count_by_item n r w p known =
    any_level n r w p known ∙ length-flat_map (behind listing) (branches_of r w) ∙ sums (branches_of r w)
