-- A problem has as many covers as its listing has members, and no other number of them.
use Rattle.std.proofs.Common.{ℕ, ◌≡◌, ◌≤◌, List, length, map, arith}
use Rattle.std.proofs.lemmas.List.{length-map}
use Rattle.std.proofs.lemmas.List.Elements.{All-from_recursion, recursion_from_All}
use Rattle.xc_input.specs.Problem.{Puzzle, IsValid}
use Rattle.xc_input.specs.Cover.{IsCover}
use Rattle.xc_search.specs.Cover.{SameSet, options_of, members}
use Rattle.xc_text.proofs.ListLemmas.{each-map, EachTwo-map, EachTwo-weaker, AllPairs-from_each_two}
use Rattle.xc_text.proofs.ListLemmas.{each_two_from_AllPairs, in-contains, contains-in, map-in, in-slice_get, each_in}
use Rattle.xc_moves.proofs.MoveLemmas.{options_rise}
use Rattle.xc_search.specs.Listing.{whole}
use Rattle.xc_search.proofs.Completeness.{each_member_covers, each_cover_is_listed, is_listed, member_of_set}
use Rattle.xc_search.proofs.Completeness.{all_differ, Differ}
use Rattle.xc_search.proofs.Matched.{no_more}
use Rattle.xc_count.specs.Number.{AreTheCovers, HasCovers}

module _ (p : Puzzle) (v : IsValid p) where
  pub listed : HasCovers p (length (members p))
  listed = (
    map options_of (members p),
    record {
      covers = All-from_recursion (IsCover p) (map options_of (members p)) (each-map (IsCover p) options_of (members p)
          (recursion_from_All _ _ (each_member_covers p v)));
      different = AllPairs-from_each_two _ _ (EachTwo-map (λ a b. SameSet a b → ⊥) options_of (members p)
          (EachTwo-weaker (Differ (whole p)) (λ l m. SameSet (options_of l) (options_of m) → ⊥) (members p)
          (λ l m h k differ same. differ (is_listed (options_of l))
          (member_of_set (whole p) (options_of l) l (λ o. (λ c. c, λ c. c)))
          (member_of_set (whole p) (options_of l) m same))
          (all_differ (whole p) (options_rise p))));
      every = λ s c.
          let k = each_cover_is_listed p v s c in
          let m = k.1.0 in (
            options_of m,
            contains-in _ _ (map-in options_of (members p) m (in-slice_get (members p) k.0 m k.1.1)),
            k.1.2,
          );
    },
    length-map _ _,
  )

  no_fewer : (xs ys : List (List ℕ)) → AreTheCovers p xs → AreTheCovers p ys → length xs ≤ length ys
  no_fewer xs ys a b =
      no_more SameSet xs ys
      (λ s h.
      let t = b.every s (each_in (IsCover p) xs s (recursion_from_All _ _ a.covers) h) in
      (t.0, in-contains ys t.0 t.1, t.2))
      (EachTwo-weaker (λ x y. SameSet x y → ⊥) (λ x y. (z : List ℕ) → SameSet x z → SameSet y z → ⊥) xs
      (λ x y h k differ z f g. differ (λ o. (λ c. (g o).1 ((f o).0 c), λ c. (f o).1 ((g o).0 c))))
      (each_two_from_AllPairs _ _ a.different))

  -- THE NUMBER OF COVERS is one
  pub one_number : (m n : ℕ) → HasCovers p m → HasCovers p n → m ≡ n
  one_number m n a b =
      omega (arith, a.2, b.2, no_fewer a.0 b.0 a.1 b.1, no_fewer b.0 a.0 b.1 a.1)
