-- What each cover that is as a search has decided has, and which options it lacks.
use Rattle.std.proofs.Common.{ℕ, ◌≡◌, ◌≢◌, ◌≤◌, ◌<◌, ◌+◌, true, false, cond, List, [], ◌∷◌, ◌++◌, refl, sym}
use Rattle.std.proofs.Common.{ap, ◌∙◌, arith, subst, inl, inr, Some, None, Option, reverse, length, suc, zero}
use Rattle.std.specs.Prelude.{sum_by, count_by, is_some, nat_lt, slice_get, Contains, get_or, IfNone}
use Rattle.std.proofs.lemmas.List.Sums.{sum_by-cons}
use Rattle.std.proofs.lemmas.List.{reverse-append, reverse-reverse, length-reverse, get_or_default}
use Rattle.std.proofs.lemmas.Bool.Decides.{nat_tests}
use Rattle.std.proofs.Math.ListN.{set}
use Rattle.std.proofs.lemmas.Option.{get_or_from_slice_get, slice_get_within}
use Rattle.xc_input.specs.declared.problem.Bounds.{Bounds}
use Rattle.xc_input.specs.Problem.{Puzzle, uses_of, colour_in, bounds_at, IsSecondary, IsOption, option_count}
use Rattle.std.proofs.lemmas.List.Elements.{All-contains}
use Rattle.xc_input.specs.Cover.{IsCover, times_held}
use Rattle.xc_text.proofs.ListLemmas.{IsIn, by_bool, each_from, contains-in, in-contains, each_two_from_AllPairs}
use Rattle.xc_text.proofs.ListLemmas.{get_left, get_seam, append-in_left, append-in_right}
use Rattle.xc_least.specs.declared.steps.Step.{Step}
use Rattle.xc_least.specs.inner.Regions.{includes, IsAsDecided, taken_of, newest, IsCut, IsExcluded}
use Rattle.xc_least.specs.inner.Regions.{IsBarred}
use Rattle.xc_least.specs.inner.Held.{ArePlaced, AreSpent, AreHeld, AreTablesOf, once_if_held}
use Rattle.xc_least.proofs.SetLemmas.{has_in, in_has, Differ, sum_within, holds_and_has, held_among}
use Rattle.xc_least.specs.inner.Prices.{up_to}

-- ======== As was decided.

pub decided_in : (ds : List Step) (s : List ℕ) → IsAsDecided ds s → (t : ℕ) → IsIn (taken_of ds) t → IsIn s t
decided_in [] s h t k = absurd k
decided_in (d ∷ ds) s h t k = by_bool d.taken
    (λ e.
    let k : IsIn (d.option ∷ taken_of ds) t = rw e at k in
    elim k [ inl q ↦ subst (IsIn s) q (has_in s d.option (h.0 ∙ e)) | inr j ↦ decided_in ds s h.1 t j ])
    (λ e. let k : IsIn (taken_of ds) t = rw e at k in decided_in ds s h.1 t k)

pub as_said : (ds : List Step) (s : List ℕ) → IsAsDecided ds s → (d : Step) → IsIn ds d → includes s d.option ≡ d.taken
as_said [] s h d k = absurd k
as_said (e ∷ ds) s h d (inl q) = subst (λ (d : Step). includes s d.option ≡ d.taken) q h.0
as_said (e ∷ ds) s h d (inr k) = as_said ds s h.1 d k

-- a step that took an option
pub taken_in : (ds : List Step) (d : Step) → IsIn ds d → d.taken ≡ true → IsIn (taken_of ds) d.option
taken_in [] d h t = absurd h
taken_in (e ∷ ds) d (inl q) t =
    let yes : e.taken ≡ true = ap (λ (z : Step). z.taken) q ∙ t in
    rw yes (inl (ap (λ (z : Step). z.option) q))
taken_in (e ∷ ds) d (inr k) t = by_bool e.taken
    (λ y. rw y (inr (taken_in ds d k t)))
    (λ n. rw n (taken_in ds d k t))

pub of_taken : (ds : List Step) (o : ℕ) → IsIn (taken_of ds) o
    → (d : Step) × IsIn ds d × (d.option ≡ o) × (d.taken ≡ true)
of_taken [] o h = absurd h
of_taken (d ∷ ds) o h = by_bool d.taken
    (λ y.
    let h : IsIn (d.option ∷ taken_of ds) o = rw y at h in
    elim h [ inl q ↦ (d, inl refl, q, y) | inr k ↦ let r = of_taken ds o k in (r.0, inr r.1, r.2, r.3) ])
    (λ n.
    let h : IsIn (taken_of ds) o = rw n at h in
    let r = of_taken ds o h in (r.0, inr r.1, r.2, r.3))

-- ======== Places.

first_last : (d : Step) (ds : List Step) → reverse (d ∷ ds) ≡ reverse ds ++ d ∷ []
first_last d ds = reverse-append (d ∷ []) ds

pub placed_less : (place : List ℕ) (ds : List Step) → ArePlaced place ds → (d : Step) → IsIn ds d
    → (k : ℕ) × (slice_get place d.option ≡ Some k) × (k < length ds) × (slice_get (reverse ds) k ≡ Some d)
placed_less place [] h d k = absurd k
placed_less place (e ∷ ds) h d (inl q) =
    let seam : slice_get (reverse ds ++ e ∷ []) (length ds) ≡ Some e =
    subst (λ n. slice_get (reverse ds ++ e ∷ []) n ≡ Some e) (length-reverse ds) (get_seam (reverse ds) e) in (
      length ds,
      subst (λ (z : Step). slice_get place z.option ≡ Some (length ds)) q h.0,
      omega arith,
      ap (λ (zs : List Step). slice_get zs (length ds)) (first_last e ds) ∙ seam ∙ ap (λ (z : Step). Some z) q,
    )
placed_less place (e ∷ ds) h d (inr k) =
    let r = placed_less place ds h.1 d k in (
      r.0,
      r.1,
      omega (arith, r.2),
      ap (λ (zs : List Step). slice_get zs r.0) (first_last e ds) ∙ get_left (reverse ds) (e ∷ []) r.0 d r.3,
    )

-- no two steps decide about one option
pub apart : (place : List ℕ) (d : Step) (ds : List Step) → ArePlaced place (d ∷ ds) → (e : Step) → IsIn ds e
    → d.option ≡ e.option → ⊥
apart place d ds h e k same =
    let r = placed_less place ds h.1 e k in
    let two : Some (length ds) ≡ Some r.0 = sym h.0 ∙ ap (slice_get place) same ∙ r.1 in
    let is : length ds ≡ r.0 = cc in
    absurd (omega (arith, is, r.2))

pub taken_differ : (place : List ℕ) (ds : List Step) → ArePlaced place ds → Differ (taken_of ds)
taken_differ place [] h = tt
taken_differ place (d ∷ ds) h = by_bool d.taken
    (λ y. rw y (
      each_from (λ z. d.option ≢ z) (taken_of ds) (λ o k e.
          let r = of_taken ds o k in
          apart place d ds h r.0 r.1 (e ∙ sym r.2)),
      taken_differ place ds h.1,
    ))
    (λ n. rw n (taken_differ place ds h.1))

get_here : {X : Type 0} (xs : List X) (k : ℕ) (v : X) → k < length xs → slice_get (set xs k v) k ≡ Some v
get_here [] k v h = absurd (omega (arith, h))
get_here (x ∷ xs) zero v h = refl
get_here (x ∷ xs) (suc k) v h = get_here xs k v (omega (arith, h))

get_there : {X : Type 0} (xs : List X) (k i : ℕ) (v : X) → k ≢ i → slice_get (set xs k v) i ≡ slice_get xs i
get_there [] k i v h = refl
get_there (x ∷ xs) zero zero v h = absurd (h refl)
get_there (x ∷ xs) zero (suc i) v h = refl
get_there (x ∷ xs) (suc k) zero v h = refl
get_there (x ∷ xs) (suc k) (suc i) v h = get_there xs k i v (λ e. h (ap suc e))

placed_set : (place : List ℕ) (ds : List Step) (o n : ℕ) → ArePlaced place ds
    → ((d : Step) → IsIn ds d → d.option ≢ o) → ArePlaced (set place o n) ds
placed_set place [] o n h none = tt
placed_set place (d ∷ ds) o n h none = (
  get_there place o d.option n (λ e. none d (inl refl) (sym e)) ∙ h.0,
  placed_set place ds o n h.1 (λ e k. none e (inr k)),
)

pub placed_more : (place : List ℕ) (d : Step) (ds : List Step) (n : ℕ) → ArePlaced place ds
    → ((e : Step) → IsIn ds e → e.option ≢ d.option) → d.option < length place → n ≡ length ds
    → ArePlaced (set place d.option n) (d ∷ ds)
placed_more place d ds n h none within e =
    (get_here place d.option n within ∙ ap Some e, placed_set place ds d.option n h none)

-- ---- steps by their places

pub of_none : {X P : Type 0} (r : Option X) → is_some r ≡ false → IfNone r P → P
of_none None e h = h
of_none (Some x) e h = cc

-- a decision about an option stands where its place says
pub decided_at : (place : List ℕ) (ss : List Step) (o : ℕ) (z : Step) → ArePlaced place (newest ss) → (d : Step)
    → Contains (newest ss) d → d.option ≡ o
    → (o < length place) × (get_or place o 0 < length ss) × (get_or ss (get_or place o 0) z ≡ d)
decided_at place ss o z placed d h e =
    let r = placed_less place (newest ss) placed d (in-contains (newest ss) d h) in
    let at : slice_get place o ≡ Some r.0 = subst (λ o. slice_get place o ≡ Some r.0) e r.1 in
    let there : slice_get ss r.0 ≡ Some d =
    subst (λ (zs : List Step). slice_get zs r.0 ≡ Some d) (reverse-reverse ss) r.3 in
    let k : get_or place o 0 ≡ r.0 = get_or_from_slice_get place o r.0 0 at in (
      slice_get_within place o r.0 at,
      subst (λ n. n < length ss) (sym k) (slice_get_within ss r.0 d there),
      subst (λ n. get_or ss n z ≡ d) (sym k) (get_or_from_slice_get ss r.0 d z there),
    )

in_reverse : (ss : List Step) (d : Step) → IsIn ss d → IsIn (reverse ss) d
in_reverse [] d h = absurd h
in_reverse (e ∷ ss) d (inl q) =
    subst (λ (zs : List Step). IsIn zs d) (sym (first_last e ss)) (append-in_right (reverse ss) (e ∷ []) d (inl q))
in_reverse (e ∷ ss) d (inr k) =
    subst (λ (zs : List Step). IsIn zs d) (sym (first_last e ss))
    (append-in_left (reverse ss) (e ∷ []) d (in_reverse ss d k))

-- what stands at a place is a decision
pub at_place : (ss : List Step) (k : ℕ) (z : Step) → k < length ss → Contains (newest ss) (get_or ss k z)
at_place ss k z h =
    contains-in (newest ss) (get_or ss k z) (in_reverse ss (get_or ss k z)
    (in-contains ss (get_or ss k z) (k, h, get_or_default ss k (get_or ss k z) z h)))

pub there : (ss : List Step) (k : ℕ) (d : Step) → k < length ss → d ≡ get_or ss k d → Contains (newest ss) d
there ss k d h e = subst (Contains (newest ss)) (sym e) (at_place ss k d h)

-- who reads the place of an option, and there a step, sees the decision about it
pub seen : (place : List ℕ) (ss : List Step) (o a : ℕ) (z : Step) → a ≡ get_or place o a → z ≡ get_or ss a z
    → ArePlaced place (newest ss) → (d : Step) → Contains (newest ss) d → d.option ≡ o
    → (o < length place) × (a < length ss) × (z.option ≡ o)
seen place ss o a z k e placed d h same =
    let at = decided_at place ss o z placed d h same in
    let is : get_or place o 0 ≡ a = get_or_default place o 0 a at.0 ∙ sym k in
    let here : z ≡ d = e ∙ subst (λ n. get_or ss n z ≡ d) is at.2 in
    (at.0, subst (λ n. n < length ss) is at.1, ap (λ (d : Step). d.option) here ∙ same)

pub taken_at : (ss : List Step) (k : ℕ) (z : Step) (o : ℕ) → k < length ss → (get_or ss k z).taken ≡ true
    → (get_or ss k z).option ≡ o → Contains (taken_of (newest ss)) o
taken_at ss k z o h t e =
    let d = get_or ss k z in
    contains-in (taken_of (newest ss)) o (subst (IsIn (taken_of (newest ss))) e
    (taken_in (newest ss) d (in-contains (newest ss) d (at_place ss k z h)) t))

-- ======== What is lost.

module _ (p : Puzzle) (f : ℕ → ℕ) (gap : ℕ) (ds : List Step) where
  -- what was taken has too much
  pub cut_spent : (place : List ℕ) → ArePlaced place ds → gap ≤ sum_by f (taken_of ds) → IsCut p f gap ds
  cut_spent place placed h s c is =
      omega (arith, h, sum_within f s (taken_of ds) (taken_differ place ds placed) (decided_in ds s is))

  -- what is lost by its items is lost
  pub lost_barred : (o : ℕ) → includes (taken_of ds) o ≡ false → IsBarred p ds o → IsExcluded p f gap ds o
  lost_barred o none bar s c is less = bar s c is none

  -- an option that was left out
  pub lost_out : (d : Step) → IsIn ds d → d.taken ≡ false → IsExcluded p f gap ds d.option
  lost_out d h out s c is less = as_said ds s is d h ∙ out

  -- an option that has too much
  pub lost_dear : (place : List ℕ) (o : ℕ) → ArePlaced place ds → includes (taken_of ds) o ≡ false
      → gap ≤ sum_by f (taken_of ds) + f o → IsExcluded p f gap ds o
  lost_dear place o placed none dear s c is less = by_bool (includes s o)
      (λ e.
      let apart = each_from (λ y. o ≢ y) (taken_of ds) (λ y h g.
      let yes = in_has (taken_of ds) y h in
      let no : includes (taken_of ds) y ≡ false = subst (λ z. includes (taken_of ds) z ≡ false) g none in
      cc) in
      let all = sum_within f s (o ∷ taken_of ds) (apart, taken_differ place ds placed) (λ t h. elim h [
        | inl q ↦ subst (IsIn s) q (has_in s o e)
        | inr k ↦ decided_in ds s is t k
      ]) in
      absurd (omega (arith, all, dear, less, sum_by-cons f o (taken_of ds))))
      (λ e. e)

  -- too few options of an item are left
  pub cut_few : (i : ℕ) (b : Bounds) (n left : ℕ) → bounds_at p i ≡ Some b → left < b.low → option_count p ≤ n
      → ((s : List ℕ) → IsCover p s → IsAsDecided ds s → sum_by f s < gap
      → count_by (holds_and_has p i s) (up_to n) ≤ left)
      → IsCut p f gap ds
  cut_few i b n left at few all count s c is = by_bool (nat_lt (sum_by f s) gap)
      (λ e.
      let less : sum_by f s < gap = grind (arith, nat_tests, e) in
      let listed = held_among p i n s (each_two_from_AllPairs (λ a b. a ≢ b) s c.distinct) (λ o h.
      let known : IsOption p o = All-contains (IsOption p) s o c.known (contains-in s o h) in
      (known.0, omega (arith, known.1, all))) in
      absurd (omega (arith, listed, count s c is less, (c.within i b at).0, few)))
      (λ e. grind (arith, nat_tests, e))

module _ (p : Puzzle) (ds : List Step) (o i : ℕ) where
  -- an item of it is held as often as it may be
  pub barred_full : (place : List ℕ) (b : Bounds) → ArePlaced place ds → bounds_at p i ≡ Some b
      → is_some (colour_in (uses_of p o) i) ≡ true → b.high ≤ times_held p i (taken_of ds) → IsBarred p ds o
  barred_full place b placed at holds full s c is none = by_bool (includes s o)
      (λ e.
      let q : ℕ → ℕ = λ o. cond (is_some (colour_in (uses_of p o) i)) 1 0 in
      let one : q o ≡ 1 = rw holds refl in
      let apart = each_from (λ y. o ≢ y) (taken_of ds) (λ y h g.
      let yes = in_has (taken_of ds) y h in
      let no : includes (taken_of ds) y ≡ false = subst (λ z. includes (taken_of ds) z ≡ false) g none in
      cc) in
      let all = sum_within q s (o ∷ taken_of ds) (apart, taken_differ place ds placed) (λ t h. elim h [
        | inl z ↦ subst (IsIn s) z (has_in s o e)
        | inr k ↦ decided_in ds s is t k
      ]) in
      absurd (omega (arith, all, one, full, (c.within i b at).1, sum_by-cons q o (taken_of ds))))
      (λ e. e)

  -- one that was taken holds an item of it for a colour that doesn't agree
  pub barred_met : (t a b : ℕ) → IsIn (taken_of ds) t → IsSecondary p i → colour_in (uses_of p t) i ≡ Some a
      → colour_in (uses_of p o) i ≡ Some b → ((a ≡ b) × (0 < a) → ⊥) → IsBarred p ds o
  barred_met t a b there secondary first second differs s c is none = by_bool (includes s o)
      (λ e.
      let other : t ≢ o = λ g.
      let yes = in_has (taken_of ds) t there in
      let no : includes (taken_of ds) t ≡ false = subst (λ z. includes (taken_of ds) z ≡ false) (sym g) none in
      cc in
      absurd (differs (c.agree t o i a b (contains-in s t (decided_in ds s is t there))
      (contains-in s o (has_in s o e)) other secondary first second)))
      (λ e. e)

-- ======== What the tables keep.

newer : (ss : List Step) (d : Step) → newest (ss ++ d ∷ []) ≡ d ∷ newest ss
newer ss d = reverse-append ss (d ∷ [])

module _ (p : Puzzle) (f : ℕ → ℕ) where
  -- an option was taken
  pub kept_taken : (place held more : List ℕ) (ss : List Step) (d : Step) (new : List Step) (n : ℕ)
      → new ≡ ss ++ d ∷ [] → d.taken ≡ true → n ≡ length ss → d.option < length place
      → ((e : Step) → Contains (newest ss) e → e.option ≡ d.option → ⊥)
      → d.spent ≤ sum_by f (taken_of (newest ss)) + f d.option
      → ((i : ℕ) → get_or more i 0 ≤ get_or held i 0 + once_if_held (uses_of p d.option) i)
      → AreTablesOf p f place held ss → AreTablesOf p f (set place d.option n) more new
  kept_taken place held more ss d new n is took e within none spent greater k =
      let next : newest new ≡ d ∷ newest ss = ap newest is ∙ newer ss d in
      let ts : taken_of (d ∷ newest ss) ≡ d.option ∷ taken_of (newest ss) = rw took refl in
      let many : n ≡ length (newest ss) = e ∙ sym (length-reverse ss) in
      record {
        placed = subst (ArePlaced (set place d.option n)) (sym next) (placed_more place d (newest ss) n k.placed
            (λ z h. none z (contains-in (newest ss) z h)) within many);
        spent = subst (AreSpent f) (sym next) (
          subst (λ ts. d.spent ≤ sum_by f ts) (sym ts)
              (omega (arith, spent, sum_by-cons f d.option (taken_of (newest ss)))),
          k.spent,
        );
        held = subst (λ ds. AreHeld p more (taken_of ds)) (sym next) (subst (AreHeld p more) (sym ts)
            (λ i. omega (
              arith,
              greater i,
              k.held i,
              sum_by-cons
                  (λ o. cond (is_some (colour_in (uses_of p o) i)) 1 0) d.option (taken_of (newest ss)),
            )));
      }

-- ======== What is lost, as the search sees it.

pub none_taken : (ds : List Step) (o : ℕ) → ((d : Step) → Contains ds d → d.option ≡ o → ⊥)
    → includes (taken_of ds) o ≡ false
none_taken ds o none = by_bool (includes (taken_of ds) o)
    (λ e. let r = of_taken ds o (has_in (taken_of ds) o e) in absurd (none r.0 (contains-in ds r.0 r.1) r.2))
    (λ e. e)

pub seen_out : (p : Puzzle) (f : ℕ → ℕ) (gap : ℕ) (ds : List Step) (o : ℕ) (d : Step)
    → (Contains ds d × (d.option ≡ o)) → d.taken ≡ false → IsExcluded p f gap ds o
seen_out p f gap ds o d h out =
    subst (IsExcluded p f gap ds) h.1 (lost_out p f gap ds d (in-contains ds d h.0) out)

pub seen_dear : (p : Puzzle) (f : ℕ → ℕ) (gap : ℕ) (place held : List ℕ) (ss : List Step) (o spent : ℕ)
    → AreTablesOf p f place held ss → ((d : Step) → Contains (newest ss) d → d.option ≡ o → ⊥)
    → spent ≤ sum_by f (taken_of (newest ss)) → gap ≤ spent + f o → IsExcluded p f gap (newest ss) o
seen_dear p f gap place held ss o spent kept none few dear =
    lost_dear p f gap (newest ss) place o kept.placed (none_taken (newest ss) o none) (omega (arith, few, dear))

pub seen_barred : (p : Puzzle) (f : ℕ → ℕ) (gap : ℕ) (ds : List Step) (o : ℕ)
    → ((d : Step) → Contains ds d → d.option ≡ o → ⊥) → IsBarred p ds o → IsExcluded p f gap ds o
seen_barred p f gap ds o none bar = lost_barred p f gap ds o (none_taken ds o none) bar

pub seen_taken : (ds : List Step) (o : ℕ) (d : Step) → (Contains ds d × (d.option ≡ o)) → d.taken ≡ true
    → Contains (taken_of ds) o
seen_taken ds o d h t =
    contains-in (taken_of ds) o (subst (IsIn (taken_of ds)) h.1 (taken_in ds d (in-contains ds d h.0) t))
