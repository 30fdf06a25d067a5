-- What helps to prove the checker of listings: its lines, its words and its index of classes.
use Rattle.std.proofs.lemmas.Bool.Decides.{nat_tests}
use Rattle.std.proofs.lemmas.List.{take_rest, append-nil, length-map, map-id}
use Rattle.std.proofs.Common.{[], ◌≡◌, ℕ, zero, suc, ◌+◌, ◌-◌, ◌<◌, true, false, nat_eq, List, ◌∷◌, ◌++◌, length, take}
use Rattle.std.proofs.Common.{drop, get_or, refl, ap, ◌∙◌, append_assoc, add-one, arith, Bool, not, ◌&&◌, Some}
use Rattle.std.proofs.Common.{if◌then◌else◌, Option, map, position, None, sym, subst, ◌≢◌, ◌≤◌, cond, ap₂, inl, inr}
use Rattle.std.proofs.Common.{nat_lt, eq-eqb, ◌==◌, ◌^◌, ◌||◌, min, filter, is_some, ne_eqb}
use Rattle.std.specs.List.{onto_first, list_all, list_any, range_with_len, position_or_len, AllByRecursion, AllZip}
use Rattle.std.specs.List.{before_first}
use Rattle.std.proofs.lemmas.Bool.{eqb-true, cases_eq, cases_lt}
use Rattle.std.proofs.lemmas.Grind.{common_steps}
use Rattle.std.specs.Prelude.{Vec, slice_get, unwrap_or, Contains, All, nat_le, IfSome, ◌↔◌, IsTrue, filter_map}
use Rattle.std.specs.Prelude.{AllPairs}
use Rattle.std.specs.declared.alloc.Global.{Global}
use Rattle.std.proofs.lemmas.List.Quantifiers.{position-Some}
use Rattle.std.proofs.lemmas.Option.{slice_get-get_or, slice_get_within, same_Some, get_or_from_slice_get, IfSome_then}
use Rattle.std.proofs.Math.ListN.{set}
use Rattle.std.proofs.lemmas.List.Elements.{Contains-append_left, Contains-push, All-set, filter-append}
use Rattle.std.proofs.lemmas.List.Elements.{recursion_from_All}
use Rattle.std.proofs.lemmas.List.FromFn.{length-range_with_len, sum_by-map-range_with_len_more}
use Rattle.std.proofs.lemmas.List.Sums.{count_by-le-length}
use Rattle.std.specs.Option.{option_map, option_or}
use Rattle.std.proofs.lemmas.Slice.Eq.{slice_eq-Decides}
use Rattle.std.specs.Cmp.Lexicographic.{pointwise}
use Rattle.xc_text.specs.Words.{has, is_space}
use Rattle.xc_input.specs.declared.problem.Use.{Use}
use Rattle.xc_input.specs.Problem.{uses_of, IsOption, Puzzle, option_count, IsValid, IsItem, IsSecondary, IsSoundUse}
use Rattle.xc_input.specs.Problem.{bounds_at, colour_in, primary_count}
use Rattle.xc_input.specs.Named.{Named, IsKnownUse, IsSound}
use Rattle.xc_input.specs.declared.problem.Bounds.{Bounds}
use Rattle.xc_text.proofs.ByteLemmas.{has-all}
use Rattle.xc_input.proofs.FaultLemmas.{no-place, map-snoc, position-map, not_false}
use Rattle.xc_text.proofs.ListLemmas.{IsIn, in-contains, slice_get-in, each_in, in-append, contains-in, in-slice_get}
use Rattle.xc_text.proofs.ListLemmas.{EachTwo, EachTwo-append, each_two_from_AllPairs, AllPairs-from_each_two}
use Rattle.xc_text.proofs.ListLemmas.{list_all-each, and_left}
use Rattle.xc_input.proofs.TokenLemmas.{slice_get-map-some}
use Rattle.xc_input.specs.Cover.{IsCover, times_held}
use Rattle.xc_check.specs.ListingLines.{words_in, is_word, is_ending, body_of_words, header_number, body_of}
use Rattle.xc_check.specs.inner.Classes.{same_uses, IsClassOfBody, class_of, class_at, HaveWords, IsOptionIndex}
use Rattle.xc_check.specs.inner.Classes.{key_uses, AreClassesTo, class_size_to, AreClasses, Classes, IsIndexed}
use Rattle.xc_check.specs.inner.Classes.{IsOfClass, IsCoverOfClasses, is_colour_met, is_use_met, do_agree}
use Rattle.xc_check.specs.inner.Classes.{is_held_within}
use Rattle.xc_check.specs.UseTexts.{rotated_at, use_word}
use Rattle.xc_check.specs.Listed.{is_body, is_known, is_none, Solution, fault_in_lines, solutions_of}
use Rattle.xc_check.specs.declared.judged_line.SeenLine.{SeenLine}
use Rattle.xc_check.specs.inner.Listings.{IsFoundIn, IsNotedIn, IsClassOfLine, IsRightly, Listing, before_listing}
use Rattle.xc_check.specs.inner.Listings.{ReadLine, Header, Body, Other, read, listing_of}
use Rattle.xc_check.specs.declared.verdict.Verdict.{Verdict}
use Rattle.xc_check.specs.declared.verdict.ListingFault.{ListingFault}
use Rattle.xc_check.specs.declared.verdict.ListingFault.TheVariants.{BadLine, UnknownOption}
use Rattle.xc_check.specs.inner.Checking.{Progress, AreChosen, with_later, Closes, Takes}
use Rattle.xc_check.proofs.ClassLemmas.{class-turned, turned-alike, uses-same, All-turned, body-is, is-body}
use Rattle.xc_check.proofs.ClassLemmas.{same_uses_by_words, any-in, in-any, option-differs, option-known, counted}
use Rattle.xc_check.proofs.ClassLemmas.{is_counted, counted_some, same_uses-are, same_uses-itself, in-range}
use Rattle.xc_check.proofs.ClassLemmas.{class_start}
use Rattle.xc_check.proofs.ClassLemmas.{StandFor, classes_decide, uses-in, AllZip-append, by_pairs, passes-at}
use Rattle.xc_check.proofs.ClassLemmas.{option-sound, DifferInItems}

-- ======== Texts cut at a byte, and what is left of their lines and words.

at_last : (b : ℕ) (xs : List ℕ) (k : ℕ) → k < length xs
    → ((j : ℕ) → k < j → j < length xs → nat_eq (get_or xs j 0) b ≡ false) → nat_eq (get_or xs k 0) b ≡ true
    → (xs ≡ take k xs ++ b ∷ drop (suc k) xs) × (has b (drop (suc k) xs) ≡ false)
at_last b [] k l h g = absurd (omega (arith, l))
at_last b (x ∷ xs) zero l h g =
    (ap (λ y. y ∷ xs) (eqb-true x b g), (has-all b xs (λ j p. h (suc j) (omega arith) (omega (arith, p)))).0)
at_last b (x ∷ xs) (suc k) l h g =
    let r : (xs ≡ take k xs ++ b ∷ drop (suc k) xs) × (has b (drop (suc k) xs) ≡ false) =
    at_last b xs k (omega (arith, l)) (λ j p q. h (suc j) (omega (arith, p)) (omega (arith, q))) g in
    (ap (λ ys. x ∷ ys) r.0, r.1)

-- a text cut at its last such byte
pub last_cut : (b : ℕ) (xs ys : List ℕ) (k : ℕ) → ys ≡ take (length xs - (k + 1)) (drop (k + 1) xs) → k < length xs
    → ((j : ℕ) → k < j → j < length xs → nat_eq (get_or xs j 0) b ≡ false) → nat_eq (get_or xs k 0) b ≡ true
    → (has b ys ≡ false) × (xs ≡ take k xs ++ b ∷ ys)
last_cut b xs ys k e l h g = grind (arith, nat_tests, at_last b xs k l h g, take_rest xs (k + 1), add-one k)

-- WORDS
pub one_word : (word : List ℕ) → has 32 word ≡ false → words_in word ≡ word ∷ []
one_word [] h = refl
one_word (x ∷ word) h = grind (arith, nat_tests, one_word word)

pub first_word : (word rest : List ℕ) → has 32 word ≡ false → words_in (word ++ 32 ∷ rest) ≡ word ∷ words_in rest
first_word [] rest h = refl
first_word (x ∷ word) rest h = grind (arith, nat_tests, first_word word rest)

onto_first-some : (x : ℕ) (ws : List (List ℕ)) → 0 < length (onto_first x ws)
onto_first-some x [] = omega arith
onto_first-some x (w ∷ ws) = omega arith

-- there is a word in every text
pub some_words : (text : List ℕ) → 0 < length (words_in text)
some_words [] = omega arith
some_words (x ∷ text) = grind (arith, nat_tests, onto_first-some x (words_in text))

last : (front word : List ℕ) → has 32 word ≡ false → words_in (front ++ 32 ∷ word) ≡ words_in front ++ word ∷ []
last [] word h = ap (λ ws. [] ∷ ws) (one_word word h)
last (x ∷ front) word h = grind (arith, nat_tests, last front word h, some_words front)

pub last_word : (text front word : List ℕ) → has 32 word ≡ false → text ≡ front ++ 32 ∷ word
    → words_in text ≡ words_in front ++ word ∷ []
last_word text front word h e = ap words_in e ∙ last front word h

-- ======== The words of a choice line.

-- WORDS OF A TEXT
-- whether what is left of words is words; fresh: no byte of the first one was seen
abbrev pub words_from : Bool → List ℕ → Bool
words_from fresh [] = not fresh
words_from fresh (b ∷ text) =
    if nat_eq b 32 then not fresh && words_from true text else not (is_space b) && words_from false text

-- whether these are words; fresh: no byte of the first one was seen
abbrev are_from : Bool → List (List ℕ) → Bool
are_from true ws = list_all is_word ws
are_from false [] = true
are_from false (w ∷ ws) = not (list_any is_space w) && list_all is_word ws

longer : (fresh : Bool) (b : ℕ) (ws : List (List ℕ))
    → are_from fresh (onto_first b ws) ≡ (not (is_space b) && are_from false ws)
longer true b [] = grind (arith, nat_tests)
longer true b (w ∷ ws) = grind (arith, nat_tests)
longer false b [] = grind (arith, nat_tests)
longer false b (w ∷ ws) = grind (arith, nat_tests)

words_left : (fresh : Bool) (text : List ℕ) → are_from fresh (words_in text) ≡ words_from fresh text
words_left true [] = refl
words_left false [] = refl
words_left true (b ∷ text) = grind (arith, nat_tests, longer true, words_left true text, words_left false text)
words_left false (b ∷ text) = grind (arith, nat_tests, longer false, words_left true text, words_left false text)

pub all_words : (text : List ℕ) → list_all is_word (words_in text) ≡ words_from true text
all_words text = words_left true text

-- BODIES
-- what stands before three words
pub before_three : (words bs ending : List (List ℕ)) → 0 < length bs → words ≡ bs ++ ending → length ending ≡ 3
    → list_all is_word words ≡ true → is_ending ending ≡ true → Some bs ≡ body_of_words words
before_three words bs ending l e three all ends = grind (arith, common_steps, nat_tests)

-- ======== Classes found by their uses.

-- uses that are found among the keys
pub found-key : (us : List Use) (keys : List (Vec Use Global)) (k : ℕ)
    → position (λ v. same_uses us v.items) keys ≡ Some k → slice_get (key_uses keys) k ≡ Some us
found-key us keys k e =
    let at = position-Some (same_uses us) (key_uses keys) k [] (position-map (same_uses us) (λ v. v.items) keys ∙ e) in
    cc (slice_get-get_or (key_uses keys) k [] at.0, (uses-same us (get_or (key_uses keys) k [])).0 at.1)

-- uses that aren't
pub lost-key : (us : List Use) (keys : List (Vec Use Global)) → position (λ v. same_uses us v.items) keys ≡ None
    → IsIn (key_uses keys) us → ⊥
lost-key us keys e h =
    let absent = no-place (same_uses us) (key_uses keys) (position-map (same_uses us) (λ v. v.items) keys ∙ e) in
    cc (any-in (same_uses us) (key_uses keys) us h ((uses-same us us).1 refl))

-- the keys behind new ones
pub new-uses : (keys : List (Vec Use Global)) (k : Vec Use Global) (all : List (Vec Use Global)) (us : List Use)
    → position (λ v. same_uses us v.items) keys ≡ None → k.items ≡ us
    → all ≡ (if list_any (λ v. same_uses k.items v.items) keys then keys else keys ++ k ∷ [])
    → key_uses all ≡ key_uses keys ++ us ∷ []
new-uses keys k all us e f g =
    let out = no-place (λ v. same_uses us v.items) keys e in
    let here : list_any (λ v. same_uses k.items v.items) keys ≡ false =
    ap (λ n. list_any (λ (v : Vec Use Global). same_uses n v.items) keys) f ∙ out in
    cc (g, here, map-snoc (λ (v : Vec Use Global). v.items) keys k, f)

-- an option that a body stands for
pub known-as : (p : Named) → IsSound p → (words : List (List ℕ)) → is_known p words ≡ true → (o : ℕ)
    × IsOption p.puzzle o × (k : ℕ) × HaveWords p words (rotated_at k (uses_of p.puzzle o))
known-as p s words h =
    let x = in-any (is_body p words) p.puzzle.options h in
    let at = slice_get-in p.puzzle.options x.0 x.1 in
    let uses : uses_of p.puzzle (suc at.0) ≡ x.0 = ap (λ o. unwrap_or o []) at.1 in
    let within = slice_get_within p.puzzle.options at.0 x.0 at.1 in
    let known : IsOption p.puzzle (suc at.0) = (omega arith, omega (arith, within)) in
    let k = body-is p words x.0 x.2 in
    let all = All-turned (IsKnownUse p) k.0 _ (option-known p s (suc at.0) known) in
    (suc at.0, known, k.0, rw uses (record { known = rw uses at all; words_so = k.2 }))

module _ (p : Named) (keys : List (Vec Use Global)) (counts : List ℕ) (b : IsOptionIndex p keys counts) where
  -- a body that no uses have the words of
  pub no-uses : (words : List (List ℕ)) → ((us : List Use) → HaveWords p words us → ⊥) → is_known p words ≡ false
  no-uses words none = grind (arith, known-as)

  -- a body of uses that are of no class
  pub no-class : (words : List (List ℕ)) (us : List Use) → HaveWords p words us
      → (IsIn (key_uses keys) (class_of us) → ⊥) → is_known p words ≡ false
  no-class words us have none = not_false (is_known p words) (λ h.
      let o = known-as p b.sound words h in
      let vs = uses_of p.puzzle o.0 in
      let same : rotated_at o.2 vs ≡ us = grind (arith, same_uses_by_words) in
      let class : class_at p.puzzle o.0 ≡ class_of us =
      sym (class-turned o.2 vs (option-differs p.puzzle b.sound.valid o.0 o.1)) ∙ ap class_of same in
      none (subst (IsIn (key_uses keys)) class (in-contains _ _ (b.complete.whole o.0 o.1.0 o.1.1))))

  -- a body of uses of this class
  pub its-class : (words : List (List ℕ)) (us : List Use) (k : ℕ) → HaveWords p words us → 0 < length us
      → slice_get (key_uses keys) k ≡ Some (class_of us)
      → IsClassOfBody (record { problem = p; classes = key_uses keys }) words (Some k)
  its-class words us k have l at = (
    slice_get_within (key_uses keys) k (class_of us) at,
    λ o h. (
        let vs = uses_of p.puzzle o in
        let class = same_Some _ _ (sym at ∙ h.1) in
        let j = turned-alike us vs 0 (option-differs p.puzzle b.sound.valid o h.0) class l in
        is-body p words vs j.0 j.1 (ap (map (use_word p)) (sym j.2 ∙ append-nil us) ∙ have.words_so)),
  )

  -- what a look-up of the class of a body's uses says
  pub class-found : (words : List (List ℕ)) (us class : List Use) (r : Option ℕ) → HaveWords p words us → 0 < length us
      → class ≡ class_of us → r ≡ position (λ v. same_uses class v.items) keys
      → IsClassOfBody (record { problem = p; classes = key_uses keys }) words r
  class-found words us class None have l e f = grind (arith, no-class, lost-key)
  class-found words us class (Some k) have l e f =
      its-class words us k have l (found-key class keys k (sym f) ∙ ap (λ x. Some x) e)

-- a text's words are some
pub some-uses : (p : Named) (text : List ℕ) (us : List Use) → HaveWords p (words_in text) us → 0 < length us
some-uses p text us h = omega (arith, length-map us (use_word p), ap length h.words_so, some_words text)

-- ======== One option more among the classes.

-- no more of the first n options are of a class than there are
pub members-few : (p : Puzzle) (n : ℕ) (us : List Use) → class_size_to p n us ≤ n
members-few p n us = grind (arith, count_by-le-length, same_uses, length-range_with_len)

members-suc : (p : Puzzle) (n : ℕ) (us : List Use)
    → class_size_to p (suc n) us ≡ class_size_to p n us + cond (same_uses us (class_at p (suc n))) 1 0
members-suc p n us =
    let more = sum_by-map-range_with_len_more (λ o. cond (same_uses us (class_at p o)) 1 0) (λ o. o) 1 n (suc n)
    (omega arith) in
    simp add-one at (simp map-id at more)

-- the counts of classes of which one is x
module _ (f g : List Use → ℕ) (x : List Use) (same : (us : List Use) → us ≢ x → f us ≡ g us) where
  others : (classes : List (List Use)) → ((us : List Use) → IsIn classes us → us ≢ x) → map f classes ≡ map g classes
  others [] h = refl
  others (us ∷ classes) h = ap₂ (λ n ns. n ∷ ns) (same us (h us (inl refl))) (others classes (λ vs k. h vs (inr k)))

  counts-found : (classes : List (List Use)) (k n : ℕ) → EachTwo (λ a b. a ≢ b) classes → slice_get classes k ≡ Some x
      → n ≡ g x → set (map f classes) k n ≡ map g classes
  counts-found [] k n d e h = cc
  counts-found (us ∷ classes) zero n d e h = grind (arith, nat_tests, others classes, each_in)
  counts-found (us ∷ classes) (suc k) n d e h =
      ap₂ (λ n ns. n ∷ ns) (same us (each_in _ _ _ d.0 (in-slice_get classes k x e))) (counts-found classes k n d.1 e h)

  counts-new : (classes : List (List Use)) (n : ℕ) → (IsIn classes x → ⊥) → n ≡ g x
      → map f classes ++ n ∷ [] ≡ map g (classes ++ x ∷ [])
  counts-new classes n h e = cc (others classes (λ us k q. h (subst (IsIn classes) q k)), e, map-snoc g classes x)

-- the count of a class
pub members_at : (p : Puzzle) (n : ℕ) (classes : List (List Use)) (counts : List ℕ) (k d : ℕ) (us : List Use)
    → AreClassesTo p n classes counts → slice_get classes k ≡ Some us → get_or counts k d ≡ class_size_to p n us
members_at p n classes counts k d us a e =
    let at = slice_get-map-some (class_size_to p n) classes k us (sym e) in
    ap (λ cs. get_or cs k d) a.counted ∙ get_or_from_slice_get (map (class_size_to p n) classes) k _ d at

module _ (p : Puzzle) (n : ℕ) where
  abbrev added : List Use
  added = class_at p (suc n)

  same_members : (us : List Use) → us ≢ added → class_size_to p n us ≡ class_size_to p (suc n) us
  same_members us ne = grind (arith, nat_tests, same_uses-are, members-suc)

  one_member : class_size_to p (suc n) added ≡ class_size_to p n added + 1
  one_member = grind (arith, nat_tests, same_uses-itself added, members-suc p n added)

  by_last : {X : ℕ → Type 0} → ((o : ℕ) → 1 ≤ o → o ≤ n → X o) → X (suc n) → (o : ℕ) → 1 ≤ o → o ≤ suc n → X o
  by_last {X} before last o l m = grind (arith, cases_eq)

  -- an option of a class that there is
  pub classes-found : (classes : List (List Use)) (counts : List ℕ) (k c : ℕ) → AreClassesTo p n classes counts
      → slice_get classes k ≡ Some added → c ≡ get_or counts k c
      → AreClassesTo p (suc n) classes (set counts k (c + 1))
  classes-found classes counts k c a e h = record {
    distinct = a.distinct;
    whole =
        by_last {X = λ o. Contains classes (class_at p o)} a.whole
        (contains-in classes added (in-slice_get classes k added e));
    used = λ j us q. (let u = a.used j us q in let m = u.2 in (u.0, u.1, omega (arith, m), u.3));
    counted =
        ap (λ cs. set cs k (c + 1)) a.counted
        ∙ counts-found (class_size_to p n) (class_size_to p (suc n)) added same_members classes k (c + 1)
        (each_two_from_AllPairs _ classes a.distinct) e
        (omega (arith, h, members_at p n classes counts k c added a e, one_member));
  }

  no-members : (classes : List (List Use)) (counts : List ℕ) → AreClassesTo p n classes counts
      → (IsIn classes added → ⊥) → class_size_to p n added ≡ 0
  no-members classes counts a h =
      let of_class : ℕ → Bool = λ o. same_uses added (class_at p o) in
      elim (cases_lt 0 (counted of_class (range_with_len 1 n))) [
        | inl l ↦
            let o = counted_some of_class (range_with_len 1 n) l in
            let known = in-range 1 n o.0 o.1 in
            absurd (h (in-contains classes added (subst (Contains classes) (sym (same_uses-are added _ o.2))
            (a.whole o.0 known.0 (omega (arith, known.1))))))
        | inr l ↦ omega (arith, l, is_counted of_class (range_with_len 1 n))
      ]

  -- an option of a new class
  pub classes-new : (classes all : List (List Use)) (counts more : List ℕ) → AreClassesTo p n classes counts
      → (IsIn classes added → ⊥) → all ≡ classes ++ added ∷ [] → more ≡ counts ++ 1 ∷ []
      → AreClassesTo p (suc n) all more
  classes-new classes all counts more a h q r = rw (q, r) (record {
    distinct = AllPairs-from_each_two _ _ (EachTwo-append (λ (a b : List Use). a ≢ b) classes (added ∷ [])
        (each_two_from_AllPairs _ classes a.distinct) (tt, tt)
        (λ us vs j k e. elim k [ inl z ↦ h (subst (IsIn classes) (e ∙ sym z) j) | inr z ↦ absurd z ]));
    whole =
        by_last {X = λ o. Contains (classes ++ added ∷ []) (class_at p o)}
        (λ o l m. Contains-append_left classes (added ∷ []) (class_at p o) (a.whole o l m))
        (Contains-push classes added);
    used = λ k us e. elim (in-append classes (added ∷ []) us (in-slice_get (classes ++ added ∷ []) k us e)) [
      | inl i ↦
          let j = slice_get-in classes us i in
          let u = a.used j.0 us j.1 in
          let m = u.2 in
          (u.0, u.1, omega (arith, m), u.3)
      | inr (inl z) ↦ (suc n, omega arith, omega arith, z)
      | inr (inr z) ↦ absurd z
    ];
    counted = ap (λ cs. cs ++ 1 ∷ []) a.counted
        ∙ counts-new (class_size_to p n) (class_size_to p (suc n)) added same_members classes 1 h
        (omega (arith, no-members classes counts a h, one_member));
  })

-- ======== The classes of options.

-- the classes of all options are those of the problem
pub classes-whole : (p : Puzzle) (classes : List (List Use)) (counts : List ℕ)
    → AreClassesTo p (option_count p) classes counts → AreClasses p classes
classes-whole p classes counts a = record {
  distinct = a.distinct;
  whole = λ o h. a.whole o h.0 h.1;
  used = λ k us e. (let u = a.used k us e in (u.0, (u.1, u.2), u.3));
}

-- the uses of a class can be told
pub known-uses : (p : Named) (keys : List (Vec Use Global)) (counts : List ℕ) → IsOptionIndex p keys counts
    → (k : ℕ) (v : Vec Use Global) → Some v ≡ slice_get keys k → All (IsKnownUse p) v.items
known-uses p keys counts b k v e =
    let u = b.complete.used k v.items (slice_get-map-some (λ v. v.items) keys k v e) in
    let us = uses_of p.puzzle u.0 in
    rw u.3 at (All-turned (IsKnownUse p) (class_start us) us (option-known p b.sound u.0 (u.1, u.2)))

-- ======== Names and colours by their texts.

-- one of the first n passes where the first that passes is among them
any-take : (p : List ℕ → Bool) (xs : List (List ℕ)) (n : ℕ)
    → list_any p (take n xs) ≡ (nat_lt (position_or_len p xs) n && nat_lt (position_or_len p xs) (length xs))
any-take p [] zero = refl
any-take p [] (suc n) = grind (arith, nat_tests)
any-take p (x ∷ xs) zero = grind (arith, nat_tests)
any-take p (x ∷ xs) (suc n) = grind (arith, nat_tests, any-take p xs n)

-- a number is at most n where one of the first n passes
pub any-take-number : (p : List ℕ → Bool) (xs : List (List ℕ)) (i n : ℕ) → option_map suc (position p xs) ≡ Some i
    → nat_le i n ≡ list_any p (take n xs)
any-take-number p xs i n e = grind (arith, nat_tests, any-take p xs n)

pub any-take-no_number : (p : List ℕ → Bool) (xs : List (List ℕ)) (n : ℕ) → option_map suc (position p xs) ≡ None
    → false ≡ list_any p (take n xs)
any-take-no_number p xs n e = grind (arith, nat_tests, any-take p xs n)

-- three words are no body of none
pub none-of-three : (p : Named) (a b : List ℕ) (ws : List (List ℕ)) → 0 < length ws → false ≡ is_none p (a ∷ b ∷ ws)
none-of-three p a b [] l = absurd (omega (arith, l))
none-of-three p a b (w ∷ ws) l = refl

-- ======== Lines that were met, and their classes.

-- a line that stands at a place is found there
pub found-at : (lines : List SeenLine) (place : ℕ) (l : SeenLine) (line text : List ℕ) → place < length lines
    → l ≡ get_or lines place l → pointwise (λ a b. a == b) text line ≡ true → text ≡ l.line.items
    → IfSome l.class (IsFoundIn lines line)
found-at lines place l line text within at equal is =
    let same = (slice_eq-Decides (λ (a b : ℕ). (eqb-true a b, eq-eqb a b)) _ _ _ refl).0 equal in
    some l.class (λ k e. (l, (place, within, sym at), sym is ∙ same, e))
  where
    some : (o : Option ℕ) → ((k : ℕ) → o ≡ Some k → IsFoundIn lines line k) → IfSome o (IsFoundIn lines line)
    some None f = tt
    some (Some k) f = f k refl

-- what is noted rightly stays right
pub noted-rightly : (b : Classes) (old new : List SeenLine) (line : List ℕ) (class : ℕ) → IsClassOfLine b line class
    → IsNotedIn old line class new → All (IsRightly b) old → All (IsRightly b) new
noted-rightly b old new line class is (inl same) all = rw same all
noted-rightly b old new line class is (inr h) all =
    rw h.3 (All-set (IsRightly b) old h.0 h.1 (IfSome_then h.1.class h.2 (λ k s. rw (s.1, s.0) is)) all)

-- ======== Verdicts by classes, and what a line changes.

-- OPTIONS OF CLASSES
-- a class is that of an option
option_of : (b : Classes) (k : ℕ) → AreClasses b.problem.puzzle b.classes → k < length b.classes → (o : ℕ)
    × IsOfClass b k o
option_of b k classes l = grind (arith, slice_get-get_or b.classes k [] l)

-- bodies that stand for classes stand for options of these
options_of : (b : Classes) (bodies : List (List (List ℕ))) (chosen : List ℕ) → AreClasses b.problem.puzzle b.classes
    → AllZip (λ words k. IsClassOfBody b words (Some k)) bodies chosen → (reps : List ℕ)
    × AllZip (IsOfClass b) chosen reps × AllByRecursion (IsOption b.problem.puzzle) reps
    × StandFor b.problem bodies reps
options_of b bodies chosen classes =
    by_pairs _ (λ ws ks. (reps : List ℕ) × AllZip (IsOfClass b) ks reps
    × AllByRecursion (IsOption b.problem.puzzle) reps × StandFor b.problem ws reps) ([], tt, tt, tt)
    (λ words k ws ks h later.
    let o = option_of b k classes h.0 in
    (o.0 ∷ later.0, (o.1, later.1), (o.1.0, later.2), (h.1 o.0 o.1, later.3))) bodies chosen

-- the verdict by classes
pub closed : (s : Progress) (number : ℕ) (chosen : List ℕ) (cover : Bool) (verdicts : List Verdict)
    → IsIndexed s.options → chosen ≡ s.chosen → ((reps : List ℕ) → AllZip (IsOfClass s.options) chosen reps
    → (IsTrue cover ↔ IsCoverOfClasses s.options.problem.puzzle reps)) → s.open_number ≡ Some number
    → verdicts ≡ s.verdicts ++ record { number = number; cover = cover } ∷ []
    → Closes s (record s { verdicts = verdicts })
closed s number chosen cover verdicts indexed same decided e f = grind (arith, options_of, classes_decide, append-nil)

abbrev pub progress : Classes → Option ℕ → List ℕ → List Verdict → Progress
progress b number chosen verdicts = record { options = b; open_number = number; chosen = chosen; verdicts = verdicts }

-- A LINE IS PASSED
empty-append : (o : Option ℕ) (bodies : List (List (List ℕ))) (solutions : List Solution)
    → with_later o bodies (record { loose = []; solutions = solutions }) ≡ with_later o bodies
    (record { loose = []; solutions = [] }) ++ solutions
empty-append None bodies solutions = refl
empty-append (Some n) bodies solutions = refl

body-later : (o : Option ℕ) (bodies : List (List (List ℕ))) (words : List (List ℕ)) (later : Listing)
    → with_later o (bodies ++ words ∷ []) later ≡ with_later o bodies (before_listing (Body words) later)
body-later None bodies words later = refl
body-later (Some n) bodies words later = grind (arith, append_assoc)

not-first : (done : ℕ) → true ≡ not (done + 1 == 0)
not-first done = let e : nat_eq (done + 1) 0 ≡ false = grind (arith, nat_tests) in ap not (sym e)

-- THE FAULT OF A LINE
-- the fault of line n, which says this, where a header stands before it or not
abbrev pub fault_said : Named → Bool → ℕ → ReadLine → Option ListingFault
fault_said p begun n (Header number) = None
fault_said p begun n (Body words) =
    if not begun then Some (BadLine n)
    else if is_known p words || is_none p words then None else Some (UnknownOption n)
fault_said p begun n Other = Some (BadLine n)

-- the first fault by what the first line says
pub lines-cons : (p : Named) (n : ℕ) (line : List ℕ) (lines : List (List ℕ))
    → fault_in_lines p n (line ∷ lines) ≡ option_or (fault_said p (not (n == 0)) (min (n + 1) (2 ^ 64 - 1))
    (read line)) (fault_in_lines p (n + 1) lines)
lines-cons p n line lines = grind (arith, nat_tests)

no_fault-at : (p : Named) (done : ℕ) (line : List ℕ) (rest : List (List ℕ)) (said : ReadLine) → read line ≡ said
    → fault_said p (not (done == 0)) (min (done + 1) (2 ^ 64 - 1)) said ≡ None
    → fault_in_lines p done (line ∷ rest) ≡ fault_in_lines p (done + 1) rest
no_fault-at p done line rest said e f = cc (lines-cons p done line rest, e, f)

pub header_taken : (s new : Progress) (number : ℕ) → Closes s new → Takes (Header number) s
    (record { options = s.options; open_number = Some number; chosen = []; verdicts = new.verdicts })
header_taken s new number closes all done line rest e h =
    grind (arith, not-first, empty-append, append_assoc, AllZip-append, no_fault-at)

body_taken : (s : Progress) (words : List (List ℕ)) (chosen : List ℕ) → is_some s.open_number ≡ true
    → (is_known s.options.problem words || is_none s.options.problem words) ≡ true
    → ((bodies : List (List (List ℕ))) → AreChosen s.options bodies s.chosen
    → AreChosen s.options (bodies ++ words ∷ []) chosen) → Takes (Body words) s (record s { chosen = chosen })
body_taken s words chosen some good more all done line rest e h = grind (arith, not-first, body-later, no_fault-at)

pub class_taken : (s : Progress) (words : List (List ℕ)) (k : ℕ) (chosen : List ℕ)
    → AreClasses s.options.problem.puzzle s.options.classes → IsClassOfBody s.options words (Some k)
    → is_some s.open_number ≡ true → chosen ≡ s.chosen ++ k ∷ [] → Takes (Body words) s (record s { chosen = chosen })
class_taken s words k chosen classes h some e =
    let p = s.options.problem in
    let o = option_of s.options k classes h.0 in
    let is : is_known p words ≡ true = any-in _ _ _ (uses-in p.puzzle o.0 o.1.0) (h.1 o.0 o.1) in
    body_taken s words chosen some (ap (λ t. t || is_none p words) is) (λ bodies are.
    rw (filter-append (is_known p) bodies (words ∷ []), is, e)
    (AllZip-append (λ ws j. IsClassOfBody s.options ws (Some j)) _ (words ∷ []) _ (k ∷ []) are (h, tt)))

pub none_taken : (s : Progress) (words : List (List ℕ)) → IsClassOfBody s.options words None
    → is_none s.options.problem words ≡ true → is_some s.open_number ≡ true → Takes (Body words) s s
none_taken s words h e some =
    let p = s.options.problem in
    body_taken s words s.chosen some (ap (λ t. t || is_none p words) h ∙ e) (λ bodies are.
    rw (filter-append (is_known p) bodies (words ∷ []), h, append-nil (filter (is_known p) bodies)) are)

-- ======== The solutions that lines list, line by line.

-- the bodies before the next header, and the solutions
abbrev parts : List (List ℕ) → Listing
parts lines = record {
  loose = filter_map body_of (before_first (λ l. is_some (header_number l)) lines);
  solutions = solutions_of lines;
}

listed : (lines : List (List ℕ)) → listing_of lines ≡ parts lines
listed [] = refl
listed (l ∷ lines) = by_line (header_number l) (body_of l) (listed lines) refl refl
  where
    next : 1 + position_or_len (λ l. is_some (header_number l)) lines
        ≡ suc (position_or_len (λ l. is_some (header_number l)) lines)
    next = omega arith

    by_line : (o : Option ℕ) (b : Option (List (List ℕ))) → listing_of lines ≡ parts lines → header_number l ≡ o
        → body_of l ≡ b → listing_of (l ∷ lines) ≡ parts (l ∷ lines)
    by_line (Some n) b later h g = rw (h, later, read, solutions_of) refl
    by_line None (Some words) later h g = rw (h, next, g, later, read, solutions_of) refl
    by_line None None later h g = rw (h, next, g, later, read, solutions_of) refl

pub listed_solutions : (lines : List (List ℕ)) → (listing_of lines).solutions ≡ solutions_of lines
listed_solutions lines = ap (λ (l : Listing). l.solutions) (listed lines)

-- ======== Options are a cover exactly where the tests of its conditions say so.

-- ---- colours

-- a colour of an item is given by a use
use_of_colour : (us : List Use) (i c : ℕ) → colour_in us i ≡ Some c → (u : Use) × IsIn us u × (u.item ≡ i)
    × (u.colour ≡ c)
use_of_colour [] i c h = cc
use_of_colour (u ∷ us) i c h = grind (arith, nat_tests, use_of_colour us i c, eqb-true)

-- a use gives its item its colour, where items differ
colour_of_use : (us : List Use) (u : Use) → DifferInItems us → IsIn us u → colour_in us u.item ≡ Some u.colour
colour_of_use [] u d k = absurd k
colour_of_use (v ∷ us) u d (inl q) = cc (eq-eqb _ _ (ap (λ (z : Use). z.item) q), q)
colour_of_use (v ∷ us) u d (inr q) =
    cc (ne_eqb _ _ (each_in (λ (z : Use). v.item ≢ z.item) us u d.0 q), colour_of_use us u d.1 q)

met_colour : (o : Option ℕ) (c d : ℕ) → is_colour_met o c ≡ true → o ≡ Some d → (c ≡ d) × (0 < c)
met_colour (Some e) c d h q = grind (arith, nat_tests, eqb-true, and_left)
met_colour None c d h q = cc

colour_met : (o : Option ℕ) (c : ℕ) → ((d : ℕ) → o ≡ Some d → (c ≡ d) × (0 < c)) → is_colour_met o c ≡ true
colour_met (Some d) c h = grind (arith, nat_tests, h d refl)
colour_met None c h = refl

-- ---- two options

-- what two options that agree give a secondary item
agreed : (p : Puzzle) (a b i c d : ℕ) → do_agree p a b ≡ true → a ≢ b → IsSecondary p i →
    colour_in (uses_of p a) i ≡ Some c → colour_in (uses_of p b) i ≡ Some d → (c ≡ d) × (0 < c)
agreed p a b i c d h apart second in_a in_b = grind (arith, nat_tests, use_of_colour, passes-at, met_colour)

or_else : (x y : Bool) → (x ≡ false → y ≡ true) → (x || y) ≡ true
or_else true y h = refl
or_else false y h = h refl

-- and where they give each secondary item one colour, they agree
agree : (p : Puzzle) → IsValid p → (a b : ℕ) → IsOption p a →
    ((i c d : ℕ) → a ≢ b → IsSecondary p i → colour_in (uses_of p a) i ≡ Some c → colour_in (uses_of p b) i ≡ Some d
    → (c ≡ d) × (0 < c)) → do_agree p a b ≡ true
agree p v a b known h =
    or_else _ _ (λ e. list_all-each _ _
    (λ u k. met u k (λ z. let t = eq-eqb a b z in cc)))
  where
    differ : DifferInItems (uses_of p a)
    differ = option-differs p v a known

    above : (u : Use) → IsItem p u.item → nat_le u.item (primary_count p) ≡ false → IsSecondary p u.item
    above u item e = (grind (arith, nat_tests), item.1)

    met : (u : Use) → IsIn (uses_of p a) u → a ≢ b → is_use_met (primary_count p) (uses_of p b) u ≡ true
    met u k apart =
        let sound = each_in _ _ _
        (recursion_from_All (IsSoundUse p) (uses_of p a) (option-sound p v a known).sound) k in
        or_else _ _ (λ e. colour_met _ _
        (λ d q. h u.item u.colour d apart (above u sound.0 e) (colour_of_use _ _ differ k) q))

-- ---- covers

-- the tests of different options of the problem say that they are a cover
pub cover_from_tests : (p : Puzzle) (s : List ℕ) → All (IsOption p) s → AllPairs (λ a b. a ≢ b) s →
    ((k : ℕ) → k < primary_count p → is_held_within p s (k + 1) ≡ true) →
    list_all (λ a. list_all (do_agree p a) s) s ≡ true → IsCover p s
cover_from_tests p s known apart held all = record {
  known = known;
  distinct = apart;
  within = λ i b e. within i b e;
  agree = λ a b i c d in_a in_b second other e f. agreed p a b i c d (passes-at (do_agree p a) s b
      (passes-at (λ a. list_all (do_agree p a) s) s a all (in-contains s a in_a)) (in-contains s b in_b)) second
      other e f;
}
  where
    within : (i : ℕ) (b : Bounds) → bounds_at p i ≡ Some b → (b.low ≤ times_held p i s) × (times_held p i s ≤ b.high)
    within zero b e = cc
    within (suc k) b e =
        let held_so = rw add-one at (held k (slice_get_within p.bounds k b e)) in grind (arith, nat_tests)

-- and of a cover they say so
pub tests_of_cover : (p : Puzzle) → IsValid p → (s : List ℕ) → IsCover p s
    → list_all (λ a. list_all (do_agree p a) s) s ≡ true
tests_of_cover p v s c =
    list_all-each (λ a. list_all (do_agree p a) s) s (λ a in_a. list_all-each (do_agree p a) s (λ b in_b.
    agree p v a b (each_in (IsOption p) s a (recursion_from_All (IsOption p) s c.known) in_a)
    (λ i x y other second e f. c.agree a b i x y (contains-in s a in_a) (contains-in s b in_b) other second e f)))
