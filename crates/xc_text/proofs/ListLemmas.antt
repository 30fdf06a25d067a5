-- Lemmas on lists, tests and cases, for all crates.
use Rattle.std.proofs.Common.{ℕ, zero, suc, ◌≡◌, Bool, true, false, Option, Some, None, refl, not, ◌&&◌, arith, ◌+◌}
use Rattle.std.proofs.Common.{List, [], ◌∷◌, ◌++◌, map, filter, take, subst, ◌<◌, length, get_or, ap, ◌∙◌, ◌⊎◌, inl}
use Rattle.std.proofs.Common.{inr, ◌≤◌, cond, sym, ap₂, drop, eqb, eqb-true, ◌-◌, reverse}
use Rattle.std.specs.Prelude.{option_map, slice_get, flat_map, Contains, AllPairs}
use Rattle.std.proofs.lemmas.Bool.{and_parts}
use Rattle.std.proofs.lemmas.Bool.Decides.{nat_tests}
use Rattle.std.specs.List.{AllByRecursion, enumerate_from, list_all, range_with_len}
use Rattle.std.proofs.lemmas.List.Elements.{recursion_from_All, All-from_recursion, filter_agree}
use Rattle.std.proofs.lemmas.List.Kept.{AllPairs-cons}
use Rattle.std.proofs.Math.Bool.{and_comm}
use Rattle.std.proofs.lemmas.List.Sums.{length-filter, count_by-le-length}
use Rattle.std.proofs.lemmas.Grind.{common_steps}
use Rattle.std.proofs.Math.ListN.{set}
use Rattle.std.proofs.Math.Seq.{set-append_seam, get_or-append_seam}
use Rattle.std.proofs.lemmas.List.{reverse-append, reverse-reverse, length-reverse, take_more}
use Rattle.std.proofs.lemmas.Option.{slice_get_within, get_or_from_slice_get}

-- ======== By cases of a value, each with what the value is there.

pub by_bool : {P : Type 0} (b : Bool) → (b ≡ true → P) → (b ≡ false → P) → P
by_bool true f g = f refl
by_bool false f g = g refl

pub by_option : {A P : Type 0} (o : Option A) → (o ≡ None → P) → ((a : A) → o ≡ Some a → P) → P
by_option None f g = f refl
by_option (Some a) f g = g a refl

pub by_number : {P : Type 0} (n : ℕ) → (n ≡ 0 → P) → ((k : ℕ) → n ≡ suc k → P) → P
by_number zero f g = f refl
by_number (suc k) f g = g k refl

-- what an option is, of which a function's value is known
pub mapped_none : {A B : Type 0} (f : A → B) (o : Option A) → option_map f o ≡ None → o ≡ None
mapped_none f None e = refl
mapped_none f (Some a) e = cc

pub mapped_some : {A B : Type 0} (f : A → B) (o : Option A) (b : B) → option_map f o ≡ Some b → (a : A) × (o ≡ Some a)
    × (f a ≡ b)
mapped_some f None b e = cc
mapped_some f (Some a) b e = let same : f a ≡ b = cc in (a, refl, same)

-- ======== Facts of tests.

pub and_left : (a b : Bool) → (a && b) ≡ true → a ≡ true
and_left a b e = (and_parts a b e).0

pub and_right : (a b : Bool) → (a && b) ≡ true → b ≡ true
and_right a b e = (and_parts a b e).1

pub only_rest : (a b : Bool) → (not (a && b) && not a) ≡ not a
only_rest true b = elim b as (λ b. (not (true && b) && false) ≡ false) [ true ↦ refl | false ↦ refl ]
only_rest false b = refl

-- ======== What holds of each element of a list.

pub each_weaker : {X : Type 0} (P Q : X → Type 0) (xs : List X) → ((x : X) → P x → Q x) → AllByRecursion P xs
    → AllByRecursion Q xs
each_weaker P Q [] h a = a
each_weaker P Q (x ∷ xs) h a = (h x a.0, each_weaker P Q xs h a.1)

pub each-append : {X : Type 0} (P : X → Type 0) (xs ys : List X) → AllByRecursion P xs → AllByRecursion P ys
    → AllByRecursion P (xs ++ ys)
each-append P [] ys a b = b
each-append P (x ∷ xs) ys a b = (a.0, each-append P xs ys a.1 b)

pub each-map : {X Y : Type 0} (P : Y → Type 0) (f : X → Y) (xs : List X) → AllByRecursion (λ x. P (f x)) xs
    → AllByRecursion P (map f xs)
each-map P f [] a = a
each-map P f (x ∷ xs) a = (a.0, each-map P f xs a.1)

pub each-of : {X Y : Type 0} (P : Y → Type 0) (f : X → Y) (xs : List X) → AllByRecursion P (map f xs)
    → AllByRecursion (λ x. P (f x)) xs
each-of P f [] a = tt
each-of P f (x ∷ xs) a = (a.0, each-of P f xs a.1)

pub each-numbered : {X : Type 0} (P : X → Type 0) (n k : ℕ) (xs : List X) → AllByRecursion P xs
    → AllByRecursion (λ (kx : ℕ × X). P kx.1) (enumerate_from k (take n xs))
each-numbered P zero k xs a = tt
each-numbered P (suc n) k [] a = tt
each-numbered P (suc n) k (x ∷ xs) a = (a.0, each-numbered P n (k + 1) xs a.1)

pub each-filter : {X : Type 0} (P : X → Type 0) (q : X → Bool) (xs : List X) → AllByRecursion P xs
    → AllByRecursion P (filter q xs)
each-filter P q [] a = a
each-filter P q (x ∷ xs) a = grind (arith, nat_tests, each-filter P q xs a.1)

pub each_passes : {X : Type 0} (q : X → Bool) (xs : List X) → AllByRecursion (λ x. q x ≡ true) (filter q xs)
each_passes q [] = tt
each_passes q (x ∷ xs) = grind (arith, nat_tests, each_passes q xs)

pub each_both : {X : Type 0} (P Q R : X → Type 0) (xs : List X) → ((x : X) → P x → Q x → R x) → AllByRecursion P xs
    → AllByRecursion Q xs → AllByRecursion R xs
each_both P Q R [] h a b = tt
each_both P Q R (x ∷ xs) h a b = (h x a.0 b.0, each_both P Q R xs h a.1 b.1)

pub each_of_all : {X : Type 0} (P : X → Type 0) (xs : List X) → ((x : X) → P x) → AllByRecursion P xs
each_of_all P [] h = tt
each_of_all P (x ∷ xs) h = (h x, each_of_all P xs h)

pub each_at : {X : Type 0} (P : X → Type 0) (xs : List X) (k : ℕ) (x : X) → AllByRecursion P xs
    → slice_get xs k ≡ Some x → P x
each_at P [] k x a e = cc
each_at P (y ∷ ys) zero x a e = let same : y ≡ x = cc in subst P same a.0
each_at P (y ∷ ys) (suc k) x a e = each_at P ys k x a.1 e

pub each_front : {X : Type 0} (P : X → Type 0) (us vs : List X) → AllByRecursion P (us ++ vs) → AllByRecursion P us
    × AllByRecursion P vs
each_front P [] vs a = (tt, a)
each_front P (u ∷ us) vs a = let rest = each_front P us vs a.1 in ((a.0, rest.0), rest.1)

pub each_turned : {X : Type 0} (P : X → Type 0) (us vs : List X) → AllByRecursion P (us ++ vs)
    → AllByRecursion P (vs ++ us)
each_turned P us vs a = let parts = each_front P us vs a in each-append P vs us parts.1 parts.0

-- ======== Members of lists, and what holds of each two of them.

-- x is an element of the list
abbrev pub IsIn : {X : Type 0} → List X → X → Type 0
IsIn [] x = ⊥
IsIn (y ∷ ys) x = (y ≡ x) ⊎ IsIn ys x

-- what holds of each element holds of all
pub list_all-each : {X : Type 0} (f : X → Bool) (xs : List X) → ((x : X) → IsIn xs x → f x ≡ true)
    → list_all f xs ≡ true
list_all-each f [] h = refl
list_all-each f (x ∷ xs) h = rw (h x (inl refl)) (list_all-each f xs (λ y k. h y (inr k)))

-- ---- filters and maps

pub in-filter : {X : Type 0} (p : X → Bool) (xs : List X) (x : X) → IsIn (filter p xs) x → IsIn xs x × (p x ≡ true)
in-filter p [] x h = absurd h
in-filter p (y ∷ ys) x h = grind (arith, nat_tests, in-filter p ys x)

pub filter-in : {X : Type 0} (p : X → Bool) (xs : List X) (x : X) → IsIn xs x → p x ≡ true → IsIn (filter p xs) x
filter-in p [] x h e = absurd h
filter-in p (y ∷ ys) x (inl q) e = let here : p y ≡ true = ap p q ∙ e in rw here (inl q)
filter-in p (y ∷ ys) x (inr q) e = grind (arith, nat_tests, filter-in p ys x q e)

pub map-in : {X Y : Type 0} (f : X → Y) (xs : List X) (x : X) → IsIn xs x → IsIn (map f xs) (f x)
map-in f [] x h = absurd h
map-in f (y ∷ ys) x h = grind (arith, map-in f ys x)

pub in-map : {X Y : Type 0} (f : X → Y) (xs : List X) (z : Y) → IsIn (map f xs) z → (x : X) × IsIn xs x × (f x ≡ z)
in-map f [] z h = absurd h
in-map f (y ∷ ys) z (inl q) = (y, inl refl, q)
in-map f (y ∷ ys) z (inr q) = let later = in-map f ys z q in (later.0, inr later.1, later.2)

-- ---- parts

pub append-in_left : {X : Type 0} (xs ys : List X) (x : X) → IsIn xs x → IsIn (xs ++ ys) x
append-in_left [] ys x h = absurd h
append-in_left (z ∷ xs) ys x h = grind (arith, append-in_left xs ys x)

pub append-in_right : {X : Type 0} (xs ys : List X) (x : X) → IsIn ys x → IsIn (xs ++ ys) x
append-in_right [] ys x h = h
append-in_right (z ∷ xs) ys x h = inr (append-in_right xs ys x h)

pub in-append : {X : Type 0} (xs ys : List X) (x : X) → IsIn (xs ++ ys) x → IsIn xs x ⊎ IsIn ys x
in-append [] ys x h = inr h
in-append (z ∷ xs) ys x h = grind (arith, in-append xs ys x)

pub flat_map-in : {X Y : Type 0} (f : X → List Y) (xs : List X) (x : X) (z : Y) → IsIn xs x → IsIn (f x) z
    → IsIn (flat_map f xs) z
flat_map-in f [] x z h k = absurd h
flat_map-in f (y ∷ ys) x z h k = grind (arith, append-in_left, append-in_right, flat_map-in f ys x z)

pub in-flat_map : {X Y : Type 0} (f : X → List Y) (xs : List X) (z : Y) → IsIn (flat_map f xs) z → (x : X) × IsIn xs x
    × IsIn (f x) z
in-flat_map f [] z h = absurd h
in-flat_map f (y ∷ ys) z h = grind (arith, nat_tests, in-flat_map f ys z, in-append (f y) (flat_map f ys) z h)

pub in-take : {X : Type 0} (n : ℕ) (xs : List X) (x : X) → IsIn (take n xs) x → IsIn xs x
in-take zero xs x h = absurd h
in-take (suc n) [] x h = absurd h
in-take (suc n) (y ∷ ys) x h = grind (arith, in-take n ys x)

pub enumerated-in : {X : Type 0} (k : ℕ) (xs : List X) (x : X) → IsIn xs x → (j : ℕ) × IsIn (enumerate_from k xs) (j, x)
enumerated-in k [] x h = absurd h
enumerated-in k (y ∷ ys) x (inl q) = (k, inl (ap (λ z. (k, z)) q))
enumerated-in k (y ∷ ys) x (inr q) = let later = enumerated-in (k + 1) ys x q in (later.0, inr later.1)

pub in-enumerated : {X : Type 0} (k : ℕ) (xs : List X) (kx : ℕ × X) → IsIn (enumerate_from k xs) kx → IsIn xs kx.1
in-enumerated k [] kx h = absurd h
in-enumerated k (y ∷ ys) kx h = grind (arith, in-enumerated (k + 1) ys kx)

-- ---- each element

pub each_in : {X : Type 0} (P : X → Type 0) (xs : List X) (x : X) → AllByRecursion P xs → IsIn xs x → P x
each_in P [] x a h = absurd h
each_in P (y ∷ ys) x a (inl q) = subst P q a.0
each_in P (y ∷ ys) x a (inr q) = each_in P ys x a.1 q

pub each_from : {X : Type 0} (P : X → Type 0) (xs : List X) → ((x : X) → IsIn xs x → P x) → AllByRecursion P xs
each_from P [] h = tt
each_from P (y ∷ ys) h = (h y (inl refl), each_from P ys (λ x k. h x (inr k)))

-- ---- places

-- an element stands at a place, and what stands at a place is an element
pub in-slice_get : {X : Type 0} (xs : List X) (k : ℕ) (x : X) → slice_get xs k ≡ Some x → IsIn xs x
in-slice_get [] k x e = cc
in-slice_get (y ∷ ys) zero x e = inl (cc)
in-slice_get (y ∷ ys) (suc k) x e = inr (in-slice_get ys k x e)

pub slice_get-in : {X : Type 0} (xs : List X) (x : X) → IsIn xs x → (k : ℕ) × (slice_get xs k ≡ Some x)
slice_get-in [] x h = absurd h
slice_get-in (y ∷ ys) x (inl q) = (zero, ap (λ z. Some z) q)
slice_get-in (y ∷ ys) x (inr q) = let later = slice_get-in ys x q in (suc later.0, later.1)

in-at : {X : Type 0} (xs : List X) (k : ℕ) (x : X) → k < length xs → get_or xs k x ≡ x → IsIn xs x
in-at [] k x l e = absurd (omega (arith, l))
in-at (y ∷ ys) zero x l e = inl e
in-at (y ∷ ys) (suc k) x l e = inr (in-at ys k x (omega (arith, l)) e)

pub in-contains : {X : Type 0} (xs : List X) (x : X) → Contains xs x → IsIn xs x
in-contains xs x h = in-at xs h.0 x h.1 h.2

pub contains-in : {X : Type 0} (xs : List X) (x : X) → IsIn xs x → Contains xs x
contains-in [] x h = absurd h
contains-in (y ∷ ys) x (inl q) = (zero, omega arith, q)
contains-in (y ∷ ys) x (inr q) = let later = contains-in ys x q in (suc later.0, omega (arith, later.1), later.2)

-- ======== What holds of each two elements of a list, the one before the other.

-- `AllPairs` by recursion
abbrev pub EachTwo : {X : Type 0} → (X → X → Type 0) → List X → Type 0
EachTwo R [] = Unit {0}
EachTwo R (x ∷ xs) = AllByRecursion (R x) xs × EachTwo R xs

pub EachTwo-append : {X : Type 0} (R : X → X → Type 0) (xs ys : List X) → EachTwo R xs → EachTwo R ys
    → ((x y : X) → IsIn xs x → IsIn ys y → R x y) → EachTwo R (xs ++ ys)
EachTwo-append R [] ys a b h = b
EachTwo-append R (x ∷ xs) ys a b h = grind (arith, nat_tests, EachTwo-append R xs ys a.1 b, each-append, each_from)

-- each part of a list, and each two of both
pub EachTwo-parts : {X : Type 0} (R : X → X → Type 0) (xs ys : List X) → EachTwo R (xs ++ ys)
    → EachTwo R xs × EachTwo R ys × ((x y : X) → IsIn xs x → IsIn ys y → R x y)
EachTwo-parts R [] ys a = (tt, a, λ x y j k. absurd j)
EachTwo-parts R (z ∷ xs) ys a =
    grind (arith, nat_tests, EachTwo-parts R xs ys a.1, each_front (R z) xs ys a.0, each_in (R z) ys)

pub EachTwo-swapped : {X : Type 0} (R : X → X → Type 0) → ((x y : X) → R x y → R y x) → (xs ys : List X)
    → EachTwo R (xs ++ ys) → EachTwo R (ys ++ xs)
EachTwo-swapped R back xs ys a =
    let parts = EachTwo-parts R xs ys a in
    EachTwo-append R ys xs parts.1 parts.0 (λ y x k j. back x y (parts.2 x y j k))

pub EachTwo-map : {X Y : Type 0} (R : Y → Y → Type 0) (f : X → Y) (xs : List X) → EachTwo (λ a b. R (f a) (f b)) xs
    → EachTwo R (map f xs)
EachTwo-map R f [] a = tt
EachTwo-map R f (x ∷ xs) a = grind (arith, nat_tests, EachTwo-map R f xs a.1, each_from, in-map, each_in)

-- two elements of one piece, or of two pieces
pub EachTwo-flat_map : {X Y : Type 0} (R : Y → Y → Type 0) (f : X → List Y) (xs : List X)
    → ((x : X) → IsIn xs x → EachTwo R (f x)) →
    EachTwo (λ a b. (y z : Y) → IsIn (f a) y → IsIn (f b) z → R y z) xs → EachTwo R (flat_map f xs)
EachTwo-flat_map R f [] one two = tt
EachTwo-flat_map {Y = Y} R f (x ∷ xs) one two =
    EachTwo-append R (f x) (flat_map f xs) (one x (inl refl)) (EachTwo-flat_map R f xs (λ y k. one y (inr k)) two.1)
    (λ y z j k. grind (arith, in-flat_map, each_in))

pub EachTwo-at : {X : Type 0} (R : X → X → Type 0) (xs : List X) (j k : ℕ) (x y : X) → EachTwo R xs → j < k
    → slice_get xs j ≡ Some x → slice_get xs k ≡ Some y → R x y
EachTwo-at R [] j k x y a l e f = cc
EachTwo-at R (z ∷ xs) zero zero x y a l e f = absurd (omega (arith, l))
EachTwo-at R (z ∷ xs) zero (suc k) x y a l e f =
    let same : z ≡ x = cc in subst (λ v. R v y) same (each_in (R z) xs y a.0 (in-slice_get xs k y f))
EachTwo-at R (z ∷ xs) (suc j) zero x y a l e f = absurd (omega (arith, l))
EachTwo-at R (z ∷ xs) (suc j) (suc k) x y a l e f = EachTwo-at R xs j k x y a.1 (omega (arith, l)) e f

pub AllPairs-from_each_two : {X : Type 0} (R : X → X → Type 0) (xs : List X) → EachTwo R xs → AllPairs R xs
AllPairs-from_each_two R [] a = λ i j d l m. absurd (omega (arith, m))
AllPairs-from_each_two R (x ∷ xs) a =
    AllPairs-cons R x xs (All-from_recursion (R x) xs a.0) (AllPairs-from_each_two R xs a.1)

pub each_two_from_AllPairs : {X : Type 0} (R : X → X → Type 0) (xs : List X) → AllPairs R xs → EachTwo R xs
each_two_from_AllPairs R [] a = tt
each_two_from_AllPairs R (x ∷ xs) a = (
  recursion_from_All (R x) xs (λ k d l. a 0 (suc k) d (omega arith) (omega (arith, l))),
  each_two_from_AllPairs R xs (λ i j d l m. a (suc i) (suc j) d (omega (arith, l)) (omega (arith, m))),
)

pub EachTwo-weaker : {X : Type 0} (R Q : X → X → Type 0) (xs : List X)
    → ((x y : X) → IsIn xs x → IsIn xs y → R x y → Q x y) → EachTwo R xs → EachTwo Q xs
EachTwo-weaker R Q [] h a = tt
EachTwo-weaker R Q (x ∷ xs) h a = grind (arith, nat_tests, EachTwo-weaker R Q xs, each_from (Q x) xs, each_in (R x) xs)

pub EachTwo-take : {X : Type 0} (R : X → X → Type 0) (n : ℕ) (xs : List X) → EachTwo R xs → EachTwo R (take n xs)
EachTwo-take R zero xs a = tt
EachTwo-take R (suc n) [] a = tt
EachTwo-take R (suc n) (x ∷ xs) a = grind (arith, each_from, each_in, in-take, EachTwo-take R n xs a.1)

pub EachTwo-enumerated : {X : Type 0} (R : X → X → Type 0) (k : ℕ) (xs : List X) → EachTwo R xs
    → EachTwo (λ (a b : ℕ × X). R a.1 b.1) (enumerate_from k xs)
EachTwo-enumerated R k [] a = tt
EachTwo-enumerated {X = X} R k (x ∷ xs) a =
    grind (arith, nat_tests, EachTwo-enumerated R (k + 1) xs a.1, each_from, each_in, in-enumerated)

-- of two members the one or the other stands first, or they are one
pub EachTwo-of : {X : Type 0} (R : X → X → Type 0) (xs : List X) (x y : X) → EachTwo R xs → IsIn xs x → IsIn xs y
    → (x ≡ y) ⊎ (R x y ⊎ R y x)
EachTwo-of R [] x y a h k = absurd h
EachTwo-of R (z ∷ xs) x y a h k = grind (arith, EachTwo-of R xs x y a.1, each_in (R z) xs)

-- ======== Filters and maps.

-- two tests that agree on each element
pub filter_same : {X : Type 0} (p q : X → Bool) (xs : List X) → AllByRecursion (λ x. p x ≡ q x) xs
    → filter p xs ≡ filter q xs
filter_same p q [] a = refl
filter_same p q (x ∷ xs) a = ap₂ (λ b ys. cond b (x ∷ ys) ys) a.0 (filter_same p q xs a.1)

pub filter_both : {X : Type 0} (p q : X → Bool) (xs : List X) → filter p (filter q xs) ≡ filter (λ x. q x && p x) xs
filter_both p q [] = refl
filter_both p q (x ∷ xs) = grind (arith, nat_tests, filter_both p q xs)

pub filter_swap : {X : Type 0} (p q : X → Bool) (xs : List X) → filter p (filter q xs) ≡ filter q (filter p xs)
filter_swap p q xs = filter_both p q xs ∙ filter_agree _ _ (λ x. and_comm (q x) (p x)) xs ∙ sym (filter_both q p xs)

pub keep_all : {X : Type 0} (p : X → Bool) (xs : List X) → AllByRecursion (λ x. p x ≡ true) xs → filter p xs ≡ xs
keep_all p [] a = refl
keep_all p (x ∷ xs) a = rw a.0 (ap (λ ys. x ∷ ys) (keep_all p xs a.1))

pub filter-map : {X Y : Type 0} (p : Y → Bool) (f : X → Y) (xs : List X)
    → filter p (map f xs) ≡ map f (filter (λ x. p (f x)) xs)
filter-map p f [] = refl
filter-map p f (x ∷ xs) = grind (arith, nat_tests, filter-map p f xs)

pub map-same : {X Y : Type 0} (f g : X → Y) (xs : List X) → ((x : X) → f x ≡ g x) → map f xs ≡ map g xs
map-same f g [] h = refl
map-same f g (x ∷ xs) h = ap₂ (λ y ys. y ∷ ys) (h x) (map-same f g xs h)

pub map-map : {X Y Z : Type 0} (f : X → Y) (g : Y → Z) (xs : List X) → map g (map f xs) ≡ map (λ x. g (f x)) xs
map-map f g [] = refl
map-map f g (x ∷ xs) = ap (λ ys. g (f x) ∷ ys) (map-map f g xs)

-- a filter keeps no more than there are
pub length-filter-le : {X : Type 0} (p : X → Bool) (xs : List X) → length (filter p xs) ≤ length xs
length-filter-le p xs = omega (arith, length-filter p xs, count_by-le-length p xs)

pub length-filter-cons : {X : Type 0} (p : X → Bool) (x : X) (xs : List X)
    → length (filter p (x ∷ xs)) ≤ suc (length (filter p xs))
length-filter-cons p x xs = grind (arith, nat_tests)

pub flat_map-same : {X Y : Type 0} (f g : X → List Y) (xs : List X) → AllByRecursion (λ x. f x ≡ g x) xs
    → flat_map f xs ≡ flat_map g xs
flat_map-same f g [] a = refl
flat_map-same f g (x ∷ xs) a = ap₂ (λ a b. a ++ b) a.0 (flat_map-same f g xs a.1)

-- ======== What stands at a place of a list.

pub get_left : {X : Type 0} (xs ys : List X) (k : ℕ) (x : X) → slice_get xs k ≡ Some x → slice_get (xs ++ ys) k ≡ Some x
get_left [] ys k x e = cc
get_left (y ∷ xs) ys zero x e = e
get_left (y ∷ xs) ys (suc k) x e = get_left xs ys k x e

pub get_seam : {X : Type 0} (xs : List X) (y : X) → slice_get (xs ++ y ∷ []) (length xs) ≡ Some y
get_seam [] y = refl
get_seam (x ∷ xs) y = get_seam xs y

pub get_numbered : {X : Type 0} (a : ℕ) (xs : List X) (k : ℕ) (x : X) → slice_get xs k ≡ Some x
    → slice_get (enumerate_from a xs) k ≡ Some (a + k, x)
get_numbered a [] k x e = cc
get_numbered a (y ∷ xs) zero x e = grind (arith, nat_tests)
get_numbered a (y ∷ xs) (suc k) x e = grind (arith, nat_tests, get_numbered (a + 1) xs k x e)

pub get_take : {X : Type 0} (n : ℕ) (xs : List X) (k : ℕ) → k < n → slice_get (take n xs) k ≡ slice_get xs k
get_take zero xs k h = absurd (omega (arith, h))
get_take (suc n) [] k h = refl
get_take (suc n) (x ∷ xs) zero h = refl
get_take (suc n) (x ∷ xs) (suc k) h = get_take n xs k (omega (arith, h))

pub drop_at : {X : Type 0} (xs : List X) (k : ℕ) (x : X) → slice_get xs k ≡ Some x → drop k xs ≡ x ∷ drop (suc k) xs
drop_at [] k x e = cc
drop_at (y ∷ xs) zero x e = cc
drop_at (y ∷ xs) (suc k) x e = drop_at xs k x e

pub not_some : {X : Type 0} (xs : List X) (k : ℕ) → slice_get xs k ≡ None → length xs ≤ k
not_some [] k e = omega arith
not_some (x ∷ xs) zero e = cc
not_some (x ∷ xs) (suc k) e = omega (arith, not_some xs k e)

pub slice_get-drop : {X : Type 0} (xs : List X) (m : ℕ) → slice_get (drop m xs) 0 ≡ slice_get xs m
slice_get-drop xs zero = refl
slice_get-drop [] (suc m) = refl
slice_get-drop (x ∷ xs) (suc m) = slice_get-drop xs m

pub take_more-get : {X : Type 0} (xs : List X) (k : ℕ) (x : X) → slice_get xs k ≡ Some x
    → take (k + 1) xs ≡ take k xs ++ x ∷ []
take_more-get xs k x e = cc (take_more xs k x (slice_get_within xs k x e), get_or_from_slice_get xs k x x e)

pub drop_one : {X : Type 0} (m : ℕ) (xs : List X) → drop 1 (drop m xs) ≡ drop (suc m) xs
drop_one zero xs = refl
drop_one (suc m) [] = refl
drop_one (suc m) (x ∷ xs) = drop_one m xs

-- ======== Sums over numbers in a row.

abbrev pub total : (ℕ → ℕ) → List ℕ → ℕ
total f [] = 0
total f (x ∷ xs) = f x + total f xs

pub total_zero : (xs : List ℕ) → total (λ i. 0) xs ≡ 0
total_zero [] = refl
total_zero (x ∷ xs) = omega (arith, total_zero xs)

pub total_le : (f g : ℕ → ℕ) (xs : List ℕ) → ((i : ℕ) → f i ≤ g i) → total f xs ≤ total g xs
total_le f g [] h = omega arith
total_le f g (x ∷ xs) h = omega (arith, h x, total_le f g xs h)

pub total_less : (f g : ℕ → ℕ) (j a n : ℕ) → a ≤ j → j < a + n → ((i : ℕ) → f i ≤ g i) → f j < g j
    → total f (range_with_len a n) < total g (range_with_len a n)
total_less f g j a zero h k le lt = absurd (omega (arith, h, k))
total_less f g j a (suc n) h k le lt = grind (arith, total_le, eqb-true, total_less f g j (a + 1) n)

-- a use is listed once
abbrev pub one_if : Bool → ℕ
one_if b = cond b 1 0

pub total_same : (f g : ℕ → ℕ) (xs : List ℕ) → ((i : ℕ) → f i ≡ g i) → total f xs ≡ total g xs
total_same f g [] h = refl
total_same f g (x ∷ xs) h = omega (arith, h x, total_same f g xs h)

pub total_two : (f g : ℕ → ℕ) (xs : List ℕ) → total (λ i. f i + g i) xs ≡ total f xs + total g xs
total_two f g [] = refl
total_two f g (x ∷ xs) = omega (arith, total_two f g xs)

total_none : (j a n : ℕ) → j < a → total (λ i. one_if (eqb j i)) (range_with_len a n) ≡ 0
total_none j a zero h = refl
total_none j a (suc n) h = grind (arith, nat_tests, total_none j (a + 1) n)

pub total_once : (j a n : ℕ) → total (λ i. one_if (eqb j i)) (range_with_len a n) ≤ 1
total_once j a zero = omega arith
total_once j a (suc n) = grind (arith, nat_tests, total_once j (a + 1) n, total_none j (a + 1) n, eqb-true j a)

pub total_shifted : (f : ℕ → ℕ) (a n : ℕ)
    → total f (range_with_len (a + 1) n) ≡ total (λ i. f (i + 1)) (range_with_len a n)
total_shifted f a zero = refl
total_shifted f a (suc n) = omega (arith, total_shifted f (a + 1) n)

-- ======== A list whose last element is changed, turned round.

-- the first of a list is changed
abbrev pub first_changed : {X : Type 0} → (X → X) → List X → List X
first_changed f [] = []
first_changed f (x ∷ xs) = f x ∷ xs

last_changed : {X : Type 0} (f : X → X) (rs : List X) (r d : X) (n : ℕ) → n ≡ length rs
    → set (reverse (r ∷ rs)) n (f (get_or (reverse (r ∷ rs)) n d)) ≡ reverse (f r ∷ rs)
last_changed f rs r d n h =
    let old = reverse-append (r ∷ []) rs in
    let new = reverse-append (f r ∷ []) rs in
    grind (arith, length-reverse, get_or-append_seam (reverse rs) r [] d, set-append_seam (reverse rs) r [] (f r))

turned_changed : {X : Type 0} (f : X → X) (rs : List X) (d : X) → 0 < length rs →
    reverse (set (reverse rs) (length (reverse rs) - 1) (f (get_or (reverse rs) (length (reverse rs) - 1) d))) ≡
    first_changed f rs
turned_changed f [] d h = absurd (omega (arith, h))
turned_changed f (r ∷ rs) d h = grind (arith, common_steps, last_changed, length-reverse, reverse-reverse)

-- the last element of a list is the first of the list turned round
pub newest_changed : {X : Type 0} (f : X → X) (xs : List X) (d : X) → 0 < length xs →
    reverse (set xs (length xs - 1) (f (get_or xs (length xs - 1) d))) ≡ first_changed f (reverse xs)
newest_changed f xs d h =
    subst (λ ys. reverse (set ys (length ys - 1) (f (get_or ys (length ys - 1) d))) ≡ first_changed f (reverse xs))
    (reverse-reverse xs) (turned_changed f (reverse xs) d (omega (arith, h, length-reverse xs)))
