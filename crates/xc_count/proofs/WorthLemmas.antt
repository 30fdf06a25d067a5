-- What the states of a sweep come to.
use Rattle.std.proofs.Common.{ℕ, ◌≡◌, ◌<◌, ◌+◌, ◌*◌, Bool, true, List, [], ◌∷◌, ◌++◌, length, drop}
use Rattle.std.proofs.Common.{refl, sym, ap, ◌∙◌, arith, subst}
use Rattle.std.proofs.Math.ListN.{get_or}
use Rattle.std.specs.Prelude.{nat_eq, sum_by}
use Rattle.std.specs.Cmp.Lexicographic.{pointwise}
use Rattle.std.specs.List.{AllByRecursion}
use Rattle.std.proofs.lemmas.List.Elements.{All-from_recursion, recursion_from_All}
use Rattle.std.proofs.lemmas.List.Sums.{sum_by-cons, sum_by_push, sum_by-drop_more}
use Rattle.std.proofs.lemmas.Slice.Eq.{bytes_eq-Decides}
use Rattle.xc_text.proofs.ListLemmas.{by_bool}
use Rattle.xc_count.specs.inner.Added.{keyed, with_added}
use Rattle.xc_count.specs.inner.Worth.{CountState, EachKey, worth_by}

-- one state more
pub worth_push : (f : List ℕ → ℕ) (ss : List CountState) (s : CountState)
    → worth_by f (ss ++ s ∷ []) ≡ worth_by f ss + s.worth * f s.key.items
worth_push f ss s = sum_by_push (λ t. t.worth * f t.key.items) ss s

-- ---- ways that are added to a key

-- the same by keys and their ways
abbrev keys_worth : (List ℕ → ℕ) → List (List ℕ × ℕ) → ℕ
keys_worth f ts = sum_by (λ (t : List ℕ × ℕ). t.1 * f t.0) ts

worth_keyed : (f : List ℕ → ℕ) (ss : List CountState) → worth_by f ss ≡ keys_worth f (keyed ss)
worth_keyed f [] = refl
worth_keyed f (s ∷ ss) =
    let one = sum_by-cons (λ (t : CountState). t.worth * f t.key.items) s ss in
    let two = sum_by-cons (λ (t : List ℕ × ℕ). t.1 * f t.0) (s.key.items, s.worth) (keyed ss) in
    let rest = worth_keyed f ss in
    omega (arith, one, two, rest)

keys_added : (f : List ℕ → ℕ) (key : List ℕ) (w : ℕ) (ts : List (List ℕ × ℕ))
    → keys_worth f (with_added (λ a b. a + b) key w ts) ≡ keys_worth f ts + w * f key
keys_added f key w [] =
    let one = sum_by-cons (λ (t : List ℕ × ℕ). t.1 * f t.0) (key, w) [] in
    omega (arith, one)
keys_added f key w (t ∷ ts) =
    let m : List ℕ × ℕ → ℕ = λ u. u.1 * f u.0 in
    let old = sum_by-cons m t ts in
    by_bool (pointwise nat_eq t.0 key)
    (λ e.
    let is : t.0 ≡ key = (bytes_eq-Decides t.0 key).0 e in
    let new = sum_by-cons m (t.0, t.1 + w) ts in
    let value : f t.0 ≡ f key = ap f is in
    let here : (t.1 + w) * f t.0 ≡ t.1 * f t.0 + w * f key = rw value (omega arith) in
    rw e (omega (arith, old, new, here)))
    (λ e.
    let new = sum_by-cons m t (with_added (λ a b. a + b) key w ts) in
    let rest = keys_added f key w ts in
    rw e (omega (arith, old, new, rest)))

pub worth_added : (f : List ℕ → ℕ) (key : List ℕ) (w : ℕ) (ss ts : List CountState)
    → keyed ts ≡ with_added (λ a b. a + b) key w (keyed ss) → worth_by f ts ≡ worth_by f ss + w * f key
worth_added f key w ss ts e = worth_keyed f ts ∙ ap (keys_worth f) e ∙ keys_added f key w (keyed ss)
    ∙ ap (λ n. n + w * f key) (sym (worth_keyed f ss))

-- each key of these passes a test
abbrev Pass : (List ℕ → Bool) → List (List ℕ × ℕ) → Type 0
Pass q ts = AllByRecursion (λ (t : List ℕ × ℕ). q t.0 ≡ true) ts

to_keyed : (q : List ℕ → Bool) (ss : List CountState) → AllByRecursion (λ s. q s.key.items ≡ true) ss
    → Pass q (keyed ss)
to_keyed q [] a = tt
to_keyed q (s ∷ ss) a = (a.0, to_keyed q ss a.1)

from_keyed : (q : List ℕ → Bool) (ss : List CountState) → Pass q (keyed ss)
    → AllByRecursion (λ s. q s.key.items ≡ true) ss
from_keyed q [] a = tt
from_keyed q (s ∷ ss) a = (a.0, from_keyed q ss a.1)

pass_added : (q : List ℕ → Bool) (key : List ℕ) (w : ℕ) (ts : List (List ℕ × ℕ)) → Pass q ts → q key ≡ true
    → Pass q (with_added (λ a b. a + b) key w ts)
pass_added q key w [] a h = (h, tt)
pass_added q key w (t ∷ ts) a h = by_bool (pointwise nat_eq t.0 key)
    (λ e. rw e (a.0, a.1))
    (λ e. rw e (a.0, pass_added q key w ts a.1 h))

pub keys_added_to : (q : List ℕ → Bool) (key : List ℕ) (w : ℕ) (ss ts : List CountState)
    → keyed ts ≡ with_added (λ a b. a + b) key w (keyed ss) → EachKey q ss → q key ≡ true → EachKey q ts
keys_added_to q key w ss ts e each h = All-from_recursion (λ s. q s.key.items ≡ true) ts (from_keyed q ts
    (subst (Pass q) (sym e) (pass_added q key w (keyed ss)
    (to_keyed q ss (recursion_from_All (λ s. q s.key.items ≡ true) ss each)) h)))

-- ---- one state less

-- one step of a sum over options
pub sum_more : (f : ℕ → ℕ) (k w a b t : ℕ) (os : List ℕ) → k < length os → a + w * sum_by f (drop k os) ≡ t
    → b ≡ a + w * f (get_or os k 0) → b + w * sum_by f (drop (k + 1) os) ≡ t
sum_more f k w a b t os h so more =
    let next = sum_by-drop_more f os k 0 h in
    let all : w * sum_by f (drop k os) ≡ w * f (get_or os k 0) + w * sum_by f (drop (k + 1) os) =
    rw next (omega arith) in
    omega (arith, so, more, all)
