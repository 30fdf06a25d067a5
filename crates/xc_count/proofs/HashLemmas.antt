-- What a key writes to its hash.
use Rattle.std.proofs.Common.{ℕ, suc, ◌≡◌, ◌<◌, ◌≤◌, ◌+◌, ◌*◌, List, [], ◌∷◌, length, drop, get_or, drop-cons, arith}
use Rattle.std.proofs.Common.{ap, sym, ◌∙◌}
use Rattle.std.proofs.lemmas.List.{drop_all}
use Rattle.std.specs.Prelude.{fold}
use Rattle.std.specs.Hash.{le_bytes}
use Rattle.xc_text.specs.Hashing.{hashed}
use Rattle.xc_count.specs.inner.Layers.{key_words}

-- two marks more
pub two_marks : (m t s : ℕ) (key : List ℕ) (k : ℕ) → k + 1 < length key
    → fold (hashed m) s (key_words (drop k key)) ≡ t
    → fold (hashed m) (hashed m s (le_bytes 8 (get_or key k 0 + 4294967296 * get_or key (k + 1) 0)))
    (key_words (drop (k + 2) key)) ≡ t
two_marks m t s key k h e =
    let a : ℕ = get_or key k 0 in
    let b : ℕ = get_or key (k + 1) 0 in
    let one : suc k ≡ k + 1 = omega arith in
    let two : suc (k + 1) ≡ k + 2 = omega arith in
    let rest : drop (suc k) key ≡ b ∷ drop (k + 2) key = ap (λ n. drop n key) one
    ∙ drop-cons key (k + 1) 0 h ∙ ap (λ n. b ∷ drop n key) two in
    let cut : drop k key ≡ a ∷ b ∷ drop (k + 2) key = drop-cons key k 0 (omega (arith, h)) ∙ ap (λ ks. a ∷ ks) rest in
    sym (ap (λ ks. fold (hashed m) s (key_words ks)) cut) ∙ e

-- the last of an odd number of marks
pub last_mark : (m t s : ℕ) (key : List ℕ) (k : ℕ) → k < length key → length key ≤ k + 1
    → fold (hashed m) s (key_words (drop k key)) ≡ t → hashed m s (le_bytes 8 (get_or key k 0)) ≡ t
last_mark m t s key k h l e =
    let a : ℕ = get_or key k 0 in
    let none : drop (suc k) key ≡ [] = drop_all (suc k) key (omega (arith, l)) in
    let cut : drop k key ≡ a ∷ [] = drop-cons key k 0 h ∙ ap (λ ks. a ∷ ks) none in
    sym (ap (λ ks. fold (hashed m) s (key_words ks)) cut) ∙ e

-- no mark left
pub no_mark : (m t s : ℕ) (key : List ℕ) (k : ℕ) → length key ≤ k → fold (hashed m) s (key_words (drop k key)) ≡ t → s ≡ t
no_mark m t s key k l e = sym (ap (λ ks. fold (hashed m) s (key_words ks)) (drop_all k key l)) ∙ e
