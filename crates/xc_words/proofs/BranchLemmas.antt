-- The counts of the branches of an open item.
use Rattle.std.proofs.Common.{ℕ, ◌≡◌, ◌<◌, ◌^◌, List, Bool, true, sym, ◌∙◌, ap}
use Rattle.std.specs.Int.{bit_at, w64, trailing_zeros}
use Rattle.std.specs.Int.Bits.{bit_and}
use Rattle.std.specs.Prelude.{sum_by, slice_index}
use Rattle.std.proofs.lemmas.Nat.Bits.{bit_at-trailing_zeros}
use Rattle.xc_words.specs.Words.{CountsBranches, HasOwn, bits_of, and_not}
use Rattle.xc_words.proofs.BitLemmas.{cleared, none_in, only_one, from_without, from_both, without_less}

-- these are the options that are left of an open item
abbrev pub AreOfItem : List ℕ → ℕ → ℕ → ℕ → Type 0
AreOfItem holders left items of = (i : ℕ) × (i < 64) × (bit_at items i ≡ 1)
    × (of ≡ bit_and (slice_index holders i) left)

-- an option that is left of an open item closes it
pub fewer_open : (holders alone : List ℕ) (left items of : ℕ) → AreOfItem holders left items of
    → HasOwn holders alone left items → (x : ℕ) → x < 64 → bit_at of x ≡ 1 → and_not items (slice_index alone x) < items
fewer_open holders alone left items of branch own x within held =
    let two = from_both (slice_index holders branch.0) left x (ap (λ m. bit_at m x) (sym branch.3) ∙ held) in
    without_less items (slice_index alone x) branch.0 branch.1 branch.2
    (own branch.0 x branch.1 within branch.2 two.1 two.0)

pub first_closes : (holders alone : List ℕ) (left items of : ℕ) → AreOfItem holders left items of
    → HasOwn holders alone left items → 0 < of → of < 2 ^ 64
    → and_not items (slice_index alone (trailing_zeros w64 of)) < items
first_closes holders alone left items of branch own some fits =
    let first = bit_at-trailing_zeros w64 of some fits in
    fewer_open holders alone left items of branch own _ first.0 first.1

-- where less is left, each still has its own
pub own_kept : (holders alone : List ℕ) (left items a b : ℕ) → HasOwn holders alone left items
    → HasOwn holders alone (bit_and left a) (bit_and items b)
own_kept holders alone left items a b own i x li lx opened stays held =
    own i x li lx (from_without items b i opened) (from_without left a x stays) held

module _ (holders alone apart : List ℕ) (good : ℕ → ℕ → Bool) (count : ℕ → ℕ → ℕ) (left items of : ℕ)
    (few_options : left < 2 ^ 64) (few_items : items < 2 ^ 64) (branch : AreOfItem holders left items of)
    (k : CountsBranches holders alone apart good count) (g : good left items ≡ true) where
  -- the count of a branch
  abbrev pub below : ℕ → ℕ
  below x = count (and_not left (slice_index apart x)) (and_not items (slice_index alone x))

  pub whole : count left items ≡ sum_by below (bits_of of)
  whole = k.by_item left items branch.0 few_options few_items g branch.1 branch.2
      ∙ ap (λ m. sum_by below (bits_of m)) (sym branch.3)

  pub good_below : (x : ℕ) → x < 64 → bit_at of x ≡ 1
      → good (and_not left (slice_index apart x)) (and_not items (slice_index alone x)) ≡ true
  good_below x within held = k.kept left items branch.0 x few_options few_items g branch.1 branch.2 within
      (ap (λ m. bit_at m x) (sym branch.3) ∙ held)

  -- no branch, and one
  pub none_left : of ≡ 0 → 0 ≡ count left items
  none_left e = sym (whole ∙ none_in below of e)

  pub one_left : 0 < of → of < 2 ^ 64 → cleared of ≡ 0
      → (good (and_not left (slice_index apart (trailing_zeros w64 of)))
      (and_not items (slice_index alone (trailing_zeros w64 of))) ≡ true)
      × (below (trailing_zeros w64 of) ≡ count left items)
  one_left some fits e =
      let t = bit_at-trailing_zeros w64 of some fits in
      (good_below _ t.0 t.1, sym (whole ∙ only_one below of some fits e))
