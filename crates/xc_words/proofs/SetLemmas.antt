-- Words as sets: a set with one member more, and how many members sets have.
use Rattle.std.proofs.Common.{ℕ, zero, suc, ◌≡◌, ◌≢◌, ◌<◌, ◌≤◌, ◌^◌, ◌+◌, ◌/◌, ◌%◌, refl, arith, sym}
use Rattle.std.proofs.Common.{◌∙◌, ap, bit_or, count_ones}
use Rattle.std.specs.Int.{bit_at}
use Rattle.std.specs.Int.Count.{ones_step}
use Rattle.std.proofs.lemmas.Nat.{or_lt}
use Rattle.std.proofs.lemmas.Nat.Bits.{bit_at_or, bit_at-lt, bit_at_lowest, bit_at-suc}
use Rattle.std.proofs.lemmas.Nat.Bits.{bit_at-pow_same, bit_at-pow_other, same_from_bits_below}
use Rattle.std.proofs.Math.Pow.{pow-lt}

-- ======== A set with one member more.

abbrev pub joined : ℕ → ℕ → ℕ
joined s x = bit_or s (2 ^ x)

pub joined_same : (s x : ℕ) → bit_at (joined s x) x ≡ 1
joined_same s x = omega (arith, bit_at_or s (2 ^ x) x, bit_at-pow_same x, bit_at-lt s x)

pub joined_other : (s x y : ℕ) → y ≢ x → bit_at (joined s x) y ≡ bit_at s y
joined_other s x y d = omega (arith, bit_at_or s (2 ^ x) y, bit_at-pow_other x y d)

-- a member stays one
pub joined_old : (s x y : ℕ) → bit_at s y ≡ 1 → bit_at (joined s x) y ≡ 1
joined_old s x y e = omega (arith, bit_at_or s (2 ^ x) y, bit_at-lt (2 ^ x) y, e)

pub joined_new : (s x y : ℕ) → bit_at (joined s x) y ≡ 1 → y ≢ x → bit_at s y ≡ 1
joined_new s x y e d = sym (joined_other s x y d) ∙ e

pub pow_fits : (x : ℕ) → x < 64 → 2 ^ x < 2 ^ 64
pow_fits x l = pow-lt l

pub joined_fits : (s x : ℕ) → s < 2 ^ 64 → x < 64 → joined s x < 2 ^ 64
joined_fits s x f l = or_lt 64 s (2 ^ x) f (pow_fits x l)

pub joined_twice : (s x y : ℕ) → s < 2 ^ 64 → x < 64 → y < 64 → joined (joined s x) y ≡ joined (joined s y) x
joined_twice s x y f l k = same_from_bits_below 64 _ _ (joined_fits _ y (joined_fits s x f l) k)
    (joined_fits _ x (joined_fits s y f k) l)
    (λ i h. omega (
      arith,
      bit_at_or (joined s x) (2 ^ y) i,
      bit_at_or s (2 ^ x) i,
      bit_at_or (joined s y) (2 ^ x) i,
      bit_at_or s (2 ^ y) i,
    ))

-- ======== How many members.

-- of the n places from a on, how many of their bits are set
abbrev pub tally : ℕ → ℕ → ℕ → ℕ
tally a zero m = 0
tally a (suc n) m = bit_at m a + tally (suc a) n m

tally_half : (a n m : ℕ) → tally (suc a) n m ≡ tally a n (m / 2)
tally_half a zero m = refl
tally_half a (suc n) m = let rest = tally_half (suc a) n m in omega (arith, rest, bit_at-suc m a)

pub ones_none : count_ones 0 ≡ 0
unfolding lib.Count.ones
ones_none = refl

ones_one : count_ones 1 ≡ 1
unfolding lib.Count.ones
ones_one = refl

pub ones_tally : (n m : ℕ) → m < 2 ^ n → count_ones m ≡ tally 0 n m
ones_tally zero m f = let z : m ≡ 0 = omega (arith, f) in ap count_ones z ∙ ones_none
ones_tally (suc n) m f =
    let half = ones_tally n (m / 2) (omega (arith, f)) in
    omega (arith, ones_step m, half, tally_half 0 n m, bit_at_lowest m)

tally_sub : (a n m k l : ℕ) → ((i : ℕ) → a ≤ i → i < a + n → bit_at m i ≤ bit_at k i + bit_at l i)
    → tally a n m ≤ tally a n k + tally a n l
tally_sub a zero m k l h = omega arith
tally_sub a (suc n) m k l h =
    let rest = tally_sub (suc a) n m k l (λ i j s. h i (omega (arith, j)) (omega (arith, s))) in
    let here = h a (omega arith) (omega arith) in
    omega (arith, rest, here)

tally_super : (a n m k l : ℕ) → ((i : ℕ) → a ≤ i → i < a + n → bit_at k i + bit_at l i ≤ bit_at m i)
    → tally a n k + tally a n l ≤ tally a n m
tally_super a zero m k l h = omega arith
tally_super a (suc n) m k l h =
    let rest = tally_super (suc a) n m k l (λ i j s. h i (omega (arith, j)) (omega (arith, s))) in
    let here = h a (omega arith) (omega arith) in
    omega (arith, rest, here)

sub_by : (n m k l : ℕ) → m < 2 ^ n → k < 2 ^ n → l < 2 ^ n
    → ((i : ℕ) → i < n → bit_at m i ≤ bit_at k i + bit_at l i) → count_ones m ≤ count_ones k + count_ones l
sub_by n m k l a b c h =
    let s = tally_sub 0 n m k l (λ i j s. h i (omega (arith, s))) in
    omega (arith, s, ones_tally n m a, ones_tally n k b, ones_tally n l c)

super_by : (n m k l : ℕ) → m < 2 ^ n → k < 2 ^ n → l < 2 ^ n
    → ((i : ℕ) → i < n → bit_at k i + bit_at l i ≤ bit_at m i) → count_ones k + count_ones l ≤ count_ones m
super_by n m k l a b c h =
    let s = tally_super 0 n m k l (λ i j s. h i (omega (arith, s))) in
    omega (arith, s, ones_tally n m a, ones_tally n k b, ones_tally n l c)

-- no more members than two sets of which each is in one
pub ones_sub : (m k l : ℕ) → m < 2 ^ 64 → k < 2 ^ 64 → l < 2 ^ 64
    → ((i : ℕ) → i < 64 → bit_at m i ≤ bit_at k i + bit_at l i) → count_ones m ≤ count_ones k + count_ones l
ones_sub = sub_by 64

-- and no fewer than two sets without common members that it has
pub ones_super : (m k l : ℕ) → m < 2 ^ 64 → k < 2 ^ 64 → l < 2 ^ 64
    → ((i : ℕ) → i < 64 → bit_at k i + bit_at l i ≤ bit_at m i) → count_ones k + count_ones l ≤ count_ones m
ones_super = super_by 64

pub ones_pow : (x : ℕ) → count_ones (2 ^ x) ≡ 1
ones_pow zero = let z : 2 ^ 0 ≡ 1 = omega arith in ap count_ones z ∙ ones_one
ones_pow (suc x) =
    let half : 2 ^ suc x / 2 ≡ 2 ^ x = omega arith in
    let even : 2 ^ suc x % 2 ≡ 0 = omega arith in
    omega (arith, ones_step (2 ^ suc x), even, ap count_ones half, ones_pow x)

pub ones_least : (m k : ℕ) → m < 2 ^ 64 → k < 2 ^ 64
    → ((i : ℕ) → i < 64 → bit_at m i ≡ 1 → bit_at k i ≡ 1) → count_ones m ≤ count_ones k
ones_least m k a b h =
    let s = ones_sub m k 0 a b (omega arith) (λ i l. least (bit_at m i) (bit_at k i) _ (bit_at-lt m i) (h i l)) in
    omega (arith, s, ones_none)
  where
    least : (a b c : ℕ) → a < 2 → (a ≡ 1 → b ≡ 1) → a ≤ b + c
    least zero b c l h = omega arith
    least (suc zero) b c l h = let e = h refl in omega (arith, e)
    least (suc (suc a)) b c l h = absurd (omega (arith, l))

pub some_member : (m : ℕ) → 0 < count_ones m → 0 < m
some_member zero l = absurd (omega (arith, l, ones_none))
some_member (suc m) l = omega arith

tally_few : (a n m : ℕ) → tally a n m ≤ n
tally_few a zero m = omega arith
tally_few a (suc n) m = let rest = tally_few (suc a) n m in omega (arith, rest, bit_at-lt m a)

few_by : (n m : ℕ) → m < 2 ^ n → count_ones m ≤ n
few_by n m f = omega (arith, ones_tally n m f, tally_few 0 n m)

-- no more members than bits
pub ones_few : (m : ℕ) → m < 2 ^ 64 → count_ones m ≤ 64
ones_few = few_by 64
