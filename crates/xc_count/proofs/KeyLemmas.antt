-- What keys say.
use Rattle.std.proofs.Common.{ℕ, suc, ◌≡◌, ◌≢◌, ◌≤◌, ◌+◌, ◌-◌, false, eqb, List, [], ◌∷◌, length, cond}
use Rattle.std.proofs.Common.{Some, None, refl, ap, ◌∙◌, arith, subst, eqb-true, eq-eqb, drop, ltb-true, ltb-false}
use Rattle.std.proofs.Common.{le-ltb}
use Rattle.std.specs.Prelude.{slice_get, nat_lt}
use Rattle.xc_input.specs.declared.problem.Use.{Use}
use Rattle.xc_text.proofs.ListLemmas.{by_bool}
use Rattle.xc_moves.proofs.PlaceLemmas.{get_dropped}
use Rattle.xc_count.specs.inner.Held.{Held, holding_uses}
use Rattle.xc_count.specs.inner.Keys.{mark_says, held_in, rank_of}

-- the first marks are left out
pub held_dropped : (ranks : List ℕ) (from next : ℕ) (key : List ℕ) (i : ℕ) → from ≤ next
    → held_in ranks next (drop (next - from) key) i ≡ cond (nat_lt (rank_of ranks i) next) (Some 0)
    (held_in ranks from key i)
held_dropped ranks from next key i h = by_bool (nat_lt (rank_of ranks i) next)
    (λ e. rw e refl)
    (λ e. by_bool (nat_lt (rank_of ranks i) from)
    (λ f. let a = ltb-true _ _ f in let b = ltb-false _ _ e in absurd (omega (arith, a, b, h)))
    (λ f. let b = ltb-false _ _ e in
    let place : (next - from) + (rank_of ranks i - next) ≡ rank_of ranks i - from = omega (arith, b, h) in
    rw (e, f) (ap mark_says (get_dropped (next - from) (rank_of ranks i - next) key ∙ ap (slice_get key) place))))

-- one use more
pub marked_more : (ranks : List ℕ) (from : ℕ) (key new : List ℕ) (us : List Use) (u : Use) (s : Held) (m : ℕ)
    → ((i j : ℕ) → 1 ≤ i → i ≤ length ranks → 1 ≤ j → j ≤ length ranks → i ≢ j → rank_of ranks i ≢ rank_of ranks j)
    → 1 ≤ u.item → u.item ≤ length ranks → from ≤ rank_of ranks u.item → m ≡ u.colour + 1
    → slice_get new (rank_of ranks u.item - from) ≡ Some m
    → ((k : ℕ) → k ≢ rank_of ranks u.item - from → mark_says (slice_get new k) ≡ mark_says (slice_get key k))
    → ((i : ℕ) → 1 ≤ i → i ≤ length ranks → held_in ranks from key i ≡ holding_uses us s i)
    → (i : ℕ) → 1 ≤ i → i ≤ length ranks → held_in ranks from new i ≡ holding_uses (u ∷ us) s i
marked_more ranks from key new us u s m apart l h r mark here there so i a b = by_bool (eqb u.item i)
    (λ e.
    let past : nat_lt (rank_of ranks u.item) from ≡ false = le-ltb _ _ r in
    let one : m ≡ suc u.colour = omega (arith, mark) in
    let held : held_in ranks from new u.item ≡ Some u.colour = rw past (ap mark_says (here ∙ ap Some one)) in
    rw e (subst (λ j. held_in ranks from new j ≡ Some u.colour) (eqb-true _ _ e) held))
    (λ e.
    let other : u.item ≢ i = λ q. let t = eq-eqb _ _ q in cc (t, e) in
    let ranks_differ = apart u.item i l h a b other in
    let same : held_in ranks from new i ≡ held_in ranks from key i = by_bool (nat_lt (rank_of ranks i) from)
    (λ q. rw q refl)
    (λ q.
    let after = ltb-false _ _ q in
    rw q (there (rank_of ranks i - from) (λ z. ranks_differ (omega (arith, z, r, after))))) in
    rw e (same ∙ so i a b))

-- a key of no marks
pub nothing_held : (ranks : List ℕ) (i : ℕ) → held_in ranks 0 [] i ≡ None
nothing_held ranks i =
    let first : nat_lt (rank_of ranks i) 0 ≡ false = le-ltb _ _ (omega arith) in
    rw first refl
