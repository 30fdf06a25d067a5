-- The numbers of a problem, its digest, and the lines that stay on a page.
use Rattle.std.proofs.Common.{ℕ, ◌≡◌, ◌^◌, ◌<◌, List, [], ◌∷◌, ◌++◌, length, refl, sym, ap, ◌∙◌, arith, append_assoc}
use Rattle.std.proofs.Common.{append-nil, ◌+◌, Some, take, zero, suc, ◌≤◌, drop}
use Rattle.std.specs.Prelude.{flat_map, map}
use Rattle.std.specs.List.{AllByRecursion}
use Rattle.std.proofs.lemmas.List.Elements.{recursion_from_All}
use Rattle.std.proofs.lemmas.List.{length-map, take-take, drop-take, length-take-le, take-append-drop, take-append-le}
use Rattle.std.proofs.lemmas.List.Sums.{fold-append}
use Rattle.std.proofs.lemmas.Grind.{common_steps}
use Rattle.std.proofs.Math.Seq.{take-append_seam, take-append-add, drop-append_seam}
use Rattle.xc_input.specs.declared.problem.Bounds.{Bounds}
use Rattle.xc_input.specs.declared.problem.Use.{Use}
use Rattle.xc_input.specs.Named.{Named, IsSound}
use Rattle.xc_input.specs.Problem.{IsSoundUse, IsSoundOption, numbered_get, primary_count, Puzzle}
use Rattle.xc_text.specs.Hashing.{taken}
use Rattle.xc_input.specs.declared.problem.Item.{Item}
use Rattle.xc_input.specs.ItemBounds.{bounds_of}
use Rattle.xc_text.proofs.ListLemmas.{each_weaker, each_of_all}
use Rattle.xc_search.specs.declared.choice.Choice.{Choice}
use Rattle.xc_search.specs.declared.marks.Mark.{Mark}
use Rattle.xc_search.specs.Marks.{marked}
use Rattle.xc_list.specs.Digests.{problem_numbers, length_first, digest_after}
use Rattle.xc_list.specs.inner.Writing.{bounds_numbers, bytes_numbers, use_number, uses_numbers, digest_multiplier}
use Rattle.xc_list.specs.inner.Writing.{digest_start, AreEnds, AreKept, MatchMark, lines_end, line_text}
use Rattle.xc_list.specs.declared.places.TheConstants.{LINES, ROOM}
use Rattle.xc_list.specs.declared.places.Line.{Line}
use Rattle.xc_list.specs.Output.{choice_text}
use Rattle.xc_list.proofs.OutputLemmas.{options_left}
use Rattle.xc_list.proofs.Writing.{take_next, one_more}

-- ======== The numbers of a problem tell which problem it is.

-- numbers that tell a value of a kind, and where they end
abbrev Tells : {X : Type 0} → (X → Type 0) → (X → List ℕ) → Type 0
Tells {X} P f = (x y : X) → P x → P y → (s t : List ℕ) → f x ++ s ≡ f y ++ t → (x ≡ y) × (s ≡ t)

abbrev Any : {X : Type 0} → X → Type 0
Any x = Unit {0}

any-each : {X : Type 0} (xs : List X) → AllByRecursion Any xs
any-each xs = each_of_all Any xs (λ _. tt)

-- ---- lists

module _ {X : Type 0} (P : X → Type 0) (f : X → List ℕ) (tells : Tells P f) where
  each-told : (xs ys : List X) → AllByRecursion P xs → AllByRecursion P ys → length xs ≡ length ys
      → (s t : List ℕ) → flat_map f xs ++ s ≡ flat_map f ys ++ t → (xs ≡ ys) × (s ≡ t)
  each-told [] [] hx hy e s t same = (refl, same)
  each-told [] (y ∷ ys) hx hy e s t same = absurd (omega (arith, e))
  each-told (x ∷ xs) [] hx hy e s t same = absurd (omega (arith, e))
  each-told (x ∷ xs) (y ∷ ys) hx hy e s t same =
      let one = tells x y hx.0 hy.0 (flat_map f xs ++ s) (flat_map f ys ++ t)
      (sym (append_assoc (f x) (flat_map f xs) s) ∙ same ∙ append_assoc (f y) (flat_map f ys) t) in
      let rest = each-told xs ys hx.1 hy.1 (omega (arith, e)) s t one.1 in
      (ap (λ z. z ∷ xs) one.0 ∙ ap (λ zs. y ∷ zs) rest.0, rest.1)

  first-told : Tells (AllByRecursion P) (length_first f)
  first-told xs ys hx hy s t same =
      let counts : length xs ≡ length ys = cc same in
      let rest : flat_map f xs ++ s ≡ flat_map f ys ++ t = cc same in
      each-told xs ys hx hy counts s t rest

-- ---- bounds, bytes and uses

bounds-same : (b c : Bounds) → b.low ≡ c.low → b.high ≡ c.high → b ≡ c
bounds-same b c low high = rw (low, high) refl

bounds-told : Tells Any bounds_numbers
bounds-told x y hx hy s t same =
    let low : x.low ≡ y.low = cc same in
    let high : x.high ≡ y.high = cc same in
    let rest : s ≡ t = cc same in
    (bounds-same x y low high, rest)

byte-told : Tells Any (λ (b : ℕ). b ∷ [])
byte-told x y hx hy s t same =
    let one : x ≡ y = cc same in
    let rest : s ≡ t = cc same in
    (one, rest)

bytes-told : Tells Any bytes_numbers
bytes-told x y hx hy s t same =
    first-told Any (λ (b : ℕ). b ∷ []) byte-told x y (any-each x) (any-each y) s t same

abbrev IsSmallUse : Use → Type 0
IsSmallUse u = u.item < 2 ^ 32

-- both parts are read off the number
use-same : (u v : Use) → IsSmallUse u → IsSmallUse v → use_number u ≡ use_number v → u ≡ v
use-same u v hu hv e =
    let item : u.item ≡ v.item = omega (arith, hu, hv, e) in
    let colour : u.colour ≡ v.colour = omega (arith, hu, hv, e) in
    rw (item, colour) refl

use-told : Tells IsSmallUse (λ u. use_number u ∷ [])
use-told u v hu hv s t same =
    let number : use_number u ≡ use_number v = cc same in
    let rest : s ≡ t = cc same in
    (use-same u v hu hv number, rest)

uses-told : Tells (AllByRecursion IsSmallUse) uses_numbers
uses-told us vs hu hv s t same =
    first-told IsSmallUse (λ u. use_number u ∷ []) use-told us vs hu hv s t same

-- ---- problems

small-options : (a : Named) → IsSound a → AllByRecursion (AllByRecursion IsSmallUse) a.puzzle.options
small-options a h =
    each_weaker (IsSoundOption a.puzzle) (AllByRecursion IsSmallUse) a.puzzle.options
    (λ us sound. each_weaker (IsSoundUse a.puzzle) IsSmallUse us (λ u is. omega (arith, is.0.1, h.limits.items))
    (recursion_from_All (IsSoundUse a.puzzle) us sound.sound))
    (recursion_from_All (IsSoundOption a.puzzle) a.puzzle.options h.valid.options)

secondary-told : (a b : Named) → IsSound a → IsSound b → a.puzzle.bounds ≡ b.puzzle.bounds → a.names ≡ b.names
    → a.puzzle.secondary ≡ b.puzzle.secondary
secondary-told a b ha hb bounds names =
    omega (arith, ha.named.count, hb.named.count, ap length names, ap length bounds)

pub numbers-tell : (a b : Named) → IsSound a → IsSound b → problem_numbers a ≡ problem_numbers b
    → a ≡ record b { seed = a.seed }
numbers-tell a b ha hb same =
    let ua = length_first uses_numbers a.puzzle.options in
    let ub = length_first uses_numbers b.puzzle.options in
    let ca = length_first bytes_numbers a.colours in
    let cb = length_first bytes_numbers b.colours in
    let na = length_first bytes_numbers a.names in
    let nb = length_first bytes_numbers b.names in
    let bounds = first-told Any bounds_numbers bounds-told a.puzzle.bounds b.puzzle.bounds (any-each _) (any-each _)
    (na ++ (ca ++ ua)) (nb ++ (cb ++ ub)) (simp append_assoc at same) in
    let names = first-told Any bytes_numbers bytes-told a.names b.names (any-each _) (any-each _) (ca ++ ua) (cb ++ ub)
    bounds.1 in
    let colours = first-told Any bytes_numbers bytes-told a.colours b.colours (any-each _) (any-each _) ua ub names.1 in
    let options = first-told (AllByRecursion IsSmallUse) uses_numbers uses-told a.puzzle.options b.puzzle.options
    (small-options a ha) (small-options b hb) [] [] (append-nil ua ∙ colours.1 ∙ sym (append-nil ub)) in
    let secondary = secondary-told a b ha hb bounds.0 names.0 in
    rw (bounds.0, names.0, colours.0, options.0, secondary) refl

-- ======== The state of a digest, list by list.

-- the state after the numbers of one more element
pub after_more : {X : Type 0} (numbers : X → List ℕ) (state : ℕ) (xs : List X) (x : X)
    → digest_after (digest_after state (flat_map numbers xs)) (numbers x)
    ≡ digest_after state (flat_map numbers (xs ++ x ∷ []))
after_more numbers state xs x =
    sym (fold-append (taken digest_multiplier) state (flat_map numbers xs) (numbers x))
    ∙ ap (digest_after state) (sym (one_more numbers xs x))

-- the same, where it is the one of the next number
pub after_next : {X : Type 0} (numbers : X → List ℕ) (state : ℕ) (xs : List X) (i : ℕ) (x : X)
    → numbered_get xs (i + 1) ≡ Some x
    → digest_after (digest_after state (flat_map numbers (take i xs))) (numbers x)
    ≡ digest_after state (flat_map numbers (take (i + 1) xs))
after_next numbers state xs i x e =
    after_more numbers state (take i xs) x
    ∙ ap (λ ys. digest_after state (flat_map numbers ys)) (sym (take_next xs i (options_left xs i x e)))

-- numbers of what elements have
numbers_map : {X Y : Type 0} (part : X → Y) (numbers : Y → List ℕ) (xs : List X)
    → flat_map (λ x. numbers (part x)) xs ≡ flat_map numbers (map part xs)
numbers_map part numbers [] = refl
numbers_map part numbers (x ∷ xs) = ap (λ ns. numbers (part x) ++ ns) (numbers_map part numbers xs)

first_map : {X Y : Type 0} (part : X → Y) (numbers : Y → List ℕ) (xs : List X)
    → length_first (λ x. numbers (part x)) xs ≡ length_first numbers (map part xs)
first_map part numbers xs = rw (length-map xs part) (ap (λ ns. length xs ∷ ns) (numbers_map part numbers xs))

-- the state after two lists of numbers
after_both : (state : ℕ) (first second : List ℕ)
    → digest_after (digest_after state first) second ≡ digest_after state (first ++ second)
after_both state first second = sym (fold-append (taken digest_multiplier) state first second)

after_four : (state : ℕ) (first second third fourth : List ℕ)
    → digest_after (digest_after (digest_after (digest_after state first) second) third) fourth
    ≡ digest_after state (first ++ second ++ third ++ fourth)
after_four state first second third fourth =
    ap (λ s. digest_after (digest_after s third) fourth) (after_both state first second)
    ∙ ap (λ s. digest_after s fourth) (after_both state (first ++ second) third)
    ∙ after_both state (first ++ second ++ third) fourth

-- the state after the items, the colours and the options
pub after_parts : (a : Named) (items : List Item) → map (λ x. x.name.items) items ≡ a.names
    → map bounds_of (take (primary_count a.puzzle) items) ≡ a.puzzle.bounds
    → digest_after (digest_after (digest_after (digest_after digest_start
    (length_first (λ x. bounds_numbers (bounds_of x)) (take (primary_count a.puzzle) items)))
    (length_first (λ x. bytes_numbers x.name.items) items))
    (length_first bytes_numbers a.colours)) (length_first uses_numbers a.puzzle.options)
    ≡ digest_after digest_start (problem_numbers a)
after_parts a items names bounds =
    let front = take (primary_count a.puzzle) items in
    let colours = length_first bytes_numbers a.colours in
    let options = length_first uses_numbers a.puzzle.options in
    let b : length_first (λ x. bounds_numbers (bounds_of x)) front ≡ length_first bounds_numbers a.puzzle.bounds =
    first_map bounds_of bounds_numbers front ∙ ap (length_first bounds_numbers) bounds in
    let n : length_first (λ x. bytes_numbers x.name.items) items ≡ length_first bytes_numbers a.names =
    first_map (λ (x : Item). x.name.items) bytes_numbers items ∙ ap (length_first bytes_numbers) names in
    ap (λ ns. digest_after (digest_after (digest_after (digest_after digest_start ns)
    (length_first (λ x. bytes_numbers x.name.items) items)) colours) options) b
    ∙ ap (λ ns. digest_after (digest_after (digest_after (digest_after digest_start (length_first bounds_numbers
    a.puzzle.bounds)) ns) colours) options) n
    ∙ after_four digest_start (length_first bounds_numbers a.puzzle.bounds) (length_first bytes_numbers a.names) colours
    options

-- ======== The lines that stay on a page from one solution to the next.

ends_put : (a : Named) (d at : ℕ) (ls : List Line) (l : Line) → AreEnds a at ls → d ≤ length ls
    → l.end ≡ at + length (flat_map (line_text a) (take d ls)) + length (line_text a l)
    → AreEnds a at (take d ls ++ l ∷ [])
ends_put a zero at ls l h few e = (grind (arith, common_steps, e), tt)
ends_put a (suc d) at [] l h few e = absurd (omega (arith, few))
ends_put a (suc d) at (x ∷ xs) l h few e =
    (h.0, ends_put a d x.end xs l h.1 (omega (arith, few)) (grind (arith, common_steps, e, h.0)))

ends_at : (a : Named) (d at : ℕ) (ls : List Line) (l : Line) → AreEnds a at ls
    → take (suc d) ls ≡ take d ls ++ l ∷ []
    → l.end ≡ at + length (flat_map (line_text a) (take (suc d) ls))
ends_at a d at [] l h e = grind (arith, common_steps, e)
ends_at a zero at (x ∷ xs) l h e = grind (arith, common_steps, e, h.0)
ends_at a (suc d) at (x ∷ xs) l h e =
    let rest : take (suc d) xs ≡ take d xs ++ l ∷ [] = ap (λ ys. drop 1 ys) e in
    grind (arith, common_steps, ends_at a d x.end xs l h.1 rest, h.0)

-- where the line behind the first of them ends
pub ends_there : (a : Named) (d : ℕ) (ls : List Line) (l : Line) → AreEnds a LINES ls
    → take (d + 1) ls ≡ take d ls ++ l ∷ [] → l.end ≡ lines_end a (take (d + 1) ls)
ends_there a d ls l h e = grind (arith, ends_at)

-- the text of the first lines that stand
first_text : (a : Named) (page : List ℕ) (ls : List Line) (d : ℕ) → AreKept a page ls
    → take (length (flat_map (line_text a) (take d ls))) (drop LINES page) ≡ flat_map (line_text a) (take d ls)
first_text a page ls d k =
    let whole : flat_map (line_text a) ls ≡ flat_map (line_text a) (take d ls) ++ flat_map (line_text a) (drop d ls) =
    grind (arith, common_steps, take-append-drop d ls) in
    let seam = take-append_seam (flat_map (line_text a) (take d ls)) (flat_map (line_text a) (drop d ls)) in
    grind (arith, common_steps)

-- where they end is on the page
pub first_fits : (a : Named) (page : List ℕ) (ls : List Line) (d : ℕ) → AreKept a page ls → length page ≡ ROOM
    → lines_end a (take d ls) ≤ ROOM
first_fits a page ls d k size = grind (arith, common_steps, ap length (first_text a page ls d k))

front_and_text : (page text : List ℕ) → LINES ≤ length page → take (length text) (drop LINES page) ≡ text
    → take (LINES + length text) page ≡ take LINES page ++ text
front_and_text page text long e =
    let whole = take-append-drop LINES page in
    cc (length-take-le LINES page long, take-append-add (take LINES page) (drop LINES page) (length text))

front_stays : (page more text : List ℕ) (end : ℕ) → LINES ≤ end → LINES ≤ length page
    → take end more ≡ take LINES page ++ text → take LINES more ≡ take LINES page
front_stays page more text end far long e =
    sym (take-take LINES end more far) ∙ ap (take LINES) e
    ∙ take-append-le LINES (take LINES page) text (rw (length-take-le LINES page long) (omega arith))
    ∙ take-take LINES LINES page (omega arith)

text_behind : (page more text : List ℕ) (end : ℕ) → end ≡ LINES + length text → LINES ≤ length page
    → take end more ≡ take LINES page ++ text → take (length text) (drop LINES more) ≡ text
text_behind page more text end there long e =
    cc (drop-take LINES (length text) more, drop-append_seam (take LINES page) text, length-take-le LINES page long)

-- up to there the page has the header and their text
up_to_end : (a : Named) (page : List ℕ) (ls : List Line) (d : ℕ) → AreKept a page ls → length page ≡ ROOM
    → take (lines_end a (take d ls)) page ≡ take LINES page ++ flat_map (line_text a) (take d ls)
up_to_end a page ls d k size =
    front_and_text page (flat_map (line_text a) (take d ls)) (omega (arith, size)) (first_text a page ls d k)

-- a line that was put behind the first of them stands, and they
module _ (a : Named) (page more : List ℕ) (ls : List Line) (l : Line) (d : ℕ) (k : AreKept a page ls)
    (few : d ≤ length ls) (size : length page ≡ ROOM) (same : length more ≡ ROOM) (room : l.end ≤ ROOM)
    (put : take l.end more ≡ take (lines_end a (take d ls)) page ++ line_text a l) where
  abbrev both : List ℕ
  both = flat_map (line_text a) (take d ls ++ l ∷ [])

  line : take l.end more ≡ take LINES page ++ both
  line = grind (arith, common_steps, up_to_end, append_assoc)

  put_end : l.end ≡ lines_end a (take d ls ++ l ∷ [])
  put_end = grind (arith, common_steps, ap length line)

  put_header : take LINES more ≡ take LINES page
  put_header = front_stays page more both l.end (omega (arith, put_end)) (omega (arith, size)) line

  put_kept : AreKept a more (take d ls ++ l ∷ [])
  put_kept = grind (arith, common_steps, text_behind, both, put_end, line, ends_put)

  stands : AreKept a more (take d ls ++ l ∷ []) × (l.end ≡ lines_end a (take (d + 1) (take d ls ++ l ∷ [])))
      × (take LINES more ≡ take LINES page)
  stands = grind (arith, common_steps, put_kept, put_end, put_header)

-- the line of a mark that was put behind the first of them
pub line_stands : (a : Named) (p : Puzzle) (page more : List ℕ) (ls new : List Line) (m : Mark) (c : Choice)
    (d at end : ℕ) → AreKept a page ls → d ≤ length ls → at ≡ lines_end a (take d ls) → length page ≡ ROOM
    → length more ≡ ROOM → end ≤ ROOM → p ≡ a.puzzle → c ≡ marked p m → take end more ≡ take at page ++ choice_text a c
    → new ≡ take d ls ++ record { mark = m; end = end } ∷ []
    → AreKept a more new × (end ≡ lines_end a (take (d + 1) new)) × (take LINES more ≡ take LINES page)
line_stands a p page more ls new m c d at end k few there size same room of_a of_m put e =
    let is : c ≡ marked a.puzzle m = of_m ∙ ap (λ q. marked q m) of_a in
    let line : take end more ≡ take (lines_end a (take d ls)) page ++ choice_text a (marked a.puzzle m) =
    put ∙ ap (λ n. take n page ++ choice_text a c) there
    ∙ ap (λ x. take (lines_end a (take d ls)) page ++ choice_text a x) is in
    rw e (stands a page more ls (record { mark = m; end = end }) d k few size same room line)

-- the choices of lines
abbrev choices_of : Named → List Line → List Choice
choices_of a ls = map (λ l. marked a.puzzle l.mark) ls

-- one more stands, and one less is left
pub one_line_more : (a : Named) (before ls : List Line) (n : ℕ) (m : Mark) (rest marks : List Mark) (all : List Choice)
    → MatchMark n ls before m → marks ≡ m ∷ rest → choices_of a before ++ map (marked a.puzzle) marks ≡ all
    → choices_of a (take n ls) ++ map (marked a.puzzle) rest ≡ all
one_line_more a before ls n m rest marks all s e h = grind (arith, common_steps, s.lines, e, h)

texts_of : (a : Named) (ls : List Line) → flat_map (choice_text a) (choices_of a ls) ≡ flat_map (line_text a) ls
texts_of a [] = refl
texts_of a (l ∷ ls) = ap (λ t. line_text a l ++ t) (texts_of a ls)

-- all lines of a solution stand
pub all_stand : (a : Named) (page first : List ℕ) (ls : List Line) (d at : ℕ) (marks : List Mark) (all : List Choice)
    → AreKept a page ls → length page ≡ ROOM → at ≡ lines_end a (take d ls) → take LINES page ≡ take LINES first
    → choices_of a (take d ls) ++ map (marked a.puzzle) marks ≡ all → marks ≡ []
    → (take at page ≡ take LINES first ++ flat_map (choice_text a) all) × (LINES ≤ at) × (at ≤ ROOM)
all_stand a page first ls d at marks all k size there same whole none =
    grind (arith, common_steps, texts_of, up_to_end, first_fits)
