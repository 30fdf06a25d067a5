-- Items, uses and colours as lines bring them: for `builder`, `item_line` and `option_line`.
use Rattle.std.proofs.Common.{◌≡◌, ℕ, suc, ◌+◌, List, [], ◌∷◌, Bool, true, false, cond, not, nat_eq, take, refl, ap}
use Rattle.std.proofs.Common.{◌∙◌, arith, if◌then◌else◌, inl, inr, ◌<◌, ◌≤◌, ◌++◌, None, Some, ◌||◌, nat_le, length}
use Rattle.std.proofs.Common.{append-nil, append_assoc, sym, length-append, zero, ◌-◌, true≢false, get_or, set}
use Rattle.std.proofs.Common.{length-set, Option, ◌&&◌, drop, Bor, is_some, nat_lt, unwrap_or, Vec, Global}
use Rattle.std.proofs.lemmas.Bool.Decides.{nat_tests}
use Rattle.std.specs.List.{position_or_len, before_first, after_first, enumerate_from, list_any, position}
use Rattle.std.proofs.lemmas.Bool.{or_parts}
use Rattle.std.specs.Prelude.{map, All}
use Rattle.std.proofs.lemmas.Slice.Eq.{bytes_eq-Decides}
use Rattle.std.proofs.lemmas.List.{length-map, map-append, get_or-set_other, take-map, take_rest}
use Rattle.std.proofs.Math.Seq.{take-append_seam, drop-append_seam}
use Rattle.std.specs.Str.{bytes_eq}
use Rattle.std.proofs.Math.Bool.{or-true, and-false}
use Rattle.std.proofs.lemmas.Grind.{get_or-set_at, common_steps}
use Rattle.std.proofs.lemmas.List.Folds.{list_any-append}
use Rattle.std.proofs.lemmas.List.Elements.{All-push}
use Rattle.xc_input.specs.declared.kind.Kind.{Kind}
use Rattle.xc_text.specs.Words.{has, place, before, after}
use Rattle.xc_input.specs.Tokens.{is_bar, tokens}
use Rattle.xc_input.specs.Sheets.{Entry, Written, with_colour, colour_number, number_uses}
use Rattle.xc_input.specs.Text.{IsEntry}
use Rattle.xc_input.specs.declared.problem.Use.{Use}
use Rattle.xc_input.specs.Problem.{Numbered, use_count}
use Rattle.xc_input.specs.Faults.{has_primary, first, is_plain, is_bad_colour, name_checks}
use Rattle.xc_input.specs.inner.Stages.{with_uses, numbered, use_behind, staged_token_checks, staged_option_checks}
use Rattle.xc_input.specs.inner.Stages.{written, context, names_of, staged_content_checks, with_option, with_row}
use Rattle.xc_input.specs.inner.Stages.{written_by, whole_checks}
use Rattle.xc_input.specs.inner.Builders.{AreMarks, items_of, AreDistinct, IsMarkable, AreTables, AreSameItems}
use Rattle.xc_input.specs.inner.Builders.{IsBuilder, IsItemTable, entry_of, row_of_line, sheet_of_builder}
use Rattle.xc_input.specs.inner.Builders.{stage_of_builder}
use Rattle.xc_input.specs.declared.fault.FaultKind.{FaultKind}
use Rattle.xc_input.specs.declared.fault.FaultKind.TheVariants.{UnknownItem, RepeatedInOption, ColourOnPrimary}
use Rattle.xc_input.specs.declared.fault.FaultKind.TheVariants.{BadColour, ColourNotHere, TooManyUses}
use Rattle.xc_input.specs.Named.{IsName}
use Rattle.xc_input.specs.declared.written.Token.{Token}
use Rattle.xc_input.specs.inner.CutTokens.{IsCutToken}
use Rattle.xc_input.specs.Limits.{most_items, most_uses}
use Rattle.xc_input.specs.declared.stage.ProblemBuilder.{ProblemBuilder}
use Rattle.xc_input.specs.declared.stage.Tables.{Tables}
use Rattle.xc_input.specs.declared.written.ItemLine.{ItemLine}
use Rattle.xc_text.specs.declared.seed.Seed.{Seed}
use Rattle.xc_input.specs.inner.Stored.{key_names, pieces}
use Rattle.xc_input.proofs.FaultLemmas.{BAR, no-place, first-back, map-snoc, good-name, COLON}
use Rattle.xc_text.proofs.ListLemmas.{by_option, map-map}
use Rattle.xc_input.proofs.TokenLemmas.{stored, option-more, all-uses}
use Rattle.indexmap.specs.IndexSet.{IndexSet, hasher_of}

-- ======== The first bar among the parts of an item line.

pub before-cons : (p : List ℕ) (ps : List (List ℕ)) (t : Bool) → is_bar p ≡ t
    → before_first is_bar (p ∷ ps) ≡ (if t then [] else p ∷ before_first is_bar ps)
before-cons p ps true f = grind (arith, nat_tests)
before-cons p ps false f =
    let next : 1 + position_or_len is_bar ps ≡ suc (position_or_len is_bar ps) = omega arith in
    ap (λ b. take (cond (not b) (1 + position_or_len is_bar ps) 0) (p ∷ ps)) f ∙ ap (λ n. take n (p ∷ ps)) next

pub after-cons : (p : List ℕ) (ps : List (List ℕ)) (t : Bool) → is_bar p ≡ t
    → after_first is_bar (p ∷ ps) ≡ (if t then ps else after_first is_bar ps)
after-cons p ps true f = grind (arith, nat_tests)
after-cons p ps false f = grind (arith, nat_tests)

named : (p name : List ℕ) → p ≡ name → has BAR name ≡ false → is_bar p ≡ false
named [] name e h = refl
named (x ∷ xs) name e h = (or_parts (nat_eq x BAR) (has BAR xs) (ap (has BAR) e ∙ h)).0

pub no-bar : (kind : Kind) (p : List ℕ) (e : Entry) → IsEntry kind true p e → is_bar p ≡ false
no-bar kind p e (name, inl h) = named p e.name h.0 name.no_bar
no-bar kind p e (name, inr h) = let f : true ≡ false = h.2 in absurd (cc)

-- ======== Options with their numbers.

-- options with the numbers from n on
abbrev pub numbered_from : ℕ → List (List Use) → List Numbered
numbered_from n options = map (λ nu. record { number = nu.0; uses = nu.1 }) (enumerate_from n options)

-- ======== A colour keeps the number that it has where it is met first.

last-or-len : {A : Type 0} (p : A → Bool) (xs : List A) (x : A) → list_any p xs ≡ false → p x ≡ true
    → position_or_len p (xs ++ x ∷ []) ≡ length xs
last-or-len p [] x e f = grind (arith, nat_tests)
last-or-len p (y ∷ ys) x e f = grind (arith, nat_tests, last-or-len p ys x)

pub last-position : {A : Type 0} (p : A → Bool) (xs : List A) (x : A) → position p xs ≡ None → p x ≡ true
    → position p (xs ++ x ∷ []) ≡ Some (length xs)
last-position p xs x e f = grind (arith, last-or-len, no-place, length-append)

-- a place stays where more stands behind
or-len-stays : {A : Type 0} (p : A → Bool) (xs ys : List A) → position_or_len p xs < length xs
    → position_or_len p (xs ++ ys) ≡ position_or_len p xs
or-len-stays p [] ys h = absurd (omega (arith, h))
or-len-stays p (x ∷ xs) ys h = grind (arith, nat_tests, or-len-stays p xs ys)

pub in-range : {A : Type 0} (p : A → Bool) (xs : List A) (i : ℕ) → position p xs ≡ Some i → i < length xs
in-range p xs i e = grind (arith, nat_tests)

-- a colour is none, or stands here
abbrev pub Knows : List (List ℕ) → List ℕ → Type 0
Knows cs [] = Unit {0}
Knows cs (b ∷ bs) = (i : ℕ) × (place cs (b ∷ bs) ≡ Some i)

pub met : (cs : List (List ℕ)) (c : List ℕ) → Knows (with_colour cs c) c
met cs [] = tt
met cs (b ∷ bs) =
    let same = (bytes_eq-Decides (b ∷ bs) (b ∷ bs)).1 refl in by_option (place cs (b ∷ bs))
    (λ e. rw e (length cs, last-position (bytes_eq (b ∷ bs)) cs (b ∷ bs) e same)) (λ i e. rw e (i, e))

knows-more : (cs : List (List ℕ)) (d c : List ℕ) → Knows cs c → Knows (with_colour cs d) c
    × (colour_number (with_colour cs d) c ≡ colour_number cs c)
knows-more cs [] c k = (k, refl)
knows-more cs (b ∷ bs) [] k = (tt, refl)
knows-more cs (b ∷ bs) (x ∷ xs) k = grind (arith, by_option, place, or-len-stays, length-append)

pub kept : (cs : List (List ℕ)) (us : List Written) (c : List ℕ) → Knows cs c
    → Knows (with_uses cs us) c × (colour_number (with_uses cs us) c ≡ colour_number cs c)
kept cs [] c k = (k, refl)
kept cs (u ∷ us) c k =
    let m = knows-more cs u.colour c k in
    let later = kept (with_colour cs u.colour) us c m.0 in (later.0, later.1 ∙ m.1)

-- whether a use of an option that is kept is of a primary item
pub primary-numbered : (primary : ℕ) (cs : List (List ℕ)) (us : List Written)
    → list_any (λ u. nat_le u.item primary) (number_uses cs us) ≡ has_primary primary us
primary-numbered primary cs [] = refl
primary-numbered primary cs (u ∷ us) = ap (λ t. nat_le u.item primary || t) (primary-numbered primary cs us)

-- an option keeps its number of uses
pub numbered-length : (colours : List (List ℕ)) (us : List Written) → length (numbered colours us) ≡ length us
numbered-length colours us = grind (arith, length-map)

pub with_uses-append : (cs : List (List ℕ)) (us vs : List Written)
    → with_uses cs (us ++ vs) ≡ with_uses (with_uses cs us) vs
with_uses-append cs [] vs = refl
with_uses-append cs (u ∷ us) vs = with_uses-append (with_colour cs u.colour) us vs

-- a colour of an option has one number behind it and behind all options
pub number-later : (cs : List (List ℕ)) (us more : List Written)
    → number_uses (with_uses cs (us ++ more)) us ≡ numbered cs us
number-later cs [] more = refl
number-later cs (u ∷ us) more =
    let number = (kept (with_colour cs u.colour) (us ++ more) u.colour (met cs u.colour)).1
    ∙ sym (kept (with_colour cs u.colour) us u.colour (met cs u.colour)).1 in
    λ i. record { item = u.item; colour = number i } ∷ number-later (with_colour cs u.colour) us more i

-- one use more
pub numbered-more : (cs : List (List ℕ)) (us : List Written) (u : Written)
    → numbered cs (us ++ u ∷ []) ≡ numbered cs us ++ use_behind (with_uses cs us) u ∷ []
numbered-more cs us u = grind (arith, number-later cs us (u ∷ []), with_uses-append cs us (u ∷ []), map-append)

-- at most one colour more
pub colours_more : (cs : List (List ℕ)) (c : List ℕ) → length (with_colour cs c) ≤ length cs + 1
colours_more cs [] = omega arith
colours_more cs (b ∷ bs) = grind (arith, by_option, place, length-append)

-- the colours that were met stand first
pub first_met : (cs : List (List ℕ)) (us : List Written) → take (length cs) (with_uses cs us) ≡ cs
first_met cs us = let m = more us cs in ap (take (length cs)) m.1 ∙ take-append_seam cs m.0
  where
    new_or_not : (cs : List (List ℕ)) (c : List ℕ) → (d : List (List ℕ)) × (with_colour cs c ≡ cs ++ d)
    new_or_not cs [] = ([], sym (append-nil cs))
    new_or_not cs (b ∷ bs) =
        by_option (place cs (b ∷ bs)) (λ e. rw e ((b ∷ bs) ∷ [], refl)) (λ i e. rw e ([], sym (append-nil cs)))

    more : (us : List Written) (cs : List (List ℕ)) → (d : List (List ℕ)) × (with_uses cs us ≡ cs ++ d)
    more [] cs = ([], sym (append-nil cs))
    more (u ∷ us) cs =
        let first = new_or_not cs u.colour in
        let others = more us (with_colour cs u.colour) in
        (first.0 ++ others.0, others.1 ∙ ap (λ ds. ds ++ others.0) first.1 ∙ append_assoc cs first.0 others.0)

-- ======== Marks at the items of a line.

-- one item more
pub mark : (marks : List Bool) (seen : List ℕ) (i : ℕ) → AreMarks marks seen → 1 ≤ i → i ≤ length marks
    → AreMarks (set marks (i - 1) true) (seen ++ i ∷ [])
mark marks seen i are low high = grind (arith, length-set, list_any-append, get_or-set_at, or-true, get_or-set_other)

-- only items of these uses are marked
abbrev pub AreAmong : List Bool → List Use → Type 0
AreAmong marks uses = (k : ℕ) → k < length marks → get_or marks k false ≡ true
    → list_any (λ i. nat_eq i (k + 1)) (map (λ u. u.item) uses) ≡ true

-- how many are not marked
abbrev pub unmarked_count : List Bool → ℕ
unmarked_count [] = 0
unmarked_count (true ∷ marks) = unmarked_count marks
unmarked_count (false ∷ marks) = suc (unmarked_count marks)

pub unmarked-few : (marks : List Bool) → unmarked_count marks ≤ length marks
unmarked-few [] = omega arith
unmarked-few (true ∷ marks) = omega (arith, unmarked-few marks)
unmarked-few (false ∷ marks) = omega (arith, unmarked-few marks)

-- a mark more is an unmarked one less
pub unmarked-less : (marks : List Bool) (k : ℕ) → k < length marks → get_or marks k false ≡ false
    → suc (unmarked_count (set marks k true)) ≡ unmarked_count marks
unmarked-less [] k within e = absurd (omega (arith, within))
unmarked-less (false ∷ marks) zero within e = refl
unmarked-less (true ∷ marks) zero within e = absurd (true≢false e)
unmarked-less (true ∷ marks) (suc k) within e = unmarked-less marks k (omega (arith, within)) e
unmarked-less (false ∷ marks) (suc k) within e = ap suc (unmarked-less marks k (omega (arith, within)) e)

-- the mark of the item at this place
pub mark-at : (marks : List Bool) (names : List (List ℕ)) (name : List ℕ) (seen : List ℕ) (place : ℕ)
    → AreMarks marks seen → length marks ≡ length names → position (bytes_eq name) names ≡ Some place
    → get_or marks place false ≡ list_any (λ i. nat_eq i (place + 1)) seen
mark-at marks names name seen place are count e = grind (arith, nat_tests, in-range (bytes_eq name) names place e)

-- ======== One token of an option line, for `use_of` and the loop of `option_line`.

pub none-after : (b : ℕ) (xs : List ℕ) → has b xs ≡ false → after b xs ≡ []
none-after b [] e = refl
none-after b (x ∷ xs) e = grind (arith, nat_tests, none-after b xs)

module _ (kind : Kind) (names : List (List ℕ)) (primary : ℕ) (seen : List ℕ) (token : List ℕ) where
  -- the first token_fault
  abbrev token_fault : Option FaultKind
  token_fault = first (staged_token_checks (context kind names primary) seen token)

  -- the checks behind those of the name
  abbrev past_name : List (FaultKind × Bool)
  past_name = drop (1 + length (name_checks token)) (staged_token_checks (context kind names primary) seen token)

  pub past-name : (is_plain kind && has COLON token) ≡ false → first (name_checks (before COLON token)) ≡ None
      → token_fault ≡ first past_name
  past-name e f = rw e (first-back (name_checks (before COLON token)) past_name f)

-- a token as it is cut, and the test whether it has a colour where none may stand
module _ (kind : Kind) (primary : ℕ) (seen : List ℕ) {names : List (List ℕ)} {text : List ℕ} {t : Token}
    (cut : IsCutToken names text t) {stray : Bool} (test : stray ≡ (is_plain kind && is_some t.colour)) where
  abbrev judged : Option FaultKind
  judged = token_fault kind names primary seen text

  -- a colour stands where none may
  pub not-here : stray ≡ true → judged ≡ Some ColourNotHere
  not-here e = grind (arith, cut)

  module _ (allowed : stray ≡ false) where
    -- no item has the name
    pub unknown : {k : FaultKind} → first (name_checks t.name.now ++ (UnknownItem, true) ∷ []) ≡ Some k
        → t.place ≡ None → judged ≡ Some k
    unknown f e = grind (arith, cut)

    -- the item at place k has it, and is marked or not
    module _ (all : All IsName names) (marks : List Bool) (len : length marks ≡ length names)
        (are : AreMarks marks seen) {k : ℕ} (found : t.place ≡ Some k) where
      past : (place names (before COLON text) ≡ Some k)
          × (get_or marks k false ≡ list_any (λ i. nat_eq i (k + 1)) seen)
          × (judged ≡ first (past_name kind names primary seen text))
      past =
          let at = sym cut.place ∙ found in
          let good = good-name (before COLON text) (stored IsName names (before COLON text) k all at) in
          let mark = mark-at marks names (before COLON text) seen k are len at in
          (at, mark, grind (arith, cut, past-name kind names primary seen text, good, test))

      pub repeated : get_or marks k false ≡ true → judged ≡ Some RepeatedInOption
      repeated e = grind (arith, past)

      pub bare : get_or marks k false ≡ false → t.colour ≡ None → (judged ≡ None)
          × (record { item = k + 1; colour = [] } ≡ written names text)
      bare new e = grind (arith, past, none-after, cut)

      pub on-primary : get_or marks k false ≡ false → {c : Bor (List ℕ)} → t.colour ≡ Some c → k + 1 ≤ primary
          → judged ≡ Some ColourOnPrimary
      on-primary new is h = grind (arith, past, cut, nat_tests)

      pub misfit : get_or marks k false ≡ false → {c : Bor (List ℕ)} → t.colour ≡ Some c → primary < k + 1
          → is_bad_colour c.now ≡ true → judged ≡ Some BadColour
      misfit new is h e = grind (arith, past, cut, nat_tests)

      pub coloured : get_or marks k false ≡ false → {c : Bor (List ℕ)} → t.colour ≡ Some c → primary < k + 1
          → is_bad_colour c.now ≡ false → (judged ≡ None)
          × (record { item = k + 1; colour = c.now } ≡ written names text)
      coloured new is h e = grind (arith, past, cut, nat_tests)

-- a step of the loop over the tokens
pub token-step : (kind : Kind) (names : List (List ℕ)) (primary : ℕ) (us : List Written) (token : List ℕ)
    (others : List (List ℕ)) → first (staged_token_checks (context kind names primary) (items_of us) token) ≡ None
    → first (staged_option_checks (context kind names primary) (items_of us) (token ∷ others))
    ≡ first (staged_option_checks (context kind names primary) (items_of (us ++ written names token ∷ [])) others)
token-step kind names primary us token others e = grind (arith, map-snoc, first-back)

-- ======== What the tokens of an option line leave behind, one after another.

-- the tokens that are left decide, and the uses of those before them are numbered, added and marked
pub record IsBehind (kind : Kind) (names : List (List ℕ)) (primary : ℕ) (line rest : List (List ℕ))
    (met : List (List ℕ)) (old : List Use) (marks : List Bool) (colours : List (List ℕ)) (uses : List Use)
    : Type 0 where
  pub us : List Written
  pub decided : first (staged_option_checks (context kind names primary) [] line)
      ≡ first (staged_option_checks (context kind names primary) (items_of us) rest)
  pub split : map (written names) line ≡ us ++ map (written names) rest
  pub count : length marks ≡ length names
  pub marked : AreMarks marks (items_of us)
  pub markable : All (λ u. IsMarkable (length names) u.item) (numbered met us)
  pub few : length us + unmarked_count marks ≤ most_items
  pub added : uses ≡ old ++ numbered met us
  pub known : colours ≡ with_uses met us
  pub distinct : AreDistinct colours
  pub few_colours : length colours ≤ length uses

module _ {kind : Kind} {names : List (List ℕ)} {primary : ℕ} {line : List (List ℕ)} {met : List (List ℕ)}
    {old : List Use} where
  -- before the first token
  module _ {rest : List (List ℕ)} {marks : List Bool} {colours : List (List ℕ)} {uses : List Use}
      (b : IsBehind kind names primary line rest met old marks colours uses) where
    -- there is a number for one colour more
    pub behind_few : length old ≤ most_uses → length colours ≤ most_uses + most_items
    behind_few less =
        let count = length-append old (numbered met b.us) in
        omega (arith, b.few_colours, ap length b.added, count, numbered-length met b.us, b.few, less)

    -- behind one token more
    pub behind_more : {token : List ℕ} {others : List (List ℕ)} {u : Written} {colours' : List (List ℕ)}
        {uses' : List Use} → rest ≡ token ∷ others
        → (first (staged_token_checks (context kind names primary) (items_of b.us) token) ≡ None) × (u
        ≡ written names token)
        → IsMarkable (length marks) u.item → get_or marks (u.item - 1) false ≡ false
        → uses' ≡ uses ++ use_behind colours u ∷ [] → colours' ≡ with_colour colours u.colour → AreDistinct colours'
        → IsBehind kind names primary line others met old (set marks (u.item - 1) true) colours' uses'
    behind_more {token} {others} {u} {colours'} {uses'} cut is within free more known distinct =
        let step = token-step kind names primary b.us token others is.0 in
        let turn = numbered-more met b.us u in
        let less = unmarked-less marks (u.item - 1) (omega (arith, within.0, within.1)) free in
        let new = use_behind (with_uses met b.us) u in
        record {
          us = b.us ++ u ∷ [];
          decided = b.decided ∙ rw (cut, is.1) step;
          split = grind (arith, b.split, cut, is, append_assoc);
          count = length-set marks (u.item - 1) true ∙ b.count;
          marked = grind (arith, common_steps, mark, items_of, b.marked, within);
          markable = rw turn (All-push (λ w. IsMarkable (length names) w.item) (numbered met b.us) new
              b.markable (within.0, omega (arith, within.1, b.count)));
          few = omega (arith, b.few, less, length-append b.us (u ∷ []));
          added = grind (arith, more, b.added, b.known, turn, append_assoc old (numbered met b.us) (new ∷ []));
          known = grind (arith, b.known, known, with_uses-append met b.us (u ∷ []));
          distinct = distinct;
          few_colours = grind (arith, b.few_colours, known, more, length-append, colours_more);
        }

    -- behind the last token
    module _ (none : rest ≡ []) where
      pub behind_all : map (written names) line ≡ b.us
      behind_all = b.split ∙ ap (λ ts. b.us ++ map (written names) ts) none ∙ append-nil b.us

      pub all_judged : first (staged_option_checks (context kind names primary) [] line) ≡ None
      all_judged = b.decided ∙ ap (λ ts. first (staged_option_checks (context kind names primary) (items_of b.us) ts))
          none

      pub all_added : uses ≡ old ++ numbered met (map (written names) line)
      all_added = b.added ∙ ap (λ us. old ++ numbered met us) (sym behind_all)

    -- the uses of the line alone
    pub late_marked : AreMarks marks (map (λ u. u.item) (drop (length old) uses))
    late_marked = rw (b.added, drop-append_seam old (numbered met b.us), map-map) b.marked

-- ======== Steps of a draft.

-- the number of a colour that was added last
pub new-number : (old new : List (List ℕ)) (colour : List ℕ) (n : ℕ) → 0 < length colour → place old colour ≡ None
    → new ≡ old ++ colour ∷ [] → n ≡ length old → n + 1 ≡ colour_number new colour
new-number old new [] n h e f g = absurd (omega arith)
new-number old new (b ∷ bs) n h e f g = grind (arith, nat_tests, last-position, bytes_eq-Decides)

empty : {A : Type 0} (xs : List A) → length xs ≤ 0 → xs ≡ []
empty [] h = refl
empty (x ∷ xs) h = absurd (omega (arith, h))

-- the item line was taken
pub begun : {d : ProblemBuilder} → IsBuilder d → d.started ≡ false → (row : ItemLine) → IsItemTable row
    → {tables : Tables} → AreTables tables → tables.names ≡ row.names
    → tables.primary ≡ unwrap_or row.bar (length row.items.items) → tables.colours.keys ≡ [] → tables.uses.items ≡ []
    → {starts : Vec ℕ Global} → starts.items ≡ 0 ∷ []
    → IsBuilder (record d { started = true; items = row.items; tables = tables; starts = starts })
    × (stage_of_builder (record d { started = true; items = row.items; tables = tables; starts = starts }) ≡ record {
      started = true;
      sheet = with_row (sheet_of_builder d) (row_of_line row);
      ignored = d.ignored.items;
    })
begun {d} s f row table {tables} sound names primary colours uses {starts} at =
    grind (arith, length-map, pieces, empty)

module _ (kind : Kind) {d : ProblemBuilder} (line : List ℕ) (s : IsBuilder d) (t : d.started ≡ true) where
  abbrev us : List Written
  us = map (written (key_names d.tables.names.keys)) (tokens line)

  abbrev checks : List (FaultKind × Bool)
  checks = staged_option_checks (context kind (key_names d.tables.names.keys) d.tables.primary) [] (tokens line)

  abbrev fault : Option FaultKind
  fault = first (staged_content_checks kind (stage_of_builder d) line)

  -- the checks of the tokens, and then that of the whole line
  pub content-is : fault ≡ first (checks ++ whole_checks (sheet_of_builder d) line)
  content-is = rw (t, s.names)

  by-parts : written_by (sheet_of_builder d) line ≡ us
  by-parts = ap (λ ns. map (written ns) (tokens line)) (sym s.names)

  -- the uses with those of the line, and the test whether one of these is primary
  module _ {new all : List Use} {start : ℕ} {b : Bool}
      (uses : new ≡ d.tables.uses.items ++ numbered (key_names d.tables.colours.keys) us)
      (p : b ≡ list_any (λ u. nat_le u.item d.tables.primary) (take (length all - start) (drop start all)))
      (e : all ≡ new) (f : start ≡ length d.tables.uses.items) where
    primary_kept : has_primary d.tables.primary (written_by (sheet_of_builder d) line) ≡ b
    primary_kept = grind (arith, by-parts, take_rest, drop-append_seam, primary-numbered)

    -- where the checks of the tokens let the line pass, that of the whole line decides
    content_judged : first checks ≡ None
        → fault ≡ (if b && nat_lt most_uses (length new) then Some TooManyUses else None)
    content_judged ok =
        let count : use_count (pieces d.starts.items d.tables.uses.items) + length (tokens line) ≡ length new =
        grind (arith, all-uses, s.starts, length-map, length-append, numbered-length) in
        content-is ∙ first-back checks (whole_checks (sheet_of_builder d) line) ok ∙ rw (primary_kept, count)

    pub no-primary : first checks ≡ None → b ≡ false → fault ≡ None
    no-primary ok e = grind (arith, content_judged)

    pub too-long : first checks ≡ None → {n : ℕ} → n ≡ length new → b ≡ true → most_uses < n
        → fault ≡ Some TooManyUses
    too-long ok l e h = grind (arith, content_judged, nat_tests)

    pub fits : first checks ≡ None → {n : ℕ} → n ≡ length new → n ≤ most_uses → fault ≡ None
    fits ok l h = grind (arith, content_judged, nat_tests, and-false)

    -- the line of this number was taken
    abbrev IsTaken : ℕ → ProblemBuilder → Type 0
    IsTaken count d' = IsBuilder d'
        × (stage_of_builder d' ≡ with_option count (stage_of_builder d) (written_by (sheet_of_builder d) line))

    -- and the tables with the uses and colours of the line
    module _ (count : ℕ) {tables : Tables} (same : AreSameItems d.tables tables) (sound : AreTables tables)
        (all_uses : tables.uses.items ≡ new)
        (colours : key_names tables.colours.keys ≡ with_uses (key_names d.tables.colours.keys) us) where
      names : key_names tables.names.keys ≡ names_of (map entry_of d.items.items)
      names = ap (λ n. key_names n.keys) same.names ∙ s.names

      pub taken : b ≡ true → {n : ℕ} → n ≡ length new → n ≤ most_uses → {starts : Vec ℕ Global}
          → starts.items ≡ d.starts.items ++ n ∷ [] → IsTaken count (record d { tables = tables; starts = starts })
      taken e {n} l room {starts} at =
          let cs = key_names d.tables.colours.keys in
          let cut = option-more d.starts.items d.tables.uses.items (numbered cs us) n (s.starts t)
          (l ∙ ap length uses ∙ length-append d.tables.uses.items (numbered cs us)) in
          let parts = by-parts in (
            record {
              names = names;
              tables = sound;
              few_uses = omega (arith, ap length all_uses, l, room);
              starts = λ _. rw (at, all_uses, uses) cut.0;
              unstarted = λ f. absurd (true≢false (sym t ∙ f));
            },
            rw (primary_kept, e, same.primary) (cc),
          )

      pub left-out : b ≡ false → {kept_uses : Vec Use Global} → kept_uses.items ≡ take start new
          → {kept_colours : IndexSet (Vec ℕ Global) Seed}
          → hasher_of kept_colours ≡ hasher_of tables.colours
          → {m : ℕ} → kept_colours.keys ≡ take m tables.colours.keys
          → m ≡ length d.tables.colours.keys → {ignored : Vec ℕ Global}
          → ignored.items ≡ d.ignored.items ++ count ∷ []
          → IsTaken count (record d {
            tables = record tables { uses = kept_uses; colours = kept_colours };
            ignored = ignored;
          })
      left-out e {kept_uses} cut {kept_colours} seed {m} keys n {ignored} more =
          let old : kept_uses.items ≡ d.tables.uses.items = grind (arith, take-append_seam) in
          let first = first_met (key_names d.tables.colours.keys) us in
          let known : key_names kept_colours.keys ≡ key_names d.tables.colours.keys =
          grind (arith, length-map, take-map) in (
            record {
              names = names;
              tables = record {
                named = sound.named;
                few_items = sound.few_items;
                words = sound.words;
                marks = sound.marks;
                unmarked = sound.unmarked;
                few_colours = rw (old, known) s.tables.few_colours;
                distinct_colours = rw known s.tables.distinct_colours;
                seed = seed ∙ sound.seed;
              };
              few_uses = rw old s.few_uses;
              starts = λ f. rw old (s.starts f);
              unstarted = λ f. absurd (true≢false (sym t ∙ f));
            },
            rw (primary_kept, e, same.primary) (cc),
          )
