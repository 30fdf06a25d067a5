-- Where bytes stand in a token, and checks in their order: the first that finds a fault.
use Prim.Native.Char.{code}
use Rattle.std.proofs.Common.{ℕ, filter, ◌≡◌, ◌+◌, ◌<◌, ◌≤◌, List, [], ◌∷◌, ◌++◌, None, Some, Bool, length}
use Rattle.std.proofs.Common.{get_or, take, drop, refl, sym, ap, ◌∙◌, arith, map, nat_eq, position, not, nat_lt}
use Rattle.std.proofs.Common.{append_assoc, if◌then◌else◌, true, false, append-nil, Option, is_none, is_some, subst}
use Rattle.std.proofs.Common.{Result, Ok, Err, Vec, Global, vec_len, ◌||◌, nat_le, inl, inr, ◌⊎◌, IfOk}
use Rattle.std.proofs.lemmas.List.{length-append, length-map, take-append-drop}
use Rattle.std.specs.List.{position_or_len, list_all, onto_first, slice_split, list_any}
use Rattle.std.proofs.lemmas.Bool.Decides.{nat_tests}
use Rattle.std.specs.Prelude.{flat_map, ◌↔◌, slice_get}
use Rattle.std.proofs.lemmas.Bool.{or_parts, and_parts}
use Rattle.std.specs.Str.{bytes_eq}
use Rattle.std.specs.Result.{IsErrAnd}
use Rattle.std.proofs.lemmas.Grind.{common_steps}
use Rattle.std.specs.Char.{is_ascii_digit}
use Rattle.std.proofs.Math.Bool.{and-false}
use Rattle.xc_text.specs.Words.{has, before, place, are_digits, number, is_space}
use Rattle.xc_input.specs.Tokens.{is_bar, is_skipped, parts, split_bars, tokens}
use Rattle.xc_input.specs.inner.CutTokens.{drop_white, word, StandsBefore, low_text, high_text}
use Rattle.xc_input.specs.contracts.fault.FaultKind.{the_type}
use Rattle.xc_input.specs.declared.fault.FaultKind.{FaultKind}
use Rattle.xc_input.specs.declared.kind.Kind.TheVariants.{Plain}
use Rattle.xc_input.specs.Faults.{first, checks_of_each, name_checks, item_checks, bound_checks, is_bounds, has_prefix}
use Rattle.xc_input.specs.Faults.{name_of, prefix_checks, context_of, token_checks}
use Rattle.xc_input.specs.declared.kind.Kind.{Kind}
use Rattle.xc_input.specs.declared.fault.FaultKind.TheVariants.{TooManyItems, EmptyName, NameTooLong, BadByteInName}
use Rattle.xc_input.specs.declared.fault.FaultKind.TheVariants.{RepeatedName}
use Rattle.xc_input.specs.declared.line_error.LineError.{LineError}
use Rattle.xc_input.specs.declared.line_error.LineError.TheVariants.{Fault, Memory}
use Rattle.xc_input.specs.Sheets.{Entry}
use Rattle.xc_input.specs.inner.Stages.{names_of, entry}
use Rattle.xc_input.specs.Limits.{most_items, longest_name}
use Rattle.xc_input.specs.declared.problem.Item.{Item}
use Rattle.xc_input.specs.inner.Builders.{Judged, entry_of, IsItemTable}
use Rattle.xc_input.specs.inner.Stored.{key_names}
use Rattle.xc_input.specs.Named.{IsName}
use Rattle.xc_input.specs.Text.{AreBounds, IsBare, IsBounded, IsEntry}
use Rattle.xc_input.specs.declared.at_fault.FaultyToken.{FaultyToken}
use Rattle.xc_input.specs.FaultyTokens.{IsAtFault, IsFaulty, Tells}
use Rattle.xc_input.specs.FirstFault.{content, content_checks, line_checks, line_number}
use Rattle.xc_input.specs.Laws.{TokensAgree}
use Rattle.xc_input.specs.declared.written.ItemLine.{ItemLine}
use Rattle.xc_text.proofs.ListLemmas.{by_bool}
use denote.Enum.Bare.{sameb}
use Rattle.xc_text.proofs.ByteLemmas.{cut-is, no-cut, cut-at}
-- by the name that other modules have for it
pub use Rattle.std.proofs.lemmas.List.{map_push as map-snoc}
-- by the names that other crates have for them
pub use Rattle.std.proofs.lemmas.Bool.{false_from_ne_true as not_false, or_parts as or-false, or_from as or-both}
pub use Rattle.std.proofs.lemmas.Bool.{and_parts as and-true, and_from as and-both}

-- ======== The bytes that part a token, by their names: for `tokens` and `names`, and for the words of a listing.

-- parts a name from its colour, and the two bounds of an item
abbrev pub COLON : ℕ
COLON = code ":"

-- parts primary from secondary items, and bounds from the name
abbrev pub BAR : ℕ
BAR = code "|"

-- ======== Where a byte stands in a list.

place-map : {A B : Type 0} (p : B → Bool) (f : A → B) (xs : List A)
    → position_or_len p (map f xs) ≡ position_or_len (λ x. p (f x)) xs
place-map p f [] = refl
place-map p f (x ∷ xs) = ap (λ n. if not (p (f x)) then 1 + n else 0) (place-map p f xs)

-- the place of a value in a list, as seen through f
pub position-map : {A B : Type 0} (p : B → Bool) (f : A → B) (xs : List A)
    → position p (map f xs) ≡ position (λ x. p (f x)) xs
position-map p f xs = λ i. (if nat_lt (place-map p f xs i) (length-map xs f i) then Some (place-map p f xs i) else None)

-- what stands from the first white space on
abbrev pub behind : List ℕ → List ℕ
behind [] = []
behind (b ∷ bs) = (if is_space b then b ∷ bs else behind bs)

-- TOKENS
-- a byte of a token, before bytes with these tokens
abbrev pub onto : ℕ → List ℕ → List (List ℕ) → List (List ℕ)
onto b [] tokens = (b ∷ []) ∷ tokens
onto b (c ∷ cs) tokens = (if is_space c then (b ∷ []) ∷ tokens else onto_first b tokens)

abbrev is_some_token : List ℕ → Bool
is_some_token token = nat_lt 0 (length token)

some-first : (b c : ℕ) (parts : List (List ℕ)) → filter is_some_token (onto_first b (onto_first c parts))
    ≡ onto_first b (filter is_some_token (onto_first c parts))
some-first b c [] = refl
some-first b c (p ∷ ps) = grind arith

tokens-onto : (b : ℕ) (bs : List ℕ) → filter is_some_token (onto_first b (slice_split is_space bs))
    ≡ onto b bs (tokens bs)
tokens-onto b [] = refl
tokens-onto b (c ∷ cs) = grind (arith, some-first b c (slice_split is_space cs))

-- the tokens of a line by its first byte
pub tokens-cons : (b : ℕ) (bs : List ℕ) → tokens (b ∷ bs) ≡ (if is_space b then tokens bs else onto b bs (tokens bs))
tokens-cons b bs = grind (arith, tokens-onto b bs)

pub tokens-drop_white : (xs : List ℕ) → tokens (drop_white xs) ≡ tokens xs
tokens-drop_white [] = refl
tokens-drop_white (b ∷ bs) = grind (arith, tokens-drop_white bs, tokens-cons b bs)

-- what is left behind white space begins with none
pub drop_white-first : (xs : List ℕ) (b : ℕ) (bs : List ℕ) → drop_white xs ≡ b ∷ bs → is_space b ≡ false
drop_white-first [] b bs e = absurd (cc)
drop_white-first (x ∷ xs) b bs e = grind (arith, drop_white-first xs b bs)

-- a byte that is no white space begins the first token
pub tokens-first : (b : ℕ) (bs : List ℕ) → is_space b ≡ false → tokens (b ∷ bs) ≡ (b ∷ word bs) ∷ tokens (behind bs)
tokens-first b [] e = grind (arith, tokens-cons b [])
tokens-first b (c ∷ cs) e = grind (arith, tokens-cons b (c ∷ cs), tokens-first c cs)

-- whether what stands behind leading white space begins no item or option: it is empty, or a comment
abbrev pub starts_nothing : List ℕ → Bool
starts_nothing [] = true
starts_nothing (b ∷ bs) = nat_eq b BAR

-- what stands behind leading white space says whether a line is skipped
pub skipped-front : (line front : List ℕ) → front ≡ drop_white line → starts_nothing front ≡ is_skipped line
skipped-front line [] e = ap (λ ts. list_all is_bar (take 1 ts)) (ap tokens e ∙ tokens-drop_white line)
skipped-front line (b ∷ bs) e =
    grind (arith, nat_tests, drop_white-first line b bs (sym e), tokens-first b bs, tokens-drop_white line)

pub skipped-first : (line front : List ℕ) → front ≡ drop_white line → 1 ≤ length front
    → nat_eq (get_or front 0 0) BAR ≡ is_skipped line
skipped-first line [] e h = absurd (omega (arith, h))
skipped-first line (b ∷ bs) e h = skipped-front line (b ∷ bs) e

pub take-word : (xs : List ℕ) → take (length (word xs)) xs ≡ word xs
take-word [] = refl
take-word (b ∷ bs) = grind (arith, take-word bs)

pub drop-word : (xs : List ℕ) → drop (length (word xs)) xs ≡ behind xs
drop-word [] = refl
drop-word (b ∷ bs) = grind (arith, drop-word bs)

-- leading white space stands before what is left behind it
drop_white-front : (xs : List ℕ) → (front : List ℕ) × (xs ≡ front ++ drop_white xs)
drop_white-front [] = ([], refl)
drop_white-front (b ∷ bs) = let r = drop_white-front bs in
    by_bool (is_space b) (λ f. rw f (b ∷ r.0, ap (λ ys. b ∷ ys) r.1)) (λ f. rw f ([], refl))

-- where a line is cut behind its leading white space, the front stands before the back
cut-stands : (line rest front back : List ℕ) (n : ℕ) → rest ≡ drop_white line → front ≡ take n rest
    → back ≡ drop n rest → StandsBefore line front back
cut-stands line rest front back n e f g = grind (arith, drop_white-front line, take-append-drop n rest, append_assoc)

-- what is left of such a line is shorter
stands-shorter : (line front back : List ℕ) → 0 < length front → StandsBefore line front back
    → length back < length line
stands-shorter line front back some s = omega (arith, simp length-append at (ap length s.1))

-- nothing behind leading white space is no token
pub no-token : (line rest : List ℕ) → rest ≡ drop_white line → length rest ≡ 0 → tokens line ≡ []
no-token line [] e h = sym (tokens-drop_white line) ∙ ap tokens (sym e)
no-token line (b ∷ bs) e h = absurd (omega arith)

-- cutting at the first white space behind leading white space gives the first token
pub cuts_first : (line rest front back : List ℕ) (n : ℕ) → rest ≡ drop_white line → 0 < length rest
    → n ≡ length (word rest) → front ≡ take n rest → back ≡ drop n rest
    → (tokens line ≡ front ∷ tokens back) × (length back < length line) × StandsBefore line front back
cuts_first line [] front back n e h w f g = absurd (omega arith)
cuts_first line (b ∷ bs) front back n e h w f g =
    let dark : is_space b ≡ false = drop_white-first line b bs (sym e) in
    let stands = cut-stands line (b ∷ bs) front back n e f g in
    let front_is : front ≡ b ∷ word bs = grind (arith, take-word (b ∷ bs)) in
    let back_is : back ≡ behind bs = grind (arith, drop-word (b ∷ bs)) in
    let short = stands-shorter line front back (omega (arith, ap length front_is)) stands in
    (grind (arith, tokens-drop_white line, tokens-first b bs), short, stands)

-- behind a bar, the rest of its token and what follows are the parts of the bytes behind it
word-parts : (bs : List ℕ) → split_bars (word bs) ++ flat_map split_bars (tokens (behind bs)) ≡ parts bs
word-parts [] = refl
word-parts (c ∷ cs) = grind (arith, tokens-first c cs)

-- cutting behind a bar gives the first part
pub cuts_bar : (line rest front back : List ℕ) → rest ≡ drop_white line → 0 < length rest → get_or rest 0 0 ≡ BAR
    → front ≡ take 1 rest → back ≡ drop 1 rest
    → (parts line ≡ front ∷ parts back) × (length back < length line) × StandsBefore line front back
cuts_bar line [] front back e h b f g = absurd (omega arith)
cuts_bar line (b ∷ bs) front back e h is f g =
    let dark : is_space b ≡ false = drop_white-first line b bs (sym e) in
    let front_is : front ≡ BAR ∷ [] = f ∙ ap (λ x. x ∷ []) is in
    let stands = cut-stands line (b ∷ bs) front back 1 e f g in
    let short = stands-shorter line front back (omega (arith, ap length front_is)) stands in
    (grind (arith, nat_tests, tokens-drop_white line, tokens-first b bs, word-parts bs), short, stands)

-- cutting at white space gives the first part, where it is no bar
pub cuts_part : (line rest front back : List ℕ) (n : ℕ) → rest ≡ drop_white line → 0 < length rest
    → nat_eq (get_or rest 0 0) BAR ≡ false → n ≡ length (word rest) → front ≡ take n rest → back ≡ drop n rest
    → (parts line ≡ front ∷ parts back) × (length back < length line) × StandsBefore line front back
cuts_part line [] front back n e h bar w f g = absurd (omega arith)
cuts_part line (b ∷ bs) front back n e h bar w f g =
    let cut = cuts_first line (b ∷ bs) front back n e h w f g in
    grind (arith, parts, cut, drop_white-first line b bs (sym e))

-- ======== The first of some checks that holds, for all functions that judge a token or a line. No list of checks is
-- written out here or by those who use this: a check is asked for by its fault, and a list's front and rest by `take`
-- and `drop`. So where a check is added to a list, only what speaks of that check changes.

-- the test of this fault among checks
abbrev pub test : FaultKind → List (FaultKind × Bool) → Bool
test k [] = false
test k (c ∷ cs) = (if sameb the_type k c.0 then c.1 else test k cs)

-- where no check holds, that of a fault doesn't; the test computes to its condition
pub fails : (cs : List (FaultKind × Bool)) → first cs ≡ None → (k : FaultKind) → test k cs ≡ false
fails [] e k = refl
fails ((a, true) ∷ cs) e k = absurd (cc)
fails ((a, false) ∷ cs) e k = by_bool (sameb the_type k a) (λ s. rw s) (λ s. rw s (fails cs e k))

-- a check that holds among the first ones
pub first-front : {A : Type 0} (a b : List (A × Bool)) (k : A) → first a ≡ Some k → first (a ++ b) ≡ Some k
first-front [] b k e = absurd (cc)
first-front (c ∷ cs) b k e = grind (arith, first-front cs b k)

-- where none of the first ones holds, the later ones decide
pub first-back : {A : Type 0} (a b : List (A × Bool)) → first a ≡ None → first (a ++ b) ≡ first b
first-back [] b e = refl
first-back (c ∷ cs) b e = grind (arith, first-back cs b)

-- none of all holds exactly where none of either part does
pub none-append : {A : Type 0} (a b : List (A × Bool)) → (first (a ++ b) ≡ None) ↔ ((first a ≡ None) × (first b ≡ None))
none-append [] b = (λ e. (refl, e), λ h. h.1)
none-append (c ∷ cs) b = grind (arith, first-back, none-append cs b)

-- the checks of each of two lists
pub checks-append : {A B : Type 0} (checks : List A → A → List B) (before xs ys : List A)
    → checks_of_each checks before (xs ++ ys)
    ≡ checks_of_each checks before xs ++ checks_of_each checks (before ++ xs) ys
checks-append checks before [] ys = ap (λ b. checks_of_each checks b ys) (sym (append-nil before))
checks-append checks before (x ∷ xs) ys = grind (arith, append_assoc, checks-append checks (before ++ x ∷ []) xs ys)

pub first-each : {A B : Type 0} (checks : List A → A → List (B × Bool)) (xs ys : List A)
    → first (checks_of_each checks [] xs) ≡ None
    → first (checks_of_each checks [] (xs ++ ys)) ≡ first (checks_of_each checks xs ys)
first-each checks xs ys e = grind (arith, first, checks-append, first-back)

-- What holds of a list with one element more exactly where it holds of the list and no check of the element does: it
-- holds of a whole list exactly where no check of any element does.
module _ {A B : Type 0} (checks : List A → A → List (B × Bool)) (Q : List A → Type 0)
    (step : (before : List A) (x : A) → Q (before ++ x ∷ []) ↔ (Q before × (first (checks before x) ≡ None))) where
  clear-behind : (before xs : List A) → Q (before ++ xs) ↔ (Q before × (first (checks_of_each checks before xs) ≡ None))
  clear-behind before [] = rw append-nil (λ q. (q, refl), λ h. h.0)
  clear-behind before (x ∷ xs) = grind (arith, step, none-append, append_assoc, clear-behind (before ++ x ∷ []) xs)

  pub clear-each : Q [] → (xs : List A) → Q xs ↔ (first (checks_of_each checks [] xs) ≡ None)
  clear-each none xs = let all = clear-behind [] xs in (λ q. (all.0 q).1, λ e. all.1 (none, e))

-- the checks of an item's name, behind those of its bounds: those of a token that can have none
abbrev pub alone : List (List ℕ) → List ℕ → List (FaultKind × Bool)
alone names name = item_checks Plain names false name

-- those behind the checks that each name has
abbrev pub behind_name : List (List ℕ) → List ℕ → List (FaultKind × Bool)
behind_name names name = drop (length (name_checks name)) (alone names name)

pub past-name : (names : List (List ℕ)) (name : List ℕ) → first (name_checks name) ≡ None
    → first (alone names name) ≡ first (behind_name names name)
past-name names name e = first-back (name_checks name) (behind_name names name) e

-- ======== Checks in their order, as `add_item`, `item_line` and `option_line` come to them.

pub none-is : {A : Type 0} (o : Option A) → is_some o ≡ false → o ≡ None
none-is None e = refl
none-is (Some x) e = absurd (cc)

pub some-is : {A : Type 0} (o : Option A) → is_none o ≡ false → (x : A) × (o ≡ Some x)
some-is None e = absurd (cc)
some-is (Some x) e = (x, refl)

-- the answer to an error that is handed on, alone_fault the first checks
pub stopped : {T : Type 0} {a : Option FaultKind} (p q : List (FaultKind × Bool)) (r : Result T LineError)
    (e : LineError) → IsErrAnd r (λ x. x ≡ e) → a ≡ first (p ++ q) → Judged {T = Unit {0}} (first p) (Err e)
    → Judged a r
stopped p q (Ok x) e h f j = absurd h
stopped p q (Err (Fault k)) e h f j = grind (arith, first-front p q k)
stopped p q (Err Memory) e h f j = tt

pub names_of-length : (es : List Entry) → length (names_of es) ≡ length es
names_of-length es = length-map es (λ e. e.name)

-- a token of the item line, alone_fault these entries, whose bounds have no fault
module _ (kind : Kind) (entries : List Entry) (bar : Option ℕ) (token : List ℕ) {sec : Bool} (s : sec ≡ is_some bar)
    {name : List ℕ} {low high : ℕ} (t : (first (bound_checks kind sec token) ≡ None)
    × (record { name = name; low = low; high = high } ≡ entry kind sec token)) {o : Option FaultKind}
    (f : o ≡ first (name_checks name)) where
  abbrev fault : Option FaultKind
  fault = first (item_checks kind (names_of entries) (is_some bar) token)

  alone_fault : fault ≡ first (alone (names_of entries) name)
  alone_fault = grind (arith, first-back)

  pub bad-name : {k : FaultKind} → o ≡ Some k → fault ≡ Some k
  bad-name e = grind (arith, alone_fault, first-front, name_checks)

  module _ (e : o ≡ None) {keys : List (List ℕ)} (link : keys ≡ names_of entries) {at : Option ℕ}
      (is : at ≡ place keys name) {b : Bool} (g : b ≡ is_some at) (h : b ≡ false) {n : ℕ} (l : n ≡ length entries)
    where
      past : fault ≡ first ((TooManyItems, not (nat_lt n most_items)) ∷ [])
      past = grind (arith, alone_fault, past-name, none-is, names_of-length)

      pub too-many : 100000 ≤ n → fault ≡ Some TooManyItems
      too-many m = grind (arith, nat_tests, past)

      pub no-fault : n < 100000 → fault ≡ None
      no-fault m = grind (arith, nat_tests, past)

found : {A : Type 0} (p : A → Bool) (xs : List A) → list_any p xs ≡ true → position_or_len p xs < length xs
found p [] f = absurd (cc)
found p (x ∷ xs) f = grind (arith, found p xs)

-- a place that isn't there
pub no-place : {A : Type 0} (p : A → Bool) (xs : List A) → position p xs ≡ None → list_any p xs ≡ false
no-place p xs e = grind (arith, nat_tests, not_false (list_any p xs), found p xs)

-- the keys alone_fault one that is new
pub new-key : (keys : List (Vec ℕ Global)) (k : Vec ℕ Global) (all : List (Vec ℕ Global)) (name : List ℕ)
    → position (bytes_eq name) (key_names keys) ≡ None → k.items ≡ name
    → all ≡ (if list_any (λ v. bytes_eq k.items v.items) keys then keys else keys ++ k ∷ [])
    → key_names all ≡ key_names keys ++ name ∷ []
new-key keys k all name e f g =
    let out : list_any (λ v. bytes_eq k.items v.items) keys ≡ false = rw f (no-place (λ v. bytes_eq name v.items) keys
    (sym (position-map (bytes_eq name) (λ v. v.items) keys) ∙ e)) in
    grind (arith, nat_tests, map-snoc (λ (v : Vec ℕ Global). v.items) keys k)

-- the answer to the last step
pub judged-on : (T : Type 0) (a : Option FaultKind) (r : Result T LineError) → a ≡ None → Judged None r → Judged a r
judged-on T a r e j = subst (λ f. Judged f r) (sym e) j

-- one item more
pub grown : (kind : Kind) (bar : Option ℕ) (token : List ℕ) {sec : Bool} → sec ≡ is_some bar
    → (P : List (List ℕ) → Type 0) {keys keys' : List (List ℕ)} (items items' : List Item) {e : Entry}
    → e ≡ entry kind sec token → (keys ≡ names_of (map entry_of items)) × (length items ≤ most_items) × P keys
    → P keys' → keys' ≡ keys ++ e.name ∷ [] → length items < 100000 → map entry_of items' ≡ map entry_of items ++ e ∷ []
    → ((keys' ≡ names_of (map entry_of items')) × (length items' ≤ most_items) × P keys')
    × (map entry_of items' ≡ map entry_of items ++ entry kind (is_some bar) token ∷ [])
grown kind bar token s P items items' {e} is n p k m all = grind (arith, common_steps, length-map)

-- a step of the loop over the parts
pub last-place : {A : Type 0} (p : A → Bool) (xs : List A) → list_any p xs ≡ false → position_or_len p xs ≡ length xs
last-place p [] e = refl
last-place p (x ∷ xs) e = grind (arith, last-place p xs)

pub items-length : {A : Type 0} (v : Vec A Global) → vec_len v ≡ length v.items
items-length v = grind arith

-- ======== Checks that don't hold, and what they say of a token: for `add_item`, `use_of` and `finish`.

-- NAMES
-- a name by its three tests
pub solid : (name : List ℕ) → nat_lt (length name) 1 ≡ false → nat_lt longest_name (length name) ≡ false
    → (has COLON name || has BAR name) ≡ false → IsName name
solid name a b c = grind (arith, nat_tests, or_parts (has COLON name) (has BAR name) c)

pub name-good : (name : List ℕ) → first (name_checks name) ≡ None → IsName name
name-good name e = grind (arith, fails, solid)

pub good-name : (name : List ℕ) → IsName name → first (name_checks name) ≡ None
good-name name g = grind (arith, nat_tests)

-- NUMBERS
digits-no-colon : (xs : List ℕ) → list_all is_ascii_digit xs ≡ true → has COLON xs ≡ false
digits-no-colon [] e = refl
digits-no-colon (x ∷ xs) e =
    let a = and_parts (is_ascii_digit x) (list_all is_ascii_digit xs) e in
    grind (arith, nat_tests, digits-no-colon xs a.1, and_parts (nat_le 48 x) (nat_le x 57) a.0)

pub number-no-colon : (text : List ℕ) → are_digits 9 text ≡ true → has COLON text ≡ false
number-no-colon text e = grind (arith, nat_tests, digits-no-colon text)

-- BOUNDS
pub bounds-good : (prefix : List ℕ) (sec : Bool) → first (prefix_checks prefix sec) ≡ None
    → AreBounds prefix (number (low_text prefix)) (number (high_text prefix)) × (1 ≤ number (high_text prefix))
    × (number (low_text prefix) ≤ number (high_text prefix)) × (sec ≡ false)
bounds-good prefix sec e = grind (arith, fails, cut-is, no-cut)

pub good-bounds : (prefix : List ℕ) (low high : ℕ) → AreBounds prefix low high → 1 ≤ high → low ≤ high
    → (first (prefix_checks prefix false) ≡ None) × (number (low_text prefix) ≡ low)
    × (number (high_text prefix) ≡ high)
good-bounds prefix low high (inl h) p q = grind (arith, number-no-colon, no-cut)
good-bounds prefix low high (inr h) p q =
    grind (arith, nat_tests, cut-at COLON h.0 h.1 (number-no-colon h.0 h.3), number-no-colon h.0 h.3)

-- ITEMS
module _ (kind : Kind) (sec : Bool) (token : List ℕ) where
  shape : (t : Bool) → has_prefix kind token ≡ t → first (bound_checks kind sec token) ≡ None
      → IsBare sec token (entry kind sec token) ⊎ IsBounded kind sec token (entry kind sec token)
  shape true f e =
      let b = and_parts (is_bounds kind) (has BAR token) f in
      let c = cut-is BAR token b.1 in
      let g = bounds-good (before BAR token) sec (rw f at e) in
      rw f (inr (before BAR token, b.0, g.3, c.1, c.0, g.0, g.1, g.2))
  shape false f e = rw f (inl (refl, refl, refl))

  -- a token that stands for an item stands for no other, and its prefix has no fault
  pub known : (e : Entry) → IsEntry kind sec token e → (e ≡ entry kind sec token)
      × (first (bound_checks kind sec token) ≡ None)
  known e (n, inl h) = grind (arith, nat_tests, and-false (is_bounds kind))
  known e (n, inr h) = grind (arith, nat_tests, cut-at BAR h.0 e.name h.3, good-bounds h.0 e.low e.high h.5 h.6 h.7)

  -- a token has no fault where it stands for an item, whose name is new
  pub item-clear : (names : List (List ℕ)) → (first (item_checks kind names sec token) ≡ None)
      ↔ (IsEntry kind sec token (entry kind sec token) × (place names (name_of kind token) ≡ None)
      × (length names < most_items))
  item-clear names =
      let name = name_of kind token in
      let both = none-append (bound_checks kind sec token) (alone names name) in (
        λ e. (let a = both.0 e in
            let no = fails (alone names name) a.1 in
            let is = shape (has_prefix kind token) refl a.0 in
            let good = solid name (no EmptyName) (no NameTooLong) (no BadByteInName) in
            ((good, is), grind (arith, nat_tests, no RepeatedName), grind (arith, nat_tests, no TooManyItems))),
        λ h. both.1 ((known _ h.0).1, past-name names name (good-name name h.0.0) ∙ grind (arith, nat_tests)),
      )

-- ======== The fault of a token is that of its line.

-- checks that are told with the number of their line
numbered : (n : ℕ) (cs : List (FaultKind × Bool)) (k : FaultKind) → first cs ≡ Some k
    → first {A = ℕ × FaultKind} (map (λ c. ((n, c.0), c.1)) cs) ≡ Some (n, k)
numbered n [] k e = absurd (cc)
numbered n ((a, true) ∷ cs) k e = grind arith
numbered n ((a, false) ∷ cs) k e = numbered n cs k e

at_fault : {cut : List ℕ → List (List ℕ)} (checks : List (List ℕ) → List ℕ → List (FaultKind × Bool)) {line : List ℕ}
    (t : FaultyToken) → IsAtFault cut checks line t → first (checks_of_each checks [] (cut line)) ≡ Some t.kind
at_fault {cut = cut} checks t h = grind (arith, first-each, first-front)

content_fault : (kind : Kind) (lines : List (List ℕ)) (line : List ℕ) (t : FaultyToken)
    → IsFaulty kind (slice_get lines 0) line t → first (content_checks kind lines line) ≡ Some t.kind
content_fault kind [] line t h = at_fault _ t h
content_fault kind (items ∷ options) line t h =
    first-front (checks_of_each (token_checks (context_of kind (parts items))) [] (tokens line)) _ t.kind
    (at_fault _ t h.1)

pub tokens_agree : TokensAgree
tokens_agree kind lines line t none (no_nul, stands, h) =
    first-each (line_checks kind) lines (line ∷ []) none
    ∙ first-front (line_checks kind lines line) [] (line_number (length lines + 1), t.kind)
    (rw (no_nul, stands) (numbered (line_number (length lines + 1)) (content_checks kind (content lines) line) t.kind
    (content_fault kind (content lines) line t h)))

-- ======== The token at fault is found as its line is read, one token after another.

-- a line is read up to this rest: the tokens before it have no fault
pub record IsReadTo (cut : List ℕ → List (List ℕ)) (checks : List (List ℕ) → List ℕ → List (FaultKind × Bool))
    (line rest : List ℕ) (others : List (List ℕ)) : Type 0 where
  pub front : List ℕ
  pub place : line ≡ front ++ rest
  pub order : cut line ≡ others ++ cut rest
  pub faultless : first (checks_of_each checks [] others) ≡ None

-- before the first token
module _ {cut : List ℕ → List (List ℕ)} {checks : List (List ℕ) → List ℕ → List (FaultKind × Bool)} {line rest : List ℕ}
    {others : List (List ℕ)} (r : IsReadTo cut checks line rest others) where
  -- the next token stands in the line too
  pub read-stands : (piece behind : List ℕ) → StandsBefore rest piece behind → StandsBefore line piece behind
  read-stands piece behind s =
      grind (arith, nat_tests, append_assoc r.front (s.0 ++ piece) behind, append_assoc r.front s.0 piece)

  pub read-on : (behind : List ℕ) {piece : List ℕ} → cut rest ≡ piece ∷ cut behind → StandsBefore rest piece behind
      → first (checks others piece) ≡ None → IsReadTo cut checks line behind (others ++ piece ∷ [])
  read-on behind {piece} e s f =
      let w = read-stands piece behind s in grind (arith, append_assoc, first-each, first-back)

  pub read-stop : (behind : List ℕ) {piece : List ℕ} {k : FaultKind} (t : FaultyToken) → cut rest ≡ piece ∷ cut behind
      → first (checks others piece) ≡ Some k → line ≡ t.before.now ++ piece ++ behind → t.token.now ≡ piece
      → t.behind.now ≡ behind → t.kind ≡ k → IsAtFault cut checks line t
  read-stop behind t e f place token back kind = grind (arith, others, cut, first)

  pub read-end : cut rest ≡ [] → (t : FaultyToken) → IsAtFault cut checks line t → ⊥
  read-end e t h = grind (arith, nat_tests, append-nil, first-each, first-front)

-- there are as many names as items
pub keys-length : (i : ItemLine) → IsItemTable i → length i.names.keys ≡ length i.items.items
keys-length i t = grind (arith, length-map, names_of-length)

-- what is told of the one is told of the other, where both say the same
pub tells-same : {A : Type 0} {P Q : A → Type 0} (o : Option A) → ((x : A) → P x → Q x) → ((x : A) → Q x → P x)
    → Tells P o → Tells Q o
tells-same None f g h = λ x q. h x (g x q)
tells-same (Some x) f g h = f x h

pub ok-tells-same : {A E : Type 0} {P Q : A → Type 0} (r : Result (Option A) E) → ((x : A) → P x → Q x)
    → ((x : A) → Q x → P x) → IfOk r (Tells P) → IfOk r (Tells Q)
ok-tells-same (Ok o) f g h = tells-same o f g h
ok-tells-same (Err e) f g h = h
