-- Spans of a listing as text.
-- Public contracts rest on this file: readers must believe it.
use Rattle.std.specs.Prelude.{ℕ, ◌^◌, ◌-◌, Bool, List, [], ◌∷◌, ◌++◌, Option, Some, None, length, flat_map, decimal}
use Rattle.std.specs.Prelude.{codes}
use Rattle.std.specs.Prelude.{if◌then◌else◌}
use Rattle.std.specs.List.{enumerate_from}
use Rattle.xc_input.specs.Named.{Named}
use Rattle.xc_search.specs.declared.choice.Choice.{Choice}
use Rattle.xc_search.specs.Spans.{between}
use Rattle.xc_list.specs.Output.{member_text}
use Rattle.xc_list.specs.Digests.{digest_of, text_digest}

-- no more members are numbered or counted
abbrev pub most_counted : ℕ
most_counted = 2 ^ 64 - 1

-- a row: its numbers with points between, and a dash where it has none
abbrev pub row_text : List ℕ → List ℕ
row_text [] = codes "-"
row_text (n ∷ row) = decimal n ++ flat_map (λ k. codes "." ++ decimal k) row

-- the row before which a span ends; the empty row stands for the listing's end
abbrev pub end_at : List ℕ → Option (List ℕ)
end_at [] = None
end_at (n ∷ row) = Some (n ∷ row)

-- where a search stopped before its span's end: how many branches each level of the row has
abbrev pub branches_text : Option (List ℕ) → List ℕ
branches_text None = []
branches_text (Some branches) = codes " of " ++ row_text branches

-- of which problem a text is, by its digest
abbrev pub problem_part : List ℕ → List ℕ
problem_part digest = codes " problem " ++ digest

-- the record of a span: its first row and the one before which it ends, how many solutions and steps it took, and the
-- digest of the problem
abbrev pub record_front : List ℕ → List ℕ → Option (List ℕ) → ℕ → ℕ → List ℕ → List ℕ
record_front from until branches solutions steps digest =
    codes "from " ++ row_text from ++ codes " until " ++ row_text until ++ branches_text branches
    ++ codes " solutions " ++ decimal solutions ++ codes " steps " ++ decimal steps ++ problem_part digest

-- the heading of a listed span: its first row, and the digest of the problem
abbrev pub heading_text : List ℕ → List ℕ → List ℕ
heading_text from digest = codes "from " ++ row_text from ++ problem_part digest ++ codes "\n"

-- the texts of these members, numbered from 1
abbrev pub members_text : Named → List (List Choice) → List ℕ
members_text a ms = flat_map (member_text a) (enumerate_from 1 ms)

-- the listing of these members: its heading, and their texts
abbrev pub listing_text : Named → List ℕ → List (List Choice) → List ℕ
listing_text a from ms = heading_text from (digest_of a) ++ members_text a ms

-- a text, and to the end of its last line the digest of all its bytes
abbrev pub closed_text : List ℕ → List ℕ
closed_text front = front ++ codes " text " ++ text_digest front ++ codes "\n"

-- the text of the span between two rows: its listing, if it is listed, and its record, with the digest of both
abbrev pub span_text : Named → Bool → List ℕ → List ℕ → Option (List ℕ) → ℕ → List ℕ
span_text a listed from until branches steps = let found = between a.puzzle from (end_at until) in
    closed_text ((if listed then listing_text a from found else [])
    ++ record_front from until branches (length found) steps (digest_of a))
