-- The text of a problem's clauses in the format DIMACS CNF.
-- Public contracts rest on this file: readers must believe it.
use Rattle.std.specs.Prelude.{ℕ, ◌-◌, ◌/◌, ◌%◌, ◌==◌, ◌++◌, List, [], length, flat_map, unwrap_or, nat_le}
use Rattle.std.specs.Prelude.{if◌then◌else◌, decimal, codes, Vec}
use Rattle.std.specs.List.{enumerate_from}
use Rattle.std.specs.declared.alloc.Global.{Global}
use Rattle.xc_input.specs.Problem.{numbered_get, option_count}
use Rattle.xc_input.specs.Named.{Named}
use Rattle.xc_none.specs.declared.meaning.Meaning.{Meaning}
use Rattle.xc_none.specs.declared.meaning.Meaning.TheVariants.{Chosen, AtLeast, UpTo}

-- the name of an item or of a colour of this number; nothing where there is none
abbrev pub name_at : List (List ℕ) → ℕ → List ℕ
name_at names n = unwrap_or (numbered_get names n) []

-- up to which option without a colour, or up to which colour, a place reaches
abbrev pub place_text : Named → ℕ → List ℕ
place_text a r = (if nat_le r (option_count a.puzzle) then codes " without a colour up to " ++ decimal r
    else codes " without a colour or with one up to " ++ name_at a.colours (r - option_count a.puzzle))

-- what a variable means, in words
abbrev pub meaning_text : Named → Meaning → List ℕ
meaning_text a (Chosen o) = codes "option " ++ decimal o ++ codes " is chosen"
meaning_text a (AtLeast i o j) = codes "of the options up to " ++ decimal o ++ codes " with " ++ name_at a.names i
    ++ codes " at least " ++ decimal j
meaning_text a (UpTo i r) = codes "one of the options with " ++ name_at a.names i ++ place_text a r

-- the comment on variable n
abbrev pub comment_text : Named → ℕ → Meaning → List ℕ
comment_text a n m = codes "c " ++ decimal n ++ codes " " ++ meaning_text a m ++ codes "\n"

-- a literal by the number of its variable, with a minus where it says that something is not so
abbrev pub literal_text : ℕ → List ℕ
literal_text l = (if l % 2 == 0 then codes "" else codes "-") ++ decimal (l / 2) ++ codes " "

-- the line of a clause
abbrev pub clause_text : List ℕ → List ℕ
clause_text literals = flat_map literal_text literals ++ codes "0\n"

-- the comments, the line with so many variables and clauses, and the clauses
abbrev pub cnf_parts : Named → List Meaning → List (Vec ℕ Global) → ℕ → ℕ → List ℕ
cnf_parts a meanings clauses variables many = flat_map (λ nm. comment_text a nm.0 nm.1) (enumerate_from 1 meanings)
    ++ (codes "p cnf " ++ decimal variables ++ codes " " ++ decimal many ++ codes "\n")
    ++ flat_map (λ c. clause_text c.items) clauses

-- the whole text
abbrev pub cnf_text : Named → List Meaning → List (Vec ℕ Global) → List ℕ
cnf_text a meanings clauses = cnf_parts a meanings clauses (length meanings) (length clauses)
