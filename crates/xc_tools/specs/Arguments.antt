-- What the words of the programs ask for: those of the judge, of a join and of a span. (Words of a solver are read by
-- `read_words` of xc_list.)
-- Public contracts rest on this file: readers must believe it.
use Rattle.std.specs.Prelude.{ℕ, List, [], ◌∷◌, Option, None, Some, Bool, true, false, ◌&&◌, is_some, codes}
use Rattle.std.specs.Prelude.{option_map, option_and_then, if◌then◌else◌}
use Rattle.std.specs.Str.{bytes_eq}
use Rattle.xc_input.specs.declared.kind.Kind.{Kind}
use Rattle.xc_input.specs.declared.kind.Kind.TheVariants.{Plain, Colours, Bounds}
use Rattle.xc_list.specs.SpanWords.{AskedSpan, read_span_words, take_memory}

-- the kind of problem that a number stands for
abbrev pub numbered_kind : List ℕ → Option Kind
numbered_kind word =
    if bytes_eq word (codes "1") then Some Plain
    else if bytes_eq word (codes "2") then Some Colours
    else if bytes_eq word (codes "3") then Some Bounds else None

-- the kind that the words mean: those of a problem's file and perhaps a number
abbrev pub asked_kind : List (List ℕ) → Option Kind
asked_kind (file ∷ []) = Some Bounds
asked_kind (file ∷ number ∷ []) = numbered_kind number
asked_kind _ = None

-- whether texts are listings, by the first word
abbrev pub asked_join : List (List ℕ) → Option Bool
asked_join [] = None
asked_join (word ∷ files) =
    if bytes_eq word (codes "m0") then Some false else if bytes_eq word (codes "m1") then Some true else None

-- the kind of problem and the span that five words mean
abbrev pub asked_span : List (List ℕ) → Option (Kind × AskedSpan)
asked_span [] = None
asked_span (kind ∷ words) =
    option_and_then (λ k. option_map (λ asked. (k, asked)) (read_span_words words)) (numbered_kind kind)

-- whether reading five words takes memory: of other words it is known without
abbrev pub take_memory_of : List (List ℕ) → Bool
take_memory_of [] = false
take_memory_of (kind ∷ words) = is_some (numbered_kind kind) && take_memory words
