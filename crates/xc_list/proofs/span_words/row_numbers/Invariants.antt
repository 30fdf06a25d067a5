use Rattle.std.proofs.Common.{◌≡◌, ◌++◌, map, drop}
use Rattle.std.specs.Prelude.{option_map}
use Rattle.xc_list.specs.SpanWords.{row_numbers}
use Rattle.xc_list.proofs.span_words.row_numbers.Given as goal

-- the numbers so far stand before those of the texts that are left
abbrev pub invariant-loop-digits : goal.invariant-loop-digits
invariant-loop-digits l = record {
  all : row_numbers (map (λ w. w.now) l.texts)
      ≡ option_map (λ row. l.row.items ++ row) (row_numbers (map (λ w. w.now) (drop l.digits-index l.texts)));
}
