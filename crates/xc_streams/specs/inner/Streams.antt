-- What is said of the system's answers.
-- No public contract rests on this file.
use Rattle.std.specs.Prelude.{ℕ, nat_eq, if◌then◌else◌}
use Rattle.xc_streams.specs.declared.system.Answer.{Answer}
use Rattle.xc_streams.specs.declared.system.Answer.TheVariants.{Whole, Part, Failed}

-- what a write came to by which so many of so many bytes were taken
abbrev pub taken_answer : ℕ → ℕ → Answer
taken_answer taken given = if nat_eq taken given then Whole else if nat_eq taken 0 then Failed else Part
