-- The options that moves leave.
-- No public contract rests on this file.
use Rattle.std.specs.Prelude.{not, List, [], ◌∷◌, filter, take, if◌then◌else◌}
use Rattle.xc_moves.specs.declared.dance.Move.{Move}
use Rattle.xc_moves.specs.declared.dance.Move.TheVariants.{Cover, Purify, Tweak, Spend}
use Rattle.xc_input.specs.Problem.{Puzzle, Numbered, numbered_options, holds, colour_at, holding}
use Rattle.xc_moves.specs.Moves.{is_open, without, agrees}

-- The options that are left: those that hold no covered item, agree with the purified ones, and weren't tweaked off an
-- open item.
abbrev pub left : Puzzle → List Move → List Numbered
left p [] = numbered_options p
left p (Cover j ∷ t) = filter (λ o. not (holds o j)) (left p t)
left p (Purify j c ∷ t) = filter (λ o. agrees c (colour_at o j)) (left p t)
left p (Tweak j ∷ t) = if is_open j t then without (take 1 (holding j (left p t))) (left p t) else left p t
left p (Spend j ∷ t) = left p t
