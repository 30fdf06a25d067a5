use Rattle.std.proofs.Common.{◌≡◌, ◌∙◌, ℕ, ◌<◌, List, get_or, length, map, ap, sym, arith}
use Rattle.std.specs.Prelude.{Contains}
use Rattle.std.proofs.lemmas.Bool.Decides.{nat_tests}
use Rattle.std.proofs.lemmas.List.{get_or-map, length-map}
use Rattle.xc_streams.proofs.shown_names.source_at.Goals as goal

contains-map : {X Y : Type 0} (f : X → Y) (xs : List X) (k : ℕ) (x : X) (y : Y) → k < length xs → x ≡ get_or xs k x
    → y ≡ f x → Contains (map f xs) y
contains-map f xs k x y below at is =
    (k, omega (arith, length-map xs f), get_or-map f xs k x y below ∙ ap f (sym at) ∙ sym is)

pub returns-clause-named : goal.returns-clause-named
returns-clause-named c =
    let below : c.min.result < length c.args.files.now = grind (arith, nat_tests) in
    contains-map _ _ c.min.result _ _ below c.index-files-min.is c.as_slice.ensures.value
