-- `of` makes a value of no bytes, whose ghost field is the value that the caller's proof picks.
use Rattle.std.proofs.Common.{[], ◌∷◌, refl}
use Rattle.std.proofs.raw_atomic.Walks.{proved}
use base.Fml.{Fml}
use mir.MapTy.{inst_fn}
use mir.Syntax.{a_type, named}
use mir.Val.{Val, vstruct, vcons, vnil}
use types.Kit.{‵, raw, ◌⊛◌, ◌$◌, ◌∵◌, !, qed, keep, move, split, join, fjoin, suffices, use0, done}
use types.Run.{enter, no_more, and_then, returns}
use types.ByLocal.{alloc_all, pass_all, free_all, look_at, get, sets}
use types.Part.{agg}
use denote.Builtin.{RefOf}
use denote.Exit.{yes}
use denote.Param.{param, layouts}
use denote.RattleType.{owns}
use denote.Ref.{shr_vals, shr_Tells}
use denote.Shadow.{makes_shadow}
use denote.Signature.{type_at, types_at, plain}
use denote.Steps.{nothing}
use denote.Triple.Entry.{Res, alive}
use denote.Triple.Walked.{Stays, stay_dropped, Goes-dropped, walk_of, says, ends_at}
use Rattle.xc_text.specs.contracts.noted.Noted.of as f
use Rattle.xc_text.proofs.noted.Noted.of.Statement.{statement}
use Rattle.xc_text.proofs.noted.Noted.of.Code as code

pub of_spec : {M : Type 1} → statement M
of_spec 𝓤 𝓛 𝓜 𝓡 wired T X _ _ =
    let E = f.ended T X in let c = f.clauses T X 𝓛 𝓜.mem 𝓡.returns in
    let from = RefOf (0 ∷ []) tt (plain (λ _. param 1 X)) (λ _. tt) in
    let inst = layouts (a_type ∷ a_type ∷ []) (T, (X, tt)) in
    let stayed : Stays E.signature.params E.kept = (stay_dropped from yes, tt) in let W = walk_of 𝓛 E stayed c in
    proved 𝓛 E stayed c 𝓜 𝓡 (Goes-dropped 𝓛 3 from yes (λ κs x w. refl), tt)
    (f.Key.name inst) (inst_fn inst code.function) (code.unfolded 𝓤 𝓛.H 𝓜 𝓡 wired (T, (X, tt))) (λ κs. (shr_vals, tt))
    (λ κs. (shr_Tells (named 0) κs.0 (param 1 X), tt)) (λ κs qs bounds a picked are.
    let y : W.Ghost = ((κs, qs, bounds, a, (shr_vals a.0, tt)), picked) in
    let v : Val = vstruct (vcons (vstruct vnil) vnil) in
    let r : Res E.signature κs = record { marker = record {}; value = picked } in
    let O : Fml = (type_at E.signature.result κs).own_val r (v ∷ []) in
    qed 𝓛 ((raw (alive 𝓛 E.signature κs qs) ⊛ ‵ (owns (types_at E.signature.params κs) a y.0.4)) ∷
    raw ((c κs a).requires picked) ∷ []) ∵ split ! $ keep ! (0 ∷ []) $ enter ! _ _ _ _ _ $ alloc_all !
    (λ l. pass_all ! refl ((tt, tt), tt) $ sets ! (agg ! (no_more !)) refl (tt, tt) $
    sets ! (agg ! (and_then ! (get ! refl) (no_more !))) refl (tt, (tt, tt)) $
    returns ! (look_at ! 0 refl) $ free_all ! refl $
    use0 𝓛 (‵ O) (makes_shadow 𝓛 O ((λ vss. (tt, ((λ uss. (tt, tt)), tt))), tt)
    (((vstruct vnil ∷ [], tt), (refl, ((tt, (refl, tt)), tt))), tt)) $
    suffices ! _ (ends_at 𝓛 E stayed c y v r (tt, tt) (tt, tt)) $ says ! refl $ nothing ! $ nothing ! $ fjoin ! $
    join ! $ move ! (1 ∷ 0 ∷ []) $ join ! $ done !))
