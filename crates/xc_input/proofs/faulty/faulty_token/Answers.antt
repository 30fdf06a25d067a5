use Rattle.std.proofs.Common.{ℕ, List, Option, IfOk, Bor, sym, ap, ◌∙◌, subst}
use Rattle.std.specs.Option.{option_map}
use Rattle.xc_input.specs.FaultyTokens.{IsFaultyToken, Tells}
use Rattle.xc_input.proofs.FaultLemmas.{ok-tells-same}
use Rattle.xc_input.proofs.faulty.faulty_token.Goals as goal

pub returns-in-Some-clause-faulty : goal.returns-in-Some-clause-faulty
returns-in-Some-clause-faulty c =
    let full = sym c.has_byte.ensures ∙ c.if-has_byte.false in
    let told = sym c.is_skipped_line.ensures ∙ c.if-is_skipped_line.false in
    subst (λ (o : Option (List ℕ)). IfOk c.faulty_use.result (Tells (IsFaultyToken c.args.kind o c.args.line.now)))
    (sym (ap (option_map (λ (bytes : Bor (List ℕ)). bytes.now)) c.in-Some.is))
    (ok-tells-same c.faulty_use.result (λ t p. (full, told, p)) (λ t q. q.2) c.faulty_use.ensures)
