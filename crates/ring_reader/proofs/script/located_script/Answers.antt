use Rattle.std.proofs.Common.{subst}
use Rattle.script_tokens.specs.PlaceView.{place_of}
use Rattle.expression_reader.specs.Gives.{Fails}
use Rattle.ring_reader.specs.Parts.{script_parts}
use Rattle.ring_reader.proofs.Asked.{asked_from, refused_at}
use Rattle.ring_reader.proofs.script.located_script.Goals as goal

pub returns-in-Ok-clause-exact : goal.returns-in-Ok-clause-exact
returns-in-Ok-clause-exact c = asked_from c.args.bytes.now (place_of c.next_token.result) _ c.next_token.ensures.next c.in-Ok.ensures.gives

pub returns-in-Err-Refused-clause-exact : goal.returns-in-Err-Refused-clause-exact
returns-in-Err-Refused-clause-exact c =
    refused_at c.args.bytes.now c.in-Err-Refused.refusal c.saturating_sub-at.result _ _
    (asked_from c.args.bytes.now (place_of c.next_token.result) _ c.next_token.ensures.next (subst (λ e. Fails e (script_parts (place_of c.next_token.result))) c.in-Err-Refused.field-0-is c.in-Err-Refused.ensures.gives)) c.saturating_sub-at.ensures c.position-line.ensures
