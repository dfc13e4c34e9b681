use Rattle.std.proofs.Common.{subst}
use Rattle.zerotrie_core.specs.Places.{ListsAt, IsStep}
use Rattle.zerotrie_core.proofs.CursorLemmas.Calls.{before_text}
use Rattle.zerotrie_core.proofs.ReaderLemmas.Starts.{led_to}
use Rattle.zerotrie_core.proofs.look_ups.target_of.Goals as goal

pub returns : goal.returns
returns g c =
    let kind = g.K.ZeroTrieWithOptions.kind in
    let step : IsStep kind (ListsAt kind (before_text c.args.bytes.now)) c.args.byte c.step.result (ListsAt kind c.step.new.self) =
    subst (λ p. IsStep kind (ListsAt kind p) c.args.byte c.step.result (ListsAt kind c.step.new.self)) c.new-cursor.ensures c.step.ensures.meaning in
    led_to kind c.args.bytes.now c.args.byte c.step.result c.step.new.self c.rest.result c.steps_look_ahead.ensures.pairs step c.rest.ensures.lists
