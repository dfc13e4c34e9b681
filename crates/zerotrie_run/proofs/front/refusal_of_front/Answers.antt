use Rattle.zerotrie_run.proofs.FrontLemmas.{settled_front}
use Rattle.zerotrie_run.proofs.front.refusal_of_front.Goals as goal

pub returns-then-is_settled : goal.returns-then-is_settled
returns-then-is_settled c =
    λ more. settled_front c.args.named c.args.takes_index c.args.front.now more c.in-Err.why c.requires (c.is_settled.ensures c.if-is_settled.true) c.in-Err.ensures.err
