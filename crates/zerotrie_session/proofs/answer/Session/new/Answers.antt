use Rattle.std.proofs.Common.{ap, refl}
use Rattle.zerotrie.specs.Items.{pairs_of}
use Rattle.zerotrie_session.proofs.SessionLemmas.{holds_none}
use Rattle.zerotrie_session.proofs.answer.Session.new.Goals as goal

pub returns : goal.returns
returns c = holds_none _ _ _ refl (ap pairs_of c.new.ensures.items) c.empty.ensures.choice c.empty.ensures.kind c.empty.ensures.bytes
