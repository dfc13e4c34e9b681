use Rattle.zerotrie_session.proofs.SessionLemmas.{one_more}
use Rattle.zerotrie_session.proofs.answer.Session.add.Goals as goal

pub returns : goal.returns
returns c = λ s h. record {
  choice = h.choice;
  of = h.of;
  pairs = rw c.in_ok-push.ensures.items (one_more c.args.self.now.pairs.items s.pairs c.args.key c.args.value h.pairs);
  kind = h.kind;
  text = h.text;
  means = h.means;
}
