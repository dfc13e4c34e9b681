use Rattle.std.proofs.Common.{◌≡◌, ◌∙◌, [], Some, sym, subst}
use Rattle.zerotrie_base.specs.Maps.{residual}
use Rattle.zerotrie_base.specs.Texts.{Lists}
use Rattle.zerotrie_search.proofs.OrderLemmas.{not_stored, some_none}
use Rattle.zerotrie_search.proofs.sorted.fork.target_of.Goals as goal

pub returns-in_err-edge-clause-target : goal.returns-in_err-edge-clause-target
returns-in_err-edge-clause-target g c bytes pairs text begins =
    let stops = c.in_err-edge.ensures.none bytes pairs text begins in
    rw c.from_residual.ensures
    (not_stored c.steps_answer_stored_bytes.ensures g.K.ZeroTrieWithOptions.kind (record { run = []; trie = bytes }) pairs text c.args.byte (λ e. some_none c.args.byte (sym e ∙ stops.edge)))

pub returns-then-edge-byte-clause-target : goal.returns-then-edge-byte-clause-target
returns-then-edge-byte-clause-target g c bytes pairs text begins =
    let goes = c.in_ok-edge.ensures.some bytes pairs text begins in
    let target = c.in_ok-edge.target.now in
    subst (λ b. Lists g.K.ZeroTrieWithOptions.kind target (residual b pairs)) c.if-edge-byte.true (subst (Lists g.K.ZeroTrieWithOptions.kind target) goes.is goes.inner)

pub returns-else-edge-byte-clause-target : goal.returns-else-edge-byte-clause-target
returns-else-edge-byte-clause-target g c bytes pairs text begins =
    let goes = c.in_ok-edge.ensures.some bytes pairs text begins in
    not_stored c.steps_answer_stored_bytes.ensures g.K.ZeroTrieWithOptions.kind (record { run = []; trie = bytes }) pairs text c.args.byte
    (λ e. let q : Some c.in_ok-edge.edge ≡ Some c.args.byte = sym goes.edge ∙ e in c.if-edge-byte.false (let s : c.in_ok-edge.edge ≡ c.args.byte = cc in s))
