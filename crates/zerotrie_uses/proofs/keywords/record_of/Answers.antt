use Rattle.std.proofs.Common.{◌<◌, length, refl, subst}
use Rattle.zerotrie.proofs.Found.{array_answered, exactly}
use Rattle.zerotrie_uses.proofs.keywords.record_of.Goals as goal

pub bounds-records-index : goal.bounds-records-index
bounds-records-index c =
    let has = (exactly (array_answered c.in_ok-trie.ensures.0 c.in-Some.ensures) tt).exactly in
    subst (λ e. e.1 < length c.args.records.now) has.2 (c.requires has.0 _ has.1)

pub returns-in-Some-clause-present : goal.returns-in-Some-clause-present
returns-in-Some-clause-present c index has = let is = (exactly (array_answered c.in_ok-trie.ensures.0 c.in-Some.ensures) tt).present index has in cc

pub returns-in-Some-clause-exact : goal.returns-in-Some-clause-exact
returns-in-Some-clause-exact c = (c.in-Some.index, (exactly (array_answered c.in_ok-trie.ensures.0 c.in-Some.ensures) tt).exactly, refl)

pub returns-in-None-clause-present : goal.returns-in-None-clause-present
returns-in-None-clause-present c index has = let is = (exactly (array_answered c.in_ok-trie.ensures.0 c.in-None.ensures) tt).present index has in cc

pub returns-in-None-clause-exact : goal.returns-in-None-clause-exact
returns-in-None-clause-exact c = (exactly (array_answered c.in_ok-trie.ensures.0 c.in-None.ensures) tt).exactly
