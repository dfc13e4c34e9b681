use Rattle.std.proofs.Common.{rules, refl}
use Rattle.zerotrie.specs.Auto.{auto_kind}
use Rattle.zerotrie.specs.Items.{pairs_of}
use Rattle.zerotrie.specs.Kind.{simple_ascii, ignore_case, perfect_hash, extended_capacity}
use Rattle.zerotrie.specs.Flavors.{flavor_kind}
use Rattle.zerotrie.proofs.Builds.{build_of_copies, auto_build_of_copies}
use Rattle.zerotrie_session.specs.declared.trie.ChosenTrie.TheVariants.{Ignore, Auto}
use Rattle.zerotrie_session.proofs.SessionLemmas.{build_within}
use Rattle.zerotrie_session.proofs.trie.ChosenTrie.build.Goals as goal

pub returns-in-Named-Simple-clause-build : goal.returns-in-Named-Simple-clause-build
returns-in-Named-Simple-clause-build c =
    let build = build_of_copies (λ k. k.now) simple_ascii (λ t. t.store.items) c.try_from_iter.result c.args.pairs.now
    c.iter.result c.copied-pairs.result c.iter.ensures.rest c.iter.ensures.runs c.copied-pairs.ensures.runs c.try_from_iter.ensures in
    search (rules, build)

pub returns-in-Named-Ignore-clause-build : goal.returns-in-Named-Ignore-clause-build
returns-in-Named-Ignore-clause-build c =
    let build = build_of_copies (λ k. k.now) ignore_case (λ t. t.store.items) c.try_from_iter-in-Named-Ignore.result c.args.pairs.now
    c.iter.result c.copied-pairs.result c.iter.ensures.rest c.iter.ensures.runs c.copied-pairs.ensures.runs c.try_from_iter-in-Named-Ignore.ensures in
    search (rules, build_within ignore_case Ignore (λ t. t.store.items) (pairs_of c.args.pairs.now) c.try_from_iter-in-Named-Ignore.result c.map-in-Named-Ignore.result (λ t. refl) c.map-in-Named-Ignore.ensures.cases build)

pub returns-in-Named-Hash-clause-build : goal.returns-in-Named-Hash-clause-build
returns-in-Named-Hash-clause-build c =
    let build = build_of_copies (λ k. k.now) perfect_hash (λ t. t.store.items) c.try_from_iter-in-Named-Hash.result c.args.pairs.now
    c.iter.result c.copied-pairs.result c.iter.ensures.rest c.iter.ensures.runs c.copied-pairs.ensures.runs c.try_from_iter-in-Named-Hash.ensures in
    search (rules, build)

pub returns-in-Named-Ext-clause-build : goal.returns-in-Named-Ext-clause-build
returns-in-Named-Ext-clause-build c =
    let build = build_of_copies (λ k. k.now) extended_capacity (λ t. t.store.items) c.try_from_iter-in-Named-Ext.result c.args.pairs.now
    c.iter.result c.copied-pairs.result c.iter.ensures.rest c.iter.ensures.runs c.copied-pairs.ensures.runs c.try_from_iter-in-Named-Ext.ensures in
    search (rules, build)

pub returns-in-Auto-clause-kind : goal.returns-in-Auto-clause-kind
returns-in-Auto-clause-kind c =
    let build = auto_build_of_copies (λ k. k.now) (λ t. flavor_kind t.flavor) (λ t. t.store.items) c.try_from_iter-in-Auto.result c.args.pairs.now
    c.iter.result c.copied-pairs.result c.iter.ensures.rest c.iter.ensures.runs c.copied-pairs.ensures.runs c.try_from_iter-in-Auto.ensures in
    search (rules, build.0)

pub returns-in-Auto-clause-build : goal.returns-in-Auto-clause-build
returns-in-Auto-clause-build c =
    let build = auto_build_of_copies (λ k. k.now) (λ t. flavor_kind t.flavor) (λ t. t.store.items) c.try_from_iter-in-Auto.result c.args.pairs.now
    c.iter.result c.copied-pairs.result c.iter.ensures.rest c.iter.ensures.runs c.copied-pairs.ensures.runs c.try_from_iter-in-Auto.ensures in
    rw c.in-Auto.is (build_within (auto_kind (pairs_of c.args.pairs.now)) Auto (λ t. t.store.items) (pairs_of c.args.pairs.now) c.try_from_iter-in-Auto.result c.map-in-Auto.result (λ t. refl) c.map-in-Auto.ensures.cases build.1)
