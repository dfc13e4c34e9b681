use Rattle.std.proofs.Common.{◌∙◌, ap, arith, sym}
use Rattle.std.proofs.lemmas.List.{drop_more}
use Rattle.zerotrie_base.specs.Maps.{with_run}
use Rattle.zerotrie_core.proofs.ListingLemmas.Left.{run_run}
use Rattle.zerotrie_core.proofs.ListingLemmas.Passed.{place_below}
use Rattle.zerotrie_core.proofs.ListingLemmas.Prefixes.{starts, goes_on, stops, all_stepped}
use Rattle.zerotrie_core.proofs.stream.down_to.Goals as goal

pub loop-byte-init : goal.loop-byte-init
loop-byte-init g c = record {
  stepped = λ pairs lists. rw (c.new-front.ensures.items, c.new-cursor.ensures) (starts g.K.ZeroTrieWithOptions.kind c.args.bytes.now pairs c.args.prefix.now lists);
  shorter = rw c.new-cursor.ensures (omega arith);
}

pub loop-byte-preserved : goal.loop-byte-preserved
loop-byte-preserved g c =
    let kind = g.K.ZeroTrieWithOptions.kind in
    let prefix = c.args.prefix.now in
    let i = c.loop-byte.byte-index in
    record {
      stepped = λ pairs lists. (
          let s = c.loop-byte.invariant.stepped pairs lists in
          rw c.in_ok-push.ensures.items
          (goes_on kind pairs prefix c.loop-byte.front.items i c.loop-byte.cursor c.step.new.self c.in-Some.edge s (drop_more prefix i 0 (omega arith)) (c.in-Some.ensures.meaning s.pairs s.lists))
          );
      shorter = (let a = c.loop-byte.invariant.shorter in let b = c.in-Some.ensures.shorter in omega arith);
    }

pub returns-in_default-clause-behind : goal.returns-in_default-clause-behind
returns-in_default-clause-behind g c pairs lists =
    let kind = g.K.ZeroTrieWithOptions.kind in
    let prefix = c.args.prefix.now in
    let i = c.loop-byte.byte-index in
    let s = c.loop-byte.invariant.stepped pairs lists in
    sym (stops kind pairs prefix c.loop-byte.front.items i c.loop-byte.cursor s (drop_more prefix i 0 (omega arith)) (c.in_default.ensures.meaning s.pairs s.lists).0)

pub returns-clause-behind : goal.returns-clause-behind
returns-clause-behind g c pairs lists =
    let kind = g.K.ZeroTrieWithOptions.kind in
    let front = c.loop-byte.front.items in
    let place = c.loop-byte.cursor in
    let s = c.loop-byte.invariant.stepped pairs lists in
    let b = place_below kind place.run place.trie s.pairs s.lists in
    let all = all_stepped kind pairs c.args.prefix.now front c.loop-byte.byte-index place s (omega arith) in
    rw (c.in_ok-extend_from_slice.ensures.items, c.parts.ensures.run, c.parts.ensures.trie) (b.0, b.1, sym all ∙ ap (with_run front) b.2 ∙ run_run front place.run b.0)
