use Rattle.std.proofs.Common.{arith}
use Rattle.zerotrie_core.specs.cursor.Edges.{place_after}
use Rattle.zerotrie_core.proofs.CursorLemmas.Between.{lies_fits, moved}
use Rattle.zerotrie_core.proofs.cursor_place.CursorPlace.probe.Goals as goal

pub behind-requires : goal.behind-requires
behind-requires g c =
    let a = c.in-Some.along in
    let place = c.within-place in
    let lies = rw (c.parts.ensures.run, c.parts.ensures.trie) at c.in-Some.ensures.lies in
    let fits = lies_fits c.args.bytes.now place.result a.run.now a.trie.now a.after place.ensures.inside lies in
    omega arith

pub returns-clause-meaning : goal.returns-clause-meaning
returns-clause-meaning g c =
    let place = c.within-place in
    let lies = rw (c.parts.ensures.run, c.parts.ensures.trie) at c.in-Some.ensures.lies in
    let step = rw (c.parts.ensures.run, c.parts.ensures.trie) at c.in-Some.ensures.probe in
    rw (place.ensures.same, moved c.args.bytes.now c.behind.result (place_after c.in-Some.along) (c.behind.ensures c.args.bytes.now place.ensures.inside lies)) step

pub returns-clause-run : goal.returns-clause-run
returns-clause-run g c =
    let place = c.within-place in
    let lies = rw (c.parts.ensures.run, c.parts.ensures.trie) at c.in-Some.ensures.lies in
    let run = rw (c.parts.ensures.run, c.parts.ensures.trie) at c.in-Some.ensures.run in
    rw (place.ensures.same, moved c.args.bytes.now c.behind.result (place_after c.in-Some.along) (c.behind.ensures c.args.bytes.now place.ensures.inside lies)) run

pub returns-clause-inside : goal.returns-clause-inside
returns-clause-inside g c =
    let lies = rw (c.parts.ensures.run, c.parts.ensures.trie) at c.in-Some.ensures.lies in
    (c.behind.ensures c.args.bytes.now c.within-place.ensures.inside lies).0
