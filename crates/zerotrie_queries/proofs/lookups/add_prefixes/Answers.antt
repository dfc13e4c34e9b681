use Rattle.std.proofs.Common.{rules, ◌≡◌, ◌++◌, true, false, subst}
use Rattle.std.specs.Prelude.{codes}
use Rattle.zerotrie_queries.proofs.FrontLemmas.{AddsAll, added_none, added_some}
use Rattle.zerotrie_queries.proofs.lookups.add_prefixes.Goals as goal

pub returns-in_ok-extend_from_slice : goal.returns-in_ok-extend_from_slice
returns-in_ok-extend_from_slice c =
    let trie = c.args.trie.now in
    let lines = c.add_fronts.new.lines.items in
    let fronts = c.common_prefixes-fronts.result in
    let found : c.in_ok-found.found ≡ false = search rules in
    let adds : AddsAll c.args.border c.args.asked.now c.args.text.now.items lines false fronts = subst (λ b. AddsAll c.args.border c.args.asked.now c.args.text.now.items lines b fronts) found c.in_ok-found.ensures in
    let is : c.extend_from_slice.new.self.items ≡ lines ++ codes "none\n" = search rules in
    rw found (added_none c.args.border trie.kind trie.bytes.now c.args.asked.now c.args.text.now.items lines c.extend_from_slice.new.self.items fronts c.common_prefixes-fronts.ensures adds is)

pub returns-else-not-found : goal.returns-else-not-found
returns-else-not-found c =
    let trie = c.args.trie.now in
    let lines = c.add_fronts.new.lines.items in
    let fronts = c.common_prefixes-fronts.result in
    let found : c.in_ok-found.found ≡ true = search rules in
    let adds : AddsAll c.args.border c.args.asked.now c.args.text.now.items lines true fronts = subst (λ b. AddsAll c.args.border c.args.asked.now c.args.text.now.items lines b fronts) found c.in_ok-found.ensures in
    rw found (added_some c.args.border trie.kind trie.bytes.now c.args.asked.now c.args.text.now.items lines fronts c.common_prefixes-fronts.ensures adds)
