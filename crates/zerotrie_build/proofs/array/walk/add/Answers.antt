use Rattle.std.proofs.Common.{◌≡◌, ◌-◌, suc, arith, drop, rules}
use Rattle.std.proofs.lemmas.Result.{on_ok_weaker, IfErr-weaker}
use Rattle.zerotrie_build.specs.Items.{pairs}
use Rattle.zerotrie_build.proofs.ArrayLemmas.Adding.{stands_at, built_at_start, built_before, rising_at, ascii_at, stuck_at_start, stuck_before_last}
use Rattle.zerotrie_build.proofs.array.walk.add.Goals as goal

pub returns-then-index-eq0-clause-built : goal.returns-then-index-eq0-clause-built
returns-then-index-eq0-clause-built g c =
    let all = pairs c.args.items in
    let i = c.args.index in
    let s = stands_at g.K.ZeroTrieWithOptions.kind g.row.STACK all i c.get-value.result.0.now c.get-value.result.1 c.args.text.now c.put_value.new.self c.args.siblings.now.items c.get-value.ensures c.put_value.ensures.spells c.put_value.ensures.puts c.requires.built in
    on_ok_weaker c.close_to.result (λ closed. built_at_start g.K.ZeroTrieWithOptions.kind g.row.STACK all i c.get-value.result.0.now c.close_to.new.text c.close_to.new.siblings.items c.if-index-eq0.true (closed (drop i all) s)) c.close_to.ensures.closed

pub returns-then-index-eq0-clause-refused : goal.returns-then-index-eq0-clause-refused
returns-then-index-eq0-clause-refused g c =
    let all = pairs c.args.items in
    let i = c.args.index in
    let s = stands_at g.K.ZeroTrieWithOptions.kind g.row.STACK all i c.get-value.result.0.now c.get-value.result.1 c.args.text.now c.put_value.new.self c.args.siblings.now.items c.get-value.ensures c.put_value.ensures.spells c.put_value.ensures.puts c.requires.built in
    IfErr-weaker c.close_to.result _ _ (λ e refused. stuck_at_start g.K.ZeroTrieWithOptions.kind g.row.STACK all i c.get-value.result.0.now e c.if-index-eq0.true (refused (drop i all) s)) c.close_to.ensures.refused

pub go_before-requires : goal.go_before-requires
go_before-requires g c =
    let all = pairs c.args.items in
    let n = c.if-index-eq0.false in
    let next : suc (c.args.index - 1) ≡ c.args.index = omega arith in
    let sorted = rising_at g.K.ZeroTrieWithOptions.kind all (c.args.index - 1) c.args.index _ _ next c.get.ensures c.get-value.ensures c.requires.sorted in
    (search rules, (c.requires.kind, (sorted, ascii_at all c.args.index _ c.get-value.ensures c.requires.ascii)))

pub returns-clause-built : goal.returns-clause-built
returns-clause-built g c =
    let all = pairs c.args.items in
    let i = c.args.index in
    let n = c.if-index-eq0.false in
    let next : suc (i - 1) ≡ i = omega arith in
    let s = stands_at g.K.ZeroTrieWithOptions.kind g.row.STACK all i c.get-value.result.0.now c.get-value.result.1 c.args.text.now c.put_value.new.self c.args.siblings.now.items c.get-value.ensures c.put_value.ensures.spells c.put_value.ensures.puts c.requires.built in
    on_ok_weaker c.go_before.result (λ waits. built_before g.K.ZeroTrieWithOptions.kind g.row.STACK all (i - 1) i c.get.result.0.now c.get.result.1 c.go_before.new.text c.go_before.new.siblings.items next c.get.ensures (waits (drop i all) s)) c.go_before.ensures.waits

pub returns-clause-refused : goal.returns-clause-refused
returns-clause-refused g c =
    let all = pairs c.args.items in
    let i = c.args.index in
    let n = c.if-index-eq0.false in
    let next : suc (i - 1) ≡ i = omega arith in
    let s = stands_at g.K.ZeroTrieWithOptions.kind g.row.STACK all i c.get-value.result.0.now c.get-value.result.1 c.args.text.now c.put_value.new.self c.args.siblings.now.items c.get-value.ensures c.put_value.ensures.spells c.put_value.ensures.puts c.requires.built in
    IfErr-weaker c.go_before.result _ _ (λ e refused. stuck_before_last g.K.ZeroTrieWithOptions.kind g.row.STACK all (i - 1) i c.get.result.0.now c.get.result.1 e next c.get.ensures c.requires.sorted (refused (drop i all) s)) c.go_before.ensures.refused
