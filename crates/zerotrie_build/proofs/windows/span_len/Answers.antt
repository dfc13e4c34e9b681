use Rattle.std.proofs.Common.{◌-◌, ◌<◌, ◌^◌, length, take, drop, length-drop, ap, arith, rules}
use Rattle.std.proofs.lemmas.List.{take_all}
use Rattle.zerotrie_build.proofs.WindowLemmas.Steps.{high_most, key_within}
use Rattle.zerotrie_build.proofs.windows.span_len.Goals as goal

pub returns-then-window-eq1-clause-room : goal.returns-then-window-eq1-clause-room
returns-then-window-eq1-clause-room g c =
    let key = c.get.result.0.now in
    let d = c.args.window.depth in
    let most = high_most (take (length key - d) (drop d key)) (take (length key - d) (drop d key)) in
    let long = length-drop d key in
    let all = ap length (take_all (length key - d) (drop d key) (omega arith)) in
    let within = key_within (g.I.IndexedItems.pairs c.args.items) c.args.window.from d c.args.byte (key, c.get.result.1) c.get.ensures c.requires.first in
    let fits : length key < 2 ^ 64 = search rules in
    let e = c.high_front_len.ensures in
    omega arith

pub returns-clause-room : goal.returns-clause-room
returns-clause-room g c =
    let key = c.get.result.0.now in
    let last = c.get-2.result.0.now in
    let d = c.args.window.depth in
    let most = high_most (take (length key - d) (drop d key)) (take (length last - d) (drop d last)) in
    let long = length-drop d key in
    let all = ap length (take_all (length key - d) (drop d key) (omega arith)) in
    let within = key_within (g.I.IndexedItems.pairs c.args.items) c.args.window.from d c.args.byte (key, c.get.result.1) c.get.ensures c.requires.first in
    let fits : length key < 2 ^ 64 = search rules in
    let e = c.high_front_len-2.ensures in
    omega arith
