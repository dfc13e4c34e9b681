-- The first eight bytes are those of the length.
use Rattle.std.proofs.Common.{rules, ◌≡◌, ◌≤◌, ◌++◌, length, take, drop, sym, ap, ◌∙◌}
use Rattle.std.specs.Int.{w64, to_le_bytes, from_le_bytes}
use Rattle.std.proofs.lemmas.List.{take-append-drop, length-take-le}
use Rattle.std.proofs.lemmas.Nat.{le_bytes_8}
use Rattle.zerotrie_sealed.proofs.Headers.{bytes-take}
use Rattle.zerotrie_sealed.proofs.indexes.parts_of.Goals as goal

pub returns-clause-parts : goal.returns-clause-parts
returns-clause-parts c =
    let table = c.args.table.now in
    let n = c.in_ok-index_len.index_len in
    let front : c.in_ok-len.len.now ≡ take 8 table = c.in_ok-len.ensures.cases.0 in
    let behind : c.in_ok-len.sums.now ≡ drop 8 table = c.in_ok-len.ensures.cases.1 in
    let long : 8 ≤ length table = search rules in
    let same : n ≡ c.from_le_bytes.result = search rules in
    let value : n ≡ from_le_bytes w64 (take 8 table) = same ∙ c.from_le_bytes.ensures ∙ ap (from_le_bytes w64) front in
    let is : to_le_bytes w64 n ≡ take 8 table = le_bytes_8 (take 8 table) n (length-take-le 8 table long) (bytes-take 8 table (λ i. (c.type_inv.table i).fits)) value in
    sym (take-append-drop 8 table) ∙ ap (λ l. l ++ drop 8 table) (sym is) ∙ ap (λ l. to_le_bytes w64 n ++ l) (sym behind)
