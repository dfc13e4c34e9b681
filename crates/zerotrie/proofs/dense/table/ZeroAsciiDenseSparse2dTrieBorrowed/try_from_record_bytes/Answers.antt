use Rattle.std.proofs.Common.{◌≡◌, ◌*◌, ◌/◌, length, arith, sym, ap, ◌∙◌}
use Rattle.zerotrie.proofs.RecordLemmas.{read_back, parts_join, asks_it, record_is_one}
use Rattle.zerotrie.proofs.dense.table.ZeroAsciiDenseSparse2dTrieBorrowed.try_from_record_bytes.Goals as goal

pub returns-clause-read : goal.returns-clause-read
returns-clause-read c =
    let p = c.from_bytes.result.store.now in
    let below = c.split_at-2.result.1.now in
    let s = c.from_bytes-2.result.store.now in
    let m = c.split_at-3.result.1.now in
    let cells : length m / 2 ≡ c.number_in-cells.result = omega (arith, c.split_at.ensures.back_len, c.split_at-2.ensures.back_len, c.split_at-3.ensures.back_len) in
    read_back c.args.bytes.now p s m c.from_le_bytes-suffix_count.result
    (λ i. omega (arith, c.type_inv.bytes i)) (omega arith) c.from_le_bytes-suffix_count.ensures
    (ap length c.from_bytes.ensures ∙ c.split_at-2.ensures.front_len ∙ c.number_in-primary_len.ensures)
    (ap length c.from_bytes-2.ensures ∙ c.split_at-3.ensures.front_len ∙ c.number_in-suffixes_len.ensures)
    (cells ∙ c.number_in-cells.ensures)
    (parts_join c.split_at.result.1.now p below s m c.number_in-primary_len.result c.number_in-suffixes_len.result
    (c.from_bytes.ensures ∙ c.split_at-2.ensures.front) c.split_at-2.ensures.back (c.from_bytes-2.ensures ∙ c.split_at-3.ensures.front) c.split_at-3.ensures.back ∙ c.split_at.ensures.back)

pub returns-clause-written : goal.returns-clause-written
returns-clause-written c parts w e =
    let p = ap length c.from_bytes.ensures in
    let s = ap length c.from_bytes-2.ensures in
    record_is_one _ parts (record {
      count = omega (arith, c.from_le_bytes-suffix_count.type_inv);
      delimiter = omega (arith, c.type_inv.bytes 2);
      primary = omega (arith, p, c.split_at-2.ensures.front_len);
      suffixes = omega (arith, s, c.split_at-3.ensures.front_len);
      half = c.number_in-cells.result;
      even = omega (arith, c.split_at.ensures.back_len, c.split_at-2.ensures.back_len, c.split_at-3.ensures.back_len);
      matrix = omega arith;
    }) w (sym (returns-clause-read c) ∙ e)

pub returns-then-given-asked-clause-written : goal.returns-then-given-asked-clause-written
returns-then-given-asked-clause-written c parts w e = let a = asks_it c.args.bytes.now parts w e in absurd (omega (arith, c.number_in-primary_len.ensures, c.number_in-suffixes_len.ensures, c.number_in-cells.ensures))

pub returns-then-asked-given-clause-written : goal.returns-then-asked-given-clause-written
returns-then-asked-given-clause-written c parts w e = let a = asks_it c.args.bytes.now parts w e in absurd (omega (arith, c.number_in-primary_len.ensures, c.number_in-suffixes_len.ensures, c.number_in-cells.ensures))
