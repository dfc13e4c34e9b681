use Rattle.std.proofs.Common.{◌≡◌, length, rules, sym}
use Rattle.zerotrie_c.specs.Listed.{IsGiven}
use Rattle.zerotrie_c.proofs.Moved.{moved}
use Rattle.zerotrie_c.proofs.listings.give.Goals as goal

pub returns : goal.returns
returns c pairs flat =
    let keys : c.len.result ≡ length c.args.listed.now.keys.items = search rules in
    let values : c.len-2.result ≡ length c.args.listed.now.values.items = search rules in
    moved (λ all_keys all_ends all_values. IsGiven all_keys all_ends all_values c.status_of_rooms.result c.args.keys.now c.put-whole_keys.new.room
    c.args.ends.now c.put-whole_ends.new.room c.args.values.now c.put-whole_values.new.room c.len.result c.len-2.result)
    flat.keys_are flat.ends_are (sym flat.values_are) (
      keys,
      values,
      c.put-whole_keys.result,
      c.put-whole_ends.result,
      c.put-whole_values.result,
      rw c.as_slice.ensures.value at c.put-whole_keys.ensures,
      rw c.as_slice-2.ensures.value at c.put-whole_ends.ensures,
      rw c.as_slice-3.ensures.value at c.put-whole_values.ensures,
      c.status_of_rooms.ensures,
    )
