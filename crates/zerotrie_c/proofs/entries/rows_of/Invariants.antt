use Rattle.std.proofs.Common.{◌≡◌, ◌≤◌, drop}
use Rattle.zerotrie.specs.dense.Views.{rows_in}
use Rattle.zerotrie_c.specs.Entries.{entries_of, rows_of}
use Rattle.zerotrie_c.specs.Keys.{keys_from}
use Rattle.zerotrie_c.proofs.entries.rows_of.Given as goal

abbrev pub invariant-loop-number : goal.invariant-loop-number
invariant-loop-number l = (rows_in l.rows.entries ≡ rows_of (drop l.number (entries_of
    (keys_from 0 l.prefixes.bytes.now l.prefixes.ends.now) (keys_from 0 l.suffixes.bytes.now l.suffixes.ends.now) l.values))) × (l.number ≤ l.count)
