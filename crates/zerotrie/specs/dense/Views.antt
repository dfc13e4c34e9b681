-- The parts that a table shows, and the rows of a map of maps.
use Rattle.std.specs.Prelude.{ℕ, List, map}
use Rattle.std.specs.Borrow.{Bor}
use Rattle.std.specs.BTreeMap.{BTreeMap}
use Rattle.zerotrie_core.specs.Maps.{Pairs}
use Rattle.zerotrie.specs.dense.Rows.{Rows}
use Rattle.zerotrie.specs.dense.Layout.{LaidRow}
use Rattle.zerotrie.specs.dense.Records.{Parts}
use Rattle.zerotrie.specs.declared.dense.rows.Row.{Row}
use Rattle.zerotrie.specs.declared.dense.table.ZeroAsciiDenseSparse2dTrieBorrowed.{ZeroAsciiDenseSparse2dTrieBorrowed}
use Rattle.zerotrie.specs.declared.dense.table.ZeroAsciiDenseSparse2dTrieOwned.{ZeroAsciiDenseSparse2dTrieOwned}

-- the parts of a table over bytes that lie elsewhere
abbrev pub parts_of : ZeroAsciiDenseSparse2dTrieBorrowed → Parts
parts_of t = record {
  suffix_count = t.suffix_count;
  delimiter = t.delimiter;
  primary = t.primary.store.now;
  suffixes = t.suffixes.store.now;
  matrix = t.matrix.now;
}

-- the parts of a table in memory of its own
abbrev pub owned_parts : ZeroAsciiDenseSparse2dTrieOwned → Parts
owned_parts t = record {
  suffix_count = t.suffix_count;
  delimiter = t.delimiter;
  primary = t.primary.store.items;
  suffixes = t.suffixes.store.items;
  matrix = t.matrix.items;
}

-- the pairs of a map with text keys
abbrev pub pairs_in : List (Bor (List ℕ) × ℕ) → Pairs
pairs_in es = map {B = List ℕ × ℕ} (λ e. (e.0.now, e.1)) es

-- the rows of a map of maps, of its entries
abbrev pub rows_in : List (Bor (List ℕ) × BTreeMap (Bor (List ℕ)) ℕ) → Rows
rows_in es = map {B = List ℕ × Pairs} (λ e. (e.0.now, pairs_in e.1.entries)) es

-- how a row in hand is kept
abbrev pub row_shown : Row → LaidRow
row_shown r = record { prefix = r.prefix.now; pairs = pairs_in r.entries.now.entries; offset = r.offset; dense = r.is_dense }
