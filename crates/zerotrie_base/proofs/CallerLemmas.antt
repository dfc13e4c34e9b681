-- What proofs of the crates above cite of this one.

-- keys: their bounds, their order, and the map of pairs
pub use Rattle.zerotrie_base.proofs.MapLemmas.Kinds.{edge_limit_is, greatest_width_is}
pub use Rattle.zerotrie_base.proofs.CanonicalLemmas.Encoded.{compare_first}
pub use Rattle.zerotrie_base.proofs.PlainLemmas.Refusals.{ascends_apart}
pub use Rattle.zerotrie_base.proofs.PlainLemmas.Items.{ascii_told}
pub use Rattle.zerotrie_base.proofs.CanonicalLemmas.Order.{entries-map_of}
pub use Rattle.zerotrie_base.proofs.CanonicalLemmas.Fitting.{consistent_entries}
-- pairs that answer alike
pub use Rattle.zerotrie_base.proofs.MapLemmas.Alike.{Same, same-sym, same-map, same-entries, same-behind, same-edges, same-targets, exact_itself, exact_same, first_found, map_agree}
-- the pairs after a byte or a front
pub use Rattle.zerotrie_base.proofs.MapLemmas.Edges.{residual-append, residual-front, residual-other}
pub use Rattle.zerotrie_base.proofs.MapLemmas.Alike.{some_pair, begins_behind}
pub use Rattle.zerotrie_base.proofs.MapLemmas.Listed.{behind_all-nil}
-- numbers, and the bytes of a branch in front of its targets
pub use Rattle.zerotrie_base.proofs.NumberLemmas.Spellings.{below_metadata, spelling_is}
pub use Rattle.zerotrie_base.proofs.NumberLemmas.Written.{Completes, completes_more}
pub use Rattle.zerotrie_base.proofs.NodeLemmas.Fronts.{small_width, wider, width_is, total-lengths, node_many}
-- edges that rise, and what a node in front of texts lists
pub use Rattle.zerotrie_base.proofs.NodeLemmas.Tables.{Rises, AllAbove, rises_distinct, increasing_rises}
pub use Rattle.zerotrie_base.proofs.CanonicalLemmas.Canonical.{lists_some, bytes_all}
pub use Rattle.zerotrie_base.proofs.NodeLemmas.Opened.{nothing_listed}
pub use Rattle.zerotrie_base.proofs.CanonicalLemmas.Encoded.{node_lists, not_empty_text}
-- how many edges and target bytes the pairs of a branch have
pub use Rattle.zerotrie_base.proofs.CanonicalLemmas.Lengths.{targets_each, edges_count}
-- no two keys of a text are one to the kind, and what a look-up in its map answers
pub use Rattle.zerotrie_base.proofs.MapLemmas.Cases.{same_equiv, lists_apart, lists_found, same_answers}
pub use Rattle.zerotrie_base.proofs.MapLemmas.Maps.{look-map_of}
-- pairs with a run in front of each key
pub use Rattle.zerotrie_base.proofs.MapLemmas.Spans.{value_at-run, residual-run, residual-run_other, behind_run, edges_run, run_of-literal, run_of-value, run_of-many, run_of-run}
-- the length of texts, by what stands first in them
pub use Rattle.zerotrie_base.proofs.CanonicalLemmas.Sizes.{size_none, size_value, size_literal, size_span, size_branch}
pub use Rattle.zerotrie_base.proofs.CanonicalLemmas.Lengths.{listed_size}
-- pairs in groups after their first bytes, and the edges in the order of the kind
pub use Rattle.zerotrie_base.proofs.MapLemmas.Edges.{member_head, member_later, begins_some-append, begins_some-front}
pub use Rattle.zerotrie_base.proofs.MapLemmas.Ordered.{ordered_is, edges_rise, member-edges, member-edges_past, length-ordered, total-ordered}
pub use Rattle.zerotrie_base.proofs.CanonicalLemmas.Canonical.{edge_once, residual_later, not_first}
pub use Rattle.zerotrie_base.proofs.CanonicalLemmas.Encoded.{rises_increasing}
-- what a writer of texts cites: kinds, spellings, what pairs answer after a byte, and tables
pub use Rattle.zerotrie_base.proofs.MapLemmas.Kinds.{edge_limit_to, greatest_width_most, spans_fold, spans_limit, hashed_spans, hashed_by}
pub use Rattle.zerotrie_base.proofs.NumberLemmas.Spellings.{spells_spelled}
pub use Rattle.zerotrie_base.proofs.NodeLemmas.Offsets.{length-blocks}
pub use Rattle.zerotrie_base.proofs.PlainLemmas.Items.{shifted}
pub use Rattle.zerotrie_base.proofs.MapLemmas.Edges.{member}
pub use Rattle.zerotrie_base.proofs.MapLemmas.Values.{value_at-front, value_at-other, value_at-no_key, value_at-append, value_at-some, behind_none}
pub use Rattle.zerotrie_base.proofs.MapLemmas.Alike.{same-size_of, value_at-residual}
pub use Rattle.zerotrie_base.proofs.NodeLemmas.Tables.{Distinct, NoneLike, table_distinct, length-table}
pub use Rattle.zerotrie_base.proofs.NodeLemmas.Fronts.{IsWidth-width, within_width, front_targets, front_len, length-branch_front}
pub use Rattle.zerotrie_base.proofs.CanonicalLemmas.Encoded.{fold_ascii}
-- which pairs fit a kind
pub use Rattle.zerotrie_base.proofs.CanonicalLemmas.Encoded.{NarrowBehind}
pub use Rattle.zerotrie_base.proofs.CanonicalLemmas.Fitting.{AllNarrow, narrow_none, narrow_value, narrow_at, narrow_front, narrow-same, all_entries}
pub use Rattle.zerotrie_base.proofs.MapLemmas.Spans.{by_fronts}
pub use Rattle.zerotrie_base.proofs.NodeLemmas.Tables.{increasing_rises}
-- the map of listed pairs, and keys that are text
pub use Rattle.zerotrie_base.proofs.MapLemmas.Collected.{put_all, meant_entries, listed_texts}
pub use Rattle.zerotrie_base.proofs.MapLemmas.Cases.{every_all}
-- the stack need of pairs
pub use Rattle.zerotrie_base.proofs.CanonicalLemmas.Stacks.{branch_agree, same-stack_of, stack_none, stack_value, stack_literal, stack_branch, above, stack_behind, stack_edges, above_edge, above_edges}
pub use Rattle.zerotrie_base.proofs.CanonicalLemmas.Canonical.{residual_first, edges_listed}
-- how many bytes and waiting targets a build needs, and pairs without a cause of an error
pub use Rattle.zerotrie_base.proofs.CanonicalLemmas.Bounds.{size_of_bound, size_bound, fits_bound, meant_bound, stack_of_bound, stack_bound, targets_size_bound, residual_bound, behind_bound, edges_bound, build_bound-cons, key_bound-cons}
pub use Rattle.zerotrie_base.proofs.CanonicalLemmas.Suited.{only_search, NeedsNoSearch, no_cause, ascends_in_apart, SuitsArray, suits_array, no_array_cause, only_memory, built_within, copied_within, clean_told, ascends_taken}
