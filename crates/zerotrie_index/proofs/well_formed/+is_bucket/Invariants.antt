use Rattle.zerotrie_index.proofs.well_formed.+is_bucket.Given as goal

abbrev pub decreases-is_bucket : goal.decreases-is_bucket
decreases-is_bucket l = l.left
