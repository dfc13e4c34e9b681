use Rattle.std.proofs.Common.{arith, ◌≡◌, ◌++◌, ap, sym, subst, ◌∙◌}
use Rattle.zerotrie_index.specs.Layout.{word, IsIndex}
use Rattle.zerotrie_index.specs.Hashed.{hashed_pairs}
use Rattle.zerotrie_index.specs.Built.{AreWritten, IsLaidOut}
use Rattle.zerotrie_index.proofs.WrittenLemmas.{index_laid_out}
use Rattle.zerotrie_index.proofs.builder.write_index.Goals as goal

pub returns : goal.returns
returns g c =
    let seed = c.args.seed in
    let count = c.args.count in
    let pairs = hashed_pairs c.args.hashed.now in
    let head : c.put_word-2.new.bytes.items ≡ word seed ++ word count =
    c.in_ok-put_word-2.ensures ∙ ap (λ x. x ++ word c.from.result) (c.in_ok-put_word.ensures ∙ ap (λ x. x ++ word seed) c.new-bytes.ensures.items) ∙ ap (λ n. word seed ++ word n) c.from.ensures in
    let whole : c.extend_from_slice.new.self.items ≡ c.put_buckets.new.table.items ++ c.put_buckets.new.pool.items =
    c.in_ok-extend_from_slice.ensures.items ∙ ap (λ x. c.put_buckets.new.table.items ++ x) c.as_slice.ensures.value in
    let written = subst (λ before. AreWritten seed count pairs before c.put_buckets.new.table.items c.put_buckets.new.pool.items) head (c.in_ok-put_buckets.ensures.ok seed c.requires.hashes c.requires.some) in
    subst (λ bytes. IsIndex pairs bytes × IsLaidOut seed count pairs bytes) (sym whole)
    (index_laid_out seed count pairs c.put_buckets.new.table.items c.put_buckets.new.pool.items written (omega (arith, c.ranges.seed.fits)) c.requires.some (omega (arith, c.ranges.count.fits)))
