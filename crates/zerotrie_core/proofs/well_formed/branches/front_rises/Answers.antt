use Rattle.std.proofs.Common.{◌≡◌, ◌∙◌, ap, false, sym, arith, subst, map}
use Rattle.std.specs.Prelude.{◌↔◌, IsTrue}
use Rattle.std.specs.List.Sorted.{IsStrictlyIncreasing}
use Rattle.zerotrie_base.specs.Kind.{flags, fold_byte}
use Rattle.zerotrie_core.proofs.WellFormedLemmas.Parts.{bytes_parts, rises_by}
use Rattle.zerotrie_core.proofs.well_formed.branches.front_rises.Goals as goal

pub returns-then-bytes-ge17-clause-rises : goal.returns-then-bytes-ge17-clause-rises
returns-then-bytes-ge17-clause-rises g c =
    let keeps : (flags g.K.ZeroTrieWithOptions.kind).ignore_case ≡ false = ap (λ f. f.ignore_case) g.K.ZeroTrieWithOptions.flags_are ∙ sym c.IGNORE_CASE.ensures ∙ c.if-not-IGNORE_CASE.true in
    rises_by g.K.ZeroTrieWithOptions.kind c.args.count c.rising_in_17.result c.args.bytes.now keeps c.requires.0 c.requires.1 c.if-count-le16.true c.rising_in_17.ensures.rises c.rising_in_17.ensures.stops

pub returns-then-bytes-ge17-clause-bytes : goal.returns-then-bytes-ge17-clause-bytes
returns-then-bytes-ge17-clause-bytes g c = bytes_parts c.args.count c.args.bytes.now (λ i. omega (arith, c.type_inv.bytes i))

pub returns-clause-rises : goal.returns-clause-rises
returns-clause-rises g c = subst (λ xs. IsTrue c.rises.result ↔ IsStrictlyIncreasing (map (fold_byte g.K.ZeroTrieWithOptions.kind) xs)) c.split_at.ensures.front c.rises.ensures.rises
