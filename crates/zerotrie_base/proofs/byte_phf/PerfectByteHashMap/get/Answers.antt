use Rattle.std.proofs.Common.{◌<◌, ap, ◌∙◌, sym, arith}
use Rattle.zerotrie_base.specs.Hashes.{number_of}
use Rattle.zerotrie_base.proofs.TableReads.{reads_keys}
use Rattle.zerotrie_base.proofs.byte_phf.PerfectByteHashMap.get.Goals as goal

pub returns-clause-perfect : goal.returns-clause-perfect
returns-clause-perfect g c = λ p qs keys is perfect i.
    let key : c.args.key < 256 = omega arith in
    let r = reads_keys p c.args.key qs keys perfect key i in
    let e = c.number_of.ensures ∙ ap (λ v. number_of v c.args.key) (c.bytes.ensures ∙ is) in
    (λ f. r.0 (sym e ∙ f), λ f. e ∙ r.1 f)
