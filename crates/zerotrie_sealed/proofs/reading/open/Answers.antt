-- A file is the seal of a trie exactly if its parts agree and its number is that of a kind.
use Rattle.std.proofs.Common.{rules, ◌≡◌, sym, ◌∙◌}
use Rattle.zerotrie_base.specs.Kind.{tag}
use Rattle.zerotrie_base.specs.Kinds.{kind_of}
use Rattle.zerotrie_sealed.specs.Faults.{kind_in, IsSealFault}
use Rattle.zerotrie_sealed.specs.declared.reading.SealError.TheVariants.{UnknownKind}
use Rattle.zerotrie_sealed.proofs.Headers.{IsSealed-agreed, no_trie, no_seal, seal_fault}
use Rattle.zerotrie_sealed.proofs.reading.open.Goals as goal

pub returns-in_err-number-clause-none : goal.returns-in_err-number-clause-none
returns-in_err-number-clause-none c =
    no_seal c.args.file.now c.from_residual.result (search rules) (λ i. (c.type_inv.file i).fits) (seal_fault c.args.file.now c.from_residual.result (search rules))

pub returns-in_default-clause-none : goal.returns-in_default-clause-none
returns-in_default-clause-none c =
    let fault : IsSealFault c.args.file.now (UnknownKind c.in_ok-number.number) = (c.in_ok-number.ensures.number, c.in_default.ensures.none) in
    no_trie c.args.file.now (UnknownKind c.in_ok-number.number) (search rules) (λ i. (c.type_inv.file i).fits) fault

pub returns-in_err-trie-clause-none : goal.returns-in_err-trie-clause-none
returns-in_err-trie-clause-none c =
    no_seal c.args.file.now c.from_residual-in_err-trie.result (search rules) (λ i. (c.type_inv.file i).fits) (seal_fault c.args.file.now c.from_residual-in_err-trie.result (search rules))

pub returns-clause-ok : goal.returns-clause-ok
returns-clause-ok c =
    let number = c.in_ok-number.ensures in
    let whole = c.in_ok-trie.ensures in
    let has : kind_in c.args.file.now ≡ tag (kind_of c.in-Some.kind) = number.number ∙ sym c.in-Some.ensures.kind in
    rw whole.bytes (IsSealed-agreed (tag (kind_of c.in-Some.kind)) c.args.file.now number.header (λ i. (c.type_inv.file i).fits) number.magic number.version has whole.length whole.checksum)
