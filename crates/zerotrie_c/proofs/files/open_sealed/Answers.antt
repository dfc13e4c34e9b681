-- A file that begins as a sealed one is that of the trie in it, or of none.
use Rattle.std.proofs.Common.{inl, inr, refl, rules, subst, sym}
use Rattle.zerotrie_core.specs.Kinds.{kind_of as kind_that_is}
use Rattle.zerotrie_c.specs.Files.{IsFileFault}
use Rattle.zerotrie_c.proofs.FileLemmas.{sealed_len, sealed_part, no_sealed_file, seal_fault}
use Rattle.zerotrie_c.proofs.files.open_sealed.Goals as goal

pub returns-in-Ok : goal.returns-in-Ok
returns-in-Ok c begins =
    let kind = kind_that_is c.in-Ok.sealed.kind in
    let trie = c.in-Ok.sealed.trie.now in
    let sealed = c.in-Ok.ensures.ok in
    inl (refl, sealed_len kind trie c.args.file.now sealed, kind, search rules, inl (sealed_part kind trie c.args.file.now sealed))

pub returns-in-Err : goal.returns-in-Err
returns-in-Err c begins = inr (
  no_sealed_file c.args.file.now begins c.in-Err.ensures.none,
  subst (IsFileFault c.args.file.now) (sym c.seal_status_of.ensures) (seal_fault c.args.file.now c.in-Err.error begins c.in-Err.ensures.fault c.in-Err.ensures.order),
  refl,
  refl,
  refl,
)
