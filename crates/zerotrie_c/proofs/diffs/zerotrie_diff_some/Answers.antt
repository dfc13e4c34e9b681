use Rattle.std.proofs.Common.{◌∙◌, inl, inr, refl, ap, sym, subst}
use Rattle.zerotrie_core.specs.Kinds.{kind_of as kind_that_is}
use Rattle.zerotrie_core.specs.Texts.{Means}
use Rattle.zerotrie_core.specs.WellFormed.{IsWellFormed}
use Rattle.zerotrie_c.specs.Changed.{IsDiffListed}
use Rattle.zerotrie_c.proofs.ChangeLemmas.{changes_same, told_no_trie}
use Rattle.zerotrie_c.proofs.diffs.zerotrie_diff_some.Goals as goal

pub returns-in-Err-clause-known : goal.returns-in-Err-clause-known
returns-in-Err-clause-known c =
    let first = kind_that_is c.in-Some.old.kind in
    rw c.in-Some.ensures.kind (rw c.in-Some-trie_of.ensures.kind (rw (sym c.in-Some-bounds_with.ensures) (inr (
      told_no_trie c.set_status_of.ensures (λ bad. inl (λ well. bad (subst (λ b. IsWellFormed first b) (sym c.in-Some.ensures.bytes) well))) c.in-Err.ensures.err,
      refl,
      refl,
      refl,
      refl,
    ))))

pub returns-in-Err-sorted_of-clause-known : goal.returns-in-Err-sorted_of-clause-known
returns-in-Err-sorted_of-clause-known c =
    let second = kind_that_is c.in-Some-trie_of.new.kind in
    rw c.in-Some.ensures.kind (rw c.in-Some-trie_of.ensures.kind (rw (sym c.in-Some-bounds_with.ensures) (inr (
      told_no_trie c.set_status_of-in-Err-sorted_of.ensures (λ bad. inr (λ well. bad (subst (λ b. IsWellFormed second b) (sym c.in-Some-trie_of.ensures.bytes) well))) c.in-Err-sorted_of.ensures.err,
      refl,
      refl,
      refl,
      refl,
    ))))

pub returns-in-Ok-sorted_of-clause-known : goal.returns-in-Ok-sorted_of-clause-known
returns-in-Ok-sorted_of-clause-known c =
    let first = kind_that_is c.in-Some.old.kind in
    let second = kind_that_is c.in-Some-trie_of.new.kind in
    let m = c.in-Ok.ensures.ok in
    let n = c.in-Ok-sorted_of.ensures.ok in
    let w = c.write_changes in
    let rows = ap (λ s. s.items) c.new.ensures.always ∙ changes_same m.2 n.2 in
    rw c.in-Some.ensures.kind (rw c.in-Some-trie_of.ensures.kind (rw (sym c.in-Some-bounds_with.ensures) (inl (
      m.0,
      n.0,
      subst (λ b. Means first b m.0) c.in-Some.ensures.bytes m.1,
      subst (λ b. Means second b n.0) c.in-Some-trie_of.ensures.bytes n.1,
      subst (λ is. IsDiffListed is w.result c.args.keys.now w.new.keys c.args.changes.now w.new.changes w.new.count c.args.next_len.now w.new.next_len) rows w.ensures,
    ))))
