use Rattle.std.proofs.Common.{◌≡◌, ◌∙◌, ◌≤◌, [], ℕ, List, arith, ap, inl, inr, length, min, subst, sym, take}
use Rattle.std.proofs.lemmas.Bool.{cases_lt}
use Rattle.std.proofs.lemmas.Grind.{common_steps}
use Rattle.std.proofs.lemmas.List.{take_all}
use Rattle.zerotrie_base.specs.Kind.{kind_with}
use Rattle.zerotrie_core.specs.Skips.{NoneBegins, Skips}
use Rattle.zerotrie_core.specs.listing.Opened.{left_in}
use Rattle.zerotrie_core.proofs.ListingLemmas.Skipped.{skips_in}
use Rattle.zerotrie_core.proofs.ListingLemmas.Grouped.{skips_grouped, skips_all}
use Rattle.zerotrie_core.proofs.stream.ZeroTrieStream.skip.Goals as goal

-- no more of the key than there is
take_within : (d n : ℕ) (key : List ℕ) → n ≡ length key → take (min d n) key ≡ take d key
take_within d n key is = elim (cases_lt d n) [
  | inl less ↦ (let low : min d n ≡ d = omega (arith, less) in ap (λ m. take m key) low)
  | inr more ↦ take_all (min d n) key (omega (arith, more, is)) ∙ sym (take_all d key (omega (arith, more, is)))
]

pub invariant_of-self : goal.invariant_of-self
invariant_of-self g c going = c.leave.ensures.leaves.stands (length c.self.inside.key.items) (c.self.invariant going)

pub returns-clause-skips : goal.returns-clause-skips
returns-clause-skips g c =
    let s = c.self.inside in
    let len : c.len.result ≡ length s.key.items = grind (arith, common_steps) in
    let same = ap (λ n. take n s.key.items) c.min.ensures ∙ take_within c.args.depth c.len.result s.key.items len in
    rw (sym c.self.view_is, c.nowhere-self-inside.ensures)
    (subst (λ front. Skips front (left_in s.ended (kind_with s.options) s.key.items s.here.rest.now s.branches) (left_in s.ended (kind_with s.options) s.key.items [] c.leave.new.self)) same
    (skips_in s.ended (kind_with s.options) s.key.items s.here.rest.now s.branches c.leave.new.self c.min.result c.self.invariant c.leave.ensures.leaves))

pub returns-clause-grouped : goal.returns-clause-grouped
returns-clause-grouped g c grouped =
    let s = c.self.inside in
    let old = rw (sym c.self.view_is) at grouped in
    rw c.nowhere-self-inside.ensures (skips_grouped s.ended (kind_with s.options) s.key.items s.here.rest.now s.branches c.leave.new.self c.min.result old c.leave.ensures.leaves)

pub returns-clause-all : goal.returns-clause-all
returns-clause-all g c grouped =
    let s = c.self.inside in
    let old = rw (sym c.self.view_is) at grouped in
    let len : c.len.result ≡ length s.key.items = grind (arith, common_steps) in
    let same = ap (λ n. take n s.key.items) c.min.ensures ∙ take_within c.args.depth c.len.result s.key.items len in
    let low : c.min.result ≤ length s.key.items = omega (arith, c.min.ensures, len) in
    rw (sym c.self.view_is, c.nowhere-self-inside.ensures)
    (subst (λ front. NoneBegins front (left_in s.ended (kind_with s.options) s.key.items [] c.leave.new.self).pairs) same
    (skips_all s.ended (kind_with s.options) s.key.items s.here.rest.now s.branches c.leave.new.self c.min.result low old c.leave.ensures.leaves c.leave.ensures.below))
