-- A search lists what its automaton accepts of what is left.
use Rattle.std.proofs.Common.{◌≡◌, ◌≤◌, ◌∙◌, ℕ, List, Bool, true, false, sym, ap, refl, subst, arith}
use Rattle.std.specs.Prelude.{◌&&◌}
use Rattle.zerotrie_core.specs.Kinds.{kind_of as kind_that_is}
use Rattle.zerotrie_core.specs.Maps.{begins_with}
use Rattle.zerotrie_core.specs.WellFormed.{IsWellFormed}
use Rattle.zerotrie_index.specs.Tries.{folded_key}
use Rattle.zerotrie_search.specs.Searches.{accepted}
use Rattle.zerotrie_c.specs.Searched.{asks, or_beginnings}
use Rattle.zerotrie_c.proofs.FoldLemmas.{exact_keys}
use Rattle.zerotrie_c.proofs.PartLemmas.{at_most, still_valid}
use Rattle.zerotrie_c.proofs.searches.fill_accepted.Goals as goal

pub returns-then-asked-clause-listed : goal.returns-then-asked-clause-listed
returns-then-asked-clause-listed g c well =
    let a = c.args.asked in
    let accepts = g.T.Automaton.accepts c.args.automaton in
    let kind = kind_that_is a.prefix.kind in
    c.fill.ensures.listed _ (
      still_valid c.new-begun.ensures.sorted well,
      ap (λ l. l.pairs) c.new-begun.ensures.left
          ∙ ap (λ b. accepted (λ key. or_beginnings b (λ k. accepts (folded_key kind k)) key && begins_with kind a.prefix.prefix.now key) a.pairs.left.pairs) (sym c.if-asked.true),
    )

pub returns-then-asked-clause-any : goal.returns-then-asked-clause-any
returns-then-asked-clause-any g c =
    let a = c.args.asked in
    let accepts = g.T.Automaton.accepts c.args.automaton in
    let kind = kind_that_is a.prefix.kind in
    c.fill.ensures.any a.pairs.most (asks a accepts) (
      at_most c.new-begun.ensures.sorted,
      rw c.new-begun.ensures.automaton (ap (λ b key. or_beginnings b (λ k. accepts (folded_key kind k)) key && begins_with kind a.prefix.prefix.now key) (sym c.if-asked.true)),
    )

pub returns-then-ignores_case-clause-listed : goal.returns-then-ignores_case-clause-listed
returns-then-ignores_case-clause-listed g c well =
    let a = c.args.asked in
    let accepts = g.T.Automaton.accepts c.args.automaton in
    let kind = kind_that_is a.prefix.kind in
    c.fill-then-ignores_case.ensures.listed _ (
      still_valid c.new-folded.ensures.sorted well,
      ap (λ l. l.pairs) c.new-folded.ensures.left
          ∙ ap (λ b. accepted (λ key. or_beginnings b (λ k. accepts (folded_key kind k)) key && begins_with kind a.prefix.prefix.now key) a.pairs.left.pairs) (sym c.if-asked.false),
    )

pub returns-then-ignores_case-clause-any : goal.returns-then-ignores_case-clause-any
returns-then-ignores_case-clause-any g c =
    let a = c.args.asked in
    let accepts = g.T.Automaton.accepts c.args.automaton in
    let kind = kind_that_is a.prefix.kind in
    c.fill-then-ignores_case.ensures.any a.pairs.most (asks a accepts) (
      at_most c.new-folded.ensures.sorted,
      rw c.new-folded.ensures.automaton (ap (λ b key. or_beginnings b (λ k. accepts (folded_key kind k)) key && begins_with kind a.prefix.prefix.now key) (sym c.if-asked.false)),
    )

pub returns-clause-listed : goal.returns-clause-listed
returns-clause-listed g c well =
    let a = c.args.asked in
    let accepts = g.T.Automaton.accepts c.args.automaton in
    let kind = kind_that_is a.prefix.kind in
    c.fill-2.ensures.listed _ (
      still_valid c.new-search.ensures.sorted well,
      ap (λ l. l.pairs) c.new-search.ensures.left
          ∙ ap (λ (f : List ℕ → Bool). accepted (λ key. f key && begins_with kind a.prefix.prefix.now key) a.pairs.left.pairs) (exact_keys a.prefix.kind (c.if-ignores_case.ensures.no refl) accepts)
          ∙ ap (λ b. accepted (λ key. or_beginnings b (λ k. accepts (folded_key kind k)) key && begins_with kind a.prefix.prefix.now key) a.pairs.left.pairs) (sym c.if-asked.false),
    )

pub returns-clause-any : goal.returns-clause-any
returns-clause-any g c =
    let a = c.args.asked in
    let accepts = g.T.Automaton.accepts c.args.automaton in
    let kind = kind_that_is a.prefix.kind in
    c.fill-2.ensures.any a.pairs.most (asks a accepts) (
      at_most c.new-search.ensures.sorted,
      rw c.new-search.ensures.automaton
          (ap {B = List ℕ → Bool} (λ (f : List ℕ → Bool) key. f key && begins_with kind a.prefix.prefix.now key) (exact_keys a.prefix.kind (c.if-ignores_case.ensures.no refl) accepts)
          ∙ ap {B = List ℕ → Bool} (λ b key. or_beginnings b (λ k. accepts (folded_key kind k)) key && begins_with kind a.prefix.prefix.now key) (sym c.if-asked.false)),
    )
