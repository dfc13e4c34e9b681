use Rattle.std.proofs.Common.{◌≡◌, ℕ, zero, suc, ◌+◌, ◌-◌, ◌*◌, ◌^◌, ◌<◌, ◌≤◌, List, [], length, take, drop, slice_index, arith, rules, refl, sym, subst, ◌∙◌, ap, inl, inr}
use Rattle.std.specs.Prelude.{max, ◌≢◌, ◌↔◌, IsTrue}
use Rattle.std.proofs.lemmas.List.{nil_from_length, length-drop, length-take-le}
use Rattle.std.proofs.lemmas.Bool.{eqb-true, eqb-false, cases_lt}
use Rattle.zerotrie_base.specs.Kind.{Kind}
use Rattle.zerotrie_base.specs.Texts.Lists.{nothing}
use Rattle.zerotrie_core.specs.declared.well_formed.Expected.{Expected}
use Rattle.zerotrie_base.specs.Nodes.{Begins, begin_of}
use Rattle.zerotrie_core.specs.Shapes.{branch_shape}
use Rattle.zerotrie_base.specs.Maps.{Map}
use Rattle.zerotrie_base.specs.Texts.{Means}
use Rattle.zerotrie_core.specs.WellFormed.{IsWellFormed, IsShallow, deep}
use Rattle.zerotrie_core.specs.listing.Runs.{EndsWith}
use Rattle.zerotrie_core.specs.well_formed.Testing.{IsText, IsAllowed, IsPastValue, ReducesTo}
use Rattle.zerotrie_core.proofs.NodeLemmas.Read.{nothing_begins}
use Rattle.zerotrie_core.proofs.WellFormedLemmas.Depth.{shallow_one, shallow_max, shallow_longer, deep_no_node, deep_some}
use Rattle.zerotrie_base.proofs.NodeLemmas.Nodes.{branch_shorter}
use Rattle.zerotrie_core.proofs.ListingLemmas.Left.{branch_end, ends_drop}
use Rattle.zerotrie_core.proofs.WellFormedLemmas.Steps.{reduces_at, reduces_more, past_reduces, past_within, no_bytes}
use Rattle.zerotrie_core.proofs.WellFormedLemmas.Targets.{Passed, passed_first, passed_more, passed_all, shorter_there, no_target, target_some, both_some, next_begin, text_well, well_text, text_means}
use Rattle.zerotrie_core.proofs.well_formed.+tested.Goals as goal

pub go_behind-returns-then-not-has_front-clause-none : goal.go_behind-returns-then-not-has_front-clause-none
go_behind-returns-then-not-has_front-clause-none g t c = c.has_front.ensures.no c.if-not-has_front.true

pub go_behind-behind-targets-requires : goal.go_behind-behind-targets-requires
go_behind-behind-targets-requires g t c =
    let b = c.args.branch in
    let bytes = c.args.here.rest.now in
    let n = b.width * (b.edges - 1) in
    subst (EndsWith bytes) (sym c.targets.ensures)
    (ends_drop bytes (drop b.edges b.behind.now) n (ends_drop bytes b.behind.now b.edges c.requires))

pub go_behind-loop-index-init : goal.go_behind-loop-index-init
go_behind-loop-index-init g t c =
    let b = c.args.branch in
    let target = c.in_ok-longest.longest.rest.now in
    let is = c.in_ok-longest.ensures.some in
    record {
      passed = passed_first g.K.ZeroTrieWithOptions.kind b.edges b.width b.behind.now target is;
      some = target_some b.edges b.width b.behind.now 0 target is;
      begins = λ h. (let none : 0 + length target ≡ length target = omega arith in sym none ∙ next_begin b.edges b.width b.behind.now 0 0 target is refl h);
    }

pub go_behind-returns-then-not-yes-clause-none : goal.go_behind-returns-then-not-yes-clause-none
go_behind-returns-then-not-yes-clause-none g t c =
    let b = c.args.branch in
    let kind = g.K.ZeroTrieWithOptions.kind in
    let there = shorter_there kind b.edges b.width b.behind.now c.loop-index.index c.loop-index.longest.rest.now c.in_ok-target.target.rest.now c.loop-index.most c.loop-index-test.true b.whole b.some.0
    c.loop-index.invariant.passed c.in_ok-target.ensures.some c.by_length.result.0.rest.now c.by_length.result.1.rest.now c.by_length.ensures in
    let less = there.3 in
    no_target kind b.edges b.width b.table.now b.behind.now there.0 c.by_length.result.0.rest.now there.1 there.2
    (λ text. (let e = c.is_target_counted-yes.ensures.yes.1 (text_well (omega arith) text) in let f = c.if-not-yes.true in cc))

pub go_behind-overflow_add-count : goal.go_behind-overflow_add-count
go_behind-overflow_add-count g t c =
    let b = c.args.branch in
    let kind = g.K.ZeroTrieWithOptions.kind in
    let there = shorter_there kind b.edges b.width b.behind.now c.loop-index.index c.loop-index.longest.rest.now c.in_ok-target.target.rest.now c.loop-index.most c.loop-index-test.true b.whole b.some.0
    c.loop-index.invariant.passed c.in_ok-target.ensures.some c.by_length.result.0.rest.now c.by_length.result.1.rest.now c.by_length.ensures in
    let less = there.3 in
    let short : length c.by_length.result.0.rest.now < 2 ^ 64 = omega arith in
    let h : c.is_target_counted-yes.result.1 ≤ 64 = c.is_target_counted-yes.ensures.shallow.1 64 (omega arith) short in
    omega arith

pub go_behind-is_target_counted-yes-requires : goal.go_behind-is_target_counted-yes-requires
go_behind-is_target_counted-yes-requires g t c =
    let kind = g.K.ZeroTrieWithOptions.kind in
    let b = c.args.branch in
    let first = c.loop-index.longest.rest.now in
    let target = c.in_ok-target.target.rest.now in
    let is = c.in_ok-target.ensures.some in
    let shorter = c.by_length.result.0.rest.now in
    let longer = c.by_length.result.1.rest.now in
    let some = (both_some first target shorter longer c.by_length.ensures c.loop-index.invariant.some (target_some b.edges b.width b.behind.now c.loop-index.index target is)).0 in
    let less = (shorter_there kind b.edges b.width b.behind.now c.loop-index.index first target c.loop-index.most c.loop-index-test.true b.whole b.some.0 c.loop-index.invariant.passed is shorter longer c.by_length.ensures).3 in
    let falls : 2 * length shorter + 1 < 2 * length b.behind.now = omega arith in
    search rules

pub go_behind-loop-index-preserved : goal.go_behind-loop-index-preserved
go_behind-loop-index-preserved g t c =
    let kind = g.K.ZeroTrieWithOptions.kind in
    let b = c.args.branch in
    let i = c.loop-index.index in
    let so_far = c.loop-index.invariant.passed in
    let first = c.loop-index.longest.rest.now in
    let target = c.in_ok-target.target.rest.now in
    let is = c.in_ok-target.ensures.some in
    let shorter = c.by_length.result.0.rest.now in
    let longer = c.by_length.result.1.rest.now in
    let r = c.is_target_counted-yes in
    let there = shorter_there kind b.edges b.width b.behind.now i first target c.loop-index.most c.loop-index-test.true b.whole b.some.0 so_far is shorter longer c.by_length.ensures in
    let less = there.3 in
    let short : length shorter < 2 ^ 64 = omega arith in
    let step : suc i ≡ i + 1 = omega arith in
    record {
      passed = subst (λ m. Passed kind b.edges b.width b.behind.now (i + 1) longer m) (sym c.max-most.ensures)
          (passed_more kind b.edges b.width b.behind.now i first target c.loop-index.most c.loop-index-test.true b.whole b.some.0 so_far is shorter longer r.result.1 c.by_length.ensures
          (well_text (r.ensures.yes.0 c.if-not-yes.false)) (λ pairs inner. r.ensures.count _ (text_means short inner)) r.ensures.shallow);
      some = (both_some first target shorter longer c.by_length.ensures c.loop-index.invariant.some (target_some b.edges b.width b.behind.now i target is)).1;
      begins = λ h. (
          subst (λ k. c.loop-index.begin + length target ≡ begin_of b.edges b.width b.behind.now k) step
          (next_begin b.edges b.width b.behind.now i c.loop-index.begin target is (c.loop-index.invariant.begins c.loop-index-test.true) (omega arith))
          );
    }

pub go_behind-returns-clause-some : goal.go_behind-returns-clause-some
go_behind-returns-clause-some g t c =
    let kind = g.K.ZeroTrieWithOptions.kind in
    let b = c.args.branch in
    let two = b.some.0 in
    let all : c.loop-index.index ≡ b.edges = omega (arith, two, c.loop-index-test.false, c.loop-index.auto.index-end) in
    passed_all kind b.edges b.width b.table.now b.behind.now c.loop-index.longest.rest.now c.loop-index.most (c.has_front.ensures.yes c.if-not-has_front.false) b.whole two b.narrow.0
    (subst (λ k. Passed kind b.edges b.width b.behind.now k c.loop-index.longest.rest.now c.loop-index.most) all c.loop-index.invariant.passed)

-- what stands at the place that the test passes to first
module _ (kind : Kind) (bytes rest : List ℕ) (expected : Expected) (way : ReducesTo kind bytes rest expected 1) (within : length rest ≤ length bytes) (small : length bytes < 2 ^ 64) where
  passed_well : IsAllowed expected rest → IsWellFormed kind rest → IsWellFormed kind bytes
  passed_well allowed well = text_well small (way.back allowed (well_text well))

  well_passed : IsWellFormed kind bytes → IsAllowed expected rest × IsWellFormed kind rest
  well_passed well = let text = well_text well in let leads = way.there text.0 text.1 in (leads.allowed, text_well (omega arith) (leads.below, leads.inner))

pub is_target_counted-returns-then-is_empty-clause-yes : goal.is_target_counted-returns-then-is_empty-clause-yes
is_target_counted-returns-then-is_empty-clause-yes g t c =
    let kind = g.K.ZeroTrieWithOptions.kind in
    let rest = c.pass_twice-expected.result.0.rest.now in
    let expected = c.pass_twice-expected.result.1 in
    let way = c.pass_twice-expected.ensures.reduces c.requires kind in
    let none : rest ≡ [] = nil_from_length rest (eqb-true _ _ (sym c.is_empty.ensures ∙ c.if-is_empty.true)) in (
      λ e. text_well (omega arith) (way.back (subst (IsAllowed expected) (sym none) (c.takes_end.ensures.0 e)) (subst (IsText kind) (sym none) ([], nothing))),
      λ well. (let text = well_text well in let leads = way.there text.0 text.1 in c.takes_end.ensures.1 (subst (IsAllowed expected) none leads.allowed)),
    )

pub is_target_counted-returns-then-is_empty-clause-count : goal.is_target_counted-returns-then-is_empty-clause-count
is_target_counted-returns-then-is_empty-clause-count g t c m means =
    let kind = g.K.ZeroTrieWithOptions.kind in
    let rest = c.pass_twice-expected.result.0.rest.now in
    let none : rest ≡ [] = nil_from_length rest (eqb-true _ _ (sym c.is_empty.ensures ∙ c.if-is_empty.true)) in
    let leads = (c.pass_twice-expected.ensures.reduces c.requires kind).there means.pairs means.lists in
    let end = (deep_no_node leads.inner (λ s b. no_bytes kind s (subst (λ x. Begins kind x s) none b))).1 in
    let counts = leads.counts in
    omega arith

pub is_target_counted-returns-then-is_empty-clause-shallow : goal.is_target_counted-returns-then-is_empty-clause-shallow
is_target_counted-returns-then-is_empty-clause-shallow g t c = shallow_one c.args.target.rest.now

pub is_target_counted-returns-clause-yes : goal.is_target_counted-returns-clause-yes
is_target_counted-returns-clause-yes g t c =
    let kind = g.K.ZeroTrieWithOptions.kind in
    let at = c.pass_twice-expected.result.0 in
    let expected = c.pass_twice-expected.result.1 in
    let way = c.pass_twice-expected.ensures.reduces c.requires kind in
    let within = c.pass_twice-expected.ensures.shorter in
    let r = subst (λ x. IsTrue c.is_text_counted.result.0 ↔ (IsAllowed expected x × IsWellFormed kind x)) (sym at.lies) c.is_text_counted.ensures.yes in (
      λ e. passed_well kind c.args.target.rest.now at.rest.now expected way within (omega arith) (r.0 e).0 (r.0 e).1,
      λ well. r.1 (well_passed kind c.args.target.rest.now at.rest.now expected way within (omega arith) well),
    )

pub is_target_counted-returns-clause-count : goal.is_target_counted-returns-clause-count
is_target_counted-returns-clause-count g t c m means =
    let kind = g.K.ZeroTrieWithOptions.kind in
    let at = c.pass_twice-expected.result.0 in
    let within = c.pass_twice-expected.ensures.shorter in
    let leads = (c.pass_twice-expected.ensures.reduces c.requires kind).there means.pairs means.lists in
    let counts_at = subst (λ x. IsAllowed c.pass_twice-expected.result.1 x → (m : Map) (means : Means kind x m) → c.is_text_counted.result.1 ≡ deep means.lists) (sym at.lies) c.is_text_counted.ensures.count in
    let is = counts_at leads.allowed _ (text_means (omega arith) leads.inner) in
    let some = deep_some leads.inner in
    let counts = leads.counts in
    omega arith

pub is_target_counted-returns-clause-shallow : goal.is_target_counted-returns-clause-shallow
is_target_counted-returns-clause-shallow g t c =
    let at = c.pass_twice-expected.result.0 in
    let shallow = subst (λ x. IsShallow x c.is_text_counted.result.1) (sym at.lies) c.is_text_counted.ensures.shallow in
    shallow_longer at.rest.now c.args.target.rest.now c.is_text_counted.result.1 c.pass_twice-expected.ensures.shorter shallow

pub is_text_counted-loop-node-init : goal.is_text_counted-loop-node-init
is_text_counted-loop-node-init g t c =
    let kind = g.K.ZeroTrieWithOptions.kind in
    let bytes = take c.args.len c.args.tail.now in
    let at = c.first_of-at.result.rest.now in
    let is : bytes ≡ at = sym c.first_of-at.ensures in
    let len = length-take-le c.args.len c.args.tail.now c.requires in
    let same = ap length c.first_of-at.ensures in
    record {
      within = omega arith;
      shallow = shallow_one bytes;
      reduces = λ allowed. subst (λ x. ReducesTo kind bytes x c.args.expected 1) is (reduces_at kind bytes c.args.expected allowed);
      begins = λ allowed text. subst (IsAllowed c.args.expected) c.first_of-at.ensures allowed;
    }

-- what comes next may not stand there
wrong : (g : _) (t : _) (c : goal.is_text_counted-In-Wrong g t) → IsAllowed c.args.expected (take c.args.len c.args.tail.now) → IsText g.K.ZeroTrieWithOptions.kind (take c.args.len c.args.tail.now) → ⊥
wrong g t c allowed text =
    let leads = (c.loop-node.invariant.reduces allowed).there text.0 text.1 in
    c.in-Wrong.ensures c.loop-node.at.rest.now c.in-Some.ensures.begins leads.allowed (leads.below, leads.inner)

pub is_text_counted-returns-in-Wrong-clause-yes : goal.is_text_counted-returns-in-Wrong-clause-yes
is_text_counted-returns-in-Wrong-clause-yes g t c = (λ e. absurd (cc), λ well. absurd (wrong g t c well.0 (well_text well.1)))

pub is_text_counted-returns-in-Wrong-clause-count : goal.is_text_counted-returns-in-Wrong-clause-count
is_text_counted-returns-in-Wrong-clause-count g t c = λ allowed m means. absurd (wrong g t c allowed (means.pairs, means.lists))

pub is_text_counted-loop-node-preserved-in-Over : goal.is_text_counted-loop-node-preserved-in-Over
is_text_counted-loop-node-preserved-in-Over g t c =
    let kind = g.K.ZeroTrieWithOptions.kind in
    let so_far = c.loop-node.invariant in
    let rest = c.loop-node.at.rest.now in
    let begins = c.in-Some.ensures.begins in
    let step = c.in-Over.ensures in
    let shorter = (step.0 rest begins).0 in
    let one = so_far.shallow.0 in
    let same : max c.loop-node.most 1 ≡ c.loop-node.most = omega arith in
    let there = ap length c.behind-at.ensures in
    record {
      within = omega (arith, so_far.within, shorter, there);
      shallow = so_far.shallow;
      reduces = λ allowed. subst (λ x. ReducesTo kind (take c.args.len c.args.tail.now) x c.in-Over.following c.loop-node.most) (sym c.behind-at.ensures)
          (subst (λ m. ReducesTo kind (take c.args.len c.args.tail.now) c.in-Over.after.now c.in-Over.following m) same (reduces_more (so_far.reduces allowed) (step.1 rest begins) (step.2 rest begins)));
      begins = λ allowed text. so_far.begins (step.1 rest begins)
          ((step.2 rest begins).back (subst (IsAllowed c.in-Over.following) c.behind-at.ensures allowed) (subst (IsText kind) c.behind-at.ensures text));
    }

pub is_text_counted-loop-node-preserved-in-Literals : goal.is_text_counted-loop-node-preserved-in-Literals
is_text_counted-loop-node-preserved-in-Literals g t c =
    let kind = g.K.ZeroTrieWithOptions.kind in
    let so_far = c.loop-node.invariant in
    let rest = c.loop-node.at.rest.now in
    let begins = c.in-Some.ensures.begins in
    let step = c.in-Literals.ensures in
    let first = step.0 rest begins in
    let n = c.max.result in
    let inside : n ≤ length rest = (let h = first.0 in let within = c.literals.ensures.within in omega arith) in
    let one = so_far.shallow.0 in
    let same : max c.loop-node.most 1 ≡ c.loop-node.most = omega arith in
    let after = c.past_value.result.0.rest.now in
    let next = c.past_value.result.1 in
    let past = subst (λ x. IsPastValue x after next) c.after.ensures c.past_value.ensures in
    let way = past_reduces kind n rest after next (λ none. (let is = ap length none in let h = first.0 in omega arith)) inside (low_at rest c.literals.result n (omega arith) first.1 c.literals.ensures.literals) past in
    let there = past_within (drop n rest) after next past in
    let gone = length-drop n rest in
    record {
      within = omega (arith, so_far.within, there, gone);
      shallow = so_far.shallow;
      reduces = λ allowed. subst (λ m. ReducesTo kind (take c.args.len c.args.tail.now) after next m) same (reduces_more (so_far.reduces allowed) (step.1 rest begins) way);
      begins = λ allowed text. so_far.begins (step.1 rest begins) (way.back allowed text);
    }
  where
    low_at : (bytes : List ℕ) (m n : ℕ) → (0 < m → n ≤ m) × (m ≡ 0 → n ≡ 1) → slice_index bytes 0 < 128 → ((k : ℕ) → k < m → slice_index bytes k < 128) → (k : ℕ) → k < n → slice_index bytes k < 128
    low_at bytes m n is first low zero h = first
    low_at bytes m n is first low (suc k) h = elim (cases_lt 0 m) [
      | inl some ↦ low (suc k) (let l = is.0 some in omega arith)
      | inr none ↦ absurd (let l = is.1 (omega arith) in omega arith)
    ]

pub is_text_counted-go_behind-requires : goal.is_text_counted-go_behind-requires
is_text_counted-go_behind-requires g t c =
    let kind = g.K.ZeroTrieWithOptions.kind in
    let b = c.in-Behind.branch in
    let rest = c.loop-node.at.rest.now in
    let begins : Begins kind rest (branch_shape b) = subst (Begins kind rest) c.in-Behind.ensures.0 c.in-Some.ensures.begins in
    let shorter = branch_shorter kind b.edges b.width b.table.now b.behind.now rest begins in
    let within = c.loop-node.invariant.within in
    let falls : length b.behind.now < c.args.len = omega arith in
    let ends : EndsWith rest b.behind.now = branch_end kind rest b.edges b.width b.table.now b.behind.now begins in
    search rules

pub is_text_counted-loop-node-preserved : goal.is_text_counted-loop-node-preserved
is_text_counted-loop-node-preserved g t c =
    let kind = g.K.ZeroTrieWithOptions.kind in
    let b = c.in-Behind.branch in
    let so_far = c.loop-node.invariant in
    let rest = c.loop-node.at.rest.now in
    let begins : Begins kind rest (branch_shape b) = subst (Begins kind rest) c.in-Behind.ensures.0 c.in-Some.ensures.begins in
    let longest = c.in-Some-go_behind.longest.rest.now in
    let count = c.in-Some-go_behind.count in
    let shorter = c.in-Some-go_behind.ensures.shorter in
    let behind = branch_shorter kind b.edges b.width b.table.now b.behind.now rest begins in
    let within = so_far.within in
    let m = c.max-most.ensures in
    let len = length-take-le c.args.len c.args.tail.now c.requires in
    let passed = c.pass.result.0.rest.now in
    let next = c.pass.result.1 in
    let way = c.in-Some-go_behind.ensures.some rest begins in
    let on = c.pass.ensures.reduces c.in-Some-go_behind.ensures.left kind in
    let further = c.pass.ensures.shorter in
    let one = so_far.shallow.0 in
    let same : max (max c.loop-node.most count) 1 ≡ c.max-most.result = omega arith in
    let left : longest ≢ [] = c.in-Some-go_behind.ensures.left in
    let allowed_here = c.in-Behind.ensures.1 rest c.in-Some.ensures.begins in
    record {
      within = omega arith;
      shallow = subst (λ n. IsShallow (take c.args.len c.args.tail.now) n) (sym m)
          (shallow_max (take c.args.len c.args.tail.now) c.loop-node.most count so_far.shallow (shallow_longer b.behind.now (take c.args.len c.args.tail.now) count (omega arith) c.in-Some-go_behind.ensures.shallow));
      reduces = λ allowed. subst (λ n. ReducesTo kind (take c.args.len c.args.tail.now) passed next n) same (reduces_more (reduces_more (so_far.reduces allowed) allowed_here way) left on);
      begins = λ allowed text. so_far.begins allowed_here (way.back left (on.back allowed text));
    }

-- the branch that comes next is no text
no_branch : (g : _) (t : _) (c : goal.is_text_counted-In-None g t) → IsAllowed c.args.expected (take c.args.len c.args.tail.now) → IsText g.K.ZeroTrieWithOptions.kind (take c.args.len c.args.tail.now) → ⊥
no_branch g t c allowed text =
    let kind = g.K.ZeroTrieWithOptions.kind in
    let rest = c.loop-node.at.rest.now in
    let leads = (c.loop-node.invariant.reduces allowed).there text.0 text.1 in
    let begins : Begins kind rest (branch_shape c.in-Behind.branch) = subst (Begins kind rest) c.in-Behind.ensures.0 c.in-Some.ensures.begins in
    c.in-None.ensures.none rest begins (leads.below, leads.inner)

pub is_text_counted-returns-in-None-clause-yes : goal.is_text_counted-returns-in-None-clause-yes
is_text_counted-returns-in-None-clause-yes g t c = (λ e. absurd (cc), λ well. absurd (no_branch g t c well.0 (well_text well.1)))

pub is_text_counted-returns-in-None-clause-count : goal.is_text_counted-returns-in-None-clause-count
is_text_counted-returns-in-None-clause-count g t c = λ allowed m means. absurd (no_branch g t c allowed (means.pairs, means.lists))

pub is_text_counted-returns-then-is_empty-clause-yes : goal.is_text_counted-returns-then-is_empty-clause-yes
is_text_counted-returns-then-is_empty-clause-yes g t c =
    let kind = g.K.ZeroTrieWithOptions.kind in
    let rest = c.loop-node.at.rest.now in
    let next = c.loop-node.next in
    let len = length-take-le c.args.len c.args.tail.now c.requires in
    let so_far = c.loop-node.invariant in
    let none : rest ≡ [] = nil_from_length rest (eqb-true _ _ (sym c.is_empty.ensures ∙ c.if-is_empty.true)) in
    let end : IsText kind rest = subst (IsText kind) (sym none) ([], nothing) in (
      λ e. (
          let allowed = subst (IsAllowed next) (sym none) (c.takes_end.ensures.0 e) in
          let first = so_far.begins allowed end in (first, text_well (omega arith) ((so_far.reduces first).back allowed end))
          ),
      λ well. (let text = well_text well.1 in let leads = (so_far.reduces well.0).there text.0 text.1 in c.takes_end.ensures.1 (subst (IsAllowed next) none leads.allowed)),
    )

pub is_text_counted-returns-then-is_empty-clause-count : goal.is_text_counted-returns-then-is_empty-clause-count
is_text_counted-returns-then-is_empty-clause-count g t c = λ allowed m means. (
    let leads = (c.loop-node.invariant.reduces allowed).there means.pairs means.lists in
    let end = deep_no_node leads.inner (nothing_begins g.K.ZeroTrieWithOptions.kind c.loop-node.at.rest.now c.in_default.ensures.node) in
    let counts = leads.counts in
    let deep_is = end.1 in
    let one = c.loop-node.invariant.shallow.0 in
    omega arith
    )

-- bytes are left, of which no node begins
left : (g : _) (t : _) (c : goal.is_text_counted-Else-is_empty g t) → IsAllowed c.args.expected (take c.args.len c.args.tail.now) → IsText g.K.ZeroTrieWithOptions.kind (take c.args.len c.args.tail.now) → ⊥
left g t c allowed text =
    let leads = (c.loop-node.invariant.reduces allowed).there text.0 text.1 in
    let end = deep_no_node leads.inner (nothing_begins g.K.ZeroTrieWithOptions.kind c.loop-node.at.rest.now c.in_default.ensures.node) in
    let some : length c.loop-node.at.rest.now ≡ 0 → ⊥ = eqb-false _ _ (sym c.is_empty.ensures ∙ c.if-is_empty.false) in
    some (ap length end.0)

pub is_text_counted-returns-else-is_empty-clause-yes : goal.is_text_counted-returns-else-is_empty-clause-yes
is_text_counted-returns-else-is_empty-clause-yes g t c = (λ e. absurd (let f = c.if-is_empty.false in cc), λ well. absurd (left g t c well.0 (well_text well.1)))

pub is_text_counted-returns-else-is_empty-clause-count : goal.is_text_counted-returns-else-is_empty-clause-count
is_text_counted-returns-else-is_empty-clause-count g t c = λ allowed m means. absurd (left g t c allowed (means.pairs, means.lists))
