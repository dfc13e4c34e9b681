use Rattle.std.proofs.Common.{refl, rules, ◌≡◌, ◌≤◌, [], sym, ◌∙◌, ap, subst, arith, length, reverse}
use Rattle.std.proofs.lemmas.List.{append-nil}
use Rattle.std.proofs.lemmas.Result.{err_from_is_err_and}
use Rattle.zerotrie_base.specs.Canonical.{size_of}
use Rattle.zerotrie_base.specs.Maps.{map_of}
use Rattle.zerotrie_base.specs.Fits.{ExceedsCapacity}
use Rattle.zerotrie_build.specs.declared.measure.Turn.TheVariants.{Window as NextWindow, Whole}
use Rattle.zerotrie_build.specs.Order.{Ordered, AreKeys}
use Rattle.zerotrie_build.specs.passes.Windows.{window}
use Rattle.zerotrie_build.specs.passes.Measured.{AreSlotsOf, whole_window}
use Rattle.zerotrie_build.specs.passes.Walking.{IsInside, Closing, IsOpened, IsTurn, IsNextWindow}
use Rattle.zerotrie_build.specs.passes.Walking.IsInside.{outside}
use Rattle.zerotrie_build.proofs.WindowLemmas.Windows.{cut_whole}
use Rattle.zerotrie_build.proofs.WindowLemmas.NodeRuns.{along, stopped}
use Rattle.zerotrie_build.proofs.Stacks.{popped}
use Rattle.zerotrie_build.proofs.MeasureLemmas.Inner.{waits_placed}
use Rattle.zerotrie_build.proofs.MeasureLemmas.Last.{waits_opened, opened_less}
use Rattle.zerotrie_build.proofs.MeasureLemmas.Slots.{kept_end, exceeds_size}
use Rattle.zerotrie_build.proofs.measure.measure_all.Goals as goal

pub loop-pass-init : goal.loop-pass-init
loop-pass-init g c = record {
  items = c.in_ok-pass.ensures.items;
  waits =
      let m = c.in_ok-pass.pass in
      let e = c.in_ok-pass.ensures in
      let kind = g.K.ZeroTrieWithOptions.kind in
      let all = g.I.IndexedItems.pairs c.args.items in
      let to : c.len.result ≡ length all = search rules in
      subst (λ w. IsInside kind all w (reverse m.branches.items) m.slots.items) (sym c.new-window.ensures)
      (subst (λ x. IsInside kind all (record { from = 0; to = x; depth = 0 }) (reverse m.branches.items) m.slots.items) (sym to)
      (subst (λ x. IsInside kind all (whole_window all) (reverse x) m.slots.items) (sym e.branches) (subst (IsInside kind all (whole_window all) []) (sym e.slots) outside)));
}

pub after_nodes-requires : goal.after_nodes-requires
after_nodes-requires g c =
    let p = waits_placed c.loop-pass.invariant.waits c.requires.keys c.requires.ordered in
    λ k. ((refl, tt), (c.requires.keys, (c.requires.ascii, (p.within, p.ordered))))

pub returns-in_err-rest-clause-refused : goal.returns-in_err-rest-clause-refused
returns-in_err-rest-clause-refused g c =
    let small = (waits_placed c.loop-pass.invariant.waits c.requires.keys c.requires.ordered).small in
    let p = err_from_is_err_and c.from_residual-in_err-rest.result c.from_residual-in_err-rest.ensures.1 in
    let r = c.in_err-rest.ensures.refused in
    rw (p.1, p.2) (λ memory. (r.0, (let large = r.1 in exceeds_size g.K.ZeroTrieWithOptions.kind (g.I.IndexedItems.pairs c.args.items) (omega arith))))

pub push_branch-requires : goal.push_branch-requires
push_branch-requires g c =
    let v = c.loop-pass.invariant in
    let p = waits_placed v.waits c.requires.keys c.requires.ordered in
    let a = along c.in_ok-rest.ensures.run p.within c.requires.keys p.ordered in
    let to = a.to_is in let within = p.within in
    let all = subst (λ x. c.in_ok-rest.rest.to ≤ length (g.I.IndexedItems.pairs x)) (sym v.items) (omega arith) in
    let ordered = subst (λ x. Ordered g.K.ZeroTrieWithOptions.kind (window (g.I.IndexedItems.pairs x) c.in_ok-rest.rest)) (sym v.items) a.ordered in
    let branch = stopped g.K.ZeroTrieWithOptions.kind (g.I.IndexedItems.pairs c.args.items) c.in_ok-rest.rest c.in_ok-rest.ensures.stops c.if-rest.true in
    λ k. ((refl, tt), (all, (c.if-rest.true, (c.in_ok-rest.ensures.room branch, ordered))))

pub loop-pass-smaller-then-rest : goal.loop-pass-smaller-then-rest
loop-pass-smaller-then-rest g c =
    opened_less c.in_ok-window.ensures.opened c.if-rest.true c.in_ok-window.ensures.few

pub loop-pass-preserved-then-rest : goal.loop-pass-preserved-then-rest
loop-pass-preserved-then-rest g c =
    let kind = g.K.ZeroTrieWithOptions.kind in
    let all = g.I.IndexedItems.pairs c.args.items in
    let v = c.loop-pass.invariant in
    let o = c.in_ok-window.ensures.opened in
    let m = c.loop-pass.pass in
    let n = c.push_branch.new.self in
    let placed = waits_placed v.waits c.requires.keys c.requires.ordered in
    let branch = stopped kind all c.in_ok-rest.rest c.in_ok-rest.ensures.stops c.if-rest.true in
    let opened = subst (λ x. IsOpened kind (g.I.IndexedItems.pairs x) c.in_ok-rest.rest c.in_ok-rest.len c.in_ok-window.window m.slots.items m.branches.items n.slots.items n.branches.items) v.items o in
    record {
      items = c.in_ok-window.ensures.items ∙ v.items;
      waits = subst (λ x. IsInside kind all c.in_ok-window.window x n.slots.items) (sym (popped n.branches.items m.branches.items _ opened.branches_are))
          (waits_opened v.waits placed c.in_ok-rest.ensures.run branch c.if-rest.true (c.in_ok-rest.ensures.room branch) opened);
    }

pub close-requires : goal.close-requires
close-requires g c =
    let kind = g.K.ZeroTrieWithOptions.kind in
    let v = c.loop-pass.invariant in
    let placed = waits_placed v.waits c.requires.keys c.requires.ordered in
    let slots = c.loop-pass.pass.slots.items in
    let k = kept_end kind (g.I.IndexedItems.pairs c.args.items) c.loop-pass.window c.in_ok-rest.rest c.in_ok-rest.len placed c.requires.keys c.in_ok-rest.ensures.run c.in_ok-rest.ensures.stops (let t = c.if-rest.false in omega arith) in
    let closing =
    subst (λ x. Closing kind (g.I.IndexedItems.pairs x) (reverse c.loop-pass.pass.branches.items) slots c.in_ok-rest.len) (sym v.items)
    (record { w = c.loop-pass.window; before = slots; own = []; waits = v.waits; kept = k.0; slots_are = sym (append-nil slots); len_is = k.1 }) in
    let keys = subst (λ x. AreKeys kind (g.I.IndexedItems.pairs x)) (sym v.items) c.requires.keys in
    let ordered = subst (λ x. Ordered kind (g.I.IndexedItems.pairs x)) (sym v.items) c.requires.ordered in
    λ k. ((refl, tt), (keys, (ordered, closing)))

pub returns-in_err-next-clause-refused : goal.returns-in_err-next-clause-refused
returns-in_err-next-clause-refused g c =
    let p = err_from_is_err_and c.from_residual-in_err-next.result c.from_residual-in_err-next.ensures.1 in
    let v = c.loop-pass.invariant in
    rw (p.1, p.2) (λ memory.
    let r = c.in_err-next.ensures.refused memory in
    (r.0, subst (λ x. ExceedsCapacity g.K.ZeroTrieWithOptions.kind (map_of (g.I.IndexedItems.pairs x))) v.items r.1))

pub loop-pass-smaller : goal.loop-pass-smaller
loop-pass-smaller g c =
    let less = c.in_ok-next.ensures.less (subst IsNextWindow (sym c.in-Window.is) tt) in
    let same = c.close.ensures.same in
    omega arith

pub loop-pass-preserved : goal.loop-pass-preserved
loop-pass-preserved g c =
    let v = c.loop-pass.invariant in
    record {
      items = c.close.ensures.items ∙ v.items;
      waits = subst (λ x. IsTurn g.K.ZeroTrieWithOptions.kind (g.I.IndexedItems.pairs x) (NextWindow c.in-Window.next) (reverse c.close.new.self.branches.items) c.close.new.self.slots.items) v.items
          (subst (λ t. IsTurn g.K.ZeroTrieWithOptions.kind (g.I.IndexedItems.pairs c.loop-pass.pass.items) t (reverse c.close.new.self.branches.items) c.close.new.self.slots.items) c.in-Window.is c.in_ok-next.ensures.turn);
    }

pub returns-in-Whole-clause-measured : goal.returns-in-Whole-clause-measured
returns-in-Whole-clause-measured g c =
    let v = c.loop-pass.invariant in
    let kind = g.K.ZeroTrieWithOptions.kind in
    let all = g.I.IndexedItems.pairs c.args.items in
    let t = subst (λ x. IsTurn kind (g.I.IndexedItems.pairs x) (Whole c.in-Whole.len) (reverse c.close.new.self.branches.items) c.close.new.self.slots.items) v.items
    (subst (λ t. IsTurn kind (g.I.IndexedItems.pairs c.loop-pass.pass.items) t (reverse c.close.new.self.branches.items) c.close.new.self.slots.items) c.in-Whole.is c.in_ok-next.ensures.turn) in
    record {
      keys = c.requires.keys;
      slots_are = subst (AreSlotsOf kind all (whole_window all)) (sym c.measured.ensures.slots) t.0;
      len_is = c.measured.ensures.len ∙ t.1 ∙ ap (size_of kind) (cut_whole all);
    }
