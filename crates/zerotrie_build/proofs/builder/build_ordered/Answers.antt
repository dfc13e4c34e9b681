use Rattle.std.proofs.Common.{◌<◌, ◌^◌, length, refl, [], ◌∷◌, sym, subst, Ok, arith}
use Rattle.std.specs.Prelude.{IsTrue}
use Rattle.std.proofs.lemmas.Result.{err_from_is_err_and}
use Rattle.zerotrie_build.specs.Order.{AreAsciiKeys}
use Rattle.zerotrie_build.specs.passes.Measured.{whole_window}
use Rattle.zerotrie_build.specs.passes.Writing.{position_at, text_of, IsPending}
use Rattle.zerotrie_build.specs.passes.Writes.{WrittenTo}
use Rattle.zerotrie_build.proofs.Building.{measured_refusal, written_build}
use Rattle.zerotrie_build.proofs.OrderLemmas.Sorting.{ordered_distinct}
use Rattle.zerotrie_build.proofs.WriteLemmas.Writing.{first_pushed, leads_start, left_start, left_end}
use Rattle.zerotrie_build.proofs.builder.build_ordered.Goals as goal

pub returns-in_err-measured : goal.returns-in_err-measured
returns-in_err-measured g c =
    let kind = g.K.ZeroTrieWithOptions.kind in
    let p = err_from_is_err_and c.from_residual.result c.from_residual.ensures.1 in
    rw (p.1, p.2) (measured_refusal kind (g.I.IndexedItems.pairs c.args.items) _ (ordered_distinct kind (g.I.IndexedItems.pairs c.args.items) c.requires.ordered) c.in_err-measured.ensures.refused)

pub put_pending-requires : goal.put_pending-requires
put_pending-requires g c =
    let kind = g.K.ZeroTrieWithOptions.kind in
    let all = g.I.IndexedItems.pairs c.args.items in
    let input = c.new-input.result in
    let m = c.in_ok-measured.ensures.measured in
    let start = c.in_ok-writing.ensures in
    let one = first_pushed all c.in_ok-pending.pending.items c.len.result c.in_ok-pending.ensures c.len.ensures in
    let written : WrittenTo kind all c.in_ok-writing.writing (whole_window all ∷ []) = left_start _ m start.empty start.len in
    let pending = subst (λ x. IsPending kind all input.slots.now (position_at 0 0) x (whole_window all ∷ [])) one
    (subst (λ x. IsPending kind all x (position_at 0 0) (text_of (whole_window all) ∷ []) (whole_window all ∷ [])) (sym c.new-input.ensures.slots) (leads_start m)) in
    let ascii = subst (λ x. IsTrue x → AreAsciiKeys all) (sym c.new-input.ensures.ascii) c.requires.ascii in
    λ k. ((refl, tt), (c.requires.keys, (ascii, (c.requires.ordered, (whole_window all ∷ [], written, pending)))))

pub into_store-requires : goal.into_store-requires
into_store-requires g c = let s = c.in_ok-put_pending.ensures.put.sized in omega arith

pub returns : goal.returns
returns g c =
    let kind = g.K.ZeroTrieWithOptions.kind in
    let all = g.I.IndexedItems.pairs c.args.items in
    let store = c.into_store.ensures in
    let short : length c.put_pending.new.self.bytes < 2 ^ 64 = rw (sym store.is) store.short in
    let means = left_end kind all c.put_pending.new.self [] refl short c.in_ok-put_pending.ensures.put in
    written_build kind g.S.TrieBuilderStore.list all (Ok c.into_store.result) c.meant_fits.ensures c.canonical_exactly.ensures.text
    (ordered_distinct kind all c.requires.ordered) (rw store.is means) tt
