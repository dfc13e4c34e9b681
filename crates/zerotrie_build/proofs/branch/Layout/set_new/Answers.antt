use Rattle.std.proofs.Common.{sym, ap, ◌∙◌, ◌++◌, map, subst}
use Rattle.std.specs.Prelude.{nat_eq}
use Rattle.std.specs.List.{IsDistinct}
use Rattle.zerotrie_build.specs.passes.Writing.{place_in}
use Rattle.zerotrie_build.proofs.WriteLemmas.Layouts.{up_of, up_distinct, placed}
use Rattle.zerotrie_build.proofs.branch.Layout.set_new.Goals as goal

pub try_get_or_insert-requires : goal.try_get_or_insert-requires
try_get_or_insert-requires g c = subst (IsDistinct nat_eq) (sym (c.in_ok-keys.ensures.items ∙ c.as_slice.ensures.value)) (up_distinct _ (up_of _ c.requires))

pub keep-requires : goal.keep-requires
keep-requires g c =
    placed _ _ _ c.keys.result.now _ _ c.in_ok-table.ensures.table (c.in_ok-keys.ensures.items ∙ c.as_slice.ensures.value ∙ sym c.as_slice-3.ensures.value) c.keys.ensures c.as_bytes-bytes.ensures
    (c.as_slice-4.ensures.value ∙ c.in_ok-set_places.ensures ∙ ap (λ es. map (λ b. place_in es b) c.keys.result.now) (c.as_slice-2.ensures.value ∙ sym c.as_slice-3.ensures.value))

pub returns-clause-ok : goal.returns-clause-ok
returns-clause-ok g c =
    placed _ _ _ c.keys.result.now _ _ c.in_ok-table.ensures.table (c.in_ok-keys.ensures.items ∙ c.as_slice.ensures.value) c.keys.ensures
    (c.in_ok-extend_from_slice.ensures.items ∙ ap (λ x. x ++ c.as_bytes-bytes.result.now) c.clear.ensures.items ∙ c.as_bytes-bytes.ensures)
    (c.in_ok-set_places.ensures ∙ ap (λ es. map (λ b. place_in es b) c.keys.result.now) c.as_slice-2.ensures.value)
