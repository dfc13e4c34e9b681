use Rattle.std.proofs.Common.{◌≡◌, ◌∙◌, ap, sym, subst, refl, List, ℕ, Some}
use Rattle.std.specs.Prelude.{IsSome, IfNone}
use Rattle.zerotrie_base.specs.Hashes.{IsPerfectTable}
use Rattle.zerotrie_base.specs.Caches.{find, put}
use Rattle.zerotrie_base.proofs.CacheLemmas.{left}
use Rattle.zerotrie_base.proofs.byte_phf.cached_owned.PerfectByteHashMapCacheOwned.try_get_or_insert.Goals as goal

pub returns : goal.returns
returns g c =
    let keys = c.args.keys.items in
    let before = c.args.self.now in
    let after = c.hold.new.self in
    let t = c.held_table.result.store.now in
    let same = c.as_slice.ensures.value in
    let same-2 = c.as_slice-2.ensures.value in
    let kept : IsSome (find keys before) → after ≡ before = λ some. (c.in_ok-hold.ensures.held (subst (λ k. IsSome (find k before)) (sym same) some)).1 in
    let new : IfNone (find keys before) ((table : List ℕ) × (after ≡ put keys table before)) =
    subst (λ k. IfNone (find k before) ((table : List ℕ) × (after ≡ put k table before))) same c.in_ok-hold.ensures.new in
    let there : find keys after ≡ Some t = ap (λ k. find k after) (sym same-2) ∙ c.held_table.ensures.found in (
      (refl, λ _. tt, left before after keys t kept new there),
      record { after = tt; table = subst (λ k. IsPerfectTable k t) same-2 c.held_table.ensures.perfect; succeeds = λ _. refl; refused = tt },
    )
