use Rattle.std.proofs.Common.{◌≡◌, ◌∙◌, ◌-◌, ◌≤◌, drop, length, arith, sym, ap, subst}
use Rattle.std.proofs.lemmas.List.{length-drop, length-replicate}
use Rattle.zerotrie_core.specs.Maps.{map_of}
use Rattle.zerotrie_core.specs.Canonical.{size}
use Rattle.zerotrie_core.specs.ArrayRoutes.{IsArrayBuilt}
use Rattle.zerotrie_core.proofs.CallerLemmas.{ascends_in_apart}
use Rattle.zerotrie_build.specs.Items.{pairs}
use Rattle.zerotrie_ascii.proofs.array.fill.Goals as goal

pub returns-then-start-gt0 : goal.returns-then-start-gt0
returns-then-start-gt0 g c =
    let all = pairs c.args.items in
    let bytes = c.fill_from_end_as.new.buffer in
    let start = c.in_ok-start.start in
    let built = c.in_ok-start.ensures.build.0 in
    let full : length bytes ≡ g.row.N = c.fill_from_end_as.auto.buffer ∙ length-replicate g.row.N 0 in
    let within : start ≤ g.row.N = subst (λ n. start ≤ n) (length-replicate g.row.N 0) c.in_ok-start.ensures.within in
    let left : length (drop start bytes) ≡ g.row.N - start = length-drop start bytes ∙ ap (λ n. n - start) full in
    let needed : g.row.N - start ≡ size g.K.ZeroTrieWithOptions.kind (map_of all) = sym left ∙ c.length_is_size.ensures g.K.ZeroTrieWithOptions.kind _ (map_of all) built.built.means in
    (ascends_in_apart g.K.ZeroTrieWithOptions.kind all built.ascends, built.built.fits, needed, let some = c.if-start-gt0.true in omega (arith, within))

pub returns : goal.returns
returns g c =
    let all = pairs c.args.items in
    let bytes = c.fill_from_end_as.new.buffer in
    let full : length bytes ≡ g.row.N = c.fill_from_end_as.auto.buffer ∙ length-replicate g.row.N 0 in
    let none : c.in_ok-start.start ≡ 0 = let first = c.if-start-gt0.false in omega (arith, first) in
    let built : IsArrayBuilt g.K.ZeroTrieWithOptions.kind g.row.STACK all bytes = subst (λ n. IsArrayBuilt g.K.ZeroTrieWithOptions.kind g.row.STACK all (drop n bytes)) none c.in_ok-start.ensures.build.0 in
    let size = c.length_is_size.ensures g.K.ZeroTrieWithOptions.kind bytes (map_of all) built.built.means in
    (subst (IsArrayBuilt g.K.ZeroTrieWithOptions.kind g.row.STACK all) (sym c.from_store.ensures) built, sym size ∙ full)
