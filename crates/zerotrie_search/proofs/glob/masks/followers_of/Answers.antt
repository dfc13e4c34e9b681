use Rattle.std.proofs.Common.{◌≡◌, ◌<◌, ◌+◌, ◌-◌, ◌∙◌, ℕ, List, length, drop, refl, ap, sym, subst, arith}
use Rattle.std.proofs.lemmas.List.{length-set}
use Rattle.std.proofs.lemmas.Nat.Bits.{bit_at-zero}
use Rattle.zerotrie_search.specs.Globs.{Item}
use Rattle.zerotrie_search.specs.GlobMasks.{after_first, AreRoles}
use Rattle.zerotrie_search.specs.GlobAheads.{AreAhead}
use Rattle.zerotrie_search.proofs.MarkLemmas.{last_match, none_other, none_behind, item_at, role_known, more_followers}
use Rattle.zerotrie_search.proofs.glob.masks.followers_of.Goals as goal

pub loop-place-init : goal.loop-place-init
loop-place-init c = record {
  whole = refl;
  within = omega arith;
  ahead = λ all len roles key. record {
    all = last_match c.args.last all key c.marked.result len c.marked.ensures.same (λ j ne. c.marked.ensures.other j ne ∙ bit_at-zero j);
    others = none_other c.args.last all key len;
    behind = none_behind c.args.last all key len;
  };
  are = λ all len roles p high low key. absurd (omega (arith, len, high, low));
}

pub loop-place-preserved : goal.loop-place-preserved
loop-place-preserved c =
    let l = c.loop-place in
    let p = l.place - 1 in
    let made = c.before-from in
    let some = c.loop-place-test.true in
    let inside : (all : List Item) → length all ≡ c.args.last → p < length all = λ all len. omega (arith, len, l.invariant.within, some) in
    let one : p + 1 ≡ l.place = omega (arith, some) in
    let known = λ (all : List Item) (len : length all ≡ c.args.last) (roles : AreRoles all c.args.roles).
    role_known p c.args.roles all (item_at p all (inside all len)).0 (inside all len) roles (item_at p all (inside all len)).1 in
    let so_far = λ (all : List Item) (len : length all ≡ c.args.last) (roles : AreRoles all c.args.roles) (key : List ℕ).
    subst (λ k. AreAhead all (drop k all) l.ahead key) (sym one) (l.invariant.ahead all len roles key) in
    let led = λ (all : List Item) (len : length all ≡ c.args.last) (roles : AreRoles all c.args.roles) (key : List ℕ).
    made.ensures (item_at p all (inside all len)).0 all key (item_at p all (inside all len)).1 (known all len roles) (so_far all len roles key) in
    let len = length-set l.followers p c.after.result in
    record {
      whole = omega (arith, len, l.invariant.whole);
      within = omega (arith, l.invariant.within);
      ahead = λ all len roles key. subst (λ is. AreAhead all is made.result key) (sym (item_at p all (inside all len)).1) (led all len roles key);
      are = λ all len roles. more_followers all l.followers p l.place c.after.result one (omega (arith, l.invariant.whole, l.invariant.within, some))
          (λ key. c.after.ensures (item_at p all (inside all len)).0 all (drop (p + 1) all) key (known all len roles) (so_far all len roles key) (led all len roles key)
          ∙ ap (λ is. after_first is key) (sym (item_at p all (inside all len)).1)) (l.invariant.are all len roles);
    }
