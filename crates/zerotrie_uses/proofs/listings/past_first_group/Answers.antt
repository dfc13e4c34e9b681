use Rattle.std.proofs.Common.{◌≡◌, ◌∷◌, ◌∙◌, ℕ, List, Bool, true, false, Result, Ok, Err, refl, sym, ap, subst}
use Rattle.std.specs.Prelude.{IfOk, take}
use Rattle.std.specs.declared.alloc.AllocError.{AllocError}
use Rattle.zerotrie.specs.Maps.{Pairs}
use Rattle.zerotrie.specs.Listings.{Left, ListsOne, MemoryOnly, to_come, item_of}
use Rattle.zerotrie.specs.Skips.{Skips, NoneBegins}
use Rattle.zerotrie_uses.proofs.listings.past_first_group.Goals as goal

-- a call of `advance` that returns moves to the first pair, if there is one
moved : (more : Bool) (key : List ℕ) (value : ℕ) (first : List ℕ × ℕ) (others : Pairs) (after : Left)
    → ListsOne (λ k. k) MemoryOnly (to_come (first ∷ others)) (item_of (Ok more) (key, value)) after → (key ≡ first.0) × (after ≡ to_come others)
moved true key value first others after lists =
    let same : first ∷ others ≡ (key, value) ∷ after.pairs = ap (λ l. l.pairs) lists.0 in
    (cc, lists.1 ∙ cc)
moved false key value first others after lists = absurd (let none = lists.0 in cc)

pub returns-clause-skips : goal.returns-clause-skips
returns-clause-skips g c first others lists =
    let is = c.stream-pairs.ensures.lists (first ∷ others) lists in
    let at = moved c.in_ok-advance.field-0 c.advance.new.self.key c.advance.new.self.value first others c.advance.new.self.left
    (subst (λ left. ListsOne (λ k. k) MemoryOnly left (item_of (Ok c.in_ok-advance.field-0) (c.advance.new.self.key, c.advance.new.self.value)) c.advance.new.self.left) is c.in_ok-advance.ensures.lists) in
    subst (λ key. Skips (take c.args.depth key) (to_come others) c.skip.new.self.left) at.0
    (subst (λ left. Skips (take c.args.depth c.advance.new.self.key) left c.skip.new.self.left) at.1 c.skip.ensures.skips)

pub returns-clause-none : goal.returns-clause-none
returns-clause-none g c first others lists =
    let is = c.stream-pairs.ensures.lists (first ∷ others) lists in
    let at = moved c.in_ok-advance.field-0 c.advance.new.self.key c.advance.new.self.value first others c.advance.new.self.left
    (subst (λ left. ListsOne (λ k. k) MemoryOnly left (item_of (Ok c.in_ok-advance.field-0) (c.advance.new.self.key, c.advance.new.self.value)) c.advance.new.self.left) is c.in_ok-advance.ensures.lists) in
    let grouped = c.in_ok-advance.ensures.grouped (c.stream-pairs.ensures.grouped (first ∷ others) lists) in
    subst (λ key. NoneBegins (take c.args.depth key) c.skip.new.self.left.pairs) at.0 (c.skip.ensures.all grouped)
