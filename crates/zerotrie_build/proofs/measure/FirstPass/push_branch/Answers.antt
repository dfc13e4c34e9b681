use Rattle.std.proofs.Common.{rules, ◌≡◌, ◌+◌, [], ◌∷◌, ◌++◌, get_or, sym, ◌∙◌, ap, arith, length, length-append, replicate}
use Rattle.std.proofs.lemmas.List.{length-map}
use Rattle.zerotrie_build.specs.declared.windows.Window.{Window}
use Rattle.zerotrie_build.specs.declared.measure.OpenBranch.{OpenBranch}
use Rattle.zerotrie_build.specs.passes.Walking.{item_ends, spare_len}
use Rattle.zerotrie_build.proofs.MeasureLemmas.Last.{wide_slots, plain_slots, first_to}
use Rattle.zerotrie_build.proofs.measure.FirstPass.push_branch.Goals as goal
use Rattle.zerotrie_build.proofs.measure.FirstPass.push_branch.Goals.{then-is_hashed+in_ok-resize, else-is_hashed}

pub returns-clause-opened : goal.returns-clause-opened
returns-clause-opened g c =
    let kind = g.K.ZeroTrieWithOptions.kind in
    let p = c.in_ok-push_ends.ensures.ends in
    let slots = c.args.self.now.slots.items in
    let first : c.len-first.result ≡ length slots = search rules in
    let end : c.len-end.result ≡ length c.push_ends.new.self.slots.items = search rules in
    let slots_are : c.if-is_hashed.self.slots.items ≡ slots ++ (item_ends p.0 ++ replicate (spare_len kind (length p.0)) 0) = elim c.if-is_hashed.branch [
      | then-is_hashed+in_ok-resize w ↦ ap (λ s. s.slots.items) w.self-is ∙ wide_slots kind slots c.push_ends.new.self.slots.items w.resize.new.self.items p.0 c.len-first.result c.len-end.result p.2 first end (sym c.is_hashed.ensures ∙ w.if-is_hashed.true) (search rules)
      | else-is_hashed w ↦ ap (λ s. s.slots.items) w.self-is ∙ plain_slots kind slots c.push_ends.new.self.slots.items p.0 c.len-first.result c.len-end.result p.2 first end (sym c.is_hashed.ensures ∙ w.if-is_hashed.false)
    ] in
    let branches : c.if-is_hashed.self.branches.items ≡ c.args.self.now.branches.items = elim c.if-is_hashed.branch [
      | then-is_hashed+in_ok-resize w ↦ ap (λ s. s.branches.items) w.self-is ∙ c.in_ok-push_ends.ensures.branches
      | else-is_hashed w ↦ ap (λ s. s.branches.items) w.self-is ∙ c.in_ok-push_ends.ensures.branches
    ] in
    let n = ap length p.2 ∙ length-append slots (item_ends p.0) in
    let m = length-map p.0 (λ c. c.to) in
    record {
      targets = p.0;
      parts = p.1;
      slots_are = slots_are;
      end = c.len-end.result;
      end_is = omega arith;
      branches_are = c.in_ok-push.ensures.items
          ∙ ap (λ b. c.if-is_hashed.self.branches.items ++ b ∷ []) c.new-branch.ensures
          ∙ ap (λ n. c.if-is_hashed.self.branches.items ++ record { from = c.args.window.from; depth = c.args.window.depth; len = c.args.len; first = n; next = n; end = c.len-end.result } ∷ []) first
          ∙ ap (λ x. x ++ record { from = c.args.window.from; depth = c.args.window.depth; len = c.args.len; first = length slots; next = length slots; end = c.len-end.result } ∷ []) branches;
      from = ap (λ (w : Window). w.from) c.target_of.ensures ∙ ap (λ (b : OpenBranch). b.from) c.new-branch.ensures;
      to = λ t more e. ap (λ (w : Window). w.to) c.target_of.ensures ∙ ap (λ (b : OpenBranch). get_or c.if-is_hashed.self.slots.items b.next 0) c.new-branch.ensures ∙ first_to slots c.if-is_hashed.self.slots.items c.len-first.result p.0 t more (replicate (spare_len kind (length p.0)) 0) slots_are first e;
      depth = ap (λ (w : Window). w.depth) c.target_of.ensures ∙ ap (λ (b : OpenBranch). b.depth + 1) c.new-branch.ensures;
    }
