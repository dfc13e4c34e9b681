-- What lies after a byte of a node.
use Rattle.std.proofs.Common.{◌≡◌, ℕ, ◌+◌, ◌-◌, ◌*◌, ◌<◌, ◌≤◌, List, [], ◌∷◌, length, sym, ◌∙◌, ap, subst, arith, Some, None, get_or, take, drop}
use Rattle.std.specs.Borrow.{Bor}
use Rattle.zerotrie_base.specs.Kind.{Kind, fold_byte}
use Rattle.zerotrie_base.specs.Branches.{IsTable}
use Rattle.zerotrie_base.specs.Maps.{Pairs, value_at, residual}
use Rattle.zerotrie_base.specs.Texts.{Lists}
use Rattle.zerotrie_base.specs.Nodes.{IsTargetResult}
use Rattle.zerotrie_base.specs.Nodes.Shape.{literal, branch}
use Rattle.zerotrie_base.specs.Cursors.{met, edge_like}
use Rattle.zerotrie_base.specs.reader.Reading.{IsPlace, HasNoPlace}
use Rattle.zerotrie_core.specs.reader.Going.{Goes, Stops, AlwaysGoes, AlwaysStops}
use Rattle.zerotrie_base.proofs.NodeLemmas.Tables.{NoneLike, Each-at}
use Rattle.zerotrie_base.proofs.MapLemmas.Targets.{like_none, like_some, each_none, each_behind, met_each}
use Rattle.zerotrie_base.proofs.NodeLemmas.Offsets.{target_is}
use Rattle.zerotrie_base.proofs.NodeLemmas.Nodes.{dropped}
use Rattle.zerotrie_base.proofs.NodeLemmas.Opened.{Opens, held_edge, literal_opens, branch_opens}

-- after an edge stands its target, and a byte that is no edge leads nowhere
pub opens_goes : {kind : Kind} {bytes : List ℕ} {pairs : Pairs} {edges : List ℕ} {targets : List (List ℕ)} (text : Lists kind bytes pairs) → (o : Opens text edges targets)
    → (c i : ℕ) → i < length edges → fold_byte kind (get_or edges i 0) ≡ fold_byte kind c → Goes text c (get_or edges i 0) (get_or targets i [])
opens_goes {kind = kind} {edges = edges} text o c i h same =
    let f = each_behind o.each o.distinct i h in
    record {
      edge = ap (λ p. edge_like kind c (met p)) o.same ∙ ap (edge_like kind c) (met_each o.each o.distinct) ∙ like_some kind c i edges o.distinct h same;
      below = f.below;
      inner = f.inner;
      is = f.is ∙ ap (residual (get_or edges i 0)) (sym o.same);
      answers = λ key. ap (λ p. value_at kind p (c ∷ key)) o.same ∙ f.answers c same key;
      counts = λ key. o.counts c key ∙ ap (λ n. 1 + n) (f.counts c same key);
    }

pub opens_stops : {kind : Kind} {bytes : List ℕ} {pairs : Pairs} {edges : List ℕ} {targets : List (List ℕ)} (text : Lists kind bytes pairs) → (o : Opens text edges targets) → (c : ℕ) → NoneLike kind c edges → Stops text c
opens_stops {kind = kind} {edges = edges} text o c none =
    let f = each_none o.each c none in
    record {
      edge = ap (λ p. edge_like kind c (met p)) o.same ∙ ap (edge_like kind c) (met_each o.each o.distinct) ∙ like_none kind c edges none;
      answers = λ key. ap (λ p. value_at kind p (c ∷ key)) o.same ∙ f.0 key;
      counts = λ key. o.counts c key ∙ ap (λ n. 1 + n) (f.1 key);
    }

-- a literal
pub literal_along : (kind : Kind) (b c : ℕ) (rest : List ℕ) → fold_byte kind b ≡ fold_byte kind c → AlwaysGoes kind (literal b rest) c b rest
literal_along kind b c rest same bytes pairs text begins = opens_goes text (literal_opens text b rest begins.0 begins.1) c 0 (omega arith) same

pub literal_past : (kind : Kind) (b c : ℕ) (rest : List ℕ) → (fold_byte kind b ≡ fold_byte kind c → ⊥) → AlwaysStops kind (literal b rest) c
literal_past kind b c rest other bytes pairs text begins = opens_stops text (literal_opens text b rest begins.0 begins.1) c (λ same. other (sym same), tt)

-- a branch: the place of an edge, and what its target is read as
module _ (kind : Kind) (n w : ℕ) (table behind : List ℕ) (c : ℕ) where
  pub follow_goes : (place : ℕ) (target : Bor (List ℕ)) → IsPlace kind n behind c place → IsTargetResult n w behind place (Some target) → AlwaysGoes kind (branch n w table behind) c (get_or behind place 0) target.now
  follow_goes place target is got bytes pairs text begins =
      let o = branch_opens text n w table behind begins in
      let here = held_edge o.holds place is.0 in
      let count = o.holds.count in
      let g = opens_goes text o.opens c place (omega arith) (ap (fold_byte kind) here ∙ is.1) in
      subst (λ b. Goes text c b target.now) here
      (subst (λ t. Goes text c (get_or o.edges place 0) t) (sym (target_is o.holds.has_targets place (Some target) is.0 got)) g)

  pub follow_some : (place : ℕ) → place < n → IsTargetResult n w behind place None → AlwaysStops kind (branch n w table behind) c
  follow_some place h got bytes pairs text begins = absurd (target_is (branch_opens text n w table behind begins).holds.has_targets place None h got)

  pub follow_stops : (IsTable kind (take n behind) table → HasNoPlace kind n behind c) → AlwaysStops kind (branch n w table behind) c
  follow_stops none bytes pairs text begins =
      let o = branch_opens text n w table behind begins in
      let count = o.holds.count in
      let is_table = subst (λ es. IsTable kind es table) (sym o.holds.edges_are) o.holds.is_table in
      opens_stops text o.opens c (Each-at (λ e. fold_byte kind c ≡ fold_byte kind e → ⊥) o.edges (λ k h e. (
      let inside : k < n = omega arith in
      none is_table k inside (ap (fold_byte kind) (sym (held_edge o.holds k inside)) ∙ sym e)
      )))

-- a target is no longer than what stands after the head
pub target_shorter : (n w : ℕ) (behind : List ℕ) (place : ℕ) (r : Bor (List ℕ)) → IsTargetResult n w behind place (Some r) → length r.now ≤ length behind
target_shorter n w behind place r g =
    let whole = dropped n behind in
    let targets = dropped (w * (n - 1)) (drop n behind) in
    omega (arith, ap length g.0.2)
