-- A look-up against the grammar, node by node.
use Rattle.std.proofs.Common.{◌≡◌, ℕ, ◌+◌, ◌<◌, List, [], ◌∷◌, ◌++◌, length, refl, sym, ◌∙◌, ap, subst, arith, Option, Some, None}
use Rattle.std.specs.Option.{option_map_or}
use Rattle.std.proofs.lemmas.Bool.{eq-eqb}
use Rattle.zerotrie_base.specs.Kind.{Kind}
use Rattle.zerotrie_base.specs.Maps.{Pairs, value_at, after_run}
use Rattle.zerotrie_base.specs.Texts.{Lists, nodes}
use Rattle.zerotrie_base.specs.Nodes.{Shape, Begins}
use Rattle.zerotrie_base.specs.Nodes.Shape.{value, literal, span, branch}
use Rattle.zerotrie_base.specs.reader.Reading.{Finds, Comes, AlwaysFinds, AlwaysComes}
use Rattle.zerotrie_core.specs.reader.Going.{AlwaysGoes, AlwaysStops}
use Rattle.zerotrie_core.specs.reader.Descending.{NodeEnds, NodeGoes}
use Rattle.zerotrie_base.proofs.NumberLemmas.Numbers.{after_shorter}
use Rattle.zerotrie_base.proofs.MapLemmas.Kinds.{spans_fold}
use Rattle.zerotrie_base.proofs.NodeLemmas.Nodes.{span_shorter}
use Rattle.zerotrie_base.proofs.MapLemmas.Spans.{after_is, value_at-run}
use Rattle.zerotrie_base.proofs.MapLemmas.Values.{behind_none}
use Rattle.zerotrie_base.proofs.NodeLemmas.Opened.{Opens, HasSpan, value_opens, literal_opens, span_opens, branch_opens, no_node}

-- the key ends at a node: only a value answers
opens_ends : {kind : Kind} {bytes : List ℕ} {pairs : Pairs} {edges : List ℕ} {targets : List (List ℕ)} (text : Lists kind bytes pairs) → Opens text edges targets → Finds text [] None 1
opens_ends {kind = kind} text o = record { answers = ap (λ p. value_at kind p []) o.same ∙ behind_none o.each; counts = o.here }

pub value_ends : (kind : Kind) (v : ℕ) (rest key : List ℕ) → key ≡ [] → NodeEnds kind (value v rest) key (Some v)
value_ends kind v rest key e bytes begins pairs text =
    let h = value_opens text v rest begins in
    subst (λ k. Finds text k (Some v) 1) (sym e) (record { answers = ap (λ p. value_at kind p []) h.is; counts = h.here })

pub literal_ends : (kind : Kind) (b : ℕ) (rest key : List ℕ) → key ≡ [] → NodeEnds kind (literal b rest) key None
literal_ends kind b rest key e bytes begins pairs text = subst (λ k. Finds text k None 1) (sym e) (opens_ends text (literal_opens text b rest begins.0 begins.1))

pub branch_ends : (kind : Kind) (n w : ℕ) (table behind key : List ℕ) → key ≡ [] → NodeEnds kind (branch n w table behind) key None
branch_ends kind n w table behind key e bytes begins pairs text = subst (λ k. Finds text k None 1) (sym e) (opens_ends text (branch_opens text n w table behind begins).opens)

-- a key that goes on passes over a value
pub value_goes : (kind : Kind) (v : ℕ) (rest key : List ℕ) → (length key ≡ 0 → ⊥) → NodeGoes kind (value v rest) key rest key 1
value_goes kind v rest [] some bytes begins = absurd (some refl)
value_goes kind v rest (c ∷ key) some bytes begins = (
  after_shorter 16 4 v bytes rest begins,
  omega (arith, after_shorter 16 4 v bytes rest begins),
  λ pairs text. (
      let h = value_opens text v rest begins in
      record { below = h.below; inner = h.inner; answers = ap (λ p. value_at kind p (c ∷ key)) h.is; counts = h.counts c key }
      ),
)

-- it goes on after the run of a span
after_run-append : (run after : List ℕ) → after_run run (run ++ after) ≡ Some after
after_run-append [] after = refl
after_run-append (b ∷ run) after = rw (eq-eqb b b refl) (after_run-append run after)

after_run-none : (run key : List ℕ) → ((after : List ℕ) → key ≡ run ++ after → ⊥) → after_run run key ≡ None
after_run-none run key none = by (after_run run key) refl
  where
    by : (o : Option (List ℕ)) → after_run run key ≡ o → after_run run key ≡ None
    by None e = e
    by (Some after) e = absurd (none after (after_is run key after e))

-- a span is found or passed by what the key has after its run
module _ {kind : Kind} {bytes : List ℕ} {pairs : Pairs} (text : Lists kind bytes pairs) (run rest : List ℕ) (h : HasSpan text run rest) (key : List ℕ) (o : Option (List ℕ)) (e : after_run run key ≡ o) where
  span_answers : value_at kind pairs key ≡ option_map_or (λ after. value_at kind h.below after) o None
  span_answers =
      ap (λ p. value_at kind p key) h.is
      ∙ value_at-run kind (spans_fold kind h.spans) run h.below key
      ∙ ap (λ x. option_map_or (λ after. value_at kind h.below after) x None) e

  span_counts : nodes text key ≡ 1 + option_map_or (λ after. nodes h.inner after) o 0
  span_counts = h.counts key ∙ ap (λ x. 1 + option_map_or (λ after. nodes h.inner after) x 0) e

pub span_goes : (kind : Kind) (run rest key after : List ℕ) → key ≡ run ++ after → NodeGoes kind (span run rest) key rest after 1
span_goes kind run rest key after e bytes begins = (
  span_shorter kind run rest bytes begins,
  omega (arith, span_shorter kind run rest bytes begins),
  λ pairs text. (
      let h = span_opens text run rest begins.1 in
      let there = ap (after_run run) e ∙ after_run-append run after in
      record { below = h.below; inner = h.inner; answers = span_answers text run rest h key (Some after) there; counts = span_counts text run rest h key (Some after) there }
      ),
)

pub span_ends : (kind : Kind) (run rest key : List ℕ) → ((after : List ℕ) → key ≡ run ++ after → ⊥) → NodeEnds kind (span run rest) key None
span_ends kind run rest key none bytes begins pairs text =
    let h = span_opens text run rest begins.1 in
    let gone = after_run-none run key none in
    record { answers = span_answers text run rest h key None gone; counts = span_counts text run rest h key None gone }

-- and goes by its next byte elsewhere
pub node_ends : (kind : Kind) (s : Shape) (c : ℕ) (key after : List ℕ) → key ≡ c ∷ after → AlwaysStops kind s c → NodeEnds kind s key None
node_ends kind s c key after e stops bytes begins pairs text =
    let f = stops bytes pairs text begins in
    subst (λ k. Finds text k None 1) (sym e) (record { answers = f.answers after; counts = f.counts after })

pub node_goes : (kind : Kind) (s : Shape) (c b : ℕ) (key after rest : List ℕ) → key ≡ c ∷ after → AlwaysGoes kind s c b rest → ((bytes : List ℕ) → Begins kind bytes s → length rest < length bytes) → NodeGoes kind s key rest after 1
node_goes kind s c b key after rest e goes short bytes begins = (
  short bytes begins,
  omega (arith, short bytes begins),
  λ pairs text. (
      let g = goes bytes pairs text begins in
      subst (λ k. Comes text k rest after 1) (sym e) (record { below = g.below; inner = g.inner; answers = g.answers after; counts = g.counts after })
      ),
)

-- from node to node
pub comes_nowhere : (kind : Kind) (bytes key : List ℕ) → AlwaysComes kind bytes key bytes key 0
comes_nowhere kind bytes key pairs text = record { below = pairs; inner = text; answers = refl; counts = omega arith }

pub comes_more : (kind : Kind) (bytes key trie rest more after : List ℕ) (count further : ℕ)
    → AlwaysComes kind bytes key trie rest count → AlwaysComes kind trie rest more after further → AlwaysComes kind bytes key more after (count + further)
comes_more kind bytes key trie rest more after count further came goes pairs text =
    let c = came pairs text in
    let g = goes c.below c.inner in
    let on = g.counts in
    let all = c.counts in
    record { below = g.below; inner = g.inner; answers = c.answers ∙ g.answers; counts = omega arith }

pub finds_at_end : (kind : Kind) (bytes key trie rest : List ℕ) (answer : Option ℕ) (count : ℕ) → AlwaysComes kind bytes key trie rest count → AlwaysFinds kind trie rest answer 1 → AlwaysFinds kind bytes key answer (count + 1)
finds_at_end kind bytes key trie rest answer count came ends pairs text =
    let c = came pairs text in
    let e = ends c.below c.inner in
    let one = e.counts in
    let all = c.counts in
    record { answers = c.answers ∙ e.answers; counts = omega arith }

-- if no node begins, nothing is found
pub finds_nothing : (kind : Kind) (bytes key trie rest : List ℕ) (count : ℕ) → AlwaysComes kind bytes key trie rest count → ((s : Shape) → Begins kind trie s → ⊥) → AlwaysFinds kind bytes key None count
finds_nothing kind bytes key trie rest count came none pairs text =
    let c = came pairs text in
    let empty = no_node c.inner none in
    let zero' = empty.counts rest in
    let all = c.counts in
    record { answers = c.answers ∙ ap (λ p. value_at kind p rest) empty.is; counts = omega arith }
