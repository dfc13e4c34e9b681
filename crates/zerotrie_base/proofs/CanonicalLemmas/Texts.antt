-- The same bytes list the same pairs, and mean one map.
use Rattle.std.proofs.Common.{◌≡◌, ℕ, suc, ◌+◌, ◌<◌, List, [], ◌∷◌, ◌++◌, length, refl, sym, ◌∙◌, ap, subst, arith, get_or}
use Rattle.zerotrie_base.specs.Kind.{Kind}
use Rattle.zerotrie_base.specs.Maps.{Pairs, Map, with_front, with_run, map_of}
use Rattle.zerotrie_base.specs.Texts.{Lists, ListEach, Means}
use Rattle.zerotrie_base.specs.Texts.Lists.{nothing, value, literal, span, branch}
use Rattle.zerotrie_base.specs.Texts.ListEach.{no_edge, edge}
use Rattle.zerotrie_base.proofs.NodeLemmas.Offsets.{HasTargets, target_between}
use Rattle.zerotrie_base.proofs.CanonicalLemmas.Canonical.{nil_end}
use Rattle.zerotrie_base.proofs.NodeLemmas.Opened.{is_begun, is_held, value_opens, literal_opens, span_opens, branch_opens, nothing_listed}

from_places : (ts us : List (List ℕ)) → length ts ≡ length us → ((i : ℕ) → i < length ts → get_or ts i [] ≡ get_or us i []) → ts ≡ us
from_places [] [] n h = refl
from_places [] (u ∷ us) n h = absurd (omega arith)
from_places (t ∷ ts) [] n h = absurd (omega arith)
from_places (t ∷ ts) (u ∷ us) n h = let e = h 0 (omega arith) in let f = from_places ts us (omega arith) (λ i l. h (suc i) (omega arith)) in cc

-- one list of targets lies in the same bytes
same_targets : (n w : ℕ) (behind : List ℕ) (ts us : List (List ℕ)) → HasTargets ts n w behind → HasTargets us n w behind → ts ≡ us
same_targets n w behind ts us a b =
    let na = a.count in
    from_places ts us (na ∙ sym b.count) (λ i h. let inside : i < n = omega arith in sym (target_between a i inside) ∙ target_between b i inside)

-- The pairs of the first target, and those after it.
record First (kind : Kind) (e : ℕ) (edges target : List ℕ) (targets : List (List ℕ)) (pairs : Pairs) : Type 0 where
  below : Pairs
  inner : Lists kind target below
  more : Pairs
  later : ListEach kind edges targets more
  is : pairs ≡ with_front e below ++ more

first_of : {kind : Kind} {e : ℕ} {edges target : List ℕ} {targets : List (List ℕ)} {pairs : Pairs} → ListEach kind (e ∷ edges) (target ∷ targets) pairs → First kind e edges target targets pairs
first_of (edge {pairs = p} {more = m} n text each) = record { below = p; inner = text; more = m; later = each; is = refl }

none_of : {kind : Kind} {pairs : Pairs} → ListEach kind [] [] pairs → pairs ≡ []
none_of no_edge = refl

join_pairs : (e : ℕ) (xs ys more more' : Pairs) → xs ≡ ys → more ≡ more' → with_front e xs ++ more ≡ with_front e ys ++ more'
join_pairs e xs ys more more' p q = ap (λ x. with_front e x ++ more) p ∙ ap (λ x. with_front e ys ++ x) q

mutual
  listed_once : {kind : Kind} {bytes : List ℕ} {pairs pairs' : Pairs} → Lists kind bytes pairs → Lists kind bytes pairs' → pairs ≡ pairs'
  listed_once nothing text' = sym (nothing_listed text' refl)
  listed_once (value {v = v} {spelling = spelling} {rest = rest} s n text) text' =
      let h = value_opens text' v rest (record { spelling = spelling; spells = s; bytes_are = refl }) in
      ap (λ x. ([], v) ∷ x) (listed_once text h.inner) ∙ sym h.is
  listed_once (literal {b = b} {rest = rest} {pairs = p} low n text) text' =
      let o = literal_opens text' b rest low refl in
      let f = first_of o.each in
      sym (nil_end (with_front b p)) ∙ join_pairs b p f.below [] f.more (listed_once text f.inner) (sym (none_of f.later)) ∙ sym f.is ∙ sym o.same
  listed_once (span {spelling = spelling} {rest = rest} run h some high s n f text) text' =
      let o = span_opens text' run rest (record { spelling = spelling; spells = s; bytes_are = refl }) in
      ap (with_run run) (listed_once text o.inner) ∙ sym o.is
  listed_once {kind = kind} (branch {edges = edges} {targets = targets} b each) text' =
      let begun = is_begun b in
      let o = branch_opens text' (length edges) (b.width + 1) _ _ begun in
      let own = is_held (length edges) (b.width + 1) _ _ b begun in
      let edges_same : o.edges ≡ edges = sym o.holds.edges_are ∙ own.edges_are in
      let targets_same : o.targets ≡ targets = same_targets (length edges) (b.width + 1) _ o.targets targets o.holds.has_targets own.has_targets in
      each_once each (subst (λ es. ListEach kind es targets o.opens.all) edges_same (subst (λ ts. ListEach kind o.edges ts o.opens.all) targets_same o.opens.each)) ∙ sym o.opens.same

  each_once : {kind : Kind} {edges : List ℕ} {targets : List (List ℕ)} {pairs pairs' : Pairs} → ListEach kind edges targets pairs → ListEach kind edges targets pairs' → pairs ≡ pairs'
  each_once no_edge each' = sym (none_of each')
  each_once (edge {e = e} {pairs = p} {more = m} n text each) each' =
      let f = first_of each' in
      join_pairs e p f.below m f.more (listed_once text f.inner) (each_once each f.later) ∙ sym f.is

pub lists_once : {kind : Kind} {bytes : List ℕ} {pairs : Pairs} → Lists kind bytes pairs → {bytes' : List ℕ} {pairs' : Pairs} → bytes ≡ bytes' → Lists kind bytes' pairs' → pairs ≡ pairs'
lists_once {kind = kind} text {pairs' = pairs'} e text' = listed_once text (subst (λ x. Lists kind x pairs') (sym e) text')

-- The same bytes mean one map.
pub means_once : (kind : Kind) (bytes : List ℕ) (m n : Map) → Means kind bytes m → Means kind bytes n → m ≡ n
means_once kind bytes m n a b = a.is ∙ ap map_of (listed_once a.lists b.lists) ∙ sym b.is
