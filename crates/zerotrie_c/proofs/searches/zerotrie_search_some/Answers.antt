-- A search without a fault lists what it finds, and one with a fault writes nothing.
use Rattle.std.proofs.Common.{◌≡◌, ◌∙◌, Bool, List, ℕ, [], inl, inr, refl, ap, arith, length, subst, sym}
use Rattle.std.specs.Prelude.{◌&&◌}
use Rattle.std.specs.declared.ops.Bound.TheVariants.{Unbounded}
use Rattle.zerotrie_core.specs.Kinds.{kind_of}
use Rattle.zerotrie_core.specs.Maps.{begins_with}
use Rattle.zerotrie_core.specs.Texts.{Means}
use Rattle.zerotrie_core.specs.WellFormed.{IsWellFormed}
use Rattle.zerotrie_index.specs.Tries.{folded_key}
use Rattle.zerotrie_search.specs.Automata.{any_accepts, ignores_case}
use Rattle.zerotrie_search.specs.Searches.{accepted}
use Rattle.zerotrie_search.specs.Sorted.{within}
use Rattle.zerotrie_c.specs.Listed.{part, IsListedSome}
use Rattle.zerotrie_c.specs.Searched.{asks, bound_after, finds_below, or_beginnings}
use Rattle.zerotrie_c.specs.declared.searches.Asked.{Asked}
use Rattle.zerotrie_c.proofs.FoldLemmas.{exact_given, fault_given, finds_folded}
use Rattle.zerotrie_c.proofs.PartLemmas.{none_listed}
use Rattle.zerotrie_c.proofs.searches.zerotrie_search_some.Goals as goal

-- what is asked is what the search finds
abbrev asked_finds : goal.After-drop-texts-3 → Type 0
asked_finds c =
    let kind = kind_of c.in-Some.trie.kind in
    let asked : Asked = record { pairs = c.in-Ok-stream_sorted.pairs; prefix = record { kind = c.in-Some.trie.kind; prefix = c.args.prefix }; beginnings = c.args.search.now.beginnings } in
    ◌≡◌ {A = List ℕ → Bool} (asks asked (any_accepts c.in-Ok-folded_of.sought)) (finds_below kind c.args.search.now c.args.prefix.now)

as_asked : (c : goal.After-drop-texts-3) → asked_finds c
as_asked c =
    let kind = kind_of c.in-Some.trie.kind in
    let s = c.args.search.now in
    let found = ap (λ f key. f (folded_key kind key)) c.in-Ok-folded_of.ensures.ok
    ∙ finds_folded kind s c.in_place_of.result c.in-Ok-new.texts c.in-Ok-new.ensures c.in_place_of.ensures in
    ap {B = List ℕ → Bool} (λ (f : List ℕ → Bool) key. or_beginnings s.beginnings f key && begins_with kind c.args.prefix.now key) found

pub returns-clause-known : goal.returns-clause-known
returns-clause-known c =
    let page = c.unpack-2.ensures in
    let kind = kind_of c.in-Some.trie.kind in
    let bytes = c.in-Some.trie.bytes.now in
    let s = c.in-Ok-stream_sorted in
    let w = c.fill_sought in
    rw c.in-Some.ensures.kind (λ m means.
    let here : Means kind bytes m = subst (λ b. Means kind b m) (sym c.in-Some.ensures.bytes) means in
    let well : IsWellFormed s.pairs.kind s.pairs.bytes = rw (s.ensures.kind, s.ensures.bytes) (m, here) in
    let left = ap (λ l. l.pairs) (s.ensures.pairs m here) ∙ ap (λ b. within b Unbounded m) c.bound_after.ensures in
    let is = ap (λ f. accepted f s.pairs.left.pairs) (as_asked c) ∙ ap (accepted (finds_below kind c.args.search.now c.args.prefix.now)) left in
    inl (
      c.in-Ok.ensures.faultless,
      rw (page.status, page.count, page.next_len)
          (subst (λ ps. IsListedSome ps w.result.status (part c.args.keys.now c.args.ends.now c.args.values.now 0 c.args.next_len.now) (part w.new.keys w.new.ends w.new.values w.result.count w.result.next_len)) is (w.ensures.listed well)),
    ))

pub returns-clause-any : goal.returns-clause-any
returns-clause-any c =
    let page = c.unpack-2.ensures in
    let s = c.in-Ok-stream_sorted in
    let w = c.fill_sought in
    let some = w.ensures.any in
    let few = s.ensures.most in
    let same = ap length c.in-Some.ensures.bytes in
    let is = sym some.3 ∙ ap (λ f. accepted f some.0) (as_asked c) in
    rw c.in-Some.ensures.kind (
      some.0,
      omega (arith, some.1, few, same),
      inl (
        c.in-Ok.ensures.faultless,
        rw (page.status, page.count, page.next_len)
            (subst (λ ps. IsListedSome ps w.result.status (part c.args.keys.now c.args.ends.now c.args.values.now 0 c.args.next_len.now) (part w.new.keys w.new.ends w.new.values w.result.count w.result.next_len)) is some.2),
      ),
    )

pub returns-in_default-stream_sorted-clause-known : goal.returns-in_default-stream_sorted-clause-known
returns-in_default-stream_sorted-clause-known c =
    let page = c.unpack-in_default-stream_sorted.ensures in
    rw c.in-Some.ensures.kind (λ m means.
    inl (
      c.in-Ok.ensures.faultless,
      rw (page.status, page.count, page.next_len)
          (none_listed _ c.args.keys.now c.args.ends.now c.args.values.now c.args.next_len.now c.new-in_default-stream_sorted.ensures),
    ))

pub returns-in_default-stream_sorted-clause-any : goal.returns-in_default-stream_sorted-clause-any
returns-in_default-stream_sorted-clause-any c =
    let page = c.unpack-in_default-stream_sorted.ensures in
    rw c.in-Some.ensures.kind (
      [],
      omega arith,
      inl (
        c.in-Ok.ensures.faultless,
        rw (page.status, page.count, page.next_len)
            (none_listed [] c.args.keys.now c.args.ends.now c.args.values.now c.args.next_len.now c.new-in_default-stream_sorted.ensures),
      ),
    )

pub returns-in_default-new-clause-known : goal.returns-in_default-new-clause-known
returns-in_default-new-clause-known c =
    let page = c.unpack.ensures in
    rw c.in-Some.ensures.kind (λ m means.
    inl (
      c.in-Ok.ensures.faultless,
      rw (page.status, page.count, page.next_len)
          (none_listed _ c.args.keys.now c.args.ends.now c.args.values.now c.args.next_len.now c.new-none.ensures),
    ))

pub returns-in_default-new-clause-any : goal.returns-in_default-new-clause-any
returns-in_default-new-clause-any c =
    let page = c.unpack.ensures in
    rw c.in-Some.ensures.kind (
      [],
      omega arith,
      inl (
        c.in-Ok.ensures.faultless,
        rw (page.status, page.count, page.next_len)
            (none_listed [] c.args.keys.now c.args.ends.now c.args.values.now c.args.next_len.now c.new-none.ensures),
      ),
    )

pub returns-in-Err-clause-known : goal.returns-in-Err-clause-known
returns-in-Err-clause-known c = rw c.in-Some.ensures.kind (λ m means. inr (c.in-Err.ensures.fault, refl))

pub returns-in-Err-clause-any : goal.returns-in-Err-clause-any
returns-in-Err-clause-any c = rw c.in-Some.ensures.kind ([], omega arith, inr (c.in-Err.ensures.fault, refl))

pub returns-in-Err-folded_of-clause-known : goal.returns-in-Err-folded_of-clause-known
returns-in-Err-folded_of-clause-known c =
    rw c.in-Some.ensures.kind (λ m means. inr (fault_given c.in-Some.trie.kind c.args.search.now c.in_place_of.result c.in-Ok-new.texts c.in-Ok-new.ensures c.in_place_of.ensures c.in-Err-folded_of.status c.in-Err-folded_of.ensures.fault, refl))

pub returns-in-Err-folded_of-clause-any : goal.returns-in-Err-folded_of-clause-any
returns-in-Err-folded_of-clause-any c =
    rw c.in-Some.ensures.kind ([], omega arith, inr (fault_given c.in-Some.trie.kind c.args.search.now c.in_place_of.result c.in-Ok-new.texts c.in-Ok-new.ensures c.in_place_of.ensures c.in-Err-folded_of.status c.in-Err-folded_of.ensures.fault, refl))

pub folded_of-requires : goal.folded_of-requires
folded_of-requires c exact =
    let kind = c.in-Some.trie.kind in
    c.in-Ok.ensures.ok ∙ exact_given kind exact (ignores_case (kind_of kind)) c.args.search.now c.in_place_of.result c.in-Ok-new.texts c.in-Ok-new.ensures c.in_place_of.ensures
