-- The automaton of the word as the kind compares it lists the keys nearest to the word.
use Rattle.std.proofs.Common.{List, ℕ, Option, ◌≤◌, [], ◌≡◌, ◌*◌, ◌∙◌, Some, inl, inr, refl, ap, arith, subst, suc, sym, length}
use Rattle.std.specs.FinMap.{entries}
use Rattle.zerotrie_core.specs.Kinds.{kind_of}
use Rattle.zerotrie_core.specs.Texts.{Means}
use Rattle.zerotrie_index.specs.Tries.{folded_key}
use Rattle.zerotrie_search.specs.Automata.{any_accepts, any_edits_to, any_most, ignores_case}
use Rattle.zerotrie_search.specs.declared.any.AnyAutomaton.TheVariants as any
use Rattle.zerotrie_search.specs.declared.folding.ByKind.{ByKind}
use Rattle.zerotrie_search.specs.declared.levenshtein.Levenshtein.{Levenshtein}
use Rattle.zerotrie_search.specs.declared.levenshtein.chars.LevenshteinChars.{LevenshteinChars}
use Rattle.zerotrie_search.specs.declared.levenshtein.osa.Osa.{Osa}
use Rattle.zerotrie_search.specs.declared.levenshtein.osa_chars.OsaChars.{OsaChars}
use Rattle.zerotrie_search.specs.Nearest.{nearest as nearest_of}
use Rattle.zerotrie_c.specs.Nearest.{measured}
use Rattle.zerotrie_c.specs.Searched.{IsWordFault}
use Rattle.zerotrie_c.proofs.FoldLemmas.{word_fault_by}
use Rattle.zerotrie_c.proofs.NearestLemmas.{counted, free_by, measured_by, near_any, near_known, none_near}
use Rattle.zerotrie_c.proofs.nearest.zerotrie_nearest.Goals as goal

pub returns-in-Fuzzy-clause-known : goal.returns-in-Fuzzy-clause-known
returns-in-Fuzzy-clause-known c =
    let kind = kind_of c.in-Some.trie.kind in
    let how = c.in-Some-edits_by.by in
    let near = c.in-Fuzzy.near in
    let all = c.nearest-pairs in
    let page = c.unpack-in-Fuzzy.ensures in
    let edits = rw c.in-Fuzzy.is at c.in-Ok-word_of.ensures.edits in
    let same = measured_by kind how c.args.word.now c.as_slice.result.now (any_edits_to (any.Fuzzy near)) (c.as_slice.ensures.value ∙ c.in-Ok.ensures) edits.0 in
    let as_many = edits.1 ∙ (rw (sym c.in-Some-edits_by.ensures) at (counted c.args.by c.args.edits)).0 in
    let measure_of : ByKind Levenshtein → List ℕ → Option ℕ = λ a key. any_edits_to (any.Fuzzy a.1) (folded_key (kind_of a.0) key) in
    rw c.in-Some.ensures.kind (rw (sym c.in-Some-edits_by.ensures) (λ m means.
    let here = subst (λ b. Means kind b m) (sym c.in-Some.ensures.bytes) means in
    inl (
      c.in_default-word_of.ensures.right,
      rw (page.status, page.count, page.next_len) (c.fill_nearest.ensures.listed _ _ (near_known measure_of (λ (a : ByKind Levenshtein). any_most (any.Fuzzy a.1)) kind c.in-Some.trie.bytes.now _ (measured kind how c.args.word.now) c.args.edits same as_many
          all.result all.ensures.pairs all.ensures.kind all.ensures.bytes all.ensures.automaton m here)),
    )))

pub returns-in-Fuzzy-clause-any : goal.returns-in-Fuzzy-clause-any
returns-in-Fuzzy-clause-any c =
    let kind = kind_of c.in-Some.trie.kind in
    let how = c.in-Some-edits_by.by in
    let near = c.in-Fuzzy.near in
    let all = c.nearest-pairs in
    let page = c.unpack-in-Fuzzy.ensures in
    let edits = rw c.in-Fuzzy.is at c.in-Ok-word_of.ensures.edits in
    let same = measured_by kind how c.args.word.now c.as_slice.result.now (any_edits_to (any.Fuzzy near)) (c.as_slice.ensures.value ∙ c.in-Ok.ensures) edits.0 in
    let as_many = edits.1 ∙ (rw (sym c.in-Some-edits_by.ensures) at (counted c.args.by c.args.edits)).0 in
    let measure_of : ByKind Levenshtein → List ℕ → Option ℕ = λ a key. any_edits_to (any.Fuzzy a.1) (folded_key (kind_of a.0) key) in
    let some = c.fill_nearest.ensures.any (measured kind how c.args.word.now) (suc c.args.edits * length c.in-Some.trie.bytes.now)
    (near_any measure_of (λ (a : ByKind Levenshtein). any_most (any.Fuzzy a.1)) kind c.in-Some.trie.bytes.now _ (measured kind how c.args.word.now) c.args.edits same as_many all.result all.ensures.most all.ensures.automaton) in
    rw c.in-Some.ensures.kind (rw (sym c.in-Some-edits_by.ensures) (
      some.0,
      subst (λ b. length some.0 ≤ suc c.args.edits * length b) c.in-Some.ensures.bytes some.1,
      inl (c.in_default-word_of.ensures.right, rw (page.status, page.count, page.next_len) some.2),
    ))

pub returns-in-FuzzyChars-clause-known : goal.returns-in-FuzzyChars-clause-known
returns-in-FuzzyChars-clause-known c =
    let kind = kind_of c.in-Some.trie.kind in
    let how = c.in-Some-edits_by.by in
    let near = c.in-FuzzyChars.near in
    let all = c.nearest-pairs-in-FuzzyChars in
    let page = c.unpack-in-FuzzyChars.ensures in
    let edits = rw c.in-FuzzyChars.is at c.in-Ok-word_of.ensures.edits in
    let same = measured_by kind how c.args.word.now c.as_slice.result.now (any_edits_to (any.FuzzyChars near)) (c.as_slice.ensures.value ∙ c.in-Ok.ensures) edits.0 in
    let as_many = edits.1 ∙ (rw (sym c.in-Some-edits_by.ensures) at (counted c.args.by c.args.edits)).0 in
    let measure_of : ByKind LevenshteinChars → List ℕ → Option ℕ = λ a key. any_edits_to (any.FuzzyChars a.1) (folded_key (kind_of a.0) key) in
    rw c.in-Some.ensures.kind (rw (sym c.in-Some-edits_by.ensures) (λ m means.
    let here = subst (λ b. Means kind b m) (sym c.in-Some.ensures.bytes) means in
    inl (
      c.in_default-word_of.ensures.right,
      rw (page.status, page.count, page.next_len) (c.fill_nearest-in-FuzzyChars.ensures.listed _ _ (near_known measure_of (λ (a : ByKind LevenshteinChars). any_most (any.FuzzyChars a.1)) kind c.in-Some.trie.bytes.now _ (measured kind how c.args.word.now) c.args.edits same as_many
          all.result all.ensures.pairs all.ensures.kind all.ensures.bytes all.ensures.automaton m here)),
    )))

pub returns-in-FuzzyChars-clause-any : goal.returns-in-FuzzyChars-clause-any
returns-in-FuzzyChars-clause-any c =
    let kind = kind_of c.in-Some.trie.kind in
    let how = c.in-Some-edits_by.by in
    let near = c.in-FuzzyChars.near in
    let all = c.nearest-pairs-in-FuzzyChars in
    let page = c.unpack-in-FuzzyChars.ensures in
    let edits = rw c.in-FuzzyChars.is at c.in-Ok-word_of.ensures.edits in
    let same = measured_by kind how c.args.word.now c.as_slice.result.now (any_edits_to (any.FuzzyChars near)) (c.as_slice.ensures.value ∙ c.in-Ok.ensures) edits.0 in
    let as_many = edits.1 ∙ (rw (sym c.in-Some-edits_by.ensures) at (counted c.args.by c.args.edits)).0 in
    let measure_of : ByKind LevenshteinChars → List ℕ → Option ℕ = λ a key. any_edits_to (any.FuzzyChars a.1) (folded_key (kind_of a.0) key) in
    let some = c.fill_nearest-in-FuzzyChars.ensures.any (measured kind how c.args.word.now) (suc c.args.edits * length c.in-Some.trie.bytes.now)
    (near_any measure_of (λ (a : ByKind LevenshteinChars). any_most (any.FuzzyChars a.1)) kind c.in-Some.trie.bytes.now _ (measured kind how c.args.word.now) c.args.edits same as_many all.result all.ensures.most all.ensures.automaton) in
    rw c.in-Some.ensures.kind (rw (sym c.in-Some-edits_by.ensures) (
      some.0,
      subst (λ b. length some.0 ≤ suc c.args.edits * length b) c.in-Some.ensures.bytes some.1,
      inl (c.in_default-word_of.ensures.right, rw (page.status, page.count, page.next_len) some.2),
    ))

pub returns-in-Swaps-clause-known : goal.returns-in-Swaps-clause-known
returns-in-Swaps-clause-known c =
    let kind = kind_of c.in-Some.trie.kind in
    let how = c.in-Some-edits_by.by in
    let near = c.in-Swaps.near in
    let all = c.nearest-pairs-in-Swaps in
    let page = c.unpack-in-Swaps.ensures in
    let edits = rw c.in-Swaps.is at c.in-Ok-word_of.ensures.edits in
    let same = measured_by kind how c.args.word.now c.as_slice.result.now (any_edits_to (any.Swaps near)) (c.as_slice.ensures.value ∙ c.in-Ok.ensures) edits.0 in
    let as_many = edits.1 ∙ (rw (sym c.in-Some-edits_by.ensures) at (counted c.args.by c.args.edits)).0 in
    let measure_of : ByKind Osa → List ℕ → Option ℕ = λ a key. any_edits_to (any.Swaps a.1) (folded_key (kind_of a.0) key) in
    rw c.in-Some.ensures.kind (rw (sym c.in-Some-edits_by.ensures) (λ m means.
    let here = subst (λ b. Means kind b m) (sym c.in-Some.ensures.bytes) means in
    inl (
      c.in_default-word_of.ensures.right,
      rw (page.status, page.count, page.next_len) (c.fill_nearest-in-Swaps.ensures.listed _ _ (near_known measure_of (λ (a : ByKind Osa). any_most (any.Swaps a.1)) kind c.in-Some.trie.bytes.now _ (measured kind how c.args.word.now) c.args.edits same as_many
          all.result all.ensures.pairs all.ensures.kind all.ensures.bytes all.ensures.automaton m here)),
    )))

pub returns-in-Swaps-clause-any : goal.returns-in-Swaps-clause-any
returns-in-Swaps-clause-any c =
    let kind = kind_of c.in-Some.trie.kind in
    let how = c.in-Some-edits_by.by in
    let near = c.in-Swaps.near in
    let all = c.nearest-pairs-in-Swaps in
    let page = c.unpack-in-Swaps.ensures in
    let edits = rw c.in-Swaps.is at c.in-Ok-word_of.ensures.edits in
    let same = measured_by kind how c.args.word.now c.as_slice.result.now (any_edits_to (any.Swaps near)) (c.as_slice.ensures.value ∙ c.in-Ok.ensures) edits.0 in
    let as_many = edits.1 ∙ (rw (sym c.in-Some-edits_by.ensures) at (counted c.args.by c.args.edits)).0 in
    let measure_of : ByKind Osa → List ℕ → Option ℕ = λ a key. any_edits_to (any.Swaps a.1) (folded_key (kind_of a.0) key) in
    let some = c.fill_nearest-in-Swaps.ensures.any (measured kind how c.args.word.now) (suc c.args.edits * length c.in-Some.trie.bytes.now)
    (near_any measure_of (λ (a : ByKind Osa). any_most (any.Swaps a.1)) kind c.in-Some.trie.bytes.now _ (measured kind how c.args.word.now) c.args.edits same as_many all.result all.ensures.most all.ensures.automaton) in
    rw c.in-Some.ensures.kind (rw (sym c.in-Some-edits_by.ensures) (
      some.0,
      subst (λ b. length some.0 ≤ suc c.args.edits * length b) c.in-Some.ensures.bytes some.1,
      inl (c.in_default-word_of.ensures.right, rw (page.status, page.count, page.next_len) some.2),
    ))

pub returns-in-SwapsChars-clause-known : goal.returns-in-SwapsChars-clause-known
returns-in-SwapsChars-clause-known c =
    let kind = kind_of c.in-Some.trie.kind in
    let how = c.in-Some-edits_by.by in
    let near = c.in-SwapsChars.near in
    let all = c.nearest-pairs-in-SwapsChars in
    let page = c.unpack-in-SwapsChars.ensures in
    let edits = rw c.in-SwapsChars.is at c.in-Ok-word_of.ensures.edits in
    let same = measured_by kind how c.args.word.now c.as_slice.result.now (any_edits_to (any.SwapsChars near)) (c.as_slice.ensures.value ∙ c.in-Ok.ensures) edits.0 in
    let as_many = edits.1 ∙ (rw (sym c.in-Some-edits_by.ensures) at (counted c.args.by c.args.edits)).0 in
    let measure_of : ByKind OsaChars → List ℕ → Option ℕ = λ a key. any_edits_to (any.SwapsChars a.1) (folded_key (kind_of a.0) key) in
    rw c.in-Some.ensures.kind (rw (sym c.in-Some-edits_by.ensures) (λ m means.
    let here = subst (λ b. Means kind b m) (sym c.in-Some.ensures.bytes) means in
    inl (
      c.in_default-word_of.ensures.right,
      rw (page.status, page.count, page.next_len) (c.fill_nearest-in-SwapsChars.ensures.listed _ _ (near_known measure_of (λ (a : ByKind OsaChars). any_most (any.SwapsChars a.1)) kind c.in-Some.trie.bytes.now _ (measured kind how c.args.word.now) c.args.edits same as_many
          all.result all.ensures.pairs all.ensures.kind all.ensures.bytes all.ensures.automaton m here)),
    )))

pub returns-in-SwapsChars-clause-any : goal.returns-in-SwapsChars-clause-any
returns-in-SwapsChars-clause-any c =
    let kind = kind_of c.in-Some.trie.kind in
    let how = c.in-Some-edits_by.by in
    let near = c.in-SwapsChars.near in
    let all = c.nearest-pairs-in-SwapsChars in
    let page = c.unpack-in-SwapsChars.ensures in
    let edits = rw c.in-SwapsChars.is at c.in-Ok-word_of.ensures.edits in
    let same = measured_by kind how c.args.word.now c.as_slice.result.now (any_edits_to (any.SwapsChars near)) (c.as_slice.ensures.value ∙ c.in-Ok.ensures) edits.0 in
    let as_many = edits.1 ∙ (rw (sym c.in-Some-edits_by.ensures) at (counted c.args.by c.args.edits)).0 in
    let measure_of : ByKind OsaChars → List ℕ → Option ℕ = λ a key. any_edits_to (any.SwapsChars a.1) (folded_key (kind_of a.0) key) in
    let some = c.fill_nearest-in-SwapsChars.ensures.any (measured kind how c.args.word.now) (suc c.args.edits * length c.in-Some.trie.bytes.now)
    (near_any measure_of (λ (a : ByKind OsaChars). any_most (any.SwapsChars a.1)) kind c.in-Some.trie.bytes.now _ (measured kind how c.args.word.now) c.args.edits same as_many all.result all.ensures.most all.ensures.automaton) in
    rw c.in-Some.ensures.kind (rw (sym c.in-Some-edits_by.ensures) (
      some.0,
      subst (λ b. length some.0 ≤ suc c.args.edits * length b) c.in-Some.ensures.bytes some.1,
      inl (c.in_default-word_of.ensures.right, rw (page.status, page.count, page.next_len) some.2),
    ))

pub returns-clause-known : goal.returns-clause-known
returns-clause-known c =
    let sought = c.in-Ok-word_of.sought in
    absurd ((rw (sym c.in-Some-edits_by.ensures) at (counted c.args.by c.args.edits)).1 (ignores_case (kind_of c.in-Some.trie.kind)) c.as_slice.result.now
    (any_accepts sought) (sym (free_by sought c.in-Prefix.is) ∙ c.in-Ok-word_of.ensures.edits.0))

pub returns-clause-any : goal.returns-clause-any
returns-clause-any c =
    let sought = c.in-Ok-word_of.sought in
    absurd ((rw (sym c.in-Some-edits_by.ensures) at (counted c.args.by c.args.edits)).1 (ignores_case (kind_of c.in-Some.trie.kind)) c.as_slice.result.now
    (any_accepts sought) (sym (free_by sought c.in-Prefix.is) ∙ c.in-Ok-word_of.ensures.edits.0))

pub returns-in_default-fold_copy-clause-known : goal.returns-in_default-fold_copy-clause-known
returns-in_default-fold_copy-clause-known c =
    let page = c.unpack.ensures in
    let measure = measured (kind_of c.in-Some.trie.kind) c.in-Some-edits_by.by c.args.word.now in
    rw c.in-Some.ensures.kind (rw (sym c.in-Some-edits_by.ensures) (λ m means. inl (
      c.in_default-word_of.ensures.right,
      rw (page.status, page.count, page.next_len)
          (none_near measure (nearest_of measure (entries m) 0 (suc c.args.edits)) c.args.keys.now c.args.ends.now c.args.values.now c.args.distances.now c.args.next_len.now c.new.ensures),
    )))

pub returns-in_default-fold_copy-clause-any : goal.returns-in_default-fold_copy-clause-any
returns-in_default-fold_copy-clause-any c =
    let page = c.unpack.ensures in
    let measure = measured (kind_of c.in-Some.trie.kind) c.in-Some-edits_by.by c.args.word.now in
    rw c.in-Some.ensures.kind (rw (sym c.in-Some-edits_by.ensures) (
      [],
      omega arith,
      inl (
        c.in_default-word_of.ensures.right,
        rw (page.status, page.count, page.next_len)
            (none_near measure [] c.args.keys.now c.args.ends.now c.args.values.now c.args.distances.now c.args.next_len.now c.new.ensures),
      ),
    ))

pub returns-in-Err-word_of-clause-known : goal.returns-in-Err-word_of-clause-known
returns-in-Err-word_of-clause-known c =
    let fault = subst (λ w. IsWordFault c.in-Some-edits_by.by w c.in-Err-word_of.status) (c.as_slice.ensures.value ∙ c.in-Ok.ensures) c.in-Err-word_of.ensures.fault in
    rw c.in-Some.ensures.kind (rw (sym c.in-Some-edits_by.ensures) (λ m means. inr (word_fault_by c.in-Some.trie.kind c.in-Some-edits_by.by c.args.word.now c.in-Err-word_of.status fault, refl)))

pub returns-in-Err-word_of-clause-any : goal.returns-in-Err-word_of-clause-any
returns-in-Err-word_of-clause-any c =
    let fault = subst (λ w. IsWordFault c.in-Some-edits_by.by w c.in-Err-word_of.status) (c.as_slice.ensures.value ∙ c.in-Ok.ensures) c.in-Err-word_of.ensures.fault in
    rw c.in-Some.ensures.kind (rw (sym c.in-Some-edits_by.ensures) ([], omega arith, inr (word_fault_by c.in-Some.trie.kind c.in-Some-edits_by.by c.args.word.now c.in-Err-word_of.status fault, refl)))

pub returns-in-Err-clause-known : goal.returns-in-Err-clause-known
returns-in-Err-clause-known c = rw c.in-Some.ensures.kind (rw (sym c.in-Some-edits_by.ensures) (λ m means. inr (c.in-Err.ensures.fault, refl)))

pub returns-in-Err-clause-any : goal.returns-in-Err-clause-any
returns-in-Err-clause-any c = rw c.in-Some.ensures.kind (rw (sym c.in-Some-edits_by.ensures) ([], omega arith, inr (c.in-Err.ensures.fault, refl)))
