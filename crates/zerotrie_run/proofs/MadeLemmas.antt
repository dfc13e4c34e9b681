-- What a file that was made holds, when it is read again.
use Rattle.std.proofs.Common.{◌≡◌, ℕ, List, Bool, true, false, Option, Some, None, refl, sym, subst, ap, ◌∙◌, inl, inr}
use Rattle.std.specs.Prelude.{IfSome}
use Rattle.std.proofs.lemmas.Option.{same_Some}
use Rattle.zerotrie_core.specs.Kind.{Kind}
use Rattle.zerotrie_core.specs.Maps.{Pairs, map_of}
use Rattle.zerotrie_core.specs.Texts.{Means}
use Rattle.zerotrie_core.specs.WellFormed.{IsWellFormed}
use Rattle.zerotrie_lines.specs.Tables.{lowered}
use Rattle.zerotrie_any.specs.Tagged.{tagged}
use Rattle.zerotrie_sealed.specs.Sealed.{IsSealed, IsSealedIndex}
use Rattle.zerotrie_index.specs.InBlocks.{HasItsBlocks, HasRightBlocks}
use Rattle.zerotrie_sealed.specs.Laws.{OneTrie, OneIndex}
use Rattle.zerotrie_index.specs.Built.{IsIndexOf}
use Rattle.zerotrie_core.specs.Kinds.{kind_of}
use Rattle.zerotrie_queries.specs.Files.{Holds}
use Rattle.zerotrie_core.specs.declared.TrieKind.{TrieKind}
use Rattle.zerotrie_files.specs.Disks.{Story, Known}
use Rattle.zerotrie_files.specs.Stores.{WasReplaced}
use Rattle.zerotrie_making.specs.Kept.{kept}
use Rattle.zerotrie_making.specs.Plans.{content_of, an_index, kind_for, IsFormOf}
use Rattle.zerotrie_making.specs.Made.{IsBuiltAs, IsFile, IsMade}
use Rattle.zerotrie_making.specs.declared.plan.Made.{Made}
use Rattle.zerotrie_making.specs.declared.plan.Plan.{Plan}
use Rattle.zerotrie_making.specs.declared.plan.FileForm.{FileForm}
use Rattle.zerotrie_making.specs.declared.plan.FileForm.TheVariants as form
use Rattle.zerotrie_run.specs.Runs.{World, Content, IsRead, IsWritten, OpensFor, OpensToAnswer}
use Rattle.zerotrie_run.specs.Runs.Content.{of_trie, of_index, in_blocks}
use Rattle.zerotrie_run.specs.Laws.{IsNamedAsMade, MadeOpens, OpensAsMade, MadeIndexOpens, IndexOpensAsMade, IsIndexAsMade}
use Rattle.zerotrie_run.specs.declared.command.Question.{Question}
use Rattle.zerotrie_run.specs.declared.command.TrieFile.{TrieFile}
use Rattle.zerotrie_run.specs.declared.command.Place.{Place}
use Rattle.zerotrie_run.specs.declared.command.Place.TheVariants.{File, Stream}
use Rattle.zerotrie_run.proofs.FileLemmas.{named, held_once, holds_of, no_trie, opens_of, opened}

-- a file that is made of an input, and counted, is made of it
pub file_of_made : (plan : Plan) (input : List ℕ) (made : Made) → IsMade plan input made → IsFile plan input made.file.items
file_of_made plan input made h = (h.0, h.1, h.2, h.3.is)

-- what was written to a place is read of it
pub read_back : (place : Place) (stdin : Option (List ℕ)) (bytes got : List ℕ) (before after : World) (held files : Story) → before.files ≡ Some held → after.files ≡ Some files
    → (place ≡ Stream → ⊥) → IsWritten place bytes before after → IsRead place stdin after.files got → got ≡ bytes
read_back (File path) stdin bytes got before after held files known same apart written read =
    let wrote = WasReplaced path.now bytes in
    let there : WasReplaced path.now bytes held files = subst (λ f. Known (Some held) f wrote) same (subst (λ f. Known f after.files wrote) known written.1) in
    let found : files.now path.now ≡ Some got = subst (λ f. IfSome f (λ known. known.now path.now ≡ Some got)) same read in
    same_Some got bytes (sym found ∙ there.1.0)
read_back Stream stdin bytes got before after held files known same apart written read = absurd (apart refl)

-- a file that is named as it was made has the bytes that it was made of
made_holds : (of : FileForm) (kind : Kind) (bytes file : List ℕ) (choice : Option TrieKind) → IsFormOf of kind bytes file → IsNamedAsMade of kind choice
    → (k : TrieKind) × (kind_of k ≡ kind) × Holds choice file k bytes
made_holds form.Sealed kind bytes file choice is as_made =
    let n = named kind in
    (n.0, n.1, subst (λ o. Holds o file n.0 bytes) (sym as_made) (inl (subst (λ j. IsSealed j bytes file) (sym n.1) is)))
made_holds form.Tagged kind bytes file choice is as_made =
    let n = named kind in
    (n.0, n.1, subst (λ o. Holds o file n.0 bytes) (sym as_made) (inr (is ∙ ap (λ j. tagged j bytes) (sym n.1))))
made_holds form.Bare kind bytes file choice is as_made =
    (as_made.0, as_made.2, subst (λ o. Holds o file as_made.0 bytes) (sym as_made.1) (inr (refl, sym is)))
made_holds form.Index kind bytes file choice is as_made = absurd as_made

-- the bytes of such a file mean the map of the pairs
pub built_means : (of : FileForm) (kind : Kind) (sorted : Bool) (pairs : Pairs) (bytes : List ℕ) (choice : Option TrieKind) → IsBuiltAs (content_of of kind) sorted pairs bytes → IsNamedAsMade of kind choice
    → Means kind bytes (map_of pairs)
built_means form.Sealed kind sorted pairs bytes choice built as_made = built.1.means
built_means form.Tagged kind sorted pairs bytes choice built as_made = built.1.means
built_means form.Bare kind sorted pairs bytes choice built as_made = built.1.means
built_means form.Index kind sorted pairs bytes choice built as_made = absurd as_made

-- a file that holds what was made opens as it was made
pub opens_made : OneTrie → (of : FileForm) (kind : Kind) (pairs : Pairs) (bytes made : List ℕ) (file : TrieFile) (stdin : Option (List ℕ)) (files : Option Story)
    → ((got : List ℕ) → IsRead file.place stdin files got → got ≡ made) → IsFormOf of kind bytes made → Means kind bytes (map_of pairs) → IsNamedAsMade of kind file.bare
    → OpensAsMade file stdin files of kind pairs made
opens_made one of kind pairs bytes made file stdin files back is means as_made =
    let has = made_holds of kind bytes made file.bare is as_made in
    let good : IsWellFormed (kind_of has.0) bytes = (map_of pairs, subst (λ j. Means j bytes (map_of pairs)) (sym has.1) means) in
    record {
      taken = λ none. opened one file.check file.bare none.0 none.2 has.0 bytes none.3
          (opens_of file.check file.bare none.0 has.0 bytes (subst (λ x. Holds file.bare x has.0 bytes) (sym (back none.0 none.1)) has.2) good);
      opened = λ got k b read opens.
          let holds = subst (λ x. Holds file.bare x k b) (back got read) (holds_of file.check file.bare got k b opens) in
          let both = held_once one file.bare made k has.0 b bytes holds has.2 in (
            both.0 ∙ has.1,
            subst (λ b. IsFormOf of kind b made) (sym both.1) is,
            subst (λ b. Means kind b (map_of pairs)) (sym both.1) means,
          );
    }

pub made_opens : OneTrie → MadeOpens
made_opens one build input before after held files known same made file stdin away at =
    let f = made.made.3 in
    let pairs = kept build.plan.read.duplicates (lowered build.plan.read.lower_case made.made.1) in
    let kind = kind_for build.plan.file.kind pairs in
    let back : (got : List ℕ) → IsRead file.place stdin after.files got → got ≡ made.file =
    λ got read. read_back build.to stdin made.file got before after held files known same away made.written (subst (λ p. IsRead p stdin after.files got) at read) in (
      made.made.0,
      made.made.1,
      made.made.2,
      λ as_made. opens_made one build.plan.file.form kind pairs f.bytes made.file file stdin after.files back f.is
          (built_means build.plan.file.form kind build.plan.file.sorted pairs f.bytes file.bare f.build as_made) as_made,
    )

-- what a build of an index returns is one of the pairs
index_built : (sorted : Bool) (pairs : Pairs) (bytes : List ℕ) → IsBuiltAs an_index sorted pairs bytes → IsIndexOf pairs bytes
index_built true pairs bytes built = built.1.0
index_built false pairs bytes built = built.0

-- what is opened of a file that is a sealed index is that index
index_opened : OneIndex → (pairs : Pairs) (bytes made : List ℕ) (file : TrieFile) → file.bare ≡ None → IsSealedIndex bytes made → IsIndexOf pairs bytes
    → (question : Question) (content : Content) → OpensFor file question made content → IsIndexAsMade pairs made content
index_opened one pairs bytes made file plain is index question (of_trie k b) opens =
    absurd (no_trie one made k bytes b is (subst (λ o. Holds o made k b) plain (holds_of file.check file.bare made k b opens)))
index_opened one pairs bytes made file plain is index question (of_index b) opens =
    let same = (one bytes made is).0 b opens.1.1 in
    (opens.1.1, subst (λ x. IsIndexOf pairs x) same index)
index_opened one pairs bytes made file plain is index question (in_blocks start held) opens = absurd opens

-- and so is what is asked of it at places
front_opened : OneIndex → HasItsBlocks → (pairs : Pairs) (bytes made : List ℕ) (file : TrieFile) → file.bare ≡ None → IsSealedIndex bytes made → IsIndexOf pairs bytes
    → (question : Question) (content : Content) → OpensToAnswer file question made content → IsIndexAsMade pairs made content
front_opened one has pairs bytes made file plain is index question content (inl opens) = index_opened one pairs bytes made file plain is index question content opens
front_opened one has pairs bytes made file plain is index question (of_trie k b) (inr opens) = absurd opens
front_opened one has pairs bytes made file plain is index question (of_index b) (inr opens) = absurd opens
front_opened one has pairs bytes made file plain is index question (in_blocks start held) (inr opens) =
    (bytes, subst (λ x. HasRightBlocks start x bytes) (sym opens.4) (has bytes made start is opens.3), is, index)

-- a file that holds a sealed index opens as it
index_opens : OneIndex → HasItsBlocks → (pairs : Pairs) (bytes made : List ℕ) (file : TrieFile) (stdin : Option (List ℕ)) (files : Option Story)
    → ((got : List ℕ) → IsRead file.place stdin files got → got ≡ made) → file.bare ≡ None → IsSealedIndex bytes made → IsIndexOf pairs bytes
    → IndexOpensAsMade file stdin files pairs made
index_opens one has pairs bytes made file stdin files back plain is index = record {
  taken = λ question asks none.
      none.3.1 bytes (asks, (plain, subst (λ x. IsSealedIndex bytes x) (sym (back none.0 none.1)) is, λ full. (index.0, index.1)));
  opened = λ question got content read opens.
      front_opened one has pairs bytes made file plain is index question content (subst (λ x. OpensToAnswer file question x content) (back got read) opens);
}

pub made_index_opens : OneIndex → HasItsBlocks → MadeIndexOpens
made_index_opens one has build input before after held files known same made file stdin away at as_index plain =
    let f = made.made.3 in
    let pairs = kept build.plan.read.duplicates (lowered build.plan.read.lower_case made.made.1) in
    let kind = kind_for build.plan.file.kind pairs in
    let back : (got : List ℕ) → IsRead file.place stdin after.files got → got ≡ made.file =
    λ got read. read_back build.to stdin made.file got before after held files known same away made.written (subst (λ p. IsRead p stdin after.files got) at read) in (
      made.made.0,
      made.made.1,
      made.made.2,
      index_opens one has pairs f.bytes made.file file stdin after.files back plain (subst (λ of. IsFormOf of kind f.bytes made.file) as_index f.is)
          (index_built build.plan.file.sorted pairs f.bytes (subst (λ of. IsBuiltAs (content_of of kind) build.plan.file.sorted pairs f.bytes) as_index f.build)),
    )
