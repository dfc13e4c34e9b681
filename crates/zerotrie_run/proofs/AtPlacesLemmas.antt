-- Answers by an index that is read at places.
use Rattle.std.proofs.Common.{◌≡◌, ◌≢◌, ℕ, List, [], ◌++◌, map, Option, Some, None, Bool, true, refl, sym, subst, inl, inr}
use Rattle.std.specs.Borrow.{Bor}
use Rattle.zerotrie_core.specs.Maps.{Pairs}
use Rattle.zerotrie_files.specs.Disks.{Story}
use Rattle.zerotrie_index.specs.Layout.{IsIndex, word}
use Rattle.zerotrie_sealed.specs.Sealed.{index_number, header_as, HasFront}
use Rattle.zerotrie_index.specs.InBlocks.{HasTableOf, MayBeIndex}
use Rattle.zerotrie_index.specs.declared.in_blocks.Front.{Front}
use Rattle.zerotrie_queries.specs.Answers.{AreAddedAt, Belongs}
use Rattle.zerotrie_queries.specs.Finders.{Dictionary, IndexFinds, asks_keys}
use Rattle.zerotrie_queries.specs.declared.question.Asked.{Asked}
use Rattle.zerotrie_queries.specs.declared.question.Query.{Query}
use Rattle.zerotrie_run.specs.Runs.{AreLookedUp, IsAnswerText, IsOpenAt, IsRead}
use Rattle.zerotrie_run.specs.Runs.Content.{of_index, in_blocks}
use Rattle.zerotrie_run.specs.declared.command.Check.TheVariants as check
use Rattle.zerotrie_run.specs.declared.command.Keys.TheVariants.{Words}
use Rattle.zerotrie_run.specs.declared.command.Place.{Place}
use Rattle.zerotrie_run.specs.declared.command.Place.TheVariants.{File, Stream}
use Rattle.zerotrie_run.specs.declared.command.Question.TheVariants.{LookUp}
use Rattle.zerotrie_run.specs.declared.command.TrieFile.{TrieFile}
use Rattle.zerotrie_run.specs.declared.place.Opened.TheVariants as opened

abbrev pub nows : List (Bor (List ℕ)) → List (List ℕ)
nows keys = map (λ k. k.now) keys

-- ---- of a file of which nothing is known, the index may be none

no_index : (pairs : Pairs) → IsIndex pairs [] → ⊥
unfolding word
no_index pairs is = cc (is.bytes_are)

abbrev a_file : List ℕ
a_file = header_as index_number [] ++ []

finds_none : (asked : Asked) (d : Dictionary) → IndexFinds asked [] d → ⊥
finds_none asked d has = no_index has.1 has.2

-- ---- what was looked up answers the question

pub answer_text : {F : Type 0} (shown : F → Option (List ℕ)) (f : F) (file : TrieFile) (query : Query) (keys : Bor (List (Bor (List ℕ)))) (files : Option Story) (text : List ℕ) (all : Bool)
    → file.bare ≡ None → file.check ≢ check.Full → asks_keys query.asked ≡ true → IsOpenAt shown file.place files (opened.File f)
    → AreLookedUp query (nows keys.now) (shown f) text all → IsAnswerText file (LookUp query (Words keys)) files text all
answer_text {F} shown f file query keys files text all plain some asks is looked = by file.place files refl is
  where
    by : (place : Place) (story : Option Story) → file.place ≡ place → IsOpenAt shown place story (opened.File f) → IsAnswerText file (LookUp query (Words keys)) story text all
    by (File path) None at h = λ input old new. (
      λ appends. record {
        held = a_file;
        read = subst (λ p. IsRead p input None a_file) (sym at) tt;
        content = of_index [];
        opens = inl (asks, (plain, inl (record { parts = refl }), λ full. absurd (some full)));
        answers = (nows keys.now, (refl, tt), λ d has. absurd (finds_none query.asked d has));
      },
      λ part. record {
        held = a_file;
        read = subst (λ p. IsRead p input None a_file) (sym at) tt;
        content = of_index [];
        opens = inl (asks, (plain, inl (record { parts = refl }), λ full. absurd (some full)));
        begun = (nows keys.now, refl, λ d has. absurd (finds_none query.asked d has));
      },
    )
    by (File path) (Some known) at h =
        let found = subst (λ held. AreLookedUp query (nows keys.now) held text all) h.2 looked in
        λ input old new. (
          λ appends. record {
            held = h.0;
            read = subst (λ p. IsRead p input (Some known) h.0) (sym at) h.1;
            content = in_blocks found.0 h.0;
            opens = inr (asks, plain, some, found.1, refl);
            answers = λ bytes right. (nows keys.now, (refl, tt), λ d has. (text, found.2 bytes right d has, appends));
          },
          λ part. record {
            held = h.0;
            read = subst (λ p. IsRead p input (Some known) h.0) (sym at) h.1;
            content = in_blocks found.0 h.0;
            opens = inr (asks, plain, some, found.1, refl);
            begun = λ bytes right. (nows keys.now, refl, λ d has. (text, all, found.2 bytes right d has, part));
          },
        )
    by Stream story at h = absurd h

-- what was added is what was looked up
pub looked_up : (held : Option (List ℕ)) (MayHold : List ℕ → Type 0) (query : Query) (keys : List (List ℕ)) (at : Front) (old text : List ℕ) (all : Bool)
    → ((file : List ℕ) → held ≡ Some file → HasFront at.start file) → ((file : List ℕ) → held ≡ Some file → HasTableOf at.start at.index_len at.sums.items file) → ((file : List ℕ) → held ≡ Some file → MayHold file)
    → old ≡ [] → AreAddedAt (MayBeIndex MayHold at) query keys old text all → AreLookedUp query keys held text all
looked_up None MayHold query keys at old text all front table may none added = tt
looked_up (Some file) MayHold query keys at old text all front table may none added = (
  at.start,
  front file refl,
  λ bytes right d has.
      let x = subst (λ o. AreAddedAt (MayBeIndex MayHold at) query keys o text all) none added bytes (file, may file refl, table file refl, right) d has in
      subst (λ p. Belongs query d keys p all) (sym x.2) x.1,
)
