-- What is opened of a file that was made of others, and when none is made.
use Rattle.std.proofs.Common.{◌≡◌, ◌⊎◌, ◌≤◌, ℕ, List, [], ◌∷◌, Some, All, false, refl, subst, arith, inl, inr}
use Rattle.std.specs.Prelude.{Any}
use Rattle.std.specs.List.{AllZip}
use Rattle.zerotrie_sealed.specs.Laws.{OneTrie}
use Rattle.zerotrie_files.specs.Disks.{Story}
use Rattle.zerotrie_making.specs.Combinations.{Meant, ExplainsMaps, IsMadeOfMaps, OfTaken, plan_of}
use Rattle.zerotrie_making.specs.Plans.{kind_for}
use Rattle.zerotrie_run.specs.Combined.{AreRead, HasMap, OfFiles, RunsCombine, file_of}
use Rattle.zerotrie_run.specs.CombinedLaws.{CombinedOpens, CombineRefusedExactly, HaveTries}
use Rattle.zerotrie_run.specs.Laws.{HasTrie, IsNamedAsMade, OpensAsMade}
use Rattle.zerotrie_run.specs.Runs.{World, IsRead, IsUnopened, HasNoTrie}
use Rattle.zerotrie_run.specs.Statuses.{number_of}
use Rattle.zerotrie_run.specs.declared.command.Combine.{Combine}
use Rattle.zerotrie_run.specs.declared.command.Place.{Place}
use Rattle.zerotrie_run.specs.declared.status.Status.{Status}
use Rattle.zerotrie_run.specs.declared.status.Status.TheVariants.{Done, Absent, Refused, Taken, BadUsage, BadInput, BadKeys, Unread, Unwritten, OutOfMemory, Closed}
use Rattle.zerotrie_run.proofs.CombinedLemmas.{all_cons}
use Rattle.zerotrie_run.proofs.FileLemmas.{opened}
use Rattle.zerotrie_run.proofs.MadeLemmas.{read_back, built_means, opens_made}
use Rattle.zerotrie_run.proofs.RefusedLemmas.{read_once}

pub combined_opens : OneTrie → CombinedOpens
combined_opens one c input before after held files known same made file stdin away at =
    let maps = made.of.2.0 in
    let taken = made.of.2.2 in
    let pairs = taken.pairs in
    let f = taken.fact.is in
    let kind = kind_for (plan_of c.combination maps).kind pairs in
    let back : (got : List ℕ) → IsRead file.place stdin after.files got → got ≡ made.made.file.items =
    λ got read. read_back c.to stdin made.made.file.items got before after held files known same away made.written (subst (λ p. IsRead p stdin after.files got) at read) in
    let opens : OfTaken c.combination maps (λ taking. IsNamedAsMade c.combination.form (kind_for (plan_of c.combination maps).kind taking) file.bare
    → OpensAsMade file stdin after.files c.combination.form (kind_for (plan_of c.combination maps).kind taking) taking made.made.file.items) =
    record {
      pairs = pairs;
      taken = taken.taken;
      valued = taken.valued;
      fact = λ as_made. opens_made one c.combination.form kind pairs f.bytes made.made.file.items file stdin after.files back f.is
          (built_means c.combination.form kind false pairs f.bytes file.bare f.build as_made) as_made;
    } in
    (made.of.0, made.of.1, (maps, made.of.2.1, opens))

-- what the files hold are tries
zip_tries : (places : List Place) (input : List ℕ) (files : Story) (held : List (List ℕ)) (maps : List Meant) → AreRead places (Some input) (Some files) held → AllZip HasMap held maps
    → All (λ place. HasTrie (file_of place) input files) places
zip_tries [] input files held maps read has = λ k d below. absurd (omega (arith, below))
zip_tries (p ∷ places) input files [] maps read has = absurd read
zip_tries (p ∷ places) input files (b ∷ held) [] read has = absurd has
zip_tries (p ∷ places) input files (b ∷ held) (m ∷ maps) read has =
    all_cons (λ place. HasTrie (file_of place) input files) p places (b, read.0, m.0, has.0.0, (has.0.1, (m.1, has.0.2))) (zip_tries places input files held maps read.1 has.1)

have_tries : (c : Combine) (input : List ℕ) (files : Story) (Fact : List Meant → Type 0) → OfFiles c (Some input) (Some files) Fact → HaveTries c input files
have_tries c input files Fact h = zip_tries c.from.now input files h.0 h.2.0 h.1 h.2.1

-- one that has none has no trie
not_both : OneTrie → (place : Place) (input : List ℕ) (files : Story) → HasNoTrie (file_of place) (Some input) (Some files) → HasTrie (file_of place) input files → ⊥
not_both one place input files none it =
    let same = read_once place input files none.0 it.0 none.1 it.1 in
    opened one (file_of place).check (file_of place).bare it.0 none.2 it.2 it.3 (subst (λ held. IsUnopened (file_of place) held none.2) same none.3) it.4

not_all : OneTrie → (c : Combine) (input : List ℕ) (files : Story) → Any (λ place. HasNoTrie (file_of place) (Some input) (Some files)) c.from.now → HaveTries c input files → ⊥
not_all one c input files none all =
    let place = none.1 in
    not_both one place input files none.4 (subst (λ p. HasTrie (file_of p) input files) none.3 (all none.0 place none.2))

always_so : (c : Combine) (input : List ℕ) (files : Story) (before after : World) (status : Status) → before.files ≡ Some files → RunsCombine c (Some input) before after status
    → (HaveTries c input files → ⊥) → (status ≡ BadInput) ⊎ (status ≡ Taken) ⊎ (status ≡ BadUsage) ⊎ (3 ≤ number_of status)
always_so c input files before after Done known h none = absurd (none (have_tries c input files (λ maps. IsMadeOfMaps c.combination maps h.0.made) (subst (λ f. OfFiles c (Some input) f (λ maps. IsMadeOfMaps c.combination maps h.0.made)) known h.0.of)))
always_so c input files before after Absent known h none = absurd h
always_so c input files before after Refused known h none = absurd (none (have_tries c input files (λ maps. ExplainsMaps c.combination maps h.0) (subst (λ f. OfFiles c (Some input) f (λ maps. ExplainsMaps c.combination maps h.0)) known h.1)))
always_so c input files before after Taken known h none = inr (inl refl)
always_so c input files before after BadUsage known h none = inr (inr (inl refl))
always_so c input files before after BadInput known h none = inl refl
always_so c input files before after BadKeys known h none = absurd h
always_so c input files before after Unread known h none = inr (inr (inr (omega arith)))
always_so c input files before after Unwritten known h none = inr (inr (inr (omega arith)))
always_so c input files before after OutOfMemory known h none = inr (inr (inr (omega arith)))
always_so c input files before after Closed known h none = inr (inr (inr (omega arith)))

only_so : OneTrie → (c : Combine) (input : List ℕ) (files : Story) (before after : World) → before.files ≡ Some files → RunsCombine c (Some input) before after BadInput → HaveTries c input files → ⊥
only_so one c input files before after known h has = not_all one c input files (subst (λ f. Any (λ place. HasNoTrie (file_of place) (Some input) f) c.from.now) known h.0) has

pub combine_refused_exactly : OneTrie → CombineRefusedExactly
combine_refused_exactly one c input files before after status known runs = record {
  only = λ is. only_so one c input files before after known (subst (λ s. RunsCombine c (Some input) before after s) is runs);
  always = always_so c input files before after status known runs;
}
