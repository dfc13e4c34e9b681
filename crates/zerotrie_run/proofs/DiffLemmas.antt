-- Two files that are compared.
use Rattle.std.proofs.Common.{◌≡◌, ◌⊎◌, ◌++◌, ◌∙◌, ℕ, List, Option, None, Bool, false, Result, Ok, Err, refl, sym, ap, subst, inl, inr}
use Rattle.std.specs.Prelude.{IfOk}
use Rattle.std.specs.Io.KnownBytes.{Keeps}
use Rattle.std.proofs.KnownBytes.{Appends-kept, Appends-trans}
use Rattle.zerotrie_files.specs.Disks.{Story}
use Rattle.zerotrie_files.specs.Faults.{Watched}
use Rattle.zerotrie_queries.specs.Diffs.{change_lines}
use Rattle.zerotrie_queries.specs.declared.file.OpenError.{OpenError}
use Rattle.zerotrie_queries.specs.declared.file.OpenError.TheVariants.{BadTag, Damaged, NotWellFormed}
use Rattle.zerotrie_queries.specs.declared.file.OpenError.TheVariants as unopened
use Rattle.zerotrie_queries.specs.declared.reports.ReportForm.TheVariants.{Lines}
use Rattle.zerotrie_queries.proofs.PartLemmas.{part_all}
use Rattle.zerotrie_run.specs.Runs.{HasNumberToo, IsDoubtful, IsRead, IsRefusedUnread, ask_refusal, IsUnasked, IsUnopened}
use Rattle.zerotrie_run.specs.Messages.{source_name}
use Rattle.zerotrie_run.specs.Told.{HasReason, HasDiffReason, IsPlaceOf, IsTold, TellsMore}
use Rattle.zerotrie_run.specs.Diffs.{old_file, new_file, IsFileOf, IsDiffed, IsDiffedInPart, EndsDiff, HasNoTrieIn, IsEitherDoubtful, IsUnanswered, IsUnread, NotesNumbers, TellsIfDoubtful, AreHeldCompared, AreHeldComparedInPart, AreUncompared}
use Rattle.zerotrie_run.specs.declared.front.Hint.{Hint}
use Rattle.zerotrie_run.specs.declared.ask.AskError.{AskError}
use Rattle.zerotrie_run.specs.declared.ask.AskError.TheVariants as ask
use Rattle.zerotrie_run.specs.declared.stdin_lines.AnswerError.TheVariants as answer
use Rattle.zerotrie_run.specs.declared.diff.DiffError.{DiffError}
use Rattle.zerotrie_run.specs.declared.command.Command.TheVariants as commands
use Rattle.zerotrie_run.specs.declared.command.Diff.{Diff}
use Rattle.zerotrie_run.specs.declared.command.Place.{Place}
use Rattle.zerotrie_run.specs.declared.command.Place.TheVariants.{File, Stream}
use Rattle.zerotrie_run.specs.declared.command.Question.{Question}
use Rattle.zerotrie_run.specs.declared.command.Question.TheVariants.{Report, Verify}
use Rattle.zerotrie_run.specs.declared.command.TrieFile.{TrieFile}
use Rattle.zerotrie_run.specs.declared.status.Status.{Status}
use Rattle.zerotrie_run.specs.declared.status.Status.TheVariants.{Done, Absent, Refused, Taken, BadUsage, BadInput, BadKeys, Unread, Unwritten, OutOfMemory, Closed}
use Rattle.zerotrie_run.proofs.FrontLemmas.{unknown_by}

-- a flush leaves what was told of two files
pub kept_compared : (diff : Diff) (held other : List ℕ) (a b c : Option (List ℕ)) (same : Bool) → AreHeldCompared diff held other a b same → Keeps b c → AreHeldCompared diff held other a c same
kept_compared diff held other a b c same h k = record {
  kind = h.kind;
  bytes = h.bytes;
  opens = h.opens;
  other_kind = h.other_kind;
  others = h.others;
  opens_other = h.opens_other;
  compared = λ m n p q. let t = h.compared m n p q in record { changes = t.changes; is = t.is; printed = Appends-kept a b c (change_lines t.changes) t.printed k; equal = t.equal };
}

-- what was told of them is a beginning of itself
pub compared_in_part : (diff : Diff) (held other : List ℕ) (a b : Option (List ℕ)) (same : Bool) → AreHeldCompared diff held other a b same → AreHeldComparedInPart diff held other a b
compared_in_part diff held other a b same h = record {
  kind = h.kind;
  bytes = h.bytes;
  opens = h.opens;
  other_kind = h.other_kind;
  others = h.others;
  opens_other = h.opens_other;
  begun = λ m n p q. let t = h.compared m n p q in record { changes = t.changes; is = t.is; printed = part_all a b (change_lines t.changes) t.printed };
}

-- a file that is no stream is read so whatever standard input has
other_read : (place : Place) (i j : Option (List ℕ)) (files : Option Story) (held : List ℕ) → (place ≡ Stream → ⊥) → IsRead place i files held → IsRead place j files held
other_read (File path) i j files held apart h = h
other_read Stream i j files held apart h = absurd (apart refl)

-- the second file is read as if the first were not, as not both are standard input
pub second_read : {R : Type 0} (first second : Place) (remaining : R → Option (List ℕ)) (old new : Watched R) (files : Option Story) (held : List ℕ)
    → ((first ≡ Stream) × (second ≡ Stream) → ⊥) → (first ≡ Stream) ⊎ (new ≡ old) → IsRead second (remaining new.inner) files held → IsRead second (remaining old.inner) files held
second_read first second remaining old new files held apart (inl is) h = other_read second (remaining new.inner) (remaining old.inner) files held (λ s. apart (is, s)) h
second_read first second remaining old new files held apart (inr is) h = subst (λ r. IsRead second (remaining r.inner) files held) is h

-- what two files hold was compared, and so they were
pub are_diffed : (diff : Diff) (input : Option (List ℕ)) (files : Option Story) (held other : List ℕ) (a b : Option (List ℕ)) (same : Bool) → IsRead diff.old input files held → IsRead diff.new input files other
    → AreHeldCompared diff held other a b same → IsDiffed diff input files a b same
are_diffed diff input files held other a b same r s h = record {
  kind = h.kind;
  bytes = h.bytes;
  first = record { held = held; read = r; opens = h.opens };
  other = h.other_kind;
  others = h.others;
  second = record { held = other; read = s; opens = h.opens_other };
  compared = h.compared;
}

are_diffed_in_part : (diff : Diff) (input : Option (List ℕ)) (files : Option Story) (held other : List ℕ) (a b : Option (List ℕ)) → IsRead diff.old input files held → IsRead diff.new input files other
    → AreHeldComparedInPart diff held other a b → IsDiffedInPart diff input files a b
are_diffed_in_part diff input files held other a b r s h = record {
  kind = h.kind;
  bytes = h.bytes;
  first = record { held = held; read = r; opens = h.opens };
  other = h.other_kind;
  others = h.others;
  second = record { held = other; read = s; opens = h.opens_other };
  begun = h.begun;
}

-- a file has no trie, and so the comparison ends
ends_unopened : (diff : Diff) (file : TrieFile) (input : Option (List ℕ)) (files : Option Story) (held : List ℕ) (a b : Option (List ℕ)) (e : AskError) → IsFileOf diff file → IsRead file.place input files held
    → HasNoTrieIn file held e → b ≡ a → EndsDiff diff input files a b (ask_refusal e)
ends_unopened diff file input files held a b (ask.Unread e) of r h same = absurd h
ends_unopened diff file input files held a b (ask.NoTrie (BadTag why) t) of r h same = ((file, of, (held, r, BadTag why, h.0)), same)
ends_unopened diff file input files held a b (ask.NoTrie (Damaged why) t) of r h same = ((file, of, (held, r, Damaged why, h.0)), same)
ends_unopened diff file input files held a b (ask.NoTrie (NotWellFormed k f) t) of r h same = ((file, of, (held, r, NotWellFormed k f, h.0)), same)
ends_unopened diff file input files held a b (ask.NoTrie unopened.OutOfMemory t) of r h same = inl same
ends_unopened diff file input files held a b (ask.Unprintable form key) of r h same = absurd h
ends_unopened diff file input files held a b (ask.Unanswered e) of r h same = absurd h

-- a file is refused by its front, and so the comparison ends, for this reason
ends_refused : (diff : Diff) (file : TrieFile) (input : Option (List ℕ)) (files : Option Story) (a : Option (List ℕ)) (why : OpenError) (hint : Hint) → IsFileOf diff file
    → IsRefusedUnread file false files why hint → EndsDiff diff input files a a (ask_refusal (ask.NoTrie why hint))
ends_refused diff file input files a (BadTag why) t of h = let r = h input in ((file, of, (r.0, r.1, BadTag why, unknown_by file.check file.bare r.0 (BadTag why) r.2.0)), refl)
ends_refused diff file input files a (Damaged why) t of h = let r = h input in ((file, of, (r.0, r.1, Damaged why, unknown_by file.check file.bare r.0 (Damaged why) r.2.0)), refl)
ends_refused diff file input files a (NotWellFormed k f) t of h = absurd (h input).2.0
ends_refused diff file input files a unopened.OutOfMemory t of h = inl refl

reason_refused : (file : TrieFile) (input : Option (List ℕ)) (files : Option Story) (why : OpenError) (hint : Hint) → IsRefusedUnread file false files why hint
    → HasReason (IsUnopened file) file Verify input files (ask.NoTrie why hint)
reason_refused file input files why hint h = let r = h input in (r.0, r.1, unknown_by file.check file.bare r.0 why r.2.0, r.3)

-- a file is not read, and so it ends, for this reason
pub ends_unread : (diff : Diff) (file : TrieFile) (input : Option (List ℕ)) (files : Option Story) (a : Option (List ℕ)) (e : AskError) → IsFileOf diff file → IsUnread file files e → EndsDiff diff input files a a (ask_refusal e)
ends_unread diff file input files a (ask.Unread e) of h = inl refl
ends_unread diff file input files a (ask.NoTrie why t) of h = ends_refused diff file input files a why t of h
ends_unread diff file input files a (ask.Unprintable form key) of h = absurd h
ends_unread diff file input files a (ask.Unanswered e) of h = absurd h

unread_reason : (file : TrieFile) (input : Option (List ℕ)) (files : Option Story) (e : AskError) → IsUnread file files e → HasReason (IsUnopened file) file Verify input files e
unread_reason file input files (ask.Unread e) h = tt
unread_reason file input files (ask.NoTrie why t) h = reason_refused file input files why t h
unread_reason file input files (ask.Unprintable form key) h = absurd h
unread_reason file input files (ask.Unanswered e) h = absurd h

pub reason_unread : (diff : Diff) (file : TrieFile) (input : Option (List ℕ)) (files : Option Story) (e : DiffError) → IsFileOf diff file → (e.file ≡ file) × IsUnread file files e.error → HasDiffReason diff input files e
reason_unread diff file input files e of h =
    (subst (IsFileOf diff) (sym h.0) of, subst (λ f. HasReason (IsUnopened f) f Verify input files e.error) (sym h.0) (unread_reason file input files e.error h.1))

-- a beginning was printed, and so it ends
ends_begun : (diff : Diff) (input : Option (List ℕ)) (files : Option Story) (a b : Option (List ℕ)) (e : AskError) → IsUnanswered e → IsDiffedInPart diff input files a b → EndsDiff diff input files a b (ask_refusal e)
ends_begun diff input files a b (ask.Unread e) is h = absurd is
ends_begun diff input files a b (ask.NoTrie why t) is h = absurd is
ends_begun diff input files a b (ask.Unprintable form key) is h = absurd is
ends_begun diff input files a b (ask.Unanswered (answer.Input e)) is h = inr h
ends_begun diff input files a b (ask.Unanswered (answer.NoLines o)) is h = absurd is
ends_begun diff input files a b (ask.Unanswered (answer.Output e)) is h = inr h

pub ends_uncompared : (diff : Diff) (input : Option (List ℕ)) (files : Option Story) (held other : List ℕ) (a b : Option (List ℕ)) (e : DiffError) → IsRead diff.old input files held → IsRead diff.new input files other
    → AreUncompared diff held other a b e → EndsDiff diff input files a b (ask_refusal e.error)
ends_uncompared diff input files held other a b e r s (inl (inl h, same)) = ends_unopened diff (old_file diff) input files held a b e.error (inl refl) r h.1 same
ends_uncompared diff input files held other a b e r s (inl (inr h, same)) = ends_unopened diff (new_file diff) input files other a b e.error (inr refl) s h.1 same
ends_uncompared diff input files held other a b e r s (inr h) = ends_begun diff input files a b e.error h.1 (are_diffed_in_part diff input files held other a b r s h.2)

-- the reasons why
reason_unopened : (file : TrieFile) (input : Option (List ℕ)) (files : Option Story) (held : List ℕ) (e : AskError) → IsRead file.place input files held → HasNoTrieIn file held e → HasReason (IsUnopened file) file Verify input files e
reason_unopened file input files held (ask.Unread e) r h = absurd h
reason_unopened file input files held (ask.NoTrie why t) r h = (held, r, h.0, h.1)
reason_unopened file input files held (ask.Unprintable form key) r h = absurd h
reason_unopened file input files held (ask.Unanswered e) r h = absurd h

reason_unanswered : (file : TrieFile) (input : Option (List ℕ)) (files : Option Story) (e : AskError) → IsUnanswered e → HasReason (IsUnopened file) file Verify input files e
reason_unanswered file input files (ask.Unread e) h = absurd h
reason_unanswered file input files (ask.NoTrie why t) h = absurd h
reason_unanswered file input files (ask.Unprintable form key) h = absurd h
reason_unanswered file input files (ask.Unanswered (answer.Input e)) h = tt
reason_unanswered file input files (ask.Unanswered (answer.NoLines o)) h = absurd h
reason_unanswered file input files (ask.Unanswered (answer.Output e)) h = tt

pub reason_uncompared : (diff : Diff) (input : Option (List ℕ)) (files : Option Story) (held other : List ℕ) (a b : Option (List ℕ)) (e : DiffError) → IsRead diff.old input files held → IsRead diff.new input files other
    → AreUncompared diff held other a b e → HasDiffReason diff input files e
reason_uncompared diff input files held other a b e r s (inl (inl h, same)) =
    (inl h.0, subst (λ file. HasReason (IsUnopened file) file Verify input files e.error) (sym h.0) (reason_unopened (old_file diff) input files held e.error r h.1))
reason_uncompared diff input files held other a b e r s (inl (inr h, same)) =
    (inr h.0, subst (λ file. HasReason (IsUnopened file) file Verify input files e.error) (sym h.0) (reason_unopened (new_file diff) input files other e.error s h.1))
reason_uncompared diff input files held other a b e r s (inr h) = (h.0, reason_unanswered e.file input files e.error h.1)

-- a question that an index does not answer
abbrev pub a_report : Question
a_report = Report Lines None

no_index_asked : (file : TrieFile) (held : List ℕ) (why : OpenError) → IsUnasked file a_report held why → IsUnopened file held why
no_index_asked file held why (inl none) = none
no_index_asked file held why (inr bad) = absurd (let no = bad.0 in cc)

-- why a file is not compared is why it is not asked such a question
pub as_asked : (file : TrieFile) (i : Option (List ℕ)) (files : Option Story) (e : AskError) → HasReason (IsUnopened file) file Verify i files e → HasReason (IsUnasked file a_report) file a_report i files e
as_asked file i files (ask.Unread e) h = tt
as_asked file i files (ask.NoTrie why t) h = (h.0, h.1, inl h.2, h.3)
as_asked file i files (ask.Unanswered (answer.Input e)) h = tt
as_asked file i files (ask.Unanswered (answer.NoLines o)) h = absurd h
as_asked file i files (ask.Unanswered (answer.Output e)) h = tt
as_asked file i files (ask.Unprintable form key) h = absurd h.shows

-- a place of a question to one of the files is a place of the comparison
place_in : (diff : Diff) (file : TrieFile) (name : List ℕ) → IsFileOf diff file → IsPlaceOf (commands.Ask file a_report) name → IsPlaceOf (commands.Diff diff) name
place_in diff file name (inl is) (inl at) = inl (at ∙ ap (λ f. source_name f.place) is)
place_in diff file name (inr is) (inl at) = inr (inl (at ∙ ap (λ f. source_name f.place) is))
place_in diff file name of (inr stream) = inr (inr stream)

-- what is told of a file is told of the comparison
pub told_of : (diff : Diff) (file : TrieFile) (i : Option (List ℕ)) (files : Option Story) (a b : Option (List ℕ)) (s : Status) → IsFileOf diff file → IsTold (commands.Ask file a_report) i files a b s
    → IsTold (commands.Diff diff) i files a b s
told_of diff file i files a b Done of h = h
told_of diff file i files a b Absent of h = h
told_of diff file i files a b Refused of h = absurd h.2.shows
told_of diff file i files a b Taken of h = h
told_of diff file i files a b BadUsage of h = h
told_of diff file i files a b BadInput of h = (file, of, (h.0, h.1, h.2, no_index_asked file h.0 h.2 h.3, h.4, h.5, h.6, h.7, h.8))
told_of diff file i files a b BadKeys of h = absurd h.1
told_of diff file i files a b Unread of h = (h.0, place_in diff file h.0 of h.1, h.2)
told_of diff file i files a b Unwritten of h = (h.0, place_in diff file h.0 of h.1, h.2)
told_of diff file i files a b OutOfMemory of h = h
told_of diff file i files a b Closed of h = h

as_at_first : {R S : Type 0} (diff : Diff) (first second : TrieFile) (remaining : R → Option (List ℕ)) (old new : Watched R) (story : S → Option Story) (d e : S) (other : List ℕ)
    → ((diff.old ≡ Stream) × (diff.new ≡ Stream) → ⊥) → first ≡ old_file diff → second ≡ new_file diff → e ≡ d → (first.place ≡ Stream) ⊎ (new ≡ old)
    → IsRead second.place (remaining new.inner) (story e) other → IsRead diff.new (remaining old.inner) (story d) other
as_at_first diff first second remaining old new story d e other apart f s same untouched q =
    let un : (diff.old ≡ Stream) ⊎ (new ≡ old) = subst (λ x. (x.place ≡ Stream) ⊎ (new ≡ old)) f untouched in
    let at : IsRead diff.new (remaining new.inner) (story e) other = subst (λ x. IsRead x.place (remaining new.inner) (story e) other) s q in
    second_read diff.old diff.new remaining old new (story d) other apart un (subst (λ x. IsRead diff.new (remaining new.inner) (story x) other) same at)

-- what was read of two files, as they were at first
pub both_read : {R S : Type 0} (diff : Diff) (first second : TrieFile) (remaining : R → Option (List ℕ)) (old new : Watched R) (story : S → Option Story) (d e : S) (held other bytes others : List ℕ)
    → ((diff.old ≡ Stream) × (diff.new ≡ Stream) → ⊥) → first ≡ old_file diff → second ≡ new_file diff → e ≡ d → (first.place ≡ Stream) ⊎ (new ≡ old) → bytes ≡ held → others ≡ other
    → IsRead first.place (remaining old.inner) (story d) held → IsRead second.place (remaining new.inner) (story e) other
    → IsRead diff.old (remaining old.inner) (story d) bytes × IsRead diff.new (remaining old.inner) (story d) others
both_read diff first second remaining old new story d e held other bytes others apart f s same untouched b o r q =
    let read : IsRead diff.old (remaining old.inner) (story d) held = subst (λ x. IsRead x.place (remaining old.inner) (story d) held) f r in
    (subst (λ x. IsRead diff.old (remaining old.inner) (story d) x) (sym b) read, subst (λ x. IsRead diff.new (remaining old.inner) (story d) x) (sym o) (as_at_first diff first second remaining old new story d e other apart f s same untouched q))

-- what was told of both files
pub numbers_noted : (diff : Diff) (first second : TrieFile) (input : Option (List ℕ)) (files : Option Story) (held other : List ℕ) (a b c : Option (List ℕ)) → first ≡ old_file diff → second ≡ new_file diff
    → IsRead diff.old input files held × IsRead diff.new input files other → TellsIfDoubtful first held a b → TellsIfDoubtful second other b c → NotesNumbers diff input files a c
numbers_noted diff first second input files held other a b c f s read one two = record {
  held = held;
  read = read.0;
  other = other;
  read_other = read.1;
  between = b;
  first = subst (λ x. TellsIfDoubtful x held a b) f one;
  second = subst (λ x. TellsIfDoubtful x other b c) s two;
}

pub told_twice : (f g h : Bool) (a b c : Option (List ℕ)) → (g ≡ false → (f ≡ false) × TellsMore a b) → (h ≡ false → (g ≡ false) × TellsMore b c) → h ≡ false → (f ≡ false) × TellsMore a c
told_twice f g h a b c p q ok = let two = q ok in let one = p two.0 in (one.0, (one.1.0 ++ two.1.0, Appends-trans a b c one.1.0 two.1.0 one.1.1 two.1.1))

pub quiet_twice : {R S M : Type 0} (diff : Diff) (first second : TrieFile) (remaining : R → Option (List ℕ)) (old new : Watched R) (story : S → Option Story) (d e : S) (l m n : M)
    → ((diff.old ≡ Stream) × (diff.new ≡ Stream) → ⊥) → first ≡ old_file diff → second ≡ new_file diff → e ≡ d → (first.place ≡ Stream) ⊎ (new ≡ old)
    → ((IsDoubtful first (remaining old.inner) (story d) → ⊥) → m ≡ l) → ((IsDoubtful second (remaining new.inner) (story e) → ⊥) → n ≡ m)
    → (IsEitherDoubtful diff (remaining old.inner) (story d) → ⊥) → n ≡ l
quiet_twice diff first second remaining old new story d e l m n apart f s same untouched p q none =
    let one : m ≡ l = p (λ doubt. none (inl (subst (λ x. IsDoubtful x (remaining old.inner) (story d)) f doubt))) in
    let two : n ≡ m = q (λ doubt. none (inr (doubt.0, as_at_first diff first second remaining old new story d e doubt.0 apart f s same untouched doubt.1, subst (λ x. HasNumberToo x.bare doubt.0) s doubt.2))) in
    two ∙ one

-- what holds of itself holds whatever a result is
pub of_any : {T E : Type 0} (r : Result T E) (P : Type 0) → P → IfOk r (λ _. P)
of_any (Ok x) P h = h
of_any (Err e) P h = tt
