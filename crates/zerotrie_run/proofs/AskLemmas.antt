-- A question that was answered, and the flush after it.
use Rattle.std.proofs.Common.{◌≡◌, ◌⊎◌, ◌∙◌, ℕ, List, Option, Some, Bool, true, refl, sym, subst, inl, inr}
use Rattle.std.specs.Option.{option_map}
use Rattle.std.specs.Io.KnownBytes.{Keeps}
use Rattle.std.proofs.KnownBytes.{Appends-kept, Keeps-trans}
use Rattle.zerotrie_core.specs.Kinds.{kind_of}
use Rattle.zerotrie_core.specs.declared.TrieKind.{TrieKind}
use Rattle.zerotrie_reverse.specs.Tables.{Reversed}
use Rattle.zerotrie_queries.specs.declared.question.Asked.{Asked}
use Rattle.zerotrie_queries.specs.declared.question.Asked.TheVariants.{KeyOf}
use Rattle.zerotrie_queries.specs.code.Code.{whole_code}
use Rattle.zerotrie_queries.specs.views.Views.{shown}
use Rattle.zerotrie_queries.specs.reports.Reports.{report_of}
use Rattle.zerotrie_queries.specs.reports.Forms.{reported}
use Rattle.zerotrie_queries.specs.Answers.{AreAnswered}
use Rattle.zerotrie_queries.specs.declared.question.Query.{Query}
use Rattle.zerotrie_queries.specs.Listed.{printed}
use Rattle.zerotrie_queries.proofs.PartLemmas.{part_all}
use Rattle.zerotrie_queries.proofs.AnswerLemmas.{begun_all}
use Rattle.zerotrie_files.specs.Disks.{Story}
use Rattle.zerotrie_files.specs.Faults.{Watched}
use Rattle.zerotrie_queries.specs.declared.file.OpenError.TheVariants.{BadTag, Damaged, NotWellFormed, OutOfMemory}
use Rattle.zerotrie_queries.specs.Finders.{Dictionary, KindFinds, TrieFinds, IndexFinds}
use Rattle.zerotrie_run.specs.Runs.Content.{of_trie, of_index, in_blocks}
use Rattle.zerotrie_run.specs.Runs.{Answers, AnswersInPart, Content, ContentAnswers, ContentAnswersInPart, IndexAnswers, IndexAnswersInPart, AreKeys, KeysAnswered, KeysAnsweredInPart, IsNoAnswer, IsRead, IsUnanswered, AreLines, HasNoKeys, HasNoLines, Opens, EndsAsk, ask_refusal, are_lines, of_lines, IsUnasked, LeavesKeys, LeavesInputOf}
use Rattle.zerotrie_run.specs.Told.{HasReason}
use Rattle.zerotrie_run.specs.declared.ask.AskError.{AskError}
use Rattle.zerotrie_run.specs.declared.ask.AskError.TheVariants.{Unread, NoTrie, Unprintable, Unanswered}
use Rattle.zerotrie_making.specs.declared.others.OtherFile.{OtherFile}
use Rattle.zerotrie_run.specs.declared.stdin_lines.AnswerError.{AnswerError}
use Rattle.zerotrie_run.specs.declared.stdin_lines.AnswerError.TheVariants.{Input, NoLines, Output}
use Rattle.zerotrie_run.specs.declared.command.TrieFile.{TrieFile}
use Rattle.zerotrie_run.specs.declared.command.Place.{Place}
use Rattle.zerotrie_run.specs.declared.command.Place.TheVariants.{Stream}
use Rattle.zerotrie_run.specs.declared.status.Status.TheVariants.{BadUsage}
use Rattle.zerotrie_run.specs.declared.command.Keys.{Keys}
use Rattle.zerotrie_run.specs.declared.command.Keys.TheVariants.{Words, Lines}
use Rattle.zerotrie_run.specs.declared.command.Question.{Question}
use Rattle.zerotrie_run.specs.declared.command.Question.TheVariants.{LookUp, List as Listing, Code, Report, Verify, View}

-- a flush leaves what was answered
pub kept_texts : (of : Query) (Has : Dictionary → Type 0) (texts : List (List ℕ)) (a b c : Option (List ℕ)) (all : Bool) → AreAnswered of Has texts a b all → Keeps b c
    → AreAnswered of Has texts a c all
kept_texts of Has texts a b c all h k at has = let x = h at has in (x.0, x.1, Appends-kept a b c x.0 x.2 k)

-- it leaves the answer to any question
kept_answer : (q : Question) (input : Option (List ℕ)) (kind : TrieKind) (bytes : List ℕ) (a b c : Option (List ℕ)) (all : Bool) → Answers q input kind bytes a b all → Keeps b c
    → Answers q input kind bytes a c all
kept_answer (LookUp of keys) input kind bytes a b c all h k = (h.0, h.1, kept_texts of (TrieFinds kind bytes) h.0 a b c all h.2 k)
kept_answer (Listing form s) input kind bytes a b c all h k = (h.0, λ pairs lists. let x = h.1 pairs lists in (x.0, Appends-kept a b c (printed form s kind pairs) x.1 k))
kept_answer (Code language name) input kind bytes a b c all h k = (h.0, Appends-kept a b c (whole_code language kind name.now bytes) h.1 k)
kept_answer Verify input kind bytes a b c all h k = (h.0, Keeps-trans a b c h.1 k)
kept_answer (Report form name) input kind bytes a b c all h k = (h.0, Appends-kept a b c (reported form (option_map (λ n. n.now) name) (report_of kind bytes)) h.1 k)
kept_answer (View view) input kind bytes a b c all h k = (h.0, Appends-kept a b c (shown view kind bytes) h.1 k)

kept_index : (q : Question) (input : Option (List ℕ)) (bytes : List ℕ) (a b c : Option (List ℕ)) (all : Bool) → IndexAnswers q input bytes a b all → Keeps b c → IndexAnswers q input bytes a c all
kept_index (LookUp of keys) input bytes a b c all h k = (h.0, h.1, kept_texts of (IndexFinds of.asked bytes) h.0 a b c all h.2 k)
kept_index (Listing form s) input bytes a b c all h k = (h.0, Keeps-trans a b c h.1 k)
kept_index (Code language name) input bytes a b c all h k = (h.0, Keeps-trans a b c h.1 k)
kept_index Verify input bytes a b c all h k = (h.0, Keeps-trans a b c h.1 k)
kept_index (Report form name) input bytes a b c all h k = (h.0, Keeps-trans a b c h.1 k)
kept_index (View view) input bytes a b c all h k = (h.0, Keeps-trans a b c h.1 k)

pub kept_content : (x : Content) (q : Question) (input : Option (List ℕ)) (a b c : Option (List ℕ)) (all : Bool) → ContentAnswers x q input a b all → Keeps b c → ContentAnswers x q input a c all
kept_content (of_trie kind bytes) q input a b c all h k = kept_answer q input kind bytes a b c all h k
kept_content (of_index bytes) q input a b c all h k = kept_index q input bytes a b c all h k
kept_content (in_blocks start held) q input a b c all h k = λ bytes has. kept_index q input bytes a b c all (h bytes has) k

-- words are the same keys whatever standard input has
other_keys : (keys : Keys) (i j : Option (List ℕ)) (ks : List (List ℕ)) → (are_lines keys ≡ true → ⊥) → AreKeys keys i ks → AreKeys keys j ks
other_keys (Words words) i j ks apart h = h
other_keys Lines i j ks apart h = absurd (apart refl)

other_lines : (keys : Keys) (i j : Option (List ℕ)) → (are_lines keys ≡ true → ⊥) → AreLines keys i → AreLines keys j
other_lines (Words words) i j apart h = h
other_lines Lines i j apart h = absurd (apart refl)

-- an answer whose keys are no lines is one whatever standard input has
other_input : (q : Question) (i j : Option (List ℕ)) (kind : TrieKind) (bytes : List ℕ) (a b : Option (List ℕ)) (all : Bool) → (of_lines q ≡ true → ⊥) → Answers q i kind bytes a b all
    → Answers q j kind bytes a b all
other_input (LookUp of keys) i j kind bytes a b all apart h = (h.0, (other_keys keys i j h.0 apart h.1.0, other_lines keys i j apart h.1.1), h.2)
other_input (Listing form s) i j kind bytes a b all apart h = h
other_input (Code language name) i j kind bytes a b all apart h = h
other_input Verify i j kind bytes a b all apart h = h
other_input (Report form name) i j kind bytes a b all apart h = h
other_input (View view) i j kind bytes a b all apart h = h

other_input_index : (q : Question) (i j : Option (List ℕ)) (bytes : List ℕ) (a b : Option (List ℕ)) (all : Bool) → (of_lines q ≡ true → ⊥) → IndexAnswers q i bytes a b all → IndexAnswers q j bytes a b all
other_input_index (LookUp of keys) i j bytes a b all apart h = (h.0, (other_keys keys i j h.0 apart h.1.0, other_lines keys i j apart h.1.1), h.2)
other_input_index (Listing form s) i j bytes a b all apart h = h
other_input_index (Code language name) i j bytes a b all apart h = h
other_input_index Verify i j bytes a b all apart h = h
other_input_index (Report form name) i j bytes a b all apart h = h
other_input_index (View view) i j bytes a b all apart h = h

other_input_content : (x : Content) (q : Question) (i j : Option (List ℕ)) (a b : Option (List ℕ)) (all : Bool) → (of_lines q ≡ true → ⊥) → ContentAnswers x q i a b all → ContentAnswers x q j a b all
other_input_content (of_trie kind bytes) q i j a b all apart h = other_input q i j kind bytes a b all apart h
other_input_content (of_index bytes) q i j a b all apart h = other_input_index q i j bytes a b all apart h
other_input_content (in_blocks start held) q i j a b all apart h = λ bytes has. other_input_index q i j bytes a b all apart (h bytes has)

-- the input that is left after a file was read answers as all of it
pub same_answer : {R : Type 0} (place : Place) (remaining : R → Option (List ℕ)) (old new : Watched R) (x : Content) (q : Question) (a b : Option (List ℕ)) (all : Bool)
    → ((place ≡ Stream) × (of_lines q ≡ true) → ⊥) → (place ≡ Stream) ⊎ (new ≡ old) → ContentAnswers x q (remaining new.inner) a b all → ContentAnswers x q (remaining old.inner) a b all
same_answer place remaining old new x q a b all apart (inl is) h = other_input_content x q (remaining new.inner) (remaining old.inner) a b all (λ lines. apart (is, lines)) h
same_answer place remaining old new x q a b all apart (inr is) h = subst (λ r. ContentAnswers x q (remaining r.inner) a b all) is h

-- an answer to keys is a beginning of itself
keys_in_part : (of : Query) (keys : Keys) (input : Option (List ℕ)) (Has : Dictionary → Type 0) (a b : Option (List ℕ)) (all : Bool) → KeysAnswered of keys input Has a b all
    → KeysAnsweredInPart of keys input Has a b
keys_in_part of keys input Has a b all h = (h.0, h.1.0, begun_all of Has h.0 a b all h.2)

-- what is answered of more dictionaries is answered of these
pub keys_of_more : (of : Query) (keys : Keys) (input : Option (List ℕ)) (Has More : Dictionary → Type 0) (a b : Option (List ℕ)) (all : Bool) → ((d : Dictionary) → More d → Has d)
    → KeysAnswered of keys input Has a b all → KeysAnswered of keys input More a b all
keys_of_more of keys input Has More a b all is h = (h.0, h.1, λ d some. h.2 d (is d some))

pub part_of_more : (of : Query) (keys : Keys) (input : Option (List ℕ)) (Has More : Dictionary → Type 0) (a b : Option (List ℕ)) → ((d : Dictionary) → More d → Has d)
    → KeysAnsweredInPart of keys input Has a b → KeysAnsweredInPart of keys input More a b
part_of_more of keys input Has More a b is h = (h.0, h.1, λ d some. h.2 d (is d some))

-- a table of a trie finds what the trie does
pub by_table : (kind : TrieKind) (bytes : List ℕ) (asked : Asked) (t : Reversed) → t.kind ≡ kind_of kind → t.bytes ≡ bytes → asked ≡ KeyOf → (d : Dictionary) → TrieFinds kind bytes d → (asked ≡ KeyOf) × KindFinds t.kind t.bytes d
by_table kind bytes asked t k b is d h = (is, subst (λ x. KindFinds x t.bytes d) (sym k) (subst (λ x. KindFinds (kind_of kind) x d) (sym b) h))

-- an answer is a beginning of itself
trie_in_part : (q : Question) (input : Option (List ℕ)) (kind : TrieKind) (bytes : List ℕ) (a b : Option (List ℕ)) (all : Bool) → Answers q input kind bytes a b all → AnswersInPart q input kind bytes a b
trie_in_part (LookUp of keys) input kind bytes a b all h = keys_in_part of keys input (TrieFinds kind bytes) a b all h
trie_in_part (Listing form s) input kind bytes a b all h = λ pairs lists. part_all a b (printed form s kind pairs) (h.1 pairs lists).1
trie_in_part (Code language name) input kind bytes a b all h = part_all a b (whole_code language kind name.now bytes) h.1
trie_in_part Verify input kind bytes a b all h = h.1
trie_in_part (Report form name) input kind bytes a b all h = part_all a b (reported form (option_map (λ n. n.now) name) (report_of kind bytes)) h.1
trie_in_part (View view) input kind bytes a b all h = part_all a b (shown view kind bytes) h.1

index_in_part : (q : Question) (input : Option (List ℕ)) (bytes : List ℕ) (a b : Option (List ℕ)) (all : Bool) → IndexAnswers q input bytes a b all → IndexAnswersInPart q input bytes a b
index_in_part (LookUp of keys) input bytes a b all h = keys_in_part of keys input (IndexFinds of.asked bytes) a b all h
index_in_part (Listing form s) input bytes a b all h = h.1
index_in_part (Code language name) input bytes a b all h = h.1
index_in_part Verify input bytes a b all h = h.1
index_in_part (Report form name) input bytes a b all h = h.1
index_in_part (View view) input bytes a b all h = h.1

pub answer_in_part : (x : Content) (q : Question) (input : Option (List ℕ)) (a b : Option (List ℕ)) (all : Bool) → ContentAnswers x q input a b all → ContentAnswersInPart x q input a b
answer_in_part (of_trie kind bytes) q input a b all h = trie_in_part q input kind bytes a b all h
answer_in_part (of_index bytes) q input a b all h = index_in_part q input bytes a b all h
answer_in_part (in_blocks start held) q input a b all h = λ bytes has. index_in_part q input bytes a b all (h bytes has)

-- a beginning of an answer whose keys are no lines is one whatever standard input has
other_part : (q : Question) (i j : Option (List ℕ)) (kind : TrieKind) (bytes : List ℕ) (a b : Option (List ℕ)) → (of_lines q ≡ true → ⊥) → AnswersInPart q i kind bytes a b → AnswersInPart q j kind bytes a b
other_part (LookUp of keys) i j kind bytes a b apart h = (h.0, other_keys keys i j h.0 apart h.1, h.2)
other_part (Listing form s) i j kind bytes a b apart h = h
other_part (Code language name) i j kind bytes a b apart h = h
other_part Verify i j kind bytes a b apart h = h
other_part (Report form name) i j kind bytes a b apart h = h
other_part (View view) i j kind bytes a b apart h = h

other_part_index : (q : Question) (i j : Option (List ℕ)) (bytes : List ℕ) (a b : Option (List ℕ)) → (of_lines q ≡ true → ⊥) → IndexAnswersInPart q i bytes a b → IndexAnswersInPart q j bytes a b
other_part_index (LookUp of keys) i j bytes a b apart h = (h.0, other_keys keys i j h.0 apart h.1, h.2)
other_part_index (Listing form s) i j bytes a b apart h = h
other_part_index (Code language name) i j bytes a b apart h = h
other_part_index Verify i j bytes a b apart h = h
other_part_index (Report form name) i j bytes a b apart h = h
other_part_index (View view) i j bytes a b apart h = h

other_part_content : (x : Content) (q : Question) (i j : Option (List ℕ)) (a b : Option (List ℕ)) → (of_lines q ≡ true → ⊥) → ContentAnswersInPart x q i a b → ContentAnswersInPart x q j a b
other_part_content (of_trie kind bytes) q i j a b apart h = other_part q i j kind bytes a b apart h
other_part_content (of_index bytes) q i j a b apart h = other_part_index q i j bytes a b apart h
other_part_content (in_blocks start held) q i j a b apart h = λ bytes has. other_part_index q i j bytes a b apart (h bytes has)

pub same_part : {R : Type 0} (place : Place) (remaining : R → Option (List ℕ)) (old new : Watched R) (x : Content) (q : Question) (a b : Option (List ℕ))
    → ((place ≡ Stream) × (of_lines q ≡ true) → ⊥) → (place ≡ Stream) ⊎ (new ≡ old) → ContentAnswersInPart x q (remaining new.inner) a b → ContentAnswersInPart x q (remaining old.inner) a b
same_part place remaining old new x q a b apart (inl is) h = other_part_content x q (remaining new.inner) (remaining old.inner) a b (λ lines. apart (is, lines)) h
same_part place remaining old new x q a b apart (inr is) h = subst (λ r. ContentAnswersInPart x q (remaining r.inner) a b) is h

-- keys that are no lines of standard input are none whatever it has
other_no_keys : (q : Question) (i j : Option (List ℕ)) (a b : Option (List ℕ)) (e : AnswerError) → (of_lines q ≡ true → ⊥) → HasNoKeys q i a b e → HasNoKeys q j a b e
other_no_keys (LookUp of Lines) i j a b e apart h = absurd (apart refl)
other_no_keys (LookUp of (Words words)) i j a b (Input e) apart h = h
other_no_keys (LookUp of (Words words)) i j a b (NoLines o) apart h = absurd h.0
other_no_keys (LookUp of (Words words)) i j a b (Output e) apart h = h
other_no_keys (Listing form s) i j a b e apart h = h
other_no_keys (Code language name) i j a b e apart h = h
other_no_keys Verify i j a b e apart h = h
other_no_keys (Report form name) i j a b e apart h = h
other_no_keys (View view) i j a b e apart h = h

pub same_keys : {R : Type 0} (place : Place) (remaining : R → Option (List ℕ)) (old new : Watched R) (q : Question) (a b : Option (List ℕ)) (e : AnswerError)
    → ((place ≡ Stream) × (of_lines q ≡ true) → ⊥) → (place ≡ Stream) ⊎ (new ≡ old) → HasNoKeys q (remaining new.inner) a b e → HasNoKeys q (remaining old.inner) a b e
same_keys place remaining old new q a b e apart (inl is) h = other_no_keys q (remaining new.inner) (remaining old.inner) a b e (λ lines. apart (is, lines)) h
same_keys place remaining old new q a b e apart (inr is) h = subst (λ r. HasNoKeys q (remaining r.inner) a b e) is h

no_lines : (q : Question) (i : Option (List ℕ)) (a b : Option (List ℕ)) (o : OtherFile) → HasNoKeys q i a b (NoLines o) → HasNoLines q i o × (b ≡ a)
no_lines (LookUp of keys) i a b o h = h
no_lines (Listing form s) i a b o h = absurd (cc)
no_lines (Code language name) i a b o h = absurd (cc)
no_lines Verify i a b o h = absurd (cc)
no_lines (Report form name) i a b o h = absurd (cc)
no_lines (View view) i a b o h = absurd (cc)

-- what was read has no answer, and so the question ends
pub ends_unanswered : (file : TrieFile) (q : Question) (i j : Option (List ℕ)) (files : Option Story) (held : List ℕ) (old new : Option (List ℕ)) (e : AskError) → IsRead file.place i files held
    → ((x : Content) → ContentAnswersInPart x q j old new → ContentAnswersInPart x q i old new) → ((e : AnswerError) → HasNoKeys q j old new e → HasNoKeys q i old new e)
    → IsUnanswered file q j held old new e → EndsAsk file q i files old new (ask_refusal e)
ends_unanswered file q i j files held old new (Unread e) read same keys h = absurd h
ends_unanswered file q i j files held old new (NoTrie (BadTag why) t) read same keys h = ((held, read, BadTag why, h.0), h.2)
ends_unanswered file q i j files held old new (NoTrie (Damaged why) t) read same keys h = ((held, read, Damaged why, h.0), h.2)
ends_unanswered file q i j files held old new (NoTrie (NotWellFormed k f) t) read same keys h = ((held, read, NotWellFormed k f, h.0), h.2)
ends_unanswered file q i j files held old new (NoTrie OutOfMemory t) read same keys h = inl h.2
ends_unanswered file q i j files held old new (Unanswered (Input e)) read same keys h = inr (record { held = held; read = read; content = h.0; opens = inl h.1; begun = same h.0 h.2 })
ends_unanswered file q i j files held old new (Unanswered (Output e)) read same keys h = inr (record { held = held; read = read; content = h.0; opens = inl h.1; begun = same h.0 h.2 })
ends_unanswered file q i j files held old new (Unanswered (NoLines o)) read same keys h =
    let none = no_lines q i old new o (keys (NoLines o) h.3) in
    (o, record { held = held; read = read; content = h.0; opens = h.1; keys = none.0 }, none.1)
ends_unanswered file q i j files held old new (Unprintable form key) read same keys h = (form, key.items, record { held = held; read = read; kind = h.0; bytes = h.1; opens = h.2; shows = h.3 }, h.4)

-- why it has none is so of what was read
pub reason_unanswered : (file : TrieFile) (q : Question) (i j : Option (List ℕ)) (files : Option Story) (held : List ℕ) (old new : Option (List ℕ)) (e : AskError) → IsRead file.place i files held
    → ((e : AnswerError) → HasNoKeys q j old new e → HasNoKeys q i old new e) → IsUnanswered file q j held old new e
    → HasReason (IsUnasked file q) file q i files e
reason_unanswered file q i j files held old new (Unread e) read keys h = tt
reason_unanswered file q i j files held old new (NoTrie why t) read keys h = (held, read, h.0.0, h.1)
reason_unanswered file q i j files held old new (Unanswered (Input e)) read keys h = tt
reason_unanswered file q i j files held old new (Unanswered (Output e)) read keys h = tt
reason_unanswered file q i j files held old new (Unanswered (NoLines o)) read keys h = (no_lines q i old new o (keys (NoLines o) h.3)).0
reason_unanswered file q i j files held old new (Unprintable form key) read keys h = record { held = held; read = read; kind = h.0; bytes = h.1; opens = h.2; shows = h.3 }

-- what is opened and has no answer is unanswered
pub unanswered_of : (file : TrieFile) (q : Question) (input : Option (List ℕ)) (held : List ℕ) (old new : Option (List ℕ)) (kind : TrieKind) (bytes : List ℕ) (e : AskError) → Opens file held kind bytes
    → IsNoAnswer q input kind bytes old new e
    → IsUnanswered file q input held old new e
unanswered_of file q input held old new kind bytes (Unread e) opens h = h
unanswered_of file q input held old new kind bytes (NoTrie why t) opens h = absurd h
unanswered_of file q input held old new kind bytes (Unprintable form key) opens h = (kind, bytes, opens, h.0, h.1)
unanswered_of file q input held old new kind bytes (Unanswered e) opens h = (of_trie kind bytes, opens, h.0, h.1)

-- a question that is asked is not refused for its words
pub not_misused : (e : AskError) → ask_refusal e ≡ Some BadUsage → ⊥
not_misused (Unread e) is = cc is
not_misused (NoTrie (BadTag why) hint) is = cc is
not_misused (NoTrie (Damaged why) hint) is = cc is
not_misused (NoTrie (NotWellFormed kind fault) hint) is = cc is
not_misused (NoTrie OutOfMemory hint) is = cc is
not_misused (Unprintable form key) is = cc is
not_misused (Unanswered (Input e)) is = cc is
not_misused (Unanswered (NoLines other)) is = cc is
not_misused (Unanswered (Output e)) is = cc is

-- standard input is left alone if neither the read of the file nor the answer reads it
pub left_alone : {A : Type 0} (file : TrieFile) (q : Question) (first read last : A) (e : AskError) → (ask_refusal e ≡ Some BadUsage → ⊥) → (file.place ≡ Stream) ⊎ (read ≡ first)
    → (LeavesKeys q (ask_refusal e) → last ≡ read) → LeavesInputOf file q (ask_refusal e) → last ≡ first
left_alone file q first read last e fine untouched unread (inl misused) = absurd (fine misused)
left_alone file q first read last e fine (inl stream) unread (inr leaves) = absurd (leaves.0 stream)
left_alone file q first read last e fine (inr same) unread (inr leaves) = unread leaves.1 ∙ same
