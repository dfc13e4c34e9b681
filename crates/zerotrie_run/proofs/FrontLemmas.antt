-- What the front of a file shows is so of all of it.
use Rattle.std.proofs.Common.{◌≡◌, ◌∙◌, ◌≤◌, ◌<◌, ◌^◌, ◌+◌, ℕ, List, [], ◌∷◌, ◌++◌, length, take, drop, Option, Some, None, Bool, true, false, refl, sym, ap, subst, inl, inr, arith, length-append}
use Rattle.std.specs.Prelude.{IfSome, nat_lt, ◌-◌, if◌then◌else◌}
use Rattle.std.specs.Int.{w16, from_le_bytes}
use Rattle.std.proofs.lemmas.List.{drop-append-le, take-append-drop, take-append-le, length-drop}
use Rattle.zerotrie_core.specs.Kinds.{kind_of, IsTag}
use Rattle.zerotrie_core.specs.declared.TrieKind.{TrieKind}
use Rattle.zerotrie_any.specs.Tagged.{IsTagFault}
use Rattle.zerotrie_any.specs.declared.bytes.TagError.{TagError}
use Rattle.zerotrie_base.specs.Kind.{tag}
use Rattle.zerotrie_sealed.specs.Sealed.{magic, version, header_as, index_number, IsIndexNumber, IsSealed, IsSealedAs, IsSealedIndex}
use Rattle.zerotrie_sealed.specs.Faults.{version_in, kind_in}
use Rattle.zerotrie_sealed.specs.declared.reading.SealError.TheVariants.{NoMagic, UnknownVersion, UnknownKind, CutShort, TooLong, Checksum}
use Rattle.std.proofs.lemmas.Bool.{le-ltb, lt-ltb}
use Rattle.std.proofs.lemmas.Nat.{from_le_bytes-to_le_bytes_2}
use Rattle.zerotrie_base.specs.Kind.{Kind, simple_ascii, ignore_case, perfect_hash, extended_capacity}
use Rattle.zerotrie_base.specs.declared.kind.TrieKind.TheVariants.{Simple, Ignore, Hash, Ext}
use Rattle.zerotrie_files.specs.Disks.{Story, IsPartFrom}
use Rattle.zerotrie_making.specs.Others.{IsOther}
use Rattle.zerotrie_making.specs.declared.others.OtherFile.{OtherFile}
use Rattle.zerotrie_queries.specs.Files.{IsUnknown}
use Rattle.zerotrie_queries.specs.Texts.{looks_like_text}
use Rattle.zerotrie_queries.specs.declared.file.OpenError.{OpenError}
use Rattle.zerotrie_queries.specs.declared.file.OpenError.TheVariants.{BadTag, Damaged, NotWellFormed, OutOfMemory}
use Rattle.zerotrie_run.specs.Fronts.{HasNothing, IsHint, IsSettled, begins_as_text, front_len, is_cut_text}
use Rattle.zerotrie_run.specs.Runs.{EndsAsk, IsOpenAt, IsRead, IsRefusedUnread, IsUnasked, IsUnopenedBy, IsUnopenedFor, ask_refusal, asks_index}
use Rattle.zerotrie_run.specs.Told.{HasReason}
use Rattle.zerotrie_run.specs.declared.ask.AskError.TheVariants.{NoTrie}
use Rattle.zerotrie_run.specs.declared.command.Place.{Place}
use Rattle.zerotrie_run.specs.declared.command.Place.TheVariants.{File, Stream}
use Rattle.zerotrie_run.specs.declared.command.Check.{Check}
use Rattle.zerotrie_run.specs.declared.command.Check.TheVariants as check
use Rattle.zerotrie_run.specs.declared.command.Question.{Question}
use Rattle.zerotrie_run.specs.declared.command.TrieFile.{TrieFile}
use Rattle.zerotrie_run.specs.declared.front.Hint.{Hint}
use Rattle.zerotrie_run.specs.declared.place.Opened.TheVariants as opened
use Rattle.zerotrie_run.specs.declared.front.Hint.TheVariants.{Text, Other, Nothing}

-- ---- the numbers in a header

-- two bytes are a number whatever follows
two_bytes : (bytes more : List ℕ) → 2 ≤ length bytes → from_le_bytes w16 (bytes ++ more) ≡ from_le_bytes w16 bytes
two_bytes [] more long = absurd (omega arith)
two_bytes (a ∷ []) more long = absurd (omega arith)
two_bytes (a ∷ b ∷ rest) more long = refl

number_at : (place : ℕ) (front more : List ℕ) → place + 2 ≤ length front → from_le_bytes w16 (drop place (front ++ more)) ≡ from_le_bytes w16 (drop place front)
number_at place front more long =
    ap (from_le_bytes w16) (drop-append-le place front more (omega arith)) ∙ two_bytes (drop place front) more (omega (arith, length-drop place front))

tag-lt : (kind : Kind) → tag kind < 2 ^ 16
tag-lt simple_ascii = omega arith
tag-lt ignore_case = omega arith
tag-lt perfect_hash = omega arith
tag-lt extended_capacity = omega arith

IsTag-tag : (kind : Kind) → IsTag (tag kind)
IsTag-tag simple_ascii = (Simple, refl)
IsTag-tag ignore_case = (Ignore, refl)
IsTag-tag perfect_hash = (Hash, refl)
IsTag-tag extended_capacity = (Ext, refl)

kind_in-header : (number : ℕ) (bytes more : List ℕ) → number < 2 ^ 16 → kind_in (header_as number bytes ++ more) ≡ number
kind_in-header number bytes more low = from_le_bytes-to_le_bytes_2 number low

magic_of : (number : ℕ) (bytes file : List ℕ) → IsSealedAs number bytes file → take 8 file ≡ magic
magic_of number bytes file is = ap (take 8) is.parts

version_of : (number : ℕ) (bytes file : List ℕ) → IsSealedAs number bytes file → version_in file ≡ version
version_of number bytes file is = ap version_in is.parts

-- ---- a sealed index has them

index_magic : (index file : List ℕ) → IsSealedIndex index file → take 8 file ≡ magic
index_magic index file (inl is) = magic_of index_number index file is
index_magic index file (inr is) = ap (take 8) is.parts ∙ ap (λ f. take 8 (f ++ index)) is.sealed.parts

index_version : (index file : List ℕ) → IsSealedIndex index file → version_in file ≡ version
index_version index file (inl is) = version_of index_number index file is
index_version index file (inr is) = ap version_in is.parts ∙ ap (λ f. version_in (f ++ index)) is.sealed.parts

index_kind : (index file : List ℕ) → IsSealedIndex index file → IsIndexNumber (kind_in file)
index_kind index file (inl is) = inl (ap kind_in is.parts)
index_kind index file (inr is) = inr (ap kind_in is.parts ∙ ap (λ f. kind_in (f ++ index)) is.sealed.parts)

-- ---- a front shows why there is no trie

same_magic : (front more : List ℕ) → 24 ≤ length front → take 8 (front ++ more) ≡ take 8 front
same_magic front more long = take-append-le 8 front more (omega arith)

same_tag : (front more : List ℕ) (why : TagError) → 24 ≤ length front → IsTagFault IsTag front why → IsTagFault IsTag (front ++ more) why
same_tag [] more why long fault = absurd (omega arith)
same_tag (first ∷ front) more why long fault = fault

pub settled_front : (named : Option TrieKind) (takes : Bool) (front more : List ℕ) (why : OpenError) → 24 ≤ length front → IsSettled takes why → IsUnknown named front why → HasNothing named takes (front ++ more) why
settled_front (Some kind) takes front more (BadTag why) long settled h = absurd h
settled_front (Some kind) takes front more (Damaged why) long settled h = absurd h
settled_front named takes front more (NotWellFormed kind fault) long settled h = absurd h
settled_front named takes front more OutOfMemory long settled h = absurd h
settled_front None takes front more (Damaged NoMagic) long settled h = absurd settled
settled_front None takes front more (Damaged CutShort) long settled h = absurd settled
settled_front None takes front more (Damaged TooLong) long settled h = absurd settled
settled_front None takes front more (Damaged Checksum) long settled h = absurd settled
settled_front None takes front more (BadTag why) long settled h =
    let same = same_magic front more long in (
      ((λ has. h.0 (sym same ∙ has)), same_tag front more why long h.1),
      λ asks index is. h.0 (sym same ∙ index_magic index (front ++ more) is),
    )
settled_front None takes front more (Damaged (UnknownVersion number)) long settled h =
    let all = front ++ more in
    let same : version_in all ≡ version_in front = number_at 8 front more (omega arith) in (
      (same_magic front more long ∙ h.0, (same ∙ h.1.0, h.1.1), λ kind bytes is. h.1.1 (sym (same ∙ h.1.0) ∙ version_of (tag (kind_of kind)) bytes all is)),
      λ asks index is. h.1.1 (sym (same ∙ h.1.0) ∙ index_version index all is),
    )
settled_front None takes front more (Damaged (UnknownKind number)) long settled h =
    let all = front ++ more in
    let same : kind_in all ≡ kind_in front = number_at 10 front more (omega arith) in (
      (
        same_magic front more long ∙ h.0,
        (same ∙ h.1.0, h.1.1),
        λ kind bytes is. h.1.1 (subst IsTag (sym (ap kind_in is.parts ∙ kind_in-header (tag (kind_of kind)) bytes bytes (tag-lt (kind_of kind))) ∙ (same ∙ h.1.0)) (IsTag-tag (kind_of kind))),
      ),
      λ asks index is. settled asks (subst IsIndexNumber (same ∙ h.1.0) (index_kind index all is)),
    )

-- ---- it is so however a file is tested

pub unknown_by : (test : Check) (named : Option TrieKind) (held : List ℕ) (why : OpenError) → IsUnknown named held why → IsUnopenedBy test named held why
unknown_by check.Skip named held why h = h
unknown_by check.Usual named held (BadTag why) h = h
unknown_by check.Usual named held (Damaged why) h = h
unknown_by check.Usual named held (NotWellFormed kind fault) h = absurd h
unknown_by check.Usual named held OutOfMemory h = absurd h
unknown_by check.Full named held (BadTag why) h = h
unknown_by check.Full named held (Damaged why) h = h
unknown_by check.Full named held (NotWellFormed kind fault) h = absurd h
unknown_by check.Full named held OutOfMemory h = absurd h

pub nothing_asked : (file : TrieFile) (question : Question) (held : List ℕ) (why : OpenError) → HasNothing file.bare (asks_index question) held why → IsUnopenedFor file question held why
nothing_asked file question held why h = (inl (unknown_by file.check file.bare held why h.0), λ bytes opens. h.1 opens.0 bytes opens.1.1)

-- ---- what it looks like

-- whether a file is longer than its front says how it is looked at
pub long_text : (held : List ℕ) → front_len < length held → begins_as_text held ≡ is_cut_text front_len held
long_text held long = rw (lt-ltb front_len (length held) long) refl

pub short_text : (held : List ℕ) → length held ≤ front_len → begins_as_text held ≡ looks_like_text held
short_text held short = rw (le-ltb front_len (length held) short) refl

-- a front that has all that is looked at
same_cut : (len : ℕ) (front more : List ℕ) → len ≤ length front → is_cut_text len (front ++ more) ≡ is_cut_text len front
same_cut len front more long =
    rw (take-append-le len front more long, take-append-le (len - 1) front more (omega arith), take-append-le (len - 2) front more (omega arith), take-append-le (len - 3) front more (omega arith)) refl

by_length : (all front : List ℕ) (long other : Bool) → long ≡ true → other ≡ true → is_cut_text front_len all ≡ is_cut_text front_len front
    → (if long then is_cut_text front_len all else looks_like_text all) ≡ (if other then is_cut_text front_len front else looks_like_text front)
by_length all front true true a b same = same
by_length all front false other a b same = absurd (cc a)
by_length all front true false a b same = absurd (cc b)

same_text : (front more : List ℕ) → 65537 ≤ length front → begins_as_text (front ++ more) ≡ begins_as_text front
same_text front more long =
    by_length (front ++ more) front (nat_lt front_len (length (front ++ more))) (nat_lt front_len (length front)) (lt-ltb _ _ (omega (arith, length-append front more))) (lt-ltb _ _ (omega arith))
    (same_cut front_len front more (omega arith))

same_front : (front more : List ℕ) (other : Option OtherFile) → 65537 ≤ length front → IsOther (take front_len front) other → IsOther (take front_len (front ++ more)) other
same_front front more other long h = subst (λ l. IsOther l other) (sym (take-append-le front_len front more (omega arith))) h

pub same_hint : (front more : List ℕ) (hint : Hint) → 65537 ≤ length front → IsHint front hint → IsHint (front ++ more) hint
same_hint front more Text long h = (same_front front more None long h.0, same_text front more long ∙ h.1)
same_hint front more (Other other) long h = same_front front more (Some other) long h
same_hint front more Nothing long h = (same_front front more None long h.0, same_text front more long ∙ h.1)

-- ---- a file of which the front was read

pub refused_unread : {F : Type 0} (shown : F → Option (List ℕ)) (f : F) (file : TrieFile) (takes : Bool) (files : Option Story) (front : List ℕ) (why : OpenError) (hint : Hint) → 65537 ≤ length front
    → ((more : List ℕ) → HasNothing file.bare takes (front ++ more) why) → IsHint front hint → IfSome (shown f) (IsPartFrom 0 front) → IsOpenAt shown file.place files (opened.File f)
    → IsRefusedUnread file takes files why hint
refused_unread {F} shown f file takes files front why hint long nothing looks part is = by file.place files refl is
  where
    by : (place : Place) (story : Option Story) → file.place ≡ place → IsOpenAt shown place story (opened.File f) → IsRefusedUnread file takes story why hint
    by (File path) None at h = λ input.
        (front ++ [], subst (λ p. IsRead p input None (front ++ [])) (sym at) tt, nothing [], same_hint front [] hint long looks)
    by (File path) (Some known) at h = λ input.
        let begins : IsPartFrom 0 front h.0 = subst (λ held. IfSome held (IsPartFrom 0 front)) h.2 part in
        let rest = drop (length front) h.0 in
        let all : front ++ rest ≡ h.0 = ap (λ l. l ++ rest) begins ∙ take-append-drop (length front) h.0 in (
          h.0,
          subst (λ p. IsRead p input (Some known) h.0) (sym at) h.1,
          subst (λ held. HasNothing file.bare takes held why) all (nothing rest),
          subst (λ held. IsHint held hint) all (same_hint front rest hint long looks),
        )
    by Stream story at h = absurd h

-- so a question to it ends, for this reason
pub ends_refused : (file : TrieFile) (q : Question) (input : Option (List ℕ)) (files : Option Story) (a : Option (List ℕ)) (why : OpenError) (hint : Hint) → IsRefusedUnread file (asks_index q) files why hint
    → EndsAsk file q input files a a (ask_refusal (NoTrie why hint))
ends_refused file q input files a (BadTag why) hint h = let r = h input in ((r.0, r.1, BadTag why, nothing_asked file q r.0 (BadTag why) r.2), refl)
ends_refused file q input files a (Damaged why) hint h = let r = h input in ((r.0, r.1, Damaged why, nothing_asked file q r.0 (Damaged why) r.2), refl)
ends_refused file q input files a (NotWellFormed kind fault) hint h = let r = h input in absurd r.2.0
ends_refused file q input files a OutOfMemory hint h = inl refl

pub reason_refused : (file : TrieFile) (q : Question) (input : Option (List ℕ)) (files : Option Story) (why : OpenError) (hint : Hint) → IsRefusedUnread file (asks_index q) files why hint
    → HasReason (IsUnasked file q) file q input files (NoTrie why hint)
reason_refused file q input files why hint h = let r = h input in (r.0, r.1, (nothing_asked file q r.0 why r.2).0, r.3)
