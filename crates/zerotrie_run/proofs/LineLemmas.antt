-- An input whose lines are answered part by part.
use Rattle.std.proofs.Common.{◌≡◌, ◌⊎◌, ℕ, zero, suc, ◌+◌, ◌-◌, ◌<◌, ◌≤◌, List, [], ◌∷◌, ◌++◌, length, map, take, drop, get_or, Option, None, Some, Bool, true, false, refl, sym, ◌∙◌, ap, subst, inl, inr, arith, append_assoc, append-nil}
use Rattle.std.proofs.lemmas.List.{length-drop, length-take-le, get_or-drop, get_or_append_left, map-append}
use Rattle.std.proofs.lemmas.Bool.{eqb-true, eqb-false}
use Rattle.std.proofs.lemmas.Bool.Decides.{eqb_tells}
use Rattle.std.specs.Prelude.{◌≢◌, ◌==◌, ◌&&◌, IfSome, if◌then◌else◌}
use Rattle.std.specs.List.{list_any}
use Rattle.std.specs.Io.KnownBytes.{Consumes, IsAtEnd, Keeps}
use Rattle.std.proofs.KnownBytes.{Consumes-nil, Consumes-trans, Consumes-whole}
use Rattle.csv.specs.Reading.{is_bom, strip_bom}
use Rattle.zerotrie_lines.specs.Lines.{is_feed, onto_line, lines_of, ended, ended_lines}
use Rattle.zerotrie_lines.specs.Blocks.{AreWhole, HasFeed}
use Rattle.zerotrie_lines.specs.declared.reading.LineEnd.TheVariants.{CrLf}
use Rattle.zerotrie_files.specs.Reads.{Gives}
use Rattle.zerotrie_making.specs.Others.{HasUtf16Mark, IsOther, IsSettled}
use Rattle.zerotrie_making.specs.declared.others.OtherFile.{OtherFile}
use Rattle.zerotrie_queries.specs.declared.question.Query.{Query}
use Rattle.zerotrie_queries.specs.Finders.{Dictionary}
use Rattle.zerotrie_queries.specs.Answers.{AreAnswered, AreAnsweredInPart}
use Rattle.zerotrie_queries.proofs.AnswerLemmas.{none_answered, more_answered, begun_none, begun_all, begun_front, more_begun}
use Rattle.zerotrie_run.specs.Streams.{IsUnsettled, MayBeUtf16, WholeAnswered, text_behind}
use Rattle.zerotrie_run.specs.Runs.{KeysAnswered, KeysAnsweredInPart, AreKeys, key_lines}
use Rattle.zerotrie_run.specs.declared.command.Keys.TheVariants.{Lines}

-- ---- whole lines, and the mark in front of the first

onto_some : (b : ℕ) (lines : List (List ℕ)) → onto_line b lines ≢ []
onto_some b [] e = absurd (cc)
onto_some b (line ∷ lines) e = absurd (cc)

some_line : (c : ℕ) (t : List ℕ) → lines_of (c ∷ t) ≢ []
some_line c t = by_feed (is_feed c) refl
  where
    by_feed : (x : Bool) → is_feed c ≡ x → lines_of (c ∷ t) ≢ []
    by_feed true is = rw is (λ e. absurd (cc))
    by_feed false is = rw is (onto_some c (lines_of t))

cut_line : (b : ℕ) (all front rest : List (List ℕ)) → all ≢ [] → front ≢ [] → onto_line b all ≡ onto_line b front ++ rest → all ≡ front ++ rest
cut_line b [] front rest some first e = absurd (some refl)
cut_line b (l ∷ all) [] rest some first e = absurd (first refl)
cut_line b (l ∷ all) (f ∷ front) rest some first e = cc

-- behind a byte that ends no line, whole lines are whole, and there are some
whole_behind : (b : ℕ) (t : List ℕ) → is_feed b ≡ false → AreWhole (b ∷ t) → AreWhole t × (t ≢ [])
whole_behind b [] other whole = absurd (cc (rw other at (whole (0 ∷ []))))
whole_behind b (c ∷ t) other whole = (
  (λ rest. cut_line b (lines_of (c ∷ (t ++ rest))) (lines_of (c ∷ t)) (lines_of rest) (some_line c (t ++ rest)) (some_line c t) (rw other at (whole rest))),
  (λ e. absurd (cc)),
)

both : (p q : Bool) → (p && q) ≡ true → (p ≡ true) × (q ≡ true)
both true true h = (refl, refl)
both true false h = absurd (cc)
both false q h = absurd (cc)

-- no byte of a mark is a line feed
mark_bytes : (a b c : ℕ) → is_bom a b c ≡ true → (is_feed a ≡ false) × (is_feed b ≡ false) × (is_feed c ≡ false)
mark_bytes a b c is =
    let p = both ((a == 0xEF) && (b == 0xBB)) (c == 0xBF) is in
    let q = both (a == 0xEF) (b == 0xBB) p.0 in
    (ap is_feed (eqb-true a 0xEF q.0), ap is_feed (eqb-true b 0xBB q.1), ap is_feed (eqb-true c 0xBF p.1))

by_mark : {X : Type 0} (Fact : X → Type 0) (t : Bool) (x y : X) → (t ≡ true → Fact x) → (t ≡ false → Fact y) → Fact (if t then x else y)
by_mark Fact true x y h k = h refl
by_mark Fact false x y h k = k refl

strip_whole : (t : List ℕ) → AreWhole t → AreWhole (strip_bom t)
unfolding strip_bom
strip_whole [] whole = whole
strip_whole (a ∷ []) whole = whole
strip_whole (a ∷ b ∷ []) whole = whole
strip_whole (a ∷ b ∷ c ∷ t) whole = by_mark AreWhole (is_bom a b c) t (a ∷ b ∷ c ∷ t) (λ is.
    let m = mark_bytes a b c is in
    (whole_behind c t m.2 (whole_behind b (c ∷ t) m.1 (whole_behind a (b ∷ c ∷ t) m.0 whole).0).0).0) (λ _. whole)

-- the mark in front of whole lines is one of all that follows
strip_on : (t rest : List ℕ) → AreWhole t → t ≢ [] → strip_bom (t ++ rest) ≡ strip_bom t ++ rest
unfolding strip_bom
strip_on [] rest whole some = absurd (some refl)
strip_on (a ∷ []) [] whole some = refl
strip_on (a ∷ []) (b ∷ []) whole some = refl
strip_on (a ∷ []) (b ∷ c ∷ rest) whole some =
    by_mark (λ s. s ≡ a ∷ b ∷ c ∷ rest) (is_bom a b c) rest (a ∷ b ∷ c ∷ rest) (λ is. absurd ((whole_behind a [] (mark_bytes a b c is).0 whole).1 refl)) (λ _. refl)
strip_on (a ∷ b ∷ []) [] whole some = refl
strip_on (a ∷ b ∷ []) (c ∷ rest) whole some =
    by_mark (λ s. s ≡ a ∷ b ∷ c ∷ rest) (is_bom a b c) rest (a ∷ b ∷ c ∷ rest)
    (λ is. let m = mark_bytes a b c is in absurd ((whole_behind b [] m.1 (whole_behind a (b ∷ []) m.0 whole).0).1 refl)) (λ _. refl)
strip_on (a ∷ b ∷ c ∷ t) rest whole some = either (is_bom a b c)
  where
    either : (x : Bool) → (if x then t ++ rest else a ∷ b ∷ c ∷ (t ++ rest)) ≡ (if x then t else a ∷ b ∷ c ∷ t) ++ rest
    either true = refl
    either false = refl

keys_on : (t rest : List ℕ) → AreWhole t → t ≢ [] → key_lines (t ++ rest) ≡ key_lines t ++ ended_lines CrLf rest
keys_on t rest whole some =
    ap (λ s. map (ended CrLf) (lines_of s)) (strip_on t rest whole some)
    ∙ ap (map (ended CrLf)) (strip_whole t whole rest)
    ∙ map-append (ended CrLf) (lines_of (strip_bom t)) (lines_of rest)

-- the first lines of what begins with whole lines are these
front_keys : (t rest : List ℕ) → AreWhole t → (more : List (List ℕ)) × (key_lines (t ++ rest) ≡ key_lines t ++ more)
unfolding strip_bom
front_keys [] rest whole = (key_lines rest, refl)
front_keys (b ∷ t) rest whole = (ended_lines CrLf rest, keys_on (b ∷ t) rest whole (λ e. absurd (cc)))

-- the lines of what is next come after these
next_keys : (first : Bool) (done part : List ℕ) → AreWhole done → (first ≡ true → done ≡ []) → (first ≡ false → done ≢ []) → key_lines (done ++ part) ≡ key_lines done ++ ended_lines CrLf (text_behind first part)
unfolding strip_bom
next_keys true done part whole none some = rw (none refl) refl
next_keys false done part whole none some = keys_on done part whole (some refl)

-- ---- what was answered

-- What was read of an input and answered, and what was read and is held. What was answered is whole lines, none yet if those that
-- follow are the first.
pub record LinesAnswered (of : Query) (Has : Dictionary → Type 0) (input left : Option (List ℕ)) (held : List ℕ) (old new : Option (List ℕ)) (all first : Bool) : Type 0 where
  pub done : List ℕ
  pub whole : AreWhole done
  pub none : first ≡ true → done ≡ []
  pub some : first ≡ false → done ≢ []
  pub consumes : Consumes input left (done ++ held)
  pub answered : AreAnswered of Has (key_lines done) old new all

pub lines_first : (of : Query) (Has : Dictionary → Type 0) (input left old : Option (List ℕ)) (held : List ℕ) → Consumes input left held → LinesAnswered of Has input left held old old true true
unfolding strip_bom
lines_first of Has input left old held consumes = record {
  done = [];
  whole = λ rest. refl;
  none = λ _. refl;
  some = λ is. absurd (cc);
  consumes = consumes;
  answered = none_answered of Has old;
}

-- more was read
pub lines_read : (of : Query) (Has : Dictionary → Type 0) (input left after : Option (List ℕ)) (held more : List ℕ) (old new : Option (List ℕ)) (all first ended : Bool)
    → LinesAnswered of Has input left held old new all first → Gives left after held more ended → LinesAnswered of Has input after more old new all first
lines_read of Has input left after held more old new all first ended t g = record {
  done = t.done;
  whole = t.whole;
  none = t.none;
  some = t.some;
  consumes = subst (Consumes input after) (append_assoc t.done held g.bytes ∙ ap (λ l. t.done ++ l) (sym g.adds)) (Consumes-trans input left after (t.done ++ held) g.bytes t.consumes g.consumes);
  answered = t.answered;
}

-- a part of what is held was answered
answered_part : (of : Query) (Has : Dictionary → Type 0) (input left : Option (List ℕ)) (held part : List ℕ) (old mid new : Option (List ℕ)) (all first found : Bool)
    → (t : LinesAnswered of Has input left held old mid all first) → AreAnswered of Has (ended_lines CrLf (text_behind first part)) mid new found → AreAnswered of Has (key_lines (t.done ++ part)) old new (all && found)
answered_part of Has input left held part old mid new all first found t h =
    subst (λ lines. AreAnswered of Has lines old new (all && found)) (sym (next_keys first t.done part t.whole t.none t.some))
    (more_answered of Has (key_lines t.done) (ended_lines CrLf (text_behind first part)) old mid new all found t.answered h)

whole-append : (a b : List ℕ) → AreWhole a → AreWhole b → AreWhole (a ++ b)
whole-append a b h k rest =
    ap lines_of (append_assoc a b rest)
    ∙ h (b ++ rest)
    ∙ ap (λ l. lines_of a ++ l) (k rest)
    ∙ sym (append_assoc (lines_of a) (lines_of b) (lines_of rest))
    ∙ ap (λ l. l ++ lines_of rest) (sym (h b))

append_some : (a b : List ℕ) → (a ≢ []) ⊎ (b ≢ []) → a ++ b ≢ []
append_some [] b (inl some) e = some refl
append_some [] b (inr some) e = some e
append_some (x ∷ a) b some e = absurd (cc)

-- none was answered before, nor is a part of length 0 now
none_yet : (first : Bool) (len : ℕ) (done held : List ℕ) → (first ≡ true → done ≡ []) → (first && (len == 0)) ≡ true → done ++ take len held ≡ []
none_yet first len done held none is =
    let p = both first (len == 0) is in
    let zero : len ≡ 0 = eqb-true len 0 p.1 in
    rw (none p.0, zero) refl

some_now : (first : Bool) (len : ℕ) (done held : List ℕ) → (first ≡ false → done ≢ []) → len ≤ length held → (first && (len == 0)) ≡ false → done ++ take len held ≢ []
some_now false len done held some within is = append_some done (take len held) (inl (some refl))
some_now true len done held some within is = append_some done (take len held) (inr (λ none. eqb-false len 0 is (sym (length-take-le len held within) ∙ ap length none)))

-- whole lines were answered, and the rest is held
pub lines_part : (of : Query) (Has : Dictionary → Type 0) (input left : Option (List ℕ)) (held rest : List ℕ) (len : ℕ) (old mid new : Option (List ℕ)) (all first found next later : Bool)
    → LinesAnswered of Has input left held old mid all first → len ≤ length held → held ≡ take len held ++ rest → AreWhole (take len held)
    → AreAnswered of Has (ended_lines CrLf (text_behind first (take len held))) mid new found → next ≡ (all && found) → later ≡ (first && (len == 0))
    → LinesAnswered of Has input left rest old new next later
lines_part of Has input left held rest len old mid new all first found next later t within cut whole h is at = rw (is, at) (record {
  done = t.done ++ take len held;
  whole = whole-append t.done (take len held) t.whole whole;
  none = none_yet first len t.done held t.none;
  some = some_now first len t.done held t.some within;
  consumes = subst (Consumes input left) (ap (λ l. t.done ++ l) cut ∙ sym (append_assoc t.done (take len held) rest)) t.consumes;
  answered = answered_part of Has input left held (take len held) old mid new all first found t h;
})

-- all that is held was answered, and the input has ended
pub lines_ends : (of : Query) (Has : Dictionary → Type 0) (input left : Option (List ℕ)) (held part : List ℕ) (old mid new : Option (List ℕ)) (all first found next : Bool)
    → LinesAnswered of Has input left held old mid all first → part ≡ held → IsAtEnd left → IfSome input (λ known. IsOther known None)
    → AreAnswered of Has (ended_lines CrLf (text_behind first part)) mid new found → next ≡ (all && found)
    → KeysAnswered of Lines input Has old new next
lines_ends of Has input left held part old mid new all first found next t same end lines h is = rw is (
  key_lines (t.done ++ part),
  (Consumes-whole input left (t.done ++ held) (λ known. key_lines (t.done ++ part) ≡ key_lines known) t.consumes end (ap (λ l. key_lines (t.done ++ l)) same), lines),
  answered_part of Has input left held part old mid new all first found t h,
)

-- what was answered are the first lines of the input, and more of them may follow
first_lines : (input left : Option (List ℕ)) (done held : List ℕ) → AreWhole done → Consumes input left (done ++ held) → (more : List (List ℕ)) × AreKeys Lines input (key_lines done ++ more)
first_lines None left done held whole c = ([], tt)
first_lines (Some known) None done held whole c = absurd c
first_lines (Some known) (Some l) done held whole c =
    let more = front_keys done (held ++ l) whole in
    (more.0, sym (ap key_lines (c ∙ append_assoc done held l) ∙ more.1))

-- no more is answered
pub lines_stops : (of : Query) (Has : Dictionary → Type 0) (input left : Option (List ℕ)) (held : List ℕ) (old new : Option (List ℕ)) (all first : Bool) → LinesAnswered of Has input left held old new all first
    → KeysAnsweredInPart of Lines input Has old new
lines_stops of Has input left held old new all first t =
    let k = first_lines input left t.done held t.whole t.consumes in
    (key_lines t.done ++ k.0, k.1, begun_front of Has (key_lines t.done) k.0 old new (begun_all of Has (key_lines t.done) old new all t.answered))

-- nothing was answered
pub none_begun : (of : Query) (Has : Dictionary → Type 0) (input old : Option (List ℕ)) → KeysAnsweredInPart of Lines input Has old old
none_begun of Has None old = ([], tt, begun_none of Has [] old)
none_begun of Has (Some known) old = (key_lines known, refl, begun_none of Has (key_lines known) old)

-- What of the bytes that are held is answered: whole lines, or all if no more come.
pub record IsNext (ended : Bool) (left : Option (List ℕ)) (held part rest : List ℕ) : Type 0 where
  pub cut : held ≡ part ++ rest
  pub all : ended ≡ true → (part ≡ held) × IsAtEnd left
  pub whole : ended ≡ false → AreWhole part

next_lines : (first ended : Bool) (input left : Option (List ℕ)) (done held part rest : List ℕ) → AreWhole done → (first ≡ true → done ≡ []) → (first ≡ false → done ≢ []) → Consumes input left (done ++ held)
    → IsNext ended left held part rest → (more : List (List ℕ)) × AreKeys Lines input ((key_lines done ++ ended_lines CrLf (text_behind first part)) ++ more)
next_lines first ended None left done held part rest whole none some c n = ([], tt)
next_lines first ended (Some known) None done held part rest whole none some c n = absurd c
next_lines first true (Some known) (Some l) done held part rest whole none some c n =
    let all = n.all refl in
    let lines : key_lines known ≡ key_lines (done ++ part) = ap key_lines (c ∙ ap (λ e. (done ++ held) ++ e) all.1 ∙ append-nil (done ++ held) ∙ ap (λ h. done ++ h) (sym all.0)) in
    let keys = next_keys first done part whole none some in
    ([], append-nil (key_lines done ++ ended_lines CrLf (text_behind first part)) ∙ sym keys ∙ sym lines)
next_lines first false (Some known) (Some l) done held part rest whole none some c n =
    let behind : (done ++ held) ++ l ≡ (done ++ part) ++ (rest ++ l) =
    append_assoc done held l ∙ ap (λ t. done ++ t) (ap (λ h. h ++ l) n.cut ∙ append_assoc part rest l) ∙ sym (append_assoc done part (rest ++ l)) in
    let more = front_keys (done ++ part) (rest ++ l) (whole-append done part whole (n.whole refl)) in
    let keys = next_keys first done part whole none some in
    (more.0, ap (λ t. t ++ more.0) (sym keys) ∙ sym (ap key_lines (c ∙ behind) ∙ more.1))

-- a beginning of the answers to what is next was printed
pub lines_fails : (of : Query) (Has : Dictionary → Type 0) (input left : Option (List ℕ)) (held part rest : List ℕ) (old mid new : Option (List ℕ)) (all first ended : Bool)
    → LinesAnswered of Has input left held old mid all first → IsNext ended left held part rest → AreAnsweredInPart of Has (ended_lines CrLf (text_behind first part)) mid new
    → KeysAnsweredInPart of Lines input Has old new
lines_fails of Has input left held part rest old mid new all first ended t n h =
    let k = next_lines first ended input left t.done held part rest t.whole t.none t.some t.consumes n in
    let lines = ended_lines CrLf (text_behind first part) in
    let front = key_lines t.done ++ lines in
    (front ++ k.0, k.1, begun_front of Has front k.0 old new (more_begun of Has (key_lines t.done) lines old mid new all t.answered h))

below_or_not : (a b : ℕ) → (a < b) ⊎ (b ≤ a)
below_or_not zero zero = inr (omega arith)
below_or_not zero (suc b) = inl (omega arith)
below_or_not (suc a) zero = inr (omega arith)
below_or_not (suc a) (suc b) = elim (below_or_not a b) [ inl l ↦ inl (omega (arith, l)) | inr l ↦ inr (omega (arith, l)) ]

-- What is left of the bytes that are held has no line feed: none was before a place, and none is from there on behind what is answered.
pub no_feed_left : (held : List ℕ) (before len : ℕ) → ((k : ℕ) → k < before → HasFeed held k → ⊥) → ((k : ℕ) → before ≤ k → len ≤ k → HasFeed held k → ⊥) → (k : ℕ) → HasFeed (drop len held) k → ⊥
no_feed_left held before len none last k f =
    let at : get_or held (len + k) 0 ≡ 10 = sym (get_or-drop len held k 0) ∙ f.1 in
    let within : len + k < length held = omega (arith, f.0, length-drop len held) in
    elim (below_or_not (len + k) before) [ inl l ↦ none (len + k) l (within, at) | inr l ↦ last (len + k) l (omega arith) (within, at) ]

-- what was read later is behind what was held
pub feed_before : (held bytes more : List ℕ) (k : ℕ) → more ≡ held ++ bytes → k < length held → HasFeed more k → HasFeed held k
feed_before held bytes more k adds l f = (l, sym (get_or_append_left held bytes 0 k l) ∙ ap (λ m. get_or m k 0) (sym adds) ∙ f.1)

-- the input keeps what it has
consumes_kept : (input left after : Option (List ℕ)) (bytes : List ℕ) → Consumes input left bytes → Keeps left after → Consumes input after bytes
consumes_kept None left after bytes c k = tt
consumes_kept (Some known) None after bytes c k = absurd c
consumes_kept (Some known) (Some l) None bytes c k = absurd k
consumes_kept (Some known) (Some l) (Some a) bytes c k = rw k c

-- no more can be read, and all whole lines so far were answered
pub lines_break : {IsHanded : Type 0} (of : Query) (Has : Dictionary → Type 0) (input left after : Option (List ℕ)) (held : List ℕ) (old new : Option (List ℕ)) (all first : Bool)
    → LinesAnswered of Has input left held old new all first → Keeps left after → ((k : ℕ) → HasFeed held k → ⊥) → IsHanded → WholeAnswered of Has input after old new IsHanded
lines_break of Has input left after held old new all first t keeps none handed = record {
  whole = t.done;
  part = held;
  read = consumes_kept input left after (t.done ++ held) t.consumes keeps;
  lines = t.whole;
  no_more = none;
  all = all;
  answered = t.answered;
  handed = handed;
}

-- ---- the beginning of an input

-- more of it was read
pub start_read : (input left after : Option (List ℕ)) (held more : List ℕ) (ended : Bool) → Consumes input left held → Gives left after held more ended → Consumes input after more
start_read input left after held more ended c g = subst (Consumes input after) (sym g.adds) (Consumes-trans input left after held g.bytes c g.consumes)

-- what the beginning of an input shows is so of all of it
pub start_lines : (input left : Option (List ℕ)) (held : List ℕ) (ended : Bool) (other : Option OtherFile) → Consumes input left held → (ended ≡ true → IsAtEnd left) → (ended ≡ true) ⊎ IsSettled held → IsOther held other
    → IfSome input (λ known. IsOther known other)
start_lines None left held ended other c end settled h = tt
start_lines (Some known) None held ended other c end settled h = absurd c
start_lines (Some known) (Some l) held ended other c end (inl is) h = subst (λ t. IsOther t other) (sym (c ∙ ap (λ e. held ++ e) (end is) ∙ append-nil held)) h
start_lines (Some known) (Some l) held ended other c end (inr settled) h = subst (λ t. IsOther t other) (sym c) (settled other l h)

-- what has no line feed
pub no_feed_in : (bytes : List ℕ) → list_any (λ b. b == 10) bytes ≡ false → (k : ℕ) → HasFeed bytes k → ⊥
no_feed_in [] none k has = omega (arith, has.0)
no_feed_in (b ∷ bytes) none zero has = let e : (b == 10) ≡ true = ap (λ x. x == 10) has.1 in absurd (cc (rw e at none))
no_feed_in (b ∷ bytes) none (suc k) has = elim (eqb_tells b 10) [
  | inl is ↦ absurd (cc (rw is.0 at none))
  | inr other ↦ no_feed_in bytes (rw other.0 at none) k (omega (arith, has.0), has.1)
]

-- no more of its beginning can be read
pub start_breaks : {IsHanded : Type 0} (of : Query) (Has : Dictionary → Type 0) (input left old : Option (List ℕ)) → IsUnsettled input left → IsHanded
    → WholeAnswered of Has input left old old IsHanded ⊎ MayBeUtf16 input left old old
unfolding strip_bom
start_breaks of Has input left old (front, c, inl none) handed = inl (record {
  whole = [];
  part = front;
  read = c;
  lines = λ rest. refl;
  no_more = none;
  all = true;
  answered = none_answered of Has old;
  handed = handed;
})
start_breaks of Has input left old (front, c, inr mark) handed = inr (front, c, mark, refl)
