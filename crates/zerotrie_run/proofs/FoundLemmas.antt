-- Whether a listing has a pair.
use Rattle.std.proofs.Common.{◌≡◌, ◌≢◌, ◌∙◌, ℕ, zero, suc, List, [], ◌∷◌, ◌++◌, length, length-append, arith, take, Option, Some, None, Bool, true, false, refl, sym, ap, subst}
use Rattle.std.specs.Prelude.{◌==◌, not}
use Rattle.std.proofs.lemmas.Bool.{ne_eqb}
use Rattle.std.specs.Io.KnownBytes.{Appends}
use Rattle.std.proofs.KnownBytes.{Appends-nil}
use Rattle.zerotrie_core.specs.Maps.{Pairs}
use Rattle.zerotrie_core.specs.Texts.{Lists}
use Rattle.zerotrie_core.specs.Kinds.{kind_of}
use Rattle.zerotrie_core.specs.declared.TrieKind.{TrieKind}
use Rattle.zerotrie_files.specs.Parts.{AppendsPart}
use Rattle.zerotrie_queries.specs.Chosen.{told_edits}
use Rattle.zerotrie_queries.specs.Listed.{AreListed, AreListedInPart, AreUnlisted, IsPrintable, first_picked, limited, printed}
use Rattle.zerotrie_queries.specs.Printed.{IsFirstUnprintable, lines_of, listed, pair_line}
use Rattle.zerotrie_queries.specs.Ranked.{ranked, topped}
use Rattle.zerotrie_queries.specs.Sorted.{picked}
use Rattle.zerotrie_queries.specs.declared.print.Form.{Form}
use Rattle.zerotrie_queries.specs.declared.print.Form.TheVariants.{Lines}
use Rattle.zerotrie_queries.specs.declared.print.Style.TheVariants.{Keys}
use Rattle.zerotrie_queries.specs.declared.question.ListQuery.{ListQuery}
use Rattle.zerotrie_queries.specs.declared.listing.ListError.{ListError}
use Rattle.zerotrie_queries.specs.declared.listing.ListError.TheVariants.{Unprintable, Failed}
use Rattle.zerotrie_queries.proofs.RankLemmas.{ranked_len}
use Rattle.zerotrie_run.specs.Runs.{AreFound, has_pair, limit_shown}

-- a line has a byte
line_some : (key : List ℕ) (value : ℕ) → (length (lines_of (pair_line Keys) ((key, value) ∷ [])) == 0) ≡ false
line_some key value = ne_eqb _ 0 (omega (arith, length-append (key ++ 10 ∷ []) [], length-append key (10 ∷ [])))

-- the lines of at most one pair say whether there is one
by_lines : (pairs : Pairs) → not (length (lines_of (pair_line Keys) (take 1 pairs)) == 0) ≡ has_pair pairs
by_lines [] = refl
by_lines (e ∷ pairs) = ap not (line_some e.0 e.1)

-- and so does any number of pairs but 0, in whichever order
some_taken : (n : ℕ) (pairs : Pairs) → has_pair pairs ≡ has_pair (take (suc n) pairs)
some_taken n [] = refl
some_taken n (e ∷ pairs) = refl

some_limited : (limit : Option ℕ) (pairs : Pairs) → limit ≢ Some 0 → has_pair pairs ≡ has_pair (limited limit pairs)
some_limited None pairs some = refl
some_limited (Some zero) pairs some = absurd (some refl)
some_limited (Some (suc n)) pairs some = some_taken n pairs

some_as_many : (xs ys : Pairs) → length xs ≡ length ys → has_pair xs ≡ has_pair ys
some_as_many [] [] len = refl
some_as_many [] (e ∷ ys) len = absurd (omega (arith, len))
some_as_many (e ∷ xs) [] len = absurd (omega (arith, len))
some_as_many (e ∷ xs) (d ∷ ys) len = refl

some_topped : (top : Option ℕ) (pairs : Pairs) → top ≢ Some 0 → has_pair pairs ≡ has_pair (topped top pairs)
some_topped None pairs some = refl
some_topped (Some zero) pairs some = absurd (some refl)
some_topped (Some (suc n)) pairs some = some_as_many pairs (ranked pairs) (let len = ranked_len (λ e. e.1) [] pairs in omega (arith, len)) ∙ some_taken n (ranked pairs)

-- a selection with another limit
abbrev pub with_limit : Option ℕ → ListQuery → ListQuery
with_limit limit s = record { choice = s.choice; order = s.order; top = s.top; limit = limit }

-- the first of what a selection has, whatever their values are
abbrev pub first_of : ListQuery → ListQuery
first_of s = record { choice = s.choice; order = s.order; top = None; limit = Some 1 }

pub first_found : (s : ListQuery) (kind : TrieKind) (bytes text : List ℕ) (empty : Bool) → s.top ≢ Some 0 → s.limit ≢ Some 0
    → AreListed (Lines Keys) (first_of s) kind bytes (Some []) (Some text) → empty ≡ (length text == 0) → AreFound s kind bytes (not empty)
first_found s kind bytes text empty top limit listed is = λ pairs lists.
    let all = picked s.order kind s.choice pairs in
    ap not is ∙ ap (λ t. not (length t == 0)) (listed pairs lists).1 ∙ by_lines all ∙ some_topped s.top all top ∙ some_limited s.limit (topped s.top all) limit

-- a limit of no pair finds none
pub none_found : (s : ListQuery) (kind : TrieKind) (bytes : List ℕ) → s.limit ≡ Some 0 → AreFound s kind bytes false
none_found s kind bytes none = λ pairs lists. ap (λ limit. has_pair (limited limit (topped s.top (picked s.order kind s.choice pairs)))) (sym none)

limited_none : (limit : Option ℕ) → has_pair (limited limit []) ≡ false
limited_none None = refl
limited_none (Some zero) = refl
limited_none (Some (suc n)) = refl

pub none_topped : (s : ListQuery) (kind : TrieKind) (bytes : List ℕ) → s.top ≡ Some 0 → AreFound s kind bytes false
none_topped s kind bytes none = λ pairs lists. sym (ap (λ top. has_pair (limited s.limit (topped top (picked s.order kind s.choice pairs)))) none ∙ limited_none s.limit)

empty : (pairs : Pairs) → false ≡ has_pair pairs → pairs ≡ []
empty [] e = refl
empty (x ∷ pairs) e = absurd (cc e)

-- what is shown is what there is
same_shown : (s : ListQuery) (kind : TrieKind) (bytes : List ℕ) (found : Bool) → AreFound s kind bytes found
    → (pairs : Pairs) → Lists (kind_of kind) bytes pairs → first_picked (with_limit (limit_shown found s.limit) s) kind pairs ≡ first_picked s kind pairs
same_shown s kind bytes true is pairs lists = refl
same_shown s kind bytes false is pairs lists = sym (empty (first_picked s kind pairs) (is pairs lists))

pub all_shown : (form : Form) (s : ListQuery) (kind : TrieKind) (bytes : List ℕ) (found : Bool) (a b : Option (List ℕ)) → AreFound s kind bytes found
    → AreListed form (with_limit (limit_shown found s.limit) s) kind bytes a b → AreListed form s kind bytes a b
all_shown form s kind bytes found a b is h = λ pairs lists.
    subst (λ ps. IsPrintable form ps × Appends a b (listed form (told_edits kind s.choice) ps)) (same_shown s kind bytes found is pairs lists) (h pairs lists)

pub none_shown : (form : Form) (s : ListQuery) (kind : TrieKind) (bytes : List ℕ) (found : Bool) (a b : Option (List ℕ)) (e : ListError) → AreFound s kind bytes found
    → AreUnlisted form (with_limit (limit_shown found s.limit) s) kind bytes a b e → AreUnlisted form s kind bytes a b e
none_shown form s kind bytes found a b (Unprintable key) is h =
    ((h.0.0, λ pairs lists. subst (λ ps. IsFirstUnprintable form ps key.items) (same_shown s kind bytes found is pairs lists) (h.0.1 pairs lists)), h.1)
none_shown form s kind bytes found a b (Failed e) is h = λ pairs lists. subst (λ ps. AppendsPart a b (listed form (told_edits kind s.choice) ps)) (same_shown s kind bytes found is pairs lists) (h pairs lists)

-- nothing is a beginning of all
pub part_none : (a : Option (List ℕ)) (text : List ℕ) → AppendsPart a a text
part_none a text = record { part = []; rest = text; is = refl; appends = Appends-nil a }

-- if it is not searched, nothing is listed
pub none_listed : (form : Form) (s : ListQuery) (kind : TrieKind) (bytes : List ℕ) (a : Option (List ℕ)) → AreListedInPart form s kind bytes a a
none_listed form s kind bytes a = λ pairs lists. part_none a (printed form s kind pairs)
