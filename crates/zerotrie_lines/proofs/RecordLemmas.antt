-- Records that are read one after another.
use Rattle.std.proofs.Common.{◌≡◌, ◌≤◌, ◌<◌, ◌∙◌, length-append, ℕ, List, [], ◌∷◌, ◌++◌, length, refl, sym, ap, arith, subst, ◌+◌, drop, suc, inl, inr, Bool, true, map, Option, Some, None, Result, Ok, Err}
use Rattle.std.proofs.lemmas.List.{append-nil}
use Rattle.std.specs.Prelude.{IfErr, IfSome, IsErrAnd, ◌⊎◌}
use Rattle.std.proofs.lemmas.Bool.Decides.{leb_tells}
use Rattle.csv.proofs.RecordFacts.{field-none}
use Rattle.csv.specs.Records.{field_at}
use Rattle.csv.specs.Machine.{Read, next_record}
use Rattle.csv.specs.Reading.{AreRecords, Reached}
use Rattle.csv.specs.declared.parser.Config.{Config}
use Rattle.csv.specs.declared.parser.State.{State}
use Rattle.zerotrie_lines.specs.Tables.{Pair, Pairs}
use Rattle.zerotrie_lines.specs.Records.{AreColumns, AreColumnsOf, AreFirstRowsOf, ArePairRecords, Fields, IsColumn, IsPairRecord, LacksName, field, tab_fields, tab_rows}
use Rattle.zerotrie_lines.specs.Reads.{ExplainsColumns, ExplainsRecords, HasRead, IsBadAfter, IsPairFault, IsRecordFault}
use Rattle.zerotrie_lines.specs.declared.fault.ReadError.{ReadError}
use Rattle.zerotrie_lines.specs.declared.fault.ReadError.TheVariants.{Line, OutOfMemory}
use Rattle.zerotrie_lines.specs.declared.reading.TextForm.{TextForm}
use Rattle.zerotrie_lines.specs.declared.records.Records.{Records}
use Rattle.zerotrie_lines.specs.declared.fault.BadLine.{BadLine}
use Rattle.zerotrie_lines.specs.declared.fault.BadLine.TheVariants as bad
use Rattle.zerotrie_lines.specs.declared.columns.Columns.{Columns}
use Rattle.zerotrie_lines.specs.Lines.{behind, header_rows}
use Rattle.zerotrie_lines.specs.declared.reading.Header.{Header}
use Rattle.zerotrie_lines.specs.declared.reading.Header.TheVariants.{Absent, Present, Named}
use Rattle.zerotrie_lines.specs.declared.reading.LineEnd.{LineEnd}
use Rattle.zerotrie_lines.specs.declared.reading.Names.{Names}

-- a field that is there
field_within : (names : Fields) (x : List ℕ) (i : ℕ) → field_at names i ≡ Some x → i < length names
field_within names x i h = elim (leb_tells (length names) i) [
  | inl t ↦ absurd (cc (sym (field-none names i t.1) ∙ h))
  | inr f ↦ omega (arith, f.1)
]

-- the name is in no column up to one more
pub lacks_more : (names : Fields) (name : List ℕ) (from n : ℕ) → LacksName names name from n → (field_at names n ≡ Some name → ⊥) → LacksName names name from (n + 1)
lacks_more names name from n lacks here = λ j low high h. elim (leb_tells (suc j) n) [
  | inl t ↦ lacks j low (omega (arith, t.1)) h
  | inr f ↦ here (let e : j ≡ n = omega (arith, f.1, high) in subst (λ k. field_at names k ≡ Some name) e h)
]

-- it is in no column at all
pub lacks_all : (names : Fields) (name : List ℕ) (from n : ℕ) → length names ≤ n → LacksName names name from n → (j : ℕ) → from ≤ j → field_at names j ≡ Some name → ⊥
lacks_all names name from n l lacks = λ j low h. lacks j low (omega (arith, field_within names name j h, l)) h

-- the column is the only one
pub only_column : (names : Fields) (name : List ℕ) (i : ℕ) → field_at names i ≡ Some name → LacksName names name 0 i
    → ((j : ℕ) → i + 1 ≤ j → field_at names j ≡ Some name → ⊥) → IsColumn names name i
only_column names name i is before later = (
  is,
  λ j h. elim (leb_tells (suc j) i) [
    | inl t ↦ absurd (before j (omega arith) (omega (arith, t.1)) h)
    | inr f ↦ elim (leb_tells (suc i) j) [ inl t ↦ absurd (later j (omega (arith, t.1)) h) | inr g ↦ omega (arith, f.1, g.1) ]
  ],
)

-- what is wrong with a pair is wrong with its record
record_fault : (raw : Bool) (c : Columns) (row : Fields) (fault : BadLine) → length row ≡ c.count → IsPairFault raw (field row c.key) (field row c.value) fault → IsRecordFault raw c row fault
record_fault raw c row bad.Empty n f = absurd f
record_fault raw c row bad.NoTab n f = absurd f
record_fault raw c row bad.Escape n f = (n, f)
record_fault raw c row (bad.Value v) n f = (n, f)
record_fault raw c row (bad.Fields found wanted) n f = absurd f
record_fault raw c row (bad.NoColumn name) n f = absurd f
record_fault raw c row (bad.SameColumns name) n f = absurd f

pub record_faults : (raw : Bool) (c : Columns) (row : Fields) (text digits : List ℕ) (fault : Option BadLine) → length row ≡ c.count → text ≡ field row c.key → digits ≡ field row c.value
    → IfSome fault (IsPairFault raw text digits) → IfSome fault (IsRecordFault raw c row)
record_faults raw c row text digits None n t d f = f
record_faults raw c row text digits (Some fault) n t d f =
    record_fault raw c row fault n (subst (λ x. IsPairFault raw (field row c.key) x fault) d (subst (λ x. IsPairFault raw x digits fault) t f))

-- a record more
pub records_push : (raw : Bool) (c : Columns) (rows : List Fields) (pairs : Pairs) (row : Fields) (e : Pair) → ArePairRecords raw c rows pairs → IsPairRecord raw c row e
    → ArePairRecords raw c (rows ++ row ∷ []) (pairs ++ e ∷ [])
records_push raw c [] [] row e h pair = (pair, tt)
records_push raw c [] (f ∷ pairs) row e h pair = absurd h
records_push raw c (first ∷ rows) [] row e h pair = absurd h
records_push raw c (first ∷ rows) (f ∷ pairs) row e h pair = (h.0, records_push raw c rows pairs row e h.1 pair)

-- the columns stay those of the header
pub columns_more : (header : Header) (rows : List Fields) (row : Fields) (c : Columns) → header_rows header ≤ length rows → AreColumnsOf header rows c
    → AreColumnsOf header (rows ++ row ∷ []) c
columns_more Absent [] row c l h = h
columns_more Present [] row c l h = h
columns_more (Named of) [] row c l h = absurd (omega (arith, l))
columns_more header (first ∷ rows) row c l h = h

-- nothing is before the header
pub none_before : (header : Header) (rows : List Fields) → length rows < header_rows header → rows ≡ []
none_before header [] l = refl
none_before Absent (row ∷ rows) l = absurd (omega (arith, l))
none_before Present (row ∷ rows) l = absurd (omega (arith, l))
none_before (Named of) (row ∷ rows) l = absurd (omega (arith, l))

-- the header alone has the columns, and no pair is read of it
pub columns_first : (header : Header) (rows : List Fields) (row : Fields) (c : Columns) → length rows < header_rows header → AreColumns header row c
    → AreColumnsOf header (rows ++ row ∷ []) c
columns_first header rows row c l h = rw (none_before header rows l) h

pub header_read : (raw : Bool) (header : Header) (rows : List Fields) (row : Fields) (c d : Columns) (pairs : Pairs) → length rows < header_rows header
    → ArePairRecords raw c (behind header rows) pairs → ArePairRecords raw d (behind header (rows ++ row ∷ [])) pairs
header_read raw Absent rows row c d pairs l h = absurd (omega (arith, l))
header_read raw Present [] row c d [] l h = tt
header_read raw Present [] row c d (e ∷ pairs) l h = absurd h
header_read raw Present (first ∷ rows) row c d pairs l h = absurd (omega (arith, l))
header_read raw (Named of) [] row c d [] l h = tt
header_read raw (Named of) [] row c d (e ∷ pairs) l h = absurd h
header_read raw (Named of) (first ∷ rows) row c d pairs l h = absurd (omega (arith, l))

-- no record is none of the pairs of no records
pub none_read : (raw : Bool) (header : Header) (c : Columns) → ArePairRecords raw c (behind header []) []
none_read raw Absent c = tt
none_read raw Present c = tt
none_read raw (Named of) c = tt

-- a header is the first row
pub behind_header : {A : Type 0} (header : Header) (rows : List A) → (header ≡ Present) ⊎ ((of : Names) × (header ≡ Named of)) → drop 1 rows ≡ behind header rows
behind_header header rows is = elim is [ inl p ↦ rw p refl | inr n ↦ rw n.1 refl ]

-- what is behind the header, if there is more than that
pub behind_more : {A : Type 0} (header : Header) (rows more : List A) → header_rows header ≤ length rows → behind header (rows ++ more) ≡ behind header rows ++ more
behind_more Absent rows more h = refl
behind_more Present [] more h = absurd (omega (arith, h))
behind_more Present (row ∷ rows) more h = refl
behind_more (Named of) [] more h = absurd (omega (arith, h))
behind_more (Named of) (row ∷ rows) more h = refl

read_is : (p q : Read) (r : Option Read) → r ≡ Some p → r ≡ Some q → q ≡ p
read_is p q r a b = ap (inside p) (sym b ∙ a)
  where
    inside : Read → Option Read → Read
    inside d None = d
    inside d (Some x) = x

-- if records were read, all records are these and more
pub rows_on : (config : Config) (s : State) (input : List ℕ) (rows all : List Fields) (after : State) (rest : List ℕ)
    → Reached config s input rows after rest → AreRecords config s input all → (more : List Fields) × (all ≡ rows ++ more)
unfolding Reached
rows_on config s input [] all after rest h k = (all, refl)
rows_on config s input (row ∷ rows) [] after rest h k =
    let none : next_record config s [] [] input ≡ None = rw (k.2.0, k.2.1) k.3 in
    absurd (cc (rw none at h.1))
rows_on config s input (row ∷ rows) (first ∷ all) after rest h k =
    let own = k.2 in
    let same : own.0 ≡ h.0 = read_is h.0 own.0 (next_record config s [] [] input) h.1 own.1 in
    let tail : AreRecords config h.0.1 h.0.2 all = subst (λ p. AreRecords config p.1 p.2 all) same (k.0, k.1, own.3, k.3) in
    let more = rows_on config h.0.1 h.0.2 rows all after rest h.3 tail in
    (more.0, ap (λ r. r ∷ all) (own.2 ∙ ap (λ p. p.0) same ∙ sym h.2) ∙ ap (λ t. row ∷ t) more.1)

-- an input is one list of records
pub one_rows : (config : Config) (s : State) (input : List ℕ) (rows others : List Fields) → AreRecords config s input rows → AreRecords config s input others → others ≡ rows
one_rows config s input rows others h k =
    let more = rows_on config s input rows others h.0 h.1 h.2 k in
    let back = rows_on config s input others rows k.0 k.1 k.2 h in
    let none : more.0 ≡ [] = nil_of more.0 (omega (arith, ap length more.1, ap length back.1, length-append rows more.0, length-append others back.0)) in
    more.1 ∙ ap (λ m. rows ++ m) none ∙ append-nil rows
  where
    nil_of : (xs : List Fields) → length xs ≡ 0 → xs ≡ []
    nil_of [] l = refl
    nil_of (x ∷ xs) l = absurd (omega (arith, l))

-- what a `?` returns is what it got
pub passed_on : {X : Type 0} (r : Result X ReadError) (why : ReadError) (Is : ReadError → Type 0) → IsErrAnd r (λ e. e ≡ why) → Is why → IfErr r Is
passed_on (Ok x) why Is same is = absurd same
passed_on (Err e) why Is same is = subst Is (sym same) is

-- why records are no pairs, by the first that is none
pub explains_records : (form : TextForm) (input : List ℕ) (rows : List Fields) (row : Fields) (e : ReadError) → AreFirstRowsOf form input (rows ++ row ∷ [])
    → IsBadAfter true form.header rows row e → ExplainsRecords form input e
explains_records form input rows row (Line m fault) first bad = (rows, row, first, bad)
explains_records form input rows row OutOfMemory first bad = tt

pub explains_columns : (raw : Bool) (header : Header) (end : LineEnd) (input : List ℕ) (rows : List Fields) (row : Fields) (more : List Fields) (e : ReadError)
    → tab_rows end input ≡ rows ++ row ∷ more → IsBadAfter raw header rows row e → ExplainsColumns raw header end input e
explains_columns raw header end input rows row more (Line m fault) all bad = (rows, row, more, all, bad)
explains_columns raw header end input rows row more OutOfMemory all bad = tt

-- what was read, by its own parts
pub own_read : (raw : Bool) (header : Header) (rows : List Fields) (r : Records) → HasRead raw header rows r → HasRead r.raw r.header rows r
own_read raw header rows r h = record {
  same_raw = refl;
  same_header = refl;
  columns = subst (λ x. AreColumnsOf x rows r.columns) (sym h.same_header) h.columns;
  pairs = subst (λ x. ArePairRecords x r.columns (behind r.header rows) r.table) (sym h.same_raw) (subst (λ x. ArePairRecords raw r.columns (behind x rows) r.table) (sym h.same_header) h.pairs);
}

pub next_read : (raw : Bool) (header : Header) (rows : List Fields) (row : Fields) (old new : Records) → HasRead raw header rows old
    → HasRead old.raw old.header (rows ++ row ∷ []) new → HasRead raw header (rows ++ row ∷ []) new
next_read raw header rows row old new h k = subst (λ x. HasRead x header (rows ++ row ∷ []) new) h.same_raw (subst (λ x. HasRead old.raw x (rows ++ row ∷ []) new) h.same_header k)

pub bad_read : (raw : Bool) (header : Header) (rows : List Fields) (row : Fields) (old : Records) (e : ReadError) → HasRead raw header rows old
    → IsBadAfter old.raw old.header rows row e → IsBadAfter raw header rows row e
bad_read raw header rows row old e h k = subst (λ x. IsBadAfter x header rows row e) h.same_raw (subst (λ x. IsBadAfter old.raw x rows row e) h.same_header k)

-- the fields of one line more
pub rows_next : (rows : List Fields) (row : Fields) (lines : List (List ℕ)) (line : List ℕ) (after : List (List ℕ)) → lines ≡ line ∷ after → row ≡ tab_fields line
    → rows ++ row ∷ map tab_fields after ≡ rows ++ map tab_fields lines
rows_next rows row lines line after is are = rw (is, are) refl
