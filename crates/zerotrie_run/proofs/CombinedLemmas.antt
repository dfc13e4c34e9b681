-- A file that is made of others: what was read of them, and why none is made.
use Rattle.std.proofs.Common.{◌≡◌, ◌<◌, ◌+◌, ◌++◌, ◌∙◌, ◌∷◌, [], ℕ, zero, suc, List, Option, Some, None, Bool, Vec, Global, All, map, length, take, get_or, refl, sym, ap, subst, arith, inl, inr}
use Rattle.std.specs.Prelude.{Any, option_map}
use Rattle.std.specs.List.{AllZip, slice_get}
use Rattle.std.proofs.Math.Seq.{take-suc}
use Rattle.std.proofs.lemmas.List.{map-append}
use Rattle.std.proofs.lemmas.Option.{get_or_from_slice_get, slice_get-get_or, slice_get_within, slice_get-map}
use Rattle.zerotrie_core.specs.Kinds.{kind_of}
use Rattle.zerotrie_core.specs.WellFormed.{IsWellFormed}
use Rattle.zerotrie_core.specs.declared.TrieRef.{TrieRef}
use Rattle.zerotrie_files.specs.Disks.{Story}
use Rattle.zerotrie_making.specs.Combinations.{Meant, IsMeant, OfMeant, ExplainsMaps, IsMadeOfMaps}
use Rattle.zerotrie_making.specs.declared.error.CombinationError.TheVariants as combination
use Rattle.zerotrie_making.specs.declared.error.MakeError.{MakeError}
use Rattle.zerotrie_making.specs.declared.error.MakeError.TheVariants as made
use Rattle.zerotrie_making.specs.declared.plan.Made.{Made}
use Rattle.zerotrie_making.specs.declared.plan.Combination.{Combination}
use Rattle.zerotrie_run.specs.Combined.{AreRead, HasMap, IsMadeSo, OfHeld, are_several}
use Rattle.zerotrie_run.specs.Makings.{AreUnopened, IsUnopenedAt}
use Rattle.zerotrie_run.specs.Runs.{IsRead, OpensBy}
use Rattle.zerotrie_run.specs.declared.command.Check.TheVariants.{Full}
use Rattle.zerotrie_run.specs.declared.command.Place.{Place}
use Rattle.zerotrie_run.specs.declared.making.MakingError.{MakingError}
use Rattle.zerotrie_run.specs.declared.making.MakingError.TheVariants.{Taken, Unfound, Unread, NoTrie, NotMade, Unwritten}

-- ---- two lists of which a relation holds place by place

zip_more : {A B : Type 0} (R : A → B → Type 0) (xs : List A) (ys : List B) (x : A) (y : B) → AllZip R xs ys → R x y → AllZip R (xs ++ x ∷ []) (ys ++ y ∷ [])
zip_more R [] [] x y a r = (r, tt)
zip_more R [] (w ∷ ys) x y a r = absurd a
zip_more R (z ∷ xs) [] x y a r = absurd a
zip_more R (z ∷ xs) (w ∷ ys) x y a r = (a.0, zip_more R xs ys x y a.1 r)

-- one element more of those before a place
pub zip_next : {A B : Type 0} (R : A → B → Type 0) (xs : List A) (i : ℕ) (d : A) (ys : List B) (y : B) → i < length xs
    → AllZip R (take i xs) ys → R (get_or xs i d) y → AllZip R (take (i + 1) xs) (ys ++ y ∷ [])
zip_next R xs i d ys y inside a r =
    let e : i + 1 ≡ suc i = omega arith in
    subst (λ zs. AllZip R zs (ys ++ y ∷ [])) (sym (ap (λ n. take n xs) e ∙ take-suc xs i d inside)) (zip_more R (take i xs) ys (get_or xs i d) y a r)

-- the elements at one place of both
pub zip_both : {A B : Type 0} (R : A → B → Type 0) (xs : List A) (ys : List B) (k : ℕ) (x : A) (y : B) → AllZip R xs ys → slice_get xs k ≡ Some x → slice_get ys k ≡ Some y → R x y
zip_both R [] ys k x y a at is = absurd (cc)
zip_both R (z ∷ xs) [] k x y a at is = absurd a
zip_both R (z ∷ xs) (w ∷ ys) zero x y a at is = let one : z ≡ x = cc in let other : w ≡ y = cc in subst (λ v. R v y) one (subst (R z) other a.0)
zip_both R (z ∷ xs) (w ∷ ys) (suc k) x y a at is = zip_both R xs ys k x y a.1 at is

-- both have as many
pub zip_len : {A B : Type 0} (R : A → B → Type 0) (xs : List A) (ys : List B) → AllZip R xs ys → length ys ≡ length xs
zip_len R [] [] a = refl
zip_len R [] (w ∷ ys) a = absurd a
zip_len R (z ∷ xs) [] a = absurd a
zip_len R (z ∷ xs) (w ∷ ys) a = ap suc (zip_len R xs ys a.1)

-- one of a list
pub any_of : {A : Type 0} (P : A → Type 0) (xs : List A) (k : ℕ) (x : A) → slice_get xs k ≡ Some x → P x → Any P xs
any_of P xs k x is h = (k, x, slice_get_within xs k x is, get_or_from_slice_get xs k x x is, h)

-- ---- what was read

abbrev bytes_in : Vec ℕ Global → List ℕ
bytes_in bytes = bytes.items

pub read_more : (I : Option (List ℕ)) (F : Option Story) (places : List Place) (i : ℕ) (d : Place) (held new : List (Vec ℕ Global)) (bytes : Vec ℕ Global) → i < length places
    → AreRead (take i places) I F (map bytes_in held) → IsRead (get_or places i d) I F bytes.items → new ≡ held ++ bytes ∷ [] → AreRead (take (i + 1) places) I F (map bytes_in new)
read_more I F places i d held new bytes inside before read is =
    subst (λ hs. AreRead (take (i + 1) places) I F hs) (sym (ap (map bytes_in) is ∙ map-append bytes_in held (bytes ∷ [])))
    (zip_next (λ place b. IsRead place I F b) places i d (map bytes_in held) bytes.items inside before read)

-- ---- tries that were opened

-- they mean maps, which are those of what the files hold
record AreOpened (held : List (List ℕ)) (tries : List TrieRef) : Type 0 where
  maps : List Meant
  meant : AllZip IsMeant tries maps
  has : AllZip HasMap held maps
  kinds : map (λ m. m.0) maps ≡ map (λ trie. trie.kind) tries

abbrev pub OpensTrie : Vec ℕ Global → TrieRef → Type 0
OpensTrie bytes trie = OpensBy Full None bytes.items trie.kind trie.bytes.now

are_opened : (held : List (Vec ℕ Global)) (tries : List TrieRef) → AllZip OpensTrie held tries → AreOpened (map bytes_in held) tries
are_opened [] [] h = record { maps = []; meant = tt; has = tt; kinds = refl }
are_opened [] (t ∷ tries) h = absurd h
are_opened (b ∷ held) [] h = absurd h
are_opened (b ∷ held) (t ∷ tries) h =
    let rest = are_opened held tries h.1 in
    let m = h.0.1.0 in
    record {
      maps = (t.kind, m) ∷ rest.maps;
      meant = ((refl, h.0.1.1), rest.meant);
      has = ((t.bytes.now, h.0.0, h.0.1.1), rest.has);
      kinds = ap (λ ks. t.kind ∷ ks) rest.kinds;
    }

-- what holds of the maps that they mean
pub of_held : (held : List (Vec ℕ Global)) (tries : List TrieRef) (Fact : List Meant → Type 0) → AllZip OpensTrie held tries → OfMeant tries Fact → OfHeld (map bytes_in held) Fact
of_held held tries Fact h fact = let o = are_opened held tries h in (o.maps, o.has, fact o.maps o.meant)

-- a file was made of them, and it is known whether they have several kinds
pub made_so : (c : Combination) (held : List (Vec ℕ Global)) (tries : List TrieRef) (file : Made) (several : Bool) → AllZip OpensTrie held tries → OfMeant tries (λ maps. IsMadeOfMaps c maps file)
    → several ≡ are_several c.kind (map (λ trie. trie.kind) tries) → OfHeld (map bytes_in held) (λ maps. IsMadeSo c maps file several)
made_so c held tries file several h fact is =
    let o = are_opened held tries h in
    (o.maps, o.has, (fact o.maps o.meant, is ∙ ap (are_several c.kind) (sym o.kinds)))

-- what holds of the first and of each behind it
pub all_cons : {X : Type 0} (P : X → Type 0) (x : X) (xs : List X) → P x → All P xs → (k : ℕ) (d : X) → k < length (x ∷ xs) → P (get_or (x ∷ xs) k d)
all_cons P x xs h more zero d below = h
all_cons P x xs h more (suc k) d below = more k d (omega (arith, below))

abbrev IsTrie : TrieRef → Type 0
IsTrie trie = IsWellFormed (kind_of trie.kind) trie.bytes.now

-- each of them is a trie
pub all_well : (held : List (Vec ℕ Global)) (tries : List TrieRef) → AllZip OpensTrie held tries → All (λ trie. IsWellFormed (kind_of trie.kind) trie.bytes.now) tries
all_well [] [] h = λ k d below. absurd (omega (arith, below))
all_well [] (t ∷ tries) h = absurd h
all_well (b ∷ held) [] h = absurd h
all_well (b ∷ held) (t ∷ tries) h = all_cons IsTrie t tries h.0.1 (all_well held tries h.1)

-- the file with a number has no trie
pub none_at : (places : List Place) (held : List (Vec ℕ Global)) (number : ℕ) (d : Place) (bytes : Vec ℕ Global) (e : MakingError) → number < length held → length held ≡ length places
    → IsUnopenedAt (get_or places number d) (get_or held number bytes).items e → AreUnopened places (map bytes_in held) e
none_at places held number d bytes Taken inside same h = absurd h
none_at places held number d bytes (Unfound e) inside same h = absurd h
none_at places held number d bytes (Unread place e) inside same h = absurd h
none_at places held number d bytes (NoTrie place why t) inside same h =
    let at = slice_get-map bytes_in held number ∙ ap (λ found. option_map bytes_in found) (slice_get-get_or held number bytes inside) in
    (number, rw h.0 (slice_get-get_or places number d (omega (arith, inside, same))), (get_or held number bytes).items, at, h.1, h.2)
none_at places held number d bytes (NotMade e) inside same h = absurd h
none_at places held number d bytes (Unwritten e) inside same h = absurd h

-- ---- why no file is made of maps

-- no file is made of maps because what was read is another file, or no pairs
none_text : (c : Combination) (other : _) (maps : List Meant) → ExplainsMaps c maps (combination.NotMade (made.NotText other)) → ⊥
none_text c other maps (inl is) = cc
none_text c other maps (inr h) = h.fact

none_line : (c : Combination) (number : ℕ) (bad : _) (maps : List Meant) → ExplainsMaps c maps (combination.NotMade (made.Line number bad)) → ⊥
none_line c number bad maps (inl is) = cc
none_line c number bad maps (inr h) = h.fact

none_json : (c : Combination) (line column : ℕ) (maps : List Meant) → ExplainsMaps c maps (combination.NotMade (made.NotJson line column)) → ⊥
none_json c line column maps (inl is) = cc
none_json c line column maps (inr h) = h.fact

none_pairs : (c : Combination) (maps : List Meant) → ExplainsMaps c maps (combination.NotMade made.NotPairs) → ⊥
none_pairs c maps (inl is) = cc
none_pairs c maps (inr h) = h.fact

none_pair : (c : Combination) (bad : _) (maps : List Meant) → ExplainsMaps c maps (combination.NotMade (made.NotPair bad)) → ⊥
none_pair c bad maps (inl is) = cc
none_pair c bad maps (inr h) = h.fact

none_sum : (c : Combination) (key : _) (maps : List Meant) → ExplainsMaps c maps (combination.NotMade (made.SumTooLarge key)) → ⊥
none_sum c key maps (inl is) = cc
none_sum c key maps (inr h) = h.fact

-- an error says that what was read is no pairs, or whose values have too large a sum, which is so of no maps
pub data IsOfPairs : MakeError → Type 0 where
  keys : (s : _) → IsOfPairs (made.Keys s)
  refused : (why : _) → IsOfPairs (made.Refused why)
  index_refused : (why : _) → IsOfPairs (made.IndexRefused why)
  memory : IsOfPairs made.OutOfMemory

pub of_pairs : (c : Combination) (e : MakeError) (maps : List Meant) → ExplainsMaps c maps (combination.NotMade e) → IsOfPairs e
of_pairs c (made.NotText other) maps h = absurd (none_text c other maps h)
of_pairs c (made.Line number bad) maps h = absurd (none_line c number bad maps h)
of_pairs c (made.NotJson line column) maps h = absurd (none_json c line column maps h)
of_pairs c made.NotPairs maps h = absurd (none_pairs c maps h)
of_pairs c (made.NotPair bad) maps h = absurd (none_pair c bad maps h)
of_pairs c (made.Keys s) maps h = keys s
of_pairs c (made.SumTooLarge key) maps h = absurd (none_sum c key maps h)
of_pairs c (made.Refused why) maps h = refused why
of_pairs c (made.IndexRefused why) maps h = index_refused why
of_pairs c made.OutOfMemory maps h = memory
