-- Lines that are written one after another.
use Rattle.std.proofs.Common.{◌≡◌, ℕ, List, ◌++◌, Option, sym, ◌∙◌, ap, append_assoc}
use Rattle.std.specs.Io.KnownBytes.{Appends, Keeps}
use Rattle.std.proofs.KnownBytes.{Appends-trans, Appends-kept}
use Rattle.zerotrie_files.specs.Parts.{AppendsPart}

-- What was written from one state of a writer to another, and with what follows it is all that is to be written.
pub record Wrote (before now : Option (List ℕ)) (rest all : List ℕ) : Type 0 where
  pub done : List ℕ
  pub appends : Appends before now done
  pub is : done ++ rest ≡ all

-- one line more
pub wrote_more : (a b c : Option (List ℕ)) (line lines rest all : List ℕ) → Wrote a b lines all → Appends b c line → lines ≡ line ++ rest → Wrote a c rest all
wrote_more a b c line lines rest all w writes is = record {
  done = w.done ++ line;
  appends = Appends-trans a b c w.done line w.appends writes;
  is = append_assoc w.done line rest ∙ ap (λ l. w.done ++ l) (sym is) ∙ w.is;
}

-- nothing more
pub wrote_kept : (a b c : Option (List ℕ)) (rest left all : List ℕ) → Wrote a b rest all → Keeps b c → left ≡ rest → Wrote a c left all
wrote_kept a b c rest left all w kept same = record {
  done = w.done;
  appends = Appends-kept a b c w.done w.appends kept;
  is = ap (λ l. w.done ++ l) same ∙ w.is;
}

-- what was written of it, as far as it goes
pub part_wrote : (a b : Option (List ℕ)) (rest all : List ℕ) → Wrote a b rest all → AppendsPart a b all
part_wrote a b rest all w = record { part = w.done; rest = rest; is = sym w.is; appends = w.appends }
