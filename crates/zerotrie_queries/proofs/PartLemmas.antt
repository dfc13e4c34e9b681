-- A beginning of what is to be printed.
use Rattle.std.proofs.Common.{◌≡◌, ℕ, List, [], ◌++◌, Option, Result, Ok, Err, refl, sym, ◌∙◌, ap, append_assoc, append-nil}
use Rattle.std.specs.Prelude.{OnErr}
use Rattle.std.specs.Io.KnownBytes.{Appends}
use Rattle.std.proofs.KnownBytes.{Appends-nil, Appends-trans}
use Rattle.zerotrie_files.specs.Parts.{AppendsPart}
use Rattle.zerotrie_files.proofs.WroteLemmas.{Wrote}

-- what holds anyway holds if it failed
pub on_err : {T E P : Type 0} (r : Result T E) → P → OnErr r P
on_err (Ok x) p = tt
on_err (Err e) p = p

-- nothing of it
pub part_none : (a : Option (List ℕ)) (all : List ℕ) → AppendsPart a a all
part_none a all = record { part = []; rest = all; is = refl; appends = Appends-nil a }

-- what was written of it, and then a beginning of what comes next
pub part_next : (a b c : Option (List ℕ)) (next left rest all : List ℕ) → Wrote a b rest all → AppendsPart b c next → rest ≡ next ++ left → AppendsPart a c all
part_next a b c next left rest all w p is = record {
  part = w.done ++ p.part;
  rest = p.rest ++ left;
  is = sym w.is ∙ ap (λ l. w.done ++ l) (is ∙ ap (λ l. l ++ left) p.is ∙ append_assoc p.part p.rest left) ∙ sym (append_assoc w.done p.part (p.rest ++ left));
  appends = Appends-trans a b c w.done p.part w.appends p.appends;
}

-- a beginning of its front
pub part_front : (a b : Option (List ℕ)) (front rest all : List ℕ) → AppendsPart a b front → all ≡ front ++ rest → AppendsPart a b all
part_front a b front rest all p is = record {
  part = p.part;
  rest = p.rest ++ rest;
  is = is ∙ ap (λ l. l ++ rest) p.is ∙ append_assoc p.part p.rest rest;
  appends = p.appends;
}

-- all of its front, and then a beginning of what comes next
pub part_behind : (a b c : Option (List ℕ)) (front rest all : List ℕ) → Appends a b front → AppendsPart b c rest → all ≡ front ++ rest → AppendsPart a c all
part_behind a b c front rest all w p is = record {
  part = front ++ p.part;
  rest = p.rest;
  is = is ∙ ap (λ l. front ++ l) p.is ∙ sym (append_assoc front p.part p.rest);
  appends = Appends-trans a b c front p.part w p.appends;
}

-- all of its front
pub part_done : (a b : Option (List ℕ)) (front rest all : List ℕ) → Appends a b front → all ≡ front ++ rest → AppendsPart a b all
part_done a b front rest all w is = record { part = front; rest = rest; is = is; appends = w }

-- all of it
pub part_all : (a b : Option (List ℕ)) (all : List ℕ) → Appends a b all → AppendsPart a b all
part_all a b all w = part_done a b all [] all w (sym (append-nil all))
