-- The paths of new files.
use Rattle.std.proofs.Common.{◌≢◌, ◌∙◌, ℕ, List, [], ◌++◌, length, take, drop, None, inl, inr, sym, ap, refl, append_assoc, length-append, take-append-drop, codes, decimal, arith}
use Rattle.std.specs.Path.{slash}
use Rattle.std.specs.Str.Iter.{LacksByte}
use Rattle.std.specs.Str.Pattern.{RFindsChar, SplitsAroundMatch}
use Rattle.std.proofs.lemmas.Str.Pattern.{rfind_char}
use Rattle.zerotrie_files.specs.Stores.{own_name, IsOwnPath}

no_slash : (text : List ℕ) → RFindsChar slash text None → LacksByte slash text
no_slash text none = rfind_char slash text None none (omega arith)

-- a path without a slash is a name
pub own_alone : (path : List ℕ) (process number : ℕ) → RFindsChar slash path None → IsOwnPath path process number (own_name path process number)
own_alone path process number none = record { folder = []; name = path; split = refl; ends = inl refl; last = no_slash path none; is = refl }

-- else the name is what follows the last slash
pub own_in_folder : (path above name : List ℕ) (process number : ℕ) → SplitsAroundMatch (RFindsChar slash) path above name
    → IsOwnPath path process number (above ++ codes "/" ++ own_name name process number)
unfolding lib.Utf8.encode
own_in_folder path above name process number h = record {
  folder = above ++ codes "/";
  name = name;
  split = sym (take-append-drop h.0 path) ∙ ap (λ back. take h.0 path ++ back) h.2.1.split ∙ sym (append_assoc (take h.0 path) (codes "/") (drop h.1 path))
      ∙ ap (λ front. front ++ codes "/" ++ drop h.1 path) (sym h.3) ∙ ap (λ back. above ++ codes "/" ++ back) (sym h.4);
  ends = inr (above, refl);
  last = no_slash name (rw h.4 h.2.0);
  is = refl;
}

-- the path of a new file is another
pub own_is_another : (path other : List ℕ) (process number : ℕ) → IsOwnPath path process number other → other ≢ path
own_is_another path other process number own same =
    let tagged = codes "." ++ own.name ++ codes ".zerotrie-" in
    omega (
      arith,
      ap length (sym own.is ∙ same ∙ own.split),
      length-append own.folder (own_name own.name process number),
      length-append (tagged ++ decimal process ++ codes "-") (decimal number),
      length-append (tagged ++ decimal process) (codes "-"),
      length-append tagged (decimal process),
      length-append (codes "." ++ own.name) (codes ".zerotrie-"),
      length-append own.folder own.name,
    )
