-- The table of headers is clean, and its bound is the length of the array.
use Rattle.std.proofs.Common.{◌≡◌, refl, length, leb, true}
use Rattle.zerotrie.specs.Kind.{simple_ascii}
use Rattle.zerotrie.specs.Maps.{Pairs, Ascends}
use Rattle.zerotrie.specs.Items.{keyed}
use Rattle.zerotrie.specs.Bounds.{build_bound, is_clean}
use Rattle.zerotrie.proofs.Constants.{clean_told}
use Rattle.zerotrie_uses.specs.declared.constants.TheConstants.{HEADERS}

abbrev pub headers : Pairs
headers = keyed (λ k. k.now) HEADERS.now

pub clean : is_clean simple_ascii headers ≡ true
unfolding is_clean
clean = refl

pub room : leb (build_bound headers) 3493 ≡ true
unfolding build_bound
room = refl

pub waits : leb (length headers) 104 ≡ true
waits = refl

pub ascends : Ascends headers
ascends = (clean_told simple_ascii headers clean).0
