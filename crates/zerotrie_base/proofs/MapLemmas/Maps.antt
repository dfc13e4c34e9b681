-- The map of a list of pairs answers as the list.
use Rattle.std.proofs.Common.{◌≡◌, ℕ, List, sym, ◌∙◌, ap, Option}
use Rattle.std.specs.FinMap.{entries}
use Rattle.zerotrie_base.specs.Kind.{Kind}
use Rattle.zerotrie_base.specs.Maps.{Pairs, Map, map_of, value_at, look}
use Rattle.zerotrie_base.specs.Texts.{Lists, Means, nodes}
use Rattle.zerotrie_base.specs.reader.Reading.{AlwaysFinds}
use Rattle.zerotrie_base.proofs.MapLemmas.Cases.{lists_apart, same_answers}
use Rattle.zerotrie_base.proofs.MapLemmas.Alike.{same-entries}

pub look-map_of : {kind : Kind} {bytes : List ℕ} {pairs : Pairs} → Lists kind bytes pairs → (key : List ℕ) → look kind (map_of pairs) key ≡ value_at kind pairs key
look-map_of {kind = kind} {pairs = pairs} text key = same_answers kind pairs (entries (map_of pairs)) key (lists_apart text) (same-entries pairs)

pub value_found : (kind : Kind) (bytes key : List ℕ) (answer : Option ℕ) (count : ℕ) → AlwaysFinds kind bytes key answer count → (m : Map) → Means kind bytes m → answer ≡ look kind m key
value_found kind bytes key answer count finds m means =
    sym (finds means.pairs means.lists).answers ∙ sym (look-map_of means.lists key) ∙ ap (λ n. look kind n key) (sym means.is)

pub count_found : (kind : Kind) (bytes key : List ℕ) (answer : Option ℕ) (count : ℕ) → AlwaysFinds kind bytes key answer count → (m : Map) (means : Means kind bytes m) → count ≡ nodes means.lists key
count_found kind bytes key answer count finds m means = sym (finds means.pairs means.lists).counts
