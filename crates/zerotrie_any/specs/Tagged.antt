-- Tagged bytes: a trie's bytes after the number of its kind.
use Rattle.std.specs.Prelude.{◌≡◌, ℕ, List, [], ◌∷◌}
use Rattle.zerotrie_core.specs.Kind.{Kind, tag}
use Rattle.zerotrie_any.specs.Flavors.{flavor_kind}
use Rattle.zerotrie_any.specs.declared.trie.ZeroTrieFlavor.{ZeroTrieFlavor}
use Rattle.zerotrie_any.specs.declared.bytes.TagError.{TagError}
use Rattle.zerotrie_any.specs.declared.bytes.TagError.TheVariants.{Empty, InvalidTag}

-- the tag of the kind, then the bytes
abbrev pub tagged : Kind → List ℕ → List ℕ
tagged kind bytes = tag kind ∷ bytes

-- why tagged bytes are an error if such tags are read: there are none, or the first is another tag
abbrev pub IsTagFault : (ℕ → Type 0) → List ℕ → TagError → Type 0
IsTagFault IsRead [] e = e ≡ Empty
IsTagFault IsRead (first ∷ bytes) e = (e ≡ InvalidTag) × (IsRead first → ⊥)

-- the tag of a kind that a `ZeroTrie` may have
abbrev pub IsFlavorTag : ℕ → Type 0
IsFlavorTag t = (flavor : ZeroTrieFlavor) × (tag (flavor_kind flavor) ≡ t)
