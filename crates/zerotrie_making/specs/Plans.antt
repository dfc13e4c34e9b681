-- What a plan asks for.
use Rattle.std.specs.Prelude.{◌≡◌, Bool, true, false, ℕ, List, Option, Some, None}
use Rattle.zerotrie_core.specs.Kind.{Kind}
use Rattle.zerotrie_core.specs.Maps.{Pairs}
use Rattle.zerotrie_core.specs.Routes.{Route, ascending, any_order}
use Rattle.zerotrie_any.specs.Auto.{auto_kind}
use Rattle.zerotrie_any.specs.Tagged.{tagged}
use Rattle.zerotrie_core.specs.Kinds.{kind_of}
use Rattle.zerotrie_core.specs.declared.TrieKind.{TrieKind}
use Rattle.zerotrie_sealed.specs.Sealed.{IsSealed, IsSealedIndex}
use Rattle.zerotrie_making.specs.declared.plan.FileForm.{FileForm}
use Rattle.zerotrie_making.specs.declared.plan.FileForm.TheVariants as form

-- the way of a build, whose keys are to ascend or may have any order
abbrev pub route_of : Bool → Route
route_of true = ascending
route_of false = any_order

-- the kind of a trie of the pairs: the one that is named, or the one that is taken for them
abbrev pub kind_for : Option TrieKind → Pairs → Kind
kind_for None pairs = auto_kind pairs
kind_for (Some kind) pairs = kind_of kind

-- the file of a trie or an index with these bytes: sealed, behind the number of the kind, or bare
abbrev pub IsFormOf : FileForm → Kind → List ℕ → List ℕ → Type 0
IsFormOf form.Sealed kind bytes file = IsSealed kind bytes file
IsFormOf form.Tagged kind bytes file = file ≡ tagged kind bytes
IsFormOf form.Bare kind bytes file = file ≡ bytes
IsFormOf form.Index kind bytes file = IsSealedIndex bytes file

-- what is built of pairs
pub data Content : Type 0 where
  a_trie : Kind → Content
  an_index : Content

-- what a file of a form has: a trie of the kind, or an index
abbrev pub content_of : FileForm → Kind → Content
content_of form.Sealed kind = a_trie kind
content_of form.Tagged kind = a_trie kind
content_of form.Bare kind = a_trie kind
content_of form.Index kind = an_index
