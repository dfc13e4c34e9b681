-- Items of a sorted listing.
use Rattle.std.proofs.Common.{◌≡◌, ℕ, List, ◌∷◌, sym, subst, Bool, true, false, Some, None, Result, Ok, Err}
use Rattle.std.specs.declared.alloc.AllocError.{AllocError}
use Rattle.zerotrie_core.specs.Listings.{ListsOne, MemoryOnly, to_come}
use Rattle.zerotrie_core.specs.WellFormed.{IsWellFormed}
use Rattle.zerotrie_core.specs.declared.listing.ListError.TheVariants.{OutOfMemory}
use Rattle.zerotrie_search.specs.Sorted.{Sorting, SortsOne, sorted_item}

module _ {K : Type 0} (key : K → List ℕ) (before after : Sorting) (r : Result Bool AllocError)
    (lists : IsWellFormed before.kind before.bytes → ListsOne (λ key. key) MemoryOnly before.left (sorted_item r after) after.left) (kind : after.kind ≡ before.kind) (bytes : after.bytes ≡ before.bytes) where
  pub sorted_pair : (k : K) (v : ℕ) → r ≡ Ok true → key k ≡ after.key → v ≡ after.value → SortsOne key before (Some (Ok (k, v))) after
  sorted_pair k v is same value = record {
    lists = λ valid.
        (let l : (before.left ≡ to_come ((after.key, after.value) ∷ after.left.pairs)) × (after.left ≡ to_come after.left.pairs) = subst (λ r. ListsOne (λ key. key) MemoryOnly before.left (sorted_item r after) after.left) is (lists valid) in (
          subst (λ x. before.left ≡ to_come ((x, v) ∷ after.left.pairs)) (sym same) (subst (λ w. before.left ≡ to_come ((after.key, w) ∷ after.left.pairs)) (sym value) l.0),
          l.1,
        ));
    kind = kind;
    bytes = bytes;
  }

  pub sorted_end : r ≡ Ok false → SortsOne key before None after
  sorted_end is = record { lists = λ valid. subst (λ r. ListsOne (λ key. key) MemoryOnly before.left (sorted_item r after) after.left) is (lists valid); kind = kind; bytes = bytes }

  pub sorted_error : (e : AllocError) → r ≡ Err e → SortsOne key before (Some (Err OutOfMemory)) after
  sorted_error e is = record { lists = λ valid. subst (λ r. ListsOne (λ key. key) MemoryOnly before.left (sorted_item r after) after.left) is (lists valid); kind = kind; bytes = bytes }
