use Rattle.std.proofs.Common.{◌≡◌, ◌-◌, ◌≤◌, length, take, All}
use Rattle.zerotrie_index.specs.Layout.{place_of}
use Rattle.zerotrie_index.proofs.builder.bucket_len.Given as goal

abbrev pub invariant-loop-len : goal.invariant-loop-len
invariant-loop-len l = record {
  within : l.len ≤ length l.hashed;
  here : All (λ h. place_of l.count h.hash ≡ l.number) (take l.len l.hashed);
}

abbrev pub decreases-loop-len : goal.decreases-loop-len
decreases-loop-len l = length l.hashed - l.len
