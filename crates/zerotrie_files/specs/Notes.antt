-- That nothing failed from one state of streams and files to another.
use Rattle.std.specs.Prelude.{◌≡◌}
use Rattle.zerotrie_files.specs.Faults.{Watched, Files}

-- no call of a reader or of a writer failed since: each has noted what it had
abbrev pub SameNotes : {R W : Type 0} → (input after : Watched R) → (output last : Watched W) → Type 0
SameNotes input after output last = (after.failed ≡ input.failed) × (last.failed ≡ output.failed)

-- no read of a stream or of a file failed since
abbrev pub SameReads : {R D : Type 0} → (input after : Watched R) → (files left : Files D) → Type 0
SameReads input after files left = (after.failed ≡ input.failed) × (left.unread ≡ files.unread)

-- no write to a stream and no replacement of a file failed since
abbrev pub SameWrites : {W D : Type 0} → (output after : Watched W) → (files left : Files D) → Type 0
SameWrites output after files left = (after.failed ≡ output.failed) × (left.unwritten ≡ files.unwritten)

-- no read, no write and no replacement failed since
abbrev pub NothingFailed : {R W D : Type 0} → (input after : Watched R) → (output last : Watched W) → (files left : Files D) → Type 0
NothingFailed input after output last files left = SameReads input after files left × SameWrites output last files left
