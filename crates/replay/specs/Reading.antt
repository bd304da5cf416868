-- What is read of a file's known bytes. Definitions only.
use Rattle.std.specs.Prelude.{◌≡◌, ℕ, ◌<◌, ◌≤◌, List, length, Option, None, Some, Result, Ok, vec_len, Vec}
use Rattle.std.specs.Io.KnownBytes.{Consumes, IsAtEnd}
use Rattle.words.specs.Words.{little_endian}
use Rattle.replay.specs.declared.Fault.{Fault}
use Rattle.replay.specs.declared.Fault.TheVariants.{Cut, Unread}
use Rattle.replay.specs.declared.Limit.{Limit}
use Rattle.replay.specs.declared.Longer.TheVariants as Longer

-- a word is the eight bytes that the file loses, and there is none only where it was at its end
abbrev pub IsWordRead : Option (List ℕ) → Option (List ℕ) → Option ℕ → Type 0
IsWordRead before after None = IsAtEnd before
IsWordRead before after (Some w) = (bytes : List ℕ) × (length bytes ≡ 8) × (little_endian bytes ≡ w) × Consumes before after bytes

-- bytes are cut only where the file has come to its end before them. No record has more than 262144
abbrev pub IsCutAtEnd : ℕ → Option (List ℕ) → Fault → Type 0
IsCutAtEnd n after Cut = n ≤ 262144 → IsAtEnd after
IsCutAtEnd n after (Unread error) = Unit

-- a payload is the n bytes that the file loses, at most so many. One that is longer, where such are not read, is none, and the file stays
-- as it is. Else there is none only where the file has come to its end before it
abbrev pub IsPayloadRead : {A : Type 0} → ℕ → Limit → Option (List ℕ) → Option (List ℕ) → Option (Vec ℕ A) → Type 0
IsPayloadRead n limit before after None = (limit.most < n → (limit.longer ≡ Longer.Unread) × (after ≡ before)) × (n ≤ limit.most → n ≤ 262144 → IsAtEnd after)
IsPayloadRead n limit before after (Some v) = (n ≤ limit.most) × (vec_len v ≡ n) × Consumes before after v.items

-- a record is cut at its payload only where that is longer and such are cut, and the file stays as it is
abbrev pub IsCutAtPayload : ℕ → Limit → Option (List ℕ) → Option (List ℕ) → Fault → Type 0
IsCutAtPayload n limit before after Cut = (limit.most < n) × (limit.longer ≡ Longer.Cut) × (after ≡ before)
IsCutAtPayload n limit before after (Unread error) = n ≤ limit.most

-- a record begins with the word that is its operation, and is what its trait says of one that is read for that operation. There is none
-- only where the file was at its end
abbrev pub IsRecordRead : {A : Type 0} → (ℕ → Result A Fault → Type 0) → Option (List ℕ) → Option A → Type 0
IsRecordRead gives before None = IsAtEnd before
IsRecordRead gives before (Some x) = (op : ℕ) × (after : Option (List ℕ)) × IsWordRead before after (Some op) × gives op (Ok x)
