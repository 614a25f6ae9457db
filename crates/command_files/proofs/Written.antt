-- What went out before a last flush.
use Rattle.std.proofs.Common.{◌∙◌, ℕ, List, [], None, Option, Some, sym}
use Rattle.std.proofs.lemmas.List.{append-nil}
use Rattle.std.specs.Io.KnownBytes.{Appends, Keeps}
use Rattle.text_fields.specs.Writing.{Begins}

pub kept_on : (old mid new : Option (List ℕ)) (bytes : List ℕ) → Appends old mid bytes → Keeps mid new → Appends old new bytes
kept_on None mid new bytes appended kept = tt
kept_on (Some xs) None new bytes appended kept = absurd appended
kept_on (Some xs) (Some ys) None bytes appended kept = absurd kept
kept_on (Some xs) (Some ys) (Some zs) bytes appended kept = kept ∙ appended

-- all of it is a beginning of it
pub all_begun : (old mid new : Option (List ℕ)) (bytes : List ℕ) → Appends old mid bytes → Keeps mid new → Begins old new bytes
all_begun old mid new bytes appended kept = record {
  front = bytes;
  rest = [];
  parts = sym (append-nil bytes);
  sent = kept_on old mid new bytes appended kept;
}
