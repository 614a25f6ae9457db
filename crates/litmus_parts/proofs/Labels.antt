-- Names that are made only where what follows them is right.
use Rattle.std.proofs.Common.{◌≡◌, ℕ, true, false, List, Some, None, Ok, Err, refl, sym, ◌∙◌}
use Rattle.std.specs.Prelude.{codes}
use Rattle.text_words.specs.Words.{skip, word, past_word, symbol_at, is_name, name_at}
use Rattle.litmus_parts.specs.declared.stop.Cause.TheVariants as causes
use Rattle.litmus_parts.specs.Stops.{at}
use Rattle.litmus_parts.specs.Scanning.{until, from}
use Rattle.litmus_parts.specs.Header.{past_entry}
use Rattle.litmus_parts.specs.Rows.{label_at}

named : (bytes : List ℕ) → is_name (word (skip bytes)) ≡ true → name_at bytes ≡ Some (word (skip bytes), past_word (skip bytes))
unfolding name_at
named bytes is = rw is refl

unnamed : (bytes : List ℕ) → is_name (word (skip bytes)) ≡ false → name_at bytes ≡ None
unfolding name_at
unnamed bytes is = rw is refl

-- ---- labels

pub label_none : (bytes : List ℕ) → is_name (word (skip bytes)) ≡ false → None ≡ label_at bytes
unfolding label_at
label_none bytes is = rw (unnamed bytes is) refl

pub label_open : (bytes : List ℕ) → is_name (word (skip bytes)) ≡ true → None ≡ symbol_at (codes ":") (past_word (skip bytes)) → None ≡ label_at bytes
unfolding label_at
label_open bytes is none = rw (named bytes is, sym none) refl

pub label_some : (bytes rest : List ℕ) → is_name (word (skip bytes)) ≡ true → Some rest ≡ symbol_at (codes ":") (past_word (skip bytes)) → Some (word (skip bytes), rest) ≡ label_at bytes
unfolding label_at
label_some bytes rest is some = rw (named bytes is, sym some) refl

-- ---- entries

pub entry_none : (bytes : List ℕ) → is_name (word (skip (until (codes "\n") (skip bytes)))) ≡ false → Err (at causes.Entry bytes) ≡ past_entry bytes
unfolding past_entry
entry_none bytes is = rw (unnamed (until (codes "\n") (skip bytes)) is) refl

pub entry_open : (bytes : List ℕ) → is_name (word (skip (until (codes "\n") (skip bytes)))) ≡ true → None ≡ symbol_at (codes "=") (past_word (skip (until (codes "\n") (skip bytes)))) → Err (at causes.Entry bytes) ≡ past_entry bytes
unfolding past_entry
entry_open bytes is none = rw (named (until (codes "\n") (skip bytes)) is, sym none) refl

pub entry_some : (bytes rest : List ℕ) → is_name (word (skip (until (codes "\n") (skip bytes)))) ≡ true → Some rest ≡ symbol_at (codes "=") (past_word (skip (until (codes "\n") (skip bytes)))) → Ok (from (codes "\n") (skip bytes)) ≡ past_entry bytes
unfolding past_entry
entry_some bytes rest is some = rw (named (until (codes "\n") (skip bytes)) is, sym some) refl
