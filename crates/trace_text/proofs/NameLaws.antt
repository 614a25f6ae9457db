-- The names of messages, by what they begin with.
use Rattle.std.proofs.Common.{◌≡◌, ℕ, Bool, true, false, cond, eqb, List, [], ◌∷◌, ◌++◌, Option, Some, None, refl, sym}
use Rattle.std.specs.Prelude.{codes}
use Rattle.std.specs.Option.{option_or}
use Rattle.text_fields.specs.Reading.{◌>>=◌, after, table_at}
use Rattle.text_fields.proofs.Laws.{after_takes}
use Rattle.trace_text.specs.TraceReading.{all_names, probe_endings, release_endings, grant_endings}
use Rattle.trace_text.specs.declared.message_reading.Name.TheVariants as names

pub probe_led : (bytes rest : List ℕ) → Some rest ≡ after (codes "Probe") bytes → table_at all_names bytes ≡ table_at probe_endings rest
probe_led bytes rest e = rw (after_takes (codes "Probe") bytes rest (sym e)) refl

pub release_led : (bytes rest : List ℕ) → Some rest ≡ after (codes "Release") bytes → table_at all_names bytes ≡ table_at release_endings rest
release_led bytes rest e = rw (after_takes (codes "Release") bytes rest (sym e)) refl

pub grant_led : (bytes rest : List ℕ) → Some rest ≡ after (codes "Grant") bytes → table_at all_names bytes ≡ table_at grant_endings rest
grant_led bytes rest e = rw (after_takes (codes "Grant") bytes rest (sym e)) refl

-- what doesn't begin with a text doesn't begin with a longer one
after_longer : (text more bytes : List ℕ) → after text bytes ≡ None → after (text ++ more) bytes ≡ None
after_longer [] more bytes e = absurd cc
after_longer (t ∷ ts) more [] e = refl
after_longer (t ∷ ts) more (b ∷ bytes) e = go (after_longer ts more bytes) (eqb b t) e
  where
    go : (after ts bytes ≡ None → after (ts ++ more) bytes ≡ None) → (test : Bool) → cond test (after ts bytes) None ≡ None → cond test (after (ts ++ more) bytes) None ≡ None
    go rest true e = rest e
    go rest false e = refl

either_none : {A : Type 0} (x : Option A) → option_or x None ≡ x
either_none (Some x) = refl
either_none None = refl

pub not_led : (bytes : List ℕ) → None ≡ after (codes "Probe") bytes → None ≡ after (codes "Release") bytes → None ≡ after (codes "Grant") bytes
    → table_at all_names bytes ≡ (after (codes "AcquireBlock ") bytes >>= λ rest. Some (names.AcquireBlock, rest))
not_led bytes p r g =
    let probe = λ (more : List ℕ). after_longer (codes "Probe") more bytes (sym p) in
    let release = λ (more : List ℕ). after_longer (codes "Release") more bytes (sym r) in
    let grant = λ (more : List ℕ). after_longer (codes "Grant") more bytes (sym g) in
    rw (probe (codes "Block "), probe (codes "Ack "), probe (codes "AckData "), release (codes " "), release (codes "Data "), release (codes "Ack "), grant (codes " "), grant (codes "Data "), grant (codes "Ack "))
    (either_none (after (codes "AcquireBlock ") bytes >>= λ rest. Some (names.AcquireBlock, rest)))
