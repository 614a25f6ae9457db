-- What each hart was granted last, behind one more entry.
use Rattle.std.proofs.Common.{ℕ, Bool, true, false, List, [], ◌∷◌, ◌++◌, ◌≡◌, Option, Some, None, refl, ap, sym, ◌∙◌}
use Rattle.std.specs.Prelude.{if◌then◌else◌}
use Rattle.std.specs.Option.{option_or}
use Rattle.tl_types.specs.declared.line.LineData.{LineData}
use Rattle.trace_recorder.specs.declared.logged.Logged.{Logged}
use Rattle.written_lines.specs.Granted.{Follows, granted_in}
use Rattle.written_lines.specs.Written.{concerns, granted, granted_of, tells_granted}
use Rattle.written_lines.specs.declared.granted.Granted.{Granted}

or_none : (o : Option LineData) → option_or o None ≡ o
or_none None = refl
or_none (Some bytes) = refl

or_or : (a b c : Option LineData) → option_or (option_or a b) c ≡ option_or a (option_or b c)
or_or None b c = refl
or_or (Some bytes) b c = refl

granted_more : (h line : ℕ) (log : List Logged) (e : Logged) → granted_of h line (log ++ e ∷ []) ≡ option_or (tells_granted h line e) (granted_of h line log)
granted_more h line [] e = sym (or_none (tells_granted h line e))
granted_more h line (x ∷ log) e = ap (λ o. option_or o (tells_granted h line x)) (granted_more h line log e) ∙ or_or (tells_granted h line e) (granted_of h line log) (tells_granted h line x)

module _ (log : List Logged) (e : Logged) where
  -- an entry that grants
  pub granted_follows : (f g : Granted) (bytes : LineData) → Some bytes ≡ granted e.direction e.message.body → Follows f log
      → ((h line : ℕ) → granted_in g.lines h line ≡ (if concerns h line e then Some bytes else granted_in f.lines h line)) → Follows g (log ++ e ∷ [])
  granted_follows f g bytes gives old noted h line =
      noted h line ∙ ap (λ o. if concerns h line e then Some bytes else o) (old h line) ∙ go (concerns h line e) ∙ ap (λ o. option_or (if concerns h line e then o else None) (granted_of h line log)) gives ∙ sym (granted_more h line log e)
    where
      go : (b : Bool) → (if b then Some bytes else granted_of h line log) ≡ option_or (if b then Some bytes else None) (granted_of h line log)
      go true = refl
      go false = refl

  -- and one that doesn't
  pub other_follows : (f : Granted) → None ≡ granted e.direction e.message.body → Follows f log → Follows f (log ++ e ∷ [])
  other_follows f gives old h line =
      old h line ∙ go (concerns h line e) ∙ ap (λ o. option_or (if concerns h line e then o else None) (granted_of h line log)) gives ∙ sym (granted_more h line log e)
    where
      go : (b : Bool) → granted_of h line log ≡ option_or (if b then None else None) (granted_of h line log)
      go true = refl
      go false = refl
