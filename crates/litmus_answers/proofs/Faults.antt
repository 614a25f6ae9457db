-- Why a test makes no program, from what the parts answer.
use Rattle.std.proofs.Common.{◌≡◌, ◌∙◌, ◌<◌, ◌⊎◌, ℕ, List, Err, ap, inl, inr, refl, subst, sym}
use Rattle.std.specs.Prelude.{IsSome, length}
use Rattle.std.specs.Global.{Vec}
use Rattle.litmus_answers.specs.Faults.{HasNoWords, IsCrowded, IsFault, MakesNoProgram, cause_of, left_of, stop_of}
use Rattle.litmus_answers.specs.Layouts.{AreParts, beginnings_of}
use Rattle.litmus_answers.specs.Naming.{AreSorted, names_in}
use Rattle.litmus_image.specs.Image.{Gives, words_of}
use Rattle.litmus_image.specs.declared.part.Cause.{Cause as ImageCause}
use Rattle.litmus_image.specs.declared.part.Cause.TheVariants as image
use Rattle.litmus_image.specs.declared.part.ImageError.{ImageError}
use Rattle.litmus_image.specs.declared.part.ImageError.TheVariants.{Fault, NoMemory}
use Rattle.litmus_image.specs.declared.part.Part.{Part}
use Rattle.litmus_parts.specs.Stops.{fault_of}
use Rattle.litmus_parts.specs.declared.stop.Cause.{Cause}
use Rattle.litmus_parts.specs.declared.stop.Cause.TheVariants as causes
use Rattle.litmus_parts.specs.declared.stop.Stop.TheVariants.{At}
use Rattle.litmus_text.specs.Tests.{Meaning}

module _ (t : Meaning) (names : List (Vec ℕ)) (sorted : AreSorted (names_in t) names) where
  -- the parts and the locations make no words
  pub no_words : (parts : List Part) (numbers : List ℕ) (error : ImageError) → AreParts t names parts → numbers ≡ beginnings_of names t.values names
      → Gives {X = Vec ℕ} (λ (words : Vec ℕ). words.items) (Err error) (words_of parts numbers) → IsFault t (stop_of t.lines error)
  no_words parts numbers (Fault hart line why) are same none = record {
    names = names;
    sorted = sorted;
    reason = inr (record {
      parts = parts;
      are_parts = are;
      hart = hart;
      line = line;
      why = why;
      words = ap (words_of parts) (sym same) ∙ none;
      cause_is = refl;
      left_is = refl;
    });
  }
  no_words parts numbers NoMemory are same none = tt

  -- the locations are too many
  pub too_many : (left : ℕ) → 64 < length names → left ≡ left_of t.lines 0 0 → IsFault t (At causes.FewLocations left)
  too_many left many is = record { names = names; sorted = sorted; reason = inl (many, refl, is) }

-- ---- each is a fault

known : (why : ImageCause) → IsSome (fault_of (cause_of why))
known image.NoLabel = refl
known image.TooFar = refl
known image.AllAsked = refl
known image.TooLong = refl
known image.TooMany = refl

pub is_fault : (t : Meaning) (cause : Cause) (left : ℕ) → MakesNoProgram t cause left → IsSome (fault_of cause)
is_fault t cause left none = by none.reason
  where
    by : IsCrowded t none.names cause left ⊎ HasNoWords t none.names cause left → IsSome (fault_of cause)
    by (inl crowded) = subst (λ (c : Cause). IsSome (fault_of c)) (sym crowded.1) refl
    by (inr made) = subst (λ (c : Cause). IsSome (fault_of c)) (sym made.cause_is) (known made.why)
