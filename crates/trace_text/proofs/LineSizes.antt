-- A line's size is read as it is spelled.
use Rattle.std.proofs.Common.{◌≡◌, ℕ, ◌<◌, ◌≤◌, true, eqb, List, ◌++◌, Some, None, refl, ap, subst, ◌∙◌, arith, inl, inr}
use Rattle.std.proofs.lemmas.Bool.{eqb-true}
use Rattle.std.proofs.lemmas.Option.{none-some, same_Some}
use Rattle.text_fields.specs.Fields.{number}
use Rattle.text_fields.specs.Reading.{◌>>=◌, number_at}
use Rattle.text_fields.proofs.Laws.{Reads, bind_some, some_is, number_reads, chosen}
use Rattle.tl_types.specs.Line.{length_of, size_of_bytes}
use Rattle.tl_types.specs.declared.line.LineSize.{LineSize}
use Rattle.tl_types.specs.declared.line.LineSize.TheVariants.{Bytes16, Bytes64}
use Rattle.trace_text.specs.Scripts.{is_first_version}
use Rattle.trace_text.specs.ScriptReading.{most, size_at}

pub number_law : (end : ℕ) → end < 48 → Reads (number end) (λ n. n ≤ most) (number_at end most)
number_law end lt = number_reads end most lt (omega arith)

-- version 1 is for lines of 16 bytes
pub size_16 : (harts : ℕ) (s : LineSize) → is_first_version harts s ≡ true → s ≡ Bytes16
size_16 harts Bytes16 e = refl
size_16 harts Bytes64 e = absurd cc

size_is : (n : ℕ) (s : LineSize) → size_of_bytes n ≡ Some s → n ≡ length_of s
size_is n s e =
    elim (chosen (eqb n 16) (Some Bytes16) _ (Some s) e) [
      | inl y ↦ eqb-true n 16 y.0 ∙ ap length_of (same_Some Bytes16 s y.1)
      | inr m ↦ elim (chosen (eqb n 64) (Some Bytes64) None (Some s) m.1) [
        | inl y ↦ eqb-true n 64 y.0 ∙ ap length_of (same_Some Bytes64 s y.1)
        | inr m ↦ absurd (none-some s m.1)
      ]
    ]

size_takes : (bytes : List ℕ) (s : LineSize) (rest : List ℕ) → size_at bytes ≡ Some (s, rest) → (bytes ≡ number 10 (length_of s) ++ rest) × Unit {0}
unfolding size_at
size_takes bytes s rest e =
    let p = bind_some (number_at 10 most bytes) (λ n. size_of_bytes n.0 >>= λ s. Some (s, n.1)) (s, rest) e in
    let q = bind_some (size_of_bytes p.0.0) (λ s. Some (s, p.0.1)) (s, rest) p.2 in
    let t = (number_law 10 (omega arith)).takes bytes p.0.0 p.0.1 p.1 in
    let made : LineSize × List ℕ = (q.0, p.0.1) in
    subst (λ (y : LineSize × List ℕ). (bytes ≡ number 10 (length_of y.0) ++ y.1) × Unit {0}) (some_is made (s, rest) q.2) (t.0 ∙ ap (λ n. number 10 n ++ p.0.1) (size_is p.0.0 q.0 q.1), tt)

size_again : (s : LineSize) (rest : List ℕ) → size_at (number 10 (length_of s) ++ rest) ≡ Some (s, rest)
unfolding size_at
size_again Bytes16 rest = rw ((number_law 10 (omega arith)).again 16 rest (omega arith)) refl
size_again Bytes64 rest = rw ((number_law 10 (omega arith)).again 64 rest (omega arith)) refl

pub size_reads : Reads (λ s. number 10 (length_of s)) (λ s. Unit {0}) size_at
size_reads = record { takes = size_takes; again = λ s rest h. size_again s rest }
