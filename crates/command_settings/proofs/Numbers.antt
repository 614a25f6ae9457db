-- What is read of an argument that is a number.
use Rattle.std.proofs.Common.{◌≡◌, ◌<◌, ◌≤◌, ◌^◌, ℕ, Err, IfSome, IsNone, List, None, Ok, Option, Result, Some, arith, subst, sym}
use Rattle.clap.specs.Matches.{ReadsOne}
use Rattle.clap.specs.Values.{IsUnsignedIn}
use Rattle.clap.specs.Words.{Row, Text, one_of}
use Rattle.command_settings.specs.Settings.{HasNumber, IsNumberIn}
use Rattle.std.specs.Str.Parse.{ParsesUnsigned, digits_value, without_leading_plus}

pub number_meant : (E : Type 0) (gives : List ℕ → Result ℕ E → Type 0) (id : Text) (rows : List Row) (r : Option ℕ)
    → ((t : Text) → one_of id rows ≡ Some t → ReadsOne gives t r) → ((t : Text) (p : Result ℕ E) → gives t p → ParsesUnsigned 32 10 t p)
    → IfSome r (λ n. (low high : ℕ) → HasNumber id low high rows → IsNumberIn id low high rows n)
number_meant E gives id rows None reads parses = tt
number_meant E gives id rows (Some n) reads parses = λ low high has.
    let within : IsUnsignedIn low high has.0 = has.2 in
    let got : ParsesUnsigned {E = E} 32 10 has.0 (Ok n) = parses has.0 (Ok n) (reads has.0 has.1) in
    let is : digits_value 10 (without_leading_plus has.0) ≡ n = sym got.1 in (
      (has.0, has.1, (within.0, is)),
      subst (λ k. low ≤ k) is within.2,
      subst (λ k. k ≤ high) is within.3,
    )

pub number_missing : (E : Type 0) (gives : List ℕ → Result ℕ E → Type 0) (id : Text) (rows : List Row) (r : Option ℕ)
    → ((t : Text) → one_of id rows ≡ Some t → ReadsOne gives t r) → ((t : Text) (p : Result ℕ E) → gives t p → ParsesUnsigned 32 10 t p)
    → IsNone r → (low high : ℕ) → high < 2 ^ 32 → HasNumber id low high rows → ⊥
number_missing E gives id rows (Some n) reads parses none = cc
number_missing E gives id rows None reads parses none = λ low high small has.
    let within : IsUnsignedIn low high has.0 = has.2 in
    let got = reads has.0 has.1 in
    let refused : ParsesUnsigned {E = E} 32 10 has.0 (Err got.0) = parses has.0 (Err got.0) got.1 in
    let most = within.3 in
    refused (within.0, omega (arith, small, most))
