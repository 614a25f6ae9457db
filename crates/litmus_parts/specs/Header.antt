-- The first lines: architecture, name, a quoted text, and what the test's maker noted.
use Rattle.std.specs.Prelude.{ℕ, zero, suc, Bool, ◌&&◌, ◌==◌, not, nat_le, List, [], ◌∷◌, length, Option, Some, None, Result, Ok, Err, if◌then◌else◌, codes}
use Rattle.std.specs.Char.{is_ascii_graphic}
use Rattle.std.specs.List.{list_all, list_any}
use Rattle.text_fields.specs.Reading.{after}
use Rattle.text_words.specs.Words.{skip, word, past_word, symbol_at, name_at}
use Rattle.litmus_parts.specs.declared.stop.Cause.{Cause}
use Rattle.litmus_parts.specs.declared.stop.Cause.TheVariants as causes
use Rattle.litmus_parts.specs.declared.stop.Stop.{Stop}
use Rattle.litmus_parts.specs.Stops.{Read, at, here, ◌>>=◌}
use Rattle.litmus_parts.specs.Scanning.{is_same, until, from, or_stop}

-- other architectures whose tests are written so
abbrev pub others : List (List ℕ)
others =
    codes "AArch64" ∷
    codes "AARCH64" ∷
    codes "ARM" ∷
    codes "ASL" ∷
    codes "BPF" ∷
    codes "Bell" ∷
    codes "C" ∷
    codes "CPP" ∷
    codes "JAVA" ∷
    codes "LISA" ∷
    codes "MIPS" ∷
    codes "PPC" ∷
    codes "X86" ∷
    codes "X86_64" ∷ []

abbrev pub is_other : List ℕ → Bool
is_other found = list_any (λ other. is_same other found) others

abbrev pub architecture_cause : List ℕ → Cause
architecture_cause found = if is_other found then causes.OtherArchitecture else causes.Architecture

unfoldable pub past_architecture : List ℕ → Result (List ℕ) Stop
past_architecture bytes =
    if is_same (codes "RISCV") (word (skip bytes)) then Ok (past_word (skip bytes))
    else Err (at (architecture_cause (word (skip bytes))) bytes)

-- a test's name: 1 to 200 printable characters, no slash
abbrev pub is_name_byte : ℕ → Bool
is_name_byte b = is_ascii_graphic b && not (b == 47)

abbrev pub has_name_length : List ℕ → Bool
has_name_length found = nat_le 1 (length found) && nat_le (length found) 200

abbrev pub is_test_name : List ℕ → Bool
is_test_name found = has_name_length found && list_all is_name_byte found

-- it stands alone on its line
unfoldable pub name_line : List ℕ → Read (List ℕ)
name_line bytes =
    let line = skip (until (codes "\n") bytes) in
    if is_test_name (until (codes " \t\r") line) && (length (skip (from (codes " \t\r") line)) == 0) then Ok (until (codes " \t\r") line, from (codes "\n") bytes)
    else Err (here causes.Name bytes)

abbrev pub behind_mark : Option (List ℕ) → List ℕ → Result (List ℕ) Stop
behind_mark (Some text) bytes = or_stop (after (codes "\"") (from (codes "\"") text)) causes.Quotation bytes
behind_mark None bytes = Ok bytes

-- what stands behind a quoted text, which may be missing
unfoldable pub past_quotation : List ℕ → Result (List ℕ) Stop
past_quotation bytes = behind_mark (symbol_at (codes "\"") bytes) bytes

-- an entry is a line KEY=text
abbrev pub behind_key : Option (List ℕ × List ℕ) → Option (List ℕ)
behind_key (Some x) = symbol_at (codes "=") x.1
behind_key None = None

abbrev pub entry_or_stop : Option (List ℕ) → List ℕ → Result (List ℕ) Stop
entry_or_stop (Some value) bytes = Ok (from (codes "\n") (skip bytes))
entry_or_stop None bytes = Err (at causes.Entry bytes)

unfoldable pub past_entry : List ℕ → Result (List ℕ) Stop
past_entry bytes = entry_or_stop (behind_key (name_at (until (codes "\n") (skip bytes)))) bytes

-- so many entries at most, and the brace
abbrev pub or_entry : Option (List ℕ) → Result (List ℕ) Stop → Result (List ℕ) Stop
or_entry (Some rest) read = Ok rest
or_entry None read = read

unfoldable pub past_entries : ℕ → List ℕ → Result (List ℕ) Stop
past_entries zero bytes = Err (at causes.FewEntries bytes)
past_entries (suc n) bytes = or_entry (symbol_at (codes "{") bytes) (past_entry bytes >>= λ rest. past_entries n rest)

-- what stands behind the brace that opens the initial values
unfoldable pub past_notes : List ℕ → Result (List ℕ) Stop
past_notes bytes = past_quotation bytes >>= λ rest. past_entries 1000 rest

-- the test's name, and what stands behind that brace
unfoldable pub titled_at : List ℕ → Read (List ℕ)
titled_at bytes = name_line bytes >>= λ x. past_notes x.1 >>= λ rest. Ok (x.0, rest)

unfoldable pub header_at : List ℕ → Read (List ℕ)
header_at bytes = past_architecture bytes >>= λ rest. titled_at rest
