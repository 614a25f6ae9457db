-- What a symbol table names (System V Application Binary Interface, "Object Files": "Symbol Table",
-- "String Table").
use Rattle.std.specs.Prelude.{ℕ, ◌*◌, ◌/◌, ◌%◌, ◌==◌, nat_eq, nat_le, nat_lt, Bool, not, ◌&&◌, if◌then◌else◌, List, [], ◌∷◌, length, slice_index, take, drop, position, Option, Some, None, option_map, option_and_then}
use Rattle.std.specs.List.{filter_map, list_all, range_with_len, starts_with}
use Rattle.elf_symbols.specs.Named.{Named}
use Rattle.elf_loader.specs.Elf.{half_at, long_at}

-- .L
abbrev pub local_start : List ℕ
local_start = 46 ∷ 76 ∷ []

-- no control byte: a space, a printable character of ASCII, or a byte of a longer character of UTF-8
abbrev pub is_shown : ℕ → Bool
is_shown byte = nat_le 32 byte && not (byte == 127)

-- of no control bytes, and none that begins with $, as mapping symbols ($x) do, which mark what stands there instead of naming it, or with .L, as an assembler's own labels do (.Lpcrel_hi0)
abbrev pub is_told : List ℕ → Bool
is_told name = nat_lt 0 (length name) && not (slice_index name 0 == 36) && not (starts_with nat_eq name local_start) && list_all is_shown name

abbrev pub told : List ℕ → Option (List ℕ)
told name = if is_told name then Some name else None

-- the string that begins at this place of a string table, up to the zero behind it: of at most 4,096 bytes, where it can be told
abbrev pub name_at : List ℕ → ℕ → Option (List ℕ)
name_at strings at = option_and_then (λ n. told (take n (drop at strings))) (position (λ b. b == 0) (take 4097 (drop at strings)))

abbrev pub st_name : List ℕ → ℕ
st_name entry = long_at entry 0

abbrev pub st_value : List ℕ → ℕ
st_value entry = long_at entry 4

-- the low four bits of st_info
abbrev pub st_type : List ℕ → ℕ
st_type entry = slice_index entry 12 % 16

abbrev pub st_shndx : List ℕ → ℕ
st_shndx entry = half_at entry 14

-- STT_NOTYPE, STT_OBJECT or STT_FUNC, in a section: neither SHN_UNDEF nor from SHN_LORESERVE on
abbrev pub is_place : List ℕ → Bool
is_place entry = nat_le (st_type entry) 2 && not (st_shndx entry == 0) && nat_lt (st_shndx entry) 65280

-- an executable file's st_value is an address
abbrev pub named : List ℕ → List ℕ → Named
named entry name = record { address = st_value entry; name = name }

abbrev pub symbol_in : List ℕ → List ℕ → Option Named
symbol_in entry strings = if is_place entry then option_map (named entry) (name_at strings (st_name entry)) else None

abbrev pub entry_at : List ℕ → ℕ → List ℕ
entry_at entries index = take 16 (drop (16 * index) entries)

-- what the whole entries name, in their order
abbrev pub symbols_in : List ℕ → List ℕ → List Named
symbols_in entries strings = filter_map (λ index. symbol_in (entry_at entries index) strings) (range_with_len 0 (length entries / 16))
