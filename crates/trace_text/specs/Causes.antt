-- What stands in a script where it can't be read, and what should.
use Rattle.std.specs.Prelude.{ℕ, Bool, true, false, ◌==◌, ◌||◌, ◌&&◌, if◌then◌else◌, nat_le, is_some, List, [], ◌∷◌, Option, None, Some, codes}
use Rattle.std.specs.List.{before_first}
use Rattle.elf_loader.specs.Size.{is_memory_kib}
use Rattle.machine_types.specs.Config.{is_set_count}
use Rattle.machine_types.specs.declared.limits.TheConstants.{MAX_HARTS, MAX_WAYS}
use Rattle.text_fields.specs.Excerpts.{excerpt}
use Rattle.text_fields.specs.Reading.{◌>>=◌, after, guarded, number_at, table_at, word_at}
use Rattle.tl_types.specs.Line.{size_of_bytes}
use Rattle.trace_text.specs.ScriptReading.{channel_at}
use Rattle.trace_text.specs.declared.cause.Field.{Field}
use Rattle.trace_text.specs.declared.cause.Field.TheVariants as fields
use Rattle.trace_text.specs.declared.cause.Form.{Form}
use Rattle.trace_text.specs.declared.cause.Form.TheVariants as forms
use Rattle.trace_text.specs.declared.cause.Misfit.{Misfit}
use Rattle.trace_text.specs.declared.cause.Misfit.TheVariants.{Lead, Fields}
use Rattle.trace_text.specs.declared.cause.TextCause.{TextCause}
use Rattle.trace_text.specs.declared.cause.TextCause.TheVariants as causes
use Rattle.trace_text.specs.declared.cause.Wrong.{Wrong}
use Rattle.trace_text.specs.declared.cause.Wrong.TheVariants.{Missing, Surplus, Together}
use Rattle.trace_text.specs.declared.cause.Wrong.TheVariants as wrongs

abbrev pub is_feed : ℕ → Bool
is_feed b = b == 10

-- the line that begins here, without its line feed
abbrev pub line_text : List ℕ → List ℕ
line_text bytes = before_first is_feed bytes

abbrev pub ends_word : ℕ → Bool
ends_word b = b == 32 || b == 10

-- the word that begins here, which a space or a line feed ends
abbrev pub word_text : List ℕ → List ℕ
word_text bytes = before_first ends_word bytes

-- ---- how the lines of a script are written

-- the first words of the two first lines, and of events
abbrev pub heads : List (List ℕ × Form)
heads = (codes "rvtl-script 1", forms.First) ∷ (codes "rvtl-script 2", forms.Second) ∷ []

abbrev pub events : List (List ℕ × Form)
events = (codes "step", forms.Step) ∷ (codes "drain", forms.Drain) ∷ (codes "evict", forms.Evict) ∷ (codes "deliver", forms.Deliver) ∷ (codes "local", forms.Local) ∷ []

-- the fields behind them
abbrev pub fields_of : Form → List Field
fields_of forms.First = fields.Harts ∷ fields.Kib ∷ fields.Sets ∷ fields.Ways ∷ []
fields_of forms.Second = fields.Harts ∷ fields.Kib ∷ fields.Sets ∷ fields.Ways ∷ fields.Line ∷ []
fields_of forms.Step = fields.Hart ∷ []
fields_of forms.Drain = fields.Hart ∷ fields.Address ∷ []
fields_of forms.Evict = fields.Hart ∷ fields.Address ∷ []
fields_of forms.Deliver = fields.Channel ∷ fields.Hart ∷ []
fields_of forms.Local = fields.Hart ∷ fields.Count ∷ []

-- which numbers a field takes
abbrev pub takes : Field → ℕ → Bool
takes fields.Harts n = nat_le 1 n && nat_le n MAX_HARTS
takes fields.Kib n = is_memory_kib n
takes fields.Sets n = is_set_count n
takes fields.Ways n = nat_le 1 n && nat_le n MAX_WAYS
takes fields.Line n = is_some (size_of_bytes n)
takes fields.Hart n = nat_le n 255
takes fields.Count n = true
takes fields.Address n = false
takes fields.Channel n = false

-- what stands behind a field, and behind the byte that ends it
unfoldable pub behind_number : Field → ℕ → List ℕ → Option (List ℕ)
behind_number field end bytes = number_at end 4294967295 bytes >>= λ x. guarded (takes field x.0) x.1

unfoldable pub behind_address : ℕ → List ℕ → Option (List ℕ)
behind_address end bytes = word_at bytes >>= λ x. after (end ∷ []) x.1

unfoldable pub behind_channel : ℕ → List ℕ → Option (List ℕ)
behind_channel end bytes = channel_at bytes >>= λ x. guarded (end == 32) x.1

abbrev pub behind_field : Field → ℕ → List ℕ → Option (List ℕ)
behind_field fields.Address end bytes = behind_address end bytes
behind_field fields.Channel end bytes = behind_channel end bytes
behind_field fields.Harts end bytes = behind_number fields.Harts end bytes
behind_field fields.Kib end bytes = behind_number fields.Kib end bytes
behind_field fields.Sets end bytes = behind_number fields.Sets end bytes
behind_field fields.Ways end bytes = behind_number fields.Ways end bytes
behind_field fields.Line end bytes = behind_number fields.Line end bytes
behind_field fields.Hart end bytes = behind_number fields.Hart end bytes
behind_field fields.Count end bytes = behind_number fields.Count end bytes

-- ---- what keeps a line from being one

-- the line ends before these fields
abbrev pub missing : List Field → Wrong
missing [] = Together
missing (field ∷ others) = Missing field

-- no space ends this field: the line ends with it, or another word stands there
abbrev pub lacking_by : Option (List ℕ) → Field → List Field → List ℕ → Wrong
lacking_by (Some rest) field others bytes = missing others
lacking_by None field others bytes = wrongs.Field field (excerpt (word_text bytes))

abbrev pub lacking : Field → List Field → List ℕ → Wrong
lacking field others bytes = lacking_by (behind_field field 10 bytes) field others bytes

-- what is wrong behind a field that a space ends
abbrev pub behind_space : List Field → List ℕ → Wrong → Wrong
behind_space [] rest later = Surplus (excerpt (line_text rest))
behind_space (field ∷ others) rest later = later

abbrev pub chosen : Option (List ℕ) → (List ℕ → Wrong) → Wrong → Wrong
chosen (Some rest) later other = later rest
chosen None later other = other

-- the first of these fields that the line, of which this is left, has otherwise
abbrev pub wrong_in : List Field → List ℕ → Wrong
wrong_in [] bytes = Together
wrong_in (field ∷ others) bytes = chosen (behind_field field 32 bytes) (λ rest. behind_space others rest (wrong_in others rest)) (lacking field others bytes)

abbrev pub form_at : ℕ → List ℕ → Option (Form × List ℕ)
form_at line bytes = if line == 1 then table_at heads bytes else table_at events bytes

-- what is wrong behind the first words of a form
abbrev pub misfit_behind : Form → List ℕ → Misfit
misfit_behind form [] = Lead
misfit_behind form (b ∷ rest) =
    if b == 32 then Fields form (wrong_in (fields_of form) rest)
    else if b == 10 then Fields form (missing (fields_of form))
    else Lead

abbrev pub misfit_by : Option (Form × List ℕ) → Misfit
misfit_by None = Lead
misfit_by (Some x) = misfit_behind x.0 x.1

-- what keeps the line of this number, which begins here, from being one
abbrev pub misfit_of : ℕ → List ℕ → Misfit
misfit_of line bytes = misfit_by (form_at line bytes)

abbrev pub script_cause : ℕ → List ℕ → TextCause
script_cause line bytes = causes.Script (excerpt (line_text bytes)) (misfit_of line bytes)

abbrev pub trace_cause : List ℕ → TextCause
trace_cause bytes = causes.Trace (excerpt (line_text bytes))
