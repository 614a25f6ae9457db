-- A message of a log whose lines may have halves, and its one spelling.
use Rattle.std.specs.Prelude.{ℕ, ◌≡◌, ◌%◌, ◌^◌, ◌<◌, Bool, true, false, ◌&&◌, List, [], ◌∷◌, ◌++◌, Option, Some, None, codes}
use Rattle.text_fields.specs.Fields.{hex, number}
use Rattle.tl_types.specs.Line.{bytes_of}
use Rattle.tl_types.specs.Message.{channel_of}
use Rattle.tl_types.specs.declared.line.LineData.{LineData}
use Rattle.tl_types.specs.declared.message.Body.{Body}
use Rattle.tl_types.specs.declared.message.Body.TheVariants.{ProbeAckData, ReleaseData, GrantData}
use Rattle.trace_recorder.specs.declared.logged.Logged.{Logged}
use Rattle.trace_text.specs.TraceLimits.{IsBody, IsData}
use Rattle.trace_text.specs.Words as words
use Rattle.wide_logs.specs.Shapes.{bytes_of_width, has_halves, part_of}
use Rattle.wide_logs.specs.declared.entry.WideLogged.{WideLogged}
use Rattle.wide_logs.specs.declared.shape.Shape.{Shape}
use Rattle.wide_logs.specs.declared.shape.Width.{Width}

-- it carries bytes
abbrev pub has_data : Body → Bool
has_data (ProbeAckData change bytes) = true
has_data (ReleaseData change bytes) = true
has_data (GrantData cap bytes) = true
has_data _ = false

abbrev pub with_bytes : Body → Option LineData → Body
with_bytes body None = body
with_bytes (ProbeAckData change old) (Some bytes) = ProbeAckData change bytes
with_bytes (ReleaseData change old) (Some bytes) = ReleaseData change bytes
with_bytes (GrantData cap old) (Some bytes) = GrantData cap bytes
with_bytes body (Some bytes) = body

-- the message as one of the line's first half (or of the line), and of its second half
abbrev pub first_of : WideLogged → Logged
first_of e = e.first

abbrev pub second_of : WideLogged → Logged
second_of e = record {
  direction = e.first.direction;
  hart = e.first.hart;
  message = record { line = e.first.message.line; body = with_bytes e.first.message.body e.second };
}

-- it has bytes of a second half, and these are they
abbrev pub carries_second : Width → Body → Bool
carries_second width body = has_halves width && has_data body

abbrev pub IsSecond : Width → Body → Option LineData → Type 0
IsSecond width body None = carries_second width body ≡ false
IsSecond width body (Some bytes) = (carries_second width body ≡ true) × IsData (part_of width) bytes

-- one of the clients sent or took it, and it is of a line at any address below 2^32
pub record IsEntry (s : Shape) (e : WideLogged) : Type 0 where
  pub client : e.first.hart < s.clients
  pub whole : e.first.message.line % bytes_of_width s.width ≡ 0
  pub inside : e.first.message.line < 2 ^ 32
  pub body : IsBody (part_of s.width) e.first.message.body
  pub second : IsSecond s.width e.first.message.body e.second

-- the second half's bytes follow those of the first
abbrev pub second_text : Option LineData → List ℕ
second_text None = []
second_text (Some bytes) = hex (bytes_of bytes)

-- a message's line, as in a trace
abbrev pub fields : WideLogged → List ℕ
fields e =
    words.direction e.first.direction ++ (words.channel (channel_of e.first.message)
    ++ (number 32 e.first.hart ++ ((words.message e.first.message ++ second_text e.second) ++ 10 ∷ [])))

abbrev pub line : WideLogged → List ℕ
line e = codes "M " ++ fields e
