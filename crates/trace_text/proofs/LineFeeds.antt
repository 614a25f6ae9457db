-- Each line of a trace has one line feed, at its end.
use Rattle.std.proofs.Common.{◌≡◌, ℕ, ◌+◌, ◌/◌, ◌%◌, ◌^◌, ◌<◌, ◌≤◌, Bool, true, false, eqb, List, [], ◌∷◌, ◌++◌, Option, Some, None, refl, ap, ◌∙◌, arith, inl, inr}
use Rattle.std.specs.Prelude.{codes, decimal}
use Rattle.std.specs.Fmt.{digit_glyph}
use Rattle.std.specs.Int.{w32, to_be_bytes}
use Rattle.std.proofs.lemmas.Bool.{ne_eqb, cases_lt, lt-ltb, le-ltb}
use Rattle.std.proofs.lemmas.Fmt.{decimal_by_steps}
use Rattle.std.proofs.lemmas.List.Concat.{flat_map-cons}
use Rattle.machine_types.specs.declared.limits.TheConstants.{MAX_HARTS}
use Rattle.hart.specs.declared.retired.Retired.{Retired}
use Rattle.hart.specs.declared.status.Status.{Status}
use Rattle.hart.specs.declared.status.Status.TheVariants.{Running, Stopped, Exited}
use Rattle.text_fields.specs.Fields.{number, word, hex, hex_byte}
use Rattle.tl_types.specs.Line.{bytes_of, length_of}
use Rattle.tl_types.specs.Message.{channel_of}
use Rattle.tl_types.specs.declared.message.Channel.{Channel}
use Rattle.tl_types.specs.declared.message.Channel.TheVariants as channels
use Rattle.tl_types.specs.declared.line.LineData.{LineData}
use Rattle.tl_types.specs.declared.line.LineSize.{LineSize}
use Rattle.tl_types.specs.declared.line.LineSize.TheVariants.{Bytes16, Bytes64}
use Rattle.tl_types.specs.declared.message.Body.{Body}
use Rattle.tl_types.specs.declared.message.Body.TheVariants as bodies
use Rattle.tl_types.specs.declared.message.Msg.{Msg}
use Rattle.tl_types.specs.declared.permission.Cap.{Cap}
use Rattle.tl_types.specs.declared.permission.Cap.TheVariants.{ToT, ToB, ToN}
use Rattle.tl_types.specs.declared.permission.Change.{Change}
use Rattle.tl_types.specs.declared.permission.Change.TheVariants.{TtoB, TtoN, BtoN, TtoT, BtoB, NtoN}
use Rattle.tl_types.specs.declared.permission.Grow.{Grow}
use Rattle.tl_types.specs.declared.permission.Grow.TheVariants.{NtoB, NtoT, BtoT}
use Rattle.trace_recorder.specs.declared.operation.OpId.{OpId}
use Rattle.trace_recorder.specs.declared.logged.Direction.{Direction}
use Rattle.trace_recorder.specs.declared.logged.Direction.TheVariants.{Sent, Taken}
use Rattle.trace_recorder.specs.declared.logged.Logged.{Logged}
use Rattle.trace_text.specs.declared.head.TraceHead.{TraceHead}
use Rattle.trace_text.specs.Refusals.{has_line_feed}
use Rattle.trace_text.specs.TraceLimits.{IsRetired, IsOperation, IsLogged, IsStatus}
use Rattle.trace_text.specs.TraceLines.{image_lead}
use Rattle.trace_text.specs.TraceSections.{status_lead}
use Rattle.trace_text.specs.Traces.{retired_lead, retired_text, status_word}
use Rattle.trace_text.specs.Words as words
use Rattle.trace_text.proofs.FirstLines.{IsLine, plain_append, line_behind, line_ended}
use Rattle.trace_text.proofs.TraceLaws.{op, logged_fields}

-- ---- numbers and words

plain_digit : (n : ℕ) → has_line_feed ((48 + n) ∷ []) ≡ false
plain_digit n = rw (ne_eqb (48 + n) 10 (λ e. omega arith)) refl

plain_decimal : (n : ℕ) → n < 2 ^ 64 → has_line_feed (decimal n) ≡ false
plain_decimal = decimal_by_steps (λ n ds. has_line_feed ds ≡ false) (λ n lt. plain_digit n) (λ n ds big more. plain_append ds ((48 + n % 10) ∷ []) more (plain_digit (n % 10)))

pub plain_number : (n : ℕ) → n < 2 ^ 64 → has_line_feed (number 32 n) ≡ false
plain_number n small = plain_append (decimal n) (32 ∷ []) (plain_decimal n small) refl

pub number_line : (n : ℕ) → n < 2 ^ 64 → IsLine (number 10 n)
number_line n small = line_ended (decimal n) (plain_decimal n small)

plain_glyph : (n : ℕ) → eqb (digit_glyph false n) 10 ≡ false
plain_glyph n =
    elim (cases_lt n 10) [
      | inl small ↦ rw (lt-ltb n 10 small) (ne_eqb (48 + n) 10 (λ e. omega arith))
      | inr big ↦ rw (le-ltb n 10 big) (ne_eqb (87 + n) 10 (λ e. omega arith))
    ]

plain_byte : (b : ℕ) → has_line_feed (hex_byte b) ≡ false
plain_byte b = rw (plain_glyph (b / 16), plain_glyph (b % 16)) refl

plain_hex : (bytes : List ℕ) → has_line_feed (hex bytes) ≡ false
plain_hex [] = refl
plain_hex (b ∷ bytes) = ap has_line_feed (flat_map-cons hex_byte b bytes) ∙ plain_append (hex_byte b) (hex bytes) (plain_byte b) (plain_hex bytes)

pub plain_word : (n : ℕ) → has_line_feed (word n) ≡ false
plain_word n = plain_append (codes "0x") (hex (to_be_bytes w32 n)) refl (plain_hex (to_be_bytes w32 n))

pub word_field : (n : ℕ) → has_line_feed (word n ++ 32 ∷ []) ≡ false
word_field n = plain_append (word n) (32 ∷ []) (plain_word n) refl

-- ---- leads

plain_hart : (lead : List ℕ) (h : ℕ) → has_line_feed lead ≡ false → h < MAX_HARTS → has_line_feed (lead ++ number 32 h) ≡ false
plain_hart lead h plain lt = plain_append lead (number 32 h) plain (plain_number h (omega arith))

pub plain_retired_lead : (h : ℕ) → h < MAX_HARTS → has_line_feed (retired_lead h) ≡ false
plain_retired_lead h lt = plain_hart (codes "R ") h refl lt

pub plain_status_lead : (h : ℕ) → h < MAX_HARTS → has_line_feed (status_lead h) ≡ false
plain_status_lead h lt = plain_hart (codes "H ") h refl lt

pub plain_image_lead : (address : ℕ) → has_line_feed (image_lead address) ≡ false
plain_image_lead address = plain_append (codes "I ") (word address ++ 32 ∷ []) refl (word_field address)

-- ---- lines behind their leads

pub data_line : (bytes : List ℕ) → IsLine (hex bytes ++ 10 ∷ [])
data_line bytes = line_ended (hex bytes) (plain_hex bytes)

pub operation_line : (harts : ℕ) → harts ≤ MAX_HARTS → (o : OpId) → IsOperation harts o → IsLine (op o)
operation_line harts le o fits = line_behind (number 32 o.hart) (number 10 o.place) (plain_number o.hart (omega (arith, fits.0))) (number_line o.place (omega (arith, fits.1)))

plain_loaded : (x : Option ℕ) → has_line_feed (words.loaded x ++ 32 ∷ []) ≡ false
plain_loaded None = refl
plain_loaded (Some n) = word_field n

answer_line : (x : Option Bool) → IsLine (words.answer x ++ 10 ∷ [])
answer_line None = line_ended (codes "-") refl
answer_line (Some true) = line_ended (codes "ok") refl
answer_line (Some false) = line_ended (codes "fail") refl

pub retired_line : (r : Retired) → IsRetired r → IsLine (retired_text r)
retired_line r fits = line_behind (word r.pc ++ 32 ∷ []) _ (word_field r.pc) (line_behind (word r.word ++ 32 ∷ []) _ (word_field r.word) (line_behind (words.loaded r.loaded ++ 32 ∷ []) _ (plain_loaded r.loaded) (answer_line r.sc_ok)))

plain_direction : (d : Direction) → has_line_feed (words.direction d) ≡ false
plain_direction Sent = refl
plain_direction Taken = refl

plain_channel : (c : Channel) → has_line_feed (words.channel c) ≡ false
plain_channel channels.A = refl
plain_channel channels.B = refl
plain_channel channels.C = refl
plain_channel channels.D = refl
plain_channel channels.E = refl

plain_grow : (g : Grow) → has_line_feed (words.grow g) ≡ false
plain_grow NtoB = refl
plain_grow NtoT = refl
plain_grow BtoT = refl

plain_cap : (c : Cap) → has_line_feed (words.cap c) ≡ false
plain_cap ToT = refl
plain_cap ToB = refl
plain_cap ToN = refl

plain_change : (c : Change) → has_line_feed (words.change c) ≡ false
plain_change TtoB = refl
plain_change TtoN = refl
plain_change BtoN = refl
plain_change TtoT = refl
plain_change BtoB = refl
plain_change NtoN = refl

plain_payload : (d : LineData) → has_line_feed (words.payload d) ≡ false
plain_payload d = plain_hex (bytes_of d)

plain_name : (b : Body) → has_line_feed (words.name b) ≡ false
plain_name (bodies.AcquireBlock g) = refl
plain_name (bodies.ProbeBlock c) = refl
plain_name (bodies.ProbeAck c) = refl
plain_name (bodies.ProbeAckData c d) = refl
plain_name (bodies.Release c) = refl
plain_name (bodies.ReleaseData c d) = refl
plain_name (bodies.Grant c) = refl
plain_name (bodies.GrantData c d) = refl
plain_name bodies.ReleaseAck = refl
plain_name bodies.GrantAck = refl

plain_carried : (b : Body) → has_line_feed (words.carried b) ≡ false
plain_carried (bodies.AcquireBlock g) = plain_grow g
plain_carried (bodies.ProbeBlock c) = plain_cap c
plain_carried (bodies.ProbeAck c) = plain_change c
plain_carried (bodies.ProbeAckData c d) = plain_append (words.change c) (words.payload d) (plain_change c) (plain_payload d)
plain_carried (bodies.Release c) = plain_change c
plain_carried (bodies.ReleaseData c d) = plain_append (words.change c) (words.payload d) (plain_change c) (plain_payload d)
plain_carried (bodies.Grant c) = plain_cap c
plain_carried (bodies.GrantData c d) = plain_append (words.cap c) (words.payload d) (plain_cap c) (plain_payload d)
plain_carried bodies.ReleaseAck = refl
plain_carried bodies.GrantAck = refl

plain_message : (m : Msg) → has_line_feed (words.message m) ≡ false
plain_message m = plain_append (words.name m.body) (word m.line ++ words.carried m.body) (plain_name m.body) (plain_append (word m.line) (words.carried m.body) (plain_word m.line) (plain_carried m.body))

pub logged_line : (h : TraceHead) → h.harts ≤ MAX_HARTS → (l : Logged) → IsLogged h l → IsLine (logged_fields l)
logged_line h le l fits =
    line_behind (words.direction l.direction) _ (plain_direction l.direction)
    (line_behind (words.channel (channel_of l.message)) _ (plain_channel (channel_of l.message))
    (line_behind (number 32 l.hart) _ (plain_number l.hart (omega (arith, fits.hart))) (line_ended (words.message l.message) (plain_message l.message))))

pub status_word_line : (s : Status) → IsStatus s → IsLine (status_word s)
status_word_line Running fits = line_ended (codes "run") refl
status_word_line (Stopped c) fits = line_behind (codes "stop ") (number 10 c) refl (number_line c (omega (arith, fits)))
status_word_line (Exited c) fits = line_behind (codes "exit ") (number 10 c) refl (number_line c (omega (arith, fits)))

-- ---- the header's second line

pub first_numbers_line : (h : TraceHead) → h.harts < 2 ^ 64 → h.kib < 2 ^ 64 → IsLine (number 32 h.harts ++ (number 32 h.kib ++ (word h.entry ++ 10 ∷ [])))
first_numbers_line h harts kib = line_behind (number 32 h.harts) _ (plain_number h.harts harts) (line_behind (number 32 h.kib) _ (plain_number h.kib kib) (line_ended (word h.entry) (plain_word h.entry)))

pub second_numbers_line : (h : TraceHead) → h.harts < 2 ^ 64 → h.kib < 2 ^ 64 → IsLine (number 32 h.harts ++ (number 32 h.kib ++ ((word h.entry ++ 32 ∷ []) ++ number 10 (length_of h.line))))
second_numbers_line h harts kib =
    line_behind (number 32 h.harts) _ (plain_number h.harts harts)
    (line_behind (number 32 h.kib) _ (plain_number h.kib kib) (line_behind (word h.entry ++ 32 ∷ []) _ (word_field h.entry) (number_line (length_of h.line) (length_small h.line))))
  where
    length_small : (s : LineSize) → length_of s < 2 ^ 64
    length_small Bytes16 = omega arith
    length_small Bytes64 = omega arith
