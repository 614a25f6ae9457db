-- What a trace is, and its one spelling.
use Rattle.std.specs.Prelude.{ℕ, zero, suc, ◌+◌, ◌/◌, Bool, false, List, [], ◌∷◌, ◌++◌, ◌||◌, ◌==◌, not, if◌then◌else◌, codes, length, take, drop}
use Rattle.std.specs.List.{flat_map}
use Rattle.text_fields.specs.Fields.{number, word, hex, numbered}
use Rattle.elf_loader.specs.Size.{base}
use Rattle.hart.specs.declared.retired.Retired.{Retired}
use Rattle.hart.specs.declared.status.Status.{Status}
use Rattle.hart.specs.declared.status.Status.TheVariants.{Running, Stopped, Exited}
use Rattle.tl_types.specs.Line.{length_of}
use Rattle.tl_types.specs.Message.{channel_of}
use Rattle.tl_types.specs.declared.line.LineSize.{LineSize}
use Rattle.trace_recorder.specs.declared.operation.OpId.{OpId}
use Rattle.trace_recorder.specs.declared.logged.Logged.{Logged}
use Rattle.trace_recorder.specs.History.{History}
use Rattle.trace_text.specs.declared.head.TraceHead.{TraceHead}
use Rattle.trace_text.specs.Scripts.{is_first_version}
use Rattle.trace_text.specs.Words as words

abbrev pub head_of : History → TraceHead
head_of t = record { harts = length t.statuses; kib = length t.image.bytes / 1024; entry = t.image.entry; line = t.line }

-- the first two lines
abbrev pub head : TraceHead → List ℕ
head h =
    if is_first_version h.harts h.line then codes "rvtl-trace 1\nT " ++ (number 32 h.harts ++ (number 32 h.kib ++ (word h.entry ++ 10 ∷ [])))
    else codes "rvtl-trace 2\nT " ++ (number 32 h.harts ++ (number 32 h.kib ++ ((word h.entry ++ 32 ∷ []) ++ number 10 (length_of h.line))))

abbrev pub any_set : List ℕ → Bool
any_set [] = false
any_set (b ∷ bs) = not (b == 0) || any_set bs

-- a line of memory: nothing, where it is all zero
abbrev pub image_line : ℕ → List ℕ → List ℕ
image_line address bytes = if any_set bytes then codes "I " ++ (word address ++ (32 ∷ (hex bytes ++ 10 ∷ []))) else []

-- so many lines of memory of this width, rising, the first at this address
unfoldable pub image_lines : ℕ → ℕ → ℕ → List ℕ → List ℕ
image_lines width zero address bytes = []
image_lines width (suc n) address bytes = image_line address (take width bytes) ++ image_lines width n (address + width) (drop width bytes)

abbrev pub image : LineSize → List ℕ → List ℕ
image size bytes = image_lines (length_of size) (length bytes / length_of size) base bytes

-- how the line of a hart's retired instruction begins
abbrev pub retired_lead : ℕ → List ℕ
retired_lead h = codes "R " ++ number 32 h

-- what it did, and the byte that ends it
abbrev pub retired_ended : ℕ → Retired → List ℕ
retired_ended end r = (word r.pc ++ 32 ∷ []) ++ ((word r.word ++ 32 ∷ []) ++ ((words.loaded r.loaded ++ 32 ∷ []) ++ (words.answer r.sc_ok ++ end ∷ [])))

abbrev pub retired_text : Retired → List ℕ
retired_text r = retired_ended 10 r

abbrev pub entries : ℕ → List Retired → List ℕ
entries h rs = flat_map (λ r. retired_lead h ++ retired_text r) rs

-- a performed operation
abbrev pub operation : OpId → List ℕ
operation o = codes "P " ++ (number 32 o.hart ++ number 10 o.place)

-- a message that was sent or taken, on its own channel
abbrev pub logged : Logged → List ℕ
logged l = codes "M " ++ (words.direction l.direction ++ (words.channel (channel_of l.message) ++ (number 32 l.hart ++ (words.message l.message ++ 10 ∷ []))))

-- how a hart ended, and the byte behind it
abbrev pub status_word_ended : ℕ → Status → List ℕ
status_word_ended end Running = codes "run" ++ end ∷ []
status_word_ended end (Stopped c) = codes "stop " ++ number end c
status_word_ended end (Exited c) = codes "exit " ++ number end c

abbrev pub status_word : Status → List ℕ
status_word s = status_word_ended 10 s

-- a hart's status, and the byte behind it
abbrev pub status_ended : ℕ → ℕ → Status → List ℕ
status_ended end h s = (codes "H " ++ number 32 h) ++ status_word_ended end s

abbrev pub status : ℕ → Status → List ℕ
status h s = status_ended 10 h s

-- the header, memory at reset, the retired instructions by hart, the performed order, the log, and each hart's status
abbrev pub text : History → List ℕ
text t =
    head (head_of t) ++ (image t.line t.image.bytes ++ (numbered entries 0 t.entries
    ++ (flat_map operation t.performed ++ (flat_map logged t.log ++ numbered status 0 t.statuses))))
