-- What a script is, and its one spelling.
use Rattle.std.specs.Prelude.{◌≡◌, ℕ, ◌<◌, ◌≤◌, ◌^◌, Bool, true, false, List, [], ◌∷◌, ◌++◌, ◌&&◌, nat_le, if◌then◌else◌, codes}
use Rattle.std.specs.List.{flat_map, AllByRecursion}
use Rattle.text_fields.specs.Fields.{number, word}
use Rattle.elf_loader.specs.Size.{is_memory_kib}
use Rattle.machine_types.specs.Config.{is_within_limits}
use Rattle.machine_types.specs.declared.event.Event.{Event}
use Rattle.machine_types.specs.declared.event.Event.TheVariants.{Step, Drain, Evict, Deliver, Local}
use Rattle.tl_types.specs.Line.{length_of}
use Rattle.tl_types.specs.declared.line.LineSize.{LineSize}
use Rattle.tl_types.specs.declared.line.LineSize.TheVariants.{Bytes16, Bytes64}
use Rattle.trace_text.specs.declared.script.Head.{Head}
use Rattle.trace_text.specs.declared.script.Script.{Script}
use Rattle.trace_text.specs.Words.{channel}

-- an event, and the byte that ends it
abbrev pub event_ended : ℕ → Event → List ℕ
event_ended end (Step h) = codes "step " ++ number end h
event_ended end (Drain h w) = codes "drain " ++ (number 32 h ++ (word w ++ end ∷ []))
event_ended end (Evict h l) = codes "evict " ++ (number 32 h ++ (word l ++ end ∷ []))
event_ended end (Deliver c h) = codes "deliver " ++ (channel c ++ number end h)
event_ended end (Local h n) = codes "local " ++ (number 32 h ++ number end n)

-- an event's line
abbrev pub event : Event → List ℕ
event e = event_ended 10 e

-- The numbers that an event may have in a script. Whether a machine has that hart or line is not for the text to say.
abbrev pub IsEvent : Event → Type 0
IsEvent (Step h) = h ≤ 255
IsEvent (Drain h w) = (h ≤ 255) × (w < 2 ^ 32)
IsEvent (Evict h l) = (h ≤ 255) × (l < 2 ^ 32)
IsEvent (Deliver c h) = h ≤ 255
IsEvent (Local h n) = (h ≤ 255) × (n ≤ 4294967295)

-- Version 1 is exactly lines of 16 bytes with at most 4 harts.
abbrev pub is_first_version : ℕ → LineSize → Bool
is_first_version harts Bytes16 = nat_le harts 4
is_first_version harts Bytes64 = false

-- the first line
abbrev pub head : Head → List ℕ
head h =
    if is_first_version h.harts h.line then codes "rvtl-script 1 " ++ (number 32 h.harts ++ (number 32 h.kib ++ (number 32 h.sets ++ number 10 h.ways)))
    else codes "rvtl-script 2 " ++ (number 32 h.harts ++ (number 32 h.kib ++ (number 32 h.sets ++ (number 32 h.ways ++ number 10 (length_of h.line)))))

-- the limits of a machine and of its memory
abbrev pub is_head : Head → Bool
is_head h = is_within_limits h.harts h.sets h.ways && is_memory_kib h.kib

abbrev pub head_of : Script → Head
head_of s = record { harts = s.harts; kib = s.kib; sets = s.sets; ways = s.ways; line = s.line }

-- the first line, and a line for each event
abbrev pub text : Script → List ℕ
text s = head (head_of s) ++ flat_map event s.events

-- a script within the limits of its text
pub record IsScript (s : Script) : Type 0 where
  pub head : is_head (head_of s) ≡ true
  pub events : AllByRecursion IsEvent s.events
