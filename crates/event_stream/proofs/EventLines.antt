-- How the lines of a report are spelled from left to right.
use Rattle.std.proofs.Common.{◌≡◌, ℕ, List, [], ◌∷◌, ◌++◌, Option, Some, None, true, false, refl, sym, ap, ◌∙◌, append_assoc}
use Rattle.std.proofs.lemmas.Option.{none-some, same_Some}
use Rattle.std.specs.Prelude.{codes, decimal, is_some, option_map}
use Rattle.elf_symbols.specs.Named.{Named}
use Rattle.hart.specs.declared.retired.Retired.{Retired}
use Rattle.machine_types.specs.declared.event.Event.{Event}
use Rattle.machine_types.specs.declared.event.Event.TheVariants.{Step, Drain, Evict, Deliver, Local}
use Rattle.rv32_decode.specs.Rows.{decoded}
use Rattle.rv32_decode.specs.declared.instruction.Instr.{Instr}
use Rattle.rv32_exec.specs.declared.actions.Action.{Action}
use Rattle.text_fields.specs.Fields.{number, word}
use Rattle.trace_text.specs.Scripts.{event, event_ended}
use Rattle.trace_text.specs.Traces.{retired_text, retired_ended, retired_lead}
use Rattle.trace_text.specs.Words as words
use Rattle.event_stream.specs.Accesses.{accessed}
use Rattle.event_stream.specs.Comments.{comment, commented, start, start_by}
use Rattle.event_stream.specs.Lines.{behind, retired_line, unended}
use Rattle.event_stream.specs.Naming.{instruction}
use Rattle.event_stream.proofs.Unended.{unended_is}

abbrev words_of : Event → List ℕ
words_of (Step h) = codes "step " ++ decimal h
words_of (Drain h w) = codes "drain " ++ (number 32 h ++ word w)
words_of (Evict h l) = codes "evict " ++ (number 32 h ++ word l)
words_of (Deliver c h) = codes "deliver " ++ (words.channel c ++ decimal h)
words_of (Local h n) = codes "local " ++ (number 32 h ++ decimal n)

two : (a b : List ℕ) (e : ℕ) → a ++ (b ++ e ∷ []) ≡ (a ++ b) ++ e ∷ []
two a b e = sym (append_assoc a b (e ∷ []))

three : (a b c : List ℕ) (e : ℕ) → a ++ (b ++ (c ++ e ∷ [])) ≡ (a ++ (b ++ c)) ++ e ∷ []
three a b c e = simp append_assoc

split : (e : Event) (end : ℕ) → event_ended end e ≡ words_of e ++ end ∷ []
split (Step h) end = two (codes "step ") (decimal h) end
split (Drain h w) end = three (codes "drain ") (number 32 h) (word w) end
split (Evict h l) end = three (codes "evict ") (number 32 h) (word l) end
split (Deliver c h) end = three (codes "deliver ") (words.channel c) (decimal h) end
split (Local h n) end = three (codes "local ") (number 32 h) (decimal n) end

-- an event with another byte at its end
pub event_as : (e : Event) (end : ℕ) → event_ended end e ≡ unended (event e) ++ end ∷ []
event_as e end = split e end ∙ ap (λ (t : List ℕ). t ++ end ∷ []) (unended_is (event e) (words_of e) (split e 10))

abbrev done_of : Retired → List ℕ
done_of r = (word r.pc ++ 32 ∷ []) ++ ((word r.word ++ 32 ∷ []) ++ ((words.loaded r.loaded ++ 32 ∷ []) ++ words.answer r.sc_ok))

five : (l a b c d : List ℕ) (e : ℕ) → l ++ (a ++ (b ++ (c ++ (d ++ e ∷ [])))) ≡ (l ++ (a ++ (b ++ (c ++ d)))) ++ e ∷ []
five l a b c d e = simp append_assoc

done_split : (h : ℕ) (r : Retired) (end : ℕ) → retired_lead h ++ retired_ended end r ≡ (retired_lead h ++ done_of r) ++ end ∷ []
done_split h r end = five (retired_lead h) (word r.pc ++ 32 ∷ []) (word r.word ++ 32 ∷ []) (words.loaded r.loaded ++ 32 ∷ []) (words.answer r.sc_ok) end

-- an R line with another byte at its end
pub retired_as : (h : ℕ) (r : Retired) (end : ℕ) → retired_lead h ++ retired_ended end r ≡ unended (retired_lead h ++ retired_text r) ++ end ∷ []
retired_as h r end = done_split h r end ∙ ap (λ (t : List ℕ). t ++ end ∷ []) (unended_is (retired_lead h ++ retired_text r) (retired_lead h ++ done_of r) (done_split h r 10))

-- ---- the start of an R line

-- that of a text that was kept
pub kept_start : (p text : List ℕ) (names : List Named) (h : ℕ) (r : Retired) → commented names r.pc r.word ≡ Some text → (p ++ (retired_lead h ++ retired_ended 32 r)) ++ text ≡ p ++ start names h r
kept_start p text names h r e = go (decoded r.word) e
  where
    go : (o : Option Instr) → option_map (comment names r.pc) o ≡ Some text → (p ++ (retired_lead h ++ retired_ended 32 r)) ++ text ≡ p ++ start_by names h r o
    go None none = absurd (none-some text none)
    go (Some i) same = append_assoc p (retired_lead h ++ retired_ended 32 r) text ∙ ap (λ (t : List ℕ). p ++ ((retired_lead h ++ retired_ended 32 r) ++ t)) (sym (same_Some _ _ same))

-- it is an instruction's
pub kept_is : (names : List Named) (pc w : ℕ) (text : List ℕ) → commented names pc w ≡ Some text → is_some (decoded w) ≡ true
kept_is names pc w text e = go (decoded w) e
  where
    go : (o : Option Instr) → option_map (comment names pc) o ≡ Some text → is_some o ≡ true
    go None none = absurd (none-some text none)
    go (Some i) same = refl

regrouped : (x a b : List ℕ) (e f g : ℕ) → ((x ++ e ∷ []) ++ ((f ∷ g ∷ []) ++ a)) ++ (b ++ 10 ∷ []) ≡ x ++ (((e ∷ f ∷ g ∷ []) ++ (a ++ b)) ++ 10 ∷ [])
regrouped x a b e f g = simp append_assoc

-- an R line is its start and its end
pub line_ended : (names : List Named) (h : ℕ) (action : Option Action) (r : Retired) → is_some (decoded r.word) ≡ true → retired_line names h action r ≡ start names h r ++ (accessed names action r ++ 10 ∷ [])
line_ended names h action r = go (decoded r.word)
  where
    go : (o : Option Instr) → is_some o ≡ true → unended (retired_lead h ++ retired_text r) ++ (behind names action r o ++ 10 ∷ []) ≡ start_by names h r o ++ (accessed names action r ++ 10 ∷ [])
    go None none = absurd (cc none)
    go (Some i) some =
        sym (ap (λ (t : List ℕ). (t ++ comment names r.pc i) ++ (accessed names action r ++ 10 ∷ [])) (retired_as h r 32)
        ∙ regrouped (unended (retired_lead h ++ retired_text r)) (instruction names r.pc i) (accessed names action r) 32 59 32)

-- of a word that is no instruction its start alone
pub line_whole : (names : List Named) (h : ℕ) (action : Option Action) (r : Retired) → is_some (decoded r.word) ≡ false → start names h r ≡ retired_line names h action r
line_whole names h action r = go (decoded r.word)
  where
    go : (o : Option Instr) → is_some o ≡ false → start_by names h r o ≡ unended (retired_lead h ++ retired_text r) ++ (behind names action r o ++ 10 ∷ [])
    go None none = retired_as h r 10
    go (Some i) some = absurd (cc some)

events_parts : (p l w o : List ℕ) → (((p ++ codes "E ") ++ (l ++ 32 ∷ [])) ++ (w ++ 32 ∷ [])) ++ o ≡ p ++ (codes "E " ++ (l ++ (32 ∷ (w ++ (32 ∷ o)))))
events_parts p l w o = simp append_assoc

pub event_spelled : (p l o : List ℕ) (e : Event) → (((p ++ codes "E ") ++ (l ++ 32 ∷ [])) ++ event_ended 32 e) ++ o ≡ p ++ (codes "E " ++ (l ++ (32 ∷ (unended (event e) ++ (32 ∷ o)))))
event_spelled p l o e = ap (λ (t : List ℕ). (((p ++ codes "E ") ++ (l ++ 32 ∷ [])) ++ t) ++ o) (event_as e 32) ∙ events_parts p l (unended (event e)) o
