-- How an H line is spelled from left to right, and what a reached machine's numbers are.
use Rattle.std.proofs.Common.{◌≡◌, ℕ, ◌<◌, ◌≤◌, List, [], ◌∷◌, ◌++◌, length, sym, ap, subst, ◌∙◌, append_assoc}
use Rattle.std.specs.Prelude.{codes, decimal}
use Rattle.machine_types.specs.declared.limits.TheConstants.{MAX_HARTS}
use Rattle.coherent_machine.specs.Machine.{IsReached}
use Rattle.coherent_machine.proofs.Reached.{law_of}
use Rattle.elf_symbols.specs.Named.{Named}
use Rattle.hart.specs.declared.status.Status.{Status}
use Rattle.hart.specs.declared.status.Status.TheVariants.{Running, Stopped, Exited}
use Rattle.machine_types.proofs.Within.{config_limits}
use Rattle.machine_model.specs.Ready.{IsSound, SoundAlways}
use Rattle.machine_model.specs.Views.{State}
use Rattle.text_fields.specs.Fields.{number}
use Rattle.trace_text.specs.Traces.{status, status_ended}
use Rattle.event_stream.specs.Closing.{closing_line, foreseen, next_text, reason}
use Rattle.event_stream.specs.Lines.{unended}
use Rattle.event_stream.proofs.Unended.{unended_is}

-- ---- the beginning of an H line

abbrev words_of : Status → List ℕ
words_of Running = codes "run"
words_of (Stopped code) = codes "stop " ++ decimal code
words_of (Exited code) = codes "exit " ++ decimal code

three : (p a b : List ℕ) (e : ℕ) → p ++ (a ++ (b ++ e ∷ [])) ≡ (p ++ (a ++ b)) ++ e ∷ []
three p a b e = simp append_assoc

split : (h : ℕ) (st : Status) (end : ℕ) → status_ended end h st ≡ ((codes "H " ++ number 32 h) ++ words_of st) ++ end ∷ []
split h Running end = sym (append_assoc (codes "H " ++ number 32 h) (codes "run") (end ∷ []))
split h (Stopped code) end = three (codes "H " ++ number 32 h) (codes "stop ") (decimal code) end
split h (Exited code) end = three (codes "H " ++ number 32 h) (codes "exit ") (decimal code) end

-- an H line with another byte at its end
pub status_as : (h : ℕ) (st : Status) (end : ℕ) → status_ended end h st ≡ unended (status h st) ++ end ∷ []
status_as h st end = split h st end ∙ ap (λ (t : List ℕ). t ++ end ∷ []) (unended_is (status h st) ((codes "H " ++ number 32 h) ++ words_of st) (split h st 10))

regrouped : (x f n : List ℕ) (e a b z : ℕ) → x ++ (((e ∷ a ∷ b ∷ []) ++ (f ++ n)) ++ z ∷ []) ≡ (x ++ e ∷ []) ++ ((a ∷ b ∷ []) ++ (f ++ (n ++ z ∷ [])))
regrouped x f n e a b z = simp append_assoc

line_as : (h : ℕ) (st : Status) (f n : List ℕ) → unended (status h st) ++ ((codes " ; " ++ (f ++ n)) ++ 10 ∷ []) ≡ status_ended 32 h st ++ (codes "; " ++ (f ++ (n ++ 10 ∷ [])))
line_as h st f n = regrouped (unended (status h st)) f n 32 59 32 10 ∙ ap (λ (t : List ℕ). t ++ (codes "; " ++ (f ++ (n ++ 10 ∷ [])))) (sym (status_as h st 32))

pub running_line : (names : List Named) (s : State) (h : ℕ) → closing_line names s h Running ≡ status_ended 32 h Running ++ (codes "; " ++ (foreseen s h ++ (next_text names s h ++ 10 ∷ [])))
running_line names s h = line_as h Running (foreseen s h) (next_text names s h)

pub stopped_line : (names : List Named) (s : State) (h code : ℕ) → closing_line names s h (Stopped code) ≡ status_ended 32 h (Stopped code) ++ (codes "; " ++ (reason code ++ (next_text names s h ++ 10 ∷ [])))
stopped_line names s h code = line_as h (Stopped code) (reason code) (next_text names s h)

pub exited_line : (names : List Named) (s : State) (h code : ℕ) → closing_line names s h (Exited code) ≡ status_ended 10 h (Exited code)
exited_line names s h code = sym (status_as h (Exited code) 10)

-- ---- numbers

-- as many statuses as nodes, no more than a machine has harts, and some sets
pub record Sized (s : State) : Type 0 where
  pub statuses : length s.trace.statuses ≡ length s.views.nodes
  pub few : length s.trace.statuses ≤ MAX_HARTS
  pub sets : 0 < s.views.config.sets

pub sized : SoundAlways → (s : State) → IsReached s → Sized s
sized law s r =
    let sound : IsSound s = law_of (λ image config t. IsSound t) law s r in
    record {
      statuses = sound.statuses ∙ sym sound.nodes;
      few = subst (λ (n : ℕ). n ≤ MAX_HARTS) (sym sound.statuses) (config_limits s.views.config).few_harts;
      sets = (config_limits s.views.config).some_sets;
    }
