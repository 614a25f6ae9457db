-- A stream's parts, one after another.
use Rattle.std.proofs.Common.{ℕ, ◌≡◌, ◌∙◌, sym, ap, List, [], ◌++◌, Option, Ok, Err, subst}
use Rattle.std.specs.Io.KnownBytes.{Appends}
use Rattle.coherent_machine.specs.Machine.{Refuses}
use Rattle.elf_loader.specs.Image.{Initial}
use Rattle.elf_symbols.specs.Named.{Named}
use Rattle.machine_types.specs.declared.config.Config.{Config}
use Rattle.machine_types.specs.declared.event.Event.{Event}
use Rattle.machine_model.specs.Events.{Verdict}
use Rattle.machine_model.specs.Events.Verdict.{Keeps}
use Rattle.machine_model.specs.Views.{State, opening}
use Rattle.text_fields.specs.Writing.{Begins}
use Rattle.text_fields.specs.Pages.{Paged}
use Rattle.text_fields.proofs.Written.{begins_first}
use Rattle.event_stream.proofs.Paging.{paged_fails, paged_then, paged_writes}
use Rattle.trace_text.specs.History.{History}
use Rattle.event_stream.specs.declared.errors.StreamError.{StreamError}
use Rattle.event_stream.specs.declared.errors.StreamError.TheVariants as errors
use Rattle.event_stream.specs.declared.strictness.Strictness.{Strictness}
use Rattle.event_stream.specs.Reports.{StreamEnding, ending}
use Rattle.event_stream.specs.Streams.{closing_lines, lines, opening_lines, stream_of, stream_up_to}
use Rattle.event_stream.specs.Telling.{IsTold}
use Rattle.event_stream.specs.Writing.{IsCut, IsStreamUnfinished, IsWholeStream}

-- the opening of a machine at reset
opens : (s : State) (t : History) (image : Initial) (config : Config) → t ≡ s.trace → s ≡ opening image config → opening_lines t ≡ opening_lines (opening image config).trace
opens s t image config et es = ap opening_lines (et ∙ ap (λ (x : State). x.trace) es)

pub opening_fails : (names : List Named) (m : Strictness) (image : Initial) (config : Config) (events : List Event) (s : State) (t : History) (page : List ℕ) (old new : Option (List ℕ))
    → page ≡ [] → t ≡ s.trace → s ≡ opening image config → Begins old new (page ++ opening_lines t) → Begins old new (stream_of names m image config events)
opening_fails names m image config events s t page old new none et es w =
    begins_first old new _ _ (begins_first old new _ _ (subst (Begins old new) (opens s t image config et es) (subst (λ (p : List ℕ). Begins old new (p ++ opening_lines t)) none w)))

-- the opening stands on a page that was empty
opened : (s : State) (t : History) (image : Initial) (config : Config) (page after : List ℕ) (old mid : Option (List ℕ))
    → page ≡ [] → t ≡ s.trace → s ≡ opening image config → Paged old mid page after (opening_lines t) → Paged old mid [] after (opening_lines (opening image config).trace)
opened s t image config page after old mid none et es w =
    subst (Paged old mid [] after) (opens s t image config et es) (subst (λ (p : List ℕ). Paged old mid p after (opening_lines t)) none w)

cut_behind : (names : List Named) (m : Strictness) (image : Initial) (config : Config) (events : List Event) (index : ℕ) (IsSuch : Verdict → Type 0) (old mid new : Option (List ℕ)) (page : List ℕ)
    → Paged old mid [] page (opening_lines (opening image config).trace) → IsCut m (opening image config) events index IsSuch (λ told. page ++ lines names m 0 (opening image config) told) mid new
    → IsCut m (opening image config) events index IsSuch (stream_up_to names m image config) old new
cut_behind names m image config events index IsSuch old mid new page w p = record {
  before = p.before;
  event = p.event;
  later = p.later;
  state = p.state;
  whole = p.whole;
  place = p.place;
  leads = p.leads;
  such = p.such;
  sent = paged_writes {T = Unit {0}} {E = Unit {0}} old mid new [] page _ _ (Ok tt) w p.sent;
}

unfinished_at : (names : List Named) (m : Strictness) (image : Initial) (config : Config) (events : List Event) (reached : State) (old mid new : Option (List ℕ)) (page after : List ℕ) (e : StreamError)
    → Paged old mid [] page (opening_lines (opening image config).trace) → IsTold names m (opening image config) events mid new page after (Err e) reached → IsStreamUnfinished names m image config events old new e
unfinished_at names m image config events reached old mid new page after errors.NoMemory w p = absurd p
unfinished_at names m image config events reached old mid new page after (errors.Refused index error) w p = cut_behind names m image config events index (Refuses error) old mid new page w p
unfinished_at names m image config events reached old mid new page after (errors.Idle index o) w p = (p.0, cut_behind names m image config events index (λ v. v ≡ Keeps o) old mid new page w p.1)
unfinished_at names m image config events reached old mid new page after (errors.Writing fault) w p = begins_first old new _ _ (paged_fails old mid new [] page _ _ w p)

pub telling_fails : (names : List Named) (m : Strictness) (image : Initial) (config : Config) (events : List Event) (s : State) (t : History) (reached : State) (old mid new : Option (List ℕ)) (empty page after : List ℕ) (e : StreamError)
    → empty ≡ [] → t ≡ s.trace → s ≡ opening image config → Paged old mid empty page (opening_lines t) → IsTold names m s events mid new page after (Err e) reached → IsStreamUnfinished names m image config events old new e
telling_fails names m image config events s t reached old mid new empty page after e none et es w p =
    unfinished_at names m image config events reached old mid new page after e (opened s t image config empty page old mid none et es w) (subst (λ (x : State). IsTold names m x events mid new page after (Err e) reached) es p)

-- what stands before the H lines
told_up_to : (names : List Named) (m : Strictness) (image : Initial) (config : Config) (events : List Event) (s : State) (t : History) (old mid told : Option (List ℕ)) (empty page after : List ℕ)
    → empty ≡ [] → t ≡ s.trace → s ≡ opening image config → Paged old mid empty page (opening_lines t) → Paged mid told page after (lines names m 0 s events) → Paged old told [] after (stream_up_to names m image config events)
told_up_to names m image config events s t old mid told empty page after none et es w p =
    paged_then old mid told [] page after _ _ (opened s t image config empty page old mid none et es w) (subst (λ (x : State). Paged mid told page after (lines names m 0 x events)) es p)

closes : (names : List Named) (m : Strictness) (image : Initial) (config : Config) (events : List Event) (s reached : State)
    → s ≡ opening image config → ending m 0 s events ≡ StreamEnding.Reached reached → closing_lines names (StreamEnding.Reached reached) ≡ closing_lines names (ending m 0 (opening image config) events)
closes names m image config events s reached es e = sym (ap (closing_lines names) (ap (λ (x : State). ending m 0 x events) (sym es) ∙ e))

pub closing_fails : (names : List Named) (m : Strictness) (image : Initial) (config : Config) (events : List Event) (s : State) (t : History) (reached : State) (old mid told new : Option (List ℕ)) (empty page after : List ℕ)
    → empty ≡ [] → t ≡ s.trace → s ≡ opening image config → Paged old mid empty page (opening_lines t) → (ending m 0 s events ≡ StreamEnding.Reached reached) × Paged mid told page after (lines names m 0 s events)
    → Begins told new (after ++ closing_lines names (StreamEnding.Reached reached)) → Begins old new (stream_of names m image config events)
closing_fails names m image config events s t reached old mid told new empty page after none et es w p h =
    paged_fails old told new [] after _ _ (told_up_to names m image config events s t old mid told empty page after none et es w p.1)
    (subst (λ (x : List ℕ). Begins told new (after ++ x)) (closes names m image config events s reached es p.0) h)

pub all_written : (names : List Named) (m : Strictness) (image : Initial) (config : Config) (events : List Event) (s : State) (t : History) (reached : State) (old mid told new : Option (List ℕ)) (empty page after : List ℕ)
    → empty ≡ [] → t ≡ s.trace → s ≡ opening image config → Paged old mid empty page (opening_lines t) → (ending m 0 s events ≡ StreamEnding.Reached reached) × Paged mid told page after (lines names m 0 s events)
    → Appends told new (after ++ closing_lines names (StreamEnding.Reached reached)) → IsWholeStream names m image config events old new reached
all_written names m image config events s t reached old mid told new empty page after none et es w p h = record {
  leads = ap (λ (x : State). ending m 0 x events) (sym es) ∙ p.0;
  sent = paged_writes {T = Unit {0}} {E = Unit {0}} old told new [] after _ _ (Ok tt) (told_up_to names m image config events s t old mid told empty page after none et es w p.1)
      (subst (λ (x : List ℕ). Appends told new (after ++ x)) (closes names m image config events s reached es p.0) h);
}
