-- Where a script leads, and that the trace there is read back.
use Rattle.std.proofs.Common.{◌≡◌, List, subst}
use Rattle.event_stream.specs.Machine.{IsReached, Replayed, replayed_from}
use Rattle.command_files.specs.Composition.{Leads}
use Rattle.command_files.specs.Sizes.{config_of}
use Rattle.elf_loader.specs.Image.{Initial}
use Rattle.machine_model.specs.Views.{State, opening}
use Rattle.machine_types.specs.declared.config.Config.{Config}
use Rattle.machine_types.specs.declared.event.Event.{Event}
use Rattle.machine_types.specs.declared.model.MemoryModel.{MemoryModel}
use Rattle.command_files.specs.MachineTraces.{EveryTraceHasAText}
use Rattle.trace_text.specs.TraceLimits.{IsTrace}
use Rattle.trace_text.specs.declared.script.Script.{Script}

pub readable : EveryTraceHasAText → (s : State) → IsReached s → IsTrace s.trace
readable law s r = subst (λ (s : State). IsTrace s.trace) r.leads (law s.trace.image s.views.config r.events r.loaded)

pub leads_there : (image : Initial) (script : Script) (model : MemoryModel) (config : Config) (events : List Event) (s : State)
    → config ≡ config_of script model → events ≡ script.events
    → replayed_from 0 (opening image config) events ≡ Replayed.Reached s → Leads image script model s
leads_there image script model config events s config_is events_are p =
    subst (λ (c : Config). replayed_from 0 (opening image c) script.events ≡ Replayed.Reached s) config_is
    (subst (λ (e : List Event). replayed_from 0 (opening image config) e ≡ Replayed.Reached s) events_are p)
