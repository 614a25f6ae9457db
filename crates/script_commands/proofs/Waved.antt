-- What of waves went out before a last flush, and how their end is told.
use Rattle.std.proofs.Common.{◌≡◌, ◌⊎◌, ℕ, List, Option, inl, inr, refl, subst, sym}
use Rattle.std.specs.Io.KnownBytes.{Keeps}
use Rattle.command_files.specs.Contents.{Contents}
use Rattle.command_files.specs.Faults.{IsReplayFault, LeavesAtFault}
use Rattle.command_files.specs.Files.{HoldsImage, HoldsScript}
use Rattle.command_files.specs.Sizes.{config_of}
use Rattle.command_files.specs.declared.fault.Fault.{Fault}
use Rattle.command_files.specs.declared.fault.Fault.TheVariants.{CannotWrite, OutOfMemory}
use Rattle.command_files.proofs.Left.{spoiled}
use Rattle.command_files.proofs.Written.{all_begun, kept_on}
use Rattle.command_settings.specs.declared.wanted.Replay.{Replay}
use Rattle.elf_loader.specs.Image.{Initial}
use Rattle.event_stream.specs.Machine.{IsFirstRefusal}
use Rattle.event_stream.specs.Views.{opening}
use Rattle.machine_types.specs.declared.config.Config.{Config}
use Rattle.machine_types.specs.declared.event.Event.{Event as AnEvent}
use Rattle.run_waves.specs.Waves.{AreBegun, AreUnfinished, AreWritten}
use Rattle.run_waves.specs.declared.errors.WavesError.{WavesError}
use Rattle.run_waves.specs.declared.errors.WavesError.TheVariants as waves
use Rattle.script_commands.specs.Waving.{AreWavesCutOff, IsWavesFault}
use Rattle.trace_text.specs.declared.script.Script.{Script}

module _ (image : Initial) (config : Config) (events : List AnEvent) (old mid new : Option (List ℕ)) where
  pub written_on : Keeps mid new → AreWritten image config events old mid → AreWritten image config events old new
  written_on kept h = record { text = h.text; waves = h.waves; sent = kept_on old mid new h.text h.sent kept }

  pub written_begun : Keeps mid new → AreWritten image config events old mid → AreBegun image config events old new
  written_begun kept h = record { text = h.text; waves = h.waves; begun = all_begun old mid new h.text h.sent kept }

-- of the configuration and events that the script names
pub at_script : (P : Config → List AnEvent → Type 0) (config wanted : Config) (events given : List AnEvent) → config ≡ wanted → events ≡ given → P config events → P wanted given
at_script P config wanted events given same_config same_events h = subst (λ (c : Config). P c given) same_config (subst (λ (e : List AnEvent). P config e) same_events h)

module _ (held : Contents) (replay : Replay) (script : Script) (image : Initial) (old new : Option (List ℕ)) (script_file : HoldsScript held replay.script.now script) (image_file : HoldsImage held replay.raw replay.image.now script.kib image) where
  pub waves_stopped : AreBegun image (config_of script replay.model) script.events old new → AreWavesCutOff held replay old new
  waves_stopped begun = record { script = script; image = image; script_file = script_file; image_file = image_file; begun = begun }

  -- what the fault leaves on the output
  pub waves_left : (error : WavesError) (fault : Fault) → AreUnfinished image (config_of script replay.model) script.events old new error → IsWavesFault replay.script error fault
      → LeavesAtFault fault old new (AreWavesCutOff held replay old new)
  waves_left (waves.Replay refusal) fault h told = elim told.0 [
    | inl at ↦ subst (λ f. LeavesAtFault f old new (AreWavesCutOff held replay old new)) (sym at) (inl h.0)
    | inr event ↦ subst (λ f. LeavesAtFault f old new (AreWavesCutOff held replay old new)) (sym event.3) h.0
  ]
  waves_left waves.NoMemory fault h told = subst (λ f. LeavesAtFault f old new (AreWavesCutOff held replay old new)) (sym told) (inr (waves_stopped h))
  waves_left (waves.Writing error) fault h told = spoiled old new _ fault told.0 (waves_stopped h)

  -- what the fault is told as
  pub waves_told : (error : WavesError) (fault : Fault) → AreUnfinished image (config_of script replay.model) script.events old new error → IsWavesFault replay.script error fault → IsReplayFault held replay fault
  waves_told (waves.Replay refusal) fault h told = elim told.0 [
    | inl at ↦ subst (IsReplayFault held replay) (sym at) tt
    | inr event ↦ subst (IsReplayFault held replay) (sym event.3) (
      refl,
      record {
        script = script;
        image = image;
        script_file = script_file;
        image_file = image_file;
        index = event.0;
        place = refl;
        refused = subst (IsFirstRefusal (opening image (config_of script replay.model)) script.events) event.2 h.1;
      },
    )
  ]
  waves_told waves.NoMemory fault h told = subst (IsReplayFault held replay) (sym told) tt
  waves_told (waves.Writing error) fault h told = elim told.0 [
    | inl at ↦ subst (IsReplayFault held replay) (sym at) tt
    | inr at ↦ subst (IsReplayFault held replay) (sym at) tt
  ]

pub waves_lost : (held : Contents) (replay : Replay) (fault : Fault) → (fault ≡ CannotWrite) ⊎ (fault ≡ OutOfMemory) → IsReplayFault held replay fault
waves_lost held replay fault told = elim told [
  | inl at ↦ subst (IsReplayFault held replay) (sym at) tt
  | inr at ↦ subst (IsReplayFault held replay) (sym at) tt
]
