-- What of a picture went out before a last flush, and how its end is told.
use Rattle.std.proofs.Common.{◌≡◌, ◌⊎◌, ℕ, List, Option, inl, inr, refl, subst, sym}
use Rattle.std.specs.Io.KnownBytes.{Keeps}
use Rattle.event_stream.specs.Machine.{IsFirstRefusal}
use Rattle.event_stream.specs.TheVariants as refusals
use Rattle.run_chart.specs.declared.sheet.TheConstants.{STYLE}
use Rattle.script_commands.specs.Charting.{IsAddress, IsChartFault, IsDrawingFault, IsPictureCutOff}
use Rattle.command_files.specs.Faults.{LeavesAtFault, Name}
use Rattle.command_files.specs.Files.{HoldsImage, HoldsScript}
use Rattle.command_files.specs.Contents.{Contents}
use Rattle.command_files.specs.Named.{HoldsNamedImage}
use Rattle.command_files.specs.Sizes.{config_of}
use Rattle.command_files.specs.declared.fault.Fault.{Fault}
use Rattle.command_files.specs.declared.fault.Fault.TheVariants.{CannotWrite, OutOfMemory}
use Rattle.command_files.proofs.Left.{spoiled}
use Rattle.command_files.proofs.Written.{all_begun, kept_on}
use Rattle.command_settings.specs.declared.wanted.Replay.{Replay}
use Rattle.elf_loader.specs.Image.{Initial}
use Rattle.elf_symbols.specs.Named.{Named}
use Rattle.event_stream.specs.Views.{opening}
use Rattle.machine_types.specs.declared.config.Config.{Config}
use Rattle.machine_types.specs.declared.event.Event.{Event as AnEvent}
use Rattle.run_chart.specs.Charts.{IsBegun, IsDrawn, IsUndrawn}
use Rattle.run_chart.specs.declared.errors.ChartError.{ChartError}
use Rattle.run_chart.specs.declared.errors.ChartError.TheVariants as chart
use Rattle.trace_text.specs.declared.script.Script.{Script}

module _ (names : List Named) (image : Initial) (config : Config) (events : List AnEvent) (address : Option ℕ) (style : List ℕ) (old mid new : Option (List ℕ)) where
  pub drawn_on : Keeps mid new → IsDrawn names image config events address style old mid → IsDrawn names image config events address style old new
  drawn_on kept h = record { text = h.text; chart = h.chart; sent = kept_on old mid new h.text h.sent kept }

  pub drawn_begun : Keeps mid new → IsDrawn names image config events address style old mid → IsBegun names image config events address style old new
  drawn_begun kept h = record { text = h.text; chart = h.chart; begun = all_begun old mid new h.text h.sent kept }

-- of the configuration and events that the script names
pub drawn_at : (names : List Named) (image : Initial) (config wanted : Config) (events given : List AnEvent) (address : Option ℕ) (style : List ℕ) (old new : Option (List ℕ)) → config ≡ wanted → events ≡ given
    → IsDrawn names image config events address style old new → IsDrawn names image wanted given address style old new
drawn_at names image config wanted events given address style old new same_config same_events h =
    subst (λ (c : Config). IsDrawn names image c given address style old new) same_config (subst (λ (e : List AnEvent). IsDrawn names image config e address style old new) same_events h)

pub begun_at : (names : List Named) (image : Initial) (config wanted : Config) (events given : List AnEvent) (address : Option ℕ) (style : List ℕ) (old new : Option (List ℕ)) → config ≡ wanted → events ≡ given
    → IsBegun names image config events address style old new → IsBegun names image wanted given address style old new
begun_at names image config wanted events given address style old new same_config same_events h =
    subst (λ (c : Config). IsBegun names image c given address style old new) same_config (subst (λ (e : List AnEvent). IsBegun names image config e address style old new) same_events h)

pub undrawn_at : (names : List Named) (image : Initial) (config wanted : Config) (events given : List AnEvent) (address : Option ℕ) (style : List ℕ) (old new : Option (List ℕ)) (error : ChartError) → config ≡ wanted → events ≡ given
    → IsUndrawn names image config events address style old new error → IsUndrawn names image wanted given address style old new error
undrawn_at names image config wanted events given address style old new error same_config same_events h =
    subst (λ (c : Config). IsUndrawn names image c given address style old new error) same_config (subst (λ (e : List AnEvent). IsUndrawn names image config e address style old new error) same_events h)

-- a script, an image and an address whose picture broke off
pub stopped : (held : Contents) (replay : Replay) (line : Option Name) (script : Script) (image : Initial) (names : List Named) (address : Option ℕ) (old new : Option (List ℕ))
    → HoldsScript held replay.script.now script → HoldsNamedImage held replay.raw replay.image.now script.kib image names → IsAddress line address
    → IsBegun names image (config_of script replay.model) script.events address STYLE.now old new → IsPictureCutOff held replay line old new
stopped held replay line script image names address old new script_file image_file named begun =
    record { script = script; image = image; names = names; address = address; script_file = script_file; image_file = image_file; named = named; begun = begun }

-- what the drawing's fault leaves on the output
pub left_by : (held : Contents) (replay : Replay) (line : Option Name) (script : Script) (image : Initial) (names : List Named) (address : Option ℕ) (old new : Option (List ℕ)) (error : ChartError) (fault : Fault)
    → HoldsScript held replay.script.now script → HoldsNamedImage held replay.raw replay.image.now script.kib image names → IsAddress line address
    → IsUndrawn names image (config_of script replay.model) script.events address STYLE.now old new error
    → IsDrawingFault replay.script error fault → LeavesAtFault fault old new (IsPictureCutOff held replay line old new)
left_by held replay line script image names address old new (chart.Replay refusal) fault script_file image_file named h told = elim told.0 [
  | inl at ↦ subst (λ f. LeavesAtFault f old new (IsPictureCutOff held replay line old new)) (sym at) (inl h.0)
  | inr event ↦ subst (λ f. LeavesAtFault f old new (IsPictureCutOff held replay line old new)) (sym event.3) h.0
]
left_by held replay line script image names address old new chart.TooManyRows fault script_file image_file named h told =
    subst (λ f. LeavesAtFault f old new (IsPictureCutOff held replay line old new)) (sym told) h.0
left_by held replay line script image names address old new chart.NoMemory fault script_file image_file named h told =
    subst (λ f. LeavesAtFault f old new (IsPictureCutOff held replay line old new)) (sym told) (inl h)
left_by held replay line script image names address old new (chart.Writing error) fault script_file image_file named h told =
    spoiled old new _ fault told.0 (stopped held replay line script image names address old new script_file image_file named h)

-- what the drawing's fault is told as
pub told_as : (held : Contents) (replay : Replay) (line : Option Name) (script : Script) (image : Initial) (names : List Named) (address : Option ℕ) (style : List ℕ) (old new : Option (List ℕ)) (error : ChartError) (fault : Fault)
    → HoldsScript held replay.script.now script → HoldsImage held replay.raw replay.image.now script.kib image → IsAddress line address
    → IsUndrawn names image (config_of script replay.model) script.events address style old new error
    → IsDrawingFault replay.script error fault → IsChartFault held replay line fault
told_as held replay line script image names address style old new (chart.Replay refusal) fault script_file image_file named h told = elim told.0 [
  | inl at ↦ subst (IsChartFault held replay line) (sym at) tt
  | inr event ↦ subst (IsChartFault held replay line) (sym event.3) (
    refl,
    record {
      script = script;
      image = image;
      script_file = script_file;
      image_file = image_file;
      index = event.0;
      place = refl;
      refused = subst (IsFirstRefusal (opening image (config_of script replay.model)) script.events) event.2 h.1;
    },
  )
]
told_as held replay line script image names address style old new chart.TooManyRows fault script_file image_file named h told =
    subst (IsChartFault held replay line) (sym told)
    (refl, record { script = script; image = image; address = address; script_file = script_file; image_file = image_file; named = named; large = h.1 })
told_as held replay line script image names address style old new chart.NoMemory fault script_file image_file named h told = subst (IsChartFault held replay line) (sym told) tt
told_as held replay line script image names address style old new (chart.Writing error) fault script_file image_file named h told = elim told.0 [
  | inl at ↦ subst (IsChartFault held replay line) (sym at) tt
  | inr at ↦ subst (IsChartFault held replay line) (sym at) tt
]

pub lost_told : (held : Contents) (replay : Replay) (line : Option Name) (fault : Fault) → (fault ≡ CannotWrite) ⊎ (fault ≡ OutOfMemory) → IsChartFault held replay line fault
lost_told held replay line fault told = elim told [
  | inl at ↦ subst (IsChartFault held replay line) (sym at) tt
  | inr at ↦ subst (IsChartFault held replay line) (sym at) tt
]
