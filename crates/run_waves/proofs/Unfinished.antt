-- What an error that is handed on says.
use Rattle.std.proofs.Common.{◌≡◌, ℕ, List, Option, subst, sym}
use Rattle.elf_loader.specs.Image.{Initial}
use Rattle.machine_types.specs.declared.config.Config.{Config}
use Rattle.machine_types.specs.declared.event.Event.{Event}
use Rattle.run_waves.specs.Errors.{untold}
use Rattle.run_waves.specs.Waves.{AreBegun, AreUnfinished}
use Rattle.run_waves.specs.declared.errors.TellError.{TellError}
use Rattle.run_waves.specs.declared.errors.TellError.TheVariants as tell
use Rattle.run_waves.specs.declared.errors.WavesError.{WavesError}

as_told : (image : Initial) (config : Config) (events : List Event) (old new : Option (List ℕ)) (error : TellError) → AreBegun image config events old new → AreUnfinished image config events old new (untold error)
as_told image config events old new tell.NoMemory begun = begun
as_told image config events old new (tell.Writing fault) begun = begun

pub begun_at_fault : (image : Initial) (config : Config) (events : List Event) (old new : Option (List ℕ)) (error : TellError) (told : WavesError) → told ≡ untold error → AreBegun image config events old new → AreUnfinished image config events old new told
begun_at_fault image config events old new error told is begun = subst (AreUnfinished image config events old new) (sym is) (as_told image config events old new error begun)
