-- How an error is handed up.
use Rattle.run_waves.specs.declared.errors.TellError.{TellError}
use Rattle.run_waves.specs.declared.errors.TellError.TheVariants as tell
use Rattle.run_waves.specs.declared.errors.WavesError.{WavesError}
use Rattle.run_waves.specs.declared.errors.WavesError.TheVariants as waves

abbrev pub untold : TellError → WavesError
untold tell.NoMemory = waves.NoMemory
untold (tell.Writing error) = waves.Writing error
