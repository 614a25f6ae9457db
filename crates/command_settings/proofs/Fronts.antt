-- What a list of arguments has, its front and its rest have.
use Rattle.std.proofs.Common.{List, [], ◌∷◌, ◌++◌}
use Rattle.clap.specs.Words.{Row}
use Rattle.command_settings.specs.Settings.{HasAll}
use Rattle.command_settings.specs.Usage.{Argument}

pub has_front : (rows : List Row) (xs ys : List Argument) → HasAll rows (xs ++ ys) → HasAll rows xs
has_front rows [] ys has = tt
has_front rows (x ∷ xs) ys has = (has.0, has_front rows xs ys has.1)

pub has_rest : (rows : List Row) (xs ys : List Argument) → HasAll rows (xs ++ ys) → HasAll rows ys
has_rest rows [] ys has = has
has_rest rows (x ∷ xs) ys has = has_rest rows xs ys has.1
