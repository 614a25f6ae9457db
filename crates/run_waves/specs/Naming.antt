-- How signals are declared (IEEE Std 1364-2005, section 18.2).
use Rattle.std.specs.Prelude.{ℕ, List, [], ◌∷◌, ◌++◌}
use Rattle.std.specs.List.{flat_map}
use Rattle.run_waves.specs.declared.groups.Group.{Group}
use Rattle.run_waves.specs.declared.signals.Signal.{Signal}
use Rattle.run_waves.specs.Groups as groups
use Rattle.run_waves.specs.Signals as signals

abbrev pub identifier : Group → Signal → List ℕ
identifier g x = signals.letter x ∷ groups.place g

abbrev pub declaration : Group → Signal → List ℕ
declaration g x = signals.width_text (signals.width x) ++ (identifier g x ++ (32 ∷ (signals.name x ++ signals.range (signals.width x))))

abbrev pub declarations : Group → List ℕ
declarations g = flat_map (declaration g) (groups.signals g)

-- the signals of a part of the machine, in their module
abbrev pub declared : Group → List ℕ
declared g = groups.opened g ++ (declarations g ++ groups.closed g)
