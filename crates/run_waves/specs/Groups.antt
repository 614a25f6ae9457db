-- The parts of a machine that signals are told of, their signals, identifiers and modules.
use Rattle.std.specs.Prelude.{ℕ, List, [], ◌∷◌, ◌++◌, codes, decimal}
use Rattle.text_fields.specs.Fields.{word}
use Rattle.tl_types.specs.declared.message.Channel.{Channel}
use Rattle.tl_types.specs.declared.message.Channel.TheVariants.{A, B, C, D, E}
use Rattle.run_waves.specs.declared.groups.Group.{Group}
use Rattle.run_waves.specs.declared.groups.Group.TheVariants.{Hart, Queue, Copy, Record, Transaction}
use Rattle.run_waves.specs.declared.signals.Signal.{Signal}
use Rattle.run_waves.specs.Signals.{of_hart, of_queue, of_copy, of_record, of_transaction}

abbrev pub signals : Group → List Signal
signals (Hart h) = of_hart
signals (Queue h c) = of_queue
signals (Copy h line) = of_copy
signals (Record h line) = of_record
signals (Transaction line) = of_transaction

abbrev pub channel_letter : Channel → ℕ
channel_letter A = 65
channel_letter B = 66
channel_letter C = 67
channel_letter D = 68
channel_letter E = 69

-- what an identifier has behind its signal's letter
abbrev pub place : Group → List ℕ
place (Hart h) = decimal h
place (Queue h c) = decimal h ++ channel_letter c ∷ []
place (Copy h line) = decimal h ++ word line
place (Record h line) = decimal h ++ word line
place (Transaction line) = word line

-- ---- the modules in which the signals stand

abbrev pub hart_module : ℕ → List ℕ
hart_module h = codes "$scope module hart" ++ (decimal h ++ codes " $end\n")

abbrev pub channel_module : Channel → List ℕ
channel_module c = codes "$scope module " ++ (channel_letter c ∷ codes " $end\n")

abbrev pub line_module : ℕ → List ℕ
line_module line = codes "$scope module line_" ++ (word line ++ codes " $end\n")

abbrev pub opened : Group → List ℕ
opened (Hart h) = hart_module h
opened (Queue h c) = hart_module h ++ channel_module c
opened (Copy h line) = line_module line ++ hart_module h
opened (Record h line) = line_module line ++ hart_module h
opened (Transaction line) = line_module line

abbrev pub closed : Group → List ℕ
closed (Hart h) = codes "$upscope $end\n"
closed (Queue h c) = codes "$upscope $end\n$upscope $end\n"
closed (Copy h line) = codes "$upscope $end\n$upscope $end\n"
closed (Record h line) = codes "$upscope $end\n$upscope $end\n"
closed (Transaction line) = codes "$upscope $end\n"
