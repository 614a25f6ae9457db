-- An instruction that a hart is about to retire.
use Rattle.machine_model.specs.Steps.{Fetched}
use Rattle.machine_parts.specs.declared.plan.access.Fetched.{Fetched as Kept}

abbrev pub fetched_of : Kept → Fetched
fetched_of f = record { word = f.word; instr = f.instr; place = f.place }
