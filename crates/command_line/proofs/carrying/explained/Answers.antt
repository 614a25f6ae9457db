use Rattle.command_line.proofs.Carried.{if_err}
use Rattle.script_commands.proofs.ReplayTold.{replay_never_misused}
use Rattle.trace_commands.proofs.Told.{telling_never_misused}
use Rattle.command_line.proofs.carrying.explained.Goals as goal

pub returns-then-wanted-clause-fitting : goal.returns-then-wanted-clause-fitting
returns-then-wanted-clause-fitting g c = if_err _ _ c.wave_files.result (λ fault so two. replay_never_misused _ _ fault so two) c.wave_files.ensures.told

pub returns-clause-fitting : goal.returns-clause-fitting
returns-clause-fitting g c = if_err _ _ c.explain_files.result (λ fault so two. telling_never_misused _ _ _ _ _ fault so two) c.explain_files.ensures.told
