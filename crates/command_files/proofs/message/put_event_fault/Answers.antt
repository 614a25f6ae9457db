use Rattle.command_files.proofs.message.put_event_fault.Goals as goal

pub returns : goal.returns
returns g c = rw (← c.number.ensures, ← c.apply_error_name-name.ensures) c.put_at_line.ensures
