use Rattle.command_files.proofs.message.put_image_fault.Goals as goal

pub returns : goal.returns
returns g c = rw (← c.number.ensures, ← c.load_error_name-name.ensures) c.put_cause.ensures
