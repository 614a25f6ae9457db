-- What a line says that a hart holds, as code has it.
use Rattle.log_text.specs.Meant.{Start}
use Rattle.log_text.specs.declared.meant.Opening.{Opening}

abbrev pub seen : Opening → Start
seen o = record { hart = o.hart.now; address = o.address.now; kept = o.kept; bytes = o.bytes.now }
