use Rattle.std.proofs.Common.{◌∙◌, ap, inl, inr}
use Rattle.command_files.specs.Status.{status_of}
use Rattle.command_files.proofs.message.tell_lost.Goals as goal

pub returns-clause-lost : goal.returns-clause-lost
returns-clause-lost g c = record { fault = c.writing.result; lost = c.writing.ensures.told; told = c.tell.ensures.told; of_status = c.tell.ensures.status }

pub returns-clause-status : goal.returns-clause-status
returns-clause-status g c = elim c.writing.ensures.told [
  | inl is ↦ inl (c.tell.ensures.status ∙ ap status_of is)
  | inr is ↦ inr (c.tell.ensures.status ∙ ap status_of is)
]
