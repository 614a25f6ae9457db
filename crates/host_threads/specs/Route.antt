-- What contracts see of a turn that goes round one hart's events.
use Rattle.std.specs.Prelude.{ℕ, Option}
use Rattle.elf_loader.specs.Image.{Initial}
use Rattle.machine_types.specs.declared.config.Config.{Config}
use Rattle.machine_types.specs.declared.event.Event.{Event}

-- whose events it picks, the image and configuration by which it finds the set of an access, and how far it is: the place where the round goes on, what it picked last, and an address of the line for which an event of the round found its set full
pub record Route : Type 0 where
  pub hart : ℕ
  pub image : Initial
  pub config : Config
  pub place : ℕ
  pub picked : Option Event
  pub full : Option ℕ
