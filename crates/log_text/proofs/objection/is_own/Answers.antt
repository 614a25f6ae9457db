use Rattle.std.proofs.Common.{List, false, subst, sym}
use Rattle.log_text.specs.Objections.{IsOwnTo}
use Rattle.lawful_log.proofs.Nested.{same_rule}
use Rattle.lawful_log.specs.declared.profile.Profile.{Profile}
use Rattle.log_text.proofs.objection.is_own.Goals as goal

pub returns-in-Machine : goal.returns-in-Machine
returns-in-Machine c = subst (λ (p : Profile). IsOwnTo p c.args.rule c.args.entry.now c.is_own.result) (sym c.in-Machine.is) c.is_own.ensures

pub returns-in-TileLink : goal.returns-in-TileLink
returns-in-TileLink c = subst (λ (p : Profile). IsOwnTo p c.args.rule c.args.entry.now false) (sym c.in-TileLink.is) (λ log breaks. same_rule breaks)
