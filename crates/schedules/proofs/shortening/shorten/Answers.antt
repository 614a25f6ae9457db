use Rattle.std.proofs.Common.{◌∙◌, ap, subst, sym, Ok}
use Rattle.elf_loader.specs.Image.{Initial}
use Rattle.machine_model.specs.Events.{after_events}
use Rattle.machine_model.specs.Views.{State, opening}
use Rattle.schedules.specs.Schedules.{Played, start_of}
use Rattle.schedules.specs.Sublists.{IsSublist}
use Rattle.schedules.proofs.Played.{leads_there, leads_to, real_at}
use Rattle.schedules.proofs.Shorter.{through}
use Rattle.std.proofs.lemmas.Result.{IfOk-from_err}
use Rattle.schedules.proofs.shortening.shorten.Goals as goal

pub shortened-requires-clause-good : goal.shortened-requires-clause-good
shortened-requires-clause-good g c =
    leads_there c.args.image.now c.args.config (start_of c.replay.new.self) c.replay.new.self.machine c.into_events-changing.result.items (g.G.Goal.Holds c.args.goal.now)
    (c.in_ok-replay.ensures.start ∙ (ap (λ (p : Played). start_of p) c.in_ok-player.ensures.ok ∙ ap (λ (i : Initial). opening i c.args.config) c.in_ok-try_copy.ensures))
    c.into_events-changing.ensures.leads c.into_events-changing.ensures.replays c.into_events-changing.ensures.moves
    (subst (g.G.Goal.Holds c.args.goal.now) c.machine.ensures (c.in_ok-is_there.ensures (ap Ok c.if-not-is_there.false)))

pub returns-clause-sublist : goal.returns-clause-sublist
returns-clause-sublist g c =
    through c.in_ok-shortened.field-0.items c.into_events-changing.result.items c.args.events.now c.in_ok-shortened.ensures.sublist
    (subst (λ l. IsSublist l c.args.events.now) (sym c.into_events-changing.ensures.events) c.in_ok-replay.ensures.sublist)

pub returns-then-not-is_there-clause-there : goal.returns-then-not-is_there-clause-there
returns-then-not-is_there-clause-there g c there =
    let reset = opening c.args.image.now c.args.config in
    let copied = ap (λ (i : Initial). opening i c.args.config) c.in_ok-try_copy.ensures in
    let starts = c.in_ok-replay.ensures.start ∙ (ap (λ (p : Played). start_of p) c.in_ok-player.ensures.ok ∙ copied) in
    let opens = ap (λ (p : Played). p.machine) c.in_ok-player.ensures.ok ∙ copied in
    let leads = leads_to c.in_ok-player.player.machine c.replay.new.self.machine 0 c.args.events.now c.in_ok-replay.ensures.ok in
    let all = sym (ap (λ (s : State). after_events s c.args.events.now) opens) ∙ leads in
    let kept = real_at reset (start_of c.replay.new.self) c.replay.new.self.machine c.into_events-changing.result.items starts c.into_events-changing.ensures.leads in
    subst (g.G.Goal.Holds c.args.goal.now) (all ∙ kept) there

pub returns-in_err-try_copy-clause-there : goal.returns-in_err-try_copy-clause-there
returns-in_err-try_copy-clause-there g c = λ _. IfOk-from_err c.from_residual.result _ c.from_residual.ensures.0

pub returns-in_err-try_copy-clause-replays : goal.returns-in_err-try_copy-clause-replays
returns-in_err-try_copy-clause-replays g c = IfOk-from_err c.from_residual.result _ c.from_residual.ensures.0

pub returns-in_err-try_copy-clause-moves : goal.returns-in_err-try_copy-clause-moves
returns-in_err-try_copy-clause-moves g c = IfOk-from_err c.from_residual.result _ c.from_residual.ensures.0

pub returns-in_err-try_copy-clause-sublist : goal.returns-in_err-try_copy-clause-sublist
returns-in_err-try_copy-clause-sublist g c = IfOk-from_err c.from_residual.result _ c.from_residual.ensures.0

pub returns-in_err-player-clause-there : goal.returns-in_err-player-clause-there
returns-in_err-player-clause-there g c = λ _. IfOk-from_err c.from_residual-in_err-player.result _ c.from_residual-in_err-player.ensures.0

pub returns-in_err-player-clause-replays : goal.returns-in_err-player-clause-replays
returns-in_err-player-clause-replays g c = IfOk-from_err c.from_residual-in_err-player.result _ c.from_residual-in_err-player.ensures.0

pub returns-in_err-player-clause-moves : goal.returns-in_err-player-clause-moves
returns-in_err-player-clause-moves g c = IfOk-from_err c.from_residual-in_err-player.result _ c.from_residual-in_err-player.ensures.0

pub returns-in_err-player-clause-sublist : goal.returns-in_err-player-clause-sublist
returns-in_err-player-clause-sublist g c = IfOk-from_err c.from_residual-in_err-player.result _ c.from_residual-in_err-player.ensures.0

pub returns-in_err-replay-clause-there : goal.returns-in_err-replay-clause-there
returns-in_err-replay-clause-there g c = λ _. IfOk-from_err c.from_residual-in_err-replay.result _ c.from_residual-in_err-replay.ensures.0

pub returns-in_err-replay-clause-replays : goal.returns-in_err-replay-clause-replays
returns-in_err-replay-clause-replays g c = IfOk-from_err c.from_residual-in_err-replay.result _ c.from_residual-in_err-replay.ensures.0

pub returns-in_err-replay-clause-moves : goal.returns-in_err-replay-clause-moves
returns-in_err-replay-clause-moves g c = IfOk-from_err c.from_residual-in_err-replay.result _ c.from_residual-in_err-replay.ensures.0

pub returns-in_err-replay-clause-sublist : goal.returns-in_err-replay-clause-sublist
returns-in_err-replay-clause-sublist g c = IfOk-from_err c.from_residual-in_err-replay.result _ c.from_residual-in_err-replay.ensures.0

pub returns-in_err-is_there-clause-there : goal.returns-in_err-is_there-clause-there
returns-in_err-is_there-clause-there g c = λ _. IfOk-from_err c.from_residual-in_err-is_there.result _ c.from_residual-in_err-is_there.ensures.0

pub returns-in_err-is_there-clause-replays : goal.returns-in_err-is_there-clause-replays
returns-in_err-is_there-clause-replays g c = IfOk-from_err c.from_residual-in_err-is_there.result _ c.from_residual-in_err-is_there.ensures.0

pub returns-in_err-is_there-clause-moves : goal.returns-in_err-is_there-clause-moves
returns-in_err-is_there-clause-moves g c = IfOk-from_err c.from_residual-in_err-is_there.result _ c.from_residual-in_err-is_there.ensures.0

pub returns-in_err-is_there-clause-sublist : goal.returns-in_err-is_there-clause-sublist
returns-in_err-is_there-clause-sublist g c = IfOk-from_err c.from_residual-in_err-is_there.result _ c.from_residual-in_err-is_there.ensures.0

pub returns-in_err-shortened-clause-there : goal.returns-in_err-shortened-clause-there
returns-in_err-shortened-clause-there g c = λ _. IfOk-from_err c.from_residual-in_err-shortened.result _ c.from_residual-in_err-shortened.ensures.0

pub returns-in_err-shortened-clause-replays : goal.returns-in_err-shortened-clause-replays
returns-in_err-shortened-clause-replays g c = IfOk-from_err c.from_residual-in_err-shortened.result _ c.from_residual-in_err-shortened.ensures.0

pub returns-in_err-shortened-clause-moves : goal.returns-in_err-shortened-clause-moves
returns-in_err-shortened-clause-moves g c = IfOk-from_err c.from_residual-in_err-shortened.result _ c.from_residual-in_err-shortened.ensures.0

pub returns-in_err-shortened-clause-sublist : goal.returns-in_err-shortened-clause-sublist
returns-in_err-shortened-clause-sublist g c = IfOk-from_err c.from_residual-in_err-shortened.result _ c.from_residual-in_err-shortened.ensures.0
