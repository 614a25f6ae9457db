use Rattle.std.proofs.Common.{ℕ, List, refl, subst}
use Rattle.std.proofs.lemmas.List.{take_all}
use Rattle.std.specs.Io.KnownBytes.{Appends}
use Rattle.check_command.specs.Breaches.{AreBreachLines, IsBreachLine}
use Rattle.check_command.proofs.Objected.{none_told, told_more, told_stops, told_until}
use Rattle.message_judge.specs.declared.breaches.Broken.{Broken}
use Rattle.check_command.proofs.messages.put_listed.Goals as goal

pub loop-broken-init : goal.loop-broken-init
loop-broken-init g c = λ plain. none_told (IsBreachLine c.args.log.profile c.args.log.log.now c.args.text c.args.log.file.now) _

pub loop-broken-preserved : goal.loop-broken-preserved
loop-broken-preserved g c = λ plain. told_more _ _ _ _ _ _ _ _ c.loop-broken-test.true refl (c.loop-broken.invariant plain) (c.in_ok-put_breach.ensures plain)

pub returns-in_err-put_breach : goal.returns-in_err-put_breach
returns-in_err-put_breach g c = λ plain. told_stops _ _ _ _ _ c.from_residual.ensures.0
    (told_until _ _ _ _ _ _ _ _ c.loop-broken-test.true refl (c.loop-broken.invariant plain) (c.in_err-put_breach.ensures plain))

pub returns : goal.returns
returns g c = λ plain. subst
    (λ (l : List Broken). (bytes : List ℕ) × AreBreachLines (IsBreachLine c.args.log.profile c.args.log.log.now c.args.text c.args.log.file.now) l bytes
    × Appends (g.E.Write.contents c.args.err.now) (g.E.Write.contents c.loop-broken.err) bytes)
    (take_all c.loop-broken.broken-index c.args.listed.now c.loop-broken-test.false) (c.loop-broken.invariant plain)
