use Rattle.std.proofs.Common.{◌≡◌, ◌∙◌, ◌++◌, ℕ, List, ap, arith, map}
use Rattle.std.specs.List.{range_with_len}
use Rattle.directory.specs.Directory.{Notes}
use Rattle.machine_model.specs.Views.{State}
use Rattle.run_waves.specs.Telling.{seen_in}
use Rattle.run_waves.specs.declared.groups.Group.TheVariants as part
use Rattle.run_waves.proofs.Keeping.{hart_kept}
use Rattle.run_waves.proofs.watching.keep_records.Goals as goal

pub loop-hart-preserved : goal.loop-hart-preserved
loop-hart-preserved c = hart_kept c.args.machine.now (λ (h : ℕ). part.Record h c.args.line) _ _ _ c.loop-hart.hart _ c.in_ok-push.ensures.items c.see.ensures c.loop-hart.invariant

pub returns : goal.returns
returns c =
    let harts = c.harts-harts.ensures ∙ ap (λ (d : Notes). d.harts) c.directory.ensures ∙ ap (λ (s : State). s.views.notes.harts) c.views.ensures in
    let all : c.loop-hart.hart ≡ c.args.machine.now.views.notes.harts = omega (arith, c.loop-hart-test.false, c.loop-hart.auto.hart-end, harts) in
    c.loop-hart.invariant ∙ ap (λ (n : ℕ). c.args.seen.now.items ++ map (seen_in c.args.machine.now) (map (λ (h : ℕ). part.Record h c.args.line) (range_with_len 0 n))) all
