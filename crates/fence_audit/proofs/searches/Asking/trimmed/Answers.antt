use Rattle.std.proofs.Common.{All, List, subst}
use Rattle.fence_audit.proofs.Told.{enough_stays, grows_on}
use Rattle.fence_audit.specs.Adding.{IsReverted}
use Rattle.image_orderings.specs.declared.replacing.Patch.{Patch}
use Rattle.fence_audit.proofs.searches.Asking.trimmed.Goals as goal

pub returns-clause-enough : goal.returns-clause-enough
returns-clause-enough g c =
    let late = grows_on c.milder.new.searches.items c.prepare_reverted.new.searches.items c.ask_reverted.new.searches.items c.in_ok-prepare_reverted.ensures.grown c.in_ok-ask_reverted.ensures.grown in
    enough_stays c.args.most.now c.milder.new.searches.items c.ask_reverted.new.searches.items c.in_ok-last-2.last.items late c.in_ok-last-2.ensures.enough

pub returns-clause-grown : goal.returns-clause-grown
returns-clause-grown g c =
    let late = grows_on c.milder.new.searches.items c.prepare_reverted.new.searches.items c.ask_reverted.new.searches.items c.in_ok-prepare_reverted.ensures.grown c.in_ok-ask_reverted.ensures.grown in
    grows_on c.args.searches.now.items c.reverted.new.searches.items c.ask_reverted.new.searches.items c.in_ok-last.ensures.grown
    (grows_on c.reverted.new.searches.items c.milder.new.searches.items c.ask_reverted.new.searches.items c.in_ok-last-2.ensures.grown late)

pub returns-clause-searched : goal.returns-clause-searched
returns-clause-searched g c = λ first. c.in_ok-ask_reverted.ensures.searched (c.in_ok-prepare_reverted.ensures.searched (c.in_ok-last-2.ensures.searched (c.in_ok-last.ensures.searched first)))

pub returns-clause-each : goal.returns-clause-each
returns-clause-each g c = subst (λ (patches : List Patch). All (IsReverted c.ask_reverted.new.searches.items patches) c.args.own.now) c.deref-2.ensures.value c.in_ok-ask_reverted.ensures.asked
