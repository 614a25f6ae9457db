use Rattle.std.proofs.Common.{◌∙◌, ap, arith, length}
use Rattle.trace_operations.proofs.Listing.{length-listed, pushed_alone, pushed_both}
use Rattle.trace_operations.proofs.listed.Items.push.Goals as goal

pub invariant_of-self-in-Continue-branch-2 : goal.invariant_of-self-in-Continue-branch-2
invariant_of-self-in-Continue-branch-2 c =
    let long = length-listed 0 c.self.inside.operations.items c.self.inside.slots.items in
    let seen = ap length c.self.view_is in
    let more = c.in_ok-push-2.ensures.len in
    (omega (arith, long, seen, c.self.invariant.0, c.self.invariant.1, c.requires.few, c.in_ok-push.ensures.len, c.push.new.self.ok.0, c.self.inside.slots.ok.0), omega (arith, long, seen, more, c.push-in-Some.new.self.ok.0, c.self.inside.operations.ok.0, c.self.invariant.0, c.self.invariant.1, c.requires.few, c.in_ok-push.ensures.len, c.push.new.self.ok.0, c.self.inside.slots.ok.0))

pub invariant_of-self-in_err-push-2 : goal.invariant_of-self-in_err-push-2
invariant_of-self-in_err-push-2 c =
    let long = length-listed 0 c.self.inside.operations.items c.self.inside.slots.items in
    let seen = ap length c.self.view_is in
    let more = c.in_err-push-2.ensures.len in
    (omega (arith, long, seen, c.self.invariant.0, c.self.invariant.1, c.requires.few, c.in_ok-push.ensures.len, c.push.new.self.ok.0, c.self.inside.slots.ok.0), omega (arith, long, seen, more, c.push-in-Some.new.self.ok.0, c.self.inside.operations.ok.0, c.self.invariant.0, c.self.invariant.1, c.requires.few, c.in_ok-push.ensures.len, c.push.new.self.ok.0, c.self.inside.slots.ok.0))

pub invariant_of-self-in_default : goal.invariant_of-self-in_default
invariant_of-self-in_default c =
    let long = length-listed 0 c.self.inside.operations.items c.self.inside.slots.items in
    let seen = ap length c.self.view_is in
    (omega (arith, long, seen, c.self.invariant.0, c.self.invariant.1, c.requires.few, c.in_ok-push.ensures.len, c.push.new.self.ok.0, c.self.inside.slots.ok.0), omega (arith, long, seen, c.self.invariant.0, c.self.invariant.1, c.requires.few, c.in_ok-push.ensures.len, c.push.new.self.ok.0, c.self.inside.slots.ok.0))

pub returns-in_ok-push-2 : goal.returns-in_ok-push-2
returns-in_ok-push-2 c =
    pushed_both c.self.inside.operations.items c.push-in-Some.new.self.items c.self.inside.slots.items c.push.new.self.items _ c.in-Some.operation c.args.self.now c.args.operation (c.len-before.ensures ∙ c.self.inside.operations.ok.0) c.in_ok-push.ensures.items c.in_ok-push-2.ensures.items c.self.view_is c.in-Some.is (c.requires.placed c.in-Some.operation c.in-Some.is)

pub returns-in_default : goal.returns-in_default
returns-in_default c =
    pushed_alone c.self.inside.operations.items c.self.inside.slots.items c.push.new.self.items _ c.args.self.now c.args.operation (c.len-before.ensures ∙ c.self.inside.operations.ok.0) c.in_ok-push.ensures.items c.self.view_is c.in_default.is
