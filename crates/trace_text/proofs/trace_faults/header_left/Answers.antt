use Rattle.std.proofs.Common.{refl, inl, inr}
use Rattle.std.specs.Prelude.{codes}
use Rattle.trace_text.proofs.TraceRefusals.{version_left, all_left}
use Rattle.trace_text.proofs.trace_faults.header_left.Goals as goal

pub returns-in-Some : goal.returns-in-Some
returns-in-Some c = version_left (codes "rvtl-trace 1\n") c.args.bytes.now c.in-Some.rest.now c.in-Some.ensures (inl refl)

pub returns-in-Some-after : goal.returns-in-Some-after
returns-in-Some-after c = version_left (codes "rvtl-trace 2\n") c.args.bytes.now c.in-Some-after.rest.now c.in-Some-after.ensures (inr refl)

pub returns : goal.returns
returns c = all_left c.args.bytes.now c.in_default.ensures c.in_default-after.ensures
