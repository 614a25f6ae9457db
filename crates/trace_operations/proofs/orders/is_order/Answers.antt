use Rattle.std.proofs.Common.{◌≡◌, ◌∙◌, false, refl, sym}
use Rattle.std.specs.List.{list_all}
use Rattle.std.specs.Prelude.{is_some}
use Rattle.memory_model.specs.Traces.{is_among, operation_at}
use Rattle.trace_operations.proofs.Gathered.{all_alike}
use Rattle.trace_operations.proofs.orders.is_order.Goals as goal

pub returns-then-not-have_operations : goal.returns-then-not-have_operations
returns-then-not-have_operations c =
    let some : list_all (is_among c.args.names.now) c.args.order.now ≡ false = all_alike (is_among c.args.names.now) (λ n. is_some (operation_at c.args.harts.now n)) c.args.order.now c.requires ∙ (sym c.have_operations.ensures ∙ c.if-not-have_operations.true) in
    rw some refl
