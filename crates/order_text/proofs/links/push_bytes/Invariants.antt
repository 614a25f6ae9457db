use Rattle.std.proofs.Common.{◌≡◌, ◌+◌, ◌-◌, ◌++◌}
use Rattle.std.specs.List.{flat_map, range_with_len}
use Rattle.memory_model.specs.Operations.{addresses_of}
use Rattle.order_text.specs.Links.{byte_line}
use Rattle.order_text.proofs.links.push_bytes.Given as goal

abbrev pub invariant-loop-x : goal.invariant-loop-x
invariant-loop-x l =
    l.lines.items ++ flat_map (byte_line l.relations l.link l.a) (range_with_len l.x (l.a.address + l.a.size - l.x))
    ≡ l.initial.lines.items ++ flat_map (byte_line l.relations l.link l.a) (addresses_of l.a)
