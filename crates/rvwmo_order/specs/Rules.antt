-- The rules that the values of `Rule` stand for.
use Rattle.memory_model.specs.Rules as rules
use Rattle.rvwmo_order.specs.declared.rule.Rule.{Rule}
use Rattle.rvwmo_order.specs.declared.rule.Rule.TheVariants.{OverlappingStore, SameByteLoads, AtomicSource, Fence, Acquire, Release, Annotations, Pair, Address, Data, Control, DependentStore, DependentAddress}

-- a rule of preserved program order with its number
abbrev pub rule_of : Rule → rules.Rule
rule_of OverlappingStore = rules.overlapping_store
rule_of SameByteLoads = rules.same_byte_loads
rule_of AtomicSource = rules.atomic_source
rule_of Fence = rules.fence
rule_of Acquire = rules.acquire
rule_of Release = rules.release
rule_of Annotations = rules.annotations
rule_of Pair = rules.pair
rule_of Address = rules.address
rule_of Data = rules.data_stored
rule_of Control = rules.control
rule_of DependentStore = rules.dependent_store
rule_of DependentAddress = rules.dependent_address
