-- How the lines on an order are spelled. An operation is HART:PLACE, a store that isn't there `image`.
use Rattle.std.specs.Prelude.{ℕ, ◌==◌, ◌&&◌, ◌||◌, Bool, true, false, if◌then◌else◌, List, [], ◌∷◌, ◌++◌, Option, Some, None, codes, decimal}
use Rattle.std.specs.List.{flat_map}
use Rattle.assembly.specs.Assembly.{assembly}
use Rattle.elf_symbols.specs.Lookups.{Near, nearest}
use Rattle.elf_symbols.specs.Named.{Named}
use Rattle.machine_types.specs.declared.model.MemoryModel.{MemoryModel}
use Rattle.machine_types.specs.declared.model.MemoryModel.TheVariants.{Rvwmo, Ztso}
use Rattle.memory_model.specs.declared.operation.Kind.{Kind}
use Rattle.memory_model.specs.declared.operation.Kind.TheVariants.{Load, Store, Lr, Sc, Amo}
use Rattle.memory_model.specs.declared.operation.Operation.{Operation}
use Rattle.memory_model.specs.Operations.{is_amo, is_lr, is_sc, reads, writes}
use Rattle.memory_model.specs.Verdict.{name_of}
use Rattle.rv32_decode.specs.Rows.{decoded}
use Rattle.rvwmo_order.specs.Rules.{rule_of}
use Rattle.rvwmo_order.specs.declared.rule.Rule.{Rule}
use Rattle.rvwmo_order.specs.declared.rule.Rule.TheVariants as rule
use Rattle.text_fields.specs.Fields.{word}
use Rattle.trace_recorder.specs.declared.operation.OpId.{OpId}
use Rattle.order_text.specs.Fence.{fence_between}
use Rattle.order_text.specs.Naming.{disassembled, place}
use Rattle.order_text.specs.declared.line.Broken.{Broken}
use Rattle.order_text.specs.declared.line.Line.{Line}
use Rattle.order_text.specs.declared.line.Line.TheVariants.{Judged, Performed, Instruction, Access, Linked, Neighbours, Overtaking, Ordered}
use Rattle.order_text.specs.declared.line.Link.{Link}
use Rattle.order_text.specs.declared.line.Link.TheVariants.{ReadsFrom, Coherence, FromReads}

-- ---- fields

-- one that stands behind another
abbrev pub spaced : List ℕ → List ℕ
spaced field = codes " " ++ field

abbrev pub name : OpId → List ℕ
name o = decimal o.hart ++ (codes ":" ++ decimal o.place)

abbrev pub store : Option OpId → List ℕ
store None = codes "image"
store (Some o) = name o

abbrev pub position : Option ℕ → List ℕ
position None = codes "-"
position (Some n) = decimal n

abbrev pub model_name : MemoryModel → List ℕ
model_name Rvwmo = codes "rvwmo"
model_name Ztso = codes "ztso"

abbrev pub kind_name : Kind → List ℕ
kind_name Load = codes "load"
kind_name Store = codes "store"
kind_name Lr = codes "lr"
kind_name Sc = codes "sc"
kind_name Amo = codes "amo"

abbrev pub rule_name : Rule → List ℕ
rule_name rule.OverlappingStore = codes "OverlappingStore"
rule_name rule.SameByteLoads = codes "SameByteLoads"
rule_name rule.AtomicSource = codes "AtomicSource"
rule_name rule.Fence = codes "Fence"
rule_name rule.Acquire = codes "Acquire"
rule_name rule.Release = codes "Release"
rule_name rule.Annotations = codes "Annotations"
rule_name rule.Pair = codes "Pair"
rule_name rule.Address = codes "Address"
rule_name rule.Data = codes "Data"
rule_name rule.Control = codes "Control"
rule_name rule.DependentStore = codes "DependentStore"
rule_name rule.DependentAddress = codes "DependentAddress"

-- a value, where there is one
abbrev pub value_if : Bool → ℕ → List ℕ
value_if true n = word n
value_if false n = codes "-"

-- ---- an access: its kind, its first byte and how many it has, what it reads, and what it writes

abbrev pub values : Operation → List ℕ
values a = spaced (value_if (reads a.kind) a.read) ++ spaced (value_if (writes a.kind) a.written)

abbrev pub access : Operation → List ℕ
access a = kind_name a.kind ++ (spaced (word a.address) ++ (spaced (decimal a.size) ++ values a))

abbrev pub link_name : Link → List ℕ
link_name ReadsFrom = codes "rf "
link_name Coherence = codes "co "
link_name FromReads = codes "fr "

-- the one that comes first stands first
abbrev pub linked : Link → OpId → Option OpId → List ℕ
linked ReadsFrom a other = store other ++ spaced (name a)
linked Coherence a other = store other ++ spaced (name a)
linked FromReads a other = name a ++ spaced (store other)

-- ---- what would have ordered two operations, of which the second overtakes the first

abbrev pub if_so : Bool → List ℕ → List ℕ
if_so true text = text
if_so false text = []

-- aq on the first (rule 5), rl on the second (rule 6), each where its instruction has these bits and they are its annotation (chapter 8.1)
abbrev pub bits : Kind → Kind → List ℕ
bits a b = if_so (is_lr a || is_amo a) (codes ", or aq on the first") ++ if_so (is_sc b || is_amo b) (codes ", or rl on the second")

-- an address dependency (rule 9); a data or a control dependency of a store (rules 10 and 11): each on what reads
abbrev pub dependencies : Kind → Kind → List ℕ
dependencies a b = if_so (reads a) (codes ", or an address dependency") ++ if_so (reads a && writes b) (codes ", or a data or control dependency")

-- a FENCE (rule 4) with the smallest sets, or one of those
abbrev pub remedies : Kind → Kind → List ℕ
remedies a b = assembly None (fence_between a b) ++ (codes " between them" ++ (bits a b ++ dependencies a b))

-- ---- lines, without what stands behind the semicolon

abbrev pub verdict : Option Broken → List ℕ
verdict None = codes "legal"
verdict (Some b) = codes "fault " ++ (decimal b.code ++ (spaced (name b.first) ++ spaced (name b.second)))

abbrev pub rule_number : Option Rule → List ℕ
rule_number None = codes "-"
rule_number (Some r) = decimal (rule_of r).number

abbrev pub fields : Line → List ℕ
fields (Judged model broken) = model_name model ++ spaced (verdict broken)
fields (Performed performed operations) = codes "performed " ++ (decimal performed ++ (codes " of " ++ decimal operations))
fields (Instruction o pc w p) = codes "R " ++ (name o ++ (spaced (word pc) ++ spaced (position p)))
fields (Access a) = codes "A " ++ (name (name_of a) ++ spaced (access a))
fields (Linked link a other x count) = link_name link ++ (linked link a other ++ (spaced (word x) ++ spaced (decimal count)))
fields (Neighbours a b r) = codes "ppo " ++ (name a ++ (spaced (name b) ++ spaced (rule_number r)))
fields (Overtaking a b) = codes "overtakes " ++ (name (name_of b) ++ spaced (name (name_of a)))
fields (Ordered n a) = codes "P " ++ (decimal n ++ (spaced (name (name_of a)) ++ spaced (access a)))

-- ---- behind the semicolon: an instruction, the name of an address, a rule's name, what would have ordered two operations

abbrev pub near_text : Option Near → List ℕ
near_text None = []
near_text (Some n) = codes " ; " ++ place n

abbrev pub rule_text : Option Rule → List ℕ
rule_text None = []
rule_text (Some r) = codes " ; " ++ rule_name r

abbrev pub order_text : Kind → Kind → List ℕ
order_text a b = codes " ; to order them: " ++ remedies a b

abbrev pub remark : List Named → Line → List ℕ
remark names (Instruction o pc w p) = disassembled names pc (decoded w)
remark names (Access a) = near_text (nearest names a.address)
remark names (Linked link a other x count) = near_text (nearest names x)
remark names (Ordered n a) = near_text (nearest names a.address)
remark names (Neighbours a b r) = rule_text r
remark names (Judged model broken) = []
remark names (Performed performed operations) = []
remark names (Overtaking a b) = order_text a.kind b.kind

-- ---- a line, and all of them

abbrev pub line : List Named → Line → List ℕ
line names l = fields l ++ (remark names l ++ codes "\n")

abbrev pub text : List Named → List Line → List ℕ
text names lines = codes "rvtl-order 1\n" ++ flat_map (line names) lines
