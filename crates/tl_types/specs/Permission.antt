-- What requests and answers say of permissions (TileLink 1.8.1, "Permissions transitions").
use Rattle.tl_types.specs.declared.permission.Perm.{Perm}
use Rattle.tl_types.specs.declared.permission.Perm.TheVariants.{Nothing, Branch, Trunk}
use Rattle.tl_types.specs.declared.permission.Cap.{Cap}
use Rattle.tl_types.specs.declared.permission.Cap.TheVariants.{ToT, ToB, ToN}
use Rattle.tl_types.specs.declared.permission.Grow.{Grow}
use Rattle.tl_types.specs.declared.permission.Grow.TheVariants.{NtoB, NtoT, BtoT}
use Rattle.tl_types.specs.declared.permission.Change.{Change}
use Rattle.tl_types.specs.declared.permission.Change.TheVariants.{TtoT, TtoB, TtoN, BtoB, BtoN, NtoN}

-- the permission that a Cap names
abbrev pub named_by : Cap → Perm
named_by ToT = Trunk
named_by ToB = Branch
named_by ToN = Nothing

-- the Cap of the Grant that an Acquire is answered by
abbrev pub granted_for : Grow → Cap
granted_for NtoB = ToB
granted_for NtoT = ToT
granted_for BtoT = ToT

-- what a change began from
abbrev pub held_before : Change → Perm
held_before TtoT = Trunk
held_before TtoB = Trunk
held_before TtoN = Trunk
held_before BtoB = Branch
held_before BtoN = Branch
held_before NtoN = Nothing

-- what a change ends in
abbrev pub left_by : Change → Perm
left_by TtoT = Trunk
left_by TtoB = Branch
left_by TtoN = Nothing
left_by BtoB = Branch
left_by BtoN = Nothing
left_by NtoN = Nothing
