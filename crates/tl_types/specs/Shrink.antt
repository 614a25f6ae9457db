-- What a Probe leaves of a copy, and the change that its answer names (TileLink 1.8.1, ProbeAck's shrink and report fields).
use Rattle.tl_types.specs.declared.permission.Perm.{Perm}
use Rattle.tl_types.specs.declared.permission.Perm.TheVariants.{Nothing, Branch, Trunk}
use Rattle.tl_types.specs.declared.permission.Cap.{Cap}
use Rattle.tl_types.specs.declared.permission.Cap.TheVariants.{ToT, ToB, ToN}
use Rattle.tl_types.specs.declared.permission.Change.{Change}
use Rattle.tl_types.specs.declared.permission.Change.TheVariants.{TtoT, TtoB, TtoN, BtoB, BtoN, NtoN}

-- the permission held, and the most that may stay
abbrev pub shrunk_by : Perm → Cap → Perm × Change
shrunk_by Trunk ToT = (Trunk, TtoT)
shrunk_by Trunk ToB = (Branch, TtoB)
shrunk_by Trunk ToN = (Nothing, TtoN)
shrunk_by Branch ToT = (Branch, BtoB)
shrunk_by Branch ToB = (Branch, BtoB)
shrunk_by Branch ToN = (Nothing, BtoN)
shrunk_by Nothing cap = (Nothing, NtoN)
