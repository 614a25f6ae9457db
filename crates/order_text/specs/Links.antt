-- What a byte of an operation is linked with in an order: by reads-from, coherence and from-reads, as litmus tests draw them (herd7), over
-- the sources and the order of memory_model (RISC-V Unprivileged ISA 20191213, chapter 14.1, load value axiom).
use Rattle.std.specs.Prelude.{ℕ, ◌%◌, ◌^◌, ◌==◌, ◌&&◌, Bool, true, false, not, if◌then◌else◌, List, [], ◌∷◌, Option, Some, None, filter, find, is_some, option_map, take}
use Rattle.std.specs.List.{flat_map, list_all}
use Rattle.memory_model.specs.declared.operation.Operation.{Operation}
use Rattle.memory_model.specs.Legal.{behind}
use Rattle.memory_model.specs.Operations.{addresses_of, reads, same, stores_to, writes}
use Rattle.memory_model.specs.Order.{last_of, position_in, source}
use Rattle.memory_model.specs.Traces.{is_named}
use Rattle.memory_model.specs.Verdict.{name_of}
use Rattle.memory_model.specs.declared.operation.Kind.{Kind}
use Rattle.trace_recorder.specs.declared.operation.OpId.{OpId}
use Rattle.order_text.specs.declared.line.Line.{Line}
use Rattle.order_text.specs.declared.line.Line.TheVariants.{Linked}
use Rattle.order_text.specs.declared.line.Link.{Link}
use Rattle.order_text.specs.declared.line.Link.TheVariants.{ReadsFrom, Coherence, FromReads}

-- co: the last store to x that stands before a; none where it is the image's byte
abbrev pub overwritten : List Operation → Operation → ℕ → Option Operation
overwritten order a x = last_of (filter (stores_to x) (take (position_in order a) order))

-- a stores to x, and isn't the operation b
abbrev pub is_other_store : ℕ → Operation → Operation → Bool
is_other_store x b a = stores_to x a && not (same a b)

-- fr: the first other store to x behind the one from which a has that byte
abbrev pub overwriter : List Operation → Operation → ℕ → Option Operation
overwriter order a x = find (is_other_store x a) (behind (source order a x) order)

-- what byte x of a is linked with
abbrev pub linked_with : List Operation → Link → Operation → ℕ → Option Operation
linked_with order ReadsFrom a x = source order a x
linked_with order Coherence a x = overwritten order a x
linked_with order FromReads a x = overwriter order a x

abbrev pub name_linked : List Operation → Link → Operation → ℕ → Option OpId
name_linked order link a x = option_map name_of (linked_with order link a x)

-- loads have a source and are overwritten, stores have one before
abbrev pub applies : Link → Kind → Bool
applies ReadsFrom kind = reads kind
applies Coherence kind = writes kind
applies FromReads kind = reads kind

-- ---- the lines

-- both are none, or one operation
abbrev pub is_same_name : Option OpId → Option OpId → Bool
is_same_name None None = true
is_same_name (Some a) (Some b) = is_named a b
is_same_name _ _ = false

-- that nothing overwrites a byte is not told
abbrev pub is_told : Link → Option OpId → Bool
is_told ReadsFrom other = true
is_told Coherence other = true
is_told FromReads other = is_some other

-- so many bytes from x on
abbrev pub link_line : Link → OpId → ℕ → ℕ → Option OpId → List Line
link_line link name x count other = if is_told link other then Linked link name other (x % 2 ^ 32) count ∷ [] else []

-- all bytes are linked with this
abbrev pub is_uniform : List Operation → Link → Operation → Option OpId → Bool
is_uniform order link a first = list_all (λ x. is_same_name (name_linked order link a x) first) (addresses_of a)

abbrev pub byte_line : List Operation → Link → Operation → ℕ → List Line
byte_line order link a x = link_line link (name_of a) x 1 (name_linked order link a x)

-- one line for all bytes, where they are linked with the same, else one a byte
abbrev pub told_links : List Operation → Link → Operation → List Line
told_links order link a =
    if is_uniform order link a (name_linked order link a a.address)
    then link_line link (name_of a) a.address a.size (name_linked order link a a.address)
    else flat_map (byte_line order link a) (addresses_of a)

abbrev pub link_lines : List Operation → Link → Operation → List Line
link_lines order link a = if applies link a.kind then told_links order link a else []
