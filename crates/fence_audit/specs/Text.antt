-- The lines in which an audit is told.
use Rattle.std.specs.Prelude.{ℕ, ◌+◌, ◌==◌, ◌∷◌, ◌++◌, ◌||◌, [], Bool, List, None, Option, Some, codes, decimal, false, if◌then◌else◌, length, not, slice_get, true}
use Rattle.std.specs.List.{list_all, list_any}
use Rattle.architecture_outcomes.specs.Outcomes.{end_of}
use Rattle.architecture_outcomes.specs.declared.architecture.Architecture.{Architecture}
use Rattle.architecture_outcomes.specs.declared.failing.Failing.{Failing}
use Rattle.architecture_outcomes.specs.declared.outcome.Outcome.{Outcome}
use Rattle.assembly.specs.Assembly.{assembly}
use Rattle.elf_symbols.specs.Lookups.{nearest}
use Rattle.elf_symbols.specs.Named.{Named}
use Rattle.exploration_text.specs.Failures.{stopped_text}
use Rattle.exploration_text.specs.Words.{end_text}
use Rattle.exploration_text.specs.declared.wording.WordName.{WordName}
use Rattle.fence_audit.specs.Answers.{is_whole, lacked_memory}
use Rattle.fence_audit.specs.Searches.{answer_in, search_in}
use Rattle.fence_audit.specs.declared.answers.Answer.{Answer}
use Rattle.fence_audit.specs.declared.answers.Answer.TheVariants as answer
use Rattle.fence_audit.specs.declared.auditing.Audit.{Audit}
use Rattle.fence_audit.specs.declared.searches.Search.{Search}
use Rattle.fence_audit.specs.declared.searches.World.{World}
use Rattle.fence_audit.specs.declared.searches.World.TheVariants.{Machine, Model}
use Rattle.image_orderings.specs.Forms.{weaker_words}
use Rattle.image_orderings.specs.Programs.{is_kept, patches_with, patches_without, word_in}
use Rattle.image_orderings.specs.declared.orderings.ImageOrdering.{ImageOrdering}
use Rattle.image_orderings.specs.declared.orderings.Part.{Part}
use Rattle.image_orderings.specs.declared.orderings.Part.TheVariants.{Acquire, Fence, Release}
use Rattle.image_orderings.specs.declared.replacing.Patch.{Patch}
use Rattle.exploration_text.specs.Naming.{place_before}
use Rattle.rv32_decode.specs.Rows.{decoded}
use Rattle.rv32_decode.specs.declared.instruction.Instr.{Instr}
use Rattle.architecture_outcomes.specs.Reach.{Reach}
use Rattle.architecture_outcomes.specs.TheVariants as reach
use Rattle.text_fields.specs.Fields.{word as hexadecimal}

-- ---- words of a line

-- as an assembler writes it
abbrev pub instr_text : Option Instr → List ℕ
instr_text None = codes ""
instr_text (Some instr) = assembly None instr

abbrev pub word_text : Option ℕ → List ℕ
word_text None = codes ""
word_text (Some w) = instr_text (decoded w)

abbrev pub part_text : Part → List ℕ
part_text Fence = codes "    "
part_text Acquire = codes "    aq  "
part_text Release = codes "    rl  "

-- windows that are wider
abbrev pub width_text : ℕ → List ℕ
width_text window = codes ", windows over " ++ decimal window

-- how far the search under the model came, or else that the machine's own met its limit
abbrev pub reach_text : Reach → (window : ℕ) → List ℕ
reach_text reach.Whole window = codes ", this machine's states"
reach_text reach.Unjudged window = codes ", runs of over 4096 operations"
reach_text reach.Unclosed window = codes ", what a last pass over the states found"
reach_text (reach.WindowMet place) window = width_text window
reach_text (reach.ValuesMet place) window = codes ", values of a load over 256"
reach_text (reach.WaysMet place) window = codes ", ways of fetching on over 1000"
reach_text (reach.CallMet place) window = codes ", calls by a loaded number"
reach_text (reach.RowMet place) window = codes ", rows over 10000 instructions without an access"
reach_text reach.LimitMet window = codes ", limit of states"
reach_text (reach.Ended ending) window = codes ", ended"
reach_text reach.OutOfMemory window = codes ", out of memory"

-- why a search isn't whole
abbrev pub bound_text : Architecture → List ℕ
bound_text found = if lacked_memory found then codes ", out of memory" else reach_text found.reach found.window

-- the outcome at a place
abbrev pub end_at : List WordName → Option Outcome → List ℕ
end_at names None = codes ""
end_at names (Some o) = end_text names (end_of o)

-- ---- an ordering by itself

-- the instruction behind its symbol
abbrev pub named_text : List Named → List Patch → (address : ℕ) → List ℕ
named_text symbols own address = place_before (nearest symbols address) ++ (word_text (word_in own address) ++ codes "\n")

abbrev pub instr_line : List Named → List Patch → (address : ℕ) → List ℕ
instr_line symbols own address = hexadecimal address ++ (codes " " ++ named_text symbols own address)

-- its instruction, unless the one told before is of the same
abbrev pub head_text : List Named → (previous : ℕ) → List Patch → (address : ℕ) → List ℕ
head_text symbols previous own address =
    if previous == address then codes "" else instr_line symbols own address

-- the hart that stops, where and why
abbrev pub stopped_at : List Named → Option Failing → List ℕ
stopped_at symbols None = codes ""
stopped_at symbols (Some f) = stopped_text symbols f.failure.hart f.failure.stop

abbrev pub stop_line : List Named → Option Failing → List ℕ
stop_line symbols f = codes "needed: without it  " ++ (stopped_at symbols f ++ codes "\n")

-- what a search without it told, beside what is known of the program as it is
abbrev pub answer_text : List WordName → List Named → List Outcome → Search → Answer → List ℕ
answer_text names symbols known search answer.Same = codes "not needed\n"
answer_text names symbols known search (answer.Other place) = codes "needed: without it" ++ (end_at names (slice_get search.found.outcomes.items place) ++ codes "\n")
answer_text names symbols known search (answer.Stops place) = stop_line symbols (slice_get search.found.failures.items place)
answer_text names symbols known search (answer.Fewer place) = codes "needed: no longer without it" ++ (end_at names (slice_get known place) ++ codes "\n")
answer_text names symbols known search answer.Bounded = codes "undecided" ++ (bound_text search.found ++ codes "\n")

abbrev pub told_text : List WordName → List Named → List Outcome → Option Search → List ℕ
told_text names symbols known None = codes "not asked\n"
told_text names symbols known (Some search) = answer_text names symbols known search search.answer

-- a FENCE in its place that is enough, or may be
abbrev pub form_by : (w : ℕ) → Architecture → Answer → List ℕ
form_by w found answer.Same = codes "    enough: " ++ (word_text (Some w) ++ codes "\n")
form_by w found (answer.Other place) = codes ""
form_by w found (answer.Stops place) = codes ""
form_by w found (answer.Fewer place) = codes ""
form_by w found answer.Bounded = codes "    undecided: " ++ (word_text (Some w) ++ (bound_text found ++ codes "\n"))

abbrev pub form_text : (w : ℕ) → Option Search → List ℕ
form_text w None = codes ""
form_text w (Some search) = form_by w search.found search.answer

abbrev pub forms_text : List Search → List Patch → (address : ℕ) → List ℕ → List ℕ
forms_text searches own address [] = []
forms_text searches own address (w ∷ rest) = form_text w (search_in searches (patches_with address w own)) ++ forms_text searches own address rest

-- those of a FENCE
abbrev pub weaker_text : List Search → List Patch → (address : ℕ) → Option ℕ → List ℕ
weaker_text searches own address None = codes ""
weaker_text searches own address (Some w) = forms_text searches own address (weaker_words w)

abbrev pub weaker_text_by : Part → List Search → List Patch → (address : ℕ) → List ℕ
weaker_text_by Fence searches own address = weaker_text searches own address (word_in own address)
weaker_text_by Acquire searches own address = codes ""
weaker_text_by Release searches own address = codes ""

-- what a search without it told
abbrev pub without_text : List WordName → List Named → Audit → ImageOrdering → List ℕ
without_text names symbols a o = told_text names symbols a.known.outcomes.items (search_in a.searches.items (patches_without o a.own.items))

-- a hart may come there
abbrev pub is_met : List ImageOrdering → (address : ℕ) → Bool
is_met met address = list_any (λ (o : ImageOrdering). o.address == address) met

-- of one to which a hart may come, what a search without it told, and the weaker FENCEs
abbrev pub met_text : (met : Bool) → List WordName → List Named → Audit → ImageOrdering → List ℕ
met_text true names symbols a o = without_text names symbols a o ++ weaker_text_by o.part a.searches.items a.own.items o.address
met_text false names symbols a o = codes "never met\n"

abbrev pub ordering_text : List WordName → List Named → Audit → (previous : ℕ) → ImageOrdering → List ℕ
ordering_text names symbols a previous o =
    head_text symbols previous a.own.items o.address
    ++ (part_text o.part
    ++ met_text (is_met a.met.items o.address) names symbols a o)

abbrev pub ordering_texts : List WordName → List Named → Audit → (previous : ℕ) → List ImageOrdering → List ℕ
ordering_texts names symbols a previous [] = []
ordering_texts names symbols a previous (o ∷ rest) = ordering_text names symbols a previous o ++ ordering_texts names symbols a o.address rest

-- ---- those that are enough together

abbrev pub item_by : Part → Option ℕ → List ℕ
item_by Fence w = codes " " ++ word_text w
item_by Acquire w = codes " aq"
item_by Release w = codes " rl"

abbrev pub item_text : List Patch → ImageOrdering → List ℕ
item_text last o = hexadecimal o.address ++ item_by o.part (word_in last o.address)

-- those that are left, a comma between each two
abbrev pub items_text : (before : List ℕ) → List Patch → List ImageOrdering → List ℕ
items_text before last [] = []
items_text before last (o ∷ rest) = if is_kept last o then before ++ (item_text last o ++ items_text (codes ", ") last rest) else items_text before last rest

-- a search without it told another outcome, or another hart that stops, or one outcome less
abbrev pub is_another : Option Answer → Bool
is_another (Some (answer.Other place)) = true
is_another (Some (answer.Stops place)) = true
is_another (Some (answer.Fewer place)) = true
is_another _ = false

-- it was left out, or a search of the last program without it told so
abbrev pub is_needed_in : List Search → List Patch → ImageOrdering → Bool
is_needed_in searches last o = not (is_kept last o) || is_another (answer_in searches (patches_without o last))

-- none of those that are left can be left out
abbrev pub is_minimal : Audit → Bool
is_minimal a = list_all (is_needed_in a.searches.items a.last.items) a.met.items

abbrev pub minimal_text : Bool → List ℕ
minimal_text true = codes ""
minimal_text false = codes ", perhaps more than needed"

abbrev pub some_text : (some : Bool) → List Patch → List ImageOrdering → List ℕ
some_text false last orderings = codes ": none"
some_text true last orderings = items_text (codes ": ") last orderings

abbrev pub last_text : Audit → List ℕ
last_text a =
    codes "enough together"
    ++ (minimal_text (is_minimal a)
    ++ (some_text (list_any (is_kept a.last.items) a.met.items) a.last.items a.met.items
    ++ codes "\n"))

-- ---- all of it

-- a number and what it counts
abbrev pub counted : ℕ → (what : List ℕ) → List ℕ
counted number what = decimal number ++ what

abbrev pub outcomes_text : ℕ → List ℕ
outcomes_text outcomes = counted outcomes (codes " outcomes of the program as it is\n")

-- whose outcomes
abbrev pub searched_text : World → List ℕ
searched_text Model = codes "searched: "
searched_text Machine = codes "searched on this machine: "

abbrev pub count_text : World → (orderings programs outcomes : ℕ) → List ℕ
count_text world orderings programs outcomes =
    searched_text world ++ (counted orderings (codes " orderings, ") ++ (counted programs (codes " programs, ") ++ outcomes_text outcomes))

abbrev pub counts_text : Audit → List ℕ
counts_text a = count_text a.world (length a.met.items) (length a.searches.items + 1) (length a.known.outcomes.items)

abbrev pub whole_text : List WordName → List Named → Audit → List ℕ
whole_text names symbols a =
    ordering_texts names symbols a 0 a.orderings.items ++ (last_text a ++ counts_text a)

abbrev pub undecided_text : Audit → List ℕ
undecided_text a = codes "undecided: the program as it is" ++ (bound_text a.known ++ codes "\n")

-- where words of memory are called so, and instructions lie at these symbols
abbrev pub audit_text : List WordName → List Named → Audit → List ℕ
audit_text names symbols a = if is_whole a.known then whole_text names symbols a else undecided_text a
