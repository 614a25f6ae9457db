-- What is told of a message in words: where it stands, and what stands against it.
use Rattle.std.specs.Prelude.{ℕ, ◌^◌, Bool, true, false, List, [], ◌++◌, Option, Some, None, codes, decimal, if◌then◌else◌, nat_lt, option_map}
use Rattle.std.specs.Char.Escape.{escape_ascii}
use Rattle.std.specs.List.{flat_map}
use Rattle.coherent_log.specs.declared.clients.Held.{Held}
use Rattle.coherent_log.specs.declared.clients.Probed.{Probed}
use Rattle.coherent_log.specs.declared.verdict.Breach.{Breach}
use Rattle.coherent_log.specs.declared.verdict.Breach.TheVariants.{PermissionHeld, ProbeObeyed, OneWriter, DataAsked, DataKept}
use Rattle.lawful_log.specs.Awaited.{answer_name}
use Rattle.lawful_log.specs.declared.awaited.Awaited.{Awaited}
use Rattle.lawful_log.specs.declared.profile.Profile.{Profile}
use Rattle.lawful_log.specs.declared.profile.Profile.TheVariants.{Machine, TileLink}
use Rattle.lawful_log.specs.declared.rule.LogRule.{LogRule}
use Rattle.lawful_log.specs.declared.rule.LogRule.TheVariants as rule
use Rattle.log_text.specs.Meant.{is_word}
use Rattle.log_text.specs.declared.contradiction.Contradiction.{Contradiction}
use Rattle.log_text.specs.declared.objection.Objection.{Objection}
use Rattle.log_text.specs.declared.place.Place.{Place}
use Rattle.log_text.specs.declared.unanswered.Unanswered.{Unanswered}
use Rattle.log_text.specs.declared.unwritten.UnwrittenByte.{UnwrittenByte}
use Rattle.text_fields.specs.Fields.{word}
use Rattle.tl_types.specs.Message.{channel_of}
use Rattle.tl_types.specs.Shrink.{shrunk_by}
use Rattle.tl_types.specs.declared.message.Body.{Body}
use Rattle.tl_types.specs.declared.message.Body.TheVariants as body
use Rattle.tl_types.specs.declared.message.Channel.{Channel}
use Rattle.tl_types.specs.declared.message.Channel.TheVariants.{A, B, C, D, E}
use Rattle.tl_types.specs.declared.message.Msg.{Msg}
use Rattle.tl_types.specs.declared.permission.Perm.{Perm}
use Rattle.tl_types.specs.declared.permission.Perm.TheVariants.{Nothing, Branch, Trunk}
use Rattle.trace_recorder.specs.declared.logged.Logged.{Logged}
use Rattle.trace_text.specs.MessageParts.{heading}
use Rattle.trace_text.specs.Words as words

-- ---- where a message stands

-- a name, in which what isn't printable ASCII is escaped, and so are quotes and backslashes
abbrev pub name_text : Option (List ℕ) → List ℕ
name_text None = []
name_text (Some name) = codes " (" ++ (flat_map escape_ascii name ++ codes ")")

abbrev pub place_text : Place → List ℕ
place_text place = (codes "line " ++ decimal place.line) ++ name_text (option_map (λ name. name.now) place.name)

-- ---- the message

-- whether it comes from a hart's cache or goes there
abbrev pub way_text : Channel → List ℕ
way_text A = codes " from hart "
way_text B = codes " to hart "
way_text C = codes " from hart "
way_text D = codes " to hart "
way_text E = codes " from hart "

-- as a trace spells it, without its bytes, and of which hart
abbrev pub routed_text : Logged → List ℕ
routed_text entry = heading entry.message ++ (way_text (channel_of entry.message) ++ decimal entry.hart)

-- ---- what stands against it by the lawful log

abbrev pub front_text : Option Msg → Msg → List ℕ
front_text None message = codes "its queue is empty"
front_text (Some front) message =
    if is_word (heading front) (heading message) then codes "the message in front of its queue has other bytes"
    else heading front ++ codes " is in front of its queue"

abbrev pub permission_text : Profile → List ℕ
permission_text Machine = codes "the Acquire that it answers asked for another permission"
permission_text TileLink = codes "the Acquire that it answers asked for more"

abbrev pub data_text : Profile → List ℕ
data_text Machine = codes "a Grant is without data exactly where its Acquire was BtoT and the copy wasn't lost meanwhile"
data_text TileLink = codes "a Grant is without data only where its Acquire was BtoT and the copy wasn't lost meanwhile"

abbrev pub awaited_text : Option Awaited → List ℕ
awaited_text None = codes "a GrantAck or a ProbeAck of this line wasn't taken yet"
awaited_text (Some a) = codes "hart " ++ (decimal a.hart ++ (codes "'s " ++ (answer_name a.answer ++ codes " of this line wasn't taken yet")))

abbrev pub release_text : (awaits_release_ack : Bool) → List ℕ
release_text true = codes "the ReleaseAck of the hart's earlier Release of this line wasn't taken yet"
release_text false = codes "the Grant of the hart's Acquire of this line wasn't taken yet"

abbrev pub rule_text : LogRule → Objection → List ℕ
rule_text rule.InOrder o = front_text o.front o.entry.message
rule_text rule.Question o = codes "no question that was taken is left for it to answer"
rule_text rule.Permission o = permission_text o.profile
rule_text rule.Data o = data_text o.profile
rule_text rule.AcquireOnce o = codes "the Grant of the hart's earlier Acquire of this line wasn't taken yet"
rule_text rule.ProbeOnce o = codes "the ProbeAck of the earlier Probe of this line to the hart wasn't taken yet"
rule_text rule.GrantAlone o = awaited_text o.awaited
rule_text rule.ReleaseAlone o = release_text o.awaits_release_ack

abbrev pub own_text : Bool → List ℕ
own_text true = codes " (a rule of this machine's own: --profile tilelink allows it)"
own_text false = []

abbrev pub objection_text : Objection → List ℕ
objection_text o = (routed_text o.entry ++ codes ": ") ++ (rule_text o.rule o ++ own_text o.own)

-- ---- by the coherent log

abbrev pub perm_text : Perm → List ℕ
perm_text Nothing = codes "nothing"
perm_text Branch = codes "Branch"
perm_text Trunk = codes "Trunk"

abbrev pub perm_in : Option Held → Perm
perm_in None = Nothing
perm_in (Some held) = held.perm

-- behind which message
abbrev pub by_text : Option Place → List ℕ
by_text None = []
by_text (Some place) = codes " by " ++ place_text place

abbrev pub holding_text : (hart : ℕ) → Perm → Option Place → List ℕ
holding_text hart perm cause = (codes "hart " ++ (decimal hart ++ (codes " holds " ++ (perm_text perm ++ codes " of this line")))) ++ by_text cause

-- what a message of a hart that holds this has to begin with
abbrev pub beginning_text : Body → Perm → List ℕ
beginning_text (body.AcquireBlock grow) Trunk = codes ", and there is no more to ask for"
beginning_text _ Trunk = codes ", so it has to begin with T"
beginning_text _ Branch = codes ", so it has to begin with B"
beginning_text _ Nothing = codes ", so it has to begin with N"

-- by which change a Probe is answered
abbrev pub answered_text : Perm → Option Probed → Option Place → List ℕ
answered_text perm (Some probe) (Some place) =
    (codes ", so the Probe" ++ (words.cap probe.cap ++ codes " of ")) ++ (place_text place ++ (codes " is answered by" ++ words.change (shrunk_by perm probe.cap).1))
answered_text perm _ _ = []

abbrev pub brought_text : Option Place → List ℕ
brought_text None = codes "its bytes aren't those of memory at the start, which I lines tell (zeros where none does)"
brought_text (Some place) = codes "its bytes aren't those that " ++ (place_text place ++ codes " brought")

abbrev pub breach_text : Breach → Contradiction → List ℕ
breach_text (PermissionHeld held) c = holding_text c.entry.hart (perm_in held) c.cause ++ beginning_text c.entry.message.body (perm_in held)
breach_text (ProbeObeyed held probe) c = holding_text c.entry.hart (perm_in held) c.cause ++ answered_text (perm_in held) probe c.probe
breach_text (OneWriter holder held) c = holding_text holder (perm_in held) c.cause ++ codes ", and has to be probed first"
breach_text (DataAsked held) c = holding_text c.entry.hart (perm_in held) c.cause ++ codes ", and only a hart that holds Trunk has data to send"
breach_text (DataKept brought) c = brought_text c.cause

abbrev pub contradiction_text : Contradiction → List ℕ
contradiction_text c = (routed_text c.entry ++ codes ": ") ++ breach_text c.breach c

-- ---- where no answer follows it

abbrev pub answer_text : Body → List ℕ
answer_text (body.AcquireBlock grow) = codes "Grant"
answer_text (body.ProbeBlock cap) = codes "ProbeAck"
answer_text (body.Release change) = codes "ReleaseAck"
answer_text (body.ReleaseData change bytes) = codes "ReleaseAck"
answer_text (body.Grant cap) = codes "GrantAck"
answer_text (body.GrantData cap bytes) = codes "GrantAck"
answer_text _ = codes "answer"

abbrev pub unanswered_text : Unanswered → List ℕ
unanswered_text q = routed_text q.entry ++ (codes ": its " ++ (answer_text q.entry.message.body ++ codes " wasn't taken by the end"))

-- ---- where it has a byte that its hart neither was granted nor wrote

-- a line's bytes all lie below 2^32
abbrev pub address_text : ℕ → List ℕ
address_text address = if nat_lt address (2 ^ 32) then word address else codes "an address over 32 bits"

abbrev pub at_text : ℕ → List ℕ
at_text address = codes ": its byte at " ++ address_text address

abbrev pub unwritten_text : UnwrittenByte → List ℕ
unwritten_text b = routed_text b.entry ++ (at_text b.address ++ codes " is neither the one that its hart was granted nor one that it wrote")
