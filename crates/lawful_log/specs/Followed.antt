-- What the one pass keeps of a log.
use Rattle.std.specs.Prelude.{ℕ, ◌≡◌, ◌+◌, ◌<◌, ◌^◌, Bool, false, ◌&&◌, ◌||◌, not, ◌==◌, if◌then◌else◌, Option, List, [], ◌∷◌, ◌++◌, length, drop, nat_eq, nat_lt, slice_get}
use Rattle.std.specs.BTreeMap as tree
use Rattle.std.specs.HashMap.{HashMap, get}
use Rattle.std.specs.Option.{option_map_or}
use Rattle.std.specs.Ordering.{nat_cmp}
use Rattle.std.specs.VecDeque.{deque_items}
use Rattle.machine_model.specs.LawfulLog.{concerns, grows_taken, is_acquire, is_grant, is_loss, is_of_line, is_on, is_sent, lost_since_asking, sent_count}
use Rattle.lawful_log.specs.Facts.{Known, counted, no_tallies, tallies_of}
use Rattle.lawful_log.specs.declared.followed.Followed.{Followed}
use Rattle.lawful_log.specs.declared.lines.HartLog.{HartLog}
use Rattle.lawful_log.specs.declared.lines.LineLog.{LineLog}
use Rattle.lawful_log.specs.declared.queues.Queues.{Queues}
use Rattle.lawful_log.specs.declared.tallies.Tallies.{Tallies}
use Rattle.tl_types.specs.Message.{channel_of}
use Rattle.tl_types.specs.declared.message.Body.{Body}
use Rattle.tl_types.specs.declared.message.Body.TheVariants.{AcquireBlock, Grant, GrantData}
use Rattle.tl_types.specs.declared.message.Channel.{Channel}
use Rattle.tl_types.specs.declared.message.Channel.TheVariants.{A, B, C, D, E}
use Rattle.tl_types.specs.declared.message.Msg.{Msg}
use Rattle.tl_types.specs.declared.permission.Grow.{Grow}
use Rattle.trace_recorder.specs.declared.logged.Direction.{Direction}
use Rattle.trace_recorder.specs.declared.logged.Direction.TheVariants.{Sent, Taken}
use Rattle.trace_recorder.specs.declared.logged.Logged.{Logged}

-- ---- what stands of a line and a hart; where there is no entry, nothing came yet

pub record HartKnown : Type 0 where
  pub tallies : Tallies
  -- what the Acquires that were taken asked for, but for those in whose place a Grant was sent
  pub asked : List Grow
  pub lost : Bool

abbrev pub nothing_known : HartKnown
nothing_known = record { tallies = no_tallies; asked = []; lost = false }

abbrev pub hart_known : HartLog → HartKnown
hart_known hart = record { tallies = hart.tallies; asked = deque_items hart.asked; lost = hart.lost }

abbrev pub known_at : List HartLog → ℕ → HartKnown
known_at harts h = option_map_or hart_known (slice_get harts h) nothing_known

module _ {S : Type 0} where
  abbrev pub known_in : HashMap ℕ LineLog S → ℕ → ℕ → HartKnown
  known_in m h line = option_map_or (λ (l : LineLog). known_at l.harts.items h) (get nat_eq m line) nothing_known

  abbrev pub all_in : HashMap ℕ LineLog S → ℕ → Tallies
  all_in m line = option_map_or (λ (l : LineLog). l.all) (get nat_eq m line) no_tallies

-- what a message of the hart is judged by
abbrev pub known_from : HartKnown → (line : Tallies) → Known
known_from k line = record { hart = k.tallies; line = line; asked = slice_get k.asked 0; lost = k.lost }

abbrev pub waiting_on : Queues → Channel → ℕ → List Msg
waiting_on q A h = option_map_or deque_items (tree.get nat_cmp q.a h) []
waiting_on q B h = option_map_or deque_items (tree.get nat_cmp q.b h) []
waiting_on q C h = option_map_or deque_items (tree.get nat_cmp q.c h) []
waiting_on q D h = option_map_or deque_items (tree.get nat_cmp q.d h) []
waiting_on q E h = option_map_or deque_items (tree.get nat_cmp q.e h) []

-- ---- one more entry

-- an Acquire that is taken asks, unless a Grant was sent in its place before; with each Grant that is sent the first has its answer
abbrev pub asked_after : Direction → Body → Tallies → List Grow → List Grow
asked_after Taken (AcquireBlock grow) t asked = if nat_lt t.acquires.taken t.grants.sent then asked else asked ++ grow ∷ []
asked_after Sent (Grant cap) t asked = drop 1 asked
asked_after Sent (GrantData cap bytes) t asked = drop 1 asked
asked_after _ _ t asked = asked

-- an Acquire that is sent asks anew, and a ProbeAck with BtoN that is taken is a loss
abbrev pub lost_by : Logged → Bool → Bool
lost_by e lost = if is_sent e.direction then (not (is_acquire e.message.body) && lost) else (is_loss e.message.body || lost)

abbrev pub noted : Logged → HartKnown → HartKnown
noted e k = record {
  tallies = counted e k.tallies;
  asked = asked_after e.direction e.message.body k.tallies k.asked;
  lost = lost_by e k.lost;
}

abbrev pub moved : Direction → Msg → List Msg → List Msg
moved Sent m waiting = waiting ++ m ∷ []
moved Taken m waiting = drop 1 waiting

-- what waits in a queue behind an entry
abbrev pub waiting_after : Channel → ℕ → Logged → List Msg → List Msg
waiting_after c h e waiting = if is_on c (channel_of e.message) then (if e.hart == h then moved e.direction e.message waiting else waiting) else waiting

-- what waits in a queue behind a log: with each message that is taken the first one leaves it, whichever was taken
abbrev pub waiting_from : Channel → ℕ → List Msg → List Logged → List Msg
waiting_from c h waiting [] = waiting
waiting_from c h waiting (e ∷ log) = waiting_from c h (waiting_after c h e waiting) log

abbrev pub waiting_of : Channel → ℕ → List Logged → List Msg
waiting_of c h log = waiting_from c h [] log

abbrev pub waits_first : ℕ → Msg → List Logged → Option Msg
waits_first h m log = slice_get (waiting_of (channel_of m) h log) 0

-- ---- the maps and the queues say of a log what the rules ask for

abbrev pub hart_known_of : ℕ → ℕ → List Logged → HartKnown
hart_known_of h line log = record {
  tallies = tallies_of (concerns h line) log;
  asked = drop (sent_count is_grant (concerns h line) log) (grows_taken h line log);
  lost = lost_since_asking h line false log;
}

pub record Follows (f : Followed) (log : List Logged) : Type 0 where
  pub harts : (h line : ℕ) → known_in f.lines h line ≡ hart_known_of h line log
  pub lines : (line : ℕ) → all_in f.lines line ≡ tallies_of (is_of_line line) log
  pub queues : (c : Channel) (h : ℕ) → waiting_on f.queues c h ≡ waiting_of c h log

-- of some log to which one more entry can be added
abbrev pub IsFollowable : Followed → Type 0
IsFollowable f = (log : List Logged) × (Follows f log × (length log + 1 < 2 ^ 64))
