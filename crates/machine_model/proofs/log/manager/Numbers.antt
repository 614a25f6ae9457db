-- The numbers of messages of a hart and a line, by what the manager notes of them.
use Rattle.std.proofs.Common.{ℕ, ◌+◌, ◌<◌, true, List, ◌≡◌, refl, length}
use native.Mathlib.Omega.{arith}
use Rattle.directory.specs.Directory.{line_at}
use Rattle.directory.specs.Lines.{Line, known_at}
use Rattle.machine_model.specs.LawfulLog.{concerns, is_acquire, is_grant, is_grant_ack, is_probe, is_probe_ack, sent_count, taken_count}
use Rattle.machine_model.specs.Views.{State, line_size, no_node, node_at, place_of}
use Rattle.machine_model.proofs.coherence.LineKept.{part_of}
use Rattle.machine_model.proofs.coherence.LineStands.{Part, Side, Stands}
use Rattle.machine_model.proofs.log.Caches.{IsFlagged}
use Rattle.machine_model.proofs.log.Counts.{bit}
use Rattle.machine_model.proofs.log.manager.Answers.{IsAnswering}
use Rattle.machine_model.proofs.log.manager.Losses.{IsLosing}
use Rattle.machine_model.proofs.log.manager.Parts.{acquires_open, grants_open, is_asking, is_taking, probes_open}
use Rattle.machine_model.proofs.log.manager.Queues.{GoesOn, count_in, in_queue}
use Rattle.machine_model.proofs.log.Sends.{Known}
use Rattle.machine_model.proofs.runs.Runs.{AllStand}
use Rattle.machine_model.proofs.coherence.WorldFits.{kit_of}
use Rattle.machine_model.proofs.coherence.WorldKept.{is_line, side}
use Rattle.tl_types.specs.declared.message.Body.TheVariants.{AcquireBlock, ProbeBlock, ProbeAck, ProbeAckData, Grant, GrantData, GrantAck}
use Rattle.tl_types.specs.declared.message.Channel.TheVariants.{A, B, C, D, E}
use Rattle.trace_recorder.specs.declared.logged.Logged.{Logged}

-- what is known of a state before the manager's messages are looked at
pub record IsPlain (s : State) : Type 0 where
  pub known : Known s
  pub flagged : IsFlagged s
  pub answering : IsAnswering s
  pub losing : IsLosing s
  pub standing : AllStand s

-- the line lies in memory
abbrev pub IsLine : State → ℕ → Type 0
IsLine s l = is_line s.trace.image (line_size s) (length s.views.nodes) l ≡ true

-- what the manager notes of the line, and how it looks from a hart
abbrev pub noted : State → ℕ → Line
noted s l = line_at s.views.notes (place_of (line_size s) l)

abbrev pub seen_at : State → ℕ → ℕ → Side
seen_at s k l = side (kit_of (node_at s k)) (known_at (noted s l) k) l

abbrev pub part_at : State → ℕ → ℕ → Part
part_at s k l = part_of (noted s l).transaction k

acquires_on : GoesOn is_acquire A
acquires_on (AcquireBlock grow) f = cc f
acquires_on _ f = refl

pub probes_on : GoesOn is_probe B
probes_on (ProbeBlock cap) f = cc f
probes_on _ f = refl

pub probe_acks_on : GoesOn is_probe_ack C
probe_acks_on (ProbeAck change) f = cc f
probe_acks_on (ProbeAckData change bytes) f = cc f
probe_acks_on _ f = refl

pub grants_on : GoesOn is_grant D
grants_on (Grant cap) f = cc f
grants_on (GrantData cap bytes) f = cc f
grants_on _ f = refl

pub grant_acks_on : GoesOn is_grant_ack E
grant_acks_on GrantAck f = cc f
grant_acks_on _ f = refl

module _ (s : State) (p : IsPlain s) (k l : ℕ) (in_k : k < length s.views.nodes) (on : IsLine s l) where
  abbrev log : List Logged
  log = s.trace.log

  abbrev x : Side
  x = seen_at s k l

  pub stands : Stands (p.known.0.0 l) (part_at s k l) (seen_at s k l)
  stands = (p.known.0.1.well.kept l on).stands k

  pub probes_are : sent_count is_probe (concerns k l) s.trace.log ≡ taken_count is_probe_ack (concerns k l) s.trace.log + bit (known_at (noted s l) k).awaited
  probes_are =
      let asked : sent_count is_probe (concerns k l) log ≡ taken_count is_probe (concerns k l) log + count_in is_probe x.b = in_queue is_probe B probes_on k l s (no_node s) p.known.1 in_k in
      let said : sent_count is_probe_ack (concerns k l) log ≡ taken_count is_probe_ack (concerns k l) log + count_in is_probe_ack x.c = in_queue is_probe_ack C probe_acks_on k l s (no_node s) p.known.1 in_k in
      let answered : taken_count is_probe (concerns k l) log ≡ sent_count is_probe_ack (concerns k l) log = p.answering.probes k l in
      let under_way : count_in is_probe x.b + count_in is_probe_ack x.c ≡ bit x.awaited = probes_open stands in
      omega (arith, asked, said, answered, under_way)

  pub grants_are : sent_count is_grant (concerns k l) s.trace.log ≡ taken_count is_grant_ack (concerns k l) s.trace.log + bit (is_taking (part_at s k l))
  grants_are =
      let asked : sent_count is_grant (concerns k l) log ≡ taken_count is_grant (concerns k l) log + count_in is_grant x.d = in_queue is_grant D grants_on k l s (no_node s) p.known.1 in_k in
      let said : sent_count is_grant_ack (concerns k l) log ≡ taken_count is_grant_ack (concerns k l) log + count_in is_grant_ack x.e = in_queue is_grant_ack E grant_acks_on k l s (no_node s) p.known.1 in_k in
      let answered : taken_count is_grant (concerns k l) log ≡ sent_count is_grant_ack (concerns k l) log = p.answering.grants k l in
      let under_way : count_in is_grant x.d + count_in is_grant_ack x.e ≡ bit (is_taking (part_at s k l)) = grants_open stands in
      omega (arith, asked, said, answered, under_way)

  pub acquires_are : taken_count is_acquire (concerns k l) s.trace.log ≡ sent_count is_grant (concerns k l) s.trace.log + bit (is_asking (part_at s k l))
  acquires_are =
      let asked : sent_count is_acquire (concerns k l) log ≡ taken_count is_acquire (concerns k l) log + count_in is_acquire x.a = in_queue is_acquire A acquires_on k l s (no_node s) p.known.1 in_k in
      let said : sent_count is_grant (concerns k l) log ≡ taken_count is_grant (concerns k l) log + count_in is_grant x.d = in_queue is_grant D grants_on k l s (no_node s) p.known.1 in_k in
      let answered : sent_count is_acquire (concerns k l) log ≡ taken_count is_grant (concerns k l) log + bit x.acquiring = p.flagged.asked k l (no_node s) in_k in
      let under_way : bit x.acquiring ≡ count_in is_acquire x.a + count_in is_grant x.d + bit (is_asking (part_at s k l)) = acquires_open stands in
      omega (arith, asked, said, answered, under_way)
