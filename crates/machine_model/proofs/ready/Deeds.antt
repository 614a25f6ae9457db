-- A deed and a drain find what they rest on.
use Rattle.std.proofs.Common.{ℕ}
use Rattle.std.specs.Prelude.{length}
use Rattle.machine_model.specs.Events.{hart_of}
use Rattle.machine_model.specs.Ready.{IsReadyDeed}
use Rattle.machine_model.specs.Views.{State, node_at}
use Rattle.machine_model.specs.declared.act.Act.TheVariants as act
use Rattle.machine_model.specs.declared.act.Deed.TheVariants as deed
use Rattle.machine_types.specs.declared.event.Event.{Event}
use Rattle.machine_model.proofs.coherence.LineStands.{is_writer}
use Rattle.machine_model.proofs.coherence.WorldFits.{IsFit}
use Rattle.rv32_decode.specs.declared.instruction.Instr.{Instr}
use Rattle.rv32_exec.specs.Meaning.{access_of}
use Rattle.tl_types.specs.declared.line.LineData.{LineData}
use Rattle.hart.specs.declared.retired.Retired.{Retired}
use Rattle.machine_model.specs.declared.act.Deed.{Deed}
use Rattle.machine_model.specs.Ready.{IsReadyAct}
use Rattle.machine_model.proofs.Events.{IsMove}
use Rattle.machine_model.proofs.Plans.{HasPlace, Retires, fetched_at}
use Rattle.machine_model.proofs.bytes.Acts.{IsAlignedDeed, deed_aligned}
use Rattle.machine_model.proofs.coherence.WorldEvents.{act_aligned, deed_may, trunk_may}
use Rattle.machine_model.proofs.coherence.WorldSteps.{IsAllowed}
use Rattle.machine_model.proofs.order.Deeds.{facts}

module _ (s : State) (last : ℕ → LineData) (i : IsFit s last) where
  -- an instruction's deed has a place for what it stores, and may write its word
  pub deed_ready : (h : ℕ) (entry : Retired) (j : Instr) (d : Deed) → Retires s h entry j d → IsReadyDeed h d s
  deed_ready h entry j d r =
      let n = node_at s h in
      let known = facts j n.hart.pc n.hart.regs (length s.trace.image.bytes) r.goes_on.no_stop in
      go d (deed_may s last i h entry j d r) (deed_aligned s.views.config.model n (fetched_at s h j) entry (access_of j n.hart.regs) d known r.does.fit) r.does.place
    where
      go : (d : Deed) → IsAllowed s h d → IsAlignedDeed d → HasPlace (node_at s h).buffer d → IsReadyDeed h d s
      go (deed.Store store) may aligned place = place
      go (deed.Sc word value) may aligned place = record { aligned = aligned; trunk = is_writer _ may }
      go (deed.Amo word value) may aligned place = record { aligned = aligned; trunk = is_writer _ may }
      go _ may aligned place = tt

  pub drain_ready : (e : Event) (word : ℕ) → IsMove s e (act.Drain word) → IsReadyAct (hart_of e) (act.Drain word) s
  drain_ready e word m =
      let rests = m.rests.1 in
      (rests.oldest, record { aligned = act_aligned s e (act.Drain word) m; trunk = is_writer _ (trunk_may s last i (hart_of e) word rests.trunk) })
