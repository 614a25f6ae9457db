-- What a step retires is a step of its hart's run.
use Rattle.std.proofs.Common.{◌≡◌, ℕ, true, Some, None, refl, ap, ◌∙◌}
use Rattle.std.specs.Prelude.{is_none, length}
use Rattle.std.proofs.lemmas.Bool.{and_from, eq-eqb}
use Rattle.elf_loader.specs.Image.{Initial, word_at}
use Rattle.hart.specs.declared.retired.Retired.{Retired}
use Rattle.hart.specs.Run.{can_fetch, can_do, has_answers, is_running, is_step}
use Rattle.machine_model.specs.Views.{Node}
use Rattle.rv32_decode.specs.Rows.{decoded}
use Rattle.rv32_decode.specs.declared.instruction.Instr.{Instr}
use Rattle.rv32_exec.specs.Meaning.{access_of, stop_of}
use Rattle.machine_model.specs.declared.act.Deed.{Deed}
use Rattle.machine_model.specs.Views.{State, node_at}
use Rattle.machine_model.proofs.Plans.{Retires}

step_from : (image : Initial) (n : Node) (w : ℕ) (i : Instr) (e : Retired) → w ≡ word_at image n.hart.pc → decoded w ≡ Some i → is_running n.hart.status ≡ true → can_fetch image n.hart.pc ≡ true → stop_of i n.hart.pc n.hart.regs (length image.bytes) ≡ None → e.pc ≡ n.hart.pc → e.word ≡ w → has_answers (access_of i n.hart.regs) e ≡ true → is_step image n.hart e ≡ true
step_from image n w i e ew d r c s pc word a =
    and_from _ _ (and_from _ _ (and_from _ _ (and_from _ _ r (eq-eqb e.pc n.hart.pc pc)) c) (eq-eqb e.word (word_at image n.hart.pc) (word ∙ ew)))
    (ap (can_do (length image.bytes) n.hart e) (ap decoded word ∙ d) ∙ and_from (is_none (stop_of i n.hart.pc n.hart.regs (length image.bytes))) _ (ap is_none s) a)

-- it is at the hart's pc, and its instruction doesn't stop
pub retires_step : (s : State) (h : ℕ) (e : Retired) (i : Instr) (d : Deed) → Retires s h e i d → (is_step s.trace.image (node_at s h).hart e ≡ true) × (decoded e.word ≡ Some i)
retires_step s h e i d r =
    let on = r.goes_on in
    (step_from s.trace.image (node_at s h) (word_at s.trace.image (node_at s h).hart.pc) i e refl on.decodes on.running on.fetched on.no_stop r.does.pc r.does.word r.does.answers, ap decoded r.does.word ∙ on.decodes)
