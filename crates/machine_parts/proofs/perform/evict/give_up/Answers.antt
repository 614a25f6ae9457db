use Rattle.std.proofs.Common.{◌≡◌, Option, refl, sym, ◌∙◌, subst}
use Rattle.client_cache.specs.Cache.{evicted}
use Rattle.client_cache.specs.declared.answers.Evict.{Evict}
use Rattle.client_cache.specs.declared.answers.Evict.TheVariants.{NotHeld, AcquirePending, ReleaseFull, Evicted}
use Rattle.machine_model.specs.Changing.{sent_if_evicted}
use Rattle.machine_model.specs.Deliveries.{with_less}
use Rattle.machine_model.specs.Laws.{QueuesFit}
use Rattle.machine_model.specs.Views.{node_at, sent, with_node}
use Rattle.tl_types.specs.declared.line.LineData.{LineData}
use Rattle.tl_types.specs.declared.message.Body.{Body}
use Rattle.tl_types.specs.declared.permission.Change.{Change}
use Rattle.machine_parts.specs.Unstalled.{IsGivenUp}
use Rattle.machine_parts.proofs.Rooms.{had_room_after}
use Rattle.machine_parts.proofs.perform.evict.give_up.Goals as goal

not_given_up : (e : Evict) → ((change : Change) (bytes : Option LineData) → e ≡ Evicted change bytes → ⊥) → IsGivenUp e → ⊥
not_given_up (Evicted change bytes) other given = other change bytes refl
not_given_up NotHeld other given = given
not_given_up AcquirePending other given = given
not_given_up ReleaseFull other given = given

pub unreachable-requires : goal.unreachable-requires
unreachable-requires c = not_given_up c.lose.result c.in_default.not-Evicted (subst IsGivenUp (sym c.lose.ensures.answer) c.requires.unstalled)

pub send-requires-clause-queue : goal.send-requires-clause-queue
send-requires-clause-queue c =
    let h = c.args.hart in
    let s = c.args.parts.now.state in
    let n = with_less (evicted (node_at s h).cache c.args.line).1 c.args.line (node_at s h) in
    let fits = subst (λ (e : Evict). QueuesFit (sent_if_evicted h c.args.line e (with_node h n s))) (sym c.lose.ensures.answer ∙ c.in-Evicted.is) c.requires.room_in_queue in
    had_room_after h (record { line = c.args.line; body = c.release_body-body.result }) n s c.lose.new.parts.state c.lose.ensures.state c.requires.hart
    (subst (λ (b : Body). QueuesFit (sent h (record { line = c.args.line; body = b }) (with_node h n s))) (sym c.release_body-body.ensures) fits)
