use Rattle.std.proofs.Common.{◌∙◌, ap, not, sym}
use Rattle.std.proofs.lemmas.Bool.{and_left, and_right, true≢false}
use Rattle.gate_plain_checker.proofs.Seen.{source_own, source_passed, source_taken}
use Rattle.gate_plain_checker.proofs.sources.source.Goals as goal
use Rattle.gate_plain_checker.proofs.sources.source.Goals.{else-stores_to-via-then-stores_to+else-precedes, else-stores_to-via-else-stores_to, else-not-is_behind-via-then-not-is_behind+else-is_same, else-not-is_behind-via-else-not-is_behind, then-not-is_behind-2, else-not-is_behind-2}

pub loop-rest-preserved-then-is_same : goal.loop-rest-preserved-then-is_same
loop-rest-preserved-then-is_same c = c.loop-rest.invariant ∙ source_own c.args.load.now c.args.x c.loop-rest.is_behind c.is_same.result c.loop-rest.last c.loop-rest.rest.now _ c.in-len1-up.len_at_least c.if-not-is_behind.true c.is_same.ensures c.if-is_same.true

pub loop-rest-preserved-then-precedes : goal.loop-rest-preserved-then-precedes
loop-rest-preserved-then-precedes c =
    c.loop-rest.invariant
    ∙ source_taken c.args.load.now c.args.x c.loop-rest.is_behind c.loop-rest.last c.loop-rest.rest.now _ c.in-len1-up.len_at_least
    (elim c.else-not-is_behind.branch [
      | else-not-is_behind-via-then-not-is_behind+else-is_same w ↦ λ e. sym w.is_same.ensures ∙ w.if-is_same.false
      | else-not-is_behind-via-else-not-is_behind w ↦ λ e. absurd (true≢false (sym w.if-not-is_behind.false ∙ e))
    ])
    (sym c.stores_to.ensures ∙ c.if-stores_to.true)
    (elim c.if-not-is_behind-2.branch [
      | then-not-is_behind-2 w ↦ λ e. absurd (true≢false (sym e ∙ w.if-not-is_behind-2.true))
      | else-not-is_behind-2 w ↦ λ e. sym w.precedes.ensures ∙ (sym w.value-is ∙ c.if-precedes.true)
    ])

pub loop-rest-preserved : goal.loop-rest-preserved
loop-rest-preserved c =
    c.loop-rest.invariant
    ∙ source_passed c.args.load.now c.args.x c.loop-rest.is_behind c.loop-rest.last c.loop-rest.rest.now _ c.in-len1-up.len_at_least
    (elim c.else-not-is_behind.branch [
      | else-not-is_behind-via-then-not-is_behind+else-is_same w ↦ λ e. sym w.is_same.ensures ∙ w.if-is_same.false
      | else-not-is_behind-via-else-not-is_behind w ↦ λ e. absurd (true≢false (sym w.if-not-is_behind.false ∙ e))
    ])
    (elim c.else-stores_to.branch [
      | else-stores_to-via-then-stores_to+else-precedes w ↦ elim w.if-not-is_behind-2.branch [
        | then-not-is_behind-2 v ↦ λ e. absurd (true≢false (sym (ap not v.if-not-is_behind-2.true) ∙ (sym v.value-is ∙ w.if-precedes.false)))
        | else-not-is_behind-2 v ↦ λ e. absurd (true≢false (sym v.if-not-is_behind-2.false ∙ e))
      ]
      | else-stores_to-via-else-stores_to w ↦ λ e. sym c.stores_to.ensures ∙ w.if-stores_to.false
    ])
    (elim c.else-stores_to.branch [
      | else-stores_to-via-then-stores_to+else-precedes w ↦ elim w.if-not-is_behind-2.branch [
        | then-not-is_behind-2 v ↦ absurd (true≢false (sym (ap not v.if-not-is_behind-2.true) ∙ (sym v.value-is ∙ w.if-precedes.false)))
        | else-not-is_behind-2 v ↦ and_right _ _ (sym v.precedes.ensures ∙ (sym v.value-is ∙ w.if-precedes.false))
      ]
      | else-stores_to-via-else-stores_to w ↦ and_left _ _ (sym c.stores_to.ensures ∙ w.if-stores_to.false)
    ])
