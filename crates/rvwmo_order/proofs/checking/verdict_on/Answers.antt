use Rattle.std.proofs.Common.{◌≡◌, ◌∙◌, ap, arith, subst, sym, List}
use Rattle.std.proofs.lemmas.Result.{IfOk-weaker}
use Rattle.memory_model.specs.declared.operation.Operation.{Operation}
use Rattle.memory_model.specs.Items.{Item}
use Rattle.memory_model.specs.Traces.{instructions, operations_at}
use Rattle.rvwmo_order.specs.Bounds.{GivesEach, HasEach}
use Rattle.rvwmo_order.specs.Looks.{most_looks}
use Rattle.rvwmo_order.specs.Ranks.{AreDistinctOperations, AreSmall}
use Rattle.rvwmo_order.proofs.Given.{given_each, small_each}
use Rattle.rvwmo_order.proofs.Verdicts.{distinct_operations, same_judged}
use Rattle.rvwmo_order.proofs.Whole.{has_each}
use Rattle.rvwmo_order.proofs.checking.verdict_on.Goals as goal

pub of-requires-clause-distinct : goal.of-requires-clause-distinct
of-requires-clause-distinct g c =
    let t = c.args.trace.now.history in
    let listed = c.in_ok-operations_at.ensures ∙ ap (λ hs. operations_at hs c.args.order.now) c.requires.all in
    subst (λ (xs : List Operation). AreDistinctOperations xs) (sym listed) (distinct_operations t c.args.order.now c.requires.whole)

pub of-requires-clause-small : goal.of-requires-clause-small
of-requires-clause-small g c =
    let t = c.args.trace.now.history in
    let listed = c.in_ok-operations_at.ensures ∙ ap (λ hs. operations_at hs c.args.order.now) c.requires.all in
    subst (λ (xs : List Operation). AreSmall xs) (sym listed) (small_each (instructions t) (operations_at (instructions t) c.args.order.now) (given_each t c.args.order.now))

pub judge-requires-clause-gives : goal.judge-requires-clause-gives
judge-requires-clause-gives g c =
    let t = c.args.trace.now.history in
    let listed : c.in_ok-ranking.ranking ≡ operations_at (instructions t) c.args.order.now = c.in_ok-ranking.ensures.order ∙ (c.in_ok-operations_at.ensures ∙ ap (λ hs. operations_at hs c.args.order.now) c.requires.all) in
    subst (λ (hs : List (List Item)). GivesEach hs c.in_ok-ranking.ranking) (sym c.requires.all) (subst (λ (xs : List Operation). GivesEach (instructions t) xs) (sym listed) (given_each t c.args.order.now))

pub judge-requires-clause-whole : goal.judge-requires-clause-whole
judge-requires-clause-whole g c =
    let t = c.args.trace.now.history in
    let listed : c.in_ok-ranking.ranking ≡ operations_at (instructions t) c.args.order.now = c.in_ok-ranking.ensures.order ∙ (c.in_ok-operations_at.ensures ∙ ap (λ hs. operations_at hs c.args.order.now) c.requires.all) in
    subst (λ (hs : List (List Item)). HasEach hs c.in_ok-ranking.ranking) (sym c.requires.all) (subst (λ (xs : List Operation). HasEach (instructions t) xs) (sym listed) (has_each t c.args.order.now c.requires.whole (distinct_operations t c.args.order.now c.requires.whole)))

pub judge-requires-clause-distinct : goal.judge-requires-clause-distinct
judge-requires-clause-distinct g c =
    let t = c.args.trace.now.history in
    let listed : c.in_ok-ranking.ranking ≡ operations_at (instructions t) c.args.order.now = c.in_ok-ranking.ensures.order ∙ (c.in_ok-operations_at.ensures ∙ ap (λ hs. operations_at hs c.args.order.now) c.requires.all) in
    subst (λ (xs : List Operation). AreDistinctOperations xs) (sym listed) (distinct_operations t c.args.order.now c.requires.whole)

pub returns-clause-verdict : goal.returns-clause-verdict
returns-clause-verdict g c =
    let t = c.args.trace.now.history in
    let listed : c.in_ok-ranking.ranking ≡ operations_at (instructions t) c.args.order.now = c.in_ok-ranking.ensures.order ∙ (c.in_ok-operations_at.ensures ∙ ap (λ hs. operations_at hs c.args.order.now) c.requires.all) in
    let same = same_judged c.args.model c.image.result.now t.image c.args.harts.now (instructions t) c.in_ok-ranking.ranking (operations_at (instructions t) c.args.order.now) c.image.ensures c.requires.all listed in
    IfOk-weaker c.judge.result _ _ (λ v e. e ∙ same) c.judge.ensures

pub returns-clause-looks : goal.returns-clause-looks
returns-clause-looks g c =
    let listed = c.in_ok-operations_at.ensures ∙ ap (λ hs. operations_at hs c.args.order.now) c.requires.all in
    let most = ap most_looks listed in
    omega (arith, most, c.of.ensures.looks)
