-- The tests that judge examples say what the definitions say.
use Rattle.std.proofs.Common.{Bool, ◌&&◌}
use Rattle.std.specs.List.{list_all}
use Rattle.std.proofs.lemmas.Bool.{and_parts, and_from}
use Rattle.memory_model.specs.Legal.{keeps_atomicity, keeps_load_values, keeps_preserved_order}
use Rattle.memory_model.specs.Traces.{image_of, instructions, is_among, is_distinct, names_in, operations_at}
use Rattle.memory_model.specs.Laws.{ExamplesJudgeAsDefined}

pub examples_judge_as_defined : ExamplesJudgeAsDefined
examples_judge_as_defined model t order = record {
  whole = (
    λ e.
        let p = and_parts (named && once) every e in
        let q = and_parts named once p.0 in
        record { only = q.0; once = q.1; every = p.1 },
    λ o. and_from _ _ (and_from _ _ o.only o.once) o.every,
  );
  legal = (
    λ e.
        let p = and_parts (preserved && values) atomic e in
        let q = and_parts preserved values p.0 in
        record { preserved_order = q.0; load_values = q.1; atomicity = p.1 },
    λ l. and_from _ _ (and_from _ _ l.preserved_order l.load_values) l.atomicity,
  );
}
  where
    named : Bool
    named = list_all (is_among (names_in t)) order

    once : Bool
    once = is_distinct order

    every : Bool
    every = list_all (is_among order) (names_in t)

    preserved : Bool
    preserved = keeps_preserved_order model (instructions t) (operations_at (instructions t) order)

    values : Bool
    values = keeps_load_values (image_of t) (operations_at (instructions t) order)

    atomic : Bool
    atomic = keeps_atomicity (instructions t) (operations_at (instructions t) order)
