use Rattle.std.proofs.Common.{◌≡◌, ◌∙◌, ◌++◌, ◌∷◌, ◌<◌, [], ℕ, All, List, ap, arith, length, subst, sym}
use Rattle.std.proofs.lemmas.List.{append-nil, append_assoc, length_push}
use Rattle.std.proofs.lemmas.Map.Iter.{rest_all, rest_more}
use Rattle.std.specs.List.Sorted.{IsStrictlySortedBy}
use Rattle.std.specs.Map.{keys_of, values_of}
use Rattle.std.specs.Ordering.{on}
use Rattle.explorer.specs.declared.found.Found.{Found}
use Rattle.explorer.specs.Ends.{outcome_of}
use Rattle.explorer.specs.Ranks.{outcome_cmp}
use Rattle.explorer.specs.Sampled.{AreCounted, IsRealEnd, with_times}
use Rattle.explorer.proofs.Counting.{ends_of, numbered_push, numbers_of}
use Rattle.explorer.proofs.samples.tally.Tally.into_sampled.Goals as goal

pub loop-end-preserved : goal.loop-end-preserved
loop-end-preserved c =
    let ends = c.loop-end.ends.items in
    let times = c.loop-end.times.items in
    let e = c.in-Some.end in
    let n = c.in-Some.count in
    let rest = c.next.new.self in
    let taken : c.loop-end.end-iterator ≡ (e, n) ∷ rest = rest_more (λ (p : Found × ℕ). p) _ _ _ (e, n) c.in-Some.is c.next.ensures.steps in
    let more_ends = c.in_ok-push.ensures.items in
    let more_times = c.in_ok-push-2.ensures.items in
    let ends_long = ap length more_ends ∙ length_push ends e in
    let times_long = ap length more_times ∙ length_push times n in
    record {
      left = ap (λ fs. with_times fs c.push-in-loop-end.new.self.items ++ rest) more_ends
          ∙ (ap (λ ns. with_times (ends ++ e ∷ []) ns ++ rest) more_times
          ∙ (ap (λ xs. xs ++ rest) (numbered_push ends times e n c.loop-end.invariant.as_many)
          ∙ (append_assoc (with_times ends times) ((e, n) ∷ []) rest
          ∙ (ap (λ xs. with_times ends times ++ xs) (sym taken) ∙ c.loop-end.invariant.left))));
      as_many = omega (arith, ends_long, times_long, c.loop-end.invariant.as_many);
    }

pub returns-clause-sampled : goal.returns-clause-sampled
returns-clause-sampled c =
    let image = c.args.program.now.image.now in
    let config = c.args.program.now.config in
    let ends = c.loop-end.ends.items in
    let times = c.loop-end.times.items in
    let many = c.loop-end.invariant.as_many in
    let empty : c.loop-end.end-iterator ≡ [] = rest_all (λ (p : Found × ℕ). p) _ _ _ c.in-None.is c.next.ensures.steps in
    let all : with_times ends times ≡ c.args.self.ends.entries =
    sym (append-nil (with_times ends times)) ∙ (ap (λ xs. with_times ends times ++ xs) (sym empty) ∙ c.loop-end.invariant.left) in
    let values : values_of c.args.self.ends.entries ≡ times = ap values_of (sym all) ∙ numbers_of ends times many in
    let keys : keys_of c.args.self.ends.entries ≡ ends = ap keys_of (sym all) ∙ ends_of ends times many in
    record {
      reached = subst (All (IsRealEnd image config)) keys c.requires.tally.reached;
      counted = subst (λ (es : List (Found × ℕ)). AreCounted image config es c.args.self.unended c.args.self.runs) (sym all) c.requires.tally.counted;
      as_many = many;
      some = subst (All (λ (n : ℕ). 0 < n)) values c.requires.tally.some;
      order = subst (IsStrictlySortedBy (on outcome_of outcome_cmp)) keys c.into_iter-end-iterator.ensures.into_iter_gives.5;
    }
