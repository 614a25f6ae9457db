use Rattle.std.proofs.Common.{subst}
use Rattle.std.specs.Option.{option_copied}
use Rattle.coherent_log.specs.Followed as coherence
use Rattle.message_judge.specs.Breaches.{BreaksRule}
use Rattle.message_judge.proofs.breaches.breach_of.Goals as goal

pub returns-in-Some : goal.returns-in-Some
returns-in-Some c = λ log order copies. subst (BreaksRule c.args.profile log c.args.entry.now) c.in-Some.is (c.broken.ensures log order)

pub returns-in-Some-broken : goal.returns-in-Some-broken
returns-in-Some-broken c = λ log order copies. (
  subst (BreaksRule c.args.profile log c.args.entry.now) c.in-None.is (c.broken.ensures log order),
  subst (coherence.FindsBreach (option_copied c.args.image) log c.args.entry.now) c.in-Some-broken.is (c.broken-in-None.ensures log copies),
)

pub returns-in-None-broken : goal.returns-in-None-broken
returns-in-None-broken c = λ log order copies. (
  subst (BreaksRule c.args.profile log c.args.entry.now) c.in-None.is (c.broken.ensures log order),
  subst (coherence.FindsBreach (option_copied c.args.image) log c.args.entry.now) c.in-None-broken.is (c.broken-in-None.ensures log copies),
)
