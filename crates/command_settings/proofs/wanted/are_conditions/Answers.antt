use Rattle.std.proofs.Common.{lit<, rules, tests}
use Rattle.std.proofs.lemmas.Iterator.Search.{all_from_yields_List}
use Rattle.std.proofs.lemmas.Iterator.Splits.{YieldsList-from_str_split}
use Rattle.command_settings.specs.Settings.{is_condition}
use Rattle.command_settings.proofs.wanted.are_conditions.Goals as goal

pub returns : goal.returns
returns c =
    all_from_yields_List is_condition _ _ _ c.all.ensures.ran
    (YieldsList-from_str_split 44 c.args.list.now (lit< tt) c.split.ensures.text c.split.ensures.has_more c.split.ensures.pattern) (λ x b q k. search (rules, tests))
