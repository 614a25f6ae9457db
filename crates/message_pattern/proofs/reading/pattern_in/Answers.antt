use Rattle.message_pattern.proofs.Patterns.{all_read, all_unread}
use Rattle.message_pattern.proofs.reading.pattern_in.Goals as goal

pub returns-clause-spelled : goal.returns-clause-spelled
returns-clause-spelled c = all_read c.args.text.now c.whole_pattern_in.result c.whole_pattern_in.ensures

pub returns-clause-unread : goal.returns-clause-unread
returns-clause-unread c = all_unread c.args.text.now c.whole_pattern_in.result c.whole_pattern_in.ensures
