use Rattle.std.proofs.Common.{arith}
use Rattle.std.specs.Vec.{vec_len}
use Rattle.litmus_image.proofs.Laying.{all_laid}
use Rattle.litmus_image.proofs.image.all_words.Goals as goal

pub returns : goal.returns
returns c = all_laid c.new-words.result.items c.put_words.new.words.items c.put_words-2.new.words.items c.resize.new.self.items c.put_locations.new.words.items (vec_len c.put_words-2.new.words) c.args.entry.now c.args.code.now c.args.locations.now c.new-words.ensures.items c.in_ok-put_words.ensures c.in_ok-put_words-2.ensures (omega arith) c.in_ok-resize.ensures.items c.in_ok-put_locations.ensures c.requires
