use Rattle.std.proofs.Common.{◌∷◌, []}
use Rattle.std.specs.List.{flat_map}
use Rattle.run_waves.specs.Signals as signals
use Rattle.run_waves.proofs.Joined.{joined}
use Rattle.run_waves.proofs.telling.spell_word.Goals as goal

pub returns-clause-text : goal.returns-clause-text
returns-clause-text c = rw (c.text-2.ensures.value, c.spell_bits.ensures.value, c.to_be_bytes.ensures, c.text.ensures.value) (joined c.args.page.now (98 ∷ []) (signals.word_bits c.args.value) (32 ∷ []))
