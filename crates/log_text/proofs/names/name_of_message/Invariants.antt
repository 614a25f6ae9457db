use Rattle.std.proofs.Common.{◌≡◌, length, suc, filter, option_map}
use Rattle.std.specs.Prelude.{slice_get}
use Rattle.std.specs.Option.{option_map_or}
use Rattle.text_fields.specs.Reading.{◌>>=◌}
use Rattle.log_text.specs.Names.{is_message_line, lines_left, name_at, name_of}
use Rattle.log_text.proofs.names.name_of_message.Given as goal

abbrev pub invariant-loop-rest : goal.invariant-loop-rest
invariant-loop-rest l = (slice_get (filter is_message_line (lines_left (option_map (λ rest. rest.now) l.rest))) l.messages_before >>= name_of) ≡ name_at l.index l.text

abbrev pub decreases-loop-rest : goal.decreases-loop-rest
decreases-loop-rest l = option_map_or (λ rest. suc (length rest.now)) l.rest 0
