use Rattle.std.proofs.Common.{◌∙◌, ◌++◌, Bor, List, ap, map}
use Rattle.clap.specs.Words.{Text, found_of}
use Rattle.command_settings.proofs.Shown.{none_shown, rows_there, some_shown}
use Rattle.command_settings.proofs.usage.shown_in.Goals as goal
use Rattle.command_settings.proofs.usage.shown_in.Goals.{in-Some-get_strs+in_ok-extend_from_slice, in_default-get_strs}

pub returns : goal.returns
returns c = λ name rows is.
    let f = found_of c.in-Some.subcommand.now in
    let own = rows_there _ _ name rows c.in-Some.ensures.rows is in
    elim c.match-get_strs.branch [
      | in-Some-get_strs+in_ok-extend_from_slice w ↦
          ap (λ (v : _). map (λ (word : Bor Text). word.now) v.items) w.words-is ∙ (ap (map (λ (word : Bor Text). word.now)) (w.in_ok-extend_from_slice.ensures.items ∙ ap (λ (xs : List (Bor Text)). xs ++ w.in-Some-get_strs.given.now) c.new-words.ensures.items)
          ∙ some_shown c.get_strs.result f rows own c.get_strs.ensures w.in-Some-get_strs.given w.in-Some-get_strs.is)
      | in_default-get_strs w ↦
          ap (λ (v : _). map (λ (word : Bor Text). word.now) v.items) w.words-is ∙ (ap (map (λ (word : Bor Text). word.now)) c.new-words.ensures.items ∙ none_shown c.get_strs.result f rows own c.get_strs.ensures w.in_default-get_strs.is)
    ]
