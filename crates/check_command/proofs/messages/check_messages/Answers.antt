use Rattle.std.proofs.Common.{◌∙◌, Option, refl, subst}
use Rattle.std.specs.Io.KnownBytes.{Appends}
use Rattle.log_text.specs.FoundBreaches.{Breaches}
use Rattle.log_text.specs.Verdicts.{told_text}
use Rattle.text_fields.specs.Writing.{Begins}
use Rattle.command_files.proofs.Left.{handed_up, left, spoiled}
use Rattle.check_command.proofs.Objected.{told_of_listed}
use Rattle.check_command.proofs.messages.check_messages.Goals as goal

pub returns-in_err-read-clause-unfinished : goal.returns-in_err-read-clause-unfinished
returns-in_err-read-clause-unfinished g c = handed_up _ c.from_residual.result _ c.from_residual.ensures.1 (left _ _ _ _ c.in_err-read.ensures.reading refl)

pub returns-in_err-read-clause-told : goal.returns-in_err-read-clause-told
returns-in_err-read-clause-told g c = handed_up _ c.from_residual.result _ c.from_residual.ensures.1 c.in_err-read.ensures.told

pub returns-in-Err-clause-unfinished : goal.returns-in-Err-clause-unfinished
returns-in-Err-clause-unfinished g c = spoiled _ _ _ c.writing.result c.writing.ensures.told (record {
  log = c.in_ok-read.read.log;
  read = c.in_ok-read.read.bytes.items;
  verdict = c.in-Ok.answer.verdict;
  breaches = c.in-Ok.answer.breaches;
  file = c.in_ok-read.ensures.read.0;
  judged = c.in-Ok.ensures.verdict;
  listed = c.in-Ok.ensures.breaches;
  begun = subst (λ (b : Option Breaches). Begins (g.O.Write.contents c.args.out.now) (g.O.Write.contents c.print.new.out) (told_text c.in-Ok.answer.verdict b)) c.as_ref.ensures.value c.in-Err.ensures;
})

pub returns-clause-judged : goal.returns-clause-judged
returns-clause-judged g c = record {
  log = c.in_ok-read.read.log;
  read = c.in_ok-read.read.bytes.items;
  breaches = c.in-Ok.answer.breaches;
  file = c.in_ok-read.ensures.read.0;
  judged = c.in-Ok.ensures.verdict;
  listed = c.in-Ok.ensures.breaches;
  printed = subst (λ (b : Option Breaches). Appends (g.O.Write.contents c.args.out.now) (g.O.Write.contents c.print.new.out) (told_text c.in-Ok.answer.verdict b)) c.as_ref.ensures.value c.in_default-print.ensures;
}

pub returns-clause-noted : goal.returns-clause-noted
returns-clause-noted g c = record {
  log = c.in_ok-read.read.log;
  read = c.in_ok-read.read.bytes.items;
  text = c.text-text.result;
  breaches = c.in-Ok.answer.breaches;
  file = c.in_ok-read.ensures.read.0;
  judged = c.in-Ok.ensures.verdict;
  listed = c.in-Ok.ensures.breaches;
  of_file = record { source = c.text-text.ensures.source; skipped = c.text-text.ensures.skip; meant = c.text-text.ensures.meant ∙ c.in_ok-read.ensures.read.1 };
  told = λ plain. told_of_listed _ c.in-Ok.answer.verdict _ _ _ _ _ c.as_ref-2.ensures.value (c.object.ensures.told plain);
}
