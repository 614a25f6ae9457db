use Rattle.open_questions.proofs.Opened.{first_one, with_one}
use Rattle.open_questions.proofs.opening.with_one_more.Goals as goal

pub returns-in-Some : goal.returns-in-Some
returns-in-Some c = λ numbers leaves. with_one c.args.found c.in-Some.later c.args.first numbers c.in-Some.is leaves

pub returns-in-None : goal.returns-in-None
returns-in-None c = λ numbers leaves. first_one c.args.found c.args.first numbers c.in-None.is leaves
