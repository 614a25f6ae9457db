-- The verdict on the messages of a log, as a line, and all its breaches.
use Rattle.std.specs.Prelude.{ℕ, zero, suc, ◌-◌, List, [], ◌∷◌, ◌++◌, Option, Some, None, codes, decimal, length}
use Rattle.std.specs.List.{flat_map}
use Rattle.message_judge.specs.Names.{rule_name}
use Rattle.message_judge.specs.declared.breaches.Breaches.{Breaches}
use Rattle.message_judge.specs.declared.breaches.Broken.{Broken}
use Rattle.message_judge.specs.declared.verdict.MessageVerdict.{MessageVerdict}
use Rattle.message_judge.specs.declared.verdict.MessageVerdict.TheVariants.{Lawful, Unlawful}

abbrev pub verdict_text : MessageVerdict → List ℕ
verdict_text Lawful = codes "lawful\n"
verdict_text (Unlawful breach index) = codes "unlawful " ++ (rule_name breach ++ (codes " " ++ (decimal index ++ codes "\n")))

-- a line for each breach that is listed, and how many more there are
abbrev pub broken_text : Broken → List ℕ
broken_text broken = verdict_text (Unlawful broken.breach broken.index)

abbrev pub more_text : ℕ → List ℕ
more_text zero = []
more_text (suc more) = decimal (suc more) ++ codes " more\n"

abbrev pub breaches_text : Breaches → List ℕ
breaches_text breaches = flat_map broken_text breaches.listed.items ++ more_text (breaches.count - length breaches.listed.items)

-- the breaches, where they are asked for and there are some, else the verdict
abbrev pub told_by : List Broken → MessageVerdict → Breaches → List ℕ
told_by [] verdict breaches = verdict_text verdict
told_by (first ∷ rest) verdict breaches = breaches_text breaches

abbrev pub told_text : MessageVerdict → Option Breaches → List ℕ
told_text verdict None = verdict_text verdict
told_text verdict (Some breaches) = told_by breaches.listed.items verdict breaches
