use Rattle.std.proofs.Common.{◌≡◌, ◌++◌, ◌∙◌, ap, codes, refl, sym}
use Rattle.architecture_outcomes.specs.Text.{ending_before}
use Rattle.state_search.specs.declared.until.Ending.{Ending}
use Rattle.state_search.specs.declared.until.Ending.TheVariants.{First, Time}
use Rattle.window_search.specs.declared.left_out.Reach.{Reach}
use Rattle.window_search.specs.declared.left_out.Reach.TheVariants.{Whole, Unjudged, Unclosed, WindowMet, ValuesMet, WaysMet, CallMet, RowMet, LimitMet, Ended, OutOfMemory}
use Rattle.architecture_outcomes.proofs.spelling.spell_ending.Goals as goal

begun_otherwise : (reach : Reach) → ((ending : Ending) → reach ≡ Ended ending → ⊥) → ending_before reach ≡ codes "incomplete: "
begun_otherwise Whole other = refl
begun_otherwise Unjudged other = refl
begun_otherwise Unclosed other = refl
begun_otherwise (WindowMet place) other = refl
begun_otherwise (ValuesMet place) other = refl
begun_otherwise (WaysMet place) other = refl
begun_otherwise (CallMet place) other = refl
begun_otherwise (RowMet place) other = refl
begun_otherwise LimitMet other = refl
begun_otherwise (Ended ending) other = absurd (other ending refl)
begun_otherwise OutOfMemory other = refl

pub returns-in_ok-extend_from_slice-in_default : goal.returns-in_ok-extend_from_slice-in_default
returns-in_ok-extend_from_slice-in_default c = c.in_ok-extend_from_slice-in_default.ensures.items ∙ ap (λ t. c.args.into.now.items ++ t) (sym (begun_otherwise c.args.reach c.in_default.not-Ended))
