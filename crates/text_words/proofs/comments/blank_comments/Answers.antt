use Rattle.text_words.proofs.Blanking.{blanked_all, blanked_well}
use Rattle.text_words.proofs.comments.blank_comments.Goals as goal

pub returns-in-None : goal.returns-in-None
returns-in-None c = blanked_well c.loop-rest.out.items _ (blanked_all c.loop-rest.out.items c.loop-rest.place c.loop-rest.rest.now _ _ c.in_default-rest.len_below c.in-None.ensures c.loop-rest.invariant.0)

pub returns-in-Some : goal.returns-in-Some
returns-in-Some c = blanked_all c.loop-rest.out.items c.loop-rest.place c.loop-rest.rest.now _ _ c.in_default-rest.len_below c.in-Some.ensures c.loop-rest.invariant.0
