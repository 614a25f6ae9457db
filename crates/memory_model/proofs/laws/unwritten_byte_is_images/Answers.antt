use Rattle.memory_model.proofs.Legality.{unwritten_byte_is_images}
use Rattle.memory_model.proofs.laws.unwritten_byte_is_images.Goals as goal

pub returns : goal.returns
returns c = unwritten_byte_is_images
