use Rattle.std.proofs.Common.{List, ℕ, ◌≡◌, length, subst, take}
use Rattle.std.specs.Prelude.{◌↔◌, IsTrue}
use Rattle.coherent_log.proofs.lines.is_of_image.Goals as goal

pub returns : goal.returns
returns c = subst (λ (rest : List ℕ). IsTrue c.is_beginning_of.result ↔ (c.args.bytes.now ≡ take (length c.args.bytes.now) rest)) c.bytes_from.ensures c.is_beginning_of.ensures
