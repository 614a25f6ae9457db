-- What a fault has left of a stream.
use Rattle.std.proofs.Common.{◌≡◌, ◌⊎◌, ℕ, List, Option, inl, inr}
use Rattle.command_files.specs.declared.fault.Fault.{Fault}
use Rattle.command_files.specs.declared.fault.Fault.TheVariants.{BadAddress, BadEvent, BytesAfterTrace, CannotMake, CannotRead, CannotShow, CannotWrite, Check, Configuration, Event, Image, Mismatch, NoThread, NothingHappens, OtherImage, OutOfMemory, Text, TooManyRows}
use Rattle.script_commands.specs.Explaining.{LeavesOfStream}

-- what is left of a stream is nothing, or it was cut off
pub stream_either : (old new : Option (List ℕ)) (cut : Type 0) (fault : Fault) → LeavesOfStream fault old new cut → (new ≡ old) ⊎ cut
stream_either old new cut CannotWrite so = inr so
stream_either old new cut OutOfMemory so = so
stream_either old new cut (CannotRead file) so = inl so
stream_either old new cut (CannotMake file) so = inl so
stream_either old new cut (Image file error) so = inl so
stream_either old new cut (Text file error) so = inl so
stream_either old new cut (Event file line error) so = inr so
stream_either old new cut (BytesAfterTrace file) so = inl so
stream_either old new cut (NothingHappens file line outcome) so = inr so
stream_either old new cut (Check file error) so = inl so
stream_either old new cut (OtherImage file address) so = inl so
stream_either old new cut (TooManyRows file) so = inl so
stream_either old new cut (BadAddress word) so = inl so
stream_either old new cut (CannotShow word cause) so = inl so
stream_either old new cut NoThread so = inl so
stream_either old new cut Mismatch so = inl so
stream_either old new cut BadEvent so = inl so
stream_either old new cut Configuration so = inl so
