use Rattle.command_files.proofs.message.put_text.Goals as goal

pub returns-in-CannotRead : goal.returns-in-CannotRead
returns-in-CannotRead g c = rw c.in-CannotRead.is c.put_of.ensures

pub returns-in-Image : goal.returns-in-Image
returns-in-Image g c = rw c.in-Image.is c.put_image_fault.ensures

pub returns-in-Text : goal.returns-in-Text
returns-in-Text g c = rw c.in-Text.is c.put_text_fault.ensures

pub returns-in-Event : goal.returns-in-Event
returns-in-Event g c = rw c.in-Event.is c.put_event_fault.ensures

pub returns-in-NothingHappens : goal.returns-in-NothingHappens
returns-in-NothingHappens g c = rw c.in-NothingHappens.is c.put_idle.ensures

pub returns-in-Check : goal.returns-in-Check
returns-in-Check g c = rw c.in-Check.is c.put_check_fault.ensures

pub returns-in-OtherImage : goal.returns-in-OtherImage
returns-in-OtherImage g c = rw c.in-OtherImage.is c.put_other_image.ensures

pub returns-in-BadAddress : goal.returns-in-BadAddress
returns-in-BadAddress g c = rw c.in-BadAddress.is c.put_bad_address.ensures

pub returns-in-CannotShow : goal.returns-in-CannotShow
returns-in-CannotShow g c = rw c.in-CannotShow.is c.put_unshown.ensures

pub returns-in-CannotWrite : goal.returns-in-CannotWrite
returns-in-CannotWrite g c = rw c.in-CannotWrite.is (λ plain. c.put.ensures)

pub returns-in-NoThread : goal.returns-in-NoThread
returns-in-NoThread g c = rw c.in-NoThread.is (λ plain. c.put-in-NoThread.ensures)

pub returns-in-Mismatch : goal.returns-in-Mismatch
returns-in-Mismatch g c = rw c.in-Mismatch.is (λ plain. c.put-in-Mismatch.ensures)

pub returns-in-BadEvent : goal.returns-in-BadEvent
returns-in-BadEvent g c = rw c.in-BadEvent.is (λ plain. c.put-in-BadEvent.ensures)

pub returns-in-Configuration : goal.returns-in-Configuration
returns-in-Configuration g c = rw c.in-Configuration.is (λ plain. c.put-in-Configuration.ensures)

pub returns-in-OutOfMemory : goal.returns-in-OutOfMemory
returns-in-OutOfMemory g c = rw c.in-OutOfMemory.is (λ plain. c.put-in-OutOfMemory.ensures)

pub returns-in-TooManyRows : goal.returns-in-TooManyRows
returns-in-TooManyRows g c = rw c.in-TooManyRows.is c.put_too_many_rows.ensures
