-- What is printed of a refusal. Assumes nothing.
use Rattle.std.specs.Prelude.{ℕ, List, codes}
use Rattle.transfer.specs.declared.refusal.Refusal.{Refusal}
use Rattle.transfer.specs.declared.refusal.Refusal.TheVariants.{NoRegister, NotListed, WrongDirection, WrongLength, WrongCount, BufferOverrun, UnknownCommand, UnknownType, LacksCapability, NeedNotMet, NothingToSend, SendingUnderWay, ReaderTooShort, OutOfRange, NotOnTheLine}

abbrev pub refusal_text : Refusal → List ℕ
refusal_text NoRegister = codes "no register byte"
refusal_text NotListed = codes "address not listed"
refusal_text WrongDirection = codes "direction not listed"
refusal_text WrongLength = codes "bytes not as listed"
refusal_text WrongCount = codes "count unlike the bytes after it"
refusal_text BufferOverrun = codes "transmit buffer would pass 30 bytes"
refusal_text UnknownCommand = codes "unknown COMMAND value"
refusal_text UnknownType = codes "sending of type 7"
refusal_text LacksCapability = codes "capability lacking"
refusal_text NeedNotMet = codes "what the command needs is not so"
refusal_text NothingToSend = codes "under 2 bytes to send"
refusal_text SendingUnderWay = codes "a sending is under way"
refusal_text ReaderTooShort = codes "reader's buffer below the bytes wanted"
refusal_text OutOfRange = codes "reported value or length outside its range"
refusal_text NotOnTheLine = codes "nothing on the line that could finish"
