-- What a client sends and awaits: each request's message and the permitted answers (git-annex P2P protocol, version 3).
use Rattle.std.specs.Prelude.{ℕ, ◌<◌, ◌^◌, if◌then◌else◌, [], Option, Some, None, nat_le, bytes_eq, codes}
use Rattle.p2p_wire.specs.declared.message.Message.{Message}
use Rattle.p2p_wire.specs.declared.message.Message.TheVariants as wire
use Rattle.p2p_client.specs.declared.dialog.Answer.{Answer}
use Rattle.p2p_client.specs.declared.dialog.Answer.TheVariants as answers
use Rattle.p2p_client.specs.declared.dialog.Awaited.{Awaited}
use Rattle.p2p_client.specs.declared.dialog.Awaited.TheVariants as awaits
use Rattle.p2p_client.specs.declared.dialog.Request.{Request}
use Rattle.p2p_client.specs.declared.dialog.Request.TheVariants as requests
use Rattle.p2p_client.specs.declared.dialog.Took.{Took}
use Rattle.p2p_client.specs.declared.dialog.Took.TheVariants as took

-- the message of a request (that a File is empty is own)
abbrev pub message_for : Request → Message
message_for (requests.Version n) = wire.Version n
message_for (requests.CheckPresent key) = wire.CheckPresent key
message_for (requests.Lock key) = wire.LockContent key
message_for (requests.Unlock key) = wire.UnlockContent key
message_for requests.GetTimestamp = wire.GetTimestamp
message_for (requests.Remove key) = wire.Remove key
message_for (requests.RemoveBefore n key) = wire.RemoveBefore n key
message_for (requests.Get n key) = wire.Get n [] key
message_for (requests.Put key) = wire.Put [] key

-- the request's number is one of the protocol
abbrev pub HasNumber : Request → Type 0
HasNumber (requests.RemoveBefore n key) = n < 2 ^ 63
HasNumber (requests.Get n key) = n < 2 ^ 63
HasNumber request = Unit {0}

-- what is awaited after it
abbrev pub awaited_after : Request → Awaited
awaited_after (requests.Version n) = awaits.Version n
awaited_after (requests.CheckPresent key) = awaits.Word
awaited_after (requests.Lock key) = awaits.Word
awaited_after (requests.Unlock key) = awaits.Nothing
awaited_after requests.GetTimestamp = awaits.Timestamp
awaited_after (requests.Remove key) = awaits.Word
awaited_after (requests.RemoveBefore n key) = awaits.Word
awaited_after (requests.Get n key) = awaits.Sending
awaited_after (requests.Put key) = awaits.Offer

-- a permitted answer, and what is awaited after it
abbrev pub then_awaits : Answer → Awaited → Option (Answer × Awaited)
then_awaits answer next = Some (answer, next)

abbrev pub finally : Answer → Option (Answer × Awaited)
finally answer = then_awaits answer awaits.Nothing

-- The one table of the answers that are permitted where this is awaited; nothing else is. That a server may answer each
-- version up to the asked one, and the answer `ERROR busy`, are own.
abbrev pub permitted_answer : Awaited → Message → Option (Answer × Awaited)
permitted_answer awaits.Auth (wire.AuthSuccess id) = finally (answers.Auth id)
permitted_answer (awaits.Version asked) (wire.Version n) = if nat_le n asked then finally (answers.Version n) else None
permitted_answer awaits.Word wire.Success = finally answers.Success
permitted_answer awaits.Word wire.Failure = finally answers.Failure
permitted_answer awaits.Timestamp (wire.Timestamp n) = finally (answers.Timestamp n)
permitted_answer awaits.Sending (wire.Data n) = then_awaits (answers.Sending n) awaits.Verdict
permitted_answer awaits.Verdict wire.Valid = finally answers.Valid
permitted_answer awaits.Verdict wire.Invalid = finally answers.Invalid
permitted_answer awaits.Offer (wire.PutFrom n) = then_awaits (answers.PutFrom n) awaits.Word
permitted_answer awaits.Offer wire.AlreadyHave = finally answers.AlreadyHave
permitted_answer awaits.Offer wire.Failure = finally answers.Failure
permitted_answer awaits.Offer (wire.Error text) = if bytes_eq text (codes "busy") then finally answers.Busy else None
permitted_answer awaited message = None

abbrev pub took_by : Option (Answer × Awaited) → Took
took_by None = took.Wrong
took_by (Some x) = took.Answer x.0

-- a message that isn't permitted changes nothing
abbrev pub awaited_then : Awaited → Option (Answer × Awaited) → Awaited
awaited_then before None = before
awaited_then before (Some x) = x.1
