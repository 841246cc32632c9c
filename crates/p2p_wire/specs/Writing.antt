-- The name that begins a message's line: for private contracts.
use Rattle.std.specs.Prelude.{ℕ, List, codes}
use Rattle.p2p_wire.specs.declared.message.Message.{Message}
use Rattle.p2p_wire.specs.declared.message.Message.TheVariants.{AuthSuccess, Version, CheckPresent, LockContent, UnlockContent, Remove, RemoveBefore, GetTimestamp, Timestamp, Get, Put, PutFrom, AlreadyHave, Data, Valid, Invalid, Success, Failure, Error}

abbrev pub name_of : Message → List ℕ
name_of (AuthSuccess id) = codes "AUTH-SUCCESS"
name_of (Version n) = codes "VERSION"
name_of (CheckPresent key) = codes "CHECKPRESENT"
name_of (LockContent key) = codes "LOCKCONTENT"
name_of (UnlockContent key) = codes "UNLOCKCONTENT"
name_of (Remove key) = codes "REMOVE"
name_of (RemoveBefore n key) = codes "REMOVE-BEFORE"
name_of GetTimestamp = codes "GETTIMESTAMP"
name_of (Timestamp n) = codes "TIMESTAMP"
name_of (Get n file key) = codes "GET"
name_of (Put file key) = codes "PUT"
name_of (PutFrom n) = codes "PUT-FROM"
name_of AlreadyHave = codes "ALREADY-HAVE"
name_of (Data n) = codes "DATA"
name_of Valid = codes "VALID"
name_of Invalid = codes "INVALID"
name_of Success = codes "SUCCESS"
name_of Failure = codes "FAILURE"
name_of (Error text) = codes "ERROR"
