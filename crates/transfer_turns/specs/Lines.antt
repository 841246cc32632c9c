-- What a transfer says (git-annex P2P protocol).
use Rattle.std.specs.Prelude.{ℕ, ◌<◌, ◌^◌, List, []}
use Rattle.p2p_wire.specs.declared.message.Message.TheVariants.{Data, Failure, Get, Put, Success, Valid, Version}
use Rattle.p2p_wire.specs.Streams.{IsLine}

-- these are lines of the protocol, which are read as they were said
pub record AreTransferLines (key : List ℕ) : Type 0 where
  pub version : IsLine (Version 3)
  pub get : (n : ℕ) → n < 2 ^ 63 → IsLine (Get n [] key)
  pub put : IsLine (Put [] key)
  pub bytes : (n : ℕ) → n < 2 ^ 63 → IsLine (Data n)
  pub valid : IsLine Valid
  pub success : IsLine Success
  pub failure : IsLine Failure
