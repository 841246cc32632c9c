-- The entries of a repository's sessions, by their kind (own).
use Rattle.std.specs.Prelude.{◌≢◌, None, false}
use Rattle.annex_base.specs.declared.kinds.Call.TheVariants.{PutFile}
use Rattle.run_data.specs.declared.entry.By.TheVariants.{Peer}
use Rattle.run_data.specs.declared.entry.EntryKind.{EntryKind}
use Rattle.run_data.specs.declared.entry.EntryKind.TheVariants.{Check, Close, Fault, Gain, Gone, Release, Share, Talk}

-- a session makes such an entry: what it does is done by its peer, and it writes no file
abbrev pub IsOfSession : EntryKind → Type 0
IsOfSession (Talk None) = Unit {0}
IsOfSession (Check found key) = Unit {0}
IsOfSession (Share hold end (Peer peer slot) key) = Unit {0}
IsOfSession (Release hold key) = Unit {0}
IsOfSession (Gone (Peer peer slot) key) = Unit {0}
IsOfSession (Gain (Peer peer slot) size key) = Unit {0}
IsOfSession (Fault call (Peer peer slot)) = call ≢ PutFile
IsOfSession (Close peer slot false) = Unit {0}
IsOfSession kind = ⊥
