-- Phases of a session, and the verdict on a part by its sum, which a session's contract cites (own).
use Rattle.std.specs.Prelude.{◌≡◌, ℕ, ◌<◌, ◌≤◌, ◌-◌, ◌^◌, List, ◌++◌, length, Option, Some, None}
use Rattle.run_data.specs.declared.entry.EntryKind.{EntryKind}
use Rattle.run_data.specs.declared.entry.EntryKind.TheVariants.{Gain}
use Rattle.key_verify.specs.declared.digester.Sum.{Sum}
use Rattle.key_verify.specs.declared.verdict.Verdict.TheVariants.{Right}
use Rattle.key_verify.specs.Matching.{verdict_of}
use Rattle.node_model.specs.Sessions as sessions
use Rattle.object_store.specs.Stores.{Parts}
use Rattle.session_state.specs.declared.doing.Doing.{Doing}
use Rattle.session_state.specs.declared.doing.Doing.TheVariants as doings
use Rattle.session_state.specs.declared.doing.Taken.{Taken}
use Rattle.session_state.specs.declared.doing.Wanting.{Wanting}
use Rattle.session_state.specs.declared.more.More.{More}
use Rattle.session_state.specs.Giving.{IsWithin}

abbrev pub IsGuarding : Doing → Type 0
IsGuarding (doings.Guards share) = Unit {0}
IsGuarding doing = ⊥

-- bytes go one way or the other
abbrev pub IsMoving : Doing → Type 0
IsMoving (doings.Gives g) = Unit {0}
IsMoving (doings.Takes t) = Unit {0}
IsMoving doing = ⊥

abbrev pub IsGave : Doing → Type 0
IsGave doings.Gave = Unit {0}
IsGave doing = ⊥

abbrev pub IsWanting : Doing → Type 0
IsWanting (doings.Wants w) = Unit {0}
IsWanting doing = ⊥

abbrev pub IsTook : Doing → Type 0
IsTook (doings.Took t) = Unit {0}
IsTook doing = ⊥

-- a phase without a token
abbrev pub IsBare : Doing → Type 0
IsBare doings.Waits = Unit {0}
IsBare (doings.Gives g) = Unit {0}
IsBare doings.Gave = Unit {0}
IsBare doing = ⊥

-- so many bytes are to come, or more
abbrev pub HasRoom : Doing → ℕ → Type 0
HasRoom (doings.Takes t) n = n ≤ t.left
HasRoom doing n = ⊥

-- so many bytes are to be sent, or more
abbrev pub HasLeft : Doing → ℕ → Type 0
HasLeft (doings.Gives g) n = n ≤ g.end - g.at
HasLeft doing n = ⊥

abbrev pub WithinOf : More → Doing → Type 0
WithinOf m (doings.Gives g) = IsWithin m (g.end - g.at)
WithinOf m doing = ⊥

-- the part has the piece more
abbrev pub IsLonger : Doing → Parts → Parts → List ℕ → Type 0
IsLonger (doings.Takes t) p p' piece = (p' t.fill ≡ p t.fill ++ piece) × (length (p' t.fill) < 2 ^ 62)
IsLonger doing p p' piece = ⊥

abbrev pub wanted_in : Option Wanting → sessions.Doing
wanted_in None = sessions.Waits
wanted_in (Some w) = sessions.Wants w.fill w.size

-- ---- the verdict on a part, also over a store that doesn't tell its parts

abbrev pub IsRightSum : Option Sum → List ℕ → Type 0
IsRightSum None key = ⊥
IsRightSum (Some sum) key = verdict_of key sum ≡ Right

-- an entry by which no content comes
abbrev pub IsNoGain : EntryKind → Type 0
IsNoGain (Gain by size key) = ⊥
IsNoGain kind = Unit {0}

-- the part became a content only where its sum is its key's
abbrev pub IsJudged : Taken → EntryKind → Type 0
IsJudged t (Gain by size key) = IsRightSum t.sum t.fill
IsJudged t kind = Unit {0}
