-- The entries that may come at any point, by data; for private contracts (own).
use Rattle.std.specs.Prelude.{ℕ, Bool, true, not, ◌&&◌, ◌==◌, if◌then◌else◌, false, nat_lt, List, [], ◌∷◌, ◌++◌, flat_map, Option, Some, None}
use Rattle.std.specs.Ordering.{is_lt}
use Rattle.annex_base.specs.ByteOrder.{text_cmp}
use Rattle.annex_base.specs.declared.kinds.Call.{Call}
use Rattle.run_data.specs.declared.entry.By.{By}
use Rattle.run_data.specs.declared.entry.By.TheVariants.{Script}
use Rattle.run_data.specs.declared.entry.FrameView.{FrameView}
use Rattle.run_data.specs.declared.entry.FrameText.TheVariants.{Closing}
use Rattle.node_model.specs.AnyTime.{ends_with, is_scripts}
use Rattle.node_model.specs.Ends.{EndName, frames}
use Rattle.node_model.specs.SetUp.{SetUp}
use Rattle.node_model.specs.State.{State}
use Rattle.state_ends.specs.Ends.{end_of}
use Rattle.state_ends.specs.declared.ends.Ends.{Ends}
use Rattle.step_judging.specs.Rules.{may_gain}

-- the line comes after the last one, if there is one
abbrev pub is_behind : Option (List ℕ) → List ℕ → Bool
is_behind None line = true
is_behind (Some last) line = is_lt (text_cmp last line)

-- each line comes after the one before it, the first of them after this one
abbrev pub rise_behind : Option (List ℕ) → List (List ℕ) → Bool
rise_behind last [] = true
rise_behind last (x ∷ xs) = is_behind last x && rise_behind (Some x) xs

-- the Close of an end that is open
abbrev pub close_in : Ends → EndName → List FrameView
close_in x a = if (end_of x a).opened then frames a (end_of x a) (Closing ∷ []) else []

-- those of the ends with a peer, and with several
abbrev pub closes_with : Ends → ℕ → List FrameView
closes_with x peer = flat_map (close_in x) (ends_with peer true ++ ends_with peer false)

-- an end of this name is one of a repository of this number among so many
abbrev pub is_there : ℕ → ℕ → EndName → Bool
is_there number count a = nat_lt a.peer count && not (a.peer == number) && nat_lt a.slot 4

-- the content comes from the script, and it may
abbrev pub brings : SetUp → State → By → ℕ → List ℕ → Bool
brings s st Script size key = may_gain s st size key
brings s st by size key = false

-- the call failed in a step of the script, of which it is one
abbrev pub fails : Call → By → Bool
fails call Script = is_scripts call
fails call by = false
