-- What is told of an entry that breaks a rule: the rule, and the row that it found.
use Rattle.std.specs.Prelude.{ℕ, false, if◌then◌else◌, nat_lt, List, [], filter, map, reverse, length, Option, Some, None, option_map}
use Rattle.run_data.specs.declared.entry.Entry.{Entry}
use Rattle.run_data.specs.declared.entry.EntryKind.{EntryKind}
use Rattle.run_data.specs.declared.entry.EntryKind.TheVariants.{Bar, Begin, Check, Compact, Gain, Gone, Log, Order, Release, Share}
use Rattle.run_data.specs.declared.entry.LogFile.TheVariants.{Location}
use Rattle.run_data.specs.declared.row.Hold.{Hold}
use Rattle.run_data.specs.declared.row.HoldView.{HoldView}
use Rattle.run_data.specs.declared.row.RowView.{RowView}
use Rattle.node_model.specs.Rows.{blocks}
use Rattle.node_model.specs.SetUp.{SetUp}
use Rattle.node_model.specs.State.{State}
use Rattle.run_model.specs.States.{state_of}
use Rattle.step_judging.specs.Rules.{broken_rule}

-- the key of an entry, if it has one
abbrev pub key_in : EntryKind → Option (List ℕ)
key_in (Begin job what) = Some what.key
key_in (Gain by size key) = Some key
key_in (Share hold end by key) = Some key
key_in (Release hold key) = Some key
key_in (Check found key) = Some key
key_in (Bar job need key) = Some key
key_in (Order job target deadline need key) = Some key
key_in (Gone by key) = Some key
key_in (Log (Location key)) = Some key
key_in (Compact (Location key)) = Some key
key_in kind = None

abbrev pub absent_row : RowView
absent_row = record { present = false; bar = None; holds = [] }

abbrev pub hold_view : Hold → HoldView
hold_view h = record { number = h.number; end = h.end; kept = h.kept }

-- the row of a key, with those of its holds that block at this clock, in order of number
abbrev pub row_of : State → ℕ → Option (List ℕ) → RowView
row_of st clock None = absent_row
row_of st clock (Some key) = record { present = st.present key; bar = st.bar key; holds = map hold_view (reverse (filter (blocks key clock) st.holds)) }

-- the row that an entry found at its repository, by the clock at the entry's own time
abbrev pub row_found : (ℕ → SetUp) → List Entry → Entry → Option ℕ → RowView
row_found s past e None = absent_row
row_found s past e (Some r) =
    let st = state_of (s r) past in if nat_lt r (length (s r).repos) then row_of st (st.clock e.time) (key_in e.kind) else absent_row

pub record Broken : Type 0 where
  pub rule : ℕ
  pub found : RowView

-- what is told of the entry after these
abbrev pub verdict : (ℕ → SetUp) → List Entry → Entry → Option Broken
verdict s past e = option_map (λ rule. record { rule = rule; found = row_found s past e e.repo }) (broken_rule s past e)
