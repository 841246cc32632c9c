-- What an entry changes of the lines that its repository owes (own).
use Rattle.std.specs.Prelude.{◌≡◌, ℕ, ◌<◌, ◌==◌, List, [], ◌∷◌, ◌++◌, drop, find, map, Option, Some, None, IfSome}
use Rattle.run_data.specs.declared.entry.Entry.{Entry}
use Rattle.run_data.specs.declared.entry.EntryKind.{EntryKind}
use Rattle.run_data.specs.declared.entry.EntryKind.TheVariants.{Talk}
use Rattle.p2p_wire.specs.declared.message.Message.{Message}
use Rattle.union_merge.specs.Branch.{Files as BranchFiles, lines_at}
use Rattle.node_model.specs.After.{state_after}
use Rattle.node_model.specs.Jobs.{Work, partner}
use Rattle.node_model.specs.OwedLines.{OwedLine, told_line}
use Rattle.node_model.specs.SetUp.{SetUp}
use Rattle.node_model.specs.State.{State}
use Rattle.state_owed.specs.Lines.{IsWithin}
use Rattle.state_owed.specs.declared.changes.OwedChange.{OwedChange}
use Rattle.state_owed.specs.declared.changes.OwedChange.TheVariants as changes

-- the lines that are owed after such a change
abbrev pub changed : OwedChange → List OwedLine → List OwedLine
changed changes.Stay was = was
changed (changes.Adds o) was = was ++ o ∷ []
changed changes.FirstGoes was = drop 1 was
changed changes.AllGo was = []

-- what it adds is of the copy of one of so many repositories
abbrev pub AddsWithin : ℕ → OwedChange → Type 0
AddsWithin count (changes.Adds o) = IsWithin count o
AddsWithin count change = Unit {0}

-- the job that talks by an entry of this kind, among these
abbrev pub talker : List Work → EntryKind → Option Work
talker ws (Talk (Some job)) = find (λ w. w.number == job) ws
talker ws kind = None

-- the line that the job owes by the message that it took
abbrev pub told_by : Option Work → Option Message → List OwedLine
told_by None heard = []
told_by (Some w) heard = told_line w heard

-- the job's peer, and the one with which it talks, are among so many repositories
pub record TalksWithin (count : ℕ) (w : Work) : Type 0 where
  pub own : IfSome w.what.peer (λ p. p < count)
  pub talks : IfSome (partner w.what.peer w.phase) (λ p. p < count)

-- the repository has this place among those with these identifiers; before the entry it has these files, and the job that talks by
-- the entry, if one does; at the entry its wall clock says this
pub record IsBefore (s : SetUp) (st : State) (e : Entry) (r : ℕ) (known : List (List ℕ)) (files : BranchFiles) (now : ℕ) (w : Option Work) : Type 0 where
  pub number : s.number ≡ r
  pub ids : map (λ repo. repo.id) s.repos ≡ known
  pub lines : (path : List ℕ) → st.lines path ≡ lines_at files path
  pub clock : st.wall e.time ≡ now
  pub job : talker st.works e.kind ≡ w

-- it is what the entry changes, by this state before it
abbrev pub IsChangeOf : SetUp → State → Entry → OwedChange → Type 0
IsChangeOf s st e change = (state_after s st e).owed ≡ changed change st.owed
