-- The lines that a repository owes its branch: which copies its steps have made or removed.
use Rattle.std.specs.Prelude.{ℕ, ◌+◌, ◌*◌, Bool, true, false, ◌&&◌, if◌then◌else◌, ◌==◌, List, [], ◌∷◌, ◌++◌, drop, find, map, Option, Some, None, bytes_eq}
use Rattle.std.specs.List.{list_any}
use Rattle.std.specs.Option.{option_to_list}
use Rattle.annex_base.specs.declared.kinds.Call.{Call}
use Rattle.annex_base.specs.declared.kinds.Call.TheVariants.{PutFile}
use Rattle.log_lines.specs.declared.entry.LogKind.TheVariants as kinds
use Rattle.log_lines.specs.declared.entry.Topic.TheVariants as topics
use Rattle.log_lines.specs.declared.entry.Value.{Value}
use Rattle.log_lines.specs.declared.entry.Value.TheVariants as values
use Rattle.log_lines.specs.LineText.{line_text}
use Rattle.log_lines.specs.Newest.{newest_stamp, next_stamp}
use Rattle.run_data.specs.LogPath.{location_path}
use Rattle.run_data.specs.declared.entry.Entry.{Entry}
use Rattle.run_data.specs.declared.entry.EntryKind.{EntryKind}
use Rattle.run_data.specs.declared.entry.EntryKind.TheVariants.{Gain, Gone, Log, Talk, Crash, Fault}
use Rattle.run_data.specs.declared.entry.By.{By}
use Rattle.run_data.specs.declared.entry.By.TheVariants.{Script, Job as by_job}
use Rattle.run_data.specs.declared.entry.FrameView.{FrameView}
use Rattle.run_data.specs.declared.entry.LogFile.{LogFile}
use Rattle.run_data.specs.declared.run.RepoView.{RepoView}
use Rattle.run_data.specs.Repos.{id_of}
use Rattle.run_data.specs.Files.{file_path}
use Rattle.p2p_wire.specs.declared.message.Message.{Message}
use Rattle.p2p_wire.specs.declared.message.Message.TheVariants.{AlreadyHave, Success}
use Rattle.node_model.specs.Sessions.{line_in}
use Rattle.node_model.specs.Jobs.{Work, Phase, PutsOffer, PutsAnswer, Orders}

-- a line that is owed: by what, and of whose copy of the key, which is there or isn't
pub record OwedLine : Type 0 where
  pub by : By
  pub repo : ℕ
  pub there : Bool
  pub key : List ℕ

abbrev pub owed_line : By → ℕ → Bool → List ℕ → OwedLine
owed_line by repo there key = record { by = by; repo = repo; there = there; key = key }

-- ---- the entry that writes it

-- the stamp of a clock: milliseconds since 1,700,000,000 seconds, in nanoseconds
abbrev pub stamp_at : ℕ → ℕ
stamp_at clock = (1700000000000 + clock) * 1000000

abbrev pub status : Bool → Value
status true = values.Present
status false = values.Absent

-- a line of a location log that is written at this clock
abbrev pub status_line : List (List ℕ) → List ℕ → Bool → ℕ → List ℕ
status_line lines id there clock =
    let stamp = next_stamp (newest_stamp kinds.Location lines (topics.Repo id)) (stamp_at clock) in
    line_text kinds.Location (record { topic = topics.Repo id; stamp = Some stamp; value = status there })

-- the line, unless the file has it
abbrev pub if_new : List (List ℕ) → List ℕ → List (List ℕ)
if_new lines line = if list_any (λ old. bytes_eq old line) lines then [] else line ∷ []

-- the lines that the entry of an owed line would add to what the file at its path has, at this clock
abbrev pub due : List RepoView → (List ℕ → List (List ℕ)) → ℕ → OwedLine → List (List ℕ)
due repos lines clock o =
    let has = lines (location_path o.key) in if_new has (status_line has (id_of repos o.repo) o.there clock)

-- ---- which lines are owed

abbrev pub same_lines : List (List ℕ) → List (List ℕ) → Bool
same_lines [] [] = true
same_lines (x ∷ xs) (y ∷ ys) = bytes_eq x y && same_lines xs ys
same_lines _ _ = false

-- whoever writes exactly what the first owed line is due pays that line
abbrev pub pays : List RepoView → (List ℕ → List (List ℕ)) → ℕ → Entry → LogFile → List OwedLine → List OwedLine
pays repos lines clock e file [] = []
pays repos lines clock e file (o ∷ os) =
    if bytes_eq (file_path file) (location_path o.key) && same_lines e.lines (due repos lines clock o) then os else o ∷ os

-- a job's peer answered it that it has the copy, or has removed it
abbrev pub told_to : Work → Phase → Message → List OwedLine
told_to w (PutsOffer peer) AlreadyHave = owed_line (by_job w.number) peer true w.what.key ∷ []
told_to w (PutsAnswer peer start) Success = owed_line (by_job w.number) peer true w.what.key ∷ []
told_to w Orders Success = map (λ peer. owed_line (by_job w.number) peer false w.what.key) (option_to_list w.what.peer)
told_to w phase m = []

abbrev pub told_line : Work → Option Message → List OwedLine
told_line w None = []
told_line w (Some m) = told_to w w.phase m

abbrev pub told_frame : Option Work → Option FrameView → List OwedLine
told_frame (Some w) (Some f) = told_line w (line_in f.body)
told_frame w f = []

-- the copy of r came or went by this
abbrev pub owed_for : ℕ → By → Bool → List ℕ → List OwedLine
owed_for r Script there key = []
owed_for r by there key = owed_line by r there key ∷ []

abbrev pub owed_without : Call → By → List OwedLine → List OwedLine
owed_without PutFile Script os = os
owed_without PutFile by os = drop 1 os
owed_without call by os = os

-- with the lines of its files, its wall clock at the entry, and its jobs
abbrev pub owed_after : List RepoView → (List ℕ → List (List ℕ)) → ℕ → List Work → ℕ → List OwedLine → Entry → EntryKind → List OwedLine
owed_after repos lines clock ws r was e (Gain by size key) = was ++ owed_for r by true key
owed_after repos lines clock ws r was e (Gone by key) = was ++ owed_for r by false key
owed_after repos lines clock ws r was e (Log file) = pays repos lines clock e file was
owed_after repos lines clock ws r was e (Talk (Some job)) = was ++ told_frame (find (λ w. w.number == job) ws) e.taken
owed_after repos lines clock ws r was e (Fault call by) = owed_without call by was
owed_after repos lines clock ws r was e (Crash to) = []
owed_after repos lines clock ws r was e kind = was
