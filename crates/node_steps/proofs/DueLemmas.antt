-- The lines that a node owes: what its next entry makes of them, and of the places at which they are found.
use Rattle.std.proofs.Common.{◌≡◌, ℕ, zero, suc, ◌+◌, ◌&&◌, if◌then◌else◌, List, [], ◌∷◌, map, reverse, Option, bytes_eq, refl, sym, ap, ◌∙◌}
use Rattle.std.specs.Prelude.{slice_get}
use Rattle.std.specs.Option.{unwrap_or}
use Rattle.std.proofs.lemmas.List.{append-nil}
use Rattle.hash_dirs.specs.LogPath.{location_path}
use Rattle.object_store.specs.Stores.{Contents}
use Rattle.run_data.specs.declared.entry.Entry.{Entry}
use Rattle.run_data.specs.declared.entry.EntryKind.{EntryKind}
use Rattle.run_data.specs.declared.entry.EntryKind.TheVariants.{Compact, Fault, Gain, Log}
use Rattle.run_data.specs.declared.entry.By.TheVariants.{Script}
use Rattle.run_data.specs.declared.entry.LogFile.{LogFile}
use Rattle.run_data.specs.declared.run.RepoView.{RepoView}
use Rattle.run_data.specs.Files.{file_path}
use Rattle.run_data.specs.Repos.{id_of}
use Rattle.union_merge.specs.Branch.{lines_at}
use Rattle.node_model.specs.After.{states}
use Rattle.node_model.specs.Clocks.{wall}
use Rattle.node_model.specs.OwedLines.{OwedLine, due, if_new, owed_after, owed_without, pays, same_lines, status_line}
use Rattle.node_model.specs.SetUp.{SetUp}
use Rattle.node_model.specs.State.{State}
use Rattle.node_parts.specs.Direct.{IsDirect}
use Rattle.node_steps.specs.Nodes.{MatchesSetup, IsState, NodeView, state_of}
use Rattle.node_ledger.specs.Ledgers.{are_due, due_by, id_known, next_entry, owed_now}
use Rattle.node_past.specs.Owing.{rest_if}

-- ---- what a line is due

-- the identifier that the node knows is the repository's
pub id_is : (repos : List RepoView) (r : ℕ) → id_of repos r ≡ unwrap_or (slice_get (map (λ repo. repo.id) repos) r) []
id_is [] r = refl
id_is (x ∷ xs) zero = refl
id_is (x ∷ xs) (suc r) = id_is xs r

-- the wall clock stays the set-up's
wall_is : (s : SetUp) (past : List Entry) → (states s past).wall ≡ wall s.repos s.number
wall_is s [] = refl
wall_is s (e ∷ past) = wall_is s past

pub due_is : {K : Type 0} (n : NodeView K) (s : SetUp) (known : Option Contents) (o : OwedLine) → MatchesSetup n.setup s → IsState s n.parts n.branch n.owed known (state_of s n.history)
    → due s.repos (state_of s n.history).lines ((state_of s n.history).wall n.time) o ≡ due_by n o.key o.repo o.there
due_is n s known o fits is =
    let st : State = state_of s n.history in
    let path : List ℕ = location_path o.key in
    let has : List (List ℕ) = lines_at n.branch path in
    let lines : st.lines path ≡ has = sym (is.lines path) in
    let clock : st.wall n.time ≡ n.time + n.setup.offset = ap (λ (w : ℕ → ℕ). w n.time) (wall_is s (reverse n.history)) ∙ ap (λ (offset : ℕ). n.time + offset) fits.offset in
    let id : id_of s.repos o.repo ≡ id_known n o.repo = id_is s.repos o.repo ∙ ap (λ (ids : List (List ℕ)). unwrap_or (slice_get ids o.repo) []) fits.ids in
    ap (λ (w : List (List ℕ)). if_new w (status_line w (id_of s.repos o.repo) o.there (st.wall n.time))) lines
    ∙ ap (λ (c : ℕ). if_new has (status_line has (id_of s.repos o.repo) o.there c)) clock
    ∙ ap (λ (i : List ℕ). if_new has (status_line has i o.there (n.time + n.setup.offset))) id

-- ---- the lines that the state owes

paid_is : {K : Type 0} (n : NodeView K) (s : SetUp) (known : Option Contents) (file : LogFile) (lines : List (List ℕ)) (os : List OwedLine) → MatchesSetup n.setup s → IsState s n.parts n.branch n.owed known (state_of s n.history)
    → pays s.repos (state_of s n.history).lines ((state_of s n.history).wall n.time) (next_entry n (Log file) lines) file os ≡ rest_if (are_due n file lines os) os
paid_is n s known file lines [] fits is = refl
paid_is n s known file lines (o ∷ os) fits is =
    ap (λ (w : List (List ℕ)). if bytes_eq (file_path file) (location_path o.key) && same_lines lines w then os else o ∷ os) (due_is n s known o fits is)

-- the state after a direct entry owes what the node owes then
pub owed_is : {K : Type 0} (n : NodeView K) (s : SetUp) (known : Option Contents) (kind : EntryKind) (lines : List (List ℕ)) → IsDirect kind → MatchesSetup n.setup s → IsState s n.parts n.branch n.owed known (state_of s n.history) → (state_of s n.history).owed ≡ n.owed
    → owed_after s.repos (state_of s n.history).lines ((state_of s n.history).wall n.time) (state_of s n.history).works s.number (state_of s n.history).owed (next_entry n kind lines) kind ≡ owed_now n kind lines
owed_is n s known (Gain Script size key) lines direct fits is owes = append-nil (state_of s n.history).owed ∙ owes
owed_is n s known (Log file) lines direct fits is owes =
    ap (λ (os : List OwedLine). pays s.repos (state_of s n.history).lines ((state_of s n.history).wall n.time) (next_entry n (Log file) lines) file os) owes
    ∙ paid_is n s known file lines n.owed fits is
owed_is n s known (Compact file) lines direct fits is owes = owes
owed_is n s known (Fault call by) lines direct fits is owes = ap (owed_without call by) owes
owed_is n s known _ lines direct fits is owes = absurd direct
