-- The owed lines of a state after an entry, as its repository knows them.
use Rattle.std.proofs.Common.{◌≡◌, ℕ, zero, suc, Bool, true, false, ◌&&◌, ◌++◌, ◌==◌, if◌then◌else◌, List, [], ◌∷◌, bytes_eq, drop, find, map, Option, Some, None, Result, Ok, Err, IfOk, refl, sym, ap, ◌∙◌, append-nil}
use Rattle.hash_dirs.specs.LogPath.{location_path}
use Rattle.run_data.specs.declared.entry.Entry.{Entry}
use Rattle.run_data.specs.declared.entry.EntryKind.{EntryKind}
use Rattle.run_data.specs.declared.entry.EntryKind.TheVariants.{Gain, Gone, Log, Talk, Crash, Fault}
use Rattle.run_data.specs.declared.entry.FrameView.{FrameView}
use Rattle.run_data.specs.declared.entry.LogFile.{LogFile}
use Rattle.run_data.specs.declared.run.RepoView.{RepoView}
use Rattle.run_data.specs.Files.{file_path}
use Rattle.run_data.specs.Repos.{id_of}
use Rattle.p2p_wire.specs.declared.message.Message.{Message}
use Rattle.union_merge.specs.Branch.{Files as BranchFiles, lines_at}
use Rattle.node_model.specs.Jobs.{Work, taken_message}
use Rattle.node_model.specs.OwedLines.{OwedLine, due, if_new, owed_after, owed_for, pays, same_lines, status_line, told_frame}
use Rattle.node_model.specs.SetUp.{SetUp}
use Rattle.node_model.specs.State.{State}
use Rattle.state_owed.specs.Changes.{IsBefore, IsChangeOf, changed, talker, told_by}
use Rattle.state_owed.specs.Paying.{due_of, id_in, is_paid, owed_so}
use Rattle.state_owed.specs.declared.changes.OwedChange.{OwedChange}

abbrev Lines : Type 0
Lines = List (List ℕ)

-- the identifier that is known is the repository's
id_is : (repos : List RepoView) (r : ℕ) → id_of repos r ≡ id_in (map (λ repo. repo.id) repos) r
id_is [] r = refl
id_is (x ∷ xs) zero = refl
id_is (x ∷ xs) (suc r) = id_is xs r

due_is : (s : SetUp) (st : State) (ids : Lines) (files : BranchFiles) (now clock : ℕ) (o : OwedLine) → map (λ r. r.id) s.repos ≡ ids → ((path : List ℕ) → st.lines path ≡ lines_at files path) → now ≡ clock
    → due s.repos st.lines now o ≡ due_of ids files clock o
due_is s st ids files now clock o known lines says =
    let has : Lines = lines_at files (location_path o.key) in
    let id : id_of s.repos o.repo ≡ id_in ids o.repo = id_is s.repos o.repo ∙ ap (λ (x : Lines). id_in x o.repo) known in
    ap (λ (w : Lines). if_new w (status_line w (id_of s.repos o.repo) o.there now)) (lines (location_path o.key))
    ∙ ap (λ (i : List ℕ). if_new has (status_line has i o.there now)) id
    ∙ ap (λ (c : ℕ). if_new has (status_line has (id_in ids o.repo) o.there c)) says

-- what is read is due
pub ok_due : {E : Type 0} (r : Result Lines E) (ids : Lines) (files : BranchFiles) (clock : ℕ) (o : OwedLine) (path line id : List ℕ) (repo : ℕ) (there : Bool)
    → path ≡ location_path o.key → repo ≡ o.repo → there ≡ o.there → id ≡ id_in ids repo → line ≡ status_line (lines_at files path) id there clock
    → IfOk r (λ s. s ≡ if_new (lines_at files path) line) → IfOk r (λ s. s ≡ due_of ids files clock o)
ok_due (Ok s) ids files clock o path line id repo there here repo_is there_is known text new =
    let lacks : List ℕ → List ℕ → Bool → Lines = λ p i b. if_new (lines_at files p) (status_line (lines_at files p) i b clock) in
    new ∙ ap (λ (l : List ℕ). if_new (lines_at files path) l) text
    ∙ ap (λ (p : List ℕ). lacks p id there) here
    ∙ ap (λ (i : List ℕ). lacks (location_path o.key) i there) (known ∙ ap (id_in ids) repo_is)
    ∙ ap (λ (b : Bool). lacks (location_path o.key) (id_in ids o.repo) b) there_is
ok_due (Err e) ids files clock o path line id repo there here repo_is there_is known text new = tt

-- the first line is paid or stays
pays_is : (s : SetUp) (st : State) (ids : Lines) (files : BranchFiles) (now clock : ℕ) (e : Entry) (file : LogFile) (os : List OwedLine)
    → map (λ r. r.id) s.repos ≡ ids → ((path : List ℕ) → st.lines path ≡ lines_at files path) → now ≡ clock
    → pays s.repos st.lines now e file os ≡ (if is_paid ids files clock e.lines file os then drop 1 os else os)
pays_is s st ids files now clock e file [] known lines says = refl
pays_is s st ids files now clock e file (o ∷ os) known lines says =
    ap (λ (w : Lines). if bytes_eq (file_path file) (location_path o.key) && same_lines e.lines w then os else o ∷ os) (due_is s st ids files now clock o known lines says)

told_is : (o : Option Work) (taken : Option FrameView) → told_frame o taken ≡ told_by o (taken_message taken)
told_is None taken = refl
told_is (Some w) None = refl
told_is (Some w) (Some f) = refl

talk_is : (s : SetUp) (st : State) (now : ℕ) (e : Entry) (number : Option ℕ) (was : List OwedLine)
    → owed_after s.repos st.lines now st.works s.number was e (Talk number) ≡ was ++ told_by (talker st.works (Talk number)) (taken_message e.taken)
talk_is s st now e None was = sym (append-nil was)
talk_is s st now e (Some job) was = ap (λ (os : List OwedLine). was ++ os) (told_is (find (λ w. w.number == job) st.works) e.taken)

owed_kind : (s : SetUp) (st : State) (e : Entry) (repo : ℕ) (ids : Lines) (files : BranchFiles) (now clock : ℕ) (job : Option Work) (was : List OwedLine) (kind : EntryKind)
    → s.number ≡ repo → map (λ r. r.id) s.repos ≡ ids → ((path : List ℕ) → st.lines path ≡ lines_at files path) → now ≡ clock → talker st.works kind ≡ job
    → owed_after s.repos st.lines now st.works s.number was e kind ≡ owed_so ids files clock job (taken_message e.taken) repo was e.lines kind
owed_kind s st e repo ids files now clock job was (Gain by size key) number known lines says talks = ap (λ (r : ℕ). was ++ owed_for r by true key) number
owed_kind s st e repo ids files now clock job was (Gone by key) number known lines says talks = ap (λ (r : ℕ). was ++ owed_for r by false key) number
owed_kind s st e repo ids files now clock job was (Log file) number known lines says talks = pays_is s st ids files now clock e file was known lines says
owed_kind s st e repo ids files now clock job was (Talk j) number known lines says talks =
    talk_is s st now e j was ∙ ap (λ (o : Option Work). was ++ told_by o (taken_message e.taken)) talks
owed_kind s st e repo ids files now clock job was (Fault call by) number known lines says talks = refl
owed_kind s st e repo ids files now clock job was (Crash to) number known lines says talks = refl
owed_kind s st e repo ids files now clock job was kind number known lines says talks = refl

-- it is what the entry changes, where it makes of the owed lines what the repository knows of them
pub change_is : (s : SetUp) (st : State) (e : Entry) (repo : ℕ) (ids : Lines) (files : BranchFiles) (clock : ℕ) (job : Option Work) (heard : Option Message) (was : List OwedLine) (change : OwedChange)
    → IsBefore s st e repo ids files clock job → heard ≡ taken_message e.taken → st.owed ≡ was → changed change was ≡ owed_so ids files clock job heard repo was e.lines e.kind
    → IsChangeOf s st e change
change_is s st e repo ids files clock job heard was change before took owes so =
    owed_kind s st e repo ids files (st.wall e.time) clock job st.owed e.kind before.number before.ids before.lines before.clock before.job
    ∙ ap (λ (os : List OwedLine). owed_so ids files clock job (taken_message e.taken) repo os e.lines e.kind) owes
    ∙ ap (λ (m : Option Message). owed_so ids files clock job m repo was e.lines e.kind) (sym took)
    ∙ sym so
    ∙ ap (changed change) (sym owes)
