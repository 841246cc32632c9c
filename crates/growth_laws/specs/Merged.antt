-- Histories that several threads kept, one of each repository, merged behind the run that they extend (own).
use Rattle.std.specs.Prelude.{◌≡◌, ℕ, zero, suc, ◌+◌, ◌<◌, ◌≤◌, ◌^◌, Bool, true, ◌&&◌, ◌||◌, if◌then◌else◌, ◌==◌, nat_lt, List, [], ◌∷◌, ◌++◌, filter, find, length, map, reverse, slice_get, Option, Some, None}
use Rattle.annex_base.specs.Lists.{Each}
use Rattle.annex_base.specs.declared.kinds.EntryStamp.{EntryStamp}
use Rattle.annex_base.specs.declared.kinds.Word.{Word}
use Rattle.annex_key.specs.Tree.{Entries, paths_of}
use Rattle.run_data.specs.declared.entry.Entry.{Entry}
use Rattle.run_data.specs.declared.entry.EntryKind.TheVariants.{Begin, End}
use Rattle.run_data.specs.declared.entry.FrameText.{FrameText}
use Rattle.run_data.specs.declared.entry.FrameView.{FrameView}
use Rattle.run_data.specs.declared.job.Job.{Job}
use Rattle.run_data.specs.declared.job.Outcome.{Outcome}
use Rattle.run_data.specs.declared.run.Run.{Run}
use Rattle.run_data.specs.declared.run.TreeMark.{TreeMark}
use Rattle.run_model.specs.Past.{Always, begun_count, is_of, now}
use Rattle.node_model.specs.Rows.{option_is}
use Rattle.run_model.specs.Frames.{FlyingFrame, Way, sender_of, frames_sent, taken_count, taker_of, way_of}
use Rattle.node_model.specs.Slots.{job_of}
use Rattle.node_model.specs.SetUp.{SetUp}
use Rattle.run_model.specs.States.{works}
use Rattle.run_model.specs.Words.{awaits_of, word_of_kind}
use Rattle.run_model.specs.Run.{IsSmall, ComesInOrder, OwnPart, paths_at, paths_begun, repo_number, tree_at}

-- when an entry was made, and by which repository
abbrev pub stamp_of : Entry → EntryStamp
stamp_of e = record { time = e.time; count = e.count; repo = repo_number e.repo }

-- the first stamp is earlier: by time, then by count, then by the number of the repository
abbrev pub earlier : EntryStamp → EntryStamp → Bool
earlier a b = nat_lt a.time b.time || ((a.time == b.time) && (nat_lt a.count b.count || ((a.count == b.count) && nat_lt a.repo b.repo)))

abbrev pub stands_before : Entry → Entry → Bool
stands_before e f = earlier (stamp_of e) (stamp_of f)

-- the entry is put before the first that is later
abbrev pub insert : Entry → List Entry → List Entry
insert e [] = e ∷ []
insert e (f ∷ fs) = if stands_before e f then e ∷ f ∷ fs else f ∷ insert e fs

abbrev pub merge : List Entry → List Entry → List Entry
merge [] fs = fs
merge (e ∷ es) fs = insert e (merge es fs)

abbrev pub merge_all : List (List Entry) → List Entry
merge_all [] = []
merge_all (es ∷ ess) = merge es (merge_all ess)

-- the run, and then what its repositories added, given in order of number
abbrev pub merged_run : Run → List (List Entry) → Run
merged_run run news = record run { entries = run.entries ++ merge_all news }

-- ---- one repository's history

-- what repository r added, the oldest first
abbrev pub new_of : List (List Entry) → ℕ → List Entry
new_of [] r = []
new_of (es ∷ ess) zero = es
new_of (es ∷ ess) (suc r) = new_of ess r

-- the whole history of r, the newest first: its entries of the run, and those that it added
abbrev pub history : Run → List (List Entry) → ℕ → List Entry
history run news r = reverse (filter (is_of r) run.entries ++ new_of news r)

-- the paths of the keys of begun jobs, where these entries, the newest first, begin theirs in the tree after so many entries
abbrev pub paths_with : List TreeMark → ℕ → (ℕ → List (List ℕ)) → List Entry → ℕ → List (List ℕ)
paths_with marks place was [] j = was j
paths_with marks place was (e ∷ es) j = paths_begun marks place j (paths_with marks place was es j) e.kind

-- the set-up of r at the end of its history: what it began in the run was begun there, and the rest in the tree at its end
abbrev pub set_up_with : Run → List (List Entry) → ℕ → SetUp
set_up_with run news r = record { number = r; repos = run.repos; paths = paths_with run.tree (length run.entries) (paths_at run.tree (reverse run.entries) r) (reverse (new_of news r)) }

-- ---- letters: what a frame brings with it

-- its text, the stamp of the entry that sent it, and what that entry found
pub record Letter : Type 0 where
  pub body : FrameText
  pub sender : EntryStamp
  pub word : Option Word

abbrev pub letter_of : FlyingFrame → Letter
letter_of x = record { body = x.frame.body; sender = stamp_of x.entry; word = word_of_kind x.entry.kind }

-- what a repository with this history sent on a way
abbrev pub letters : List Entry → Way → List Letter
letters past w = map letter_of (frames_sent past w)

-- the entry takes the frame as the next of the letters that came on the way, sent by an earlier entry
pub record TakesNext (got : List Letter) (past : List Entry) (w : Way) (e : Entry) (f : FrameView) : Type 0 where
  pub letter : Letter
  pub next : slice_get got (taken_count past w) ≡ Some letter
  pub seq_is : f.seq ≡ taken_count past w + 1
  pub body_is : letter.body ≡ f.body
  pub later : earlier letter.sender (stamp_of e) ≡ true

-- the word beside the answer that job j of r took from c, as its letter says it
abbrev pub word_in : Option Letter → Option Word
word_in None = None
word_in (Some x) = x.word

abbrev pub word_read : (Way → List Letter) → List Entry → ℕ → ℕ → Option FrameView → Option Word → Option Word
word_read got past r c None was = was
word_read got past r c (Some f) was = if f.peer == c then word_in (slice_get (got (way_of r f)) (taken_count past (way_of r f))) else was

abbrev pub word_got : (Way → List Letter) → List Entry → ℕ → ℕ → ℕ → Option Word
word_got got [] r j c = None
word_got got (e ∷ past) r j c =
    if is_of r e && option_is (job_of e.kind) j && awaits_of c (find (λ w. w.number == j) (works past r))
    then word_read got past r c e.taken (word_got got past r j c) else word_got got past r j c

-- ---- what each repository keeps of its own history, and what each two keep of theirs

-- an entry of its history is its own part, takes the letter whose turn it is, and has at a job's end the words of the letters
pub record IsHistoryStep (s : SetUp) (got : Way → List Letter) (past : List Entry) (e : Entry) : Type 0 where
  pub own : e.repo ≡ Some s.number
  pub words : ℕ → Option Word
  pub does : OwnPart s past words e
  pub takes : (f : FrameView) → e.taken ≡ Some f → TakesNext (got (way_of s.number f)) past (way_of s.number f) e f
  pub tells : (j : ℕ) (outcome : Outcome) → e.kind ≡ End j outcome → (c : ℕ) → words c ≡ word_got got past s.number j c

abbrev pub IsHistory : SetUp → (Way → List Letter) → List Entry → Type 0
IsHistory s got past = Always (IsHistoryStep s got) past

-- the new entries of one repository, the newest first, are in order behind the run, were they alone there
abbrev pub AllComeInOrder : List Entry → List Entry → Type 0
AllComeInOrder past [] = Unit {0}
AllComeInOrder past (e ∷ es) = ComesInOrder (es ++ past) e × AllComeInOrder past es

-- the letters that came on a way are the first of those that its sender, with this history, sent there
pub record AreFirstLetters (got : List Letter) (past : List Entry) (w : Way) : Type 0 where
  pub rest : List Letter
  pub is : letters past w ≡ got ++ rest

-- what is asked of a run and of what its repositories added: by repository, and by each two of them
pub record MayMerge (run : Run) (news : List (List Entry)) (got : ℕ → Way → List Letter) : Type 0 where
  pub marked : Each (λ m. m.place ≤ length run.entries) run.tree
  pub number : length news ≤ length run.repos
  pub kept : (r : ℕ) → r < length run.repos → IsHistory (set_up_with run news r) (got r) (history run news r)
  pub follow : (r : ℕ) → r < length run.repos → AllComeInOrder (reverse run.entries) (reverse (new_of news r))
  pub came : (r c : ℕ) (w : Way) → r < length run.repos → taker_of w ≡ r → sender_of w ≡ c → AreFirstLetters (got r w) (history run news c) w

-- each entry stands before all that come after it
abbrev pub StandInOrder : List Entry → Type 0
StandInOrder [] = Unit {0}
StandInOrder (e ∷ es) = Each (λ f. stands_before e f ≡ true) es × StandInOrder es

-- the entries are those that the repositories added, each one's in its order, and all in order of time, count and number
pub record IsMerge (news : List (List Entry)) (all : List Entry) : Type 0 where
  pub rising : StandInOrder all
  pub made : Each (λ e. (r : ℕ) × (e.repo ≡ Some r)) all
  pub own : (r : ℕ) → filter (is_of r) all ≡ new_of news r

-- ---- the same as a node keeps it, by its time, its count and its own paths

-- the count of the newest entry, or else this one
abbrev pub last_count : ℕ → List Entry → ℕ
last_count c [] = c
last_count c (e ∷ past) = e.count

-- a new entry of r at this time, with a count past this one
pub record IsNewEntry (r t c : ℕ) (e : Entry) : Type 0 where
  pub own : e.repo ≡ Some r
  pub at : e.time ≡ t
  pub rises : c < e.count
  pub counted : e.count < 2 ^ 62
  pub small : IsSmall e.kind

-- a job that it begins was given the paths that its key has in this tree
abbrev pub HasPathsIn : Entries → (ℕ → List (List ℕ)) → Entry → Type 0
HasPathsIn tree paths e = (job : ℕ) (what : Job) → e.kind ≡ Begin job what → paths job ≡ paths_of tree what.key

-- what the node of r keeps: its history with the paths of its jobs and the letters that came, and of its new entries, the
-- newest first, that their counts rise from this one on, and that their jobs have their paths in the tree at the end of the run
pub record NodeKeeps (run : Run) (news : List (List Entry)) (r c : ℕ) (paths : ℕ → List (List ℕ)) (got : Way → List Letter) : Type 0 where
  pub kept : IsHistory (record { number = r; repos = run.repos; paths = paths }) got (history run news r)
  pub before : (j : ℕ) → j ≤ begun_count (reverse run.entries) r → paths_at run.tree (reverse run.entries) r j ≡ paths j
  pub given : Each (HasPathsIn (tree_at run.tree (length run.entries)) paths) (reverse (new_of news r))
  pub next : Always (λ older e. IsNewEntry r (now (reverse run.entries)) (last_count c older) e) (reverse (new_of news r))
