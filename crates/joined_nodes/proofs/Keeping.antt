-- What the calls of a node keep: its set-up, and all but a turn its links.
use Rattle.std.proofs.Common.{◌≡◌, ◌≢◌, inl, inr, ℕ, Bool, true, false, List, [], ◌∷◌, length, Option, Some, None, refl, sym, ap, subst, ◌∙◌}
use Rattle.std.specs.Prelude.{Result, Ok, Err, IfOk, IfErr, OnOk, OnErr, nat_lt, if◌then◌else◌}
use Rattle.std.proofs.lemmas.Bool.{true≢false}
use Rattle.annex_base.specs.declared.kinds.Call.{Call}
use Rattle.annex_base.specs.declared.kinds.Call.TheVariants.{PutFile}
use Rattle.link_ring.specs.Ends.{EndView}
use Rattle.node_ends.specs.Ends.{link_at}
use Rattle.node_ends.specs.Joined.{StayPaired, StaysSo}
use Rattle.node_model.specs.Ends.{EndName}
use Rattle.object_store.specs.Stores.{Contents, Parts}
use Rattle.run_data.specs.Files.{file_of, file_path}
use Rattle.run_data.specs.declared.entry.By.{By}
use Rattle.run_data.specs.declared.entry.By.TheVariants.{Script}
use Rattle.run_data.specs.declared.entry.EntryKind.{EntryKind}
use Rattle.run_data.specs.declared.entry.EntryKind.TheVariants.{Compact}
use Rattle.run_data.specs.declared.entry.LogFile.{LogFile}
use Rattle.union_merge.specs.Branch.{lines_at, with_file}
use Rattle.union_merge.specs.LineSet.{difference}
use Rattle.repo_node.specs.Closing.{ClosesEach}
use Rattle.repo_node.specs.Crashing.{Crashes}
use Rattle.repo_node.specs.Logs.{with_lines, with_log}
use Rattle.repo_node.specs.Nodes.{NodeView, with_entry}
use Rattle.repo_node.specs.Placing.{IsPlaced, StopsBefore, StopsPlacing, with_gain, with_placed}
use Rattle.repo_node.specs.Refusals.{RefusesFor, RefusesSo}
use Rattle.repo_node.specs.Stored.{StoreView}
use Rattle.repo_node.specs.Turning.{Adds}
use Rattle.repo_node.specs.Walks.{StopsAfter, compact_file, compact_files, current, merge_file, merge_files, over}
use Rattle.node_past.specs.declared.refused.NodeRefused.{NodeRefused}
use Rattle.node_past.specs.declared.refused.NodeRefused.TheVariants as refusals
use Rattle.repo_node.specs.declared.turn.Turn.{Turn}
use Rattle.repo_node.specs.declared.turn.Turn.TheVariants as turns

-- the set-up and the links are as they were
pub record Keeps {K : Type 0} (was now : NodeView K) : Type 0 where
  pub setup : now.setup ≡ was.setup
  pub links : now.parts.links ≡ was.parts.links

stays_same : (o : Option EndView) → StaysSo o o
stays_same None = tt
stays_same (Some v) = λ other pair. pair

-- links that are as they were stay paired
pub stay_paired : {K : Type 0} (was now : NodeView K) → Keeps was now → StayPaired was.parts.links now.parts.links
stay_paired was now keeps = subst (λ (links : List EndView). StayPaired was.parts.links links) (sym keeps.links) (λ a. stays_same (link_at was.parts.links a))

pub kept : {K : Type 0} (n : NodeView K) → Keeps n n
kept n = record { setup = refl; links = refl }

-- what is equal to a node that keeps them keeps them
pub keeps_as : {K : Type 0} (was mid now : NodeView K) → Keeps was mid → now ≡ mid → Keeps was now
keeps_as was mid now keeps is = subst (λ n. Keeps was n) (sym is) keeps

keeps_on : {K : Type 0} (was mid now : NodeView K) → Keeps was mid → Keeps mid now → Keeps was now
keeps_on was mid now first second = record { setup = second.setup ∙ first.setup; links = second.links ∙ first.links }

-- ---- a refusal

pub refused_keeps : {K : Type 0} (by : By) (e : NodeRefused) (call : Call) (was now : NodeView K) → RefusesFor by e call was now → Keeps was now
refused_keeps by refusals.Full call was now h = subst (λ n. Keeps was n) (sym h.0) (record { setup = refl; links = refl })
refused_keeps by refusals.StoreFault call was now h = subst (λ n. Keeps was n) (sym h) (record { setup = refl; links = refl })
refused_keeps by (refusals.BadBundle at) call was now h = absurd h
refused_keeps by refusals.NoMemory call was now h = subst (λ n. Keeps was n) (sym h) (record { setup = refl; links = refl })

-- ---- lines

log_keeps : {K : Type 0} (n : NodeView K) (keeper : K) (file : LogFile) (lines : List (List ℕ)) → Keeps n (with_log n keeper file lines)
log_keeps n keeper file [] = kept n
log_keeps n keeper file (line ∷ lines) = record { setup = refl; links = refl }

pub lines_keep : {K : Type 0} (n : NodeView K) (keeper : K) (file : LogFile) (lines : List (List ℕ)) → Keeps n (with_lines n keeper file lines)
lines_keep n keeper file lines = log_keeps n keeper file (difference lines (lines_at n.branch (file_path file)))

-- a call that writes lines keeps them
pub write_keeps : {K : Type 0} (r : Result (Unit {0}) NodeRefused) (was now : NodeView K) (file : LogFile) (lines : List (List ℕ)) → OnOk r (now ≡ with_lines was now.keeper file lines) → IfErr r (λ e. RefusesSo e PutFile was now) → Keeps was now
write_keeps (Ok x) was now file lines ok err = keeps_as was (with_lines was now.keeper file lines) now (lines_keep was now.keeper file lines) ok
write_keeps (Err e) was now file lines ok err = refused_keeps Script e PutFile was now err

-- ---- walks

pub merge_keeps : {K : Type 0} (n : NodeView K) (files : List (List ℕ × List (List ℕ))) → Keeps n (merge_files n files)
merge_keeps n [] = kept n
merge_keeps n (f ∷ files) = keeps_on n (merge_file n f) (merge_files (merge_file n f) files) (lines_keep n n.keeper (file_of f.0) f.1) (merge_keeps (merge_file n f) files)

compact_one : {K : Type 0} (n : NodeView K) (file : LogFile) (b : Bool) (m : NodeView K) → Keeps n m → Keeps n (if b then m else n)
compact_one n file true m keeps = keeps
compact_one n file false m keeps = kept n

pub compact_keeps : {K : Type 0} (n : NodeView K) (paths : List (List ℕ)) → Keeps n (compact_files n paths)
compact_keeps n [] = kept n
compact_keeps n (path ∷ paths) =
    let file = file_of path in
    keeps_on n (compact_file n file) (compact_files (compact_file n file) paths)
    (compact_one n file (nat_lt (length (current n file)) (length (lines_at n.branch (file_path file)))) (with_entry n n.keeper (with_file n.branch (file_path file) (current n file)) (Compact file) []) (record { setup = refl; links = refl }))
    (compact_keeps (compact_file n file) paths)

over_keeps : {K : Type 0} (was mid : NodeView K) (keeper : K) → Keeps was mid → Keeps was (over keeper mid)
over_keeps was mid keeper keeps = record { setup = keeps.setup; links = keeps.links }

-- a call that goes over files keeps them, whether it was refused in the middle or not
pub walk_keeps : {K X : Type 0} (r : Result (Unit {0}) NodeRefused) (was now : NodeView K) (done_with : List X → NodeView K) (all : List X) → ((xs : List X) → Keeps was (done_with xs))
    → OnOk r (now ≡ over now.keeper (done_with all)) → IfErr r (λ e. StopsAfter done_with all e now) → Keeps was now
walk_keeps (Ok x) was now done_with all each ok err = keeps_as was (over now.keeper (done_with all)) now (over_keeps was (done_with all) now.keeper (each all)) ok
walk_keeps (Err e) was now done_with all each ok err =
    let mid = over err.keeper (done_with err.done) in
    keeps_on was mid now (over_keeps was (done_with err.done) err.keeper (each err.done)) (refused_keeps Script e PutFile mid now err.refused)

-- ---- contents

placed_one : {K : Type 0} (taken : Bool) (was m now : NodeView K) → Keeps was m → Keeps was (if taken then over now.keeper was else m)
placed_one true was m now keeps = record { setup = refl; links = refl }
placed_one false was m now keeps = keeps

pub place_keeps : {K : Type 0} (r : Result (Unit {0}) NodeRefused) (key bytes : List ℕ) (known : Option Contents) (parts : Option Parts) (known' : Option Contents) (was now : NodeView K)
    → OnOk r (IsPlaced key bytes known parts known' was now) → IfErr r (λ e. StopsPlacing key bytes known parts known' e was now) → Keeps was now
place_keeps (Ok x) key bytes known parts known' was now ok err =
    keeps_as was (if ok.taken then over now.keeper was else with_placed was now.keeper key (length bytes)) now
    (placed_one ok.taken was (with_placed was now.keeper key (length bytes)) now (record { setup = refl; links = refl })) ok.node
place_keeps (Err e) key bytes known parts known' was now ok err = elim err [
  | inl h ↦ refused_keeps Script e h.0.call was now h.0.refused
  | inr h ↦ keeps_on was (with_gain was h.0.keeper key (length bytes)) now (record { setup = refl; links = refl }) (refused_keeps Script e PutFile (with_gain was h.0.keeper key (length bytes)) now h.0.refused)
]

pub part_keeps : {K : Type 0} (r : Result (Unit {0}) NodeRefused) (was now : NodeView K) → OnOk r (now ≡ over now.keeper was) → IfErr r (λ e. StopsBefore e was now) → Keeps was now
part_keeps (Ok x) was now ok err = keeps_as was (over now.keeper was) now (record { setup = refl; links = refl }) ok
part_keeps (Err e) was now ok err = refused_keeps Script e err.call was now err.refused

-- ---- a job

pub begin_keeps : {K E : Type 0} (r : Result ℕ E) (kind : ℕ → EntryKind) (was now : NodeView K)
    → IfOk r (λ number. now ≡ record (with_entry was was.keeper was.branch (kind number) []) { parts = record was.parts { jobs = now.parts.jobs } }) → OnErr r (now ≡ was) → Keeps was now
begin_keeps (Ok number) kind was now ok err = record { setup = ap (λ n. n.setup) ok; links = ap (λ n. n.parts.links) ok }
begin_keeps (Err e) kind was now ok err = record { setup = ap (λ n. n.setup) err; links = ap (λ n. n.parts.links) err }

-- ---- a turn

abbrev is_moved : Turn → Bool
is_moved turns.Moved = true
is_moved turns.Idle = false
is_moved turns.Full = false
is_moved turns.NoMemory = false

pub turn_setup : {K : Type 0} (t : Turn) (was now : NodeView K) (links : List EndView) (before after : StoreView) → (t ≡ turns.Moved → Adds links before after was now)
    → (t ≢ turns.Moved → now ≡ record was { keeper = now.keeper; parts = record was.parts { links = links } }) → now.setup ≡ was.setup
turn_setup turns.Moved was now links before after moved stays = (moved refl).setup
turn_setup turns.Idle was now links before after moved stays = ap (λ n. n.setup) (stays (λ e. true≢false (sym (ap is_moved e))))
turn_setup turns.Full was now links before after moved stays = ap (λ n. n.setup) (stays (λ e. true≢false (sym (ap is_moved e))))
turn_setup turns.NoMemory was now links before after moved stays = ap (λ n. n.setup) (stays (λ e. true≢false (sym (ap is_moved e))))

-- ---- closes

closed_setup : {K : Type 0} (told : Option Contents) (ends : List EndName) (was now : NodeView K) → ClosesEach told ends was now → now.setup ≡ was.setup
closed_setup {K} told [] was now closes = ap (λ (n : NodeView K). n.setup) closes
closed_setup {K} told (a ∷ ends) was now closes =
    closed_setup told ends closes.0 now closes.2
    ∙ elim closes.1 [
      | inl one ↦ ap (λ (n : NodeView K). n.setup) one.node
      | inr none ↦ ap (λ (n : NodeView K). n.setup) none.node
    ]

pub close_setup : {K : Type 0} (r : Result (Unit {0}) NodeRefused) (told : Option Contents) (ends : List EndName) (was now : NodeView K) → OnOk r (ClosesEach told ends was now) → OnErr r (now ≡ was) → now.setup ≡ was.setup
close_setup {K} (Ok x) told ends was now ok err = closed_setup told ends was now ok
close_setup {K} (Err e) told ends was now ok err = ap (λ (n : NodeView K). n.setup) err

-- ---- a crash

pub crash_setup : {K : Type 0} (r : Result (Unit {0}) NodeRefused) (told : Option Contents) (clock : ℕ) (was now : NodeView K) → OnOk r (Crashes told clock was now) → OnErr r (now ≡ was) → now.setup ≡ was.setup
crash_setup {K} (Ok x) told clock was now ok err = ap (λ (n : NodeView K). n.setup) ok.node
crash_setup {K} (Err e) told clock was now ok err = ap (λ (n : NodeView K). n.setup) err
