-- What drops have read after an entry.
use Rattle.std.proofs.Common.{◌≡◌, inl, inr, ℕ, Bool, true, false, ◌==◌, List, [], ◌∷◌, ◌++◌, Option, Some, None, find, filter, option_to_list, refl, sym, ap, subst, ◌∙◌, true≢false}
use Rattle.std.specs.Prelude.{if◌then◌else◌}
use Rattle.std.specs.Option.{option_map}
use Rattle.annex_base.specs.Settings.{Settings}
use Rattle.annex_base.proofs.Conditions.{by_test, if_same}
use Rattle.annex_base.proofs.Lists.{find_member}
use Rattle.run_data.specs.Repos.{id_of}
use Rattle.run_data.specs.declared.entry.Entry.{Entry}
use Rattle.run_data.specs.declared.entry.EntryKind.{EntryKind}
use Rattle.run_data.specs.declared.entry.EntryKind.TheVariants.{Compact, Log}
use Rattle.trust_groups.specs.Settings.{Lines, settings}
use Rattle.wanted_expr.specs.Wanted.{required}
use Rattle.node_model.specs.After.{has_read, read_after, state_after}
use Rattle.node_model.specs.Around.{around}
use Rattle.node_model.specs.Evidence.{standing_by}
use Rattle.node_model.specs.Files.{lines_after}
use Rattle.node_model.specs.Jobs.{Work, drop_side, or_own, running_job}
use Rattle.node_model.specs.Knows.{need_by}
use Rattle.node_model.specs.SetUp.{SetUp}
use Rattle.node_model.specs.Slots.{RunningJob, job_of}
use Rattle.node_model.specs.State.{State}
use Rattle.state_reads.specs.Begun.{begins, begun_drop, drop_has_read, if_begins, work_at}
use Rattle.state_reads.specs.Known.{AreLogsRead, KnownLogs, ids_of}
use Rattle.state_reads.specs.Reads.{HadPaths, HasReadAs, IsKeptFor, IsOnly, IsReadFor, reading_in}
use Rattle.state_reads.specs.declared.kept.Kept.{Kept}
use Rattle.state_reads.proofs.Coming.{IsNew, WasThere, came, number_is, same_number}

-- ---- what is kept

-- what is found where only the readings of some numbers are kept
found_kept : (p : ℕ → Bool) (kept : List Kept) (job : ℕ) → find (λ (k : Kept). k.job == job) (filter (λ (k : Kept). p k.job) kept) ≡ (if p job then find (λ (k : Kept). k.job == job) kept else None)
found_kept p [] job = sym (if_same (p job) None)
found_kept p (k ∷ kept) job = go (found_kept p kept job) (p k.job) refl (k.job == job) refl
  where
    go : find (λ (v : Kept). v.job == job) (filter (λ (v : Kept). p v.job) kept) ≡ (if p job then find (λ (v : Kept). v.job == job) kept else None) → (a : Bool) → p k.job ≡ a → (b : Bool) → (k.job == job) ≡ b
        → find (λ (v : Kept). v.job == job) (filter (λ (v : Kept). p v.job) (k ∷ kept)) ≡ (if p job then find (λ (v : Kept). v.job == job) (k ∷ kept) else None)
    go more true passes true here = let its : p job ≡ true = ap p (sym (number_is k.job job here)) ∙ passes in rw (its, passes, here) refl
    go more true passes false other = rw (passes, other) more
    go more false passes true here = let its : p job ≡ false = ap p (sym (number_is k.job job here)) ∙ passes in rw (its, passes) (more ∙ ap (λ (b : Bool). if b then find (λ (v : Kept). v.job == job) kept else None) its)
    go more false passes false other = rw (passes, other) more

found_first : (job : ℕ) (front rest : List Kept) (k : Kept) → find (λ (v : Kept). v.job == job) front ≡ Some k → find (λ (v : Kept). v.job == job) (front ++ rest) ≡ Some k
found_first job [] rest k e = absurd cc
found_first job (x ∷ front) rest k e = go (found_first job front rest k) (x.job == job) e
  where
    go : (find (λ (v : Kept). v.job == job) front ≡ Some k → find (λ (v : Kept). v.job == job) (front ++ rest) ≡ Some k) → (b : Bool) → (if b then Some x else find (λ (v : Kept). v.job == job) front) ≡ Some k
        → (if b then Some x else find (λ (v : Kept). v.job == job) (front ++ rest)) ≡ Some k
    go more true is = is
    go more false is = more is

found_last : (job : ℕ) (front rest : List Kept) → find (λ (v : Kept). v.job == job) front ≡ None → find (λ (v : Kept). v.job == job) (front ++ rest) ≡ find (λ (v : Kept). v.job == job) rest
found_last job [] rest e = refl
found_last job (x ∷ front) rest e = go (found_last job front rest) (x.job == job) e
  where
    go : (find (λ (v : Kept). v.job == job) front ≡ None → find (λ (v : Kept). v.job == job) (front ++ rest) ≡ find (λ (v : Kept). v.job == job) rest) → (b : Bool) → (if b then Some x else find (λ (v : Kept). v.job == job) front) ≡ None
        → (if b then Some x else find (λ (v : Kept). v.job == job) (front ++ rest)) ≡ find (λ (v : Kept). v.job == job) rest
    go more true is = absurd cc
    go more false is = more is

-- those of jobs that have read
abbrev pub past : List Work → ℕ → Bool
past ws job = drop_has_read (find (λ (w : Work). w.number == job) ws)

abbrev pub after_note : List Work → List Kept → Option Kept → List Kept
after_note ws was change = filter (λ (k : Kept). past ws k.job) was ++ option_to_list change

-- what was read stays
kept_read : (ws : List Work) (was : List Kept) (change : Option Kept) (job : ℕ) (k : Kept) → past ws job ≡ true → find (λ (v : Kept). v.job == job) was ≡ Some k → reading_in (after_note ws was change) job ≡ Some k.known
kept_read ws was change job k passes found =
    let front : find (λ (v : Kept). v.job == job) (filter (λ (v : Kept). past ws v.job) was) ≡ Some k =
    found_kept (past ws) was job ∙ ap (λ (b : Bool). if b then find (λ (v : Kept). v.job == job) was else None) passes ∙ found in
    ap (option_map (λ (v : Kept). v.known)) (found_first job (filter (λ (v : Kept). past ws v.job) was) (option_to_list change) k front)

-- of a job that has read nothing there is what the entry adds alone
kept_new : (ws : List Work) (was : List Kept) (change : Option Kept) (job : ℕ) → past ws job ≡ false → reading_in (after_note ws was change) job ≡ reading_in (option_to_list change) job
kept_new ws was change job other =
    let front : find (λ (v : Kept). v.job == job) (filter (λ (v : Kept). past ws v.job) was) ≡ None =
    found_kept (past ws) was job ∙ ap (λ (b : Bool). if b then find (λ (v : Kept). v.job == job) was else None) other in
    ap (option_map (λ (v : Kept). v.known)) (found_last job (filter (λ (v : Kept). past ws v.job) was) (option_to_list change) front)

-- ---- the drop that begins

-- it runs, and the entry is one of its job's
record IsBegun (ws : List Work) (w : Work) : Type 0 where
  found : find (λ (v : Work). v.number == w.number) ws ≡ Some w

begun_found : (ws : List Work) (o : Option ℕ) (w : Work) → if_begins (work_at ws o) ≡ Some w → IsBegun ws w × (o ≡ Some w.number)
begun_found ws None w is = absurd cc
begun_found ws (Some job) w is = go (find (λ (v : Work). v.number == job) ws) refl is
  where
    go : (f : Option Work) → find (λ (v : Work). v.number == job) ws ≡ f → if_begins f ≡ Some w → IsBegun ws w × (Some job ≡ Some w.number)
    go None found e = absurd cc
    go (Some v) found e = test (begins v.part v.phase) e
      where
        test : (b : Bool) → (if b then Some v else None) ≡ Some w → IsBegun ws w × (Some job ≡ Some w.number)
        test true e =
            let same : v ≡ w = cc in
            let at : find (λ (u : Work). u.number == job) ws ≡ Some w = found ∙ ap (λ (u : Work). Some u) same in
            let number : w.number ≡ job = number_is w.number job (find_member (λ (u : Work). u.number == job) ws w at).1 in
            (record { found = subst (λ (n : ℕ). find (λ (u : Work). u.number == n) ws ≡ Some w) (sym number) at }, ap (λ (n : ℕ). Some n) (sym number))
        test false e = absurd cc

-- such an entry changes no file
leaves_files : (kind : EntryKind) (lines : List (List ℕ)) (job : ℕ) → job_of kind ≡ Some job → (path : List ℕ) (was : List (List ℕ)) → lines_after path was kind lines ≡ was
leaves_files (Log file) lines job is = absurd cc
leaves_files (Compact file) lines job is = absurd cc
leaves_files kind lines job is = λ path was. refl

-- ---- what the state says

-- what a job reads, by its number and what it is
read_same : (r r' : Settings) (s : SetUp) (w w' : Work) (known : KnownLogs) → r' ≡ r → running_job w' ≡ running_job w → AreLogsRead r s w known → AreLogsRead r' s w' known
read_same r r' s w w' known same job h = record {
  need = (λ i. need_by (same i) (s.paths (job i).number)) ∙ h.need;
  standing = λ c. (λ i. standing_by (same i) (job i).what.key (id_of s.repos c)) ∙ h.standing c;
  requires = (λ i. required (same i) (id_of s.repos (or_own s.number (drop_side (job i).what.kind (job i).what.peer) (job i).what.peer)) (job i).what.key (s.paths (job i).number)) ∙ h.requires;
}

-- a job that is new would read what the logs say
new_read : (s : SetUp) (st : State) (e : Entry) (x : Work) → IsNew st.works x → (state_after s st e).read x.number ≡ (state_after s st e).logs
new_read s st e x new = ap (read_after (state_after s st e).logs (st.read x.number)) new.none

-- and so would one that has read nothing
still_read : (s : SetUp) (st : State) (e : Entry) (x : Work) (one : WasThere st.works e x) → has_read one.work.part one.work.phase ≡ false → (state_after s st e).read x.number ≡ (state_after s st e).logs
still_read s st e x one unread =
    let number : x.number ≡ one.work.number = ap (λ (j : RunningJob). j.number) one.job in
    let logs : Settings = (state_after s st e).logs in
    ap (state_after s st e).read number ∙ ap (read_after logs (st.read one.work.number)) one.found ∙ ap (λ (b : Bool). if b then st.read one.work.number else logs) unread

-- one that has read has read what it had
past_read : (s : SetUp) (st : State) (e : Entry) (x : Work) (one : WasThere st.works e x) → has_read one.work.part one.work.phase ≡ true → (state_after s st e).read x.number ≡ st.read one.work.number
past_read s st e x one read =
    let number : x.number ≡ one.work.number = ap (λ (j : RunningJob). j.number) one.job in
    let logs : Settings = (state_after s st e).logs in
    ap (state_after s st e).read number ∙ ap (read_after logs (st.read one.work.number)) one.found ∙ ap (λ (b : Bool). if b then st.read one.work.number else logs) read

-- ---- each job

-- what the entry adds is of no job but the one whose drop begins
abbrev Adds : SetUp → State → Entry → Option Kept → Type 0
Adds s st e change = IsReadFor (settings st.lines) s (begun_drop st.works e.kind) change

-- what a reading for a drop says: there is one drop, and it is its
record AddsFor (s : SetUp) (st : State) (e : Entry) (k : Kept) : Type 0 where
  work : Work
  begun : begun_drop st.works e.kind ≡ Some work
  job : k.job ≡ work.number
  read : AreLogsRead (settings st.lines) s work k.known

adds_for : (s : SetUp) (st : State) (e : Entry) (o : Option Work) (k : Kept) → begun_drop st.works e.kind ≡ o → IsReadFor (settings st.lines) s o (Some k) → AddsFor s st e k
adds_for s st e None k is adds = absurd adds
adds_for s st e (Some w) k is adds = record { work = w; begun = is; job = adds.0; read = adds.1 }

adds_none : (s : SetUp) (st : State) (w : Work) (o : Option Work) → o ≡ Some w → IsReadFor (settings st.lines) s o None → ⊥
adds_none s st w None is adds = absurd cc
adds_none s st w (Some v) is adds = adds

-- a reading of another number is none of this job
other_number : (k : Kept) (job : ℕ) → (k.job == job) ≡ false → reading_in (k ∷ []) job ≡ None
other_number k job other = ap (λ (b : Bool). option_map (λ (v : Kept). v.known) (if b then Some k else None)) other

own_number : (k : Kept) (job : ℕ) → (k.job == job) ≡ true → reading_in (k ∷ []) job ≡ Some k.known
own_number k job own = ap (λ (b : Bool). option_map (λ (v : Kept). v.known) (if b then Some k else None)) own

-- a new job
new_noted : (s : SetUp) (st : State) (e : Entry) (was : List Kept) (change : Option Kept) (x : Work) → Adds s st e change → IsNew st.works x → HasReadAs s (state_after s st e) x (reading_in (after_note st.works was change) x.number)
new_noted s st e was change x adds new =
    subst (HasReadAs s (state_after s st e) x) (sym (kept_new st.works was change x.number (ap drop_has_read new.none) ∙ none change adds)) (new.unread, new_read s st e x new)
  where
    none : (c : Option Kept) → Adds s st e c → reading_in (option_to_list c) x.number ≡ None
    none None a = refl
    none (Some k) a = by_test (k.job == x.number)
        (λ own.
        let adding : AddsFor s st e k = adds_for s st e (begun_drop st.works e.kind) k refl a in
        let begun : IsBegun st.works adding.work = (begun_found st.works (job_of e.kind) adding.work adding.begun).0 in
        let number : adding.work.number ≡ x.number = sym adding.job ∙ number_is k.job x.number own in
        let there : find (λ (v : Work). v.number == x.number) st.works ≡ Some adding.work = subst (λ (n : ℕ). find (λ (v : Work). v.number == n) st.works ≡ Some adding.work) number begun.found in
        absurd (no_two st.works x.number adding.work there new.none))
        (λ other. other_number k x.number other)
      where
        no_two : (ws : List Work) (n : ℕ) (w : Work) → find (λ (v : Work). v.number == n) ws ≡ Some w → find (λ (v : Work). v.number == n) ws ≡ None → ⊥
        no_two ws n w a b = let neither : Some w ≡ None = sym a ∙ b in cc

-- a job that had read
past_noted : (s : SetUp) (st : State) (e : Entry) (was : List Kept) (change : Option Kept) (x : Work) (one : WasThere st.works e x) → has_read one.work.part one.work.phase ≡ true → HasReadAs s st one.work (reading_in was one.work.number)
    → HasReadAs s (state_after s st e) x (reading_in (after_note st.works was change) x.number)
past_noted s st e was change x one read old = go (find (λ (k : Kept). k.job == one.work.number) was) refl old
  where
    number : x.number ≡ one.work.number
    number = ap (λ (j : RunningJob). j.number) one.job

    go : (o : Option Kept) → find (λ (k : Kept). k.job == one.work.number) was ≡ o → HasReadAs s st one.work (option_map (λ (k : Kept). k.known) o) → HasReadAs s (state_after s st e) x (reading_in (after_note st.works was change) x.number)
    go None found h = absurd (true≢false (sym read ∙ h.0))
    go (Some k) found h =
        let kept : reading_in (after_note st.works was change) x.number ≡ Some k.known =
        ap (reading_in (after_note st.works was change)) number ∙ kept_read st.works was change one.work.number k (ap drop_has_read one.found ∙ read) found in
        subst (HasReadAs s (state_after s st e) x) (sym kept) (read_same (st.read one.work.number) ((state_after s st e).read x.number) s one.work x k.known (past_read s st e x one read) one.job h)

-- the lines are those before the entry where it adds a reading
same_lines : (s : SetUp) (st : State) (e : Entry) (job : ℕ) → job_of e.kind ≡ Some job → (state_after s st e).logs ≡ settings st.lines
same_lines s st e job is = let same = leaves_files e.kind e.lines job is in λ i. settings (λ path. same path (st.lines path) i)

-- a job that had read nothing
unread_noted : (s : SetUp) (st : State) (e : Entry) (was : List Kept) (change : Option Kept) (x : Work) (one : WasThere st.works e x) → Adds s st e change → has_read one.work.part one.work.phase ≡ false
    → HasReadAs s (state_after s st e) x (reading_in (after_note st.works was change) x.number)
unread_noted s st e was change x one adds unread =
    subst (HasReadAs s (state_after s st e) x)
    (sym (ap (reading_in (after_note st.works was change)) number ∙ kept_new st.works was change one.work.number (ap drop_has_read one.found ∙ unread)))
    (go change adds)
  where
    number : x.number ≡ one.work.number
    number = ap (λ (j : RunningJob). j.number) one.job

    logs : (state_after s st e).read x.number ≡ (state_after s st e).logs
    logs = still_read s st e x one unread

    -- it has read nothing now
    nothing : ((begun_drop st.works e.kind ≡ Some one.work) → ⊥) → has_read x.part x.phase ≡ false
    nothing other = by_test (has_read x.part x.phase) (λ read. absurd (other (one.reads unread read))) (λ still. still)

    go : (c : Option Kept) → Adds s st e c → HasReadAs s (state_after s st e) x (reading_in (option_to_list c) one.work.number)
    go None a = (nothing (λ begun. adds_none s st one.work (begun_drop st.works e.kind) begun a), logs)
    go (Some k) a = by_test (k.job == one.work.number)
        (λ own.
        let of_it : adding.work.number ≡ one.work.number = sym adding.job ∙ number_is k.job one.work.number own in
        let same : adding.work ≡ one.work = one_found adding.work one.work of_it begun.0.found one.found in
        let read : AreLogsRead (settings st.lines) s one.work k.known = subst (λ (w : Work). AreLogsRead (settings st.lines) s w k.known) same adding.read in
        subst (HasReadAs s (state_after s st e) x) (sym (own_number k one.work.number own))
        (read_same (settings st.lines) ((state_after s st e).read x.number) s one.work x k.known (logs ∙ same_lines s st e adding.work.number begun.1) one.job read))
        (λ other. subst (HasReadAs s (state_after s st e) x) (sym (other_number k one.work.number other)) (
          nothing (λ is.
              let drops : Some adding.work ≡ Some one.work = sym adding.begun ∙ is in
              let same : adding.work ≡ one.work = cc in
              let here : (k.job == one.work.number) ≡ true = ap (λ (n : ℕ). n == one.work.number) (adding.job ∙ ap (λ (w : Work). w.number) same) ∙ same_number one.work.number in
              absurd (true≢false (sym here ∙ other))),
          logs,
        ))
      where
        adding : AddsFor s st e k
        adding = adds_for s st e (begun_drop st.works e.kind) k refl a

        begun : IsBegun st.works adding.work × (job_of e.kind ≡ Some adding.work.number)
        begun = begun_found st.works (job_of e.kind) adding.work adding.begun

        one_found : (v w : Work) → v.number ≡ w.number → find (λ (u : Work). u.number == v.number) st.works ≡ Some v → find (λ (u : Work). u.number == w.number) st.works ≡ Some w → v ≡ w
        one_found v w equal a b =
            let both : Some v ≡ Some w = sym a ∙ ap (λ (n : ℕ). find (λ (u : Work). u.number == n) st.works) equal ∙ b in
            cc

there_noted : (s : SetUp) (st : State) (e : Entry) (was : List Kept) (change : Option Kept) (x : Work) (one : WasThere st.works e x) → Adds s st e change → HasReadAs s st one.work (reading_in was one.work.number)
    → HasReadAs s (state_after s st e) x (reading_in (after_note st.works was change) x.number)
there_noted s st e was change x one adds old =
    by_test (has_read one.work.part one.work.phase) (λ read. past_noted s st e was change x one read old) (λ unread. unread_noted s st e was change x one adds unread)

-- what drops have read after an entry
pub noted : (s : SetUp) (st : State) (e : Entry) (was now : List Kept) (change : Option Kept) → now ≡ after_note st.works was change → IsReadFor (settings st.lines) s (begun_drop st.works e.kind) change
    → ((w : Work) → IsOnly st.works w → HasReadAs s st w (reading_in was w.number)) → (x : Work) → IsOnly (state_after s st e).works x → HasReadAs s (state_after s st e) x (reading_in now x.number)
noted s st e was now change is adds each x only =
    subst (λ (ks : List Kept). HasReadAs s (state_after s st e) x (reading_in ks x.number)) (sym is)
    (elim (came (around s st) s.number st.works e e.kind x only) [
      | inl new ↦ new_noted s st e was change x adds new
      | inr one ↦ there_noted s st e was change x one adds (each one.work one.only)
    ])

-- ---- what the entry adds

-- what the files say for the drop that begins
pub read_by_files : (s : SetUp) (st : State) (kind : EntryKind) (repo : ℕ) (ids paths : List (List ℕ)) (lines : Lines) (w : Work) (k : Kept) → begun_drop st.works kind ≡ Some w → s.number ≡ repo → ids_of s ≡ ids → HadPaths s kind paths
    → ((path : List ℕ) → st.lines path ≡ lines path) → IsKeptFor lines repo ids paths w k → IsReadFor (settings st.lines) s (begun_drop st.works kind) (Some k)
read_by_files s st kind repo ids paths lines w k begun number listed had same is =
    let its = (begun_found st.works (job_of kind) w begun).1 in
    let read : AreLogsRead (settings lines) s w k.known = is.1 s number listed (had w.number its) in
    let back : settings lines ≡ settings st.lines = λ i. settings (λ path. sym (same path) i) in
    subst (λ (o : Option Work). IsReadFor (settings st.lines) s o (Some k)) (sym begun) (is.0, subst (λ (r : Settings). AreLogsRead r s w k.known) back read)
