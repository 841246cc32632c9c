-- The first lines of a script, which put contents in place: nothing runs and no end is open, so each content is there after its line.
use Rattle.std.proofs.Common.{◌≡◌, ℕ, ◌+◌, ◌≤◌, arith, Bool, true, false, ◌&&◌, ◌||◌, List, [], ◌∷◌, length, Option, None, refl, sym, ap, ◌∙◌, subst}
use Rattle.std.specs.Prelude.{bytes_eq, fold, if◌then◌else◌}
use Rattle.std.specs.List.{list_any}
use Rattle.std.proofs.lemmas.Bool.{or_from, true≢false}
use Rattle.annex_base.specs.Lists.{Each}
use Rattle.annex_base.specs.declared.kinds.Call.{Call}
use Rattle.annex_base.specs.declared.kinds.Call.TheVariants as calls
use Rattle.annex_base.proofs.Conditions.{if_same}
use Rattle.run_data.specs.declared.entry.By.TheVariants.{Script}
use Rattle.run_data.specs.declared.entry.Entry.{Entry}
use Rattle.run_data.specs.declared.entry.EntryKind.{EntryKind}
use Rattle.run_data.specs.declared.entry.EntryKind.TheVariants as kinds
use Rattle.run_data.specs.declared.entry.FrameView.{FrameView}
use Rattle.run_data.specs.declared.entry.LogFile.TheVariants.{Location}
use Rattle.run_data.specs.Repos.{id_of}
use Rattle.node_model.specs.Ends.{End, EndName, end_after, end_sends, end_took, sent_at, server_end, taken_at}
use Rattle.node_model.specs.Jobs.{RowsAndEnds, Work, works_after}
use Rattle.node_model.specs.OwedLines.{if_new, status_line}
use Rattle.node_model.specs.SessionStep.{is_filled, session_fills}
use Rattle.node_model.specs.Sessions.{is_filling}
use Rattle.node_model.specs.SetUp.{served_connections}
use Rattle.node_model.specs.Slots.{is_begin}
use Rattle.run_model.specs.Past.{is_of, present}
use Rattle.run_model.specs.States.{end_at, rows_at, works}
use Rattle.driver_model.specs.Driver.{Driver, DriverInput, FailLine, commits, drops_part, entry, is_failing, notes, puts_part, set_up_of, state_at}
use Rattle.driver_model.specs.ScriptSteps.{faults, fills_up, gains, gets_content, has, is_busy, lines_of, unless_fails, wall_of}
use Rattle.kept_copies.proofs.Coming.{gained}

-- ---- entries that take and send nothing, and begin no job

pub record IsQuiet (e : Entry) : Type 0 where
  pub takes_none : e.taken ≡ None
  pub sends_none : e.sent ≡ []
  pub no_job : is_begin e.kind ≡ false

quiet_end : (a : EndName) (was : End) (e : Entry) → IsQuiet e → end_after a was e ≡ was
quiet_end a was e q =
    ap (λ (o : Option FrameView). fold (λ (c : End) (f : FrameView). end_sends c f.body) (end_took was (taken_at a o)) (sent_at a e.sent)) q.takes_none
    ∙ ap (λ (fs : List FrameView). fold (λ (c : End) (f : FrameView). end_sends c f.body) was (sent_at a fs)) q.sends_none

all_closed : (past : List Entry) (r : ℕ) (a : EndName) → Each IsQuiet past → (end_at past r a).opened ≡ false
all_closed [] r a quiet = refl
all_closed (e ∷ past) r a quiet = go (all_closed past r a quiet.1) (is_of r e)
  where
    go : (end_at past r a).opened ≡ false → (b : Bool) → (if b then end_after a (end_at past r a) e else end_at past r a).opened ≡ false
    go ih true = ap (λ (c : End). c.opened) (quiet_end a (end_at past r a) e quiet.0) ∙ ih
    go ih false = ih

quiet_works : (rows : RowsAndEnds) (r : ℕ) (e : Entry) (kind : EntryKind) → is_begin kind ≡ false → works_after rows r [] e kind ≡ []
quiet_works rows r e (kinds.Begin job what) h = absurd (true≢false h)
quiet_works rows r e (kinds.End job outcome) h = refl
quiet_works rows r e (kinds.Crash clock) h = refl
quiet_works rows r e kind h = refl

none_runs : (past : List Entry) (r : ℕ) → Each IsQuiet past → works past r ≡ []
none_runs [] r quiet = refl
none_runs (e ∷ past) r quiet = go (none_runs past r quiet.1) (is_of r e)
  where
    go : works past r ≡ [] → (b : Bool) → (if b then works_after (rows_at past r) r (works past r) e e.kind else works past r) ≡ []
    go ih true = ap (λ (ws : List Work). works_after (rows_at past r) r ws e e.kind) ih ∙ quiet_works (rows_at past r) r e e.kind quiet.0.no_job
    go ih false = ih

-- ---- the driver before any job

pub record IsCalm (d : Driver) : Type 0 where
  pub no_fails : d.fails ≡ []
  pub quiet : Each IsQuiet d.past

pub any_none : {X : Type 0} (p : X → Bool) → ((x : X) → p x ≡ false) → (xs : List X) → list_any p xs ≡ false
any_none p none [] = refl
any_none p none (x ∷ xs) = or_from (p x) (list_any p xs) (none x) (any_none p none xs)

unfilled : (g : DriverInput) (d : Driver) (r : ℕ) (key : List ℕ) → IsCalm d → is_filled (set_up_of g d r) (state_at g d r) key ≡ false
unfilled g d r key calm =
    or_from (list_any (λ (c : ℕ × ℕ). session_fills (state_at g d r) key (server_end c.0 c.1)) (served_connections (set_up_of g d r))) (list_any (λ (w : Work). w.fills && bytes_eq w.what.key key) (works d.past r))
    (any_none (λ (c : ℕ × ℕ). session_fills (state_at g d r) key (server_end c.0 c.1)) (λ c. closed (server_end c.0 c.1)) (served_connections (set_up_of g d r)))
    (ap (list_any (λ (w : Work). w.fills && bytes_eq w.what.key key)) (none_runs d.past r calm.quiet))
  where
    closed : (a : EndName) → session_fills (state_at g d r) key a ≡ false
    closed a = ap (λ (b : Bool). b && is_filling key ((state_at g d r).sessions a).doing) (all_closed d.past r a calm.quiet)

or_none : (a b : Bool) → b ≡ false → (a || b) ≡ a
or_none true b e = refl
or_none false b e = e

-- no call fails
calls_done : (d done : Driver) (r : ℕ) (call : Call) → d.fails ≡ [] → unless_fails r call d done ≡ done
calls_done d done r call none = ap (λ (fails : List FailLine). if list_any (is_failing r call) fails then faults r call d else done) none

-- ---- a content is put in place

module _ (g : DriverInput) (r : ℕ) (key bytes : List ℕ) where
  -- the driver with the content, and with the line that says so
  abbrev gaining : Driver → Driver
  gaining d = gets_content r key bytes (puts_part r key bytes (drops_part r key d))

  abbrev news_of : Driver → List (List ℕ)
  news_of d = if_new (lines_of d r (Location key)) (status_line (lines_of d r (Location key)) (id_of g.repos r) true (wall_of g d r))

  abbrev placed : Driver → Driver
  placed d = notes r (kinds.Log (Location key)) (news_of (gaining d)) (gaining d)

  fills_done : (d : Driver) → d.fails ≡ [] → fills_up g r key bytes (drops_part r key d) ≡ placed d
  fills_done d none =
      ap (λ (fails : List FailLine). if list_any (is_failing r calls.Append) fails then faults r calls.Append (drops_part r key d) else unless_fails r calls.Commit put (gains g r key bytes put)) none
      ∙ calls_done put (gains g r key bytes put) r calls.Commit none
      ∙ calls_done (gaining d) (placed d) r calls.PutFile none
    where
      put : Driver
      put = puts_part r key bytes (drops_part r key d)

  has_done : (d : Driver) → d.fails ≡ [] → has g r key bytes d ≡ (if is_busy g d r key then d else placed d)
  has_done d none =
      calls_done d (if is_busy g d r key then d else unless_fails r calls.DropPart d (fills_up g r key bytes (drops_part r key d))) r calls.Has none
      ∙ ap (λ (done : Driver). if is_busy g d r key then d else done)
      (calls_done d (fills_up g r key bytes (drops_part r key d)) r calls.DropPart none ∙ fills_done d none)

  -- these are two entries more
  pub has_adds_two : (d : Driver) → IsCalm d → length (has g r key bytes d).past ≤ length d.past + 2
  has_adds_two d calm = subst (λ (x : Driver). length x.past ≤ length d.past + 2) (sym (has_done d calm.no_fails)) (go (is_busy g d r key))
    where
      go : (b : Bool) → length (if b then d else placed d).past ≤ length d.past + 2
      go true = omega arith
      go false = omega arith

  -- the content is there
  placed_present : (d : Driver) → present (placed d).past r key ≡ true
  placed_present d =
      let gain : Entry = entry (commits r key (puts_part r key bytes (drops_part r key d))) r (kinds.Gain Script (length bytes) key) [] in
      if_same (is_of r (entry (gaining d) r (kinds.Log (Location key)) (news_of (gaining d)))) (present (gaining d).past r key)
      ∙ gained gain d.past r (length bytes) Script key refl refl

  placed_calm : (d : Driver) → IsCalm d → IsCalm (placed d)
  placed_calm d calm = record {
    no_fails = calm.no_fails;
    quiet = (record { takes_none = refl; sends_none = refl; no_job = refl }, (record { takes_none = refl; sends_none = refl; no_job = refl }, calm.quiet));
  }

  pub has_calm : (d : Driver) → IsCalm d → IsCalm (has g r key bytes d)
  has_calm d calm = subst IsCalm (sym (has_done d calm.no_fails)) (go (is_busy g d r key))
    where
      go : (b : Bool) → IsCalm (if b then d else placed d)
      go true = calm
      go false = placed_calm d calm

  pub has_present : (d : Driver) → IsCalm d → present (has g r key bytes d).past r key ≡ true
  has_present d calm =
      subst (λ (x : Driver). present x.past r key ≡ true) (sym (has_done d calm.no_fails))
      (subst (λ (b : Bool). present (if b then d else placed d).past r key ≡ true) (sym (or_none (present d.past r key) (is_filled (set_up_of g d r) (state_at g d r) key) (unfilled g d r key calm)))
      (go (present d.past r key) refl))
    where
      go : (b : Bool) → present d.past r key ≡ b → present (if b then d else placed d).past r key ≡ true
      go true h = h
      go false h = placed_present d
