-- The steps of a repository add entries of that repository alone.
use Rattle.std.proofs.Common.{◌≡◌, ℕ, ◌+◌, Bool, true, false, List, [], ◌∷◌, ◌++◌, Option, Some, None, refl, sym, ap, ◌∙◌, append_assoc}
use Rattle.std.specs.Prelude.{if◌then◌else◌, length, nat_lt, not}
use Rattle.annex_base.specs.Lists.{Each}
use Rattle.annex_base.specs.declared.kinds.Call.{Call}
use Rattle.annex_base.specs.declared.kinds.Call.TheVariants as calls
use Rattle.annex_base.proofs.Conditions.{eqb_refl}
use Rattle.annex_base.proofs.Lists.{Each-append}
use Rattle.log_lines.specs.declared.entry.LogKind.{LogKind}
use Rattle.log_lines.specs.declared.entry.Topic.{Topic}
use Rattle.log_lines.specs.declared.entry.Value.{Value}
use Rattle.union_merge.specs.Branch.{Files}
use Rattle.run_data.specs.declared.entry.Entry.{Entry}
use Rattle.run_data.specs.declared.entry.EntryKind.TheVariants as kinds
use Rattle.run_data.specs.declared.entry.LogFile.{LogFile}
use Rattle.run_data.specs.declared.entry.LogFile.TheVariants.{Of}
use Rattle.run_data.specs.declared.job.Job.{Job}
use Rattle.run_data.specs.Files.{file_of}
use Rattle.run_model.specs.Past.{begun_count, is_of}
use Rattle.run_model.specs.States.{works}
use Rattle.node_model.specs.Look.{Look, Effect, entry_of}
use Rattle.node_model.specs.SetUp.{SetUp}
use Rattle.node_model.specs.State.{State}
use Rattle.node_model.specs.Step.{step}
use Rattle.driver_model.specs.Driver.{Driver, DriverInput, adds, drops_part, fails_at, notes, puts_part, set_up_of, state_at, without_old_flights}
use Rattle.driver_model.specs.Limits.{AddsOwn}
use Rattle.driver_model.specs.ScriptSteps.{begins, begins_part, compacts_files, faults, fills_up, gains, has, is_busy, is_nil, logs, logs_some, merges_files, news, sets, sets_part, setting_line, shrinks, unknown_lines, unless_busy, unless_fails, writes}
use Rattle.driver_model.specs.Turning.{bytes_taken, look_for, looks, makes, plain_look, turn}
use Rattle.driver_model.proofs.Settles.{store_past}

module _ (r : ℕ) where
  -- ---- of pasts, which have the newest entry first

  -- the one past is the other with entries of r in front
  abbrev GrewOwn : List Entry → List Entry → Type 0
  GrewOwn past after = (more : List Entry) × (after ≡ more ++ past) × Each (λ e. is_of r e ≡ true) more

  -- so is that of a driver
  abbrev Owns : Driver → Driver → Type 0
  Owns d after = GrewOwn d.past after.past

  pub adds_own : (d after : Driver) → Owns d after → AddsOwn r d after
  adds_own d after x = record { more = x.0; adds = x.1; own = x.2 }

  stays : (past after : List Entry) → after ≡ past → GrewOwn past after
  stays past after e = ([], e, tt)

  one : (past : List Entry) (e : Entry) → is_of r e ≡ true → GrewOwn past (e ∷ past)
  one past e own = (e ∷ [], refl, (own, tt))

  then_grew : (a b c : List Entry) → GrewOwn a b → GrewOwn b c → GrewOwn a c
  then_grew a b c x y = (y.0 ++ x.0, y.1 ∙ ap (λ past. y.0 ++ past) x.1 ∙ sym (append_assoc y.0 x.0 a), Each-append (λ (e : Entry). is_of r e ≡ true) y.0 x.0 y.2 x.2)

  -- ---- store calls and lines

  calling_owns : (d done : Driver) (call : Call) → Owns d done → Owns d (unless_fails r call d done)
  calling_owns d done call x = go (fails_at d r call)
    where
      go : (b : Bool) → Owns d (if b then faults r call d else done)
      go true = one d.past _ (eqb_refl r)
      go false = x

  logs_owns : (file : LogFile) (lines : List (List ℕ)) (d : Driver) → Owns d (logs r file lines d)
  logs_owns file lines d = calling_owns d (notes r (kinds.Log file) lines d) calls.PutFile (one d.past _ (eqb_refl r))

  some_owns : (file : LogFile) (lines : List (List ℕ)) (d : Driver) → Owns d (logs_some r file lines d)
  some_owns file [] d = stays d.past d.past refl
  some_owns file (line ∷ lines) d = logs_owns file (line ∷ lines) d

  pub writes_owns : (file : LogFile) (line : List ℕ) (d : Driver) → Owns d (writes r file line d)
  writes_owns file line d = some_owns file (unknown_lines d r file (line ∷ [])) d

  pub sets_owns : (g : DriverInput) (kind : LogKind) (topic : Topic) (value : Value) (d : Driver) → Owns d (sets g r kind topic value d)
  sets_owns g kind topic value d = writes_owns (Of kind) (setting_line g d r kind topic value) d

  pub merged_owns : (files : Files) (d : Driver) → Owns d (merges_files r files d)
  merged_owns [] d = stays d.past d.past refl
  merged_owns (f ∷ files) d = go (merged_owns files d) (merged_owns files written) (is_nil (news d r f.0 f.1)) (fails_at d r calls.PutFile)
    where
      written : Driver
      written = notes r (kinds.Log (file_of f.0)) (news d r f.0 f.1) d

      go : Owns d (merges_files r files d) → Owns written (merges_files r files written) → (b c : Bool)
          → Owns d (if b then merges_files r files d else (if c then faults r calls.PutFile d else merges_files r files written))
      go same more true c = same
      go same more false true = one d.past _ (eqb_refl r)
      go same more false false = then_grew d.past written.past (merges_files r files written).past (one d.past _ (eqb_refl r)) more

  pub compacted_owns : (files : Files) (d : Driver) → Owns d (compacts_files r files d)
  compacted_owns [] d = stays d.past d.past refl
  compacted_owns (f ∷ files) d = go (compacted_owns files d) (compacted_owns files shorter) (not (shrinks d r (file_of f.0))) (fails_at d r calls.PutFile)
    where
      shorter : Driver
      shorter = notes r (kinds.Compact (file_of f.0)) [] d

      go : Owns d (compacts_files r files d) → Owns shorter (compacts_files r files shorter) → (b c : Bool)
          → Owns d (if b then compacts_files r files d else (if c then faults r calls.PutFile d else compacts_files r files shorter))
      go same more true c = same
      go same more false true = one d.past _ (eqb_refl r)
      go same more false false = then_grew d.past shorter.past (compacts_files r files shorter).past (one d.past _ (eqb_refl r)) more

  -- ---- contents

  gains_owns : (g : DriverInput) (key bytes : List ℕ) (d : Driver) → Owns d (gains g r key bytes d)
  gains_owns g key bytes d = then_grew d.past _ (gains g r key bytes d).past (one d.past _ (eqb_refl r)) (logs_owns _ _ _)

  fills_owns : (g : DriverInput) (key bytes : List ℕ) (d : Driver) → Owns d (fills_up g r key bytes d)
  fills_owns g key bytes d = go (fails_at d r calls.Append)
    where
      put : Driver
      put = puts_part r key bytes d

      go : (b : Bool) → Owns d (if b then faults r calls.Append d else unless_fails r calls.Commit (puts_part r key bytes d) (gains g r key bytes (puts_part r key bytes d)))
      go true = one d.past _ (eqb_refl r)
      go false = calling_owns put (gains g r key bytes put) calls.Commit (gains_owns g key bytes put)

  unless_owns : (g : DriverInput) (key : List ℕ) (d done : Driver) → Owns d done → Owns d (unless_busy g r key d done)
  unless_owns g key d done x = calling_owns d (if is_busy g d r key then d else unless_fails r calls.DropPart d done) calls.Has (go (is_busy g d r key))
    where
      go : (b : Bool) → Owns d (if b then d else unless_fails r calls.DropPart d done)
      go true = stays d.past d.past refl
      go false = calling_owns d done calls.DropPart x

  pub has_owns : (g : DriverInput) (key bytes : List ℕ) (d : Driver) → Owns d (has g r key bytes d)
  has_owns g key bytes d = unless_owns g key d (fills_up g r key bytes (drops_part r key d)) (fills_owns g key bytes (drops_part r key d))

  pub part_owns : (g : DriverInput) (key bytes : List ℕ) (d : Driver) → Owns d (sets_part g r key bytes d)
  part_owns g key bytes d = unless_owns g key d (begins_part r key bytes (drops_part r key d))
      (calling_owns (drops_part r key d) (puts_part r key bytes (drops_part r key d)) calls.Append (stays d.past d.past refl))

  -- ---- jobs and turns

  pub begins_owns : (job : Job) (d : Driver) → Owns d (begins r job d)
  begins_owns job d = go (nat_lt (length (works d.past r)) 4)
    where
      go : (b : Bool) → Owns d (if b then notes r (kinds.Begin (begun_count d.past r + 1) job) [] d else d)
      go true = one d.past _ (eqb_refl r)
      go false = stays d.past d.past refl

  makes_owns : (st : State) (k : Look) (o : Option Effect) (d : Driver) → Owns d (makes st r k o d)
  makes_owns st k None d = stays d.past d.past refl
  makes_owns st k (Some m) d = (entry_of r k m ∷ [], store_past st r m (bytes_taken r m.taken d) m.kind (adds st r (entry_of r k m) d), (eqb_refl r, tt))

  looks_owns : (g : DriverInput) (s : SetUp) (st : State) (o : Option Effect) (d : Driver) → Owns d (looks g r s st o d)
  looks_owns g s st None d = stays d.past d.past refl
  looks_owns g s st (Some m) d = makes_owns st (look_for g d r s st m) (step s st (look_for g d r s st m)) d

  pub turn_owns : (g : DriverInput) (d : Driver) → Owns d (turn g r d)
  turn_owns g d =
      let c : Driver = without_old_flights (state_at g d r) r d in
      looks_owns g (set_up_of g d r) (state_at g d r) (step (set_up_of g d r) (state_at g d r) (plain_look (set_up_of g d r) c)) c
