-- Each direct step of the script lets one repository alone go on.
use Rattle.std.proofs.Common.{inl, inr, ℕ, ◌+◌, ◌<◌, ◌^◌, List, [], ◌∷◌, length, refl, arith, le_refl}
use Rattle.std.specs.Prelude.{max, not}
use Rattle.annex_base.specs.declared.kinds.Call.TheVariants as calls
use Rattle.run_data.specs.declared.entry.By.TheVariants.{Script}
use Rattle.run_data.specs.declared.entry.EntryKind.TheVariants as kinds
use Rattle.run_data.specs.declared.entry.LogFile.{LogFile}
use Rattle.run_data.specs.declared.entry.LogFile.TheVariants.{Location}
use Rattle.run_data.specs.declared.job.Job.{Job}
use Rattle.run_data.specs.Files.{file_of}
use Rattle.run_model.specs.Logs.{branch}
use Rattle.run_model.specs.Past.{begun_count}
use Rattle.union_merge.specs.Branch.{Files}
use Rattle.driver_model.specs.Driver.{Driver, DriverInput, commits, drops_part, fails_at, newest_count, notes, puts_part}
use Rattle.driver_model.specs.ScriptSteps.{begins, begins_part, unless_fails, compacts, compacts_files, faults, fills_up, gains, has, is_busy, is_nil, logs, logs_some, logs_status, merges, merges_files, news, sets_part, shrinks, unknown_lines, unless_busy, writes}
use Rattle.fleet_model.proofs.Going.{GoesOnQuietly, goes_calling, goes_failing, goes_if, goes_noting, goes_nowhere, goes_then}
use Rattle.fleet_model.proofs.StoreSteps.{committed_elsewhere, dropped_elsewhere, put_elsewhere}

-- ---- logs

pub goes_logs : (r : ℕ) (file : LogFile) (lines : List (List ℕ)) (d : Driver) → GoesOnQuietly r d (logs r file lines d)
goes_logs r file lines d = goes_calling r calls.PutFile d (notes r (kinds.Log file) lines d) (goes_noting r (kinds.Log file) lines d tt (inl refl))

goes_logs_some : (r : ℕ) (file : LogFile) (lines : List (List ℕ)) (d : Driver) → GoesOnQuietly r d (logs_some r file lines d)
goes_logs_some r file [] d = goes_nowhere r d
goes_logs_some r file (line ∷ lines) d = goes_logs r file (line ∷ lines) d

pub goes_writes : (r : ℕ) (file : LogFile) (line : List ℕ) (d : Driver) → GoesOnQuietly r d (writes r file line d)
goes_writes r file line d = goes_logs_some r file (unknown_lines d r file (line ∷ [])) d

pub goes_merges_files : (r : ℕ) (files : Files) (d : Driver) → GoesOnQuietly r d (merges_files r files d)
goes_merges_files r [] d = goes_nowhere r d
goes_merges_files r (f ∷ files) d =
    let done : Driver = notes r (kinds.Log (file_of f.0)) (news d r f.0 f.1) d in
    goes_if r (is_nil (news d r f.0 f.1)) d (merges_files r files d) _ (goes_merges_files r files d)
    (goes_if r (fails_at d r calls.PutFile) d (faults r calls.PutFile d) (merges_files r files done) (goes_failing r calls.PutFile d)
    (goes_then r d done (merges_files r files done) (goes_noting r (kinds.Log (file_of f.0)) (news d r f.0 f.1) d tt (inl refl)) (goes_merges_files r files done)))

pub goes_merges : (r other : ℕ) (d : Driver) → GoesOnQuietly r d (merges r other d)
goes_merges r other d = goes_merges_files r (branch d.past other) d

pub goes_compacts_files : (r : ℕ) (files : Files) (d : Driver) → GoesOnQuietly r d (compacts_files r files d)
goes_compacts_files r [] d = goes_nowhere r d
goes_compacts_files r (f ∷ files) d =
    let done : Driver = notes r (kinds.Compact (file_of f.0)) [] d in
    goes_if r (not (shrinks d r (file_of f.0))) d (compacts_files r files d) _ (goes_compacts_files r files d)
    (goes_if r (fails_at d r calls.PutFile) d (faults r calls.PutFile d) (compacts_files r files done) (goes_failing r calls.PutFile d)
    (goes_then r d done (compacts_files r files done) (goes_noting r (kinds.Compact (file_of f.0)) [] d tt (inl refl)) (goes_compacts_files r files done)))

pub goes_compacts : (r : ℕ) (d : Driver) → GoesOnQuietly r d (compacts r d)
goes_compacts r d = goes_compacts_files r (branch d.past r) d

-- ---- contents

pub goes_dropping : (r : ℕ) (key : List ℕ) (d : Driver) → GoesOnQuietly r d (drops_part r key d)
goes_dropping r key d = record { on = record { more = []; past = refl; own = tt; tree = refl; marks = refl; stores = λ q v apart is. dropped_elsewhere d r q key v apart is; at = refl; counted = le_refl (newest_count d.past); bounds = tt; large = λ e. e }; flights = refl; quiet = tt }

greatest : (a b : ℕ) → b < 2 ^ 62 → a < 2 ^ 62 → max a b < 2 ^ 62
greatest a b small large = grind arith

pub goes_putting : (r : ℕ) (key bytes : List ℕ) (d : Driver) → length bytes < 2 ^ 62 → GoesOnQuietly r d (puts_part r key bytes d)
goes_putting r key bytes d small = record { on = record { more = []; past = refl; own = tt; tree = refl; marks = refl; stores = λ q v apart is. put_elsewhere d r q key bytes v apart is; at = refl; counted = le_refl (newest_count d.past); bounds = tt; large = greatest d.largest (length bytes) small }; flights = refl; quiet = tt }

pub goes_committing : (r : ℕ) (key : List ℕ) (d : Driver) → GoesOnQuietly r d (commits r key d)
goes_committing r key d = record { on = record { more = []; past = refl; own = tt; tree = refl; marks = refl; stores = λ q v apart is. committed_elsewhere d r q key v apart is; at = refl; counted = le_refl (newest_count d.past); bounds = tt; large = λ e. e }; flights = refl; quiet = tt }

goes_unless_busy : (g : DriverInput) (r : ℕ) (key : List ℕ) (d done : Driver) → GoesOnQuietly r d done → GoesOnQuietly r d (unless_busy g r key d done)
goes_unless_busy g r key d done on =
    goes_calling r calls.Has d _ (goes_if r (is_busy g d r key) d d _ (goes_nowhere r d) (goes_calling r calls.DropPart d done on))

goes_gains : (g : DriverInput) (r : ℕ) (key bytes : List ℕ) (d : Driver) → length bytes < 2 ^ 62 → GoesOnQuietly r d (gains g r key bytes d)
goes_gains g r key bytes d small =
    let come : Driver = commits r key d in
    let noted : Driver = notes r (kinds.Gain Script (length bytes) key) [] come in
    goes_then r d noted (logs_status g r key noted)
    (goes_then r d come noted (goes_committing r key d) (goes_noting r (kinds.Gain Script (length bytes) key) [] come small (inl refl)))
    (goes_calling r calls.PutFile noted _ (goes_noting r (kinds.Log (Location key)) _ noted tt (inl refl)))

goes_fills_up : (g : DriverInput) (r : ℕ) (key bytes : List ℕ) (d : Driver) → length bytes < 2 ^ 62 → GoesOnQuietly r d (fills_up g r key bytes d)
goes_fills_up g r key bytes d small =
    let put : Driver = puts_part r key bytes d in
    goes_if r (fails_at d r calls.Append) d (faults r calls.Append d) _ (goes_failing r calls.Append d)
    (goes_then r d put (unless_fails r calls.Commit put (gains g r key bytes put)) (goes_putting r key bytes d small) (goes_calling r calls.Commit put (gains g r key bytes put) (goes_gains g r key bytes put small)))

pub goes_has : (g : DriverInput) (r : ℕ) (key bytes : List ℕ) (d : Driver) → length bytes < 2 ^ 62 → GoesOnQuietly r d (has g r key bytes d)
goes_has g r key bytes d small =
    let dropped : Driver = drops_part r key d in
    goes_unless_busy g r key d (fills_up g r key bytes dropped) (goes_then r d dropped (fills_up g r key bytes dropped) (goes_dropping r key d) (goes_fills_up g r key bytes dropped small))

pub goes_sets_part : (g : DriverInput) (r : ℕ) (key bytes : List ℕ) (d : Driver) → length bytes < 2 ^ 62 → GoesOnQuietly r d (sets_part g r key bytes d)
goes_sets_part g r key bytes d small =
    let dropped : Driver = drops_part r key d in
    goes_unless_busy g r key d (begins_part r key bytes dropped)
    (goes_then r d dropped (begins_part r key bytes dropped) (goes_dropping r key d) (goes_calling r calls.Append dropped (puts_part r key bytes dropped) (goes_putting r key bytes dropped small)))

-- ---- jobs

pub goes_begins : (r : ℕ) (job : Job) (d : Driver) → GoesOnQuietly r d (begins r job d)
goes_begins r job d = goes_if r _ d _ d (goes_noting r (kinds.Begin (begun_count d.past r + 1) job) [] d tt (inr (begun_count d.past r + 1, job, refl))) (goes_nowhere r d)
