-- The parts of a store after the step of a job.
use Rattle.std.proofs.Common.{◌≡◌, ℕ, Bool, true, false, if◌then◌else◌, List, [], ◌++◌, Option, Some, None, refl, sym, ap, subst, ◌∙◌}
use Rattle.std.specs.Prelude.{◌&&◌, IfSome, bytes_eq, is_some, length, nat_le, nat_lt}
use Rattle.std.specs.Option.{option_map}
use Rattle.std.proofs.lemmas.Option.{same_Some}
use Rattle.annex_base.proofs.Conditions.{bytes_eq-refl}
use Rattle.run_data.specs.declared.entry.EntryKind.{EntryKind}
use Rattle.run_data.specs.declared.entry.EntryKind.TheVariants.{Fault, Talk}
use Rattle.p2p_wire.specs.declared.message.Message.TheVariants.{Valid}
use Rattle.object_store.specs.Stores.{Parts, with_at}
use Rattle.content_lock.specs.Rows.{Rows, is_filling}
use Rattle.session_state.specs.declared.incoming.Incoming.{Incoming}
use Rattle.session_state.specs.declared.incoming.Incoming.TheVariants as incoming
use Rattle.session_state.specs.Talking.{IsFedBy, IsTakenOf, parts_after_valid}
use Rattle.transfer_turns.specs.Steps.{fills_key}
use Rattle.get_phases.specs.declared.getting.Phase.{Phase}
use Rattle.get_phases.specs.declared.getting.Phase.TheVariants as phases
use Rattle.get_phases.specs.Gets as gets
use Rattle.get_phases.specs.Gets.{fill_in, if_awaited}
use Rattle.node_tasks.specs.Worker.{Worker}
use Rattle.node_tasks.specs.Worker.TheVariants.{Gets, Puts}
use Rattle.node_tasks.specs.Workers as transfers
use Rattle.node_tasks.specs.Workers.{HasFill}
use Rattle.node_tasks.specs.declared.readiness.Told.{Told}
use Rattle.node_tasks.specs.declared.readiness.Told.TheVariants as tolds
use Rattle.node_tasks.specs.declared.task.Task.{Task}
use Rattle.node_tasks.specs.declared.task.Task.TheVariants as tasks
use Rattle.node_tasks.specs.Acting.{parts_after}
use Rattle.node_tasks.specs.Tasks.{IsFedTask, OwnsOf, work_now}
use Rattle.running_jobs.proofs.Transfers.{as_job}

-- ---- they are told as before

awaited_told : (left count : ℕ) (grown known : Option Parts) → is_some grown ≡ is_some known → is_some (if_awaited left count grown known) ≡ is_some known
awaited_told left count grown known same = by_test (nat_lt 0 count && nat_le count left)
  where
    by_test : (b : Bool) → is_some (if b then grown else known) ≡ is_some known
    by_test true = same
    by_test false = refl

mapped_told : (f : Parts → Parts) (known : Option Parts) → is_some (option_map f known) ≡ is_some known
mapped_told f None = refl
mapped_told f (Some q) = refl

valid_told : (key : List ℕ) (kind : EntryKind) (known : Option Parts) → is_some (parts_after_valid key kind known) ≡ is_some known
valid_told key (Fault call by) known = refl
valid_told key kind known = mapped_told (λ p. with_at p key []) known

get_told : (phase : Phase) (i : Option Incoming) (kind : EntryKind) (known : Option Parts) → is_some (gets.parts_after phase i kind known) ≡ is_some known
get_told (phases.Bytes peer start taking) (Some (incoming.Bytes bytes)) (Talk job) known =
    awaited_told taking.left (length bytes.items) (option_map (λ p. with_at p taking.fill (p taking.fill ++ bytes.items)) known) known (mapped_told (λ p. with_at p taking.fill (p taking.fill ++ bytes.items)) known)
get_told (phases.Word peer start taken) (Some (incoming.Message Valid)) kind known = valid_told taken.fill kind known
get_told phase i kind known = refl

transfer_told : (v : Worker) (i : Option Incoming) (kind : EntryKind) (known : Option Parts) → is_some (transfers.parts_after (as_job v) i kind known) ≡ is_some known
transfer_told (Gets w) i kind known = get_told w.phase i kind known
transfer_told (Puts w) i kind known = refl

pub parts_told : (t : Task) (x : Told) (kind : EntryKind) (known : Option Parts) → is_some (parts_after t x kind known) ≡ is_some known
parts_told (tasks.Transfers w) (tolds.Arrival x) kind known = transfer_told w.worker x.incoming kind known
parts_told t x kind known = refl

-- ---- a step changes the part of the key that its job fills alone

at_other : (q : Parts) (fill own key xs : List ℕ) → fill ≡ own → bytes_eq own key ≡ false → with_at q fill xs key ≡ q key
at_other q fill own key xs same apart = ap (λ (b : Bool). if b then xs else q key) (ap (λ (k : List ℕ). bytes_eq k key) same ∙ apart)

at_key : (q q' : Parts) (key : List ℕ) → Some q ≡ Some q' → q' key ≡ q key
at_key q q' key is = ap (λ (p : Parts). p key) (sym (same_Some q q' is))

with_key : (q q' : Parts) (fill own key xs : List ℕ) → fill ≡ own → bytes_eq own key ≡ false → Some (with_at q fill xs) ≡ Some q' → q' key ≡ q key
with_key q q' fill own key xs same apart is = at_key (with_at q fill xs) q' key is ∙ at_other q fill own key xs same apart

grown_key : (b : Bool) (q q' : Parts) (fill own key xs : List ℕ) → fill ≡ own → bytes_eq own key ≡ false → (if b then Some (with_at q fill xs) else Some q) ≡ Some q' → q' key ≡ q key
grown_key true q q' fill own key xs same apart is = with_key q q' fill own key xs same apart is
grown_key false q q' fill own key xs same apart is = at_key q q' key is

valid_key : (kind : EntryKind) (q q' : Parts) (fill own key : List ℕ) → fill ≡ own → bytes_eq own key ≡ false → parts_after_valid fill kind (Some q) ≡ Some q' → q' key ≡ q key
valid_key (Fault call by) q q' fill own key same apart is = at_key q q' key is
valid_key kind q q' fill own key same apart is = with_key q q' fill own key [] same apart is

get_same : (rows : Rows) (own : List ℕ) (phase : Phase) (i : Option Incoming) (kind : EntryKind) (q q' : Parts) (key : List ℕ) → IfSome (fill_in phase) (λ (fill : List ℕ). (fill ≡ own) × (is_filling rows fill ≡ true))
    → (is_some (fill_in phase) && bytes_eq own key) ≡ false → gets.parts_after phase i kind (Some q) ≡ Some q' → q' key ≡ q key
get_same rows own (phases.Bytes peer start taking) (Some (incoming.Bytes bytes)) (Talk job) q q' key has apart is =
    grown_key (nat_lt 0 (length bytes.items) && nat_le (length bytes.items) taking.left) q q' taking.fill own key (q taking.fill ++ bytes.items) has.0 apart is
get_same rows own (phases.Word peer start taken) (Some (incoming.Message Valid)) kind q q' key has apart is = valid_key kind q q' taken.fill own key has.0 apart is
get_same rows own phase i kind q q' key has apart is = at_key q q' key is

transfer_same : (rows : Rows) (v : Worker) (i : Option Incoming) (kind : EntryKind) (q q' : Parts) (key : List ℕ) → HasFill rows (as_job v) → fills_key (transfers.work_of (as_job v)) key ≡ false → transfers.parts_after (as_job v) i kind (Some q) ≡ Some q' → q' key ≡ q key
transfer_same rows (Gets w) i kind q q' key has apart is = get_same rows w.job.key w.phase i kind q q' key has apart is
transfer_same rows (Puts w) i kind q q' key has apart is = at_key q q' key is

pub parts_same : (rows : Rows) (t : Task) (x : Told) (kind : EntryKind) (q q' : Parts) (key : List ℕ) → OwnsOf rows t → fills_key (work_now t) key ≡ false → parts_after t x kind (Some q) ≡ Some q' → q' key ≡ q key
parts_same rows (tasks.Transfers w) (tolds.Arrival x) kind q q' key owns apart is = transfer_same rows w.worker x.incoming kind q q' key owns.1 apart is
parts_same rows t x kind q q' key owns apart is = at_key q q' key is

-- ---- what another has taken of its part is still the store's part

get_fed : (rows : Rows) (own : List ℕ) (phase : Phase) (q q' : Parts) → IfSome (fill_in phase) (λ (fill : List ℕ). (fill ≡ own) × (is_filling rows fill ≡ true))
    → ((key : List ℕ) → (is_some (fill_in phase) && bytes_eq own key) ≡ true → q' key ≡ q key) → gets.IsFed q phase → gets.IsFed q' phase
get_fed rows own (phases.Data peer wanting) q q' has same fed = subst (IsFedBy wanting.digester wanting.fill) (sym (same wanting.fill (ap (bytes_eq own) has.0 ∙ bytes_eq-refl own))) fed
get_fed rows own (phases.Bytes peer start taking) q q' has same fed = subst (IsFedBy taking.digester taking.fill) (sym (same taking.fill (ap (bytes_eq own) has.0 ∙ bytes_eq-refl own))) fed
get_fed rows own (phases.Word peer start taken) q q' has same fed = subst (IsTakenOf taken) (sym (same taken.fill (ap (bytes_eq own) has.0 ∙ bytes_eq-refl own))) fed
get_fed rows own phase q q' has same fed = tt

transfer_fed : (rows : Rows) (v : Worker) (q q' : Parts) → HasFill rows (as_job v) → ((key : List ℕ) → fills_key (transfers.work_of (as_job v)) key ≡ true → q' key ≡ q key) → transfers.IsFed q (as_job v) → transfers.IsFed q' (as_job v)
transfer_fed rows (Gets w) q q' has same fed = get_fed rows w.job.key w.phase q q' has same fed
transfer_fed rows (Puts w) q q' has same fed = tt

pub fed_on : (rows : Rows) (t : Task) (q q' : Parts) → OwnsOf rows t → ((key : List ℕ) → fills_key (work_now t) key ≡ true → q' key ≡ q key) → IsFedTask q t → IsFedTask q' t
fed_on rows (tasks.Transfers w) q q' owns same fed = transfer_fed rows w.worker q q' owns.1 same fed
fed_on rows (tasks.Drops j) q q' owns same fed = tt
