-- What a step of a get leaves.
use Rattle.std.proofs.Common.{◌≡◌, ℕ, ◌≤◌, Bool, true, false, not, List, [], Option, Some, None, refl, sym, ap, subst, ◌∙◌}
use Rattle.std.specs.Prelude.{◌&&◌, ◌||◌, IfSome, bytes_eq, if◌then◌else◌, is_some}
use Rattle.std.specs.Option.{ForSome, option_map}
use Rattle.std.proofs.lemmas.Option.{same_Some}
use Rattle.annex_base.specs.Causes.{Rose}
use Rattle.annex_base.specs.declared.kinds.Call.{Call}
use Rattle.run_data.specs.declared.entry.By.TheVariants.{Job as by_job}
use Rattle.run_data.specs.declared.entry.EntryKind.{EntryKind}
use Rattle.run_data.specs.declared.entry.EntryKind.TheVariants.{End, Fault, Talk}
use Rattle.run_data.specs.declared.job.Job.{Job}
use Rattle.object_store.specs.Stores.{AreSmallParts, Contents, Parts}
use Rattle.node_model.specs.Jobs.{Gets}
use Rattle.node_model.specs.Look.{failed_in}
use Rattle.node_model.specs.Slots.{job_of}
use Rattle.content_lock.specs.CallsMade.{fewer}
use Rattle.content_lock.specs.Rows.{Rows, is_filling}
use Rattle.session_state.specs.Answers.{contents_after}
use Rattle.session_state.specs.declared.incoming.Incoming.{Incoming}
use Rattle.transfer_turns.proofs.Leavings.{all_stays, but_none, still_filled}
use Rattle.transfer_turns.specs.declared.parcels.Parcel.{Parcel}
use Rattle.transfer_turns.specs.Parcels.{AreNoPieces}
use Rattle.transfer_turns.specs.Partners.{StaysApart}
use Rattle.transfer_turns.specs.Steps.{FillsSo, IsOfTransfer, LeavesBut, Seen, is_end}
use Rattle.transfer_turns.specs.Turns.{Sight, output_of}
use Rattle.get_phases.specs.declared.getting.Ending.TheVariants as endings
use Rattle.get_phases.specs.declared.getting.Getting.{Getting}
use Rattle.get_phases.specs.declared.getting.Phase.{Phase}
use Rattle.get_phases.specs.declared.getting.Phase.TheVariants as phases
use Rattle.get_phases.specs.Getting.{Keeps, Stays}
use Rattle.get_phases.specs.Gets.{HasFill, IsFed, IsJudgedIn, fill_in, is_done, part_of, parts_after, work_of}

-- ---- want of memory

pub stays_same : (rows : Rows) (k : Seen) (w w' : Getting) → w' ≡ w → Stays rows rows k k w w'
stays_same rows k w w' same = record { worker = same; table = refl; store = all_stays k }

-- ---- the store

pub nothing_left : (k : Seen) → LeavesBut None k k
nothing_left k = but_none k k (all_stays k)

-- what a step leaves of the store, other than contents and parts
pub record LeavesRest (failed : Option Call) (k k' : Seen) : Type 0 where
  pub records : k'.records ≡ k.records
  pub files : k'.files ≡ k.files
  pub later : k.faults ≤ k'.faults
  pub cause : IfSome failed (λ call. Rose k.faults k'.faults)
  pub left : k'.failing ≡ option_map (fewer failed) k.failing

pub rest_of : (failed : Option Call) (k k' : Seen) → LeavesBut failed k k' → LeavesRest failed k k'
rest_of failed k k' l = record { records = l.records; files = l.files; later = l.later; cause = l.cause; left = l.left }

-- ---- a get that fills its key

pub gets_on : (ph : Phase) → is_some (fill_in ph) ≡ true → part_of ph ≡ Gets
gets_on phases.Done e = absurd cc
gets_on phases.Fresh e = refl
gets_on (phases.Next fill) e = refl
gets_on (phases.Opens peer fill) e = refl
gets_on (phases.Greets peer fill) e = refl
gets_on (phases.Data peer wanting) e = refl
gets_on (phases.Bytes peer start taking) e = refl
gets_on (phases.Word peer start taken) e = refl
gets_on (phases.Ends why) e = refl

pub undone : (ph : Phase) → is_some (fill_in ph) ≡ true → is_done ph ≡ false
undone phases.Done e = absurd cc
undone phases.Fresh e = refl
undone (phases.Next fill) e = refl
undone (phases.Opens peer fill) e = refl
undone (phases.Greets peer fill) e = refl
undone (phases.Data peer wanting) e = refl
undone (phases.Bytes peer start taking) e = refl
undone (phases.Word peer start taken) e = refl
undone (phases.Ends why) e = refl

-- it has the fill that it had
pub has_still : (rows : Rows) (w w' : Getting) → HasFill rows w → fill_in w'.phase ≡ fill_in w.phase → w'.job ≡ w.job → HasFill rows w'
has_still rows w w' has same job =
    subst (λ (o : Option (List ℕ)). IfSome o (λ (key : List ℕ). (key ≡ w'.job.key) × (is_filling rows key ≡ true))) (sym same)
    (subst (λ (j : Job). IfSome (fill_in w.phase) (λ (key : List ℕ). (key ≡ j.key) × (is_filling rows key ≡ true))) (sym job) has)

-- ---- what is filled

-- the table is as it was
pub fills_same : (w w' : Getting) (rows : Rows) → HasFill rows w → fill_in w'.phase ≡ fill_in w.phase → w'.job ≡ w.job → FillsSo (work_of w) (work_of w') (is_filling rows) (is_filling rows)
fills_same w w' rows has same job = still_filled (work_of w) (work_of w') (is_filling rows) job (ap is_some same) (filled (fill_in w.phase) has)
  where
    filled : (o : Option (List ℕ)) → IfSome o (λ (key : List ℕ). (key ≡ w.job.key) × (is_filling rows key ≡ true)) → is_some o ≡ true → is_filling rows w.job.key ≡ true
    filled None given e = absurd cc
    filled (Some key) given e = ap (is_filling rows) (sym given.0) ∙ given.1

-- the fill was given back
pub fills_less : (w w' : Getting) (rows rows' : Rows) → is_some (fill_in w.phase) ≡ true → fill_in w'.phase ≡ None
    → ((key : List ℕ) → is_filling rows' key ≡ (not (bytes_eq w.job.key key) && is_filling rows key)) → FillsSo (work_of w) (work_of w') (is_filling rows) (is_filling rows')
fills_less w w' rows rows' some none given = record {
  after = λ key. given key ∙ (chosen (bytes_eq w.job.key key) (is_filling rows key)
      ∙ (λ i. if is_some (sym none i) && bytes_eq w'.job.key key then true else (if sym some i && bytes_eq w.job.key key then false else is_filling rows key)));
  free = λ key. λ i. is_some (none i) && bytes_eq w'.job.key key && not (is_some (fill_in w.phase) && bytes_eq w.job.key key) && is_filling rows key;
}
  where
    chosen : (a b : Bool) → (not a && b) ≡ (if a then false else b)
    chosen true b = refl
    chosen false b = refl

-- ---- the entry

-- an entry of this job by which no content comes or goes
abbrev pub IsPlain : ℕ → EntryKind → Type 0
IsPlain number (Talk (Some job)) = job ≡ number
IsPlain number (Fault call (by_job job)) = job ≡ number
IsPlain number (End job outcome) = job ≡ number
IsPlain number kind = ⊥

pub plain_transfer : (number : ℕ) (kind : EntryKind) → IsPlain number kind → IsOfTransfer kind
plain_transfer number (Talk (Some job)) plain = tt
plain_transfer number (Fault call (by_job job)) plain = tt
plain_transfer number (End job outcome) plain = tt
plain_transfer number kind plain = absurd plain

pub plain_whose : (number : ℕ) (kind : EntryKind) → IsPlain number kind → job_of kind ≡ Some number
plain_whose number (Talk (Some job)) plain = ap (λ (n : ℕ). Some n) plain
plain_whose number (Fault call (by_job job)) plain = ap (λ (n : ℕ). Some n) plain
plain_whose number (End job outcome) plain = ap (λ (n : ℕ). Some n) plain
plain_whose number kind plain = absurd plain

pub plain_contents : (number : ℕ) (kind : EntryKind) (known : Option Contents) (parts : Option Parts) → IsPlain number kind → contents_after known parts kind ≡ known
plain_contents number (Talk (Some job)) known parts plain = refl
plain_contents number (Fault call (by_job job)) known parts plain = refl
plain_contents number (End job outcome) known parts plain = refl
plain_contents number kind known parts plain = absurd plain

pub plain_judged : (number : ℕ) (kind : EntryKind) (ph : Phase) → IsPlain number kind → IsJudgedIn kind ph
plain_judged number (Talk (Some job)) ph plain = tt
plain_judged number (Fault call (by_job job)) ph plain = tt
plain_judged number (End job outcome) ph plain = tt
plain_judged number kind ph plain = absurd plain

-- ---- all of it, where the get goes on with its fill

pub keeps_filling : (x : Sight) (i : Option Incoming) (rows : Rows) (k k' : Seen) (w w' : Getting) (kind : EntryKind) (sent : List Parcel) → HasFill rows w → is_some (fill_in w.phase) ≡ true → IsPlain w.number kind → is_end kind ≡ false
    → w'.number ≡ w.number → w'.slot ≡ w.slot → w'.job ≡ w.job → fill_in w'.phase ≡ fill_in w.phase → k'.contents ≡ k.contents → LeavesRest (failed_in kind) k k' → k'.parts ≡ parts_after w.phase i kind k.parts
    → ForSome k.parts (λ p. IsFed p w.phase → ForSome k'.parts (λ p'. IsFed p' w'.phase)) → (AreSmallParts k.parts → AreSmallParts k'.parts) → AreNoPieces sent → StaysApart x (work_of w) (work_of w') → Keeps x i rows rows k k' w w' (output_of kind sent false)
keeps_filling x i rows k k' w w' kind sent has some plain goes number slot job same contents l parts fed small pieces apart =
    let going : is_done w'.phase ≡ false = undone w'.phase (ap is_some same ∙ some) in
    record {
      leaves = record {
        kind = plain_transfer w.number kind plain;
        whose = plain_whose w.number kind plain;
        number = number;
        slot = slot;
        what = job;
        holds = refl;
        bars = refl;
        filled = fills_same w w' rows has same job;
        contents = contents ∙ sym (plain_contents w.number kind k.contents k.parts plain);
        records = l.records;
        files = l.files;
        later = l.later;
        cause = l.cause;
        left = l.left;
      };
      parts = parts;
      has = has_still rows w w' has same job;
      fed = fed;
      small = small;
      judged = plain_judged w.number kind w.phase plain;
      pieces = pieces;
      ended = λ j. sym goes j || sym going j;
      apart = apart;
      undone = λ stays was. going;
    }

-- and the store changed nothing
pub keeps_still : (x : Sight) (i : Option Incoming) (rows : Rows) (k k' : Seen) (w w' : Getting) (kind : EntryKind) (sent : List Parcel) → HasFill rows w → is_some (fill_in w.phase) ≡ true → IsPlain w.number kind → is_end kind ≡ false
    → w'.number ≡ w.number → w'.slot ≡ w.slot → w'.job ≡ w.job → fill_in w'.phase ≡ fill_in w.phase → LeavesBut (failed_in kind) k k' → k.parts ≡ parts_after w.phase i kind k.parts
    → ((p : Parts) → k.parts ≡ Some p → IsFed p w.phase → IsFed p w'.phase) → AreNoPieces sent → StaysApart x (work_of w) (work_of w') → Keeps x i rows rows k k' w w' (output_of kind sent false)
keeps_still x i rows k k' w w' kind sent has some plain goes number slot job same l still fed pieces apart =
    keeps_filling x i rows k k' w w' kind sent has some plain goes number slot job same l.contents (rest_of (failed_in kind) k k' l) (l.parts ∙ still)
    (λ p is was p' is'. subst (λ (q : Parts). IsFed q w'.phase) (same_Some p p' (sym is ∙ sym l.parts ∙ is')) (fed p is was)) (subst AreSmallParts (sym l.parts)) pieces apart

-- a call of the store failed, and the job ends next
pub keeps_fault : (x : Sight) (i : Option Incoming) (rows : Rows) (k k' : Seen) (w w' : Getting) (call : Call) → HasFill rows w → is_some (fill_in w.phase) ≡ true → w' ≡ record w { phase = phases.Ends (endings.StoreFault (fill_in w.phase)) }
    → LeavesBut (Some call) k k' → k.parts ≡ parts_after w.phase i (Fault call (by_job w.number)) k.parts → Keeps x i rows rows k k' w w' (output_of (Fault call (by_job w.number)) [] false)
keeps_fault x i rows k k' w w' call has some is l still =
    subst (λ (u : Getting). Keeps x i rows rows k k' w u (output_of (Fault call (by_job w.number)) [] false)) (sym is)
    (keeps_still x i rows k k' w (record w { phase = phases.Ends (endings.StoreFault (fill_in w.phase)) }) (Fault call (by_job w.number)) [] has some refl refl refl refl refl refl l still (λ p is was. tt) tt (λ named was. tt))
