-- What a step of a local drop that takes no frame leaves, and what it does from where the job stands.
use Rattle.std.proofs.Common.{◌≡◌, ◌≤◌, inl, ℕ, Bool, false, List, [], Option, Some, None, Result, Ok, Err, refl, sym, ap, ◌∙◌, subst, arith}
use Rattle.std.specs.Prelude.{IfSome}
use Rattle.annex_base.specs.Causes.{Rose}
use Rattle.annex_base.specs.declared.kinds.Call.{Call}
use Rattle.annex_base.specs.declared.memory.NoMemory.{NoMemory}
use Rattle.run_data.specs.declared.entry.EntryKind.{EntryKind}
use Rattle.node_model.specs.JobStep.{Turn, quietly}
use Rattle.node_model.specs.Look.{Effect, as_told, failed_in}
use Rattle.node_model.specs.Slots.{job_of}
use Rattle.node_model.specs.Turns.{goes}
use Rattle.object_store.specs.Stores.{Contents}
use Rattle.content_lock.specs.Rows.{AreAfter, Rows}
use Rattle.drop_phases.specs.declared.phase.Phase.{Phase}
use Rattle.drop_phases.specs.declared.turn.Output.{Output}
use Rattle.drop_phases.specs.Worker.{Worker}
use Rattle.drop_phases.specs.Working.{Rest, Sight, frames_of, phase_as, present_in, turn_in, work_of}
use Rattle.drop_phases.specs.Doing.{DoesAsAsked, HasToken, IsBar, OthersStay, Talks, contents_after, next_work}
use Rattle.drop_phases.specs.Feeding.{FitsLocal}
use Rattle.drop_phases.specs.Leaving.{ActsOver, Did, GoesSo, Leaves, Stays, Store}
use Rattle.drop_phases.proofs.Doings.{after_talking, does_as, fits_talking, owns_talking}
use Rattle.drop_phases.proofs.Tokens.{others_same}

-- ---- a step that does this does that

pub did_as : (rows rows' : Rows) (k k' : Store) (w w' : Worker) (a b : Output → Type 0) (r : Result Output NoMemory)
    → Did rows rows' k k' w w' a r → ((out : Output) → a out → b out) → Did rows rows' k k' w w' b r
did_as rows rows' k k' w w' a b (Ok out) d f = (f out d.0, d.1)
did_as rows rows' k k' w w' a b (Err e) d f = d

-- where the job stands, it goes on from there
pub stands_as : (x : Sight) (known : Option Contents) (rows rows' : Rows) (w w' : Worker) (ph : Phase) (a : Turn → Effect) (out : Output) → w.phase ≡ ph
    → ((p : List ℕ → Bool) (rest : Rest) → a (turn_in x rows p (failed_in out.kind) rest w) ≡ goes (turn_in x rows p (failed_in out.kind) rest w) (phase_as ph))
    → ActsOver x known rows rows' w w' a out → GoesSo x known rows rows' w w' out
stands_as x known rows rows' w w' ph a out at e d = λ c is.
    does_as x rows rows' (present_in c) w w' None a (λ t. goes t t.w.phase) out (d c is)
    (λ rest. e (present_in c) rest ∙ ap (λ (u : Phase). goes (turn_in x rows (present_in c) (failed_in out.kind) rest w) (phase_as u)) (sym at))

pub goes_did : (x : Sight) (rows rows' : Rows) (k k' : Store) (w w' : Worker) (ph : Phase) (a : Turn → Effect) (r : Result Output NoMemory) → w.phase ≡ ph
    → ((p : List ℕ → Bool) (fails : Option Call) (rest : Rest) → a (turn_in x rows p fails rest w) ≡ goes (turn_in x rows p fails rest w) (phase_as ph))
    → Did rows rows' k k' w w' (ActsOver x k.contents rows rows' w w' a) r → Did rows rows' k k' w w' (GoesSo x k.contents rows rows' w w') r
goes_did x rows rows' k k' w w' ph a r at e d =
    did_as rows rows' k k' w w' (ActsOver x k.contents rows rows' w w' a) (GoesSo x k.contents rows rows' w w') r d
    (λ out acts. stands_as x k.contents rows rows' w w' ph a out at (λ p rest. e p (failed_in out.kind) rest) acts)

-- ---- what is left

pub leaves_so : (rows rows' : Rows) (k k' : Store) (w v w' : Worker) (kind : EntryKind) (out : Output) → out.kind ≡ kind → w' ≡ v → AreAfter kind rows rows'
    → k'.contents ≡ contents_after k.contents kind → k'.records ≡ k.records → k.faults ≤ k'.faults → IfSome (failed_in kind) (λ call. Rose k.faults k'.faults)
    → HasToken v.number v.job.key v.token rows' → (out.ended ≡ false → FitsLocal v.phase v.token) → v.heard ≡ w.heard → v.number ≡ w.number → v.job ≡ w.job
    → OthersStay w.number rows rows' → rows'.holds ≡ rows.holds → Leaves rows rows' k k' w w' out
leaves_so rows rows' k k' w v w' kind out is next after contents records later cause owns fits heard number job others holds =
    subst (λ (u : Worker). Leaves rows rows' k k' w u out) (sym next) (record {
      after = subst (λ (e : EntryKind). AreAfter e rows rows') (sym is) after;
      contents = contents ∙ ap (contents_after k.contents) (sym is);
      records = records;
      later = later;
      cause = subst (λ (e : EntryKind). IfSome (failed_in e) (λ call. Rose k.faults k'.faults)) (sym is) cause;
      owns = owns;
      fits = fits;
      heard = inl heard;
      number = number;
      job = job;
      others = others;
      holds = holds;
    })

-- a step that talks leaves the job what it has of its row
pub talk_leaves : (rows : Rows) (k : Store) (w w' : Worker) (out : Output) → Talks w w' out → IsBar w.token → HasToken w.number w.job.key w.token rows → Leaves rows rows k k w w' out
talk_leaves rows k w w' out t bar own =
    record {
      after = after_talking w w' out rows t;
      contents = ap (contents_after k.contents) (sym t.kind);
      records = refl;
      later = omega arith;
      cause = subst (λ (e : EntryKind). IfSome (failed_in e) (λ call. Rose k.faults k.faults)) (sym t.kind) tt;
      owns = owns_talking w w' out rows t own;
      fits = λ going. fits_talking w w' out t bar;
      heard = t.heard;
      number = t.number;
      job = t.job;
      others = others_same w.number rows rows refl;
      holds = refl;
    }

pub stays_same : (rows : Rows) (k : Store) (w : Worker) → Stays rows rows k k w w
stays_same rows k w = record { worker = refl; table = refl; contents = refl; records = refl; later = omega arith }

-- ---- a step that sends nothing

pub quiet_does : (x : Sight) (rows rows' : Rows) (p : List ℕ → Bool) (w w' : Worker) (asked : Turn → Effect) (kind : EntryKind) (out : Output) → out.kind ≡ kind → out.sends.items ≡ []
    → ((rest : Rest) → as_told (asked (turn_in x rows p (failed_in kind) rest w)) ≡ quietly kind None) → ((rest : Rest) → work_of rest w' ≡ next_work (turn_in x rows p (failed_in kind) rest w) (quietly kind None))
    → AreAfter kind rows rows' → job_of kind ≡ Some w.number → DoesAsAsked x rows rows' p w w' None asked out
quiet_does x rows rows' p w w' asked kind out is sends asks moves after whose =
    record {
      makes = λ rest. (λ i. record { kind = is i; taken = None; sent = frames_of x.ends w.slot (sends i); lines = []; calls = [] })
          ∙ (sym (asks rest) ∙ ap (λ (e : EntryKind). as_told (asked (turn_in x rows p (failed_in e) rest w))) (sym is));
      next = λ going rest. moves rest ∙ (ap (next_work (turn_in x rows p (failed_in kind) rest w)) (sym (asks rest))
          ∙ ap (λ (e : EntryKind). next_work (turn_in x rows p (failed_in e) rest w) (asked (turn_in x rows p (failed_in e) rest w))) (sym is));
      after = subst (λ (e : EntryKind). AreAfter e rows rows') (sym is) after;
      whose = ap job_of is ∙ whose;
    }
