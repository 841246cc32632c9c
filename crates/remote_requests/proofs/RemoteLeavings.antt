-- What a step of a remote drop leaves.
use Rattle.std.proofs.Common.{◌≡◌, ◌≤◌, inr, false, Option, Result, Ok, Err, refl, sym, subst, arith, ap, ◌∙◌, ℕ, [], None, IfOk}
use Rattle.std.specs.Prelude.{IfOk, IfSome, OnErr}
use Rattle.annex_base.specs.Causes.{Rose}
use Rattle.annex_base.specs.declared.kinds.Call.{Call}
use Rattle.annex_base.specs.declared.memory.NoMemory.{NoMemory}
use Rattle.run_data.specs.declared.entry.EntryKind.{EntryKind}
use Rattle.node_model.specs.Jobs.{unshared_cause}
use Rattle.node_model.specs.Look.{failed_in}
use Rattle.content_lock.specs.Rows.{AreAfter, Rows}
use Rattle.content_lock.specs.Stored.{Agrees}
use Rattle.drop_phases.specs.declared.phase.Heard.TheVariants as heards
use Rattle.drop_phases.specs.declared.turn.Output.{Output}
use Rattle.drop_phases.specs.Worker.{Worker}
use Rattle.drop_phases.specs.Doing.{Grows, HasToken, OthersStay, contents_after}
use Rattle.drop_phases.specs.Leaving.{Store}
use Rattle.drop_phases.specs.Feeding.{FitsRemote, HasNoBar}
use Rattle.remote_requests.specs.Remote.{DidRemote, LeavesRemote, PassesBy, Speaks}
use Rattle.drop_phases.proofs.Numbers.{no_rows, no_share}
use Rattle.drop_phases.proofs.Tokens.{others_same}
use Rattle.drop_phases.specs.Sides.{IsNumbered}

-- a step that does this does that
pub remote_did_as : (rows rows' : Rows) (k k' : Store) (w w' : Worker) (a b : Output → Type 0) (r : Result Output NoMemory)
    → DidRemote rows rows' k k' w w' a r → ((out : Output) → a out → b out) → DidRemote rows rows' k k' w w' b r
remote_did_as rows rows' k k' w w' a b (Ok out) d f = (f out d.0, d.1)
remote_did_as rows rows' k k' w w' a b (Err e) d f = d

pub leaves_remote : (rows rows' : Rows) (k k' : Store) (w v w' : Worker) (kind : EntryKind) (out : Output) → out.kind ≡ kind → w' ≡ v → AreAfter kind rows rows'
    → k'.contents ≡ contents_after k.contents kind → Agrees k'.records rows'.holds → k.faults ≤ k'.faults → IfSome (failed_in kind) (λ call. Rose k.faults k'.faults)
    → HasToken v.number v.job.key v.token rows' → (out.ended ≡ false → FitsRemote v.phase v.token) → Grows w.heard v.heard → v.number ≡ w.number → v.job ≡ w.job
    → OthersStay w.number rows rows' → LeavesRemote rows rows' k k' w w' out
leaves_remote rows rows' k k' w v w' kind out is next after contents agrees later cause owns fits heard number job others =
    subst (λ (u : Worker). LeavesRemote rows rows' k k' w u out) (sym next) (record {
      after = subst (λ (e : EntryKind). AreAfter e rows rows') (sym is) after;
      contents = contents ∙ ap (contents_after k.contents) (sym is);
      agrees = agrees;
      later = later;
      cause = subst (λ (e : EntryKind). IfSome (failed_in e) (λ call. Rose k.faults k'.faults)) (sym is) cause;
      owns = owns;
      fits = fits;
      heard = heard;
      number = number;
      job = job;
      others = others;
    })

-- a step that says something at most
spoken_leaves : (rows : Rows) (k : Store) (w w' : Worker) (out : Output) → Speaks w w' out → HasNoBar w.token → HasToken w.number w.job.key w.token rows → Agrees k.records rows.holds → LeavesRemote rows rows k k w w' out
spoken_leaves rows k w w' out s bare own agrees =
    record {
      after = s.after rows;
      contents = sym (s.still k.contents);
      agrees = agrees;
      later = omega arith;
      cause = subst (λ (o : Option Call). IfSome o (λ call. Rose k.faults k.faults)) (sym s.faultless) tt;
      owns = rw (s.number, s.job, s.token) own;
      fits = λ going. s.fits bare;
      heard = s.heard;
      number = s.number;
      job = s.job;
      others = others_same w.number rows rows refl;
    }

pub spoken_did : (rows : Rows) (k : Store) (w w' : Worker) (a : Output → Type 0) (r : Result Output NoMemory) → IfOk r a → IfOk r (Speaks w w') → OnErr r (w' ≡ w) → HasNoBar w.token
    → HasToken w.number w.job.key w.token rows → Agrees k.records rows.holds → DidRemote rows rows k k w w' a r
spoken_did rows k w w' a (Ok out) does speaks err bare own agrees = (does, spoken_leaves rows k w w' out speaks bare own agrees)
spoken_did rows k w w' a (Err e) does speaks err bare own agrees = record { worker = err; table = refl; contents = refl; records = refl; later = omega arith }

-- a step that passes its own repository by says nothing
pub passes_speaks : (repo : ℕ) (bar : Option ℕ) (w w' : Worker) (r : Result Output NoMemory) → IfOk r (PassesBy repo bar w w') → IfOk r (Speaks w w')
passes_speaks repo bar w w' (Ok out) p = subst (λ (u : Worker). Speaks w u out) (sym p.next) (record {
  faultless = ap failed_in p.made;
  still = λ known. ap (contents_after known) p.made;
  after = λ rows. subst (λ (kind : EntryKind). AreAfter kind rows rows) (sym p.made) (record { holds = refl; bars = λ key. refl; fills = refl });
  goes_on = p.goes_on;
  number = refl;
  job = refl;
  token = refl;
  heard = inr ((repo, heards.Lacks (unshared_cause bar)), refl);
  fits = λ bare. bare;
})
passes_speaks repo bar w w' (Err e) p = tt

-- a step that says something at most fails of no call, and adds no hold
pub spoken_well : (w w' : Worker) (r : Result Output NoMemory) → IfOk r (Speaks w w') → IfOk r (λ out. failed_in out.kind ≡ None)
spoken_well w w' (Ok out) s = s.faultless
spoken_well w w' (Err e) s = tt

pub speaks_numbered : (w w' : Worker) (r : Result Output NoMemory) → IfOk r (Speaks w w') → IfOk r (λ out. (n : ℕ) → IsNumbered n out.kind)
speaks_numbered w w' (Ok out) s = λ n. no_share n out.kind [] (s.after no_rows).holds
speaks_numbered w w' (Err e) s = tt
