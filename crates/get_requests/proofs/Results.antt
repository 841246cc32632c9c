-- The step of a get that awaits no frame, by what its parts give, or for want of memory.
use Rattle.std.proofs.Common.{◌≡◌, ℕ, Bool, true, false, [], ◌∷◌, Option, Some, None, Result, Ok, Err, refl, sym, subst}
use Rattle.std.specs.Prelude.{IfOk, OnErr, OnOk}
use Rattle.std.specs.Option.{ForSome}
use Rattle.annex_base.specs.declared.kinds.Call.TheVariants as calls
use Rattle.annex_base.specs.declared.memory.NoMemory.{NoMemory}
use Rattle.run_data.specs.declared.job.Outcome.TheVariants.{TransferRefused}
use Rattle.run_data.specs.declared.job.TransferRefusal.TheVariants as failures
use Rattle.object_store.specs.Calls.{FailsAsTold}
use Rattle.content_lock.specs.Rows.{Rows, is_filling}
use Rattle.session_state.specs.Answers.{is_in}
use Rattle.transfer_turns.specs.declared.parcels.Output.{Output}
use Rattle.transfer_turns.specs.declared.parcels.ParcelBody.TheVariants as bodies
use Rattle.transfer_turns.specs.Steps.{LeavesAll, Seen}
use Rattle.transfer_turns.specs.Turns.{Sight}
use Rattle.get_phases.specs.declared.getting.Ending.{Ending}
use Rattle.get_phases.specs.declared.getting.Getting.{Getting}
use Rattle.get_phases.specs.declared.getting.Phase.TheVariants as phases
use Rattle.get_phases.specs.Asking.{AsksOn}
use Rattle.get_phases.specs.Getting.{Does, Stays}
use Rattle.get_phases.specs.Gets.{HasFill, outcome_of, source_in}
use Rattle.get_requests.specs.Requesting.{Approaches, Claims, FillsToo, IsEnding, IsTalk, is_open}
use Rattle.transfer_turns.proofs.Leavings.{all_stays}
use Rattle.get_phases.proofs.Leaving.{leaves_all}
use Rattle.get_requests.proofs.Stepping.{IsBare}
use Rattle.get_requests.proofs.Firsts.{begin_claimed}
use Rattle.get_requests.proofs.Nexts.{ends_so, go_on_asked, go_on_ended}

-- nothing changed
pub still : (rows : Rows) (k : Seen) (w w' : Getting) → w' ≡ w → Stays rows rows k k w w'
still rows k w w' same = record { worker = same; table = refl; store = all_stays k }

-- ---- the end

pub ends_does : (x : Sight) (rows : Rows) (k : Seen) (w : Getting) (why : Ending) (r : Result Output NoMemory) → w.phase ≡ phases.Ends why → IsBare rows w → HasFill rows w → IfOk r (IsEnding x w.number w.slot (outcome_of why)) → Does x None rows rows k k w w r
ends_does x rows k w why (Ok out) at own has is = ends_so x rows k w why out at own has is
ends_does x rows k w why (Err e) at own has is = still rows k w w refl

-- ---- from peer to peer

pub sourceless_does : (x : Sight) (rows : Rows) (k : Seen) (w w' : Getting) (r : Result Output NoMemory) → w.phase ≡ phases.Next w.job.key → IsBare rows w → HasFill rows w → source_in x w ≡ None
    → IfOk r (IsEnding x w.number w.slot (TransferRefused (failures.NoSource w.causes.items))) → OnOk r (w' ≡ record w { causes = w'.causes }) → OnErr r (w' ≡ w) → Does x None rows rows k k w w' r
sourceless_does x rows k w w' (Ok out) at own has none is same err = go_on_ended x rows k w w' out at own has none is same
sourceless_does x rows k w w' (Err e) at own has none is same err = still rows k w w' err

approaching : (b c : Bool) (peer : ℕ) (k k' : Seen) (w w' : Getting) (out : Output) → b ≡ c → Approaches c peer k k' w w' out → Approaches b peer k k' w w' out
approaching b c peer k k' w w' out e a = subst (λ (d : Bool). Approaches d peer k k' w w' out) (sym e) a

pub asked_does : (x : Sight) (rows : Rows) (k k' : Seen) (w w' : Getting) (peer : ℕ) (r : Result Output NoMemory) → w.phase ≡ phases.Next w.job.key → HasFill rows w → source_in x w ≡ Some peer → is_open x w peer ≡ true → AsksOn peer k k' w w' r
    → Does x None rows rows k k' w w' r
asked_does x rows k k' w w' peer (Ok out) at has source live a = go_on_asked x rows k k' w w' peer out at has source (approaching (is_open x w peer) true peer k k' w w' out live a)
asked_does x rows k k' w w' peer (Err e) at has source live a = record { worker = a.0; table = refl; store = a.1 }

opening : (k : Seen) (w w' : Getting) (peer : ℕ) (out : Output) → IsTalk w.number (record { peer = peer; body = bodies.Open } ∷ []) out → w' ≡ record w { phase = phases.Opens peer w.job.key } → Approaches false peer k k w w' out
opening k w w' peer out talk next = record { talk = talk; next = next; leaves = all_stays k }

pub opened_does : (x : Sight) (rows : Rows) (k : Seen) (w w' : Getting) (peer : ℕ) (r : Result Output NoMemory) → w.phase ≡ phases.Next w.job.key → HasFill rows w → source_in x w ≡ Some peer → is_open x w peer ≡ false
    → IfOk r (IsTalk w.number (record { peer = peer; body = bodies.Open } ∷ [])) → OnOk r (w' ≡ record w { phase = phases.Opens peer w.job.key }) → OnErr r (w' ≡ w) → Does x None rows rows k k w w' r
opened_does x rows k w w' peer (Ok out) at has source shut talk next err = go_on_asked x rows k k w w' peer out at has source (approaching (is_open x w peer) false peer k k w w' out shut (opening k w w' peer out talk next))
opened_does x rows k w w' peer (Err e) at has source shut talk next err = still rows k w w' err

-- ---- the first peer

changeless : (rows rows' : Rows) (k : Seen) (w w' : Getting) → w' ≡ w → rows' ≡ rows → Stays rows rows' k k w w'
changeless rows rows' k w w' same table = record { worker = same; table = table; store = all_stays k }

pub alone_claims : (x : Sight) (rows rows' : Rows) (k : Seen) (w w' : Getting) (source : Option ℕ) (r : Result Output NoMemory) → source ≡ None → IfOk r (IsTalk w.number []) → OnOk r (w' ≡ record w { phase = phases.Next w.job.key }) → OnOk r (FillsToo w' rows rows')
    → OnErr r (w' ≡ w) → OnErr r (rows' ≡ rows) → Claims x source rows rows' k k w w' r
alone_claims x rows rows' k w w' source r none talk next too err table = subst (λ (o : Option ℕ). Claims x o rows rows' k k w w' r) (sym none) (go r talk next too err table)
  where
    go : (r : Result Output NoMemory) → IfOk r (IsTalk w.number []) → OnOk r (w' ≡ record w { phase = phases.Next w.job.key }) → OnOk r (FillsToo w' rows rows') → OnErr r (w' ≡ w) → OnErr r (rows' ≡ rows) → Claims x None rows rows' k k w w' r
    go (Ok out) talk next too err table = (record { talk = talk; next = next; leaves = all_stays k }, too)
    go (Err e) talk next too err table = changeless rows rows' k w w' err table

pub opened_claims : (x : Sight) (rows rows' : Rows) (k : Seen) (w w' : Getting) (source : Option ℕ) (peer : ℕ) (r : Result Output NoMemory) → source ≡ Some peer → is_open x w peer ≡ false → IfOk r (IsTalk w.number (record { peer = peer; body = bodies.Open } ∷ []))
    → OnOk r (w' ≡ record w { phase = phases.Opens peer w.job.key }) → OnOk r (FillsToo w' rows rows') → OnErr r (w' ≡ w) → OnErr r (rows' ≡ rows) → Claims x source rows rows' k k w w' r
opened_claims x rows rows' k w w' source peer r is shut talk next too err table = subst (λ (o : Option ℕ). Claims x o rows rows' k k w w' r) (sym is) (go r talk next too err table)
  where
    go : (r : Result Output NoMemory) → IfOk r (IsTalk w.number (record { peer = peer; body = bodies.Open } ∷ [])) → OnOk r (w' ≡ record w { phase = phases.Opens peer w.job.key }) → OnOk r (FillsToo w' rows rows') → OnErr r (w' ≡ w) → OnErr r (rows' ≡ rows)
        → Claims x (Some peer) rows rows' k k w w' r
    go (Ok out) talk next too err table = (approaching (is_open x w peer) false peer k k w w' out shut (opening k w w' peer out talk next), too)
    go (Err e) talk next too err table = changeless rows rows' k w w' err table

pub asked_claims : (x : Sight) (rows rows' : Rows) (k k' : Seen) (w w' : Getting) (source : Option ℕ) (peer : ℕ) (r : Result Output NoMemory) → source ≡ Some peer → is_open x w peer ≡ true → AsksOn peer k k' w w' r → OnOk r (FillsToo w' rows rows')
    → OnErr r (rows' ≡ rows) → Claims x source rows rows' k k' w w' r
asked_claims x rows rows' k k' w w' source peer r is live asks too table = subst (λ (o : Option ℕ). Claims x o rows rows' k k' w w' r) (sym is) (go r asks too table)
  where
    go : (r : Result Output NoMemory) → AsksOn peer k k' w w' r → OnOk r (FillsToo w' rows rows') → OnErr r (rows' ≡ rows) → Claims x (Some peer) rows rows' k k' w w' r
    go (Ok out) asks too table = (approaching (is_open x w peer) true peer k k' w w' out live asks, too)
    go (Err e) asks too table = record { worker = asks.0; table = table; store = asks.1 }

pub claims_does : (x : Sight) (rows rows' : Rows) (k m k' : Seen) (w w' : Getting) (r : Result Output NoMemory) → w.phase ≡ phases.Fresh → is_filling rows w.job.key ≡ false → FailsAsTold calls.Has k.failing m.failing false → LeavesAll k m
    → ForSome k.contents (λ c. false ≡ is_in c w.job.key) → Claims x (source_in x w) rows rows' m k' w w' r → Does x None rows rows' k k' w w' r
claims_does x rows rows' k m k' w w' (Ok out) at free had l absent claims = begin_claimed x rows rows' k m k' w w' out at free had l absent claims.0 claims.1
claims_does x rows rows' k m k' w w' (Err e) at free had l absent claims = record { worker = claims.worker; table = claims.table; store = leaves_all k m k' l claims.store }
