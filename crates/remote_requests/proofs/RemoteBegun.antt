-- Where a remote drop stands after its step: with another repository, or with none.
use Rattle.std.proofs.Common.{◌≡◌, ℕ, Bool, true, false, ◌∷◌, Option, Some, None, Result, Ok, Err, refl, sym, ap, ◌∙◌, subst}
use Rattle.std.specs.Prelude.{IfOk, OnErr, is_some, ◌==◌, if◌then◌else◌, nat_lt}
use Rattle.annex_base.specs.declared.kinds.Call.TheVariants as calls
use Rattle.annex_base.specs.declared.memory.NoMemory.{NoMemory}
use Rattle.drop_proof.specs.declared.rule.Need.{Need}
use Rattle.drop_proof.specs.declared.rule.Side.TheVariants.{Remote}
use Rattle.run_data.specs.declared.entry.By.TheVariants.{Job as by_job}
use Rattle.run_data.specs.declared.entry.EntryKind.{EntryKind}
use Rattle.run_data.specs.declared.entry.EntryKind.TheVariants.{End as ends_job, Fault, Talk}
use Rattle.run_data.specs.declared.job.Cause.{Cause}
use Rattle.run_data.specs.declared.job.Cause.TheVariants as causes
use Rattle.run_data.specs.declared.job.Outcome.{Outcome}
use Rattle.p2p_wire.specs.declared.message.Message.TheVariants.{GetTimestamp, LockContent}
use Rattle.node_model.specs.Jobs.{unshared_cause}
use Rattle.node_model.specs.Knows.{Reading}
use Rattle.content_lock.specs.Rows.{Rows}
use Rattle.content_lock.specs.Tokens.{ShareView}
use Rattle.content_lock.specs.declared.refusals.ShareRefused.{ShareRefused}
use Rattle.content_lock.specs.declared.refusals.ShareRefused.TheVariants as refused
use Rattle.drop_phases.specs.declared.phase.Ending.TheVariants as endings
use Rattle.drop_phases.specs.declared.phase.Heard.{Heard}
use Rattle.drop_phases.specs.declared.phase.Heard.TheVariants as heards
use Rattle.drop_phases.specs.declared.phase.Phase.{Phase}
use Rattle.drop_phases.specs.declared.phase.Phase.TheVariants as phases
use Rattle.drop_phases.specs.declared.phase.Token.{Token}
use Rattle.drop_phases.specs.declared.phase.Token.TheVariants as tokens
use Rattle.drop_phases.specs.declared.turn.Output.{Output}
use Rattle.drop_phases.specs.Begun.{CanStand, GoesWith, HasBegun, HasGone, IsLast, IsOnward, IsOther}
use Rattle.drop_phases.specs.Feeding.{FitsRemote, IsBare}
use Rattle.drop_phases.specs.Leaving.{Store}
use Rattle.drop_phases.specs.Sends.{SendsView}
use Rattle.drop_phases.specs.Sides.{HearsOwn}
use Rattle.drop_phases.specs.Worker.{Worker}
use Rattle.drop_phases.specs.Working.{heard_in}
use Rattle.drop_phases.proofs.OwnCopies.{own_grows, own_told}
use Rattle.remote_requests.specs.Remote.{DidRemote, FailsToRelease, FollowsShareRefused, GivesNone, PassesBy, Request, Says, ShutsRemote, first_request, is_ordering, order_of, target_request, unreleased_phase, without_peer}

-- it goes on so
pub goes_gone : (r : Reading) (w v w' : Worker) (kind : EntryKind) (out : Output) → out.ended ≡ false → out.kind ≡ kind → IsOnward w.number kind → w' ≡ v → HasBegun r v.phase → v.slot ≡ w.slot → HasGone r w w' out
goes_gone r w v w' kind out going is onward next begun slot =
    record {
      goes_on = λ _. subst (λ (u : Worker). HasBegun r u.phase) (sym next) begun;
      onward = λ _. subst (IsOnward w.number) (sym is) onward;
      ended = λ ended. absurd (let both : true ≡ false = sym ended ∙ going in cc);
      last = λ ended. absurd (let both : true ≡ false = sym ended ∙ going in cc);
      slot = ap (λ (u : Worker). u.slot) next ∙ slot;
    }

-- ---- an end

pub ends_gone : (w w' : Worker) (outcome : Outcome) (sends : SendsView) (out : Output) → out ≡ record { kind = ends_job w.number outcome; sends = sends; ended = true } → w' ≡ record w { token = tokens.Nothing }
    → (r : Reading) → CanStand r w.phase → FitsRemote w.phase w.token → HasGone r w w' out
ends_gone w w' outcome sends out is next r stands fits =
    let ended : out.ended ≡ true = ap (λ (o : Output). o.ended) is in
    record {
      goes_on = λ going. absurd (let both : true ≡ false = sym ended ∙ going in cc);
      onward = λ going. absurd (let both : true ≡ false = sym ended ∙ going in cc);
      ended = λ _. ap (λ (u : Worker). u.token) next;
      last = λ _. subst (IsLast w.number) (sym (ap (λ (o : Output). o.kind) is)) refl;
      slot = ap (λ (u : Worker). u.slot) next;
    }

begun_unreleased : (r : Reading) (time : ℕ) (ph : Phase) (token : Token) (share : ShareView) → token ≡ tokens.Share share → CanStand r ph → FitsRemote ph token → HasBegun r (unreleased_phase time ph)
begun_unreleased r time phases.Fresh token share has stands fits = absurd (subst (λ (t : Token). IsBare t) has fits)
begun_unreleased r time phases.Next token share has stands fits = tt
begun_unreleased r time (phases.Opens peer) token share has stands fits = stands
begun_unreleased r time (phases.Greets peer) token share has stands fits = stands
begun_unreleased r time (phases.AsksLock peer since) token share has stands fits = stands
begun_unreleased r time (phases.AsksLook peer) token share has stands fits = stands
begun_unreleased r time phases.AsksTime token share has stands fits = tt
begun_unreleased r time phases.Orders token share has stands fits = tt
begun_unreleased r time phases.Removed token share has stands fits = tt
begun_unreleased r time phases.Denied token share has stands fits = tt
begun_unreleased r time (phases.Late late) token share has stands fits = tt
begun_unreleased r time (phases.Ends why) token share has stands fits = tt

-- its own share couldn't be released
pub unreleased_gone : (time : ℕ) (w v w' : Worker) (share : ShareView) (out : Output) → w.token ≡ tokens.Share share → v ≡ record w { token = tokens.Nothing } → FailsToRelease time v w' out
    → (r : Reading) → CanStand r w.phase → FitsRemote w.phase w.token → HasGone r w w' out
unreleased_gone time w v w' share out has bare f r stands fits =
    goes_gone r w (record v { phase = unreleased_phase time v.phase }) w' (Fault calls.Unhold (by_job v.number)) out f.goes_on f.kind (ap (λ (u : Worker). by_job u.number) bare) f.next
    (subst (λ (ph : Phase). HasBegun r (unreleased_phase time ph)) (sym (ap (λ (u : Worker). u.phase) bare)) (begun_unreleased r time w.phase w.token share has stands fits)) (ap (λ (u : Worker). u.slot) bare)

-- ---- a request

-- where a request leaves its job, and what its entry is
record LeadsOn (r : Reading) (number : ℕ) (q : Request) : Type 0 where
  pub kind : IsOnward number q.kind
  pub phase : HasBegun r q.phase

said_gone : (r : Reading) (w w' : Worker) (q : Request) (peer : ℕ) (out : Output) → Says q peer w w' out → LeadsOn r w.number q → HasGone r w w' out
said_gone r w w' q peer out s on = goes_gone r w (record w { phase = q.phase }) w' q.kind out s.goes_on s.kind on.kind s.next on.phase refl

request_leads : (r : Reading) (need : Need) (w : Worker) (target time peer version : ℕ) (end : Option ℕ) → IsOther r peer → LeadsOn r w.number (first_request need w target time peer version end)
request_leads r need w target time peer version end other = by_peer (target == peer) end
  where
    by_version : (b : Bool) → LeadsOn r w.number (if b then record { kind = Talk (Some w.number); says = None; phase = phases.Ends (endings.OldProtocol version) } else record { kind = Talk (Some w.number); says = Some GetTimestamp; phase = phases.AsksTime })
    by_version true = record { kind = refl; phase = tt }
    by_version false = record { kind = refl; phase = tt }

    by_end : (e : Option ℕ) → LeadsOn r w.number (target_request need w target version e)
    by_end None = record { kind = refl; phase = tt }
    by_end (Some e) = by_version (nat_lt version 3)

    by_peer : (b : Bool) (e : Option ℕ) → LeadsOn r w.number (if b then target_request need w target version e else record { kind = Talk (Some w.number); says = Some (LockContent w.job.key); phase = phases.AsksLock peer time })
    by_peer true e = by_end e
    by_peer false e = record { kind = refl; phase = other }

pub request_gone : (r : Reading) (need : Need) (w w' : Worker) (target time peer version : ℕ) (end : Option ℕ) (result : Result Output NoMemory) → IsOther r peer
    → IfOk result (Says (first_request need w target time peer version end) peer w w') → IfOk result (HasGone r w w')
request_gone r need w w' target time peer version end (Ok out) other s = said_gone r w w' (first_request need w target time peer version end) peer out s (request_leads r need w target time peer version end other)
request_gone r need w w' target time peer version end (Err e) other s = tt

pub order_gone : (need : Need) (w w' : Worker) (target : ℕ) (deadline : Option ℕ) (result : Result Output NoMemory) → IfOk result (Says (order_of need w target deadline) target w w') → IfOk result (GoesWith target w w')
order_gone need w w' target deadline (Ok out) s = λ r other. said_gone r w w' (order_of need w target deadline) target out s (record { kind = refl; phase = tt })
order_gone need w w' target deadline (Err e) s = tt

-- ---- a closed connection

pub parted_gone : (w w' : Worker) (target peer : ℕ) (out : Output) → out.kind ≡ Talk (Some w.number) → out.ended ≡ false → w' ≡ without_peer w target peer → GoesWith peer w w' out
parted_gone w w' target peer out kind going is = λ r other. go r (target == peer) is
  where
    go : (r : Reading) (b : Bool) → w' ≡ (if b then record w { phase = phases.Ends (endings.Lost (is_ordering w.phase)) } else record w { heard = (peer, heards.Lacks causes.Closed) ∷ w.heard; phase = phases.Next }) → HasGone r w w' out
    go r true e = goes_gone r w (record w { phase = phases.Ends (endings.Lost (is_ordering w.phase)) }) w' (Talk (Some w.number)) out going kind refl e tt refl
    go r false e = goes_gone r w (record w { heard = (peer, heards.Lacks causes.Closed) ∷ w.heard; phase = phases.Next }) w' (Talk (Some w.number)) out going kind refl e tt refl

pub shuts_gone : (w w' : Worker) (target peer : ℕ) (result : Result Output NoMemory) → IfOk result (ShutsRemote target peer w w') → IfOk result (GoesWith peer w w')
shuts_gone w w' target peer (Ok out) s = parted_gone w w' target peer out s.kind s.goes_on s.next
shuts_gone w w' target peer (Err e) s = tt

-- ---- its own share

pub passes_gone : (r : Reading) (bar : Option ℕ) (w w' : Worker) (result : Result Output NoMemory) → IfOk result (PassesBy r.repo bar w w') → IfOk result (λ out. CanStand r w.phase → HasGone r w w' out)
passes_gone r bar w w' (Ok out) p = λ stands. goes_gone r w (record w { heard = (r.repo, heards.Lacks (unshared_cause bar)) ∷ w.heard; phase = phases.Next }) w' (Talk (Some w.number)) out p.goes_on p.made refl p.next tt refl
passes_gone r bar w w' (Err e) p = tt

pub passes_own : (r : Reading) (bar : Option ℕ) (w w' : Worker) (result : Result Output NoMemory) → IfOk result (PassesBy r.repo bar w w') → IfOk result (λ out. out.ended ≡ false → HearsOwn Remote r w')
passes_own r bar w w' (Ok out) p = λ going. own_told r.repo (heards.Lacks (unshared_cause bar)) w.heard w'.heard (ap (λ (v : Worker). v.heard) p.next)
passes_own r bar w w' (Err e) p = tt

module _ (r : Reading) (w u w' : Worker) (peer : ℕ) (before : Heard) (was : u ≡ record w { heard = (peer, before) ∷ w.heard; phase = phases.Next }) where
  none_gone : (kind : EntryKind) (cause : Cause) (result : Result Output NoMemory) → IsOnward w.number kind → IfOk result (GivesNone kind cause u w') × OnErr result ⊥ → IfOk result (HasGone r w w')
  none_gone kind cause (Ok out) onward gives =
      goes_gone r w (record w { heard = (peer, heards.Lacks cause) ∷ w.heard; phase = phases.Next }) w' kind out gives.0.goes_on gives.0.made onward
      (gives.0.next peer before w.heard (ap (λ (v : Worker). v.heard) was) ∙ ap (λ (v : Worker). record v { heard = (peer, heards.Lacks cause) ∷ w.heard }) was) tt refl
  none_gone kind cause (Err e) onward gives = tt

  -- why there is none
  pub unshared_gone : (bar : Option ℕ) (why : ShareRefused) (result : Result Output NoMemory) → FollowsShareRefused bar why u w' result → IfOk result (HasGone r w w')
  unshared_gone bar refused.Absent result is = none_gone (Talk (Some u.number)) (unshared_cause bar) result (ap (λ (v : Worker). Some v.number) was) is
  unshared_gone bar (refused.Barred job) result is = none_gone (Talk (Some u.number)) (unshared_cause bar) result (ap (λ (v : Worker). Some v.number) was) is
  unshared_gone bar (refused.StoreFault call) result is = none_gone (Fault call (by_job u.number)) causes.Fault result (ap (λ (v : Worker). by_job v.number) was) is
  unshared_gone bar refused.NoMemory (Ok out) is = absurd is.0
  unshared_gone bar refused.NoMemory (Err e) is = tt

  none_told : (kind : EntryKind) (cause : Cause) (result : Result Output NoMemory) → IfOk result (GivesNone kind cause u w') × OnErr result ⊥ → IfOk result (λ out. out.ended ≡ false → is_some (heard_in w'.heard peer) ≡ true)
  none_told kind cause (Ok out) gives = λ going. own_told peer (heards.Lacks cause) w.heard w'.heard (ap (λ (v : Worker). v.heard) (gives.0.next peer before w.heard (ap (λ (v : Worker). v.heard) was)))
  none_told kind cause (Err e) gives = tt

  -- it has heard of it
  pub unshared_told : (bar : Option ℕ) (why : ShareRefused) (result : Result Output NoMemory) → FollowsShareRefused bar why u w' result → IfOk result (λ out. out.ended ≡ false → is_some (heard_in w'.heard peer) ≡ true)
  unshared_told bar refused.Absent result is = none_told (Talk (Some u.number)) (unshared_cause bar) result is
  unshared_told bar (refused.Barred job) result is = none_told (Talk (Some u.number)) (unshared_cause bar) result is
  unshared_told bar (refused.StoreFault call) result is = none_told (Fault call (by_job u.number)) causes.Fault result is
  unshared_told bar refused.NoMemory (Ok out) is = absurd is.0
  unshared_told bar refused.NoMemory (Err e) is = tt

-- ---- from where it stood

-- it has begun wherever it could stand
pub any_gone : (r : Reading) (w w' : Worker) (result : Result Output NoMemory) → IfOk result (HasGone r w w') → IfOk result (λ out. CanStand r w.phase → HasGone r w w' out)
any_gone r w w' (Ok out) gone = λ stands. gone
any_gone r w w' (Err e) gone = tt

pub end_gone : (r : Reading) (w w' : Worker) (result : Result Output NoMemory) → FitsRemote w.phase w.token → IfOk result (λ out. (q : Reading) → CanStand q w.phase → FitsRemote w.phase w.token → HasGone q w w' out)
    → IfOk result (λ out. CanStand r w.phase → HasGone r w w' out)
end_gone r w w' (Ok out) fits gone = λ stands. gone r stands fits
end_gone r w w' (Err e) fits gone = tt

-- where it stood on a connection with another repository
pub with_gone : (r : Reading) (w w' : Worker) (peer : ℕ) (result : Result Output NoMemory) → (CanStand r w.phase → IsOther r peer) → IfOk result (GoesWith peer w w') → IfOk result (λ out. CanStand r w.phase → HasGone r w w' out)
with_gone r w w' peer (Ok out) other gone = λ stands. gone r (other stands)
with_gone r w w' peer (Err e) other gone = tt

pub timed_gone : (w w' : Worker) (peer : ℕ) (result : Result Output NoMemory) → w.phase ≡ phases.AsksTime → FitsRemote w.phase w.token → IfOk result (λ out. (q : Reading) → CanStand q w.phase → FitsRemote w.phase w.token → HasGone q w w' out)
    → IfOk result (GoesWith peer w w')
timed_gone w w' peer (Ok out) at fits gone = λ r other. gone r (subst (λ (ph : Phase). CanStand r ph) (sym at) tt) fits
timed_gone w w' peer (Err e) at fits gone = tt

-- ---- what it has heard of its own repository

pub ended_own : (A : Type 0) (result : Result Output NoMemory) → IfOk result (λ out. out.ended ≡ true) → IfOk result (λ out. out.ended ≡ false → A)
ended_own A (Ok out) ended = λ going. absurd (let both : true ≡ false = sym ended ∙ going in cc)
ended_own A (Err e) ended = tt

pub still_own : (r : Reading) (rows rows' : Rows) (k k' : Store) (w w' : Worker) (does : Output → Type 0) (result : Result Output NoMemory) → DidRemote rows rows' k k' w w' does result → HearsOwn Remote r w
    → IfOk result (λ out. out.ended ≡ false → HearsOwn Remote r w')
still_own r rows rows' k k' w w' does (Ok out) d own = λ going. own_grows r.repo w.heard w'.heard d.1.heard own
still_own r rows rows' k k' w w' does (Err e) d own = tt
