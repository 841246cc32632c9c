-- A remote drop stands apart from its target, and from the repositories of which it has locks.
use Rattle.std.proofs.Common.{◌≡◌, ◌⊎◌, inl, inr, ℕ, Bool, true, false, if◌then◌else◌, List, [], ◌∷◌, map, Option, Some, None, Result, Ok, Err, refl, sym, ap, subst, ◌∙◌}
use Rattle.std.specs.Prelude.{◌==◌, IfOk, IfSome, OnErr, find, nat_lt, option_map}
use Rattle.std.proofs.lemmas.Bool.{cases_Bool, eqb-true, true≢false}
use Rattle.annex_base.specs.Lists.{Each}
use Rattle.annex_base.specs.declared.memory.NoMemory.{NoMemory}
use Rattle.annex_base.proofs.Conditions.{eqb_refl}
use Rattle.annex_base.proofs.Lists.{Each-weaker}
use Rattle.drop_proof.specs.declared.rule.Need.{Need}
use Rattle.drop_proof.specs.declared.rule.Side.{Side}
use Rattle.drop_proof.specs.declared.rule.Side.TheVariants.{Local, Remote}
use Rattle.run_data.specs.declared.entry.EntryKind.{EntryKind}
use Rattle.run_data.specs.declared.job.Cause.{Cause}
use Rattle.run_data.specs.declared.job.Cause.TheVariants as causes
use Rattle.p2p_wire.specs.declared.message.Message.{Message}
use Rattle.p2p_wire.specs.declared.message.Message.TheVariants.{GetTimestamp, LockContent}
use Rattle.node_model.specs.Evidence.{Standing, Asked, Claimed, Ignored}
use Rattle.node_model.specs.Jobs as Jobs
use Rattle.node_model.specs.Jobs.{unshared_cause}
use Rattle.node_model.specs.JobStep.{is_held}
use Rattle.node_model.specs.Knows.{is_unasked}
use Rattle.content_lock.specs.declared.refusals.ShareRefused.{ShareRefused}
use Rattle.content_lock.specs.declared.refusals.ShareRefused.TheVariants as refused
use Rattle.run_data.specs.declared.entry.By.TheVariants.{Job as by_job}
use Rattle.run_data.specs.declared.entry.EntryKind.TheVariants.{Fault, Talk}
use Rattle.drop_phases.specs.Apart.{GoesApart, GoesApartSo, IsApart, StandsApart, StaysApart, StaysApartIn, asked_in, is_locked_in, looked_in}
use Rattle.drop_phases.specs.Leaving.{stands_on}
use Rattle.drop_phases.specs.Worker.{Worker}
use Rattle.drop_phases.specs.Working.{heard_as, heard_in, with_version}
use Rattle.drop_phases.specs.declared.phase.Ending.TheVariants as endings
use Rattle.drop_phases.specs.declared.phase.Heard.{Heard}
use Rattle.drop_phases.specs.declared.phase.Heard.TheVariants as heards
use Rattle.drop_phases.specs.declared.phase.Phase.{Phase}
use Rattle.drop_phases.specs.declared.phase.Phase.TheVariants as phases
use Rattle.drop_phases.specs.declared.turn.Output.{Output}
use Rattle.drop_phases.specs.declared.turn.Parcel.{Parcel}
use Rattle.remote_requests.specs.Remote.{FailsToRelease, FollowsShareRefused, GivesNone, PassesBy, Request, Says, ShutsRemote, first_request, is_ordering, order_of, said_parcels, target_request, unreleased_phase, without_peer}

-- ---- what it has heard

abbrev found_as : Bool → ℕ → Heard → List (ℕ × Heard) → ℕ → Option Jobs.Heard
found_as b p h heard peer = option_map (λ (x : ℕ × Jobs.Heard). x.1) (if b then Some (p, heard_as h) else find (λ x. x.0 == peer) (map (λ (x : ℕ × Heard). (x.0, heard_as x.1)) heard))

pub heard_other : (p peer : ℕ) (h : Heard) (heard : List (ℕ × Heard)) → (p == peer) ≡ false → heard_in ((p, h) ∷ heard) peer ≡ heard_in heard peer
heard_other p peer h heard other = ap (λ (b : Bool). found_as b p h heard peer) other

pub heard_this : (p : ℕ) (h : Heard) (heard : List (ℕ × Heard)) → heard_in ((p, h) ∷ heard) p ≡ Some (heard_as h)
heard_this p h heard = ap (λ (b : Bool). found_as b p h heard p) (eqb_refl p)

flip : (a b : ℕ) → (a == b) ≡ false → (b == a) ≡ false
flip a b other = elim (cases_Bool (b == a)) [
  | inl is ↦ absurd (true≢false (sym (eqb_refl a) ∙ (ap (λ (n : ℕ). a == n) (sym (eqb-true b a is)) ∙ other)))
  | inr apart ↦ apart
]

-- ---- a step

-- it ends the job
pub ends_apart : (own target : ℕ) (w w' : Worker) (out : Output) → out.ended ≡ true → w'.word ≡ w.word → GoesApart own target w w' out
ends_apart own target w w' out ended word = record {
  stands = λ on. absurd (true≢false (sym ended ∙ on));
  locks = λ on. absurd (true≢false (sym ended ∙ on));
  word = λ other. word;
}

-- what it sends goes to none of which it has a lock then
unlocked_parcels : (w : Worker) (ps : List Parcel) (peer : ℕ) → Each (λ p. is_locked_in w p.peer ≡ false) ps → is_locked_in w peer ≡ true → Each (λ p. (p.peer == peer) ≡ false) ps
unlocked_parcels w ps peer unlocked locked = Each-weaker (λ p. is_locked_in w p.peer ≡ false) (λ p. (p.peer == peer) ≡ false) (λ p free. elim (cases_Bool (p.peer == peer)) [
  | inl same ↦ absurd (true≢false (sym locked ∙ (ap (is_locked_in w) (sym (eqb-true p.peer peer same)) ∙ free)))
  | inr other ↦ other
]) ps unlocked

-- it goes on: it stands so, sends so, and has no new lock but of the one that it stood with
pub goes_apart : (own target : ℕ) (w w' : Worker) (out : Output) → StandsApart target w' → Each (λ p. is_locked_in w' p.peer ≡ false) out.sends.items
    → ((peer : ℕ) → (own == peer) ≡ false → is_locked_in w' peer ≡ true → (is_locked_in w peer ≡ true) ⊎ (stands_on w ≡ Some peer)) → ((w.phase ≡ phases.Orders → ⊥) → w'.word ≡ w.word) → GoesApart own target w w' out
goes_apart own target w w' out stands sends new word = record {
  stands = λ on. stands;
  locks = λ on peer other locked. (unlocked_parcels w' out.sends.items peer sends locked, new peer other locked);
  word = word;
}

-- ---- it says something

unheard_unlocked : (w : Worker) (peer : ℕ) → heard_in w.heard peer ≡ None → is_locked_in w peer ≡ false
unheard_unlocked w peer none = ap is_held none

-- what becomes of what it asks
pub record AsksApart (target : ℕ) (heard : List (ℕ × Heard)) (phase : Phase) : Type 0 where
  pub asked : IfSome (asked_in phase) (λ peer. heard_in heard peer ≡ None)
  pub other : IfSome (looked_in phase) (λ peer. (target == peer) ≡ false)

-- to a peer of which it has heard nothing, and hears nothing
pub says_apart : (own target peer : ℕ) (w w' : Worker) (out : Output) → w'.heard ≡ w.heard → ((w.phase ≡ phases.Orders → ⊥) → w'.word ≡ w.word) → heard_in w.heard target ≡ None → heard_in w.heard peer ≡ None → AsksApart target w.heard w'.phase
    → Each (λ p. p.peer ≡ peer) out.sends.items → GoesApart own target w w' out
says_apart own target peer w w' out heard word unheard none asks to =
    goes_apart own target w w' out (record {
      unheard = ap (λ (h : List (ℕ × Heard)). heard_in h target) heard ∙ unheard;
      asked = subst (λ (h : List (ℕ × Heard)). IfSome (asked_in w'.phase) (λ p. heard_in h p ≡ None)) (sym heard) asks.asked;
      other = asks.other;
    }) (Each-weaker (λ p. p.peer ≡ peer) (λ p. is_locked_in w' p.peer ≡ false) (λ p is. ap (λ (h : List (ℕ × Heard)). is_held (heard_in h p.peer)) heard ∙ (ap (is_locked_in w) is ∙ unheard_unlocked w peer none)) out.sends.items to)
    (λ p other locked. inl (ap (λ (h : List (ℕ × Heard)). is_held (heard_in h p)) (sym heard) ∙ locked)) word

said_to : (peer : ℕ) (o : Option Message) → Each (λ p. p.peer ≡ peer) (said_parcels peer o)
said_to peer None = tt
said_to peer (Some m) = (refl, tt)

-- what it asks then
abbrev pub AsksBy : ℕ → List (ℕ × Heard) → Request → Type 0
AsksBy target heard q = AsksApart target heard q.phase

asks_by : (target peer time : ℕ) (w : Worker) (version : ℕ) (need : Need) (end : Option ℕ) → heard_in w.heard peer ≡ None → AsksBy target w.heard (first_request need w target time peer version end)
asks_by target peer time w version need end none = by_peer (target == peer) refl end
  where
    by_version : (b : Bool) → AsksBy target w.heard (if b then record { kind = Talk (Some w.number); says = None; phase = phases.Ends (endings.OldProtocol version) } else record { kind = Talk (Some w.number); says = Some GetTimestamp; phase = phases.AsksTime })
    by_version true = record { asked = tt; other = tt }
    by_version false = record { asked = tt; other = tt }

    by_end : (e : Option ℕ) → AsksBy target w.heard (target_request need w target version e)
    by_end None = record { asked = tt; other = tt }
    by_end (Some e) = by_version (nat_lt version 3)

    by_peer : (b : Bool) → (target == peer) ≡ b → (e : Option ℕ) → AsksBy target w.heard (if b then target_request need w target version e else record { kind = Talk (Some w.number); says = Some (LockContent w.job.key); phase = phases.AsksLock peer time })
    by_peer true is e = by_end e
    by_peer false is e = record { asked = none; other = is }

-- the first request to a peer
pub request_stays : (target time peer version : ℕ) (need : Need) (w w' : Worker) (end : Option ℕ) (result : Result Output NoMemory) → IfOk result (Says (first_request need w target time peer version end) peer w w')
    → IfOk result (λ out. heard_in w.heard peer ≡ None → StaysApart target w w' out)
request_stays target time peer version need w w' end (Ok out) s = λ none own apart.
    says_apart own target peer w w' out (ap (λ (v : Worker). v.heard) s.next) (λ other. ap (λ (v : Worker). v.word) s.next) apart.unheard none
    (subst (λ (ph : Phase). AsksApart target w.heard ph) (sym (ap (λ (v : Worker). v.phase) s.next)) (asks_by target peer time w version need end none))
    (subst (Each (λ p. p.peer ≡ peer)) (sym s.sends) (said_to peer (first_request need w target time peer version end).says))
request_stays target time peer version need w w' end (Err e) s = tt

-- an opening
pub opens_stay : (target peer : ℕ) (w w' : Worker) (out : Output) → w' ≡ record w { phase = phases.Opens peer } → Each (λ p. p.peer ≡ peer) out.sends.items → heard_in w.heard peer ≡ None → StaysApart target w w' out
opens_stay target peer w w' out next to none = λ own apart.
    says_apart own target peer w w' out (ap (λ (v : Worker). v.heard) next) (λ other. ap (λ (v : Worker). v.word) next) apart.unheard none
    (subst (λ (ph : Phase). AsksApart target w.heard ph) (sym (ap (λ (v : Worker). v.phase) next)) (record { asked = none; other = tt })) to

-- the order
pub order_stays : (target : ℕ) (need : Need) (w w' : Worker) (deadline : Option ℕ) (result : Result Output NoMemory) → IfOk result (Says (order_of need w target deadline) target w w') → IfOk result (StaysApart target w w')
order_stays target need w w' deadline (Ok out) s = λ own apart.
    says_apart own target target w w' out (ap (λ (v : Worker). v.heard) s.next) (λ other. ap (λ (v : Worker). v.word) s.next) apart.unheard apart.unheard
    (subst (λ (ph : Phase). AsksApart target w.heard ph) (sym (ap (λ (v : Worker). v.phase) s.next)) (record { asked = tt; other = tt }))
    (subst (Each (λ p. p.peer ≡ target)) (sym s.sends) (said_to target (order_of need w target deadline).says))
order_stays target need w w' deadline (Err e) s = tt

-- ---- it hears of a peer

-- the new lock, if it is one, is of the peer
new_lock : (own p : ℕ) (h : Heard) (w w' : Worker) → w'.heard ≡ (p, h) ∷ w.heard → (is_held (Some (heard_as h)) ≡ true → (own == p) ≡ false → stands_on w ≡ Some p) → (peer : ℕ) → (own == peer) ≡ false → is_locked_in w' peer ≡ true
    → (is_locked_in w peer ≡ true) ⊎ (stands_on w ≡ Some peer)
new_lock own p h w w' heard stood peer other locked = elim (cases_Bool (p == peer)) [
  | inl same ↦
      let is : p ≡ peer = eqb-true p peer same in
      let held : is_held (Some (heard_as h)) ≡ true = sym (ap is_held (heard_this p h w.heard)) ∙ (ap (λ (n : ℕ). is_held (heard_in ((p, h) ∷ w.heard) n)) is ∙ (ap (λ (l : List (ℕ × Heard)). is_held (heard_in l peer)) (sym heard) ∙ locked)) in
      inr (stood held (ap (λ (n : ℕ). own == n) is ∙ other) ∙ ap (λ (n : ℕ). Some n) is)
  | inr apart ↦ inl (ap is_held (sym (heard_other p peer h w.heard apart)) ∙ (ap (λ (l : List (ℕ × Heard)). is_held (heard_in l peer)) (sym heard) ∙ locked))
]

-- it says nothing, and then judges
pub hears_apart : (own target p : ℕ) (h : Heard) (w w' : Worker) (out : Output) → w'.heard ≡ (p, h) ∷ w.heard → w'.phase ≡ phases.Next → w'.word ≡ w.word → heard_in w.heard target ≡ None → (target == p) ≡ false
    → (is_held (Some (heard_as h)) ≡ true → (own == p) ≡ false → stands_on w ≡ Some p) → out.sends.items ≡ [] → GoesApart own target w w' out
hears_apart own target p h w w' out heard phase word unheard other stood sends =
    goes_apart own target w w' out (record {
      unheard = ap (λ (l : List (ℕ × Heard)). heard_in l target) heard ∙ (heard_other p target h w.heard (flip target p other) ∙ unheard);
      asked = subst (λ (ph : Phase). IfSome (asked_in ph) (λ peer. heard_in w'.heard peer ≡ None)) (sym phase) tt;
      other = subst (λ (ph : Phase). IfSome (looked_in ph) (λ peer. (target == peer) ≡ false)) (sym phase) tt;
    }) (subst (Each (λ q. is_locked_in w' q.peer ≡ false)) (sym sends) tt) (new_lock own p h w w' heard stood) (λ _. word)

-- ---- a connection is closed

-- by the worker or by the peer: nothing but a Close to the peer is sent
pub parts_apart : (own target peer : ℕ) (w w' : Worker) (out : Output) → StandsApart target w → w' ≡ without_peer w target peer → Each (λ p. p.peer ≡ peer) out.sends.items → GoesApart own target w w' out
parts_apart own target peer w w' out apart is to = go (target == peer) refl is
  where
    go : (b : Bool) → (target == peer) ≡ b → w' ≡ (if b then record w { phase = phases.Ends (endings.Lost (is_ordering w.phase)) } else record w { heard = (peer, heards.Lacks causes.Closed) ∷ w.heard; phase = phases.Next }) → GoesApart own target w w' out
    go true same e =
        says_apart own target target w w' out (ap (λ (v : Worker). v.heard) e) (λ _. ap (λ (v : Worker). v.word) e) apart.unheard apart.unheard
        (subst (λ (ph : Phase). AsksApart target w.heard ph) (sym (ap (λ (v : Worker). v.phase) e)) (record { asked = tt; other = tt }))
        (Each-weaker (λ p. p.peer ≡ peer) (λ p. p.peer ≡ target) (λ p at. at ∙ sym (eqb-true target peer same)) out.sends.items to)
    go false other e =
        let heard : w'.heard ≡ (peer, heards.Lacks causes.Closed) ∷ w.heard = ap (λ (v : Worker). v.heard) e in
        let phase : w'.phase ≡ phases.Next = ap (λ (v : Worker). v.phase) e in
        goes_apart own target w w' out (record {
          unheard = ap (λ (l : List (ℕ × Heard)). heard_in l target) heard ∙ (heard_other peer target (heards.Lacks causes.Closed) w.heard (flip target peer other) ∙ apart.unheard);
          asked = subst (λ (ph : Phase). IfSome (asked_in ph) (λ q. heard_in w'.heard q ≡ None)) (sym phase) tt;
          other = subst (λ (ph : Phase). IfSome (looked_in ph) (λ q. (target == q) ≡ false)) (sym phase) tt;
        })
        (Each-weaker (λ p. p.peer ≡ peer) (λ p. is_locked_in w' p.peer ≡ false) (λ p at.
        ap (λ (n : ℕ). is_locked_in w' n) at ∙ (ap (λ (l : List (ℕ × Heard)). is_held (heard_in l peer)) heard ∙ ap is_held (heard_this peer (heards.Lacks causes.Closed) w.heard))) out.sends.items to)
        (new_lock own peer (heards.Lacks causes.Closed) w w' heard (λ held _. absurd (true≢false (sym held))))
        (λ _. ap (λ (v : Worker). v.word) e)

pub shuts_stays : (target peer : ℕ) (w w' : Worker) (result : Result Output NoMemory) → IfOk result (ShutsRemote target peer w w') → IfOk result (StaysApart target w w')
shuts_stays target peer w w' (Ok out) s = λ own apart. parts_apart own target peer w w' out apart s.next (subst (Each (λ p. p.peer ≡ peer)) (sym s.sends) (refl, tt))
shuts_stays target peer w w' (Err e) s = tt

-- ---- its own repository

pub passes_stays : (own target : ℕ) (bar : Option ℕ) (w w' : Worker) (result : Result Output NoMemory) → IfOk result (PassesBy own bar w w') → IfOk result (StaysApartIn own target w w')
passes_stays own target bar w w' (Ok out) p = λ other apart.
    hears_apart own target own (heards.Lacks (unshared_cause bar)) w w' out (ap (λ (v : Worker). v.heard) p.next) (ap (λ (v : Worker). v.phase) p.next) (ap (λ (v : Worker). v.word) p.next) apart.unheard (flip own target other)
    (λ held _. absurd (true≢false (sym held))) p.sends
passes_stays own target bar w w' (Err e) p = tt

module _ (own target : ℕ) (w u w' : Worker) (before : Heard) (was : u ≡ record w { heard = (own, before) ∷ w.heard; phase = phases.Next }) where
  none_stays : (kind : EntryKind) (cause : Cause) (result : Result Output NoMemory) → IfOk result (GivesNone kind cause u w') × OnErr result ⊥ → IfOk result (StaysApartIn own target w w')
  none_stays kind cause (Ok out) gives = λ other apart.
      let next : w' ≡ record w { heard = (own, heards.Lacks cause) ∷ w.heard; phase = phases.Next } =
      gives.0.next own before w.heard (ap (λ (v : Worker). v.heard) was) ∙ ap (λ (v : Worker). record v { heard = (own, heards.Lacks cause) ∷ w.heard }) was in
      hears_apart own target own (heards.Lacks cause) w w' out (ap (λ (v : Worker). v.heard) next) (ap (λ (v : Worker). v.phase) next) (ap (λ (v : Worker). v.word) next) apart.unheard (flip own target other)
      (λ held _. absurd (true≢false (sym held))) gives.0.sends
  none_stays kind cause (Err e) gives = tt

  -- why there is none
  pub unshared_stays : (bar : Option ℕ) (why : ShareRefused) (result : Result Output NoMemory) → FollowsShareRefused bar why u w' result → IfOk result (StaysApartIn own target w w')
  unshared_stays bar refused.Absent result is = none_stays (Talk (Some u.number)) (unshared_cause bar) result is
  unshared_stays bar (refused.Barred job) result is = none_stays (Talk (Some u.number)) (unshared_cause bar) result is
  unshared_stays bar (refused.StoreFault call) result is = none_stays (Fault call (by_job u.number)) causes.Fault result is
  unshared_stays bar refused.NoMemory (Ok out) is = absurd is.0
  unshared_stays bar refused.NoMemory (Err e) is = tt

-- its own share: that is no lock of another repository
pub shares_stays : (own target : ℕ) (h : Heard) (w w' : Worker) (out : Output) → w'.heard ≡ (own, h) ∷ w.heard → w'.phase ≡ phases.Next → w'.word ≡ w.word → out.sends.items ≡ [] → StaysApartIn own target w w' out
shares_stays own target h w w' out heard phase word sends = λ other apart.
    hears_apart own target own h w w' out heard phase word apart.unheard (flip own target other) (λ held other_own. absurd (true≢false (sym (eqb_refl own) ∙ other_own))) sends

-- ---- a share that couldn't be released

unreleased_asks : (time target : ℕ) (w : Worker) (ph : Phase) → StandsApart target (record w { phase = ph }) → AsksApart target w.heard (unreleased_phase time ph)
unreleased_asks time target w phases.Fresh apart = record { asked = tt; other = tt }
unreleased_asks time target w phases.Next apart = record { asked = tt; other = tt }
unreleased_asks time target w (phases.Opens peer) apart = record { asked = apart.asked; other = tt }
unreleased_asks time target w (phases.Greets peer) apart = record { asked = apart.asked; other = tt }
unreleased_asks time target w (phases.AsksLock peer since) apart = record { asked = apart.asked; other = apart.other }
unreleased_asks time target w (phases.AsksLook peer) apart = record { asked = apart.asked; other = apart.other }
unreleased_asks time target w phases.AsksTime apart = record { asked = tt; other = tt }
unreleased_asks time target w phases.Orders apart = record { asked = tt; other = tt }
unreleased_asks time target w phases.Removed apart = record { asked = tt; other = tt }
unreleased_asks time target w phases.Denied apart = record { asked = tt; other = tt }
unreleased_asks time target w (phases.Late late) apart = record { asked = tt; other = tt }
unreleased_asks time target w (phases.Ends why) apart = record { asked = tt; other = tt }

-- of a worker that had its share taken off
pub unreleased_apart : (own target time : ℕ) (w v w' : Worker) (out : Output) → v.heard ≡ w.heard → v.phase ≡ w.phase → v.word ≡ w.word → StandsApart target w → FailsToRelease time v w' out → GoesApart own target w w' out
unreleased_apart own target time w v w' out heard phase word apart f =
    says_apart own target target w w' out (ap (λ (x : Worker). x.heard) f.next ∙ heard) (λ _. ap (λ (x : Worker). x.word) f.next ∙ word) apart.unheard apart.unheard
    (subst (λ (ph : Phase). AsksApart target w.heard ph) (sym (ap (λ (x : Worker). x.phase) f.next ∙ ap (unreleased_phase time) phase))
    (unreleased_asks time target w w.phase (record { unheard = apart.unheard; asked = apart.asked; other = apart.other })))
    (subst (Each (λ p. p.peer ≡ target)) (sym f.sends) tt)

-- ---- what a worker learns of versions changes none of it

pub learnt_stays : (target : ℕ) (w v w' : Worker) (result : Result Output NoMemory) → w'.heard ≡ v.heard → w'.phase ≡ v.phase → w'.word ≡ v.word → IfOk result (StaysApart target w v) → IfOk result (StaysApart target w w')
learnt_stays target w v w' (Ok out) heard phase word stays = λ own apart. let goes = stays own apart in record {
  stands = λ on. let it = goes.stands on in record {
    unheard = ap (λ (l : List (ℕ × Heard)). heard_in l target) heard ∙ it.unheard;
    asked = subst (λ (ph : Phase). IfSome (asked_in ph) (λ peer. heard_in w'.heard peer ≡ None)) (sym phase)
        (subst (λ (l : List (ℕ × Heard)). IfSome (asked_in v.phase) (λ peer. heard_in l peer ≡ None)) (sym heard) it.asked);
    other = subst (λ (ph : Phase). IfSome (looked_in ph) (λ peer. (target == peer) ≡ false)) (sym phase) it.other;
  };
  locks = λ on peer other locked. goes.locks on peer other (ap (λ (l : List (ℕ × Heard)). is_held (heard_in l peer)) (sym heard) ∙ locked);
  word = λ other. word ∙ goes.word other;
}
learnt_stays target w v w' (Err e) heard phase word stays = tt

-- ---- from what a function says

pub stays_in : (own target : ℕ) (w w' : Worker) (result : Result Output NoMemory) → IfOk result (StaysApart target w w') → IfOk result (StaysApartIn own target w w')
stays_in own target w w' (Ok out) stays = λ other apart. stays own apart
stays_in own target w w' (Err e) stays = tt

pub end_stays : (target : ℕ) (w w' : Worker) (result : Result Output NoMemory) → IfOk result (λ out. (t : ℕ) → StaysApart t w w' out) → IfOk result (StaysApart target w w')
end_stays target w w' (Ok out) stays = stays target
end_stays target w w' (Err e) stays = tt

-- a target is one of which nothing was heard
pub to_target : (target : ℕ) (w w' : Worker) (result : Result Output NoMemory) → IfOk result (λ out. heard_in w.heard target ≡ None → StaysApart target w w' out) → IfOk result (StaysApart target w w')
to_target target w w' (Ok out) stays = λ own apart. stays apart.unheard own apart
to_target target w w' (Err e) stays = tt

pub to_unheard : (target peer : ℕ) (w w' : Worker) (result : Result Output NoMemory) → heard_in w.heard peer ≡ None → IfOk result (λ out. heard_in w.heard peer ≡ None → StaysApart target w w' out) → IfOk result (StaysApart target w w')
to_unheard target peer w w' (Ok out) none stays = stays none
to_unheard target peer w w' (Err e) none stays = tt

-- and so is a candidate that is still to be asked
pub unasked_unheard : (s : Standing) (o : Option Jobs.Heard) → is_unasked s o ≡ true → o ≡ None
unasked_unheard Asked None is = refl
unasked_unheard Asked (Some h) is = absurd (true≢false (sym is))
unasked_unheard Claimed o is = absurd (true≢false (sym is))
unasked_unheard (Ignored cause) o is = absurd (true≢false (sym is))

-- a request to the peer that it stands with
pub asks_on : (target peer : ℕ) (w w' : Worker) (out : Output) → asked_in w.phase ≡ Some peer → w'.heard ≡ w.heard → w'.word ≡ w.word → asked_in w'.phase ≡ Some peer
    → (looked_in w'.phase ≡ None) ⊎ ((looked_in w.phase ≡ Some peer) × (looked_in w'.phase ≡ Some peer)) → Each (λ p. p.peer ≡ peer) out.sends.items → StaysApart target w w' out
asks_on target peer w w' out at heard word next looked to = λ own apart.
    let none : heard_in w.heard peer ≡ None = subst (λ (o : Option ℕ). IfSome o (λ p. heard_in w.heard p ≡ None)) at apart.asked in
    says_apart own target peer w w' out heard (λ _. word) apart.unheard none (record {
      asked = subst (λ (o : Option ℕ). IfSome o (λ p. heard_in w.heard p ≡ None)) (sym next) none;
      other = elim looked [
        | inl unlooked ↦ subst (λ (o : Option ℕ). IfSome o (λ p. (target == p) ≡ false)) (sym unlooked) tt
        | inr same ↦ subst (λ (o : Option ℕ). IfSome o (λ p. (target == p) ≡ false)) (sym same.1) (subst (λ (o : Option ℕ). IfSome o (λ p. (target == p) ≡ false)) same.0 apart.other)
      ];
    }) to

-- an answer of the peer that it stands with, which it asked for a lock or a look
pub hears_of : (target peer : ℕ) (h : Heard) (w w' : Worker) (out : Output) → looked_in w.phase ≡ Some peer → stands_on w ≡ Some peer → w' ≡ record w { heard = (peer, h) ∷ w.heard; phase = phases.Next } → out.sends.items ≡ [] → StaysApart target w w' out
hears_of target peer h w w' out looked stood next sends = λ own apart.
    hears_apart own target peer h w w' out (ap (λ (v : Worker). v.heard) next) (ap (λ (v : Worker). v.phase) next) (ap (λ (v : Worker). v.word) next) apart.unheard
    (subst (λ (o : Option ℕ). IfSome o (λ p. (target == p) ≡ false)) looked apart.other) (λ held other. stood) sends

-- the target's answer to an order
pub answers_stay : (target : ℕ) (w w' : Worker) (out : Output) → w.phase ≡ phases.Orders → w'.heard ≡ w.heard → asked_in w'.phase ≡ None → looked_in w'.phase ≡ None → out.sends.items ≡ [] → StaysApart target w w' out
answers_stay target w w' out at heard asked looked sends = λ own apart.
    says_apart own target target w w' out heard (λ other. absurd (other at)) apart.unheard apart.unheard (record {
      asked = subst (λ (o : Option ℕ). IfSome o (λ p. heard_in w.heard p ≡ None)) (sym asked) tt;
      other = subst (λ (o : Option ℕ). IfSome o (λ p. (target == p) ≡ false)) (sym looked) tt;
    }) (subst (Each (λ p. p.peer ≡ target)) (sym sends) tt)

-- the connection was closed
pub parts_stay : (target peer : ℕ) (w w' : Worker) (out : Output) → w' ≡ without_peer w target peer → out.sends.items ≡ [] → StaysApart target w w' out
parts_stay target peer w w' out next sends = λ own apart. parts_apart own target peer w w' out apart next (subst (Each (λ p. p.peer ≡ peer)) (sym sends) tt)

-- the first request after a version, which it learns
pub greet_stays : (need : Need) (w v w' : Worker) (target time peer version : ℕ) (end : Option ℕ) (out : Output) → w.phase ≡ phases.Greets peer → Says (first_request need w target time peer version end) peer w v out → w' ≡ with_version v peer version
    → StaysApart target w w' out
greet_stays need w v w' target time peer version end out at says learnt =
    learnt_stays target w v w' (Ok out) (ap (λ (x : Worker). x.heard) learnt) (ap (λ (x : Worker). x.phase) learnt) (ap (λ (x : Worker). x.word) learnt) (λ own apart.
    request_stays target time peer version need w v end (Ok out) says (subst (λ (ph : Phase). IfSome (asked_in ph) (λ p. heard_in w.heard p ≡ None)) at apart.asked) own apart)

-- a connection that is closed for its version, which it learns
pub learns_shut : (target peer version : ℕ) (w v w' : Worker) (out : Output) → ShutsRemote target peer w v out → w' ≡ with_version v peer version → StaysApart target w w' out
learns_shut target peer version w v w' out shuts learnt =
    learnt_stays target w v w' (Ok out) (ap (λ (x : Worker). x.heard) learnt) (ap (λ (x : Worker). x.phase) learnt) (ap (λ (x : Worker). x.word) learnt) (shuts_stays target peer w v (Ok out) shuts)

-- ---- on either side

pub local_apart : (side : Side) (peer : Option ℕ) (own : ℕ) (w w' : Worker) (result : Result Output NoMemory) → side ≡ Local → IfOk result (λ out. IsApart side peer w → GoesApartSo side peer own w w' out)
local_apart side peer own w w' (Ok out) local = λ apart. subst (λ (s : Side). GoesApartSo s peer own w w' out) (sym local) tt
local_apart side peer own w w' (Err e) local = tt

pub remote_apart : (side : Side) (peer : Option ℕ) (own target : ℕ) (w w' : Worker) (result : Result Output NoMemory) → side ≡ Remote → peer ≡ Some target → (own == target) ≡ false → IfOk result (StaysApartIn own target w w')
    → IfOk result (λ out. IsApart side peer w → GoesApartSo side peer own w w' out)
remote_apart side peer own target w w' (Ok out) remote is other stays = λ apart.
    subst (λ (s : Side). GoesApartSo s peer own w w' out) (sym remote) (subst (λ (o : Option ℕ). GoesApartSo Remote o own w w' out) (sym is)
    (stays other (subst (λ (o : Option ℕ). IsApart Remote o w) is (subst (λ (s : Side). IsApart s peer w) remote apart))))
remote_apart side peer own target w w' (Err e) remote is other stays = tt
