-- When a clock was set: no later than the newest entry; and that of a job that judges, before the job asked for what it was told of.
use Rattle.std.proofs.Common.{◌≡◌, ℕ, ◌≤◌, true, List, [], ◌∷◌, Some, inl, inr, refl, sym, ap, ◌∙◌, subst, arith}
use Rattle.annex_base.specs.Lists.{Member}
use Rattle.run_data.specs.declared.entry.By.{By}
use Rattle.run_data.specs.declared.entry.Entry.{Entry}
use Rattle.run_data.specs.declared.entry.EntryKind.TheVariants.{Share}
use Rattle.run_data.specs.declared.run.RepoView.{RepoView}
use Rattle.node_model.specs.Clocks.{ClockSet, runs_on}
use Rattle.run_model.specs.Past.{Occurs, clock, clock_set, is_of, now}
use Rattle.p2p_wire.specs.declared.message.Message.TheVariants.{LockContent}
use Rattle.run_model.specs.Said.{Says}
use Rattle.run_model.specs.Drops.{Lock, reply, vouch}
use Rattle.past_facts.proofs.Own.{MessagePast, Meets, OneClock, seeks}
use Rattle.past_facts.proofs.Changes.{reply_vouched, set_by_now}
use Rattle.step_facts.proofs.Flights.{always_before, occurs_always, occurs_earlier}
use Rattle.past_facts.proofs.OwnFacts.{VouchesBy, asked_by, asker_seeks, share_seeks, vouches_by}
use Rattle.past_facts.proofs.Evident.{SetBefore}
use Rattle.past_facts.proofs.Occurring.{vouches_occur}

-- a clock was set no later than the newest entry
pub sets_by_now : (repos : List RepoView) (past : List Entry) (r : ℕ) → MessagePast repos past → (clock_set repos past r).at ≤ now past
sets_by_now repos [] r run = omega arith
sets_by_now repos (e ∷ past) r run = set_by_now repos e past r (sets_by_now repos past r run.1) run.0.order

-- and as it stood before an entry, no later than that entry
pub sets_by_then : (repos : List RepoView) (past : List Entry) (x : Entry) (p : List Entry) (r : ℕ) → MessagePast repos past → Occurs past x p → (clock_set repos p r).at ≤ x.time
sets_by_then repos past x p r run o = omega (arith, sets_by_now repos p r (always_before (Meets repos) past x p run o), (occurs_always (Meets repos) past x p run o).order)

-- ---- when a job asked

-- the job asked for a copy at this time
pub record AskedThen (past : List Entry) (a j since : ℕ) : Type 0 where
  pub entry : Entry
  pub before : List Entry
  pub occurs : Occurs past entry before
  pub seeks_is : seeks a j entry ≡ true
  pub time_is : since ≡ entry.time

-- a job that was told of a lock asked for it, by its own share or of another
pub asked_then : (repos : List RepoView) (past : List Entry) (a j c hold since : ℕ) (owner : By) (key : List ℕ) → MessagePast repos past → reply past a j c ≡ Some (Lock hold since owner key) → AskedThen past a j since
asked_then repos past a j c hold since owner key run h = finish found.0 found.1 found.2 found.3
  where
    found : (x : Entry) × (p : List Entry) × (Occurs past x p) × Member (Lock hold since owner key) (vouch p x c a j)
    found = vouches_occur past c a j (Lock hold since owner key) (reply_vouched past a j c (Lock hold since owner key) h)

    by_vouch : (x : Entry) (p : List Entry) → Occurs past x p → is_of c x ≡ true → VouchesBy p x c a j (Lock hold since owner key) → AskedThen past a j since
    by_vouch x p o is (end, kind, inl own) = record {
      entry = x;
      before = p;
      occurs = o;
      seeks_is = share_seeks a j x hold end key (subst (λ q. is_of q x ≡ true) own.0 is) (kind ∙ ap (λ z. Share hold end z key) own.1);
      time_is = own.2;
    }
    by_vouch x p o is (end, kind, inr (peer, slot, owner_is, yes', at)) =
        let m = occurs_always (Meets repos) past x p run o in
        let y = ((m.own c is).shares_with hold end peer slot key (kind ∙ ap (λ z. Share hold end z key) owner_is)).answer in
        let t = asked_by repos p x c a j y.f m is y.takes_it yes' in
        record {
          entry = t.0.it.entry;
          before = t.0.it.before;
          occurs = occurs_earlier past x t.0.it.entry p t.0.it.before o t.0.sending.occurs;
          seeks_is = asker_seeks c a j p y.f (Says (LockContent key)) y.asked_is refl t.0;
          time_is = at ∙ t.1;
        }

    finish : (x : Entry) (p : List Entry) → Occurs past x p → Member (Lock hold since owner key) (vouch p x c a j) → AskedThen past a j since
    finish x p o v = let t = vouches_by p x c a j (Lock hold since owner key) v in by_vouch x p o t.0 t.1

-- the clock by which a job judges was set before it asked for what it was told of
pub set_before : (repos : List RepoView) (past : List Entry) (a j : ℕ) → MessagePast repos past → OneClock repos a past j → SetBefore repos past a j
set_before repos past a j run one c hold since owner key h =
    let t = asked_then repos past a j c hold since owner key run h in
    let same : (clock_set repos t.before a).at ≡ (clock_set repos past a).at = ap (λ (z : ClockSet). z.at) (one t.entry t.before t.occurs t.seeks_is) in
    omega (arith, same, t.time_is, sets_by_then repos past t.entry t.before a run t.occurs)

-- and it is the clock by which the job asked: so a locked item ends ten minutes after what the clock was, at the entry that asked for it
pub end_then : (repos : List RepoView) (past : List Entry) (a j since : ℕ) → OneClock repos a past j → (t : AskedThen past a j since) → clock repos past a since ≡ clock repos t.before a t.entry.time
end_then repos past a j since one t = ap (clock repos past a) t.time_is ∙ ap (λ (z : ClockSet). runs_on z t.entry.time) (sym (one t.entry t.before t.occurs t.seeks_is))
