-- What the locked and recent items of a run's removals stand on: who asked and who answered, and the hold, which is still there.
use Rattle.node_model.specs.Clocks.{hold_time}
use Rattle.std.proofs.Common.{◌≡◌, ℕ, ◌+◌, ◌≤◌, Bool, true, false, List, [], ◌∷◌, Option, Some, None, ◌⊎◌, inl, inr, refl, sym, ap, ◌∙◌, subst}
use Rattle.std.specs.Prelude.{if◌then◌else◌, ◌==◌, bytes_eq, nat_le, slice_get}
use Rattle.std.specs.Cmp.Lexicographic.{bytes_decides}
use Rattle.std.proofs.lemmas.Bool.{true≢false, and_parts, eqb-true, leb-true}
use Rattle.annex_base.specs.Lists.{Each, Member}
use Rattle.annex_base.proofs.Lists.{Each-member, list_any_found}
use Rattle.step_facts.proofs.Below.{SentAreRead}
use Rattle.drop_proof.specs.declared.evidence.Evidence.{Evidence}
use Rattle.drop_proof.specs.declared.evidence.Kind.TheVariants.{Locked, Recent}
use Rattle.run_data.specs.declared.entry.By.{By}
use Rattle.run_data.specs.declared.entry.By.TheVariants.{Job as by_job, Peer}
use Rattle.run_data.specs.declared.entry.Entry.{Entry}
use Rattle.run_data.specs.declared.entry.EntryKind.TheVariants.{Share}
use Rattle.run_data.specs.declared.entry.FrameView.{FrameView}
use Rattle.run_data.specs.declared.row.Hold.{Hold}
use Rattle.run_data.specs.declared.run.RepoView.{RepoView}
use Rattle.run_data.specs.declared.run.Run.{Run}
use Rattle.p2p_wire.specs.declared.message.Message.TheVariants.{CheckPresent, LockContent}
use Rattle.run_model.specs.Past.{Occurs, clock, holds, is_of}
use Rattle.node_model.specs.Rows.{option_is, same_owner}
use Rattle.run_model.specs.Said.{Said, Says, message_in}
use Rattle.run_model.specs.Frames.{SendingEntry, is_job, sender, sender_of, taker_of, way_of}
use Rattle.node_model.specs.Slots.{job_of}
use Rattle.node_model.specs.Evidence.{Gives, Standing}
use Rattle.run_model.specs.Drops.{Lock, Look, Vouch, offer_from, reply, standing, tells, vouches_sent, vouch}
use Rattle.run_model.specs.Safety.{Removal, past_at}
use Rattle.run_model.specs.Run.{IsRun, job_paths}
use Rattle.race_core.specs.Items.{AsksLock, IsFor, IsHeld, IsToldBy, SendsUp, WasSeen}
use Rattle.past_facts.proofs.Own.{Meets, MessagePast, OneClock, seeks}
use Rattle.race_core.specs.Places.{removal_at}
use Rattle.race_core.specs.Readings.{Judge, judge_at}
use Rattle.past_facts.proofs.Changes.{lasts, lasts_one, newer-was, reply_vouched, same_owner_true, same_repo}
use Rattle.step_facts.proofs.Flights.{occurs_always, occurs_earlier, sender_occurs}
use Rattle.past_facts.proofs.Gather.{offer_end, offer_locked, offer_recent}
use Rattle.past_facts.proofs.Told.{message_at, on_parts, sender_way, sends_member, sends_on, taker_way}
use Rattle.past_facts.proofs.OwnFacts.{AskedBy, VouchesBy, asked_by, asker_seeks, share_seeks, vouches_by}
use Rattle.past_facts.proofs.ClockSets.{AskedThen, end_then}
use Rattle.race_core.proofs.Dropped.{Dropped, dropped, facts_at}
use Rattle.race_core.proofs.ReadLaws.{evidence_asked}

-- ---- what a job was told, and by which entry

-- what was vouched, by an entry of which the job was told, or which is of its own repository
record Told (past : List Entry) (a j c : ℕ) (v : Vouch) : Type 0 where
  entry : Entry
  before : List Entry
  occurs : Occurs past entry before
  vouched : Member v (vouch before entry c a j)
  told : (c ≡ a) ⊎ IsToldBy past a j entry before

told_older : (e : Entry) (past : List Entry) (a j c : ℕ) (v : Vouch) → Told past a j c v → Told (e ∷ past) a j c v
told_older e past a j c v t = record { entry = t.entry; before = t.before; occurs = inr t.occurs; vouched = t.vouched; told = later t.told }
  where
    later : (c ≡ a) ⊎ IsToldBy past a j t.entry t.before → (c ≡ a) ⊎ IsToldBy (e ∷ past) a j t.entry t.before
    later (inl same) = inl same
    later (inr k) = inr (record { hearing = k.hearing; before = k.before; heard = inr k.heard; job_is = k.job_is; took = k.took })

told_now : (e : Entry) (past : List Entry) (a j c : ℕ) (v : Vouch) → Member v (tells past e c a j) → Told (e ∷ past) a j c v
told_now e past a j c v m = go (c == a) refl (is_job a j e) refl m
  where
    by_sender : is_job a j e ≡ true → (o : Option SendingEntry) → sender past a e.taken ≡ o → Member v (vouches_sent c a j o) → Told (e ∷ past) a j c v
    by_sender job None is k = absurd k
    by_sender job (Some s) is k = record {
      entry = s.entry;
      before = s.before;
      occurs = inr (sender_occurs past a e.taken s is);
      vouched = k;
      told = inr (record { hearing = e; before = past; heard = inl (refl, refl); job_is = job; took = is });
    }

    go : (b : Bool) → (c == a) ≡ b → (d : Bool) → is_job a j e ≡ d → Member v (if b then vouch past e c a j else (if d then vouches_sent c a j (sender past a e.taken) else [])) → Told (e ∷ past) a j c v
    go true same d job k = record { entry = e; before = past; occurs = inl (refl, refl); vouched = k; told = inl (eqb-true c a same) }
    go false same true job k = by_sender job (sender past a e.taken) refl k
    go false same false job k = absurd k

told_it : (past : List Entry) (a j c : ℕ) (v : Vouch) → reply past a j c ≡ Some v → Told past a j c v
told_it [] a j c v h = absurd (cc)
told_it (e ∷ past) a j c v h = elim (newer-was (tells past e c a j) (reply past a j c) v h) [
  | inl m ↦ told_now e past a j c v m
  | inr k ↦ told_older e past a j c v (told_it past a j c v k)
]

-- ---- who asked

-- a job's entry that sent the frame which was taken as this request
sends_up : (past : List Entry) (c a j : ℕ) (f : FrameView) (said : Said) → f.up ≡ true → message_in f.body ≡ said → (t : AskedBy past c a j f) → SendsUp t.it.entry c said
sends_up past c a j f said up asks t =
    let on = on_parts (way_of c f) (taker_of (way_of c f)) t.it.frame (sends_on (way_of c f) t.it.entry t.it.frame t.sending.sends) in
    record {
      g = t.it.frame;
      sends = sends_member (way_of c f) t.it.entry t.it.frame t.sending.sends;
      up_is = on.up_is ∙ up;
      peer_is = on.peer_is ∙ taker_way c f;
      says_it = message_at t.it.frame.body f.body said t.body_is asks;
    }

-- and it is one of the repository at the other end
asker_is : (past : List Entry) (c a j : ℕ) (f : FrameView) → (t : AskedBy past c a j f) → f.peer ≡ a
asker_is past c a j f t =
    let own : is_of a t.it.entry ≡ true = (and_parts (is_of a t.it.entry) (option_is (job_of t.it.entry.kind) j) t.is_asked).0 in
    sym (sender_way c f) ∙ same_repo t.it.entry (sender_of (way_of c f)) a t.sending.repo_is own

-- the entry by which job j of a asked for the lock, and the share by which it was given
record AskedLock (past : List Entry) (a j c hold since : ℕ) (owner : By) (key : List ℕ) : Type 0 where
  asked_it : AskedThen past a j since
  asks : AsksLock a j c key asked_it.entry
  owner_is : IsFor a j c owner
  given : Told past a j c (Lock hold since owner key)
  share_repo : is_of c given.entry ≡ true
  share_end : ℕ
  share_is : given.entry.kind ≡ Share hold share_end owner key

asked_lock : (repos : List RepoView) (past : List Entry) (a j c hold since : ℕ) (owner : By) (key : List ℕ) → MessagePast repos past → reply past a j c ≡ Some (Lock hold since owner key)
    → AskedLock past a j c hold since owner key
asked_lock repos past a j c hold since owner key run h = let t = vouches_by p x c a j (Lock hold since owner key) given.vouched in by_vouch t.0 t.1
  where
    given : Told past a j c (Lock hold since owner key)
    given = told_it past a j c (Lock hold since owner key) h

    x : Entry
    x = (told_it past a j c (Lock hold since owner key) h).entry

    p : List Entry
    p = (told_it past a j c (Lock hold since owner key) h).before

    by_vouch : is_of c x ≡ true → VouchesBy p x c a j (Lock hold since owner key) → AskedLock past a j c hold since owner key
    by_vouch is (end, kind, inl own) =
        let kind_is : x.kind ≡ Share hold end (by_job j) key = kind ∙ ap (λ z. Share hold end z key) own.1 in
        let seeks_is : seeks a j x ≡ true = share_seeks a j x hold end key (subst (λ q. is_of q x ≡ true) own.0 is) kind_is in
        record {
          asked_it = record { entry = x; before = p; occurs = given.occurs; seeks_is = seeks_is; time_is = own.2 };
          asks = record { job_is = (and_parts (is_job a j x) _ seeks_is).0; asks = inr (own.0, record { hold = hold; end = end; kind_is = kind_is }) };
          owner_is = inl (own.0, own.1);
          given = given;
          share_repo = is;
          share_end = end;
          share_is = kind;
        }
    by_vouch is (end, kind, inr (peer, slot, owner_is, yes', at)) =
        let m = occurs_always (Meets repos) past x p run given.occurs in
        let w = (m.own c is).shares_with hold end peer slot key (kind ∙ ap (λ z. Share hold end z key) owner_is) in
        let y = w.answer in
        let t = asked_by repos p x c a j y.f m is y.takes_it yes' in
        let peer_is : peer ≡ a = sym w.peer_is ∙ asker_is p c a j y.f t.0 in
        record {
          asked_it = record {
            entry = t.0.it.entry;
            before = t.0.it.before;
            occurs = occurs_earlier past x t.0.it.entry p t.0.it.before given.occurs t.0.sending.occurs;
            seeks_is = asker_seeks c a j p y.f (Says (LockContent key)) y.asked_is refl t.0;
            time_is = at ∙ t.1;
          };
          asks = record { job_is = t.0.is_asked; asks = inl (sends_up p c a j y.f (Says (LockContent key)) y.from_client y.asked_is t.0) };
          owner_is = inr (slot, owner_is ∙ ap (λ q. Peer q slot) peer_is);
          given = given;
          share_repo = is;
          share_end = end;
          share_is = kind;
        }

-- ---- the hold

-- a hold that lasts until then
record Lasting (hs : List Hold) (number until : ℕ) (owner : By) (key : List ℕ) : Type 0 where
  hold : Hold
  recorded : Member hold hs
  number_is : hold.number ≡ number
  owner_is : hold.owner ≡ owner
  key_is : hold.key ≡ key
  lasts_it : until ≤ hold.end

lasting : (hs : List Hold) (number until : ℕ) (owner : By) (key : List ℕ) → lasts hs number until owner key ≡ true → Lasting hs number until owner key
lasting hs number until owner key h =
    let t = list_any_found (lasts_one number until owner key) hs h in
    let x = t.0 in
    let a = and_parts (x.number == number) _ t.2 in
    let b = and_parts (same_owner x.owner owner) _ a.1 in
    let c = and_parts (bytes_eq x.key key) (nat_le until x.end) b.1 in
    record { hold = x; recorded = t.1; number_is = eqb-true x.number number a.0; owner_is = same_owner_true x.owner owner b.0; key_is = (bytes_decides x.key key).0 c.0; lasts_it = leb-true until x.end c.1 }

-- ---- locked items

held_by : (run : Run) (key : List ℕ) (place : ℕ) (judge : Judge) (c end hold since : ℕ) (owner : By) → MessagePast run.repos judge.past → OneClock run.repos judge.repo judge.past judge.job
    → reply judge.past judge.repo judge.job c ≡ Some (Lock hold since owner key) → end ≡ clock run.repos judge.past judge.repo since + hold_time
    → lasts (holds (past_at run place) c) hold (clock run.repos (past_at run place) c (since + hold_time)) owner key ≡ true → IsHeld run key place judge c end
held_by run key place judge c end hold since owner messages one told end_is last =
    let ask = asked_lock run.repos judge.past judge.repo judge.job c hold since owner key messages told in
    let t = lasting (holds (past_at run place) c) hold (clock run.repos (past_at run place) c (since + hold_time)) owner key last in
    record {
      asking = ask.asked_it.entry;
      before = ask.asked_it.before;
      asked = ask.asked_it.occurs;
      asks = ask.asks;
      end_is = end_is ∙ ap (λ n. n + hold_time) (end_then run.repos judge.past judge.repo judge.job since one ask.asked_it);
      hold = t.hold;
      key_is = t.key_is;
      owner_is = subst (IsFor judge.repo judge.job c) (sym t.owner_is) ask.owner_is;
      share = ask.given.entry;
      earlier = ask.given.before;
      shared = ask.given.occurs;
      gives = record { repo_is = ask.share_repo; end = ask.share_end; kind_is = ask.share_is ∙ sym (λ i. Share (t.number_is i) ask.share_end (t.owner_is i) (t.key_is i)) };
      told = ask.given.told;
      recorded = t.recorded;
      lasts = subst (λ s. clock run.repos (past_at run place) c (s + hold_time) ≤ t.hold.end) ask.asked_it.time_is t.lasts_it;
    }

-- what the item's repository offered
item_asked : SentAreRead → (run : Run) (key : List ℕ) (place : ℕ) (e : Entry) (x : Removal) (judge : Judge) (item : Evidence) → IsRun run → slice_get run.entries place ≡ Some e → removal_at run key place e ≡ Some x
    → judge_at run place e ≡ Some judge → Member item x.items → offer_from run.repos judge.past judge.repo judge.job item.repo ≡ Gives item.kind
item_asked reads_back run key place e x judge item h at is judge_is m =
    let d = dropped reads_back run key place e x judge h at is judge_is in
    Each-member (λ (i : Evidence). offer_from run.repos judge.past judge.repo judge.job i.repo ≡ Gives i.kind) x.items item
    (subst (Each (λ (i : Evidence). offer_from run.repos judge.past judge.repo judge.job i.repo ≡ Gives i.kind)) (sym d.items_are) (evidence_asked x.side run.repos judge.past judge.repo judge.job d.r x.need)) m

-- a locked item of a removal stands on a lock that was asked for, and on a hold that is there
pub item_held : SentAreRead → (run : Run) (key : List ℕ) (place : ℕ) (e : Entry) (x : Removal) (judge : Judge) (item : Evidence) (end : ℕ) → IsRun run → slice_get run.entries place ≡ Some e → removal_at run key place e ≡ Some x
    → judge_at run place e ≡ Some judge → Member item x.items → item.kind ≡ Locked end → IsHeld run key place judge item.repo end
item_held reads_back run key place e x judge item end h at is judge_is m kind = go (offer_locked ask stand said end gives)
  where
    d : Dropped run.repos (job_paths run) (past_at run place) key e x judge
    d = dropped reads_back run key place e x judge h at is judge_is

    ask : ℕ → ℕ
    ask = clock run.repos judge.past judge.repo

    stand : Standing
    stand = standing run.repos judge.past judge.repo judge.job item.repo

    said : Option Vouch
    said = reply judge.past judge.repo judge.job item.repo

    gives : offer_from run.repos judge.past judge.repo judge.job item.repo ≡ Gives (Locked end)
    gives = item_asked reads_back run key place e x judge item h at is judge_is m ∙ ap (λ k. Gives k) kind

    go : (hold since : ℕ) × ((owner : By) × ((k : List ℕ) × (said ≡ Some (Lock hold since owner k)))) → IsHeld run key place judge item.repo end
    go (hold, since, (owner, (k, told))) =
        let same : k ≡ key = d.told item.repo (Lock hold since owner k) told in
        let told' : reply judge.past judge.repo judge.job item.repo ≡ Some (Lock hold since owner key) = told ∙ ap (λ z. Some (Lock hold since owner z)) same in
        let v : Vouch = Lock hold since owner key in
        let end_is = offer_end (clock run.repos judge.past judge.repo) (standing run.repos judge.past judge.repo judge.job item.repo) (reply judge.past judge.repo judge.job item.repo) hold since end owner key gives told' in
        let recorded = (facts_at reads_back run place h).lasting item.repo judge.repo judge.job v (d.later item.repo v (reply_vouched judge.past judge.repo judge.job item.repo v told')) in
        elim recorded [
          | inl last ↦ held_by run key place judge item.repo end hold since owner d.messages d.one_clock told' end_is last
          | inr ended ↦ absurd (true≢false (sym ended ∙ d.open'))
        ]

-- ---- recent items

-- what a job was told of a look
seen_by : (repos : List RepoView) (judge : Judge) (c : ℕ) (key : List ℕ) → MessagePast repos judge.past → reply judge.past judge.repo judge.job c ≡ Some (Look key) → WasSeen judge c key
seen_by repos judge c key run h = by_vouch (vouches_by p x c judge.repo judge.job (Look key) given.vouched)
  where
    given : Told judge.past judge.repo judge.job c (Look key)
    given = told_it judge.past judge.repo judge.job c (Look key) h

    x : Entry
    x = (told_it judge.past judge.repo judge.job c (Look key) h).entry

    p : List Entry
    p = (told_it judge.past judge.repo judge.job c (Look key) h).before

    by_vouch : (is_of c x ≡ true) × VouchesBy p x c judge.repo judge.job (Look key) → WasSeen judge c key
    by_vouch (is, (kind, yes')) =
        let m = occurs_always (Meets repos) judge.past x p run given.occurs in
        let own = m.own c is in
        let found = own.look key kind in
        let y = found.1 in
        let t = asked_by repos p x c judge.repo judge.job y.f m is y.takes_it yes' in
        record {
          look = x;
          earlier = p;
          looked = given.occurs;
          repo_is = is;
          kind_is = kind;
          there = found.0.there;
          free = found.0.free;
          asking = t.0.it.entry;
          before = t.0.it.before;
          asked = t.0.sending.occurs;
          job_is = t.0.is_asked;
          asks = sends_up p c judge.repo judge.job y.f (Says (CheckPresent key)) y.from_client y.asked_is t.0;
          told = elim given.told [ inl same ↦ absurd (own.taken_from y.f y.takes_it (asker_is p c judge.repo judge.job y.f t.0 ∙ sym same)) | inr k ↦ k ];
        }

-- a recent item of a removal was seen, and its drop told of it
pub item_seen : SentAreRead → (run : Run) (key : List ℕ) (place : ℕ) (e : Entry) (x : Removal) (judge : Judge) (item : Evidence) → IsRun run → slice_get run.entries place ≡ Some e → removal_at run key place e ≡ Some x
    → judge_at run place e ≡ Some judge → Member item x.items → item.kind ≡ Recent → WasSeen judge item.repo key
item_seen reads_back run key place e x judge item h at is judge_is m kind =
    let d = dropped reads_back run key place e x judge h at is judge_is in
    let gives = item_asked reads_back run key place e x judge item h at is judge_is m ∙ ap (λ k. Gives k) kind in
    let o = offer_recent (clock run.repos judge.past judge.repo) (standing run.repos judge.past judge.repo judge.job item.repo) (reply judge.past judge.repo judge.job item.repo) gives in
    let same : o.0 ≡ key = d.told item.repo (Look o.0) o.1 in
    seen_by run.repos judge item.repo key d.messages (o.1 ∙ ap (λ k. Some (Look k)) same)
