-- What the drop of each removal of a run found as it judged its evidence: who judged, what was read and told, and that it hasn't ended.
use Rattle.std.proofs.Common.{◌≡◌, ℕ, ◌+◌, ◌<◌, true, false, List, length, Option, Some, None, inl, inr, refl, sym, ap, ◌∙◌, subst}
use Rattle.std.specs.Prelude.{◌≢◌, reverse, slice_get}
use Rattle.std.proofs.lemmas.Option.{same_Some}
use Rattle.annex_base.specs.Lists.{Member}
use Rattle.annex_base.proofs.Pasts.{past_before}
use Rattle.step_facts.proofs.Below.{SentAreRead}
use Rattle.drop_proof.specs.declared.rule.Need.{Need}
use Rattle.drop_proof.specs.declared.rule.Side.TheVariants.{Remote}
use Rattle.drop_proof.specs.Judging.{is_enough}
use Rattle.run_data.specs.declared.entry.By.TheVariants.{Peer}
use Rattle.run_data.specs.declared.entry.Entry.{Entry}
use Rattle.run_data.specs.declared.entry.EntryKind.TheVariants.{Gone, Order}
use Rattle.run_data.specs.declared.run.RepoView.{RepoView}
use Rattle.run_data.specs.declared.run.Run.{Run}
use Rattle.run_model.specs.Past.{Always, is_of}
use Rattle.run_model.specs.Frames.{SendingEntry, sender, sending_entry}
use Rattle.run_data.specs.Repos.{id_of}
use Rattle.run_model.specs.Logs.{need_read, read_at, settings_of}
use Rattle.wanted_expr.specs.Wanted.{required}
use Rattle.run_model.specs.Drops.{Vouch, is_done, evidence, key_of, reply, vouches}
use Rattle.run_model.specs.Safety.{Removal, local_removal, past_at, removal, remote_removal}
use Rattle.run_model.specs.Run.{IsRun, job_paths}
use Rattle.past_facts.specs.Lawful.{IsLawfulEntry, IsLawfulPast}
use Rattle.past_facts.proofs.Own.{Meets, MessagePast, OneClock}
use Rattle.race_core.specs.Places.{removal_at}
use Rattle.race_core.specs.Readings.{Judge, judge_at, judge_by}
use Rattle.past_facts.proofs.Changes.{Obeys, Removes, order_is, removal_was, repo_of}
use Rattle.past_facts.proofs.Gather.{MatchSide}
use Rattle.step_facts.proofs.Flights.{always_before, occurs_always, occurs_vouches}
use Rattle.past_facts.proofs.Facts.{Facts, local_drop}
use Rattle.past_facts.proofs.Latest
use Rattle.past_facts.proofs.Latest.{facts_of}
use Rattle.past_facts.proofs.Known.{evidence_known}
use Rattle.past_facts.proofs.Evident.{told_of}
use Rattle.past_facts.proofs.ReadOnce.{StatesRead, bar_is_spared, need_is_read}
use Rattle.past_facts.proofs.Told.{own_at, sender_at}
use Rattle.past_facts.proofs.Obeying.{Takes, ordered_by, ordered_open}
use Rattle.run_laws.proofs.FromStep.{runs_are_lawful, runs_are_messages, stated_past}
use Rattle.past_facts.proofs.EntryPlaces.{past_next}

-- ---- runs at a place

pub messages_at : SentAreRead → (run : Run) (place : ℕ) → IsRun run → MessagePast run.repos (past_at run place)
messages_at reads_back run place h = past_before (MessagePast run.repos) (λ e past k. k.1) place run.entries (runs_are_messages reads_back run h).steps

pub stated_at : SentAreRead → (run : Run) (place : ℕ) → IsRun run → Always (StatesRead run.repos (job_paths run)) (past_at run place)
stated_at reads_back run place h = past_before (λ past. Always (StatesRead run.repos (job_paths run)) past) (λ e past k. k.1) place run.entries (stated_past reads_back run h.repos (reverse run.entries) h.steps)

pub meets_at : SentAreRead → (run : Run) (place : ℕ) (e : Entry) → IsRun run → slice_get run.entries place ≡ Some e → Meets run.repos (past_at run place) e
meets_at reads_back run place e h at =
    let k : Meets run.repos (past_at run place) e × MessagePast run.repos (past_at run place) = subst (λ past. MessagePast run.repos past) (past_next run place e at) (messages_at reads_back run (place + 1) h) in k.0

lawful_past : SentAreRead → (run : Run) (place : ℕ) → IsRun run → IsLawfulPast run.repos (past_at run place)
lawful_past reads_back run place h = Latest.lawful_at run.repos place run.entries (runs_are_lawful reads_back run h).steps

pub lawful_at : SentAreRead → (run : Run) (place : ℕ) (e : Entry) → IsRun run → slice_get run.entries place ≡ Some e → IsLawfulEntry run.repos (past_at run place) e
lawful_at reads_back run place e h at =
    let k : IsLawfulEntry run.repos (past_at run place) e × IsLawfulPast run.repos (past_at run place) = subst (λ past. IsLawfulPast run.repos past) (past_next run place e at) (lawful_past reads_back run (place + 1) h) in k.0

pub facts_at : SentAreRead → (run : Run) (place : ℕ) → IsRun run → Facts run.repos (past_at run place)
facts_at reads_back run place h = facts_of run.repos (past_at run place) (lawful_past reads_back run place h)

-- ---- the drop of a removal

pub record Dropped (repos : List RepoView) (paths : ℕ → ℕ → List (List ℕ)) (past : List Entry) (key : List ℕ) (e : Entry) (x : Removal) (judge : Judge) : Type 0 where
  pub r : ℕ
  pub repo_is : is_of r e ≡ true
  pub other : MatchSide x.side (judge.repo ≡ r) (judge.repo ≢ r)
  pub in_range : judge.repo < length repos
  pub items_are : x.items ≡ evidence x.side repos judge.past judge.repo judge.job r x.need
  pub enough : is_enough x.side x.need x.items ≡ true
  pub need_is : x.need ≡ need_read (paths judge.repo judge.job) judge.past judge.repo judge.job
  pub spared : required (settings_of (read_at judge.past judge.repo judge.job) judge.repo) (id_of repos r) key (paths judge.repo judge.job) ≡ None
  pub messages : MessagePast repos judge.past
  pub told : (c : ℕ) (v : Vouch) → reply judge.past judge.repo judge.job c ≡ Some v → key_of v ≡ key
  pub later : (c : ℕ) (v : Vouch) → Member v (vouches judge.past c judge.repo judge.job) → Member v (vouches past c judge.repo judge.job)
  pub one_clock : OneClock repos judge.repo judge.past judge.job
  pub open' : is_done past judge.repo judge.job ≡ false

-- who judged, where the content goes by an order
pub order_judge : (past : List Entry) (e : Entry) (r a slot j target : ℕ) (deadline : Option ℕ) (need : Need) (key k : List ℕ) (s : SendingEntry) → is_of r e ≡ true → e.kind ≡ Gone (Peer a slot) key
    → sender past r e.taken ≡ Some s → s.entry.kind ≡ Order j target deadline need k → judge_by past e.repo e.taken e.kind ≡ Some (record { repo = a; job = j; past = s.before })
order_judge past e r a slot j target deadline need key k s is kind from order = rw (repo_of e r is, kind, from, order) refl

module _ (reads_back : SentAreRead) (run : Run) (place : ℕ) (e : Entry) (h : IsRun run) (at : slice_get run.entries place ≡ Some e) (key : List ℕ) where
  messages : MessagePast run.repos (past_at run place)
  messages = messages_at reads_back run place h

  stated : Always (StatesRead run.repos (job_paths run)) (past_at run place)
  stated = stated_at reads_back run place h

  by_own : (x : Removal) → (t : Removes run.repos e (past_at run place) key x) → (judge : Judge) × (judge_at run place e ≡ Some judge) × Dropped run.repos (job_paths run) (past_at run place) key e x judge
  by_own x t =
      let own = (meets_at reads_back run place e h at).own t.r t.repo_is in
      let m = own.removes t.j key t.kind_is in
      let w = local_drop run.repos (past_at run place) e (lawful_at reads_back run place e h at) t.r t.j key t.d t.repo_is t.kind_is t.decided_is in
      let judge : Judge = record { repo = t.r; job = t.j; past = past_at run place } in
      let there : Dropped run.repos (job_paths run) (past_at run place) key e (local_removal run.repos (past_at run place) t.r t.j t.d) judge = record {
        r = t.r;
        repo_is = t.repo_is;
        other = refl;
        in_range = own.known;
        items_are = refl;
        enough = w.enough;
        need_is = need_is_read run.repos (job_paths run) (past_at run place) t.r t.j t.d messages stated t.decided_is;
        spared = ap (λ k. required (settings_of (read_at (past_at run place) t.r t.j) t.r) (id_of run.repos t.r) k (job_paths run t.r t.j)) (sym t.key_is)
            ∙ bar_is_spared run.repos (job_paths run) (past_at run place) t.r t.j t.d messages stated t.decided_is;
        messages = messages;
        told = w.in_time.keys;
        later = λ c v k. k;
        one_clock = m.one_clock;
        open' = w.open';
      } in
      (judge, rw (repo_of e t.r t.repo_is, t.kind_is) refl, subst (λ (y : Removal). Dropped run.repos (job_paths run) (past_at run place) key e y judge) (sym t.is) there)

  by_order : (x : Removal) → removal run.repos (past_at run place) key e ≡ Some x → (t : Obeys run.repos e (past_at run place) key x)
      → (judge : Judge) × (judge_at run place e ≡ Some judge) × Dropped run.repos (job_paths run) (past_at run place) key e x judge
  by_order x is t =
      let m = meets_at reads_back run place e h at in
      let own = m.own t.r t.repo_is in
      let ob = own.obeys t.a t.slot key t.kind_is in
      let k : Takes run.repos (past_at run place) e t.r t.a key =
      record { run = messages; now' = m; is = t.repo_is; f = ob.f; takes_it = ob.takes_it; from_client = ob.from_client; peer_is = ob.peer_is; deadline = ob.deadline; asked_is = ob.asked_is; soon = ob.soon; same_clock = ob.same_clock } in
      let mt = m.frames t.r ob.f t.repo_is ob.takes_it in
      let o = ordered_by run.repos (past_at run place) e t.r t.a key k mt in
      let it = mt.it in
      let before = always_before (Meets run.repos) (past_at run place) it.entry it.before messages o.occurs in
      let from = sender_at (past_at run place) t.r e.taken ob.f it ob.takes_it mt.next in
      let judge : Judge = record { repo = t.a; job = o.j; past = it.before } in
      let enough : is_enough Remote o.need (evidence Remote run.repos it.before t.a o.j t.r o.need) ≡ true = ap (is_enough Remote o.need) (evidence_known Remote run.repos it.before t.a o.j t.r o.need before) ∙ o.found.enough in
      let y : Removal = remote_removal run.repos (past_at run place) t.r t.a o.j o.need (sending_entry it) in
      let y_is : removal run.repos (past_at run place) key e ≡ Some y = order_is run.repos e (past_at run place) t.r t.a t.slot o.j ob.deadline o.need key (sending_entry it) t.repo_is t.kind_is from o.repo_is o.kind_is in
      let states = (occurs_always (StatesRead run.repos (job_paths run)) (past_at run place) it.entry it.before stated o.occurs).orders t.a o.j t.r ob.deadline o.need key o.repo_is o.kind_is in
      let there : Dropped run.repos (job_paths run) (past_at run place) key e y judge = record {
        r = t.r;
        repo_is = t.repo_is;
        other = λ same. own.taken_from ob.f ob.takes_it (ob.peer_is ∙ same);
        in_range = (own_at run.repos (past_at run place) it.entry it.before t.a messages o.occurs o.repo_is).known;
        items_are = refl;
        enough = enough;
        need_is = states.0;
        spared = states.1;
        messages = before;
        told = told_of run.repos it.before t.a o.j key before o.found.heard_of;
        later = λ c v n. occurs_vouches (past_at run place) it.entry it.before c t.a o.j v o.occurs n;
        one_clock = o.found.one_clock;
        open' = ordered_open run.repos (past_at run place) e t.r t.a key k mt o;
      } in
      (judge, order_judge (past_at run place) e t.r t.a t.slot o.j t.r ob.deadline o.need key key (sending_entry it) t.repo_is t.kind_is from o.kind_is, subst (λ (z : Removal). Dropped run.repos (job_paths run) (past_at run place) key e z judge) (same_Some y x (sym y_is ∙ is)) there)

  found : (x : Removal) → removal_at run key place e ≡ Some x → (judge : Judge) × (judge_at run place e ≡ Some judge) × Dropped run.repos (job_paths run) (past_at run place) key e x judge
  found x is = elim (removal_was run.repos e (past_at run place) key x is) [ inl t ↦ by_own x t | inr t ↦ by_order x is t ]

-- what the drop of a removal found
pub dropped : SentAreRead → (run : Run) (key : List ℕ) (place : ℕ) (e : Entry) (x : Removal) (judge : Judge) → IsRun run → slice_get run.entries place ≡ Some e → removal_at run key place e ≡ Some x → judge_at run place e ≡ Some judge
    → Dropped run.repos (job_paths run) (past_at run place) key e x judge
dropped reads_back run key place e x judge h at is judge_is =
    let f = found reads_back run place e h at key x is in
    subst (λ (y : Judge). Dropped run.repos (job_paths run) (past_at run place) key e x y) (same_Some f.0 judge (sym f.1 ∙ judge_is)) f.2

-- and it has a judge
pub judged_by : SentAreRead → (run : Run) (key : List ℕ) (place : ℕ) (e : Entry) (x : Removal) → IsRun run → slice_get run.entries place ≡ Some e → removal_at run key place e ≡ Some x
    → (judge : Judge) × (judge_at run place e ≡ Some judge) × Dropped run.repos (job_paths run) (past_at run place) key e x judge
judged_by reads_back run key place e x h at is = found reads_back run place e h at key x is
