-- What an entry changes: the value after it is the value before, or the entry is of a stated kind.
use Rattle.node_model.specs.Clocks.{hold_time, ClockSet}
use Rattle.std.proofs.Common.{◌≡◌, ◌≢◌, ℕ, ◌+◌, ◌<◌, ◌≤◌, Bool, true, false, not, ◌&&◌, ◌||◌, List, [], ◌∷◌, length, Option, Some, None, ◌⊎◌, inl, inr, refl, sym, ap, ◌∙◌, subst, arith}
use Rattle.std.specs.Prelude.{bytes_eq, if◌then◌else◌, ◌==◌, nat_lt, nat_le, filter, map}
use Rattle.std.specs.List.{list_any}
use Rattle.std.specs.Cmp.Lexicographic.{bytes_decides}
use Rattle.std.proofs.lemmas.Bool.{true≢false, or_left, or_right, and_parts, eqb-true, or_cases, and_from, cases_Bool}
use Rattle.std.proofs.lemmas.Bool.Decides.{nat_tests}
use Rattle.std.proofs.lemmas.Option.{same_Some}
use Rattle.annex_base.specs.declared.kinds.Call.TheVariants.{Unhold}
use Rattle.annex_base.specs.declared.kinds.Found.{Found}
use Rattle.annex_base.specs.declared.kinds.Found.TheVariants.{Present}
use Rattle.run_data.specs.declared.entry.Entry.{Entry}
use Rattle.run_data.specs.declared.run.RepoView.{RepoView}
use Rattle.run_data.specs.declared.entry.FrameView.{FrameView}
use Rattle.drop_proof.specs.declared.rule.Need.{Need}
use Rattle.run_data.specs.declared.job.Outcome.{Outcome}
use Rattle.run_data.specs.declared.entry.By.{By}
use Rattle.run_data.specs.declared.entry.By.TheVariants.{Script, Job as by_job, Peer}
use Rattle.run_data.specs.declared.entry.EntryKind.{EntryKind}
use Rattle.run_data.specs.declared.entry.EntryKind.TheVariants.{Share, Release, Check, Bar, Order, Gone, Close, Crash, Fault, End}
use Rattle.run_data.specs.declared.row.Hold.{Hold}
use Rattle.run_model.specs.Past.{present, bar, is_of, decision, decided_after, Decision, holds, clock_set, now, set_after}
use Rattle.node_model.specs.Rows.{present_after, bar_after, option_is, holds_after, keep_of, same_owner, is_lost_ordered, blocks, is_blocked, restart}
use Rattle.run_model.specs.Frames.{SendingEntry, sender, is_job}
use Rattle.run_model.specs.Drops.{Vouch, Lock, Look, look_of, vouch_kind, vouch, vouches, newer, Asker, asker, is_asker, asked_at, tells, vouches_sent, reply}
use Rattle.run_model.specs.Safety.{Removal, removal, removal_by, barred_removal, local_removal, remote_removal, ordered_removal, sent_order, add_removal}
use Rattle.annex_base.specs.Lists.{Member}
use Rattle.annex_base.proofs.Conditions.{eqb_refl, if_is, bytes_eq-refl}
use Rattle.annex_base.proofs.Lists.{list_any_weaker, Member-append_cases, Member-append_left, Member-append_right}
use Rattle.step_facts.proofs.Flights.{occurs_vouch, occurs_vouches, sender_occurs}
use Rattle.past_facts.proofs.Lists.{any_map, any_was_map, any_filter, any_was_filter}
use Rattle.step_facts.proofs.Plain.{one_in, option_at, option_same}

-- the entry takes the key away from r
pub record TakesAway (e : Entry) (r : ℕ) (key : List ℕ) : Type 0 where
  pub repo_is : is_of r e ≡ true
  pub by : By
  pub kind_is : e.kind ≡ Gone by key

taken : (key : List ℕ) (source : By) (k : List ℕ) (same : Bool) → bytes_eq k key ≡ same → ((true && not same) ≡ true) ⊎ ((by : By) × (Gone source k ≡ Gone by key))
taken key source k true e = inr (source, ap (λ x. Gone source x) ((bytes_decides k key).0 e))
taken key source k false e = inl refl

present-kind : (key : List ℕ) (was : Bool) (kind : EntryKind) → was ≡ true → (present_after key was kind ≡ true) ⊎ ((by : By) × (kind ≡ Gone by key))
present-kind key false kind h = cc
present-kind key true (Gone source k) h = taken key source k (bytes_eq k key) refl
present-kind key true _ h = inl refl

present-if : (key : List ℕ) (b was : Bool) (kind : EntryKind) → was ≡ true → ((if b then present_after key was kind else was) ≡ true) ⊎ ((b ≡ true) × ((by : By) × (kind ≡ Gone by key)))
present-if key false was kind h = inl h
present-if key true was kind h = elim (present-kind key was kind h) [ inl s ↦ inl s | inr t ↦ inr (refl, t) ]

pub present_stays : (e : Entry) (past : List Entry) (r : ℕ) (key : List ℕ) → present past r key ≡ true → (present (e ∷ past) r key ≡ true) ⊎ TakesAway e r key
present_stays e past r key h = elim (present-if key (is_of r e) (present past r key) e.kind h) [ inl s ↦ inl s | inr t ↦ inr (record { repo_is = t.0; by = t.1.0; kind_is = t.1.1 }) ]

-- the entry puts job j's bar on the key at r
pub record PutsBar (e : Entry) (r : ℕ) (key : List ℕ) (j : ℕ) : Type 0 where
  pub repo_is : is_of r e ≡ true
  pub need : Need
  pub kind_is : e.kind ≡ Bar j need key

bar-kind : (key : List ℕ) (was : Option ℕ) (kind : EntryKind) (j : ℕ) → bar_after key was kind ≡ Some j → (was ≡ Some j) ⊎ ((need : Need) × (kind ≡ Bar j need key))
bar-kind key was (Bar job need k) j h =
    elim (if_is (bytes_eq k key) (Some job) was (Some j) h) [
      | inl t ↦ let same : k ≡ key = (bytes_decides k key).0 t.0 in let it : job ≡ j = cc in inr (need, cc)
      | inr t ↦ inl t.1
    ]
bar-kind key was (Gone source k) j h = elim (if_is (bytes_eq k key) None was (Some j) h) [ inl t ↦ cc | inr t ↦ inl t.1 ]
bar-kind key was (End job outcome) j h = elim (if_is (option_is was job) None was (Some j) h) [ inl t ↦ cc | inr t ↦ inl t.1 ]
bar-kind key was (Crash clock) j h = cc
bar-kind key was _ j h = inl h

pub bar_was : (e : Entry) (past : List Entry) (r : ℕ) (key : List ℕ) (j : ℕ) → bar (e ∷ past) r key ≡ Some j → (bar past r key ≡ Some j) ⊎ PutsBar e r key j
bar_was e past r key j h = elim (if_is (is_of r e) (bar_after key (bar past r key) e.kind) (bar past r key) (Some j) h) [
  | inl t ↦ elim (bar-kind key (bar past r key) e.kind j t.1) [ inl s ↦ inl s | inr s ↦ inr (record { repo_is = t.0; need = s.0; kind_is = s.1 }) ]
  | inr t ↦ inl t.1
]

-- the entry is the bar of job j of a
pub record Decides (e : Entry) (past : List Entry) (a j : ℕ) (d : Decision) : Type 0 where
  pub repo_is : is_of a e ≡ true
  pub kind_is : e.kind ≡ Bar j d.need d.key
  pub place_is : d.place ≡ length past

decided-kind : (place j : ℕ) (was : Option Decision) (kind : EntryKind) (d : Decision) → decided_after place j was kind ≡ Some d → (was ≡ Some d) ⊎ ((kind ≡ Bar j d.need d.key) × (d.place ≡ place))
decided-kind place j was (Bar job need k) d h =
    elim (if_is (job == j) (Some (record { place = place; key = k; need = need })) was (Some d) h) [
      | inl t ↦ let it : job ≡ j = eqb-true job j t.0 in
          let d_is : record { place = place; key = k; need = need } ≡ d = cc in
          inr (rw it (ap (λ x. Bar j x.need x.key) d_is), sym (ap (λ x. x.place) d_is))
      | inr t ↦ inl t.1
    ]
decided-kind place j was _ d h = inl h

pub decided_was : (e : Entry) (past : List Entry) (a j : ℕ) (d : Decision) → decision (e ∷ past) a j ≡ Some d → (decision past a j ≡ Some d) ⊎ Decides e past a j d
decided_was e past a j d h = elim (if_is (is_of a e) (decided_after (length past) j (decision past a j) e.kind) (decision past a j) (Some d) h) [
  | inl t ↦ elim (decided-kind (length past) j (decision past a j) e.kind d t.1) [ inl s ↦ inl s | inr s ↦ inr (record { repo_is = t.0; kind_is = s.0; place_is = s.1 }) ]
  | inr t ↦ inl t.1
]

-- the entry is a crash of r
pub record Crashes (e : Entry) (r : ℕ) : Type 0 where
  pub repo_is : is_of r e ≡ true
  pub clock : ℕ
  pub kind_is : e.kind ≡ Crash clock

-- only a crash sets a clock
pub crash_or : (repos : List RepoView) (e : Entry) (past : List Entry) (r : ℕ) → Crashes e r ⊎ ((Crashes e r → ⊥) × (clock_set repos (e ∷ past) r ≡ clock_set repos past r))
crash_or repos e past r = go (is_of r e) refl e.kind refl
  where
    go : (b : Bool) → is_of r e ≡ b → (kind : EntryKind) → e.kind ≡ kind
        → Crashes e r ⊎ ((Crashes e r → ⊥) × ((if b then set_after e.time (clock_set repos past r) e.kind else clock_set repos past r) ≡ clock_set repos past r))
    go false is kind at = inr ((λ t. true≢false (sym t.repo_is ∙ is)), refl)
    go true is (Crash clock) at = inl (record { repo_is = is; clock = clock; kind_is = at })
    go true is kind at = inr ((λ t. let both : kind ≡ Crash t.clock = sym at ∙ t.kind_is in cc), rw at refl)

pub crash_sets : (repos : List RepoView) (e : Entry) (past : List Entry) (r : ℕ) → (t : Crashes e r) → clock_set repos (e ∷ past) r ≡ record { at = e.time; to = t.clock }
crash_sets repos e past r t = rw (t.repo_is, t.kind_is) refl

-- a clock was set no later than the newest entry
pub set_by_now : (repos : List RepoView) (e : Entry) (past : List Entry) (r : ℕ) → (clock_set repos past r).at ≤ now past → now past ≤ e.time → (clock_set repos (e ∷ past) r).at ≤ e.time
set_by_now repos e past r old le = elim (crash_or repos e past r) [
  | inl t ↦ (let at : (clock_set repos (e ∷ past) r).at ≡ e.time = ap (λ (c : ClockSet). c.at) (crash_sets repos e past r t) in omega (arith, at))
  | inr t ↦ (let at : (clock_set repos (e ∷ past) r).at ≡ (clock_set repos past r).at = ap (λ (c : ClockSet). c.at) t.1 in omega (arith, at, old, le))
]

-- the entry is a share of the key at r
pub record Shares (e : Entry) (r : ℕ) (key : List ℕ) : Type 0 where
  pub repo_is : is_of r e ≡ true
  pub hold : ℕ
  pub end : ℕ
  pub owner : By
  pub kind_is : e.kind ≡ Share hold end owner key

not_kept : (key : List ℕ) (clock : ℕ) (x : Hold) → blocks key clock (record x { kept = true }) ≡ true → blocks key clock x ≡ true
not_kept key clock x k = let w = and_parts (bytes_eq x.key key) (nat_lt clock x.end) k in and_from (bytes_eq x.key key) (not x.kept || nat_lt clock x.end) w.0 (or_right (not x.kept) (nat_lt clock x.end) w.1)

blocks-keep_of : (key : List ℕ) (clock : ℕ) (owner : By) (x : Hold) → blocks key clock (keep_of owner x) ≡ true → blocks key clock x ≡ true
blocks-keep_of key clock owner x k = go (same_owner x.owner owner) k
  where
    go : (b : Bool) → blocks key clock (if b then record x { kept = true } else x) ≡ true → blocks key clock x ≡ true
    go true k = not_kept key clock x k
    go false k = k

blocked-kind : (was : List Hold) (key : List ℕ) (clock : ℕ) (kind : EntryKind) → is_blocked (holds_after was kind) key clock ≡ true
    → (is_blocked was key clock ≡ true) ⊎ (((hold : ℕ) × ((end : ℕ) × ((owner : By) × (kind ≡ Share hold end owner key)))) ⊎ ((to : ℕ) × (kind ≡ Crash to)))
blocked-kind was key clock (Share hold end owner k) h = elim (or_cases (bytes_eq k key && (not false || nat_lt clock end)) (is_blocked was key clock) h) [
  | inl s ↦ let same : k ≡ key = (bytes_decides k key).0 (and_parts (bytes_eq k key) true s).0 in inr (inl (hold, (end, (owner, ap (λ x. Share hold end owner x) same))))
  | inr s ↦ inl s
]
blocked-kind was key clock (Release number k) h = inl (any_was_filter (blocks key clock) (λ x. not (x.number == number)) was h)
blocked-kind was key clock (Close peer slot true) h = inl h
blocked-kind was key clock (Close peer slot false) h = inl (any_was_map (blocks key clock) (keep_of (Peer peer slot)) (blocks-keep_of key clock (Peer peer slot)) was h)
blocked-kind was key clock (Fault Unhold owner) h = inl (any_was_map (blocks key clock) (keep_of owner) (blocks-keep_of key clock owner) was h)
blocked-kind was key clock (End job outcome) h = go (is_lost_ordered outcome) h
  where
    go : (b : Bool) → is_blocked (if b then map (keep_of (by_job job)) was else filter (λ x. x.kept || not (same_owner x.owner (by_job job))) was) key clock ≡ true
        → (is_blocked was key clock ≡ true) ⊎ (((hold : ℕ) × ((end : ℕ) × ((owner : By) × (End job outcome ≡ Share hold end owner key)))) ⊎ ((to : ℕ) × (End job outcome ≡ Crash to)))
    go true k = inl (any_was_map (blocks key clock) (keep_of (by_job job)) (blocks-keep_of key clock (by_job job)) was k)
    go false k = inl (any_was_filter (blocks key clock) (λ x. x.kept || not (same_owner x.owner (by_job job))) was k)
blocked-kind was key clock (Crash to) h = inr (inr (to, refl))
blocked-kind was key clock _ h = inl h

pub blocked_was : (e : Entry) (past : List Entry) (r : ℕ) (key : List ℕ) (clock : ℕ) → is_blocked (holds (e ∷ past) r) key clock ≡ true → (is_blocked (holds past r) key clock ≡ true) ⊎ (Shares e r key ⊎ Crashes e r)
blocked_was e past r key clock h = go (is_of r e) refl h
  where
    go : (b : Bool) → is_of r e ≡ b → is_blocked (if b then holds_after (holds past r) e.kind else holds past r) key clock ≡ true → (is_blocked (holds past r) key clock ≡ true) ⊎ (Shares e r key ⊎ Crashes e r)
    go true is k = elim (blocked-kind (holds past r) key clock e.kind k) [
      | inl s ↦ inl s
      | inr (inl s) ↦ inr (inl (record { repo_is = is; hold = s.0; end = s.1.0; owner = s.1.1.0; kind_is = s.1.1.1 }))
      | inr (inr s) ↦ inr (inr (record { repo_is = is; clock = s.0; kind_is = s.1 }))
    ]
    go false is k = inl k

-- later, no more blocks
blocks_earlier : (key : List ℕ) (c d : ℕ) → c ≤ d → (x : Hold) → blocks key d x ≡ true → blocks key c x ≡ true
blocks_earlier key c d le x k =
    let w = and_parts (bytes_eq x.key key) (not x.kept || nat_lt d x.end) k in
    and_from (bytes_eq x.key key) (not x.kept || nat_lt c x.end) w.0
    (elim (or_cases (not x.kept) (nat_lt d x.end) w.1) [ inl s ↦ or_left (not x.kept) (nat_lt c x.end) s | inr s ↦ or_right (not x.kept) (nat_lt c x.end) (less s) ])
  where
    less : nat_lt d x.end ≡ true → nat_lt c x.end ≡ true
    less s = grind (arith, nat_tests)

pub unblocked_later : (hs : List Hold) (key : List ℕ) (c d : ℕ) → c ≤ d → is_blocked hs key c ≡ false → is_blocked hs key d ≡ false
unblocked_later hs key c d le h = elim (cases_Bool (is_blocked hs key d)) [
  | inl s ↦ absurd (true≢false (sym (list_any_weaker (blocks key d) (blocks key c) (blocks_earlier key c d le) hs s) ∙ h))
  | inr s ↦ s
]

-- the hold that was vouched is recorded, and ends no earlier than this
abbrev pub lasts_one : ℕ → ℕ → By → List ℕ → Hold → Bool
lasts_one number until owner key h = (h.number == number) && (same_owner h.owner owner && (bytes_eq h.key key && nat_le until h.end))

abbrev pub lasts : List Hold → ℕ → ℕ → By → List ℕ → Bool
lasts hs number until owner key = list_any (lasts_one number until owner key) hs

-- the entry releases this hold
pub record Releases (e : Entry) (r number : ℕ) : Type 0 where
  pub repo_is : is_of r e ≡ true
  pub key : List ℕ
  pub kind_is : e.kind ≡ Release number key

-- the entry is the end of the job that has this hold
pub record EndsOwner (e : Entry) (r : ℕ) (owner : By) : Type 0 where
  pub repo_is : is_of r e ≡ true
  pub job : ℕ
  pub outcome : Outcome
  pub kind_is : e.kind ≡ End job outcome
  pub owner_is : owner ≡ by_job job
  pub kept_not : is_lost_ordered outcome ≡ false

lasts-keep_of : (number until : ℕ) (owner by : By) (key : List ℕ) (x : Hold) → lasts_one number until owner key x ≡ true → lasts_one number until owner key (keep_of by x) ≡ true
lasts-keep_of number until owner by key x k = go (same_owner x.owner by)
  where
    go : (b : Bool) → lasts_one number until owner key (if b then record x { kept = true } else x) ≡ true
    go true = k
    go false = k

lasts-other : (number until m : ℕ) (owner : By) (key : List ℕ) → (m == number) ≡ false → (x : Hold) → lasts_one number until owner key x ≡ true → not (x.number == m) ≡ true
lasts-other number until m owner key e x k = go (x.number == m) refl
  where
    go : (b : Bool) → (x.number == m) ≡ b → not b ≡ true
    go false f = refl
    go true f = let same : x.number ≡ m = eqb-true x.number m f in let it : m ≡ number = cc in let not_so : (number == number) ≡ false = rw it at e in absurd (true≢false (sym (eqb_refl number) ∙ not_so))

pub same_owner_true : (a b : By) → same_owner a b ≡ true → a ≡ b
same_owner_true Script Script e = refl
same_owner_true (by_job i) (by_job j) e = ap (λ x. by_job x) (eqb-true i j e)
same_owner_true (Peer p s) (Peer q t) e = let w = and_parts (p == q) (s == t) e in let one : p ≡ q = eqb-true p q w.0 in let two : s ≡ t = eqb-true s t w.1 in cc
same_owner_true Script (by_job j) e = cc
same_owner_true Script (Peer q t) e = cc
same_owner_true (by_job i) Script e = cc
same_owner_true (by_job i) (Peer q t) e = cc
same_owner_true (Peer p s) Script e = cc
same_owner_true (Peer p s) (by_job j) e = cc

pub same_owner_refl : (a : By) → same_owner a a ≡ true
same_owner_refl Script = refl
same_owner_refl (by_job i) = eqb_refl i
same_owner_refl (Peer p s) = and_from (p == p) (s == s) (eqb_refl p) (eqb_refl s)

lasts-job : (number until : ℕ) (owner : By) (key : List ℕ) (job : ℕ) → same_owner owner (by_job job) ≡ false → (x : Hold) → lasts_one number until owner key x ≡ true → (x.kept || not (same_owner x.owner (by_job job))) ≡ true
lasts-job number until owner key job e x k =
    let is : x.owner ≡ owner = same_owner_true x.owner owner (and_parts (same_owner x.owner owner) _ (and_parts (x.number == number) _ k).1).0 in
    rw (is, e) (or_right x.kept true refl)

lasts-kind : (was : List Hold) (number until : ℕ) (owner : By) (key : List ℕ) (kind : EntryKind) → lasts was number until owner key ≡ true
    → ((to : ℕ) → kind ≢ Crash to) → (lasts (holds_after was kind) number until owner key ≡ true) ⊎ (((k : List ℕ) × (kind ≡ Release number k)) ⊎ ((job : ℕ) × ((outcome : Outcome) × ((kind ≡ End job outcome) × (owner ≡ by_job job) × (is_lost_ordered outcome ≡ false)))))
lasts-kind was number until owner key (Share hold end by k) h stands = inl (or_right _ (lasts was number until owner key) h)
lasts-kind was number until owner key (Release m k) h stands = go (m == number) refl
  where
    go : (b : Bool) → (m == number) ≡ b → (lasts (filter (λ x. not (x.number == m)) was) number until owner key ≡ true)
        ⊎ (((k' : List ℕ) × (Release m k ≡ Release number k')) ⊎ ((job : ℕ) × ((outcome : Outcome) × ((Release m k ≡ End job outcome) × (owner ≡ by_job job) × (is_lost_ordered outcome ≡ false)))))
    go true e = inr (inl (k, ap (λ x. Release x k) (eqb-true m number e)))
    go false e = inl (any_filter (lasts_one number until owner key) (λ x. not (x.number == m)) (lasts-other number until m owner key e) was h)
lasts-kind was number until owner key (Close peer slot true) h stands = inl h
lasts-kind was number until owner key (Close peer slot false) h stands = inl (any_map (lasts_one number until owner key) (keep_of (Peer peer slot)) (lasts-keep_of number until owner (Peer peer slot) key) was h)
lasts-kind was number until owner key (Fault Unhold by) h stands = inl (any_map (lasts_one number until owner key) (keep_of by) (lasts-keep_of number until owner by key) was h)
lasts-kind was number until owner key (End job outcome) h stands = go (is_lost_ordered outcome) refl (same_owner owner (by_job job)) refl
  where
    go : (b : Bool) → is_lost_ordered outcome ≡ b → (o : Bool) → same_owner owner (by_job job) ≡ o
        → (lasts (if b then map (keep_of (by_job job)) was else filter (λ x. x.kept || not (same_owner x.owner (by_job job))) was) number until owner key ≡ true)
        ⊎ (((k' : List ℕ) × (End job outcome ≡ Release number k')) ⊎ ((job' : ℕ) × ((outcome' : Outcome) × ((End job outcome ≡ End job' outcome') × (owner ≡ by_job job') × (is_lost_ordered outcome' ≡ false)))))
    go true e o f = inl (any_map (lasts_one number until owner key) (keep_of (by_job job)) (lasts-keep_of number until owner (by_job job) key) was h)
    go false e true f = inr (inr (job, (outcome, (refl, same_owner_true owner (by_job job) f, e))))
    go false e false f = inl (any_filter (lasts_one number until owner key) (λ x. x.kept || not (same_owner x.owner (by_job job))) (lasts-job number until owner key job f) was h)
lasts-kind was number until owner key (Crash to) h stands = absurd (stands to refl)
lasts-kind was number until owner key _ h stands = inl h

pub lasts_stays : (e : Entry) (past : List Entry) (r number until : ℕ) (owner : By) (key : List ℕ) → lasts (holds past r) number until owner key ≡ true → (Crashes e r → ⊥)
    → (lasts (holds (e ∷ past) r) number until owner key ≡ true) ⊎ (Releases e r number ⊎ EndsOwner e r owner)
lasts_stays e past r number until owner key h stands = go (is_of r e) refl
  where
    go : (b : Bool) → is_of r e ≡ b → (lasts (if b then holds_after (holds past r) e.kind else holds past r) number until owner key ≡ true) ⊎ (Releases e r number ⊎ EndsOwner e r owner)
    go true is = elim (lasts-kind (holds past r) number until owner key e.kind h (λ to at. stands (record { repo_is = is; clock = to; kind_is = at }))) [
      | inl s ↦ inl s
      | inr s ↦ elim s [
        | inl t ↦ inr (inl (record { repo_is = is; key = t.0; kind_is = t.1 }))
        | inr t ↦ inr (inr (record { repo_is = is; job = t.0; outcome = t.1.0; kind_is = t.1.1.0; owner_is = t.1.1.1; kept_not = t.1.1.2 }))
      ]
    ]
    go false is = inl h

-- a crash begins the ten minutes of a hold anew
pub lasts_crash : (e : Entry) (past : List Entry) (r number was until : ℕ) (owner : By) (key : List ℕ) → (t : Crashes e r) → until ≤ t.clock + hold_time → lasts (holds past r) number was owner key ≡ true → lasts (holds (e ∷ past) r) number until owner key ≡ true
lasts_crash e past r number was until owner key t le h = rw (t.repo_is, t.kind_is) (go (holds past r) h)
  where
    late : nat_le until (t.clock + hold_time) ≡ true
    late = grind (arith, nat_tests)

    one : (x : Hold) → lasts_one number was owner key x ≡ true → lasts_one number until owner key (restart t.clock x) ≡ true
    one x k =
        let a = and_parts (x.number == number) _ k in
        let b = and_parts (same_owner x.owner owner) _ a.1 in
        let c = and_parts (bytes_eq x.key key) _ b.1 in
        and_from (x.number == number) _ a.0 (and_from (same_owner x.owner owner) _ b.0 (and_from (bytes_eq x.key key) (nat_le until (t.clock + hold_time)) c.0 late))

    go : (xs : List Hold) → lasts xs number was owner key ≡ true → lasts (map (restart t.clock) xs) number until owner key ≡ true
    go [] k = k
    go (x ∷ xs) k = elim (or_cases (lasts_one number was owner key x) (lasts xs number was owner key) k) [
      | inl s ↦ or_left (lasts_one number until owner key (restart t.clock x)) (lasts (map (restart t.clock) xs) number until owner key) (one x s)
      | inr s ↦ or_right (lasts_one number until owner key (restart t.clock x)) (lasts (map (restart t.clock) xs) number until owner key) (go xs s)
    ]

pub lasts-blocks : (hs : List Hold) (number until : ℕ) (owner : By) (key : List ℕ) (clock : ℕ) → clock < until → lasts hs number until owner key ≡ true → is_blocked hs key clock ≡ true
lasts-blocks hs number until owner key clock lt h = list_any_weaker (lasts_one number until owner key) (blocks key clock) one hs h
  where
    one : (x : Hold) → lasts_one number until owner key x ≡ true → blocks key clock x ≡ true
    one x k =
        let w = and_parts (bytes_eq x.key key) (nat_le until x.end) (and_parts (same_owner x.owner owner) _ (and_parts (x.number == number) _ k).1).1 in
        let le : nat_le until x.end ≡ true = w.1 in
        let less : nat_lt clock x.end ≡ true = grind (arith, nat_tests) in
        and_from (bytes_eq x.key key) (not x.kept || nat_lt clock x.end) w.0 (or_right (not x.kept) (nat_lt clock x.end) less)

-- what an entry leaves alone, and what it makes

decided-keeps-kind : (place j : ℕ) (was : Option Decision) (kind : EntryKind) (d : Decision) → was ≡ Some d
    → (decided_after place j was kind ≡ Some d) ⊎ ((need : Need) × ((key : List ℕ) × (kind ≡ Bar j need key)))
decided-keeps-kind place j was (Bar job need k) d h = go (job == j) refl
  where
    go : (b : Bool) → (job == j) ≡ b → ((if b then Some (record { place = place; key = k; need = need }) else was) ≡ Some d) ⊎ ((need' : Need) × ((key : List ℕ) × (Bar job need k ≡ Bar j need' key)))
    go true e = inr (need, (k, ap (λ x. Bar x need k) (eqb-true job j e)))
    go false e = inl h
decided-keeps-kind place j was _ d h = inl h

-- the entry is a bar of this job
pub record BarOf (e : Entry) (a j : ℕ) : Type 0 where
  pub repo_is : is_of a e ≡ true
  pub need : Need
  pub key : List ℕ
  pub kind_is : e.kind ≡ Bar j need key

pub decided_keeps : (e : Entry) (past : List Entry) (a j : ℕ) (d : Decision) → decision past a j ≡ Some d → (decision (e ∷ past) a j ≡ Some d) ⊎ BarOf e a j
decided_keeps e past a j d h = go (is_of a e) refl
  where
    go : (b : Bool) → is_of a e ≡ b → ((if b then decided_after (length past) j (decision past a j) e.kind else decision past a j) ≡ Some d) ⊎ BarOf e a j
    go true is = elim (decided-keeps-kind (length past) j (decision past a j) e.kind d h) [ inl s ↦ inl s | inr s ↦ inr (record { repo_is = is; need = s.0; key = s.1.0; kind_is = s.1.1 }) ]
    go false is = inl h

pub decided_new : (e : Entry) (past : List Entry) (a j : ℕ) (need : Need) (key : List ℕ) → is_of a e ≡ true → e.kind ≡ Bar j need key
    → decision (e ∷ past) a j ≡ Some (record { place = length past; key = key; need = need })
decided_new e past a j need key is kind = rw (is, kind, eqb_refl j) refl

pub repo_of : (e : Entry) (r : ℕ) → is_of r e ≡ true → e.repo ≡ Some r
repo_of e r is = option_same e.repo r is

pub same_repo : (e : Entry) (r q : ℕ) → is_of r e ≡ true → is_of q e ≡ true → r ≡ q
same_repo e r q f g = let k : Some r ≡ Some q = sym (repo_of e r f) ∙ repo_of e q g in cc

pub any_add : (p : Removal → Bool) (o : Option Removal) (xs : List Removal) → list_any p xs ≡ true → list_any p (add_removal o xs) ≡ true
any_add p None xs h = h
any_add p (Some x) xs h = or_right (p x) (list_any p xs) h

pub by_inj : (i j : ℕ) → by_job i ≡ by_job j → i ≡ j
by_inj i j e = cc

pub peer_no_job : (p s i : ℕ) → Peer p s ≡ by_job i → ⊥
peer_no_job p s i e = cc

-- ---- removals

-- the entry is the removal of a local drop
pub record Removes (repos : List RepoView) (e : Entry) (past : List Entry) (key : List ℕ) (x : Removal) : Type 0 where
  pub r : ℕ
  pub j : ℕ
  pub d : Decision
  pub repo_is : is_of r e ≡ true
  pub kind_is : e.kind ≡ Gone (by_job j) key
  pub decided_is : decision past r j ≡ Some d
  pub key_is : d.key ≡ key
  pub is : x ≡ local_removal repos past r j d

-- the entry is the removal of a remote drop
pub record Obeys (repos : List RepoView) (e : Entry) (past : List Entry) (key : List ℕ) (x : Removal) : Type 0 where
  pub r : ℕ
  pub a : ℕ
  pub slot : ℕ
  pub s : SendingEntry
  pub j : ℕ
  pub deadline : Option ℕ
  pub need : Need
  pub repo_is : is_of r e ≡ true
  pub kind_is : e.kind ≡ Gone (Peer a slot) key
  pub sent_is : sender past r e.taken ≡ Some s
  pub from_a : is_of a s.entry ≡ true
  pub order_is : s.entry.kind ≡ Order j r deadline need key
  pub is : x ≡ remote_removal repos past r a j need s

abbrev pub LocalKind : List RepoView → List Entry → List ℕ → Option ℕ → EntryKind → Removal → Type 0
LocalKind repos past key repo kind x =
    (r : ℕ) × ((j : ℕ) × ((d : Decision) × ((repo ≡ Some r) × (kind ≡ Gone (by_job j) key) × (decision past r j ≡ Some d) × (d.key ≡ key) × (x ≡ local_removal repos past r j d))))

abbrev pub RemoteKind : List RepoView → List Entry → List ℕ → Option ℕ → Option FrameView → EntryKind → Removal → Type 0
RemoteKind repos past key repo taken kind x =
    (r a slot : ℕ) × ((s : SendingEntry) × ((j : ℕ) × ((deadline : Option ℕ) × ((need : Need) ×
    ((repo ≡ Some r) × (kind ≡ Gone (Peer a slot) key) × (sender past r taken ≡ Some s) × (is_of a s.entry ≡ true) × (s.entry.kind ≡ Order j r deadline need key) × (x ≡ remote_removal repos past r a j need s))))))

ordered-kind : (repos : List RepoView) (past : List Entry) (key : List ℕ) (r a : ℕ) (s : SendingEntry) (kind : EntryKind) (x : Removal) → ordered_removal repos past key r a s kind ≡ Some x
    → (j : ℕ) × ((deadline : Option ℕ) × ((need : Need) × ((kind ≡ Order j r deadline need key) × (x ≡ remote_removal repos past r a j need s))))
ordered-kind repos past key r a s (Order j target deadline need k) x h = elim (if_is ((target == r) && bytes_eq k key) (Some (remote_removal repos past r a j need s)) None (Some x) h) [
  | inl t ↦ let w = and_parts (target == r) (bytes_eq k key) t.0 in
      (j, (deadline, (need, (ap (λ y. Order j y deadline need k) (eqb-true target r w.0) ∙ ap (λ y. Order j r deadline need y) ((bytes_decides k key).0 w.1), same_Some _ _ (sym t.1)))))
  | inr t ↦ cc
]
ordered-kind repos past key r a s _ x h = cc

removal-kind : (repos : List RepoView) (past : List Entry) (key : List ℕ) (repo : Option ℕ) (taken : Option FrameView) (kind : EntryKind) (x : Removal) → removal_by repos past key repo taken kind ≡ Some x
    → LocalKind repos past key repo kind x ⊎ RemoteKind repos past key repo taken kind x
removal-kind repos past key (Some r) taken (Gone (by_job j) k) x h = elim (if_is (bytes_eq k key) (barred_removal repos past key r j (decision past r j)) None (Some x) h) [
  | inl t ↦ inl (go (decision past r j) refl t.1 ((bytes_decides k key).0 t.0))
  | inr t ↦ cc
]
  where
    go : (o : Option Decision) → decision past r j ≡ o → barred_removal repos past key r j o ≡ Some x → k ≡ key → LocalKind repos past key (Some r) (Gone (by_job j) k) x
    go None e f same = cc
    go (Some d) e f same = elim (if_is (bytes_eq d.key key) (Some (local_removal repos past r j d)) None (Some x) f) [
      | inl t ↦ (r, (j, (d, (refl, ap (λ y. Gone (by_job j) y) same, e, (bytes_decides d.key key).0 t.0, same_Some _ _ (sym t.1)))))
      | inr t ↦ cc
    ]
removal-kind repos past key (Some r) taken (Gone (Peer p slot) k) x h = elim (if_is (bytes_eq k key) (sent_order repos past key r p (sender past r taken)) None (Some x) h) [
  | inl t ↦ inr (go (sender past r taken) refl t.1 ((bytes_decides k key).0 t.0))
  | inr t ↦ cc
]
  where
    go : (o : Option SendingEntry) → sender past r taken ≡ o → sent_order repos past key r p o ≡ Some x → k ≡ key → RemoteKind repos past key (Some r) taken (Gone (Peer p slot) k) x
    go None e f same = cc
    go (Some s) e f same = elim (if_is (is_of p s.entry) (ordered_removal repos past key r p s s.entry.kind) None (Some x) f) [
      | inl t ↦ let w = ordered-kind repos past key r p s s.entry.kind x t.1 in
          (r, p, slot, (s, (w.0, (w.1.0, (w.1.1.0, (refl, ap (λ y. Gone (Peer p slot) y) same, e, t.0, w.1.1.1.0, w.1.1.1.1))))))
      | inr t ↦ cc
    ]
removal-kind repos past key repo taken kind x h = cc

pub removal_was : (repos : List RepoView) (e : Entry) (past : List Entry) (key : List ℕ) (x : Removal) → removal repos past key e ≡ Some x → Removes repos e past key x ⊎ Obeys repos e past key x
removal_was repos e past key x h = elim (removal-kind repos past key e.repo e.taken e.kind x h) [
  | inl w ↦ let is : is_of w.0 e ≡ true = option_at e.repo w.0 w.1.1.1.0 in
      inl (record { r = w.0; j = w.1.0; d = w.1.1.0; repo_is = is; kind_is = w.1.1.1.1; decided_is = w.1.1.1.2; key_is = w.1.1.1.3; is = w.1.1.1.4 })
  | inr w ↦ let is : is_of w.0 e ≡ true = option_at e.repo w.0 w.3.1.1.1.1.0 in
      inr (record {
        r = w.0;
        a = w.1;
        slot = w.2;
        s = w.3.0;
        j = w.3.1.0;
        deadline = w.3.1.1.0;
        need = w.3.1.1.1.0;
        repo_is = is;
        kind_is = w.3.1.1.1.1.1;
        sent_is = w.3.1.1.1.1.2;
        from_a = w.3.1.1.1.1.3;
        order_is = w.3.1.1.1.1.4;
        is = w.3.1.1.1.1.5;
      })
]

pub removal_is : (repos : List RepoView) (e : Entry) (past : List Entry) (r j : ℕ) (key : List ℕ) (d : Decision) → is_of r e ≡ true → e.kind ≡ Gone (by_job j) key → decision past r j ≡ Some d → d.key ≡ key
    → removal repos past key e ≡ Some (local_removal repos past r j d)
removal_is repos e past r j key d is kind h same = rw (repo_of e r is, kind, bytes_eq-refl key, h, same, bytes_eq-refl key) refl

pub order_is : (repos : List RepoView) (e : Entry) (past : List Entry) (r a slot j : ℕ) (deadline : Option ℕ) (need : Need) (key : List ℕ) (s : SendingEntry) → is_of r e ≡ true → e.kind ≡ Gone (Peer a slot) key
    → sender past r e.taken ≡ Some s → is_of a s.entry ≡ true → s.entry.kind ≡ Order j r deadline need key → removal repos past key e ≡ Some (remote_removal repos past r a j need s)
order_is repos e past r a slot j deadline need key s is kind h from k = rw (repo_of e r is, kind, bytes_eq-refl key, h, from, k, eqb_refl r, bytes_eq-refl key) refl

-- ---- vouches

-- what was vouched is what the entry did
abbrev pub VouchedBy : ℕ → ℕ → ℕ → EntryKind → Vouch → Type 0
VouchedBy r a j kind (Lock hold since owner key) = (end : ℕ) × ((kind ≡ Share hold end owner key) × ((i : ℕ) → owner ≡ by_job i → (r ≡ a) × (i ≡ j)))
VouchedBy r a j kind (Look key) = (found : Found) × (kind ≡ Check found key)

look_kind : (r a j : ℕ) (found : Found) (key : List ℕ) (v : Vouch) → Member v (look_of found key) → VouchedBy r a j (Check found key) v
look_kind r a j Present key v (inl e) = subst (λ x. VouchedBy r a j (Check Present key) x) (sym e) (Present, refl)
look_kind r a j Present key v (inr m) = absurd m
look_kind r a j _ key v m = absurd m

vouch-kind : (r a j time : ℕ) (asker : Option Asker) (kind : EntryKind) (v : Vouch) → Member v (vouch_kind r a j time asker kind) → VouchedBy r a j kind v
vouch-kind r a j time asker (Share hold end (by_job i) key) v m =
    let w = one_in ((r == a) && (i == j)) (Lock hold time (by_job i) key) v m in
    let k = and_parts (r == a) (i == j) w.0 in
    subst (λ x. VouchedBy r a j (Share hold end (by_job i) key) x) (sym w.1) (end, (refl, λ l e. (eqb-true r a k.0, by_inj l i (sym e) ∙ eqb-true i j k.1)))
vouch-kind r a j time asker (Share hold end (Peer p s) key) v m =
    let w = one_in (is_asker a j asker) (Lock hold (asked_at asker) (Peer p s) key) v m in
    subst (λ x. VouchedBy r a j (Share hold end (Peer p s) key) x) (sym w.1) (end, (refl, λ l e. absurd (peer_no_job p s l e)))
vouch-kind r a j time asker (Check found key) v m = go (is_asker a j asker) m
  where
    go : (b : Bool) → Member v (if b then look_of found key else []) → VouchedBy r a j (Check found key) v
    go true k = look_kind r a j found key v k
    go false k = absurd k
vouch-kind r a j time asker _ v m = absurd m

pub vouch_was : (past : List Entry) (e : Entry) (r a j : ℕ) (v : Vouch) → Member v (vouch past e r a j) → (is_of r e ≡ true) × VouchedBy r a j e.kind v
vouch_was past e r a j v m = go (is_of r e) refl m
  where
    go : (b : Bool) → is_of r e ≡ b → Member v (if b then vouch_kind r a j e.time (asker past r e) e.kind else []) → (is_of r e ≡ true) × VouchedBy r a j e.kind v
    go true is k = (is, vouch-kind r a j e.time (asker past r e) e.kind v k)
    go false is k = absurd k

-- a hold for a job is that job's own
pub own_lock : (past : List Entry) (r a j hold since i : ℕ) (owner : By) (key : List ℕ) → Member (Lock hold since owner key) (vouches past r a j) → owner ≡ by_job i → (r ≡ a) × (i ≡ j)
own_lock [] r a j hold since i owner key m e = absurd m
own_lock (x ∷ past) r a j hold since i owner key m e = elim (Member-append_cases (vouch past x r a j) (vouches past r a j) (Lock hold since owner key) m) [
  | inl k ↦ (vouch_was past x r a j (Lock hold since owner key) k).1.1.1 i e
  | inr k ↦ own_lock past r a j hold since i owner key k e
]

-- what was vouched before an entry that sent a frame was vouched
pub sender_before : (past : List Entry) (q : ℕ) (o : Option FrameView) (s : SendingEntry) (r a j : ℕ) (v : Vouch) → sender past q o ≡ Some s → Member v (vouches s.before r a j) → Member v (vouches past r a j)
sender_before past q o s r a j v h m = occurs_vouches past s.entry s.before r a j v (sender_occurs past q o s h) m

-- and what it vouched
sender_vouched : (past : List Entry) (q : ℕ) (o : Option FrameView) (r a j : ℕ) (v : Vouch) (x : Option SendingEntry) → sender past q o ≡ x → Member v (vouches_sent r a j x) → Member v (vouches past r a j)
sender_vouched past q o r a j v None h m = absurd m
sender_vouched past q o r a j v (Some s) h m = occurs_vouch past s.entry s.before r a j v (sender_occurs past q o s h) m

tells_vouches : (past : List Entry) (e : Entry) (r a j : ℕ) (v : Vouch) → Member v (tells past e r a j) → Member v (vouches (e ∷ past) r a j)
tells_vouches past e r a j v m = go (r == a) (is_job a j e) m
  where
    go : (own is : Bool) → Member v (if own then vouch past e r a j else (if is then vouches_sent r a j (sender past a e.taken) else [])) → Member v (vouches (e ∷ past) r a j)
    go true is k = Member-append_left (vouch past e r a j) (vouches past r a j) v k
    go false true k = Member-append_right (vouch past e r a j) (vouches past r a j) v (sender_vouched past a e.taken r a j v (sender past a e.taken) refl k)
    go false false k = absurd k

pub newer-was : (vs : List Vouch) (old : Option Vouch) (v : Vouch) → newer vs old ≡ Some v → Member v vs ⊎ (old ≡ Some v)
newer-was [] old v h = inr h
newer-was (w ∷ ws) old v h = inl (inl (same_Some v w (sym h)))

-- what a job was told was vouched to it
pub reply_vouched : (past : List Entry) (a j r : ℕ) (v : Vouch) → reply past a j r ≡ Some v → Member v (vouches past r a j)
reply_vouched [] a j r v h = cc
reply_vouched (e ∷ past) a j r v h = elim (newer-was (tells past e r a j) (reply past a j r) v h) [
  | inl m ↦ tells_vouches past e r a j v m
  | inr k ↦ Member-append_right (vouch past e r a j) (vouches past r a j) v (reply_vouched past a j r v k)
]
