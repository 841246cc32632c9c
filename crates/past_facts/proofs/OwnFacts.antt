-- What the facts of each repository's own entries say together: of vouches, of bars, of what a job heard.
use Rattle.std.proofs.Common.{◌≡◌, ℕ, ◌≤◌, Bool, true, false, ◌&&◌, List, [], ◌∷◌, ◌++◌, Option, Some, None, ◌⊎◌, inl, inr, refl, sym, ap, ◌∙◌, subst, arith}
use Rattle.std.specs.Prelude.{option_map, if◌then◌else◌, ◌==◌}
use Rattle.std.specs.List.{list_any}
use Rattle.std.proofs.lemmas.Bool.{true≢false, and_parts, and_from, eqb-true, or_left, or_right, or_parts}
use Rattle.annex_base.specs.Lists.{Member}
use Rattle.annex_base.specs.declared.kinds.Found.{Found}
use Rattle.annex_base.specs.declared.kinds.Found.TheVariants.{Present}
use Rattle.annex_base.proofs.Lists.{list_any_member}
use Rattle.annex_base.proofs.Conditions.{eqb_refl}
use Rattle.run_data.specs.declared.entry.By.TheVariants.{Job as by_job, Peer}
use Rattle.run_data.specs.declared.entry.Entry.{Entry}
use Rattle.run_data.specs.declared.entry.EntryKind.{EntryKind}
use Rattle.run_data.specs.declared.entry.EntryKind.TheVariants.{Share, Check}
use Rattle.run_data.specs.declared.entry.FrameView.{FrameView}
use Rattle.run_data.specs.declared.run.RepoView.{RepoView}
use Rattle.run_model.specs.Past.{Occurs, is_of, now}
use Rattle.node_model.specs.Rows.{option_is}
use Rattle.p2p_wire.specs.declared.message.Message.TheVariants.{CheckPresent, LockContent}
use Rattle.run_model.specs.Said.{Said, Says, message_in}
use Rattle.run_model.specs.Frames.{FlyingFrame, is_job, says, sender, sending_entry, taken_count, way_of}
use Rattle.node_model.specs.Slots.{job_of}
use Rattle.run_model.specs.Drops.{Vouch, Lock, Look, asked_at, asker, asker_by, asker_of, is_asker, key_of, look_of, vouch, vouch_kind, vouches}
use Rattle.past_facts.specs.Lawful.{HasFreeContent, since_of}
use Rattle.past_facts.proofs.Own.{Meets, MessagePast, SaysYes, asks_copy, has_asked, is_share, seeks}
use Rattle.step_facts.proofs.Flights.{Sending, occurs_any, sending}
use Rattle.past_facts.proofs.Told.{sends_member}
use Rattle.step_facts.proofs.Plain.{one_in}

-- ---- time

-- an entry of the past is no later than the newest
pub occurs_time : (repos : List RepoView) (past : List Entry) (x : Entry) (before : List Entry) → MessagePast repos past → Occurs past x before → x.time ≤ now past
occurs_time repos [] x before run o = absurd o
occurs_time repos (e ∷ past) x before run (inl o) = let same : x.time ≡ e.time = ap (λ (y : Entry). y.time) o.0 in omega (arith, same)
occurs_time repos (e ∷ past) x before run (inr o) = omega (arith, occurs_time repos past x before run.1 o, run.0.order)

-- ---- who asked

-- a job of a asked by an entry that stands in the past
pub record AskedBy (past : List Entry) (r a j : ℕ) (f : FrameView) : Type 0 where
  pub it : FlyingFrame
  pub sending : Sending past (way_of r f) it
  pub body_is : it.frame.body ≡ f.body
  pub is_asked : is_job a j it.entry ≡ true

asker_parts : (a j : ℕ) (o p : Option ℕ) (time : ℕ) → is_asker a j (asker_of o p time) ≡ true → (o ≡ Some a) × (p ≡ Some j)
asker_parts a j None p time h = cc
asker_parts a j (Some m) None time h = cc
asker_parts a j (Some m) (Some i) time h = let t = and_parts (m == a) (i == j) h in (ap (λ x. Some x) (eqb-true m a t.0), ap (λ x. Some x) (eqb-true i j t.1))

-- who asked, and when
pub asked_by : (repos : List RepoView) (past : List Entry) (e : Entry) (r a j : ℕ) (f : FrameView) → Meets repos past e → is_of r e ≡ true → e.taken ≡ Some f → is_asker a j (asker past r e) ≡ true
    → (k : AskedBy past r a j f) × (asked_at (asker past r e) ≡ k.it.entry.time)
asked_by repos past e r a j f m is takes yes' =
    let t = m.frames r f is takes in
    let from : sender past r e.taken ≡ Some (sending_entry t.it) = ap (λ o. sender past r o) takes ∙ ap (λ o. option_map sending_entry o) t.next in
    let parts = asker_parts a j t.it.entry.repo (job_of t.it.entry.kind) t.it.entry.time (subst (λ o. is_asker a j (asker_by o) ≡ true) from yes') in
    let job : is_job a j t.it.entry ≡ true = and_from (is_of a t.it.entry) (option_is (job_of t.it.entry.kind) j) (subst (λ o. option_is o a ≡ true) (sym parts.0) (eqb_refl a)) (subst (λ o. option_is o j ≡ true) (sym parts.1) (eqb_refl j)) in (
      record { it = t.it; sending = sending past (way_of r f) (taken_count past (way_of r f)) t.it t.next; body_is = t.body_is; is_asked = job },
      ap (λ o. asked_at (asker_by o)) from ∙ at t.it.entry.repo (job_of t.it.entry.kind) t.it.entry.time parts.0 parts.1,
    )
  where
    at : (o p : Option ℕ) (time : ℕ) → o ≡ Some a → p ≡ Some j → asked_at (asker_of o p time) ≡ time
    at o p time h k = rw (h, k) refl

-- ---- vouches

-- what an entry vouches, and to whom
abbrev pub VouchesBy : List Entry → Entry → ℕ → ℕ → ℕ → Vouch → Type 0
VouchesBy past e r a j (Lock hold since owner key) = (end : ℕ) × (e.kind ≡ Share hold end owner key)
    × (((r ≡ a) × (owner ≡ by_job j) × (since ≡ e.time)) ⊎ ((peer slot : ℕ) × (owner ≡ Peer peer slot) × (is_asker a j (asker past r e) ≡ true) × (since ≡ asked_at (asker past r e))))
VouchesBy past e r a j (Look key) = (e.kind ≡ Check Present key) × (is_asker a j (asker past r e) ≡ true)

pub vouches_by : (past : List Entry) (e : Entry) (r a j : ℕ) (v : Vouch) → Member v (vouch past e r a j) → (is_of r e ≡ true) × VouchesBy past e r a j v
vouches_by past e r a j v m = go (is_of r e) refl m
  where
    look : (found : Found) (key : List ℕ) → e.kind ≡ Check found key → (b : Bool) → is_asker a j (asker past r e) ≡ b → Member v (if b then look_of found key else []) → VouchesBy past e r a j v
    look Present key h true b (inl s) = subst (λ x. VouchesBy past e r a j x) (sym s) (h, b)
    look Present key h true b (inr k) = absurd k
    look found key h false b k = absurd k
    look _ key h true b k = absurd k

    by_kind : (kind : EntryKind) → e.kind ≡ kind → Member v (vouch_kind r a j e.time (asker past r e) kind) → VouchesBy past e r a j v
    by_kind (Share hold end (by_job i) key) h k =
        let w = one_in ((r == a) && (i == j)) (Lock hold e.time (by_job i) key) v k in
        let t = and_parts (r == a) (i == j) w.0 in
        let same : i ≡ j = eqb-true i j t.1 in
        subst (λ x. VouchesBy past e r a j x) (sym w.1) (end, h, inl (eqb-true r a t.0, ap (λ x. by_job x) same, refl))
    by_kind (Share hold end (Peer p s) key) h k =
        let w = one_in (is_asker a j (asker past r e)) (Lock hold (asked_at (asker past r e)) (Peer p s) key) v k in
        subst (λ x. VouchesBy past e r a j x) (sym w.1) (end, h, inr (p, s, refl, w.0, refl))
    by_kind (Check found key) h k = look found key h (is_asker a j (asker past r e)) refl k
    by_kind _ h k = absurd k

    go : (b : Bool) → is_of r e ≡ b → Member v (if b then vouch_kind r a j e.time (asker past r e) e.kind else []) → (is_of r e ≡ true) × VouchesBy past e r a j v
    go true is k = (is, by_kind e.kind refl k)
    go false is k = absurd k

-- whoever vouches has the content free, and was asked no later than now
pub vouch_free : (repos : List RepoView) (past : List Entry) (e : Entry) (r a j : ℕ) (v : Vouch) → MessagePast repos past → Meets repos past e → Member v (vouch past e r a j) → HasFreeContent past r (key_of v) × (since_of v ≤ e.time)
vouch_free repos past e r a j v run m k = let w = vouches_by past e r a j v k in by_vouch v w.0 w.1
  where
    by_vouch : (v : Vouch) → is_of r e ≡ true → VouchesBy past e r a j v → HasFreeContent past r (key_of v) × (since_of v ≤ e.time)
    by_vouch (Lock hold since owner key) is (end, kind, inl own) = ((((m.own r is).share hold end owner key kind).row), omega (arith, own.2))
    by_vouch (Lock hold since owner key) is (end, kind, inr (p, s, owner_is, yes', at)) =
        let says' = ((m.own r is).shares_with hold end p s key (kind ∙ ap (λ x. Share hold end x key) owner_is)).answer in
        let t = asked_by repos past e r a j says'.f m is says'.takes_it yes' in
        ((((m.own r is).share hold end owner key kind).row), omega (arith, at, t.1, occurs_time repos past t.0.it.entry t.0.it.before run t.0.sending.occurs, m.order))
    by_vouch (Look key) is (kind, yes') = (((m.own r is).look key kind).0, omega arith)

-- ---- nobody vouches to a job that has asked nobody

-- the entry that asked for a copy is one that seeks it
pub asker_seeks : (c r j : ℕ) (past : List Entry) (f : FrameView) (asked' : Said) → message_in f.body ≡ asked' → asks_copy asked' ≡ true → (t : AskedBy past c r j f) → seeks r j t.it.entry ≡ true
asker_seeks c r j past f asked' asked_is copy t =
    let says_it : says asks_copy t.it.frame ≡ true = ap (λ b. asks_copy (message_in b)) t.body_is ∙ ap asks_copy asked_is ∙ copy in
    let member = sends_member (way_of c f) t.it.entry t.it.frame t.sending.sends in
    and_from (is_job r j t.it.entry) _ t.is_asked (or_right (is_share t.it.entry.kind) (list_any (says asks_copy) t.it.entry.sent) (list_any_member (says asks_copy) t.it.entry.sent t.it.frame member says_it))

asked_seeks : (repos : List RepoView) (past : List Entry) (e : Entry) (c r j : ℕ) (asked' : Said) → Meets repos past e → is_of c e ≡ true → SaysYes c e asked' → asks_copy asked' ≡ true → is_asker r j (asker past c e) ≡ true → has_asked past r j ≡ true
asked_seeks repos past e c r j asked' m is y copy yes' =
    let t = (asked_by repos past e c r j y.f m is y.takes_it yes').0 in
    occurs_any (seeks r j) past t.it.entry t.it.before t.sending.occurs (asker_seeks c r j past y.f asked' y.asked_is copy t)

-- a job's own share seeks
pub share_seeks : (r j : ℕ) (e : Entry) (hold end : ℕ) (key : List ℕ) → is_of r e ≡ true → e.kind ≡ Share hold end (by_job j) key → seeks r j e ≡ true
share_seeks r j e hold end key is kind = rw (is, kind, eqb_refl j) refl

vouch_seeks : (repos : List RepoView) (past : List Entry) (e : Entry) (c r j : ℕ) (v : Vouch) → Meets repos past e → Member v (vouch past e c r j) → has_asked (e ∷ past) r j ≡ true
vouch_seeks repos past e c r j v m k = let w = vouches_by past e c r j v k in by_vouch v w.0 w.1
  where
    by_vouch : (v : Vouch) → is_of c e ≡ true → VouchesBy past e c r j v → has_asked (e ∷ past) r j ≡ true
    by_vouch (Lock hold since owner key) is (end, kind, inl own) =
        let is_r : is_of r e ≡ true = subst (λ q. is_of q e ≡ true) own.0 is in
        let kind' : e.kind ≡ Share hold end (by_job j) key = kind ∙ ap (λ x. Share hold end x key) own.1 in
        or_left (seeks r j e) (has_asked past r j) (share_seeks r j e hold end key is_r kind')
    by_vouch (Lock hold since owner key) is (end, kind, inr (p, s, owner_is, yes', at)) =
        let says' = ((m.own c is).shares_with hold end p s key (kind ∙ ap (λ x. Share hold end x key) owner_is)).answer in
        or_right (seeks r j e) (has_asked past r j) (asked_seeks repos past e c r j (Says (LockContent key)) m is says' refl yes')
    by_vouch (Look key) is (kind, yes') = or_right (seeks r j e) (has_asked past r j) (asked_seeks repos past e c r j (Says (CheckPresent key)) m is ((m.own c is).look key kind).1 refl yes')

pub nobody_vouched : (repos : List RepoView) (past : List Entry) (c r j : ℕ) → MessagePast repos past → has_asked past r j ≡ false → vouches past c r j ≡ []
nobody_vouched repos [] c r j run h = refl
nobody_vouched repos (e ∷ past) c r j run h =
    let old = nobody_vouched repos past c r j run.1 (or_parts (seeks r j e) (has_asked past r j) h).1 in
    ap (λ xs. vouch past e c r j ++ xs) old ∙ none (vouch past e c r j) (λ v m. true≢false (sym (vouch_seeks repos past e c r j v run.0 m) ∙ h))
  where
    none : (vs : List Vouch) → ((v : Vouch) → Member v vs → ⊥) → vs ++ [] ≡ []
    none [] f = refl
    none (v ∷ vs) f = absurd (f v (inl refl))
