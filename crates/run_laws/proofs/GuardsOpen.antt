-- While a session guards a hold, the hold is open.
use Rattle.std.proofs.Common.{◌≡◌, ◌⊎◌, inl, inr, ℕ, ◌+◌, ◌≤◌, Bool, true, false, List, [], ◌∷◌, ◌++◌, Option, Some, None, refl, sym, ap, subst, ◌∙◌, arith}
use Rattle.std.specs.Prelude.{if◌then◌else◌, ◌==◌, ◌||◌, filter, map, not}
use Rattle.std.specs.Option.{option_or}
use Rattle.std.proofs.lemmas.Bool.{and_parts, eqb-true}
use Rattle.annex_base.specs.Lists.{Each, Member}
use Rattle.annex_base.specs.declared.kinds.Call.TheVariants as calls
use Rattle.annex_base.specs.declared.kinds.Word.{Word}
use Rattle.annex_base.proofs.Conditions.{eqb_refl}
use Rattle.annex_base.proofs.Lists.{Member-append_right, Member-filter_from, Member-filter_parts, Member-flat_map, Member-map}
use Rattle.annex_base.proofs.Options.{first_some-was, option_or-was}
use Rattle.run_data.specs.declared.entry.By.{By}
use Rattle.run_data.specs.declared.entry.By.TheVariants.{Script, Job as by_job, Peer}
use Rattle.run_data.specs.declared.entry.Entry.{Entry}
use Rattle.run_data.specs.declared.entry.EntryKind.{EntryKind}
use Rattle.run_data.specs.declared.entry.EntryKind.TheVariants as kinds
use Rattle.run_data.specs.declared.entry.FrameView.{FrameView}
use Rattle.run_data.specs.declared.entry.FrameText.{FrameText}
use Rattle.run_data.specs.declared.entry.FrameText.TheVariants.{Opening, Closing, Bytes, Line}
use Rattle.run_data.specs.declared.row.Hold.{Hold}
use Rattle.p2p_wire.specs.declared.message.Message.{Message}
use Rattle.p2p_wire.specs.declared.message.Message.TheVariants.{Error, UnlockContent}
use Rattle.p2p_wire.specs.Messages.{message_of}
use Rattle.node_model.specs.AnyTime.{MayCome, all_ends, close_at, closes_all, ends_with}
use Rattle.node_model.specs.Ends.{End, EndName, end_sends, end_takes, frames, is_opening, sends_at, sent_at, server_end, taken_at}
use Rattle.node_model.specs.Found.{ByOwed, IsJobEntry, IsSessionEntry}
use Rattle.node_model.specs.Look.{Look, Effect}
use Rattle.node_model.specs.OwedStep.{owed_step}
use Rattle.node_model.specs.Rows.{holds_after, is_lost_ordered, keep_of, restart, same_owner}
use Rattle.node_model.specs.Sessions.{Doing, Guards, Session, line_in, message_said, new_session, sends_close, sent_more, session_after, session_goes, session_left, session_took, took_message}
use Rattle.node_model.specs.SessionStep.{Here, Reply, gives_next, here, on_frame, on_message, on_text, session_at, session_step}
use Rattle.node_model.specs.SetUp.{SetUp, others, served_connections, slots}
use Rattle.node_model.specs.JobStep.{Turn, turn_of}
use Rattle.node_model.specs.State.{State}
use Rattle.node_model.specs.Turns.{job_step}
use Rattle.run_model.specs.Past.{entry_count, holds, is_of}
use Rattle.run_model.specs.Run.{IsStep, OwnPart, OwnRun}
use Rattle.run_model.specs.States.{content, end_at, session, state_of}
use Rattle.step_facts.proofs.EndMoves.{opening_closed, own_induction, session_own, taken_none, took_at}
use Rattle.step_facts.proofs.Guarding.{GuardsBy, Shared, frame_guards, left_guards, more_guards}
use Rattle.step_facts.proofs.JobFacts.{job_found}
use Rattle.step_facts.proofs.NewSessions.{closed_new}
use Rattle.step_facts.proofs.Plain.{member_mapped}
use Rattle.step_facts.proofs.ServerEnds.{end_path, GivesHere, Shuts, TakesHere, at_server, sent_same, session_here}
use Rattle.step_facts.proofs.SessionFacts.{frame_found, gives_found}
use Rattle.run_laws.proofs.SessionOwn.{of_flat}
use Rattle.step_facts.proofs.StepFacts.{JobMade, SessionMade, kind_found, pays_found}

-- ---- what an entry makes of holds

abbrev moved : EntryKind → Hold → Hold
moved (kinds.Close peer slot client) h = if client then h else keep_of (Peer peer slot) h
moved (kinds.Fault calls.Unhold owner) h = keep_of owner h
moved (kinds.End job outcome) h = if is_lost_ordered outcome then keep_of (by_job job) h else h
moved (kinds.Crash clock) h = restart clock h
moved kind h = h

abbrev IsNoShare : EntryKind → Type 0
IsNoShare (kinds.Share hold end owner key) = ⊥
IsNoShare kind = Unit {0}

keep_number : (b : Bool) (h : Hold) → (if b then record h { kept = true } else h).number ≡ h.number
keep_number true h = refl
keep_number false h = refl

moved_number : (kind : EntryKind) (h : Hold) → (moved kind h).number ≡ h.number
moved_number (kinds.Close peer slot true) h = refl
moved_number (kinds.Close peer slot false) h = keep_number (same_owner h.owner (Peer peer slot)) h
moved_number (kinds.Fault calls.Unhold owner) h = keep_number (same_owner h.owner owner) h
moved_number (kinds.End job outcome) h = go (is_lost_ordered outcome)
  where
    go : (b : Bool) → (if b then keep_of (by_job job) h else h).number ≡ h.number
    go true = keep_number (same_owner h.owner (by_job job)) h
    go false = refl
moved_number (kinds.Crash clock) h = refl
moved_number kind h = refl

-- each hold after an entry that is no share was one before
came : (hs : List Hold) (kind : EntryKind) → IsNoShare kind → (g : Hold) → Member g (holds_after hs kind) → (h : Hold) × Member h hs × (g ≡ moved kind h)
came hs (kinds.Share hold end owner key) none g m = absurd none
came hs (kinds.Release number key) none g m = (g, (Member-filter_parts (λ h. not (h.number == number)) hs g m).0, refl)
came hs (kinds.Close peer slot true) none g m = (g, m, refl)
came hs (kinds.Close peer slot false) none g m = member_mapped (keep_of (Peer peer slot)) hs g m
came hs (kinds.Fault calls.Unhold owner) none g m = member_mapped (keep_of owner) hs g m
came hs (kinds.End job outcome) none g m = go (is_lost_ordered outcome) m
  where
    go : (b : Bool) → Member g (if b then map (keep_of (by_job job)) hs else filter (λ h. h.kept || not (same_owner h.owner (by_job job))) hs)
        → (h : Hold) × Member h hs × (g ≡ (if b then keep_of (by_job job) h else h))
    go true n = member_mapped (keep_of (by_job job)) hs g n
    go false n = (g, (Member-filter_parts (λ h. h.kept || not (same_owner h.owner (by_job job))) hs g n).0, refl)
came hs (kinds.Crash clock) none g m = member_mapped (restart clock) hs g m
came hs kind none g m = (g, m, refl)

-- ---- a hold that is open

pub record OpenHold (hs : List Hold) (p q hold : ℕ) (key : List ℕ) : Type 0 where
  pub h : Hold
  pub among : Member h hs
  pub number_is : h.number ≡ hold
  pub key_is : h.key ≡ key
  pub owner_is : h.owner ≡ Peer p q
  pub is_open : h.kept ≡ false

-- the entry leaves the hold of this session open
abbrev Spares : ℕ → ℕ → ℕ → EntryKind → Type 0
Spares p q hold (kinds.Release number key) = number ≡ hold → ⊥
Spares p q hold (kinds.Close peer slot client) = client ≡ false → Peer peer slot ≡ Peer p q → ⊥
Spares p q hold (kinds.Fault calls.Unhold owner) = owner ≡ Peer p q → ⊥
Spares p q hold (kinds.Crash clock) = ⊥
Spares p q hold kind = Unit {0}

owner_other : (a b : By) → (a ≡ b → ⊥) → same_owner a b ≡ false
owner_other a b other = go (same_owner a b) refl
  where
    same : (x y : By) → same_owner x y ≡ true → x ≡ y
    same Script Script e = refl
    same (by_job i) (by_job j) e = ap (λ n. by_job n) (eqb-true i j e)
    same (Peer p s) (Peer q t) e =
        let h = and_parts (p == q) (s == t) e in let one : p ≡ q = eqb-true p q h.0 in let two : s ≡ t = eqb-true s t h.1 in cc
    same _ _ e = absurd (cc)

    go : (c : Bool) → same_owner a b ≡ c → c ≡ false
    go true is = absurd (other (same a b is))
    go false is = refl

module _ (hs : List Hold) (p q hold : ℕ) (key : List ℕ) (o : OpenHold hs p q hold key) where
  -- where it isn't of this owner's, it is left as it was
  kept_as : (owner : By) → (owner ≡ Peer p q → ⊥) → OpenHold (map (keep_of owner) hs) p q hold key
  kept_as owner other =
      let not' : same_owner o.h.owner owner ≡ false = owner_other o.h.owner owner (λ e. other (sym e ∙ o.owner_is)) in
      let same : keep_of owner o.h ≡ o.h = rw not' refl in
      record {
        h = o.h;
        among = subst (λ (g : Hold). Member g (map (keep_of owner) hs)) same (Member-map (keep_of owner) hs o.h o.among);
        number_is = o.number_is;
        key_is = o.key_is;
        owner_is = o.owner_is;
        is_open = o.is_open;
      }

  as_it_was : (gs : List Hold) → Member o.h gs → OpenHold gs p q hold key
  as_it_was gs m = record { h = o.h; among = m; number_is = o.number_is; key_is = o.key_is; owner_is = o.owner_is; is_open = o.is_open }

  job_other : (j : ℕ) → by_job j ≡ Peer p q → ⊥
  job_other j e = cc

  stays : (kind : EntryKind) → Spares p q hold kind → OpenHold (holds_after hs kind) p q hold key
  stays (kinds.Share number end owner k) spares = as_it_was (holds_after hs (kinds.Share number end owner k)) (inr o.among)
  stays (kinds.Release number k) spares =
      as_it_was (holds_after hs (kinds.Release number k)) (Member-filter_from (λ h. not (h.number == number)) hs o.h o.among (apart (o.h.number == number) refl))
    where
      apart : (b : Bool) → (o.h.number == number) ≡ b → not b ≡ true
      apart true e = absurd (spares (sym (eqb-true o.h.number number e) ∙ o.number_is))
      apart false e = refl
  stays (kinds.Close peer slot true) spares = as_it_was hs o.among
  stays (kinds.Close peer slot false) spares = kept_as (Peer peer slot) (λ e. spares refl e)
  stays (kinds.Fault calls.Unhold owner) spares = kept_as owner spares
  stays (kinds.End job outcome) spares = go (is_lost_ordered outcome)
    where
      keeps : (o.h.kept || not (same_owner o.h.owner (by_job job))) ≡ true
      keeps = rw (o.is_open, owner_other o.h.owner (by_job job) (λ e. job_other job (sym e ∙ o.owner_is))) refl

      go : (b : Bool) → OpenHold (if b then map (keep_of (by_job job)) hs else filter (λ h. h.kept || not (same_owner h.owner (by_job job))) hs) p q hold key
      go true = kept_as (by_job job) (job_other job)
      go false = as_it_was (filter (λ h. h.kept || not (same_owner h.owner (by_job job))) hs) (Member-filter_from (λ h. h.kept || not (same_owner h.owner (by_job job))) hs o.h o.among keeps)
  stays (kinds.Crash clock) spares = absurd spares
  stays kind spares = as_it_was hs o.among

-- ---- numbers of holds

pub record Numbered (r : ℕ) (past : List Entry) : Type 0 where
  pub bounded : (h : Hold) → Member h (holds past r) → h.number ≤ entry_count past r
  pub apart : (g h : Hold) → Member g (holds past r) → Member h (holds past r) → g.number ≡ h.number → g ≡ h

-- a share has the number of its entry
share_number : (s : SetUp) (past : List Entry) (words : ℕ → Option Word) (e : Entry) → OwnPart s past words e → (hold end : ℕ) (by : By) (key : List ℕ) → e.kind ≡ kinds.Share hold end by key
    → hold ≡ entry_count past s.number + 1
share_number s past words e part hold end by key is = elim (part.does) [
  | inl x ↦ step' x
  | inr x ↦ absurd (subst (MayCome s (state_of s past) e.lines e.sent) is x.may)
]
  where
    step' : IsStep s past words e → hold ≡ entry_count past s.number + 1
    step' x = elim (kind_found s (state_of s past) x.look x.made (kinds.Share hold end by key) x.makes (sym (ap (λ (y : Entry). y.kind) x.is) ∙ is) (λ h. h)) [
      | inl y ↦ y.found.hold_is
      | inr y ↦ y.found.hold_is
    ]

unshared_next : (s : SetUp) (past : List Entry) → Numbered s.number past → (kind : EntryKind) → IsNoShare kind
    → ((h : Hold) → Member h (holds_after (holds past s.number) kind) → h.number ≤ entry_count past s.number + 1)
    × ((g h : Hold) → Member g (holds_after (holds past s.number) kind) → Member h (holds_after (holds past s.number) kind) → g.number ≡ h.number → g ≡ h)
unshared_next s past old kind' none = (bounded, apart)
  where
    bounded : (h : Hold) → Member h (holds_after (holds past s.number) kind') → h.number ≤ entry_count past s.number + 1
    bounded h m =
        let w = came (holds past s.number) kind' none h m in
        let same' : h.number ≡ w.0.number = ap (λ (x : Hold). x.number) w.2 ∙ moved_number kind' w.0 in
        let b : w.0.number ≤ entry_count past s.number = old.bounded w.0 w.1 in omega (arith, same', b)

    apart : (g h : Hold) → Member g (holds_after (holds past s.number) kind') → Member h (holds_after (holds past s.number) kind') → g.number ≡ h.number → g ≡ h
    apart g h m n e' =
        let v = came (holds past s.number) kind' none g m in
        let w = came (holds past s.number) kind' none h n in
        let numbers : v.0.number ≡ w.0.number = sym (ap (λ (x : Hold). x.number) v.2 ∙ moved_number kind' v.0) ∙ e' ∙ ap (λ (x : Hold). x.number) w.2 ∙ moved_number kind' w.0 in
        v.2 ∙ ap (moved kind') (old.apart v.0 w.0 v.1 w.1 numbers) ∙ sym w.2

numbered_next : (s : SetUp) (past : List Entry) (words : ℕ → Option Word) (e : Entry) → is_of s.number e ≡ true → OwnPart s past words e → Numbered s.number past
    → (kind : EntryKind) → e.kind ≡ kind
    → ((h : Hold) → Member h (holds_after (holds past s.number) kind) → h.number ≤ entry_count past s.number + 1)
    × ((g h : Hold) → Member g (holds_after (holds past s.number) kind) → Member h (holds_after (holds past s.number) kind) → g.number ≡ h.number → g ≡ h)
numbered_next s past words e is part old (kinds.Share hold end by key) kind = (bounded, apart)
  where
    n : hold ≡ entry_count past s.number + 1
    n = share_number s past words e part hold end by key kind

    bounded : (h : Hold) → Member h (holds_after (holds past s.number) (kinds.Share hold end by key)) → h.number ≤ entry_count past s.number + 1
    bounded h (inl same) = let same' : h.number ≡ hold = ap (λ (x : Hold). x.number) same in omega (arith, same', n)
    bounded h (inr m) = let b : h.number ≤ entry_count past s.number = old.bounded h m in omega (arith, b)

    apart : (g h : Hold) → Member g (holds_after (holds past s.number) (kinds.Share hold end by key)) → Member h (holds_after (holds past s.number) (kinds.Share hold end by key)) → g.number ≡ h.number → g ≡ h
    apart g h (inl a) (inl b) e' = a ∙ sym b
    apart g h (inl a) (inr b) e' = let same' : g.number ≡ hold = ap (λ (x : Hold). x.number) a in let c : h.number ≤ entry_count past s.number = old.bounded h b in absurd (omega (arith, same', n, c, e'))
    apart g h (inr a) (inl b) e' = let same' : h.number ≡ hold = ap (λ (x : Hold). x.number) b in let c : g.number ≤ entry_count past s.number = old.bounded g a in absurd (omega (arith, same', n, c, e'))
    apart g h (inr a) (inr b) e' = old.apart g h a b e'
numbered_next s past words e is part old kind' kind = unshared_next s past old kind' tt

pub numbered : (s : SetUp) (past : List Entry) → OwnRun s past → Numbered s.number past
numbered s past run = own_induction s (Numbered s.number) start other own past run
  where
    start : Numbered s.number []
    start = record { bounded = λ h m. absurd m; apart = λ g h m n e. absurd m }

    other : (past : List Entry) (e : Entry) → is_of s.number e ≡ false → Numbered s.number past → Numbered s.number (e ∷ past)
    other past e is old = record { bounded = λ h m. rw is (old.bounded h (rw is at m)); apart = λ g h m n same. old.apart g h (rw is at m) (rw is at n) same }

    own : (past : List Entry) (e : Entry) (words : ℕ → Option Word) → OwnRun s past → is_of s.number e ≡ true → OwnPart s past words e → Numbered s.number past → Numbered s.number (e ∷ past)
    own past e words run is part old =
        let next = numbered_next s past words e is part old e.kind refl in
        record { bounded = λ h m. rw is (next.0 h (rw is at m)); apart = λ g h m n same. next.1 g h (rw is at m) (rw is at n) same }

-- ---- a session that guards still, did nothing

abbrev session_of : ℕ → Doing → Session
session_of version doing = record { version = version; doing = doing }

module _ (s : SetUp) (past : List Entry) (e : Entry) (p q : ℕ) (is : is_of s.number e ≡ true)
    (closed : (end_at past s.number (server_end p q)).opened ≡ false → session past s.number (server_end p q) ≡ new_session) (n : ℕ) (k : List ℕ)
    (was : (session past s.number (server_end p q)).doing ≡ Guards n k) where
  abbrev a : EndName
  a = server_end p q

  abbrev before : Session
  before = session past s.number a

  abbrev after : Option FrameView → Session
  after o = session_after (content past s.number) e.kind before (sent_at a e.sent) o

  -- it isn't new
  not_new : (d : Session) → d.doing ≡ Guards n k → d ≡ new_session → ⊥
  not_new d g new = let both : new_session.doing ≡ Guards n k = sym (ap (λ (z : Session). z.doing) new) ∙ g in cc

  is_opened : (end_at past s.number a).opened ≡ true
  is_opened = go (end_at past s.number a).opened refl
    where
      go : (b : Bool) → (end_at past s.number a).opened ≡ b → b ≡ true
      go true i = refl
      go false i = absurd (not_new before was (closed i))

  -- it gives no piece
  gives_none : GivesHere s past a e → ⊥
  gives_none x = let none : None ≡ Some x.x = ap (gives_next (here s (state_of s past) x.k a)) (sym was) ∙ x.next in cc

  -- a Close that it says makes it new
  shut_new : (shut : Bool) (z : Session) (hold : ℕ) (key : List ℕ) → shut ≡ true → (session_left shut z).doing ≡ Guards hold key → ⊥
  shut_new true z hold key i g = cc
  shut_new false z hold key i g = absurd (cc)

  quiet_sent : (fs : List FrameView) → Each (λ g. g.body ≡ Closing) fs → (z : Session) (hold : ℕ) (key : List ℕ) → (session_left (sends_close fs) z).doing ≡ Guards hold key → fs ≡ []
  quiet_sent [] each z hold key g = refl
  quiet_sent (f ∷ fs) each z hold key g = absurd (shut_new (sends_close (f ∷ fs)) z hold key (rw each.0 refl) g)

  module _ (x : TakesHere s past a e) where
    abbrev h : Here
    h = here s (state_of s past) x.k a

    abbrev c' : End
    c' = end_takes (end_at past s.number a) x.f.epoch x.f.body

    -- the session after a frame with this body and this reply
    abbrev took : FrameText → Reply → Session
    took body z = session_left (sends_close (frames a c' z.says)) (session_took (content past s.number) z.kind before (frames a c' z.says) body)

    message_no : (hold : ℕ) (key text : List ℕ) (v : ℕ) (m : Option Message) → message_of text ≡ m → (took (Line text) (on_text h (record { version = v; doing = Guards n k }) m)).doing ≡ Guards hold key → ⊥
    message_no hold key text v None i g = shut_new true before hold key refl g
    message_no hold key text v (Some (Error t)) i g = cc
    message_no hold key text v (Some (UnlockContent key')) i g = unlocked (on_message h v (Guards n k) (UnlockContent key')) g
      where
        unlocked : (z : Reply) → (session_left (sends_close (frames a c' z.says)) (took_message (content past s.number) z.kind before (message_said (frames a c' z.says)) (message_of text))).doing ≡ Guards hold key → ⊥
        unlocked z f =
            let now = left_guards (sends_close (frames a c' z.says)) (took_message (content past s.number) z.kind before (message_said (frames a c' z.says)) (message_of text)) hold key f in
            let waits = subst (λ (o : Option Message). (took_message (content past s.number) z.kind before (message_said (frames a c' z.says)) o).doing ≡ Guards hold key) i now in cc
    message_no hold key text v (Some m) i g = cc

    body_no : (hold : ℕ) (key : List ℕ) (body : FrameText) → x.f.body ≡ body → (took body (on_frame h (record { version = before.version; doing = Guards n k }) body)).doing ≡ Guards hold key → ⊥
    body_no hold key Opening i g = absurd (let open' : true ≡ false = sym is_opened ∙ opening_closed (end_at past s.number a) x.f (ap is_opening i) x.may in cc)
    body_no hold key Closing i g = cc
    body_no hold key (Bytes m) i g = cc
    body_no hold key (Line text) i g = message_no hold key text before.version (message_of text) refl g

    takes_no : (hold : ℕ) (key : List ℕ) → (after (taken_at a e.taken)).doing ≡ Guards hold key → ⊥
    takes_no hold key g =
        let z : Session → Reply = λ (d : Session). on_frame h d x.f.body in
        let taken : (after (Some x.f)).doing ≡ Guards hold key = subst (λ (o : Option FrameView). (after o).doing ≡ Guards hold key) (took_at s past a e x) g in
        let sent : sent_at a e.sent ≡ frames a c' (z before).says = ap (sent_at a) x.sent_is ∙ sent_same a c' (z before).says in
        let one : (session_after (content past s.number) e.kind before (frames a c' (z before).says) (Some x.f)).doing ≡ Guards hold key =
        subst (λ (fs : List FrameView). (session_after (content past s.number) e.kind before fs (Some x.f)).doing ≡ Guards hold key) sent taken in
        let two : (took x.f.body (z before)).doing ≡ Guards hold key = subst (λ (kind : EntryKind). (session_after (content past s.number) kind before (frames a c' (z before).says) (Some x.f)).doing ≡ Guards hold key) x.kind_is one in
        let as_guards : before ≡ record { version = before.version; doing = Guards n k } = ap (λ (d : Doing). session_of before.version d) was in
        body_no hold key x.f.body refl (subst (λ (d : Session). (took x.f.body (z d)).doing ≡ Guards hold key) as_guards two)

  quiet : Shuts a e ⊎ (TakesHere s past a e ⊎ GivesHere s past a e) → (hold : ℕ) (key : List ℕ) → (after (taken_at a e.taken)).doing ≡ Guards hold key → (taken_at a e.taken ≡ None) × (sent_at a e.sent ≡ [])
  quiet (inl x) hold key g = (x.takes_none, quiet_sent (sent_at a e.sent) x.closes (session_goes (content past s.number) e.kind before (sent_at a e.sent) (taken_at a e.taken)) hold key g)
  quiet (inr (inl x)) hold key g = absurd (takes_no x hold key g)
  quiet (inr (inr x)) hold key g = absurd (gives_none x)

-- ---- what spares a hold

session_spares : (p q hold : ℕ) (h : Here) (doing : Doing) (asked : Option Message) (says : List FrameText) (kind : EntryKind) → IsSessionEntry h doing asked says kind
    → (Peer h.at.peer h.at.slot ≡ Peer p q → ⊥) → ((number : ℕ) (k : List ℕ) → doing ≡ Guards number k → number ≡ hold → ⊥) → Spares p q hold kind
session_spares p q hold h doing asked says (kinds.Release number key) f other apart = λ e. apart number key f.guards e
session_spares p q hold h doing asked says (kinds.Close peer slot client) f other apart = λ no' e. other (closes f.0 ∙ e)
  where
    closes : kinds.Close peer slot client ≡ kinds.Close h.at.peer h.at.slot false → Peer h.at.peer h.at.slot ≡ Peer peer slot
    closes c = let x : peer ≡ h.at.peer = cc in let y : slot ≡ h.at.slot = cc in cc
session_spares p q hold h doing asked says (kinds.Fault calls.Unhold by) f other apart = λ e. other (sym f.0 ∙ e)
session_spares p q hold h doing asked says (kinds.Crash clock) f other apart = f
session_spares p q hold h doing asked says kind f other apart = tt

job_spares : (p q hold : ℕ) (t : Turn) (m : Effect) (kind : EntryKind) → IsJobEntry t m kind → Spares p q hold kind
job_spares p q hold t m (kinds.Release number key) f = absurd f
job_spares p q hold t m (kinds.Close peer slot client) f = absurd f
job_spares p q hold t m (kinds.Fault calls.Unhold by) f = λ e. let both : by_job t.w.number ≡ Peer p q = sym f.0 ∙ e in cc
job_spares p q hold t m (kinds.Crash clock) f = f
job_spares p q hold t m kind f = tt

-- the end of a session that is served is one of all
served_end : (s : SetUp) (p q : ℕ) → Member (p, q) (served_connections s) → Member (server_end p q) (all_ends s)
served_end s p q m =
    let w = of_flat (λ peer. map (λ slot. (peer, slot)) slots) (others s) (p, q) m in
    let v = member_mapped (λ (slot : ℕ). (w.0, slot)) slots (p, q) w.2 in
    let peer : p ≡ w.0 = ap (λ (c : ℕ × ℕ). c.0) v.2 in
    let slot : q ≡ v.0 = ap (λ (c : ℕ × ℕ). c.1) v.2 in
    let there : Member (server_end w.0 v.0) (all_ends s) =
    Member-flat_map (λ (x : ℕ). ends_with x true ++ ends_with x false) (others s) w.0 (server_end w.0 v.0) w.1
    (Member-append_right (ends_with w.0 true) (ends_with w.0 false) (server_end w.0 v.0) (Member-map (server_end w.0) slots v.0 v.1)) in
    subst (λ (x : ℕ). Member (server_end x q) (all_ends s)) (sym peer) (subst (λ (y : ℕ). Member (server_end w.0 y) (all_ends s)) (sym slot) there)

module _ (s : SetUp) (st : State) (p q hold : ℕ) (opened : (st.ends (server_end p q)).opened ≡ true) (there : Member (server_end p q) (all_ends s)) where
  abbrev b : EndName
  b = server_end p q

  abbrev close : List FrameView
  close = frames b (st.ends b) (Closing ∷ [])

  closes_is : close_at s st b ≡ close
  closes_is = rw opened refl

  -- a Close of the end is seen there
  closes_seen : sent_at b (close_at s st b) ≡ [] → ⊥
  closes_seen e = let none : close ≡ [] = sym (sent_same b (st.ends b) (Closing ∷ [])) ∙ ap (sent_at b) (sym closes_is) ∙ e in cc

  crash_seen : sent_at b (closes_all s st) ≡ [] → ⊥
  crash_seen e =
      let f : FrameView = record { peer = p; slot = q; up = false; epoch = (end_sends (st.ends b) Closing).epoch; seq = (end_sends (st.ends b) Closing).sent; body = Closing } in
      let at : Member f (close_at s st b) = subst (λ (fs : List FrameView). Member f fs) (sym closes_is) (inl refl) in
      let all : Member f (closes_all s st) = Member-flat_map (close_at s st) (all_ends s) b f there at in
      let sends : sends_at b f ≡ true = rw (eqb_refl p, eqb_refl q) refl in
      let seen : Member f (sent_at b (closes_all s st)) = Member-filter_from (sends_at b) (closes_all s st) f all sends in
      subst (λ (fs : List FrameView). Member f fs) e seen

  any_spares : (lines : List (List ℕ)) (sent : List FrameView) (kind : EntryKind) → MayCome s st lines sent kind → sent_at b sent ≡ [] → Spares p q hold kind
  any_spares lines sent (kinds.Release number key) h none = absurd h
  any_spares lines sent (kinds.Close peer slot client) h none = λ c e. closed c (peer_is e) (slot_is e) h.3
    where
      peer_is : Peer peer slot ≡ Peer p q → peer ≡ p
      peer_is e = cc

      slot_is : Peer peer slot ≡ Peer p q → slot ≡ q
      slot_is e = cc

      closed : client ≡ false → peer ≡ p → slot ≡ q → sent ≡ close_at s st (record { peer = peer; slot = slot; client = client }) → ⊥
      closed c x y is =
          let same : Path EndName (record { peer = peer; slot = slot; client = client }) b = end_path peer slot client b x y c in
          closes_seen (ap (λ (a : EndName). sent_at b (close_at s st a)) (sym same) ∙ ap (sent_at b) (sym is) ∙ none)
  any_spares lines sent (kinds.Fault calls.Unhold Script) h none = λ e. cc
  any_spares lines sent (kinds.Fault calls.Unhold by) h none = absurd h
  any_spares lines sent (kinds.Crash clock) h none = crash_seen (ap (sent_at b) (sym h.1) ∙ none)
  any_spares lines sent kind h none = tt

-- ---- the invariant

pub record GuardsAreOpen (s : SetUp) (past : List Entry) : Type 0 where
  pub opens : (p q hold : ℕ) (key : List ℕ) → (session past s.number (server_end p q)).doing ≡ Guards hold key → OpenHold (holds past s.number) p q hold key
  pub serves : (p q hold : ℕ) (key : List ℕ) → (session past s.number (server_end p q)).doing ≡ Guards hold key → Member (p, q) (served_connections s)

module _ (s : SetUp) (past : List Entry) (words : ℕ → Option Word) (e : Entry) (run : OwnRun s past) (is : is_of s.number e ≡ true) (part : OwnPart s past words e) (old : GuardsAreOpen s past) where
  abbrev st : State
  st = state_of s past

  module _ (p q hold : ℕ) (key : List ℕ) (was : (session past s.number (server_end p q)).doing ≡ Guards hold key)
      (untaken : taken_at (server_end p q) e.taken ≡ None) (unsent : sent_at (server_end p q) e.sent ≡ []) where
    abbrev opened : (end_at past s.number (server_end p q)).opened ≡ true
    opened = is_opened s past e p q is (closed_new s p q past run) hold key was

    -- no session at this end made it
    other_end : (b c : ℕ) → TakesHere s past (server_end b c) e ⊎ GivesHere s past (server_end b c) e → Peer b c ≡ Peer p q → ⊥
    other_end b c x same =
        let peer : b ≡ p = cc in
        let slot : c ≡ q = cc in
        here_no (subst (λ (n : ℕ). TakesHere s past (server_end p n) e ⊎ GivesHere s past (server_end p n) e) slot
        (subst (λ (n : ℕ). TakesHere s past (server_end n c) e ⊎ GivesHere s past (server_end n c) e) peer x))
      where
        here_no : TakesHere s past (server_end p q) e ⊎ GivesHere s past (server_end p q) e → ⊥
        here_no (inl y) = let both : None ≡ Some y.f = sym untaken ∙ took_at s past (server_end p q) e y in cc
        here_no (inr y) = gives_none s past e p q is (closed_new s p q past run) hold key was y

    -- another session's hold has another number
    apart_at : (b c : ℕ) → (Peer b c ≡ Peer p q → ⊥) → (number : ℕ) (k : List ℕ) → (session past s.number (server_end b c)).doing ≡ Guards number k → number ≡ hold → ⊥
    apart_at b c other number k guards same =
        let x = old.opens b c number k guards in
        let y = old.opens p q hold key was in
        let one : x.h ≡ y.h = (numbered s past run).apart x.h y.h x.among y.among (x.number_is ∙ same ∙ sym y.number_is) in
        other (sym x.owner_is ∙ ap (λ (g : Hold). g.owner) one ∙ y.owner_is)

    by_session : (b c : ℕ) → TakesHere s past (server_end b c) e ⊎ GivesHere s past (server_end b c) e → Spares p q hold e.kind
    by_session b c x = go (other_end b c x) x
      where
        go : (Peer b c ≡ Peer p q → ⊥) → TakesHere s past (server_end b c) e ⊎ GivesHere s past (server_end b c) e → Spares p q hold e.kind
        go other (inl y) =
            let h = here s st y.k (server_end b c) in
            let d = session past s.number (server_end b c) in
            let z = on_frame h d y.f.body in
            subst (Spares p q hold) (sym y.kind_is) (session_spares p q hold h d.doing (line_in y.f.body) z.says z.kind (frame_found h d y.f.body) other (apart_at b c other))
        go other (inr y) =
            let h = here s st y.k (server_end b c) in
            let d = session past s.number (server_end b c) in
            subst (Spares p q hold) (sym y.kind_is) (session_spares p q hold h d.doing None y.x.says y.x.kind (gives_found h d.doing y.x y.next) other (apart_at b c other))

    by_step : IsStep s past words e → Spares p q hold e.kind
    by_step x = elim (option_or-was (owed_step s st k) (option_or (session_step s st k) (job_step s st k)) m x.makes) [
      | inl o ↦ subst (Spares p q hold) (sym kind) (owed (pays_found s st k m st.owed refl o))
      | inr r ↦ elim (option_or-was (session_step s st k) (job_step s st k) m r) [
        | inl y ↦ session y
        | inr y ↦ (let j = job_found s st k m y in subst (Spares p q hold) (sym kind) (job_spares p q hold (turn_of s st k j.w) m m.kind j.found))
      ]
    ]
      where
        k : Look
        k = x.look

        m : Effect
        m = x.made

        kind : e.kind ≡ x.made.kind
        kind = ap (λ (y : Entry). y.kind) x.is

        owed : ByOwed s st x.look x.made → Spares p q hold x.made.kind
        owed o = elim (o.writes) [
          | inl w ↦ subst (λ (n : Effect). Spares p q hold n.kind) (sym w) tt
          | inr w ↦ subst (λ (n : Effect). Spares p q hold n.kind) (sym w) tt
        ]

        session : session_step s st x.look ≡ Some x.made → Spares p q hold e.kind
        session y =
            let w = first_some-was (λ (c : ℕ × ℕ). session_at s st x.look (server_end c.0 c.1)) (served_connections s) x.made y in
            let z = session_here s past x.look x.part_small (server_end w.0.0 w.0.1) x.made w.2 in
            by_session w.0.0 w.0.1 (subst (λ (n : Entry). TakesHere s past (server_end w.0.0 w.0.1) n ⊎ GivesHere s past (server_end w.0.0 w.0.1) n) (sym x.is) z)

    spares : Spares p q hold e.kind
    spares = elim (part.does) [
      | inl x ↦ by_step x
      | inr x ↦ any_spares s st p q hold opened (served_end s p q (old.serves p q hold key was)) e.lines e.sent e.kind x.may unsent
    ]

  -- how it comes that a session guards after the entry
  abbrev Stays : ℕ → ℕ → ℕ → List ℕ → Type 0
  Stays p q hold key = ((session past s.number (server_end p q)).doing ≡ Guards hold key) × (taken_at (server_end p q) e.taken ≡ None) × (sent_at (server_end p q) e.sent ≡ [])

  module _ (p q hold : ℕ) (key : List ℕ)
      (now : (session_after (content past s.number) e.kind (session past s.number (server_end p q)) (sent_at (server_end p q) e.sent) (taken_at (server_end p q) e.taken)).doing ≡ Guards hold key) where
    abbrev at' : EndName
    at' = server_end p q

    abbrev before' : Session
    before' = session past s.number at'

    abbrev sent' : List FrameView
    sent' = sent_at at' e.sent

    closed' : (end_at past s.number at').opened ≡ false → before' ≡ new_session
    closed' = closed_new s p q past run

    still : Shuts at' e ⊎ (TakesHere s past at' e ⊎ GivesHere s past at' e) → before'.doing ≡ Guards hold key → Stays p q hold key
    still x was = let h = quiet s past e p q is closed' hold key was x hold key now in (was, h.0, h.1)

    untook : taken_at at' e.taken ≡ None → before'.doing ≡ Guards hold key
    untook none =
        more_guards before' sent' hold key (left_guards (sends_close sent') (sent_more before' sent') hold key
        (subst (λ (o : Option FrameView). (session_after (content past s.number) e.kind before' sent' o).doing ≡ Guards hold key) none now))

    ways : Shuts at' e ⊎ (TakesHere s past at' e ⊎ GivesHere s past at' e) → Stays p q hold key ⊎ Shared e.kind (Peer p q) hold key
    ways (inl x) = inl (still (inl x) (untook x.takes_none))
    ways (inr (inr x)) = inl (still (inr (inr x)) (untook (taken_none s past at' e x)))
    ways (inr (inl x)) = by found.1
      where
        h : Here
        h = here s st x.k at'

        took : (session_took (content past s.number) e.kind before' sent' x.f.body).doing ≡ Guards hold key
        took = left_guards (sends_close sent') (session_took (content past s.number) e.kind before' sent' x.f.body) hold key
            (subst (λ (o : Option FrameView). (session_after (content past s.number) e.kind before' sent' o).doing ≡ Guards hold key) (took_at s past at' e x) now)

        found : GuardsBy (here s st x.k at') before' x.f.body (on_frame (here s st x.k at') before' x.f.body).kind hold key
        found = frame_guards (here s st x.k at') (content past s.number) before' sent' x.f.body hold key
            (λ i. closed' (opening_closed (end_at past s.number at') x.f i x.may))
            (subst (λ (kind : EntryKind). (session_took (content past s.number) kind before' sent' x.f.body).doing ≡ Guards hold key) x.kind_is took)

        by : (before'.doing ≡ Guards hold key) ⊎ Shared (on_frame (here s st x.k at') before' x.f.body).kind (Peer p q) hold key → Stays p q hold key ⊎ Shared e.kind (Peer p q) hold key
        by (inl was) = inl (still (inr (inl x)) was)
        by (inr y) = inr (y.0, x.kind_is ∙ y.1)

    opens_next : Stays p q hold key ⊎ Shared e.kind (Peer p q) hold key → OpenHold (holds_after (holds past s.number) e.kind) p q hold key
    opens_next (inl w) = stays (holds past s.number) p q hold key (old.opens p q hold key w.0) e.kind (spares p q hold key w.0 w.1 w.2)
    opens_next (inr y) =
        let new : Hold = record { number = hold; key = key; end = y.0; kept = false; owner = Peer p q } in
        subst (λ (kind : EntryKind). OpenHold (holds_after (holds past s.number) kind) p q hold key) (sym y.1)
        (record { h = new; among = inl refl; number_is = refl; key_is = refl; owner_is = refl; is_open = refl })

    serves_next : Stays p q hold key ⊎ Shared e.kind (Peer p q) hold key → Member (p, q) (served_connections s)
    serves_next (inl w) = old.serves p q hold key w.0
    serves_next (inr y) = elim (part.does) [
      | inl x ↦ shared x (kind_found s st x.look x.made (kinds.Share hold y.0 (Peer p q) key) x.makes (sym (ap (λ (z : Entry). z.kind) x.is) ∙ y.1) (λ h. h))
      | inr x ↦ absurd (subst (MayCome s st e.lines e.sent) y.1 x.may)
    ]
      where
        shared : (x : IsStep s past words e) → SessionMade s st x.look x.made (kinds.Share hold y.0 (Peer p q) key) ⊎ JobMade s st x.look x.made (kinds.Share hold y.0 (Peer p q) key) → Member (p, q) (served_connections s)
        shared x (inl z) =
            let owner : Peer p q ≡ Peer z.by.peer z.by.slot = z.found.by_is in
            let peer : p ≡ z.by.peer = cc in
            let slot : q ≡ z.by.slot = cc in
            subst (λ (n : ℕ). Member (n, q) (served_connections s)) (sym peer) (subst (λ (n : ℕ). Member (z.by.peer, n) (served_connections s)) (sym slot) z.by.serves)
        shared x (inr z) = absurd (let owner : Peer p q ≡ by_job z.by.w.number = z.found.by_is in cc)

pub guards_are_open : (s : SetUp) (past : List Entry) → OwnRun s past → GuardsAreOpen s past
guards_are_open s past run = own_induction s (GuardsAreOpen s) start other own past run
  where
    start : GuardsAreOpen s []
    start = record { opens = λ p q hold key g. absurd (cc); serves = λ p q hold key g. absurd (cc) }

    other : (past : List Entry) (e : Entry) → is_of s.number e ≡ false → GuardsAreOpen s past → GuardsAreOpen s (e ∷ past)
    other past e is old = record { opens = λ p q hold key g. rw is (old.opens p q hold key (rw is at g)); serves = λ p q hold key g. old.serves p q hold key (rw is at g) }

    own : (past : List Entry) (e : Entry) (words : ℕ → Option Word) → OwnRun s past → is_of s.number e ≡ true → OwnPart s past words e → GuardsAreOpen s past → GuardsAreOpen s (e ∷ past)
    own past e words run is part old = record { opens = opens; serves = serves }
      where
        now : (p q hold : ℕ) (key : List ℕ) → (session (e ∷ past) s.number (server_end p q)).doing ≡ Guards hold key
            → (session_after (content past s.number) e.kind (session past s.number (server_end p q)) (sent_at (server_end p q) e.sent) (taken_at (server_end p q) e.taken)).doing ≡ Guards hold key
        now p q hold key g = subst (λ (z : Session). z.doing ≡ Guards hold key) (session_own s.number past (server_end p q) e is) g

        opens : (p q hold : ℕ) (key : List ℕ) → (session (e ∷ past) s.number (server_end p q)).doing ≡ Guards hold key → OpenHold (holds (e ∷ past) s.number) p q hold key
        opens p q hold key g =
            let n = now p q hold key g in
            rw is (opens_next s past words e run is part old p q hold key n (ways s past words e run is part old p q hold key n (at_server s past words e p q part)))

        serves : (p q hold : ℕ) (key : List ℕ) → (session (e ∷ past) s.number (server_end p q)).doing ≡ Guards hold key → Member (p, q) (served_connections s)
        serves p q hold key g =
            let n = now p q hold key g in
            serves_next s past words e run is part old p q hold key n (ways s past words e run is part old p q hold key n (at_server s past words e p q part))
