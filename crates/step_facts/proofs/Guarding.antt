-- While a session guards a hold, the past has the share with that number, for its peer and slot, which took its frame on the
-- connection's present opening.
use Rattle.node_model.specs.Clocks.{hold_time}
use Rattle.std.proofs.Common.{◌≡◌, ℕ, ◌+◌, Bool, true, false, List, [], ◌∷◌, Option, Some, None, ◌⊎◌, inl, inr, refl, sym, ap, ◌∙◌, subst}
use Rattle.std.specs.Prelude.{if◌then◌else◌, ◌==◌}
use Rattle.annex_base.specs.declared.kinds.Word.{Word}
use Rattle.run_data.specs.declared.entry.By.{By}
use Rattle.run_data.specs.declared.entry.By.TheVariants.{Peer}
use Rattle.run_data.specs.declared.entry.Entry.{Entry}
use Rattle.run_data.specs.declared.entry.EntryKind.{EntryKind}
use Rattle.run_data.specs.declared.entry.EntryKind.TheVariants.{Share, Fault}
use Rattle.run_data.specs.declared.entry.FrameView.{FrameView}
use Rattle.run_data.specs.declared.entry.FrameText.{FrameText}
use Rattle.run_data.specs.declared.entry.FrameText.TheVariants.{Opening, Closing, Bytes, Line}
use Rattle.run_model.specs.Past.{Occurs, is_of}
use Rattle.node_model.specs.SetUp.{SetUp}
use Rattle.p2p_wire.specs.declared.message.Message.{Message}
use Rattle.p2p_wire.specs.declared.message.Message.TheVariants.{LockContent, UnlockContent, Get, Put, PutFrom, Data, Valid, Invalid, Success, Failure}
use Rattle.p2p_wire.specs.Messages.{message_of}
use Rattle.node_model.specs.Ends.{End, EndName, end_takes, is_opening, sent_at, server_end, takes_at}
use Rattle.run_model.specs.States.{end_at, content, session, state_of}
use Rattle.node_model.specs.Sessions.{Doing, Waits, Guards, Gives, Gave, Wants, Takes, Took, Session, doing_after, gave_bytes, gives, guards, new_session, reaches, message_said, sends_close, sent_more, sent_one, session_after, session_left, session_took, took_bytes, took_message, takes_more, takes_from, wants}
use Rattle.node_model.specs.Calls.{to_lock}
use Rattle.node_model.specs.Look.{failing_call}
use Rattle.node_model.specs.SessionStep.{Here, Reply, bar_on, by_of, here, is_here, lock_answer, now_of, on_frame, on_lock, on_message, on_text, failure_line}
use Rattle.run_model.specs.Run.{OwnPart, OwnRun}
use Rattle.step_facts.proofs.Cases.{unless_found}
use Rattle.step_facts.proofs.EndMoves.{all_epoch, end_gave, end_own, end_shuts, end_took-is, gave_none, may_epoch, opening_closed, own_induction, session_own, shuts_none, taken_none, takes_epoch, took_at, took_none}
use Rattle.step_facts.proofs.NewSessions.{closed_new}
use Rattle.step_facts.proofs.ServerEnds.{GivesHere, Shuts, TakesHere, at_server}

-- ---- what makes a session guard

takes_more-no : (key : List ℕ) (size left hold : ℕ) (k : List ℕ) → takes_more key size left ≡ Guards hold k → ⊥
takes_more-no key size left hold k e = go (left == 0) e
  where
    go : (b : Bool) → (if b then Took key size else Takes key size left) ≡ Guards hold k → ⊥
    go true g = cc
    go false g = cc

wanted_guards : (n : ℕ) (was : Doing) (hold : ℕ) (key : List ℕ) → takes_from n was ≡ Guards hold key → was ≡ Guards hold key
wanted_guards n (Wants k size) hold key e = absurd (takes_more-no k size n hold key e)
wanted_guards n Waits hold key e = e
wanted_guards n (Guards h k) hold key e = e
wanted_guards n (Gives k at left good) hold key e = e
wanted_guards n Gave hold key e = e
wanted_guards n (Takes k size left) hold key e = e
wanted_guards n (Took k size) hold key e = e

took_bytes-guards : (n : ℕ) (was : Doing) (hold : ℕ) (key : List ℕ) → took_bytes n was ≡ Guards hold key → was ≡ Guards hold key
took_bytes-guards n (Takes k size left) hold key e = absurd (takes_more-no k (size + n) (_) hold key e)
took_bytes-guards n Waits hold key e = e
took_bytes-guards n (Guards h k) hold key e = e
took_bytes-guards n (Gives k at left good) hold key e = e
took_bytes-guards n Gave hold key e = e
took_bytes-guards n (Wants k size) hold key e = e
took_bytes-guards n (Took k size) hold key e = e

gave_bytes-guards : (n : ℕ) (was : Doing) (hold : ℕ) (key : List ℕ) → gave_bytes n was ≡ Guards hold key → was ≡ Guards hold key
gave_bytes-guards n (Gives k at left good) hold key e = absurd (cc)
gave_bytes-guards n Waits hold key e = e
gave_bytes-guards n (Guards h k) hold key e = e
gave_bytes-guards n (Wants k size) hold key e = e
gave_bytes-guards n Gave hold key e = e
gave_bytes-guards n (Takes k size left) hold key e = e
gave_bytes-guards n (Took k size) hold key e = e

gives_no : (k : List ℕ) (at : ℕ) (good : Bool) (told : Option Message) (hold : ℕ) (key : List ℕ) → gives k at good told ≡ Guards hold key → ⊥
gives_no k at good (Some (Data left)) hold key e = cc
gives_no k at good told hold key e = cc

wants_no : (k : List ℕ) (told : Option Message) (hold : ℕ) (key : List ℕ) → wants k told ≡ Guards hold key → ⊥
wants_no k (Some (PutFrom size)) hold key e = cc
wants_no k told hold key e = cc

abbrev pub Shared : EntryKind → By → ℕ → List ℕ → Type 0
Shared kind by hold key = (end : ℕ) × (kind ≡ Share hold end by key)

-- only LOCKCONTENT, where it was granted
doing_guards : (size : List ℕ → Option ℕ) (kind : EntryKind) (was : Doing) (told : Option Message) (m : Message) (hold : ℕ) (key : List ℕ)
    → doing_after size kind was told m ≡ Guards hold key → (was ≡ Guards hold key) ⊎ ((k : List ℕ) × (m ≡ LockContent k) × (guards kind ≡ Guards hold key))
doing_guards size kind was told (LockContent k) hold key e = inr (k, refl, e)
doing_guards size kind was told (UnlockContent k) hold key e = absurd (cc)
doing_guards size kind was told (Get n file k) hold key e = absurd (gives_no k n (reaches (size k) n) told hold key e)
doing_guards size kind was told (Put file k) hold key e = absurd (wants_no k told hold key e)
doing_guards size kind was told (Data n) hold key e = inl (wanted_guards n was hold key e)
doing_guards size kind was told Valid hold key e = absurd (cc)
doing_guards size kind was told Invalid hold key e = absurd (cc)
doing_guards size kind was told Success hold key e = absurd (cc)
doing_guards size kind was told Failure hold key e = absurd (cc)
doing_guards size kind was told m hold key e = inl e

-- a granted lock is the session's own share
abbrev Grants : By → Reply → Type 0
Grants by x = (hold : ℕ) (key : List ℕ) → guards x.kind ≡ Guards hold key → Shared x.kind by hold key

lock_grants : (hold end : ℕ) (by : By) (key : List ℕ) (locks here : Bool) (bar : Option ℕ) → Grants by (lock_answer hold end by key locks here bar)
lock_grants hold end by key false here bar n k e = absurd (cc)
lock_grants hold end by key true false bar n k e = absurd (cc)
lock_grants hold end by key true true (Some j) n k e = absurd (cc)
lock_grants hold end by key true true None n k e =
    let h : hold ≡ n = cc in
    let q : key ≡ k = cc in
    (end, λ i. Share (h i) end by (q i))

on_lock-grants : (h : Here) (key : List ℕ) → Grants (by_of h) (on_lock h key)
on_lock-grants h key =
    let good : Reply = lock_answer h.number (now_of h + hold_time) (by_of h) key h.locks (is_here h key) (bar_on h key) in
    unless_found (Grants (by_of h)) (failing_call h.fails (to_lock h.locks (is_here h key) (bar_on h key)))
    (λ call. record { kind = Fault call (by_of h); says = failure_line; calls = [] }) good (λ call n k e. absurd (cc))
    (lock_grants h.number (now_of h + hold_time) (by_of h) key h.locks (is_here h key) (bar_on h key))

message_grants : (h : Here) (v : ℕ) (doing : Doing) (k : List ℕ) → Grants (by_of h) (on_message h v doing (LockContent k))
message_grants h v Waits k hold key e = on_lock-grants h k hold key e
message_grants h v (Guards n q) k hold key e = absurd (cc)
message_grants h v (Gives q at left good) k hold key e = absurd (cc)
message_grants h v Gave k hold key e = absurd (cc)
message_grants h v (Wants q size) k hold key e = absurd (cc)
message_grants h v (Takes q size left) k hold key e = absurd (cc)
message_grants h v (Took q size) k hold key e = absurd (cc)

-- a session that guards after a frame did so before, or shares now
abbrev pub GuardsBy : Here → Session → FrameText → EntryKind → ℕ → List ℕ → Type 0
GuardsBy h was body kind hold key = (is_opening body ≡ false) × ((was.doing ≡ Guards hold key) ⊎ Shared kind (by_of h) hold key)

text_guards : (h : Here) (size : List ℕ → Option ℕ) (was : Session) (sent : List FrameView) (m : Option Message) (hold : ℕ) (key : List ℕ)
    → (took_message size (on_text h was m).kind was (message_said sent) m).doing ≡ Guards hold key → (was.doing ≡ Guards hold key) ⊎ Shared (on_text h was m).kind (by_of h) hold key
text_guards h size was sent None hold key e = inl e
text_guards h size was sent (Some m) hold key e = elim (doing_guards size (on_message h was.version was.doing m).kind was.doing (message_said sent) m hold key e) [
  | inl x ↦ inl x
  | inr x ↦ inr (lock x.0 x.1 x.2)
]
  where
    lock : (k : List ℕ) → m ≡ LockContent k → guards (on_message h was.version was.doing m).kind ≡ Guards hold key → Shared (on_message h was.version was.doing m).kind (by_of h) hold key
    lock k is g = subst (λ (n : Message). Shared (on_message h was.version was.doing n).kind (by_of h) hold key) (sym is)
        (message_grants h was.version was.doing k hold key (subst (λ (n : Message). guards (on_message h was.version was.doing n).kind ≡ Guards hold key) is g))

pub frame_guards : (h : Here) (size : List ℕ → Option ℕ) (was : Session) (sent : List FrameView) (body : FrameText) (hold : ℕ) (key : List ℕ) → (is_opening body ≡ true → was ≡ new_session)
    → (session_took size (on_frame h was body).kind was sent body).doing ≡ Guards hold key → GuardsBy h was body (on_frame h was body).kind hold key
frame_guards h size was sent Opening hold key new e = absurd (let waits : new_session.doing ≡ Guards hold key = sym (ap (λ (z : Session). z.doing) (new refl)) ∙ e in cc)
frame_guards h size was sent Closing hold key new e = absurd (cc)
frame_guards h size was sent (Bytes n) hold key new e = (refl, inl (took_bytes-guards n was.doing hold key e))
frame_guards h size was sent (Line text) hold key new e = (refl, text_guards h size was sent (message_of text) hold key e)

-- a piece that is given leaves it as it was
one_guards : (was : Session) (body : FrameText) (hold : ℕ) (key : List ℕ) → (sent_one was body).doing ≡ Guards hold key → was.doing ≡ Guards hold key
one_guards was Opening hold key e = e
one_guards was Closing hold key e = e
one_guards was (Bytes n) hold key e = gave_bytes-guards n was.doing hold key e
one_guards was (Line text) hold key e = absurd (cc)

pub more_guards : (was : Session) (fs : List FrameView) (hold : ℕ) (key : List ℕ) → (sent_more was fs).doing ≡ Guards hold key → was.doing ≡ Guards hold key
more_guards was [] hold key e = e
more_guards was (f ∷ fs) hold key e = one_guards was f.body hold key e

pub left_guards : (shut : Bool) (x : Session) (hold : ℕ) (key : List ℕ) → (session_left shut x).doing ≡ Guards hold key → x.doing ≡ Guards hold key
left_guards true x hold key e = absurd (cc)
left_guards false x hold key e = e

-- ---- the share stands

-- the share with the hold's number, by a frame of the end's epoch
pub record Guarding (r : ℕ) (past : List Entry) (a : EndName) (hold : ℕ) (key : List ℕ) : Type 0 where
  pub share : Entry
  pub before : List Entry
  pub stands : Occurs past share before
  pub own : is_of r share ≡ true
  pub end : ℕ
  pub share_is : share.kind ≡ Share hold end (Peer a.peer a.slot) key
  pub f : FrameView
  pub took : share.taken ≡ Some f
  pub of_end : takes_at a f ≡ true
  pub epoch_is : f.epoch ≡ (end_at past r a).epoch

abbrev pub Guarded : ℕ → EndName → List Entry → Type 0
Guarded r a past = (hold : ℕ) (key : List ℕ) → (session past r a).doing ≡ Guards hold key → Guarding r past a hold key

later : (r : ℕ) (past : List Entry) (e : Entry) (a : EndName) (hold : ℕ) (key : List ℕ) → (end_at (e ∷ past) r a).epoch ≡ (end_at past r a).epoch → Guarding r past a hold key → Guarding r (e ∷ past) a hold key
later r past e a hold key same g = record {
  share = g.share;
  before = g.before;
  stands = inr g.stands;
  own = g.own;
  end = g.end;
  share_is = g.share_is;
  f = g.f;
  took = g.took;
  of_end = g.of_end;
  epoch_is = g.epoch_is ∙ sym same;
}

module _ (s : SetUp) (past : List Entry) (e : Entry) (a : EndName) (is : is_of s.number e ≡ true)
    (closed : (end_at past s.number a).opened ≡ false → session past s.number a ≡ new_session) (old : Guarded s.number a past) where
  after_shuts : Shuts a e → Guarded s.number a (e ∷ past)
  after_shuts x hold key g =
      let now : (sent_more (session past s.number a) (sent_at a e.sent)).doing ≡ Guards hold key = left_guards (sends_close (sent_at a e.sent)) (sent_more (session past s.number a) (sent_at a e.sent)) hold key
      (subst (λ (z : Session). z.doing ≡ Guards hold key) (session_own s.number past a e is ∙ ap (λ o. session_after (content past s.number) e.kind (session past s.number a) (sent_at a e.sent) o) x.takes_none) g) in
      let same : (end_at (e ∷ past) s.number a).epoch ≡ (end_at past s.number a).epoch =
      ap (λ (z : End). z.epoch) (end_own s.number past a e is ∙ end_shuts a (end_at past s.number a) e x) ∙ all_epoch (end_at past s.number a) (sent_at a e.sent) (shuts_none (sent_at a e.sent) x.closes) in
      later s.number past e a hold key same (old hold key (more_guards (session past s.number a) (sent_at a e.sent) hold key now))

  after_gives : GivesHere s past a e → Guarded s.number a (e ∷ past)
  after_gives x hold key g =
      let now : (sent_more (session past s.number a) (sent_at a e.sent)).doing ≡ Guards hold key = left_guards (sends_close (sent_at a e.sent)) (sent_more (session past s.number a) (sent_at a e.sent)) hold key
      (subst (λ (z : Session). z.doing ≡ Guards hold key) (session_own s.number past a e is ∙ ap (λ o. session_after (content past s.number) e.kind (session past s.number a) (sent_at a e.sent) o) (taken_none s past a e x)) g) in
      let same : (end_at (e ∷ past) s.number a).epoch ≡ (end_at past s.number a).epoch =
      ap (λ (z : End). z.epoch) (end_own s.number past a e is ∙ end_gave s past a e x) ∙ all_epoch (end_at past s.number a) (sent_at a e.sent) (gave_none s past a e x) in
      later s.number past e a hold key same (old hold key (more_guards (session past s.number a) (sent_at a e.sent) hold key now))

  after_takes : TakesHere s past a e → Guarded s.number a (e ∷ past)
  after_takes x hold key g =
      let h : Here = here s (state_of s past) x.k a in
      let now : (session_took (content past s.number) e.kind (session past s.number a) (sent_at a e.sent) x.f.body).doing ≡ Guards hold key =
      left_guards (sends_close (sent_at a e.sent)) (session_took (content past s.number) e.kind (session past s.number a) (sent_at a e.sent) x.f.body) hold key
      (subst (λ (z : Session). z.doing ≡ Guards hold key) (session_own s.number past a e is ∙ ap (λ o. session_after (content past s.number) e.kind (session past s.number a) (sent_at a e.sent) o) (took_at s past a e x)) g) in
      let found = frame_guards h (content past s.number) (session past s.number a) (sent_at a e.sent) x.f.body hold key
      (λ i. closed (opening_closed (end_at past s.number a) x.f i x.may))
      (subst (λ (kind : EntryKind). (session_took (content past s.number) kind (session past s.number a) (sent_at a e.sent) x.f.body).doing ≡ Guards hold key) x.kind_is now) in
      let same : (end_at (e ∷ past) s.number a).epoch ≡ (end_at past s.number a).epoch =
      ap (λ (z : End). z.epoch) (end_own s.number past a e is ∙ end_took-is s past a e x)
      ∙ all_epoch (end_takes (end_at past s.number a) x.f.epoch x.f.body) (sent_at a e.sent) (took_none s past a e x)
      ∙ takes_epoch (end_at past s.number a) x.f.epoch x.f.body found.0 in
      by found.0 same found.1
    where
      by : is_opening x.f.body ≡ false → (end_at (e ∷ past) s.number a).epoch ≡ (end_at past s.number a).epoch
          → ((session past s.number a).doing ≡ Guards hold key) ⊎ Shared (on_frame (here s (state_of s past) x.k a) (session past s.number a) x.f.body).kind (Peer a.peer a.slot) hold key → Guarding s.number (e ∷ past) a hold key
      by none same (inl was) = later s.number past e a hold key same (old hold key was)
      by none same (inr y) = record {
        share = e;
        before = past;
        stands = inl (refl, refl);
        own = is;
        end = y.0;
        share_is = x.kind_is ∙ y.1;
        f = x.f;
        took = x.taken_is;
        of_end = x.of_end;
        epoch_is = (may_epoch (end_at past s.number a) x.f none x.may).1 ∙ sym same;
      }

-- while a session guards a hold, its share stands
pub guards_stand : (s : SetUp) (past : List Entry) (p q : ℕ) → OwnRun s past → Guarded s.number (server_end p q) past
guards_stand s past p q run = own_induction s (Guarded s.number (server_end p q)) (λ hold key g. absurd (cc)) others own past run
  where
    others : (past : List Entry) (e : Entry) → is_of s.number e ≡ false → Guarded s.number (server_end p q) past → Guarded s.number (server_end p q) (e ∷ past)
    others past e is old hold key g =
        let same : end_at (e ∷ past) s.number (server_end p q) ≡ end_at past s.number (server_end p q) = rw is refl in
        later s.number past e (server_end p q) hold key (ap (λ (z : End). z.epoch) same) (old hold key (rw is at g))

    own : (past : List Entry) (e : Entry) (words : ℕ → Option Word) → OwnRun s past → is_of s.number e ≡ true → OwnPart s past words e → Guarded s.number (server_end p q) past → Guarded s.number (server_end p q) (e ∷ past)
    own past e words run is part old = elim (at_server s past words e p q part) [
      | inl x ↦ after_shuts s past e (server_end p q) is (closed_new s p q past run) old x
      | inr (inl x) ↦ after_takes s past e (server_end p q) is (closed_new s p q past run) old x
      | inr (inr x) ↦ after_gives s past e (server_end p q) is (closed_new s p q past run) old x
    ]
