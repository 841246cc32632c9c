-- What the steps found by which a job comes to a phase where a refusal stands: an old protocol, a key being filled, locks that expired.
use Rattle.std.proofs.Common.{◌≡◌, ◌≢◌, ℕ, ◌/◌, ◌-◌, ◌+◌, ◌^◌, Bool, true, false, List, [], ◌∷◌, Option, Some, None, ◌⊎◌, inl, inr, refl, sym, ap, ◌∙◌, subst}
use Rattle.std.specs.Prelude.{if◌then◌else◌, ◌==◌, nat_le, nat_lt, bytes_eq, codes}
use Rattle.std.specs.List.{list_all}
use Rattle.std.proofs.lemmas.Bool.{eqb-true}
use Rattle.annex_base.specs.declared.kinds.Call.{Call}
use Rattle.annex_base.proofs.Conditions.{if_either}
use Rattle.annex_base.specs.declared.kinds.Call.TheVariants as calls
use Rattle.drop_proof.specs.declared.rule.Side.{Side}
use Rattle.drop_proof.specs.declared.rule.Side.TheVariants.{Local, Remote}
use Rattle.run_data.specs.declared.entry.EntryKind.{EntryKind}
use Rattle.run_data.specs.declared.entry.EntryKind.TheVariants.{Fault, Talk, End as ends_job}
use Rattle.run_data.specs.declared.entry.FrameView.{FrameView}
use Rattle.run_data.specs.declared.entry.FrameText.{FrameText}
use Rattle.run_data.specs.declared.entry.FrameText.TheVariants.{Opening, Closing, Bytes, Line}
use Rattle.run_data.specs.declared.job.Outcome.{Outcome}
use Rattle.run_data.specs.declared.job.Outcome.TheVariants.{Refused, TransferRefused}
use Rattle.run_data.specs.declared.job.TransferRefusal.TheVariants as failures
use Rattle.run_data.specs.declared.job.DropRefusal.TheVariants as refusals
use Rattle.node_model.specs.Calls.{to_resume}
use Rattle.node_model.specs.Rows.{is_lost_ordered}
use Rattle.p2p_wire.specs.declared.message.Message.{Message}
use Rattle.p2p_wire.specs.declared.message.Message.TheVariants.{Error, Get, GetTimestamp, RemoveBefore, Timestamp, Version}
use Rattle.p2p_wire.specs.Messages.{message_of}
use Rattle.node_model.specs.Sessions.{line_in}
use Rattle.node_model.specs.Jobs.{AsksTime, Drops, Gets, Greets, Next, Part, Phase, Puts, PutsOffer, job_end, partner, side_of}
use Rattle.node_model.specs.Look.{Effect, waiting_frame}
use Rattle.node_model.specs.Knows.{enough_by, next_by}
use Rattle.node_model.specs.JobStep.{Turn, attempts, by_me, clock_of, end_with, ends, farewells, hears, key_of, quietly, says_to, sends_to, talk, wrong_message}
use Rattle.node_model.specs.DropStep.{asks_copy, asks_lock, asks_target, first_end, in_time, expiry, lacking_outcome, orders, takes_drop, takes_time, target, times}
use Rattle.node_model.specs.Requests.{asks, goes_to}
use Rattle.node_model.specs.TransferStep.{next_get, next_source}
use Rattle.node_model.specs.Turns.{awaits, by_partner, goes, goes_on, has_room, judges, needs, next_step, takes, takes_answer, takes_frame, takes_text, with_partner}
use Rattle.step_facts.proofs.ClientSteps.{attempts_even}
use Rattle.job_facts.proofs.HeardSteps.{takes_line}

-- ---- the target's version is too old

-- a remote drop asks its target, and there is a lock
pub record Old (t : Turn) (version peer : ℕ) : Type 0 where
  pub part_is : t.w.part ≡ Drops
  pub side : side_of t.w ≡ Remote
  pub target_is : target t ≡ peer
  pub old : nat_lt version 3 ≡ true
  pub end : ℕ
  pub first : first_end t ≡ Some end

abbrev pub Silent : Effect → Type 0
Silent m = m.sent ≡ []

target_old : (t : Turn) (version peer : ℕ) (taken : Option FrameView) → t.w.part ≡ Drops → side_of t.w ≡ Remote → target t ≡ peer → (end : Option ℕ) → first_end t ≡ end → Silent (asks_target t version taken end) → Old t version peer
target_old t version peer taken part side is None first silent = absurd (cc)
target_old t version peer taken part side is (Some end) first silent = go (nat_lt version 3) refl silent
  where
    go : (b : Bool) → nat_lt version 3 ≡ b → Silent (if b then quietly (talk t) taken else says_to t (talk t) taken (target t) GetTimestamp) → Old t version peer
    go true old silent = record { part_is = part; side = side; target_is = is; old = old; end = end; first = first }
    go false old silent = absurd (cc)

copy_old : (t : Turn) (version peer : ℕ) (taken : Option FrameView) → t.w.part ≡ Drops → (side : Side) → side_of t.w ≡ side → Silent (asks_copy t version taken peer side) → Old t version peer
copy_old t version peer taken part Local side silent = absurd (cc)
copy_old t version peer taken part Remote side silent = go (target t == peer) refl silent
  where
    go : (b : Bool) → (target t == peer) ≡ b → Silent (if b then asks_target t version taken (first_end t) else asks_lock t taken peer) → Old t version peer
    go true is silent = target_old t version peer taken part side (eqb-true (target t) peer is) (first_end t) refl silent
    go false is silent = absurd (cc)

-- a talk
abbrev pub IsTalkBy : EntryKind → Type 0
IsTalkBy (Talk j) = Unit {0}
IsTalkBy kind = ⊥

abbrev pub QuietOld : Turn → ℕ → Effect → Type 0
QuietOld t version m = IsTalkBy m.kind → Silent m → (peer : ℕ) × Old t version peer × ((enough_by t.read t.w ≡ true) ⊎ (next_by t.read t.w ≡ Some peer))

attempts_old : (t : Turn) (version : ℕ) (cs : List Call) (taken : Option FrameView) (m : Effect) → QuietOld t version m → QuietOld t version (attempts t cs taken m)
attempts_old t version cs taken m good = attempts_even (QuietOld t version) t cs taken m (λ call e k silent. absurd k) good

asks_old : (t : Turn) (version peer : ℕ) (taken : Option FrameView) (part : Part) → t.w.part ≡ part → IsTalkBy (asks t version taken peer part).kind → Silent (asks t version taken peer part) → Old t version peer
asks_old t version peer taken Gets is = attempts_even (λ (m : Effect). IsTalkBy m.kind → Silent m → Old t version peer) t (to_resume t.look.part) taken (says_to t (talk t) taken peer (Get t.look.part [] (key_of t))) (λ call e k silent. absurd k) (λ k silent. absurd (cc))
asks_old t version peer taken Puts is = λ k silent. absurd (cc)
asks_old t version peer taken Drops is = λ k silent. copy_old t version peer taken is (side_of t.w) refl silent

-- as it takes the version
pub greets_old : (t : Turn) (f : FrameView) (peer p n : ℕ) → t.w.phase ≡ Greets p → line_in f.body ≡ Some (Version n) → IsTalkBy (takes_frame t peer f f.body).kind → Silent (takes_frame t peer f f.body) → Old t n peer
greets_old t f peer p n is told =
    let same = takes_line t peer f (Version n) (Greets p) is told in
    subst (λ (m : Effect). IsTalkBy m.kind → Silent m → Old t n peer) (sym same)
    (if_either (λ (m : Effect). IsTalkBy m.kind → Silent m → Old t n peer) (nat_le n 3) (asks t n (Some f) peer t.w.part) (wrong_message t f peer) (λ e. asks_old t n peer (Some f) t.w.part refl) (λ e k silent. absurd (cc)))

goes_old : (t : Turn) (peer : ℕ) → (t.w.part ≡ Drops → (enough_by t.read t.w ≡ true) ⊎ (next_by t.read t.w ≡ Some peer)) → QuietOld t t.w.version (goes_to t peer)
goes_old t peer chosen = if_either (QuietOld t t.w.version) (end_with t peer).opened (asks t t.w.version None peer t.w.part) (sends_to t (talk t) None peer (Opening ∷ []))
    (λ e k silent. let old = asks_old t t.w.version peer None t.w.part refl k silent in (peer, old, chosen old.part_is)) (λ e k silent. absurd (cc))

ends_old : (t : Turn) (taken : Option FrameView) (outcome : Outcome) → QuietOld t t.w.version (ends t taken outcome)
ends_old t taken outcome = attempts_old t t.w.version _ taken (record { kind = ends_job t.w.number outcome; taken = taken; sent = farewells t (is_lost_ordered outcome); lines = []; calls = [] }) (λ k silent. absurd k)

judges_old : (t : Turn) (enough : Bool) (next : Option ℕ) (side : Side) → enough_by t.read t.w ≡ enough → next_by t.read t.w ≡ next → QuietOld t t.w.version (judges t enough next side)
judges_old t false (Some peer) side a b = goes_old t peer (λ part. inr b)
judges_old t false None side a b = ends_old t None (lacking_outcome t)
judges_old t true next Local a b = if_either (QuietOld t t.w.version) (in_time (clock_of t) (first_end t)) (attempts t (calls.Remove ∷ []) None (quietly _ None)) (ends t None (expiry (clock_of t) (first_end t)))
    (λ e. attempts_old t t.w.version (calls.Remove ∷ []) None (quietly _ None) (λ k silent. absurd k)) (λ e. ends_old t None (expiry (clock_of t) (first_end t)))
judges_old t true next Remote a b = goes_old t (target t) (λ part. inl a)

source_old : (t : Turn) (source : Option ℕ) → t.w.part ≢ Drops → QuietOld t t.w.version (next_get t source)
source_old t None apart = ends_old t None (TransferRefused (failures.NoSource t.w.causes))
source_old t (Some peer) apart = goes_old t peer (λ part. absurd (apart part))

next_part : (t : Turn) (part : Part) → t.w.part ≡ part → QuietOld t t.w.version (next_step t part)
next_part t Drops is = judges_old t (enough_by t.read t.w) (next_by t.read t.w) (side_of t.w) refl refl
next_part t Gets is = source_old t (next_source t) (λ d. let both : Gets ≡ Drops = sym is ∙ d in cc)
next_part t Puts is = source_old t (next_source t) (λ d. let both : Puts ≡ Drops = sym is ∙ d in cc)

-- as it goes to a target that is open already
pub next_old : (t : Turn) (m : Effect) → t.w.phase ≡ Next → by_partner t (partner t.w.what.peer t.w.phase) ≡ Some m → QuietOld t t.w.version m
next_old t m is e = go (list_all (has_room t) (needs t t.w.phase)) (subst (λ (p : Option ℕ). by_partner t p ≡ Some m) (ap (partner t.w.what.peer) is) e)
  where
    go : (b : Bool) → (if b then Some (goes t t.w.phase) else None) ≡ Some m → QuietOld t t.w.version m
    go true g =
        let made : goes t t.w.phase ≡ m = cc in
        subst (QuietOld t t.w.version) (sym (ap (goes t) is) ∙ made) (next_part t t.w.part refl)
    go false g = absurd (cc)

-- ---- the key is being filled there

pub busy_text : (t : Turn) (f : FrameView) (peer p : ℕ) (text : List ℕ) → t.w.phase ≡ PutsOffer p → t.w.part ≡ Puts → line_in f.body ≡ Some (Error text) → Silent (takes_frame t peer f f.body) → bytes_eq text (codes "busy") ≡ true
busy_text t f peer p text is part told silent =
    go (bytes_eq text (codes "busy")) refl (subst Silent (takes_line t peer f (Error text) (PutsOffer p) is told ∙ ap (λ (q : Part). takes_answer t f peer q (PutsOffer p) (Error text)) part) silent)
  where
    go : (b : Bool) → bytes_eq text (codes "busy") ≡ b → Silent (if b then hears t f else wrong_message t f peer) → bytes_eq text (codes "busy") ≡ true
    go true is silent = is
    go false is silent = absurd (cc)

-- ---- the locks had expired

-- the clock wasn't below the first end
pub record TooLate (t : Turn) : Type 0 where
  pub end : ℕ
  pub first : first_end t ≡ Some end
  pub late : nat_lt (clock_of t) end ≡ false

abbrev pub LateBy : Turn → EntryKind → Type 0
LateBy t (Fault calls.Unhold owner) = TooLate t
LateBy t kind = Unit {0}

times_late : (t : Turn) (f : FrameView) (n : ℕ) (end : Option ℕ) → first_end t ≡ end → LateBy t (times t f n end).kind
times_late t f n None first = tt
times_late t f n (Some end) first = go (nat_lt (clock_of t) end) refl
  where
    ended : nat_lt (clock_of t) end ≡ false → LateBy t (ends t (Some f) (Refused (refusals.Expired end (clock_of t)))).kind
    ended late = attempts_even (λ (m : Effect). LateBy t m.kind) t _ (Some f) (record { kind = ends_job t.w.number (Refused (refusals.Expired end (clock_of t))); taken = Some f; sent = farewells t false; lines = []; calls = [] })
        (λ call e. at call) tt
      where
        at : (call : Call) → LateBy t (Fault call (by_me t))
        at calls.Unhold = record { end = end; first = first; late = late }
        at call = tt

    go : (b : Bool) → nat_lt (clock_of t) end ≡ b → LateBy t (if b then orders t (Some f) (Some (n + (end - clock_of t) / 1000)) (RemoveBefore (n + (end - clock_of t) / 1000) (key_of t)) else ends t (Some f) (Refused (refusals.Expired end (clock_of t)))).kind
    go true late = tt
    go false late = ended late

time_late : (t : Turn) (f : FrameView) (peer n : ℕ) (side : Side) → LateBy t (takes_time t f peer n side).kind
time_late t f peer n Local = tt
time_late t f peer n Remote = if_either (λ (m : Effect). LateBy t m.kind) (nat_lt n (2 ^ 61)) (times t f n (first_end t)) (wrong_message t f peer) (λ e. times_late t f n (first_end t) refl) (λ e. tt)

message_late : (t : Turn) (f : FrameView) (peer : ℕ) (m : Message) → LateBy t (takes_drop t f peer AsksTime m).kind
message_late t f peer (Timestamp n) = time_late t f peer n (side_of t.w)
message_late t f peer m = tt

text_late : (t : Turn) (f : FrameView) (peer : ℕ) (phase : Phase) → phase ≡ AsksTime → t.w.part ≡ Drops → (m : Message) → LateBy t (takes t f peer phase m).kind
text_late t f peer phase is part m = subst (λ (p : Phase). LateBy t (takes t f peer p m).kind) (sym is) (subst (λ (q : Part). LateBy t (takes_answer t f peer q AsksTime m).kind) (sym part) (message_late t f peer m))

body_late : (t : Turn) (f : FrameView) (peer : ℕ) (body : FrameText) → t.w.phase ≡ AsksTime → t.w.part ≡ Drops → LateBy t (takes_frame t peer f body).kind
body_late t f peer Opening is part = tt
body_late t f peer Closing is part = tt
body_late t f peer (Bytes n) is part = subst (λ (p : Phase). LateBy t (Rattle.node_model.specs.TransferStep.takes_bytes t f peer n p).kind) (sym is) tt
body_late t f peer (Line text) is part = line (message_of text)
  where
    line : (m : Option Message) → LateBy t (takes_text t f peer m).kind
    line None = tt
    line (Some m) = text_late t f peer t.w.phase is part m

-- a release fails for a job that has asked its target's time
pub time_late_by : (t : Turn) (m : Effect) (peer : ℕ) → t.w.phase ≡ AsksTime → t.w.part ≡ Drops → t.w.what.peer ≡ Some peer → by_partner t (partner t.w.what.peer t.w.phase) ≡ Some m → LateBy t m.kind
time_late_by t m peer is part at e =
    go (end_with t peer).opened (subst (λ (p : Option ℕ). by_partner t p ≡ Some m) (ap (partner t.w.what.peer) is ∙ at) e)
  where
    go : (b : Bool) → with_partner t peer b ≡ Some m → LateBy t m.kind
    go false g = let made : quietly (talk t) None ≡ m = cc in subst (λ (x : Effect). LateBy t x.kind) made tt
    go true g = taken (waiting_frame (end_with t peer) t.look (job_end t.w peer)) (subst (λ (b : Bool). (if b then awaits t peer (waiting_frame (end_with t peer) t.look (job_end t.w peer)) else goes_on t) ≡ Some m) (ap Rattle.node_model.specs.Turns.is_awaiting is) g)
      where
        taken : (o : Option FrameView) → awaits t peer o ≡ Some m → LateBy t m.kind
        taken None h = absurd (cc)
        taken (Some f) h = room (has_room t peer) h
          where
            room : (b : Bool) → (if b then Some (takes_frame t peer f f.body) else None) ≡ Some m → LateBy t m.kind
            room true k = let made : takes_frame t peer f f.body ≡ m = cc in subst (λ (x : Effect). LateBy t x.kind) made (body_late t f peer f.body is part)
            room false k = absurd (cc)

-- ---- a drop that is refused for its time knows enough

abbrev pub EnoughBy : Turn → EntryKind → Type 0
EnoughBy t (ends_job j (Refused (refusals.Expired end clk))) = enough_by t.read t.w ≡ true
EnoughBy t kind = Unit {0}

abbrev EnoughMade : Turn → Effect → Type 0
EnoughMade t m = EnoughBy t m.kind

attempts_enough : (t : Turn) (cs : List Call) (taken : Option FrameView) (m : Effect) → EnoughMade t m → EnoughMade t (attempts t cs taken m)
attempts_enough t cs taken m good = attempts_even (EnoughMade t) t cs taken m (λ call e. tt) good

target_enough : (t : Turn) (version : ℕ) (taken : Option FrameView) (end : Option ℕ) → EnoughMade t (asks_target t version taken end)
target_enough t version taken None = tt
target_enough t version taken (Some end) = if_either (EnoughMade t) (nat_lt version 3) (quietly (talk t) taken) (says_to t (talk t) taken (target t) GetTimestamp) (λ e. tt) (λ e. tt)

copy_enough : (t : Turn) (version : ℕ) (taken : Option FrameView) (peer : ℕ) (side : Side) → EnoughMade t (asks_copy t version taken peer side)
copy_enough t version taken peer Local = tt
copy_enough t version taken peer Remote = if_either (EnoughMade t) (target t == peer) (asks_target t version taken (first_end t)) (asks_lock t taken peer) (λ e. target_enough t version taken (first_end t)) (λ e. tt)

asks_enough : (t : Turn) (version : ℕ) (taken : Option FrameView) (peer : ℕ) (part : Part) → EnoughMade t (asks t version taken peer part)
asks_enough t version taken peer Gets = attempts_enough t (to_resume t.look.part) taken (says_to t (talk t) taken peer (Get t.look.part [] (key_of t))) tt
asks_enough t version taken peer Puts = tt
asks_enough t version taken peer Drops = copy_enough t version taken peer (side_of t.w)

goes_enough : (t : Turn) (peer : ℕ) → EnoughMade t (goes_to t peer)
goes_enough t peer = if_either (EnoughMade t) (end_with t peer).opened (asks t t.w.version None peer t.w.part) (sends_to t (talk t) None peer (Opening ∷ [])) (λ e. asks_enough t t.w.version None peer t.w.part) (λ e. tt)

expired_enough : (t : Turn) (clk : ℕ) (end : Option ℕ) → enough_by t.read t.w ≡ true → EnoughMade t (ends t None (expiry clk end))
expired_enough t clk None enough = attempts_enough t _ None (record { kind = ends_job t.w.number (expiry clk None); taken = None; sent = farewells t false; lines = []; calls = [] }) enough
expired_enough t clk (Some end) enough = attempts_enough t _ None (record { kind = ends_job t.w.number (expiry clk (Some end)); taken = None; sent = farewells t false; lines = []; calls = [] }) enough

judges_enough : (t : Turn) (enough : Bool) (next : Option ℕ) (side : Side) → enough_by t.read t.w ≡ enough → EnoughMade t (judges t enough next side)
judges_enough t false (Some peer) side e = goes_enough t peer
judges_enough t false None side e = attempts_enough t _ None (record { kind = ends_job t.w.number (lacking_outcome t); taken = None; sent = farewells t false; lines = []; calls = [] }) tt
judges_enough t true next Local e = if_either (EnoughMade t) (in_time (clock_of t) (first_end t)) (attempts t (calls.Remove ∷ []) None (quietly _ None)) (ends t None (expiry (clock_of t) (first_end t)))
    (λ h. attempts_enough t (calls.Remove ∷ []) None (quietly _ None) tt) (λ h. expired_enough t (clock_of t) (first_end t) e)
judges_enough t true next Remote e = goes_enough t (target t)

pub next_enough : (t : Turn) (m : Effect) → t.w.phase ≡ Next → t.w.part ≡ Drops → by_partner t (partner t.w.what.peer t.w.phase) ≡ Some m → EnoughBy t m.kind
next_enough t m is part e = go (list_all (has_room t) (needs t t.w.phase)) (subst (λ (p : Option ℕ). by_partner t p ≡ Some m) (ap (partner t.w.what.peer) is) e)
  where
    go : (b : Bool) → (if b then Some (goes t t.w.phase) else None) ≡ Some m → EnoughBy t m.kind
    go true g =
        let made : goes t t.w.phase ≡ m = cc in
        subst (EnoughMade t) (sym (ap (goes t) is) ∙ made) (subst (λ (p : Part). EnoughMade t (next_step t p)) (sym part) (judges_enough t (enough_by t.read t.w) (next_by t.read t.w) (side_of t.w) refl))
    go false g = absurd (cc)
