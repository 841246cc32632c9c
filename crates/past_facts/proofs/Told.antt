-- What a job hears is what it was told: by what each repository does by itself, and because what is taken is a prefix of what
-- is sent.
use Rattle.std.proofs.Common.{◌≡◌, ℕ, Bool, true, false, not, ◌&&◌, List, [], ◌∷◌, length, Option, Some, None, ◌⊎◌, inl, inr, refl, sym, ap, ◌∙◌, subst}
use Rattle.std.specs.Prelude.{map, slice_get, option_map, if◌then◌else◌, ◌==◌, ◌≢◌}
use Rattle.std.proofs.lemmas.Bool.{true≢false, and_parts, and_from, eqb-true, or_left, or_right}
use Rattle.annex_base.specs.Lists.{Member}
use Rattle.annex_base.specs.declared.kinds.Found.{Found}
use Rattle.annex_base.specs.declared.kinds.Found.TheVariants.{Present}
use Rattle.annex_base.proofs.Lists.{list_any_member, Member-filter_parts}
use Rattle.annex_base.proofs.Conditions.{eqb_refl, same_bool_is, same_bool_refl}
use Rattle.annex_base.specs.Bools.{same_bool}
use Rattle.run_data.specs.declared.entry.By.TheVariants.{Job as by_job, Peer}
use Rattle.run_data.specs.declared.entry.Entry.{Entry}
use Rattle.run_data.specs.declared.entry.EntryKind.{EntryKind}
use Rattle.run_data.specs.declared.entry.EntryKind.TheVariants.{Share, Check}
use Rattle.run_data.specs.declared.entry.FrameText.{FrameText}
use Rattle.run_data.specs.declared.entry.FrameView.{FrameView}
use Rattle.run_data.specs.declared.run.RepoView.{RepoView}
use Rattle.run_model.specs.Past.{Always, Occurs, is_of}
use Rattle.node_model.specs.Rows.{option_is}
use Rattle.p2p_wire.specs.declared.message.Message.TheVariants.{CheckPresent, LockContent, Success}
use Rattle.run_model.specs.Said.{Said, Says, message_in, is_request}
use Rattle.step_facts.proofs.Ways.{is_answer, way_from, down_of, answers}
use Rattle.run_model.specs.Frames.{Way, FlyingFrame, MayTake, SendingEntry, is_on, is_job, on_way, sender, sender_of, frames_sent, sending_entry, taker_of, taken_count, taken_if, takes, way_of, up_of, last_request}
use Rattle.node_model.specs.Slots.{job_of}
use Rattle.run_model.specs.Drops.{Asker, Vouch, Lock, Look, asked_at, asker, asker_by, asker_of, is_asker, newer, reply, tells, vouches_sent, vouch, vouch_kind}
use Rattle.past_facts.proofs.Heard.{Heard, Locked_at, Seen_there, heard, heard_answer, heard_frame, heard_kind, heard_request, hears, newer_heard}
use Rattle.past_facts.proofs.Own.{Meets, MessagePast, Own, SaysYes, asks_copy, uses}
use Rattle.std.specs.List.{list_any}
use Rattle.std.proofs.lemmas.Option.{same_Some}
use Rattle.step_facts.proofs.Flights.{Sending, occurs_always, occurs_earlier, sending, sent_from}
use Rattle.past_facts.proofs.Turns.{OneEach, Prefix, right_turn}
use Rattle.step_facts.proofs.Plain.{option_same}

-- ---- ways

pub sender_way : (r : ℕ) (f : FrameView) → sender_of (way_of r f) ≡ f.peer
sender_way r f = go f.up
  where
    go : (b : Bool) → (if b then (if b then f.peer else r) else (if b then r else f.peer)) ≡ f.peer
    go true = refl
    go false = refl

pub taker_way : (r : ℕ) (f : FrameView) → taker_of (way_of r f) ≡ r
taker_way r f = go f.up
  where
    go : (b : Bool) → (if b then (if b then r else f.peer) else (if b then f.peer else r)) ≡ r
    go true = refl
    go false = refl

-- what a frame on a way says of it
pub record OnWay (w : Way) (peer : ℕ) (g : FrameView) : Type 0 where
  pub peer_is : g.peer ≡ peer
  pub slot_is : g.slot ≡ w.slot
  pub up_is : g.up ≡ w.up
  pub epoch_is : g.epoch ≡ w.epoch

pub on_parts : (w : Way) (peer : ℕ) (g : FrameView) → is_on w peer g ≡ true → OnWay w peer g
on_parts w peer g h =
    let a = and_parts (g.peer == peer) _ h in
    let b = and_parts (g.slot == w.slot) _ a.1 in
    let c = and_parts (same_bool g.up w.up) _ b.1 in
    record { peer_is = eqb-true g.peer peer a.0; slot_is = eqb-true g.slot w.slot b.0; up_is = same_bool_is g.up w.up c.0; epoch_is = eqb-true g.epoch w.epoch c.1 }

pub on_own : (r : ℕ) (f : FrameView) → is_on (way_of r f) (sender_of (way_of r f)) f ≡ true
on_own r f = and_from (f.peer == sender_of (way_of r f)) _ (subst (λ p. (f.peer == p) ≡ true) (sym (sender_way r f)) (eqb_refl f.peer))
    (and_from (f.slot == f.slot) _ (eqb_refl f.slot) (and_from (same_bool f.up f.up) _ (same_bool_refl f.up) (eqb_refl f.epoch)))

-- the way of a frame that is taken from it
pub way_taken : (w : Way) (f : FrameView) → is_on w (sender_of w) f ≡ true → way_of (taker_of w) f ≡ w
way_taken w f h = let p = on_parts w (sender_of w) f h in go w.client w.server w.slot w.epoch w.up f.up f.peer f.slot f.epoch p.peer_is p.slot_is p.up_is p.epoch_is
  where
    go : (client server slot epoch : ℕ) (up b : Bool) (peer s e : ℕ) → peer ≡ (if up then client else server) → s ≡ slot → b ≡ up → e ≡ epoch
        → let x : Way = record { client = if b then peer else (if up then server else client); server = if b then (if up then server else client) else peer; slot = s; up = b; epoch = e } in
        let y : Way = record { client = client; server = server; slot = slot; up = up; epoch = epoch } in x ≡ y
    go client server slot epoch true true peer s e p q u v = rw (p, q, v) refl
    go client server slot epoch false false peer s e p q u v = rw (p, q, v) refl
    go client server slot epoch true false peer s e p q u v = cc
    go client server slot epoch false true peer s e p q u v = cc

-- the way of a frame that is sent on it
pub way_sent : (w : Way) (g : FrameView) → is_on w (taker_of w) g ≡ true → way_from (sender_of w) g ≡ w
way_sent w g h = let p = on_parts w (taker_of w) g h in go w.client w.server w.slot w.epoch w.up g.up g.peer g.slot g.epoch p.peer_is p.slot_is p.up_is p.epoch_is
  where
    go : (client server slot epoch : ℕ) (up b : Bool) (peer s e : ℕ) → peer ≡ (if up then server else client) → s ≡ slot → b ≡ up → e ≡ epoch
        → let x : Way = record { client = if b then (if up then client else server) else peer; server = if b then peer else (if up then client else server); slot = s; up = b; epoch = e } in
        let y : Way = record { client = client; server = server; slot = slot; up = up; epoch = epoch } in x ≡ y
    go client server slot epoch true true peer s e p q u v = rw (p, q, v) refl
    go client server slot epoch false false peer s e p q u v = rw (p, q, v) refl
    go client server slot epoch true false peer s e p q u v = cc
    go client server slot epoch false true peer s e p q u v = cc

pub sends_on : (w : Way) (e : Entry) (g : FrameView) → Member g (on_way w e) → is_on w (taker_of w) g ≡ true
sends_on w e g m = (Member-filter_parts (is_on w (taker_of w)) e.sent g m).1

pub sends_member : (w : Way) (e : Entry) (g : FrameView) → Member g (on_way w e) → Member g e.sent
sends_member w e g m = (Member-filter_parts (is_on w (taker_of w)) e.sent g m).0

-- ---- facts of a run

pub always_weaker : (P Q : List Entry → Entry → Type 0) → ((p : List Entry) (e : Entry) → P p e → Q p e) → (past : List Entry) → Always P past → Always Q past
always_weaker P Q f [] h = tt
always_weaker P Q f (e ∷ past) h = (f past e h.0, always_weaker P Q f past h.1)

pub prefixes : (repos : List RepoView) (past : List Entry) (w : Way) → MessagePast repos past → Always (Prefix w) past
prefixes repos past w all = always_weaker (Meets repos) (Prefix w) one past all
  where
    one : (p : List Entry) (e : Entry) → Meets repos p e → Prefix w p e
    one p e m f is takes on = subst (λ v. MayTake p v f) (way_taken w f on) (m.frames (taker_of w) f is takes)

pub one_answers : (repos : List RepoView) (past : List Entry) (w : Way) → MessagePast repos past → Always (OneEach is_answer w) past
one_answers repos past w all = always_weaker (Meets repos) (OneEach is_answer w) (λ p e m is. (m.own (sender_of w) is).one_answer w) past all

pub own_at : (repos : List RepoView) (past : List Entry) (x : Entry) (before : List Entry) (r : ℕ) → MessagePast repos past → Occurs past x before → is_of r x ≡ true → Own repos r before x
own_at repos past x before r all o is = (occurs_always (Meets repos) past x before all o).own r is

-- ---- what an entry vouches to a peer's job

abbrev pub heard_of : Vouch → Heard
heard_of (Lock hold since owner key) = Locked_at since key
heard_of (Look key) = Seen_there key

abbrev pub is_success : Said → Bool
is_success (Says Success) = true
is_success _ = false

success_is : (m : Said) → is_success m ≡ true → m ≡ Says Success
success_is (Says Success) h = refl
success_is _ h = cc

heard_nothing : (m : Said) (o : Option FlyingFrame) → is_success m ≡ false → heard_answer m o ≡ []
heard_nothing (Says Success) o h = cc
heard_nothing _ o h = refl

-- the entry says yes to a request for a copy
pub record Yes (r : ℕ) (e : Entry) : Type 0 where
  pub asked : Said
  pub copy : asks_copy asked ≡ true
  pub says_yes : SaysYes r e asked

-- what a repository vouches to another's job it says by SUCCESS
pub vouch_cases : (repos : List RepoView) (before : List Entry) (x : Entry) (r a j : ℕ) → Own repos r before x → r ≢ a → (vouch before x r a j ≡ []) ⊎ Yes r x
vouch_cases repos before x r a j own other = go (is_of r x)
  where
    not_own : (b : Bool) → (r == a) ≡ b → (v : Vouch) (c : Bool) → (if b && c then v ∷ [] else []) ≡ []
    not_own true h v c = absurd (other (eqb-true r a h))
    not_own false h v c = refl

    nothing : (b : Bool) (vs : List Vouch) → vs ≡ [] → (if b then vs else []) ≡ []
    nothing true vs e = e
    nothing false vs e = refl

    look : (found : Found) (key : List ℕ) (asker' : Option Asker) → x.kind ≡ Check found key → (vouch_kind r a j x.time asker' (Check found key) ≡ []) ⊎ Yes r x
    look Present key o h = inr (record { asked = Says (CheckPresent key); copy = refl; says_yes = (own.look key h).1 })
    look _ key o h = inl (nothing (is_asker a j o) [] refl)

    by_kind : (asker' : Option Asker) (kind : EntryKind) → x.kind ≡ kind → (vouch_kind r a j x.time asker' kind ≡ []) ⊎ Yes r x
    by_kind o (Share hold end (by_job i) key) h = inl (not_own (r == a) refl (Lock hold x.time (by_job i) key) (i == j))
    by_kind o (Share hold end (Peer p s) key) h = inr (record { asked = Says (LockContent key); copy = refl; says_yes = (own.shares_with hold end p s key h).answer })
    by_kind o (Check found key) h = look found key o h
    by_kind o _ h = inl refl

    go : (b : Bool) → ((if b then vouch_kind r a j x.time (asker before r x) x.kind else []) ≡ []) ⊎ Yes r x
    go true = by_kind (asker before r x) x.kind refl
    go false = inl refl

alone_is : (g h : FrameView) (gs : List FrameView) → gs ≡ h ∷ [] → Member g gs → g ≡ h
alone_is g h gs e m = one (subst (λ xs. Member g xs) e m)
  where
    one : Member g (h ∷ []) → g ≡ h
    one (inl s) = s
    one (inr k) = absurd k

-- an entry that sends something else, or up, vouches nothing
vouch_quiet : (repos : List RepoView) (before : List Entry) (x : Entry) (r a j : ℕ) (g : FrameView) → Own repos r before x → r ≢ a → Member g x.sent → (g.up ≡ true) ⊎ (is_success (message_in g.body) ≡ false) → vouch before x r a j ≡ []
vouch_quiet repos before x r a j g own other m why = elim (vouch_cases repos before x r a j own other) [ inl s ↦ s | inr yes' ↦ absurd (not_so yes' why) ]
  where
    not_so : Yes r x → (g.up ≡ true) ⊎ (is_success (message_in g.body) ≡ false) → ⊥
    not_so k (inl up) = let same : g ≡ k.says_yes.g = alone_is g k.says_yes.g x.sent k.says_yes.alone m in
        let down : k.says_yes.g.up ≡ false = ap (λ (w : Way). w.up) k.says_yes.back in
        true≢false (sym up ∙ ap (λ (h : FrameView). h.up) same ∙ down)
    not_so k (inr no') = let same : g ≡ k.says_yes.g = alone_is g k.says_yes.g x.sent k.says_yes.alone m in
        true≢false (sym (ap is_success (ap (λ (h : FrameView). message_in h.body) same ∙ k.says_yes.yes)) ∙ no')

pub up_is : (r : ℕ) (f : FrameView) → f.up ≡ true → up_of (way_of r f) ≡ way_of r f
up_is r f h = go f.up h
  where
    go : (b : Bool) → b ≡ true → let x : Way = record { client = if b then f.peer else r; server = if b then r else f.peer; slot = f.slot; up = true; epoch = f.epoch } in
        let y : Way = record { client = if b then f.peer else r; server = if b then r else f.peer; slot = f.slot; up = b; epoch = f.epoch } in x ≡ y
    go true k = refl
    go false k = cc

pub down_is : (r : ℕ) (f : FrameView) → f.up ≡ false → down_of (way_of r f) ≡ way_of r f
down_is r f h = go f.up h
  where
    go : (b : Bool) → b ≡ false → let x : Way = record { client = if b then f.peer else r; server = if b then r else f.peer; slot = f.slot; up = false; epoch = f.epoch } in
        let y : Way = record { client = if b then f.peer else r; server = if b then r else f.peer; slot = f.slot; up = b; epoch = f.epoch } in x ≡ y
    go true k = cc
    go false k = refl

pub client_is : (a : ℕ) (f : FrameView) → f.up ≡ false → (way_of a f).client ≡ a
client_is a f h = rw h refl

pub uses_taken : (a : ℕ) (f : FrameView) (e : Entry) → e.taken ≡ Some f → f.up ≡ false → uses (way_of a f) e ≡ true
uses_taken a f e h up = or_right (list_any (is_on (up_of (way_of a f)) (way_of a f).server) e.sent) (takes (down_of (way_of a f)) e.taken)
    (rw h (subst (λ v. is_on v (sender_of v) f ≡ true) (sym (down_is a f up)) (on_own a f)))

pub uses_sent : (w : Way) (x : Entry) (g : FrameView) → Member g (on_way (up_of w) x) → uses w x ≡ true
uses_sent w x g m = or_left (list_any (is_on (up_of w) w.server) x.sent) (takes (down_of w) x.taken)
    (list_any_member (is_on (up_of w) w.server) x.sent g (sends_member (up_of w) x g m) (sends_on (up_of w) x g m))

-- ---- an answer

-- what is known where job j of a takes a frame from r
pub record Takes (repos : List RepoView) (past : List Entry) (e : Entry) (a j r : ℕ) (f : FrameView) : Type 0 where
  pub run : MessagePast repos past
  pub now' : Meets repos past e
  pub is : is_of a e ≡ true
  pub job : job_of e.kind ≡ Some j
  pub takes_it : e.taken ≡ Some f
  pub other : r ≢ a
  pub peer_is : f.peer ≡ r

-- the request that was granted by the sender of the SUCCESS that the job takes is the job's last
pub record Granted (past : List Entry) (a j r : ℕ) (f : FrameView) (it : FlyingFrame) : Type 0 where
  pub g : FrameView
  pub asked : FlyingFrame
  pub last : last_request past (up_of (way_of a f)) ≡ Some asked
  pub body_is : asked.frame.body ≡ g.body
  pub taken_is : it.entry.taken ≡ Some g
  pub by : sender it.before r it.entry.taken ≡ Some (sending_entry asked)
  pub repo_is : asked.entry.repo ≡ Some a
  pub job_is : job_of asked.entry.kind ≡ Some j
  pub occurs : Occurs past asked.entry asked.before
  pub locked : (key : List ℕ) → message_in g.body ≡ Says (LockContent key) → (hold end : ℕ) × (it.entry.kind ≡ Share hold end (Peer g.peer g.slot) key)
  pub looked : (key : List ℕ) → message_in g.body ≡ Says (CheckPresent key) → it.entry.kind ≡ Check Present key

pub up_at : (w : Way) (x : Entry) (g : FrameView) (b : Bool) → Member g (on_way w x) → w.up ≡ b → g.up ≡ b
up_at w x g b m h = (on_parts w (taker_of w) g (sends_on w x g m)).up_is ∙ h

pub sender_at : (past : List Entry) (r : ℕ) (o : Option FrameView) (f : FrameView) (it : FlyingFrame) → o ≡ Some f → slice_get (frames_sent past (way_of r f)) (taken_count past (way_of r f)) ≡ Some it → sender past r o ≡ Some (sending_entry it)
sender_at past r o f it h k = ap (λ x. sender past r x) h ∙ ap (λ x. option_map sending_entry x) k

pub message_at : (b c : FrameText) (m : Said) → b ≡ c → message_in c ≡ m → message_in b ≡ m
message_at b c m h k = ap (λ x. message_in x) h ∙ k

pub request_at : (b c : FrameText) → b ≡ c → is_request (message_in c) ≡ true → is_request (message_in b) ≡ true
request_at b c h k = ap (λ x. is_request (message_in x)) h ∙ k

pub way_up : (r : ℕ) (f g : FrameView) (w : Way) → way_from r g ≡ w → way_from r g ≡ down_of (way_of r f) → f.up ≡ true → way_of r f ≡ up_of w
way_up r f g w is back up = sym (up_is r f up) ∙ sym (ap (λ (v : Way). up_of v) (sym is ∙ back))

some_same : (o : Option ℕ) (i j : ℕ) → o ≡ Some i → i ≡ j → o ≡ Some j
some_same o i j h k = h ∙ ap (λ x. Some x) k

pub granted : (repos : List RepoView) (past : List Entry) (e : Entry) (a j r : ℕ) (f : FrameView) (k : Takes repos past e a j r f) → (t : MayTake past (way_of a f) f) → f.up ≡ false → message_in f.body ≡ Says Success
    → Granted past a j r f t.it
granted repos past e a j r f k t up success =
    let w = way_of a f in
    let x = t.it.entry in
    let before = t.it.before in
    let s = sending past w (taken_count past w) t.it t.next in
    let sender_is : sender_of w ≡ r = sender_way a f ∙ k.peer_is in
    let is_r : is_of r x ≡ true = subst (λ q. is_of q x ≡ true) sender_is s.repo_is in
    let own = own_at repos past x before r k.run s.occurs is_r in
    let g_up : t.it.frame.up ≡ false = up_at w x t.it.frame false s.sends up in
    let g_yes : message_in t.it.frame.body ≡ Says Success = message_at t.it.frame.body f.body (Says Success) t.body_is success in
    let turn = (own.sends t.it.frame (sends_member w x t.it.frame s.sends)).yes g_up g_yes in
    let way : way_from r t.it.frame ≡ w = subst (λ q. way_from q t.it.frame ≡ w) sender_is (way_sent w t.it.frame (sends_on w x t.it.frame s.sends)) in
    let up_way : way_of r turn.f ≡ up_of w = way_up r turn.f t.it.frame w way turn.back turn.from_client in
    let asked' = (occurs_always (Meets repos) past x before k.run s.occurs).frames r turn.f is_r turn.takes_it in
    let asked : MayTake before (up_of w) turn.f = subst (λ v. MayTake before v turn.f) up_way asked' in
    let turn' : length (answers before w) ≡ taken_if is_request before (up_of w) =
    subst (λ v. length (answers before v) ≡ taken_if is_request before (up_of w)) way (subst (λ v. length (answers before (way_from r t.it.frame)) ≡ taken_if is_request before v) up_way turn.turn) in
    let awaits = (k.now'.own a k.is).awaits f k.takes_it up (ap is_answer success) in
    let last = right_turn past w f turn.f (prefixes repos past w k.run) (prefixes repos past (up_of w) k.run) (one_answers repos past w k.run) t (ap is_answer success) awaits turn' asked turn.request in
    let s' = sending before (up_of w) (taken_count before (up_of w)) asked.it asked.next in
    let sender_up : sender_of (up_of w) ≡ a = client_is a f up in
    let is_a : is_of a asked.it.entry ≡ true = subst (λ q. is_of q asked.it.entry ≡ true) sender_up s'.repo_is in
    let o : Occurs past asked.it.entry asked.it.before = occurs_earlier past x asked.it.entry before asked.it.before s.occurs s'.occurs in
    let own_a = own_at repos past asked.it.entry asked.it.before a k.run o is_a in
    let h_up : asked.it.frame.up ≡ true = (on_parts (up_of w) (taker_of (up_of w)) asked.it.frame (sends_on (up_of w) asked.it.entry asked.it.frame s'.sends)).up_is in
    let h_request : is_request (message_in asked.it.frame.body) ≡ true = request_at asked.it.frame.body turn.f.body asked.body_is turn.request in
    let job = (own_a.sends asked.it.frame (sends_member (up_of w) asked.it.entry asked.it.frame s'.sends)).request h_up h_request in
    let same : job.0 ≡ j = (k.now'.own a k.is).one_job w (client_is a f up) (uses_taken a f e k.takes_it up) j job.0 asked.it.entry asked.it.before k.job o is_a job.1 (uses_sent w asked.it.entry asked.it.frame s'.sends) in
    let next : slice_get (frames_sent before (way_of r turn.f)) (taken_count before (way_of r turn.f)) ≡ Some asked.it = subst (λ v. slice_get (frames_sent before v) (taken_count before v) ≡ Some asked.it) (sym up_way) asked.next in
    record {
      g = turn.f;
      asked = asked.it;
      last = last;
      body_is = asked.body_is;
      taken_is = turn.takes_it;
      by = sender_at before r x.taken turn.f asked.it turn.takes_it next;
      repo_is = option_same asked.it.entry.repo a is_a;
      job_is = some_same (job_of asked.it.entry.kind) job.0 j job.1 same;
      occurs = o;
      locked = turn.locked;
      looked = turn.looked;
    }

test_up : (p u : Bool) (hs : List Heard) → u ≡ true → (if p && not u then hs else []) ≡ []
test_up true true hs h = refl
test_up false true hs h = refl
test_up p false hs h = cc

test_down : (p u : Bool) (hs : List Heard) → p ≡ true → u ≡ false → (if p && not u then hs else []) ≡ hs
test_down true false hs h k = refl
test_down false false hs h k = cc
test_down p true hs h k = cc

-- what a job hears by the frame that it takes is what the frame's sender vouched to it
pub told_frame : (repos : List RepoView) (past : List Entry) (e : Entry) (a j r : ℕ) (f : FrameView) (k : Takes repos past e a j r f) → map heard_of (vouches_sent r a j (sender past a (Some f))) ≡ heard_frame past a r (Some f)
told_frame repos past e a j r f k = whole
  where
    t : MayTake past (way_of a f) f
    t = k.now'.frames a f k.is k.takes_it

    s : Sending past (way_of a f) t.it
    s = sending past (way_of a f) (taken_count past (way_of a f)) t.it t.next

    is_r : is_of r t.it.entry ≡ true
    is_r = subst (λ q. is_of q t.it.entry ≡ true) (sender_way a f ∙ k.peer_is) s.repo_is

    own : Own repos r t.it.before t.it.entry
    own = own_at repos past t.it.entry t.it.before r k.run s.occurs is_r

    told : vouches_sent r a j (sender past a (Some f)) ≡ vouch t.it.before t.it.entry r a j
    told = ap (λ o. vouches_sent r a j (option_map sending_entry o)) t.next

    frame_up : t.it.frame.up ≡ f.up
    frame_up = (on_parts (way_of a f) (taker_of (way_of a f)) t.it.frame (sends_on (way_of a f) t.it.entry t.it.frame s.sends)).up_is

    quiet : (f.up ≡ true) ⊎ (is_success (message_in f.body) ≡ false) → vouch t.it.before t.it.entry r a j ≡ []
    quiet (inl u) = vouch_quiet repos t.it.before t.it.entry r a j t.it.frame own k.other (sends_member (way_of a f) t.it.entry t.it.frame s.sends) (inl (frame_up ∙ u))
    quiet (inr n) = vouch_quiet repos t.it.before t.it.entry r a j t.it.frame own k.other (sends_member (way_of a f) t.it.entry t.it.frame s.sends) (inr (ap (λ b. is_success (message_in b)) t.body_is ∙ n))

    loud : f.up ≡ false → message_in f.body ≡ Says Success → map heard_of (vouch t.it.before t.it.entry r a j) ≡ heard_answer (Says Success) (last_request past (up_of (way_of a f)))
    loud u yes' = by_message (message_in gr.g.body) refl
      where
        gr : Granted past a j r f t.it
        gr = granted repos past e a j r f k t u yes'

        time : ℕ
        time = gr.asked.entry.time

        asker_is : asker t.it.before r t.it.entry ≡ Some (record { repo = a; job = j; time = gr.asked.entry.time })
        asker_is = ap asker_by gr.by ∙ ap (λ o. asker_of o (job_of gr.asked.entry.kind) gr.asked.entry.time) gr.repo_is ∙ ap (λ o. asker_of (Some a) o gr.asked.entry.time) gr.job_is

        heard_is : (m : Said) → message_in gr.g.body ≡ m → heard_answer (Says Success) (last_request past (up_of (way_of a f))) ≡ heard_request gr.asked.entry.time m
        heard_is m h = ap (λ o. heard_answer (Says Success) o) gr.last ∙ ap (λ x. heard_request gr.asked.entry.time x) (ap (λ b. message_in b) gr.body_is ∙ h)

        yes_asker : is_asker a j (asker t.it.before r t.it.entry) ≡ true
        yes_asker = ap (λ o. is_asker a j o) asker_is ∙ and_from (a == a) (j == j) (eqb_refl a) (eqb_refl j)

        asked_then : asked_at (asker t.it.before r t.it.entry) ≡ gr.asked.entry.time
        asked_then = ap asked_at asker_is

        by_message : (m : Said) → message_in gr.g.body ≡ m → map heard_of (vouch t.it.before t.it.entry r a j) ≡ heard_answer (Says Success) (last_request past (up_of (way_of a f)))
        by_message (Says (LockContent key)) h = let kind = (gr.locked key h).2 in rw (is_r, kind, yes_asker, asked_then) (sym (heard_is (Says (LockContent key)) h))
        by_message (Says (CheckPresent key)) h = rw (is_r, gr.looked key h, yes_asker) (sym (heard_is (Says (CheckPresent key)) h))
        by_message m h = ap (map heard_of) (elim (vouch_cases repos t.it.before t.it.entry r a j own k.other) [ inl n ↦ n | inr y ↦ absurd (other y) ]) ∙ sym (heard_is m h)
          where
            other : Yes r t.it.entry → ⊥
            other y =
                let same : y.says_yes.f ≡ gr.g = same_Some y.says_yes.f gr.g (sym y.says_yes.takes_it ∙ gr.taken_is) in
                let is : y.asked ≡ m = sym y.says_yes.asked_is ∙ ap (λ (z : FrameView). message_in z.body) same ∙ h in
                true≢false (sym y.copy ∙ ap asks_copy is)

    here : (f.peer == r) ≡ true
    here = subst (λ p. (f.peer == p) ≡ true) k.peer_is (eqb_refl f.peer)

    by_success : (b : Bool) → is_success (message_in f.body) ≡ b → f.up ≡ false → map heard_of (vouch t.it.before t.it.entry r a j) ≡ heard_answer (message_in f.body) (last_request past (up_of (way_of a f)))
    by_success true h u = let is : message_in f.body ≡ Says Success = success_is (message_in f.body) h in loud u is ∙ ap (λ m. heard_answer m (last_request past (up_of (way_of a f)))) (sym is)
    by_success false h u = ap (map heard_of) (quiet (inr h)) ∙ sym (heard_nothing (message_in f.body) (last_request past (up_of (way_of a f))) h)

    by_way : (b : Bool) → f.up ≡ b → map heard_of (vouch t.it.before t.it.entry r a j) ≡ (if (f.peer == r) && not f.up then heard_answer (message_in f.body) (last_request past (up_of (way_of a f))) else [])
    by_way true u = ap (map heard_of) (quiet (inl u)) ∙ sym (test_up (f.peer == r) f.up (heard_answer (message_in f.body) (last_request past (up_of (way_of a f)))) u)
    by_way false u = by_success (is_success (message_in f.body)) refl u ∙ sym (test_down (f.peer == r) f.up (heard_answer (message_in f.body) (last_request past (up_of (way_of a f)))) here u)

    whole : map heard_of (vouches_sent r a j (sender past a (Some f))) ≡ heard_frame past a r (Some f)
    whole = ap (map heard_of) told ∙ by_way f.up refl

-- ---- what an entry tells is what the job hears

-- another repository asks on each connection
other_asks : (repos : List RepoView) (past : List Entry) (e : Entry) (a j : ℕ) → Own repos a past e → is_asker a j (asker past a e) ≡ false
other_asks repos past e a j own = go (sender past a e.taken) refl
  where
    from : (o p : Option ℕ) (time : ℕ) (q : ℕ) → o ≡ Some q → q ≢ a → is_asker a j (asker_of o p time) ≡ false
    from None p time q h n = refl
    from (Some m) None time q h n = refl
    from (Some m) (Some i) time q h n = no_and (m == a) refl
      where
        no_and : (b : Bool) → (m == a) ≡ b → (b && (i == j)) ≡ false
        no_and true e' = let same : m ≡ q = same_Some m q h in absurd (n (sym same ∙ eqb-true m a e'))
        no_and false e' = refl

    go : (o : Option SendingEntry) → sender past a e.taken ≡ o → is_asker a j (asker_by o) ≡ false
    go None h = refl
    go (Some s) h =
        let t = sent_from past a e.taken s h in
        let is : is_of t.f.peer t.it.entry ≡ true = subst (λ q. is_of q t.it.entry ≡ true) (sender_way a t.f) t.sending.repo_is in
        let repo : s.entry.repo ≡ Some t.f.peer = ap (λ (x : SendingEntry). x.entry.repo) t.s_is ∙ option_same t.it.entry.repo t.f.peer is in
        from s.entry.repo (job_of s.entry.kind) s.entry.time t.f.peer repo (own.taken_from t.f t.takes_it)

-- its own share
told_own : (repos : List RepoView) (past : List Entry) (e : Entry) (a j : ℕ) → Own repos a past e → map heard_of (vouch_kind a a j e.time (asker past a e) e.kind) ≡ heard_kind j e.time e.kind
told_own repos past e a j own = by_kind e.kind
  where
    same : (a == a) ≡ true
    same = eqb_refl a

    quiet : is_asker a j (asker past a e) ≡ false
    quiet = other_asks repos past e a j own

    job : (b : Bool) (hold i : ℕ) (key : List ℕ) → map heard_of (if b then Lock hold e.time (by_job i) key ∷ [] else []) ≡ (if b then Locked_at e.time key ∷ [] else [])
    job true hold i key = refl
    job false hold i key = refl

    by_kind : (kind : EntryKind) → map heard_of (vouch_kind a a j e.time (asker past a e) kind) ≡ heard_kind j e.time kind
    by_kind (Share hold end (by_job i) key) = rw same (job (i == j) hold i key)
    by_kind (Share hold end (Peer p s) key) = rw quiet refl
    by_kind (Check found key) = rw quiet refl
    by_kind _ = refl

pub tells_heard : (repos : List RepoView) (past : List Entry) (e : Entry) (r a j : ℕ) → MessagePast repos past → Meets repos past e → map heard_of (tells past e r a j) ≡ hears past e r a j
tells_heard repos past e r a j run m = go (r == a) refl
  where
    own_part : (b : Bool) → is_of a e ≡ b → r ≡ a → map heard_of (if is_of r e then vouch_kind r a j e.time (asker past r e) e.kind else []) ≡ (if b then heard_kind j e.time e.kind else [])
    own_part true is same = rw (same, is) (told_own repos past e a j (m.own a is))
    own_part false is same = rw (same, is) refl

    frame : (o : Option FrameView) → e.taken ≡ o → (r == a) ≡ false → is_job a j e ≡ true → map heard_of (vouches_sent r a j (sender past a o)) ≡ heard_frame past a r o
    frame None t n is = refl
    frame (Some f) t n is = peer (f.peer == r) refl
      where
        parts : (is_of a e ≡ true) × (option_is (job_of e.kind) j ≡ true)
        parts = and_parts (is_of a e) (option_is (job_of e.kind) j) is

        other : r ≢ a
        other h = true≢false (sym (eqb_refl a) ∙ subst (λ q. (q == a) ≡ false) h n)

        strange : (f.peer == r) ≡ false → (o : Option SendingEntry) → sender past a (Some f) ≡ o → vouches_sent r a j o ≡ []
        strange p None h = refl
        strange p (Some s) h =
            let q = sent_from past a (Some f) s h in
            let one : f ≡ q.f = same_Some f q.f q.takes_it in
            let is_q : is_of f.peer q.it.entry ≡ true = subst (λ x. is_of x q.it.entry ≡ true) (sender_way a q.f ∙ ap (λ (g : FrameView). g.peer) (sym one)) q.sending.repo_is in
            let repo : s.entry.repo ≡ Some f.peer = ap (λ (x : SendingEntry). x.entry.repo) q.s_is ∙ option_same q.it.entry.repo f.peer is_q in
            let no' : is_of r s.entry ≡ false = ap (λ o'. option_is o' r) repo ∙ p in
            rw no' refl

        peer : (b : Bool) → (f.peer == r) ≡ b → map heard_of (vouches_sent r a j (sender past a (Some f))) ≡ (if b && not f.up then heard_answer (message_in f.body) (last_request past (up_of (way_of a f))) else [])
        peer false p = ap (map heard_of) (strange p (sender past a (Some f)) refl)
        peer true p = told_frame repos past e a j r f (record { run = run; now' = m; is = parts.0; job = option_same (job_of e.kind) j parts.1; takes_it = t; other = other; peer_is = eqb-true f.peer r p })
            ∙ rw p refl

    taken_part : (b : Bool) → is_job a j e ≡ b → (r == a) ≡ false → map heard_of (if b then vouches_sent r a j (sender past a e.taken) else []) ≡ (if b then heard_frame past a r e.taken else [])
    taken_part true is n = frame e.taken refl n is
    taken_part false is n = refl

    go : (b : Bool) → (r == a) ≡ b → map heard_of (if b then vouch past e r a j else (if is_job a j e then vouches_sent r a j (sender past a e.taken) else []))
        ≡ (if b then (if is_of a e then heard_kind j e.time e.kind else []) else (if is_job a j e then heard_frame past a r e.taken else []))
    go true h = own_part (is_of a e) refl (eqb-true r a h)
    go false h = taken_part (is_job a j e) refl h

newer_same : (vs : List Vouch) (old : Option Vouch) (hs : List Heard) (was : Option Heard) → map heard_of vs ≡ hs → option_map heard_of old ≡ was → option_map heard_of (newer vs old) ≡ newer_heard hs was
newer_same [] old [] was h k = k
newer_same [] old (x ∷ hs) was h k = cc
newer_same (v ∷ vs) old [] was h k = cc
newer_same (v ∷ vs) old (x ∷ hs) was h k = let same : heard_of v ≡ x = cc in ap (λ y. Some y) same

-- what a job was told of r's copy is what it heard
pub reply_heard : (repos : List RepoView) (past : List Entry) (a j r : ℕ) → MessagePast repos past → option_map heard_of (reply past a j r) ≡ heard past a j r
reply_heard repos [] a j r run = refl
reply_heard repos (e ∷ past) a j r run = newer_same (tells past e r a j) (reply past a j r) (hears past e r a j) (heard past a j r) (tells_heard repos past e r a j run.1 run.0) (reply_heard repos past a j r run.1)
