-- What an own entry does at an end where its repository is the server: a session takes a frame there, or gives the next piece;
-- else at most the end is closed.
use Rattle.std.proofs.Common.{◌≡◌, ℕ, ◌<◌, ◌^◌, Bool, true, false, List, [], ◌∷◌, Option, Some, None, ◌⊎◌, inl, inr, refl, sym, ap, ◌∙◌, subst}
use Rattle.std.specs.Prelude.{if◌then◌else◌, ◌==◌, ◌&&◌, filter, flat_map}
use Rattle.std.proofs.lemmas.Bool.{and_parts, eqb-true}
use Rattle.std.proofs.lemmas.List.Elements.{filter-append}
use Rattle.std.specs.Option.{option_or}
use Rattle.annex_base.specs.Lists.{Each, Member}
use Rattle.annex_base.specs.declared.kinds.Call.{Call}
use Rattle.annex_base.specs.declared.kinds.Call.TheVariants.{PutFile}
use Rattle.annex_base.specs.declared.kinds.Word.{Word}
use Rattle.annex_base.proofs.Lists.{Each-always, Each-filter, Each-flat_map, find_member}
use Rattle.annex_base.proofs.Conditions.{eqb_refl, same_bool_is, same_bool_refl}
use Rattle.annex_base.specs.Bools.{same_bool}
use Rattle.annex_base.proofs.Options.{first_some-was, option_or-was}
use Rattle.run_data.specs.declared.entry.By.TheVariants.{Script}
use Rattle.run_data.specs.declared.entry.Entry.{Entry}
use Rattle.run_data.specs.declared.entry.EntryKind.{EntryKind}
use Rattle.run_data.specs.declared.entry.EntryKind.TheVariants.{Begin, Gain, Share, Bar, Order, Gone, Log, Compact, Talk, Close, Crash, Fault, End as ends_job}
use Rattle.run_data.specs.declared.entry.FrameView.{FrameView}
use Rattle.run_data.specs.declared.entry.FrameText.{FrameText}
use Rattle.run_data.specs.declared.entry.FrameText.TheVariants.{Closing, Line}
use Rattle.node_model.specs.Ends.{End, EndName, end_sends, end_takes, frames, may_take, sends_at, sent_at, server_end, taken_at, takes_at}
use Rattle.node_model.specs.Rows.{is_lost_ordered}
use Rattle.node_model.specs.SetUp.{SetUp, served_connections}
use Rattle.run_model.specs.States.{end_at, session, state_of}
use Rattle.node_model.specs.Jobs.{Work, job_end}
use Rattle.run_data.specs.declared.entry.LogFile.TheVariants.{Location}
use Rattle.node_model.specs.OwedLines.{OwedLine, due}
use Rattle.node_model.specs.State.{State}
use Rattle.node_model.specs.Look.{Look, Effect, entry_of, failing_call, unless, waiting_frame}
use Rattle.node_model.specs.OwedStep.{owed_step, pays_first}
use Rattle.node_model.specs.SessionStep.{Reply, gives_made, gives_next, here, on_frame, reply_made, session_at, session_makes, session_step}
use Rattle.node_model.specs.JobStep.{Turn, end_with, farewell, farewells, turn_of, others_of}
use Rattle.node_model.specs.Turns.{job_step}
use Rattle.node_model.specs.Step.{step}
use Rattle.node_model.specs.Found.{AsksOne, ByJob, IsJobEntry, JobTakes, success_line}
use Rattle.p2p_wire.specs.Messages.{order_of, text_of}
use Rattle.node_model.specs.AnyTime.{MayCome, all_ends, close_at}
use Rattle.run_model.specs.Run.{OwnPart}
use Rattle.step_facts.proofs.Cases.{unless_found}
use Rattle.step_facts.proofs.JobFacts.{job_found}

-- ---- lists

pub each_flat : {X Y : Type 0} (P : Y → Type 0) (f : X → List Y) → ((x : X) → Each P (f x)) → (xs : List X) → Each P (flat_map f xs)
each_flat P f all xs = Each-flat_map P f xs (Each-always (λ x. Each P (f x)) all xs)

-- ---- names of ends

abbrev pub same_end : EndName → EndName → Bool
same_end b a = (b.peer == a.peer) && (b.slot == a.slot) && same_bool b.client a.client

pub end_path : (p q : ℕ) (b : Bool) (a : EndName) → p ≡ a.peer → q ≡ a.slot → b ≡ a.client → Path EndName (record { peer = p; slot = q; client = b }) a
end_path p q b a x y z i = record { peer = x i; slot = y i; client = z i }

pub same_end-is : (b a : EndName) → same_end b a ≡ true → b ≡ a
same_end-is b a e =
    let two = and_parts ((b.peer == a.peer) && (b.slot == a.slot)) (same_bool b.client a.client) e in
    let one = and_parts (b.peer == a.peer) (b.slot == a.slot) two.0 in
    end_path b.peer b.slot b.client a (eqb-true b.peer a.peer one.0) (eqb-true b.slot a.slot one.1) (same_bool_is b.client a.client two.1)

pub same_end-refl : (a : EndName) → same_end a a ≡ true
same_end-refl a = rw (eqb_refl a.peer, eqb_refl a.slot, same_bool_refl a.client) refl

-- the end that takes a frame
abbrev pub end_of : FrameView → EndName
end_of f = record { peer = f.peer; slot = f.slot; client = if f.up then false else true }

pub takes_end : (a : EndName) (f : FrameView) → takes_at a f ≡ true → end_of f ≡ a
takes_end a f e =
    let two = and_parts ((f.peer == a.peer) && (f.slot == a.slot)) (same_bool a.client (if f.up then false else true)) e in
    let one = and_parts (f.peer == a.peer) (f.slot == a.slot) two.0 in
    end_path f.peer f.slot (if f.up then false else true) a (eqb-true f.peer a.peer one.0) (eqb-true f.slot a.slot one.1) (sym (same_bool_is a.client (if f.up then false else true) two.1))

pub takes_other : (b a : EndName) (f : FrameView) → takes_at b f ≡ true → same_end b a ≡ false → takes_at a f ≡ false
takes_other b a f t e = go (takes_at a f) refl
  where
    go : (c : Bool) → takes_at a f ≡ c → c ≡ false
    go false is = refl
    go true is =
        let same : b ≡ a = sym (takes_end b f t) ∙ takes_end a f is in
        absurd (let no : same_end b a ≡ true = subst (λ z. same_end b z ≡ true) same (same_end-refl b) in cc)

-- what an end sends is found at that end alone
pub sent_other : (b a : EndName) (c : End) (bodies : List FrameText) → same_end b a ≡ false → sent_at a (frames b c bodies) ≡ []
sent_other b a c [] e = refl
sent_other b a c (body ∷ bodies) e = rw e (sent_other b a (end_sends c body) bodies e)

pub sent_same : (a : EndName) (c : End) (bodies : List FrameText) → sent_at a (frames a c bodies) ≡ frames a c bodies
sent_same a c [] = refl
sent_same a c (body ∷ bodies) = rw (same_end-refl a) (ap (λ fs. record { peer = a.peer; slot = a.slot; up = a.client; epoch = (end_sends c body).epoch; seq = (end_sends c body).sent; body = body } ∷ fs) (sent_same a (end_sends c body) bodies))

-- ---- what an entry does at the end

-- it takes nothing there, and sends at most Closes
pub record Shuts (a : EndName) (e : Entry) : Type 0 where
  pub takes_none : taken_at a e.taken ≡ None
  pub closes : Each (λ g. g.body ≡ Closing) (sent_at a e.sent)

-- the session takes a frame
pub record TakesHere (s : SetUp) (past : List Entry) (a : EndName) (e : Entry) : Type 0 where
  pub k : Look
  pub part_small : k.part < 2 ^ 62
  pub f : FrameView
  pub taken_is : e.taken ≡ Some f
  pub of_end : takes_at a f ≡ true
  pub may : may_take (end_at past s.number a) f ≡ true
  pub time_is : e.time ≡ k.time
  pub kind_is : e.kind ≡ (on_frame (here s (state_of s past) k a) (session past s.number a) f.body).kind
  pub sent_is : e.sent ≡ frames a (end_takes (end_at past s.number a) f.epoch f.body) (on_frame (here s (state_of s past) k a) (session past s.number a) f.body).says

-- or gives what comes next
pub record GivesHere (s : SetUp) (past : List Entry) (a : EndName) (e : Entry) : Type 0 where
  pub k : Look
  pub part_small : k.part < 2 ^ 62
  pub time_is : e.time ≡ k.time
  pub x : Reply
  pub next : gives_next (here s (state_of s past) k a) (session past s.number a).doing ≡ Some x
  pub opened : (end_at past s.number a).opened ≡ true
  pub taken_is : e.taken ≡ None
  pub kind_is : e.kind ≡ x.kind
  pub sent_is : e.sent ≡ frames a (end_at past s.number a) x.says

abbrev pub AtServer : SetUp → List Entry → EndName → Entry → Type 0
AtServer s past a e = Shuts a e ⊎ (TakesHere s past a e ⊎ GivesHere s past a e)

-- ---- a session's entry

module _ (s : SetUp) (past : List Entry) (k : Look) (small : k.part < 2 ^ 62) (b : EndName) where
  abbrev st : State
  st = state_of s past

  abbrev Here' : Effect → Type 0
  Here' m = TakesHere s past b (entry_of s.number k m) ⊎ GivesHere s past b (entry_of s.number k m)

  gives_here : (m : Effect) → (end_at past s.number b).opened ≡ true → (o : Option Reply) → gives_next (here s st k b) (session past s.number b).doing ≡ o
      → gives_made b (end_at past s.number b) o ≡ Some m → Here' m
  gives_here m opened None is e = absurd (cc)
  gives_here m opened (Some x) is e =
      let same : reply_made b (end_at past s.number b) None x ≡ m = cc in
      subst Here' same (inr (record { k = k; part_small = small; time_is = refl; x = x; next = is; opened = opened; taken_is = refl; kind_is = refl; sent_is = refl }))

  makes_here : (m : Effect) (o : Option FrameView) → waiting_frame (end_at past s.number b) k b ≡ o → session_makes (here s st k b) (end_at past s.number b) (session past s.number b) o ≡ Some m → Here' m
  makes_here m None is e = go (end_at past s.number b).opened refl e
    where
      go : (c : Bool) → (end_at past s.number b).opened ≡ c → (if c then gives_made b (end_at past s.number b) (gives_next (here s st k b) (session past s.number b).doing) else None) ≡ Some m → Here' m
      go true opened g = gives_here m opened (gives_next (here s st k b) (session past s.number b).doing) refl g
      go false opened g = absurd (cc)
  makes_here m (Some f) is e =
      let w = find_member (λ g. takes_at b g && may_take (end_at past s.number b) g) k.at_hand f is in
      let two = and_parts (takes_at b f) (may_take (end_at past s.number b) f) w.1 in
      let same : reply_made b (end_takes (end_at past s.number b) f.epoch f.body) (Some f) (on_frame (here s st k b) (session past s.number b) f.body) ≡ m = cc in
      subst Here' same (inl (record { k = k; part_small = small; f = f; taken_is = refl; of_end = two.0; may = two.1; time_is = refl; kind_is = refl; sent_is = refl }))

  pub session_here : (m : Effect) → session_at s st k b ≡ Some m → Here' m
  session_here m e = go (k.room b) e
    where
      go : (c : Bool) → (if c then session_makes (here s st k b) (st.ends b) (st.sessions b) (waiting_frame (st.ends b) k b) else None) ≡ Some m → Here' m
      go true g = makes_here m (waiting_frame (end_at past s.number b) k b) refl g
      go false g = absurd (cc)

-- at another end it does nothing
pub takes_elsewhere : (s : SetUp) (past : List Entry) (b a : EndName) (e : Entry) → same_end b a ≡ false → TakesHere s past b e → Shuts a e
takes_elsewhere s past b a e other x = record {
  takes_none = rw (x.taken_is, takes_other b a x.f x.of_end other) refl;
  closes = rw (x.sent_is, sent_other b a (end_takes (end_at past s.number b) x.f.epoch x.f.body) (on_frame (here s (state_of s past) x.k b) (session past s.number b) x.f.body).says other) tt;
}

pub gives_elsewhere : (s : SetUp) (past : List Entry) (b a : EndName) (e : Entry) → same_end b a ≡ false → GivesHere s past b e → Shuts a e
gives_elsewhere s past b a e other x = record {
  takes_none = rw x.taken_is refl;
  closes = rw (x.sent_is, sent_other b a (end_at past s.number b) x.x.says other) tt;
}

by_session : (s : SetUp) (past : List Entry) (b a : EndName) (e : Entry) → TakesHere s past b e ⊎ GivesHere s past b e → AtServer s past a e
by_session s past b a e x = go (same_end b a) refl x
  where
    go : (c : Bool) → same_end b a ≡ c → TakesHere s past b e ⊎ GivesHere s past b e → AtServer s past a e
    go true is y = inr (subst (λ z. TakesHere s past z e ⊎ GivesHere s past z e) (same_end-is b a is) y)
    go false is (inl y) = inl (takes_elsewhere s past b a e is y)
    go false is (inr y) = inl (gives_elsewhere s past b a e is y)

-- ---- a job's entry, and an owed line

-- a job's end is a client's
job_other : (w : Work) (peer p q : ℕ) → same_end (job_end w peer) (server_end p q) ≡ false
job_other w peer p q = go ((peer == p) && (w.slot == q))
  where
    go : (b : Bool) → (b && false) ≡ false
    go true = refl
    go false = refl

job_takes_other : (w : Work) (peer p q : ℕ) (f : FrameView) → takes_at (job_end w peer) f ≡ true → takes_at (server_end p q) f ≡ false
job_takes_other w peer p q f t = takes_other (job_end w peer) (server_end p q) f t (job_other w peer p q)

filter_flat : {X Y : Type 0} (q : Y → Bool) (f : X → List Y) → ((x : X) → filter q (f x) ≡ []) → (xs : List X) → filter q (flat_map f xs) ≡ []
filter_flat q f none [] = refl
filter_flat q f none (x ∷ xs) = filter-append q (f x) (flat_map f xs) ∙ rw (none x, filter_flat q f none xs) refl

farewells_other : (t : Turn) (lost : Bool) (p q : ℕ) → sent_at (server_end p q) (farewells t lost) ≡ []
farewells_other t lost p q =
    filter_flat (sends_at (server_end p q)) (λ peer. frames (job_end t.w peer) (end_with t peer) (farewell t lost peer (end_with t peer).opened))
    (λ peer. sent_other (job_end t.w peer) (server_end p q) (end_with t peer) (farewell t lost peer (end_with t peer).opened) (job_other t.w peer p q)) (others_of t)

asks_other : (t : Turn) (sent : List FrameView) (p q : ℕ) → AsksOne t sent → sent_at (server_end p q) sent ≡ []
asks_other t sent p q (inl x) = rw x refl
asks_other t sent p q (inr x) = rw x.2 (sent_other (job_end t.w x.0) (server_end p q) (end_with t x.0) (x.1 ∷ []) (job_other t.w x.0 p q))

pub job_sends : (t : Turn) (m : Effect) (kind : EntryKind) (p q : ℕ) → IsJobEntry t m kind → sent_at (server_end p q) m.sent ≡ []
job_sends t m (Share hold end by key) p q x = rw x.sends_none refl
job_sends t m (Bar j need key) p q x = rw x.sends_none refl
job_sends t m (Gone by key) p q x = rw x.sends_none refl
job_sends t m (Order j peer deadline need key) p q x = rw x.sent_is (sent_other (job_end t.w peer) (server_end p q) (end_with t peer) (Line (text_of (order_of deadline key)) ∷ []) (job_other t.w peer p q))
job_sends t m (Gain by size key) p q x = rw x.sent_is (sent_other (job_end t.w x.peer) (server_end p q) (end_with t x.peer) success_line (job_other t.w x.peer p q))
job_sends t m (ends_job j outcome) p q x = rw x.sent_is (farewells_other t (is_lost_ordered outcome) p q)
job_sends t m (Talk (Some j)) p q x = asks_other t m.sent p q x.1
job_sends t m (Fault call by) p q x = rw x.1 refl
job_sends t m kind p q x = absurd x

by_job_shuts : (s : SetUp) (past : List Entry) (k : Look) (m : Effect) (p q : ℕ) → ByJob s (state_of s past) k m → Shuts (server_end p q) (entry_of s.number k m)
by_job_shuts s past k m p q x = record { takes_none = takes x.frame; closes = rw (job_sends (turn_of s (state_of s past) k x.w) m m.kind p q x.found) tt }
  where
    takes : (m.taken ≡ None) ⊎ JobTakes (turn_of s (state_of s past) k x.w) m → taken_at (server_end p q) m.taken ≡ None
    takes (inl y) = rw y refl
    takes (inr y) = rw (y.taken_is, job_takes_other x.w y.peer p q y.f y.of_end) refl

owed_shuts : (s : SetUp) (past : List Entry) (k : Look) (m : Effect) (a : EndName) (os : List OwedLine) → pays_first s (state_of s past) k os ≡ Some m → Shuts a (entry_of s.number k m)
owed_shuts s past k m a [] e = absurd (cc)
owed_shuts s past k m a (o ∷ os) e =
    let fault : Call → Effect = λ call. record { kind = Fault call o.by; taken = None; sent = []; lines = []; calls = PutFile ∷ [] } in
    let line : Effect = record { kind = Log (Location o.key); taken = None; sent = []; lines = due s.repos (state_of s past).lines ((state_of s past).wall k.time) o; calls = PutFile ∷ [] } in
    let same : unless (failing_call k.fails (PutFile ∷ [])) fault line ≡ m = cc in
    subst (λ (z : Effect). Shuts a (entry_of s.number k z)) same
    (unless_found (λ (z : Effect). Shuts a (entry_of s.number k z)) (failing_call k.fails (PutFile ∷ [])) fault line
    (λ call. record { takes_none = refl; closes = tt }) (record { takes_none = refl; closes = tt }))

-- ---- any own entry

-- a session's entry, or one that at most closes each server's end
abbrev pub BySessionAt : SetUp → List Entry → Entry → Type 0
BySessionAt s past e = (p q : ℕ) × Member (p, q) (served_connections s) × (TakesHere s past (server_end p q) e ⊎ GivesHere s past (server_end p q) e)

abbrev pub ServerDoes : SetUp → List Entry → Entry → Type 0
ServerDoes s past e = BySessionAt s past e ⊎ ((p q : ℕ) → Shuts (server_end p q) e)

step_does : (s : SetUp) (past : List Entry) (k : Look) (m : Effect) → k.part < 2 ^ 62 → step s (state_of s past) k ≡ Some m → ServerDoes s past (entry_of s.number k m)
step_does s past k m small e = elim (option_or-was (owed_step s (state_of s past) k) (option_or (session_step s (state_of s past) k) (job_step s (state_of s past) k)) m e) [
  | inl o ↦ inr (λ p q. owed_shuts s past k m (server_end p q) (state_of s past).owed o)
  | inr r ↦ rest (option_or-was (session_step s (state_of s past) k) (job_step s (state_of s past) k) m r)
]
  where
    rest : (session_step s (state_of s past) k ≡ Some m) ⊎ (job_step s (state_of s past) k ≡ Some m) → ServerDoes s past (entry_of s.number k m)
    rest (inl x) =
        let w = first_some-was (λ (c : ℕ × ℕ). session_at s (state_of s past) k (server_end c.0 c.1)) (served_connections s) m x in
        inl (w.0.0, w.0.1, w.1, session_here s past k small (server_end w.0.0 w.0.1) m w.2)
    rest (inr x) = inr (λ p q. by_job_shuts s past k m p q (job_found s (state_of s past) k m x))

-- a close is a Close
pub close_closes : (s : SetUp) (past : List Entry) (a : EndName) → Each (λ g. g.body ≡ Closing) (close_at s (state_of s past) a)
close_closes s past a = go (end_at past s.number a).opened
  where
    go : (b : Bool) → Each (λ g. g.body ≡ Closing) (if b then frames a (end_at past s.number a) (Closing ∷ []) else [])
    go true = (refl, tt)
    go false = tt

pub come_closes : (s : SetUp) (past : List Entry) (lines : List (List ℕ)) (sent : List FrameView) (kind : EntryKind) → MayCome s (state_of s past) lines sent kind → Each (λ g. g.body ≡ Closing) sent
come_closes s past lines sent (Begin job what) x = rw x.2 tt
come_closes s past lines sent (Gain Script size key) x = rw x.2 tt
come_closes s past lines sent (Log file) x = rw x.1 tt
come_closes s past lines sent (Compact file) x = rw x.2 tt
come_closes s past lines sent (Fault call Script) x = rw x.2 tt
come_closes s past lines sent (Close peer slot client) x = rw x.3 (close_closes s past (record { peer = peer; slot = slot; client = client }))
come_closes s past lines sent (Crash clock) x = rw x.1 (each_flat (λ g. g.body ≡ Closing) (close_at s (state_of s past)) (close_closes s past) (all_ends s))
come_closes s past lines sent kind x = absurd x

pub server_does : (s : SetUp) (past : List Entry) (words : ℕ → Option Word) (e : Entry) → OwnPart s past words e → ServerDoes s past e
server_does s past words e own = elim (own.does) [
  | inl x ↦ subst (ServerDoes s past) (sym x.is) (step_does s past x.look x.made x.part_small x.makes)
  | inr x ↦ inr (λ p q. record { takes_none = rw x.takes_none refl; closes = Each-filter (λ g. g.body ≡ Closing) (sends_at (server_end p q)) e.sent (come_closes s past e.lines e.sent e.kind x.may) })
]

pub at_server : (s : SetUp) (past : List Entry) (words : ℕ → Option Word) (e : Entry) (p q : ℕ) → OwnPart s past words e → AtServer s past (server_end p q) e
at_server s past words e p q own = elim (server_does s past words e own) [
  | inl x ↦ by_session s past (server_end x.0 x.1) (server_end p q) e x.3
  | inr x ↦ inl (x p q)
]
