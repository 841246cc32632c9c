-- The ends of a repository, by its own entries: an open end sends and takes frames of its epoch, a closed one only an Opening of a
-- later epoch, and nothing of a later epoch than the end's was sent or taken.
use Rattle.std.proofs.Common.{◌≡◌, ℕ, ◌+◌, ◌^◌, ◌<◌, ◌≤◌, Bool, true, false, List, [], ◌∷◌, Option, Some, None, ◌⊎◌, inl, inr, refl, sym, ap, ◌∙◌, subst, arith, not}
use Rattle.std.specs.Prelude.{if◌then◌else◌, ◌==◌, ◌&&◌, nat_lt}
use Rattle.std.proofs.lemmas.Bool.Decides.{nat_tests}
use Rattle.std.proofs.lemmas.Bool.{and_parts}
use Rattle.std.specs.Option.{option_or}
use Rattle.annex_base.specs.Lists.{Each, Member}
use Rattle.annex_base.specs.declared.kinds.Call.{Call}
use Rattle.annex_base.specs.declared.kinds.Call.TheVariants.{PutFile}
use Rattle.annex_base.specs.declared.kinds.Word.{Word}
use Rattle.annex_base.proofs.Lists.{Each-member, Each-weaker, Member-filter_from}
use Rattle.run_data.specs.declared.entry.By.TheVariants.{Script}
use Rattle.run_data.specs.declared.entry.Entry.{Entry}
use Rattle.run_data.specs.declared.entry.EntryKind.{EntryKind}
use Rattle.run_data.specs.declared.entry.EntryKind.TheVariants.{Begin, Gain, Log, Compact, Close, Crash, Fault}
use Rattle.run_data.specs.declared.entry.FrameView.{FrameView}
use Rattle.run_data.specs.declared.entry.FrameText.{FrameText}
use Rattle.run_data.specs.declared.entry.FrameText.TheVariants.{Opening, Closing, Bytes, Line}
use Rattle.run_data.specs.declared.entry.LogFile.TheVariants.{Location}
use Rattle.node_model.specs.Ends.{End, EndName, end_sends, end_takes, end_took, frames, is_opening, may_take, sends_at, sent_at, server_end, taken_at, takes_at}
use Rattle.run_model.specs.Past.{Occurs, is_of}
use Rattle.node_model.specs.SetUp.{SetUp, served_connections}
use Rattle.run_model.specs.States.{end_at, session, state_of}
use Rattle.node_model.specs.Jobs.{Work, job_end}
use Rattle.node_model.specs.OwedLines.{OwedLine, due}
use Rattle.node_model.specs.Look.{Look, Effect, entry_of, failing_call, unless}
use Rattle.node_model.specs.OwedStep.{owed_step, pays_first}
use Rattle.node_model.specs.SessionStep.{here, on_frame, session_at, session_step}
use Rattle.node_model.specs.JobStep.{turn_of}
use Rattle.node_model.specs.Turns.{job_step}
use Rattle.node_model.specs.Step.{step}
use Rattle.node_model.specs.Found.{ByJob, JobTakes}
use Rattle.node_model.specs.AnyTime.{MayCome, all_ends, close_at}
use Rattle.run_model.specs.Run.{OwnPart, OwnRun}
use Rattle.step_facts.proofs.Cases.{unless_found}
use Rattle.step_facts.proofs.JobFacts.{job_found}
use Rattle.step_facts.proofs.ServerEnds.{BySessionAt, GivesHere, TakesHere, each_flat, end_of, same_end-refl, session_here, takes_end}
use Rattle.step_facts.proofs.EndMoves.{NoOpening, all_epoch, end_own, frame_none, gave_one, may_epoch, own_induction, pieces_none, sends_all, takes_epoch}
use Rattle.step_facts.proofs.JobEnds.{JobSays, SentWell, job_speaks}
use Rattle.annex_base.proofs.Conditions.{eqb_refl, if_turned}
use Rattle.annex_base.specs.Bools.{same_bool}
use Rattle.annex_base.proofs.Options.{first_some-was, option_or-was}

-- the end that sends a frame
abbrev pub from_end : FrameView → EndName
from_end g = record { peer = g.peer; slot = g.slot; client = g.up }

-- ---- who made an own entry

abbrev Says' : SetUp → List Entry → FrameView → Type 0
Says' s past g = SentWell (end_at past s.number (from_end g)) g

-- a frame of its end's epoch, which is open
abbrev pub IsClose : SetUp → List Entry → FrameView → Type 0
IsClose s past g = ((end_at past s.number (from_end g)).opened ≡ true) × (g.epoch ≡ (end_at past s.number (from_end g)).epoch) × (is_opening g.body ≡ false)

-- it takes none, and sends at most Closes of open ends
pub record SpeaksAlone (s : SetUp) (past : List Entry) (e : Entry) : Type 0 where
  pub takes_none : e.taken ≡ None
  pub well : Each (IsClose s past) e.sent

-- a job speaks as a client, and takes what its end may
pub record JobSpeaksAt (s : SetUp) (past : List Entry) (e : Entry) : Type 0 where
  pub takes : (f : FrameView) → e.taken ≡ Some f → (f.up ≡ false) × ((end_at past s.number (end_of f)).opened ≡ true) × (may_take (end_at past s.number (end_of f)) f ≡ true)
  pub well : Each (λ g. (g.up ≡ true) × Says' s past g) e.sent

abbrev pub Speaks : SetUp → List Entry → Entry → Type 0
Speaks s past e = SpeaksAlone s past e ⊎ (BySessionAt s past e ⊎ JobSpeaksAt s past e)

pub owed_speaks : (s : SetUp) (past : List Entry) (k : Look) (m : Effect) (os : List OwedLine) → pays_first s (state_of s past) k os ≡ Some m → SpeaksAlone s past (entry_of s.number k m)
owed_speaks s past k m [] e = absurd (cc)
owed_speaks s past k m (o ∷ os) e =
    let fault : Call → Effect = λ call. record { kind = Fault call o.by; taken = None; sent = []; lines = []; calls = PutFile ∷ [] } in
    let line : Effect = record { kind = Log (Location o.key); taken = None; sent = []; lines = due s.repos (state_of s past).lines ((state_of s past).wall k.time) o; calls = PutFile ∷ [] } in
    let same : unless (failing_call k.fails (PutFile ∷ [])) fault line ≡ m = cc in
    subst (λ (z : Effect). SpeaksAlone s past (entry_of s.number k z)) same
    (unless_found (λ (z : Effect). SpeaksAlone s past (entry_of s.number k z)) (failing_call k.fails (PutFile ∷ [])) fault line
    (λ call. record { takes_none = refl; well = tt }) (record { takes_none = refl; well = tt }))

-- a job's frame is at its end
at_job : (s : SetUp) (past : List Entry) (k : Look) (w : Work) (g : FrameView) → JobSays (turn_of s (state_of s past) k w) g → (g.up ≡ true) × Says' s past g
at_job s past k w g x = (x.0, subst (λ (a : EndName). SentWell (end_at past s.number a) g) same x.2)
  where
    same : job_end w g.peer ≡ from_end g
    same i = record { peer = g.peer; slot = sym x.1 i; client = sym x.0 i }

client_takes : (w : Work) (peer : ℕ) (f : FrameView) → takes_at (job_end w peer) f ≡ true → f.up ≡ false
client_takes w peer f t = if_turned f.up (ap (λ (a : EndName). a.client) (takes_end (job_end w peer) f t))

job_speaks_at : (s : SetUp) (past : List Entry) (k : Look) (m : Effect) → job_step s (state_of s past) k ≡ Some m → JobSpeaksAt s past (entry_of s.number k m)
job_speaks_at s past k m e =
    let x = job_speaks s (state_of s past) k m e in
    let y = job_found s (state_of s past) k m e in
    record { takes = takes y; well = Each-weaker (JobSays (turn_of s (state_of s past) k x.w)) (λ g. (g.up ≡ true) × Says' s past g) (at_job s past k x.w) m.sent x.says }
  where
    takes : (y : ByJob s (state_of s past) k m) (f : FrameView) → m.taken ≡ Some f → (f.up ≡ false) × ((end_at past s.number (end_of f)).opened ≡ true) × (may_take (end_at past s.number (end_of f)) f ≡ true)
    takes y f i = go y.frame
      where
        go : (m.taken ≡ None) ⊎ JobTakes (turn_of s (state_of s past) k y.w) m → (f.up ≡ false) × ((end_at past s.number (end_of f)).opened ≡ true) × (may_take (end_at past s.number (end_of f)) f ≡ true)
        go (inl n) = absurd (let no' : None ≡ Some f = sym n ∙ i in cc)
        go (inr z) =
            let at : Some z.f ≡ Some f = sym z.taken_is ∙ i in
            let same : z.f ≡ f = cc in
            subst (λ (h : FrameView). (h.up ≡ false) × ((end_at past s.number (end_of h)).opened ≡ true) × (may_take (end_at past s.number (end_of h)) h ≡ true)) same (
              client_takes y.w z.peer z.f z.of_end,
              ap (λ (a : EndName). (end_at past s.number a).opened) (takes_end (job_end y.w z.peer) z.f z.of_end) ∙ z.opened,
              ap (λ (a : EndName). may_take (end_at past s.number a) z.f) (takes_end (job_end y.w z.peer) z.f z.of_end) ∙ z.may,
            )

close_well : (s : SetUp) (past : List Entry) (a : EndName) → Each (IsClose s past) (close_at s (state_of s past) a)
close_well s past a = go (end_at past s.number a).opened refl
  where
    go : (b : Bool) → (end_at past s.number a).opened ≡ b → Each (IsClose s past) (if b then frames a (end_at past s.number a) (Closing ∷ []) else [])
    go true o = ((o, refl, refl), tt)
    go false o = tt

pub come_well : (s : SetUp) (past : List Entry) (lines : List (List ℕ)) (sent : List FrameView) (kind : EntryKind) → MayCome s (state_of s past) lines sent kind → Each (IsClose s past) sent
come_well s past lines sent (Begin job what) x = subst (Each (IsClose s past)) (sym x.2) tt
come_well s past lines sent (Gain Script size key) x = subst (Each (IsClose s past)) (sym x.2) tt
come_well s past lines sent (Log file) x = subst (Each (IsClose s past)) (sym x.1) tt
come_well s past lines sent (Compact file) x = subst (Each (IsClose s past)) (sym x.2) tt
come_well s past lines sent (Fault call Script) x = subst (Each (IsClose s past)) (sym x.2) tt
come_well s past lines sent (Close peer slot client) x = subst (Each (IsClose s past)) (sym x.3) (close_well s past (record { peer = peer; slot = slot; client = client }))
come_well s past lines sent (Crash clock) x = subst (Each (IsClose s past)) (sym x.1) (each_flat (IsClose s past) (close_at s (state_of s past)) (close_well s past) (all_ends s))
come_well s past lines sent kind x = absurd x

step_speaks : (s : SetUp) (past : List Entry) (k : Look) (m : Effect) → k.part < 2 ^ 62 → step s (state_of s past) k ≡ Some m → Speaks s past (entry_of s.number k m)
step_speaks s past k m small e = elim (option_or-was (owed_step s (state_of s past) k) (option_or (session_step s (state_of s past) k) (job_step s (state_of s past) k)) m e) [
  | inl o ↦ inl (owed_speaks s past k m (state_of s past).owed o)
  | inr r ↦ inr (rest (option_or-was (session_step s (state_of s past) k) (job_step s (state_of s past) k) m r))
]
  where
    rest : (session_step s (state_of s past) k ≡ Some m) ⊎ (job_step s (state_of s past) k ≡ Some m) → BySessionAt s past (entry_of s.number k m) ⊎ JobSpeaksAt s past (entry_of s.number k m)
    rest (inl x) =
        let w = first_some-was (λ (c : ℕ × ℕ). session_at s (state_of s past) k (server_end c.0 c.1)) (served_connections s) m x in
        inl (w.0.0, w.0.1, w.1, session_here s past k small (server_end w.0.0 w.0.1) m w.2)
    rest (inr x) = inr (job_speaks_at s past k m x)

-- whoever made an own entry
pub speaks : (s : SetUp) (past : List Entry) (words : ℕ → Option Word) (e : Entry) → OwnPart s past words e → Speaks s past e
speaks s past words e own = elim (own.does) [
  | inl x ↦ subst (Speaks s past) (sym x.is) (step_speaks s past x.look x.made x.part_small x.makes)
  | inr x ↦ inl (record { takes_none = x.takes_none; well = come_well s past e.lines e.sent e.kind x.may })
]

-- ---- names of ends

pub takes_self : (f : FrameView) → takes_at (end_of f) f ≡ true
takes_self f = rw (eqb_refl f.peer, eqb_refl f.slot) (same (if f.up then false else true))
  where
    same : (b : Bool) → same_bool b b ≡ true
    same true = refl
    same false = refl

pub takes_is : (a : EndName) (f : FrameView) → end_of f ≡ a → takes_at a f ≡ true
takes_is a f e = subst (λ (z : EndName). takes_at z f ≡ true) e (takes_self f)

pub sends_is : (a : EndName) (g : FrameView) → from_end g ≡ a → sends_at a g ≡ true
sends_is a g e = subst (λ (z : EndName). sends_at z g ≡ true) e (same_end-refl (from_end g))

-- ---- how epochs grow

sends_grow : (c : End) (body : FrameText) → c.epoch ≤ (end_sends c body).epoch
sends_grow c Opening = omega arith
sends_grow c Closing = omega arith
sends_grow c (Bytes n) = omega arith
sends_grow c (Line text) = omega arith

all_grow : (c : End) (fs : List FrameView) → c.epoch ≤ (sends_all c fs).epoch
all_grow c [] = omega arith
all_grow c (f ∷ fs) = let i = sends_grow c f.body in let j = all_grow (end_sends c f.body) fs in omega (arith, i, j)

-- an Opening among them takes the next
pub opening_grows : (c : End) (fs : List FrameView) (g : FrameView) → Member g fs → g.body ≡ Opening → c.epoch + 1 ≤ (sends_all c fs).epoch
opening_grows c [] g m i = absurd m
opening_grows c (f ∷ fs) g (inl m) i =
    let next : (end_sends c f.body).epoch ≡ c.epoch + 1 = ap (λ (h : FrameView). (end_sends c h.body).epoch) (sym m) ∙ ap (λ b. (end_sends c b).epoch) i in
    let j = all_grow (end_sends c f.body) fs in omega (arith, next, j)
opening_grows c (f ∷ fs) g (inr m) i = let j = sends_grow c f.body in let k = opening_grows (end_sends c f.body) fs g m i in omega (arith, j, k)

frames_epoch : (a : EndName) (c : End) (bodies : List FrameText) (g : FrameView) → NoOpening bodies → Member g (frames a c bodies) → (g.epoch ≡ c.epoch) × (from_end g ≡ a) × (is_opening g.body ≡ false)
frames_epoch a c [] g n m = absurd m
frames_epoch a c (body ∷ bodies) g n (inl m) =
    (ap (λ (h : FrameView). h.epoch) m ∙ all_epoch c (frames a c (body ∷ [])) (n.0, tt), ap from_end m, ap (λ (h : FrameView). is_opening h.body) m ∙ n.0)
frames_epoch a c (body ∷ bodies) g n (inr m) = let x = frames_epoch a (end_sends c body) bodies g n.1 m in (x.0 ∙ all_epoch c (frames a c (body ∷ [])) (n.0, tt), x.1, x.2)

-- an Opening that may be taken is of a later epoch
pub opening_later : (c : End) (f : FrameView) → is_opening f.body ≡ true → may_take c f ≡ true → c.epoch < f.epoch
opening_later c f i may = go f.body i may
  where
    go : (body : FrameText) → is_opening body ≡ true → (if is_opening body then not c.opened && nat_lt c.epoch f.epoch else c.opened && (f.epoch == c.epoch)) ≡ true → c.epoch < f.epoch
    go body j h = let t = and_parts (not c.opened) (nat_lt c.epoch f.epoch) (rw j at h) in let l : nat_lt c.epoch f.epoch ≡ true = t.1 in grind (arith, nat_tests)

pub opening_takes : (c : End) (epoch : ℕ) (body : FrameText) → is_opening body ≡ true → end_takes c epoch body ≡ record { epoch = epoch; opened = true; sent = 0 }
opening_takes c epoch Opening i = refl
opening_takes c epoch Closing i = absurd (cc)
opening_takes c epoch (Bytes n) i = absurd (cc)
opening_takes c epoch (Line text) i = absurd (cc)

-- the end after it took a frame that it may: no earlier than it, and the frame's
takes_bound : (c : End) (f : FrameView) → may_take c f ≡ true → (c.epoch ≤ (end_takes c f.epoch f.body).epoch) × (f.epoch ≡ (end_takes c f.epoch f.body).epoch)
takes_bound c f may = go (is_opening f.body) refl
  where
    go : (b : Bool) → is_opening f.body ≡ b → (c.epoch ≤ (end_takes c f.epoch f.body).epoch) × (f.epoch ≡ (end_takes c f.epoch f.body).epoch)
    go true i =
        let at : (end_takes c f.epoch f.body).epoch ≡ f.epoch = ap (λ (z : End). z.epoch) (opening_takes c f.epoch f.body i) in
        let up = opening_later c f i may in
        (omega (arith, at, up), sym at)
    go false i =
        let at : (end_takes c f.epoch f.body).epoch ≡ c.epoch = takes_epoch c f.epoch f.body i in
        (omega (arith, at), (may_epoch c f i may).1 ∙ sym at)

-- ---- one own entry

-- E: what it takes, its end may take
pub own_takes : (s : SetUp) (past : List Entry) (words : ℕ → Option Word) (e : Entry) (f : FrameView) → OwnPart s past words e → e.taken ≡ Some f → may_take (end_at past s.number (end_of f)) f ≡ true
own_takes s past words e f own i = go (speaks s past words e own)
  where
    none : {A : Type 0} → e.taken ≡ None → A
    none n = absurd (let no' : None ≡ Some f = sym n ∙ i in cc)

    session' : (p q : ℕ) → TakesHere s past (server_end p q) e ⊎ GivesHere s past (server_end p q) e → may_take (end_at past s.number (end_of f)) f ≡ true
    session' p q (inl x) =
        let at : Some x.f ≡ Some f = sym x.taken_is ∙ i in
        let same : x.f ≡ f = cc in
        subst (λ (h : FrameView). may_take (end_at past s.number (end_of h)) h ≡ true) same (ap (λ (a : EndName). may_take (end_at past s.number a) x.f) (takes_end (server_end p q) x.f x.of_end) ∙ x.may)
    session' p q (inr x) = none x.taken_is

    go : Speaks s past e → may_take (end_at past s.number (end_of f)) f ≡ true
    go (inl x) = none x.takes_none
    go (inr (inl x)) = session' x.0 x.1 x.3
    go (inr (inr x)) = (x.takes f i).2

module _ (s : SetUp) (past : List Entry) (words : ℕ → Option Word) (e : Entry) (own : OwnPart s past words e) where
  -- how the end stands between what it takes and what it sends
  abbrev pub between : EndName → End
  between a = end_took (end_at past s.number a) (taken_at a e.taken)

  between_is : (a : EndName) (f : FrameView) → e.taken ≡ Some f → end_of f ≡ a → between a ≡ end_takes (end_at past s.number a) f.epoch f.body
  between_is a f i at = ap (λ o. end_took (end_at past s.number a) (taken_at a o)) i ∙ ap (λ b. end_took (end_at past s.number a) (if b then Some f else None)) (takes_is a f at)

  -- E: at a client's end a job's frame, and any Close
  pub client_sends : (g : FrameView) → Member g e.sent → g.up ≡ true → SentWell (end_at past s.number (from_end g)) g
  client_sends g m u = go (speaks s past words e own)
    where
      up : (p q : ℕ) (c : End) (bodies : List FrameText) → NoOpening bodies → e.sent ≡ frames (server_end p q) c bodies → ⊥
      up p q c bodies n i = let no' : g.up ≡ false = ap (λ (a : EndName). a.client) (frames_epoch (server_end p q) c bodies g n (subst (Member g) i m)).1 in let no'' : true ≡ false = sym u ∙ no' in cc

      session' : (p q : ℕ) → TakesHere s past (server_end p q) e ⊎ GivesHere s past (server_end p q) e → ⊥
      session' p q (inl x) = up p q (end_takes (end_at past s.number (server_end p q)) x.f.epoch x.f.body) (on_frame (here s (state_of s past) x.k (server_end p q)) (session past s.number (server_end p q)) x.f.body).says
          (frame_none (here s (state_of s past) x.k (server_end p q)) (session past s.number (server_end p q)) x.f.body) x.sent_is
      session' p q (inr x) = up p q (end_at past s.number (server_end p q)) x.x.says (pieces_none (session past s.number (server_end p q)).doing x.x.says (gave_one s past (server_end p q) e x).1) x.sent_is

      go : Speaks s past e → SentWell (end_at past s.number (from_end g)) g
      go (inl x) = inl (Each-member (IsClose s past) e.sent g x.well m)
      go (inr (inl x)) = absurd (session' x.0 x.1 x.3)
      go (inr (inr x)) = (Each-member (λ h. (h.up ≡ true) × Says' s past h) e.sent g x.well m).1

  -- E: at a server's end a frame of the epoch that it is at, and no Opening
  pub server_sends : (g : FrameView) → Member g e.sent → g.up ≡ false → (g.epoch ≡ (between (from_end g)).epoch) × (is_opening g.body ≡ false)
  server_sends g m u = go (speaks s past words e own)
    where
      at_end : (p q : ℕ) (c : End) (bodies : List FrameText) → NoOpening bodies → e.sent ≡ frames (server_end p q) c bodies → between (server_end p q) ≡ c → (g.epoch ≡ (between (from_end g)).epoch) × (is_opening g.body ≡ false)
      at_end p q c bodies n i b =
          let x = frames_epoch (server_end p q) c bodies g n (subst (Member g) i m) in
          (x.0 ∙ ap (λ (z : End). z.epoch) (sym b) ∙ ap (λ (a : EndName). (between a).epoch) (sym x.1), x.2)

      session' : (p q : ℕ) → TakesHere s past (server_end p q) e ⊎ GivesHere s past (server_end p q) e → (g.epoch ≡ (between (from_end g)).epoch) × (is_opening g.body ≡ false)
      session' p q (inl x) = at_end p q (end_takes (end_at past s.number (server_end p q)) x.f.epoch x.f.body) (on_frame (here s (state_of s past) x.k (server_end p q)) (session past s.number (server_end p q)) x.f.body).says
          (frame_none (here s (state_of s past) x.k (server_end p q)) (session past s.number (server_end p q)) x.f.body) x.sent_is (between_is (server_end p q) x.f x.taken_is (takes_end (server_end p q) x.f x.of_end))
      session' p q (inr x) = at_end p q (end_at past s.number (server_end p q)) x.x.says (pieces_none (session past s.number (server_end p q)).doing x.x.says (gave_one s past (server_end p q) e x).1) x.sent_is
          (ap (λ o. end_took (end_at past s.number (server_end p q)) (taken_at (server_end p q) o)) x.taken_is)

      come : e.taken ≡ None → IsClose s past g → (g.epoch ≡ (between (from_end g)).epoch) × (is_opening g.body ≡ false)
      come n y = (y.1 ∙ ap (λ o. (end_took (end_at past s.number (from_end g)) (taken_at (from_end g) o)).epoch) (sym n), y.2)

      go : Speaks s past e → (g.epoch ≡ (between (from_end g)).epoch) × (is_opening g.body ≡ false)
      go (inl x) = come x.takes_none (Each-member (IsClose s past) e.sent g x.well m)
      go (inr (inl x)) = session' x.0 x.1 x.3
      go (inr (inr x)) = absurd (let no' : true ≡ false = sym (Each-member (λ h. (h.up ≡ true) × Says' s past h) e.sent g x.well m).0 ∙ u in cc)

  module _ (is : is_of s.number e ≡ true) (a : EndName) where
    abbrev c : End
    c = end_at past s.number a

    after_is : end_at (e ∷ past) s.number a ≡ sends_all (between a) (sent_at a e.sent)
    after_is = end_own s.number past a e is

    -- between, the epoch is no earlier
    pub between_grows : c.epoch ≤ (between a).epoch
    between_grows = go e.taken refl
      where
        at : (f : FrameView) → e.taken ≡ Some f → (b : Bool) → takes_at a f ≡ b → c.epoch ≤ (end_took c (if b then Some f else None)).epoch
        at f i false t = omega arith
        at f i true t =
            let may : may_take c f ≡ true = ap (λ (z : EndName). may_take (end_at past s.number z) f) (sym (takes_end a f t)) ∙ own_takes s past words e f own i in
            (takes_bound c f may).0

        go : (o : Option FrameView) → e.taken ≡ o → c.epoch ≤ (end_took c (taken_at a e.taken)).epoch
        go None i = subst (λ (o : Option FrameView). c.epoch ≤ (end_took c (taken_at a o)).epoch) (sym i) (omega arith)
        go (Some f) i = subst (λ (o : Option FrameView). c.epoch ≤ (end_took c (taken_at a o)).epoch) (sym i) (at f i (takes_at a f) refl)

    -- the epoch of an end never falls
    pub end_grows : c.epoch ≤ (end_at (e ∷ past) s.number a).epoch
    end_grows =
        let i = between_grows in
        let j = all_grow (between a) (sent_at a e.sent) in
        let k : c.epoch ≤ (sends_all (between a) (sent_at a e.sent)).epoch = more c.epoch (between a).epoch (sends_all (between a) (sent_at a e.sent)).epoch i j in
        subst (λ (z : End). c.epoch ≤ z.epoch) (sym after_is) k
      where
        more : (x y z : ℕ) → x ≤ y → y ≤ z → x ≤ z
        more x y z i j = omega (arith, i, j)

    -- what it takes is no later
    pub new_taken : (f : FrameView) → e.taken ≡ Some f → end_of f ≡ a → f.epoch ≤ (end_at (e ∷ past) s.number a).epoch
    new_taken f i at =
        let may : may_take c f ≡ true = ap (λ (z : EndName). may_take (end_at past s.number z) f) (sym at) ∙ own_takes s past words e f own i in
        let same : f.epoch ≡ (between a).epoch = (takes_bound c f may).1 ∙ ap (λ (z : End). z.epoch) (sym (between_is a f i at)) in
        subst (λ (z : End). f.epoch ≤ z.epoch) (sym after_is) (subst (λ n. n ≤ (sends_all (between a) (sent_at a e.sent)).epoch) (sym same) (all_grow (between a) (sent_at a e.sent)))

    -- nor what it sends
    pub new_sent : (g : FrameView) → Member g e.sent → from_end g ≡ a → g.epoch ≤ (end_at (e ∷ past) s.number a).epoch
    new_sent g m at = subst (λ (z : End). g.epoch ≤ z.epoch) (sym after_is) (go g.up refl)
      where
        last : ℕ
        last = (sends_all (between a) (sent_at a e.sent)).epoch

        no_less : (n x y : ℕ) → n ≡ x → x ≤ y → y ≤ last → n ≤ last
        no_less n x y i j k = omega (arith, i, j, k)

        client : SentWell c g → g.epoch ≤ last
        client (inl x) = no_less g.epoch c.epoch (between a).epoch x.1 between_grows (all_grow (between a) (sent_at a e.sent))
        client (inr x) = next g.epoch c.epoch (between a).epoch x.1 between_grows (opening_grows (between a) (sent_at a e.sent) g (Member-filter_from (sends_at a) e.sent g m (sends_is a g at)) x.2)
          where
            next : (n x y : ℕ) → n ≡ x + 1 → x ≤ y → y + 1 ≤ last → n ≤ last
            next n x y i j k = omega (arith, i, j, k)

        go : (b : Bool) → g.up ≡ b → g.epoch ≤ last
        go true u = client (subst (λ (z : EndName). SentWell (end_at past s.number z) g) at (client_sends g m u))
        go false u =
            let same : g.epoch ≡ (between a).epoch = (server_sends g m u).0 ∙ ap (λ (z : EndName). (between z).epoch) at in
            subst (λ n. n ≤ last) (sym same) (all_grow (between a) (sent_at a e.sent))

-- ---- all own entries

-- E: nothing of a later epoch than the end's was sent or taken
pub record Within (r : ℕ) (a : EndName) (past : List Entry) : Type 0 where
  pub sent_in : (x : Entry) (before : List Entry) (g : FrameView) → Occurs past x before → is_of r x ≡ true → Member g x.sent → from_end g ≡ a → g.epoch ≤ (end_at past r a).epoch
  pub taken_in : (x : Entry) (before : List Entry) (f : FrameView) → Occurs past x before → is_of r x ≡ true → x.taken ≡ Some f → end_of f ≡ a → f.epoch ≤ (end_at past r a).epoch

pub within : (s : SetUp) (a : EndName) (past : List Entry) → OwnRun s past → Within s.number a past
within s a past run = own_induction s (Within s.number a) (record { sent_in = λ x before g o. absurd o; taken_in = λ x before f o. absurd o }) other own past run
  where
    other : (past : List Entry) (e : Entry) → is_of s.number e ≡ false → Within s.number a past → Within s.number a (e ∷ past)
    other past e is old = record { sent_in = sent'; taken_in = taken' }
      where
        same : end_at (e ∷ past) s.number a ≡ end_at past s.number a
        same = rw is refl

        not_it : (x : Entry) → x ≡ e → is_of s.number x ≡ true → ⊥
        not_it x i o = let no' : true ≡ false = sym o ∙ ap (is_of s.number) i ∙ is in cc

        sent' : (x : Entry) (before : List Entry) (g : FrameView) → Occurs (e ∷ past) x before → is_of s.number x ≡ true → Member g x.sent → from_end g ≡ a → g.epoch ≤ (end_at (e ∷ past) s.number a).epoch
        sent' x before g (inl o) i m at = absurd (not_it x o.0 i)
        sent' x before g (inr o) i m at = subst (λ (z : End). g.epoch ≤ z.epoch) (sym same) (old.sent_in x before g o i m at)

        taken' : (x : Entry) (before : List Entry) (f : FrameView) → Occurs (e ∷ past) x before → is_of s.number x ≡ true → x.taken ≡ Some f → end_of f ≡ a → f.epoch ≤ (end_at (e ∷ past) s.number a).epoch
        taken' x before f (inl o) i m at = absurd (not_it x o.0 i)
        taken' x before f (inr o) i m at = subst (λ (z : End). f.epoch ≤ z.epoch) (sym same) (old.taken_in x before f o i m at)

    own : (past : List Entry) (e : Entry) (words : ℕ → Option Word) → OwnRun s past → is_of s.number e ≡ true → OwnPart s past words e → Within s.number a past → Within s.number a (e ∷ past)
    own past e words run is part old = record { sent_in = sent'; taken_in = taken' }
      where
        grows : (end_at past s.number a).epoch ≤ (end_at (e ∷ past) s.number a).epoch
        grows = end_grows s past words e part is a

        up : (n : ℕ) → n ≤ (end_at past s.number a).epoch → n ≤ (end_at (e ∷ past) s.number a).epoch
        up n i = let j = grows in omega (arith, i, j)

        sent' : (x : Entry) (before : List Entry) (g : FrameView) → Occurs (e ∷ past) x before → is_of s.number x ≡ true → Member g x.sent → from_end g ≡ a → g.epoch ≤ (end_at (e ∷ past) s.number a).epoch
        sent' x before g (inl o) i m at = new_sent s past words e part is a g (subst (λ (y : Entry). Member g y.sent) o.0 m) at
        sent' x before g (inr o) i m at = up g.epoch (old.sent_in x before g o i m at)

        taken' : (x : Entry) (before : List Entry) (f : FrameView) → Occurs (e ∷ past) x before → is_of s.number x ≡ true → x.taken ≡ Some f → end_of f ≡ a → f.epoch ≤ (end_at (e ∷ past) s.number a).epoch
        taken' x before f (inl o) i m at = new_taken s past words e part is a f (sym (ap (λ (y : Entry). y.taken) o.0) ∙ m) at
        taken' x before f (inr o) i m at = up f.epoch (old.taken_in x before f o i m at)
