-- What the table of steps says of gains, and of the frames that a session takes.
use Rattle.std.proofs.Common.{◌≡◌, ℕ, true, false, List, Option, Some, None, ◌⊎◌, inl, inr, refl, sym, ap, ◌∙◌, subst}
use Rattle.std.proofs.lemmas.Option.{same_Some}
use Rattle.annex_base.specs.Lists.{Member}
use Rattle.annex_base.proofs.Lists.{find_member}
use Rattle.run_data.specs.declared.entry.By.{By}
use Rattle.run_data.specs.declared.entry.EntryKind.{EntryKind}
use Rattle.run_data.specs.declared.entry.EntryKind.TheVariants.{Check, Close, Fault, Gain, Gone, Release, Share, Talk}
use Rattle.run_data.specs.declared.entry.FrameText.{FrameText}
use Rattle.run_data.specs.declared.entry.FrameView.{FrameView}
use Rattle.p2p_wire.specs.declared.message.Message.{Message}
use Rattle.p2p_wire.specs.declared.message.Message.TheVariants.{Valid}
use Rattle.node_model.specs.Ends.{EndName, server_end}
use Rattle.node_model.specs.Found.{ByJob, ByOwed, BySession, GainsPart, IsJobEntry, JobTakes, IsSessionEntry, StepFound}
use Rattle.node_model.specs.Jobs.{GetsWord, Work}
use Rattle.node_model.specs.JobStep.{turn_of}
use Rattle.node_model.specs.Look.{Look, Effect}
use Rattle.node_model.specs.Sessions.{Doing, Took, line_in}
use Rattle.node_model.specs.SessionStep.{Here, here}
use Rattle.node_model.specs.SetUp.{SetUp}
use Rattle.node_model.specs.Slots.{job_by, job_of}
use Rattle.node_model.specs.State.{State}
use Rattle.node_model.specs.Step.{step}
use Rattle.driver_model.specs.Driver.{end_to}
use Rattle.fleet_model.proofs.JobTakes.{to_client}
use Rattle.fleet_model.proofs.StepOrigins.{to_server}

-- the law of steps
pub record Finds : Type 0 where
  pub found : (s : SetUp) (st : State) (k : Look) (m : Effect) → step s st k ≡ Some m → StepFound s st k m

-- ---- a gain

-- the session at whose end the frame came has taken the part, and the frame says VALID
pub record IsGain (st : State) (m : Effect) (size : ℕ) (key : List ℕ) : Type 0 where
  pub f : FrameView
  pub taken : m.taken ≡ Some f
  pub up : f.up ≡ true
  pub doing : (st.sessions (end_to f)).doing ≡ Took key size
  pub word : line_in f.body ≡ Some Valid

-- the job of this work is a get of the key that has taken the part, and the frame that it takes says VALID
pub record IsGot (st : State) (m : Effect) (key : List ℕ) : Type 0 where
  pub w : Work
  pub among : Member w st.works
  pub made : job_of m.kind ≡ Some w.number
  pub peer : ℕ
  pub start : ℕ
  pub size : ℕ
  pub phase : w.phase ≡ GetsWord peer start size
  pub f : FrameView
  pub taken : m.taken ≡ Some f
  pub down : f.up ≡ false
  pub word : line_in f.body ≡ Some Valid
  pub key_is : w.what.key ≡ key

-- the kind of an entry that writes an owed line is no gain
abbrev IsNoGain : EntryKind → Type 0
IsNoGain (Gain by size key) = ⊥
IsNoGain kind = Unit {0}

owed_no_gain : (s : SetUp) (st : State) (k : Look) (m : Effect) → ByOwed s st k m → IsNoGain m.kind
owed_no_gain s st k m x = elim (x.writes) [
  | inl w ↦ subst (λ (y : Effect). IsNoGain y.kind) (sym w) tt
  | inr w ↦ subst (λ (y : Effect). IsNoGain y.kind) (sym w) tt
]

gain_by_job : (s : SetUp) (st : State) (k : Look) (m : Effect) (by : By) (size : ℕ) (key : List ℕ) → m.kind ≡ Gain by size key → ByJob s st k m → IsGot st m key
gain_by_job s st k m by size key is x = record {
  w = x.w;
  among = (find_member _ st.works x.w x.runs).0;
  made = ap job_of is ∙ ap job_by got.by_is;
  peer = got.peer;
  start = got.start;
  size = size;
  phase = got.phase_is;
  f = got.f;
  taken = got.taken_is;
  down = down x.frame;
  word = got.word;
  key_is = sym got.key_is;
} where
  got : GainsPart (turn_of s st k x.w) by size key m.taken m.sent
  got = subst (IsJobEntry (turn_of s st k x.w) m) is x.found

  down : (m.taken ≡ None) ⊎ JobTakes (turn_of s st k x.w) m → got.f.up ≡ false
  down (inl none) = absurd (let clash : None ≡ Some got.f = sym none ∙ got.taken_is in cc)
  down (inr t) =
      let same : t.f ≡ got.f = same_Some t.f got.f (sym t.taken_is ∙ got.taken_is) in
      subst (λ (g : FrameView). g.up ≡ false) same (to_client x.w t.peer t.f t.of_end)

gain_by_session : (s : SetUp) (st : State) (k : Look) (m : Effect) (by : By) (size : ℕ) (key : List ℕ) → m.kind ≡ Gain by size key → BySession s st k m → IsGain st m size key
gain_by_session s st k m by size key is x =
    let a : EndName = server_end x.peer x.slot in
    let found = subst (IsSessionEntry (here s st k a) (st.sessions a).doing x.asked x.says) is x.found in
    elim (x.frame) [
      | inl t ↦ (let to = to_server x.peer x.slot t.f t.of_end in record {
        f = t.f;
        taken = t.taken_is;
        up = to.0;
        doing = subst (λ (b : EndName). (st.sessions b).doing ≡ Took key size) to.1 found.took;
        word = sym t.asked_is ∙ found.asks;
      })
      | inr g ↦ absurd (let none : None ≡ Some Valid = sym g.asked_is ∙ found.asks in cc)
    ]

pub gain_found : (s : SetUp) (st : State) (k : Look) (m : Effect) (by : By) (size : ℕ) (key : List ℕ) → StepFound s st k m → m.kind ≡ Gain by size key → IsGain st m size key ⊎ IsGot st m key
gain_found s st k m by size key (inl o) is = absurd (subst IsNoGain is (owed_no_gain s st k m o))
gain_found s st k m by size key (inr (inl x)) is = inl (gain_by_session s st k m by size key is x)
gain_found s st k m by size key (inr (inr x)) is = inr (gain_by_job s st k m by size key is x)

-- ---- the frames that a session takes

session_no_job : (h : Here) (doing : Doing) (asked : Option Message) (says : List FrameText) (kind : EntryKind) → IsSessionEntry h doing asked says kind → job_of kind ≡ None
session_no_job h doing asked says (Share hold end by key) found = ap job_by found.by_is
session_no_job h doing asked says (Check what key) found = refl
session_no_job h doing asked says (Gone by key) found = ap job_by found.by_is
session_no_job h doing asked says (Release hold key) found = refl
session_no_job h doing asked says (Gain by size key) found = ap job_by found.by_is
session_no_job h doing asked says (Talk None) found = refl
session_no_job h doing asked says (Close peer slot client) found = refl
session_no_job h doing asked says (Fault call by) found = ap job_by found.0
session_no_job h doing asked says kind found = absurd found

-- an entry by a frame that came to a server is no job's
pub serves_no_job : (s : SetUp) (st : State) (k : Look) (m : Effect) (f : FrameView) → StepFound s st k m → m.taken ≡ Some f → f.up ≡ true → job_of m.kind ≡ None
serves_no_job s st k m f (inl o) taken up = elim (o.writes) [
  | inl w ↦ absurd (let none : None ≡ Some f = sym (ap (λ (y : Effect). y.taken) w) ∙ taken in cc)
  | inr w ↦ absurd (let none : None ≡ Some f = sym (ap (λ (y : Effect). y.taken) w) ∙ taken in cc)
]
serves_no_job s st k m f (inr (inl x)) taken up =
    session_no_job (here s st k (server_end x.peer x.slot)) (st.sessions (server_end x.peer x.slot)).doing x.asked x.says m.kind x.found
serves_no_job s st k m f (inr (inr x)) taken up = absurd (by_job x.frame)
  where
    by_job : (m.taken ≡ None) ⊎ JobTakes (turn_of s st k x.w) m → ⊥
    by_job (inl none) = cc
    by_job (inr t) =
        let same : t.f ≡ f = cc in
        let down : t.f.up ≡ false = to_client x.w t.peer t.f t.of_end in
        let not : true ≡ false = sym up ∙ (ap (λ (g : FrameView). g.up) (sym same) ∙ down) in cc
