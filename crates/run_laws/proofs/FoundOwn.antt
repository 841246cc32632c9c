-- The facts of `Own` that inversions of the step give at once: known, share, shares_with, look, obeys, no_script.
use Rattle.std.proofs.Common.{◌≡◌, ◌≢◌, ℕ, ◌<◌, ◌^◌, Bool, true, false, List, Some, inl, inr, ap}
use Rattle.std.specs.Prelude.{if◌then◌else◌, length}
use Rattle.annex_base.specs.declared.kinds.Found.TheVariants.{Present}
use Rattle.run_data.specs.declared.entry.By.{By}
use Rattle.run_data.specs.declared.entry.By.TheVariants.{Script, Job as by_job, Peer}
use Rattle.run_data.specs.declared.entry.Entry.{Entry}
use Rattle.run_data.specs.declared.entry.EntryKind.TheVariants.{Share, Check, Gone}
use Rattle.run_data.specs.declared.entry.FrameView.{FrameView}
use Rattle.run_data.specs.declared.run.RepoView.{RepoView}
use Rattle.p2p_wire.specs.declared.message.Message.{Message}
use Rattle.p2p_wire.specs.declared.message.Message.TheVariants.{CheckPresent, LockContent}
use Rattle.p2p_wire.specs.Messages.{order_of}
use Rattle.run_model.specs.Said.{Says}
use Rattle.run_model.specs.Frames.{Way, way_of}
use Rattle.step_facts.proofs.Ways.{down_of, way_from}
use Rattle.node_model.specs.SetUp.{SetUp}
use Rattle.node_model.specs.Ends.{server_end}
use Rattle.run_model.specs.States.{state_of}
use Rattle.node_model.specs.Look.{Look, Effect, entry_of}
use Rattle.node_model.specs.Step.{step}
use Rattle.step_facts.proofs.BySteps.{ByStep}
use Rattle.run_model.specs.Run.{IsBounded, OwnPast}
use Rattle.step_facts.proofs.ServerAnswers as answers
use Rattle.run_laws.proofs.SaidDown.{said_is}
use Rattle.step_facts.proofs.BySteps.{any_kind, by_step}
use Rattle.step_facts.proofs.AnswerFacts.{looks, may_obey, may_share, may_share_own, shares_with}
use Rattle.step_facts.proofs.EndEpochs.{from_end}
use Rattle.run_laws.proofs.SaidByClock.{said_by_clock}
use Rattle.step_facts.proofs.StepFacts.{gone_by_script, kind_found}
use Rattle.past_facts.specs.Lawful.{HasFreeContent}
use Rattle.past_facts.proofs.Own.{MayObey, MayShare, SaysYes, SharesWith}
use Rattle.step_facts.proofs.EndMoves.{line_opens}

-- ---- facts of an entry by its repository's own part

free_of : (past : List Entry) (r : ℕ) (key : List ℕ) → answers.OwnFree past r key → HasFreeContent past r key
free_of past r key x = record { there = x.there; free = x.free }

abbrev yes_of : (r : ℕ) (e : Entry) (p c : ℕ) (m : Message) → answers.SaysYes r e p c m → SaysYes r e (Says m)
yes_of r e p c m x = record {
  f = x.takes.f;
  takes_it = x.takes.takes_it;
  from_client = x.takes.from_client;
  asked_is = said_is x.takes.f.body m x.takes.asked_is;
  g = x.g;
  alone = x.alone;
  back = x.back;
  yes = said_is x.g.body _ x.yes;
}

share_of : (repos : List RepoView) (r : ℕ) (past : List Entry) (e : Entry) (hold end : ℕ) (key : List ℕ) → answers.MayShare repos r past e hold end key → MayShare repos r past e hold end key
share_of repos r past e hold end key x = record { row = free_of past r key x.row; end_is = x.end_is; number_is = x.number_is }

-- a script shares nothing
script_share : (s : SetUp) (past : List Entry) (k : Look) (m : Effect) (hold end : ℕ) (key : List ℕ) → step s (state_of s past) k ≡ Some m → m.kind ≡ Share hold end Script key → ⊥
script_share s past k m hold end key e is = elim (kind_found s (state_of s past) k m (Share hold end Script key) e is (λ x. x)) [
  | inl x ↦ (let no_peer : Script ≡ Peer x.by.peer x.by.slot = x.found.by_is in cc)
  | inr x ↦ (let no_job : Script ≡ by_job x.by.w.number = x.found.by_is in cc)
]

-- `known`
pub known_step : ByStep (λ s past e. s.number < length s.repos)
known_step s past words e h b is part = part.known

-- `share`
pub share_step : ByStep (λ s past e. (hold end : ℕ) (by : By) (key : List ℕ) → e.kind ≡ Share hold end by key → MayShare s.repos s.number past e hold end key)
share_step = by_step (λ s past e. (hold end : ℕ) (by : By) (key : List ℕ) → e.kind ≡ Share hold end by key → MayShare s.repos s.number past e hold end key) made
    (λ s past e h b is x hold end by key kind. absurd (any_kind s past e (Share hold end by key) x kind))
  where
    made : (s : SetUp) (past : List Entry) (k : Look) (m : Effect) → OwnPast s past → IsBounded (entry_of s.number k m) → k.part < 2 ^ 62 → step s (state_of s past) k ≡ Some m
        → (hold end : ℕ) (by : By) (key : List ℕ) → m.kind ≡ Share hold end by key → MayShare s.repos s.number past (entry_of s.number k m) hold end key
    made s past k m h b small e hold end (Peer p c) key kind = share_of s.repos s.number past (entry_of s.number k m) hold end key (may_share s past k m e hold end p c key kind)
    made s past k m h b small e hold end (by_job j) key kind = share_of s.repos s.number past (entry_of s.number k m) hold end key (may_share_own s past k m e hold end j key kind)
    made s past k m h b small e hold end Script key kind = absurd (script_share s past k m hold end key e kind)

-- `shares_with`
pub shares_with_step : ByStep (λ s past e. (hold end peer slot : ℕ) (key : List ℕ) → e.kind ≡ Share hold end (Peer peer slot) key → SharesWith s.number e peer slot key)
shares_with_step = by_step (λ s past e. (hold end peer slot : ℕ) (key : List ℕ) → e.kind ≡ Share hold end (Peer peer slot) key → SharesWith s.number e peer slot key)
    (λ s past k m h b small e hold end peer slot key kind.
    let x = shares_with s past k m e hold end peer slot key kind in
    record { answer = yes_of s.number (entry_of s.number k m) peer slot (LockContent key) x; peer_is = x.takes.peer_is; slot_is = x.takes.slot_is })
    (λ s past e h b is x hold end peer slot key kind. absurd (any_kind s past e (Share hold end (Peer peer slot) key) x kind))

-- `look`
pub look_step : ByStep (λ s past e. (key : List ℕ) → e.kind ≡ Check Present key → HasFreeContent past s.number key × SaysYes s.number e (Says (CheckPresent key)))
look_step = by_step (λ s past e. (key : List ℕ) → e.kind ≡ Check Present key → HasFreeContent past s.number key × SaysYes s.number e (Says (CheckPresent key)))
    (λ s past k m h b small e key kind.
    let x = looks s past k m e key kind in
    let y = x.1 in
    (free_of past s.number key x.0, yes_of s.number (entry_of s.number k m) y.0 y.1 (CheckPresent key) y.2))
    (λ s past e h b is x key kind. absurd (any_kind s past e (Check Present key) x kind))

-- `obeys`
obey_found : ByStep (λ s past e. (peer slot : ℕ) (key : List ℕ) → e.kind ≡ Gone (Peer peer slot) key → answers.MayObey s.repos s.number past e peer slot key)
obey_found = by_step (λ s past e. (peer slot : ℕ) (key : List ℕ) → e.kind ≡ Gone (Peer peer slot) key → answers.MayObey s.repos s.number past e peer slot key)
    (λ s past k m h b small e peer slot key kind. may_obey s past k m e peer slot key kind)
    (λ s past e h b is x peer slot key kind. absurd (any_kind s past e (Gone (Peer peer slot) key) x kind))

-- what goes down the way on which a frame came up was said by the server's end of it
server_from : (r : ℕ) (f g : FrameView) → f.up ≡ true → g.up ≡ false → way_from r g ≡ down_of (way_of r f) → from_end g ≡ server_end f.peer f.slot
server_from r f g up down way i = record { peer = peer g.up f.up down up (ap (λ (w : Way). w.client) way) i; slot = ap (λ (w : Way). w.slot) way i; client = down i }
  where
    peer : (b c : Bool) → b ≡ false → c ≡ true → (if b then r else g.peer) ≡ (if c then f.peer else r) → g.peer ≡ f.peer
    peer false true h k e = e
    peer true c h k e = absurd (cc)
    peer false false h k e = absurd (cc)

pub obeys_step : ByStep (λ s past e. (peer slot : ℕ) (key : List ℕ) → e.kind ≡ Gone (Peer peer slot) key → MayObey s.repos s.number past e peer slot key)
obeys_step s past words e h b is part peer slot key kind =
    let x = obey_found s past words e h b is part peer slot key kind in
    let t = x.yes.takes in
    record {
      f = t.f;
      takes_it = t.takes_it;
      from_client = t.from_client;
      peer_is = t.peer_is;
      slot_is = t.slot_is;
      deadline = x.deadline;
      asked_is = said_is t.f.body (order_of x.deadline key) t.asked_is;
      free = x.row.free;
      unheld = x.unheld;
      soon = x.soon;
      same_clock = λ y before o mine g member way.
          said_by_clock s past words e h.run part t.f t.takes_it t.from_client (line_opens t.f.body (order_of x.deadline key) t.asked_is) y before g o mine member
          (server_from s.number t.f g t.from_client (ap (λ (w : Way). w.up) way) way) (ap (λ (w : Way). w.epoch) way);
    }

-- `no_script`
pub no_script_step : ByStep (λ s past e. (key : List ℕ) → e.kind ≢ Gone Script key)
no_script_step = by_step (λ s past e. (key : List ℕ) → e.kind ≢ Gone Script key)
    (λ s past k m h b small e key kind. gone_by_script s (state_of s past) k m e key kind)
    (λ s past e h b is x key kind. any_kind s past e (Gone Script key) x kind)
