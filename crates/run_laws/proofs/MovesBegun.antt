-- A move's drop begins as the entries tell, over a repository's own past: by the first step of a get, or by an answer to VALID or to PUT.
use Rattle.std.proofs.Common.{◌≡◌, ◌≢◌, ℕ, true, false, List, [], ◌∷◌, Option, Some, None, ◌⊎◌, inl, inr, refl, sym, ap, ◌∙◌, subst}
use Rattle.std.specs.Prelude.{◌==◌, ◌&&◌, ◌||◌, not, option_map}
use Rattle.std.proofs.lemmas.Bool.{and_from, or_right}
use Rattle.annex_base.specs.Lists.{Member}
use Rattle.annex_base.proofs.Conditions.{eqb_refl}
use Rattle.step_facts.proofs.Below.{SentAreRead}
use Rattle.run_data.specs.declared.entry.By.{By}
use Rattle.run_data.specs.declared.entry.Entry.{Entry}
use Rattle.run_data.specs.declared.entry.EntryKind.{EntryKind}
use Rattle.run_data.specs.declared.entry.EntryKind.TheVariants.{Gain, Share, Bar, Gone, Order, Talk, Fault, End as ends_job}
use Rattle.run_data.specs.declared.entry.FrameView.{FrameView}
use Rattle.run_data.specs.declared.job.Outcome.{Outcome}
use Rattle.node_model.specs.Rows.{option_is}
use Rattle.run_model.specs.Past.{is_of}
use Rattle.node_model.specs.Slots.{job_by}
use Rattle.run_model.specs.Frames.{last_request, said_of, up_of, way_of, FlyingFrame}
use Rattle.run_model.specs.Logs.{has_it, has_stepped, hears_has_it, is_quiet, starts_drop}
use Rattle.run_model.specs.Said.{Said, Says, message_in}
use Rattle.step_facts.proofs.Ways.{is_answer}
use Rattle.p2p_wire.specs.declared.message.Message.{Message}
use Rattle.p2p_wire.specs.declared.message.Message.TheVariants.{AlreadyHave, Success, Valid}
use Rattle.node_model.specs.Sessions.{line_in}
use Rattle.node_model.specs.SetUp.{SetUp}
use Rattle.node_model.specs.Jobs
use Rattle.node_model.specs.Jobs.{Drops, Phase, PutsAnswer, PutsOffer, Work, claims, learns, talks_on, work_kind, partner}
use Rattle.run_model.specs.States.{rows_at, works}
use Rattle.node_model.specs.Found.{IsJobEntry}
use Rattle.run_model.specs.Run.{OwnPast}
use Rattle.job_facts.proofs.PhaseFacts.{readies_place}
use Rattle.step_facts.proofs.JobSteps.{Stepped, turn_at, Steps}
use Rattle.job_facts.proofs.WorkFits.{step_kind, step_number, step_runs}
use Rattle.job_facts.proofs.Speaks.{hears}
use Rattle.step_facts.proofs.ClientCounts.{LastIs, Request, request}
use Rattle.step_facts.proofs.ClientWays.{asked_by}
use Rattle.run_laws.proofs.ClientAwaits.{taken_last}
use Rattle.step_facts.proofs.Makers.{taken_of}
use Rattle.step_facts.proofs.BySteps.{earlier}
use Rattle.job_facts.proofs.GetsBegin.{no_step}
use Rattle.run_laws.proofs.SaidDown.{said_is}
use Rattle.step_facts.proofs.JobKept.{fault_stays}
use Rattle.job_facts.proofs.PartTurns.{FirstTurn, HasIt, Same, TakenTurn, on_turn}

valid_said : (o : Option FlyingFrame) (time : ℕ) → option_map asked_by o ≡ Some (request time (Some Valid)) → option_map said_of o ≡ Some (Says Valid)
valid_said None time e = absurd (cc)
valid_said (Some x) time e =
    let is : Some (line_in x.frame.body) ≡ Some (Some Valid) = ap (λ (o : Option Request). option_map (λ (q : Request). q.what) o) e in
    let line : line_in x.frame.body ≡ Some Valid = cc in
    ap Some (said_is x.frame.body Valid line)

-- where a job takes the answer to VALID, that is the last request on the connection
last_valid : SentAreRead → (s : SetUp) (past : List Entry) (e : Entry) → OwnPast s (e ∷ past) → (x : Stepped s past e) (f : FrameView) → e.taken ≡ Some f → is_answer (message_in f.body) ≡ true
    → (peer start : ℕ) → x.w.phase ≡ PutsAnswer peer start → option_map said_of (last_request past (up_of (way_of s.number f))) ≡ Some (Says Valid)
last_valid reads_back s past e h x f took answer peer start is =
    let before = earlier s past e h in
    let y = taken_of s past e x f took in
    let last = option_map asked_by (last_request past (up_of (way_of s.number f))) in
    let now : LastIs x.w.what.key x.w.what.peer x.w.phase y.peer last = taken_last reads_back s past before e f (hears s past e x f took).1 answer y last refl in
    let on : Some peer ≡ Some y.peer = subst (λ (q : Phase). partner x.w.what.peer q ≡ Some y.peer) is y.on in
    let same : peer ≡ y.peer = cc in
    let valid = subst (λ (q : Phase). LastIs x.w.what.key x.w.what.peer q y.peer last) is now same in
    valid_said (last_request past (up_of (way_of s.number f))) valid.0 valid.1

-- ---- the step by which a transfer is done

has_answers : (phase : Phase) (m : Message) → HasIt phase m → is_answer (Says m) ≡ true
has_answers (PutsOffer peer) AlreadyHave has = refl
has_answers (PutsAnswer peer start) Success has = refl
has_answers phase m has = absurd has

has_said : (phase : Phase) (m : Message) (asked : Option Said) → HasIt phase m → ((peer start : ℕ) → phase ≡ PutsAnswer peer start → asked ≡ Some (Says Valid)) → has_it (Says m) asked ≡ true
has_said (PutsOffer peer) AlreadyHave asked has last = refl
has_said (PutsAnswer peer start) Success asked has last = rw (last peer start refl) refl
has_said phase m asked has last = absurd has

module _ (reads_back : SentAreRead) (s : SetUp) where
  talk_begins : (past : List Entry) (e : Entry) → OwnPast s (e ∷ past) → (x : Stepped s past e) → Member x.w (works past s.number)
      → (e.sent ≡ []) × (FirstTurn x.w e.taken ⊎ TakenTurn x.w e.taken)
      → ((is_quiet e.taken e.sent && not (has_stepped past s.number x.w.number)) || hears_has_it past s.number e.taken) ≡ true
  talk_begins past e h x runs (sent, inl at) =
      rw (at.2, sent, no_step reads_back s past h.run.1 x.w runs at.0 at.1) refl
  talk_begins past e h x runs (sent, inr at) =
      let f = at.0 in
      let has = at.2 in
      let asked = option_map said_of (last_request past (up_of (way_of s.number f))) in
      let answer : is_answer (message_in f.body) ≡ true = ap is_answer (said_is f.body has.0 has.1) ∙ has_answers x.w.phase has.0 has.2 in
      let said : has_it (message_in f.body) asked ≡ true =
      subst (λ q. has_it q asked ≡ true) (sym (said_is f.body has.0 has.1)) (has_said x.w.phase has.0 asked has.2 (λ peer start is. last_valid reads_back s past e h x f at.1 answer peer start is)) in
      let down : f.up ≡ false = (hears s past e x f at.1).1 in
      let heard : hears_has_it past s.number e.taken ≡ true = subst (λ o. hears_has_it past s.number o ≡ true) (sym at.1) (and_from (not f.up) (has_it (message_in f.body) asked) (ap not down) said) in
      or_right (is_quiet e.taken e.sent && not (has_stepped past s.number x.w.number)) (hears_has_it past s.number e.taken) heard

  kind_begins : (past : List Entry) (e : Entry) → OwnPast s (e ∷ past) → (x : Stepped s past e) → Member x.w (works past s.number) → (kind : EntryKind) → IsJobEntry (turn_at s past e x) x.made kind
      → x.w.part ≢ Drops → (work_kind (rows_at past s.number) s.number x.w e kind).part ≡ Drops → ((j : ℕ) (outcome : Outcome) → kind ≢ ends_job j outcome) → starts_drop past s.number x.w.number e kind ≡ true
  kind_begins past e h x runs (Share hold end by key) k apart part goes_on = absurd (apart k.part_is)
  kind_begins past e h x runs (Bar j need key) k apart part goes_on = absurd (apart k.part_is)
  kind_begins past e h x runs (Gone by key) k apart part goes_on = absurd (apart k.part_is)
  kind_begins past e h x runs (Order j peer deadline need key) k apart part goes_on = absurd (apart k.part_is)
  kind_begins past e h x runs (ends_job j outcome) k apart part goes_on = absurd (goes_on j outcome refl)
  kind_begins past e h x runs (Fault call by) k apart part goes_on = absurd (apart (sym (fault_stays s.number x.w e.time call).1 ∙ part))
  kind_begins past e h x runs (Gain by size key) k apart part goes_on =
      subst (λ (b : By). option_is (job_by b) x.w.number ≡ true) (sym k.by_is) (eqb_refl x.w.number)
  kind_begins past e h x runs (Talk (Some j)) k apart part goes_on =
      let w = x.w in
      let y = learns (claims w w.part w.phase) w.phase e.taken in
      let place = readies_place w e.taken in
      let mine : option_is (Some j) w.number ≡ true = subst (λ n. (n == w.number) ≡ true) (sym k.0) (eqb_refl w.number) in
      let talk = talk_begins past e h x runs (go y place.0 place.1 (on_turn (rows_at past s.number) s.number y e (Jobs.partner w.what.peer w.phase)) part) in
      rw mine talk
    where
      go : (y : Work) → y.part ≡ x.w.part → y.phase ≡ x.w.phase
          → Same y (talks_on (rows_at past s.number) s.number y e (Jobs.partner x.w.what.peer x.w.phase)) ⊎ ((e.sent ≡ []) × (FirstTurn y e.taken ⊎ TakenTurn y e.taken))
          → (talks_on (rows_at past s.number) s.number y e (Jobs.partner x.w.what.peer x.w.phase)).part ≡ Drops → (e.sent ≡ []) × (FirstTurn x.w e.taken ⊎ TakenTurn x.w e.taken)
      go y p q (inl same) drops = absurd (apart (sym p ∙ sym same ∙ drops))
      go y p q (inr (sent, inl at)) drops = (sent, inl (sym p ∙ at.0, sym q ∙ at.1, at.2))
      go y p q (inr (sent, inr at)) drops = (sent, inr (at.0, at.1, (at.2.0, at.2.1, subst (λ h. HasIt h at.2.0) q at.2.2)))
  kind_begins past e h x runs kind k apart part goes_on = absurd k

  -- **the step by which a move's transfer is done begins its drop**
  pub moves_begun : (past : List Entry) (e : Entry) → OwnPast s (e ∷ past) → is_of s.number e ≡ true → (w : Work) → (x : Steps s past e w) → x.by.w.part ≢ Drops → w.part ≡ Drops
      → starts_drop past s.number w.number e e.kind ≡ true
  moves_begun past e h is w b apart part =
      subst (λ n. starts_drop past s.number n e e.kind ≡ true) (sym (step_number s past e w b))
      (kind_begins past e h b.by (step_runs s past e w b) e.kind (step_kind s past e w b) apart (sym (ap (λ (y : Work). y.part) b.work_is) ∙ part) b.goes_on)
