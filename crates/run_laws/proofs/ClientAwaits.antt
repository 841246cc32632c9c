-- A job takes an answer where it has sent one more request than it took answers, and that request is what its phase says.
use Rattle.std.proofs.Common.{◌≡◌, ℕ, ◌+◌, true, false, List, length, Option, Some, refl, sym, ap, ◌∙◌, subst, not}
use Rattle.std.specs.Prelude.{if◌then◌else◌, ◌==◌, ◌&&◌, nat_lt, option_map}
use Rattle.std.proofs.lemmas.Bool.{true≢false, eqb-true, and_parts}
use Rattle.annex_base.specs.declared.kinds.Word.{Word}
use Rattle.annex_base.proofs.Conditions.{and_first}
use Rattle.annex_base.specs.Bools.{same_bool}
use Rattle.step_facts.proofs.Below.{SentAreRead}
use Rattle.run_data.specs.declared.entry.Entry.{Entry}
use Rattle.run_data.specs.declared.entry.FrameView.{FrameView}
use Rattle.run_data.specs.declared.entry.FrameText.{FrameText}
use Rattle.run_data.specs.declared.entry.FrameText.TheVariants.{Opening, Closing, Bytes, Line}
use Rattle.run_model.specs.Said.{message_in}
use Rattle.step_facts.proofs.Ways.{is_answer}
use Rattle.run_model.specs.Frames.{Way, last_request, requests, taken_if, up_of, way_of}
use Rattle.node_model.specs.Ends.{End, is_opening, may_take}
use Rattle.step_facts.proofs.ClientKeeps.{all_keep}
use Rattle.job_facts.proofs.PhasesFit.{phases_fit}
use Rattle.node_model.specs.SetUp.{SetUp}
use Rattle.run_model.specs.States.{end_at}
use Rattle.node_model.specs.Jobs.{job_end}
use Rattle.run_model.specs.Run.{OwnPart, OwnPast}
use Rattle.step_facts.proofs.Makers.{TakenBy, taken_of, taker}
use Rattle.step_facts.proofs.ClientCounts.{Counted, Request, LastIs, awaits_of, counts_at, is_answering, unit}
use Rattle.step_facts.proofs.ClientTurns.{live_on}
use Rattle.step_facts.proofs.ClientLeaves.{awaits_true, unit_yes}
use Rattle.step_facts.proofs.ClientWays.{answers_body, asked_by, ways_agree}

-- ---- where it stands on its ways

-- a message of an end's opening
answer_epoch : (c : End) (f : FrameView) → is_answering f.body ≡ true → may_take c f ≡ true → f.epoch ≡ c.epoch
answer_epoch c f e may = go f.body refl
  where
    at : (body : FrameText) → f.body ≡ body → (if is_opening body then not c.opened && nat_lt c.epoch f.epoch else c.opened && (f.epoch == c.epoch)) ≡ true
    at body is = subst (λ (b : FrameText). (if is_opening b then not c.opened && nat_lt c.epoch f.epoch else c.opened && (f.epoch == c.epoch)) ≡ true) is may

    go : (body : FrameText) → f.body ≡ body → f.epoch ≡ c.epoch
    go Opening is = absurd (true≢false (sym e ∙ ap is_answering is))
    go (Line text) is = eqb-true f.epoch c.epoch ((and_parts c.opened (f.epoch == c.epoch) (at (Line text) is)).1)
    go Closing is = absurd (true≢false (sym e ∙ ap is_answering is))
    go (Bytes n) is = absurd (true≢false (sym e ∙ ap is_answering is))

-- the way of a frame that a job takes
abbrev pub way_at : ℕ → ℕ → ℕ → ℕ → Way
way_at r peer slot epoch = record { client = r; server = peer; slot = slot; up = false; epoch = epoch }

way_is : (r peer slot epoch : ℕ) (f : FrameView) → f.up ≡ false → f.peer ≡ peer → f.slot ≡ slot → f.epoch ≡ epoch → way_of r f ≡ way_at r peer slot epoch
way_is r peer slot epoch f down p n e = rw (down, p, n, e) refl

module _ (reads_back : SentAreRead) (s : SetUp) (past : List Entry) (past_is : OwnPast s past) (e : Entry) (f : FrameView) (down : f.up ≡ false)
    (answer : is_answer (message_in f.body) ≡ true) (t : TakenBy s past e f) where
  body_answers : is_answering f.body ≡ true
  body_answers = sym (answers_body f.body) ∙ answer

  two : ((f.peer == t.peer) && (f.slot == t.w.slot)) ≡ true
  two = and_first ((f.peer == t.peer) && (f.slot == t.w.slot)) (same_bool true (if f.up then false else true)) t.of_end

  pub taken_way : way_of s.number f ≡ way_at s.number t.peer t.w.slot (end_at past s.number (job_end t.w t.peer)).epoch
  taken_way = way_is s.number t.peer t.w.slot (end_at past s.number (job_end t.w t.peer)).epoch f down
      (eqb-true f.peer t.peer (and_first (f.peer == t.peer) (f.slot == t.w.slot) two))
      (eqb-true f.slot t.w.slot ((and_parts (f.peer == t.peer) (f.slot == t.w.slot) two).1))
      (answer_epoch (end_at past s.number (job_end t.w t.peer)) f body_answers t.may)

  counted : Counted t.w.what.key t.w.what.peer t.w.phase t.peer (counts_at past s.number (job_end t.w t.peer))
  counted = phases_fit reads_back s past past_is t.w t.ran t.peer (live_on t.w.what.peer t.w.phase t.peer t.on) t.opened

  -- **awaits**
  pub taken_awaits : length (requests past (up_of (way_of s.number f))) ≡ taken_if is_answer past (way_of s.number f) + 1
  taken_awaits =
      let agree = ways_agree s.number t.peer t.w.slot past (all_keep reads_back s past past_is t.peer t.w.slot) in
      let one : unit (awaits_of t.w.what.peer t.w.phase t.peer) ≡ 1 = unit_yes (awaits_of t.w.what.peer t.w.phase t.peer) (awaits_true t.w.what.peer t.w.phase t.peer t.awaiting t.on) in
      subst (λ (w : Way). length (requests past (up_of w)) ≡ taken_if is_answer past w + 1) (sym taken_way)
      (agree.asked ∙ (counted.balance ∙ (ap (λ n. (counts_at past s.number (job_end t.w t.peer)).got + n) one ∙ ap (λ n. n + 1) (sym agree.got))))

  -- the last request of this way is what the phase says
  pub taken_last : (last : Option Request) → option_map asked_by (last_request past (up_of (way_of s.number f))) ≡ last → LastIs t.w.what.key t.w.what.peer t.w.phase t.peer last
  taken_last last is =
      let agree = ways_agree s.number t.peer t.w.slot past (all_keep reads_back s past past_is t.peer t.w.slot) in
      let same : option_map asked_by (last_request past (up_of (way_of s.number f))) ≡ (counts_at past s.number (job_end t.w t.peer)).last =
      ap (λ (w : Way). option_map asked_by (last_request past (up_of w))) taken_way ∙ agree.last in
      subst (LastIs t.w.what.key t.w.what.peer t.w.phase t.peer) (sym same ∙ is) counted.last

-- **an entry of the repository that takes an answer awaits it**
pub own_awaits : SentAreRead → (s : SetUp) (past : List Entry) → OwnPast s past → (words : ℕ → Option Word) (e : Entry) → OwnPart s past words e
    → (f : FrameView) → e.taken ≡ Some f → f.up ≡ false → is_answer (message_in f.body) ≡ true → length (requests past (up_of (way_of s.number f))) ≡ taken_if is_answer past (way_of s.number f) + 1
own_awaits reads_back s past past_is words e own f took down answer = taken_awaits reads_back s past past_is e f down answer (taken_of s past e (taker s past words e own f took down) f took)
