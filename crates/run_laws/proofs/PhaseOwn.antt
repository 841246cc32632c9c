-- The facts of Own that the phases of jobs give: an answer is awaited, a bar stands on what it has to, and a job that has ordered ends with
-- each request answered.
use Rattle.run_model.specs.States.{state_of}
use Rattle.std.proofs.Common.{◌≡◌, ℕ, ◌≤◌, true, false, List, length, Option, Some, inl, inr, sym, ap, ◌∙◌, subst}
use Rattle.std.specs.Prelude.{if◌then◌else◌}
use Rattle.drop_proof.specs.declared.rule.Need.{Need}
use Rattle.run_data.specs.declared.entry.EntryKind.TheVariants.{Bar, End}
use Rattle.run_data.specs.declared.entry.FrameView.{FrameView}
use Rattle.run_data.specs.declared.job.Outcome.{Outcome}
use Rattle.node_model.specs.Rows.{is_lost_ordered}
use Rattle.p2p_wire.specs.Messages.{order_of}
use Rattle.step_facts.proofs.Ways.{is_answer, down_of, way_from}
use Rattle.run_model.specs.Said.{message_in}
use Rattle.run_model.specs.Frames.{Way, requests, taken_if}
use Rattle.node_model.specs.SetUp.{SetUp}
use Rattle.step_facts.proofs.BySteps.{ByStep}
use Rattle.run_model.specs.Run.{IsStep, OwnPart}
use Rattle.annex_base.specs.declared.kinds.Word.{Word}
use Rattle.step_facts.proofs.Below.{SentAreRead}
use Rattle.run_data.specs.declared.entry.Entry.{Entry}
use Rattle.node_model.specs.AnyTime.{MayCome}
use Rattle.step_facts.proofs.ServerAnswers
use Rattle.step_facts.proofs.AnswerFacts.{may_bar}
use Rattle.run_laws.proofs.Decisions.{bar_stands}
use Rattle.run_laws.proofs.ClientAwaits.{own_awaits}
use Rattle.step_facts.proofs.ClientRuns.{client_end}
use Rattle.step_facts.proofs.ClientWays.{up_way}
use Rattle.run_laws.proofs.OrdersSent.{SentOrder}
use Rattle.run_laws.proofs.OrdersAnswered.{ends_answered}
use Rattle.past_facts.proofs.Own.{Awaits, MayBar, MayEnd}
use Rattle.run_laws.proofs.SaidDown.{is_said}

-- the way of a frame that goes up
way_up : (r : ℕ) (g : FrameView) → g.up ≡ true → way_from r g ≡ up_way r (client_end g.peer g.slot) g.epoch
way_up r g up i = record { client = if up i then r else g.peer; server = if up i then g.peer else r; slot = g.slot; up = up i; epoch = g.epoch }

-- the field `awaits`
pub awaits_step : SentAreRead → ByStep (λ s past e. (f : FrameView) → e.taken ≡ Some f → f.up ≡ false → is_answer (message_in f.body) ≡ true → Awaits s.number past f)
awaits_step reads_back s past words e h b is part f took down answer = own_awaits reads_back s past h words e part f took down answer

-- the row of a bar, as the step found it
row_found : (s : SetUp) (past : List Entry) (words : ℕ → Option Word) (e : Entry) → OwnPart s past words e → (j : ℕ) (need : Need) (key : List ℕ) → e.kind ≡ Bar j need key
    → ServerAnswers.MayBar s past e j need key
row_found s past words e own j need key is = elim (own.does) [
  | inl x ↦ step x
  | inr x ↦ absurd (subst (MayCome s (state_of s past) e.lines e.sent) is x.may)
]
  where
    step : IsStep s past words e → ServerAnswers.MayBar s past e j need key
    step x = subst (λ (y : Entry). ServerAnswers.MayBar s past y j need key) (sym x.is) (may_bar s past x.look x.made x.makes j need key (sym (ap (λ (y : Entry). y.kind) x.is) ∙ is))

-- the field `bar_put`
pub bar_put_step : SentAreRead → ByStep (λ s past e. (j : ℕ) (need : Need) (key : List ℕ) → e.kind ≡ Bar j need key → MayBar s.repos s.number past e j need key)
bar_put_step reads_back s past words e h b is part j need key kind =
    let row = row_found s past words e part j need key kind in
    let stands = bar_stands reads_back s past words e h part j need key kind in
    record {
      row = record { there = row.row.there; free = row.row.free };
      unheld = row.unheld;
      first = stands.first;
      open' = stands.open';
      nothing_asked = stands.nothing_asked;
      dropping = stands.dropping;
      key_is = stands.key_is;
    }

-- the field `ends`
pub ends_step : SentAreRead → ByStep (λ s past e. (j : ℕ) (outcome : Outcome) → e.kind ≡ End j outcome → is_lost_ordered outcome ≡ false → MayEnd s.number past j)
ends_step reads_back s past words e h b is part j outcome kind found x before g deadline key stands mine sent up order =
    let o : SentOrder past s.number j g = record { x = x; before = before; stands = stands; mine = mine; sent = sent; up = up; deadline = deadline; key = key; line = is_said g.body (order_of deadline key) order } in
    subst (λ (w : Way). length (requests past w) ≤ taken_if is_answer past (down_of w)) (sym (way_up s.number g up)) (ends_answered reads_back s past words e h part j outcome kind found g o)
