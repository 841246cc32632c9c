-- The frames of orders: one each, by its number; and the removal that takes one.
use Rattle.std.proofs.Common.{◌≡◌, ℕ, ◌+◌, true, List, Option, Some, refl, sym, ap, ◌∙◌}
use Rattle.std.specs.Prelude.{length, option_map, reverse}
use Rattle.std.proofs.lemmas.List.{length-map}
use Rattle.std.proofs.lemmas.Option.{same_Some}
use Rattle.drop_proof.specs.declared.rule.Need.{Need}
use Rattle.run_data.specs.declared.entry.By.TheVariants.{Peer}
use Rattle.run_data.specs.declared.entry.Entry.{Entry}
use Rattle.run_data.specs.declared.entry.EntryKind.TheVariants.{Gone, Order}
use Rattle.run_data.specs.declared.entry.FrameText.TheVariants.{Line}
use Rattle.run_data.specs.declared.entry.FrameView.{FrameView}
use Rattle.run_data.specs.declared.run.Run.{Run}
use Rattle.node_model.specs.Ends.{End}
use Rattle.node_model.specs.Jobs.{job_end}
use Rattle.p2p_wire.specs.Messages.{order_of, text_of}
use Rattle.run_model.specs.Frames.{FlyingFrame, SendingEntry, frames_sent, sending_entry}
use Rattle.run_model.specs.Run.{IsRun, RunStep, set_up}
use Rattle.run_model.specs.States.{end_at}
use Rattle.step_facts.proofs.Below.{SentAreRead}
use Rattle.past_facts.proofs.Changes.{order_is}
use Rattle.past_facts.proofs.Obeying.{obeyed_order}
use Rattle.past_facts.proofs.OwnRuns.{own_past, part_of}
use Rattle.past_facts.proofs.Told.{sender_at}
use Rattle.run_laws.proofs.Decisions.{order_stands_on}
use Rattle.run_laws.proofs.FromStep.{meets, message_past}
use Rattle.driver_model.proofs.Premises.{EntryLaws}
use Rattle.driver_model.specs.Ways.{way_out}
use Rattle.audit_laws.specs.Proofs.{IsOrderFrame, TakesItsOrder, order_proof, removal_proof, way_up}
use Rattle.audit_laws.proofs.Numbers.{in_order}
use Rattle.audit_laws.proofs.Told.{own_entry}

module _ (reads_back : SentAreRead) (run : Run) (h : IsRun run) (e : Entry) (step : RunStep (set_up run) (reverse run.entries) e) where
  -- **an order is one frame**
  pub order_framed : EntryLaws → (a j target : ℕ) (deadline : Option ℕ) (need : Need) (key : List ℕ) → e.repo ≡ Some a → e.kind ≡ Order j target deadline need key → IsOrderFrame (reverse run.entries) a e
  order_framed laws a j target deadline need key repo kind =
      let s = set_up run a in
      let past = reverse run.entries in
      let part = part_of (set_up run) past e a step (own_entry e a repo) in
      let x = order_stands_on reads_back s past part.words e (own_past run h.repos a past h.steps) part.own j target deadline need key kind in
      let w = x.by.w in
      let c : End = end_at past a (job_end w target) in
      let g : FrameView = record { peer = target; slot = w.slot; up = true; epoch = c.epoch; seq = c.sent + 1; body = Line (text_of (order_of deadline key)) } in
      let count = (in_order laws run past h.steps a (job_end w target) c.epoch).counted.at_it refl in
      record {
        frame = g;
        alone = ap (λ (y : Entry). y.sent) x.by.is ∙ x.sent_is;
        goes_up = refl;
        number_is = let same = length-map (frames_sent past (way_out a (job_end w target) c.epoch)) (λ (z : FlyingFrame). z.frame) in
            let long : length (frames_sent past (way_up a g)) ≡ c.sent = sym same ∙ count in ap (λ n. n + 1) (sym long);
      }

  -- **a removal takes the frame of its order**
  pub order_taken : (r p slot : ℕ) (key : List ℕ) → e.repo ≡ Some r → e.kind ≡ Gone (Peer p slot) key → TakesItsOrder run.repos (reverse run.entries) r key e
  order_taken r p slot key repo kind =
      let past = reverse run.entries in
      let is = own_entry e r repo in
      let m = meets reads_back run h.repos past e h.steps step in
      let o = (m.own r is).obeys p slot key kind in
      let f = o.f in
      let t = m.frames r f is o.takes_it in
      let found = obeyed_order run.repos past e r p slot key (message_past reads_back run h.repos past h.steps) m is o in
      let from : found.s ≡ sending_entry t.it = same_Some found.s (sending_entry t.it) (sym found.sent_is ∙ sender_at past r e.taken f t.it o.takes_it t.next) in
      record {
        frame = f;
        takes = o.takes_it;
        goes_up = o.from_client;
        number_is = t.seq_is;
        it = t.it;
        next = t.next;
        job = found.j;
        deadline = found.deadline;
        need = found.need;
        order_is = ap (λ (x : SendingEntry). x.entry.kind) (sym from) ∙ found.kind_is;
        proof_is = ap (option_map (removal_proof run.repos)) (order_is run.repos e past r p slot found.j found.deadline found.need key found.s is kind found.sent_is found.from_a found.kind_is)
            ∙ (λ i. Some (order_proof run.repos (from i).before (sym o.peer_is i) found.j r found.need));
      }
