-- A removal's and an order's need and evidence are those of the job's list.
use Rattle.std.proofs.Common.{◌≡◌, ℕ, true, List, Option, Some, inl, inr, sym, ap, subst, ◌∙◌}
use Rattle.std.specs.Prelude.{length, option_map, reverse}
use Rattle.annex_base.specs.Lists.{Member}
use Rattle.annex_base.proofs.Conditions.{eqb_refl}
use Rattle.drop_proof.specs.declared.rule.Need.{Need}
use Rattle.drop_proof.specs.declared.rule.Side.{Side}
use Rattle.drop_proof.specs.declared.rule.Side.TheVariants.{Local, Remote}
use Rattle.run_data.specs.declared.entry.By.TheVariants.{Job as by_job}
use Rattle.run_data.specs.declared.entry.Entry.{Entry}
use Rattle.run_data.specs.declared.entry.EntryKind.TheVariants.{Gone, Order}
use Rattle.run_data.specs.declared.run.Run.{Run}
use Rattle.node_model.specs.AnyTime.{MayCome}
use Rattle.node_model.specs.Evidence.{proof_of}
use Rattle.node_model.specs.Jobs.{Work, side_of, target_of}
use Rattle.node_model.specs.Knows.{need_of, proof_by, reading}
use Rattle.node_model.specs.SetUp.{SetUp}
use Rattle.run_model.specs.Drops.{evidence}
use Rattle.run_model.specs.Past.{is_of}
use Rattle.run_model.specs.Logs.{need_read}
use Rattle.run_model.specs.Run.{IsRun, IsStep, OwnPart, OwnPast, RunStep, set_up}
use Rattle.run_model.specs.States.{state_of, works}
use Rattle.step_facts.proofs.AnswerFacts.{may_remove}
use Rattle.step_facts.proofs.Below.{SentAreRead}
use Rattle.step_facts.proofs.Knowing.{knows_enough}
use Rattle.step_facts.proofs.ServerAnswers.{MayRemove}
use Rattle.past_facts.proofs.Changes.{removal_is}
use Rattle.past_facts.proofs.Evident.{barred}
use Rattle.past_facts.proofs.Known.{evidence_known}
use Rattle.past_facts.proofs.Own.{MessagePast}
use Rattle.past_facts.proofs.OwnRuns.{part_of}
use Rattle.run_laws.proofs.Decisions.{order_stands_on}
use Rattle.run_laws.proofs.DropOwn.{list_agrees, target_local}
use Rattle.run_laws.proofs.FromStep.{meets, message_past}
use Rattle.run_laws.proofs.KnownAgrees.{known_agrees}
use Rattle.run_laws.proofs.ReadKeys.{decided_read}
use Rattle.node_model.specs.Rows.{option_is}
use Rattle.audit_laws.specs.Proofs.{order_proof, proof_after, removal_proof, removed_proof}
use Rattle.audit_laws.proofs.Carried.{StatesAgree, own, told_as}

-- the entry is one of its repository
pub own_entry : (e : Entry) (r : ℕ) → e.repo ≡ Some r → is_of r e ≡ true
own_entry e r is = ap (λ (o : Option ℕ). option_is o r) is ∙ eqb_refl r

-- a drop that knows enough by its list has this need and evidence by its entries too, of its side, target and need
known_proof : SentAreRead → (s : SetUp) (past : List Entry) → OwnPast s past → MessagePast s.repos past → (w : Work) → Member w (works past s.number) → knows_enough s (state_of s past) w ≡ true
    → (side : Side) (target : ℕ) (need : Need) → side_of w ≡ side → target_of s.number w ≡ target → need_of s (state_of s past) w ≡ need
    → proof_of (length s.repos) need (evidence side s.repos past s.number w.number target need) ≡ proof_by (reading s (state_of s past) w) w
known_proof reads_back s past h messages w m enough side target need a b c =
    (λ i. proof_of (length s.repos) (sym c i) (evidence (sym a i) s.repos past s.number w.number (sym b i) (sym c i)))
    ∙ ap (proof_of (length s.repos) (need_of s (state_of s past) w))
    (evidence_known (side_of w) s.repos past s.number w.number (target_of s.number w) (need_of s (state_of s past) w) messages ∙ known_agrees s past w (list_agrees reads_back s past h w m) enough)

-- what the step of a removal found
removal_found : (s : SetUp) (past : List Entry) (words : _) (e : Entry) → OwnPart s past words e → (j : ℕ) (key : List ℕ) → e.kind ≡ Gone (by_job j) key → MayRemove s past e j key
removal_found s past words e part j key is = elim (part.does) [
  | inl x ↦ step x
  | inr x ↦ absurd (subst (MayCome s (state_of s past) e.lines e.sent) is x.may)
]
  where
    step : IsStep s past words e → MayRemove s past e j key
    step x = subst (λ (y : Entry). MayRemove s past y j key) (sym x.is) (may_remove s past x.look x.made x.makes j key (sym (ap (λ (y : Entry). y.kind) x.is) ∙ is))

module _ (reads_back : SentAreRead) (agree : StatesAgree) (run : Run) (h : IsRun run) (e : Entry) (step : RunStep (set_up run) (reverse run.entries) e) where
  messages : MessagePast run.repos (reverse run.entries)
  messages = message_past reads_back run h.repos (reverse run.entries) h.steps

  -- **a job's removal**
  pub removal_told : (r j : ℕ) (key : List ℕ) → e.repo ≡ Some r → e.kind ≡ Gone (by_job j) key → removed_proof run.repos (reverse run.entries) key e ≡ proof_after run r j
  removal_told r j key repo kind =
      let s = set_up run r in
      let past = reverse run.entries in
      let is = own_entry e r repo in
      let x = removal_found s past (part_of (set_up run) past e r step is).words e (part_of (set_up run) past e r step is).own j key kind in
      let w = x.w in
      let b = barred run.repos past r j key messages (((meets reads_back run h.repos past e h.steps step).own r is).removes j key kind).barred in
      let d = b.d in
      let need : need_of s (state_of s past) w ≡ d.need = sym (decided_read reads_back s past (own agree run h r) w x.runs d (subst (λ n. Rattle.run_model.specs.Past.decision past r n ≡ Some d) x.number_is b.decided_is)) in
      ap (option_map (removal_proof run.repos)) (removal_is run.repos e past r j key d is kind b.decided_is b.key_is)
      ∙ ap (λ n. Some (proof_of (length run.repos) d.need (evidence Local run.repos past r n r d.need))) x.number_is
      ∙ ap Some (known_proof reads_back s past (own agree run h r) messages w x.runs x.enough Local r d.need x.local (target_local r (side_of w) w.what.peer x.local) need)
      ∙ sym (told_as agree run h r w x.runs x.dropping)
      ∙ ap (proof_after run r) (sym x.number_is)

  -- **a job's order**
  pub order_told : (a j target : ℕ) (deadline : Option ℕ) (need : Need) (key : List ℕ) → e.repo ≡ Some a → e.kind ≡ Order j target deadline need key
      → proof_after run a j ≡ Some (order_proof run.repos (reverse run.entries) a j target need)
  order_told a j target deadline need key repo kind =
      let s = set_up run a in
      let past = reverse run.entries in
      let is = own_entry e a repo in
      let part = part_of (set_up run) past e a step is in
      let x = order_stands_on reads_back s past part.words e (own agree run h a) part.own j target deadline need key kind in
      let w = x.by.w in
      let need' : need_of s (state_of s past) w ≡ need = sym (x.need_is ∙ ap (λ n. need_read (s.paths n) past a n) x.number_is) in
      ap (proof_after run a) x.number_is
      ∙ told_as agree run h a w x.runs x.part_is
      ∙ ap Some (sym (known_proof reads_back s past (own agree run h a) messages w x.runs x.enough Remote target need x.side (sym x.target_is) need'))
      ∙ ap (λ n. Some (order_proof run.repos past a n target need)) (sym x.number_is)
