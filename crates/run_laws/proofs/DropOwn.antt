-- The fields `removes` and `orders` of `Own`: a drop that knows enough by its list knows the same evidence by its entries.
use Rattle.std.proofs.Common.{◌≡◌, ℕ, ◌+◌, ◌-◌, ◌/◌, ◌<◌, Bool, true, false, List, [], ◌∷◌, Option, Some, None, inl, inr, refl, sym, ap, ◌∙◌, subst}
use Rattle.std.specs.Prelude.{if◌then◌else◌, ◌==◌, not}
use Rattle.std.proofs.lemmas.Bool.{true≢false, and_parts, not-true, ltb-true}
use Rattle.annex_base.specs.Lists.{Member}
use Rattle.annex_base.specs.declared.kinds.Word.{Word}
use Rattle.step_facts.proofs.Below.{SentAreRead}
use Rattle.drop_proof.specs.declared.rule.Need.{Need}
use Rattle.drop_proof.specs.declared.rule.Side.{Side}
use Rattle.drop_proof.specs.declared.rule.Side.TheVariants.{Local, Remote}
use Rattle.drop_proof.specs.Judging.{is_enough, least_end}
use Rattle.run_data.specs.declared.entry.By.TheVariants.{Job as by_job}
use Rattle.run_data.specs.declared.entry.Entry.{Entry}
use Rattle.run_data.specs.declared.entry.EntryKind.TheVariants.{Gone, Order}
use Rattle.run_data.specs.declared.entry.FrameText.TheVariants.{Line}
use Rattle.run_data.specs.declared.entry.FrameView.{FrameView}
use Rattle.run_data.specs.declared.job.Cause.{Cause}
use Rattle.run_model.specs.Past.{Decision, clock, decision}
use Rattle.p2p_wire.specs.declared.message.Message.TheVariants.{Timestamp}
use Rattle.p2p_wire.specs.Messages.{order_of, text_of}
use Rattle.run_model.specs.Frames.{Way, up_of, way_of}
use Rattle.step_facts.proofs.Ways.{way_from}
use Rattle.node_model.specs.Evidence.{Standing, Claimed, Ignored, Asked}
use Rattle.run_model.specs.Drops.{is_waiting, option_is_none, standing}
use Rattle.past_facts.proofs.Heard.{Heard, Locked_at, Seen_there, heard, heard_cause, heard_key, known_evidence, still_waits}
use Rattle.past_facts.proofs.Own.{HasDeadline, HeardOf, MayOrder, MayRemove, OneClock}
use Rattle.run_laws.proofs.SaidDown.{said_is}
use Rattle.run_laws.proofs.HeardTells.{taken_peer}
use Rattle.run_laws.proofs.KnownAgrees.{Agrees, heard_as, known_agrees, standing_same}
use Rattle.step_facts.proofs.Makers.{TakenBy, taken_of}
use Rattle.step_facts.proofs.ServerEnds.{end_of, takes_end}
use Rattle.step_facts.proofs.EndMoves.{line_opens, may_epoch}
use Rattle.run_laws.proofs.OneClock.{one_clock}
use Rattle.run_laws.proofs.HeardHolds.{Lists, gave_none}
use Rattle.run_laws.proofs.HeardInduction.{heard_holds}
use Rattle.node_model.specs.SetUp.{SetUp}
use Rattle.run_model.specs.States.{state_of, end_at, works}
use Rattle.node_model.specs.Ends.{EndName, frames, is_opening}
use Rattle.node_model.specs.AnyTime.{MayCome}
use Rattle.step_facts.proofs.ServerAnswers
use Rattle.node_model.specs.Jobs
use Rattle.node_model.specs.Jobs.{Held, Lacks, Seen, Unseen, Work, heard_of, running_job, side_of, target_of, job_end}
use Rattle.node_model.specs.Knows.{is_unasked, need_of, standing_of}
use Rattle.step_facts.proofs.Knowing.{known, knows_enough}
use Rattle.node_model.specs.Found
use Rattle.node_model.specs.JobStep.{clock_of}
use Rattle.node_model.specs.DropStep.{first_end}
use Rattle.step_facts.proofs.BySteps.{ByStep}
use Rattle.run_model.specs.Run.{IsStep, OwnPart, OwnPast}
use Rattle.step_facts.proofs.AnswerFacts.{may_remove}
use Rattle.job_facts.proofs.Bars.{removal_barred}
use Rattle.run_laws.proofs.Decisions.{order_stands_on, runs_begun}
use Rattle.step_facts.proofs.JobSteps.{Stepped, turn_at}
use Rattle.run_laws.proofs.ReadKeys.{decided_read, key_read}
use Rattle.std.proofs.lemmas.Option.{same_Some}
use Rattle.annex_base.proofs.Conditions.{if_turned}

-- ---- the list agrees

-- a copy of which nothing was heard, nor that there is none
unheard_by : (key : List ℕ) (h : Option Jobs.Heard) → heard_as key h ≡ None → gave_none h ≡ false → h ≡ None
unheard_by key None e f = refl
unheard_by key (Some (Held since)) e f = absurd (cc)
unheard_by key (Some Seen) e f = absurd (cc)
unheard_by key (Some Unseen) e f = absurd (cc)
unheard_by key (Some (Lacks cause)) e f = absurd (cc)

-- it waits for a word
record Waits (standing : Standing) (h : Option Heard) (c : Option Cause) : Type 0 where
  pub asked : standing ≡ Asked
  pub unheard : h ≡ None
  pub untold : option_is_none c ≡ true

waiting_is : (standing : Standing) (h : Option Heard) (c : Option Cause) → is_waiting standing h c ≡ true → Waits standing h c
waiting_is Asked None None e = record { asked = refl; unheard = refl; untold = refl }
waiting_is Asked None (Some c) e = absurd (cc)
waiting_is Asked (Some h) c e = absurd (cc)
waiting_is Claimed h c e = absurd (cc)
waiting_is (Ignored cause) h c e = absurd (cc)

pub list_agrees : SentAreRead → (s : SetUp) (past : List Entry) → OwnPast s past → (w : Work) → Member w (works past s.number) → Agrees s past w
list_agrees reads_back s past h w m = record { standing_is = standing; heard_is = lists.heard_is; waits_too = waits }
  where
    lists : Lists s past (running_job w) w.heard
    lists = (heard_holds reads_back s past h w m).lists

    standing : (c : ℕ) → standing_of s (state_of s past) w c ≡ Rattle.run_model.specs.Drops.standing s.repos past s.number w.number c
    standing = standing_same s past w (key_read s past h.run w m)

    waits : (c : ℕ) → still_waits s.repos past s.number w.number c ≡ true → is_unasked (standing_of s (state_of s past) w c) (heard_of w c) ≡ true
    waits c waiting =
        let both = and_parts (not (c == s.number)) (is_waiting (Rattle.run_model.specs.Drops.standing s.repos past s.number w.number c) (heard past s.number w.number c) (heard_cause past s.number w.number c)) waiting in
        let x = waiting_is (Rattle.run_model.specs.Drops.standing s.repos past s.number w.number c) (heard past s.number w.number c) (heard_cause past s.number w.number c) both.1 in
        let none : heard_of w c ≡ None = unheard_by w.what.key (heard_of w c) (sym (lists.heard_is c) ∙ x.unheard) (untold (gave_none (heard_of w c)) refl (not-true (c == s.number) both.0) x.untold) in
        ap (λ st. is_unasked st (heard_of w c)) (standing c ∙ x.asked) ∙ ap (is_unasked Asked) none
      where
        untold : (b : Bool) → gave_none (heard_of w c) ≡ b → (c == s.number) ≡ false → option_is_none (heard_cause past s.number w.number c) ≡ true → b ≡ false
        untold false is other none = refl
        untold true is other none = absurd (true≢false (sym none ∙ lists.told c other is))

-- all that it heard is of its key
key_of_heard : (key : List ℕ) (h : Option Jobs.Heard) (x : Heard) → heard_as key h ≡ Some x → heard_key x ≡ key
key_of_heard key None x e = absurd (cc)
key_of_heard key (Some (Held since)) x e = let same : Locked_at since key ≡ x = cc in ap heard_key (sym same)
key_of_heard key (Some Seen) x e = let same : Seen_there key ≡ x = cc in ap heard_key (sym same)
key_of_heard key (Some Unseen) x e = absurd (cc)
key_of_heard key (Some (Lacks cause)) x e = absurd (cc)

heard_of_key : (s : SetUp) (past : List Entry) (w : Work) → Agrees s past w → HeardOf past s.number w.number w.what.key
heard_of_key s past w x c h is = key_of_heard w.what.key (heard_of w c) h (sym (x.heard_is c) ∙ is)

-- ---- removals

-- what the step found
removal_found : (s : SetUp) (past : List Entry) (words : ℕ → Option Word) (e : Entry) → OwnPart s past words e → (j : ℕ) (key : List ℕ) → e.kind ≡ Gone (by_job j) key → ServerAnswers.MayRemove s past e j key
removal_found s past words e own j key is = elim (own.does) [
  | inl x ↦ step x
  | inr x ↦ absurd (subst (MayCome s (state_of s past) e.lines e.sent) is x.may)
]
  where
    step : IsStep s past words e → ServerAnswers.MayRemove s past e j key
    step x = subst (λ (y : Entry). ServerAnswers.MayRemove s past y j key) (sym x.is) (may_remove s past x.look x.made x.makes j key (sym (ap (λ (y : Entry). y.kind) x.is) ∙ is))

pub target_local : (r : ℕ) (side : Side) (peer : Option ℕ) → side ≡ Local → Jobs.or_own r side peer ≡ r
target_local r Local peer e = refl
target_local r Remote peer e = absurd (cc)

-- the evidence by its entries, of the side and the target that it has
evidence_is : (s : SetUp) (past : List Entry) (w : Work) → Agrees s past w → knows_enough s (state_of s past) w ≡ true → (side : Side) (target : ℕ) (need : Need)
    → side_of w ≡ side → target_of s.number w ≡ target → need_of s (state_of s past) w ≡ need → known_evidence side s.repos past s.number w.number target need ≡ known s (state_of s past) w
evidence_is s past w x enough side target need a b c =
    subst (λ d. known_evidence d s.repos past s.number w.number target need ≡ known s (state_of s past) w) a
    (subst (λ n. known_evidence (side_of w) s.repos past s.number w.number n need ≡ known s (state_of s past) w) b
    (subst (λ n. known_evidence (side_of w) s.repos past s.number w.number (target_of s.number w) n ≡ known s (state_of s past) w) c (known_agrees s past w x enough)))

evidence_enough : (s : SetUp) (past : List Entry) (w : Work) → Agrees s past w → knows_enough s (state_of s past) w ≡ true → (side : Side) (target : ℕ) (need : Need)
    → side_of w ≡ side → target_of s.number w ≡ target → need_of s (state_of s past) w ≡ need → is_enough side need (known_evidence side s.repos past s.number w.number target need) ≡ true
evidence_enough s past w x enough side target need a b c =
    ap (is_enough side need) (evidence_is s past w x enough side target need a b c)
    ∙ subst (λ d. is_enough d need (known s (state_of s past) w) ≡ true) a (subst (λ n. is_enough (side_of w) n (known s (state_of s past) w) ≡ true) c enough)

-- the field `removes`
pub removes_step : SentAreRead → ByStep (λ s past e. (j : ℕ) (key : List ℕ) → e.kind ≡ Gone (by_job j) key → MayRemove s.repos s.number past e j key)
removes_step reads_back s past words e h b is part j key kind =
    let x = removal_found s past words e part j key kind in
    let w = x.w in
    let agrees = list_agrees reads_back s past h w x.runs in
    let target : target_of s.number w ≡ s.number = target_local s.number (side_of w) w.what.peer x.local in
    let need : (d : Decision) → decision past s.number w.number ≡ Some d → need_of s (state_of s past) w ≡ d.need = λ d k. sym (decided_read reads_back s past h w x.runs d k) in
    subst (λ n. MayRemove s.repos s.number past e n key) (sym x.number_is) (record {
      one_clock = one_clock s past h.run w x.runs;
      barred = subst (λ n. Rattle.run_model.specs.Past.bar past s.number key ≡ Some n) x.number_is (removal_barred s past words e h.run part j key kind);
      heard_of = subst (HeardOf past s.number w.number) (sym x.key_is) (heard_of_key s past w agrees);
      enough = λ d k. evidence_enough s past w agrees x.enough Local s.number d.need x.local target (need d k);
      in_time = λ d k first ends. x.soon first (sym (ap least_end (evidence_is s past w agrees x.enough Local s.number d.need x.local target (need d k))) ∙ ends);
    })

-- where a job took a frame that opens nothing: in its slot, from a server, at the epoch of its end
taken_here : (s : SetUp) (past : List Entry) (e : Entry) (f : FrameView) (k : TakenBy s past e f) → is_opening f.body ≡ false → (f.slot ≡ k.w.slot) × (f.up ≡ false) × (f.epoch ≡ (end_at past s.number (job_end k.w k.peer)).epoch)
taken_here s past e f k line =
    let at : end_of f ≡ job_end k.w k.peer = takes_end (job_end k.w k.peer) f k.of_end in
    (ap (λ (z : EndName). z.slot) at, if_turned f.up (ap (λ (z : EndName). z.client) at), (may_epoch (end_at past s.number (job_end k.w k.peer)) f line k.may).1)

back_way : (r : ℕ) (f g : FrameView) → f.up ≡ false → g.up ≡ true → f.peer ≡ g.peer → f.slot ≡ g.slot → f.epoch ≡ g.epoch → way_from r g ≡ up_of (way_of r f)
back_way r f g down up peer slot epoch = goes ∙ comes
  where
    way : Way
    way = record { client = r; server = g.peer; slot = g.slot; up = true; epoch = g.epoch }

    goes : way_from r g ≡ way
    goes i = record { client = if up i then r else g.peer; server = if up i then g.peer else r; slot = g.slot; up = up i; epoch = g.epoch }

    comes : way ≡ up_of (way_of r f)
    comes i = record { client = if sym down i then f.peer else r; server = if sym down i then r else sym peer i; slot = sym slot i; up = true; epoch = sym epoch i }

-- the field `orders`
pub orders_step : SentAreRead → ByStep (λ s past e. (j target : ℕ) (deadline : Option ℕ) (need : Need) (key : List ℕ) → e.kind ≡ Order j target deadline need key → MayOrder s.repos s.number past e j target deadline need key)
orders_step reads_back s past words e h b is part j target deadline need key kind =
    let x = order_stands_on reads_back s past words e h part j target deadline need key kind in
    let w = x.by.w in
    let agrees = list_agrees reads_back s past h w x.runs in
    let need' : need_of s (state_of s past) w ≡ need = sym (x.need_is ∙ ap (λ n. Rattle.run_model.specs.Logs.need_read (s.paths n) past s.number n) x.number_is) in
    let key' : w.what.key ≡ key = sym (x.key_is ∙ ap (λ n. Rattle.run_model.specs.Drops.key_in (Rattle.run_model.specs.Past.begun_job past s.number n)) x.number_is ∙ ap Rattle.run_model.specs.Drops.key_in (runs_begun s past h.run w x.runs)) in
    let same = evidence_is s past w agrees x.enough Remote target need x.side (sym x.target_is) need' in
    record {
      open' = x.open';
      one_clock = subst (OneClock s.repos s.number past) (sym x.number_is) (one_clock s past h.run w x.runs);
      heard_of = subst (λ n. HeardOf past s.number n key) (sym x.number_is) (subst (HeardOf past s.number w.number) key' (heard_of_key s past w agrees));
      enough = subst (λ n. is_enough Remote need (known_evidence Remote s.repos past s.number n target need) ≡ true) (sym x.number_is)
          (evidence_enough s past w agrees x.enough Remote target need x.side (sym x.target_is) need');
      dropping = x.dropping;
      key_is = x.key_is;
      timed = λ first ends. has_deadline s past e x.by x.side target x.target_is key deadline x.timed x.sent_is first
          (sym (ap least_end (ap (λ n. known_evidence Remote s.repos past s.number n target need) x.number_is ∙ same)) ∙ ends);
    }
  where
    target_remote : (r : ℕ) (side : Side) (peer : Option ℕ) (p : ℕ) → side ≡ Remote → peer ≡ Some p → Jobs.or_own r side peer ≡ p
    target_remote r Remote (Some q) p a c = same_Some q p c
    target_remote r Remote None p a c = absurd (cc)
    target_remote r Local peer p a c = absurd (cc)

    only : {X : Type 0} {x y : X} → Member x (y ∷ []) → x ≡ y
    only (inl m) = m
    only (inr m) = absurd m

    has_deadline : (s : SetUp) (past : List Entry) (e : Entry) (by : Stepped s past e) → side_of by.w ≡ Remote → (target : ℕ) → target ≡ target_of s.number by.w → (key : List ℕ) (deadline : Option ℕ)
        → Found.HasDeadline (turn_at s past e by) by.made.taken deadline → by.made.sent ≡ frames (job_end by.w target) (end_at past s.number (job_end by.w target)) (Line (text_of (order_of deadline key)) ∷ []) → (first : ℕ) → first_end (turn_at s past e by) ≡ Some first → HasDeadline s.repos s.number past e target deadline first
    has_deadline s past e by side target aims key None timed says first ends = absurd (let bad : None ≡ Some first = sym timed ∙ ends in cc)
    has_deadline s past e by side target aims key (Some deadline) timed says first ends =
        let f = timed.0 in
        let words = timed.3 in
        let took : e.taken ≡ Some f = ap (λ (y : Entry). y.taken) by.is ∙ timed.1 in
        let k = taken_of s past e by f took in
        let on : by.w.what.peer ≡ Some k.peer = sym (ap (Jobs.partner by.w.what.peer) timed.2) ∙ k.on in
        let last : words.1 ≡ first = same_Some words.1 first (sym words.3 ∙ ends) in
        let time : clock s.repos past s.number e.time ≡ clock_of (turn_at s past e by) = ap (λ (y : Entry). clock s.repos past s.number y.time) by.is in
        let at_target : k.peer ≡ target = sym (target_remote s.number (side_of by.w) by.w.what.peer k.peer side on) ∙ sym aims in
        let here = taken_here s past e f k (line_opens f.body (Timestamp words.0) words.2) in
        record {
          f = f;
          takes_it = took;
          peer_is = taken_peer s past e f k ∙ at_target;
          down = here.1;
          same_way = λ g m.
              let c = end_at past s.number (job_end by.w target) in
              let it : g ≡ record { peer = target; slot = by.w.slot; up = true; epoch = c.epoch; seq = c.sent + 1; body = Line (text_of (order_of (Some deadline) key)) } =
              only (subst (Member g) (ap (λ (y : Entry). y.sent) by.is ∙ says) m) in
              back_way s.number f g here.1 (ap (λ (z : FrameView). z.up) it) (taken_peer s past e f k ∙ (at_target ∙ sym (ap (λ (z : FrameView). z.peer) it)))
              (here.0 ∙ sym (ap (λ (z : FrameView). z.slot) it)) (here.2 ∙ (ap (λ n. (end_at past s.number (job_end by.w n)).epoch) at_target ∙ sym (ap (λ (z : FrameView). z.epoch) it)));
          seconds = words.0;
          told = said_is f.body (Timestamp words.0) words.2;
          in_time = subst (λ n. n < first) (sym time) (subst (λ n. clock_of (turn_at s past e by) < n) last (ltb-true (clock_of (turn_at s past e by)) words.1 words.4));
          deadline_is = ap (λ n. Some n) (words.5 ∙ ap (λ n. words.0 + (n - clock_of (turn_at s past e by)) / 1000) last ∙ ap (λ n. words.0 + (first - n) / 1000) (sym time));
        }
