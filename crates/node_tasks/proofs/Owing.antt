-- What a job owes by the message that it is told, it owes by the frame that brought it.
use Rattle.std.proofs.Common.{◌≡◌, ℕ, Bool, true, false, if◌then◌else◌, List, [], ◌∷◌, Option, Some, None, Result, Ok, Err, refl, sym, ap, subst, ◌∙◌}
use Rattle.std.specs.Prelude.{IfOk, map}
use Rattle.std.specs.Option.{option_map, option_to_list}
use Rattle.annex_base.specs.declared.kinds.Word.{Word}
use Rattle.annex_base.specs.declared.memory.NoMemory.{NoMemory}
use Rattle.annex_base.proofs.Options.{some_none}
use Rattle.run_data.specs.declared.entry.By.TheVariants.{Job as by_job}
use Rattle.run_data.specs.declared.entry.FrameText.{FrameText}
use Rattle.run_data.specs.declared.entry.FrameText.TheVariants as texts
use Rattle.run_data.specs.declared.entry.FrameView.{FrameView}
use Rattle.p2p_wire.specs.declared.message.Message.{Message}
use Rattle.p2p_wire.specs.declared.message.Message.TheVariants.{AlreadyHave, Success}
use Rattle.p2p_wire.specs.Messages.{message_of}
use Rattle.link_ring.specs.Ends.{EndView}
use Rattle.node_model.specs.Jobs.{Orders, Phase, PutsAnswer, PutsOffer, Work, partner}
use Rattle.node_model.specs.OwedLines.{OwedLine, owed_line, told_frame, told_line, told_to}
use Rattle.node_model.specs.Sessions.{line_in}
use Rattle.node_model.specs.Turns.{is_awaiting}
use Rattle.node_ends.specs.Ends.{end_at, room_at, text_in, wait_at}
use Rattle.owed_lines.specs.declared.line.ToldLine.{ToldLine}
use Rattle.owed_lines.specs.Lines.{line_of}
use Rattle.session_state.specs.declared.incoming.Incoming.{Incoming}
use Rattle.session_state.specs.declared.incoming.Incoming.TheVariants as incoming
use Rattle.session_state.specs.Talking.{Brings, heard_line}
use Rattle.drop_phases.specs.declared.turn.Taken.TheVariants as takens
use Rattle.drop_phases.specs.Feeding.{ToldAt}
use Rattle.drop_phases.specs.Leaving.{stands_on}
use Rattle.drop_phases.specs.Working.{taken_line, taken_of}
use Rattle.end_hearing.specs.declared.hearing.Arrival.{Arrival}
use Rattle.end_hearing.specs.Hearing.{Tells}
use Rattle.node_drops.specs.declared.feed.Feed.{Feed}
use Rattle.node_drops.specs.Drops.{DropJob, work_now as drop_work}
use Rattle.node_drops.specs.Feeds.{IsFedAt, bare_feed, feed_by, feed_of}
use Rattle.node_drops.specs.Waiting.{taken_by, word_at}
use Rattle.transfer_turns.specs.Parcels.{end_in}
use Rattle.transfer_turns.specs.Turns.{awaited}
use Rattle.node_transfers.specs.Workers.{work_of}
use Rattle.node_transfers.specs.Ready.{IsTold}
use Rattle.node_tasks.specs.declared.readiness.Told.{Told}
use Rattle.node_tasks.specs.declared.readiness.Told.TheVariants as tolds
use Rattle.node_tasks.specs.declared.task.Task.{Task}
use Rattle.node_tasks.specs.declared.task.Task.TheVariants as tasks
use Rattle.node_tasks.specs.Owing.{Owes, message_heard, message_in, message_taken}
use Rattle.node_tasks.specs.Tasks.{work_now}
use Rattle.node_tasks.specs.Telling.{IsToldTo, takes_in}

-- ---- a line is owed of the peer on whose connection the job stands

ordered_peer : (v : Work) (o : Option ℕ) (l : OwedLine) → map (λ peer. owed_line (by_job v.number) peer false v.what.key) (option_to_list o) ≡ l ∷ [] → o ≡ Some l.repo
ordered_peer v None l is = absurd cc
ordered_peer v (Some peer) l is = let same : owed_line (by_job v.number) peer false v.what.key ≡ l = cc in ap (λ (x : OwedLine). Some x.repo) same

owed_peer : (v : Work) (phase : Phase) (m : Message) (l : OwedLine) → told_to v phase m ≡ l ∷ [] → partner v.what.peer phase ≡ Some l.repo
owed_peer v (PutsOffer peer) AlreadyHave l is = let same : owed_line (by_job v.number) peer true v.what.key ≡ l = cc in ap (λ (x : OwedLine). Some x.repo) same
owed_peer v (PutsAnswer peer start) Success l is = let same : owed_line (by_job v.number) peer true v.what.key ≡ l = cc in ap (λ (x : OwedLine). Some x.repo) same
owed_peer v Orders Success l is = ordered_peer v v.what.peer l is
owed_peer v phase m l is = absurd cc

told_peer : (v : Work) (o : Option Message) (l : OwedLine) → told_line v o ≡ l ∷ [] → (m : Message) × (o ≡ Some m) × (partner v.what.peer v.phase ≡ Some l.repo)
told_peer v None l is = absurd cc
told_peer v (Some m) l is = (m, refl, owed_peer v v.phase m l is)

-- one that stands on none owes nothing
alone_owes_none : (v : Work) (phase : Phase) (m : Message) → partner v.what.peer phase ≡ None → told_to v phase m ≡ []
alone_owes_none v (PutsOffer peer) m alone = absurd (some_none peer alone)
alone_owes_none v (PutsAnswer peer start) m alone = absurd (some_none peer alone)
alone_owes_none v Orders Success alone = ap (λ (o : Option ℕ). map (λ peer. owed_line (by_job v.number) peer false v.what.key) (option_to_list o)) alone
alone_owes_none v phase m alone = refl

alone_line : (v : Work) (o : Option Message) → partner v.what.peer v.phase ≡ None → told_line v o ≡ []
alone_line v None alone = refl
alone_line v (Some m) alone = alone_owes_none v v.phase m alone

alone_frame : (v : Work) (f : Option FrameView) → partner v.what.peer v.phase ≡ None → told_frame (Some v) f ≡ []
alone_frame v None alone = refl
alone_frame v (Some f) alone = alone_line v (line_in f.body) alone

-- ---- the message is that of the frame

-- the line that is owed by the message is that of the frame; and where there is a message, the frame is taken from the peer on whose
-- connection the job stands
pub record Brought (links : List EndView) (v : Work) (m : Option Message) (takes : Option ℕ) : Type 0 where
  pub same : told_line v m ≡ told_frame (Some v) (taken_by links v.slot takes)
  pub from : (n : Message) → m ≡ Some n → takes ≡ partner v.what.peer v.phase

-- no frame, or none that is a message
brought_none : (links : List EndView) (v : Work) (m : Option Message) (takes : Option ℕ) → m ≡ None → takes ≡ None → Brought links v m takes
brought_none links v m takes none no_end = record {
  same = ap (told_line v) none ∙ sym (ap (λ (o : Option ℕ). told_frame (Some v) (taken_by links v.slot o)) no_end);
  from = λ n is. absurd (some_none n (sym is ∙ none));
}

-- a drop

line_taken : (o : Option Message) → message_taken (taken_line o) ≡ o
line_taken None = refl
line_taken (Some m) = refl

text_taken : (body : FrameText) → message_taken (taken_of body) ≡ line_in body
text_taken texts.Opening = refl
text_taken texts.Closing = refl
text_taken (texts.Bytes n) = refl
text_taken (texts.Line text) = line_taken (message_of text)

frame_taken : (links : List EndView) (v : Work) (peer : ℕ) (f : FrameView) → wait_at links (end_in v.slot peer) ≡ Some f → partner v.what.peer v.phase ≡ Some peer → Brought links v (message_taken (taken_of f.body)) (Some peer)
frame_taken links v peer f waits at = record {
  same = ap (told_line v) (text_taken f.body) ∙ sym (ap (told_frame (Some v)) waits);
  from = λ n is. sym at;
}

fed : (links : List EndView) (v : Work) (peer : ℕ) (opened room : Bool) (word : Option Word) (wait : Option FrameView) (f : Feed) → wait_at links (end_in v.slot peer) ≡ wait → partner v.what.peer v.phase ≡ Some peer
    → Some f ≡ feed_by opened room (feed_of peer word wait) → Brought links v (message_taken f.taken) f.takes
fed links v peer false room word wait f waits at is = let it : f ≡ bare_feed takens.Closed = cc in brought_none links v (message_taken f.taken) f.takes (ap (λ (g : Feed). message_taken g.taken) it) (ap (λ (g : Feed). g.takes) it)
fed links v peer true false word wait f waits at is = absurd (some_none f is)
fed links v peer true true word None f waits at is = absurd (some_none f is)
fed links v peer true true word (Some g) f waits at is =
    let it : f ≡ record { taken = taken_of g.body; word = word; takes = Some peer } = cc in
    subst (λ (h : Feed). Brought links v (message_taken h.taken) h.takes) (sym it) (frame_taken links v peer g waits at)

drop_brought : (links : List EndView) (j : DropJob) (f : Feed) (o : Option ℕ) → stands_on j.worker ≡ o → ToldAt o f.taken → IsFedAt links j f → Brought links (drop_work j) (message_taken f.taken) f.takes
drop_brought links j f None alone told fed_at = record {
  same = alone_line (drop_work j) (message_taken f.taken) alone ∙ sym (alone_frame (drop_work j) (taken_by links j.worker.slot f.takes) alone);
  from = λ n is. absurd (some_none n (sym is ∙ ap message_taken told));
}
drop_brought links j f (Some peer) at told fed_at =
    fed links (drop_work j) peer (end_at links (end_in j.worker.slot peer)).opened (room_at links (end_in j.worker.slot peer)) (word_at links (end_in j.worker.slot peer)) (wait_at links (end_in j.worker.slot peer)) f refl at (fed_at peer at)

-- a transfer

line_heard : (o : Option Message) (i : Incoming) → heard_line o i → message_heard (Some i) ≡ o
line_heard None i is = ap (λ (x : Incoming). message_heard (Some x)) is
line_heard (Some m) i is = ap (λ (x : Incoming). message_heard (Some x)) is

text_heard : (body : FrameText) (i : Incoming) → Brings body i → message_heard (Some i) ≡ line_in body
text_heard texts.Opening i is = ap (λ (x : Incoming). message_heard (Some x)) is
text_heard texts.Closing i is = ap (λ (x : Incoming). message_heard (Some x)) is
text_heard (texts.Bytes n) (incoming.Bytes bytes) is = refl
text_heard (texts.Bytes n) i is = absurd is
text_heard (texts.Line text) i is = line_heard (message_of text) i is

awaits_partner : (b : Bool) (o : Option ℕ) (peer : ℕ) → (if b then o else None) ≡ Some peer → o ≡ Some peer
awaits_partner true o peer at = at
awaits_partner false o peer at = absurd (some_none peer (sym at))

arrived : (links : List EndView) (v : Work) (x : Arrival) (o : Option ℕ) → (if is_awaiting v.phase then partner v.what.peer v.phase else None) ≡ o → IsTold links v.slot o (Some x) → Brought links v (message_heard x.incoming) x.takes
arrived links v x None awaits told = brought_none links v (message_heard x.incoming) x.takes (ap message_heard told.0) told.1
arrived links v x (Some peer) awaits told = go x.takes refl told
  where
    go : (o : Option ℕ) → x.takes ≡ o → Tells links (end_in v.slot peer) x o → Brought links v (message_heard x.incoming) x.takes
    go None none closed = brought_none links v (message_heard x.incoming) x.takes (ap message_heard closed.incoming) none
    go (Some p) some frame =
        let takes : x.takes ≡ Some peer = some ∙ ap (λ (n : ℕ). Some n) frame.0 in
        record {
          same = ap (told_line v) (ap message_heard frame.1.told ∙ text_heard (text_in frame.1.frame.body) frame.1.incoming frame.1.brings)
              ∙ sym (ap (λ (o : Option ℕ). told_frame (Some v) (taken_by links v.slot o)) takes ∙ ap (told_frame (Some v)) frame.1.waits);
          from = λ n is. takes ∙ sym (awaits_partner (is_awaiting v.phase) (partner v.what.peer v.phase) peer awaits);
        }

-- either

brought : (links : List EndView) (t : Task) (x : Told) → IsToldTo links t x → Brought links (work_now t) (message_in x) (takes_in x)
brought links (tasks.Drops j) (tolds.Feed f) told = drop_brought links j f (stands_on j.worker) refl told.0 told.1
brought links (tasks.Transfers w) (tolds.Arrival x) told = arrived links (work_of w) x (awaited (work_of w)) refl told
brought links (tasks.Drops j) (tolds.Arrival x) told = absurd told
brought links (tasks.Transfers w) (tolds.Feed f) told = absurd told

-- ---- what is owed by the message is owed

owes_so : (links : List EndView) (t : Task) (x : Told) (o : Option ToldLine) → option_to_list (option_map line_of o) ≡ told_line (work_now t) (message_in x) → IsToldTo links t x → Owes links t x o
owes_so links t x o is told = record {
  line = is ∙ came.same;
  of_peer = λ l some. let peer = told_peer (work_now t) (message_in x) (line_of l) (sym is ∙ ap (λ (p : Option ToldLine). option_to_list (option_map line_of p)) some) in came.from peer.0 peer.1 ∙ peer.2;
}
  where
    came : Brought links (work_now t) (message_in x) (takes_in x)
    came = brought links t x told

pub owed_at_ends : (t : Task) (x : Told) (m : Option Message) (r : Result (Option ToldLine) NoMemory) → m ≡ message_in x → IfOk r (λ o. option_to_list (option_map line_of o) ≡ told_line (work_now t) m)
    → IfOk r (λ o. (links : List EndView) → IsToldTo links t x → Owes links t x o)
owed_at_ends t x m (Ok o) same is = λ links told. owes_so links t x o (is ∙ ap (told_line (work_now t)) same) told
owed_at_ends t x m (Err e) same is = tt
