-- What a job's step leaves of the store's parts, by the frame that it takes.
use Rattle.std.proofs.Common.{◌≡◌, ℕ, true, List, [], ◌++◌, Option, Some, None, length, refl, sym, ap, ◌∙◌}
use Rattle.std.specs.Prelude.{IfSome, if◌then◌else◌}
use Rattle.std.specs.Option.{option_map, option_map_or}
use Rattle.run_data.specs.declared.entry.EntryKind.{EntryKind}
use Rattle.run_data.specs.declared.entry.EntryKind.TheVariants as kinds
use Rattle.run_data.specs.declared.entry.FrameText.{FrameText}
use Rattle.run_data.specs.declared.entry.FrameText.TheVariants as texts
use Rattle.run_data.specs.declared.entry.FrameView.{FrameView}
use Rattle.p2p_wire.specs.declared.message.Message.{Message}
use Rattle.p2p_wire.specs.declared.message.Message.TheVariants as messages
use Rattle.p2p_wire.specs.Messages.{message_of}
use Rattle.object_store.specs.Stores.{Parts, with_at}
use Rattle.content_lock.specs.Rows.{Rows, is_filling}
use Rattle.link_ring.specs.declared.frame.Body.{Body}
use Rattle.link_ring.specs.declared.frame.Body.TheVariants as bodies
use Rattle.link_ring.specs.declared.frame.Frame.{Frame}
use Rattle.link_ring.specs.Ends.{EndView}
use Rattle.node_ends.specs.Ends.{frame_at, text_in, wait_at}
use Rattle.end_hearing.specs.declared.hearing.Arrival.{Arrival}
use Rattle.end_hearing.specs.Hearing.{Tells, TellsFrame}
use Rattle.end_hearing.specs.Pieces.{bytes_heard, bytes_of}
use Rattle.session_state.specs.declared.doing.Taken.{Taken}
use Rattle.session_state.specs.declared.doing.Taking.{Taking}
use Rattle.session_state.specs.declared.incoming.Incoming.{Incoming}
use Rattle.session_state.specs.declared.incoming.Incoming.TheVariants as incoming
use Rattle.session_state.specs.Talking.{Brings, heard_line, parts_after_valid}
use Rattle.drop_phases.specs.declared.phase.Phase.{Phase as DropPhase}
use Rattle.drop_phases.specs.declared.phase.Phase.TheVariants as drops
use Rattle.drop_phases.specs.Working.{end_in, phase_as}
use Rattle.running_jobs.specs.Waiting.{taken_by}
use Rattle.get_phases.specs.Gets.{fill_in, if_awaited, parts_after as parts_after_get, phase_of}
use Rattle.get_phases.specs.declared.getting.Getting.{Getting}
use Rattle.get_phases.specs.declared.getting.Phase.{Phase as GetPhase}
use Rattle.get_phases.specs.declared.getting.Phase.TheVariants as phases
use Rattle.put_steps.specs.Puts.{phase_of as phase_of_put}
use Rattle.put_steps.specs.declared.phase.Phase.{Phase as PutPhase}
use Rattle.put_steps.specs.declared.phase.Phase.TheVariants as offers
use Rattle.transfer_turns.specs.Turns.{awaited}
use Rattle.running_jobs.specs.TransferJob.{TransferJob}
use Rattle.running_jobs.specs.Worker.{Worker}
use Rattle.running_jobs.specs.Worker.TheVariants as workers
use Rattle.running_jobs.specs.Workers.{HasFill, work_of}
use Rattle.running_jobs.specs.Ready.{IsTold}
use Rattle.node_sessions.specs.Stored.{is_verdict}
use Rattle.running_jobs.specs.Told.{Told}
use Rattle.running_jobs.specs.Told.TheVariants as tolds
use Rattle.running_jobs.specs.Task.{Task}
use Rattle.running_jobs.specs.Task.TheVariants as tasks
use Rattle.running_jobs.specs.TaskActing.{parts_after}
use Rattle.running_jobs.specs.Tasks.{OwnsOf, slot_of, work_now}
use Rattle.running_jobs.specs.Telling.{IsToldTo, takes_in}
use Rattle.node_parts.specs.Stored.{bytes_taken, parts_after_got, parts_after_line, parts_after_piece, parts_after_work}

-- ---- a get that takes bytes

grown : (key : List ℕ) (peer start : ℕ) (t : Taking) (i : Incoming) (bytes : List ℕ) (kind : EntryKind) (known : Option Parts) → t.fill ≡ key → Brings (texts.Bytes (length bytes)) i → bytes_heard i ≡ bytes
    → parts_after_get (phases.Bytes peer start t) (Some i) kind known ≡ parts_after_piece key t.left (texts.Bytes (length bytes)) bytes kind known
grown key peer start t (incoming.Bytes b) bytes (kinds.Talk job) known fill brings same = λ n. if_awaited t.left (length (same n)) (option_map (λ (p : Parts). with_at p (fill n) (p (fill n) ++ same n)) known) known
grown key peer start t (incoming.Bytes b) bytes kind known fill brings same = refl
grown key peer start t incoming.Opening bytes kind known fill brings same = absurd brings
grown key peer start t incoming.Closing bytes kind known fill brings same = absurd brings
grown key peer start t incoming.Bad bytes kind known fill brings same = absurd brings
grown key peer start t (incoming.Message m) bytes kind known fill brings same = absurd brings

unread : (peer start : ℕ) (t : Taking) (i : Incoming) (m : Option Message) (kind : EntryKind) (known : Option Parts) → heard_line m i → parts_after_get (phases.Bytes peer start t) (Some i) kind known ≡ known
unread peer start t i None kind known is = ap (λ (x : Incoming). parts_after_get (phases.Bytes peer start t) (Some x) kind known) is
unread peer start t i (Some m) kind known is = ap (λ (x : Incoming). parts_after_get (phases.Bytes peer start t) (Some x) kind known) is

takes_so : (key : List ℕ) (peer start : ℕ) (t : Taking) (i : Incoming) (body : Body) (kind : EntryKind) (known : Option Parts) → t.fill ≡ key → Brings (text_in body) i → bytes_heard i ≡ bytes_of body
    → parts_after_get (phases.Bytes peer start t) (Some i) kind known ≡ parts_after_piece key t.left (text_in body) (bytes_of body) kind known
takes_so key peer start t i bodies.Open kind known fill brings same = ap (λ (x : Incoming). parts_after_get (phases.Bytes peer start t) (Some x) kind known) brings
takes_so key peer start t i bodies.Close kind known fill brings same = ap (λ (x : Incoming). parts_after_get (phases.Bytes peer start t) (Some x) kind known) brings
takes_so key peer start t i (bodies.Bytes bytes) kind known fill brings same = grown key peer start t i bytes kind known fill brings same
takes_so key peer start t i (bodies.Line text) kind known fill brings same = unread peer start t i (message_of text) kind known brings

-- ---- one that has taken all

valid_only : (key : List ℕ) (peer start : ℕ) (t : Taken) (m : Message) (kind : EntryKind) (known : Option Parts) → t.fill ≡ key
    → parts_after_get (phases.Word peer start t) (Some (incoming.Message m)) kind known ≡ (if is_verdict (Some m) then parts_after_valid key kind known else known)
valid_only key peer start t messages.Valid kind known fill = ap (λ (k : List ℕ). parts_after_valid k kind known) fill
valid_only key peer start t m kind known fill = refl

judged : (key : List ℕ) (peer start : ℕ) (t : Taken) (i : Incoming) (m : Option Message) (kind : EntryKind) (known : Option Parts) → t.fill ≡ key → heard_line m i
    → parts_after_get (phases.Word peer start t) (Some i) kind known ≡ (if is_verdict m then parts_after_valid key kind known else known)
judged key peer start t i None kind known fill is = ap (λ (x : Incoming). parts_after_get (phases.Word peer start t) (Some x) kind known) is
judged key peer start t i (Some m) kind known fill is = ap (λ (x : Incoming). parts_after_get (phases.Word peer start t) (Some x) kind known) is ∙ valid_only key peer start t m kind known fill

no_piece : (peer start : ℕ) (t : Taken) (i : Incoming) (n : ℕ) (kind : EntryKind) (known : Option Parts) → Brings (texts.Bytes n) i → parts_after_get (phases.Word peer start t) (Some i) kind known ≡ known
no_piece peer start t (incoming.Bytes b) n kind known brings = refl
no_piece peer start t incoming.Opening n kind known brings = absurd brings
no_piece peer start t incoming.Closing n kind known brings = absurd brings
no_piece peer start t incoming.Bad n kind known brings = absurd brings
no_piece peer start t (incoming.Message m) n kind known brings = absurd brings

took_so : (key : List ℕ) (peer start : ℕ) (t : Taken) (i : Incoming) (body : Body) (kind : EntryKind) (known : Option Parts) → t.fill ≡ key → Brings (text_in body) i
    → parts_after_get (phases.Word peer start t) (Some i) kind known ≡ parts_after_line key (text_in body) kind known
took_so key peer start t i bodies.Open kind known fill brings = ap (λ (x : Incoming). parts_after_get (phases.Word peer start t) (Some x) kind known) brings
took_so key peer start t i bodies.Close kind known fill brings = ap (λ (x : Incoming). parts_after_get (phases.Word peer start t) (Some x) kind known) brings
took_so key peer start t i (bodies.Bytes bytes) kind known fill brings = no_piece peer start t i (length bytes) kind known brings
took_so key peer start t i (bodies.Line text) kind known fill brings = judged key peer start t i (message_of text) kind known fill brings

-- ---- any get

got : (rows : Rows) (key : List ℕ) (ph : GetPhase) (i : Incoming) (body : Body) (kind : EntryKind) (known : Option Parts) → IfSome (fill_in ph) (λ (k : List ℕ). (k ≡ key) × (is_filling rows k ≡ true)) → Brings (text_in body) i → bytes_heard i ≡ bytes_of body
    → parts_after_get ph (Some i) kind known ≡ parts_after_got key (phase_of ph) (text_in body) (bytes_of body) kind known
got rows key (phases.Bytes peer start t) i body kind known has brings same = takes_so key peer start t i body kind known has.0 brings same
got rows key (phases.Word peer start t) i body kind known has brings same = took_so key peer start t i body kind known has.0 brings
got rows key ph i body kind known has brings same = refl

untaken : (ph : GetPhase) (kind : EntryKind) (known : Option Parts) → parts_after_get ph None kind known ≡ known
untaken (phases.Bytes peer start t) kind known = refl
untaken (phases.Word peer start t) kind known = refl
untaken ph kind known = refl

-- ---- any other job

drops_take_none : (key : List ℕ) (ph : DropPhase) (body : FrameText) (bytes : List ℕ) (kind : EntryKind) (known : Option Parts) → parts_after_got key (phase_as ph) body bytes kind known ≡ known
drops_take_none key drops.Fresh body bytes kind known = refl
drops_take_none key ph body bytes kind known = refl

puts_take_none : (key : List ℕ) (ph : PutPhase) (body : FrameText) (bytes : List ℕ) (kind : EntryKind) (known : Option Parts) → parts_after_got key (phase_of_put ph) body bytes kind known ≡ known
puts_take_none key offers.Fresh body bytes kind known = refl
puts_take_none key ph body bytes kind known = refl

-- ---- by what a get is told

abbrev getting_job : Getting → TransferJob
getting_job g = record { worker = workers.Gets g; paths = [] }

module _ (links : List EndView) (rows : Rows) (g : Getting) (y : Arrival) (kind : EntryKind) (known : Option Parts) (taken : Option FrameView) (is : taken ≡ taken_by links g.slot y.takes)
    (has : IfSome (fill_in g.phase) (λ (k : List ℕ). (k ≡ g.job.key) × (is_filling rows k ≡ true))) where
  abbrev Leaves : Type 0
  Leaves = parts_after_get g.phase y.incoming kind known ≡ parts_after_work (work_of (getting_job g)) taken (bytes_taken links taken) kind known

  by_taken : (o : Option FrameView) → taken ≡ o → parts_after_work (work_of (getting_job g)) o (bytes_taken links o) kind known ≡ parts_after_work (work_of (getting_job g)) taken (bytes_taken links taken) kind known
  by_taken o same = sym (ap (λ (x : Option FrameView). parts_after_work (work_of (getting_job g)) x (bytes_taken links x) kind known) same)

  nothing_came : y.incoming ≡ None → y.takes ≡ None → Leaves
  nothing_came none takes = ap (λ (o : Option Incoming). parts_after_get g.phase o kind known) none ∙ (untaken g.phase kind known ∙ by_taken None (is ∙ ap (taken_by links g.slot) takes))

  frame_came : (peer p : ℕ) → y.takes ≡ Some p → p ≡ peer → TellsFrame links (end_in g.slot peer) y → Leaves
  frame_came peer p takes same z =
      let a = end_in g.slot peer in
      let came : taken ≡ Some (frame_at a z.frame) = is ∙ (ap (taken_by links g.slot) takes ∙ (ap (λ (n : ℕ). wait_at links (end_in g.slot n)) same ∙ z.waits)) in
      ap (λ (o : Option Incoming). parts_after_get g.phase o kind known) z.told
      ∙ (got rows g.job.key g.phase z.incoming z.frame.body kind known has z.brings z.bytes
      ∙ (ap (λ (bytes : List ℕ). parts_after_got g.job.key (phase_of g.phase) (text_in z.frame.body) bytes kind known) (sym (ap (λ (o : Option Frame). option_map_or (λ (f : Frame). bytes_of f.body) o []) z.first))
      ∙ by_taken (Some (frame_at a z.frame)) came))

  by_takes : (peer : ℕ) (o : Option ℕ) → y.takes ≡ o → Tells links (end_in g.slot peer) y o → Leaves
  by_takes peer None takes told = nothing_came told.incoming takes
  by_takes peer (Some p) takes told = frame_came peer p takes told.0 told.1

  by_awaited : (o : Option ℕ) → IsTold links g.slot o (Some y) → Leaves
  by_awaited None told = nothing_came told.0 told.1
  by_awaited (Some peer) told = by_takes peer y.takes refl told

worker_told : (links : List EndView) (rows : Rows) (v : Worker) (paths : List (List ℕ)) (y : Arrival) (kind : EntryKind) (known : Option Parts) (taken : Option FrameView) → HasFill rows (record { worker = v; paths = paths })
    → IsToldTo links (tasks.Transfers (record { worker = v; paths = paths })) (tolds.Arrival y) → taken ≡ taken_by links (slot_of (tasks.Transfers (record { worker = v; paths = paths }))) y.takes
    → parts_after (tasks.Transfers (record { worker = v; paths = paths })) (tolds.Arrival y) kind known ≡ parts_after_work (work_of (record { worker = v; paths = paths })) taken (bytes_taken links taken) kind known
worker_told links rows (workers.Puts p) paths y kind known None has told is = refl
worker_told links rows (workers.Puts p) paths y kind known (Some g) has told is = sym (puts_take_none p.job.key p.phase g.body (bytes_taken links (Some g)) kind known)
worker_told links rows (workers.Gets g) paths y kind known taken has told is = by_awaited links rows g y kind known taken is has (awaited (work_of (getting_job g))) told

-- the parts after what a job was told are those after the frame that it took
pub parts_told : (links : List EndView) (rows : Rows) (t : Task) (x : Told) (kind : EntryKind) (known : Option Parts) (taken : Option FrameView) → OwnsOf rows t → IsToldTo links t x → taken ≡ taken_by links (slot_of t) (takes_in x)
    → parts_after t x kind known ≡ parts_after_work (work_now t) taken (bytes_taken links taken) kind known
parts_told links rows (tasks.Drops j) (tolds.Feed f) kind known None own told is = refl
parts_told links rows (tasks.Drops j) (tolds.Feed f) kind known (Some g) own told is = sym (drops_take_none j.worker.job.key j.worker.phase g.body (bytes_taken links (Some g)) kind known)
parts_told links rows (tasks.Drops j) (tolds.Arrival y) kind known taken own told is = absurd told
parts_told links rows (tasks.Transfers w) (tolds.Feed f) kind known taken own told is = absurd told
parts_told links rows (tasks.Transfers w) (tolds.Arrival y) kind known taken own told is = worker_told links rows w.worker w.paths y kind known taken own.1 told is
