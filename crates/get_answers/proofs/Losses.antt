-- A get that takes what gives it nothing of a peer, and goes on to the next.
use Rattle.std.proofs.Common.{◌≡◌, ℕ, ◌++◌, true, false, List, [], ◌∷◌, length, Option, Some, None, Result, Ok, Err, refl, sym, ap, subst, ◌∙◌}
use Rattle.std.specs.Prelude.{IfOk, OnErr, if◌then◌else◌, is_some, nat_le, nat_lt, ◌&&◌}
use Rattle.std.specs.Option.{option_map}
use Rattle.std.proofs.lemmas.Option.{same_Some}
use Rattle.std.specs.declared.alloc.Global.{Global}
use Rattle.std.specs.declared.vec.Vec.{Vec}
use Rattle.annex_base.specs.declared.memory.NoMemory.{NoMemory}
use Rattle.run_data.specs.declared.entry.EntryKind.{EntryKind}
use Rattle.run_data.specs.declared.entry.EntryKind.TheVariants.{Talk}
use Rattle.run_data.specs.declared.entry.FrameView.{FrameView}
use Rattle.run_data.specs.declared.job.SourceCause.{SourceCause}
use Rattle.run_data.specs.declared.job.SourceCause.TheVariants as sources
use Rattle.p2p_wire.specs.declared.message.Message.{Message}
use Rattle.object_store.specs.Stores.{Parts, with_at}
use Rattle.node_model.specs.Jobs.{Gets, closed_part, learns, partner}
use Rattle.node_model.specs.JobStep.{Turn, wrong_message}
use Rattle.node_model.specs.TransferStep.{takes_bytes}
use Rattle.node_model.specs.Turns.{takes}
use Rattle.content_lock.specs.Rows.{Rows}
use Rattle.session_state.proofs.Calling.{makes_none}
use Rattle.session_state.specs.declared.doing.Taken.{Taken}
use Rattle.session_state.specs.declared.doing.Taking.{Taking}
use Rattle.session_state.specs.declared.doing.Wanting.{Wanting}
use Rattle.session_state.specs.declared.incoming.Incoming.{Incoming}
use Rattle.session_state.specs.declared.incoming.Incoming.TheVariants as incoming
use Rattle.drop_phases.proofs.Takings.{Lined}
use Rattle.transfer_turns.specs.declared.parcels.Output.{Output}
use Rattle.transfer_turns.specs.declared.parcels.Parcel.{Parcel}
use Rattle.transfer_turns.specs.declared.parcels.ParcelBody.TheVariants as bodies
use Rattle.transfer_turns.specs.Parcels.{AreNoPieces}
use Rattle.transfer_turns.specs.Steps.{Seen, StepsIn}
use Rattle.transfer_turns.specs.Turns.{Sight, awaited, output_of, turn_in}
use Rattle.transfer_turns.proofs.Hearings.{bad_steps, bytes_shut_steps, closed_steps, closing_steps, opening_steps, shut_steps}
use Rattle.get_phases.specs.declared.getting.Getting.{Getting}
use Rattle.get_phases.specs.declared.getting.Phase.{Phase}
use Rattle.get_phases.specs.declared.getting.Phase.TheVariants as phases
use Rattle.get_phases.specs.Getting.{Does}
use Rattle.get_phases.specs.Gets.{HasFill, SeesPart, fill_in, part_of, parts_after, phase_of, work_of}
use Rattle.get_phases.specs.Losing.{FailsWith, Loses}
use Rattle.get_phases.proofs.Keeping.{gets_on, keeps_still, nothing_left, stays_same}
use Rattle.get_phases.proofs.Losses.{asks_so, awaits_partner, closed_work, failed_apart, fed_anew, next_fill}
use Rattle.get_commits.specs.Judging.{IsServed}
use Rattle.get_answers.specs.Taking.{IsAsking, IsGreeting, IsOpening}
use Rattle.get_answers.proofs.Unexpected.{bytes_else, bytes_past, no_bytes}

-- ---- the connection on which it awaits a frame

pub stands_on : (w : Getting) (peer : ℕ) → awaited (work_of w) ≡ Some peer → partner w.job.peer (phase_of w.phase) ≡ Some peer
stands_on w peer e = sym (awaits_partner w w.phase) ∙ e

-- a get that awaits a frame fills its key
pub fills_there : (w : Getting) (peer : ℕ) → awaited (work_of w) ≡ Some peer → is_some (fill_in w.phase) ≡ true
fills_there w peer e = go w.phase (stands_on w peer e)
  where
    go : (ph : Phase) → partner w.job.peer (phase_of ph) ≡ Some peer → is_some (fill_in ph) ≡ true
    go phases.Fresh e = absurd cc
    go (phases.Next fill) e = absurd cc
    go (phases.Opens p fill) e = refl
    go (phases.Greets p fill) e = refl
    go (phases.Data p wanting) e = refl
    go (phases.Bytes p start taking) e = refl
    go (phases.Word p start taken) e = refl
    go (phases.Ends why) e = absurd cc
    go phases.Done e = absurd cc

-- what it awaits of the peer
at_peer : (w : Getting) (peer p : ℕ) (ph : Phase) → w.phase ≡ ph → partner w.job.peer (phase_of ph) ≡ Some p → awaited (work_of w) ≡ Some peer → p ≡ peer
at_peer w peer p ph at is awaits = same_Some p peer (sym is ∙ (sym (ap (λ (q : Phase). partner w.job.peer (phase_of q)) at) ∙ stands_on w peer awaits))

pub opening_there : (w : Getting) (peer p : ℕ) (fill : List ℕ) → w.phase ≡ phases.Opens p fill → awaited (work_of w) ≡ Some peer → IsOpening peer w.phase
opening_there w peer p fill at awaits = record { fill = fill; at = at ∙ ap (λ (q : ℕ). phases.Opens q fill) (at_peer w peer p (phases.Opens p fill) at refl awaits) }

pub greeting_there : (w : Getting) (peer p : ℕ) (fill : List ℕ) → w.phase ≡ phases.Greets p fill → awaited (work_of w) ≡ Some peer → IsGreeting peer w.phase
greeting_there w peer p fill at awaits = record { fill = fill; at = at ∙ ap (λ (q : ℕ). phases.Greets q fill) (at_peer w peer p (phases.Greets p fill) at refl awaits) }

pub asking_there : (w : Getting) (peer p : ℕ) (wanting : Wanting) → w.phase ≡ phases.Data p wanting → awaited (work_of w) ≡ Some peer → IsAsking peer w.phase
asking_there w peer p wanting at awaits = record { wanting = wanting; at = at ∙ ap (λ (q : ℕ). phases.Data q wanting) (at_peer w peer p (phases.Data p wanting) at refl awaits) }

pub served_there : (w : Getting) (peer p start : ℕ) (taken : Taken) → w.phase ≡ phases.Word p start taken → awaited (work_of w) ≡ Some peer → IsServed peer w.phase
served_there w peer p start taken at awaits = record { start = start; taken = taken; at = at ∙ ap (λ (q : ℕ). phases.Word q start taken) (at_peer w peer p (phases.Word p start taken) at refl awaits) }

pub taking_there : (w : Getting) (peer p start : ℕ) (taking : Taking) → w.phase ≡ phases.Bytes p start taking → awaited (work_of w) ≡ Some peer → w.phase ≡ phases.Bytes peer start taking
taking_there w peer p start taking at awaits = at ∙ ap (λ (q : ℕ). phases.Bytes q start taking) (at_peer w peer p (phases.Bytes p start taking) at refl awaits)

-- ---- its step

-- what is sent where the connection is closed
abbrev pub close_to : ℕ → List Parcel
close_to peer = record { peer = peer; body = bodies.Close } ∷ []

pub loses_so : (x : Sight) (i : Option Incoming) (rows : Rows) (k : Seen) (w w' : Getting) (sent : List Parcel) (peer : ℕ) (cause : SourceCause) (n : ℕ) (r : Result Output NoMemory) → AreNoPieces sent → HasFill rows w → is_some (fill_in w.phase) ≡ true
    → k.parts ≡ parts_after w.phase i (Talk (Some w.number)) k.parts → IfOk r (Loses sent peer cause n w w') → OnErr r (w' ≡ w)
    → (FailsWith peer cause n w w' → StepsIn x rows k k (work_of w) (work_of w') i (SeesPart k.parts w.job.key w.phase i) (output_of (Talk (Some w.number)) sent false)) → Does x i rows rows k k w w' r
loses_so x i rows k w w' sent peer cause n (Err e) pieces has some still l same steps = stays_same rows k w w' same
loses_so x i rows k w w' sent peer cause n (Ok out) pieces has some still l same steps =
    subst (λ (o : Output). Does {E = NoMemory} x i rows rows k k w w' (Ok o)) (sym l.made) (
      steps l.fails,
      keeps_still x i rows k k w w' (Talk (Some w.number)) sent has some refl refl l.fails.number l.fails.slot l.fails.job (next_fill peer cause n w w' l.fails) (nothing_left k) still (λ p is was. fed_anew p peer cause n w w' l.fails) pieces
          (failed_apart x peer cause n w w' l.fails),
    )

-- ---- what brings no part on

still_none : (ph : Phase) (kind : EntryKind) (known : Option Parts) → known ≡ parts_after ph None kind known
still_none (phases.Bytes p start taking) kind known = refl
still_none (phases.Word p start taken) kind known = refl
still_none ph kind known = refl

still_closing : (ph : Phase) (kind : EntryKind) (known : Option Parts) → known ≡ parts_after ph (Some incoming.Closing) kind known
still_closing (phases.Bytes p start taking) kind known = refl
still_closing (phases.Word p start taken) kind known = refl
still_closing ph kind known = refl

still_opening : (ph : Phase) (kind : EntryKind) (known : Option Parts) → known ≡ parts_after ph (Some incoming.Opening) kind known
still_opening (phases.Bytes p start taking) kind known = refl
still_opening (phases.Word p start taken) kind known = refl
still_opening ph kind known = refl

still_bad : (ph : Phase) (kind : EntryKind) (known : Option Parts) → known ≡ parts_after ph (Some incoming.Bad) kind known
still_bad (phases.Bytes p start taking) kind known = refl
still_bad (phases.Word p start taken) kind known = refl
still_bad ph kind known = refl

pub still_bytes : (ph : Phase) (bytes : Vec ℕ Global) (kind : EntryKind) (known : Option Parts) → ((p start : ℕ) (taking : Taking) → ph ≡ phases.Bytes p start taking → ⊥) → known ≡ parts_after ph (Some (incoming.Bytes bytes)) kind known
still_bytes (phases.Bytes p start taking) bytes kind known other = absurd (other p start taking refl)
still_bytes (phases.Word p start taken) bytes kind known other = refl
still_bytes ph bytes kind known other = refl

-- ---- by what comes

module _ (x : Sight) (rows : Rows) (k : Seen) (w w' : Getting) (peer : ℕ) (r : Result Output NoMemory) (has : HasFill rows w) (awaits : awaited (work_of w) ≡ Some peer) (same : OnErr r (w' ≡ w)) where
  with_peer : partner w.job.peer (phase_of w.phase) ≡ Some peer
  with_peer = stands_on w peer awaits

  some : is_some (fill_in w.phase) ≡ true
  some = fills_there w peer awaits

  closed : FailsWith peer sources.Closed w.version w w' → work_of w' ≡ closed_part x.repo (work_of w) peer (part_of w.phase)
  closed f = closed_work x.repo peer w.version w w' some f

  -- a Close, or nothing, where the connection was closed here
  pub closing_does : IfOk r (Loses [] peer sources.Closed w.version w w') → Does x (Some incoming.Closing) rows rows k k w w' r
  closing_does l =
      loses_so x (Some incoming.Closing) rows k w w' [] peer sources.Closed w.version r tt has some (still_closing w.phase (Talk (Some w.number)) k.parts) l same
      (λ f. closing_steps x rows k (work_of w) (work_of w') (SeesPart k.parts w.job.key w.phase (Some incoming.Closing)) peer awaits with_peer (closed f) false)

  pub closed_does : IfOk r (Loses [] peer sources.Closed w.version w w') → Does x None rows rows k k w w' r
  closed_does l =
      loses_so x None rows k w w' [] peer sources.Closed w.version r tt has some (still_none w.phase (Talk (Some w.number)) k.parts) l same
      (λ f. closed_steps x rows k (work_of w) (work_of w') (SeesPart k.parts w.job.key w.phase None) peer awaits with_peer (closed f) false)

  -- an opening, or a line that is no message
  pub opening_does : IfOk r (Loses (close_to peer) peer sources.Closed w.version w w') → Does x (Some incoming.Opening) rows rows k k w w' r
  opening_does l =
      loses_so x (Some incoming.Opening) rows k w w' (close_to peer) peer sources.Closed w.version r (tt, tt) has some (still_opening w.phase (Talk (Some w.number)) k.parts) l same
      (λ f. opening_steps x rows k (work_of w) (work_of w') (SeesPart k.parts w.job.key w.phase (Some incoming.Opening)) peer awaits with_peer (closed f) false)

  pub bad_does : IfOk r (Loses (close_to peer) peer sources.Closed w.version w w') → Does x (Some incoming.Bad) rows rows k k w w' r
  bad_does l =
      loses_so x (Some incoming.Bad) rows k w w' (close_to peer) peer sources.Closed w.version r (tt, tt) has some (still_bad w.phase (Talk (Some w.number)) k.parts) l same
      (λ f. bad_steps x rows k (work_of w) (work_of w') (SeesPart k.parts w.job.key w.phase (Some incoming.Bad)) peer awaits with_peer (closed f) false)

  -- bytes that aren't to come
  pub bytes_does : (bytes : Vec ℕ Global) → k.parts ≡ parts_after w.phase (Some (incoming.Bytes bytes)) (Talk (Some w.number)) k.parts
      → ((t : Turn) (f : FrameView) → takes_bytes t f peer (length bytes.items) (phase_of w.phase) ≡ wrong_message t f peer)
      → IfOk r (Loses (close_to peer) peer sources.Closed w.version w w') → Does x (Some (incoming.Bytes bytes)) rows rows k k w w' r
  bytes_does bytes still wrong l =
      loses_so x (Some (incoming.Bytes bytes)) rows k w w' (close_to peer) peer sources.Closed w.version r (tt, tt) has some still l same
      (λ f. bytes_shut_steps x rows k k (work_of w) (work_of w') (SeesPart k.parts w.job.key w.phase (Some (incoming.Bytes bytes))) peer awaits with_peer bytes false
      (λ c told part right s rest g. asks_so (takes_bytes (turn_in x rows c part right None rest (work_of w)) g peer (length bytes.items) (phase_of w.phase)) (wrong_message (turn_in x rows c part right None rest (work_of w)) g peer) [] None k k
      (wrong (turn_in x rows c part right None rest (work_of w)) g) (makes_none k.failing k.failing refl)) (closed f))

  -- of a get that takes no bytes
  pub stray_does : (bytes : Vec ℕ Global) → ((p start : ℕ) (taking : Taking) → w.phase ≡ phases.Bytes p start taking → ⊥) → IfOk r (Loses (close_to peer) peer sources.Closed w.version w w') → Does x (Some (incoming.Bytes bytes)) rows rows k k w w' r
  stray_does bytes other l = bytes_does bytes (still_bytes w.phase bytes (Talk (Some w.number)) k.parts other) (λ t f. no_bytes t f peer (length bytes.items) w.phase other) l

  -- none, or more than are to come
  pub past_does : (bytes : Vec ℕ Global) (p start : ℕ) (taking : Taking) → w.phase ≡ phases.Bytes p start taking → (nat_lt 0 (length bytes.items) && nat_le (length bytes.items) taking.left) ≡ false
      → IfOk r (Loses (close_to peer) peer sources.Closed w.version w w') → Does x (Some (incoming.Bytes bytes)) rows rows k k w w' r
  past_does bytes p start taking stands past l =
      bytes_does bytes
      (subst (λ (ph : Phase). k.parts ≡ parts_after ph (Some (incoming.Bytes bytes)) (Talk (Some w.number)) k.parts) (sym stands)
      (λ i. if sym past i then option_map (λ p. with_at p taking.fill (p taking.fill ++ bytes.items)) k.parts else k.parts))
      (λ t f. ap (λ (ph : Phase). takes_bytes t f peer (length bytes.items) (phase_of ph)) stands ∙ bytes_past t f peer (length bytes.items) p start taking.size taking.left past) l

  -- a message that isn't expected; this is the version that is known behind it
  pub message_does : (m : Message) (n : ℕ) → k.parts ≡ parts_after w.phase (Some (incoming.Message m)) (Talk (Some w.number)) k.parts
      → ((f : FrameView) → Lined f.body m → learns (work_of w) (phase_of w.phase) (Some f) ≡ record (work_of w) { version = n })
      → ((t : Turn) (f : FrameView) → t.w.part ≡ Gets → takes t f peer (phase_of w.phase) m ≡ wrong_message t f peer)
      → IfOk r (Loses (close_to peer) peer sources.Closed n w w') → Does x (Some (incoming.Message m)) rows rows k k w w' r
  message_does m n still learn wrong l =
      loses_so x (Some (incoming.Message m)) rows k w w' (close_to peer) peer sources.Closed n r (tt, tt) has some still l same
      (λ f. shut_steps x rows k k (work_of w) (work_of w') (SeesPart k.parts w.job.key w.phase (Some (incoming.Message m))) peer awaits with_peer m n learn false
      (λ c told part right s rest g. asks_so (takes (turn_in x rows c part right None rest (work_of w)) g peer (phase_of w.phase) m) (wrong_message (turn_in x rows c part right None rest (work_of w)) g peer) [] None k k
      (wrong (turn_in x rows c part right None rest (work_of w)) g (gets_on w.phase some)) (makes_none k.failing k.failing refl))
      (closed_work x.repo peer n w w' some f))

-- where it stands so
pub else_does : (x : Sight) (rows : Rows) (k : Seen) (w w' : Getting) (peer : ℕ) (r : Result Output NoMemory) (m : Message) (n : ℕ) (ph : Phase) → HasFill rows w → OnErr r (w' ≡ w) → w.phase ≡ ph → awaited (work_of (record w { phase = ph })) ≡ Some peer
    → k.parts ≡ parts_after ph (Some (incoming.Message m)) (Talk (Some w.number)) k.parts → ((f : FrameView) → Lined f.body m → learns (work_of w) (phase_of ph) (Some f) ≡ record (work_of w) { version = n })
    → ((t : Turn) (f : FrameView) → t.w.part ≡ Gets → takes t f peer (phase_of ph) m ≡ wrong_message t f peer) → IfOk r (Loses (close_to peer) peer sources.Closed n w w') → Does x (Some (incoming.Message m)) rows rows k k w w' r
else_does x rows k w w' peer r m n ph has same stands awaits still learn wrong l =
    message_does x rows k w w' peer r has (subst (λ (q : Phase). awaited (work_of (record w { phase = q })) ≡ Some peer) (sym stands) awaits) same m n
    (subst (λ (q : Phase). k.parts ≡ parts_after q (Some (incoming.Message m)) (Talk (Some w.number)) k.parts) (sym stands) still)
    (λ f line. ap (λ (q : Phase). learns (work_of w) (phase_of q) (Some f)) stands ∙ learn f line) (λ t f gets. ap (λ (q : Phase). takes t f peer (phase_of q) m) stands ∙ wrong t f gets) l

-- a message while bytes are to come
pub busy_does : (x : Sight) (rows : Rows) (k : Seen) (w w' : Getting) (peer : ℕ) (r : Result Output NoMemory) (m : Message) (p start : ℕ) (taking : Taking) → HasFill rows w → OnErr r (w' ≡ w) → w.phase ≡ phases.Bytes p start taking → awaited (work_of w) ≡ Some peer
    → IfOk r (Loses (close_to peer) peer sources.Closed w.version w w') → Does x (Some (incoming.Message m)) rows rows k k w w' r
busy_does x rows k w w' peer r m p start taking has same stands awaits l =
    else_does x rows k w w' peer r m w.version (phases.Bytes peer start taking) has same (taking_there w peer p start taking stands awaits) refl refl (λ f line. refl)
    (λ t f gets. bytes_else t f peer peer start taking.size taking.left m gets) l

-- none is awaited by a get that stands on no connection
pub none_awaited : (w : Getting) (peer : ℕ) (ph : Phase) → w.phase ≡ ph → partner w.job.peer (phase_of ph) ≡ None → awaited (work_of w) ≡ Some peer → ⊥
none_awaited w peer ph at none awaits = let both : None ≡ Some peer = sym none ∙ (sym (ap (λ (q : Phase). partner w.job.peer (phase_of q)) at) ∙ stands_on w peer awaits) in cc
