-- A copy that awaits a frame, and finds its connection closed, or closes it.
use Rattle.std.proofs.Common.{◌≡◌, ℕ, Bool, true, false, List, [], length, Option, Some, None, Result, IfOk, refl, sym, ap, ◌∙◌}
use Rattle.std.specs.Prelude.{OnErr, if◌then◌else◌}
use Rattle.std.specs.declared.alloc.Global.{Global}
use Rattle.std.specs.declared.vec.Vec.{Vec}
use Rattle.run_data.specs.declared.entry.EntryKind.TheVariants.{Talk}
use Rattle.run_data.specs.declared.entry.FrameView.{FrameView}
use Rattle.run_data.specs.declared.job.Outcome.TheVariants.{TransferRefused}
use Rattle.run_data.specs.declared.job.TransferRefusal.TheVariants as failures
use Rattle.node_model.specs.Jobs
use Rattle.node_model.specs.Jobs.{Part, Puts, partner}
use Rattle.node_model.specs.JobStep.{Turn, wrong_message}
use Rattle.node_model.specs.TransferStep.{takes_bytes}
use Rattle.node_model.specs.Turns.{is_awaiting}
use Rattle.content_lock.specs.Rows.{Rows}
use Rattle.session_state.specs.declared.incoming.Incoming.{Incoming}
use Rattle.session_state.specs.declared.incoming.Incoming.TheVariants as incoming
use Rattle.transfer_turns.specs.declared.parcels.Output.{Output}
use Rattle.transfer_turns.specs.declared.parcels.Parcel.{Parcel}
use Rattle.transfer_turns.specs.Parcels.{AreNoPieces}
use Rattle.transfer_turns.specs.Steps.{Seen}
use Rattle.transfer_turns.specs.Turns.{Sight, awaited, output_of, turn_in}
use Rattle.transfer_turns.proofs.Hearings.{bad_steps, bytes_shut_steps, closed_steps, closing_steps, opening_steps}
use Rattle.transfer_turns.proofs.Pieces.{pieces_none}
use Rattle.put_steps.specs.declared.phase.Ending.TheVariants as endings
use Rattle.put_steps.specs.declared.phase.Phase.{Phase}
use Rattle.put_steps.specs.declared.phase.Phase.TheVariants as phases
use Rattle.put_steps.specs.declared.putting.Putting.{Putting}
use Rattle.put_steps.specs.Puts.{part_of, phase_of, work_of}
use Rattle.put_steps.specs.Putting.{Does, Keeps, SeesNoPart}
use Rattle.put_steps.specs.Stepping.{Told, close_to}
use Rattle.put_steps.proofs.Keeping.{Did, hears_so, nothing, only, talk_keeps, told_did}

-- ---- the connection on which it awaits a frame

chosen : (b : Bool) (o : Option ℕ) (peer : ℕ) → (if b then o else None) ≡ Some peer → o ≡ Some peer
chosen true o peer e = e
chosen false o peer e = absurd cc

stands_on : (w : Putting) (peer : ℕ) → awaited (work_of w) ≡ Some peer → partner w.job.peer (phase_of w.phase) ≡ Some peer
stands_on w peer e = chosen (is_awaiting (phase_of w.phase)) (partner w.job.peer (phase_of w.phase)) peer e

puts_on : (w : Putting) (ph : Phase) (peer : ℕ) → awaited (work_of (record w { phase = ph })) ≡ Some peer → part_of ph ≡ Puts
puts_on w phases.Done peer e = absurd cc
puts_on w ph peer e = refl

-- it takes no bytes
no_bytes : (t : Turn) (f : FrameView) (peer n : ℕ) (ph : Phase) → takes_bytes t f peer n (phase_of ph) ≡ wrong_message t f peer
no_bytes t f peer n phases.Fresh = refl
no_bytes t f peer n ph = refl

-- ---- what it does then

module _ (x : Sight) (rows : Rows) (k : Seen) (w : Putting) (peer : ℕ) (awaits : awaited (work_of w) ≡ Some peer) where
  abbrev closed : Putting
  closed = record w { phase = phases.Ends endings.Closed }

  with_peer : partner w.job.peer (phase_of w.phase) ≡ Some peer
  with_peer = stands_on w peer awaits

  moves : work_of closed ≡ Jobs.closed_part x.repo (work_of w) peer (part_of w.phase)
  moves =
      let puts : part_of w.phase ≡ Puts = puts_on w w.phase peer awaits in
      ap (λ (p : Part). record (work_of w) { part = p; phase = Jobs.Ends (TransferRefused failures.Closed) }) (sym puts) ∙ ap (Jobs.closed_part x.repo (work_of w) peer) (sym puts)

  keeps_closed : (items : List Parcel) → AreNoPieces items → Keeps x rows k k w closed (output_of (Talk (Some w.number)) items false)
  keeps_closed items none = talk_keeps x rows k k w (phases.Ends endings.Closed) w.version items false (nothing k) refl (pieces_none k.contents (work_of w) items none) (λ named was. tt) (λ stays. refl)

  -- the peer closes the connection, or it was closed here
  pub closing_did : Did x (Some incoming.Closing) rows k k w closed (output_of (Talk (Some w.number)) [] false)
  closing_did = (closing_steps x rows k (work_of w) (work_of closed) SeesNoPart peer awaits with_peer moves false, keeps_closed [] tt)

  pub closed_did : Did x None rows k k w closed (output_of (Talk (Some w.number)) [] false)
  closed_did = (closed_steps x rows k (work_of w) (work_of closed) SeesNoPart peer awaits with_peer moves false, keeps_closed [] tt)

  -- what isn't permitted
  pub opening_did : Did x (Some incoming.Opening) rows k k w closed (output_of (Talk (Some w.number)) (close_to peer) false)
  opening_did = (opening_steps x rows k (work_of w) (work_of closed) SeesNoPart peer awaits with_peer moves false, keeps_closed (close_to peer) (tt, tt))

  pub bad_did : Did x (Some incoming.Bad) rows k k w closed (output_of (Talk (Some w.number)) (close_to peer) false)
  bad_did = (bad_steps x rows k (work_of w) (work_of closed) SeesNoPart peer awaits with_peer moves false, keeps_closed (close_to peer) (tt, tt))

  pub bytes_did : (bytes : Vec ℕ Global) → Did x (Some (incoming.Bytes bytes)) rows k k w closed (output_of (Talk (Some w.number)) (close_to peer) false)
  bytes_did bytes = (
    bytes_shut_steps x rows k k (work_of w) (work_of closed) SeesNoPart peer awaits with_peer bytes false
        (λ c told part right s rest f.
        let t = turn_in x rows c part right None rest (work_of w) in
        only k (takes_bytes t f peer (length bytes.items) (phase_of w.phase)) (wrong_message t f peer) (no_bytes t f peer (length bytes.items) w.phase) refl)
        moves,
    keeps_closed (close_to peer) (tt, tt),
  )

-- ---- the same of what was told so

pub closing_hears : (x : Sight) (rows : Rows) (k : Seen) (w w' : Putting) (peer : ℕ) (out : Output) → awaited (work_of w) ≡ Some peer → Told w w' [] (phases.Ends endings.Closed) w.version out → Did x (Some incoming.Closing) rows k k w w' out
closing_hears x rows k w w' peer out awaits told = told_did x (Some incoming.Closing) rows k k w w' [] (phases.Ends endings.Closed) w.version out w.phase refl told (closing_did x rows k w peer awaits)

pub closed_hears : (x : Sight) (rows : Rows) (k : Seen) (w w' : Putting) (peer : ℕ) (out : Output) → awaited (work_of w) ≡ Some peer → Told w w' [] (phases.Ends endings.Closed) w.version out → Did x None rows k k w w' out
closed_hears x rows k w w' peer out awaits told = told_did x None rows k k w w' [] (phases.Ends endings.Closed) w.version out w.phase refl told (closed_did x rows k w peer awaits)

shut_hears : {E : Type 0} (i : Option Incoming) (x : Sight) (rows : Rows) (k : Seen) (w w' : Putting) (peer : ℕ) (r : Result Output E) → IfOk r (Told w w' (close_to peer) (phases.Ends endings.Closed) w.version) → OnErr r (w' ≡ w)
    → Did x i rows k k w (record w { phase = phases.Ends endings.Closed }) (output_of (Talk (Some w.number)) (close_to peer) false) → Does x i rows k k w w' r
shut_hears i x rows k w w' peer r ok err did =
    hears_so x i rows k w w' r (Told w w' (close_to peer) (phases.Ends endings.Closed) w.version) ok err
    (λ out told. told_did x i rows k k w w' (close_to peer) (phases.Ends endings.Closed) w.version out w.phase refl told did)

pub opening_hears : {E : Type 0} (x : Sight) (rows : Rows) (k : Seen) (w w' : Putting) (peer : ℕ) (r : Result Output E) → awaited (work_of w) ≡ Some peer → IfOk r (Told w w' (close_to peer) (phases.Ends endings.Closed) w.version) → OnErr r (w' ≡ w)
    → Does x (Some incoming.Opening) rows k k w w' r
opening_hears x rows k w w' peer r awaits ok err = shut_hears (Some incoming.Opening) x rows k w w' peer r ok err (opening_did x rows k w peer awaits)

pub bad_hears : {E : Type 0} (x : Sight) (rows : Rows) (k : Seen) (w w' : Putting) (peer : ℕ) (r : Result Output E) → awaited (work_of w) ≡ Some peer → IfOk r (Told w w' (close_to peer) (phases.Ends endings.Closed) w.version) → OnErr r (w' ≡ w)
    → Does x (Some incoming.Bad) rows k k w w' r
bad_hears x rows k w w' peer r awaits ok err = shut_hears (Some incoming.Bad) x rows k w w' peer r ok err (bad_did x rows k w peer awaits)

pub bytes_hears : {E : Type 0} (x : Sight) (rows : Rows) (k : Seen) (w w' : Putting) (peer : ℕ) (bytes : Vec ℕ Global) (r : Result Output E) → awaited (work_of w) ≡ Some peer → IfOk r (Told w w' (close_to peer) (phases.Ends endings.Closed) w.version)
    → OnErr r (w' ≡ w) → Does x (Some (incoming.Bytes bytes)) rows k k w w' r
bytes_hears x rows k w w' peer bytes r awaits ok err = shut_hears (Some (incoming.Bytes bytes)) x rows k w w' peer r ok err (bytes_did x rows k w peer awaits bytes)
