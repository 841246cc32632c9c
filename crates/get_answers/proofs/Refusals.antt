-- The word behind the bytes of a part, other than VALID.
use Rattle.std.proofs.Common.{◌≡◌, ℕ, false, [], Option, Some, None, Ok, refl, subst}
use Rattle.annex_base.specs.declared.memory.NoMemory.{NoMemory}
use Rattle.run_data.specs.declared.entry.EntryKind.{EntryKind}
use Rattle.run_data.specs.declared.entry.EntryKind.TheVariants.{Talk}
use Rattle.run_data.specs.declared.job.SourceCause.{SourceCause}
use Rattle.p2p_wire.specs.declared.message.Message.{Message}
use Rattle.p2p_wire.specs.declared.message.Message.TheVariants as messages
use Rattle.p2p_wire.specs.declared.message.Message.TheVariants.{Failure, Invalid, Valid}
use Rattle.p2p_wire.specs.Streams.{IsLine}
use Rattle.object_store.specs.Stores.{Parts}
use Rattle.node_model.specs.Jobs as Jobs
use Rattle.node_model.specs.Jobs.{source_cause}
use Rattle.node_model.specs.JobStep.{says_to, talk}
use Rattle.node_model.specs.Turns.{takes}
use Rattle.content_lock.specs.Rows.{Rows}
use Rattle.session_state.proofs.Calling.{makes_none}
use Rattle.session_state.specs.declared.doing.Taken.{Taken}
use Rattle.session_state.specs.declared.incoming.Incoming.TheVariants as incoming
use Rattle.transfer_turns.specs.declared.parcels.Output.{Output}
use Rattle.transfer_turns.specs.Steps.{Seen}
use Rattle.transfer_turns.specs.Turns.{Sight, output_of, turn_in}
use Rattle.transfer_turns.proofs.Hearings.{said_steps}
use Rattle.get_phases.specs.declared.getting.Getting.{Getting}
use Rattle.get_phases.specs.declared.getting.Phase.{Phase}
use Rattle.get_phases.specs.declared.getting.Phase.TheVariants as phases
use Rattle.get_phases.specs.Getting.{Does}
use Rattle.get_phases.specs.Gets.{HasFill, SeesPart, parts_after, work_of}
use Rattle.get_phases.specs.Losing.{FailsWith}
use Rattle.get_phases.proofs.Keeping.{keeps_still, nothing_left}
use Rattle.get_phases.proofs.Losses.{asks_so, at, failed_apart, failed_work, fed_anew, from_phase, made_so, message_to, next_fill}

-- ---- INVALID

rejected_at : (x : Sight) (rows : Rows) (k : Seen) (w w' : Getting) (peer start : ℕ) (taken : Taken) → FailsWith peer (source_cause start (Some Invalid)) w.version (at w (phases.Word peer start taken)) w' → IsLine Failure
    → HasFill rows (at w (phases.Word peer start taken))
    → Does {E = NoMemory} x (Some (incoming.Message Invalid)) rows rows k k (at w (phases.Word peer start taken)) w' (Ok (output_of (Talk (Some w.number)) (message_to peer Failure) false))
rejected_at x rows k w w' peer start taken fails line has =
    let u : Getting = at w (phases.Word peer start taken) in
    let cause : SourceCause = source_cause start (Some Invalid) in (
      said_steps x rows k k (work_of u) (work_of w') (SeesPart k.parts w.job.key (phases.Word peer start taken) (Some (incoming.Message Invalid))) peer refl refl Invalid w.version (λ f l. refl) Failure false
          (λ c told part right sees rest f.
          let t = turn_in x rows c part right None rest (work_of u) in
          asks_so (takes t f peer (Jobs.GetsWord peer start taken.size) Invalid) (says_to t (talk t) (Some f) peer Failure) [] None k k refl (makes_none k.failing k.failing refl))
          line.0 (λ time. failed_work peer cause w.version u w' refl fails),
      keeps_still x (Some (incoming.Message Invalid)) rows k k u w' (Talk (Some w.number)) (message_to peer Failure) has refl refl refl fails.number fails.slot fails.job (next_fill peer cause w.version u w' fails) (nothing_left k) refl
          (λ p is was. fed_anew p peer cause w.version u w' fails) (tt, tt) (failed_apart x peer cause w.version u w' fails),
    )

pub rejected_does : (x : Sight) (rows : Rows) (k : Seen) (w w' : Getting) (peer start : ℕ) (taken : Taken) (out : Output) → w.phase ≡ phases.Word peer start taken → FailsWith peer (source_cause start (Some Invalid)) w.version w w'
    → out ≡ output_of (Talk (Some w.number)) (message_to peer Failure) false → IsLine Failure → HasFill rows w → Does {E = NoMemory} x (Some (incoming.Message Invalid)) rows rows k k w w' (Ok out)
rejected_does x rows k w w' peer start taken out stands fails is line has =
    from_phase x (Some (incoming.Message Invalid)) rows rows k k w w' (phases.Word peer start taken) (Ok out) stands
    (λ given. made_so x (Some (incoming.Message Invalid)) rows rows k k (at w (phases.Word peer start taken)) w' w' out (output_of (Talk (Some w.number)) (message_to peer Failure) false) refl is
    (rejected_at x rows k w w' peer start taken (subst (λ (ph : Phase). FailsWith peer (source_cause start (Some Invalid)) w.version (at w ph) w') stands fails) line given)) has

-- ---- any other word

pub still_word : (peer start : ℕ) (taken : Taken) (m : Message) (kind : EntryKind) (known : Option Parts) → (m ≡ Valid → ⊥) → known ≡ parts_after (phases.Word peer start taken) (Some (incoming.Message m)) kind known
still_word peer start taken (messages.AuthSuccess id) kind known other = refl
still_word peer start taken (messages.Version n) kind known other = refl
still_word peer start taken (messages.CheckPresent k) kind known other = refl
still_word peer start taken (messages.LockContent k) kind known other = refl
still_word peer start taken (messages.UnlockContent k) kind known other = refl
still_word peer start taken (messages.Remove k) kind known other = refl
still_word peer start taken (messages.RemoveBefore n k) kind known other = refl
still_word peer start taken messages.GetTimestamp kind known other = refl
still_word peer start taken (messages.Timestamp n) kind known other = refl
still_word peer start taken (messages.Get n file k) kind known other = refl
still_word peer start taken (messages.Put file k) kind known other = refl
still_word peer start taken (messages.PutFrom n) kind known other = refl
still_word peer start taken messages.AlreadyHave kind known other = refl
still_word peer start taken (messages.Data n) kind known other = refl
still_word peer start taken messages.Valid kind known other = absurd (other refl)
still_word peer start taken messages.Invalid kind known other = refl
still_word peer start taken messages.Success kind known other = refl
still_word peer start taken messages.Failure kind known other = refl
still_word peer start taken (messages.Error text) kind known other = refl
