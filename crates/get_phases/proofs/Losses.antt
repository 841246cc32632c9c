-- A get that goes on without a peer, and where it stands.
use Rattle.std.proofs.Common.{◌≡◌, ℕ, true, List, [], ◌∷◌, Option, Some, None, Result, Ok, refl, sym, ap, subst, ◌∙◌}
use Rattle.std.specs.Prelude.{is_some}
use Rattle.annex_base.specs.declared.kinds.Call.{Call}
use Rattle.annex_base.specs.declared.memory.NoMemory.{NoMemory}
use Rattle.run_data.specs.declared.job.SourceCause.{SourceCause}
use Rattle.run_data.specs.declared.job.SourceCause.TheVariants as sources
use Rattle.p2p_wire.specs.declared.message.Message.{Message}
use Rattle.object_store.specs.Stores.{Parts}
use Rattle.node_model.specs.Jobs as Jobs
use Rattle.node_model.specs.Jobs.{closed_part, fails_with, partner}
use Rattle.node_model.specs.Look.{Effect, as_told}
use Rattle.content_lock.specs.CallsMade.{MakesCalls}
use Rattle.content_lock.specs.Rows.{Rows}
use Rattle.session_state.specs.declared.doing.Taken.{Taken}
use Rattle.session_state.specs.declared.incoming.Incoming.{Incoming}
use Rattle.transfer_turns.specs.declared.parcels.Output.{Output}
use Rattle.transfer_turns.specs.declared.parcels.Parcel.{Parcel}
use Rattle.transfer_turns.specs.declared.parcels.ParcelBody.TheVariants as bodies
use Rattle.transfer_turns.specs.Partners.{StaysApart}
use Rattle.transfer_turns.specs.Steps.{Seen}
use Rattle.transfer_turns.specs.Turns.{Sight, awaited}
use Rattle.transfer_turns.proofs.Hearings.{Asks}
use Rattle.transfer_turns.proofs.Partners.{apart_none}
use Rattle.get_phases.specs.declared.getting.Getting.{Getting}
use Rattle.get_phases.specs.declared.getting.Phase.{Phase}
use Rattle.get_phases.specs.declared.getting.Phase.TheVariants as phases
use Rattle.get_phases.specs.Getting.{Does}
use Rattle.get_phases.specs.Gets.{HasFill, IsFed, fill_in, part_of, phase_of, work_of}
use Rattle.get_phases.specs.Losing.{FailsWith, next_with}
use Rattle.get_phases.proofs.Keeping.{gets_on}

-- ---- what is asked

-- these calls, and then this
pub asks_so : (asked made : Effect) (cs : List Call) (failed : Option Call) (k k' : Seen) → asked ≡ record made { calls = cs } → MakesCalls cs failed k.failing k'.failing → Asks asked (as_told made) failed k k'
asks_so asked made cs failed k k' is calls = record {
  told = ap as_told is;
  calls = subst (λ (l : List Call). MakesCalls l failed k.failing k'.failing) (sym (ap (λ (e : Effect). e.calls) is)) calls;
}

-- ---- where it stands

-- a get that stands so
abbrev pub at : Getting → Phase → Getting
at w ph = record w { phase = ph }

pub from_phase : (x : Sight) (i : Option Incoming) (rows rows' : Rows) (k k' : Seen) (w w' : Getting) (ph : Phase) (r : Result Output NoMemory) → w.phase ≡ ph
    → (HasFill rows (at w ph) → Does x i rows rows' k k' (at w ph) w' r) → HasFill rows w → Does x i rows rows' k k' w w' r
from_phase x i rows rows' k k' w w' ph r stands does = subst (λ (q : Phase). HasFill rows (at w q) → Does x i rows rows' k k' (at w q) w' r) (sym stands) does

-- where it made this, and stands so
pub made_so : (x : Sight) (i : Option Incoming) (rows rows' : Rows) (k k' : Seen) (w w' u : Getting) (out made : Output) → w' ≡ u → out ≡ made → Does {E = NoMemory} x i rows rows' k k' w u (Ok made) → Does {E = NoMemory} x i rows rows' k k' w w' (Ok out)
made_so x i rows rows' k k' w w' u out made next is does =
    subst (λ (v : Getting). Does {E = NoMemory} x i rows rows' k k' w v (Ok out)) (sym next) (subst (λ (o : Output). Does {E = NoMemory} x i rows rows' k k' w u (Ok o)) (sym is) does)

-- what is sent where a peer is told this
abbrev pub message_to : ℕ → Message → List Parcel
message_to peer m = record { peer = peer; body = bodies.Message m } ∷ []

-- it awaits a frame wherever it talks
pub awaits_partner : (w : Getting) (ph : Phase) → awaited (work_of (record w { phase = ph })) ≡ partner w.job.peer (phase_of ph)
awaits_partner w phases.Fresh = refl
awaits_partner w (phases.Next fill) = refl
awaits_partner w (phases.Opens peer fill) = refl
awaits_partner w (phases.Greets peer fill) = refl
awaits_partner w (phases.Data peer wanting) = refl
awaits_partner w (phases.Bytes peer start taking) = refl
awaits_partner w (phases.Word peer start taken) = refl
awaits_partner w (phases.Ends why) = refl
awaits_partner w phases.Done = refl

-- where the word behind the bytes is awaited
pub word_there : (peer p a b : ℕ) (ph : Phase) (t u : Taken) → ph ≡ phases.Word peer a t → ph ≡ phases.Word p b u → (p ≡ peer) × (b ≡ a)
word_there peer p a b ph t u served is = let both : phases.Word p b u ≡ phases.Word peer a t = sym is ∙ served in (cc, cc)

pub word_at : (peer p a b : ℕ) (ph : Phase) (t u : Taken) → ph ≡ phases.Word peer a t → ph ≡ phases.Word p b u → ph ≡ phases.Word peer b u
word_at peer p a b ph t u served is = is ∙ ap (λ (q : ℕ). phases.Word q b u) (word_there peer p a b ph t u served is).0

-- ---- a get that failed with a peer

-- it goes on with its fill
pub next_fill : (peer : ℕ) (cause : SourceCause) (n : ℕ) (w w' : Getting) → FailsWith peer cause n w w' → fill_in w'.phase ≡ fill_in w.phase
next_fill peer cause n w w' f = ap fill_in f.phase ∙ go (fill_in w.phase)
  where
    go : (o : Option (List ℕ)) → fill_in (next_with o) ≡ o
    go None = refl
    go (Some fill) = refl

next_phase : (o : Option (List ℕ)) → is_some o ≡ true → phase_of (next_with o) ≡ Jobs.Next
next_phase None e = absurd cc
next_phase (Some fill) e = refl

fed_next : (p : Parts) (o : Option (List ℕ)) → IsFed p (next_with o)
fed_next p None = tt
fed_next p (Some fill) = tt

-- bytes that it took are none of another peer's
pub fed_anew : (p : Parts) (peer : ℕ) (cause : SourceCause) (n : ℕ) (w w' : Getting) → FailsWith peer cause n w w' → IsFed p w'.phase
fed_anew p peer cause n w w' f = subst (λ (ph : Phase). IsFed p ph) (sym f.phase) (fed_next p (fill_in w.phase))

next_alone : (target : Option ℕ) (o : Option (List ℕ)) → partner target (phase_of (next_with o)) ≡ None
next_alone target None = refl
next_alone target (Some fill) = refl

-- it talks with none
pub failed_apart : (x : Sight) (peer : ℕ) (cause : SourceCause) (n : ℕ) (w w' : Getting) → FailsWith peer cause n w w' → StaysApart x (work_of w) (work_of w')
failed_apart x peer cause n w w' f = apart_none x (work_of w) (work_of w') (ap (λ (ph : Phase). partner w'.job.peer (phase_of ph)) f.phase ∙ next_alone w'.job.peer (fill_in w.phase))

pub failed_work : (peer : ℕ) (cause : SourceCause) (n : ℕ) (w w' : Getting) → is_some (fill_in w.phase) ≡ true → FailsWith peer cause n w w' → work_of w' ≡ fails_with (record (work_of w) { version = n }) peer cause
failed_work peer cause n w w' some f =
    let same : fill_in w'.phase ≡ fill_in w.phase = next_fill peer cause n w w' f in
    λ i. record {
      number = f.number i;
      slot = f.slot i;
      what = f.job i;
      part = (gets_on w'.phase (ap is_some same ∙ some) ∙ sym (gets_on w.phase some)) i;
      phase = (ap phase_of f.phase ∙ next_phase (fill_in w.phase) some) i;
      fills = is_some (same i);
      version = f.knows i;
      heard = [];
      causes = f.causes i;
    }

pub closed_work : (r peer n : ℕ) (w w' : Getting) → is_some (fill_in w.phase) ≡ true → FailsWith peer sources.Closed n w w' → work_of w' ≡ closed_part r (record (work_of w) { version = n }) peer (part_of w.phase)
closed_work r peer n w w' some f = failed_work peer sources.Closed n w w' some f ∙ sym (ap (closed_part r (record (work_of w) { version = n }) peer) (gets_on w.phase some))
