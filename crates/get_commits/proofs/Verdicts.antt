-- What a verdict does with a part whose bytes have come: it becomes the content, or is dropped.
use Rattle.std.proofs.Common.{◌≡◌, ◌<◌, ◌^◌, ℕ, Bool, true, false, not, List, [], ◌∷◌, length, Option, Some, None, Ok, refl, sym, subst, ◌∙◌, arith}
use Rattle.std.specs.Prelude.{◌&&◌, bytes_eq, if◌then◌else◌}
use Rattle.std.specs.Option.{option_map}
use Rattle.annex_base.specs.declared.kinds.Call.{Call}
use Rattle.annex_base.specs.declared.kinds.Call.TheVariants as calls
use Rattle.annex_base.specs.declared.memory.NoMemory.{NoMemory}
use Rattle.run_data.specs.declared.entry.By.TheVariants.{Job as by_job}
use Rattle.run_data.specs.declared.entry.EntryKind.TheVariants.{Fault, Gain, Talk}
use Rattle.run_data.specs.declared.entry.FrameView.{FrameView}
use Rattle.run_data.specs.declared.job.SourceCause.TheVariants as sources
use Rattle.p2p_wire.specs.declared.message.Message.TheVariants.{Failure, Success, Valid}
use Rattle.p2p_wire.specs.Streams.{IsLine}
use Rattle.object_store.specs.Stores.{AreSmallParts, Parts, contents_after_commit, with_at}
use Rattle.node_model.specs.Calls.{to_commit}
use Rattle.node_model.specs.Jobs as Jobs
use Rattle.node_model.specs.Jobs.{is_move}
use Rattle.node_model.specs.JobStep.{Turn, attempts, by_me, key_of, quietly, says_to, talk}
use Rattle.node_model.specs.TransferStep.{gains}
use Rattle.node_model.specs.Turns.{takes}
use Rattle.content_lock.specs.CallsMade.{MakesCalls}
use Rattle.content_lock.specs.Rows.{Rows, is_filling}
use Rattle.session_state.specs.declared.doing.Taken.{Taken}
use Rattle.session_state.specs.declared.incoming.Incoming.{Incoming}
use Rattle.session_state.specs.declared.incoming.Incoming.TheVariants as incoming
use Rattle.session_state.specs.Phases.{IsRightSum}
use Rattle.transfer_turns.specs.declared.parcels.Output.{Output}
use Rattle.transfer_turns.specs.Steps.{LeavesBut, Seen}
use Rattle.transfer_turns.specs.Turns.{Sight, output_of, turn_in}
use Rattle.transfer_turns.proofs.Hearings.{failed_steps, gained_steps, said_steps}
use Rattle.get_phases.specs.declared.getting.Ending.TheVariants as endings
use Rattle.get_phases.specs.declared.getting.Getting.{Getting}
use Rattle.get_phases.specs.declared.getting.Phase.{Phase}
use Rattle.get_phases.specs.declared.getting.Phase.TheVariants as phases
use Rattle.get_phases.specs.Getting.{Does, Keeps}
use Rattle.get_phases.specs.Gets.{HasFill, SeesPart, fill_in, work_of}
use Rattle.get_phases.specs.Losing.{FailsWith}
use Rattle.get_phases.proofs.Keeping.{LeavesRest, fills_less, keeps_fault, keeps_filling}
use Rattle.get_phases.proofs.Losses.{asks_so, at, failed_apart, failed_work, fed_anew, from_phase, made_so, message_to, next_fill}
use Rattle.get_verdicts.specs.Verdicts.{IsVerdict}
use Rattle.get_commits.specs.Judging.{phase_gained}

-- ---- the parts

short_at : (p : Parts) (key place : List ℕ) (b : Bool) → length (p place) < 2 ^ 62 → length (if b then [] else p place) < 2 ^ 62
short_at p key place true short = omega arith
short_at p key place false short = short

-- without one of them they are short as before
spent_short : (known : Option Parts) (key : List ℕ) → AreSmallParts known → AreSmallParts (option_map (λ p. with_at p key []) known)
spent_short None key small = λ p is place. absurd cc
spent_short (Some q) key small = λ p is place.
    let same : with_at q key [] ≡ p = cc in subst (λ (r : Parts). length (r place) < 2 ^ 62) same (short_at q key place (bytes_eq key place) (small q refl place))

spent_small : (known known' : Option Parts) (key : List ℕ) → known' ≡ option_map (λ p. with_at p key []) known → AreSmallParts known → AreSmallParts known'
spent_small known known' key spent small = subst AreSmallParts (sym spent) (spent_short known key small)

-- ---- what is told then

abbrev pub valid : Option Incoming
valid = Some (incoming.Message Valid)

-- the call that this verdict asks for
abbrev pub committing : Option ℕ → Call
committing (Some size) = calls.Commit
committing None = calls.DropPart

module _ (x : Sight) (rows : Rows) (k k' : Seen) (w : Getting) (peer start : ℕ) (taken : Taken) (has : HasFill rows (at w (phases.Word peer start taken))) where
  abbrev served : Getting
  served = at w (phases.Word peer start taken)

  -- it matches its key: it is committed
  gains_right : (t : Turn) (f : FrameView) (size : ℕ) (right : Bool) → right ≡ true → size ≡ taken.size
      → attempts t (to_commit right) (Some f) (gains t f peer taken.size right) ≡ attempts t (calls.Commit ∷ []) (Some f) (says_to t (Gain (by_me t) size (key_of t)) (Some f) peer Success)
  gains_right t f size right matches same = λ i. attempts t (to_commit (matches i)) (Some f) (gains t f peer (sym same i) (matches i))

  gains_wrong : (t : Turn) (f : FrameView) (right : Bool) → right ≡ false
      → attempts t (to_commit right) (Some f) (gains t f peer taken.size right) ≡ attempts t (calls.DropPart ∷ []) (Some f) (says_to t (talk t) (Some f) peer Failure)
  gains_wrong t f right differs = λ i. attempts t (to_commit (differs i)) (Some f) (gains t f peer taken.size (differs i))

  keeps_gain : (rows' : Rows) (size : ℕ) (b : Bool) → is_move w.job.kind ≡ b → IsRightSum taken.sum taken.fill → rows'.holds ≡ rows.holds → rows'.bars ≡ rows.bars
      → ((key : List ℕ) → is_filling rows' key ≡ (not (bytes_eq w.job.key key) && is_filling rows key)) → k'.contents ≡ contents_after_commit k.contents k.parts w.job.key
      → k'.parts ≡ option_map (λ p. with_at p w.job.key []) k.parts → LeavesRest None k k'
      → Keeps x valid rows rows' k k' served (at w (phase_gained b peer start)) (output_of (Gain (by_job w.number) size w.job.key) (message_to peer Success) b)
  keeps_gain rows' size true moves judged holds bars filled contents parts rest = record {
    leaves = record {
      kind = tt;
      whose = refl;
      number = refl;
      slot = refl;
      what = refl;
      holds = holds;
      bars = bars;
      filled = fills_less served (at w phases.Done) rows rows' refl refl filled;
      contents = contents;
      records = rest.records;
      files = rest.files;
      later = rest.later;
      cause = rest.cause;
      left = rest.left;
    };
    parts = parts ∙ (λ i. option_map (λ p. with_at p (sym has.0 i) []) k.parts);
    has = tt;
    fed = λ p is was p' is'. tt;
    small = spent_small k.parts k'.parts w.job.key parts;
    judged = judged;
    pieces = (tt, tt);
    ended = refl;
    apart = λ named was. tt;
    undone = λ stays was. sym moves ∙ stays;
  }
  keeps_gain rows' size false moves judged holds bars filled contents parts rest = record {
    leaves = record {
      kind = tt;
      whose = refl;
      number = refl;
      slot = refl;
      what = refl;
      holds = holds;
      bars = bars;
      filled = fills_less served (at w (phases.Ends (endings.Got peer start))) rows rows' refl refl filled;
      contents = contents;
      records = rest.records;
      files = rest.files;
      later = rest.later;
      cause = rest.cause;
      left = rest.left;
    };
    parts = parts ∙ (λ i. option_map (λ p. with_at p (sym has.0 i) []) k.parts);
    has = tt;
    fed = λ p is was p' is'. tt;
    small = spent_small k.parts k'.parts w.job.key parts;
    judged = judged;
    pieces = (tt, tt);
    ended = refl;
    apart = λ named was. tt;
    undone = λ stays was. refl;
  }

  gained_work : (b : Bool) → is_move w.job.kind ≡ b → work_of (at w (phase_gained b peer start)) ≡ Jobs.after_gain (work_of served) (Jobs.GetsWord peer start taken.size)
  gained_work true moves = rw moves refl
  gained_work false moves = rw moves refl

  gained_at : (rows' : Rows) (size : ℕ) (b : Bool) → is_move w.job.kind ≡ b → IsVerdict taken (Some size) → rows'.holds ≡ rows.holds → rows'.bars ≡ rows.bars
      → ((key : List ℕ) → is_filling rows' key ≡ (not (bytes_eq w.job.key key) && is_filling rows key)) → k'.contents ≡ contents_after_commit k.contents k.parts w.job.key
      → k'.parts ≡ option_map (λ p. with_at p w.job.key []) k.parts → LeavesRest None k k' → MakesCalls (calls.Commit ∷ []) None k.failing k'.failing
      → Does {E = NoMemory} x valid rows rows' k k' served (at w (phase_gained b peer start)) (Ok (output_of (Gain (by_job w.number) size w.job.key) (message_to peer Success) b))
  gained_at rows' size b moves verdict holds bars filled contents parts rest made = (
    gained_steps x rows k k' (work_of served) (work_of (at w (phase_gained b peer start))) (SeesPart k.parts w.job.key (phases.Word peer start taken) valid) peer refl refl Valid Success size w.job.key b
        (λ c told part right sees others f.
        let t = turn_in x rows c part right None others (work_of served) in
        asks_so (takes t f peer (Jobs.GetsWord peer start taken.size) Valid) (says_to t (Gain (by_me t) size w.job.key) (Some f) peer Success) (calls.Commit ∷ []) None k k'
        (gains_right t f size right (verdict.right k.parts right sees) (verdict.same k.parts right sees)) made)
        (gained_work b moves),
    keeps_gain rows' size b moves verdict.judged holds bars filled contents parts rest,
  )

  -- it doesn't: it is dropped
  dropped_at : (w' : Getting) → FailsWith peer sources.Wrong w.version served w' → IsVerdict taken None → IsLine Failure → k'.contents ≡ k.contents
      → k'.parts ≡ option_map (λ p. with_at p w.job.key []) k.parts → LeavesRest None k k' → MakesCalls (calls.DropPart ∷ []) None k.failing k'.failing
      → Does {E = NoMemory} x valid rows rows k k' served w' (Ok (output_of (Talk (Some w.number)) (message_to peer Failure) false))
  dropped_at w' fails verdict line contents parts rest made = (
    said_steps x rows k k' (work_of served) (work_of w') (SeesPart k.parts w.job.key (phases.Word peer start taken) valid) peer refl refl Valid w.version (λ f l. refl) Failure false
        (λ c told part right sees others f.
        let t = turn_in x rows c part right None others (work_of served) in
        asks_so (takes t f peer (Jobs.GetsWord peer start taken.size) Valid) (says_to t (talk t) (Some f) peer Failure) (calls.DropPart ∷ []) None k k'
        (gains_wrong t f right (verdict.right k.parts right sees)) made)
        line.0 (λ time. failed_work peer sources.Wrong w.version served w' refl fails),
    keeps_filling x valid rows k k' served w' (Talk (Some w.number)) (message_to peer Failure) has refl refl refl fails.number fails.slot fails.job (next_fill peer sources.Wrong w.version served w' fails) contents rest
        (parts ∙ (λ i. option_map (λ p. with_at p (sym has.0 i) []) k.parts)) (λ p is was p' is'. fed_anew p' peer sources.Wrong w.version served w' fails)
        (spent_small k.parts k'.parts w.job.key parts) (tt, tt) (failed_apart x peer sources.Wrong w.version served w' fails),
  )

  -- the call failed
  fault_at : (size : Option ℕ) (call : Call) → IsVerdict taken size → call ≡ committing size → LeavesBut (Some call) k k' → MakesCalls (call ∷ []) (Some call) k.failing k'.failing
      → Does {E = NoMemory} x valid rows rows k k' served (at w (phases.Ends (endings.StoreFault (Some taken.fill)))) (Ok (output_of (Fault call (by_job w.number)) [] false))
  fault_at (Some size) call verdict is leaves made =
      subst (λ (g : Call). LeavesBut (Some g) k k' → MakesCalls (g ∷ []) (Some g) k.failing k'.failing → Does {E = NoMemory} x valid rows rows k k' served (at w (phases.Ends (endings.StoreFault (Some taken.fill)))) (Ok (output_of (Fault g (by_job w.number)) [] false))) (sym is)
      (λ leaves made. (
        failed_steps x rows k k' (work_of served) (work_of (at w (phases.Ends (endings.StoreFault (Some taken.fill))))) (SeesPart k.parts w.job.key (phases.Word peer start taken) valid) peer refl refl Valid calls.Commit false
            (λ c told part right sees others f.
            let t = turn_in x rows c part right (Some calls.Commit) others (work_of served) in
            asks_so (takes t f peer (Jobs.GetsWord peer start taken.size) Valid) (quietly (Fault calls.Commit (by_me t)) (Some f)) (calls.Commit ∷ []) (Some calls.Commit) k k'
            (gains_right t f size right (verdict.right k.parts right sees) (verdict.same k.parts right sees)) made)
            tt (λ r time. refl) refl,
        keeps_fault x valid rows k k' served (at w (phases.Ends (endings.StoreFault (Some taken.fill)))) calls.Commit has refl refl leaves refl,
      )) leaves made
  fault_at None call verdict is leaves made =
      subst (λ (g : Call). LeavesBut (Some g) k k' → MakesCalls (g ∷ []) (Some g) k.failing k'.failing → Does {E = NoMemory} x valid rows rows k k' served (at w (phases.Ends (endings.StoreFault (Some taken.fill)))) (Ok (output_of (Fault g (by_job w.number)) [] false))) (sym is)
      (λ leaves made. (
        failed_steps x rows k k' (work_of served) (work_of (at w (phases.Ends (endings.StoreFault (Some taken.fill))))) (SeesPart k.parts w.job.key (phases.Word peer start taken) valid) peer refl refl Valid calls.DropPart false
            (λ c told part right sees others f.
            let t = turn_in x rows c part right (Some calls.DropPart) others (work_of served) in
            asks_so (takes t f peer (Jobs.GetsWord peer start taken.size) Valid) (quietly (Fault calls.DropPart (by_me t)) (Some f)) (calls.DropPart ∷ []) (Some calls.DropPart) k k'
            (gains_wrong t f right (verdict.right k.parts right sees)) made)
            tt (λ r time. refl) refl,
        keeps_fault x valid rows k k' served (at w (phases.Ends (endings.StoreFault (Some taken.fill)))) calls.DropPart has refl refl leaves refl,
      )) leaves made

-- ---- the same of a get that stands so

pub gained_does : (x : Sight) (rows rows' : Rows) (k k' : Seen) (w w' : Getting) (peer start size : ℕ) (taken : Taken) (out : Output) → w.phase ≡ phases.Word peer start taken → IsVerdict taken (Some size)
    → w' ≡ at w (phase_gained (is_move w.job.kind) peer start) → out ≡ output_of (Gain (by_job w.number) size w.job.key) (message_to peer Success) (is_move w.job.kind) → rows'.holds ≡ rows.holds → rows'.bars ≡ rows.bars
    → ((key : List ℕ) → is_filling rows' key ≡ (not (bytes_eq w.job.key key) && is_filling rows key)) → k'.contents ≡ contents_after_commit k.contents k.parts w.job.key
    → k'.parts ≡ option_map (λ p. with_at p w.job.key []) k.parts → LeavesRest None k k' → MakesCalls (calls.Commit ∷ []) None k.failing k'.failing → HasFill rows w → Does {E = NoMemory} x valid rows rows' k k' w w' (Ok out)
gained_does x rows rows' k k' w w' peer start size taken out stands verdict next is holds bars filled contents parts rest made has =
    from_phase x valid rows rows' k k' w w' (phases.Word peer start taken) (Ok out) stands
    (λ given. made_so x valid rows rows' k k' (at w (phases.Word peer start taken)) w' (at w (phase_gained (is_move w.job.kind) peer start)) out
    (output_of (Gain (by_job w.number) size w.job.key) (message_to peer Success) (is_move w.job.kind)) next is
    (gained_at x rows k k' w peer start taken given rows' size (is_move w.job.kind) refl verdict holds bars filled contents parts rest made)) has

pub dropped_does : (x : Sight) (rows : Rows) (k k' : Seen) (w w' : Getting) (peer start : ℕ) (taken : Taken) (out : Output) → w.phase ≡ phases.Word peer start taken → IsVerdict taken None → FailsWith peer sources.Wrong w.version w w'
    → out ≡ output_of (Talk (Some w.number)) (message_to peer Failure) false → IsLine Failure → k'.contents ≡ k.contents → k'.parts ≡ option_map (λ p. with_at p w.job.key []) k.parts → LeavesRest None k k'
    → MakesCalls (calls.DropPart ∷ []) None k.failing k'.failing → HasFill rows w → Does {E = NoMemory} x valid rows rows k k' w w' (Ok out)
dropped_does x rows k k' w w' peer start taken out stands verdict fails is line contents parts rest made has =
    from_phase x valid rows rows k k' w w' (phases.Word peer start taken) (Ok out) stands
    (λ given. made_so x valid rows rows k k' (at w (phases.Word peer start taken)) w' w' out (output_of (Talk (Some w.number)) (message_to peer Failure) false) refl is
    (dropped_at x rows k k' w peer start taken given w' (subst (λ (ph : Phase). FailsWith peer sources.Wrong w.version (at w ph) w') stands fails) verdict line contents parts rest made)) has

pub fault_does : (x : Sight) (rows : Rows) (k k' : Seen) (w w' : Getting) (peer start : ℕ) (taken : Taken) (size : Option ℕ) (call : Call) (out : Output) → w.phase ≡ phases.Word peer start taken → IsVerdict taken size → call ≡ committing size
    → w' ≡ at w (phases.Ends (endings.StoreFault (fill_in w.phase))) → out ≡ output_of (Fault call (by_job w'.number)) [] false → LeavesBut (Some call) k k' → MakesCalls (call ∷ []) (Some call) k.failing k'.failing
    → HasFill rows w → Does {E = NoMemory} x valid rows rows k k' w w' (Ok out)
fault_does x rows k k' w w' peer start taken size call out stands verdict calls_so next is leaves made has =
    from_phase x valid rows rows k k' w w' (phases.Word peer start taken) (Ok out) stands
    (λ given. made_so x valid rows rows k k' (at w (phases.Word peer start taken)) w' (at w (phases.Ends (endings.StoreFault (Some taken.fill)))) out (output_of (Fault call (by_job w.number)) [] false)
    (next ∙ (λ i. at w (phases.Ends (endings.StoreFault (fill_in (stands i)))))) (is ∙ (λ i. output_of (Fault call (by_job (next i).number)) [] false))
    (fault_at x rows k k' w peer start taken given size call verdict calls_so leaves made)) has
