-- A get that takes the bytes of its part.
use Rattle.std.proofs.Common.{◌≡◌, ℕ, ◌+◌, ◌-◌, ◌++◌, ◌≤◌, Bool, true, false, List, [], ◌∷◌, length, Option, Some, None, Ok, refl, sym, ap, subst, ◌∙◌, arith}
use Rattle.std.specs.Prelude.{◌==◌, ◌&&◌, if◌then◌else◌, is_some, nat_le, nat_lt}
use Rattle.std.specs.Option.{option_map}
use Rattle.std.specs.declared.alloc.Global.{Global}
use Rattle.std.specs.declared.vec.Vec.{Vec}
use Rattle.std.proofs.lemmas.Option.{same_Some}
use Rattle.annex_base.specs.declared.kinds.Call.TheVariants as calls
use Rattle.annex_base.specs.declared.memory.NoMemory.{NoMemory}
use Rattle.annex_base.proofs.Conditions.{bytes_eq-refl}
use Rattle.run_data.specs.declared.entry.By.TheVariants.{Job as by_job}
use Rattle.run_data.specs.declared.entry.EntryKind.TheVariants.{Fault, Talk}
use Rattle.run_data.specs.declared.entry.FrameView.{FrameView}
use Rattle.p2p_wire.specs.declared.message.Message.TheVariants.{Data}
use Rattle.object_store.specs.Stores.{AreSmallParts, Parts, with_at}
use Rattle.node_model.specs.Jobs as Jobs
use Rattle.node_model.specs.Jobs.{gets_bytes, gets_more, listens, partner, to_phase}
use Rattle.node_model.specs.Sessions as sessions
use Rattle.node_model.specs.Sessions.{takes_more}
use Rattle.node_model.specs.JobStep.{Turn, attempts, by_me, hears, quietly, talk}
use Rattle.node_model.specs.TransferStep.{takes_bytes}
use Rattle.node_model.specs.Turns.{takes}
use Rattle.content_lock.specs.CallsMade.{MakesCalls}
use Rattle.content_lock.specs.Rows.{Rows}
use Rattle.session_state.proofs.Calling.{makes_none}
use Rattle.session_state.specs.declared.doing.Doing.{Doing}
use Rattle.session_state.specs.declared.doing.Doing.TheVariants as doings
use Rattle.session_state.specs.declared.doing.Taking.{Taking}
use Rattle.session_state.specs.declared.doing.Wanting.{Wanting}
use Rattle.session_state.specs.declared.incoming.Incoming.TheVariants as incoming
use Rattle.session_state.specs.Talking as session_talking
use Rattle.session_state.specs.Talking.{doing_of}
use Rattle.transfer_turns.specs.declared.parcels.Output.{Output}
use Rattle.transfer_turns.specs.Partners.{StaysApart}
use Rattle.transfer_turns.specs.Steps.{LeavesBut, Seen}
use Rattle.transfer_turns.specs.Turns.{Sight, output_of, turn_in}
use Rattle.transfer_turns.proofs.Hearings.{bytes_failed_steps, heard_steps, taken_steps}
use Rattle.transfer_turns.proofs.Partners.{apart_same, gets_with}
use Rattle.get_phases.specs.declared.getting.Ending.TheVariants as endings
use Rattle.get_phases.specs.declared.getting.Getting.{Getting}
use Rattle.get_phases.specs.declared.getting.Phase.{Phase}
use Rattle.get_phases.specs.declared.getting.Phase.TheVariants as phases
use Rattle.get_phases.specs.Getting.{Does}
use Rattle.get_phases.specs.Gets.{HasFill, IsFed, SeesPart, fill_in, phase_of, work_of}
use Rattle.get_phases.proofs.Keeping.{LeavesRest, gets_on, keeps_fault, keeps_filling, keeps_still, nothing_left}
use Rattle.get_phases.proofs.Losses.{asks_so, at, from_phase, made_so}
use Rattle.get_answers.specs.Taking.{GoesOn, IsLonger, IsTaking, phase_with}

-- ---- where it stands

-- in the words of a session's phase
abbrev standing : ℕ → ℕ → sessions.Doing → Jobs.Phase
standing peer start (sessions.Takes key size left) = Jobs.GetsBytes peer start size left
standing peer start (sessions.Took key size) = Jobs.GetsWord peer start size
standing peer start doing = Jobs.Fresh

abbrev filling : sessions.Doing → Option (List ℕ)
filling (sessions.Takes key size left) = Some key
filling (sessions.Took key size) = Some key
filling doing = None

phase_so : (peer start : ℕ) (d : Doing) → phase_of (phase_with peer start d) ≡ standing peer start (doing_of d)
phase_so peer start doings.Waits = refl
phase_so peer start (doings.Guards share) = refl
phase_so peer start (doings.Gives giving) = refl
phase_so peer start doings.Gave = refl
phase_so peer start (doings.Wants wanting) = refl
phase_so peer start (doings.Takes taking) = refl
phase_so peer start (doings.Took taken) = refl

fill_so : (peer start : ℕ) (d : Doing) → fill_in (phase_with peer start d) ≡ filling (doing_of d)
fill_so peer start doings.Waits = refl
fill_so peer start (doings.Guards share) = refl
fill_so peer start (doings.Gives giving) = refl
fill_so peer start doings.Gave = refl
fill_so peer start (doings.Wants wanting) = refl
fill_so peer start (doings.Takes taking) = refl
fill_so peer start (doings.Took taken) = refl

standing_more : (peer start : ℕ) (key : List ℕ) (size left : ℕ) → standing peer start (takes_more key size left) ≡ gets_more peer start size left
standing_more peer start key size left = go (left == 0)
  where
    go : (b : Bool) → standing peer start (if b then sessions.Took key size else sessions.Takes key size left) ≡ (if b then Jobs.GetsWord peer start size else Jobs.GetsBytes peer start size left)
    go true = refl
    go false = refl

filling_more : (key : List ℕ) (size left : ℕ) → filling (takes_more key size left) ≡ Some key
filling_more key size left = go (left == 0)
  where
    go : (b : Bool) → filling (if b then sessions.Took key size else sessions.Takes key size left) ≡ Some key
    go true = refl
    go false = refl

-- it takes bytes, or has taken all
pub takes_on : (d : Doing) (key : List ℕ) (size left : ℕ) → doing_of d ≡ takes_more key size left → IsTaking d
takes_on d key size left is = go d (ap filling is ∙ filling_more key size left)
  where
    go : (d : Doing) → filling (doing_of d) ≡ Some key → IsTaking d
    go doings.Waits e = absurd cc
    go (doings.Guards share) e = absurd cc
    go (doings.Gives giving) e = absurd cc
    go doings.Gave e = absurd cc
    go (doings.Wants wanting) e = absurd cc
    go (doings.Takes taking) e = tt
    go (doings.Took taken) e = tt

pub fed_with : (p : Parts) (peer start : ℕ) (d : Doing) → session_talking.IsFed p d → IsFed p (phase_with peer start d)
fed_with p peer start (doings.Takes taking) fed = fed
fed_with p peer start (doings.Took taken) fed = fed
fed_with p peer start d fed = tt

-- so a get goes on whose part is filled so
pub goes_with : (w w' : Getting) (peer start : ℕ) (d : Doing) (key : List ℕ) (size left : ℕ) → w' ≡ at w (phase_with peer start d) → doing_of d ≡ takes_more key size left → fill_in w.phase ≡ Some key → GoesOn (gets_more peer start size left) w w'
goes_with w w' peer start d key size left is doing has = record {
  rest = is ∙ (λ i. at w (sym is i).phase);
  phase = ap (λ (u : Getting). phase_of u.phase) is ∙ (phase_so peer start d ∙ (ap (standing peer start) doing ∙ standing_more peer start key size left));
  fill = ap (λ (u : Getting). fill_in u.phase) is ∙ (fill_so peer start d ∙ (ap filling doing ∙ (filling_more key size left ∙ sym has)));
}

-- ---- what it leaves and goes on to be

goes_work : (then_at : Jobs.Phase) (w w' : Getting) → is_some (fill_in w.phase) ≡ true → GoesOn then_at w w' → work_of w' ≡ to_phase (work_of w) then_at
goes_work then_at w w' some g =
    ap work_of g.rest
    ∙ (λ i. record (work_of w) { part = (gets_on w'.phase (ap is_some g.fill ∙ some) ∙ sym (gets_on w.phase some)) i; phase = g.phase i; fills = is_some (g.fill i) })

-- it talks with the same peer
goes_apart : (x : Sight) (peer start size left : ℕ) (w w' : Getting) → partner w.job.peer (phase_of w.phase) ≡ Some peer → GoesOn (gets_more peer start size left) w w' → StaysApart x (work_of w) (work_of w')
goes_apart x peer start size left w w' with_peer g =
    apart_same x (work_of w) (work_of w') (ap (λ (ph : Jobs.Phase). partner w'.job.peer ph) g.phase ∙ (gets_with w'.job.peer peer start size left ∙ sym with_peer))

-- ---- DATA

announced_at : (x : Sight) (rows : Rows) (k : Seen) (w w' : Getting) (peer : ℕ) (wanting : Wanting) (n : ℕ) → GoesOn (gets_more peer wanting.size wanting.size n) (at w (phases.Data peer wanting)) w'
    → ((p : Parts) → IsFed p (phases.Data peer wanting) → IsFed p w'.phase) → HasFill rows (at w (phases.Data peer wanting))
    → Does {E = NoMemory} x (Some (incoming.Message (Data n))) rows rows k k (at w (phases.Data peer wanting)) w' (Ok (output_of (Talk (Some w.number)) [] false))
announced_at x rows k w w' peer wanting n goes fed has =
    let u : Getting = at w (phases.Data peer wanting) in (
      heard_steps x rows k k (work_of u) (work_of w') (SeesPart k.parts w.job.key (phases.Data peer wanting) (Some (incoming.Message (Data n)))) peer refl refl (Data n) w.version (λ f l. refl) false
          (λ c told part right s rest f.
          let t = turn_in x rows c part right None rest (work_of u) in
          asks_so (takes t f peer (Jobs.GetsData peer wanting.size) (Data n)) (hears t f) [] None k k refl (makes_none k.failing k.failing refl))
          (goes_work (gets_more peer wanting.size wanting.size n) u w' refl goes),
      keeps_still x (Some (incoming.Message (Data n))) rows k k u w' (Talk (Some w.number)) [] has refl refl refl (ap (λ (g : Getting). g.number) goes.rest) (ap (λ (g : Getting). g.slot) goes.rest) (ap (λ (g : Getting). g.job) goes.rest) goes.fill (nothing_left k) refl
          (λ p is was. fed p was) tt (goes_apart x peer wanting.size wanting.size n u w' refl goes),
    )

pub announced_does : (x : Sight) (rows : Rows) (k : Seen) (w w' : Getting) (peer : ℕ) (wanting : Wanting) (n : ℕ) (out : Output) → w.phase ≡ phases.Data peer wanting → GoesOn (listens (work_of w) (phase_of w.phase) (Data n)).phase w w'
    → ((p : Parts) → IsFed p w.phase → IsFed p w'.phase) → out ≡ output_of (Talk (Some w'.number)) [] false → HasFill rows w → Does {E = NoMemory} x (Some (incoming.Message (Data n))) rows rows k k w w' (Ok out)
announced_does x rows k w w' peer wanting n out stands goes fed is has =
    from_phase x (Some (incoming.Message (Data n))) rows rows k k w w' (phases.Data peer wanting) (Ok out) stands
    (λ given. made_so x (Some (incoming.Message (Data n))) rows rows k k (at w (phases.Data peer wanting)) w' w' out (output_of (Talk (Some w.number)) [] false) refl (is ∙ (λ i. output_of (Talk (Some (goes.rest i).number)) [] false))
    (announced_at x rows k w w' peer wanting n
    (subst (λ (ph : Phase). GoesOn (listens (work_of (at w ph)) (phase_of ph) (Data n)).phase (at w ph) w') stands goes)
    (subst (λ (ph : Phase). (p : Parts) → IsFed p ph → IsFed p w'.phase) stands fed) given)) has

-- ---- a piece

-- it may come
pub may_come : (count n left : ℕ) → count ≡ n → (b : Bool) → b ≡ (nat_lt 0 count && nat_le count left) → (nat_lt 0 n && nat_le n left) ≡ b
may_come count n left same b is = (λ i. nat_lt 0 (sym same i) && nat_le (sym same i) left) ∙ sym is

pub has_left : (n left : ℕ) → (nat_lt 0 n && nat_le n left) ≡ true → n ≤ left
has_left n left e = grind arith

tries_append : (t : Turn) (f : FrameView) (peer n p start size left : ℕ) → (nat_lt 0 n && nat_le n left) ≡ true → takes_bytes t f peer n (Jobs.GetsBytes p start size left) ≡ attempts t (calls.Append ∷ []) (Some f) (quietly (talk t) (Some f))
tries_append t f peer n p start size left e = rw e refl

-- the part has the piece more
longer_at : (peer start : ℕ) (taking : Taking) (known known' : Option Parts) (piece : List ℕ) → known' ≡ option_map (λ p. with_at p taking.fill (p taking.fill ++ piece)) known → AreSmallParts known'
    → (p : Parts) → known ≡ Some p → (p' : Parts) → known' ≡ Some p' → IsLonger (phases.Bytes peer start taking) p p' piece
longer_at peer start taking known known' piece grown small p is p' is' =
    let told : p' ≡ with_at p taking.fill (p taking.fill ++ piece) = same_Some _ _ (sym is' ∙ (grown ∙ ap (option_map (λ (q : Parts). with_at q taking.fill (q taking.fill ++ piece))) is)) in
    let at_key : with_at p taking.fill (p taking.fill ++ piece) taking.fill ≡ p taking.fill ++ piece = rw (bytes_eq-refl taking.fill) refl in
    (ap (λ (q : Parts). q taking.fill) told ∙ at_key, small p' is' taking.fill)

module _ (x : Sight) (rows : Rows) (k k' : Seen) (w : Getting) (peer start : ℕ) (taking : Taking) (bytes : Vec ℕ Global) (fits : (nat_lt 0 (length bytes.items) && nat_le (length bytes.items) taking.left) ≡ true)
    (has : HasFill rows (at w (phases.Bytes peer start taking))) where
  abbrev taker : Getting
  taker = at w (phases.Bytes peer start taking)

  grown_at : (w' : Getting) → GoesOn (gets_bytes (length bytes.items) (Jobs.GetsBytes peer start taking.size taking.left)) taker w'
      → ((p p' : Parts) → IsFed p (phases.Bytes peer start taking) → IsLonger (phases.Bytes peer start taking) p p' bytes.items → IsFed p' w'.phase)
      → k'.contents ≡ k.contents → k'.parts ≡ option_map (λ p. with_at p taking.fill (p taking.fill ++ bytes.items)) k.parts → AreSmallParts k'.parts → LeavesRest None k k' → MakesCalls (calls.Append ∷ []) None k.failing k'.failing
      → Does {E = NoMemory} x (Some (incoming.Bytes bytes)) rows rows k k' taker w' (Ok (output_of (Talk (Some w.number)) [] false))
  grown_at w' goes fed contents grown small rest made = (
    taken_steps x rows k k' (work_of taker) (work_of w') (SeesPart k.parts w.job.key (phases.Bytes peer start taking) (Some (incoming.Bytes bytes))) peer refl refl bytes false
        (λ c told part right s others f.
        let t = turn_in x rows c part right None others (work_of taker) in
        asks_so (takes_bytes t f peer (length bytes.items) (Jobs.GetsBytes peer start taking.size taking.left)) (hears t f) (calls.Append ∷ []) None k k'
        (tries_append t f peer (length bytes.items) peer start taking.size taking.left fits) made)
        (goes_work (gets_bytes (length bytes.items) (Jobs.GetsBytes peer start taking.size taking.left)) taker w' refl goes),
    keeps_filling x (Some (incoming.Bytes bytes)) rows k k' taker w' (Talk (Some w.number)) [] has refl refl refl (ap (λ (g : Getting). g.number) goes.rest) (ap (λ (g : Getting). g.slot) goes.rest) (ap (λ (g : Getting). g.job) goes.rest) goes.fill contents rest
        (grown ∙ (λ i. if sym fits i then option_map (λ p. with_at p taking.fill (p taking.fill ++ bytes.items)) k.parts else k.parts))
        (λ p is was p' is'. fed p p' was (longer_at peer start taking k.parts k'.parts bytes.items grown small p is p' is')) (λ was. small) tt
        (goes_apart x peer start (taking.size + length bytes.items) (taking.left - length bytes.items) taker w' refl goes),
  )

  ungrown_at : LeavesBut (Some calls.Append) k k' → MakesCalls (calls.Append ∷ []) (Some calls.Append) k.failing k'.failing
      → Does {E = NoMemory} x (Some (incoming.Bytes bytes)) rows rows k k' taker (at w (phases.Ends (endings.StoreFault (Some taking.fill)))) (Ok (output_of (Fault calls.Append (by_job w.number)) [] false))
  ungrown_at leaves made = (
    bytes_failed_steps x rows k k' (work_of taker) (work_of (at w (phases.Ends (endings.StoreFault (Some taking.fill))))) (SeesPart k.parts w.job.key (phases.Bytes peer start taking) (Some (incoming.Bytes bytes))) peer refl refl bytes calls.Append false
        (λ c told part right s others f.
        let t = turn_in x rows c part right (Some calls.Append) others (work_of taker) in
        asks_so (takes_bytes t f peer (length bytes.items) (Jobs.GetsBytes peer start taking.size taking.left)) (quietly (Fault calls.Append (by_me t)) (Some f)) (calls.Append ∷ []) (Some calls.Append) k k'
        (tries_append t f peer (length bytes.items) peer start taking.size taking.left fits) made)
        tt (λ r time. refl) refl,
    keeps_fault x (Some (incoming.Bytes bytes)) rows k k' taker (at w (phases.Ends (endings.StoreFault (Some taking.fill)))) calls.Append has refl refl leaves refl,
  )

pub grown_does : (x : Sight) (rows : Rows) (k k' : Seen) (w w' : Getting) (peer start : ℕ) (taking : Taking) (bytes : Vec ℕ Global) (out : Output) → w.phase ≡ phases.Bytes peer start taking
    → (nat_lt 0 (length bytes.items) && nat_le (length bytes.items) taking.left) ≡ true → GoesOn (gets_bytes (length bytes.items) (phase_of w.phase)) w w'
    → ((p p' : Parts) → IsFed p w.phase → IsLonger w.phase p p' bytes.items → IsFed p' w'.phase) → out ≡ output_of (Talk (Some w'.number)) [] false
    → k'.contents ≡ k.contents → k'.parts ≡ option_map (λ p. with_at p taking.fill (p taking.fill ++ bytes.items)) k.parts → AreSmallParts k'.parts → LeavesRest None k k' → MakesCalls (calls.Append ∷ []) None k.failing k'.failing
    → HasFill rows w → Does {E = NoMemory} x (Some (incoming.Bytes bytes)) rows rows k k' w w' (Ok out)
grown_does x rows k k' w w' peer start taking bytes out stands fits goes fed is contents grown small rest made has =
    from_phase x (Some (incoming.Bytes bytes)) rows rows k k' w w' (phases.Bytes peer start taking) (Ok out) stands
    (λ given. made_so x (Some (incoming.Bytes bytes)) rows rows k k' (at w (phases.Bytes peer start taking)) w' w' out (output_of (Talk (Some w.number)) [] false) refl (is ∙ (λ i. output_of (Talk (Some (goes.rest i).number)) [] false))
    (grown_at x rows k k' w peer start taking bytes fits given w'
    (subst (λ (ph : Phase). GoesOn (gets_bytes (length bytes.items) (phase_of ph)) (at w ph) w') stands goes)
    (subst (λ (ph : Phase). (p p' : Parts) → IsFed p ph → IsLonger ph p p' bytes.items → IsFed p' w'.phase) stands fed) contents grown small rest made)) has

pub ungrown_does : (x : Sight) (rows : Rows) (k k' : Seen) (w w' : Getting) (peer start : ℕ) (taking : Taking) (bytes : Vec ℕ Global) (out : Output) → w.phase ≡ phases.Bytes peer start taking
    → (nat_lt 0 (length bytes.items) && nat_le (length bytes.items) taking.left) ≡ true → w' ≡ at w (phases.Ends (endings.StoreFault (fill_in w.phase))) → out ≡ output_of (Fault calls.Append (by_job w'.number)) [] false
    → LeavesBut (Some calls.Append) k k' → MakesCalls (calls.Append ∷ []) (Some calls.Append) k.failing k'.failing → HasFill rows w → Does {E = NoMemory} x (Some (incoming.Bytes bytes)) rows rows k k' w w' (Ok out)
ungrown_does x rows k k' w w' peer start taking bytes out stands fits next is leaves made has =
    from_phase x (Some (incoming.Bytes bytes)) rows rows k k' w w' (phases.Bytes peer start taking) (Ok out) stands
    (λ given. made_so x (Some (incoming.Bytes bytes)) rows rows k k' (at w (phases.Bytes peer start taking)) w' (at w (phases.Ends (endings.StoreFault (Some taking.fill)))) out (output_of (Fault calls.Append (by_job w.number)) [] false)
    (next ∙ (λ i. at w (phases.Ends (endings.StoreFault (fill_in (stands i)))))) (is ∙ (λ i. output_of (Fault calls.Append (by_job (next i).number)) [] false))
    (ungrown_at x rows k k' w peer start taking bytes fits given leaves made)) has
