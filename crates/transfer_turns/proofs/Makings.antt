-- That a step makes what is asked in its turn.
use Rattle.std.proofs.Common.{◌≡◌, ℕ, Bool, true, false, List, [], ◌∷◌, ◌++◌, Option, Some, None, refl, sym, ap, subst, ◌∙◌}
use Rattle.std.specs.Prelude.{flat_map, not, ◌&&◌, if◌then◌else◌}
use Rattle.annex_base.proofs.Functions.{funext}
use Rattle.annex_base.specs.declared.kinds.Call.{Call}
use Rattle.run_data.specs.declared.entry.EntryKind.{EntryKind}
use Rattle.run_data.specs.declared.entry.EntryKind.TheVariants.{End, Fault}
use Rattle.run_data.specs.declared.entry.FrameText.TheVariants.{Closing, Line}
use Rattle.run_data.specs.declared.entry.FrameView.{FrameView}
use Rattle.run_data.specs.declared.job.Outcome.{Outcome}
use Rattle.p2p_wire.specs.declared.message.Message.TheVariants.{UnlockContent}
use Rattle.p2p_wire.specs.Messages.{text_of}
use Rattle.node_model.specs.Calls.{to_release}
use Rattle.node_model.specs.Ends.{frames}
use Rattle.node_model.specs.Jobs.{Heard, Work, heard_of, job_end}
use Rattle.node_model.specs.JobStep.{Turn, attempts, by_me, end_with, ends, farewell, farewells, has_lock, is_held, key_of, me, others_of, owns_share, quietly, sends_to, talk}
use Rattle.node_model.specs.Look.{Effect, as_told, failed_in, failing_call, unless}
use Rattle.node_model.specs.Rows.{is_lost_ordered}
use Rattle.content_lock.specs.CallsMade.{MakesCalls}
use Rattle.content_lock.specs.Rows.{Rows}
use Rattle.session_state.specs.declared.incoming.Incoming.{Incoming}
use Rattle.session_state.specs.Talking.{Brings}
use Rattle.node_model.specs.Ends.{takes_at}
use Rattle.drop_phases.specs.declared.phase.Phase.TheVariants as drop_phases
use Rattle.drop_phases.specs.declared.phase.Token.TheVariants as tokens
use Rattle.drop_phases.specs.Doing.{HasToken, next_work}
use Rattle.drop_phases.proofs.Callings.{ends_none, shareless}
use Rattle.transfer_turns.specs.declared.parcels.Output.{Output}
use Rattle.transfer_turns.specs.declared.parcels.ParcelBody.{ParcelBody}
use Rattle.transfer_turns.specs.Parcels.{SendsView, end_in, frames_of, text_in}
use Rattle.transfer_turns.specs.Steps.{Makes, MakesIn, Seen, StepsIn, is_end}
use Rattle.transfer_turns.specs.Turns.{Comes, ComesFrom, Sight, awaited, made_of, output_of, parting_at, partings_at, step_at}
use Rattle.transfer_turns.proofs.Closings.{one_parcel}

-- what a turn has of the repository's sight
abbrev pub sight_of : Turn → Sight
sight_of t = record { repo = me t; count = t.read.count; ends = t.ends }

-- it makes this effect, which is what is asked but for its calls
pub makes_as : (t : Turn) (k k' : Seen) (v' : Work) (taken : Option FrameView) (asked made : Effect) (out : Output) → as_told asked ≡ made → made_of (sight_of t) t.w.slot taken out ≡ made
    → (is_end out.kind ≡ false → v' ≡ next_work t made) → MakesCalls asked.calls (failed_in out.kind) k.failing k'.failing → Makes (sight_of t) k k' t.w v' taken t asked out
makes_as t k k' v' taken asked made out same is next calls = record { effect = is ∙ sym same; next = λ going. next going ∙ sym (ap (next_work t) same); calls = calls }

-- ---- by what it sends

-- nothing
pub quiet_makes : (t : Turn) (k k' : Seen) (v' : Work) (taken : Option FrameView) (asked : Effect) (ended : Bool) → as_told asked ≡ quietly (talk t) taken → v' ≡ next_work t (quietly (talk t) taken)
    → MakesCalls asked.calls None k.failing k'.failing → Makes (sight_of t) k k' t.w v' taken t asked (output_of (talk t) [] ended)
quiet_makes t k k' v' taken asked ended same next calls = makes_as t k k' v' taken asked (quietly (talk t) taken) (output_of (talk t) [] ended) same refl (λ going. next) calls

-- one thing to one peer
pub sends_makes : (t : Turn) (k k' : Seen) (v' : Work) (taken : Option FrameView) (kind : EntryKind) (peer : ℕ) (body : ParcelBody) (asked : Effect) (ended : Bool)
    → as_told asked ≡ sends_to t kind taken peer (text_in body ∷ []) → v' ≡ next_work t (sends_to t kind taken peer (text_in body ∷ [])) → MakesCalls asked.calls (failed_in kind) k.failing k'.failing
    → Makes (sight_of t) k k' t.w v' taken t asked (output_of kind (record { peer = peer; body = body } ∷ []) ended)
sends_makes t k k' v' taken kind peer body asked ended same next calls =
    makes_as t k k' v' taken asked (sends_to t kind taken peer (text_in body ∷ [])) (output_of kind (record { peer = peer; body = body } ∷ []) ended) same
    (λ i. record { kind = kind; taken = taken; sent = one_parcel t.ends t.w.slot (record { peer = peer; body = body }) i; lines = []; calls = [] }) (λ going. next) calls

-- a call of the store failed
pub fault_makes : (t : Turn) (k k' : Seen) (v' : Work) (taken : Option FrameView) (call : Call) (asked : Effect) (ended : Bool)
    → as_told asked ≡ quietly (Fault call (by_me t)) taken → v' ≡ next_work t (quietly (Fault call (by_me t)) taken) → MakesCalls asked.calls (Some call) k.failing k'.failing
    → Makes (sight_of t) k k' t.w v' taken t asked (output_of (Fault call (by_me t)) [] ended)
fault_makes t k k' v' taken call asked ended same next calls =
    makes_as t k k' v' taken asked (quietly (Fault call (by_me t)) taken) (output_of (Fault call (by_me t)) [] ended) same refl (λ going. next) calls

-- ---- at the end

-- a job that has no share of its repository's own content, nor a bar, has no open hold
pub no_share : (t : Turn) (rows : Rows) → t.holds ≡ rows.holds → HasToken t.w.number t.w.what.key tokens.Nothing rows → owns_share t ≡ false
no_share t rows same own =
    subst (λ hs. owns_share (record t { holds = hs }) ≡ false) (sym same)
    (shareless (record { number = t.w.number; slot = t.w.slot; job = t.w.what; version = 0; heard = []; word = None; phase = drop_phases.Fresh; token = tokens.Nothing }) rows tokens.Nothing refl own)

no_lock : (t : Turn) (peer : ℕ) → t.w.heard ≡ [] → has_lock t peer ≡ false
no_lock t peer none = ap (λ (hs : List (ℕ × Heard)). is_held (heard_of (record t.w { heard = hs }) peer)) none

no_farewell : (t : Turn) (lost : Bool) (peer : ℕ) (live : Bool) → has_lock t peer ≡ false → farewell t lost peer live ≡ (if live then Closing ∷ [] else [])
no_farewell t lost peer true none = ap (λ (b : Bool). (if b && not lost then Line (text_of (UnlockContent (key_of t))) ∷ [] else []) ++ Closing ∷ []) none
no_farewell t lost peer false none = refl

farewells_are : (t : Turn) (lost : Bool) → t.w.heard ≡ [] → farewells t lost ≡ partings_at (sight_of t) t.w.slot
farewells_are t lost none =
    ap (λ (g : ℕ → List FrameView). flat_map g (others_of t))
    (funext (λ peer. frames (job_end t.w peer) (end_with t peer) (farewell t lost peer (end_with t peer).opened)) (parting_at (sight_of t) t.w.slot)
    (λ peer. ap (frames (job_end t.w peer) (end_with t peer)) (no_farewell t lost peer (end_with t peer).opened (no_lock t peer none))))

none_fail : (o : Option Call) → failing_call o [] ≡ None
none_fail None = refl
none_fail (Some c) = refl

no_release : (b c : Bool) → b ≡ false → to_release (b && c) ≡ []
no_release b c e = rw e refl

-- the end of a job that has no lock and no open hold closes its connections, and makes no call
pub end_told : (t : Turn) (outcome : Outcome) → owns_share t ≡ false → t.w.heard ≡ []
    → as_told (ends t None outcome) ≡ record { kind = End t.w.number outcome; taken = None; sent = partings_at (sight_of t) t.w.slot; lines = []; calls = [] }
end_told t outcome bare none =
    let last : Effect = record { kind = End t.w.number outcome; taken = None; sent = farewells t (is_lost_ordered outcome); lines = []; calls = [] } in
    ap (λ (cs : List Call). as_told (attempts t cs None last)) (no_release (owns_share t) (not (is_lost_ordered outcome)) bare)
    ∙ (ap (λ (o : Option Call). as_told (unless o (λ call. quietly (Fault call (by_me t)) None) last)) (none_fail t.look.fails)
    ∙ ap (λ (l : List FrameView). record { kind = End t.w.number outcome; taken = None; sent = l; lines = []; calls = [] }) (farewells_are t (is_lost_ordered outcome) none))

pub end_calls : (t : Turn) (outcome : Outcome) → owns_share t ≡ false → (ends t None outcome).calls ≡ []
end_calls t outcome bare = ends_none t None outcome bare

-- this is asked after calls that went well, if any
pub end_makes : (t : Turn) (k k' : Seen) (v' : Work) (asked : Effect) (outcome : Outcome) (sends : SendsView) → owns_share t ≡ false → t.w.heard ≡ []
    → frames_of t.ends t.w.slot sends.items ≡ partings_at (sight_of t) t.w.slot → as_told asked ≡ as_told (ends t None outcome) → MakesCalls asked.calls None k.failing k'.failing
    → Makes (sight_of t) k k' t.w v' None t asked (record { kind = End t.w.number outcome; sends = sends; ended = true })
end_makes t k k' v' asked outcome sends bare none sent same calls =
    makes_as t k k' v' None asked (record { kind = End t.w.number outcome; taken = None; sent = partings_at (sight_of t) t.w.slot; lines = []; calls = [] }) (record { kind = End t.w.number outcome; sends = sends; ended = true })
    (same ∙ end_told t outcome bare none) (ap (λ (l : List FrameView). record { kind = End t.w.number outcome; taken = None; sent = l; lines = []; calls = [] }) sent) (λ going. absurd (cc)) calls

-- ---- the step of a job that is told something

-- what was asked, said otherwise
pub asks_as : (x : Sight) (k k' : Seen) (v v' : Work) (taken : Option FrameView) (t : Turn) (asked same : Effect) (out : Output) → asked ≡ same → Makes x k k' v v' taken t asked out → Makes x k k' v v' taken t same out
asks_as x k k' v v' taken t asked same out is m = subst (λ (e : Effect). Makes x k k' v v' taken t e out) is m

module _ (x : Sight) (rows : Rows) (k k' : Seen) (v v' : Work) (sees : ℕ → Bool → Type 0) (out : Output) where
  -- it awaits no frame
  pub steps_alone : awaited v ≡ None → MakesIn x rows k k' v v' None sees (step_at None None) out → StepsIn x rows k k' v v' None sees out
  steps_alone alone m =
      subst (λ (o : Option ℕ). (f : Option FrameView) → Comes x v.slot o f None → MakesIn x rows k k' v v' f sees (step_at o f) out) (sym alone)
      (λ f comes. subst (λ (g : Option FrameView). MakesIn x rows k k' v v' g sees (step_at None g) out) (sym comes.0) m)

  -- it awaits a frame of this peer
  steps_on : (peer : ℕ) (i : Option Incoming) → awaited v ≡ Some peer → ((f : Option FrameView) → ComesFrom x v.slot peer f i → MakesIn x rows k k' v v' f sees (step_at (Some peer) f) out) → StepsIn x rows k k' v v' i sees out
  steps_on peer i awaits m = subst (λ (o : Option ℕ). (f : Option FrameView) → Comes x v.slot o f i → MakesIn x rows k k' v v' f sees (step_at o f) out) (sym awaits) m

  -- which comes
  pub steps_frame : (peer : ℕ) (i : Incoming) → awaited v ≡ Some peer
      → ((f : FrameView) → takes_at (end_in v.slot peer) f ≡ true → (x.ends (end_in v.slot peer)).opened ≡ true → Brings f.body i → MakesIn x rows k k' v v' (Some f) sees (step_at (Some peer) (Some f)) out)
      → StepsIn x rows k k' v v' (Some i) sees out
  steps_frame peer i awaits m = steps_on peer (Some i) awaits go
    where
      go : (f : Option FrameView) → ComesFrom x v.slot peer f (Some i) → MakesIn x rows k k' v v' f sees (step_at (Some peer) f) out
      go None comes = absurd comes
      go (Some f) comes = m f comes.0 comes.1 comes.3

  -- or doesn't, since the connection was closed here
  pub steps_closed : (peer : ℕ) → awaited v ≡ Some peer → ((x.ends (end_in v.slot peer)).opened ≡ false → MakesIn x rows k k' v v' None sees (step_at (Some peer) None) out) → StepsIn x rows k k' v v' None sees out
  steps_closed peer awaits m = steps_on peer None awaits go
    where
      go : (f : Option FrameView) → ComesFrom x v.slot peer f None → MakesIn x rows k k' v v' f sees (step_at (Some peer) f) out
      go None comes = m comes.1
      go (Some f) comes = absurd comes
