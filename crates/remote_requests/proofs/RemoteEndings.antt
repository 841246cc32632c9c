-- The ends of a remote drop, and what they leave.
use Rattle.std.proofs.Common.{◌≡◌, ◌≤◌, inl, ℕ, Bool, true, false, not, List, [], ◌∷◌, map, filter, Option, Some, None, Ok, refl, sym, ap, ◌∙◌, subst}
use Rattle.std.specs.Prelude.{◌==◌, ◌&&◌, ◌||◌, find, if◌then◌else◌}
use Rattle.std.specs.List.{list_any}
use Rattle.std.specs.Option.{option_map}
use Rattle.annex_base.specs.Causes.{Rose}
use Rattle.annex_base.proofs.Conditions.{eqb_refl}
use Rattle.annex_base.specs.declared.kinds.Call.TheVariants as calls
use Rattle.run_data.specs.declared.entry.By.{By}
use Rattle.run_data.specs.declared.entry.By.TheVariants.{Job as by_job}
use Rattle.run_data.specs.declared.entry.EntryKind.{EntryKind}
use Rattle.run_data.specs.declared.entry.EntryKind.TheVariants.{Fault, Release, End as ends_job}
use Rattle.run_data.specs.declared.entry.FrameView.{FrameView}
use Rattle.run_data.specs.declared.job.Outcome.{Outcome}
use Rattle.run_data.specs.declared.row.Hold.{Hold}
use Rattle.object_store.specs.declared.keeper.HoldRecord.{HoldRecord}
use Rattle.node_model.specs.Ends.{End, EndName}
use Rattle.node_model.specs.Jobs.{after_failed_release}
use Rattle.node_model.specs.JobStep.{Turn, by_me, ends, owns_share, quietly}
use Rattle.node_model.specs.Knows.{Reading}
use Rattle.node_model.specs.Rows.{is_lost_ordered, keep_of, same_owner}
use Rattle.node_model.specs.Slots.{job_of}
use Rattle.node_model.specs.Look.{as_told, failed_in}
use Rattle.content_lock.specs.Rows.{AreAfter, Rows, bar_at}
use Rattle.content_lock.specs.Stored.{Agrees, label_of}
use Rattle.content_lock.specs.Tokens.{HasShare, Owns, ShareView, share_of, without_open}
use Rattle.drop_phases.specs.declared.phase.Phase.{Phase}
use Rattle.drop_phases.specs.declared.phase.Phase.TheVariants as phases
use Rattle.drop_phases.specs.declared.phase.Token.TheVariants as tokens
use Rattle.drop_phases.specs.declared.turn.Output.{Output}
use Rattle.drop_phases.specs.Sends.{SendsView}
use Rattle.drop_phases.specs.Worker.{Worker}
use Rattle.drop_phases.specs.Working.{Rest, frames_of, partings, phase_as, sight, turn_in, work_of}
use Rattle.drop_phases.specs.Doing.{HasToken, OthersStay, next_work}
use Rattle.drop_phases.specs.Leaving.{Store}
use Rattle.drop_phases.specs.Feeding.{FitsRemote}
use Rattle.remote_requests.specs.Remote.{DidRemote, EndsSo, FailsToRelease, unreleased_phase}
use Rattle.drop_phases.proofs.Endings.{ends_does, ends_rows}
use Rattle.remote_requests.proofs.RemoteLeavings.{leaves_remote}
use Rattle.drop_phases.proofs.Tokens.{others_same, others_share, owns_after_share}

-- ---- the rows after an end

-- of a job that lost an order and has no share
lost_rows : (job : ℕ) (key : List ℕ) (rows rows' : Rows) (outcome : Outcome) → is_lost_ordered outcome ≡ true → HasToken job key tokens.Nothing rows → rows' ≡ rows → AreAfter (ends_job job outcome) rows rows'
lost_rows job key rows rows' outcome lost own same = subst (λ (q : Rows). AreAfter (ends_job job outcome) rows q) (sym same) (record {
  holds = sym (ap (λ (b : Bool). if b then map (keep_of (by_job job)) rows.holds else filter (λ h. h.kept || not (same_owner h.owner (by_job job))) rows.holds) lost ∙ own.holds.kept);
  bars = λ k. sym (ap (λ (b : Bool). if b then None else bar_at rows k) (own.bars k));
  fills = refl;
})

-- of a job that lost an order, whose share is kept
kept_rows : (job : ℕ) (key : List ℕ) (share : ShareView) (rows rows' : Rows) (outcome : Outcome) → is_lost_ordered outcome ≡ true → HasToken job key (tokens.Share share) rows
    → AreAfter (Fault calls.Unhold share.owner) rows rows' → AreAfter (ends_job job outcome) rows rows'
kept_rows job key share rows rows' outcome lost own after = record {
  holds = after.holds ∙ (ap (λ (by : By). map (keep_of by) rows.holds) own.holds.owner
      ∙ sym (ap (λ (b : Bool). if b then map (keep_of (by_job job)) rows.holds else filter (λ h. h.kept || not (same_owner h.owner (by_job job))) rows.holds) lost));
  bars = λ k. after.bars k ∙ sym (ap (λ (b : Bool). if b then None else bar_at rows k) (own.bars k));
  fills = after.fills;
}

-- of a job whose share is released
released_rows : (job : ℕ) (key : List ℕ) (share : ShareView) (rows rows' : Rows) (outcome : Outcome) → is_lost_ordered outcome ≡ false → HasToken job key (tokens.Share share) rows
    → AreAfter (Release share.number share.key) rows rows' → (Owns share.owner (Some share) rows.holds → rows'.holds ≡ without_open share.owner rows.holds) → AreAfter (ends_job job outcome) rows rows'
released_rows job key share rows rows' outcome plain own after ended = record {
  holds = ended (subst (λ (by : By). Owns by (Some share) rows.holds) (sym own.holds.owner) own.holds) ∙ (ap (λ (by : By). without_open by rows.holds) own.holds.owner
      ∙ sym (ap (λ (b : Bool). if b then map (keep_of (by_job job)) rows.holds else filter (λ h. h.kept || not (same_owner h.owner (by_job job))) rows.holds) plain));
  bars = λ k. after.bars k ∙ sym (ap (λ (b : Bool). if b then None else bar_at rows k) (own.bars k));
  fills = after.fills;
}

-- ---- the job ends

ended_did : (read : Reading) (ends_at : EndName → End) (time : ℕ) (rows rows' : Rows) (k k' : Store) (w w' : Worker) (outcome : Outcome) (sends : SendsView) (out : Output)
    → out ≡ record { kind = ends_job w.number outcome; sends = sends; ended = true } → frames_of ends_at w.slot sends.items ≡ partings read ends_at w (is_lost_ordered outcome)
    → w' ≡ record w { token = tokens.Nothing } → AreAfter (ends_job w.number outcome) rows rows' → HasToken w.number w.job.key tokens.Nothing rows' → OthersStay w.number rows rows'
    → k'.contents ≡ k.contents → Agrees k'.records rows'.holds → k.faults ≤ k'.faults → DidRemote rows rows' k k' w w' (EndsSo read ends_at time rows rows' w w' outcome) (Ok out)
ended_did read ends_at time rows rows' k k' w w' outcome sends out is sent next after bare others contents agrees later = (
  λ number p taken. ends_does (sight read ends_at time number) rows rows' p w w' taken (λ t. ends t taken outcome) outcome sends out is sent after (λ rest. refl),
  leaves_remote rows rows' k k' w (record w { token = tokens.Nothing }) w' (ends_job w.number outcome) out (ap (λ (o : Output). o.kind) is) next after contents agrees later tt bare
      (λ going. absurd (let both : true ≡ false = sym (ap (λ (o : Output). o.ended) is) ∙ going in cc)) (inl refl) refl refl others,
)

-- the records are still those of the holds, where no number and no key changed
pub agrees_still : (records : Option (List HoldRecord)) (rows rows' : Rows) → map label_of rows'.holds ≡ map label_of rows.holds → Agrees records rows.holds → Agrees records rows'.holds
agrees_still records rows rows' labels agrees rs is = agrees rs is ∙ sym labels

-- the owner's share, as the owner's
own_of : (job : ℕ) (key : List ℕ) (share : ShareView) (rows : Rows) → HasToken job key (tokens.Share share) rows → Owns share.owner (Some share) rows.holds
own_of job key share rows own = subst (λ (by : By). Owns by (Some share) rows.holds) (sym own.holds.owner) own.holds

abbrev pub KeepsOthers : ShareView → Rows → Rows → Type 0
KeepsOthers share rows rows' = (by : By) (other : Option ShareView) → same_owner share.owner by ≡ false → Owns by other rows.holds → Owns by other rows'.holds

module _ (read : Reading) (ends_at : EndName → End) (time : ℕ) (rows rows' : Rows) (k k' : Store) (w w' : Worker) (outcome : Outcome) (sends : SendsView) (out : Output)
    (is : out ≡ record { kind = ends_job w.number outcome; sends = sends; ended = true }) (sent : frames_of ends_at w.slot sends.items ≡ partings read ends_at w (is_lost_ordered outcome))
    (next : w' ≡ record w { token = tokens.Nothing }) (contents : k'.contents ≡ k.contents) (agrees : Agrees k'.records rows'.holds) (later : k.faults ≤ k'.faults) where
  -- it had nothing
  pub bare_did : HasToken w.number w.job.key tokens.Nothing rows → rows' ≡ rows → DidRemote rows rows' k k' w w' (EndsSo read ends_at time rows rows' w w' outcome) (Ok out)
  bare_did own same =
      ended_did read ends_at time rows rows' k k' w w' outcome sends out is sent next (go (is_lost_ordered outcome) refl) (subst (λ (q : Rows). HasToken w.number w.job.key tokens.Nothing q) (sym same) own)
      (others_same w.number rows rows' same) contents agrees later
    where
      go : (b : Bool) → is_lost_ordered outcome ≡ b → AreAfter (ends_job w.number outcome) rows rows'
      go true lost = lost_rows w.number w.job.key rows rows' outcome lost own same
      go false plain = ends_rows w.number w.job.key tokens.Nothing rows rows' outcome plain refl own (λ q. ap (λ (r : Rows). bar_at r q) same) (ap (λ (r : Rows). r.holds) same) (ap (λ (r : Rows). r.fills) same)

  -- it lost an order, and its share is kept
  pub lost_did : (share : ShareView) → HasToken w.number w.job.key (tokens.Share share) rows → is_lost_ordered outcome ≡ true → (Owns share.owner (Some share) rows.holds → AreAfter (Fault calls.Unhold share.owner) rows rows')
      → (Owns share.owner (Some share) rows.holds → Owns share.owner None rows'.holds) → KeepsOthers share rows rows' → DidRemote rows rows' k k' w w' (EndsSo read ends_at time rows rows' w w' outcome) (Ok out)
  lost_did share own lost after gives keeps =
      let changed = after (own_of w.number w.job.key share rows own) in
      ended_did read ends_at time rows rows' k k' w w' outcome sends out is sent next (kept_rows w.number w.job.key share rows rows' outcome lost own changed)
      (owns_after_share w.number share w.job.key rows rows' changed.bars gives own) (others_share w.number share w.job.key rows rows' changed.bars own keeps) contents agrees later

  -- its share is released
  pub released_did : (share : ShareView) → HasToken w.number w.job.key (tokens.Share share) rows → is_lost_ordered outcome ≡ false → AreAfter (Release share.number share.key) rows rows'
      → (Owns share.owner (Some share) rows.holds → rows'.holds ≡ without_open share.owner rows.holds) → (Owns share.owner (Some share) rows.holds → Owns share.owner None rows'.holds) → KeepsOthers share rows rows'
      → DidRemote rows rows' k k' w w' (EndsSo read ends_at time rows rows' w w' outcome) (Ok out)
  released_did share own plain after ended gives keeps =
      ended_did read ends_at time rows rows' k k' w w' outcome sends out is sent next (released_rows w.number w.job.key share rows rows' outcome plain own after ended)
      (owns_after_share w.number share w.job.key rows rows' after.bars gives own) (others_share w.number share w.job.key rows rows' after.bars own keeps) contents agrees later

-- ---- the share that couldn't be released

-- a share is an open hold of its owner's
pub open_there : (hs : List Hold) (share : ShareView) (by : By) → HasShare hs share → share.owner ≡ by → same_owner by by ≡ true → list_any (λ h. same_owner h.owner by && not h.kept) hs ≡ true
open_there [] share by has mine itself = absurd (cc)
open_there (h ∷ hs) share by has mine itself = go ((h.number == share.number) && not h.kept) refl has (λ later. open_there hs share by later mine itself)
  where
    or_true : (b : Bool) → (b || true) ≡ true
    or_true true = refl
    or_true false = refl

    right : (a b : Bool) → (a && b) ≡ true → b ≡ true
    right true b e = e
    right false b e = absurd (cc)

    some_is : (s t : ShareView) → Some s ≡ Some t → s ≡ t
    some_is s t e = cc

    go : (b : Bool) → ((h.number == share.number) && not h.kept) ≡ b → option_map share_of (if b then Some h else find (λ x. (x.number == share.number) && not x.kept) hs) ≡ Some share
        → (HasShare hs share → list_any (λ x. same_owner x.owner by && not x.kept) hs ≡ true) → list_any (λ x. same_owner x.owner by && not x.kept) (h ∷ hs) ≡ true
    go true e is ih =
        let owner : h.owner ≡ by = ap (λ (s : ShareView). s.owner) (some_is (share_of h) share is) ∙ mine in
        let unkept : not h.kept ≡ true = right (h.number == share.number) (not h.kept) e in
        (λ i. (same_owner (owner i) by && unkept i) || list_any (λ x. same_owner x.owner by && not x.kept) hs) ∙ ap (λ (b : Bool). (b && true) || list_any (λ x. same_owner x.owner by && not x.kept) hs) itself
    go false e is ih =
        ap (λ (b : Bool). (same_owner h.owner by && not h.kept) || b) (ih is) ∙ or_true (same_owner h.owner by && not h.kept)

release_fails : (t : Turn) (taken : Option FrameView) (outcome : Outcome) → t.look.fails ≡ Some calls.Unhold → owns_share t ≡ true → is_lost_ordered outcome ≡ false → as_told (ends t taken outcome) ≡ quietly (Fault calls.Unhold (by_me t)) taken
release_fails t taken outcome fails owns plain = rw (fails, owns, plain) refl

phase_after : (rest : Rest) (w : Worker) (time : ℕ) (ph : Phase) → w.phase ≡ ph → work_of rest (record w { phase = unreleased_phase time ph }) ≡ after_failed_release (work_of rest w) time (phase_as ph)
phase_after rest w time phases.AsksTime is = refl
phase_after rest w time phases.Fresh is = ap (λ (ph : Phase). work_of rest (record w { phase = ph })) (sym is)
phase_after rest w time phases.Next is = ap (λ (ph : Phase). work_of rest (record w { phase = ph })) (sym is)
phase_after rest w time (phases.Opens peer) is = ap (λ (ph : Phase). work_of rest (record w { phase = ph })) (sym is)
phase_after rest w time (phases.Greets peer) is = ap (λ (ph : Phase). work_of rest (record w { phase = ph })) (sym is)
phase_after rest w time (phases.AsksLock peer since) is = ap (λ (ph : Phase). work_of rest (record w { phase = ph })) (sym is)
phase_after rest w time (phases.AsksLook peer) is = ap (λ (ph : Phase). work_of rest (record w { phase = ph })) (sym is)
phase_after rest w time phases.Orders is = ap (λ (ph : Phase). work_of rest (record w { phase = ph })) (sym is)
phase_after rest w time phases.Removed is = ap (λ (ph : Phase). work_of rest (record w { phase = ph })) (sym is)
phase_after rest w time phases.Denied is = ap (λ (ph : Phase). work_of rest (record w { phase = ph })) (sym is)
phase_after rest w time (phases.Late late) is = ap (λ (ph : Phase). work_of rest (record w { phase = ph })) (sym is)
phase_after rest w time (phases.Ends why) is = ap (λ (ph : Phase). work_of rest (record w { phase = ph })) (sym is)

-- a job that has nothing of its row is at any phase
bare_fits : (ph : Phase) → FitsRemote ph tokens.Nothing
bare_fits phases.Fresh = tt
bare_fits phases.Next = tt
bare_fits (phases.Opens peer) = tt
bare_fits (phases.Greets peer) = tt
bare_fits (phases.AsksLock peer since) = tt
bare_fits (phases.AsksLook peer) = tt
bare_fits phases.AsksTime = tt
bare_fits phases.Orders = tt
bare_fits phases.Removed = tt
bare_fits phases.Denied = tt
bare_fits (phases.Late late) = tt
bare_fits (phases.Ends why) = tt

unreleased_did : (read : Reading) (ends_at : EndName → End) (time : ℕ) (rows rows' : Rows) (k k' : Store) (w v w' : Worker) (share : ShareView) (outcome : Outcome) (out : Output)
    → v ≡ record w { token = tokens.Nothing } → FailsToRelease time v w' out → is_lost_ordered outcome ≡ false → HasToken w.number w.job.key (tokens.Share share) rows
    → (Owns share.owner (Some share) rows.holds → AreAfter (Fault calls.Unhold share.owner) rows rows') → HasToken w.number w.job.key tokens.Nothing rows' → OthersStay w.number rows rows'
    → k'.contents ≡ k.contents → Agrees k'.records rows'.holds → k.faults ≤ k'.faults → Rose k.faults k'.faults → DidRemote rows rows' k k' w w' (EndsSo read ends_at time rows rows' w w' outcome) (Ok out)
unreleased_did read ends_at time rows rows' k k' w v w' share outcome out is u plain own after bare others contents agrees later rose = (
  λ number p taken. record {
    makes = λ rest. (λ i. record { kind = kind i; taken = taken; sent = frames_of ends_at w.slot (u.sends i); lines = []; calls = [] })
        ∙ (sym (made number p taken rest) ∙ ap (λ (e : EntryKind). as_told (ends (turn_in (sight read ends_at time number) rows p (failed_in e) rest w) taken outcome)) (sym kind));
    next = λ going rest. ap (work_of rest) next ∙ (phase_after rest w time w.phase refl
        ∙ (ap (next_work (turn_in (sight read ends_at time number) rows p (Some calls.Unhold) rest w)) (sym (made number p taken rest))
        ∙ ap (λ (e : EntryKind). next_work (turn_in (sight read ends_at time number) rows p (failed_in e) rest w) (ends (turn_in (sight read ends_at time number) rows p (failed_in e) rest w) taken outcome)) (sym kind)));
    after = subst (λ (e : EntryKind). AreAfter e rows rows') (sym kind) row_after;
    whose = ap job_of kind;
  },
  leaves_remote rows rows' k k' w (record w { phase = unreleased_phase time w.phase; token = tokens.Nothing }) w' (Fault calls.Unhold (by_job w.number)) out kind next row_after contents agrees later rose bare
      (λ going. bare_fits (unreleased_phase time w.phase)) (inl refl) refl refl others,
)
  where
    kind : out.kind ≡ Fault calls.Unhold (by_job w.number)
    kind = u.kind ∙ ap (λ (q : Worker). Fault calls.Unhold (by_job q.number)) is

    next : w' ≡ record w { phase = unreleased_phase time w.phase; token = tokens.Nothing }
    next = u.next ∙ ap (λ (q : Worker). record q { phase = unreleased_phase time q.phase }) is

    row_after : AreAfter (Fault calls.Unhold (by_job w.number)) rows rows'
    row_after = subst (λ (by : By). AreAfter (Fault calls.Unhold by) rows rows') own.holds.owner (after (subst (λ (by : By). Owns by (Some share) rows.holds) (sym own.holds.owner) own.holds))

    made : (number : ℕ) (p : List ℕ → Bool) (taken : Option FrameView) (rest : Rest)
        → as_told (ends (turn_in (sight read ends_at time number) rows p (Some calls.Unhold) rest w) taken outcome) ≡ quietly (Fault calls.Unhold (by_job w.number)) taken
    made number p taken rest =
        release_fails (turn_in (sight read ends_at time number) rows p (Some calls.Unhold) rest w) taken outcome refl (open_there rows.holds share (by_job w.number) own.holds.given own.holds.owner (eqb_refl w.number)) plain

-- the release failed, and left all as it was
pub failed_did : (read : Reading) (ends_at : EndName → End) (time : ℕ) (rows was rows' : Rows) (k k' : Store) (w v w' : Worker) (share back : ShareView) (outcome : Outcome) (out : Output)
    → was ≡ rows → back ≡ share → HasToken w.number w.job.key (tokens.Share share) rows → v ≡ record w { token = tokens.Nothing } → FailsToRelease time v w' out → is_lost_ordered outcome ≡ false
    → (Owns back.owner (Some back) was.holds → AreAfter (Fault calls.Unhold back.owner) was rows') → (Owns back.owner (Some back) was.holds → Owns back.owner None rows'.holds) → KeepsOthers back was rows'
    → map label_of rows'.holds ≡ map label_of was.holds → k'.contents ≡ k.contents → Agrees k'.records was.holds → k.faults ≤ k'.faults → Rose k.faults k'.faults
    → DidRemote rows rows' k k' w w' (EndsSo read ends_at time rows rows' w w' outcome) (Ok out)
failed_did read ends_at time rows was rows' k k' w v w' share back outcome out same given own is u plain after gives keeps labels contents agrees later rose =
    subst (λ (q : Rows). DidRemote q rows' k k' w w' (EndsSo read ends_at time q rows' w w' outcome) (Ok out)) same
    (unreleased_did read ends_at time was rows' k k' w v w' back outcome out is u plain owned after (owns_after_share w.number back w.job.key was rows' changed.bars gives owned)
    (others_share w.number back w.job.key was rows' changed.bars owned keeps) contents (agrees_still k'.records was rows' labels agrees) later rose)
  where
    owned : HasToken w.number w.job.key (tokens.Share back) was
    owned = subst (λ (q : Rows). HasToken w.number w.job.key (tokens.Share back) q) (sym same) (subst (λ (s : ShareView). HasToken w.number w.job.key (tokens.Share s) rows) (sym given) own)

    changed : AreAfter (Fault calls.Unhold back.owner) was rows'
    changed = after (own_of w.number w.job.key back was owned)
