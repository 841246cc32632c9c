-- A step that ends the job.
use Rattle.std.proofs.Common.{◌≡◌, ℕ, Bool, true, false, not, List, [], ◌∷◌, filter, map, Option, None, refl, sym, ap, ◌∙◌, subst}
use Rattle.std.specs.Prelude.{◌||◌, if◌then◌else◌, flat_map}
use Rattle.annex_base.specs.declared.kinds.Call.{Call}
use Rattle.run_data.specs.declared.entry.By.{By}
use Rattle.run_data.specs.declared.entry.By.TheVariants.{Job as by_job}
use Rattle.run_data.specs.declared.entry.EntryKind.TheVariants.{End as ends_job}
use Rattle.run_data.specs.declared.entry.FrameView.{FrameView}
use Rattle.run_data.specs.declared.job.DropRefusal.{DropRefusal}
use Rattle.run_data.specs.declared.job.Outcome.{Outcome}
use Rattle.run_data.specs.declared.job.Outcome.TheVariants.{Refused}
use Rattle.drop_phases.specs.declared.phase.Token.TheVariants as tokens
use Rattle.run_data.specs.declared.row.Hold.{Hold}
use Rattle.node_model.specs.Rows.{is_lost_ordered, keep_of, lost_ordered, same_owner}
use Rattle.node_model.specs.Ends.{frames}
use Rattle.node_model.specs.JobStep.{Turn, ends, farewell, farewells, others_of}
use Rattle.node_model.specs.Look.{Effect, as_told}
use Rattle.content_lock.specs.Rows.{AreAfter, Rows, bar_at}
use Rattle.content_lock.specs.Tokens.{Owns, ShareView}
use Rattle.drop_phases.specs.declared.phase.Token.{Token}
use Rattle.drop_phases.specs.declared.turn.Output.{Output}
use Rattle.drop_phases.specs.Sends.{SendsView}
use Rattle.drop_phases.specs.Worker.{Worker}
use Rattle.drop_phases.specs.Working.{Rest, Sight, end_in, frames_of, made_of, end_frames, partings, turn_in}
use Rattle.drop_phases.specs.Doing.{DoesAsAsked, HasToken, is_barring, share_in}

parting_same : (x : Sight) (rows : Rows) (p : List ℕ → Bool) (fails : Option Call) (rest : Rest) (w : Worker) (lost : Bool) (peer : ℕ) (b : Bool)
    → end_frames w lost peer b ≡ farewell (turn_in x rows p fails rest w) lost peer b
parting_same x rows p fails rest w lost peer true = refl
parting_same x rows p fails rest w lost peer false = refl

pub partings_same : (x : Sight) (rows : Rows) (p : List ℕ → Bool) (fails : Option Call) (rest : Rest) (w : Worker) (lost : Bool)
    → partings x.read x.ends w lost ≡ farewells (turn_in x rows p fails rest w) lost
partings_same x rows p fails rest w lost = λ i.
    flat_map (λ peer. frames (end_in w.slot peer) (x.ends (end_in w.slot peer)) (parting_same x rows p fails rest w lost peer (x.ends (end_in w.slot peer)).opened i)) (others_of (turn_in x rows p fails rest w))

-- ---- the rows

-- none of the owner's holds is open
kept_stay : (by : By) (hs : List Hold) → map (keep_of by) hs ≡ hs → filter (λ h. h.kept || not (same_owner h.owner by)) hs ≡ hs
kept_stay by [] e = refl
kept_stay by (h ∷ hs) e =
    let head : keep_of by h ≡ h = cc in
    let tail : map (keep_of by) hs ≡ hs = cc in
    rw (stays (same_owner h.owner by) h.kept refl refl head) (ap (λ (l : List Hold). h ∷ l) (kept_stay by hs tail))
  where
    stays : (same kept : Bool) → same_owner h.owner by ≡ same → h.kept ≡ kept → keep_of by h ≡ h → (h.kept || not (same_owner h.owner by)) ≡ true
    stays true true s k head = rw k refl
    stays true false s k head =
        let one : (if true then record h { kept = true } else h) ≡ h = rw s at head in
        let two : true ≡ h.kept = ap (λ (x : Hold). x.kept) one in
        absurd (let both : true ≡ false = two ∙ k in cc)
    stays false true s k head = rw k refl
    stays false false s k head = rw (k, s) refl

-- the job's bar is off after its end, which leaves no open hold of its own
pub ends_rows : (job : ℕ) (key : List ℕ) (token : Token) (rows rows' : Rows) (outcome : Outcome) → is_lost_ordered outcome ≡ false → share_in token ≡ None → HasToken job key token rows
    → ((k : List ℕ) → bar_at rows' k ≡ (if is_barring token k then None else bar_at rows k)) → rows'.holds ≡ rows.holds → rows'.fills ≡ rows.fills
    → AreAfter (ends_job job outcome) rows rows'
ends_rows job key token rows rows' outcome plain bare own off same filling =
    record {
      holds = same ∙ sym (ap (λ (b : Bool). if b then map (keep_of (by_job job)) rows.holds else filter (λ h. h.kept || not (same_owner h.owner (by_job job))) rows.holds) plain
          ∙ kept_stay (by_job job) rows.holds (subst (λ (o : Option ShareView). Owns (by_job job) o rows.holds) bare own.holds).kept);
      bars = λ k. off k ∙ ap (λ (b : Bool). if b then None else bar_at rows k) (sym (own.bars k));
      fills = filling;
    }

pub ends_does : (x : Sight) (rows rows' : Rows) (p : List ℕ → Bool) (w w' : Worker) (taken : Option FrameView) (asked : Turn → Effect) (outcome : Outcome)
    (sends : SendsView) (out : Output) → out ≡ record { kind = ends_job w.number outcome; sends = sends; ended = true }
    → frames_of x.ends w.slot sends.items ≡ partings x.read x.ends w (is_lost_ordered outcome) → AreAfter (ends_job w.number outcome) rows rows'
    → ((rest : Rest) → as_told (ends (turn_in x rows p None rest w) taken outcome) ≡ as_told (asked (turn_in x rows p None rest w))) → DoesAsAsked x rows rows' p w w' taken asked out
ends_does x rows rows' p w w' taken asked outcome sends out is sent after f =
    subst (λ (o : Output). DoesAsAsked x rows rows' p w w' taken asked o) (sym is) (record {
      makes = λ rest. made rest ∙ f rest;
      next = λ e. absurd (cc);
      after = after;
      whose = refl;
    })
  where
    made : (rest : Rest) → made_of x w taken (record { kind = ends_job w.number outcome; sends = sends; ended = true }) ≡ as_told (ends (turn_in x rows p None rest w) taken outcome)
    made rest = λ i. record { kind = ends_job w.number outcome; taken = taken; sent = (sent ∙ partings_same x rows p None rest w (is_lost_ordered outcome)) i; lines = []; calls = [] }

-- a refusal of a job that has nothing of its row
pub refused_does : (x : Sight) (rows rows' : Rows) (p : List ℕ → Bool) (w w' : Worker) (asked : Turn → Effect) (why : DropRefusal) (sends : SendsView) (out : Output)
    → out ≡ record { kind = ends_job w.number (Refused why); sends = sends; ended = true } → frames_of x.ends w.slot sends.items ≡ partings x.read x.ends w (lost_ordered why) → lost_ordered why ≡ false
    → w.token ≡ tokens.Nothing → HasToken w.number w.job.key w.token rows → rows' ≡ rows
    → ((rest : Rest) → as_told (ends (turn_in x rows p None rest w) None (Refused why)) ≡ as_told (asked (turn_in x rows p None rest w))) → DoesAsAsked x rows rows' p w w' None asked out
refused_does x rows rows' p w w' asked why sends out is sent plain bare own same f =
    ends_does x rows rows' p w w' None asked (Refused why) sends out is sent
    (ends_rows w.number w.job.key w.token rows rows' (Refused why) plain (ap share_in bare) own
    (λ k. ap (λ (r : Rows). bar_at r k) same ∙ ap (λ (t : Token). if is_barring t k then None else bar_at rows k) (sym bare)) (ap (λ (r : Rows). r.holds) same) (ap (λ (r : Rows). r.fills) same)) f
