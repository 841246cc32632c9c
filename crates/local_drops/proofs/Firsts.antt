-- The first step of a local drop: its bar, or the refusal by its row, or since its repository requires the content.
use Rattle.std.proofs.Common.{◌≡◌, ◌≤◌, ℕ, true, false, List, [], filter, Option, Some, None, Result, Ok, Err, refl, sym, ap, ◌∙◌, subst}
use Rattle.annex_base.specs.Causes.{Rose}
use Rattle.annex_base.specs.declared.kinds.Call.TheVariants as calls
use Rattle.annex_base.specs.declared.memory.NoMemory.{NoMemory}
use Rattle.drop_proof.specs.declared.rule.Need.{Need}
use Rattle.drop_proof.specs.declared.rule.Side.{Side}
use Rattle.drop_proof.specs.declared.rule.Side.TheVariants.{Local}
use Rattle.run_data.specs.declared.entry.By.TheVariants.{Job as by_job}
use Rattle.run_data.specs.declared.entry.EntryKind.TheVariants.{Bar, Fault, End as ends_job}
use Rattle.run_data.specs.declared.job.DropRefusal.{DropRefusal}
use Rattle.run_data.specs.declared.job.DropRefusal.TheVariants as refusals
use Rattle.run_data.specs.declared.job.Outcome.TheVariants.{Refused}
use Rattle.run_data.specs.declared.row.Hold.{Hold}
use Rattle.object_store.specs.Stores.{Contents}
use Rattle.node_model.specs.Jobs.{Drops, drop_side, fault_phase}
use Rattle.node_model.specs.Rows.{blocks, lost_ordered}
use Rattle.node_model.specs.JobStep.{Turn, bar_there, ends, is_there, key_of, quietly}
use Rattle.node_model.specs.Look.{as_told}
use Rattle.node_model.specs.DropStep.{first_drop, first_local, held_until, need_now, required_there}
use Rattle.content_lock.specs.Looks.{IsFree, NotBarred}
use Rattle.content_lock.specs.Rows.{AreAfter, Rows, bar_at}
use Rattle.content_lock.specs.Stored.{HasContent}
use Rattle.content_lock.specs.Tokens.{BarView}
use Rattle.content_lock.specs.declared.refusals.BarRefused.{BarRefused}
use Rattle.content_lock.specs.declared.refusals.BarRefused.TheVariants as barred
use Rattle.drop_phases.specs.declared.phase.Ending.TheVariants as endings
use Rattle.drop_phases.specs.declared.phase.Phase.TheVariants as phases
use Rattle.drop_phases.specs.declared.phase.Token.{Token}
use Rattle.drop_phases.specs.declared.phase.Token.TheVariants as tokens
use Rattle.drop_phases.specs.declared.turn.Output.{Output}
use Rattle.drop_phases.specs.Sends.{SendsView}
use Rattle.drop_phases.specs.Worker.{Worker}
use Rattle.drop_phases.specs.Working.{Rest, Sight, frames_of, partings, phase_as, present_in, turn_in, work_of}
use Rattle.drop_phases.specs.Doing.{HasToken}
use Rattle.drop_phases.specs.Feeding.{IsOfLocal}
use Rattle.drop_phases.specs.Leaving.{ActsOver, Did, Fails, GoesSo, IsRefusal, Store, FollowsBarRefused}
use Rattle.drop_phases.proofs.Endings.{ends_rows, refused_does}
use Rattle.drop_phases.proofs.Leavings.{goes_did, leaves_so, quiet_does}
use Rattle.local_drops.proofs.Removals.{fault_ends}
use Rattle.drop_phases.proofs.Tokens.{others_bar, others_same, owns_bar}

first_gone : (t : Turn) → t.look.fails ≡ None → is_there t ≡ false → as_told (ends t None (Refused refusals.NotPresent)) ≡ as_told (first_local t)
first_gone t fails gone = rw (fails, gone) refl

first_required : (t : Turn) (text : List ℕ) → t.look.fails ≡ None → required_there t ≡ Some text → is_there t ≡ true → as_told (ends t None (Refused (refusals.Required text))) ≡ as_told (first_local t)
first_required t text fails required there = rw (fails, there, required) refl

first_barred : (t : Turn) (job : ℕ) → t.look.fails ≡ None → required_there t ≡ None → is_there t ≡ true → bar_there t ≡ Some job → as_told (ends t None (Refused (refusals.Barred job))) ≡ as_told (first_local t)
first_barred t job fails free there bar = rw (fails, there, free, bar) refl

first_held : (t : Turn) (end : Option ℕ) → t.look.fails ≡ None → required_there t ≡ None → is_there t ≡ true → bar_there t ≡ None → held_until t ≡ Some end → as_told (ends t None (Refused (refusals.Held end))) ≡ as_told (first_local t)
first_held t end fails free there bar held = rw (fails, there, free, bar, held) refl

first_free : (t : Turn) → t.look.fails ≡ None → required_there t ≡ None → is_there t ≡ true → bar_there t ≡ None → held_until t ≡ None → as_told (first_local t) ≡ quietly (Bar t.w.number (need_now t) (key_of t)) None
first_free t fails free there bar held = rw (fails, there, free, bar, held) refl

-- the holds that block the key at this time
abbrev pub blocking : Sight → Rows → Worker → List Hold
blocking x rows w = filter (blocks w.job.key (x.read.clock x.time)) rows.holds

module _ (x : Sight) (rows rows' : Rows) (k k' : Store) (w w' : Worker) (local : drop_side w.job.kind w.job.peer ≡ Local) (fresh : w.phase ≡ phases.Fresh) (bare : w.token ≡ tokens.Nothing)
    (own : HasToken w.number w.job.key w.token rows) where
  -- the first step of a local drop is where it goes on from
  begins_did : (r : Result Output NoMemory) → Did rows rows' k k' w w' (ActsOver x k.contents rows rows' w w' first_local) r → Did rows rows' k k' w w' (GoesSo x k.contents rows rows' w w') r
  begins_did r d =
      goes_did x rows rows' k k' w w' phases.Fresh first_local r fresh (λ p fails rest. sym (ap (λ (side : Side). first_drop (turn_in x rows p fails rest w) side) local)) d

  nothing : HasToken w.number w.job.key tokens.Nothing rows
  nothing = subst (λ (t : Token). HasToken w.number w.job.key t rows) bare own

  pub barred_did : (bar : BarView) (out : Output) → x.read.requires ≡ None → bar ≡ record { key = w.job.key; job = w.number } → out.kind ≡ Bar w.number x.read.need w.job.key → out.sends.items ≡ []
      → w' ≡ record w { phase = phases.Next; token = tokens.Bar bar } → ((need : Need) → AreAfter (Bar w.number need w.job.key) rows rows') → IsFree (HasContent k.contents w.job.key) (bar_at rows w.job.key) (blocking x rows w)
      → rows'.holds ≡ rows.holds → k'.contents ≡ k.contents → k'.records ≡ k.records → k.faults ≤ k'.faults → Did rows rows' k k' w w' (GoesSo x k.contents rows rows' w w') (Ok out)
  barred_did bar out unrequired token kind sends next after free holds contents records later =
      begins_did (Ok out) (
        (λ c is. quiet_does x rows rows' (present_in c) w w' first_local (Bar w.number x.read.need w.job.key) out kind sends
            (λ rest. first_free (turn_in x rows (present_in c) None rest w) refl unrequired (free.0 c is) free.1 free.2) (λ rest. ap (work_of rest) next) (after x.read.need) refl),
        leaves_so rows rows' k k' w (record w { phase = phases.Next; token = tokens.Bar bar }) w' (Bar w.number x.read.need w.job.key) out kind next (after x.read.need) contents records later tt
            (owns_bar w.number bar w.job.key rows rows' (ap (λ (b : BarView). b.key) token) (ap (λ (b : BarView). b.job) token) (after x.read.need).bars holds nothing) (λ going. tt) refl refl refl
            (others_bar w.number w.job.key rows rows' (after x.read.need).bars free.1 holds) holds,
      )

  -- ---- a refusal

  module _ (sends : SendsView) (sent : frames_of x.ends w.slot sends.items ≡ partings x.read x.ends w false) (same : rows' ≡ rows) (contents : k'.contents ≡ k.contents) (records : k'.records ≡ k.records)
      (later : k.faults ≤ k'.faults) where
    own' : HasToken w.number w.job.key w.token rows'
    own' = subst (λ (r : Rows). HasToken w.number w.job.key w.token r) (sym same) own

    refusal_did : (why : DropRefusal) (r : Result Output NoMemory) → IsRefusal why w w' sends r → lost_ordered why ≡ false
        → ((c : Contents) → k.contents ≡ Some c → (rest : Rest) → as_told (ends (turn_in x rows (present_in c) None rest w) None (Refused why)) ≡ as_told (first_local (turn_in x rows (present_in c) None rest w)))
        → Did rows rows' k k' w w' (GoesSo x k.contents rows rows' w w') r
    refusal_did why r is plain first =
        subst (λ (o : Result Output NoMemory). Did rows rows' k k' w w' (GoesSo x k.contents rows rows' w w') o) (sym is.1) (begins_did (Ok made) (
          (λ c here. refused_does x rows rows' (present_in c) w w' first_local why sends made refl (sent ∙ ap (partings x.read x.ends w) (sym plain)) plain bare own same (λ rest. first c here rest)),
          leaves_so rows rows' k k' w w w' (ends_job w.number (Refused why)) made refl is.0 after contents records later tt own' (λ going. absurd (cc)) refl refl refl (others_same w.number rows rows' same) (ap (λ (q : Rows). q.holds) same),
        ))
      where
        made : Output
        made = record { kind = ends_job w.number (Refused why); sends = sends; ended = true }

        after : AreAfter (ends_job w.number (Refused why)) rows rows'
        after = ends_rows w.number w.job.key tokens.Nothing rows rows' (Refused why) plain refl nothing (λ key. ap (λ (q : Rows). bar_at q key) same) (ap (λ (q : Rows). q.holds) same) (ap (λ (q : Rows). q.fills) same)

    pub absent_did : (r : Result Output NoMemory) → HasContent k.contents w.job.key false → IsRefusal refusals.NotPresent w w' sends r → Did rows rows' k k' w w' (GoesSo x k.contents rows rows' w w') r
    absent_did r found is = refusal_did refusals.NotPresent r is refl (λ c here rest. first_gone (turn_in x rows (present_in c) None rest w) refl (found c here))

    pub required_did : (text : List ℕ) (r : Result Output NoMemory) → x.read.requires ≡ Some text → HasContent k.contents w.job.key true → IsRefusal (refusals.Required text) w w' sends r
        → Did rows rows' k k' w w' (GoesSo x k.contents rows rows' w w') r
    required_did text r required found is = refusal_did (refusals.Required text) r is refl (λ c here rest. first_required (turn_in x rows (present_in c) None rest w) text refl required (found c here))

    pub fails_did : (out : Output) → Fails w w' out → Rose k.faults k'.faults → Did rows rows' k k' w w' (GoesSo x k.contents rows rows' w w') (Ok out)
    fails_did out f rose =
        begins_did (Ok out) (
          (λ c is. quiet_does x rows rows' (present_in c) w w' first_local (Fault calls.Has (by_job w.number)) out f.kind f.sends (λ rest. refl)
              (λ rest. ap (work_of rest) f.next ∙ sym (ap (λ (side : Side). fault_phase x.read.repo (work_of rest w) Drops side (phase_as w.phase)) local ∙ fault_ends x.read.repo (work_of rest w) (phase_as w.phase))) after refl),
          leaves_so rows rows' k k' w (record w { phase = phases.Ends endings.StoreFault }) w' (Fault calls.Has (by_job w.number)) out f.kind f.next after contents records later rose own'
              (λ going. subst (λ (t : Token). IsOfLocal t) (sym bare) tt) refl refl refl (others_same w.number rows rows' same) (ap (λ (q : Rows). q.holds) same),
        )
      where
        after : AreAfter (Fault calls.Has (by_job w.number)) rows rows'
        after = subst (λ (q : Rows). AreAfter (Fault calls.Has (by_job w.number)) rows q) (sym same) (record { holds = refl; bars = λ key. refl; fills = refl })

    pub unbarred_did : (why : BarRefused) (r : Result Output NoMemory) → x.read.requires ≡ None → NotBarred why (HasContent k.contents w.job.key) (bar_at rows w.job.key) (blocking x rows w) → (why ≡ barred.StoreFault → Rose k.faults k'.faults)
        → FollowsBarRefused why w w' sends r → Did rows rows' k k' w w' (GoesSo x k.contents rows rows' w w') r
    unbarred_did barred.Absent r unrequired found rose is = absent_did r found is
    unbarred_did (barred.Barred job) r unrequired found rose is = refusal_did (refusals.Barred job) r is refl (λ c here rest. first_barred (turn_in x rows (present_in c) None rest w) job refl unrequired (found.0 c here) found.1)
    unbarred_did (barred.Held hold end) r unrequired found rose is =
        refusal_did (refusals.Held end) r is refl (λ c here rest. first_held (turn_in x rows (present_in c) None rest w) end refl unrequired (found.0 c here) found.1 found.2.longest)
    unbarred_did barred.StoreFault (Ok out) unrequired found rose is = fails_did out is.0 (rose refl)
    unbarred_did barred.StoreFault (Err e) unrequired found rose is = absurd is.1
    unbarred_did barred.NoMemory (Ok out) unrequired found rose is = absurd is.0
    unbarred_did barred.NoMemory (Err e) unrequired found rose is = record { worker = is.1; table = same; contents = contents; records = records; later = later }
