-- While a copy is under way, no drop of it has begun, as the entries tell.
use Rattle.std.proofs.Common.{◌≡◌, ◌≢◌, ℕ, Bool, true, false, List, [], ◌∷◌, Option, Some, None, inl, inr, refl, sym, ap, ◌∙◌, subst}
use Rattle.std.specs.Prelude.{if◌then◌else◌, ◌&&◌, not}
use Rattle.std.specs.List.{list_all}
use Rattle.std.proofs.lemmas.Bool.{or_right}
use Rattle.annex_base.specs.Lists.{Member}
use Rattle.annex_base.specs.declared.kinds.Call.{Call}
use Rattle.annex_base.proofs.Conditions.{if_either}
use Rattle.annex_base.specs.declared.kinds.Call.TheVariants as calls
use Rattle.step_facts.proofs.Below.{SentAreRead}
use Rattle.run_data.specs.declared.entry.Entry.{Entry}
use Rattle.run_data.specs.declared.entry.EntryKind.{EntryKind}
use Rattle.run_data.specs.declared.entry.EntryKind.TheVariants.{Bar, Fault, Share, End as ends_job}
use Rattle.run_data.specs.declared.entry.FrameText.TheVariants.{Opening}
use Rattle.run_data.specs.declared.job.Outcome.{Outcome}
use Rattle.run_data.specs.declared.job.Outcome.TheVariants.{TransferRefused}
use Rattle.run_data.specs.declared.job.TransferRefusal.TheVariants as failures
use Rattle.node_model.specs.Rows.{is_lost_ordered}
use Rattle.run_model.specs.Past.{is_of}
use Rattle.run_model.specs.Logs.{has_stepped, is_step}
use Rattle.p2p_wire.specs.declared.message.Message.TheVariants.{Put}
use Rattle.p2p_wire.specs.Messages.{message_of, text_of}
use Rattle.node_model.specs.SetUp.{SetUp}
use Rattle.node_model.specs.Jobs.{Drops, Ends, Fresh, Next, Phase, Puts, Work, partner, says_some, work_kind}
use Rattle.run_model.specs.States.{rows_at, works}
use Rattle.node_model.specs.Calls.{to_release}
use Rattle.node_model.specs.Look.{Effect}
use Rattle.node_model.specs.JobStep.{Turn, by_me, end_with, ends, farewells, is_there, key_of, owns_share, quietly, sends_to, talk}
use Rattle.node_model.specs.Found.{IsJobEntry}
use Rattle.node_model.specs.Requests.{asks, goes_to}
use Rattle.node_model.specs.TransferStep.{first_put}
use Rattle.node_model.specs.Turns.{by_partner, goes, goes_on, has_room, needs}
use Rattle.run_model.specs.Run.{OwnPast, OwnRun}
use Rattle.step_facts.proofs.Spoken.{put_read}
use Rattle.step_facts.proofs.JobSteps.{Origin, Steps, invariant, turn_at}
use Rattle.job_facts.proofs.PhaseFacts.{GoodTo, is_fresh}
use Rattle.job_facts.proofs.TalkFacts.{Fits}
use Rattle.job_facts.proofs.WorkFits.{step_kind, step_number, step_runs, steps_good, works_fit}
use Rattle.step_facts.proofs.ClientTurns.{made_entry, moved}
use Rattle.step_facts.proofs.ClientSteps.{attempts_even, release_is}
use Rattle.job_facts.proofs.GetsBegin.{no_release}
use Rattle.dialogue_facts.proofs.EndReasons.{NextReason, Sets, kind_reason}
use Rattle.dialogue_facts.proofs.FreshSteps.{at_start, plain_call, puts_was, unowned}
use Rattle.step_facts.proofs.BySteps.{earlier}

-- a copy is to begin, or stands where it goes on
abbrev pub is_idle : Phase → Bool
is_idle Fresh = true
is_idle Next = true
is_idle phase = false

-- it isn't to end, nor to go on to a next peer
abbrev pub is_live : Phase → Bool
is_live (Ends o) = false
is_live Next = false
is_live phase = true

-- ---- the first step of a copy

-- it comes to another phase than these two; and where it sends nothing, it is to end
abbrev pub Off : Turn → Effect → EntryKind → Type 0
Off t m (ends_job j outcome) = Unit {0}
Off t m kind = (is_idle (moved t m kind).phase ≡ false) × (m.sent ≡ [] → is_live (moved t m kind).phase ≡ false)

abbrev OffBy : Turn → Effect → Type 0
OffBy t m = Off t m m.kind

module _ (before : Turn) (none : owns_share before ≡ false) where
  abbrev p : Turn
  p = at_start Puts before

  put_fault : (call : Call) → call ≢ calls.PutFile → call ≢ calls.Unhold → OffBy p (quietly (Fault call (by_me p)) None)
  put_fault calls.PutFile a b = absurd (a refl)
  put_fault calls.Unhold a b = absurd (b refl)
  put_fault call a b = (refl, λ e. refl)

  put_ends : (outcome : Outcome) → OffBy p (ends p None outcome)
  put_ends outcome = attempts_even (OffBy p) p (to_release (owns_share p && not (is_lost_ordered outcome))) None
      (record { kind = ends_job p.w.number outcome; taken = None; sent = farewells p (is_lost_ordered outcome); lines = []; calls = [] })
      (λ call e. absurd (no_release (owns_share p) (not (is_lost_ordered outcome)) none call e)) tt

  module _ (read : message_of (text_of (Put [] (key_of p))) ≡ Some (Put [] (key_of p))) where
    put_goes : (peer : ℕ) → OffBy p (goes_to p peer)
    put_goes peer = if_either (OffBy p) (end_with p peer).opened (asks p p.w.version None peer Puts) (sends_to p (talk p) None peer (Opening ∷ []))
        (λ e. (ap (λ o. is_idle (says_some p.w p.look.time peer None o).phase) read, λ n. absurd (cc))) (λ e. (refl, λ n. absurd (cc)))

    put_first : (here : Bool) (peer : Option ℕ) → OffBy p (first_put p here peer)
    put_first true (Some peer) = put_goes peer
    put_first true None = put_ends (TransferRefused failures.NotHere)
    put_first false peer = put_ends (TransferRefused failures.NotHere)

    put_off : (m : Effect) → by_partner p None ≡ Some m → OffBy p m
    put_off m e = go (list_all (has_room p) (needs p Fresh)) e
      where
        go : (b : Bool) → (if b then Some (goes p Fresh) else None) ≡ Some m → OffBy p m
        go false g = absurd (cc)
        go true g =
            let same : goes p Fresh ≡ m = cc in
            subst (OffBy p) same (attempts_even (OffBy p) p (calls.Has ∷ []) None (first_put p (is_there p) p.w.what.peer)
            (plain_call (calls.Has ∷ []) refl refl (λ call. OffBy p (quietly (Fault call (by_me p)) None)) put_fault) (put_first (is_there p) p.w.what.peer))

off_is : (t : Turn) (m : Effect) (kind : EntryKind) → ((j : ℕ) (outcome : Outcome) → kind ≢ ends_job j outcome) → Off t m kind → (is_idle (moved t m kind).phase ≡ false) × (m.sent ≡ [] → is_live (moved t m kind).phase ≡ false)
off_is t m (ends_job j outcome) goes_on off = absurd (goes_on j outcome refl)
off_is t m kind goes_on off = off

-- a step of a copy that is to begin
pub first_step_off : SentAreRead → (s : SetUp) (past : List Entry) (e : Entry) (x : Work) (b : Steps s past e x) → OwnPast s past → b.by.w.part ≡ Puts → b.by.w.phase ≡ Fresh → (is_idle x.phase ≡ false) × (e.sent ≡ [] → is_live x.phase ≡ false)
first_step_off reads_back s past e x b h is fresh =
    let turn = turn_at s past e b.by in
    let t = at_start Puts turn in
    let m = b.by.made in
    let none = unowned s past e x b h.run (λ d. absurd (let both : Puts ≡ Drops = sym is ∙ d in cc)) in
    let entry : e ≡ made_entry t m = b.by.is in
    let w_is : b.by.w ≡ t.w = (λ i. record b.by.w { part = is i; phase = fresh i }) in
    let same : turn ≡ t = (λ i. record turn { w = w_is i }) in
    let does : by_partner t None ≡ Some m = subst (λ (y : Turn). by_partner y (partner y.w.what.peer y.w.phase) ≡ Some m) same b.by.does in
    let after : x ≡ moved t m m.kind = b.work_is ∙ (λ i. work_kind (rows_at past s.number) s.number (w_is i) (entry i) (entry i).kind) in
    let not_end : (j : ℕ) (outcome : Outcome) → m.kind ≢ ends_job j outcome = (λ j outcome k. b.goes_on j outcome (ap (λ (y : Entry). y.kind) entry ∙ k)) in
    let off = off_is t m m.kind not_end (put_off turn none (put_read reads_back s past h.run b.by.w (step_runs s past e x b)) m does) in
    (ap (λ (y : Work). is_idle y.phase) after ∙ off.0, λ silent. ap (λ (y : Work). is_live y.phase) after ∙ off.1 (sym (ap (λ (y : Entry). y.sent) entry) ∙ silent))

-- ---- a copy never goes on to a next peer

sets_drop : (t : Turn) (m : Effect) (kind : EntryKind) → IsJobEntry t m kind → Sets kind → t.w.part ≡ Drops
sets_drop t m (Bar j need key) k z = k.part_is
sets_drop t m (Share hold end by key) k z = k.part_is
sets_drop t m kind k z = absurd z

pub puts_go_on : SentAreRead → (s : SetUp) (past : List Entry) → OwnPast s past → (w : Work) → Member w (works past s.number) → w.part ≡ Puts → w.phase ≢ Next
puts_go_on reads_back s past h w m part = invariant s (λ p x. OwnPast s p → x.part ≡ Puts → x.phase ≢ Next) (λ p e is x n was h. was (earlier s p e h)) own past h.run w m h part
  where
    own : (p : List Entry) (e : Entry) → OwnRun s (e ∷ p) → is_of s.number e ≡ true → ((x : Work) → Member x (works p s.number) → OwnPast s p → x.part ≡ Puts → x.phase ≢ Next)
        → (x : Work) → Origin s p e x → OwnPast s (e ∷ p) → x.part ≡ Puts → x.phase ≢ Next
    own p e r is was x (inl b) h part next = let no' : Fresh ≡ Next = sym (ap (λ (y : Work). y.phase) b.work_is) ∙ next in absurd (cc)
    own p e r is was x (inr (inl b)) h part next = absurd (was x b.ran (earlier s p e h) part next)
    own p e r is was x (inr (inr b)) h part next =
        let v = b.by.w in
        let runs = step_runs s p e x b in
        let fits = works_fit s p r.1 v runs in
        let good = steps_good s p e x b fits in
        let v_part = puts_was v.part v.phase x.phase (subst (λ q. GoodTo v.part v.phase q x.phase) part good) in
        let to : (work_kind (rows_at p s.number) s.number v e e.kind).phase ≡ Next = sym (ap (λ (y : Work). y.phase) b.work_is) ∙ next in
        absurd (elim (kind_reason (rows_at p s.number) s.number v e e.kind) [
          | inl same ↦ was v runs (earlier s p e h) v_part (sym same ∙ to)
          | inr reason ↦ by v v_part fits (subst (λ q. Rattle.dialogue_facts.proofs.EndReasons.Reason (rows_at p s.number) s.number v e e.kind q) to reason)
        ])
      where
        by : (v : Work) → v.part ≡ Puts → Fits v.part v.phase → NextReason b.by.w e.kind → ⊥
        by v part' fits z = elim (z) [
          | inl apart ↦ apart (puts_now b)
          | inr y ↦ elim (y) [
            | inl unfit ↦ unfit (subst (λ q. Fits q b.by.w.phase) (puts_now b) (works_fit s p r.1 b.by.w (step_runs s p e x b)))
            | inr u ↦ elim (u) [
              | inl fresh ↦ (let off = (first_step_off reads_back s p e x b (earlier s p e h) (puts_now b) fresh).0 in let both : true ≡ false = sym (ap is_idle next) ∙ off in cc)
              | inr sets ↦ (let drops = sets_drop (turn_at s p e b.by) b.by.made e.kind (step_kind s p e x b) sets in let both : Puts ≡ Drops = sym (puts_now b) ∙ drops in cc)
            ]
          ]
        ]
          where
            puts_now : (b : Steps s p e x) → b.by.w.part ≡ Puts
            puts_now b = puts_was b.by.w.part b.by.w.phase x.phase (subst (λ q. GoodTo b.by.w.part b.by.w.phase q x.phase) part (steps_good s p e x b (works_fit s p r.1 b.by.w (step_runs s p e x b))))

-- ---- a job that is to end stays so

abbrev EndedBy : Outcome → Turn → Effect → EntryKind → Type 0
EndedBy o t m (ends_job j outcome) = Unit {0}
EndedBy o t m kind = (moved t m kind).phase ≡ Ends o

pub ended_stays : (s : SetUp) (past : List Entry) (e : Entry) (x : Work) (b : Steps s past e x) (o : Outcome) → b.by.w.phase ≡ Ends o → x.phase ≡ Ends o
ended_stays s past e x b o at =
    let turn = turn_at s past e b.by in
    let m = b.by.made in
    let w_is : b.by.w ≡ record b.by.w { phase = Ends o } = (λ i. record b.by.w { phase = at i }) in
    let t : Turn = record turn { w = record b.by.w { phase = Ends o } } in
    let same : turn ≡ t = (λ i. record turn { w = w_is i }) in
    let entry : e ≡ made_entry t m = b.by.is in
    let does : by_partner t None ≡ Some m = subst (λ (y : Turn). by_partner y (partner y.w.what.peer y.w.phase) ≡ Some m) same b.by.does in
    let after : x ≡ moved t m m.kind = b.work_is ∙ (λ i. work_kind (rows_at past s.number) s.number (w_is i) (entry i) (entry i).kind) in
    ap (λ (y : Work). y.phase) after ∙ kind m.kind (λ j outcome k. b.goes_on j outcome (ap (λ (y : Entry). y.kind) entry ∙ k)) (made m does)
  where
    t' : Turn
    t' = record (turn_at s past e b.by) { w = record b.by.w { phase = Ends o } }

    kind : (k : EntryKind) → ((j : ℕ) (outcome : Outcome) → k ≢ ends_job j outcome) → EndedBy o t' b.by.made k → (moved t' b.by.made k).phase ≡ Ends o
    kind (ends_job j outcome) goes_on z = absurd (goes_on j outcome refl)
    kind k goes_on z = z

    made : (m : Effect) → by_partner t' None ≡ Some m → EndedBy o t' m m.kind
    made m e' = go (list_all (has_room t') (needs t' (Ends o))) e'
      where
        go : (c : Bool) → (if c then Some (goes t' (Ends o)) else None) ≡ Some m → EndedBy o t' m m.kind
        go false g = absurd (cc)
        go true g =
            let same : goes t' (Ends o) ≡ m = cc in
            subst (λ (y : Effect). EndedBy o t' y y.kind) same (attempts_even (λ (y : Effect). EndedBy o t' y y.kind) t' (to_release (owns_share t' && not (is_lost_ordered o))) None
            (record { kind = ends_job t'.w.number o; taken = None; sent = farewells t' (is_lost_ordered o); lines = []; calls = [] })
            (λ call h. subst (λ (c : Call). EndedBy o t' (quietly (Fault c (by_me t')) None) (Fault c (by_me t'))) (sym (release_is (owns_share t' && not (is_lost_ordered o)) call h)) refl) tt)

-- ---- a job that has begun its part has made a step

stepped_more : (past : List Entry) (e : Entry) (r j : ℕ) → has_stepped past r j ≡ true → has_stepped (e ∷ past) r j ≡ true
stepped_more past e r j h = or_right (is_of r e && is_step j e.kind) (has_stepped past r j) h

stepped_now : (past : List Entry) (e : Entry) (r j : ℕ) → is_of r e ≡ true → is_step j e.kind ≡ true → has_stepped (e ∷ past) r j ≡ true
stepped_now past e r j is step = rw (is, step) refl

pub stepped_on : (s : SetUp) (past : List Entry) → OwnRun s past → (w : Work) → Member w (works past s.number) → is_fresh w.phase ≡ false → has_stepped past s.number w.number ≡ true
stepped_on s past run w m = invariant s (λ p x. is_fresh x.phase ≡ false → has_stepped p s.number x.number ≡ true) (λ p e is x n was later. stepped_more p e s.number x.number (was later)) own past run w m
  where
    own : (p : List Entry) (e : Entry) → OwnRun s (e ∷ p) → is_of s.number e ≡ true → ((x : Work) → Member x (works p s.number) → is_fresh x.phase ≡ false → has_stepped p s.number x.number ≡ true)
        → (x : Work) → Origin s p e x → is_fresh x.phase ≡ false → has_stepped (e ∷ p) s.number x.number ≡ true
    own p e r is was x (inl b) later = absurd (let no' : true ≡ false = sym (ap (λ (y : Work). is_fresh y.phase) b.work_is) ∙ later in cc)
    own p e r is was x (inr (inl b)) later = stepped_more p e s.number x.number (was x b.ran later)
    own p e r is was x (inr (inr b)) later = subst (λ n. has_stepped (e ∷ p) s.number n ≡ true) (sym (step_number s p e x b)) (stepped_now p e s.number b.by.w.number is b.step)
