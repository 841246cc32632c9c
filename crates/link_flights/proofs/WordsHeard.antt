-- The words that jobs were told, after an entry.
use Rattle.std.proofs.Common.{◌≡◌, ◌<◌, ◌⊎◌, inl, inr, ℕ, Bool, true, false, not, ◌&&◌, ◌||◌, List, [], ◌∷◌, Option, Some, None, refl, sym, ap, ◌∙◌, subst, arith, true≢false}
use Rattle.std.specs.Prelude.{cond, ◌==◌, drop, filter, find, flat_map, if◌then◌else◌, length, map, nat_lt, slice_get}
use Rattle.std.specs.List.{AllZip}
use Rattle.std.specs.Option.{option_and_then, option_map, option_to_list}
use Rattle.std.proofs.lemmas.Bool.{eqb-true}
use Rattle.std.proofs.lemmas.Bool.Decides.{nat_tests}
use Rattle.std.proofs.Math.Bool.{and-false}
use Rattle.annex_base.specs.Lists.{Member}
use Rattle.annex_base.specs.declared.kinds.Word.{Word}
use Rattle.annex_base.proofs.Conditions.{eqb_apart, eqb_refl}
use Rattle.annex_base.proofs.Lists.{find_member, Member-filter_parts, not_longer}
use Rattle.drop_proof.specs.declared.rule.Side.{Side}
use Rattle.drop_proof.specs.declared.rule.Side.TheVariants.{Remote}
use Rattle.link_ring.specs.declared.frame.Frame.{Frame}
use Rattle.link_ring.specs.declared.frame.Body.{Body}
use Rattle.link_ring.specs.declared.frame.Body.TheVariants as bodies
use Rattle.link_ring.specs.Ends.{EndView, after_drop, is_taken, next_frame}
use Rattle.p2p_wire.specs.declared.message.Message.{Message}
use Rattle.run_data.specs.declared.entry.Entry.{Entry}
use Rattle.run_data.specs.declared.entry.EntryKind.{EntryKind}
use Rattle.run_data.specs.declared.entry.EntryKind.TheVariants.{Begin, Crash, End as ends_job}
use Rattle.run_data.specs.declared.entry.FrameView.{FrameView}
use Rattle.run_data.specs.declared.job.Job.{Job}
use Rattle.run_data.specs.declared.job.Outcome.{Outcome}
use Rattle.run_model.specs.Frames.{SendingEntry, Way, frames_sent, sender, sending_entry, taken_count, way_of}
use Rattle.run_model.specs.Past.{is_of}
use Rattle.run_model.specs.States.{end_at, rows_at, state_of, works}
use Rattle.run_model.specs.Words.{awaits_of, awaits_word, word_of, word_taken, word_told}
use Rattle.node_model.specs.AnyTime.{all_ends}
use Rattle.node_model.specs.Ends.{End, EndName, takes_at}
use Rattle.node_model.specs.Jobs.{AsksLook, Denied, Fresh, Heard, Next, Orders, Phase, Removed, RowsAndEnds, Unseen, Work, drop_side, heard_of, is_ordered, job_end, new_work, or_own, partner, side_of, target_of, work_after, work_kind, works_after}
use Rattle.node_model.specs.Look.{Look, Effect}
use Rattle.node_model.specs.Rows.{option_is}
use Rattle.node_model.specs.Sessions.{line_in}
use Rattle.node_model.specs.SetUp.{SetUp}
use Rattle.node_model.specs.Slots.{RunningJob, is_begin, job_of}
use Rattle.node_model.specs.Step.{step}
use Rattle.node_ends.specs.Ends.{AreEnds, IsEndOf, end_in, frame_at, hand_at, link_at, stands, text_in}
use Rattle.node_ends.specs.Joined.{end_with}
use Rattle.driver_model.specs.Turning.{told_words}
use Rattle.driver_model.specs.Ways.{IsOver}
use Rattle.driver_model.specs.WordsRead.{AgreeWhereRead, ReadsWord, is_answered}
use Rattle.run_laws.specs.Jobs.{AnswersAsked, AreJobs, TakesAnswer, is_asked, keeps_word}
use Rattle.link_flights.specs.Heard.{HeardSo, HearsOf, SameWords, WordsGoOn, word_at}
use Rattle.link_flights.specs.Words.{AreAllWorded, AreWorded, HasItsWord, HaveWords, is_line, way_down}
use Rattle.link_flights.proofs.ActingJobs.{Acts, IsHere, StepLaws, acts, steps_begin_none, taken_here}
use Rattle.link_flights.proofs.Dropped.{link_drop, old_same}
use Rattle.link_flights.proofs.Fleet.{mapped}
use Rattle.link_flights.proofs.JobMoves.{IsObeyed, IsRefused, Moves, News, kind_moves, unanswered}
use Rattle.link_flights.proofs.Passed.{is_over}
use Rattle.link_flights.proofs.WordsTaken.{first_of_zip, words_dropped}

-- ---- the word beside the frame at hand

over_is : (c : End) (n : ℕ) → IsOver c n → is_over c n ≡ true
over_is c n (inl i) = let t : nat_lt n c.epoch ≡ true = grind (arith, nat_tests) in rw t refl
over_is c n (inr i) = rw (i.0, i.1, eqb_refl c.epoch) (either (nat_lt c.epoch c.epoch))
  where
    either : (b : Bool) → (b || true) ≡ true
    either true = refl
    either false = refl

line_of : (b : Body) (m : Message) → line_in (text_in b) ≡ Some m → is_line b ≡ true
line_of bodies.Open m e = absurd (cc)
line_of (bodies.Line text) m e = refl
line_of (bodies.Bytes bytes) m e = absurd (cc)
line_of bodies.Close m e = absurd (cc)

pub keeps_none : (phase : Phase) → keeps_word phase None ≡ false
keeps_none (AsksLook peer) = refl
keeps_none Orders = refl
keeps_none phase = refl

keeps_some : (phase : Phase) (o : Option Message) → keeps_word phase o ≡ true → (m : Message) × (o ≡ Some m)
keeps_some phase None e = absurd (true≢false (sym e ∙ keeps_none phase))
keeps_some phase (Some m) e = (m, refl)

-- what a search finds is the first of all to which a narrower test applies
first_narrow : (p q : Frame → Bool) (xs : List Frame) (x : Frame) → ((y : Frame) → q y ≡ true → p y ≡ true) → find p xs ≡ Some x → q x ≡ true → (ys : List Frame) × (filter q xs ≡ x ∷ ys)
first_narrow p q [] x wider e is = absurd (cc)
first_narrow p q (y ∷ xs) x wider e is = go (first_narrow p q xs x wider) (p y) refl e
  where
    go : (find p xs ≡ Some x → q x ≡ true → (ys : List Frame) × (filter q xs ≡ x ∷ ys)) → (b : Bool) → p y ≡ b → cond b (Some y) (find p xs) ≡ Some x
        → (ys : List Frame) × (filter q (y ∷ xs) ≡ x ∷ ys)
    go more true i g =
        let same : y ≡ x = cc in
        let j : q y ≡ true = ap q same ∙ is in
        (filter q xs, rw j (ap (λ (z : Frame). z ∷ filter q xs) same))
    go more false i g = other (q y) refl
      where
        other : (b : Bool) → q y ≡ b → (ys : List Frame) × (filter q (y ∷ xs) ≡ x ∷ ys)
        other true j = absurd (true≢false (sym (wider y j) ∙ i))
        other false j = let z = more g is in (z.0, rw j z.1)

module _ (past : List Entry) (r : ℕ) (links : List EndView) (slot c : ℕ) (v : EndView) (x : Frame) where
  abbrev a : EndName
  a = end_with c slot true

  abbrev w : Way
  w = way_down r (end_with c slot true) x.epoch

  pub beside_is : link_at links a ≡ Some v → next_frame v ≡ Some x → AreWorded past r a v.at_hand → end_at past r a ≡ stands v → is_line x.body ≡ true
      → ((z : SendingEntry) → sender past r (Some (frame_at a x)) ≡ Some z → is_asked z.entry ≡ true)
      → word_at links a ≡ word_of (slice_get (frames_sent past (way_of r (frame_at a x))) (taken_count past (way_of r (frame_at a x))))
  beside_is link next worded stood line asked = there ∙ go (worded x.epoch)
    where
      there : word_at links a ≡ x.word
      there = ap (λ (o : Option EndView). option_and_then (λ (y : Frame). y.word) (option_and_then next_frame o)) link ∙ ap (option_and_then (λ (y : Frame). y.word)) next

      young : is_taken v x ≡ true
      young = (find_member (is_taken v) v.at_hand x next).1

      fresh : not (is_over (stands v) x.epoch) ≡ true
      fresh = old_same v a x ∙ young

      stays : (y : Frame) → (y.epoch == x.epoch) ≡ true → is_taken v y ≡ true
      stays y is = sym (old_same v a y) ∙ ap (λ n. not (is_over (stands v) n)) (eqb-true y.epoch x.epoch is) ∙ fresh

      go : IsOver (end_at past r a) x.epoch ⊎ HaveWords past w v.at_hand → x.word ≡ word_of (slice_get (frames_sent past w) (taken_count past w))
      go (inl o) = absurd (true≢false (sym fresh ∙ ap not (ap (λ (c : End). is_over c x.epoch) (sym stood) ∙ over_is (end_at past r a) x.epoch o)))
      go (inr h) =
          let first = first_narrow (is_taken v) (λ y. y.epoch == x.epoch) v.at_hand x stays next (eqb_refl x.epoch) in
          let y = first_of_zip HasItsWord x first.0 (taken_count past w) (frames_sent past w)
          (subst (λ xs. AllZip HasItsWord xs (drop (taken_count past w) (frames_sent past w))) first.1 h.words) in
          y.it line (asked (sending_entry y.y) (ap (option_map sending_entry) y.at)) ∙ sym (ap word_of y.at)

-- ---- jobs

first_name : (c : ℕ) (g : Heard) (d : ℕ) (h : Heard) (xs : List (ℕ × Heard)) → Path (List (ℕ × Heard)) ((c, g) ∷ xs) ((d, h) ∷ xs) → c ≡ d
first_name c g d h xs e =
    let one : Some c ≡ Some d = ap (λ (ys : List (ℕ × Heard)). first_of_pairs ys) e in cc
  where
    first_of_pairs : List (ℕ × Heard) → Option ℕ
    first_of_pairs [] = None
    first_of_pairs (x ∷ ys) = Some x.0

ordered_is : (phase : Phase) → is_ordered phase ≡ true → phase ≡ Orders
ordered_is Orders e = refl
ordered_is phase e = absurd (true≢false (sym e))

answered_alone : (side : Side) (phase : Phase) (c : ℕ) (target : Option ℕ) → is_answered side phase ≡ true → awaits_word c target phase ≡ false
answered_alone side Removed c target e = refl
answered_alone side Denied c target e = refl
answered_alone side phase c target e = absurd (true≢false (sym e ∙ unanswered phase refl side))

told_else : (past : List Entry) (e : Entry) (r j c : ℕ) → (is_of r e && option_is (job_of e.kind) j && awaits_of c (find (λ (w : Work). w.number == j) (works past r))) ≡ false
    → word_told (e ∷ past) r j c ≡ word_told past r j c
told_else past e r j c i = rw i refl

told_none : (past : List Entry) (e : Entry) (r j c : ℕ) → e.taken ≡ None → word_told (e ∷ past) r j c ≡ word_told past r j c
told_none past e r j c none = go (is_of r e && option_is (job_of e.kind) j && awaits_of c (find (λ (w : Work). w.number == j) (works past r)))
  where
    go : (b : Bool) → (if b then word_taken past r c e.taken (word_told past r j c) else word_told past r j c) ≡ word_told past r j c
    go true = ap (λ (o : Option FrameView). word_taken past r c o (word_told past r j c)) none
    go false = refl

-- one of this number is found
found_one : (ws : List Work) (w : Work) → Member w ws → (v : Work) × (find (λ (x : Work). x.number == w.number) ws ≡ Some v)
found_one [] w there = absurd there
found_one (x ∷ ws) w there = go (found_one ws w) (x.number == w.number) refl there
  where
    go : (Member w ws → (v : Work) × (find (λ (x : Work). x.number == w.number) ws ≡ Some v)) → (b : Bool) → (x.number == w.number) ≡ b → (w ≡ x) ⊎ Member w ws
        → (v : Work) × (find (λ (x : Work). x.number == w.number) (x ∷ ws) ≡ Some v)
    go more true i m = (x, rw i refl)
    go more false i (inl same) = absurd (true≢false (sym (ap (λ (y : Work). y.number == w.number) (sym same) ∙ eqb_refl w.number) ∙ i))
    go more false i (inr m) = let z = more m in (z.0, rw i z.1)

own_found : (ws : List Work) → AreJobs ws → (w : Work) → Member w ws → find (λ (x : Work). x.number == w.number) ws ≡ Some w
own_found ws jobs w there =
    let z = found_one ws w there in
    let y = find_member (λ (x : Work). x.number == w.number) ws z.0 z.1 in
    z.1 ∙ ap Some (jobs.apart z.0 w y.0 there (eqb-true z.0.number w.number y.1))

from_map : (f : Work → Work) (ws : List Work) (v : Work) → Member v (map f ws) → (w : Work) × (Member w ws) × (v ≡ f w)
from_map f [] v there = absurd there
from_map f (w ∷ ws) v (inl same) = (w, inl refl, same)
from_map f (w ∷ ws) v (inr there) = let z = from_map f ws v there in (z.0, inr z.1, z.2)

-- a job after an entry that begins none was one before
pub came_of : (rows : RowsAndEnds) (r : ℕ) (ws : List Work) (e : Entry) (kind : EntryKind) → e.kind ≡ kind → is_begin kind ≡ false → (v : Work) → Member v (works_after rows r ws e kind)
    → (w : Work) × (Member w ws) × (v ≡ work_after rows r e w)
came_of rows r ws e (Begin job what) is none v there = absurd (true≢false none)
came_of rows r ws e (ends_job job outcome) is none v there =
    let z = Member-filter_parts (λ (w : Work). not (w.number == job)) ws v there in
    let other : option_is (job_of e.kind) v.number ≡ false = ap (λ (k : EntryKind). option_is (job_of k) v.number) is ∙ eqb_apart v.number job z.1 in
    (v, z.0, rw other refl)
came_of rows r ws e (Crash clock) is none v there = absurd there
came_of rows r ws e kind is none v there = from_map (work_after rows r e) ws v there

-- ---- entries of others, of no job, and the beginning of one

pub heard_first : (r : ℕ) (words : ℕ → ℕ → Option Word) → HeardSo [] r words
heard_first r words w c there reads = absurd there

pub heard_other : (past : List Entry) (e : Entry) (r : ℕ) (words : ℕ → ℕ → Option Word) → is_of r e ≡ false → HeardSo past r words → HeardSo (e ∷ past) r words
heard_other past e r words other heard w c there reads =
    heard w c (subst (λ ws. Member w ws) same there) reads ∙ sym (told_else past e r w.number c (ap (λ b. b && option_is (job_of e.kind) w.number && awaits_of c (find (λ (x : Work). x.number == w.number) (works past r))) other))
  where
    same : works (e ∷ past) r ≡ works past r
    same = rw other refl

pub own_works : (past : List Entry) (e : Entry) (r : ℕ) → is_of r e ≡ true → works (e ∷ past) r ≡ works_after (rows_at past r) r (works past r) e e.kind
own_works past e r own = rw own refl

pub heard_beside : (past : List Entry) (e : Entry) (r : ℕ) (was now : ℕ → ℕ → Option Word) → is_of r e ≡ true → job_of e.kind ≡ None → SameWords past r was now → HeardSo past r was → HeardSo (e ∷ past) r now
heard_beside past e r was now own none stay heard v c there reads =
    let z = came_of (rows_at past r) r (works past r) e e.kind refl (begins_none e.kind none) v (subst (λ ws. Member v ws) (own_works past e r own) there) in
    let same : v ≡ z.0 = z.2 ∙ (rw none refl) in
    subst (λ (w : Work). now w.number c ≡ word_told (e ∷ past) r w.number c) (sym same)
    (stay z.0 c z.1 ∙ heard z.0 c z.1 (subst (λ (w : Work). ReadsWord r w c) same reads)
    ∙ sym (told_else past e r z.0.number c (ap (λ o. is_of r e && option_is o z.0.number && awaits_of c (find (λ (x : Work). x.number == z.0.number) (works past r))) none ∙ off (is_of r e) _)))
  where
    begins_none : (kind : EntryKind) → job_of kind ≡ None → is_begin kind ≡ false
    begins_none (Begin job what) n = absurd (let no' : Some job ≡ None = n in cc)
    begins_none kind n = refl

    off : (b d : Bool) → (b && false && d) ≡ false
    off true d = refl
    off false d = refl

pub heard_begun : (past : List Entry) (e : Entry) (r job : ℕ) (what : Job) (was now : ℕ → ℕ → Option Word) → is_of r e ≡ true → e.kind ≡ Begin job what → e.taken ≡ None → SameWords past r was now
    → HeardSo past r was → HeardSo (e ∷ past) r now
heard_begun past e r job what was now own begins none stay heard v c there reads = go (subst (λ ws. Member v ws) (own_works past e r own ∙ ap (works_after (rows_at past r) r (works past r) e) begins) there)
  where
    unread : ReadsWord r (new_work (works past r) job what) c → ⊥
    unread (inl h) = absurd (let no' : None ≡ Some Unseen = h in cc)
    unread (inr h) = true≢false (sym h.0 ∙ unanswered Fresh refl (side_of (new_work (works past r) job what)))

    go : (v ≡ new_work (works past r) job what) ⊎ Member v (works past r) → now v.number c ≡ word_told (e ∷ past) r v.number c
    go (inl new) = absurd (unread (subst (λ (w : Work). ReadsWord r w c) new reads))
    go (inr old) = stay v c old ∙ heard v c old reads ∙ sym (told_none past e r v.number c none)

-- ---- a step

module _ (laws : StepLaws) (s : SetUp) (past : List Entry) (k : Look) (m : Effect) (e : Entry) (links : List EndView) (was now : ℕ → ℕ → Option Word)
    (makes : step s (state_of s past) k ≡ Some m) (own : is_of s.number e ≡ true) (kind : e.kind ≡ m.kind) (taken : e.taken ≡ m.taken)
    (sees : k.at_hand ≡ flat_map (λ (b : EndName). option_to_list (hand_at links b)) (all_ends s))
    (worded : (a : EndName) (v : EndView) → Member a (all_ends s) → a.client ≡ true → link_at links a ≡ Some v → (end_at past s.number a ≡ stands v) × AreWorded past s.number a v.at_hand)
    (jobs : AreJobs (works past s.number)) (asked : AnswersAsked past s.number e) (goes : WordsGoOn links past s.number e was now) (heard : HeardSo past s.number was) where
  abbrev r : ℕ
  r = s.number

  it_acts : (w : Work) → Member w (works past s.number) → job_of e.kind ≡ Some w.number → Acts w m
  it_acts w there number = acts laws s (state_of s past) k m makes jobs w there (ap job_of (sym kind) ∙ number)

  -- the answer's word is the past's
  told_now : (w v : Work) (c : ℕ) (f : FrameView) → Member w (works past s.number) → Member v (works (e ∷ past) s.number) → v.number ≡ w.number → job_of e.kind ≡ Some w.number
      → e.taken ≡ Some f → keeps_word w.phase (line_in f.body) ≡ true → partner w.what.peer w.phase ≡ Some c → awaits_word c w.what.peer w.phase ≡ true
      → now w.number c ≡ word_told (e ∷ past) s.number w.number c
  told_now w v c f there there' same_number number is keeps on awaits =
      let act = (it_acts w there number).takes f (sym taken ∙ is) in
      let one : Some act.0 ≡ Some c = sym act.1 ∙ on in
      let peer : act.0 ≡ c = cc in
      at (taken_here links s (job_end w c) f (subst (λ hand. Member f hand) sees (laws.at_hand s (state_of s past) k m f makes (sym taken ∙ is)))
      (subst (λ p. takes_at (job_end w p) f ≡ true) peer act.2))
    where
      at : IsHere links s (job_end w c) f → now w.number c ≡ word_told (e ∷ past) s.number w.number c
      at h = named h.frame_is
        where
          y : (end_at past s.number (job_end w c) ≡ stands h.v) × AreWorded past s.number (job_end w c) h.v.at_hand
          y = worded (job_end w c) h.v h.listed refl h.link

          line : (g : FrameView) → frame_at (job_end w c) h.x ≡ g → keeps_word w.phase (line_in g.body) ≡ true → is_line h.x.body ≡ true
          line g same keeps =
              let z = keeps_some w.phase (line_in g.body) keeps in
              line_of h.x.body z.0 (ap (λ (f : FrameView). line_in f.body) same ∙ z.1)

          named : frame_at (job_end w c) h.x ≡ f → now w.number c ≡ word_told (e ∷ past) s.number w.number c
          named same =
              goes.kept w v (frame_at (job_end w c) h.x) there there' same_number answer
              ∙ beside_is past s.number links w.slot c h.v h.x h.link h.next y.1 y.0 (line f same keeps) (λ z sent. asked w (frame_at (job_end w c) h.x) z there answer (ap (sender past s.number) took ∙ sent))
              ∙ sym told
            where
              took : e.taken ≡ Some (frame_at (job_end w c) h.x)
              took = is ∙ ap Some (sym same)

              answer : TakesAnswer w e (frame_at (job_end w c) h.x)
              answer = record { made = number; taken = took; awaited = awaits; kept = ap (λ (f : FrameView). keeps_word w.phase (line_in f.body)) same ∙ keeps }

              told : word_told (e ∷ past) s.number w.number c
                  ≡ word_of (slice_get (frames_sent past (way_of s.number (frame_at (job_end w c) h.x))) (taken_count past (way_of s.number (frame_at (job_end w c) h.x))))
              told =
                  rw (own, ap (λ o. option_is o w.number) number ∙ eqb_refl w.number, ap (awaits_of c) (own_found (works past s.number) jobs w there) ∙ awaits)
                  (ap (λ o. word_taken past s.number c o (word_told past s.number w.number c)) took ∙ (rw (eqb_refl c) refl))

  -- a word that is read is of a repository from which the job awaits none
  awaits_none : (w : Work) (c : ℕ) → Member w (works past s.number) → ReadsWord s.number w c → awaits_word c w.what.peer w.phase ≡ false
  awaits_none w c there reads = go (awaits_word c w.what.peer w.phase) refl reads
    where
      go : (b : Bool) → awaits_word c w.what.peer w.phase ≡ b → ReadsWord s.number w c → b ≡ false
      go false i reads = refl
      go true i (inl h) = absurd (let no' : None ≡ Some Unseen = sym (jobs.unheard w c there i) ∙ h in cc)
      go true i (inr h) = sym i ∙ answered_alone (side_of w) w.phase c w.what.peer h.0

  target_awaits : (w : Work) (c : ℕ) → Member w (works past s.number) → is_ordered w.phase ≡ true → c ≡ target_of s.number w → awaits_word c w.what.peer w.phase ≡ true
  target_awaits w c there ordered target =
      let phase = ordered_is w.phase ordered in
      let fits = jobs.orders w there phase in
      let c_is : c ≡ fits.1 = target ∙ ap (λ side. or_own s.number side w.what.peer) fits.0 ∙ ap (or_own s.number Remote) fits.2 in
      ap (awaits_word c w.what.peer) phase ∙ ap (λ o. option_is o c) fits.2 ∙ (rw c_is (eqb_refl fits.1))

  -- nothing was heard of it
  goes_on : (w v : Work) (c : ℕ) → Member w (works past s.number) → Member v (works (e ∷ past) s.number) → v.number ≡ w.number → ReadsWord s.number w c
      → ((h : Heard) → v.heard ≡ (c, h) ∷ w.heard → ⊥) → now w.number c ≡ word_told (e ∷ past) s.number w.number c
  goes_on w v c was_there there number reads none =
      kept (goes.rest w v c was_there there number) ∙ heard w c was_there reads
      ∙ sym (told_else past e s.number w.number c (ap (λ o. is_of s.number e && option_is (job_of e.kind) w.number && awaits_of c o) (own_found (works past s.number) jobs w was_there)
      ∙ ap (λ b. is_of s.number e && option_is (job_of e.kind) w.number && b) (awaits_none w c was_there reads) ∙ and-false (is_of s.number e && option_is (job_of e.kind) w.number)))
    where
      kept : HearsOf s.number w v c ⊎ (now w.number c ≡ was w.number c) → now w.number c ≡ was w.number c
      kept (inr same) = same
      kept (inl (inl x)) = absurd (none x.0 x.1)
      kept (inl (inr x)) = absurd (true≢false (sym (target_awaits w c was_there x.0 x.1) ∙ awaits_none w c was_there reads))

  -- the job of the entry
  acting : (w v : Work) (c : ℕ) → Member w (works past s.number) → Member v (works (e ∷ past) s.number) → job_of e.kind ≡ Some w.number → Moves w e.taken v → ReadsWord s.number v c
      → now w.number c ≡ word_told (e ∷ past) s.number w.number c
  acting w v c was_there there job moves reads = go moves.news reads
    where
      number : v.number ≡ w.number
      number = ap (λ (x : RunningJob). x.number) moves.same

      side : side_of v ≡ side_of w
      side = ap (λ (x : RunningJob). drop_side x.what.kind x.what.peer) moves.same

      target : target_of s.number v ≡ target_of s.number w
      target = ap (λ (x : RunningJob). or_own s.number (drop_side x.what.kind x.what.peer) x.what.peer) moves.same

      -- it heard of this one
      grown : (c0 : ℕ) (h : Heard) → v.heard ≡ (c0, h) ∷ w.heard → (b : Bool) → (c0 == c) ≡ b → heard_of v c ≡ Some Unseen → (h ≡ Unseen → IsRefused w e.taken c0)
          → now w.number c ≡ word_told (e ∷ past) s.number w.number c
      grown c0 h grew true i unseen refused =
          let one : Some h ≡ Some Unseen = sym (ap (λ hs. option_map (λ (x : ℕ × Heard). x.1) (find (λ (x : ℕ × Heard). x.0 == c) hs)) grew ∙ (rw i refl)) ∙ unseen in
          let is : h ≡ Unseen = cc in
          let y = refused is in
          let same : c0 ≡ c = eqb-true c0 c i in
          let phase : w.phase ≡ AsksLook c = y.0 ∙ ap AsksLook same in
          told_now w v c y.1.0 was_there there number job y.1.1 (ap (λ p. keeps_word p (line_in y.1.0.body)) phase ∙ ap (keeps_word (AsksLook c)) y.1.2)
          (ap (partner w.what.peer) phase) (ap (awaits_word c w.what.peer) phase ∙ eqb_refl c)
      grown c0 h grew false i unseen refused =
          let old : heard_of w c ≡ Some Unseen = sym (ap (λ hs. option_map (λ (x : ℕ × Heard). x.1) (find (λ (x : ℕ × Heard). x.0 == c) hs)) grew ∙ (rw i refl)) ∙ unseen in
          goes_on w v c was_there there number (inl old) (λ g same.
          let names : c ≡ c0 = first_name c g c0 h w.heard (sym same ∙ grew) in
          true≢false (sym (ap (λ n. n == c) (sym names) ∙ eqb_refl c) ∙ i))

      go : News w e.taken v → ReadsWord s.number v c → now w.number c ≡ word_told (e ∷ past) s.number w.number c
      go (inl x) (inl unseen) = grown x.0 x.1 x.2 (x.0 == c) refl unseen x.4
      go (inl x) (inr answered) = absurd (true≢false (sym answered.0 ∙ ap (is_answered (side_of v)) x.3 ∙ unanswered Next refl (side_of v)))
      go (inr x) (inl unseen) = goes_on w v c was_there there number (inl (ap (λ hs. option_map (λ (x : ℕ × Heard). x.1) (find (λ (x : ℕ × Heard). x.0 == c) hs)) (sym x.0) ∙ unseen))
          (λ g same. not_longer (c, g) w.heard (sym x.0 ∙ same))
      go (inr x) (inr answered) = verdict (x.1 (ap (λ d. is_answered d v.phase) (sym side) ∙ answered.0))
        where
          verdict : (v.phase ≡ w.phase) ⊎ IsObeyed w e.taken → now w.number c ≡ word_told (e ∷ past) s.number w.number c
          verdict (inl phase) = goes_on w v c was_there there number
              (inr (ap (λ p. is_answered (side_of w) p) (sym phase) ∙ ap (λ d. is_answered d v.phase) (sym side) ∙ answered.0, answered.1 ∙ target))
              (λ g same. not_longer (c, g) w.heard (sym x.0 ∙ same))
          verdict (inr obeyed) =
              let fits = jobs.orders w was_there obeyed.0 in
              let c_is : c ≡ fits.1 = answered.1 ∙ target ∙ ap (λ side. or_own s.number side w.what.peer) fits.0 ∙ ap (or_own s.number Remote) fits.2 in
              told_now w v c obeyed.1.0 was_there there number job obeyed.1.1 (ap (λ p. keeps_word p (line_in obeyed.1.0.body)) obeyed.0 ∙ obeyed.1.2)
              (ap (partner w.what.peer) obeyed.0 ∙ fits.2 ∙ ap Some (sym c_is))
              (ap (awaits_word c w.what.peer) obeyed.0 ∙ ap (λ o. option_is o c) fits.2 ∙ (rw c_is (eqb_refl fits.1)))

  pub heard_stepped : HeardSo (e ∷ past) s.number now
  heard_stepped v c there reads = go (option_is (job_of e.kind) z.0.number) refl
    where
      z : (w : Work) × (Member w (works past s.number)) × (v ≡ work_after (rows_at past s.number) s.number e w)
      z = came_of (rows_at past s.number) s.number (works past s.number) e e.kind refl (ap is_begin kind ∙ steps_begin_none laws s (state_of s past) k m makes) v
          (subst (λ ws. Member v ws) (own_works past e s.number own) there)

      job_is : (o : Option ℕ) (n : ℕ) → option_is o n ≡ true → o ≡ Some n
      job_is None n i = absurd (true≢false (sym i))
      job_is (Some j) n i = ap Some (eqb-true j n i)

      go : (b : Bool) → option_is (job_of e.kind) z.0.number ≡ b → now v.number c ≡ word_told (e ∷ past) s.number v.number c
      go false i =
          let same : v ≡ z.0 = z.2 ∙ (rw i refl) in
          subst (λ (w : Work). now w.number c ≡ word_told (e ∷ past) s.number w.number c) (sym same)
          (goes_on z.0 v c z.1 there (ap (λ (w : Work). w.number) same) (subst (λ (w : Work). ReadsWord s.number w c) same reads)
          (λ g grew. not_longer (c, g) z.0.heard (sym (ap (λ (w : Work). w.heard) same) ∙ grew)))
      go true i =
          let job = job_is (job_of e.kind) z.0.number i in
          let moved : v ≡ work_kind (rows_at past s.number) s.number z.0 e e.kind = z.2 ∙ (rw i refl) in
          let moves : Moves z.0 e.taken v = subst (λ (x : Work). Moves z.0 e.taken x) (sym moved)
          (kind_moves (rows_at past s.number) s.number z.0 e e.kind (λ by key is. (it_acts z.0 z.1 job).local by key (sym kind ∙ is))) in
          let number : v.number ≡ z.0.number = ap (λ (x : RunningJob). x.number) moves.same in
          subst (λ n. now n c ≡ word_told (e ∷ past) s.number n c) (sym number) (acting z.0 v c z.1 there job moves reads)

-- ---- a turn: old frames are dropped first

-- the frames at the clients' ends of one repository, once old ones were dropped
pub turn_worded : ((s : SetUp) (a : EndName) → Member a (all_ends s) → IsEndOf s a) → (s : SetUp) (past : List Entry) (ends : ℕ → List EndView) → s.number < length s.repos
    → AreEnds (ends s.number) s (state_of s past) → AreAllWorded past (length s.repos) ends
    → (a : EndName) (v : EndView) → Member a (all_ends s) → a.client ≡ true → link_at (map after_drop (ends s.number)) a ≡ Some v → (end_at past s.number a ≡ stands v) × AreWorded past s.number a v.at_hand
turn_worded numbers s past ends known are worded a v member client link =
    let n = mapped after_drop (link_at (ends s.number) a) v (sym (link_drop (ends s.number) a) ∙ link) in
    let stood : end_at past s.number a ≡ stands n.v = are.ends a member ∙ ap end_in n.was in
    let end = numbers s a member in
    subst (λ (w : EndView). (end_at past s.number a ≡ stands w) × AreWorded past s.number a w.at_hand) n.it
    (stood, words_dropped past s.number a n.v stood (worded s.number a n.v known end.peer end.other client n.was))

-- ---- the words that the end of a job reads

pub heard_agree : (s : SetUp) (past : List Entry) (m : Effect) (words : ℕ → ℕ → Option Word) (mine : ℕ → Option Word) → HeardSo past s.number words
    → ((j : ℕ) (outcome : Outcome) → m.kind ≡ ends_job j outcome → (c : ℕ) → mine c ≡ words j c) → AgreeWhereRead s (state_of s past) m mine (told_words past s.number m.kind)
heard_agree s past m words mine heard same w outcome there ends c reads =
    same w.number outcome ends c ∙ heard w c there reads ∙ sym (ap (λ (kind : EntryKind). told_words past s.number kind c) ends)
