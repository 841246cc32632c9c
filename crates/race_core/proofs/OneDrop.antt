-- One drop for each removal: no job removes twice, and each order that is obeyed is one entry's, of one job, and is taken once.
use Rattle.std.proofs.Common.{◌≡◌, ℕ, ◌+◌, ◌<◌, ◌≤◌, Bool, true, false, cond, ◌&&◌, List, [], ◌∷◌, ◌++◌, length, Some, None, ◌⊎◌, inl, inr, refl, sym, ap, ◌∙◌, subst, arith, length-append}
use Rattle.std.specs.Prelude.{if◌then◌else◌, filter, map, slice_get}
use Rattle.std.proofs.lemmas.Option.{slice_get_within, same_Some}
use Rattle.annex_base.specs.Lists.{Member}
use Rattle.annex_base.proofs.Lists.{slice_get-left}
use Rattle.annex_base.proofs.Conditions.{bytes_eq-refl}
use Rattle.step_facts.proofs.Below.{SentAreRead}
use Rattle.run_data.specs.declared.entry.By.{By}
use Rattle.run_data.specs.declared.entry.By.TheVariants.{Script, Job as by_job, Peer}
use Rattle.run_data.specs.declared.entry.Entry.{Entry}
use Rattle.run_data.specs.declared.entry.EntryKind.TheVariants.{Gone, Order}
use Rattle.run_data.specs.declared.entry.FrameView.{FrameView}
use Rattle.run_data.specs.declared.run.RepoView.{RepoView}
use Rattle.run_data.specs.declared.run.Run.{Run}
use Rattle.run_model.specs.Past.{Decision, Occurs, bar, decision, is_of}
use Rattle.run_model.specs.Frames.{FlyingFrame, MayTake, Way, flying_frame, is_on, on_way, sender_of, frames_sent, sending_entry, taken_count, taker_of, takes, way_of}
use Rattle.step_facts.proofs.Ways.{way_from}
use Rattle.run_model.specs.Safety.{past_at}
use Rattle.run_model.specs.Run.{IsRun}
use Rattle.past_facts.proofs.Own.{Meets, MessagePast}
use Rattle.race_core.specs.Readings.{Judge}
use Rattle.race_core.specs.Removals.{HasOrder, IsAt, SendsFrame, TakesFrame}
use Rattle.past_facts.proofs.Changes.{bar_was, decided_keeps, repo_of, same_repo}
use Rattle.step_facts.proofs.Flights.{get_append, get_none, sending}
use Rattle.past_facts.proofs.Evident.{barred}
use Rattle.past_facts.proofs.Told.{on_own, sender_at, sender_way, taker_way, way_sent}
use Rattle.past_facts.proofs.Obeying
use Rattle.past_facts.proofs.Obeying.{ordered_by}
use Rattle.past_facts.proofs.EntryPlaces.{past_next, Placed, at_occurs, occurs_at, same_place, there_or_end, grows}
use Rattle.race_core.proofs.Dropped.{meets_at, messages_at, order_judge}
use Rattle.race_core.proofs.JobBegins.{order_alone, orderer}
use Rattle.step_facts.proofs.Plain.{member_mapped}

-- ---- who removes

-- what takes a key away names its repository
pub of_repository : SentAreRead → (run : Run) (key : List ℕ) (place : ℕ) (e : Entry) (by : By) → IsRun run → slice_get run.entries place ≡ Some e → e.kind ≡ Gone by key → (r : ℕ) × (e.repo ≡ Some r)
of_repository reads_back run key place e by h at kind = let t = (meets_at reads_back run place e h at).somebody by key kind in (t.0, repo_of e t.0 t.1)

-- and is a drop's
pub by_drop : SentAreRead → (run : Run) (key : List ℕ) (place : ℕ) (e : Entry) (by : By) → IsRun run → slice_get run.entries place ≡ Some e → e.kind ≡ Gone by key → ((j : ℕ) × (by ≡ by_job j)) ⊎ ((a slot : ℕ) × (by ≡ Peer a slot))
by_drop reads_back run key place e (by_job j) h at kind = inl (j, refl)
by_drop reads_back run key place e (Peer a slot) h at kind = inr (a, slot, refl)
by_drop reads_back run key place e Script h at kind = let t = (meets_at reads_back run place e h at).somebody Script key kind in absurd (((meets_at reads_back run place e h at).own t.0 t.1).no_script key kind)

-- ---- no job removes twice

-- a decision stays
decided_stays : (repos : List RepoView) (e : Entry) (past : List Entry) (r j : ℕ) (d : Decision) → Meets repos past e → decision past r j ≡ Some d → decision (e ∷ past) r j ≡ Some d
decided_stays repos e past r j d m h = elim (decided_keeps e past r j d h) [
  | inl k ↦ k
  | inr k ↦ (let none : decision past r j ≡ None = ((m.own r k.repo_is).bar_put j k.need k.key k.kind_is).first in let bad : Some d ≡ None = sym h ∙ none in absurd (cc))
]

decided_later : (repos : List RepoView) (past : List Entry) (x : Entry) (p : List Entry) (r j : ℕ) (d : Decision) → MessagePast repos past → Occurs past x p → decision p r j ≡ Some d → decision past r j ≡ Some d
decided_later repos [] x p r j d run o h = absurd o
decided_later repos (e ∷ past) x p r j d run (inl o) h = decided_stays repos e past r j d run.0 (subst (λ (q : List Entry). decision q r j ≡ Some d) o.1 h)
decided_later repos (e ∷ past) x p r j d run (inr o) h = decided_stays repos e past r j d run.0 (decided_later repos past x p r j d run.1 o h)

gone_off : (x : Entry) (p : List Entry) (r j : ℕ) (key : List ℕ) → is_of r x ≡ true → x.kind ≡ Gone (by_job j) key → bar (x ∷ p) r key ≡ None
gone_off x p r j key is kind = rw (is, kind, bytes_eq-refl key) refl

-- after a removal by the job no bar of it stands on the key any more
bar_off : (repos : List RepoView) (past : List Entry) (x : Entry) (p : List Entry) (r j : ℕ) (key : List ℕ) (d : Decision) → MessagePast repos past → Occurs past x p → is_of r x ≡ true → x.kind ≡ Gone (by_job j) key
    → decision p r j ≡ Some d → bar past r key ≡ Some j → ⊥
bar_off repos [] x p r j key d run o is kind was h = o
bar_off repos (e ∷ past) x p r j key d run (inl o) is kind was h =
    let none : bar (e ∷ past) r key ≡ None = subst (λ (y : Entry). bar (y ∷ past) r key ≡ None) o.0 (subst (λ (q : List Entry). bar (x ∷ q) r key ≡ None) o.1 (gone_off x p r j key is kind)) in
    let bad : Some j ≡ None = sym h ∙ none in cc
bar_off repos (e ∷ past) x p r j key d run (inr o) is kind was h = elim (bar_was e past r key j h) [
  | inl k ↦ bar_off repos past x p r j key d run.1 o is kind was k
  | inr k ↦ (let none : decision past r j ≡ None = ((run.0.own r k.repo_is).bar_put j k.need key k.kind_is).first in
      let bad : Some d ≡ None = sym (decided_later repos past x p r j d run.1 o was) ∙ none in cc)
]

gone_twice : SentAreRead → (run : Run) (a b r j : ℕ) (key k : List ℕ) → IsRun run → IsAt run a r (Gone (by_job j) key) → IsAt run b r (Gone (by_job j) k) → a < b → ⊥
gone_twice reads_back run a b r j key k h x y lt =
    let early = messages_at reads_back run a h in
    let late = messages_at reads_back run b h in
    let first = barred run.repos (past_at run a) r j key early (((meets_at reads_back run a x.entry h x.entry_is).own r x.repo_is).removes j key x.kind_is).barred in
    let stands : bar (past_at run b) r k ≡ Some j = (((meets_at reads_back run b y.entry h y.entry_is).own r y.repo_is).removes j k y.kind_is).barred in
    let second = barred run.repos (past_at run b) r j k late stands in
    let occurs = at_occurs run b a x.entry lt x.entry_is in
    let still = decided_later run.repos (past_at run b) x.entry (past_at run a) r j first.d late occurs first.decided_is in
    let same : first.d ≡ second.d = same_Some first.d second.d (sym still ∙ second.decided_is) in
    let keys : k ≡ key = sym second.key_is ∙ ap (λ (z : Decision). z.key) (sym same) ∙ first.key_is in
    bar_off run.repos (past_at run b) x.entry (past_at run a) r j key first.d late occurs x.repo_is x.kind_is first.decided_is (subst (λ z. bar (past_at run b) r z ≡ Some j) keys stands)

-- **a job removes once**
pub gone_once : SentAreRead → (run : Run) (place other r j : ℕ) (key k : List ℕ) → IsRun run → IsAt run place r (Gone (by_job j) key) → IsAt run other r (Gone (by_job j) k) → other ≡ place
gone_once reads_back run place other r j key k h x y = same_place other place (λ lt. gone_twice reads_back run other place r j k key h y x lt) (λ lt. gone_twice reads_back run place other r j key k h x y lt)

-- ---- frames by their numbers

sent_step : (e : Entry) (past : List Entry) (w : Way) → length (frames_sent past w) ≤ length (frames_sent (e ∷ past) w)
sent_step e past w = go (is_of (sender_of w) e)
  where
    go : (b : Bool) → length (frames_sent past w) ≤ length (if b then frames_sent past w ++ map (flying_frame e past) (on_way w e) else frames_sent past w)
    go true = omega (arith, length-append (frames_sent past w) (map (flying_frame e past) (on_way w e)))
    go false = omega arith

taken_step : (e : Entry) (past : List Entry) (w : Way) → taken_count past w ≤ taken_count (e ∷ past) w
taken_step e past w = go (is_of (taker_of w) e && takes w e.taken)
  where
    go : (b : Bool) → taken_count past w ≤ (if b then taken_count past w + 1 else taken_count past w)
    go true = omega arith
    go false = omega arith

-- one entry sends a frame
sends_apart : (run : Run) (a b : ℕ) (w : Way) (n : ℕ) → SendsFrame run a w n → SendsFrame run b w n → a < b → ⊥
sends_apart run a b w n x y lt =
    let more = grows (λ past. length (frames_sent past w)) (λ e past. sent_step e past w) run (a + 1) b (omega (arith, lt)) in
    omega (arith, x.reached, y.fewer, more)

-- and one takes it
takes_apart : SentAreRead → (run : Run) (a b r : ℕ) (w : Way) (n : ℕ) → IsRun run → TakesFrame run a r w n → TakesFrame run b r w n → a < b → ⊥
takes_apart reads_back run a b r w n h x y lt =
    let m = (meets_at reads_back run a x.entry h x.entry_is).frames r x.f x.repo_is x.takes_it in
    let k = (meets_at reads_back run b y.entry h y.entry_is).frames r y.f y.repo_is y.takes_it in
    let first : n ≡ taken_count (past_at run a) w + 1 = sym x.seq_is ∙ m.seq_is ∙ ap (λ z. taken_count (past_at run a) z + 1) x.way_is in
    let second : n ≡ taken_count (past_at run b) w + 1 = sym y.seq_is ∙ k.seq_is ∙ ap (λ z. taken_count (past_at run b) z + 1) y.way_is in
    let after : taken_count (past_at run (a + 1)) w ≡ taken_count (past_at run a) w + 1 = ap (λ past. taken_count past w) (past_next run a x.entry x.entry_is) ∙ counts x in
    let more = grows (λ past. taken_count past w) (λ e past. taken_step e past w) run (a + 1) b (omega (arith, lt)) in
    omega (arith, first, second, after, more)
  where
    counts : (x : TakesFrame run a r w n) → taken_count (x.entry ∷ past_at run a) w ≡ taken_count (past_at run a) w + 1
    counts x =
        let own : is_of (taker_of (way_of r x.f)) x.entry ≡ true = subst (λ q. is_of q x.entry ≡ true) (sym (taker_way r x.f)) x.repo_is in
        let on : takes (way_of r x.f) x.entry.taken ≡ true = subst (λ o. takes (way_of r x.f) o ≡ true) (sym x.takes_it) (on_own r x.f) in
        subst (λ z. taken_count (x.entry ∷ past_at run a) z ≡ taken_count (past_at run a) z + 1) x.way_is (rw (own, on) refl)

-- where a frame of the way stands, its entry sent it
sent_place : (past : List Entry) (w : Way) (k : ℕ) (it : FlyingFrame) → slice_get (frames_sent past w) k ≡ Some it → (length (frames_sent it.before w) ≤ k) × (k < length (frames_sent (it.entry ∷ it.before) w))
sent_place [] w k it h = absurd (get_none k it h)
sent_place (e ∷ past) w k it h = go (λ g. sent_place past w k it g) (is_of (sender_of w) e) refl h
  where
    new : length (frames_sent past w) ≤ k → Member it (map (flying_frame e past) (on_way w e)) → (length (frames_sent it.before w) ≤ k) × (k < length (frames_sent (it.entry ∷ it.before) w))
    new le m =
        let t = member_mapped (flying_frame e past) (on_way w e) it m in
        let within : k < length (frames_sent (e ∷ past) w) = slice_get_within (frames_sent (e ∷ past) w) k it h in
        subst (λ (x : FlyingFrame). (length (frames_sent x.before w) ≤ k) × (k < length (frames_sent (x.entry ∷ x.before) w))) (sym t.2) (le, within)

    go : (slice_get (frames_sent past w) k ≡ Some it → (length (frames_sent it.before w) ≤ k) × (k < length (frames_sent (it.entry ∷ it.before) w))) → (b : Bool) → is_of (sender_of w) e ≡ b
        → slice_get (if b then frames_sent past w ++ map (flying_frame e past) (on_way w e) else frames_sent past w) k ≡ Some it → (length (frames_sent it.before w) ≤ k) × (k < length (frames_sent (it.entry ∷ it.before) w))
    go ih false is g = ih g
    go ih true is g = elim (there_or_end (frames_sent past w) k) [
      | inl y ↦ (let same : y.0 ≡ it = same_Some y.0 it (sym (slice_get-left (frames_sent past w) (map (flying_frame e past) (on_way w e)) k y.0 y.1) ∙ g) in ih (y.1 ∙ ap (λ z. Some z) same))
      | inr le ↦ elim (get_append (frames_sent past w) (map (flying_frame e past) (on_way w e)) k it g) [ inl s ↦ ih s | inr m ↦ new le m ]
    ]

-- the entry at this place sent the frame that is taken
sends_at : (run : Run) (place r : ℕ) (f : FrameView) (t : MayTake (past_at run place) (way_of r f) f) → (w : Placed run place t.it.entry t.it.before) → SendsFrame run w.at (way_of r f) f.seq
sends_at run place r f t w =
    let way = way_of r f in
    let at = sent_place (past_at run place) way (taken_count (past_at run place) way) t.it t.next in
    let before : length (frames_sent t.it.before way) ≡ length (frames_sent (past_at run w.at) way) = ap (λ past. length (frames_sent past way)) w.before_is in
    let after : length (frames_sent (t.it.entry ∷ t.it.before) way) ≡ length (frames_sent (past_at run (w.at + 1)) way) =
    ap (λ past. length (frames_sent (t.it.entry ∷ past) way)) w.before_is ∙ ap (λ past. length (frames_sent past way)) (sym (past_next run w.at t.it.entry w.entry_is)) in
    record {
      entry = t.it.entry;
      entry_is = w.entry_is;
      repo_is = (sending (past_at run place) way (taken_count (past_at run place) way) t.it t.next).repo_is;
      fewer = omega (arith, at.0, before, t.seq_is);
      reached = omega (arith, at.1, after, t.seq_is);
    }

-- **a removal by a peer obeys one order, of one job**
pub order_obeyed : SentAreRead → (run : Run) (place r a slot : ℕ) (key : List ℕ) → IsRun run → IsAt run place r (Gone (Peer a slot) key) → HasOrder run place r a key
order_obeyed reads_back run place r a slot key h x =
    let past = past_at run place in
    let m = meets_at reads_back run place x.entry h x.entry_is in
    let ob = (m.own r x.repo_is).obeys a slot key x.kind_is in
    let k : Obeying.Takes run.repos past x.entry r a key =
    record { run = messages_at reads_back run place h; now' = m; is = x.repo_is; f = ob.f; takes_it = ob.takes_it; from_client = ob.from_client; peer_is = ob.peer_is; deadline = ob.deadline; asked_is = ob.asked_is; soon = ob.soon; same_clock = ob.same_clock } in
    let t = m.frames r ob.f x.repo_is ob.takes_it in
    let o = ordered_by run.repos past x.entry r a key k t in
    let w = occurs_at run place t.it.entry t.it.before o.occurs in
    let order : IsAt run w.at a (Order o.j r ob.deadline o.need key) = record { entry = t.it.entry; entry_is = w.entry_is; repo_is = o.repo_is; kind_is = o.kind_is } in
    let sends = sends_at run place r ob.f t w in
    let takes_it : TakesFrame run place r (way_of r ob.f) ob.f.seq = record { entry = x.entry; entry_is = x.entry_is; repo_is = x.repo_is; f = ob.f; takes_it = ob.takes_it; way_is = refl; seq_is = refl } in
    record {
      w = way_of r ob.f;
      n = ob.f.seq;
      taken = takes_it;
      from_a = sender_way r ob.f ∙ ob.peer_is;
      j = o.j;
      deadline = ob.deadline;
      need = o.need;
      says_it = ob.asked_is;
      at = w.at;
      earlier = w.earlier;
      order = order;
      sends = sends;
      job = orderer run w.at a o.j r ob.deadline o.need key h order;
      judge_is = order_judge past x.entry r a slot o.j r ob.deadline o.need key key (sending_entry t.it) x.repo_is x.kind_is (sender_at past r x.entry.taken ob.f t.it ob.takes_it t.next) o.kind_is
          ∙ ap (λ before. let judge : Judge = record { repo = a; job = o.j; past = before } in Some judge) w.before_is;
      one_order = λ other y. same_place other w.at (λ lt. sends_apart run other w.at (way_of r ob.f) ob.f.seq y sends lt) (λ lt. sends_apart run w.at other (way_of r ob.f) ob.f.seq sends y lt);
      once = λ other y. same_place other place (λ lt. takes_apart reads_back run other place r (way_of r ob.f) ob.f.seq h y takes_it lt) (λ lt. takes_apart reads_back run place other r (way_of r ob.f) ob.f.seq h takes_it y lt);
    }

-- ---- no order is obeyed twice

-- an entry that sends one frame alone sends the frame of this number by it
one_on : (w : Way) (past : List Entry) (e : Entry) (g : FrameView) (n : ℕ) → e.sent ≡ g ∷ [] → is_of (sender_of w) e ≡ true → length (frames_sent past w) < n → n ≤ length (frames_sent (e ∷ past) w)
    → (is_on w (taker_of w) g ≡ true) × (n ≡ length (frames_sent past w) + 1)
one_on w past e g n alone is fewer reached = go (is_on w (taker_of w) g) refl
  where
    len : length (frames_sent (e ∷ past) w) ≡ length (frames_sent past w) + length (map (flying_frame e past) (filter (is_on w (taker_of w)) (g ∷ [])))
    len = ap (λ xs. length xs) (step is) ∙ length-append (frames_sent past w) (map (flying_frame e past) (on_way w e)) ∙ ap (λ gs. length (frames_sent past w) + length (map (flying_frame e past) (filter (is_on w (taker_of w)) gs))) alone
      where
        step : is_of (sender_of w) e ≡ true → frames_sent (e ∷ past) w ≡ frames_sent past w ++ map (flying_frame e past) (on_way w e)
        step own = rw own refl

    few : (b : Bool) → is_on w (taker_of w) g ≡ b → length (map (flying_frame e past) (filter (is_on w (taker_of w)) (g ∷ []))) ≡ cond b 1 0
    few true on = rw on refl
    few false on = rw on refl

    go : (b : Bool) → is_on w (taker_of w) g ≡ b → (is_on w (taker_of w) g ≡ true) × (n ≡ length (frames_sent past w) + 1)
    go true on = (on, let one : length (map (flying_frame e past) (filter (is_on w (taker_of w)) (g ∷ []))) ≡ 1 = few true on in omega (arith, fewer, reached, len, one))
    go false on = let none : length (map (flying_frame e past) (filter (is_on w (taker_of w)) (g ∷ []))) ≡ 0 = few false on in absurd (omega (arith, fewer, reached, len, none))

-- the way and the number of what the entry at a place sends alone
sent_alone : (run : Run) (at a : ℕ) (w : Way) (n : ℕ) (e : Entry) (g : FrameView) → slice_get run.entries at ≡ Some e → e.sent ≡ g ∷ [] → sender_of w ≡ a → SendsFrame run at w n
    → (way_from a g ≡ w) × (n ≡ length (frames_sent (past_at run at) (way_from a g)) + 1)
sent_alone run at a w n e g is alone from s =
    let same : s.entry ≡ e = same_Some s.entry e (sym s.entry_is ∙ is) in
    let own : is_of (sender_of w) e ≡ true = subst (λ (x : Entry). is_of (sender_of w) x ≡ true) same s.repo_is in
    let reached : n ≤ length (frames_sent (e ∷ past_at run at) w) = subst (λ past. n ≤ length (frames_sent past w)) (past_next run at e is) s.reached in
    let t = one_on w (past_at run at) e g n alone own s.fewer reached in
    let way : way_from a g ≡ w = subst (λ q. way_from q g ≡ w) from (way_sent w g t.0) in
    (way, t.1 ∙ ap (λ z. length (frames_sent (past_at run at) z) + 1) (sym way))

takes_same : (run : Run) (place r q : ℕ) (v w : Way) (m n : ℕ) → r ≡ q → v ≡ w → m ≡ n → TakesFrame run place r v m → TakesFrame run place q w n
takes_same run place r q v w m n a b c t = record { entry = t.entry; entry_is = t.entry_is; repo_is = subst (λ x. is_of x t.entry ≡ true) a t.repo_is; f = t.f; takes_it = t.takes_it; way_is = ways; seq_is = t.seq_is ∙ c }
  where
    ways : way_of q t.f ≡ w
    ways = ap (λ x. way_of x t.f) (sym a) ∙ t.way_is ∙ b

-- **an order is obeyed once**
pub obeyed_once : SentAreRead → (run : Run) (place other r q a b : ℕ) (key k : List ℕ) → IsRun run → (x : HasOrder run place r a key) → (y : HasOrder run other q b k) → x.at ≡ y.at → other ≡ place
obeyed_once reads_back run place other r q a b key k h x y at =
    let e = x.order.entry in
    let there : slice_get run.entries y.at ≡ Some e = subst (λ n. slice_get run.entries n ≡ Some e) at x.order.entry_is in
    let same : y.order.entry ≡ e = same_Some y.order.entry e (sym y.order.entry_is ∙ there) in
    let kinds : Order y.j q y.deadline y.need k ≡ Order x.j r x.deadline x.need key = sym y.order.kind_is ∙ ap (λ (z : Entry). z.kind) same ∙ x.order.kind_is in
    let target : q ≡ r = cc in
    let repo : b ≡ a = same_repo e b a (subst (λ (z : Entry). is_of b z ≡ true) same y.order.repo_is) x.order.repo_is in
    let g = order_alone reads_back run x.at a x.j r x.deadline x.need key h x.order in
    let first = sent_alone run x.at a x.w x.n e g.0 x.order.entry_is g.1 x.from_a x.sends in
    let second = sent_alone run y.at a y.w y.n e g.0 there g.1 (y.from_a ∙ repo) y.sends in
    let way : y.w ≡ x.w = sym second.0 ∙ first.0 in
    let number : y.n ≡ x.n = second.1 ∙ ap (λ z. length (frames_sent (past_at run z) (way_from a g.0)) + 1) (sym at) ∙ sym first.1 in
    x.once other (takes_same run other q r y.w x.w y.n x.n target way number y.taken)
