-- The steps of a script that aren't turns keep what holds: each of their entries may come at any time.
use Rattle.std.proofs.Common.{◌≡◌, ℕ, ◌+◌, ◌<◌, ◌≤◌, Bool, true, false, List, [], ◌∷◌, ◌++◌, Option, Some, None, inl, inr, refl, sym, ap, ◌∙◌, subst, arith, ◌≢◌}
use Rattle.std.specs.Prelude.{if◌then◌else◌, ◌==◌, not, drop, length, map, nat_lt}
use Rattle.std.specs.List.{range_with_len}
use Rattle.std.proofs.lemmas.Bool.Decides.{nat_tests}
use Rattle.std.proofs.lemmas.List.{append-nil}
use Rattle.annex_base.specs.Lists.{Each, Member}
use Rattle.annex_base.specs.declared.kinds.Call.{Call}
use Rattle.annex_base.proofs.Lists.{Each-from_members, Each-push, Member-filter_from, Member-flat_map}
use Rattle.annex_base.proofs.Numbers.{Member-range}
use Rattle.annex_key.specs.KeyText.{IsKeyText}
use Rattle.run_data.specs.declared.entry.Entry.{Entry}
use Rattle.run_data.specs.declared.entry.EntryKind.{EntryKind}
use Rattle.run_data.specs.declared.entry.EntryKind.TheVariants as kinds
use Rattle.run_data.specs.declared.entry.By.TheVariants.{Script}
use Rattle.run_data.specs.declared.entry.FrameView.{FrameView}
use Rattle.run_data.specs.declared.job.Job.{Job}
use Rattle.run_data.specs.declared.job.Outcome.{Outcome}
use Rattle.run_data.specs.declared.run.TreeMark.{TreeMark}
use Rattle.run_model.specs.Frames.{sender_of, frames_sent, taken_count, taker_of}
use Rattle.run_model.specs.Past.{begun_count, is_of, now}
use Rattle.node_model.specs.SetUp.{SetUp, others}
use Rattle.node_model.specs.State.{State}
use Rattle.node_model.specs.Ends.{End, EndName}
use Rattle.run_model.specs.States.{end_at, works}
use Rattle.node_model.specs.AnyTime.{IsPeer, MayCome, all_ends, close_at, closes_all, ends_with, is_scripts}
use Rattle.run_model.specs.Run.{ComesAfter, IsSmall}
use Rattle.driver_model.specs.Driver.{Driver, Flight, DriverInput, answers, entry, fails_at, newest_count, notes, set_up_of, state_at}
use Rattle.driver_model.specs.ScriptSteps.{begins, unless_fails, closes, closes_each, closes_end, crashes, ends_at, enters, faults, lacks_places, sends, waits, will_fail}
use Rattle.driver_model.specs.Scripts.{IsJob}
use Rattle.driver_model.specs.Sound.{ComeInTurn, ComesDown, GoesToOther, IsOfOpening, IsSound}
use Rattle.driver_model.specs.Ways.{Flies, IsOver, other_end, numbered_body, bodies_sent, way_out}
use Rattle.driver_model.proofs.Premises.{Laws}
use Rattle.driver_model.proofs.WayNumbers.{order_other, sent_same_as}
use Rattle.driver_model.proofs.Holding.{Keeps, NewEntry, entry_on, keeps_adds, tree_on}
use Rattle.driver_model.proofs.Turned.{keeps_answers}

-- ---- one entry

ends_none : (s : SetUp) (st : State) (lines : List (List ℕ)) (frames_sent : List FrameView) (kind : EntryKind) (j : ℕ) (outcome : Outcome) → MayCome s st lines frames_sent kind → kind ≡ kinds.End j outcome → ⊥
ends_none s st lines frames_sent kind j outcome may is = subst (MayCome s st lines frames_sent) is may

-- an entry that may come at any time, and takes none
pub come_entry : (g : DriverInput) (d : Driver) (r : ℕ) (kind : EntryKind) (lines : List (List ℕ)) (frames_sent : List FrameView) → r < length g.repos → MayCome (set_up_of g d r) (state_at g d r) lines frames_sent kind
    → NewEntry g d r (record (entry d r kind lines) { sent = frames_sent })
come_entry g d r kind lines frames_sent known may = record {
  words = λ c. None;
  repo_is = refl;
  time_is = refl;
  count_is = refl;
  own = record { known = known; does = inr (record { may = may; takes_none = refl }) };
  first = λ f i. absurd (cc);
  tells = λ j outcome is c. absurd (ends_none (set_up_of g d r) (state_at g d r) lines frames_sent kind j outcome may is);
}

-- an entry that only sends
pub keeps_sends : Laws → (g : DriverInput) (d : Driver) (r : ℕ) (kind : EntryKind) (frames_sent : List FrameView) → r < length g.repos → (IsSound g d → MayCome (set_up_of g d r) (state_at g d r) [] frames_sent kind) → Keeps g d → Keeps g (sends g r kind frames_sent d)
keeps_sends laws g d r kind frames_sent known may k = keeps_adds laws g d r (state_at g d r) (record (entry d r kind []) { sent = frames_sent }) k (λ h fits fit. come_entry g d r kind [] frames_sent known (may h))

-- an entry that sends nothing
pub keeps_notes : Laws → (g : DriverInput) (d : Driver) (r : ℕ) (kind : EntryKind) (lines : List (List ℕ)) → r < length g.repos → (IsSound g d → IsSmall kind → MayCome (set_up_of g d r) (state_at g d r) lines [] kind) → Keeps g d → Keeps g (notes r kind lines d)
keeps_notes laws g d r kind lines known may k fits =
    let h = keeps_adds laws g d r (state_at g d r) (entry d r kind lines) k (λ h fits fit. come_entry g d r kind lines [] known (may h fit.small)) fits in
    record {
      run = h.run;
      flies = λ q a n. subst (λ xs. Flies (entry d r kind lines ∷ d.past) xs q a n) (append-nil d.flights) (h.flies q a n);
      order = h.order;
      down = subst (Each ComesDown) (append-nil d.flights) h.down;
      apart = subst (Each GoesToOther) (append-nil d.flights) h.apart;
      openings = subst (Each (IsOfOpening (entry d r kind lines ∷ d.past))) (append-nil d.flights) h.openings;
      turn = subst ComeInTurn (append-nil d.flights) h.turn;
      parts = h.parts;
      keys = h.keys;
    }

-- ---- store calls

pub keeps_faults : Laws → (g : DriverInput) (d : Driver) (r : ℕ) (call : Call) → r < length g.repos → is_scripts call ≡ true → Keeps g d → Keeps g (faults r call d)
keeps_faults laws g d r call known is k = keeps_notes laws g (answers r call d) r (kinds.Fault call Script) [] known (λ h small. (is, refl, refl)) (keeps_answers g d r call k)

pub keeps_calling : Laws → (g : DriverInput) (d : Driver) (r : ℕ) (call : Call) (done : Driver) → r < length g.repos → is_scripts call ≡ true → Keeps g d → (fails_at d r call ≡ false → Keeps g done) → Keeps g (unless_fails r call d done)
keeps_calling laws g d r call done known is k more = go (fails_at d r call) refl
  where
    go : (b : Bool) → fails_at d r call ≡ b → Keeps g (if b then faults r call d else done)
    go true i = keeps_faults laws g d r call known is k
    go false i = more i

-- ---- jobs

pub peer_same : (g : DriverInput) (d : Driver) (r : ℕ) (job : Job) → IsJob g r job → IsPeer (set_up_of g d r) job.kind job.peer
peer_same g d r job x = go job.peer x.peer
  where
    go : (p : Option ℕ) → IsPeer (record { number = r; repos = g.repos; paths = λ j. [] }) job.kind p → IsPeer (set_up_of g d r) job.kind p
    go None y = y
    go (Some p) y = y

pub keeps_begins : Laws → (g : DriverInput) (d : Driver) (r : ℕ) (job : Job) → r < length g.repos → IsJob g r job → Keeps g d → Keeps g (begins r job d)
keeps_begins laws g d r job known x k = go (nat_lt (length (works d.past r)) 4) refl
  where
    free : nat_lt (length (works d.past r)) 4 ≡ true → length (works d.past r) < 4
    free i = grind (arith, nat_tests)

    go : (b : Bool) → nat_lt (length (works d.past r)) 4 ≡ b → Keeps g (if b then notes r (kinds.Begin (begun_count d.past r + 1) job) [] d else d)
    go true i = keeps_notes laws g d r (kinds.Begin (begun_count d.past r + 1) job) [] known (λ h small. (record { number_is = refl; slot_free = free i; peer = peer_same g d r job x; valid = x.valid }, refl, refl)) k
    go false i = k

-- ---- closes and crashes

-- another repository is among the others
pub other_is : (s : SetUp) (peer : ℕ) → peer < length s.repos → peer ≢ s.number → Member peer (others s)
other_is s peer known apart = Member-filter_from (λ x. not (x == s.number)) (range_with_len 0 (length s.repos)) peer (Member-range 0 (length s.repos) peer (omega arith) (omega (arith, known))) (rw differs refl)
  where
    differs : (peer == s.number) ≡ false
    differs = go (peer == s.number) refl
      where
        go : (b : Bool) → (peer == s.number) ≡ b → b ≡ false
        go false e = refl
        go true e = absurd (apart (grind (arith, nat_tests)))

each_close : Laws → (g : DriverInput) (r : ℕ) → r < length g.repos → (ends : List EndName) → ((d : Driver) → Each (λ a. Member a (all_ends (set_up_of g d r))) ends) → (d : Driver) → Keeps g d → Keeps g (closes_each g r ends d)
each_close laws g r known [] all d k = k
each_close laws g r known (a ∷ ends) all d k = each_close laws g r known ends (λ d. (all d).1) (closes_end g r a d) (go (end_at d.past r a).opened refl)
  where
    go : (b : Bool) → (end_at d.past r a).opened ≡ b → Keeps g (if b then sends g r (kinds.Close a.peer a.slot a.client) (close_at (set_up_of g d r) (state_at g d r) a) d else d)
    go true i = keeps_sends laws g d r (kinds.Close a.peer a.slot a.client) (close_at (set_up_of g d r) (state_at g d r) a) known (λ h. ((all d).0, i, refl, refl)) k
    go false i = k

keeps_all_closed : Laws → (g : DriverInput) (d : Driver) (r other : ℕ) → r < length g.repos → other < length g.repos → other ≢ r → Keeps g d → Keeps g (closes_each g r (ends_at other) d)
keeps_all_closed laws g d r other known there apart k = each_close laws g r known (ends_with other true ++ ends_with other false) (λ d. Each-from_members (λ a. Member a (all_ends (set_up_of g d r))) (ends_with other true ++ ends_with other false) (λ a m. at d a m)) d k
  where
    at : (d : Driver) (a : EndName) → Member a (ends_with other true ++ ends_with other false) → Member a (all_ends (set_up_of g d r))
    at d a m = Member-flat_map (λ peer. ends_with peer true ++ ends_with peer false) (others (set_up_of g d r)) other a (other_is (set_up_of g d r) other there apart) m

pub keeps_closes : Laws → (g : DriverInput) (d : Driver) (r other : ℕ) → r < length g.repos → other < length g.repos → other ≢ r → Keeps g d → Keeps g (closes g r other d)
keeps_closes laws g d r other known there apart k = go (lacks_places d.past r other)
  where
    go : (b : Bool) → Keeps g (if b then d else closes_each g r (ends_at other) d)
    go true = k
    go false = keeps_all_closed laws g d r other known there apart k

pub keeps_crashes : Laws → (g : DriverInput) (d : Driver) (r clock : ℕ) → r < length g.repos → Keeps g d → Keeps g (crashes g r clock d)
keeps_crashes laws g d r clock known k = keeps_sends laws g d r (kinds.Crash clock) (closes_all (set_up_of g d r) (state_at g d r)) known (λ h. (refl, refl)) k

-- ---- time, the tree, and lines that fail calls

flies_other : (past : List Entry) (xs : List Flight) (e : Entry) → ((r : ℕ) → is_of r e ≡ false) → (r : ℕ) (a : EndName) (n : ℕ) → Flies past xs r a n → Flies (e ∷ past) xs r a n
flies_other past xs e none r a n (inl o) = inl (subst (λ (c : End). IsOver c n) (sym same) o)
  where
    same : end_at (e ∷ past) a.peer (other_end r a) ≡ end_at past a.peer (other_end r a)
    same = rw (none a.peer) refl
flies_other past xs e none r a n (inr l) = inr (record {
  inside = subst (λ k. k ≤ length (bodies_sent (e ∷ past) (way_out r a n))) (sym count) (subst (λ zs. taken_count past (way_out r a n) ≤ length zs) (sym told_same) l.inside);
  same = l.same ∙ ap (drop (taken_count past (way_out r a n))) (sym told_same) ∙ ap (λ k. drop k (bodies_sent (e ∷ past) (way_out r a n))) (sym count);
})
  where
    count : taken_count (e ∷ past) (way_out r a n) ≡ taken_count past (way_out r a n)
    count = rw (none (taker_of (way_out r a n))) refl

    told_same : bodies_sent (e ∷ past) (way_out r a n) ≡ bodies_sent past (way_out r a n)
    told_same = ap (map numbered_body) (sent_same_as e past (way_out r a n) (none (sender_of (way_out r a n))))

pub keeps_waits : Laws → (g : DriverInput) (d : Driver) (milliseconds : ℕ) → Keeps g d → Keeps g (waits milliseconds d)
keeps_waits laws g d ms k fits =
    let h = k (fits.0.1, fits.1) in
    let fit = fits.0.0 in
    record {
      run = entry_on laws g d.tree d.marks d.past e h.run
          (record { order = record { after = after_newest' d.past; time_is = refl; in_time = fit.in_time; counted = fit.counted; small = tt }; may = record { takes_none = refl; sends_none = refl; no_lines = refl } });
      flies = λ r a n. flies_other d.past d.flights e (λ q. refl) r a n (h.flies r a n);
      order = λ r a n. order_other r a n d.past e refl (h.order r a n);
      down = h.down;
      apart = h.apart;
      openings = h.openings;
      turn = h.turn;
      parts = h.parts;
      keys = h.keys;
    }
  where
    e : Entry
    e = record { time = now d.past + ms; count = newest_count d.past + 1; repo = None; kind = kinds.Wait ms; taken = None; sent = []; lines = [] }

    after_newest' : (past : List Entry) → ComesAfter past (record { time = now d.past + ms; count = newest_count past + 1; repo = None; kind = kinds.Wait ms; taken = None; sent = []; lines = [] })
    after_newest' [] = tt
    after_newest' (f ∷ past) = inr (inl (omega arith))

pub keeps_enters : Laws → (g : DriverInput) (d : Driver) (path key : List ℕ) → IsKeyText key → Keeps g d → Keeps g (enters path key d)
keeps_enters laws g d path key text k fits =
    let h = k fits in
    record { run = tree_on laws g d.tree d.marks d.past (record { place = length d.past; path = path; key = key }) refl h.run; flies = h.flies; order = h.order; down = h.down; apart = h.apart; openings = h.openings; turn = h.turn; parts = h.parts; keys = Each-push (λ (m : TreeMark). IsKeyText m.key) d.tree (record { place = length d.past; path = path; key = key }) h.keys text }

pub keeps_will_fail : (g : DriverInput) (d : Driver) (r : ℕ) (call : Call) → Keeps g d → Keeps g (will_fail r call d)
keeps_will_fail g d r call k fits = let h = k fits in record { run = h.run; flies = h.flies; order = h.order; down = h.down; apart = h.apart; openings = h.openings; turn = h.turn; parts = h.parts; keys = h.keys }
