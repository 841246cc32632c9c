-- What holds of the driver as it goes on: its entries are a run, and the frames on their way are those that were sent and not taken.
use Rattle.std.proofs.Common.{◌≡◌, ◌≢◌, ℕ, ◌+◌, Bool, true, false, List, [], ◌∷◌, ◌++◌, Option, Some, None, inl, inr, refl, sym, ap, ◌∙◌, subst, arith}
use Rattle.std.specs.Prelude.{length, map, reverse}
use Rattle.std.proofs.lemmas.List.{length-reverse, reverse-append, reverse-reverse}
use Rattle.annex_base.specs.Lists.{Each}
use Rattle.annex_base.specs.declared.kinds.Word.{Word}
use Rattle.annex_base.proofs.Conditions.{eqb_refl}
use Rattle.annex_base.proofs.Lists.{Each-append, Each-map, Each-middle}
use Rattle.run_data.specs.declared.entry.Entry.{Entry}
use Rattle.run_data.specs.declared.entry.EntryKind.{EntryKind}
use Rattle.run_data.specs.declared.entry.EntryKind.TheVariants.{Wait, End as ends_job}
use Rattle.run_data.specs.declared.entry.FrameView.{FrameView}
use Rattle.run_data.specs.declared.job.Outcome.{Outcome}
use Rattle.run_data.specs.declared.run.Run.{Run}
use Rattle.run_data.specs.declared.run.TreeMark.{TreeMark}
use Rattle.run_model.specs.Past.{Occurs, is_of, now}
use Rattle.node_model.specs.Rows.{option_is}
use Rattle.node_model.specs.SetUp.{SetUp}
use Rattle.node_model.specs.Ends.{EndName, is_opening}
use Rattle.node_model.specs.State.{State}
use Rattle.run_model.specs.Run.{ComesAfter, IsRun, MayBe, OwnPart, RunPast, RunStep, TimeIs, paths_at, set_up}
use Rattle.run_model.specs.Words.{word_told}
use Rattle.driver_model.specs.Driver.{Driver, Flight, DriverInput, adds, but_taken, flight, is_at, newest_count, set_up_of}
use Rattle.driver_model.specs.Scripts.{IsWithinBounds, HasBoundedPast}
use Rattle.driver_model.specs.Sound.{ComesDown, GoesToOther, IsOfOpening, IsSound}
use Rattle.driver_model.specs.Ways.{InOrder}
use Rattle.driver_model.proofs.FrameNumbers.{TakesWell}
use Rattle.driver_model.proofs.InFlight.{IsFirst, flies_adds, may_be_taken}
use Rattle.driver_model.proofs.InTurn.{but_each, openings_add, turn_adds, turn_taken}
use Rattle.driver_model.proofs.Premises.{Laws}
use Rattle.driver_model.proofs.WayNumbers.{order_other, order_own}
use Rattle.std.proofs.lemmas.Bool.{eqb-true}

-- ---- the run so far

abbrev pub set_up_on : DriverInput → List TreeMark → List Entry → ℕ → SetUp
set_up_on g tree past r = record { number = r; repos = g.repos; paths = paths_at tree past r }

-- the run with these entries, the newest first
abbrev pub run_on : DriverInput → List TreeMark → List ℕ → List Entry → Run
run_on g tree marks past = record { repos = g.repos; entries = reverse past; tree = tree; marks = marks }

-- one more entry that may come makes one more run
pub entry_on : Laws → (g : DriverInput) (tree : List TreeMark) (marks : List ℕ) (past : List Entry) (e : Entry) → IsRun (run_on g tree marks past) → RunStep (set_up_on g tree past) past e
    → IsRun (run_on g tree marks (e ∷ past))
entry_on laws g tree marks past e run step = subst (λ (es : List Entry). IsRun (record { repos = g.repos; entries = es; tree = tree; marks = marks })) (sym (reverse-append (e ∷ []) past))
    (laws.entry (run_on g tree marks past) e run (subst (λ (z : List Entry). RunStep (set_up_on g tree z) z e) (sym (reverse-reverse past)) step))

-- so does one more change of the tree
pub tree_on : Laws → (g : DriverInput) (tree : List TreeMark) (marks : List ℕ) (past : List Entry) (m : TreeMark) → m.place ≡ length past → IsRun (run_on g tree marks past)
    → IsRun (run_on g (tree ++ m ∷ []) marks past)
tree_on laws g tree marks past m at run = let same = length-reverse past in laws.tree (run_on g tree marks past) m (omega (arith, same, at)) run

-- its steps, the newest first
pub steps_on : (g : DriverInput) (tree : List TreeMark) (marks : List ℕ) (past : List Entry) → IsRun (run_on g tree marks past) → RunPast (set_up (run_on g tree marks past)) past
steps_on g tree marks past run = subst (RunPast (set_up (run_on g tree marks past))) (reverse-reverse past) run.steps

-- ---- what holds

-- what holds of the driver, where it is within bounds
abbrev pub Keeps : DriverInput → Driver → Type 0
Keeps g d = HasBoundedPast d → IsSound g d

-- ---- one more entry of a repository

after_newest : (past : List Entry) (e : Entry) → e.count ≡ newest_count past + 1 → ComesAfter past e
after_newest [] e i = tt
after_newest (f ∷ past) e i = inr (inl (omega (arith, i)))

left_each : (P : Flight → Type 0) (r : ℕ) (o : Option FrameView) (xs : List Flight) → Each P xs → Each P (but_taken r o xs)
left_each P r None xs a = a
left_each P r (Some f) xs a = but_each P (is_at r f) xs a

-- the time of an entry that isn't a wait
time_of : (before r : ℕ) (e : Entry) (kind : EntryKind) → e.time ≡ before → TimeIs before e kind (Some r)
time_of before r e (Wait ms) j = j
time_of before r e kind j = j

-- an entry of r that may come now
pub record NewEntry (g : DriverInput) (d : Driver) (r : ℕ) (e : Entry) : Type 0 where
  pub words : ℕ → Option Word
  pub repo_is : e.repo ≡ Some r
  pub time_is : e.time ≡ now d.past
  pub count_is : e.count ≡ newest_count d.past + 1
  pub own : OwnPart (set_up_of g d r) d.past words e
  pub first : (f : FrameView) → e.taken ≡ Some f → IsFirst r f d.flights
  pub tells : (j : ℕ) (outcome : Outcome) → e.kind ≡ ends_job j outcome → (c : ℕ) → words c ≡ word_told d.past r j c

module _ (laws : Laws) (g : DriverInput) (d : Driver) (h : IsSound g d) (r : ℕ) (e : Entry) (x : NewEntry g d r e) where
  takes_well : TakesWell e.taken
  takes_well f i u =
      let y = x.first f i in
      ap (λ (g : FrameView). is_opening g.body) (sym y.frame_is) ∙ Each-middle ComesDown y.front y.x y.back (subst (Each ComesDown) y.split h.down) (ap (λ (g : FrameView). g.up) y.frame_is ∙ u)

  pub entry_step : IsWithinBounds d.past e → RunStep (set_up_on g d.tree d.past) d.past e
  entry_step fit = record {
    order = record {
      after = after_newest d.past e x.count_is;
      time_is = subst (TimeIs (now d.past) e e.kind) (sym x.repo_is) (time_of (now d.past) r e e.kind x.time_is);
      in_time = fit.in_time;
      counted = fit.counted;
      small = fit.small;
    };
    may = subst (MayBe (set_up_on g d.tree d.past) d.past e) (sym x.repo_is) (
      x.words,
      x.own,
      record {
        takes = λ f i. may_be_taken laws.entries (set_up_of g d r) d.past x.words e x.own x.repo_is d.flights x.first f i
            (h.flies f.peer (record { peer = r; slot = f.slot; client = f.up }) f.epoch) (h.order f.peer (record { peer = r; slot = f.slot; client = f.up }) f.epoch);
        tells = x.tells;
      },
    );
  }

  order_adds : (q : ℕ) (a : EndName) (n : ℕ) → InOrder (e ∷ d.past) q a n
  order_adds q a n = go (is_of q e) refl
    where
      go : (b : Bool) → is_of q e ≡ b → InOrder (e ∷ d.past) q a n
      go false i = order_other q a n d.past e i (h.order q a n)
      go true i =
          let same : r ≡ q = eqb-true r q (ap (λ o. option_is o q) (sym x.repo_is) ∙ i) in
          subst (λ k. InOrder (e ∷ d.past) k a n) same
          (order_own laws.entries (set_up_of g d r) a n d.past x.words e (ap (is_of' e) same ∙ i) x.own takes_well (h.order r a n))
        where
          is_of' : Entry → ℕ → Bool
          is_of' e k = is_of k e

  run_now : IsWithinBounds d.past e → IsRun (run_on g d.tree d.marks (e ∷ d.past))
  run_now fit = entry_on laws g d.tree d.marks d.past e h.run (entry_step fit)

  -- it sends to others alone
  sends_out : IsWithinBounds d.past e → Each (λ f. f.peer ≢ r) e.sent
  sends_out fit = laws.others (run_on g d.tree d.marks (e ∷ d.past)) e d.past r (run_now fit)
      (subst (λ (z : List Entry). Occurs z e d.past) (sym (reverse-reverse (e ∷ d.past))) (inl (refl, refl)))
      (ap (λ o. option_is o r) x.repo_is ∙ eqb_refl r)

  pub adds_holds : (st : State) → IsWithinBounds d.past e → IsSound g (adds st r e d)
  adds_holds st fit = record {
    run = run_now fit;
    flies = λ q a n. flies_adds laws.entries (set_up_of g d r) d.past x.words e x.own x.repo_is d.flights x.first q a n d st (h.flies q a n);
    order = order_adds;
    down = Each-append ComesDown (but_taken r e.taken d.flights) (map (flight d st r) e.sent) (left_each ComesDown r e.taken d.flights h.down)
        (Each-map ComesDown (flight d st r) e.sent (laws.entries.sends (set_up_of g d r) d.past x.words e x.own));
    apart = Each-append GoesToOther (but_taken r e.taken d.flights) (map (flight d st r) e.sent) (left_each GoesToOther r e.taken d.flights h.apart)
        (Each-map GoesToOther (flight d st r) e.sent (sends_out fit));
    openings = openings_add (set_up_of g d r) d.past x.words e x.own d st x.repo_is (but_taken r e.taken d.flights) (left_each (IsOfOpening d.past) r e.taken d.flights h.openings);
    turn = turn_adds (set_up_of g d r) d.past x.words e x.own d st (but_taken r e.taken d.flights) (left_each (IsOfOpening d.past) r e.taken d.flights h.openings) (turn_taken r e.taken d.flights h.turn);
    parts = h.parts;
    keys = h.keys;
  }

-- one more entry
pub keeps_adds : Laws → (g : DriverInput) (d : Driver) (r : ℕ) (st : State) (e : Entry) → Keeps g d → (IsSound g d → HasBoundedPast d → IsWithinBounds d.past e → NewEntry g d r e) → Keeps g (adds st r e d)
keeps_adds laws g d r st e k new fits =
    let before : HasBoundedPast d = (fits.0.1, fits.1) in
    adds_holds laws g d (k before) r e (new (k before) before fits.0.0) st fits.0.0
