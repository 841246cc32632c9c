-- What each test of an entry says of the rules.
use Rattle.std.proofs.Common.{◌≡◌, ℕ, ◌<◌, ◌≤◌, Bool, true, false, [], ◌∷◌, length, Option, Some, refl, sym, ap, ◌∙◌, arith}
use Rattle.std.specs.Prelude.{◌&&◌, ◌||◌, nat_le, nat_lt, reverse, slice_get, ◌^◌}
use Rattle.std.proofs.lemmas.Bool.{and_parts}
use Rattle.std.proofs.lemmas.Bool.Decides.{nat_tests}
use Rattle.run_data.specs.declared.entry.Entry.{Entry}
use Rattle.run_data.specs.declared.entry.FrameView.{FrameView}
use Rattle.run_data.specs.declared.run.Run.{Run}
use Rattle.node_model.specs.After.{first_state}
use Rattle.node_model.specs.State.{State}
use Rattle.run_model.specs.Frames.{Way}
use Rattle.run_model.specs.Run.{set_up}
use Rattle.state_flights.specs.Flights.{flight_on}
use Rattle.step_judging.specs.Carried.{Flight, Judge, breaks_by, follows, is_ordered_by, judge_of, takes_next, time_now, words_at_end}
use Rattle.step_judging.specs.Rules.{comes, first_broken, has_row, is_own, is_small, is_step, is_time}
use Rattle.step_rules.specs.Members.{IsBounded}
use Rattle.step_rules.specs.States.{IsAfter, IsCarried}
use Rattle.step_rules.specs.declared.member.Member.{Member}
use Rattle.step_rules.specs.declared.run_state.RunState.{RunState}
use Rattle.step_rules.proofs.Places.{each_at, place_in}

pub ordered_time : (newest : Option Entry) (e : Entry) → is_ordered_by newest e ≡ true → e.time ≤ 1000000000000
ordered_time newest e is =
    let a = follows newest e && is_time (time_now newest) e e.kind e.repo in
    let one = and_parts (a && nat_le e.time 1000000000000 && nat_lt e.count (2 ^ 62)) (is_small e.kind) is in
    let two = and_parts (a && nat_le e.time 1000000000000) (nat_lt e.count (2 ^ 62)) one.0 in
    let low = (and_parts a (nat_le e.time 1000000000000) two.0).1 in
    grind (arith, nat_tests)

abbrev pub judge : Run → Judge
judge run = judge_of (set_up run) (reverse run.entries)

pub takes_same : (x : RunState) (run : Run) → IsAfter x run → (r : ℕ) (o : Option FrameView) → takes_next (judge run).flights r o ≡ takes_next (flight_on x.flights) r o
takes_same x run after r o =
    let same : (judge run).flights ≡ flight_on x.flights = λ i. λ w. after.judge.flights w i in
    ap (λ (f : Way → Flight). takes_next f r o) same

module _ (x : RunState) (carried : IsCarried x) (r : ℕ) (m : Member) (at : slice_get x.members.items r ≡ Some m) where
  pub known : (run : Run) → IsAfter x run → r < length run.repos
  known run after =
      let low = place_in x.members.items r m at in
      let count = carried.count in
      let same = ap length after.repos in omega (arith, low, count, same)

  pub bounded : IsBounded (length x.repos.now) x.taken m
  bounded = each_at (IsBounded (length x.repos.now) x.taken) x.members.items r m carried.members at

-- an entry of no repository of the run
pub unknown : (x : RunState) → IsCarried x → (run : Run) → IsAfter x run → (e : Entry) (r : ℕ) → length x.members.items ≤ r
    → first_broken ((1, is_ordered_by (judge run).newest e) ∷ (2, has_row (first_state (set_up run r)) e) ∷ (3, false) ∷ (4, takes_next (judge run).flights r e.taken) ∷ [])
    ≡ breaks_by (set_up run) (judge run) e (Some r)
unknown x carried run after e r far =
    let j = judge run in
    let words = words_at_end (j.words r) e.kind in
    let own : is_own (set_up run r) (j.states r) words e ≡ false = ap (λ (b : Bool). b && (is_step (set_up run r) (j.states r) words e || comes (set_up run r) (j.states r) e)) (beyond (nat_lt r (length run.repos)) refl) in
    ap (λ (st : State). first_broken ((1, is_ordered_by j.newest e) ∷ (2, has_row st e) ∷ (3, false) ∷ (4, takes_next j.flights r e.taken) ∷ [])) (sym (after.judge.others r far))
    ∙ ap (λ (b : Bool). first_broken ((1, is_ordered_by j.newest e) ∷ (2, has_row (j.states r) e) ∷ (3, b) ∷ (4, takes_next j.flights r e.taken) ∷ [])) (sym own)
  where
    beyond : (b : Bool) → nat_lt r (length run.repos) ≡ b → b ≡ false
    beyond false is = refl
    beyond true is =
        let count = carried.count in
        let same = ap length after.repos in
        let apart : length run.repos ≤ r = omega (arith, far, count, same) in
        absurd (grind (arith, nat_tests))
