-- What an entry has that is permitted after a run, and the run with it.
use Rattle.std.proofs.Common.{◌≡◌, ℕ, ◌<◌, ◌≤◌, Bool, true, false, List, [], ◌∷◌, ◌++◌, length, Option, Some, None, refl, sym, ap, subst, ◌∙◌, arith, inl}
use Rattle.std.specs.Prelude.{◌&&◌, map, reverse}
use Rattle.annex_base.specs.Lists.{Each, Member as Among}
use Rattle.annex_base.proofs.Lists.{Each-member, Member-append_right}
use Rattle.run_data.specs.declared.entry.Entry.{Entry}
use Rattle.run_data.specs.declared.entry.EntryKind.{EntryKind}
use Rattle.run_data.specs.declared.entry.EntryKind.TheVariants.{Begin, Crash, Log}
use Rattle.run_data.specs.declared.run.Run.{Run}
use Rattle.node_model.specs.Jobs.{Work}
use Rattle.node_model.specs.Rows.{option_is}
use Rattle.run_model.specs.Frames.{Way, on_way, sender_of, taker_of, takes}
use Rattle.run_model.specs.Run.{IsRun, IsSmall, MayBe, RunPast, RunStep, set_up}
use Rattle.driver_model.specs.Logged.{LogsWell}
use Rattle.past_facts.proofs.OwnRuns.{own_past}
use Rattle.step_facts.proofs.Below.{SentAreRead}
use Rattle.state_files.specs.Changes.{LogsLines}
use Rattle.state_flights.specs.Flights.{flight_on}
use Rattle.state_rows.specs.Changes.{SetsClock}
use Rattle.step_judging.specs.Carried.{Flight, flight_after, flight_sent, flight_took, is_ordered_by, judge_of, takes_next, waits_as, words_at_end}
use Rattle.step_judging.specs.Rules.{broken_rule, first_broken, has_row, is_own}
use Rattle.step_state.specs.Peers.{HasPeersIn}
use Rattle.step_rules.specs.Members.{BeginsWith}
use Rattle.step_rules.specs.Runs.{with_entry}
use Rattle.step_rules.specs.States.{HasBegun, IsAfter}
use Rattle.step_rules.specs.declared.run_state.RunState.{RunState}
use Rattle.step_rules.proofs.After.{StaysJudge}
use Rattle.step_rules.proofs.Alone.{StatesAgree, works_are}
use Rattle.step_rules.proofs.Carrying.{PathsKept, paths_begin, reverse_more}
use Rattle.step_rules.proofs.Peers.{has_peers}
use Rattle.step_rules.proofs.Rules.{CarryLaw, rule_is}
use Rattle.step_rules.proofs.Starts.{NextLaw, have_paths}

abbrev pub EntryGrows : Type 0
EntryGrows = (run : Run) (e : Entry) → IsRun run → RunStep (set_up run) (reverse run.entries) e → IsRun (record run { entries = run.entries ++ e ∷ [] })

abbrev pub LogsLaw : Type 0
LogsLaw = (run : Run) → IsRun run → Each (λ e. LogsWell e.kind e.lines) run.entries

-- none of the rules is broken
fourth_holds : (a b c d : Bool) → first_broken ((1, a) ∷ (2, b) ∷ (3, c) ∷ (4, d) ∷ []) ≡ None → d ≡ true
fourth_holds true true true true e = refl
fourth_holds true true true false e = absurd (cc)
fourth_holds true true false d e = absurd (cc)
fourth_holds true false c d e = absurd (cc)
fourth_holds false b c d e = absurd (cc)

-- an entry of no repository leaves the frames on their way
pub wait_flight : (w : Way) (was : Flight) (e : Entry) → e.repo ≡ None → flight_after w was e ≡ was
wait_flight w was e none = ap (λ (o : Option ℕ). flight_sent (option_is o (sender_of w)) (map (waits_as e.kind) (on_way w e)) (flight_took (option_is o (taker_of w) && takes w e.taken) was)) none

lines_are : (kind : EntryKind) (lines : List (List ℕ)) → LogsWell kind lines → LogsLines kind lines
lines_are (Log file) lines is = (is.0, is.2.each)
lines_are kind lines is = tt

clock_is : (kind : EntryKind) → IsSmall kind → SetsClock kind
clock_is (Crash clock) small = omega (arith, small)
clock_is kind small = tt

begins_with : (run : Run) (e : Entry) (r taken : ℕ) (begun : List (List ℕ)) → e.repo ≡ Some r → length run.entries ≡ taken → (kind : EntryKind) → e.kind ≡ kind → HasBegun run.tree taken kind begun
    → BeginsWith (set_up (with_entry run e) r) kind begun
begins_with run e r taken begun own count (Begin job what) is has =
    paths_begin run e r job what own is ∙ sym (subst (λ (n : ℕ). HasBegun run.tree n (Begin job what) begun) (sym count) has)
begins_with run e r taken begun own count kind is has = tt

module _ (next : NextLaw) (grow : EntryGrows) (x : RunState) (e : Entry) (run : Run) (after : IsAfter x run) (allowed : broken_rule (set_up run) (reverse run.entries) e ≡ None) where
  abbrev past : List Entry
  past = reverse run.entries

  step : RunStep (set_up run) past e
  step = (next run past e after.lawful.repos after.lawful.steps).0 allowed

  pub lawful_more : IsRun (with_entry run e)
  lawful_more = grow run e after.lawful step

  pub in_time : e.time ≤ 1000000000000
  in_time = step.order.in_time

  pub sets_clock : SetsClock e.kind
  sets_clock = clock_is e.kind step.order.small

  pub logs_lines : LogsLaw → LogsLines e.kind e.lines
  logs_lines logs = lines_are e.kind e.lines
      (Each-member (λ (y : Entry). LogsWell y.kind y.lines) (with_entry run e).entries e (logs (with_entry run e) lawful_more) (Member-append_right run.entries (e ∷ []) e (inl refl)))

  pub stays : PathsKept → StatesAgree → StaysJudge run e (judge_of (set_up run) past)
  stays keep agree r w among =
      let steps = (subst (RunPast (set_up (with_entry run e))) (reverse_more run e) lawful_more.steps).1 in
      have_paths keep run e lawful_more steps r w (subst (λ (ws : List Work). Among w ws) (works_are agree run after.lawful.repos past after.lawful.steps r) among)

  module _ (r : ℕ) (own : e.repo ≡ Some r) where
    part : MayBe (set_up run) past e (Some r)
    part = subst (MayBe (set_up run) past e) own step.may

    pub known_here : r < length x.repos.now
    known_here = subst (λ repos. r < length repos) after.repos part.1.known

    pub peers_here : SentAreRead → HasPeersIn (length x.repos.now) e
    peers_here reads_back = subst (λ repos. HasPeersIn (length repos) e) after.repos
        (has_peers reads_back (set_up run r) past part.0 e (own_past run after.lawful.repos r past after.lawful.steps).run part.1)

    pub takes_here : CarryLaw → takes_next (flight_on x.flights) r e.taken ≡ true
    takes_here carry =
        let j = judge_of (set_up run) past in
        let same : j.flights ≡ flight_on x.flights = λ i. λ w. after.judge.flights w i in
        ap (λ (f : Way → Flight). takes_next f r e.taken) (sym same)
        ∙ fourth_holds (is_ordered_by j.newest e) (has_row (j.states r) e) (is_own (set_up run r) (j.states r) (words_at_end (j.words r) e.kind) e) (takes_next j.flights r e.taken)
        (rule_is carry x run e (Some r) after own ∙ allowed)

    pub begins_here : (begun : List (List ℕ)) → HasBegun x.trees.marks.now x.taken e.kind begun → BeginsWith (set_up (with_entry run e) r) e.kind begun
    begins_here begun has = begins_with run e r x.taken begun own after.taken e.kind refl (subst (λ marks. HasBegun marks x.taken e.kind begun) (sym after.tree) has)
