-- A job without a partner needs room for frames to other repositories alone.
use Rattle.std.proofs.Common.{◌≡◌, ℕ, Bool, true, false, List, [], ◌∷◌, Option, Some, None, inl, inr, refl, sym, ap, ◌∙◌, arith}
use Rattle.std.specs.Prelude.{if◌then◌else◌, ◌&&◌, ◌==◌, find, length, nat_lt, slice_get}
use Rattle.std.specs.List.{list_all}
use Rattle.std.specs.Option.{option_to_list}
use Rattle.annex_base.specs.Lists.{Each, Member}
use Rattle.annex_base.proofs.Conditions.{if_either}
use Rattle.annex_base.proofs.Lists.{Each-filter, Each-from_members, list_all-from_Each}
use Rattle.drop_proof.specs.declared.rule.Side.{Side}
use Rattle.drop_proof.specs.declared.rule.Side.TheVariants.{Local, Remote}
use Rattle.run_data.specs.declared.entry.Entry.{Entry}
use Rattle.run_data.specs.declared.job.Outcome.{Outcome}
use Rattle.node_model.specs.DropStep.{first_end, in_time, target}
use Rattle.node_model.specs.Jobs.{Drops, Fresh, Gets, Next, Part, Phase, Puts, PutsBytes, PutsWord, Work, partner, side_of}
use Rattle.node_model.specs.JobStep.{Turn, clock_of, end_needs, end_with, has_lock, locked_peers, turn_of}
use Rattle.node_model.specs.Knows.{enough_by, next_by}
use Rattle.node_model.specs.Look.{Look, entry_of}
use Rattle.node_model.specs.Rows.{is_lost_ordered}
use Rattle.node_model.specs.SetUp.{SetUp, others}
use Rattle.node_model.specs.TransferStep.{next_source, sources}
use Rattle.node_model.specs.Turns.{by_partner, goes, has_room, judge_needs, needs, next_needs, outcome_of, peer_needs, target_needs}
use Rattle.run_model.specs.Run.{OwnRun}
use Rattle.run_model.specs.States.{state_of, works}
use Rattle.step_facts.proofs.Below.{SentAreRead}
use Rattle.step_facts.proofs.JobSteps.{Stepped}
use Rattle.job_facts.proofs.JobOpens.{Called}
use Rattle.job_facts.proofs.OwnTried.{called_other}

module _ (reads_back : SentAreRead) (s : SetUp) (past : List Entry) (run : OwnRun s past) (k : Look) (w : Work) (runs : find (λ (v : Work). v.slot == w.slot) (works past s.number) ≡ Some w) (alone : partner w.what.peer w.phase ≡ None) where
  abbrev t : Turn
  t = turn_of s (state_of s past) k w

  -- where each end has room, the job goes on
  abbrev t' : Turn
  t' = turn_of s (state_of s past) (record k { room = λ a. true; part = 0 }) w

  all_room : (ps : List ℕ) → list_all (has_room t') ps ≡ true
  all_room ps = list_all-from_Each (has_room t') ps (Each-from_members (λ p. has_room t' p ≡ true) ps (λ p m. refl))

  does : by_partner t' (partner w.what.peer w.phase) ≡ Some (goes t' w.phase)
  does = ap (by_partner t') alone ∙ ap (λ (b : Bool). if b then Some (goes t' w.phase) else None) (all_room (needs t' w.phase))

  abbrev e : Entry
  e = entry_of s.number (record k { room = λ a. true; part = 0 }) (goes t' w.phase)

  abbrev y : Stepped s past e
  y = record { look = record k { room = λ a. true; part = 0 }; small = omega arith; made = goes t' w.phase; is = refl; w = w; slot = w.slot; runs = runs; does = does }

  called : (p : ℕ) → Called t' p → Member p (others s)
  called p c = called_other reads_back s past e run y p c

  source_same : next_source t ≡ next_source t'
  source_same = go w.what.peer
    where
      go : (o : Option ℕ) → slice_get (sources t o) (length w.causes) ≡ slice_get (sources t' o) (length w.causes)
      go None = refl
      go (Some p) = refl

  of_option : (o : Option ℕ) → ((p : ℕ) → o ≡ Some p → Member p (others s)) → Each (λ p. Member p (others s)) (option_to_list o)
  of_option None f = tt
  of_option (Some p) f = (f p refl, tt)

  locked : Each (λ p. Member p (others s)) (locked_peers t)
  locked = Each-filter (λ p. Member p (others s)) (λ peer. has_lock t peer && (end_with t peer).opened) (others s) (Each-from_members (λ p. Member p (others s)) (others s) (λ p m. m))

  of_peer : (part : Part) → Each (λ p. Member p (others s)) (peer_needs t part)
  of_peer Gets = of_option (next_source t) (λ p i. called p (inl (sym source_same ∙ i)))
  of_peer Puts = of_option w.what.peer (λ p i. called p (inr (inl i)))
  of_peer Drops = tt

  of_end : (outcome : Outcome) → Each (λ p. Member p (others s)) (end_needs t outcome)
  of_end outcome = if_either (Each (λ p. Member p (others s))) (is_lost_ordered outcome) [] (locked_peers t) (λ i. tt) (λ i. locked)

  of_target : Member (target t) (others s) → (o : Option ℕ) → Each (λ p. Member p (others s)) (target_needs t o)
  of_target m None = (m, tt)
  of_target m (Some end) = if_either (Each (λ p. Member p (others s))) ((end_with t (target t)).opened && nat_lt w.version 3) [] (target t ∷ []) (λ i. tt) (λ i. (m, tt))

  module _ (drops : w.part ≡ Drops) (next : w.phase ≡ Next) where
    of_judge : (enough : Bool) → enough_by t.read w ≡ enough → (o : Option ℕ) → next_by t.read w ≡ o → (side : Side) → side_of w ≡ side → Each (λ p. Member p (others s)) (judge_needs t enough o side)
    of_judge false i (Some p) j side same = (called p (inr (inr (drops, next, inl (i, j)))), tt)
    of_judge false i None j side same = locked
    of_judge true i o j Local same = if_either (Each (λ p. Member p (others s))) (in_time (clock_of t) (first_end t)) [] (locked_peers t) (λ i. tt) (λ i. locked)
    of_judge true i o j Remote same = of_target (called (target t) (inr (inr (drops, next, inr (i, same, refl))))) (first_end t)

  of_next : w.phase ≡ Next → (part : Part) → w.part ≡ part → Each (λ p. Member p (others s)) (next_needs t part)
  of_next next Drops drops = of_judge drops next (enough_by t.read w) refl (next_by t.read w) refl (side_of w) refl
  of_next next Gets i = of_peer Gets
  of_next next Puts i = of_peer Puts

  of_phase : (phase : Phase) → w.phase ≡ phase → partner w.what.peer phase ≡ None → Each (λ p. Member p (others s)) (needs t phase)
  of_phase Fresh is off = of_peer w.part
  of_phase Next is off = of_next is w.part refl
  of_phase (PutsBytes peer start at left) is off = absurd (cc)
  of_phase (PutsWord peer start) is off = absurd (cc)
  of_phase phase is off = of_end (outcome_of t phase)

  -- **each is another repository**
  pub needs_in : Each (λ p. Member p (others s)) (needs t w.phase)
  needs_in = of_phase w.phase refl alone
