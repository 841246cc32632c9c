-- The judgement of a local drop.
use Rattle.std.proofs.Common.{◌≡◌, ℕ, Bool, true, false, List, [], Option, Some, None, sym, ap, ◌∙◌}
use Rattle.std.specs.Prelude.{find, nat_lt, if◌then◌else◌}
use Rattle.drop_proof.specs.declared.evidence.Evidence.{Evidence}
use Rattle.drop_proof.specs.declared.rule.Side.TheVariants.{Local}
use Rattle.drop_proof.specs.Judging.{is_enough, least_end}
use Rattle.drop_proof.specs.declared.rule.Judged.{Judged}
use Rattle.drop_proof.specs.declared.rule.Judged.TheVariants as judgements
use Rattle.drop_proof.specs.declared.rule.Need.{Need}
use Rattle.annex_base.specs.declared.kinds.Call.{Call}
use Rattle.node_model.specs.Evidence.{candidates, gather, reached_candidates}
use Rattle.content_lock.specs.Rows.{Rows}
use Rattle.node_model.specs.Jobs.{Drops, drop_side, side_of, target_of}
use Rattle.drop_phases.specs.Worker.{Worker}
use Rattle.drop_phases.specs.Working.{Rest, Sight, turn_in, work_of}
use Rattle.drop_phases.specs.Doing.{removes_now}
use Rattle.node_model.specs.Knows.{enough_by, known_by, next_by}
use Rattle.node_model.specs.JobStep.{Turn, clock_of, ends, locked_peers}
use Rattle.node_model.specs.DropStep.{expiry, first_end, in_time}
use Rattle.node_model.specs.Turns.{judge_needs, judges, next_needs, next_step}
use Rattle.drop_judging.specs.declared.judging.Verdict.TheVariants as verdicts
use Rattle.drop_judging.specs.Judging.{asks_of, evidence_of, offer_of, needs_by, others_in, step_by}

removes_so : (t : Turn) → side_of t.w ≡ Local → enough_by t.read t.w ≡ true → in_time (clock_of t) (first_end t) ≡ true → step_by verdicts.Removes t ≡ next_step t Drops
removes_so t side enough soon =
    sym ((λ i. judges t (enough i) (next_by t.read t.w) (side i)) ∙ ap (λ (b : Bool). if b then removes_now t else ends t None (expiry (clock_of t) (first_end t))) soon)

late_so : (t : Turn) (end clock : ℕ) → side_of t.w ≡ Local → enough_by t.read t.w ≡ true → first_end t ≡ Some end → clock_of t ≡ clock → nat_lt clock end ≡ false
    → step_by (verdicts.Late end clock) t ≡ next_step t Drops
late_so t end clock side enough first now late =
    sym ((λ i. judges t (enough i) (next_by t.read t.w) (side i))
    ∙ (ap (λ (b : Bool). if b then removes_now t else ends t None (expiry (clock_of t) (first_end t))) ((λ i. in_time (now i) (first i)) ∙ late) ∙ (λ i. ends t None (expiry (now i) (first i)))))

asks_so : (t : Turn) (peer : ℕ) → enough_by t.read t.w ≡ false → next_by t.read t.w ≡ Some peer → step_by (verdicts.Asks peer) t ≡ next_step t Drops
asks_so t peer enough next = sym (λ i. judges t (enough i) (next i) (side_of t.w))

lacks_so : (t : Turn) → enough_by t.read t.w ≡ false → next_by t.read t.w ≡ None → step_by verdicts.Lacks t ≡ next_step t Drops
lacks_so t enough next = sym (λ i. judges t (enough i) (next i) (side_of t.w))

-- ---- the same of the peers to which it may send

removes_needs : (t : Turn) → side_of t.w ≡ Local → enough_by t.read t.w ≡ true → in_time (clock_of t) (first_end t) ≡ true → needs_by verdicts.Removes t ≡ next_needs t Drops
removes_needs t side enough soon =
    sym ((λ i. judge_needs t (enough i) (next_by t.read t.w) (side i)) ∙ ap (λ (b : Bool). if b then [] else locked_peers t) soon)

late_needs : (t : Turn) (end clock : ℕ) → side_of t.w ≡ Local → enough_by t.read t.w ≡ true → in_time (clock_of t) (first_end t) ≡ false
    → needs_by (verdicts.Late end clock) t ≡ next_needs t Drops
late_needs t end clock side enough late =
    sym ((λ i. judge_needs t (enough i) (next_by t.read t.w) (side i)) ∙ ap (λ (b : Bool). if b then [] else locked_peers t) late)

asks_needs : (t : Turn) (peer : ℕ) → enough_by t.read t.w ≡ false → next_by t.read t.w ≡ Some peer → needs_by (verdicts.Asks peer) t ≡ next_needs t Drops
asks_needs t peer enough next = sym (λ i. judge_needs t (enough i) (next i) (side_of t.w))

lacks_needs : (t : Turn) → enough_by t.read t.w ≡ false → next_by t.read t.w ≡ None → needs_by verdicts.Lacks t ≡ next_needs t Drops
lacks_needs t enough next = sym (λ i. judge_needs t (enough i) (next i) (side_of t.w))

-- what it knows, as it was gathered
module _ (x : Sight) (rows : Rows) (p : List ℕ → Bool) (fails : Option Call) (rest : Rest) (w : Worker) (need : Need) (items : List Evidence) (local : drop_side w.job.kind w.job.peer ≡ Local)
    (needs : need ≡ x.read.need) (is : items ≡ evidence_of Local x.read w (others_in x.read) []) where
  abbrev turn : Turn
  turn = turn_in x rows p fails rest w

  known_is : items ≡ known_by x.read (work_of rest w)
  known_is =
      is ∙ (λ i. gather (sym local i) x.read.need (offer_of x.read w) (reached_candidates (asks_of x.read w) (candidates (sym local i) x.read.count x.read.repo (target_of x.read.repo (work_of rest w)))) [])

  next_is : find (asks_of x.read w) (others_in x.read) ≡ next_by x.read (work_of rest w)
  next_is = λ i. find (asks_of x.read w) (candidates (sym local i) x.read.count x.read.repo (target_of x.read.repo (work_of rest w)))

  enough_is : is_enough Local need items ≡ enough_by x.read (work_of rest w)
  enough_is = λ i. is_enough (sym local i) (needs i) (known_is i)

  pub removes_by : (end : Option ℕ) → is_enough Local need items ≡ true → least_end items ≡ end → in_time (x.read.clock x.time) end ≡ true → (step_by verdicts.Removes turn ≡ next_step turn Drops) × (needs_by verdicts.Removes turn ≡ next_needs turn Drops)
  removes_by end enough first soon =
      let in_it : in_time (clock_of turn) (first_end turn) ≡ true = ap (λ (l : List Evidence). in_time (x.read.clock x.time) (least_end l)) (sym known_is) ∙ (ap (in_time (x.read.clock x.time)) first ∙ soon) in
      (removes_so turn local (sym enough_is ∙ enough) in_it, removes_needs turn local (sym enough_is ∙ enough) in_it)

  pub late_by : (end clock : ℕ) → is_enough Local need items ≡ true → least_end items ≡ Some end → x.read.clock x.time ≡ clock → nat_lt clock end ≡ false
      → (step_by (verdicts.Late end clock) turn ≡ next_step turn Drops) × (needs_by (verdicts.Late end clock) turn ≡ next_needs turn Drops)
  late_by end clock enough first now late =
      let at : first_end turn ≡ Some end = ap least_end (sym known_is) ∙ first in
      (late_so turn end clock local (sym enough_is ∙ enough) at now late, late_needs turn end clock local (sym enough_is ∙ enough) ((λ i. in_time (now i) (at i)) ∙ late))

  pub asks_by' : (peer : ℕ) → is_enough Local need items ≡ false → find (asks_of x.read w) (others_in x.read) ≡ Some peer → (step_by (verdicts.Asks peer) turn ≡ next_step turn Drops) × (needs_by (verdicts.Asks peer) turn ≡ next_needs turn Drops)
  asks_by' peer lacks found = (asks_so turn peer (sym enough_is ∙ lacks) (sym next_is ∙ found), asks_needs turn peer (sym enough_is ∙ lacks) (sym next_is ∙ found))

  pub lacks_by : is_enough Local need items ≡ false → find (asks_of x.read w) (others_in x.read) ≡ None → (step_by verdicts.Lacks turn ≡ next_step turn Drops) × (needs_by verdicts.Lacks turn ≡ next_needs turn Drops)
  lacks_by lacks none = (lacks_so turn (sym enough_is ∙ lacks) (sym next_is ∙ none), lacks_needs turn (sym enough_is ∙ lacks) (sym next_is ∙ none))

pub end_was : (need : Need) (items : List Evidence) (end : Option ℕ) (r : Judged) → r ≡ judgements.Enough end → (is_enough Local need items ≡ true → r ≡ judgements.Enough (least_end items))
    → is_enough Local need items ≡ true → least_end items ≡ end
end_was need items end r is when enough = let both : judgements.Enough (least_end items) ≡ judgements.Enough end = sym (when enough) ∙ is in cc
