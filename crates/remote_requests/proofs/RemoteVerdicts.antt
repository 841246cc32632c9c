-- The judgement of a remote drop.
use Rattle.std.proofs.Common.{◌≡◌, ℕ, Bool, true, false, List, [], Option, Some, None, sym, ap, ◌∙◌}
use Rattle.std.specs.Prelude.{find}
use Rattle.annex_base.specs.declared.kinds.Call.{Call}
use Rattle.drop_proof.specs.declared.evidence.Evidence.{Evidence}
use Rattle.drop_proof.specs.declared.rule.Need.{Need}
use Rattle.drop_proof.specs.declared.rule.Side.TheVariants.{Remote}
use Rattle.drop_proof.specs.Judging.{is_enough, least_end}
use Rattle.node_model.specs.Evidence.{candidates, gather, reached_candidates}
use Rattle.node_model.specs.Jobs.{Drops, side_of, target_of}
use Rattle.node_model.specs.JobStep.{Turn, ends}
use Rattle.node_model.specs.DropStep.{first_end, lacking_outcome}
use Rattle.node_model.specs.Knows.{enough_by, known_by, next_by}
use Rattle.node_model.specs.Requests.{goes_to}
use Rattle.node_model.specs.Turns.{judges, next_step}
use Rattle.content_lock.specs.Rows.{Rows}
use Rattle.drop_phases.specs.Worker.{Worker}
use Rattle.drop_phases.specs.Working.{Rest, Sight, turn_in, work_of}
use Rattle.drop_judging.specs.Judging.{asks_of, offer_of}
use Rattle.remote_requests.specs.Remote.{IsRemote, known_remotely, remote_candidates}
use Rattle.remote_requests.proofs.Losing.{target_is}

module _ (x : Sight) (rows : Rows) (p : List ℕ → Bool) (fails : Option Call) (rest : Rest) (w : Worker) (need : Need) (items : List Evidence) (target : ℕ) (remote : IsRemote target w)
    (needs : need ≡ x.read.need) (is : items ≡ known_remotely x.read target w) where
  abbrev turn : Turn
  turn = turn_in x rows p fails rest w

  at : target ≡ target_of x.read.repo (work_of rest w)
  at = sym (target_is rest w target x.read.repo remote)

  pub known_is : items ≡ known_by x.read (work_of rest w)
  known_is =
      is ∙ (λ i. gather (sym remote.side i) x.read.need (offer_of x.read w) (reached_candidates (asks_of x.read w) (candidates (sym remote.side i) x.read.count x.read.repo (at i))) [])

  pub next_is : find (asks_of x.read w) (remote_candidates x.read target) ≡ next_by x.read (work_of rest w)
  next_is = λ i. find (asks_of x.read w) (candidates (sym remote.side i) x.read.count x.read.repo (at i))

  pub enough_is : is_enough Remote need items ≡ enough_by x.read (work_of rest w)
  enough_is = λ i. is_enough (sym remote.side i) (needs i) (known_is i)

  pub end_is : least_end items ≡ first_end turn
  end_is = ap least_end known_is

  pub orders_by : is_enough Remote need items ≡ true → goes_to turn target ≡ next_step turn Drops
  orders_by enough =
      ap (goes_to turn) at ∙ sym (λ i. judges turn ((sym enough_is ∙ enough) i) (next_by turn.read turn.w) (remote.side i))

  pub asks_next : (peer : ℕ) → is_enough Remote need items ≡ false → find (asks_of x.read w) (remote_candidates x.read target) ≡ Some peer → goes_to turn peer ≡ next_step turn Drops
  asks_next peer lacks found = sym (λ i. judges turn ((sym enough_is ∙ lacks) i) ((sym next_is ∙ found) i) (side_of turn.w))

  pub lacks_next : is_enough Remote need items ≡ false → find (asks_of x.read w) (remote_candidates x.read target) ≡ None → ends turn None (lacking_outcome turn) ≡ next_step turn Drops
  lacks_next lacks none = sym (λ i. judges turn ((sym enough_is ∙ lacks) i) ((sym next_is ∙ none) i) (side_of turn.w))
