-- To which peers the next step of a remote drop may send more than a Close.
use Rattle.std.proofs.Common.{◌≡◌, ℕ, Bool, true, false, List, [], ◌∷◌, filter, Option, Some, None, Result, Ok, Err, Vec, Global, sym, ap, ◌∙◌}
use Rattle.std.specs.Prelude.{IfOk, ◌&&◌, find, if◌then◌else◌, nat_lt}
use Rattle.annex_base.specs.declared.kinds.Call.{Call}
use Rattle.annex_base.specs.declared.memory.NoMemory.{NoMemory}
use Rattle.drop_proof.specs.declared.evidence.Evidence.{Evidence}
use Rattle.drop_proof.specs.declared.rule.Need.{Need}
use Rattle.drop_proof.specs.declared.rule.Side.TheVariants.{Remote}
use Rattle.drop_proof.specs.Judging.{is_enough, least_end}
use Rattle.node_model.specs.Ends.{End, EndName}
use Rattle.node_model.specs.Jobs.{Drops, side_of}
use Rattle.node_model.specs.JobStep.{Turn, end_with}
use Rattle.node_model.specs.Knows.{Reading, next_by}
use Rattle.node_model.specs.Turns.{judge_needs, needs, next_needs, target_needs}
use Rattle.content_lock.specs.Rows.{Rows}
use Rattle.drop_phases.specs.declared.phase.Phase.{Phase}
use Rattle.drop_phases.specs.declared.phase.Phase.TheVariants as phases
use Rattle.drop_phases.specs.Worker.{Worker}
use Rattle.drop_phases.specs.Working.{Rest, Sight, phase_as, sight, turn_in}
use Rattle.drop_judging.specs.Judging.{asks_of, is_owing, others_in}
use Rattle.remote_requests.specs.Remote.{IsRemote, known_remotely, remote_candidates, target_room}
use Rattle.remote_requests.proofs.Losing.{target_is}
use Rattle.remote_requests.proofs.RemoteVerdicts.{end_is, enough_is, next_is}

module _ (x : Sight) (rows : Rows) (p : List ℕ → Bool) (fails : Option Call) (rest : Rest) (w : Worker) (target : ℕ) (remote : IsRemote target w) where
  abbrev turn : Turn
  turn = turn_in x rows p fails rest w

  -- ---- where it is to judge

  module _ (need : Need) (items : List Evidence) (needs_same : need ≡ x.read.need) (is : items ≡ known_remotely x.read target w) where
    room_is : (end : Option ℕ) → target_room x.ends w target end ≡ target_needs turn end
    room_is None = ap (λ (n : ℕ). n ∷ []) (sym (target_is rest w target x.read.repo remote))
    room_is (Some end) = λ i. let n = sym (target_is rest w target x.read.repo remote) i in if (end_with turn n).opened && nat_lt w.version 3 then [] else n ∷ []

    pub target_next : (end : Option ℕ) → is_enough Remote need items ≡ true → end ≡ least_end items → target_room x.ends w target end ≡ next_needs turn Drops
    target_next end enough least =
        room_is end ∙ (ap (target_needs turn) (least ∙ end_is x rows p fails rest w need items target remote needs_same is)
        ∙ sym (λ i. judge_needs turn ((sym (enough_is x rows p fails rest w need items target remote needs_same is) ∙ enough) i) (next_by turn.read turn.w) (remote.side i)))

    pub peer_next : (peer : ℕ) → is_enough Remote need items ≡ false → find (asks_of x.read w) (remote_candidates x.read target) ≡ Some peer → peer ∷ [] ≡ next_needs turn Drops
    peer_next peer lacks found =
        sym (λ i. judge_needs turn ((sym (enough_is x rows p fails rest w need items target remote needs_same is) ∙ lacks) i) ((sym (next_is x rows p fails rest w need items target remote needs_same is) ∙ found) i) (side_of turn.w))

    pub none_next : is_enough Remote need items ≡ false → find (asks_of x.read w) (remote_candidates x.read target) ≡ None → filter (is_owing x.ends w) (others_in x.read) ≡ next_needs turn Drops
    none_next lacks none =
        sym (λ i. judge_needs turn ((sym (enough_is x rows p fails rest w need items target remote needs_same is) ∙ lacks) i) ((sym (next_is x rows p fails rest w need items target remote needs_same is) ∙ none) i) (side_of turn.w))

-- ---- at each turn of the worker

module _ (read : Reading) (ends_at : EndName → End) (w : Worker) where
  abbrev Needs : (Turn → List ℕ) → List ℕ → Type 0
  Needs asked peers = (time number : ℕ) (rows : Rows) (p : List ℕ → Bool) (fails : Option Call) (rest : Rest) → peers ≡ asked (turn_in (sight read ends_at time number) rows p fails rest w)

  pub next_all : w.phase ≡ phases.Next → (r : Result (Vec ℕ Global) NoMemory) → IfOk r (λ peers. Needs (λ t. next_needs t Drops) peers.items) → IfOk r (λ peers. Needs (λ t. needs t (phase_as w.phase)) peers.items)
  next_all at (Ok peers) is = λ time number rows p fails rest.
      is time number rows p fails rest ∙ ap (λ (ph : Phase). needs (turn_in (sight read ends_at time number) rows p fails rest w) (phase_as ph)) (sym at)
  next_all at (Err e) is = tt

  module _ (target : ℕ) (remote : IsRemote target w) where
    module _ (need : Need) (items : List Evidence) (needs_same : need ≡ read.need) (known : items ≡ known_remotely read target w) where
      pub target_all : (end : Option ℕ) → is_enough Remote need items ≡ true → end ≡ least_end items → (r : Result (Vec ℕ Global) NoMemory) → IfOk r (λ peers. peers.items ≡ target_room ends_at w target end)
          → IfOk r (λ peers. Needs (λ t. next_needs t Drops) peers.items)
      target_all end enough least (Ok peers) is = λ time number rows p fails rest. is ∙ target_next (sight read ends_at time number) rows p fails rest w target remote need items needs_same known end enough least
      target_all end enough least (Err e) is = tt

      pub peer_all : (peer : ℕ) → is_enough Remote need items ≡ false → find (asks_of read w) (remote_candidates read target) ≡ Some peer → (r : Result (Vec ℕ Global) NoMemory) → IfOk r (λ peers. peers.items ≡ peer ∷ [])
          → IfOk r (λ peers. Needs (λ t. next_needs t Drops) peers.items)
      peer_all peer lacks found (Ok peers) is = λ time number rows p fails rest. is ∙ peer_next (sight read ends_at time number) rows p fails rest w target remote need items needs_same known peer lacks found
      peer_all peer lacks found (Err e) is = tt

      pub none_all : is_enough Remote need items ≡ false → find (asks_of read w) (remote_candidates read target) ≡ None → (r : Result (Vec ℕ Global) NoMemory)
          → IfOk r (λ peers. peers.items ≡ filter (is_owing ends_at w) (others_in read)) → IfOk r (λ peers. Needs (λ t. next_needs t Drops) peers.items)
      none_all lacks none (Ok peers) is = λ time number rows p fails rest. is ∙ none_next (sight read ends_at time number) rows p fails rest w target remote need items needs_same known lacks none
      none_all lacks none (Err e) is = tt
