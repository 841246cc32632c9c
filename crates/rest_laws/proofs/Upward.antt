-- Where a sound driver is settled, nothing flies up to a server's end that has room.
use Rattle.std.proofs.Common.{◌≡◌, ◌≢◌, ℕ, zero, suc, ◌<◌, ◌≤◌, Bool, true, false, List, [], ◌∷◌, Some, inl, inr, refl, sym, ap, ◌∙◌, subst, arith, true≢false}
use Rattle.std.specs.Prelude.{length, slice_get}
use Rattle.annex_base.specs.Lists.{Member}
use Rattle.annex_base.proofs.Lists.{slice_get-within}
use Rattle.node_model.specs.Ends.{is_opening, may_take, server_end}
use Rattle.node_model.specs.SetUp.{others, slots}
use Rattle.run_model.specs.Frames.{FlyingFrame, frames_sent, taken_count}
use Rattle.run_model.specs.Run.{RunPast, set_up}
use Rattle.run_model.specs.States.{end_at}
use Rattle.step_facts.proofs.Below.{SentAreRead}
use Rattle.step_facts.proofs.Flights.{get_none}
use Rattle.cause_laws.proofs.ConversationServer.{up_way}
use Rattle.cause_laws.proofs.Epochs.{client_end}
use Rattle.driver_model.specs.Driver.{Driver, DriverInput, Flight, has_room, set_up_of}
use Rattle.driver_model.specs.Driving.{run_with}
use Rattle.driver_model.specs.Sound.{IsSound}
use Rattle.driver_model.specs.Ways.{IsOver}
use Rattle.rest_laws.specs.Settled.{IsSettled}
use Rattle.rest_laws.proofs.Closings.{Stands, stands}
use Rattle.rest_laws.proofs.Comes.{closed_takes, first_next, first_opening, first_stays, first_young, open_takes}
use Rattle.rest_laws.proofs.Flown.{FliesOn, IsNext, next_flies, steps_of_it}
use Rattle.rest_laws.proofs.Leaving.{first_lowest, sent}
use Rattle.rest_laws.proofs.Openings.{HasTaken, has_taken, only_first}
use Rattle.rest_laws.proofs.Unturned.{IdleTurns, IsYoung}

get_below : {X : Type 0} (xs : List X) (k : ℕ) (x : X) → slice_get xs k ≡ Some x → k < length xs
get_below [] k x e = absurd (get_none k x e)
get_below (y ∷ ys) zero x e = omega arith
get_below (y ∷ ys) (suc k) x e = let l = get_below ys k x e in omega (arith, l)

module _ (reads_back : SentAreRead) (turns : IdleTurns) (g : DriverInput) (d : Driver) (sound : IsSound g d) (settled : IsSettled g d) (c v q : ℕ) (known : v < length g.repos)
    (mc : Member c (others (set_up_of g d v))) (mq : Member q slots) (apart : c ≢ v) (room : has_room v d.flights (server_end c q) ≡ true) where
  h : RunPast (set_up (run_with g d)) d.past
  h = steps_of_it g d sound

  taken : (n : ℕ) → HasTaken reads_back (run_with g d) sound.run.repos c v q (end_at d.past v (server_end c q)) n (taken_count d.past (up_way c v q n))
  taken n = has_taken reads_back (run_with g d) sound.run.repos c v q d.past h n

  module _ (x : Flight) (ys : List Flight) (e : sent c (client_end v q) d.flights ≡ x ∷ ys) where
    stays : may_take (end_at d.past v (server_end c q)) x.frame ≡ true → ⊥
    stays may = first_stays reads_back turns g d sound settled c v q known mc mq room x ys e may

    -- the server's end is open at that opening
    at_it : (end_at d.past v (server_end c q)).opened ≡ true → x.frame.epoch ≡ (end_at d.past v (server_end c q)).epoch → ⊥
    at_it opened same = stays (open_takes reads_back turns g d sound settled c v q known mc mq x ys e opened same (plain (is_opening x.frame.body) refl))
      where
        next : IsNext g d sound c (client_end v q) x
        next = first_next reads_back turns g d sound settled c v q known mc mq x ys e

        plain : (t : Bool) → is_opening x.frame.body ≡ t → t ≡ false
        plain false i = refl
        plain true i =
            let first : taken_count d.past (up_way c v q x.frame.epoch) ≡ 0 = only_first reads_back (run_with g d) sound.run.repos c v q d.past h x.frame.epoch (taken_count d.past (up_way c v q x.frame.epoch)) next.it next.next (ap is_opening next.body_is ∙ i) in
            let low = (taken x.frame.epoch).at_it (sym same) (subst (λ k. 1 ≤ k) (sym same) ((taken x.frame.epoch).begun opened)) in
            absurd (omega (arith, first, low))

    -- or at an older one, of which a Close is on its way
    older : (end_at d.past v (server_end c q)).opened ≡ true → (end_at d.past v (server_end c q)).epoch < x.frame.epoch → ⊥
    older opened later = go (stands reads_back (run_with g d) sound.run.repos c v q apart d.past h m low not_over)
      where
        m : ℕ
        m = (end_at d.past v (server_end c q)).epoch

        high : x.frame.epoch ≤ (end_at d.past c (client_end v q)).epoch
        high = first_opening reads_back turns g d sound settled c v q known mc mq x ys e

        low : (end_at d.past v (server_end c q)).epoch ≤ (end_at d.past c (client_end v q)).epoch
        low = let i = high in omega (arith, later, i)

        not_over : IsOver (end_at d.past v (server_end c q)) (end_at d.past v (server_end c q)).epoch → ⊥
        not_over (inl l) = omega (arith, l)
        not_over (inr z) = true≢false (sym opened ∙ z.1)

        go : Stands reads_back (run_with g d) sound.run.repos c v q d.past (end_at d.past v (server_end c q)).epoch → ⊥
        go (inl z) = let i = high in let j = z.0 in omega (arith, later, i, j)
        go (inr z) = elim (first_lowest c (client_end v q) d.flights x ys refl sound.turn e fly.z fly.flies fly.leaves) [
          | inl same ↦ (let i : fly.z.frame.epoch ≡ x.frame.epoch = ap (λ (y : Flight). y.frame.epoch) same in let j = fly.epoch_is in omega (arith, later, i, j))
          | inr l ↦ (let j = fly.epoch_is in omega (arith, later, l, j))
        ]
          where
            few : taken_count d.past (up_way c v q (end_at d.past v (server_end c q)).epoch) < length (frames_sent d.past (up_way c v q (end_at d.past v (server_end c q)).epoch))
            few = let i = get_below (frames_sent d.past (up_way c v q (end_at d.past v (server_end c q)).epoch)) z.place z.it z.at in let j = z.later in omega (arith, i, j)

            it : (y : FlyingFrame) × (slice_get (frames_sent d.past (up_way c v q (end_at d.past v (server_end c q)).epoch)) (taken_count d.past (up_way c v q (end_at d.past v (server_end c q)).epoch)) ≡ Some y)
            it = slice_get-within (frames_sent d.past (up_way c v q (end_at d.past v (server_end c q)).epoch)) (taken_count d.past (up_way c v q (end_at d.past v (server_end c q)).epoch)) few

            fly : FliesOn g d sound c (client_end v q) (end_at d.past v (server_end c q)).epoch it.0
            fly = next_flies g d sound c (client_end v q) (end_at d.past v (server_end c q)).epoch it.0 it.1 not_over

    no_first : ⊥
    no_first = go (end_at d.past v (server_end c q)).opened refl
      where
        go : (t : Bool) → (end_at d.past v (server_end c q)).opened ≡ t → ⊥
        go false closed = stays (closed_takes reads_back turns g d sound settled c v q known mc mq x ys e closed)
        go true opened = by (first_young reads_back turns g d sound settled c v q known mc mq x ys e)
          where
            by : IsYoung (end_at d.past v (server_end c q)) x.frame.epoch → ⊥
            by (inl later) = older opened later
            by (inr y) = at_it opened y.0

  -- **nothing flies up to an end with room**
  pub none_up : sent c (client_end v q) d.flights ≡ []
  none_up = go (sent c (client_end v q) d.flights) refl
    where
      go : (xs : List Flight) → sent c (client_end v q) d.flights ≡ xs → xs ≡ []
      go [] e = refl
      go (x ∷ ys) e = absurd (no_first x ys e)
