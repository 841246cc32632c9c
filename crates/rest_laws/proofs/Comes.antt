-- Where a sound driver is settled, nothing comes to a server's end with room that it may take, and nothing comes down to a closed end.
use Rattle.std.proofs.Common.{◌≡◌, ◌≢◌, ℕ, ◌<◌, ◌≤◌, Bool, true, false, List, [], ◌∷◌, ◌++◌, Some, inl, inr, refl, sym, ap, ◌∙◌, subst, arith, true≢false}
use Rattle.std.specs.Prelude.{◌==◌, length, map, nat_lt, not, slice_get}
use Rattle.std.proofs.lemmas.Bool.{and_from, lt-ltb}
use Rattle.std.proofs.lemmas.Option.{same_Some}
use Rattle.annex_base.specs.Lists.{Member}
use Rattle.annex_base.proofs.Conditions.{eqb_refl}
use Rattle.annex_base.proofs.Lists.{Each-member, Member-append_right, Member-filter_from, Member-filter_parts, Member-flat_map, Member-map, find_member}
use Rattle.run_data.specs.declared.entry.FrameView.{FrameView}
use Rattle.run_data.specs.declared.entry.FrameText.TheVariants.{Opening}
use Rattle.node_model.specs.AnyTime.{all_ends, ends_with}
use Rattle.node_model.specs.Ends.{End, EndName, is_opening, may_take, server_end, takes_at}
use Rattle.node_model.specs.SetUp.{SetUp, others, served_connections, slots}
use Rattle.run_model.specs.Frames.{FlyingFrame, MayTake, frames_sent, taken_count}
use Rattle.run_model.specs.Run.{RunPast, set_up}
use Rattle.run_model.specs.States.{end_at}
use Rattle.step_facts.proofs.Below.{SentAreRead}
use Rattle.step_facts.proofs.EndMoves.{may_epoch, opening_closed}
use Rattle.cause_laws.proofs.ConversationServer.{up_way}
use Rattle.cause_laws.proofs.Epochs.{client_end, follows, sent_epoch}
use Rattle.driver_model.specs.Driver.{Driver, DriverInput, Flight, frames_to, has_room, set_up_of, is_sent_by}
use Rattle.driver_model.specs.Driving.{run_with}
use Rattle.driver_model.specs.Sound.{IsOfOpening, IsSound}
use Rattle.driver_model.specs.Turning.{plain_look}
use Rattle.driver_model.proofs.InFlight.{not_over}
use Rattle.rest_laws.specs.Settled.{IsSettled}
use Rattle.rest_laws.proofs.Flown.{FliesOn, IsNext, first_is_next, next_flies, steps_of_it}
use Rattle.rest_laws.proofs.Found.{hand_none}
use Rattle.rest_laws.proofs.Leaving.{Leaves, at_hand_first, end_is, first_comes, first_lowest, leaves, sent, sent_from}
use Rattle.rest_laws.proofs.Openings.{first_opens, has_taken}
use Rattle.rest_laws.proofs.Unturned.{IdleTurns, IsYoung, none, young, young_not_over}

-- a served connection, and its end
pub served : (s : SetUp) (c q : ℕ) → Member c (others s) → Member q slots → Member (c, q) (served_connections s)
served s c q mc mq = Member-flat_map (λ peer. map (λ slot. (peer, slot)) slots) (others s) c (c, q) mc (Member-map (λ slot. (c, slot)) slots q mq)

pub server_in : (s : SetUp) (c q : ℕ) → Member c (others s) → Member q slots → Member (server_end c q) (all_ends s)
server_in s c q mc mq = Member-flat_map (λ peer. ends_with peer true ++ ends_with peer false) (others s) c (server_end c q) mc
    (Member-append_right (ends_with c true) (ends_with c false) (server_end c q) (Member-map (λ slot. server_end c slot) slots q mq))

member_of : (r : ℕ) (a : EndName) (xs : List Flight) (x : Flight) (ys : List Flight) → sent r a xs ≡ x ∷ ys → Member x xs × Leaves r a x
member_of r a xs x ys e = let two = Member-filter_parts (is_sent_by r a) xs x (subst (Member x) (sym e) (inl refl)) in (two.0, leaves r a x two.1)

module _ (reads_back : SentAreRead) (idle : IdleTurns) (g : DriverInput) (d : Driver) (sound : IsSound g d) (settled : IsSettled g d) where
  h : RunPast (set_up (run_with g d)) d.past
  h = steps_of_it g d sound

  -- ---- up to a server

  module _ (c v q : ℕ) (known : v < length g.repos) (mc : Member c (others (set_up_of g d v))) (mq : Member q slots) where
    abbrev a : EndName
    a = client_end v q

    abbrev b : EndName
    b = server_end c q

    -- where the end has room, the first of what flies up there may not be taken
    pub first_stays : has_room v d.flights (server_end c q) ≡ true → (x : Flight) (ys : List Flight) → sent c (client_end v q) d.flights ≡ x ∷ ys → may_take (end_at d.past v (server_end c q)) x.frame ≡ true → ⊥
    first_stays room x ys e may =
        let comes = first_comes c a d.flights x ys e in
        hand_none (set_up_of g d v) d.past (plain_look (set_up_of g d v) d) (none idle g d settled v known) c q (served (set_up_of g d v) c q mc mq) room x.frame
        (at_hand_first (set_up_of g d v) (frames_to v d.flights) b x.frame (server_in (set_up_of g d v) c q mc mq) comes) (find_member (takes_at b) (frames_to v d.flights) x.frame comes).1 may

    module _ (x : Flight) (ys : List Flight) (e : sent c (client_end v q) d.flights ≡ x ∷ ys) where
      in_it : Member x d.flights × Leaves c (client_end v q) x
      in_it = member_of c (client_end v q) d.flights x ys e

      pub first_young : IsYoung (end_at d.past v (server_end c q)) x.frame.epoch
      first_young = young idle g d settled v known x in_it.0 in_it.1.to_is (server_end c q) (end_is c (client_end v q) x in_it.1)

      pub first_next : IsNext g d sound c (client_end v q) x
      first_next = first_is_next g d sound c (client_end v q) x ys e in_it.1 (young_not_over (end_at d.past v (server_end c q)) x.frame.epoch first_young)

      -- it is of no later opening than the client's
      pub first_opening : x.frame.epoch ≤ (end_at d.past c (client_end v q)).epoch
      first_opening = subst (λ (z : End). x.frame.epoch ≤ z.epoch) ends (Each-member (IsOfOpening d.past) d.flights x sound.openings in_it.0 in_it.1.up_is)
        where
          ends : end_at d.past x.frame.peer (record { peer = x.to; slot = x.frame.slot; client = true }) ≡ end_at d.past c (client_end v q)
          ends i = end_at d.past (in_it.1.peer_is i) (record { peer = in_it.1.to_is i; slot = in_it.1.slot_is i; client = true })

      -- of an opening to which the server hasn't come, it is the Opening
      pub first_opener : (end_at d.past v (server_end c q)).epoch < x.frame.epoch → x.frame.body ≡ Opening
      first_opener later =
          let count : taken_count d.past (up_way c v q x.frame.epoch) ≡ 0 = (has_taken reads_back (run_with g d) sound.run.repos c v q d.past h x.frame.epoch).not_yet later in
          let first = first_opens reads_back (run_with g d) sound.run.repos c v q d.past h x.frame.epoch (low (end_at d.past v (server_end c q)).epoch x.frame.epoch later) first_opening in
          let next : slice_get (frames_sent d.past (up_way c v q x.frame.epoch)) 0 ≡ Some first_next.it = subst (λ k. slice_get (frames_sent d.past (up_way c v q x.frame.epoch)) k ≡ Some first_next.it) count first_next.next in
          let same : first_next.it ≡ first.it = same_Some first_next.it first.it (sym next ∙ first.first) in
          sym first_next.body_is ∙ (ap (λ (z : FlyingFrame). z.frame.body) same ∙ first.opens)
        where
          low : (m n : ℕ) → m < n → 1 ≤ n
          low m n l = omega (arith, l)

      -- a closed end may take it
      pub closed_takes : (end_at d.past v (server_end c q)).opened ≡ false → may_take (end_at d.past v (server_end c q)) x.frame ≡ true
      closed_takes closed = go first_young
        where
          go : IsYoung (end_at d.past v (server_end c q)) x.frame.epoch → may_take (end_at d.past v (server_end c q)) x.frame ≡ true
          go (inr y) = absurd (true≢false (sym y.1 ∙ closed))
          go (inl later) =
              let opens : is_opening x.frame.body ≡ true = ap is_opening (first_opener later) in
              let less : nat_lt (end_at d.past v (server_end c q)).epoch x.frame.epoch ≡ true = lt-ltb (end_at d.past v (server_end c q)).epoch x.frame.epoch later in
              rw opens (and_from (not (end_at d.past v (server_end c q)).opened) _ (ap not closed) less)

      -- an open end may take it where it is of its opening and no Opening
      pub open_takes : (end_at d.past v (server_end c q)).opened ≡ true → x.frame.epoch ≡ (end_at d.past v (server_end c q)).epoch → is_opening x.frame.body ≡ false → may_take (end_at d.past v (server_end c q)) x.frame ≡ true
      open_takes opened same plain = rw plain (and_from (end_at d.past v (server_end c q)).opened _ opened (ap (λ k. k == (end_at d.past v (server_end c q)).epoch) same ∙ eqb_refl (end_at d.past v (server_end c q)).epoch))

    -- **no frame that may be taken comes to it**
    pub nothing_comes : has_room v d.flights (server_end c q) ≡ true → (f : FrameView) → MayTake d.past (up_way c v q f.epoch) f → may_take (end_at d.past v (server_end c q)) f ≡ true → ⊥
    nothing_comes room f m may = go (sent c a d.flights) refl
      where
        z : FliesOn g d sound c (client_end v q) f.epoch m.it
        z = next_flies g d sound c (client_end v q) f.epoch m.it m.next (not_over (end_at d.past v (server_end c q)) f may)

        go : (xs : List Flight) → sent c (client_end v q) d.flights ≡ xs → ⊥
        go [] e = subst (Member z.z) e (Member-filter_from (is_sent_by c (client_end v q)) d.flights z.z z.flies (sent_from c (client_end v q) z.z z.leaves))
        go (x ∷ ys) e = first_stays room x ys e (by (is_opening f.body) refl)
          where
            low : x.frame.epoch ≤ f.epoch
            low = elim (first_lowest c (client_end v q) d.flights x ys refl sound.turn e z.z z.flies z.leaves) [
              | inl same ↦ (let i : x.frame.epoch ≡ f.epoch = ap (λ (y : Flight). y.frame.epoch) (sym same) ∙ z.epoch_is in omega (arith, i))
              | inr l ↦ (let i = z.epoch_is in omega (arith, l, i))
            ]

            by : (t : Bool) → is_opening f.body ≡ t → may_take (end_at d.past v (server_end c q)) x.frame ≡ true
            by true opens = closed_takes x ys e (opening_closed (end_at d.past v (server_end c q)) f opens may)
            by false plain = open_takes x ys e two.0 at body
              where
                two : ((end_at d.past v (server_end c q)).opened ≡ true) × (f.epoch ≡ (end_at d.past v (server_end c q)).epoch)
                two = may_epoch (end_at d.past v (server_end c q)) f plain may

                at : x.frame.epoch ≡ (end_at d.past v (server_end c q)).epoch
                at = elim (first_young x ys e) [
                  | inl later ↦ (let i = two.1 in let l = low in absurd (omega (arith, later, i, l)))
                  | inr y ↦ y.0
                ]

                same : x.frame.epoch ≡ f.epoch
                same = at ∙ sym two.1

                next : slice_get (frames_sent d.past (up_way c v q f.epoch)) (taken_count d.past (up_way c v q f.epoch)) ≡ Some (first_next x ys e).it
                next = subst (λ n. slice_get (frames_sent d.past (up_way c v q n)) (taken_count d.past (up_way c v q n)) ≡ Some (first_next x ys e).it) same (first_next x ys e).next

                body : is_opening x.frame.body ≡ false
                body =
                    let it : (first_next x ys e).it ≡ m.it = same_Some (first_next x ys e).it m.it (sym next ∙ m.next) in
                    ap is_opening (sym (first_next x ys e).body_is ∙ (ap (λ (y : FlyingFrame). y.frame.body) it ∙ m.body_is)) ∙ plain

  -- ---- down to a client

  module _ (c v q : ℕ) (apart : c ≢ v) (known : c < length g.repos) where
    -- what flies down is of no later opening than the client's, and it is young there
    pub record ComesDownTo (x : Flight) : Type 0 where
      pub opened : (end_at d.past c (client_end v q)).opened ≡ true
      pub epoch_is : x.frame.epoch ≡ (end_at d.past c (client_end v q)).epoch
      pub server_is : (end_at d.past v (server_end c q)).epoch ≡ (end_at d.past c (client_end v q)).epoch
      pub next : IsNext g d sound v (server_end c q) x

    pub comes_down : (x : Flight) (ys : List Flight) → sent v (server_end c q) d.flights ≡ x ∷ ys → ComesDownTo x
    comes_down x ys e = go is_young
      where
        in_it : Member x d.flights × Leaves v (server_end c q) x
        in_it = member_of v (server_end c q) d.flights x ys e

        is_young : IsYoung (end_at d.past c (client_end v q)) x.frame.epoch
        is_young = young idle g d settled c known x in_it.0 in_it.1.to_is (client_end v q) (end_is v (server_end c q) x in_it.1)

        next : IsNext g d sound v (server_end c q) x
        next = first_is_next g d sound v (server_end c q) x ys e in_it.1 (young_not_over (end_at d.past c (client_end v q)) x.frame.epoch is_young)

        low : x.frame.epoch ≤ (end_at d.past v (server_end c q)).epoch
        low = sent_epoch reads_back (run_with g d) sound.run.repos d.past h v (server_end c q) x.frame.epoch _ next.it next.next

        lower : (end_at d.past v (server_end c q)).epoch ≤ (end_at d.past c (client_end v q)).epoch
        lower = follows reads_back (run_with g d) sound.run.repos d.past h c v q apart

        go : IsYoung (end_at d.past c (client_end v q)) x.frame.epoch → ComesDownTo x
        go (inl later) = absurd (omega (arith, later, low, lower))
        go (inr y) = let i = y.0 in record { opened = y.1; epoch_is = y.0; server_is = omega (arith, i, low, lower); next = next }

    -- **to a closed end nothing flies**
    pub none_down : (end_at d.past c (client_end v q)).opened ≡ false → sent v (server_end c q) d.flights ≡ []
    none_down closed = go (sent v (server_end c q) d.flights) refl
      where
        go : (xs : List Flight) → sent v (server_end c q) d.flights ≡ xs → xs ≡ []
        go [] e = refl
        go (x ∷ ys) e = absurd (true≢false (sym (comes_down x ys e).opened ∙ closed))
