-- **Where a sound driver is settled, no job runs**: one that stands on a connection finds a frame or room there, and any other has room to go
-- on; for up to an end that a drop holds until it ends, few frames fly.
use Rattle.std.proofs.Common.{◌≡◌, ◌≢◌, ℕ, zero, suc, ◌+◌, ◌-◌, ◌<◌, ◌≤◌, Bool, true, false, List, [], ◌∷◌, Option, Some, None, ◌⊎◌, inl, inr, refl, sym, ap, ◌∙◌, subst, arith, true≢false}
use Rattle.std.specs.Prelude.{◌&&◌, ◌==◌, filter, find, length}
use Rattle.std.specs.List.{list_all}
use Rattle.std.specs.Option.{option_map}
use Rattle.std.proofs.lemmas.Bool.{and_parts, le-leb}
use Rattle.std.proofs.lemmas.List.{length-drop, length-map}
use Rattle.annex_base.specs.Lists.{Each, Member}
use Rattle.annex_base.proofs.Conditions.{if_either}
use Rattle.annex_base.proofs.Lists.{Each-from_members, Each-member, Member-filter_parts, filter_no, filter_yes, list_all-from_Each}
use Rattle.run_data.specs.declared.entry.Entry.{Entry}
use Rattle.run_data.specs.declared.job.Outcome.{Outcome}
use Rattle.node_model.specs.Ends.{End, EndName, server_end}
use Rattle.node_model.specs.Jobs.{Drops, Ends, Gets, Heard, Part, Phase, Puts, Work, partner}
use Rattle.node_model.specs.JobStep.{Turn, end_needs, end_with, has_lock, is_held, locked_peers, turn_of}
use Rattle.node_model.specs.Rows.{is_lost_ordered}
use Rattle.node_model.specs.SetUp.{others, slots}
use Rattle.node_model.specs.Turns.{has_room, needs}
use Rattle.run_model.specs.Frames.{FlyingFrame, frames_sent, taken_count}
use Rattle.run_model.specs.Past.{is_of}
use Rattle.run_model.specs.Run.{OwnRun, RunPast, set_up}
use Rattle.run_model.specs.States.{end_at, state_of, works}
use Rattle.step_facts.proofs.Below.{SentAreRead}
use Rattle.step_facts.proofs.ClientCounts.{IsLive}
use Rattle.past_facts.proofs.OwnRuns.{part_of}
use Rattle.job_facts.proofs.OwnTried.{other_apart}
use Rattle.run_laws.proofs.LocksHeard.{free_of}
use Rattle.cause_laws.proofs.ConversationServer.{up_way}
use Rattle.cause_laws.proofs.Epochs.{client_end, follows}
use Rattle.driver_model.specs.Driver as rings
use Rattle.driver_model.specs.Driver.{Driver, DriverInput, Flight, is_sent_by, set_up_of}
use Rattle.driver_model.specs.Driving.{run_with}
use Rattle.driver_model.specs.Sound.{IsOfOpening, IsSound}
use Rattle.driver_model.specs.Turning.{plain_look}
use Rattle.driver_model.specs.Ways.{AreOnTheWay, Flies, bodies_flying, bodies_sent, is_flight, numbered_body, views_sent, way_out}
use Rattle.driver_model.proofs.Scripted.{other_is}
use Rattle.rest_laws.specs.Settled.{IsSettled}
use Rattle.rest_laws.proofs.Comes.{first_opening, first_young}
use Rattle.rest_laws.proofs.Ending.{Few, few_ends}
use Rattle.rest_laws.proofs.Flown.{steps_of_it}
use Rattle.rest_laws.proofs.Found.{found_work}
use Rattle.rest_laws.proofs.Leaving.{Leaves, first_lowest, leaves, on_its_way, room_there, sent}
use Rattle.rest_laws.proofs.Needs.{needs_in}
use Rattle.rest_laws.proofs.Places.{other_known, work_slot}
use Rattle.rest_laws.proofs.Quieted.{live_or}
use Rattle.rest_laws.proofs.Stuck.{alone_room, goes_none_alone, no_partner, none_c, own_c, room_up, up_over}
use Rattle.rest_laws.proofs.Unturned.{IdleTurns, IsYoung, young_not_over}

-- ---- numbers of frames

counted_in : (p q : Flight → Bool) (xs : List Flight) → Each (λ x. q x ≡ true) (filter p xs) → length (filter p xs) ≤ length (filter q xs)
counted_in p q [] all = omega arith
counted_in p q (x ∷ xs) all = go (counted_in p q xs) (p x) refl (q x) refl
  where
    go : (Each (λ x. q x ≡ true) (filter p xs) → length (filter p xs) ≤ length (filter q xs)) → (a : Bool) → p x ≡ a → (b : Bool) → q x ≡ b → length (filter p (x ∷ xs)) ≤ length (filter q (x ∷ xs))
    go more true i true j =
        let l = more (subst (Each (λ x. q x ≡ true)) (filter_yes p x xs i) all).1 in
        rw (i, j) (omega (arith, l))
    go more true i false j = absurd (true≢false (sym (subst (Each (λ x. q x ≡ true)) (filter_yes p x xs i) all).0 ∙ j))
    go more false i true j =
        let l = more (subst (Each (λ x. q x ≡ true)) (filter_no p x xs i) all) in
        rw (i, j) (omega (arith, l))
    go more false i false j =
        let l = more (subst (Each (λ x. q x ≡ true)) (filter_no p x xs i) all) in
        rw (i, j) l

-- those of one opening are as many as were sent and not taken
few_flying : (past : List Entry) (xs : List Flight) (c : ℕ) (a : EndName) (n : ℕ) → AreOnTheWay past xs c a n → length (frames_sent past (way_out c a n)) ≤ taken_count past (way_out c a n) + 4 → length (filter (is_flight c a n) xs) ≤ 4
few_flying past xs c a n on few =
    let flying : length (filter (is_flight c a n) xs) ≡ length (bodies_flying c a n xs) = sym (length-map (filter (is_flight c a n) xs) (λ (x : Flight). numbered_body x.frame)) in
    let left : length (bodies_flying c a n xs) ≡ length (bodies_sent past (way_out c a n)) - taken_count past (way_out c a n) = ap length on.same ∙ length-drop (taken_count past (way_out c a n)) (bodies_sent past (way_out c a n)) in
    let count : length (bodies_sent past (way_out c a n)) ≡ length (frames_sent past (way_out c a n))
    = length-map (views_sent past (way_out c a n)) numbered_body ∙ length-map (frames_sent past (way_out c a n)) (λ (x : FlyingFrame). x.frame) in
    omega (arith, flying, left, count, few)

module _ (reads_back : SentAreRead) (turns : IdleTurns) (g : DriverInput) (d : Driver) (sound : IsSound g d) (settled : IsSettled g d) where
  h : RunPast (set_up (run_with g d)) d.past
  h = steps_of_it g d sound

  module _ (c : ℕ) (known : c < length g.repos) where
    -- ---- few frames fly up

    module _ (p q : ℕ) (mp : Member p (others (set_up_of g d c))) (mq : Member q slots) (opened : (end_at d.past c (client_end p q)).opened ≡ true) where
      abbrev a : EndName
      a = client_end p q

      abbrev n : ℕ
      n = (end_at d.past c (client_end p q)).epoch

      apart : c ≢ p
      apart same = other_apart (set_up_of g d c) p mp (sym same)

      known_p : p < length g.repos
      known_p = other_known (set_up_of g d c) p mp

      module _ (low : (end_at d.past c (client_end p q)).epoch ≤ (end_at d.past p (server_end c q)).epoch)
          (few : length (frames_sent d.past (up_way c p q (end_at d.past c (client_end p q)).epoch)) ≤ taken_count d.past (up_way c p q (end_at d.past c (client_end p q)).epoch) + 4) where
        same_opening : (end_at d.past p (server_end c q)).epoch ≡ (end_at d.past c (client_end p q)).epoch
        same_opening = let l = follows reads_back (run_with g d) sound.run.repos d.past h c p q apart in let k = low in omega (arith, k, l)

        module _ (x : Flight) (ys : List Flight) (e : sent c (client_end p q) d.flights ≡ x ∷ ys) (mc : Member c (others (set_up_of g d p))) where
          of_it : (z : Flight) → Member z (sent c (client_end p q) d.flights) → Member z d.flights × Leaves c (client_end p q) z
          of_it z m = let two = Member-filter_parts (is_sent_by c (client_end p q)) d.flights z m in (two.0, leaves c (client_end p q) z two.1)

          -- each is of the opening at which both are
          highest : (z : Flight) → Member z d.flights → Leaves c (client_end p q) z → z.frame.epoch ≤ (end_at d.past c (client_end p q)).epoch
          highest z m l = subst (λ (y : End). z.frame.epoch ≤ y.epoch) ends (Each-member (IsOfOpening d.past) d.flights z sound.openings m l.up_is)
            where
              ends : end_at d.past z.frame.peer (record { peer = z.to; slot = z.frame.slot; client = true }) ≡ end_at d.past c (client_end p q)
              ends i = end_at d.past (l.peer_is i) (record { peer = l.to_is i; slot = l.slot_is i; client = true })

          open_there : (x.frame.epoch ≡ (end_at d.past p (server_end c q)).epoch) × ((end_at d.past p (server_end c q)).opened ≡ true)
          open_there = go (first_young reads_back turns g d sound settled c p q known_p mc mq x ys e)
            where
              go : IsYoung (end_at d.past p (server_end c q)) x.frame.epoch → (x.frame.epoch ≡ (end_at d.past p (server_end c q)).epoch) × ((end_at d.past p (server_end c q)).opened ≡ true)
              go (inr y) = y
              go (inl later) =
                  let i = first_opening reads_back turns g d sound settled c p q known_p mc mq x ys e in
                  let j = same_opening in
                  absurd (omega (arith, later, i, j))

          at_it : (z : Flight) → Member z (sent c (client_end p q) d.flights) → is_flight c (client_end p q) (end_at d.past c (client_end p q)).epoch z ≡ true
          at_it z m = subst (λ k. is_flight c (client_end p q) k z ≡ true) same (on_its_way c (client_end p q) z (of_it z m).1)
            where
              lowest : x.frame.epoch ≤ z.frame.epoch
              lowest = elim (first_lowest c (client_end p q) d.flights x ys refl sound.turn e z (of_it z m).0 (of_it z m).1) [
                | inl is ↦ (let i : x.frame.epoch ≡ z.frame.epoch = ap (λ (y : Flight). y.frame.epoch) (sym is) in omega (arith, i))
                | inr l ↦ l
              ]

              same : z.frame.epoch ≡ (end_at d.past c (client_end p q)).epoch
              same =
                  let i = highest z (of_it z m).0 (of_it z m).1 in
                  let j = lowest in
                  let k = open_there.0 in
                  let l = same_opening in
                  omega (arith, i, j, k, l)

          on_way : AreOnTheWay d.past d.flights c (client_end p q) (end_at d.past c (client_end p q)).epoch
          on_way = go (sound.flies c (client_end p q) (end_at d.past c (client_end p q)).epoch)
            where
              go : Flies d.past d.flights c (client_end p q) (end_at d.past c (client_end p q)).epoch → AreOnTheWay d.past d.flights c (client_end p q) (end_at d.past c (client_end p q)).epoch
              go (inr on) = on
              go (inl over) = absurd (young_not_over (end_at d.past p (server_end c q)) (end_at d.past c (client_end p q)).epoch (inr (sym same_opening, open_there.1)) over)

          four : length (sent c (client_end p q) d.flights) ≤ 4
          four =
              let i = counted_in (is_sent_by c (client_end p q)) (is_flight c (client_end p q) (end_at d.past c (client_end p q)).epoch) d.flights
              (Each-from_members (λ z. is_flight c (client_end p q) (end_at d.past c (client_end p q)).epoch z ≡ true) (sent c (client_end p q) d.flights) at_it) in
              let j = few_flying d.past d.flights c (client_end p q) (end_at d.past c (client_end p q)).epoch on_way few in
              omega (arith, i, j)

        few_room : Member c (others (set_up_of g d p)) → rings.has_room c d.flights (client_end p q) ≡ true
        few_room mc = go (sent c (client_end p q) d.flights) refl
          where
            go : (xs : List Flight) → sent c (client_end p q) d.flights ≡ xs → rings.has_room c d.flights (client_end p q) ≡ true
            go [] e = room_there c (client_end p q) d.flights e
            go (x ∷ ys) e = let l = four x ys e mc in le-leb (length (sent c (client_end p q) d.flights) + 2) 8 (omega (arith, l))

      by_few : Few d.past c p q → Member c (others (set_up_of g d p)) → rings.has_room c d.flights (client_end p q) ≡ true
      by_few (inl over) mc = room_up reads_back turns g d sound settled c known p q mp mq (up_over reads_back turns g d sound settled c known p q mp mq opened over)
      by_few (inr x) mc = few_room x.0 x.1 mc

    -- ---- a job

    module _ (w : Work) (m : Member w (works d.past c)) where
      abbrev t : Turn
      t = turn_of (set_up_of g d c) (state_of (set_up_of g d c) d.past) (plain_look (set_up_of g d c) d) w

      own : OwnRun (set_up_of g d c) d.past
      own = own_c reads_back turns g d sound settled c known

      -- it goes on
      lives_no : IsLive w.phase → partner w.what.peer w.phase ≡ None → ⊥
      lives_no live alone = goes_none_alone reads_back turns g d sound settled c known w m alone
          (list_all-from_Each (has_room t) (needs t w.phase) (Each-from_members (λ p. has_room t p ≡ true) (needs t w.phase) (λ p mp. alone_room reads_back turns g d sound settled c known w m live alone p (known_in p mp))))
        where
          runs : find (λ (v : Work). v.slot == w.slot) (works d.past c) ≡ Some w
          runs = found_work (set_up_of g d c) d.past (plain_look (set_up_of g d c) d) (none_c reads_back turns g d sound settled c known) own w m

          known_in : (p : ℕ) → Member p (needs t w.phase) → Member p (others (set_up_of g d c))
          known_in p mp = Each-member (λ p. Member p (others (set_up_of g d c))) (needs t w.phase) p
              (needs_in reads_back (set_up_of g d c) d.past own (plain_look (set_up_of g d c) d) w runs alone) mp

      -- or it is to end
      module _ (o : Outcome) (dead : w.phase ≡ Ends o) where
        room_for : (p : ℕ) → Member p (locked_peers t) → has_room t p ≡ true
        room_for p mp = go w.part refl
          where
            two : Member p (others (set_up_of g d c)) × ((has_lock t p && (end_with t p).opened) ≡ true)
            two = Member-filter_parts (λ peer. has_lock t peer && (end_with t peer).opened) (others (set_up_of g d c)) p mp

            both : (has_lock t p ≡ true) × ((end_with t p).opened ≡ true)
            both = and_parts (has_lock t p) (end_with t p).opened two.1

            mq : Member w.slot slots
            mq = work_slot d.past c w m

            no_lock : w.part ≢ Drops → ⊥
            no_lock off = true≢false (sym both.0 ∙ ap (λ (hs : List (ℕ × Heard)). is_held (option_map (λ (x : ℕ × Heard). x.1) (find (λ (x : ℕ × Heard). x.0 == p) hs))) ((free_of (set_up_of g d c) d.past own w m).none off))

            mc : Member c (others (set_up_of g d p))
            mc = other_is (set_up_of g d p) c known (λ same. other_apart (set_up_of g d c) p two.0 (sym same))

            go : (part : Part) → w.part ≡ part → has_room t p ≡ true
            go Drops is = by_few p w.slot two.0 mq both.1 (few_ends reads_back (run_with g d) sound.run.repos d.past h c w m is o dead p both.1) mc
            go Gets is = absurd (no_lock (λ drops. let no' : Gets ≡ Drops = sym is ∙ drops in cc))
            go Puts is = absurd (no_lock (λ drops. let no' : Puts ≡ Drops = sym is ∙ drops in cc))

        ends_no : ⊥
        ends_no = goes_none_alone reads_back turns g d sound settled c known w m (ap (partner w.what.peer) dead)
            (ap (λ (phase : Phase). list_all (has_room t) (needs t phase)) dead ∙ of_end)
          where
            of_end : list_all (has_room t) (end_needs t o) ≡ true
            of_end = if_either (λ (ps : List ℕ). list_all (has_room t) ps ≡ true) (is_lost_ordered o) [] (locked_peers t) (λ e. refl)
                (λ e. list_all-from_Each (has_room t) (locked_peers t) (Each-from_members (λ p. has_room t p ≡ true) (locked_peers t) room_for))

      runs_no : ⊥
      runs_no = go (partner w.what.peer w.phase) refl
        where
          go : (o : Option ℕ) → partner w.what.peer w.phase ≡ o → ⊥
          go (Some p) on = no_partner reads_back turns g d sound settled c known w m p on
          go None alone = elim (live_or w.phase) [ inl live ↦ lives_no live alone | inr z ↦ ends_no z.0 z.1 ]

    none_of : works d.past c ≡ []
    none_of = go (works d.past c) refl
      where
        go : (ws : List Work) → works d.past c ≡ ws → ws ≡ []
        go [] e = refl
        go (w ∷ ws) e = absurd (runs_no w (subst (Member w) (sym e) (inl refl)))

  -- ---- a repository that the run hasn't

  unknown_none : (past : List Entry) → RunPast (set_up (run_with g d)) past → (r : ℕ) → (r < length g.repos → ⊥) → works past r ≡ []
  unknown_none [] steps r off = refl
  unknown_none (e ∷ past) steps r off = go (unknown_none past steps.1 r off) (is_of r e) refl
    where
      go : works past r ≡ [] → (b : Bool) → is_of r e ≡ b → works (e ∷ past) r ≡ []
      go was true is = absurd (off (part_of (set_up (run_with g d)) past e r steps.0 is).own.known)
      go was false is = rw is was

  pub no_jobs : (r : ℕ) → works d.past r ≡ []
  no_jobs r = elim (known_or r (length g.repos)) [
    | inl known ↦ none_of r known
    | inr off ↦ unknown_none d.past h r (λ known. omega (arith, known, off))
  ]
    where
      known_or : (m n : ℕ) → (m < n) ⊎ (n ≤ m)
      known_or zero zero = inr (omega arith)
      known_or zero (suc n) = inl (omega arith)
      known_or (suc m) zero = inr (omega arith)
      known_or (suc m) (suc n) = elim (known_or m n) [ inl l ↦ inl (omega (arith, l)) | inr l ↦ inr (omega (arith, l)) ]
