-- An entry is the step exactly where it is by what it tells of who made it.
use Rattle.std.proofs.Common.{◌≡◌, ◌⊎◌, inl, inr, ℕ, ◌<◌, ◌^◌, Bool, true, false, List, [], ◌∷◌, Option, Some, None, refl, sym, ap, subst, ◌∙◌}
use Rattle.std.specs.Prelude.{if◌then◌else◌, ◌==◌, ◌&&◌, find, not}
use Rattle.std.specs.Option.{option_or}
use Rattle.std.proofs.lemmas.Bool.{and_from, and_parts, eqb-true, false_from_ne_true, true≢false}
use Rattle.std.proofs.lemmas.Bool.Decides.{eqb_tells}
use Rattle.annex_base.specs.Bools.{same_bool}
use Rattle.annex_base.specs.Lists.{Member}
use Rattle.annex_base.specs.OptionSteps.{first_some}
use Rattle.annex_base.specs.declared.kinds.Word.{Word}
use Rattle.annex_base.proofs.Conditions.{eqb_refl}
use Rattle.annex_base.proofs.Lists.{find_member, find_nowhere, Each-member, list_any_found, list_any_member}
use Rattle.annex_base.proofs.Options.{first_some-was}
use Rattle.run_data.specs.declared.entry.Entry.{Entry}
use Rattle.run_data.specs.declared.entry.FrameView.{FrameView}
use Rattle.node_model.specs.Ends.{server_end}
use Rattle.node_model.specs.Jobs.{Phase, PutsBytes, PutsWord, Work, job_end, partner}
use Rattle.node_model.specs.JobStep.{Turn, end_with, quietly, talk, turn_of}
use Rattle.node_model.specs.Look.{Effect, Look, waiting_frame}
use Rattle.node_model.specs.OwedLines.{OwedLine}
use Rattle.node_model.specs.OwedStep.{pays_first}
use Rattle.node_model.specs.SessionStep.{session_at, session_step}
use Rattle.node_model.specs.SetUp.{SetUp, served_connections, slots}
use Rattle.node_model.specs.Slots.{job_of}
use Rattle.node_model.specs.State.{State}
use Rattle.node_model.specs.Turns.{awaits, by_partner, goes, goes_on, has_room, is_awaiting, job_step, needs, slot_step, with_partner}
use Rattle.run_laws.specs.Sound.{IsSeated}
use Rattle.step_judging.specs.Rules.{effect_of, is_effect, is_nil, is_step}
use Rattle.step_judging.specs.Same.{same_effect}
use Rattle.step_judging.specs.Telling.{first_line, is_end_of, look_of, runs_in}
use Rattle.step_judging.specs.Told.{connection_told, effect_told, forced_in, is_forced, is_served, is_told, job_told, other_told, session_told, told_in}
use Rattle.step_judging.proofs.JobAgain.{job_by_one, slot_by_one}
use Rattle.step_judging.proofs.JobKeeps.{goes_keep}
use Rattle.step_judging.proofs.OneLook.{part_small}
use Rattle.step_judging.proofs.SameIs.{effect_seen}
use Rattle.step_judging.proofs.SessionAgain.{at_none, at_parts, choice_told, one_or_none}

-- ---- effects that differ

other_effect : (n m : Effect) → (n.kind ≡ m.kind → ⊥) → same_effect n m ≡ false
other_effect n m other = false_from_ne_true (same_effect n m) (λ e. other (ap (λ (x : Effect). x.kind) (effect_seen n m e)))

other_found : (o : Option Effect) (m : Effect) → ((n : Effect) → o ≡ Some n → n.kind ≡ m.kind → ⊥) → is_effect o m ≡ false
other_found None m other = refl
other_found (Some n) m other = other_effect n m (other n refl)

-- ---- jobs that are held back, and jobs that aren't

needs_some : (t : Turn) (phase : Phase) → is_awaiting phase ≡ false → (n : ℕ) × (needs t phase ≡ n ∷ [])
needs_some t (PutsBytes peer start at left) e = (peer, refl)
needs_some t (PutsWord peer start) e = (peer, refl)
needs_some t phase e = absurd (cc)

module _ (t : Turn) (none : (peer : ℕ) → has_room t peer ≡ false) where
  goes_held : (n : ℕ) (ns : List ℕ) → needs t t.w.phase ≡ n ∷ ns → goes_on t ≡ None
  goes_held n ns is = rw is (rw (none n) refl)

  open_held : (peer : ℕ) (b : Bool) → is_awaiting t.w.phase ≡ b → with_partner t peer true ≡ None
  open_held peer true is = rw is (go (waiting_frame (end_with t peer) t.look (job_end t.w peer)))
    where
      go : (o : Option FrameView) → awaits t peer o ≡ None
      go None = refl
      go (Some f) = rw (none peer) refl
  open_held peer false is = let w = needs_some t t.w.phase is in rw is (goes_held w.0 [] w.1)

  held : (q : Option ℕ) → is_forced t q ≡ false → by_partner t q ≡ None
  held None e = go (needs t t.w.phase) refl
    where
      go : (ns : List ℕ) → needs t t.w.phase ≡ ns → goes_on t ≡ None
      go [] is = absurd (let yes' : is_nil (needs t t.w.phase) ≡ true = rw is refl in true≢false (sym yes' ∙ e))
      go (n ∷ ns) is = goes_held n ns is
  held (Some peer) e = go (end_with t peer).opened refl
    where
      go : (b : Bool) → (end_with t peer).opened ≡ b → with_partner t peer (end_with t peer).opened ≡ None
      go true is = ap (with_partner t peer) is ∙ open_held peer (is_awaiting t.w.phase) refl
      go false is = absurd (let yes' : not (end_with t peer).opened ≡ true = rw is refl in true≢false (sym yes' ∙ e))

module _ (t : Turn) (small : t.look.part < 2 ^ 62) where
  goes_job : (phase : Phase) → job_of (goes t phase).kind ≡ Some t.w.number
  goes_job phase = (goes_keep t (choice_told t.look.words (goes t phase)) t.look.at_hand t.look.room small phase).made_by

  unheld : (q : Option ℕ) → is_forced t q ≡ true → (n : Effect) × (by_partner t q ≡ Some n) × (job_of n.kind ≡ Some t.w.number)
  unheld None e = go (needs t t.w.phase) refl
    where
      go : (ns : List ℕ) → needs t t.w.phase ≡ ns → (n : Effect) × (goes_on t ≡ Some n) × (job_of n.kind ≡ Some t.w.number)
      go [] is = (goes t t.w.phase, rw is refl, goes_job t.w.phase)
      go (n ∷ ns) is = absurd (let no' : is_nil (needs t t.w.phase) ≡ false = rw is refl in true≢false (sym e ∙ no'))
  unheld (Some peer) e = go (end_with t peer).opened refl
    where
      go : (b : Bool) → (end_with t peer).opened ≡ b → (n : Effect) × (with_partner t peer (end_with t peer).opened ≡ Some n) × (job_of n.kind ≡ Some t.w.number)
      go true is = absurd (let no' : not (end_with t peer).opened ≡ false = rw is refl in true≢false (sym e ∙ no'))
      go false is = (quietly (talk t) None, ap (with_partner t peer) is, refl)

-- ---- the entry

module _ (s : SetUp) (st : State) (words : ℕ → Option Word) (e : Entry) (seated : IsSeated st) where
  abbrev k : Look
  k = look_of st words e

  abbrev m : Effect
  m = effect_of e

  abbrev F : ℕ → Option Effect
  F slot = slot_step s st k (find (λ v. v.slot == slot) st.works)

  small : k.part < 2 ^ 62
  small = part_small e.kind (first_line e.sent)

  -- whose effect a job's step is
  job_by : (n : Effect) → job_step s st k ≡ Some n → (w : Work) × Member w st.works × (job_of n.kind ≡ Some w.number)
  job_by n f = job_by_one s st k k.words small n (λ h. refl) f

  -- ---- sessions

  session_only : (c : ℕ × ℕ) → connection_told m.taken m.sent ≡ Some c → (d : ℕ × ℕ) → is_end_of (server_end d.0 d.1) m.taken m.sent ≡ true → (d.0 ≡ c.0) × (d.1 ≡ c.1)
  session_only c told d at = go m.taken m.sent told at
    where
      go : (o : Option FrameView) (fs : List FrameView) → connection_told o fs ≡ Some c → is_end_of (server_end d.0 d.1) o fs ≡ true → (d.0 ≡ c.0) × (d.1 ≡ c.1)
      go (Some f) fs t a =
          let h = at_parts f.peer f.slot d.0 d.1 (same_bool false (if f.up then false else true)) a in
          let same : (f.peer, f.slot) ≡ c = cc in
          (sym h.0 ∙ ap (λ (x : ℕ × ℕ). x.0) same, sym h.1 ∙ ap (λ (x : ℕ × ℕ). x.1) same)
      go None [] t a = absurd (cc)
      go None (f ∷ fs) t a =
          let h = at_parts f.peer f.slot d.0 d.1 (same_bool f.up false) a in
          let same : (f.peer, f.slot) ≡ c = cc in
          (sym h.0 ∙ ap (λ (x : ℕ × ℕ). x.0) same, sym h.1 ∙ ap (λ (x : ℕ × ℕ). x.1) same)

  all_none : {X Y : Type 0} (f : X → Option Y) (xs : List X) → ((x : X) → Member x xs → f x ≡ None) → first_some f xs ≡ None
  all_none f [] each = refl
  all_none f (x ∷ xs) each = rw (each x (inl refl)) (all_none f xs (λ y among. each y (inr among)))

  module _ (by_session : job_of m.kind ≡ None) where
    abbrev S : ℕ × ℕ → Option Effect
    S c = session_at s st k (server_end c.0 c.1)

    off_end : (c : ℕ × ℕ) → is_end_of (server_end c.0 c.1) m.taken m.sent ≡ false → S c ≡ None
    off_end c e' = at_none s st k (server_end c.0 c.1) (rw (by_session, e') refl)

    -- a session at another end has no step
    at_told : (c : ℕ × ℕ) → connection_told m.taken m.sent ≡ Some c → (d : ℕ × ℕ) → (S d ≡ None) ⊎ ((d.0 ≡ c.0) × (d.1 ≡ c.1))
    at_told c told d = go (is_end_of (server_end d.0 d.1) m.taken m.sent) refl
      where
        go : (b : Bool) → is_end_of (server_end d.0 d.1) m.taken m.sent ≡ b → (S d ≡ None) ⊎ ((d.0 ≡ c.0) × (d.1 ≡ c.1))
        go true is = inr (session_only c told d is)
        go false is = inl (off_end d is)

    same_session : (c d : ℕ × ℕ) → d.0 ≡ c.0 → d.1 ≡ c.1 → S d ≡ S c
    same_session c d x y = ap (λ (p : ℕ). session_at s st k (server_end p d.1)) x ∙ ap (λ (q : ℕ). session_at s st k (server_end c.0 q)) y

    served : (c : ℕ × ℕ) → connection_told m.taken m.sent ≡ Some c → (b : Bool) → is_served s c ≡ b → session_step s st k ≡ (if b then S c else None)
    served c told false is = all_none S (served_connections s) each
      where
        each : (d : ℕ × ℕ) → Member d (served_connections s) → S d ≡ None
        each d among = elim (at_told c told d) [
          | inl none ↦ none
          | inr at ↦ absurd (let yes' : is_served s c ≡ true = list_any_member (λ (x : ℕ × ℕ). (x.0 == c.0) && (x.1 == c.1)) (served_connections s) d among
              (and_from (d.0 == c.0) (d.1 == c.1) (subst (λ (n : ℕ). (d.0 == n) ≡ true) at.0 (eqb_refl d.0)) (subst (λ (n : ℕ). (d.1 == n) ≡ true) at.1 (eqb_refl d.1))) in true≢false (sym yes' ∙ is))
        ]
    served c told true is = go (S c) refl
      where
        it : (d : ℕ × ℕ) × Member d (served_connections s) × (((d.0 == c.0) && (d.1 == c.1)) ≡ true)
        it = list_any_found (λ (x : ℕ × ℕ). (x.0 == c.0) && (x.1 == c.1)) (served_connections s) is

        is_c : S it.0 ≡ S c
        is_c = let h = and_parts (it.0.0 == c.0) (it.0.1 == c.1) it.2 in same_session c it.0 (eqb-true it.0.0 c.0 h.0) (eqb-true it.0.1 c.1 h.1)

        go : (o : Option Effect) → S c ≡ o → session_step s st k ≡ S c
        go None none = all_none S (served_connections s) (λ d among. elim (at_told c told d) [ inl n ↦ n | inr at ↦ same_session c d at.0 at.1 ∙ none ]) ∙ sym none
        go (Some n) some =
            one_or_none S n (served_connections s) (λ d. elim (at_told c told d) [ inl x ↦ inl x | inr at ↦ inr (same_session c d at.0 at.1 ∙ some) ]) it.0 it.1 (is_c ∙ some) ∙ sym some

    -- where nothing is taken or sent there is no session's step
    nowhere : connection_told m.taken m.sent ≡ None → (d : ℕ × ℕ) → is_end_of (server_end d.0 d.1) m.taken m.sent ≡ false
    nowhere told d = go m.taken m.sent told
      where
        go : (o : Option FrameView) (fs : List FrameView) → connection_told o fs ≡ None → is_end_of (server_end d.0 d.1) o fs ≡ false
        go (Some f) fs t = absurd (cc)
        go None [] t = refl
        go None (f ∷ fs) t = absurd (cc)

    session_is : (o : Option (ℕ × ℕ)) → connection_told m.taken m.sent ≡ o → session_step s st k ≡ session_told s st k o
    session_is None told = all_none S (served_connections s) (λ d among. off_end d (nowhere told d))
    session_is (Some c) told = served c told (is_served s c) refl

    -- a job's step isn't this entry
    no_job : is_effect (job_step s st k) m ≡ false
    no_job = other_found (job_step s st k) m (λ n f kinds. let w = job_by n f in let both : None ≡ Some w.0.number = sym by_session ∙ ap job_of (sym kinds) ∙ w.2 in cc)

    by_told : is_effect (option_or (session_step s st k) (job_step s st k)) m ≡ is_effect (session_told s st k (connection_told m.taken m.sent)) m
    by_told = ap (λ (o : Option Effect). is_effect (option_or o (job_step s st k)) m) (session_is (connection_told m.taken m.sent) refl) ∙ go (session_told s st k (connection_told m.taken m.sent))
      where
        go : (o : Option Effect) → is_effect (option_or o (job_step s st k)) m ≡ is_effect o m
        go None = no_job
        go (Some n) = refl

  -- ---- jobs

  module _ (j : ℕ) (by_job : job_of m.kind ≡ Some j) where
    -- whose effect the step in a slot is
    slot_by : (slot : ℕ) (n : Effect) → F slot ≡ Some n → (w : Work) × Member w st.works × (w.slot ≡ slot) × (job_of n.kind ≡ Some w.number)
    slot_by slot n f = slot_by_one s st k k.words small n (λ h. refl) slot f

    -- no job has this number
    nobody : find (λ w. w.number == j) st.works ≡ None → is_effect (job_step s st k) m ≡ false
    nobody none = other_found (job_step s st k) m (λ n f kinds.
        let w = job_by n f in
        let number : w.0.number ≡ j = (let both : Some w.0.number ≡ Some j = sym w.2 ∙ ap job_of kinds ∙ by_job in cc) in
        let no' : (w.0.number == j) ≡ false = Each-member (λ (v : Work). (v.number == j) ≡ false) st.works w.0 (find_nowhere (λ w. w.number == j) st.works none) w.1 in
        true≢false (sym (subst (λ (i : ℕ). (i == j) ≡ true) (sym number) (eqb_refl j)) ∙ no'))

    module _ (w : Work) (among : Member w st.works) (number : w.number ≡ j) where
      own : F w.slot ≡ slot_step s st k (Some w)
      own = ap (slot_step s st k) (seated.seats w among)

      -- the step of another slot isn't this entry
      other_slot : (slot : ℕ) → (slot ≡ w.slot → ⊥) → (n : Effect) → F slot ≡ Some n → n.kind ≡ m.kind → ⊥
      other_slot slot other n f same =
          let v = slot_by slot n f in
          let numbers : v.0.number ≡ w.number = (let both : Some v.0.number ≡ Some j = sym v.3 ∙ ap job_of same ∙ by_job in let one : v.0.number ≡ j = cc in one ∙ sym number) in
          other (sym v.2 ∙ seated.slots v.0 w v.1 among numbers)

      -- there is no room in other slots
      no_room : (v : Work) (peer : ℕ) → (v.slot ≡ w.slot → ⊥) → k.room (job_end v peer) ≡ false
      no_room v peer other = rw by_job (false_from_ne_true (runs_in st.works j v.slot) (λ e'.
          let it = list_any_found (λ (x : Work). (x.number == j) && (x.slot == v.slot)) st.works e' in
          let both = and_parts (it.0.number == j) (it.0.slot == v.slot) it.2 in
          other (sym (eqb-true it.0.slot v.slot both.1) ∙ seated.slots it.0 w it.1 among (eqb-true it.0.number j both.0 ∙ sym number))))

      held_slot : (slot : ℕ) → (slot ≡ w.slot → ⊥) → (o : Option Work) → find (λ v. v.slot == slot) st.works ≡ o → forced_in s st k o ≡ false → slot_step s st k o ≡ None
      held_slot slot other None is f = refl
      held_slot slot other (Some v) is f =
          let at = eqb-true v.slot slot (find_member (λ (x : Work). x.slot == slot) st.works v is).1 in
          held (turn_of s st k v) (λ peer. no_room v peer (λ h. other (sym at ∙ h))) (partner v.what.peer v.phase) f

      forced_slot : (slot : ℕ) (o : Option Work) → forced_in s st k o ≡ true → (n : Effect) × (slot_step s st k o ≡ Some n)
      forced_slot slot None f = absurd (cc)
      forced_slot slot (Some v) f = let u = unheld (turn_of s st k v) small (partner v.what.peer v.phase) f in (u.0, u.1)

      -- without its own step it is none of the others'
      rest_none : slot_step s st k (Some w) ≡ None → (xs : List ℕ) → is_effect (first_some F xs) m ≡ false
      rest_none none xs = other_found (first_some F xs) m (λ n f kinds.
          let x = first_some-was F xs n f in
          elim (eqb_tells x.0 w.slot) [
            | inl at ↦ (let both : None ≡ Some n = sym none ∙ sym own ∙ ap F (sym at.1) ∙ x.2 in cc)
            | inr other ↦ other_slot x.0 other.1 n x.2 kinds
          ])

      in_slots : (xs : List ℕ) → is_effect (first_some F xs) m ≡ told_in s st k w m xs
      in_slots [] = refl
      in_slots (slot ∷ more) = go (in_slots more) (eqb_tells slot w.slot)
        where
          mine : slot ≡ w.slot → (o : Option Effect) → slot_step s st k (Some w) ≡ o → is_effect (option_or o (first_some F more)) m ≡ is_effect o m
          mine at None is = rest_none is more
          mine at (Some n) is = refl

          others : (slot ≡ w.slot → ⊥) → is_effect (first_some F more) m ≡ told_in s st k w m more → (b : Bool) → forced_in s st k (find (λ v. v.slot == slot) st.works) ≡ b
              → is_effect (option_or (F slot) (first_some F more)) m ≡ (not b && told_in s st k w m more)
          others other ih true is =
              let u = forced_slot slot (find (λ v. v.slot == slot) st.works) is in
              ap (λ (o : Option Effect). is_effect (option_or o (first_some F more)) m) u.1 ∙ other_effect u.0 m (λ same. other_slot slot other u.0 u.1 same)
          others other ih false is =
              ap (λ (o : Option Effect). is_effect (option_or o (first_some F more)) m) (held_slot slot other (find (λ v. v.slot == slot) st.works) refl is) ∙ ih

          go : is_effect (first_some F more) m ≡ told_in s st k w m more → ((slot == w.slot) ≡ true) × (slot ≡ w.slot) ⊎ ((slot == w.slot) ≡ false) × (slot ≡ w.slot → ⊥)
              → is_effect (first_some F (slot ∷ more)) m ≡ told_in s st k w m (slot ∷ more)
          go ih (inl at) =
              ap (λ (o : Option Effect). is_effect (option_or o (first_some F more)) m) (ap F at.1 ∙ own) ∙ mine at.1 (slot_step s st k (Some w)) refl
              ∙ sym (ap (λ (b : Bool). if b then is_effect (slot_step s st k (Some w)) m else (not (forced_in s st k (find (λ v. v.slot == slot) st.works)) && told_in s st k w m more)) at.0)
          go ih (inr other) =
              others other.1 ih (forced_in s st k (find (λ v. v.slot == slot) st.works)) refl
              ∙ sym (ap (λ (b : Bool). if b then is_effect (slot_step s st k (Some w)) m else (not (forced_in s st k (find (λ v. v.slot == slot) st.works)) && told_in s st k w m more)) other.0)

    job_is : (o : Option Work) → find (λ w. w.number == j) st.works ≡ o → is_effect (job_step s st k) m ≡ job_told s st k m o
    job_is None none = nobody none
    job_is (Some w) is = let h = find_member (λ (v : Work). v.number == j) st.works w is in in_slots w h.0 (eqb-true w.number j h.1) slots

    by_told_job : is_effect (option_or (session_step s st k) (job_step s st k)) m ≡ job_told s st k m (find (λ w. w.number == j) st.works)
    by_told_job = ap (λ (o : Option Effect). is_effect (option_or o (job_step s st k)) m) none ∙ job_is (find (λ w. w.number == j) st.works) refl
      where
        none : session_step s st k ≡ None
        none = all_none (λ (c : ℕ × ℕ). session_at s st k (server_end c.0 c.1)) (served_connections s) (λ c among. at_none s st k (server_end c.0 c.1) (rw by_job refl))

  -- ---- all

  others_told : (o : Option ℕ) → job_of m.kind ≡ o → is_effect (option_or (session_step s st k) (job_step s st k)) m ≡ other_told s st k m o
  others_told None is = by_told is
  others_told (Some j) is = by_told_job j is

  all_told : (os : List OwedLine) → is_effect (option_or (pays_first s st k os) (option_or (session_step s st k) (job_step s st k))) m ≡ effect_told s st k m os
  all_told [] = others_told (job_of m.kind) refl
  all_told (o ∷ os) = refl

  pub told_is : is_step s st words e ≡ is_told s st words e
  told_is = all_told st.owed
