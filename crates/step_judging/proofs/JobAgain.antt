-- A job's step is made again with the look that it tells of, and the jobs of other slots are passed over.
use Rattle.std.proofs.Common.{◌≡◌, inl, inr, ℕ, ◌<◌, ◌^◌, Bool, true, false, List, [], ◌∷◌, Option, Some, None, refl, sym, ap, subst, ◌∙◌}
use Rattle.std.specs.Prelude.{if◌then◌else◌, ◌==◌, ◌&&◌, find, not}
use Rattle.std.specs.List.{list_all, list_any}
use Rattle.std.specs.Option.{option_or, option_to_list, option_map}
use Rattle.std.proofs.lemmas.Bool.Decides.{eqb_tells}
use Rattle.std.proofs.lemmas.Bool.{and_parts, and_from, eqb-true, false_from_ne_true}
use Rattle.annex_base.specs.declared.kinds.Call.TheVariants.{Unhold}
use Rattle.annex_base.specs.declared.kinds.Word.{Word}
use Rattle.annex_base.specs.Lists.{Member}
use Rattle.annex_base.specs.OptionSteps.{first_some}
use Rattle.annex_base.proofs.Conditions.{eqb_refl}
use Rattle.annex_base.proofs.Lists.{find_member, list_any_found, list_any_member}
use Rattle.annex_base.proofs.Options.{first_some-was, where_some}
use Rattle.drop_proof.specs.declared.rule.Side.{Side}
use Rattle.drop_proof.specs.declared.rule.Side.TheVariants.{Local, Remote}
use Rattle.run_data.specs.declared.entry.By.TheVariants.{Job as by_job}
use Rattle.run_data.specs.declared.entry.EntryKind.TheVariants.{Fault}
use Rattle.run_data.specs.declared.entry.FrameView.{FrameView}
use Rattle.run_data.specs.declared.row.Hold.{Hold}
use Rattle.node_model.specs.Rows.{is_lost_ordered, same_owner}
use Rattle.node_model.specs.Ends.{may_take, takes_at}
use Rattle.node_model.specs.Jobs.{Phase, Fresh, Next, PutsBytes, PutsWord, Removed, Denied, Late, Ends, Work, job_end, partner, side_of}
use Rattle.node_model.specs.Look.{Look, Effect, as_told, waiting_frame}
use Rattle.node_model.specs.SetUp.{SetUp, slots}
use Rattle.node_model.specs.JobStep.{Turn, end_with, locked_peers, owns_share, quietly, talk, turn_of}
use Rattle.node_model.specs.DropStep.{removal_outcome, target}
use Rattle.node_model.specs.Knows.{proof_by}
use Rattle.node_model.specs.Slots.{job_of}
use Rattle.node_model.specs.State.{State}
use Rattle.node_model.specs.Turns.{awaits, by_partner, goes, goes_on, has_room, is_awaiting, job_step, needs, slot_step, takes_frame, with_partner}
use Rattle.step_judging.specs.Telling.{failed_call, is_end, room_told, runs_in}
use Rattle.step_judging.proofs.Keeping.{Told}
use Rattle.step_judging.proofs.JobKeeps.{effect_trial, goes_keep, obeyed_stays, takes_frame_keep}
use Rattle.step_judging.proofs.SessionAgain.{choice_told, look_told, waits_for, first_seen}

-- the turn with the look that an effect tells of
abbrev retold : Turn → List Work → (ℕ → Option Word) → Effect → Turn
retold t ws words m = record t { look = look_told ws words t.look m }

-- ---- room

all_true : {X : Type 0} (p : X → Bool) (xs : List X) → ((x : X) → p x ≡ true) → list_all p xs ≡ true
all_true p [] each = refl
all_true p (x ∷ xs) each = rw (each x) (all_true p xs each)

-- a step of its own job finds room at each of its ends
own_room : (ws : List Work) (w : Work) (m : Effect) (peer : ℕ) → Member w ws → job_of m.kind ≡ Some w.number
    → room_told ws (job_of m.kind) m.taken m.sent (job_end w peer) ≡ true
own_room ws w m peer among by =
    rw by (list_any_member (λ (v : Work). (v.number == w.number) && (v.slot == w.slot)) ws w among (and_from (w.number == w.number) (w.slot == w.slot) (eqb_refl w.number) (eqb_refl w.slot)))

-- which ends need room isn't changed by the words
lost_alike : (t : Turn) (look : Look) (side : Side) → is_lost_ordered (removal_outcome side (record t { look = look })) ≡ is_lost_ordered (removal_outcome side t)
lost_alike t look Local = refl
lost_alike t look Remote = obeyed_stays (look.words (target t)) (proof_by t.read t.w) ∙ sym (obeyed_stays (t.look.words (target t)) (proof_by t.read t.w))

needs_alike : (t : Turn) (ws : List Work) (words : ℕ → Option Word) (m : Effect) (phase : Phase) → needs (retold t ws words m) phase ≡ needs t phase
needs_alike t ws words m Fresh = refl
needs_alike t ws words m Next = refl
needs_alike t ws words m (PutsBytes peer start at left) = refl
needs_alike t ws words m (PutsWord peer start) = refl
needs_alike t ws words m Removed = ap (λ (lost : Bool). if lost then [] else locked_peers t) (lost_alike t (look_told ws words t.look m) (side_of t.w))
needs_alike t ws words m Denied = refl
needs_alike t ws words m (Late time) = refl
needs_alike t ws words m (Ends outcome) = refl
needs_alike t ws words m phase = refl

-- ---- the job that made it

record TurnAgain (ws : List Work) (words : ℕ → Option Word) (t : Turn) (f : Turn → Option Effect) (m : Effect) : Type 0 where
  made_by : job_of m.kind ≡ Some t.w.number
  unheld : failed_call m.kind ≡ Some Unhold → (m.kind ≡ Fault Unhold (by_job t.w.number)) × (owns_share t ≡ true)
  again : (is_end m.kind ≡ true → words ≡ t.look.words) → option_map as_told (f (retold t ws words m)) ≡ Some (as_told m)

module _ (ws : List Work) (words : ℕ → Option Word) (t : Turn) (small : t.look.part < 2 ^ 62) (among : Member t.w ws) where
  told : (took : Option FrameView) (m : Effect) → (is_end m.kind ≡ true → words ≡ t.look.words) → Told (effect_trial t (choice_told words m) took) m
  told took m same = record { fails_are = refl; part_is = refl; right_is = refl; words_are = same }

  goes_again : (m : Effect) → goes_on t ≡ Some m → TurnAgain ws words t goes_on m
  goes_again m e =
      let was = where_some (list_all (has_room t) (needs t t.w.phase)) (Some (goes t t.w.phase)) m e in
      let made : goes t t.w.phase ≡ m = let some : Some (goes t t.w.phase) ≡ Some m = was.1 in cc in
      subst (TurnAgain ws words t goes_on) made (it (goes t t.w.phase) refl)
    where
      it : (n : Effect) → n ≡ goes t t.w.phase → TurnAgain ws words t goes_on (goes t t.w.phase)
      it n is =
          let g = goes t t.w.phase in
          let look = look_told ws words t.look g in
          let kept = goes_keep t (choice_told words g) look.at_hand look.room small t.w.phase in
          let room : list_all (has_room (retold t ws words g)) (needs (retold t ws words g) t.w.phase) ≡ true =
          all_true (has_room (retold t ws words g)) (needs (retold t ws words g) t.w.phase) (λ peer. own_room ws t.w g peer among kept.made_by) in
          record {
            made_by = kept.made_by;
            unheld = kept.unheld;
            again = λ same. ap (λ (b : Bool). option_map as_told (if b then Some (goes (retold t ws words g) t.w.phase) else None)) room ∙ ap (λ (z : Effect). Some z) (kept.same (told None g same));
          }

  awaits_again : (peer : ℕ) (o : Option FrameView) → waiting_frame (end_with t peer) t.look (job_end t.w peer) ≡ o → (m : Effect) → awaits t peer o ≡ Some m
      → TurnAgain ws words t (λ v. awaits v peer (waiting_frame (end_with v peer) v.look (job_end v.w peer))) m
  awaits_again peer None is m e = absurd (cc)
  awaits_again peer (Some f) is m e =
      let was = where_some (has_room t peer) (Some (takes_frame t peer f f.body)) m e in
      let made : takes_frame t peer f f.body ≡ m = let some : Some (takes_frame t peer f f.body) ≡ Some m = was.1 in cc in
      let may = (find_member (λ g. takes_at (job_end t.w peer) g && may_take (end_with t peer) g) t.look.at_hand f is).1 in
      subst (TurnAgain ws words t (λ v. awaits v peer (waiting_frame (end_with v peer) v.look (job_end v.w peer)))) made (it may)
    where
      it : (takes_at (job_end t.w peer) f && may_take (end_with t peer) f) ≡ true
          → TurnAgain ws words t (λ v. awaits v peer (waiting_frame (end_with v peer) v.look (job_end v.w peer))) (takes_frame t peer f f.body)
      it may =
          let g = takes_frame t peer f f.body in
          let look = look_told ws words t.look g in
          let v = retold t ws words g in
          let kept = takes_frame_keep t (choice_told words g) look.at_hand look.room small peer f f.body in
          let hand : look.at_hand ≡ f ∷ [] = ap option_to_list kept.taken_is in
          let room : has_room v peer ≡ true = own_room ws t.w g peer among kept.made_by in
          record {
            made_by = kept.made_by;
            unheld = kept.unheld;
            again = λ same. ap (option_map as_told) (ap (awaits v peer) (waits_for (end_with t peer) look (job_end t.w peer) f hand may)
                ∙ ap (λ (b : Bool). if b then Some (takes_frame v peer f f.body) else None) room)
                ∙ ap (λ (z : Effect). Some z) (kept.same (told (Some f) g same));
          }

  open_again : (peer : ℕ) (b : Bool) → is_awaiting t.w.phase ≡ b → (m : Effect)
      → (if b then awaits t peer (waiting_frame (end_with t peer) t.look (job_end t.w peer)) else goes_on t) ≡ Some m → TurnAgain ws words t (λ v. with_partner v peer true) m
  open_again peer true is m e =
      let x = awaits_again peer (waiting_frame (end_with t peer) t.look (job_end t.w peer)) refl m e in
      record { made_by = x.made_by; unheld = x.unheld; again = λ same. rw is (x.again same) }
  open_again peer false is m e = let x = goes_again m e in record { made_by = x.made_by; unheld = x.unheld; again = λ same. rw is (x.again same) }

  with_again : (peer : ℕ) (b : Bool) → (m : Effect) → with_partner t peer b ≡ Some m → TurnAgain ws words t (λ v. with_partner v peer b) m
  with_again peer false m e =
      let made : quietly (talk t) None ≡ m = cc in
      subst (TurnAgain ws words t (λ v. with_partner v peer false)) made (record { made_by = refl; unheld = λ h. absurd (cc); again = λ same. refl })
  with_again peer true m e = open_again peer (is_awaiting t.w.phase) refl m e

  by_again : (q : Option ℕ) (m : Effect) → by_partner t q ≡ Some m → TurnAgain ws words t (λ v. by_partner v q) m
  by_again None m e = goes_again m e
  by_again (Some peer) m e = let x = with_again peer (end_with t peer).opened m e in record { made_by = x.made_by; unheld = x.unheld; again = λ same. x.again same }

-- ---- a job that was passed over

module _ (ws : List Work) (words : ℕ → Option Word) (t : Turn) (m : Effect) (none : (peer : ℕ) → has_room (retold t ws words m) peer ≡ false) where
  abbrev v : Turn
  v = retold t ws words m

  goes_passed : goes_on t ≡ None → goes_on v ≡ None
  goes_passed e = go (needs t t.w.phase) refl
    where
      go : (ns : List ℕ) → needs t t.w.phase ≡ ns → goes_on v ≡ None
      go [] is = absurd (let some : goes_on t ≡ Some (goes t t.w.phase) = rw is refl in let both : None ≡ Some (goes t t.w.phase) = sym e ∙ some in cc)
      go (n ∷ ns) is = rw (needs_alike t ws words m t.w.phase ∙ is) (rw (none n) refl)

  awaits_passed : (peer : ℕ) (o : Option FrameView) → awaits v peer o ≡ None
  awaits_passed peer None = refl
  awaits_passed peer (Some f) = rw (none peer) refl

  open_passed : (peer : ℕ) (b : Bool) → is_awaiting t.w.phase ≡ b → (if b then awaits t peer (waiting_frame (end_with t peer) t.look (job_end t.w peer)) else goes_on t) ≡ None
      → with_partner v peer true ≡ None
  open_passed peer true is e = rw is (awaits_passed peer (waiting_frame (end_with v peer) v.look (job_end v.w peer)))
  open_passed peer false is e = rw is (goes_passed e)

  with_passed : (peer : ℕ) (b : Bool) → with_partner t peer b ≡ None → with_partner v peer b ≡ None
  with_passed peer false e = absurd (cc)
  with_passed peer true e = open_passed peer (is_awaiting t.w.phase) refl e

  by_passed : (q : Option ℕ) → by_partner t q ≡ None → by_partner v q ≡ None
  by_passed None e = goes_passed e
  by_passed (Some peer) e = with_passed peer (end_with t peer).opened e

-- ---- the first job

-- a search finds the same, where what is passed over still is
first_again : {X : Type 0} (f g : X → Option Effect) (y : Effect) (xs : List X) → ((x : X) → f x ≡ None → g x ≡ None) → ((x : X) → f x ≡ Some y → option_map as_told (g x) ≡ Some (as_told y))
    → first_some f xs ≡ Some y → option_map as_told (first_some g xs) ≡ Some (as_told y)
first_again f g y [] none some e = absurd (cc)
first_again {X = X} f g y (x ∷ xs) none some e = go (λ h. first_again f g y xs none some h) (f x) refl e
  where
    go : (first_some f xs ≡ Some y → option_map as_told (first_some g xs) ≡ Some (as_told y)) → (o : Option Effect) → f x ≡ o → option_or o (first_some f xs) ≡ Some y → option_map as_told (first_some g (x ∷ xs)) ≡ Some (as_told y)
    go more None is h = rw (none x is) (more h)
    go more (Some z) is h = let same : z ≡ y = cc in first_seen (g x) (first_some g xs) (as_told y) (some x (is ∙ ap (λ (w : Effect). Some w) same))

module _ (s : SetUp) (st : State) (k : Look) (words : ℕ → Option Word) (small : k.part < 2 ^ 62) (m : Effect) (same : is_end m.kind ≡ true → words ≡ k.words) where
  abbrev k' : Look
  k' = look_told st.works words k m

  abbrev in_slot : ℕ → Option Work
  in_slot slot = find (λ w. w.slot == slot) st.works

  some_again : (slot : ℕ) (o : Option Work) → in_slot slot ≡ o → slot_step s st k o ≡ Some m
      → (option_map as_told (slot_step s st k' o) ≡ Some (as_told m)) × ((w : Work) × Member w st.works × (w.slot ≡ slot) × (job_of m.kind ≡ Some w.number)
      × (failed_call m.kind ≡ Some Unhold → (m.kind ≡ Fault Unhold (by_job w.number)) × (list_any (λ (h : Hold). same_owner h.owner (by_job w.number) && not h.kept) st.holds ≡ true)))
  some_again slot None is e = absurd (cc)
  some_again slot (Some w) is e =
      let found = find_member (λ (v : Work). v.slot == slot) st.works w is in
      let x = by_again st.works words (turn_of s st k w) small found.0 (partner w.what.peer w.phase) m e in
      (x.again same, (w, found.0, eqb-true w.slot slot found.1, x.made_by, x.unheld))

  module _ (maker : Work) (among : Member maker st.works) (by : job_of m.kind ≡ Some maker.number)
      (numbers : (w : Work) → Member w st.works → w.number ≡ maker.number → w.slot ≡ maker.slot) where
    -- no job runs in another slot that has the maker's number
    other_slot : (slot : ℕ) → (slot ≡ maker.slot → ⊥) → runs_in st.works maker.number slot ≡ false
    other_slot slot other = false_from_ne_true (runs_in st.works maker.number slot) (λ e.
        let it = list_any_found (λ (w : Work). (w.number == maker.number) && (w.slot == slot)) st.works e in
        let both = and_parts (it.0.number == maker.number) (it.0.slot == slot) it.2 in
        other (sym (eqb-true it.0.slot slot both.1) ∙ numbers it.0 it.1 (eqb-true it.0.number maker.number both.0)))

    no_room : (w : Work) (peer : ℕ) → (w.slot ≡ maker.slot → ⊥) → room_told st.works (job_of m.kind) m.taken m.sent (job_end w peer) ≡ false
    no_room w peer other = rw by (other_slot w.slot other)

    none_again : (slot : ℕ) → (slot ≡ maker.slot → ⊥) → (o : Option Work) → in_slot slot ≡ o → slot_step s st k o ≡ None → slot_step s st k' o ≡ None
    none_again slot other None is e = refl
    none_again slot other (Some w) is e =
        let found = find_member (λ (v : Work). v.slot == slot) st.works w is in
        by_passed st.works words (turn_of s st k w) m (λ peer. no_room w peer (λ h. other (sym (eqb-true w.slot slot found.1) ∙ h))) (partner w.what.peer w.phase) e

  pub job_by_one : job_step s st k ≡ Some m → (w : Work) × Member w st.works × (job_of m.kind ≡ Some w.number)
  job_by_one e =
      let x = first_some-was (λ slot. slot_step s st k (in_slot slot)) slots m e in
      let it = (some_again x.0 (in_slot x.0) refl x.2).1 in
      (it.0, it.1, it.3)

  -- whose effect the step in a slot is
  pub slot_by_one : (slot : ℕ) → slot_step s st k (in_slot slot) ≡ Some m → (w : Work) × Member w st.works × (w.slot ≡ slot) × (job_of m.kind ≡ Some w.number)
  slot_by_one slot e = let it = (some_again slot (in_slot slot) refl e).1 in (it.0, it.1, it.2, it.3)

  -- a failed release is that of the job's own share
  pub job_unheld : job_step s st k ≡ Some m → failed_call m.kind ≡ Some Unhold
      → (j : ℕ) × (m.kind ≡ Fault Unhold (by_job j)) × (list_any (λ (h : Hold). same_owner h.owner (by_job j) && not h.kept) st.holds ≡ true)
  job_unheld e f =
      let x = first_some-was (λ slot. slot_step s st k (in_slot slot)) slots m e in
      let it = (some_again x.0 (in_slot x.0) refl x.2).1 in
      let h = it.4 f in
      (it.0.number, h.0, h.1)

  pub job_again : ((v w : Work) → Member v st.works → Member w st.works → v.number ≡ w.number → v.slot ≡ w.slot) → job_step s st k ≡ Some m → option_map as_told (job_step s st k') ≡ Some (as_told m)
  job_again numbers e =
      let x = first_some-was (λ slot. slot_step s st k (in_slot slot)) slots m e in
      let it = (some_again x.0 (in_slot x.0) refl x.2).1 in
      first_again (λ slot. slot_step s st k (in_slot slot)) (λ slot. slot_step s st k' (in_slot slot)) m slots
      (λ slot none. elim (eqb_tells slot x.0) [
        | inl here ↦ absurd (let both : None ≡ Some m = sym none ∙ ap (λ (i : ℕ). slot_step s st k (in_slot i)) here.1 ∙ x.2 in cc)
        | inr other ↦ none_again it.0 it.1 it.3 (λ w among number. numbers w it.0 among it.1 number) slot (λ h. other.1 (h ∙ it.2)) (in_slot slot) refl none
      ])
      (λ slot some. (some_again slot (in_slot slot) refl some).0) e
