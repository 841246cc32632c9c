-- What a step of a server says, in terms of frames.
use Rattle.std.proofs.Common.{◌≡◌, ℕ, ◌+◌, ◌*◌, ◌<◌, Bool, true, false, List, [], ◌∷◌, Option, Some, None, ◌⊎◌, inl, inr, refl, sym, subst, arith, not}
use Rattle.std.specs.Prelude.{nat_lt, ◌==◌, ◌&&◌, if◌then◌else◌, filter}
use Rattle.std.proofs.lemmas.Bool.Decides.{nat_tests}
use Rattle.run_data.specs.declared.entry.Entry.{Entry}
use Rattle.annex_base.specs.declared.kinds.Found.TheVariants as found
use Rattle.run_data.specs.declared.entry.EntryKind.TheVariants.{Share, Check, Bar, Gone}
use Rattle.run_data.specs.declared.entry.By.TheVariants.{Job as by_job, Peer}
use Rattle.run_data.specs.declared.entry.FrameView.{FrameView}
use Rattle.run_data.specs.declared.entry.FrameText.{FrameText}
use Rattle.run_data.specs.declared.entry.FrameText.TheVariants.{Opening, Closing, Bytes, Line}
use Rattle.node_model.specs.Ends.{End, end_takes, is_opening, may_take, server_end, takes_at}
use Rattle.run_data.specs.declared.row.Hold.{Hold}
use Rattle.run_model.specs.Past.{bar, clock, holds, present}
use Rattle.node_model.specs.Rows.{blocks, is_blocked}
use Rattle.std.specs.List.{list_any}
use Rattle.std.proofs.lemmas.Bool.{and_parts, eqb-true}
use Rattle.annex_base.proofs.Lists.{find_member}
use Rattle.annex_base.specs.Bools.{same_bool}
use Rattle.drop_proof.specs.declared.rule.Need.{Need}
use Rattle.drop_proof.specs.Judging.{least_end}
use Rattle.run_model.specs.States.{works, state_of}
use Rattle.step_facts.proofs.Knowing.{known}
use Rattle.node_model.specs.DropStep.{in_time, until}
use Rattle.node_model.specs.SetUp.{SetUp}
use Rattle.p2p_wire.specs.declared.message.Message.{Message}
use Rattle.p2p_wire.specs.declared.message.Message.TheVariants.{CheckPresent, LockContent, Success}
use Rattle.p2p_wire.specs.Messages.{order_of, text_of}
use Rattle.node_model.specs.Sessions.{line_in}
use Rattle.node_model.specs.State.{State}
use Rattle.run_model.specs.Frames.{Way, way_of}
use Rattle.step_facts.proofs.Ways.{down_of}
use Rattle.node_model.specs.Look.{Look, Effect, entry_of}
use Rattle.node_model.specs.Step.{step}
use Rattle.node_model.specs.Found.{BySession, GivesAt, IsBeforeDeadline, TakesAt, success_line}
use Rattle.step_facts.proofs.ServerAnswers.{MayBar, MayRemove, MayObey, MayShare, OwnFree, SaysYes}
use Rattle.step_facts.proofs.StepFacts.{bar_found, removes_found, check_found, obeyed_found, own_share_found, share_found}

-- what a server's end takes is listed with its peer and slot, on the way up
pub end_takes_from : (peer slot : ℕ) (f : FrameView) → takes_at (server_end peer slot) f ≡ true → (f.peer ≡ peer) × (f.slot ≡ slot) × (f.up ≡ true)
end_takes_from peer slot f e =
    let two = and_parts ((f.peer == peer) && (f.slot == slot)) (same_bool false (if f.up then false else true)) e in
    let first = and_parts (f.peer == peer) (f.slot == slot) two.0 in
    (eqb-true f.peer peer first.0, eqb-true f.slot slot first.1, up f.up two.1)
  where
    up : (b : Bool) → same_bool false (if b then false else true) ≡ true → b ≡ true
    up true h = refl
    up false h = absurd (cc)

-- a line that an end may take is of its own opening
line_epoch : (c : End) (f : FrameView) (m : Message) → line_in f.body ≡ Some m → may_take c f ≡ true → (end_takes c f.epoch f.body).epoch ≡ f.epoch
line_epoch c f m told may = go f.body told may
  where
    go : (body : FrameText) → line_in body ≡ Some m → (if is_opening body then not c.opened && nat_lt c.epoch f.epoch else c.opened && (f.epoch == c.epoch)) ≡ true → (end_takes c f.epoch body).epoch ≡ f.epoch
    go Opening told may = absurd (cc)
    go Closing told may = absurd (cc)
    go (Bytes n) told may = absurd (cc)
    go (Line text) told may = sym (eqb-true f.epoch c.epoch (and_parts c.opened (f.epoch == c.epoch) may).1)

back_is : (r peer slot epoch : ℕ) (f : FrameView) → f.peer ≡ peer → f.slot ≡ slot → f.up ≡ true → epoch ≡ f.epoch
    → Path Way (record { client = peer; server = r; slot = slot; up = false; epoch = epoch }) (down_of (way_of r f))
back_is r peer slot epoch f p q u e = rw u (λ i. record { client = sym p i; server = r; slot = sym q i; up = false; epoch = e i })

-- a session that agrees says SUCCESS alone, on the opening of what it takes
agrees_found : (s : SetUp) (st : State) (k : Look) (m : Effect) (peer slot : ℕ) (asked : Message)
    → TakesAt s st (server_end peer slot) (Some asked) success_line m ⊎ GivesAt s st (server_end peer slot) (Some asked) success_line m
    → SaysYes s.number (entry_of s.number k m) peer slot asked
agrees_found s st k m peer slot asked (inr x) = absurd (let no : Some asked ≡ None = x.asked_is in cc)
agrees_found s st k m peer slot asked (inl x) =
    let at = end_takes_from peer slot x.f x.of_end in
    let c = end_takes (st.ends (server_end peer slot)) x.f.epoch x.f.body in
    let same : c.epoch ≡ x.f.epoch = line_epoch (st.ends (server_end peer slot)) x.f asked (sym x.asked_is) x.may in
    record {
      takes = record { f = x.f; takes_it = x.taken_is; from_client = at.2; peer_is = at.0; slot_is = at.1; asked_is = sym x.asked_is };
      g = record { peer = peer; slot = slot; up = false; epoch = c.epoch; seq = c.sent + 1; body = Line (text_of Success) };
      alone = x.sent_is;
      back = back_is s.number peer slot c.epoch x.f at.0 at.1 at.2 same;
      yes = refl;
    }

-- where nothing is held, nothing blocks
unheld_is : (hs : List Hold) (q : Hold → Bool) → until (filter q hs) ≡ None → list_any q hs ≡ false
unheld_is [] q e = refl
unheld_is (h ∷ hs) q e = go (λ f. unheld_is hs q f) (q h) refl e
  where
    go : (until (filter q hs) ≡ None → list_any q hs ≡ false) → (b : Bool) → q h ≡ b → until (filter q (h ∷ hs)) ≡ None → list_any q (h ∷ hs) ≡ false
    go more true is f = absurd (let no : until (h ∷ filter q hs) ≡ None = rw is at f in cc)
    go more false is f = rw is (more (rw is at f))

below : (clock : ℕ) (end : Option ℕ) → in_time clock end ≡ true → (first : ℕ) → end ≡ Some first → clock < first
below clock None t first is = absurd (cc)
below clock (Some n) t first is = let same : n ≡ first = cc in subst (λ q. clock < q) same (grind (arith, nat_tests))

module _ (s : SetUp) (past : List Entry) (k : Look) (m : Effect) (e : step s (state_of s past) k ≡ Some m) where
  -- the session was asked this, and agreed
  says_yes : (x : BySession s (state_of s past) k m) (asked : Message) → x.asked ≡ Some asked → x.says ≡ success_line → SaysYes s.number (entry_of s.number k m) x.peer x.slot asked
  says_yes x asked is says = agrees_found s (state_of s past) k m x.peer x.slot asked
      (subst (λ (a : Option Message). TakesAt s (state_of s past) (server_end x.peer x.slot) a success_line m ⊎ GivesAt s (state_of s past) (server_end x.peer x.slot) a success_line m) is
      (subst (λ (z : List FrameText). TakesAt s (state_of s past) (server_end x.peer x.slot) x.asked z m ⊎ GivesAt s (state_of s past) (server_end x.peer x.slot) x.asked z m) says x.frame))

  pub may_share : (hold end p c : ℕ) (key : List ℕ) → m.kind ≡ Share hold end (Peer p c) key → MayShare s.repos s.number past (entry_of s.number k m) hold end key
  may_share hold end p c key is =
      let x = share_found s (state_of s past) k m e hold end p c key is in
      record { row = record { there = x.found.there; free = x.found.free }; end_is = x.found.end_is; number_is = x.found.hold_is }

  pub shares_with : (hold end p c : ℕ) (key : List ℕ) → m.kind ≡ Share hold end (Peer p c) key → SaysYes s.number (entry_of s.number k m) p c (LockContent key)
  shares_with hold end p c key is =
      let x = share_found s (state_of s past) k m e hold end p c key is in
      let both : Peer p c ≡ Peer x.by.peer x.by.slot = x.found.by_is in
      let peer : p ≡ x.by.peer = cc in
      let slot : c ≡ x.by.slot = cc in
      subst (λ q. SaysYes s.number (entry_of s.number k m) q c (LockContent key)) (sym peer)
      (subst (λ q. SaysYes s.number (entry_of s.number k m) x.by.peer q (LockContent key)) (sym slot) (says_yes x.by (LockContent key) x.found.asks x.found.says_is))

  pub may_share_own : (hold end j : ℕ) (key : List ℕ) → m.kind ≡ Share hold end (by_job j) key → MayShare s.repos s.number past (entry_of s.number k m) hold end key
  may_share_own hold end j key is =
      let x = own_share_found s (state_of s past) k m e hold end j key is in
      let f = x.found in
      record {
        row = record { there = subst (λ q. present past s.number q ≡ true) (sym f.key_is) f.there; free = subst (λ q. bar past s.number q ≡ None) (sym f.key_is) f.free };
        end_is = f.end_is;
        number_is = f.hold_is;
      }

  pub looks : (key : List ℕ) → m.kind ≡ Check found.Present key
      → OwnFree past s.number key × ((p c : ℕ) × SaysYes s.number (entry_of s.number k m) p c (CheckPresent key))
  looks key is =
      let x = check_found s (state_of s past) k m e found.Present key is in
      (record { there = x.found.there; free = x.found.free }, (x.by.peer, x.by.slot, says_yes x.by (CheckPresent key) x.found.asks x.found.says_is))

  soon_of : (clock : ℕ) (deadline : Option ℕ) → IsBeforeDeadline clock deadline → (before : ℕ) → deadline ≡ Some before → clock < 1000 * before
  soon_of clock None t before is = absurd (cc)
  soon_of clock (Some n) t before is = let same : n ≡ before = cc in subst (λ q. clock < 1000 * q) same (grind (arith, nat_tests))

  pub may_obey : (p c : ℕ) (key : List ℕ) → m.kind ≡ Gone (Peer p c) key → MayObey s.repos s.number past (entry_of s.number k m) p c key
  may_obey p c key is =
      let x = obeyed_found s (state_of s past) k m e p c key is in
      let both : Peer p c ≡ Peer x.by.peer x.by.slot = x.found.by_is in
      let peer : p ≡ x.by.peer = cc in
      let slot : c ≡ x.by.slot = cc in
      record {
        deadline = x.found.deadline;
        yes = subst (λ q. SaysYes s.number (entry_of s.number k m) q c (order_of x.found.deadline key)) (sym peer)
            (subst (λ q. SaysYes s.number (entry_of s.number k m) x.by.peer q (order_of x.found.deadline key)) (sym slot) (says_yes x.by (order_of x.found.deadline key) x.found.asks x.found.says_is));
        row = record { there = x.found.there; free = x.found.free };
        unheld = x.found.unheld;
        soon = soon_of (clock s.repos past s.number k.time) x.found.deadline x.found.soon;
      }

  pub may_bar : (j : ℕ) (need : Need) (key : List ℕ) → m.kind ≡ Bar j need key → MayBar s past (entry_of s.number k m) j need key
  may_bar j need key is =
      let x = bar_found s (state_of s past) k m e j need key is in
      let f = x.found in
      let w = x.by.w in
      record {
        row = record { there = subst (λ q. present past s.number q ≡ true) (sym f.key_is) f.there; free = subst (λ q. bar past s.number q ≡ None) (sym f.key_is) f.free };
        unheld = subst (λ q. is_blocked (holds past s.number) q (clock s.repos past s.number k.time) ≡ false) (sym f.key_is)
            (unheld_is (holds past s.number) (blocks w.what.key (clock s.repos past s.number k.time)) f.unheld);
        w = w;
        runs = (find_member (λ v. v.slot == x.by.slot) (works past s.number) w x.by.runs).0;
        number_is = f.number_is;
        first = f.first;
        dropping = f.part_is;
        local = f.side;
        key_is = f.key_is;
        need_is = f.need_is;
      }

  pub may_remove : (j : ℕ) (key : List ℕ) → m.kind ≡ Gone (by_job j) key → MayRemove s past (entry_of s.number k m) j key
  may_remove j key is =
      let x = removes_found s (state_of s past) k m e j key is in
      let f = x.found in
      let w = x.by.w in
      let both : by_job j ≡ by_job w.number = f.by_is in
      record {
        w = w;
        runs = (find_member (λ v. v.slot == x.by.slot) (works past s.number) w x.by.runs).0;
        number_is = cc;
        next = f.next;
        dropping = f.part_is;
        local = f.side;
        key_is = f.key_is;
        enough = f.enough;
        soon = below (clock s.repos past s.number k.time) (least_end (known s (state_of s past) w)) f.in_time;
      }
