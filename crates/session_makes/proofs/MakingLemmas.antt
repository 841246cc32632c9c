-- What a session makes, beside what an entry tells.
use Rattle.std.proofs.Common.{◌≡◌, ℕ, zero, suc, Bool, true, false, not, ◌&&◌, cond, List, [], ◌∷◌, Option, Some, None, refl, sym, ap, ◌∙◌}
use Rattle.std.specs.Prelude.{if◌then◌else◌, slice_get}
use Rattle.std.specs.Option.{option_eq, option_to_list}
use Rattle.annex_base.specs.Bools.{same_bool}
use Rattle.annex_base.specs.declared.kinds.Word.{Word}
use Rattle.annex_base.proofs.Conditions.{bytes_eq-refl, eqb_refl, same_bool_refl}
use Rattle.run_data.specs.declared.entry.Entry.{Entry}
use Rattle.run_data.specs.declared.entry.FrameText.{FrameText}
use Rattle.run_data.specs.declared.entry.FrameText.TheVariants.{Opening, Closing, Bytes, Line}
use Rattle.run_data.specs.declared.entry.FrameView.{FrameView}
use Rattle.run_data.specs.declared.run.RepoView.{RepoView}
use Rattle.run_data.specs.Repos.{id_of}
use Rattle.node_model.specs.Ends.{End, EndName, end_takes, frames, may_take, sends_at, server_end, takes_at}
use Rattle.node_model.specs.Look.{Effect, Look}
use Rattle.node_model.specs.Sessions.{Session}
use Rattle.node_model.specs.SessionStep.{Here, Reply, gives_made, gives_next, here, is_filled, on_frame, reply_made, session_at, session_makes}
use Rattle.node_model.specs.SetUp.{SetUp}
use Rattle.node_model.specs.Slots.{job_of}
use Rattle.node_model.specs.State.{State}
use Rattle.step_judging.specs.Rules.{effect_of, is_effect}
use Rattle.step_judging.specs.Same.{same_body, same_effect, same_frame, same_frames, same_kind, same_lines}
use Rattle.step_judging.specs.Telling.{failed_call, first_line, look_of, matches_told, part_told, room_told}
use Rattle.step_judging.specs.Told.{is_served, session_told}
use Rattle.step_effects.specs.Sendings.{name_of}
use Rattle.step_effects.specs.declared.sending.EndAt.{EndAt}
use Rattle.session_makes.specs.Scenes.{here_in, is_reply, is_reply_if}
use Rattle.session_makes.specs.declared.scene.Scene.{Scene}

-- ---- tests

and_true : (b : Bool) → (b && true) ≡ b
and_true true = refl
and_true false = refl

and_false : (b : Bool) → (b && false) ≡ false
and_false true = refl
and_false false = refl

-- ---- frames

same_body_itself : (body : FrameText) → same_body body body ≡ true
same_body_itself Opening = refl
same_body_itself Closing = refl
same_body_itself (Bytes n) = eqb_refl n
same_body_itself (Line text) = bytes_eq-refl text

same_frame_itself : (f : FrameView) → same_frame f f ≡ true
same_frame_itself f =
    λ i. eqb_refl f.peer i && eqb_refl f.slot i && same_bool_refl f.up i && eqb_refl f.epoch i && eqb_refl f.seq i && same_body_itself f.body i

-- ---- a reply, with the frame that is taken

reply_so : (x : Scene) (taken : Option FrameView) (r : Reply) → option_eq same_frame taken x.told.now.taken ≡ true
    → same_effect (reply_made (name_of x.at) x.at.was taken r) (effect_of x.told.now) ≡ (is_reply x r && same_lines [] x.told.now.lines)
reply_so x taken r same =
    let e = x.told.now in
    let said = same_frames (frames (name_of x.at) x.at.was r.says) e.sent in
    ap (λ (b : Bool). same_kind r.kind e.kind && b && said && same_lines [] e.lines) same
    ∙ ap (λ (b : Bool). b && said && same_lines [] e.lines) (and_true (same_kind r.kind e.kind))

pub answer_so : (x : Scene) (f : FrameView) (r : Reply) → x.told.now.taken ≡ Some f
    → same_effect (reply_made (name_of x.at) x.at.was (Some f) r) (effect_of x.told.now) ≡ (is_reply x r && same_lines [] x.told.now.lines)
answer_so x f r taken = reply_so x (Some f) r (ap (λ (o : Option FrameView). option_eq same_frame (Some f) o) taken ∙ same_frame_itself f)

pub gift_so : (x : Scene) (o : Option Reply) → x.told.now.taken ≡ None
    → is_effect (gives_made (name_of x.at) x.at.was o) (effect_of x.told.now) ≡ (is_reply_if x o && same_lines [] x.told.now.lines)
gift_so x None taken = refl
gift_so x (Some r) taken = reply_so x None r (ap (λ (o : Option FrameView). option_eq same_frame None o) taken)

-- ---- the repository itself

pub id_found : (repos : List RepoView) (r : ℕ) (repo : RepoView) → slice_get repos r ≡ Some repo → id_of repos r ≡ repo.id
id_found [] r repo e = absurd (cc)
id_found (x ∷ xs) zero repo e = let same : x ≡ repo = cc in ap (λ (y : RepoView). y.id) same
id_found (x ∷ xs) (suc r) repo e = id_found xs r repo e

-- ---- at the end of the frame

-- the look that an entry tells of, where it is of this job, if of one, takes this frame, if one, and sends these
abbrev look_at : State → (ℕ → Option Word) → Entry → Option ℕ → Option FrameView → List FrameView → Look
look_at st words e job taken sent =
    record {
      time = e.time;
      count = e.count;
      at_hand = option_to_list taken;
      room = room_told st.works job taken sent;
      fails = failed_call e.kind;
      part = part_told e.kind (first_line e.sent);
      right = matches_told e.kind;
      words = words;
    }

-- a frame that isn't taken is none that the entry takes
not_untaken : (a : EndName) (c : End) (o : Option Reply) (e : Entry) (f : FrameView) → e.taken ≡ Some f → is_effect (gives_made a c o) (effect_of e) ≡ false
not_untaken a c None e f taken = refl
not_untaken a c (Some r) e f taken =
    let said = same_frames (frames a c r.says) e.sent in
    ap (λ (o : Option FrameView). same_kind r.kind e.kind && option_eq same_frame None o && said && same_lines [] e.lines) taken
    ∙ ap (λ (b : Bool). b && said && same_lines [] e.lines) (and_false (same_kind r.kind e.kind))

taking_go : (h : Here) (c : End) (was : Session) (f : FrameView) (e : Entry) (t m : Bool) → e.taken ≡ Some f
    → is_effect (if t then session_makes h c was (cond (t && m) (Some f) None) else None) (effect_of e)
    ≡ (if t && m then same_effect (reply_made h.at (end_takes c f.epoch f.body) (Some f) (on_frame h was f.body)) (effect_of e) else false)
taking_go h c was f e true true taken = refl
taking_go h c was f e true false taken = go c.opened
  where
    go : (b : Bool) → is_effect (if b then gives_made h.at c (gives_next h was.doing) else None) (effect_of e) ≡ false
    go true = not_untaken h.at c (gives_next h was.doing) e f taken
    go false = refl
taking_go h c was f e false m taken = refl

up_is : (b : Bool) → same_bool false (if b then false else true) ≡ b
up_is true = refl
up_is false = refl

down_is : (b : Bool) → same_bool b false ≡ not b
down_is true = refl
down_is false = refl

takes_own : (f : FrameView) → takes_at (server_end f.peer f.slot) f ≡ f.up
takes_own f = (λ i. eqb_refl f.peer i && eqb_refl f.slot i && same_bool false (if f.up then false else true)) ∙ up_is f.up

sends_own : (f : FrameView) → sends_at (server_end f.peer f.slot) f ≡ not f.up
sends_own f = (λ i. eqb_refl f.peer i && eqb_refl f.slot i && same_bool f.up false) ∙ down_is f.up

-- the answer to the frame, where the session takes it
taking_so : (s : SetUp) (st : State) (words : ℕ → Option Word) (e : Entry) (f : FrameView) → job_of e.kind ≡ None → e.taken ≡ Some f
    → is_effect (session_at s st (look_of st words e) (server_end f.peer f.slot)) (effect_of e)
    ≡ (if f.up && may_take (st.ends (server_end f.peer f.slot)) f
    then same_effect (reply_made (server_end f.peer f.slot) (end_takes (st.ends (server_end f.peer f.slot)) f.epoch f.body) (Some f)
    (on_frame (here s st (look_of st words e) (server_end f.peer f.slot)) (st.sessions (server_end f.peer f.slot)) f.body)) (effect_of e)
    else false)
taking_so s st words e f none taken =
    let a = server_end f.peer f.slot in
    let c = st.ends a in
    let h = here s st (look_of st words e) a in
    let made = same_effect (reply_made a (end_takes c f.epoch f.body) (Some f) (on_frame h (st.sessions a) f.body)) (effect_of e) in
    ap (λ (job : Option ℕ). is_effect (session_at s st (look_at st words e job e.taken e.sent) a) (effect_of e)) none
    ∙ ap (λ (o : Option FrameView). is_effect (session_at s st (look_at st words e None o e.sent) a) (effect_of e)) taken
    ∙ taking_go h c (st.sessions a) f e (takes_at a f) (may_take c f) taken
    ∙ ap (λ (b : Bool). if b && may_take c f then made else false) (takes_own f)

giving_go : (t o : Bool) (x : Option Effect) (m : Effect) → is_effect (if t then (if o then x else None) else None) m ≡ (if t && o then is_effect x m else false)
giving_go true true x m = refl
giving_go true false x m = refl
giving_go false o x m = refl

-- what the session gives unasked, where no frame is taken
giving_so : (s : SetUp) (st : State) (words : ℕ → Option Word) (e : Entry) (f : FrameView) (more : List FrameView) → job_of e.kind ≡ None → e.taken ≡ None → e.sent ≡ f ∷ more
    → is_effect (session_at s st (look_of st words e) (server_end f.peer f.slot)) (effect_of e)
    ≡ (if not f.up && (st.ends (server_end f.peer f.slot)).opened
    then is_effect (gives_made (server_end f.peer f.slot) (st.ends (server_end f.peer f.slot))
    (gives_next (here s st (look_of st words e) (server_end f.peer f.slot)) (st.sessions (server_end f.peer f.slot)).doing)) (effect_of e)
    else false)
giving_so s st words e f more none taken sent =
    let a = server_end f.peer f.slot in
    let c = st.ends a in
    let made = gives_made a c (gives_next (here s st (look_of st words e) a) (st.sessions a).doing) in
    ap (λ (job : Option ℕ). is_effect (session_at s st (look_at st words e job e.taken e.sent) a) (effect_of e)) none
    ∙ ap (λ (o : Option FrameView). is_effect (session_at s st (look_at st words e None o e.sent) a) (effect_of e)) taken
    ∙ ap (λ (fs : List FrameView). is_effect (session_at s st (look_at st words e None None fs) a) (effect_of e)) sent
    ∙ giving_go (sends_at a f) c.opened made (effect_of e)
    ∙ ap (λ (b : Bool). if b && c.opened then is_effect made (effect_of e) else false) (sends_own f)

-- ---- by the connection of the frame

served_if : (b : Bool) (x : Option Effect) (m : Effect) → b ≡ true → is_effect (if b then x else None) m ≡ is_effect x m
served_if true x m e = refl
served_if false x m e = absurd (cc)

chosen : (b : Bool) (x y : Bool) → b ≡ true → (if b then x else y) ≡ x
chosen true x y e = refl
chosen false x y e = absurd (cc)

left : (b : Bool) (x y : Bool) → b ≡ false → (if b then x else y) ≡ y
left true x y e = absurd (cc)
left false x y e = refl

pub served_by : (b : Bool) (o : Option RepoView) (repo : RepoView) → Some repo ≡ (if b then o else None) → (b ≡ true) × (o ≡ Some repo)
served_by true o repo e = (refl, sym e)
served_by false o repo e = absurd (cc)

module _ (s : SetUp) (st : State) (words : ℕ → Option Word) (e : Entry) (f : FrameView) (none : job_of e.kind ≡ None) (served : is_served s (f.peer, f.slot) ≡ true) where
  at_connection : is_effect (session_told s st (look_of st words e) (Some (f.peer, f.slot))) (effect_of e) ≡ is_effect (session_at s st (look_of st words e) (server_end f.peer f.slot)) (effect_of e)
  at_connection = served_if (is_served s (f.peer, f.slot)) (session_at s st (look_of st words e) (server_end f.peer f.slot)) (effect_of e) served

  -- the frame isn't taken
  pub passed_by : e.taken ≡ Some f → (f.up && may_take (st.ends (server_end f.peer f.slot)) f) ≡ false
      → is_effect (session_told s st (look_of st words e) (Some (f.peer, f.slot))) (effect_of e) ≡ false
  passed_by taken no_frame =
      at_connection ∙ taking_so s st words e f none taken ∙ left (f.up && may_take (st.ends (server_end f.peer f.slot)) f) _ false no_frame

  -- it is, and the scene is that of the session
  pub answered : e.taken ≡ Some f → (f.up && may_take (st.ends (server_end f.peer f.slot)) f) ≡ true
      → (x : Scene) → x.at ≡ record { peer = f.peer; slot = f.slot; client = false; was = end_takes (st.ends (server_end f.peer f.slot)) f.epoch f.body } → x.told.now ≡ e
      → here_in x (is_filled s st) ≡ here s st (look_of st words e) (name_of x.at)
      → (is_reply x (on_frame (here_in x (is_filled s st)) (st.sessions (server_end x.at.peer x.at.slot)) f.body) && same_lines [] x.told.now.lines)
      ≡ is_effect (session_told s st (look_of st words e) (Some (f.peer, f.slot))) (effect_of e)
  answered taken passes x at told hears =
      let a = server_end f.peer f.slot in
      let k = look_of st words e in
      let end : EndAt = record { peer = f.peer; slot = f.slot; client = false; was = end_takes (st.ends a) f.epoch f.body } in
      let made : EndAt → Here → Entry → Bool = λ y h t. same_effect (reply_made (name_of y) y.was (Some f) (on_frame h (st.sessions (server_end y.peer y.slot)) f.body)) (effect_of t) in
      sym (answer_so x f (on_frame (here_in x (is_filled s st)) (st.sessions (server_end x.at.peer x.at.slot)) f.body) (ap (λ (t : Entry). t.taken) told ∙ taken))
      ∙ ap (λ (t : Entry). made x.at (here_in x (is_filled s st)) t) told
      ∙ ap (λ (h : Here). made x.at h e) hears
      ∙ ap (λ (y : EndAt). made y (here s st k (name_of y)) e) at
      ∙ sym (at_connection ∙ taking_so s st words e f none taken ∙ chosen (f.up && may_take (st.ends a) f) (made end (here s st k a) e) false passes)

  -- nothing is given
  pub silent : (more : List FrameView) → e.taken ≡ None → e.sent ≡ f ∷ more → (not f.up && (st.ends (server_end f.peer f.slot)).opened) ≡ false
      → is_effect (session_told s st (look_of st words e) (Some (f.peer, f.slot))) (effect_of e) ≡ false
  silent more taken sent no_gift =
      at_connection ∙ giving_so s st words e f more none taken sent ∙ left (not f.up && (st.ends (server_end f.peer f.slot)).opened) _ false no_gift

  pub given : (more : List FrameView) → e.taken ≡ None → e.sent ≡ f ∷ more → (not f.up && (st.ends (server_end f.peer f.slot)).opened) ≡ true
      → (x : Scene) → x.at ≡ record { peer = f.peer; slot = f.slot; client = false; was = st.ends (server_end f.peer f.slot) } → x.told.now ≡ e
      → here_in x (is_filled s st) ≡ here s st (look_of st words e) (name_of x.at)
      → (is_reply_if x (gives_next (here_in x (is_filled s st)) (st.sessions (server_end x.at.peer x.at.slot)).doing) && same_lines [] x.told.now.lines)
      ≡ is_effect (session_told s st (look_of st words e) (Some (f.peer, f.slot))) (effect_of e)
  given more taken sent passes x at told hears =
      let a = server_end f.peer f.slot in
      let k = look_of st words e in
      let end : EndAt = record { peer = f.peer; slot = f.slot; client = false; was = st.ends a } in
      let made : EndAt → Here → Entry → Bool = λ y h t. is_effect (gives_made (name_of y) y.was (gives_next h (st.sessions (server_end y.peer y.slot)).doing)) (effect_of t) in
      sym (gift_so x (gives_next (here_in x (is_filled s st)) (st.sessions (server_end x.at.peer x.at.slot)).doing) (ap (λ (t : Entry). t.taken) told ∙ taken))
      ∙ ap (λ (t : Entry). made x.at (here_in x (is_filled s st)) t) told
      ∙ ap (λ (h : Here). made x.at h e) hears
      ∙ ap (λ (y : EndAt). made y (here s st k (name_of y)) e) at
      ∙ sym (at_connection ∙ giving_so s st words e f more none taken sent ∙ chosen (not f.up && (st.ends a).opened) (made end (here s st k a) e) false passes)
