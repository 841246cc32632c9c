-- The keys of the lines that are owed are keys: those of begun jobs, and of requests that were read.
use Rattle.std.proofs.Common.{◌≡◌, ℕ, ◌+◌, ◌-◌, Bool, true, false, List, [], ◌∷◌, Option, Some, None, ◌⊎◌, inl, inr, refl, sym, ap, ◌∙◌, subst}
use Rattle.std.specs.Prelude.{if◌then◌else◌, ◌==◌, ◌&&◌, bytes_eq, codes, find, is_none, length, map, nat_le, not, option_and_then, option_map}
use Rattle.std.specs.Option.{option_to_list}
use Rattle.std.proofs.lemmas.Bool.{eqb-true}
use Rattle.annex_base.specs.Lists.{Each}
use Rattle.annex_base.specs.declared.kinds.Call.{Call}
use Rattle.annex_base.specs.declared.kinds.Call.TheVariants.{PutFile}
use Rattle.annex_base.specs.declared.kinds.Word.{Word}
use Rattle.annex_base.specs.RepoText.{repo_of}
use Rattle.annex_base.proofs.Conditions.{if_either}
use Rattle.annex_base.proofs.Lists.{Each-append, Each-drop, Each-filter, Each-member, find_member}
use Rattle.annex_base.proofs.Options.{is_none_true}
use Rattle.annex_key.specs.KeyText.{IsKeyText}
use Rattle.annex_key.specs.View.{first_fault}
use Rattle.run_data.specs.declared.entry.By.{By}
use Rattle.run_data.specs.declared.entry.By.TheVariants.{Script, Job as by_job}
use Rattle.run_data.specs.declared.entry.Entry.{Entry}
use Rattle.run_data.specs.declared.entry.EntryKind.{EntryKind}
use Rattle.run_data.specs.declared.entry.EntryKind.TheVariants.{Begin, Gain, Share, Gone, Log, Talk, Crash, Fault, End as ends_job}
use Rattle.run_data.specs.declared.entry.FrameView.{FrameView}
use Rattle.run_data.specs.declared.entry.FrameText.{FrameText}
use Rattle.run_data.specs.declared.entry.FrameText.TheVariants.{Opening, Closing, Bytes, Line}
use Rattle.run_data.specs.declared.entry.LogFile.{LogFile}
use Rattle.run_data.specs.declared.run.RepoView.{RepoView}
use Rattle.p2p_wire.specs.declared.message.Message.{Message}
use Rattle.p2p_wire.specs.declared.message.Message.TheVariants.{AlreadyHave, AuthSuccess, CheckPresent, Data, Error, Failure, Get, Invalid, LockContent, Put, PutFrom, Remove, RemoveBefore, Success, Timestamp, UnlockContent, Valid, Version}
use Rattle.p2p_wire.specs.Messages.{alone, key_in, message_by, message_of, number_in, order_of, rest_in, text_in, then_in, with_file, with_key, with_number, with_one, word_in}
use Rattle.node_model.specs.AnyTime.{MayCome}
use Rattle.node_model.specs.Ends.{EndName, sent_at, server_end, taken_at}
use Rattle.node_model.specs.Found.{BySession, GivesAt, IsJobEntry, IsSessionEntry, StepFound, TakesAt}
use Rattle.node_model.specs.Jobs.{Orders, Phase, PutsAnswer, PutsOffer, RowsAndEnds, Work, work_after, works_after}
use Rattle.node_model.specs.JobStep.{turn_of}
use Rattle.node_model.specs.Look.{Look, Effect}
use Rattle.node_model.specs.OwedLines.{OwedLine, owed_for, due, owed_without, owed_line, owed_after, pays, same_lines, told_frame, told_line, told_to}
use Rattle.node_model.specs.Rows.{option_is}
use Rattle.node_model.specs.SessionStep.{here}
use Rattle.node_model.specs.Sessions.{Doing, Gives, Session, Takes, Took, Wants, doing_after, gave_bytes, gives, guards, line_in, reaches, message_said, sends_close, sent_more, sent_one, session_after, session_goes, session_left, session_took, takes_more, took_bytes, took_message, takes_from, wants}
use Rattle.node_model.specs.SetUp.{SetUp}
use Rattle.node_model.specs.Slots.{RunningJob}
use Rattle.hash_dirs.specs.LogPath.{location_path}
use Rattle.run_data.specs.Files.{file_path}
use Rattle.node_model.specs.Clocks.{wall}
use Rattle.run_model.specs.Logs.{lines_of_file}
use Rattle.run_model.specs.Past.{is_of}
use Rattle.run_model.specs.Run.{ComesAnyTime, IsStep, MayBe, OwnPart, RunPast}
use Rattle.run_model.specs.States.{content, owes, rows_at, session, state_of, works}
use Rattle.driver_model.proofs.Premises.{Laws}
use Rattle.driver_model.proofs.Logged.{OwedKeys, set_ups}

-- ---- messages that are read

-- the keys that a session or an order may come to are keys
abbrev MessageWell : Message → Type 0
MessageWell (Put file key) = first_fault key ≡ None
MessageWell (Remove key) = first_fault key ≡ None
MessageWell (RemoveBefore n key) = first_fault key ≡ None
MessageWell m = Unit {0}

abbrev Read : Option Message → Type 0
Read None = Unit {0}
Read (Some m) = MessageWell m

plain_read : {X : Type 0} (c : X → Message) → ((x : X) → MessageWell (c x)) → (o : Option X) → Read (option_map c o)
plain_read c well None = tt
plain_read c well (Some x) = well x

key_read : (c : List ℕ → Message) → ((key : List ℕ) → first_fault key ≡ None → MessageWell (c key)) → (rest : List ℕ) → Read (option_map c (key_in rest))
key_read c well rest = go (is_none (first_fault rest)) refl
  where
    go : (b : Bool) → is_none (first_fault rest) ≡ b → Read (option_map c (if b then Some rest else None))
    go true i = well rest (is_none_true (first_fault rest) i)
    go false i = tt

then_read : {X : Type 0} (first : List ℕ → Option X) (second : X → List ℕ → Option Message) → ((x : X) (rest : List ℕ) → Read (second x rest)) → (text : List ℕ) → Read (then_in first second text)
then_read {X = X} first second well text = go (rest_in text)
  where
    at : (rest : List ℕ) (o : Option X) → Read (option_and_then (λ x. second x rest) o)
    at rest None = tt
    at rest (Some x) = well x rest

    go : (o : Option (List ℕ)) → Read (option_and_then (λ rest. option_and_then (λ x. second x rest) (first (word_in text))) o)
    go None = tt
    go (Some rest) = at rest (first (word_in text))

number_read : (m : ℕ → List ℕ → Message) → ((n : ℕ) (key : List ℕ) → first_fault key ≡ None → MessageWell (m n key)) → (text : List ℕ) → Read (with_number m text)
number_read m well text = then_read number_in (λ n rest. option_map (m n) (key_in rest)) (λ n rest. key_read (m n) (well n) rest) text

file_read : (m : List ℕ → List ℕ → Message) → ((file key : List ℕ) → first_fault key ≡ None → MessageWell (m file key)) → (text : List ℕ) → Read (with_file m text)
file_read m well text = then_read Some (λ file rest. option_map (m file) (key_in rest)) (λ file rest. key_read (m file) (well file) rest) text

alone_read : (word : List ℕ) → Read (alone word)
alone_read word = if_either Read (bytes_eq word (codes "SUCCESS")) _ _ (λ b. tt)
    (λ b. if_either Read (bytes_eq word (codes "FAILURE")) _ _ (λ b. tt)
    (λ b. if_either Read (bytes_eq word (codes "VALID")) _ _ (λ b. tt)
    (λ b. if_either Read (bytes_eq word (codes "INVALID")) _ _ (λ b. tt)
    (λ b. if_either Read (bytes_eq word (codes "ALREADY-HAVE")) _ _ (λ b. tt)
    (λ b. if_either Read (bytes_eq word (codes "GETTIMESTAMP")) _ _ (λ b. tt) (λ b. tt))))))

one_read : (word rest : List ℕ) → Read (with_one word rest)
one_read word rest = if_either Read (bytes_eq word (codes "VERSION")) _ _ (λ b. plain_read Version (λ x. tt) (number_in rest))
    (λ b. if_either Read (bytes_eq word (codes "TIMESTAMP")) _ _ (λ b. plain_read Timestamp (λ x. tt) (number_in rest))
    (λ b. if_either Read (bytes_eq word (codes "PUT-FROM")) _ _ (λ b. plain_read PutFrom (λ x. tt) (number_in rest))
    (λ b. if_either Read (bytes_eq word (codes "DATA")) _ _ (λ b. plain_read Data (λ x. tt) (number_in rest))
    (λ b. if_either Read (bytes_eq word (codes "AUTH-SUCCESS")) _ _ (λ b. plain_read AuthSuccess (λ x. tt) (repo_of rest))
    (λ b. if_either Read (bytes_eq word (codes "ERROR")) _ _ (λ b. plain_read Error (λ x. tt) (text_in rest)) (λ b. tt))))))

with_read : (word rest : List ℕ) → Read (with_key word rest)
with_read word rest = if_either Read (bytes_eq word (codes "LOCKCONTENT")) _ _ (λ b. key_read LockContent (λ key e. tt) rest)
    (λ b. if_either Read (bytes_eq word (codes "UNLOCKCONTENT")) _ _ (λ b. key_read UnlockContent (λ key e. tt) rest)
    (λ b. if_either Read (bytes_eq word (codes "CHECKPRESENT")) _ _ (λ b. key_read CheckPresent (λ key e. tt) rest)
    (λ b. if_either Read (bytes_eq word (codes "REMOVE")) _ _ (λ b. key_read Remove (λ key e. e) rest)
    (λ b. if_either Read (bytes_eq word (codes "REMOVE-BEFORE")) _ _ (λ b. number_read RemoveBefore (λ n key e. e) rest)
    (λ b. if_either Read (bytes_eq word (codes "GET")) _ _ (λ b. then_read number_in (λ n text. with_file (Get n) text) (λ n text. file_read (Get n) (λ file key e. tt) text) rest)
    (λ b. if_either Read (bytes_eq word (codes "PUT")) _ _ (λ b. file_read Put (λ file key e. e) rest) (λ b. one_read word rest)))))))

by_read : (word : List ℕ) (o : Option (List ℕ)) → Read (message_by word o)
by_read word None = alone_read word
by_read word (Some rest) = with_read word rest

message_read : (text : List ℕ) → Read (message_of text)
message_read text = if_either Read (nat_le (length text) 8192) _ _ (λ b. by_read (word_in text) (rest_in text)) (λ b. tt)

line_read : (body : FrameText) → Read (line_in body)
line_read (Line text) = message_read text
line_read body = tt

-- ---- sessions

module _ (laws : Laws) where
  -- the key that a session fills is a key
  abbrev DoingWell : Doing → Type 0
  DoingWell (Wants key size) = IsKeyText key
  DoingWell (Takes key size left) = IsKeyText key
  DoingWell (Took key size) = IsKeyText key
  DoingWell doing = Unit {0}

  more_well : (key : List ℕ) (size left : ℕ) → IsKeyText key → DoingWell (takes_more key size left)
  more_well key size left is = if_either DoingWell (left == 0) (Took key size) (Takes key size left) (λ b. is) (λ b. is)

  wanted_well : (n : ℕ) (doing : Doing) → DoingWell doing → DoingWell (takes_from n doing)
  wanted_well n (Wants key size) is = more_well key size n is
  wanted_well n (Takes key size left) is = is
  wanted_well n (Took key size) is = is
  wanted_well n doing is = tt

  guards_well : (kind : EntryKind) → DoingWell (guards kind)
  guards_well (Share hold end owner key) = tt
  guards_well kind = tt

  gives_well : (key : List ℕ) (at : ℕ) (good : Bool) (told : Option Message) → DoingWell (gives key at good told)
  gives_well key at good (Some (Data left)) = tt
  gives_well key at good told = tt

  wants_well : (key : List ℕ) (told : Option Message) → IsKeyText key → DoingWell (wants key told)
  wants_well key (Some (PutFrom size)) is = is
  wants_well key told is = tt

  after_well : (size : List ℕ → Option ℕ) (kind : EntryKind) (was : Doing) (told : Option Message) (m : Message) → MessageWell m → DoingWell was → DoingWell (doing_after size kind was told m)
  after_well size kind was told (LockContent key) w d = guards_well kind
  after_well size kind was told (UnlockContent key) w d = tt
  after_well size kind was told (Get n file key) w d = gives_well key n (reaches (size key) n) told
  after_well size kind was told (Put file key) w d = wants_well key told ((laws.key_text key).0 w)
  after_well size kind was told (Data n) w d = wanted_well n was d
  after_well size kind was told Valid w d = tt
  after_well size kind was told Invalid w d = tt
  after_well size kind was told Success w d = tt
  after_well size kind was told Failure w d = tt
  after_well size kind was told m w d = d

  message_well : (size : List ℕ → Option ℕ) (kind : EntryKind) (was : Session) (told m : Option Message) → Read m → DoingWell was.doing → DoingWell (took_message size kind was told m).doing
  message_well size kind was told None w d = d
  message_well size kind was told (Some m) w d = after_well size kind was.doing told m w d

  bytes_well : (n : ℕ) (doing : Doing) → DoingWell doing → DoingWell (took_bytes n doing)
  bytes_well n (Takes key size left) is = more_well key (size + n) (left - n) is
  bytes_well n (Wants key size) is = is
  bytes_well n (Took key size) is = is
  bytes_well n doing is = tt

  gave_well : (n : ℕ) (doing : Doing) → DoingWell doing → DoingWell (gave_bytes n doing)
  gave_well n (Gives key at left good) is = tt
  gave_well n doing is = is

  one_well : (was : Session) (body : FrameText) → DoingWell was.doing → DoingWell (sent_one was body).doing
  one_well was (Bytes n) d = gave_well n was.doing d
  one_well was (Line text) d = tt
  one_well was body d = d

  sent_well : (was : Session) (sent : List FrameView) → DoingWell was.doing → DoingWell (sent_more was sent).doing
  sent_well was [] d = d
  sent_well was (f ∷ fs) d = one_well was f.body d

  took_well : (size : List ℕ → Option ℕ) (kind : EntryKind) (was : Session) (sent : List FrameView) (body : FrameText) → DoingWell was.doing → DoingWell (session_took size kind was sent body).doing
  took_well size kind was sent Opening d = d
  took_well size kind was sent Closing d = tt
  took_well size kind was sent (Bytes n) d = bytes_well n was.doing d
  took_well size kind was sent (Line text) d = message_well size kind was (message_said sent) (message_of text) (message_read text) d

  goes_well : (size : List ℕ → Option ℕ) (kind : EntryKind) (was : Session) (sent : List FrameView) (taken : Option FrameView) → DoingWell was.doing → DoingWell (session_goes size kind was sent taken).doing
  goes_well size kind was sent None d = sent_well was sent d
  goes_well size kind was sent (Some f) d = took_well size kind was sent f.body d

  left_well : (shut : Bool) (was : Session) → DoingWell was.doing → DoingWell (session_left shut was).doing
  left_well true was d = tt
  left_well false was d = d

  session_well : (size : List ℕ → Option ℕ) (kind : EntryKind) (was : Session) (sent : List FrameView) (taken : Option FrameView) → DoingWell was.doing → DoingWell (session_after size kind was sent taken).doing
  session_well size kind was sent taken d = left_well (sends_close sent) (session_goes size kind was sent taken) (goes_well size kind was sent taken d)

  -- ---- what a repository's entry says of keys

  abbrev KindWell : EntryKind → Type 0
  KindWell (Begin job what) = IsKeyText what.key
  KindWell (Gain Script size key) = Unit {0}
  KindWell (Gain by size key) = IsKeyText key
  KindWell (Gone by key) = IsKeyText key
  KindWell kind = Unit {0}

  gain_well : (by : By) (size : ℕ) (key : List ℕ) → IsKeyText key → KindWell (Gain by size key)
  gain_well Script size key is = tt
  gain_well by size key is = is

  abbrev WorkWell : Work → Type 0
  WorkWell w = IsKeyText w.what.key

  abbrev OwedWell : OwedLine → Type 0
  OwedWell o = IsKeyText o.key

  pub record Well (repos : List RepoView) (past : List Entry) (r : ℕ) : Type 0 where
    pub jobs : Each WorkWell (works past r)
    pub doing : (a : EndName) → DoingWell (session past r a).doing
    pub owes_well : Each OwedWell (owes repos past r)

  module _ (s : SetUp) (past : List Entry) (well : Well s.repos past s.number) where
    asked_well : (a : EndName) (asked : Option Message) (says : List FrameText) (m : Effect) (n : Message) → TakesAt s (state_of s past) a asked says m ⊎ GivesAt s (state_of s past) a asked says m → asked ≡ Some n → MessageWell n
    asked_well a asked says m n (inl x) e = subst Read (sym x.asked_is ∙ e) (line_read x.f.body)
    asked_well a asked says m n (inr x) e = absurd (let no' : None ≡ Some n = sym x.asked_is ∙ e in cc)

    ordered_well : (deadline : Option ℕ) (key : List ℕ) → MessageWell (order_of deadline key) → IsKeyText key
    ordered_well None key w = (laws.key_text key).0 w
    ordered_well (Some n) key w = (laws.key_text key).0 w

    by_session : (k : Look) (m : Effect) (x : BySession s (state_of s past) k m) (kind : EntryKind)
        → IsSessionEntry (here s (state_of s past) k (server_end x.peer x.slot)) (session past s.number (server_end x.peer x.slot)).doing x.asked x.says kind → KindWell kind
    by_session k m x (Gain by size key) y = gain_well by size key (subst DoingWell y.took (well.doing (server_end x.peer x.slot)))
    by_session k m x (Gone by key) y = ordered_well y.deadline key (asked_well (server_end x.peer x.slot) x.asked x.says m (order_of y.deadline key) x.frame y.asks)
    by_session k m x (Begin job what) y = absurd y
    by_session k m x kind y = tt

    by_work : (k : Look) (m : Effect) (w : Work) → WorkWell w → (kind : EntryKind) → IsJobEntry (turn_of s (state_of s past) k w) m kind → KindWell kind
    by_work k m w is (Gain by size key) y = gain_well by size key (subst IsKeyText (sym y.key_is) is)
    by_work k m w is (Gone by key) y = subst IsKeyText (sym y.key_is) is
    by_work k m w is (Begin job what) y = absurd y
    by_work k m w is kind y = tt

    by_step : (k : Look) (m : Effect) → StepFound s (state_of s past) k m → KindWell m.kind
    by_step k m (inl x) = elim (x.writes) [
      | inl y ↦ subst (λ (z : Effect). KindWell z.kind) (sym y) tt
      | inr y ↦ subst (λ (z : Effect). KindWell z.kind) (sym y) tt
    ]
    by_step k m (inr (inl x)) = by_session k m x m.kind x.found
    by_step k m (inr (inr x)) = by_work k m x.w (Each-member WorkWell (works past s.number) x.w well.jobs (find_member (λ w. w.slot == x.slot) (works past s.number) x.w x.runs).0) m.kind x.found

    by_script : (lines : List (List ℕ)) (sent : List FrameView) (kind : EntryKind) → MayCome s (state_of s past) lines sent kind → KindWell kind
    by_script lines sent (Begin job what) x = (laws.key_text what.key).0 x.0.valid
    by_script lines sent (Gain Script size key) x = tt
    by_script lines sent (Gain by size key) x = absurd x
    by_script lines sent (Gone by key) x = absurd x
    by_script lines sent kind x = tt

    own_kind : (words : ℕ → Option Word) (e : Entry) → OwnPart s past words e → KindWell e.kind
    own_kind words e own = go own.does
      where
        go : IsStep s past words e ⊎ ComesAnyTime s past e → KindWell e.kind
        go (inl x) = subst (λ (z : Entry). KindWell z.kind) (sym x.is) (by_step x.look x.made (laws.entries.finds s (state_of s past) x.look x.made x.makes))
        go (inr x) = by_script e.lines e.sent e.kind x.may

  -- ---- one more entry

  work_well : (rows : RowsAndEnds) (r : ℕ) (e : Entry) (w : Work) → WorkWell w → WorkWell (work_after rows r e w)
  work_well rows r e w is = subst IsKeyText (sym (ap (λ (x : RunningJob). x.what.key) (laws.same_job rows r e w))) is

  each_work : (rows : RowsAndEnds) (r : ℕ) (e : Entry) (ws : List Work) → Each WorkWell ws → Each WorkWell (map (work_after rows r e) ws)
  each_work rows r e [] all = tt
  each_work rows r e (w ∷ ws) all = (work_well rows r e w all.0, each_work rows r e ws all.1)

  works_well : (rows : RowsAndEnds) (r : ℕ) (ws : List Work) (e : Entry) (kind : EntryKind) → KindWell kind → Each WorkWell ws → Each WorkWell (works_after rows r ws e kind)
  works_well rows r ws e (Begin job what) k all = (k, all)
  works_well rows r ws e (ends_job job outcome) k all = Each-filter WorkWell (λ w. not (w.number == job)) ws all
  works_well rows r ws e (Crash clock) k all = tt
  works_well rows r ws e kind k all = each_work rows r e ws all

  pays_well : (repos : List RepoView) (lines : List ℕ → List (List ℕ)) (clock : ℕ) (e : Entry) (file : LogFile) (os : List OwedLine) → Each OwedWell os → Each OwedWell (pays repos lines clock e file os)
  pays_well repos lines clock e file [] all = tt
  pays_well repos lines clock e file (o ∷ os) all =
      if_either (Each OwedWell) (bytes_eq (file_path file) (location_path o.key) && same_lines e.lines (due repos lines clock o)) os (o ∷ os) (λ b. all.1) (λ b. all)

  told_well : (w : Work) (phase : Phase) (m : Message) → WorkWell w → Each OwedWell (told_to w phase m)
  told_well w (PutsOffer peer) AlreadyHave is = (is, tt)
  told_well w (PutsAnswer peer start) Success is = (is, tt)
  told_well w Orders Success is = go w.what.peer
    where
      go : (o : Option ℕ) → Each OwedWell (map (λ peer. owed_line (by_job w.number) peer false w.what.key) (option_to_list o))
      go None = tt
      go (Some peer) = (is, tt)
  told_well w phase m is = tt

  told_line-well : (w : Work) (m : Option Message) → WorkWell w → Each OwedWell (told_line w m)
  told_line-well w None is = tt
  told_line-well w (Some m) is = told_well w w.phase m is

  told_frame-well : (o : Option Work) (taken : Option FrameView) → ((w : Work) → o ≡ Some w → WorkWell w) → Each OwedWell (told_frame o taken)
  told_frame-well (Some w) (Some f) is = told_line-well w (line_in f.body) (is w refl)
  told_frame-well (Some w) None is = tt
  told_frame-well None taken is = tt

  lost_well : (call : Call) (by : By) (os : List OwedLine) → Each OwedWell os → Each OwedWell (owed_without call by os)
  lost_well PutFile Script os all = all
  lost_well PutFile by os all = Each-drop OwedWell 1 os all
  lost_well call by os all = all

  changed_well : (r : ℕ) (by : By) (there : Bool) (key : List ℕ) → IsKeyText key → Each OwedWell (owed_for r by there key)
  changed_well r Script there key is = tt
  changed_well r by there key is = (is, tt)

  gained_well : (r : ℕ) (by : By) (size : ℕ) (key : List ℕ) → KindWell (Gain by size key) → Each OwedWell (owed_for r by true key)
  gained_well r Script size key is = tt
  gained_well r by size key is = (is, tt)

  owed_well : (repos : List RepoView) (lines : List ℕ → List (List ℕ)) (clock : ℕ) (ws : List Work) (r : ℕ) (was : List OwedLine) (e : Entry) (kind : EntryKind)
      → KindWell kind → Each WorkWell ws → Each OwedWell was → Each OwedWell (owed_after repos lines clock ws r was e kind)
  owed_well repos lines clock ws r was e (Gain by size key) k jobs all = Each-append OwedWell was (owed_for r by true key) all (gained_well r by size key k)
  owed_well repos lines clock ws r was e (Gone by key) k jobs all = Each-append OwedWell was (owed_for r by false key) all (changed_well r by false key k)
  owed_well repos lines clock ws r was e (Log file) k jobs all = pays_well repos lines clock e file was all
  owed_well repos lines clock ws r was e (Talk (Some job)) k jobs all = Each-append OwedWell was (told_frame (find (λ w. w.number == job) ws) e.taken) all
      (told_frame-well (find (λ w. w.number == job) ws) e.taken (λ w i. Each-member WorkWell ws w jobs (find_member (λ w. w.number == job) ws w i).0))
  owed_well repos lines clock ws r was e (Fault call by) k jobs all = lost_well call by was all
  owed_well repos lines clock ws r was e (Crash to) k jobs all = tt
  owed_well repos lines clock ws r was e kind k jobs all = all

  -- ---- a run

  module _ (repos : List RepoView) (P : ℕ → ℕ → List (List ℕ)) where
    -- an entry of r is its own part
    own_is : (past : List Entry) (e : Entry) (r : ℕ) → is_of r e ≡ true → MayBe (set_ups repos P) past e e.repo → (words : ℕ → Option Word) × OwnPart (set_ups repos P r) past words e
    own_is past e r is may = go e.repo is may
      where
        go : (o : Option ℕ) → option_is o r ≡ true → MayBe (set_ups repos P) past e o → (words : ℕ → Option Word) × OwnPart (set_ups repos P r) past words e
        go None i m = absurd (cc)
        go (Some q) i m = (m.0, subst (λ k. OwnPart (set_ups repos P k) past m.0 e) (eqb-true q r i) m.1)

    all_well : (past : List Entry) → RunPast (set_ups repos P) past → (r : ℕ) → Well repos past r
    all_well [] run r = record { jobs = tt; doing = λ a. tt; owes_well = tt }
    all_well (e ∷ past) run r = go (all_well past run.1 r) (is_of r e) refl
      where
        go : Well repos past r → (b : Bool) → is_of r e ≡ b → Well repos (e ∷ past) r
        go was false i = record { jobs = rw i was.jobs; doing = λ a. rw i (was.doing a); owes_well = rw i was.owes_well }
        go was true i =
            let own = own_is past e r i run.0.may in
            let kind = own_kind (set_ups repos P r) past was own.0 e own.1 in
            record {
              jobs = rw i (works_well (rows_at past r) r (works past r) e e.kind kind was.jobs);
              doing = λ a. rw i (session_well (content past r) e.kind (session past r a) (sent_at a e.sent) (taken_at a e.taken) (was.doing a));
              owes_well = rw i (owed_well repos (lines_of_file past r) (wall repos r e.time) (works past r) r (owes repos past r) e e.kind kind was.jobs was.owes_well);
            }

  -- the keys of owed lines are keys, in each run
  pub owed_keys : OwedKeys
  owed_keys repos P past run r = (all_well repos P past run r).owes_well
