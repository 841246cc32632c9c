-- How a job's own step moves it: the phase fits its part, a drop stays one, and never begins anew.
use Rattle.std.proofs.Common.{◌≡◌, ◌≢◌, ℕ, ◌+◌, ◌-◌, Bool, true, false, List, [], ◌∷◌, Option, Some, None, refl, sym, ◌∙◌, subst}
use Rattle.std.specs.Prelude.{if◌then◌else◌, ◌==◌}
use Rattle.annex_base.specs.declared.kinds.Call.{Call}
use Rattle.annex_base.specs.declared.kinds.Call.TheVariants.{Unhold, PutFile}
use Rattle.annex_base.proofs.Conditions.{if_either}
use Rattle.drop_proof.specs.declared.rule.Side.{Side}
use Rattle.drop_proof.specs.declared.rule.Side.TheVariants.{Remote}
use Rattle.run_data.specs.declared.entry.Entry.{Entry}
use Rattle.run_data.specs.declared.entry.EntryKind.{EntryKind}
use Rattle.run_data.specs.declared.entry.EntryKind.TheVariants.{Gain, Share, Bar, Gone, Fault}
use Rattle.run_data.specs.declared.entry.FrameView.{FrameView}
use Rattle.run_data.specs.declared.entry.FrameText.{FrameText}
use Rattle.run_data.specs.declared.entry.FrameText.TheVariants.{Opening, Closing, Bytes, Line}
use Rattle.run_data.specs.declared.job.Outcome.{Outcome}
use Rattle.run_data.specs.declared.job.Outcome.TheVariants as outcomes
use Rattle.run_data.specs.declared.job.DropRefusal.TheVariants as refusals
use Rattle.run_data.specs.declared.job.Cause.TheVariants as causes
use Rattle.run_data.specs.declared.job.TransferRefusal.TheVariants as failures
use Rattle.run_data.specs.declared.entry.By.{By}
use Rattle.node_model.specs.Rows.{option_is}
use Rattle.p2p_wire.specs.declared.message.Message.{Message}
use Rattle.p2p_wire.specs.declared.message.Message.TheVariants.{AlreadyHave, CheckPresent, Data, Error, Failure, Get, GetTimestamp, LockContent, Put, PutFrom, Remove, RemoveBefore, Success, Valid, Version}
use Rattle.p2p_wire.specs.Messages.{message_of}
use Rattle.node_model.specs.Sessions.{line_in}
use Rattle.node_model.specs.Ends.{end_after}
use Rattle.node_model.specs.Jobs
use Rattle.node_model.specs.Jobs.{AsksLock, AsksLook, AsksTime, Denied, Drops, Ends, Fresh, GetsBytes, GetsData, GetsWord, Gets, Greets, Late, Next, Opens, Orders, Part, Phase, Puts, PutsAnswer, PutsBytes, PutsOffer, PutsWord, Removed, RowsAndEnds, Work, claims, closed_part, fault_of, fault_phase, first_look, after_gain, hears_frame, job_end, learns, listens, quiet, says, says_some, sends, talks, talks_on, to_phase, after_frame, after_line, after_transfer, after_failed_release, word_taken, work_kind}
use Rattle.job_facts.proofs.TalkFacts.{Fits}

abbrev pub is_fresh : Phase → Bool
is_fresh Fresh = true
is_fresh phase = false

-- from this part and phase to those
abbrev pub GoodTo : Part → Phase → Part → Phase → Type 0
GoodTo Drops old Drops phase = Fits Drops phase × (is_fresh old ≡ false → is_fresh phase ≡ false)
GoodTo Drops old part phase = ⊥
GoodTo Gets old Gets phase = Fits Gets phase × (is_fresh old ≡ false → is_fresh phase ≡ false)
GoodTo Gets old Puts phase = ⊥
GoodTo Gets old Drops phase = phase ≡ Fresh
GoodTo Puts old Puts phase = Fits Puts phase × (is_fresh old ≡ false → is_fresh phase ≡ false)
GoodTo Puts old Gets phase = ⊥
GoodTo Puts old Drops phase = phase ≡ Fresh

abbrev pub Good : Work → Work → Type 0
Good w x = GoodTo w.part w.phase x.part x.phase

at_good : (part : Part) (old phase : Phase) → Fits part phase → is_fresh phase ≡ false → GoodTo part old part phase
at_good Gets old phase fits later = (fits, λ h. later)
at_good Puts old phase fits later = (fits, λ h. later)
at_good Drops old phase fits later = (fits, λ h. later)

stay_at : (part : Part) (old : Phase) → Fits part old → GoodTo part old part old
stay_at Gets old fits = (fits, λ h. h)
stay_at Puts old fits = (fits, λ h. h)
stay_at Drops old fits = (fits, λ h. h)

module _ (w : Work) (fits : Fits w.part w.phase) where
  stay_good : Good w w
  stay_good = stay_at w.part w.phase fits

  to_good : (phase : Phase) → Fits w.part phase → is_fresh phase ≡ false → Good w (to_phase w phase)
  to_good phase f later = at_good w.part w.phase phase f later

only_data : (part : Part) (peer start : ℕ) → Fits part (GetsData peer start) → part ≡ Gets
only_data Gets peer start f = refl
only_data Puts peer start f = absurd f
only_data Drops peer start f = absurd f

only_bytes : (part : Part) (peer start size left : ℕ) → Fits part (GetsBytes peer start size left) → part ≡ Gets
only_bytes Gets peer start size left f = refl
only_bytes Puts peer start size left f = absurd f
only_bytes Drops peer start size left f = absurd f

pub only_word : (part : Part) (peer start size : ℕ) → Fits part (GetsWord peer start size) → part ≡ Gets
only_word Gets peer start size f = refl
only_word Puts peer start size f = absurd f
only_word Drops peer start size f = absurd f

pub only_offer : (part : Part) (peer : ℕ) → Fits part (PutsOffer peer) → part ≡ Puts
only_offer Gets peer f = absurd f
only_offer Puts peer f = refl
only_offer Drops peer f = absurd f

pub only_puts : (part : Part) (peer start at left : ℕ) → Fits part (PutsBytes peer start at left) → part ≡ Puts
only_puts Gets peer start at left f = absurd f
only_puts Puts peer start at left f = refl
only_puts Drops peer start at left f = absurd f

pub only_lock : (part : Part) (peer since : ℕ) → Fits part (AsksLock peer since) → part ≡ Drops
only_lock Gets peer since f = absurd f
only_lock Puts peer since f = absurd f
only_lock Drops peer since f = refl

pub only_look : (part : Part) (peer : ℕ) → Fits part (AsksLook peer) → part ≡ Drops
only_look Gets peer f = absurd f
only_look Puts peer f = absurd f
only_look Drops peer f = refl

pub only_answer : (part : Part) (peer start : ℕ) → Fits part (PutsAnswer peer start) → part ≡ Puts
only_answer Gets peer start f = absurd f
only_answer Puts peer start f = refl
only_answer Drops peer start f = absurd f

pub only_time : (part : Part) → Fits part AsksTime → part ≡ Drops
only_time Gets f = absurd f
only_time Puts f = absurd f
only_time Drops f = refl

pub only_orders : (part : Part) → Fits part Orders → part ≡ Drops
only_orders Gets f = absurd f
only_orders Puts f = absurd f
only_orders Drops f = refl

transferred_good : (w : Work) (o : Outcome) → w.part ≢ Drops → Good w (after_transfer w o)
transferred_good w o apart =
    if_either (Good w) (Jobs.is_move w.what.kind) (record w { part = Drops; phase = Fresh; fills = false }) (record w { phase = Ends o; fills = false })
    (λ e. drops w.part apart) (λ e. ends w.part)
  where
    drops : (part : Part) → part ≢ Drops → GoodTo part w.phase Drops Fresh
    drops Gets apart = refl
    drops Puts apart = refl
    drops Drops apart = absurd (apart refl)

    ends : (part : Part) → GoodTo part w.phase part (Ends o)
    ends Gets = (tt, λ h. refl)
    ends Puts = (tt, λ h. refl)
    ends Drops = (tt, λ h. refl)

no_drop : (part : Part) (other : Part) → part ≡ other → other ≢ Drops → part ≢ Drops
no_drop part other is apart e = apart (sym is ∙ e)

gets_apart : Gets ≢ Drops
gets_apart e = absurd (cc)

puts_apart : Puts ≢ Drops
puts_apart e = absurd (cc)

-- what a message that it said, as it is read, may be
abbrev pub PartReads : Part → Message → Type 0
PartReads part (Version n) = Unit {0}
PartReads Gets (Get n file key) = Unit {0}
PartReads Gets Failure = Unit {0}
PartReads Puts (Put file key) = Unit {0}
PartReads Puts (Data n) = Unit {0}
PartReads Puts Valid = Unit {0}
PartReads Drops (LockContent key) = Unit {0}
PartReads Drops (CheckPresent key) = Unit {0}
PartReads Drops GetTimestamp = Unit {0}
PartReads Drops (Remove key) = Unit {0}
PartReads Drops (RemoveBefore n key) = Unit {0}
PartReads Gets Success = Unit {0}
PartReads part m = ⊥

more_good : (w : Work) (peer start at left : ℕ) → w.part ≡ Puts → Good w (to_phase w (Jobs.puts_more peer start at left))
more_good w peer start at left part =
    if_either (λ p. Good w (to_phase w p)) (left == 0) (PutsWord peer start) (PutsBytes peer start at left)
    (λ e. to (PutsWord peer start) tt refl) (λ e. to (PutsBytes peer start at left) tt refl)
  where
    to : (phase : Phase) → Fits Puts phase → is_fresh phase ≡ false → Good w (to_phase w phase)
    to phase f later = at_good w.part w.phase phase (subst (λ p. Fits p phase) (sym part) f) later

more_gets : (w : Work) (peer start size left : ℕ) → w.part ≡ Gets → Good w (to_phase w (Jobs.gets_more peer start size left))
more_gets w peer start size left part =
    if_either (λ p. Good w (to_phase w p)) (left == 0) (GetsWord peer start size) (GetsBytes peer start size left)
    (λ e. to (GetsWord peer start size) tt refl) (λ e. to (GetsBytes peer start size left) tt refl)
  where
    to : (phase : Phase) → Fits Gets phase → is_fresh phase ≡ false → Good w (to_phase w phase)
    to phase f later = at_good w.part w.phase phase (subst (λ p. Fits p phase) (sym part) f) later

to_part : (w : Work) (part : Part) (phase : Phase) → w.part ≡ part → Fits part phase → is_fresh phase ≡ false → Good w (to_phase w phase)
to_part w part phase is f later = at_good w.part w.phase phase (subst (λ p. Fits p phase) (sym is) f) later

word_good : (w : Work) (word : Option Message) (phase : Phase) → Fits w.part w.phase → Good w (word_taken w word phase)
word_good w word (GetsWord peer start size) fits = to_good w fits Next tt refl
word_good w word phase fits = stay_good w fits

put_from_good : (w : Work) (peer n : ℕ) (taken : Option Message) → w.part ≡ Puts → Good w (to_phase w (Jobs.put_from peer n taken))
put_from_good w peer n (Some (PutFrom start)) part = more_good w peer start start n part
put_from_good w peer n taken part = to_part w Puts (PutsOffer peer) part tt refl

answer_good : (w : Work) (phase : Phase) → w.part ≡ Puts → w.phase ≡ phase → Fits w.part w.phase → Good w (to_phase w (Jobs.puts_answer phase))
answer_good w (PutsWord peer start) part is fits = to_part w Puts (PutsAnswer peer start) part tt refl
answer_good w phase part is fits = subst (λ p. GoodTo w.part w.phase w.part p) is (stay_good w fits)

says_good : (w : Work) (time peer : ℕ) (taken : Option Message) (part : Part) (m : Message) → w.part ≡ part → PartReads part m → Fits w.part w.phase → Good w (says w time peer taken m)
says_good w time peer taken part (Version n) is reads fits = to_good w fits (Greets peer) tt refl
says_good w time peer taken Gets (Get n file key) is reads fits = to_part w Gets (GetsData peer n) is tt refl
says_good w time peer taken Gets Failure is reads fits = word_good w taken w.phase fits
says_good w time peer taken Puts (Put file key) is reads fits = to_part w Puts (PutsOffer peer) is tt refl
says_good w time peer taken Puts (Data n) is reads fits = put_from_good w peer n taken is
says_good w time peer taken Puts Valid is reads fits = answer_good w w.phase is refl fits
says_good w time peer taken Drops (LockContent key) is reads fits = to_part w Drops (AsksLock peer time) is tt refl
says_good w time peer taken Drops (CheckPresent key) is reads fits = to_part w Drops (AsksLook peer) is tt refl
says_good w time peer taken Drops GetTimestamp is reads fits = to_part w Drops AsksTime is tt refl
says_good w time peer taken Drops (Remove key) is reads fits = to_part w Drops Orders is tt refl
says_good w time peer taken Drops (RemoveBefore n key) is reads fits = to_part w Drops Orders is tt refl
says_good w time peer taken Gets Success is reads fits = stay_good w fits
says_good w time peer taken part m is reads fits = absurd reads

some_good : (w : Work) (time peer : ℕ) (taken : Option Message) (part : Part) (o : Option Message) → w.part ≡ part
    → ((m : Message) → o ≡ Some m → PartReads part m) → Fits w.part w.phase → Good w (says_some w time peer taken o)
some_good w time peer taken part None is reads fits = stay_good w fits
some_good w time peer taken part (Some m) is reads fits = says_good w time peer taken part m is (reads m refl) fits

-- what a frame that it sends may say, as it is read
abbrev pub BodyReads : Part → FrameText → Type 0
BodyReads part (Line text) = (m : Message) → message_of text ≡ Some m → PartReads part m
BodyReads part body = Unit {0}

bytes_good : (w : Work) (n : ℕ) (phase : Phase) → w.phase ≡ phase → Fits w.part w.phase → Good w (to_phase w (Jobs.puts_bytes n phase))
bytes_good w n (PutsBytes peer start at left) is fits =
    more_good w peer start (at + n) (left - n) (only_puts w.part peer start at left (subst (Fits w.part) is fits))
bytes_good w n phase is fits = subst (λ p. GoodTo w.part w.phase w.part p) is (stay_good w fits)

sends_good : (w : Work) (time peer : ℕ) (taken : Option Message) (body : FrameText) → BodyReads w.part body → Fits w.part w.phase → Good w (sends w time peer taken body)
sends_good w time peer taken Opening reads fits = to_good w fits (Opens peer) tt refl
sends_good w time peer taken Closing reads fits = stay_good w fits
sends_good w time peer taken (Bytes n) reads fits = bytes_good w n w.phase refl fits
sends_good w time peer taken (Line text) reads fits = some_good w time peer taken w.part (message_of text) refl reads fits

listens_good : (w : Work) (phase : Phase) (m : Message) → w.phase ≡ phase → Fits w.part phase → Good w (listens w phase m)
listens_good w (AsksLock peer since) Success is f = at_good w.part w.phase Next tt refl
listens_good w (AsksLook peer) Success is f = at_good w.part w.phase Next tt refl
listens_good w (AsksLook peer) Failure is f = at_good w.part w.phase Next tt refl
listens_good w Orders Success is f = to_part w Drops Removed (only_orders w.part f) tt refl
listens_good w Orders Failure is f = to_part w Drops Denied (only_orders w.part f) tt refl
listens_good w (Greets peer) (Version n) is f = at_good w.part w.phase (Ends (outcomes.Refused (refusals.OldProtocol n))) tt refl
listens_good w (GetsData peer start) (Data n) is f = more_gets w peer start start n (only_data w.part peer start f)
listens_good w (PutsOffer peer) AlreadyHave is f = transferred_good w (outcomes.Copied None) (no_drop w.part Puts (only_offer w.part peer f) puts_apart)
listens_good w (PutsOffer peer) (Error text) is f = at_good w.part w.phase (Ends (outcomes.TransferRefused failures.Busy)) tt refl
listens_good w (PutsOffer peer) Failure is f = at_good w.part w.phase (Ends (outcomes.TransferRefused failures.Rejected)) tt refl
listens_good w (PutsAnswer peer start) Success is f = transferred_good w (outcomes.Copied (Some start)) (no_drop w.part Puts (only_answer w.part peer start f) puts_apart)
listens_good w (PutsAnswer peer start) Failure is f = at_good w.part w.phase (Ends (outcomes.TransferRefused failures.Rejected)) tt refl
listens_good w phase m is f = subst (λ p. GoodTo w.part p w.part p) (sym is) (stay_at w.part phase f)

line_good : (w : Work) (m : Option Message) → Fits w.part w.phase → Good w (after_line w m)
line_good w None fits = stay_good w fits
line_good w (Some m) fits = listens_good w w.phase m refl fits

gets_good : (w : Work) (n : ℕ) (phase : Phase) → w.phase ≡ phase → Fits w.part w.phase → Good w (to_phase w (Jobs.gets_bytes n phase))
gets_good w n (GetsBytes peer start size left) is fits =
    more_gets w peer start (size + n) (left - n) (only_bytes w.part peer start size left (subst (Fits w.part) is fits))
gets_good w n phase is fits = subst (λ p. GoodTo w.part w.phase w.part p) is (stay_good w fits)

took_good : (w : Work) (body : FrameText) → Fits w.part w.phase → Good w (after_frame w body)
took_good w (Bytes n) fits = gets_good w n w.phase refl fits
took_good w (Line text) fits = line_good w (message_of text) fits
took_good w body fits = stay_good w fits

first_good : (r : ℕ) (w : Work) (part : Part) (here : Bool) (bar : Option ℕ) → w.part ≡ part → Good w (first_look r w part here bar)
first_good r w Gets true bar is = transferred_good w (outcomes.Got None None) (no_drop w.part Gets is gets_apart)
first_good r w part here bar is = at_good w.part w.phase Next tt refl

quiet_good : (rows : RowsAndEnds) (r : ℕ) (w : Work) (phase : Phase) → Fits w.part w.phase → Good w (quiet rows r w phase)
quiet_good rows r w Fresh fits = first_good r w w.part (rows.present w.what.key) (rows.bar w.what.key) refl
quiet_good rows r w Next fits = at_good w.part w.phase (Ends (outcomes.Refused (refusals.OldProtocol w.version))) tt refl
quiet_good rows r w phase fits = stay_good w fits

hears_good : (rows : RowsAndEnds) (r : ℕ) (w : Work) (taken : Option FrameView) → Fits w.part w.phase → Good w (hears_frame rows r w taken)
hears_good rows r w None fits = quiet_good rows r w w.phase fits
hears_good rows r w (Some f) fits = took_good w f.body fits

-- what all that it sends may say
abbrev pub SentReads : Part → List FrameView → Type 0
SentReads part [] = Unit {0}
SentReads part (f ∷ fs) = BodyReads part f.body

talks_good : (rows : RowsAndEnds) (r : ℕ) (w : Work) (e : Entry) (fs : List FrameView) → SentReads w.part fs → Fits w.part w.phase → Good w (talks rows r w e fs)
talks_good rows r w e (f ∷ fs) reads fits = sends_good w e.time f.peer (Jobs.taken_message e.taken) f.body reads fits
talks_good rows r w e [] reads fits = hears_good rows r w e.taken fits

closed_good : (r : ℕ) (w : Work) (peer : ℕ) (part : Part) → Good w (closed_part r w peer part)
closed_good r w peer Gets = at_good w.part w.phase Next tt refl
closed_good r w peer Puts = at_good w.part w.phase (Ends (outcomes.TransferRefused failures.Closed)) tt refl
closed_good r w peer Drops =
    if_either (Good w) (Jobs.target_of r w == peer) (to_phase w (Ends (outcomes.Refused (refusals.Lost (Jobs.is_ordered w.phase))))) (Jobs.hears w peer (Jobs.Lacks causes.Closed))
    (λ e. at_good w.part w.phase (Ends (outcomes.Refused (refusals.Lost (Jobs.is_ordered w.phase)))) tt refl) (λ e. at_good w.part w.phase Next tt refl)

on_good : (rows : RowsAndEnds) (r : ℕ) (w : Work) (e : Entry) (p : Option ℕ) → SentReads w.part e.sent → Fits w.part w.phase → Good w (talks_on rows r w e p)
on_good rows r w e None reads fits = talks_good rows r w e e.sent reads fits
on_good rows r w e (Some peer) reads fits =
    if_either (Good w) (end_after (job_end w peer) (rows.ends (job_end w peer)) e).opened (talks rows r w e e.sent) (closed_part r w peer w.part)
    (λ h. talks_good rows r w e e.sent reads fits) (λ h. closed_good r w peer w.part)

-- it learns a version and fills a key, and stays where it is
abbrev pub SamePlace : Work → Work → Type 0
SamePlace w x = (x.part ≡ w.part) × (x.phase ≡ w.phase)

pub claims_place : (w : Work) (part : Part) (phase : Phase) → SamePlace w (claims w part phase)
claims_place w Gets Fresh = (refl, refl)
claims_place w part phase = (refl, refl)

pub learns_place : (w : Work) (phase : Phase) (taken : Option FrameView) → SamePlace w (learns w phase taken)
learns_place w (Greets peer) (Some f) = go (option_is w.what.peer peer)
  where
    go : (b : Bool) → SamePlace w (if b then record w { version = Jobs.version_said w.version (line_in f.body) } else w)
    go true = (refl, refl)
    go false = (refl, refl)
learns_place w phase taken = (refl, refl)

pub readies_place : (w : Work) (taken : Option FrameView) → SamePlace w (learns (claims w w.part w.phase) w.phase taken)
readies_place w taken =
    let x = claims w w.part w.phase in
    let a = claims_place w w.part w.phase in
    let b = learns_place x w.phase taken in
    (b.0 ∙ a.0, b.1 ∙ a.1)

fault_good : (r : ℕ) (w : Work) (part : Part) (side : Side) (phase : Phase) → Good w (fault_phase r w part side phase)
fault_good r w Drops Remote Fresh = at_good w.part w.phase Next tt refl
fault_good r w part side phase = at_good w.part w.phase (Ends (Jobs.stores_fault w.part)) tt refl

unreleased_good : (w : Work) (time : ℕ) (phase : Phase) → w.phase ≡ phase → Fits w.part w.phase → Good w (after_failed_release w time phase)
unreleased_good w time AsksTime is fits = to_part w Drops (Late time) (only_time w.part (subst (Fits w.part) is fits)) tt refl
unreleased_good w time phase is fits = stay_good w fits

call_good : (r : ℕ) (w : Work) (time : ℕ) (call : Call) → Fits w.part w.phase → Good w (fault_of r w time call)
call_good r w time PutFile fits = stay_good w fits
call_good r w time Unhold fits = unreleased_good w time w.phase refl fits
call_good r w time call fits = fault_good r w w.part (Jobs.side_of w) w.phase

gained_good : (w : Work) (phase : Phase) → w.phase ≡ phase → Fits w.part w.phase → Good w (after_gain w phase)
gained_good w (GetsWord peer start size) is fits =
    transferred_good w (outcomes.Got (Some peer) (Some start)) (no_drop w.part Gets (only_word w.part peer start size (subst (Fits w.part) is fits)) gets_apart)
gained_good w phase is fits = stay_good w fits

-- its own entry, where what it sends is of its part
pub kind_good : (rows : RowsAndEnds) (r : ℕ) (w : Work) (e : Entry) (kind : EntryKind) → Fits w.part w.phase → SentReads w.part e.sent
    → ((source : By) (key : List ℕ) → kind ≡ Gone source key → w.part ≡ Drops) → Good w (work_kind rows r w e kind)
kind_good rows r w e (Fault call owner) fits reads removes = call_good r w e.time call fits
kind_good rows r w e (Bar job need key) fits reads removes = at_good w.part w.phase Next tt refl
kind_good rows r w e (Share hold end owner key) fits reads removes = at_good w.part w.phase Next tt refl
kind_good rows r w e (Gone source key) fits reads removes = to_part w Drops Removed (removes source key refl) tt refl
kind_good rows r w e (Gain source size key) fits reads removes = gained_good w w.phase refl fits
kind_good rows r w e kind fits reads removes =
    let x = learns (claims w w.part w.phase) w.phase e.taken in
    let same = readies_place w e.taken in
    let good : Good x (talks_on rows r x e (Jobs.partner w.what.peer w.phase)) =
    on_good rows r x e (Jobs.partner w.what.peer w.phase) (subst (λ p. SentReads p e.sent) (sym same.0) reads)
    (subst (λ p. Fits p x.phase) (sym same.0) (subst (λ p. Fits w.part p) (sym same.1) fits)) in
    let y = talks_on rows r x e (Jobs.partner w.what.peer w.phase) in
    subst (λ p. GoodTo p w.phase y.part y.phase) same.0 (subst (λ p. GoodTo x.part p y.part y.phase) same.1 good)
