-- What a job's entry sends, by its kind, and what is read of it: an order is sent by its own entry, the giving back of a lock by the
-- job's end, and else a message that is neither; one frame at most, but for the farewells of the end, which ask nothing.
use Rattle.std.proofs.Common.{◌≡◌, ℕ, Bool, true, false, List, [], ◌∷◌, ◌++◌, Option, Some, None, ◌⊎◌, inl, inr, refl, sym, ap, ◌∙◌, subst}
use Rattle.std.specs.Prelude.{if◌then◌else◌, ◌&&◌, not}
use Rattle.annex_base.specs.Lists.{Each, Member}
use Rattle.annex_base.proofs.Lists.{Each-member}
use Rattle.drop_proof.specs.declared.rule.Need.{Need}
use Rattle.run_data.specs.declared.entry.EntryKind.{EntryKind}
use Rattle.run_data.specs.declared.entry.EntryKind.TheVariants.{Gain, Share, Bar, Gone, Order, Talk, Fault, End as ends_job}
use Rattle.run_data.specs.declared.entry.FrameView.{FrameView}
use Rattle.run_data.specs.declared.entry.FrameText.{FrameText}
use Rattle.run_data.specs.declared.entry.FrameText.TheVariants.{Opening, Closing, Bytes, Line}
use Rattle.run_data.specs.declared.job.Outcome.{Outcome}
use Rattle.node_model.specs.Rows.{is_lost_ordered}
use Rattle.p2p_wire.specs.declared.message.Message.{Message}
use Rattle.p2p_wire.specs.declared.message.Message.TheVariants.{Version, CheckPresent, LockContent, UnlockContent, Remove, RemoveBefore, GetTimestamp, Timestamp, Get, Put, Data, Valid, Success, Failure}
use Rattle.p2p_wire.specs.Messages.{message_of, order_of, text_of}
use Rattle.run_model.specs.Said.{Said, Says, Unknown, message_in, said_line}
use Rattle.node_model.specs.Ends.{frames}
use Rattle.node_model.specs.Jobs.{job_end}
use Rattle.node_model.specs.Look.{Effect}
use Rattle.node_model.specs.JobStep.{Turn, end_with, farewell, farewells, has_lock, key_of, others_of}
use Rattle.node_model.specs.Found.{IsAsked, IsAsking, IsJobEntry}
use Rattle.job_facts.proofs.ReadAs.{IsJobs, SameHead}
use Rattle.run_laws.proofs.SaidDown.{closing_ends, said_bytes, said_line-is, said_opening}
use Rattle.step_facts.proofs.ServerEnds.{each_flat}
use Rattle.run_laws.proofs.SessionSays.{read_of}
use Rattle.job_facts.proofs.WorkFits.{head_of}

-- ---- what it sends

-- at its end a job closes, and gives back a lock unless an order was lost
abbrev pub Farewell : Turn → Bool → FrameView → Type 0
Farewell t lost g = (g.body ≡ Closing) ⊎ ((g.body ≡ Line (text_of (UnlockContent (key_of t)))) × (lost ≡ false))

abbrev pub JobSaid : Turn → EntryKind → FrameView → Type 0
JobSaid t (Order j peer deadline need key) g = (g.peer ≡ peer) × (g.body ≡ Line (text_of (order_of deadline key)))
JobSaid t (Gain by size key) g = g.body ≡ Line (text_of Success)
JobSaid t (ends_job j outcome) g = Farewell t (is_lost_ordered outcome) g
JobSaid t (Talk j) g = IsAsked g.body
JobSaid t kind g = ⊥

farewell_said : (t : Turn) (lost : Bool) (peer : ℕ) → Each (Farewell t lost) (frames (job_end t.w peer) (end_with t peer) (farewell t lost peer (end_with t peer).opened))
farewell_said t lost peer = go (end_with t peer).opened
  where
    open' : (h l : Bool) → lost ≡ l → Each (Farewell t lost) (frames (job_end t.w peer) (end_with t peer) ((if h && not l then Line (text_of (UnlockContent (key_of t))) ∷ [] else []) ++ Closing ∷ []))
    open' true false is = (inr (refl, is), (inl refl, tt))
    open' true true is = (inl refl, tt)
    open' false l is = (inl refl, tt)

    go : (b : Bool) → Each (Farewell t lost) (frames (job_end t.w peer) (end_with t peer) (farewell t lost peer b))
    go false = tt
    go true = open' (has_lock t peer) lost refl

pub farewells_said : (t : Turn) (lost : Bool) → Each (Farewell t lost) (farewells t lost)
farewells_said t lost = each_flat (Farewell t lost) (λ peer. frames (job_end t.w peer) (end_with t peer) (farewell t lost peer (end_with t peer).opened)) (farewell_said t lost) (others_of t)

no_member : (sent : List FrameView) (g : FrameView) → sent ≡ [] → Member g sent → ⊥
no_member sent g is m = subst (Member g) is m

pub job_said : (t : Turn) (m : Effect) (kind : EntryKind) → IsJobEntry t m kind → (g : FrameView) → Member g m.sent → JobSaid t kind g
job_said t m (Share hold end by key) x g i = no_member m.sent g x.sends_none i
job_said t m (Bar j need key) x g i = no_member m.sent g x.sends_none i
job_said t m (Gone by key) x g i = no_member m.sent g x.sends_none i
job_said t m (Order j peer deadline need key) x g i = elim (subst (Member g) x.sent_is i) [
  | inl is ↦ (ap (λ (f : FrameView). f.peer) is, ap (λ (f : FrameView). f.body) is)
  | inr none ↦ absurd none
]
job_said t m (Gain by size key) x g i = elim (subst (Member g) x.sent_is i) [ inl is ↦ ap (λ (f : FrameView). f.body) is | inr none ↦ absurd none ]
job_said t m (ends_job j outcome) x g i = Each-member (Farewell t (is_lost_ordered outcome)) (farewells t (is_lost_ordered outcome)) g (farewells_said t (is_lost_ordered outcome)) (subst (Member g) x.sent_is i)
job_said t m (Talk (Some j)) x g i = elim (x.1) [
  | inl none ↦ absurd (no_member m.sent g none i)
  | inr one ↦ elim (subst (Member g) one.2 i) [ inl is ↦ subst IsAsked (sym (ap (λ (f : FrameView). f.body) is)) one.3 | inr none ↦ absurd none ]
]
job_said t m (Fault call by) x g i = no_member m.sent g x.1 i
job_said t m kind x g i = absurd x

-- ---- how much it sends

-- a Close, or the giving back of a lock
abbrev pub IsFarewell : FrameView → Type 0
IsFarewell g = (g.body ≡ Closing) ⊎ ((key : List ℕ) × (g.body ≡ Line (text_of (UnlockContent key))))

-- one frame at most, or farewells
abbrev pub Few : List FrameView → Type 0
Few sent = (sent ≡ []) ⊎ (((g : FrameView) × (sent ≡ g ∷ [])) ⊎ Each IsFarewell sent)

each_farewell : (t : Turn) (lost : Bool) (fs : List FrameView) → Each (Farewell t lost) fs → Each IsFarewell fs
each_farewell t lost [] a = tt
each_farewell t lost (f ∷ fs) a = (elim (a.0) [ inl i ↦ inl i | inr i ↦ inr (key_of t, i.0) ], each_farewell t lost fs a.1)

pub job_few : (t : Turn) (m : Effect) (kind : EntryKind) → IsJobEntry t m kind → Few m.sent
job_few t m (Share hold end by key) x = inl x.sends_none
job_few t m (Bar j need key) x = inl x.sends_none
job_few t m (Gone by key) x = inl x.sends_none
job_few t m (Order j peer deadline need key) x = inr (inl (_, x.sent_is))
job_few t m (Gain by size key) x = inr (inl (_, x.sent_is))
job_few t m (ends_job j outcome) x = inr (inr (subst (Each IsFarewell) (sym x.sent_is) (each_farewell t (is_lost_ordered outcome) (farewells t (is_lost_ordered outcome)) (farewells_said t (is_lost_ordered outcome)))))
job_few t m (Talk (Some j)) x = elim (x.1) [ inl none ↦ inl none | inr one ↦ inr (inl (_, one.2)) ]
job_few t m (Fault call by) x = inl x.1
job_few t m kind x = absurd x

-- ---- what is read of it

asking_jobs : (m : Message) → IsAsking m → IsJobs m
asking_jobs (Version n) a = tt
asking_jobs (CheckPresent key) a = tt
asking_jobs (LockContent key) a = tt
asking_jobs GetTimestamp a = tt
asking_jobs (Get n file key) a = tt
asking_jobs (Put file key) a = tt
asking_jobs (Data n) a = tt
asking_jobs Valid a = tt
asking_jobs Failure a = tt
asking_jobs m a = absurd a

pub order_jobs : (deadline : Option ℕ) (key : List ℕ) → IsJobs (order_of deadline key)
order_jobs None key = tt
order_jobs (Some n) key = tt

-- a line that is read has the head of what it says
pub line_head : (body : FrameText) (m x : Message) → body ≡ Line (text_of m) → IsJobs m → message_in body ≡ Says x → SameHead m x
line_head body m x i jobs e = head_of m x jobs (read_of (text_of m) x (sym (ap message_in i) ∙ e))

asked_head : (body : FrameText) (x : Message) → IsAsked body → message_in body ≡ Says x → (m : Message) × IsAsking m × SameHead m x
asked_head Opening x a e = absurd (let no' = sym said_opening ∙ e in cc)
asked_head Closing x a e = absurd (closing_ends Closing x refl e)
asked_head (Bytes n) x a e = absurd (let no' = sym (said_bytes n) ∙ e in cc)
asked_head (Line text) x a e = (a.0, a.2, line_head (Line text) a.0 x (ap Line a.1) (asking_jobs a.0 a.2) e)

-- the message that a job's entry says
abbrev pub KindSays : Turn → EntryKind → Message → Type 0
KindSays t (Order j peer deadline need key) m = m ≡ order_of deadline key
KindSays t (Gain by size key) m = m ≡ Success
KindSays t (ends_job j outcome) m = (m ≡ UnlockContent (key_of t)) × (is_lost_ordered outcome ≡ false)
KindSays t (Talk j) m = IsAsking m
KindSays t kind m = ⊥

pub said_head : (t : Turn) (kind : EntryKind) (g : FrameView) (x : Message) → JobSaid t kind g → message_in g.body ≡ Says x → (m : Message) × KindSays t kind m × SameHead m x
said_head t (Order j peer deadline need key) g x i e = (order_of deadline key, refl, line_head g.body (order_of deadline key) x i.1 (order_jobs deadline key) e)
said_head t (Gain by size key) g x i e = (Success, refl, line_head g.body Success x i tt e)
said_head t (ends_job j outcome) g x (inl i) e = absurd (closing_ends g.body x i e)
said_head t (ends_job j outcome) g x (inr i) e = (UnlockContent (key_of t), (refl, i.1), line_head g.body (UnlockContent (key_of t)) x i.0 tt e)
said_head t (Talk j) g x i e = asked_head g.body x i e
said_head t kind g x i e = absurd i

-- ---- by what is read

time_apart : (m : Message) (n : ℕ) → SameHead m (Timestamp n) → ⊥
time_apart (Timestamp k) n h = h
time_apart m n h = h

remove_apart : (m : Message) (key : List ℕ) → IsAsking m → SameHead m (Remove key) → ⊥
remove_apart (Remove k) key a h = a
remove_apart m key a h = h

before_apart : (m : Message) (n : ℕ) (key : List ℕ) → IsAsking m → SameHead m (RemoveBefore n key) → ⊥
before_apart (RemoveBefore k q) n key a h = a
before_apart m n key a h = h

unlock_apart : (m : Message) (key : List ℕ) → IsAsking m → SameHead m (UnlockContent key) → ⊥
unlock_apart (UnlockContent k) key a h = a
unlock_apart m key a h = h

-- a job tells no time
pub tells_no_time : (t : Turn) (kind : EntryKind) (g : FrameView) (n : ℕ) → JobSaid t kind g → message_in g.body ≡ Says (Timestamp n) → ⊥
tells_no_time t kind g n i e = let x = said_head t kind g (Timestamp n) i e in time_apart x.0 n x.2

-- an order is said by the entry of an order
order_kind : (t : Turn) (kind : EntryKind) (m : Message) (deadline : Option ℕ) (key : List ℕ) → KindSays t kind m → SameHead m (order_of deadline key)
    → (j peer : ℕ) × (d : Option ℕ) × (need : Need) × (k : List ℕ) × (kind ≡ Order j peer d need k)
order_kind t (Order j peer d need k) m deadline key i h = (j, peer, d, need, k, refl)
order_kind t (Gain by size k) m None key i h = absurd (subst (λ x. SameHead x (Remove key)) i h)
order_kind t (Gain by size k) m (Some n) key i h = absurd (subst (λ x. SameHead x (RemoveBefore n key)) i h)
order_kind t (ends_job j outcome) m None key i h = absurd (subst (λ x. SameHead x (Remove key)) i.0 h)
order_kind t (ends_job j outcome) m (Some n) key i h = absurd (subst (λ x. SameHead x (RemoveBefore n key)) i.0 h)
order_kind t (Talk j) m None key i h = absurd (remove_apart m key i h)
order_kind t (Talk j) m (Some n) key i h = absurd (before_apart m n key i h)
order_kind t kind m deadline key i h = absurd i

-- UNLOCKCONTENT is said by the job's end, other than after a lost order
unlock_kind : (t : Turn) (kind : EntryKind) (m : Message) (key : List ℕ) → KindSays t kind m → SameHead m (UnlockContent key)
    → (j : ℕ) × (outcome : Outcome) × ((kind ≡ ends_job j outcome) × (is_lost_ordered outcome ≡ false))
unlock_kind t (Order j peer None need k) m key i h = absurd (subst (λ x. SameHead x (UnlockContent key)) i h)
unlock_kind t (Order j peer (Some n) need k) m key i h = absurd (subst (λ x. SameHead x (UnlockContent key)) i h)
unlock_kind t (Gain by size k) m key i h = absurd (subst (λ x. SameHead x (UnlockContent key)) i h)
unlock_kind t (ends_job j outcome) m key i h = (j, outcome, (refl, i.1))
unlock_kind t (Talk j) m key i h = absurd (unlock_apart m key i h)
unlock_kind t kind m key i h = absurd i

pub unlocks_end : (t : Turn) (kind : EntryKind) (g : FrameView) (key : List ℕ) → JobSaid t kind g → message_in g.body ≡ Says (UnlockContent key)
    → (j : ℕ) × (outcome : Outcome) × ((kind ≡ ends_job j outcome) × (is_lost_ordered outcome ≡ false))
unlocks_end t kind g key i e = let x = said_head t kind g (UnlockContent key) i e in unlock_kind t kind x.0 key x.1 x.2

pub orders_order : (t : Turn) (kind : EntryKind) (g : FrameView) (deadline : Option ℕ) (key : List ℕ) → JobSaid t kind g → message_in g.body ≡ Says (order_of deadline key)
    → (j peer : ℕ) × (d : Option ℕ) × (need : Need) × (k : List ℕ) × (kind ≡ Order j peer d need k)
orders_order t kind g deadline key i e = let x = said_head t kind g (order_of deadline key) i e in order_kind t kind x.0 deadline key x.1 x.2

-- the giving back of a lock is read as that, or not at all
unlock_as : (key : List ℕ) (x : Message) → SameHead (UnlockContent key) x → x ≡ UnlockContent key
unlock_as key (UnlockContent k) h = ap UnlockContent h
unlock_as key x h = absurd h

pub unlock_said : (key : List ℕ) → (message_in (Line (text_of (UnlockContent key))) ≡ Unknown) ⊎ (message_in (Line (text_of (UnlockContent key))) ≡ Says (UnlockContent key))
unlock_said key = go (message_of (text_of (UnlockContent key))) refl
  where
    line : message_in (Line (text_of (UnlockContent key))) ≡ said_line (message_of (text_of (UnlockContent key)))
    line = said_line-is (text_of (UnlockContent key))

    go : (o : Option Message) → message_of (text_of (UnlockContent key)) ≡ o → (message_in (Line (text_of (UnlockContent key))) ≡ Unknown) ⊎ (message_in (Line (text_of (UnlockContent key))) ≡ Says (UnlockContent key))
    go None e = inl (line ∙ ap said_line e)
    go (Some x) e = inr (line ∙ ap said_line e ∙ ap Says (unlock_as key x (head_of (UnlockContent key) x tt e)))

-- a test that farewells fail
pub farewells_fail : (test : Said → Bool) → test (message_in Closing) ≡ false → test Unknown ≡ false → ((key : List ℕ) → test (Says (UnlockContent key)) ≡ false)
    → (fs : List FrameView) → Each IsFarewell fs → Each (λ g. test (message_in g.body) ≡ false) fs
farewells_fail test close none unlock [] a = tt
farewells_fail test close none unlock (f ∷ fs) a = (one a.0, farewells_fail test close none unlock fs a.1)
  where
    one : IsFarewell f → test (message_in f.body) ≡ false
    one (inl i) = ap (λ b. test (message_in b)) i ∙ close
    one (inr i) = ap (λ b. test (message_in b)) i.1 ∙ elim (unlock_said i.0) [ inl u ↦ ap test u ∙ none | inr u ↦ ap test u ∙ unlock i.0 ]
