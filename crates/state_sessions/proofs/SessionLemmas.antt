-- How sessions change by the frames of an entry.
use Rattle.std.proofs.Common.{◌≡◌, ℕ, Bool, true, false, cond, ◌&&◌, ◌||◌, ◌==◌, if◌then◌else◌, List, [], ◌∷◌, ◌++◌, filter, Option, Some, None, refl, sym, ap, subst, ◌∙◌, eqb-true, arith, ◌<◌, ◌≤◌}
use Rattle.std.specs.Prelude.{find}
use Rattle.std.specs.List.{list_any}
use Rattle.std.proofs.lemmas.List.Elements.{filter-append}
use Rattle.annex_base.specs.Bools.{same_bool}
use Rattle.annex_base.proofs.Conditions.{and_first, and_second, by_test}
use Rattle.annex_base.proofs.Lists.{filter_none, list_any_nowhere}
use Rattle.run_data.specs.declared.entry.EntryKind.{EntryKind}
use Rattle.run_data.specs.declared.entry.FrameText.{FrameText}
use Rattle.run_data.specs.declared.entry.FrameText.TheVariants.{Opening, Closing, Bytes, Line}
use Rattle.run_data.specs.declared.entry.FrameView.{FrameView}
use Rattle.p2p_wire.specs.declared.message.Message.{Message}
use Rattle.node_model.specs.Ends.{sends_at, sent_at, server_end, taken_at, takes_at}
use Rattle.node_model.specs.Sessions as sessions
use Rattle.node_model.specs.Sessions.{is_closing, line_in, message_said, new_session, sends_close, sent_more, sent_one, session_goes, session_left, session_took, took_message}
use Rattle.state_ends.specs.declared.side.Connection.{Connection}
use Rattle.state_sessions.specs.Doings.{as_session, number_in}
use Rattle.state_sessions.specs.Tables.{after_sent, is_at, or_new, taken_in, taken_so, taken_up, took_at}
use Rattle.state_sessions.specs.declared.doing.Session.{Session}
use Rattle.state_sessions.specs.declared.heard.Heard.{Heard}
use Rattle.state_sessions.specs.Hearing.{heard_so}

-- ---- the first of the frames at an end

abbrev pub message_in : Option FrameView → Option Message
message_in None = None
message_in (Some f) = line_in f.body

pub said_first : (p : FrameView → Bool) (fs : List FrameView) → message_said (filter p fs) ≡ message_in (find p fs)
said_first p [] = refl
said_first p (f ∷ fs) = go (p f) (said_first p fs)
  where
    go : (b : Bool) → message_said (filter p fs) ≡ message_in (find p fs) → message_said (cond b (f ∷ filter p fs) (filter p fs)) ≡ message_in (if b then Some f else find p fs)
    go true more = refl
    go false more = more

nothing_sent : (p : FrameView → Bool) (fs : List FrameView) → list_any p fs ≡ false → filter p fs ≡ []
nothing_sent p fs none = filter_none p fs (list_any_nowhere p fs none)

-- where none was sent at the end before, nothing has changed by them
sent_first : (p : FrameView → Bool) (fs : List FrameView) (was : sessions.Session) → list_any p fs ≡ false → sent_more was (filter p fs) ≡ was
sent_first p fs was none = ap (sent_more was) (nothing_sent p fs none)

sent_again : (p : FrameView → Bool) (fs more : List FrameView) (was : sessions.Session) → list_any p fs ≡ true → sent_more was (filter p fs ++ more) ≡ sent_more was (filter p fs)
sent_again p [] more was some = absurd cc
sent_again p (f ∷ fs) more was some = go (p f) some (sent_again p fs more was)
  where
    go : (b : Bool) → (b || list_any p fs) ≡ true → (list_any p fs ≡ true → sent_more was (filter p fs ++ more) ≡ sent_more was (filter p fs))
        → sent_more was (cond b (f ∷ filter p fs) (filter p fs) ++ more) ≡ sent_more was (cond b (f ∷ filter p fs) (filter p fs))
    go true some rest = refl
    go false some rest = rest some

-- the session of a connection after these frames, one of which a session took there or not
abbrev pub sent_so : Bool → (FrameView → Bool) → List FrameView → sessions.Session → sessions.Session
sent_so took p fs was = if took then was else sent_more was (filter p fs)

pub sent_next : (took : Bool) (p : FrameView → Bool) (fs : List FrameView) (f : FrameView) (was : sessions.Session)
    → (if took || list_any p fs then sent_so took p fs was else (if p f then sent_one (sent_so took p fs was) f.body else sent_so took p fs was)) ≡ sent_so took p (fs ++ f ∷ []) was
sent_next true p fs f was = refl
sent_next false p fs f was =
    go (list_any p fs) refl (p f) ∙ ap (sent_more was) (sym (filter-append p fs (f ∷ [])))
  where
    one : (c : Bool) → (if c then sent_one was f.body else was) ≡ sent_more was (cond c (f ∷ []) [])
    one true = refl
    one false = refl

    go : (b : Bool) → list_any p fs ≡ b → (c : Bool)
        → (if b then sent_more was (filter p fs) else (if c then sent_one (sent_more was (filter p fs)) f.body else sent_more was (filter p fs))) ≡ sent_more was (filter p fs ++ cond c (f ∷ []) [])
    go true some c = sym (sent_again p fs (cond c (f ∷ []) []) was some)
    go false none c = subst (λ (gs : List FrameView). (if c then sent_one (sent_more was gs) f.body else sent_more was gs) ≡ sent_more was (gs ++ cond c (f ∷ []) [])) (sym (nothing_sent p fs none)) (one c)

-- where none was sent before, the session is as it was
pub unsent : (took : Bool) (p : FrameView → Bool) (fs : List FrameView) (was : sessions.Session) → list_any p fs ≡ false → sent_so took p fs was ≡ was
unsent true p fs was none = refl
unsent false p fs was none = sent_first p fs was none

-- and where one was, the next changes nothing
pub sent_before : (took : Option Connection) (before : List FrameView) (f : FrameView) (peer slot : ℕ) (was : sessions.Session)
    → list_any (sends_at (server_end peer slot)) before ≡ true → after_sent took before f peer slot was ≡ was
sent_before took before f peer slot was some = go (is_at took peer slot)
  where
    next : sessions.Session
    next = if sends_at (server_end peer slot) f then sent_one was f.body else was

    go : (b : Bool) → (if b || list_any (sends_at (server_end peer slot)) before then was else next) ≡ was
    go true = refl
    go false = rw some refl

-- ---- closes

close-append : (fs gs : List FrameView) → sends_close (fs ++ gs) ≡ (sends_close fs || sends_close gs)
close-append [] gs = refl
close-append (f ∷ fs) gs = go (is_closing f.body) (close-append fs gs)
  where
    go : (b : Bool) → sends_close (fs ++ gs) ≡ (sends_close fs || sends_close gs) → (b || sends_close (fs ++ gs)) ≡ ((b || sends_close fs) || sends_close gs)
    go true more = refl
    go false more = more

left_twice : (b c : Bool) (was : sessions.Session) → session_left c (session_left b was) ≡ session_left (b || c) was
left_twice true true was = refl
left_twice true false was = refl
left_twice false c was = refl

pub closes_more : (p : FrameView → Bool) (fs : List FrameView) (f : FrameView) (was : sessions.Session)
    → session_left (sends_close (filter p (f ∷ []))) (session_left (sends_close (filter p fs)) was) ≡ session_left (sends_close (filter p (fs ++ f ∷ []))) was
closes_more p fs f was =
    left_twice (sends_close (filter p fs)) (sends_close (filter p (f ∷ []))) was
    ∙ ap (λ (b : Bool). session_left b was) (sym (close-append (filter p fs) (filter p (f ∷ []))) ∙ ap sends_close (sym (filter-append p fs (f ∷ []))))

pub left_small : (b : Bool) (x : sessions.Session) (limit : ℕ) → number_in x.doing < limit → number_in (session_left b x).doing < limit
left_small true x limit low = omega (arith, low)
left_small false x limit low = low

-- ---- a frame that is taken

and_true : (b : Bool) → (b && true) ≡ b
and_true true = refl
and_true false = refl

and_false : (b : Bool) → (b && false) ≡ false
and_false true = refl
and_false false = refl

takes_is : (f : FrameView) (peer slot : ℕ) → takes_at (server_end peer slot) f ≡ is_at (taken_up f.up f) peer slot
takes_is f peer slot = go f.up
  where
    go : (up : Bool) → ((f.peer == peer) && (f.slot == slot) && same_bool false (if up then false else true)) ≡ is_at (taken_up up f) peer slot
    go true = and_true ((f.peer == peer) && (f.slot == slot))
    go false = and_false ((f.peer == peer) && (f.slot == slot))

is_up : (f : FrameView) (peer slot : ℕ) → is_at (taken_up f.up f) peer slot ≡ true → f.up ≡ true
is_up f peer slot is = go f.up refl is
  where
    go : (up : Bool) → f.up ≡ up → is_at (taken_up up f) peer slot ≡ true → f.up ≡ true
    go true same at = same
    go false same at = absurd cc

took_so : (size : List ℕ → Option ℕ) (kind : EntryKind) (was : sessions.Session) (sent : List FrameView) (body : FrameText) (heard : Option Heard)
    → heard_so heard was ≡ took_message size kind was (message_said sent) (line_in body) → session_took size kind was sent body ≡ taken_so was body heard
took_so size kind was sent Opening heard is = refl
took_so size kind was sent Closing heard is = refl
took_so size kind was sent (Bytes n) heard is = refl
took_so size kind was sent (Line text) heard is = sym is

same_place : (a b c d : ℕ) → ((a == b) && (c == d)) ≡ true → (a ≡ b) × (c ≡ d)
same_place a b c d both = (eqb-true a b (and_first (a == b) (c == d) both), eqb-true c d (and_second (a == b) (c == d) both))

-- the session that takes the frame is that of its connection
at_place : (f : FrameView) (peer slot : ℕ) → is_at (taken_up f.up f) peer slot ≡ true → (f.peer ≡ peer) × (f.slot ≡ slot)
at_place f peer slot is = go f.up is
  where
    go : (up : Bool) → is_at (taken_up up f) peer slot ≡ true → (f.peer ≡ peer) × (f.slot ≡ slot)
    go true at = same_place f.peer peer f.slot slot at
    go false at = absurd cc

-- what an entry that takes this, or nothing, and sends these makes of a session, before closes
pub goes_so : (size : List ℕ → Option ℕ) (kind : EntryKind) (was : sessions.Session) (taken : Option FrameView) (fs : List FrameView) (heard : Option Heard) (peer slot : ℕ)
    → ((f : FrameView) → taken ≡ Some f → f.up ≡ true → heard_so heard was ≡ took_message size kind was (message_said (sent_at (server_end f.peer f.slot) fs)) (line_in f.body))
    → session_goes size kind was (sent_at (server_end peer slot) fs) (taken_at (server_end peer slot) taken) ≡ sent_so (is_at (taken_in taken) peer slot) (sends_at (server_end peer slot)) fs (took_at taken heard peer slot was)
goes_so size kind was None fs heard peer slot is = refl
goes_so size kind was (Some f) fs heard peer slot is =
    ap (λ (b : Bool). session_goes size kind was sent (if b then Some f else None)) (takes_is f peer slot) ∙ go (is_at (taken_up f.up f) peer slot) refl
  where
    sent : List FrameView
    sent = sent_at (server_end peer slot) fs

    here : is_at (taken_up f.up f) peer slot ≡ true → heard_so heard was ≡ took_message size kind was (message_said sent) (line_in f.body)
    here at =
        let place = at_place f peer slot at in
        subst (λ (q : ℕ). heard_so heard was ≡ took_message size kind was (message_said (sent_at (server_end peer q) fs)) (line_in f.body)) place.1
        (subst (λ (p : ℕ). heard_so heard was ≡ took_message size kind was (message_said (sent_at (server_end p f.slot) fs)) (line_in f.body)) place.0
        (is f refl (is_up f peer slot at)))

    go : (b : Bool) → is_at (taken_up f.up f) peer slot ≡ b → session_goes size kind was sent (if b then Some f else None) ≡ sent_so b (sends_at (server_end peer slot)) fs (if b then taken_so was f.body heard else was)
    go true at = took_so size kind was sent f.body heard (here at)
    go false at = refl

-- ---- one session of the table

chosen : (b : Bool) (x : Session) (o : Option Session) → or_new (if b then Some x else o) ≡ (if b then as_session x else or_new o)
chosen true x o = refl
chosen false x o = refl

chosen_none : (b : Bool) (o : Option Session) → or_new (if b then None else o) ≡ (if b then new_session else or_new o)
chosen_none true o = refl
chosen_none false o = refl

-- what a look-up finds after an insertion, and after a removal
pub put_in : (b : Bool) (x : Session) (o new : Option Session) → new ≡ cond b (Some x) o → or_new new ≡ (if b then as_session x else or_new o)
put_in b x o new is = ap or_new is ∙ chosen b x o

pub taken_out : (b : Bool) (o new : Option Session) → new ≡ cond b None o → or_new new ≡ (if b then new_session else or_new o)
taken_out b o new is = ap or_new is ∙ chosen_none b o

abbrev Table : Type 0
Table = ℕ → ℕ → sessions.Session

-- the table has new at a place, and another table then has x there
abbrev pub PutsAt : Table → Table → ℕ → ℕ → sessions.Session → Type 0
PutsAt was now peer slot x = (p q : ℕ) → now p q ≡ (if (peer == p) && (slot == q) then x else was p q)

pub replaced : (old mid new : Table) (peer slot : ℕ) (x : sessions.Session) (g : sessions.Session → sessions.Session)
    → PutsAt old mid peer slot new_session → PutsAt mid new peer slot x → x ≡ g (old peer slot)
    → (p q : ℕ) → new p q ≡ (if (peer == p) && (slot == q) then g (old p q) else old p q)
replaced old mid new peer slot x g out puts is p q = by_test ((peer == p) && (slot == q))
    (λ same. let at = same_place peer p slot q same in
    rw same (there same ∙ is ∙ ap (λ (r : ℕ). g (old r slot)) at.0 ∙ ap (λ (r : ℕ). g (old p r)) at.1))
    (λ other. rw other (away other))
  where
    there : ((peer == p) && (slot == q)) ≡ true → new p q ≡ x
    there same = puts p q ∙ ap (λ (b : Bool). if b then x else mid p q) same

    away : ((peer == p) && (slot == q)) ≡ false → new p q ≡ old p q
    away other = puts p q ∙ ap (λ (b : Bool). if b then x else mid p q) other ∙ out p q ∙ ap (λ (b : Bool). if b then new_session else old p q) other

pub replaced_small : (old mid new : Table) (peer slot : ℕ) (x : sessions.Session) (limit more : ℕ)
    → PutsAt old mid peer slot new_session → PutsAt mid new peer slot x → limit ≤ more → (number_in (old peer slot).doing < limit → number_in x.doing < more)
    → (p q : ℕ) → number_in (old p q).doing < limit → number_in (new p q).doing < more
replaced_small old mid new peer slot x limit more out puts le small p q below = by_test ((peer == p) && (slot == q))
    (λ same. let at = same_place peer p slot q same in
    let now : new p q ≡ x = puts p q ∙ ap (λ (b : Bool). if b then x else mid p q) same in
    let was : number_in (old peer slot).doing < limit = subst (λ (r : ℕ). number_in (old r slot).doing < limit) (sym at.0) (subst (λ (r : ℕ). number_in (old p r).doing < limit) (sym at.1) below) in
    subst (λ (s : sessions.Session). number_in s.doing < more) (sym now) (small was))
    (λ other.
    let now : new p q ≡ old p q = puts p q ∙ ap (λ (b : Bool). if b then x else mid p q) other ∙ out p q ∙ ap (λ (b : Bool). if b then new_session else old p q) other in
    let less : number_in (old p q).doing < more = omega (arith, below) in
    subst (λ (s : sessions.Session). number_in s.doing < more) (sym now) less)
