-- A step that does one thing does whatever is the same, and what it is told of its frame.
use Rattle.std.proofs.Common.{◌≡◌, ℕ, Bool, List, Option, Some, None, refl, sym, ap, ◌∙◌, subst}
use Rattle.run_data.specs.declared.entry.EntryKind.{EntryKind}
use Rattle.run_data.specs.declared.entry.FrameText.{FrameText}
use Rattle.run_data.specs.declared.entry.FrameText.TheVariants.{Opening, Closing, Bytes, Line}
use Rattle.p2p_wire.specs.Messages.{message_of}
use Rattle.run_data.specs.declared.entry.FrameView.{FrameView}
use Rattle.p2p_wire.specs.declared.message.Message.{Message}
use Rattle.node_model.specs.Jobs as Jobs
use Rattle.node_model.specs.JobStep.{Turn}
use Rattle.node_model.specs.Look.{Effect, as_told, failed_in}
use Rattle.content_lock.specs.Rows.{AreAfter, Rows}
use Rattle.drop_phases.specs.declared.phase.Phase.{Phase}
use Rattle.drop_phases.specs.declared.phase.Phase.TheVariants as phases
use Rattle.drop_phases.specs.declared.phase.Token.{Token}
use Rattle.drop_phases.specs.declared.phase.Token.TheVariants as tokens
use Rattle.drop_phases.specs.declared.turn.Output.{Output}
use Rattle.drop_phases.specs.declared.turn.Taken.{Taken}
use Rattle.drop_phases.specs.declared.turn.Taken.TheVariants as takens
use Rattle.drop_phases.specs.Worker.{Worker}
use Rattle.drop_phases.specs.Working.{Rest, Sight, phase_as, taken_line, taken_of, turn_in}
use Rattle.drop_phases.specs.Doing.{Comes, DoesAsAsked, GoesOn, HasToken, IsBar, Takes, Talks, next_work, share_in}
use Rattle.drop_phases.specs.Feeding.{FindsClosed, FitsLocal, TakesClose, TakesFed, TakesOther, IsBare, IsOfLocal}

pub does_as : (x : Sight) (rows rows' : Rows) (p : List ℕ → Bool) (w w' : Worker) (taken : Option FrameView) (a b : Turn → Effect) (out : Output)
    → DoesAsAsked x rows rows' p w w' taken a out → ((rest : Rest) → a (turn_in x rows p (failed_in out.kind) rest w) ≡ b (turn_in x rows p (failed_in out.kind) rest w)) → DoesAsAsked x rows rows' p w w' taken b out
does_as x rows rows' p w w' taken a b out d e =
    record {
      makes = λ rest. d.makes rest ∙ ap as_told (e rest);
      next = λ going rest. d.next going rest ∙ ap (next_work (turn_in x rows p (failed_in out.kind) rest w)) (e rest);
      after = d.after;
      whose = d.whose;
    }

-- ---- what is told

pub fed_message : (time peer : ℕ) (m : Message) (w w' : Worker) (out : Output) (taken : Taken) → taken ≡ takens.Message m → Takes time peer m w w' out → TakesFed time peer taken w w' out
fed_message time peer m w w' out taken is takes x rows p None at fed = absurd (let both : takens.Message m ≡ takens.Closed = sym is ∙ fed.0 in cc)
fed_message time peer m w w' out taken is takes x rows p (Some f) at fed = takes x rows p f at (subst (λ (t : Taken). Comes x w.slot peer f t) is fed)

pub fed_other : (time peer : ℕ) (w w' : Worker) (out : Output) (taken : Taken) → taken ≡ takens.Other → TakesOther peer w w' out → TakesFed time peer taken w w' out
fed_other time peer w w' out taken is takes x rows p None at fed = absurd (let both : takens.Other ≡ takens.Closed = sym is ∙ fed.0 in cc)
fed_other time peer w w' out taken is takes x rows p (Some f) at fed = takes x rows p f (subst (λ (t : Taken). Comes x w.slot peer f t) is fed)

line_open : (o : Option Message) → taken_line o ≡ takens.Closed → ⊥
line_open None e = cc
line_open (Some m) e = cc

closed_body : (body : FrameText) → taken_of body ≡ takens.Closed → body ≡ Closing
closed_body Opening e = absurd (cc)
closed_body Closing e = refl
closed_body (Bytes n) e = absurd (cc)
closed_body (Line text) e = absurd (line_open (message_of text) e)

pub fed_closed : (time peer : ℕ) (w w' : Worker) (out : Output) (taken : Taken) → taken ≡ takens.Closed → TakesClose peer w w' out → FindsClosed peer w w' out → TakesFed time peer taken w w' out
fed_closed time peer w w' out taken is takes here x rows p None at fed = here x rows p fed.1 fed.2
fed_closed time peer w w' out taken is takes here x rows p (Some f) at fed = takes x rows p f fed.apart fed.at (closed_body f.body (fed.is ∙ is))

-- ---- tokens and phases

pub goes_fit : (ph : Phase) (token : Token) → GoesOn ph → IsBar token → FitsLocal ph token
goes_fit phases.Next token goes bar = bar
goes_fit (phases.Opens peer) token goes bar = bar
goes_fit (phases.Greets peer) token goes bar = bar
goes_fit (phases.AsksLock peer since) token goes bar = bar
goes_fit (phases.AsksLook peer) token goes bar = bar
goes_fit phases.Fresh token goes bar = absurd goes
goes_fit phases.AsksTime token goes bar = absurd goes
goes_fit phases.Orders token goes bar = absurd goes
goes_fit phases.Removed token goes bar = absurd goes
goes_fit phases.Denied token goes bar = absurd goes
goes_fit (phases.Late time) token goes bar = absurd goes
goes_fit (phases.Ends why) token goes bar = absurd goes

-- a job that stands on a connection has its bar
pub talks_barred : (target : Option ℕ) (peer : ℕ) (ph : Phase) (token : Token) → Jobs.partner target (phase_as ph) ≡ Some peer → FitsLocal ph token → IsBar token
talks_barred target peer (phases.Opens p) token e fits = fits
talks_barred target peer (phases.Greets p) token e fits = fits
talks_barred target peer (phases.AsksLock p since) token e fits = fits
talks_barred target peer (phases.AsksLook p) token e fits = fits
talks_barred target peer phases.AsksTime token e fits = absurd fits
talks_barred target peer phases.Orders token e fits = absurd fits
talks_barred target peer phases.Fresh token e fits = absurd (cc)
talks_barred target peer phases.Next token e fits = absurd (cc)
talks_barred target peer phases.Removed token e fits = absurd (cc)
talks_barred target peer phases.Denied token e fits = absurd (cc)
talks_barred target peer (phases.Late time) token e fits = absurd (cc)
talks_barred target peer (phases.Ends why) token e fits = absurd (cc)

-- it fits still after a step that talks
pub fits_talking : (w w' : Worker) (out : Output) → Talks w w' out → IsBar w.token → FitsLocal w'.phase w'.token
fits_talking w w' out t bar = goes_fit w'.phase w'.token t.phase (subst (λ (token : Token). IsBar token) (sym t.token) bar)

pub owns_talking : (w w' : Worker) (out : Output) (rows : Rows) → Talks w w' out → HasToken w.number w.job.key w.token rows → HasToken w'.number w'.job.key w'.token rows
owns_talking w w' out rows t own = rw (t.number, t.job, t.token) own

pub after_talking : (w w' : Worker) (out : Output) (rows : Rows) → Talks w w' out → AreAfter out.kind rows rows
after_talking w w' out rows t = subst (λ (k : EntryKind). AreAfter k rows rows) (sym t.kind) (record { holds = refl; bars = λ k. refl; fills = refl })

pub bare_local : (token : Token) → IsBare token → IsOfLocal token
bare_local tokens.Nothing bare = tt
bare_local (tokens.Bar bar) bare = absurd bare
bare_local (tokens.Share share) bare = absurd bare

pub bar_local : (token : Token) → IsBar token → IsOfLocal token
bar_local tokens.Nothing bar = tt
bar_local (tokens.Bar b) bar = tt
bar_local (tokens.Share share) bar = absurd bar

pub local_shares : (token : Token) → IsOfLocal token → share_in token ≡ None
local_shares tokens.Nothing l = refl
local_shares (tokens.Bar bar) l = refl
local_shares (tokens.Share share) l = absurd l
