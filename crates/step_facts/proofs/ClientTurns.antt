-- A step of a job keeps what its phase says of requests and answers.
use Rattle.std.proofs.Common.{◌≡◌, ℕ, Bool, true, false, List, Option, Some, None, inl, inr, refl, sym, ap, ◌∙◌, subst}
use Rattle.std.specs.Prelude.{◌==◌, fold}
use Rattle.std.proofs.lemmas.Bool.{true≢false, eqb-true}
use Rattle.annex_base.proofs.Conditions.{if_either}
use Rattle.run_data.specs.declared.entry.Entry.{Entry}
use Rattle.run_data.specs.declared.entry.EntryKind.{EntryKind}
use Rattle.run_data.specs.declared.entry.EntryKind.TheVariants.{End as ends_job}
use Rattle.run_data.specs.declared.entry.FrameView.{FrameView}
use Rattle.run_data.specs.declared.job.Outcome.TheVariants as outcomes
use Rattle.run_data.specs.declared.job.DropRefusal.TheVariants as refusals
use Rattle.run_data.specs.declared.job.Cause.TheVariants as causes
use Rattle.node_model.specs.Ends.{EndName, End, end_after, end_sends, end_took, sent_at}
use Rattle.node_model.specs.Rows.{option_is}
use Rattle.node_model.specs.Sessions.{line_in}
use Rattle.node_model.specs.Jobs
use Rattle.node_model.specs.Jobs.{Part, Gets, Puts, Drops, Phase, RowsAndEnds, Work, claims, closed_part, job_end, learns, partner, talks, talks_on, work_kind}
use Rattle.node_model.specs.Look.{Effect, entry_of}
use Rattle.node_model.specs.JobStep.{Turn, end_with, key_of, me}
use Rattle.step_facts.proofs.JobKept.{claims_kept, learns_kept}
use Rattle.step_facts.proofs.ClientCounts

-- ---- what a step makes of its job

abbrev pub rows_of : Turn → RowsAndEnds
rows_of t = record { present = t.present; bar = t.bar; ends = t.ends }

abbrev pub made_entry : Turn → Effect → Entry
made_entry t m = entry_of (me t) t.look m

abbrev pub moved : Turn → Effect → EntryKind → Work
moved t m kind = work_kind (rows_of t) (me t) t.w (made_entry t m) kind

-- the phase after it fits what is counted then, at every end of the job, where the one before did
abbrev pub EvenTo : Turn → Effect → Phase → Type 0
EvenTo t m next = (p : ℕ) (q : ClientCounts.Counts) → ClientCounts.Fits (key_of t) t.w.what.peer t.w.phase p (end_with t p) q
    → ClientCounts.Fits (key_of t) t.w.what.peer next p (end_after (job_end t.w p) (end_with t p) (made_entry t m)) (ClientCounts.counts_after (job_end t.w p) q (made_entry t m))

-- a job that ends has no phase any more
abbrev pub Even : Turn → Effect → EntryKind → Type 0
Even t m (ends_job j outcome) = Unit {0}
Even t m kind = EvenTo t m (moved t m kind).phase

abbrev pub end_then : End → Effect → End
end_then c m = fold (λ c f. end_sends c f.body) (end_took c m.taken) m.sent

abbrev pub counts_then : ℕ → ClientCounts.Counts → Effect → ClientCounts.Counts
counts_then time q m = fold (λ c f. ClientCounts.counts_sends time c f.body) (ClientCounts.counts_took q m.taken) m.sent

-- ---- one end alone

pub local_even : (t : Turn) (m : Effect) (next : Phase) (peer : ℕ) → ClientCounts.Local t.w peer m.taken m.sent
    → ClientCounts.IsLive t.w.phase → ClientCounts.Stays t.w.what.peer t.w.phase peer → ClientCounts.Stays t.w.what.peer next peer
    → ((q : ClientCounts.Counts) → ((end_with t peer).opened ≡ true → ClientCounts.Counted (key_of t) t.w.what.peer t.w.phase peer q) → ClientCounts.IsLive next
    → (end_then (end_with t peer) m).opened ≡ true → ClientCounts.Counted (key_of t) t.w.what.peer next peer (counts_then t.look.time q m))
    → EvenTo t m next
local_even t m next peer local live stays goes here = λ p q fits. go p q fits (peer == p) refl
  where
    FitsAt : (p : ℕ) → Type 0
    FitsAt p = (q : ClientCounts.Counts) → ClientCounts.Fits (key_of t) t.w.what.peer t.w.phase p (end_with t p) q
        → ClientCounts.Fits (key_of t) t.w.what.peer next p (end_after (job_end t.w p) (end_with t p) (made_entry t m)) (ClientCounts.counts_after (job_end t.w p) q (made_entry t m))

    at_peer : FitsAt peer
    at_peer q fits = rw (local.sends_here, local.takes_here) (λ l o. here q (fits live) l o)

    go : (p : ℕ) (q : ClientCounts.Counts) → ClientCounts.Fits (key_of t) t.w.what.peer t.w.phase p (end_with t p) q → (b : Bool) → (peer == p) ≡ b
        → ClientCounts.Fits (key_of t) t.w.what.peer next p (end_after (job_end t.w p) (end_with t p) (made_entry t m)) (ClientCounts.counts_after (job_end t.w p) q (made_entry t m))
    go p q fits true is = subst FitsAt (eqb-true peer p is) at_peer q fits
    go p q fits false apart = rw (local.sends_else p apart, local.takes_else p apart)
        (λ l o. ClientCounts.counted_away (key_of t) t.w.what.peer t.w.phase next peer p q stays goes apart (fits live o))

-- the work as it talks: what it claims, and what version it learns
abbrev pub talker : Turn → Option FrameView → Work
talker t taken = learns (claims t.w t.w.part t.w.phase) t.w.phase taken

pub talker_slot : (t : Turn) (taken : Option FrameView) → (talker t taken).slot ≡ t.w.slot
talker_slot t taken = ap (λ r. r.slot) (learns_kept (claims t.w t.w.part t.w.phase) t.w.phase taken ∙ claims_kept t.w t.w.part t.w.phase)

learns_phase : (x : Work) (phase : Phase) (taken : Option FrameView) → (learns x phase taken).phase ≡ x.phase
learns_phase x (Jobs.Greets peer) (Some f) = if_either (λ (y : Work). y.phase ≡ x.phase) (option_is x.what.peer peer) (record x { version = Jobs.version_said x.version (line_in f.body) }) x (λ e. refl) (λ e. refl)
learns_phase x phase taken = refl

claims_phase : (w : Work) (part : Part) (phase : Phase) → (claims w part phase).phase ≡ w.phase
claims_phase w Gets Jobs.Fresh = refl
claims_phase w part phase = refl

pub talker_phase : (t : Turn) (taken : Option FrameView) → (talker t taken).phase ≡ t.w.phase
talker_phase t taken = learns_phase (claims t.w t.w.part t.w.phase) t.w.phase taken ∙ claims_phase t.w t.w.part t.w.phase

pub closed_alone : (target : Option ℕ) (r : ℕ) (x : Work) (peer : ℕ) (part : Part) → partner target (closed_part r x peer part).phase ≡ None
closed_alone target r x peer Gets = refl
closed_alone target r x peer Puts = refl
closed_alone target r x peer Drops =
    if_either (λ (y : Work). partner target y.phase ≡ None) (Jobs.target_of r x == peer) (Jobs.to_phase x (Jobs.Ends (outcomes.Refused (refusals.Lost (Jobs.is_ordered x.phase))))) (Jobs.hears x peer (Jobs.Lacks causes.Closed)) (λ e. refl) (λ e. refl)

pub live_on : (target : Option ℕ) (phase : Phase) (peer : ℕ) → partner target phase ≡ Some peer → ClientCounts.IsLive phase
live_on target (Jobs.Ends o) peer on = let e : None ≡ Some peer = on in absurd (cc)
live_on target phase peer on = tt

-- ---- on an open connection

-- a step on the connection of the partner: while that stays open, it goes where its frames say
pub talk_even : (t : Turn) (m : Effect) (peer : ℕ) (next : Phase) → partner t.w.what.peer t.w.phase ≡ Some peer → ClientCounts.Local t.w peer m.taken m.sent
    → ((talks (rows_of t) (me t) (talker t m.taken) (made_entry t m) m.sent).phase ≡ next) → ClientCounts.Stays t.w.what.peer next peer
    → ((q : ClientCounts.Counts) → ((end_with t peer).opened ≡ true → ClientCounts.Counted (key_of t) t.w.what.peer t.w.phase peer q) → ClientCounts.IsLive next
    → (end_then (end_with t peer) m).opened ≡ true → ClientCounts.Counted (key_of t) t.w.what.peer next peer (counts_then t.look.time q m))
    → EvenTo t m (talks_on (rows_of t) (me t) (talker t m.taken) (made_entry t m) (partner t.w.what.peer t.w.phase)).phase
talk_even t m peer next on local goes stays here = subst (λ (p : Option ℕ). EvenTo t m (talks_on (rows_of t) (me t) x e p).phase) (sym on)
    (if_either (λ (y : Work). EvenTo t m y.phase) (end_after (job_end x peer) (t.ends (job_end x peer)) e).opened (talks (rows_of t) (me t) x e m.sent) (closed_part (me t) x peer x.part) opened closed)
  where
    x : Work
    x = talker t m.taken

    e : Entry
    e = made_entry t m

    live : ClientCounts.IsLive t.w.phase
    live = live_on t.w.what.peer t.w.phase peer on

    opened : (end_after (job_end x peer) (t.ends (job_end x peer)) e).opened ≡ true → EvenTo t m (talks (rows_of t) (me t) x e m.sent).phase
    opened o = subst (EvenTo t m) (sym goes) (local_even t m next peer local live (inr on) stays here)

    same : job_end x peer ≡ job_end t.w peer
    same = ap (λ (s : ℕ). let a : EndName = record { peer = peer; slot = s; client = true } in a) (talker_slot t m.taken)

    shut : (end_after (job_end x peer) (t.ends (job_end x peer)) e).opened ≡ false → (end_then (end_with t peer) m).opened ≡ false
    shut is = subst (λ (fs : List FrameView). (fold (λ c f. end_sends c f.body) (end_took (end_with t peer) m.taken) fs).opened ≡ false) local.sends_here
        (subst (λ (o : Option FrameView). (fold (λ c f. end_sends c f.body) (end_took (end_with t peer) o) (sent_at (job_end t.w peer) m.sent)).opened ≡ false) local.takes_here
        (subst (λ (a : EndName). (end_after a (t.ends a) e).opened ≡ false) same is))

    closed : (end_after (job_end x peer) (t.ends (job_end x peer)) e).opened ≡ false → EvenTo t m (closed_part (me t) x peer x.part).phase
    closed is = local_even t m (closed_part (me t) x peer x.part).phase peer local live (inr on) (inl (closed_alone t.w.what.peer (me t) x peer x.part))
        (λ q fits l o. absurd (true≢false (sym o ∙ shut is)))

-- a step of a job that stands on no connection
pub alone_even : (t : Turn) (m : Effect) (peer : ℕ) (next : Phase) → partner t.w.what.peer t.w.phase ≡ None → ClientCounts.IsLive t.w.phase → ClientCounts.Local t.w peer m.taken m.sent
    → ((talks (rows_of t) (me t) (talker t m.taken) (made_entry t m) m.sent).phase ≡ next) → ClientCounts.Stays t.w.what.peer next peer
    → ((q : ClientCounts.Counts) → ((end_with t peer).opened ≡ true → ClientCounts.Counted (key_of t) t.w.what.peer t.w.phase peer q) → ClientCounts.IsLive next
    → (end_then (end_with t peer) m).opened ≡ true → ClientCounts.Counted (key_of t) t.w.what.peer next peer (counts_then t.look.time q m))
    → EvenTo t m (talks_on (rows_of t) (me t) (talker t m.taken) (made_entry t m) (partner t.w.what.peer t.w.phase)).phase
alone_even t m peer next on live local goes stays here = subst (λ (p : Option ℕ). EvenTo t m (talks_on (rows_of t) (me t) (talker t m.taken) (made_entry t m) p).phase) (sym on)
    (subst (EvenTo t m) (sym goes) (local_even t m next peer local live (inl on) stays here))
