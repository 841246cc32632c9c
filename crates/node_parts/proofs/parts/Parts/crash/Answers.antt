-- What the proof of `parts::Parts::crash` needs beside the tactics.
use Rattle.std.proofs.Common.{◌<◌, ℕ, [], None, length, refl, sym, ap, ◌∙◌, subst}
use Rattle.std.specs.Prelude.{All}
use Rattle.annex_base.specs.declared.kinds.EntryStamp.{EntryStamp}
use Rattle.run_data.specs.declared.entry.EntryKind.TheVariants.{Crash}
use Rattle.content_lock.specs.Stored.{Agrees}
use Rattle.node_ends.specs.Joined.{StayPaired}
use Rattle.node_parts.specs.declared.done.Done.{Done}
use Rattle.node_crash.specs.Closing.{SendsCloses, all_names}
use Rattle.node_parts.specs.Parts.{AreAllFed, AreParts, PartsView}
use Rattle.node_parts.specs.Posting.{PostsPieces, stamp_of}
use Rattle.node_parts.specs.Steps.{Leaves}
use Rattle.node_parts.proofs.Crashes.{fed_crashed, leaves_crashed, parts_crashed, pieces_crashed, sent_crashed, sound_crashed}
use Rattle.node_parts.proofs.parts.Parts.crash.Goals as goal

abbrev was : goal.After-restart → PartsView
was c = let i = c.self.inside in record { table = i.table; links = i.ends; sessions = i.sessions; jobs = i.jobs }

abbrev now : goal.After-restart → PartsView
now c = record { table = c.restart.new.table; links = c.close_all_ends-sent.new.ends; sessions = c.restart.new.sessions; jobs = c.restart.new.jobs }

abbrev made : goal.After-restart → Done
made c = record { kind = Crash c.args.clock; taken = None; sent = c.close_all_ends-sent.result; owes = None }

abbrev sender : goal.After-restart → EntryStamp
sender c = stamp_of c.args.moment (was c).jobs.place.number

sends : (c : goal.After-restart) → SendsCloses (all_names (was c).jobs.place.number (length (was c).jobs.place.ids)) (sender c) (was c).links (now c).links [] (made c).sent
sends c =
    subst (λ (n : ℕ). SendsCloses (all_names n (length (was c).jobs.place.ids)) (stamp_of c.args.moment n) (was c).links (now c).links [] (made c).sent) c.number-own.ensures
    (subst (λ (x : EntryStamp). SendsCloses (all_names c.number-own.result (length (was c).jobs.place.ids)) x (was c).links (now c).links [] (made c).sent) c.stamp_at-stamp.ensures
    (subst (λ (n : ℕ). SendsCloses (all_names c.number-own.result n) c.stamp_at-stamp.result (was c).links (now c).links [] (made c).sent) c.repositories-count.ensures c.close_all_ends-sent.ensures))

pub invariant_of-self : goal.invariant_of-self
invariant_of-self c = sound_crashed (was c) (now c).links (now c).sessions (now c).table (now c).jobs c.args.clock (sender c) (made c).sent c.restart.ensures.jobs c.self.invariant (sends c) c.restart.ensures.restarts

pub returns-clause-sent : goal.returns-clause-sent
returns-clause-sent c = λ s st are. sent_crashed (was c) (now c) c.args.clock (made c) (sender c) c.restart.ensures.jobs refl refl (sends c) c.restart.ensures.restarts c.ends_go_on.ensures.begin s st (subst (AreParts s st) (sym c.self.view_is) are)

pub returns-clause-parts : goal.returns-clause-parts
returns-clause-parts c = λ s st e are kind taken sent.
    parts_crashed (was c) (now c) c.args.clock (made c) (sender c) c.restart.ensures.jobs refl refl (sends c) c.restart.ensures.restarts c.ends_go_on.ensures.begin s st (subst (AreParts s st) (sym c.self.view_is) are) e kind taken sent c.ends_go_on.ensures.ends

pub returns-clause-leaves : goal.returns-clause-leaves
returns-clause-leaves c =
    subst (λ (p : PartsView). Leaves c.args.moment.number p (now c) (made c)) c.self.view_is
    (leaves_crashed (was c) (now c) c.args.clock (made c) (sender c) c.restart.ensures.jobs refl refl (sends c) c.restart.ensures.restarts c.ends_go_on.ensures.begin c.args.moment.number
    (subst (λ (p : PartsView). All (λ h. h.number < c.args.moment.number) p.table.holds) (sym c.self.view_is) c.requires.fresh))

pub returns-clause-posts : goal.returns-clause-posts
returns-clause-posts c = λ known.
    subst (λ (p : PartsView). PostsPieces (stamp_of c.args.moment p.jobs.place.number) (made c).kind p known (now c).links None (made c).sent) c.self.view_is
    (pieces_crashed (was c) (now c) c.args.clock (made c) (sender c) c.restart.ensures.jobs refl refl (sends c) c.restart.ensures.restarts c.ends_go_on.ensures.begin known)

pub returns-clause-fed : goal.returns-clause-fed
returns-clause-fed c = λ q fed.
    fed_crashed (was c) (now c) c.args.clock (made c) (sender c) c.restart.ensures.jobs refl refl (sends c) c.restart.ensures.restarts c.ends_go_on.ensures.begin q (subst (AreAllFed q) (sym c.self.view_is) fed)

pub returns-clause-agrees : goal.returns-clause-agrees
returns-clause-agrees c = λ known agrees. c.restart.ensures.restarts.agrees known (subst (λ (p : PartsView). Agrees known p.table.holds) (sym c.self.view_is) agrees)

pub returns-clause-jobs : goal.returns-clause-jobs
returns-clause-jobs c = c.restart.ensures.jobs ∙ ap (λ (p : PartsView). record p.jobs { running = [] }) c.self.view_is

pub returns-clause-paired : goal.returns-clause-paired
returns-clause-paired c = subst (λ (p : PartsView). StayPaired p.links (now c).links) c.self.view_is (sends c).paired
