-- The session is as new, and the table is what was let go of.
use Rattle.std.proofs.Common.{sym, subst}
use Rattle.session_state.specs.declared.state.SessionState.{SessionState}
use Rattle.content_lock.specs.Tokens.{Owns}
use Rattle.session_state.specs.Answers.{owner_at}
use Rattle.session_state.specs.Talking.{share_in}
use Rattle.p2p_server.proofs.Numbers.{closed_numbers}
use Rattle.p2p_server.proofs.session.Session.closed.Goals as goal

pub returns-clause-after : goal.returns-clause-after
returns-clause-after c = c.reset.ensures.table.after

pub returns-clause-numbers : goal.returns-clause-numbers
returns-clause-numbers c = λ n less. closed_numbers _ n c.args.table.now.holds c.reset.new.table.holds c.reset.ensures.table.after.holds less

pub returns-clause-filled : goal.returns-clause-filled
returns-clause-filled c = c.reset.ensures.table.filled

pub returns-clause-owns : goal.returns-clause-owns
returns-clause-owns c = subst (λ (s : SessionState). Owns (owner_at s.place) (share_in s.doing) c.reset.new.table.holds) (sym c.reset.ensures.session) c.reset.ensures.table.owns

pub returns-clause-others : goal.returns-clause-others
returns-clause-others c = c.reset.ensures.table.others

pub returns-clause-agrees : goal.returns-clause-agrees
returns-clause-agrees c = c.reset.ensures.table.agrees
