-- The table is what was let go of.
use Rattle.session_state.specs.Answers.{owner_at}
use Rattle.p2p_server.proofs.Numbers.{closed_numbers}
use Rattle.p2p_server.proofs.session.Session.end.Goals as goal

pub returns-clause-after : goal.returns-clause-after
returns-clause-after c = (c.spend.ensures c.args.self.state.place c.requires.owns).after

pub returns-clause-numbers : goal.returns-clause-numbers
returns-clause-numbers c = λ n less.
    closed_numbers (owner_at c.args.self.state.place) n c.args.table.now.holds c.spend.new.table.holds (c.spend.ensures c.args.self.state.place c.requires.owns).after.holds less

pub returns-clause-filled : goal.returns-clause-filled
returns-clause-filled c = (c.spend.ensures c.args.self.state.place c.requires.owns).filled

pub returns-clause-owns : goal.returns-clause-owns
returns-clause-owns c = (c.spend.ensures c.args.self.state.place c.requires.owns).owns

pub returns-clause-others : goal.returns-clause-others
returns-clause-others c = (c.spend.ensures c.args.self.state.place c.requires.owns).others

pub returns-clause-agrees : goal.returns-clause-agrees
returns-clause-agrees c = (c.spend.ensures c.args.self.state.place c.requires.owns).agrees
