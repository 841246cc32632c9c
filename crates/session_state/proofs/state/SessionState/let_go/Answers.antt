-- What stood in the phase is spent.
use Rattle.session_state.proofs.Leaving.{same_goes}
use Rattle.session_state.proofs.state.SessionState.let_go.Goals as goal

pub returns-clause-table : goal.returns-clause-table
returns-clause-table c =
    same_goes c.args.self.now.place c.args.self.now.doing _ c.args.table.now c.spend.new.table c.replace-doing.ensures.value (λ own. c.spend.ensures c.args.self.now.place own) c.requires.owns
